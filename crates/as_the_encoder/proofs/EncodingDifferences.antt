-- What the crate frames and 01 refuses, by computing.
use mathlib.Core.Path.{refl}
use mathlib.Core.List.{flat_map}
use Rattle.sections.specs.Kinds.{least_payload_of, kind_of, kinds}
use Rattle.order.specs.Order.{judged}
use Rattle.writer.specs.Plan.{parts_of, misfit_from, first_at, is_outside, is_wrong_size, judged_plan}
use Rattle.as_the_encoder.specs.Encoder.{
  write_to_buffer,
  SectionHeader-write_to_buffer,
  Section0-write_to_buffer,
  write_section0,
  write_section8,
  write_section_header,
  section_len,
  write_section,
  data_sections_len,
  write_data_sections,
  IterL3-num_octets,
  IterL3-write,
  IterL2-num_octets,
  IterL2-write,
  IterL1-num_octets,
  IterL1-write,
  Grib2Message-num_octets,
  Grib2Message-write,
}
use Rattle.as_the_encoder.specs.Writes.{flattened_l3, flattened_l2, flattened_l1, flattened, FramesWhat01Refuses}

pub frames_what_01_refuses : FramesWhat01Refuses
unfolding flattened flattened_l1 flattened_l2 flattened_l3 flat_map parts_of judged_plan misfit_from first_at is_outside is_wrong_size judged
    least_payload_of kind_of kinds Grib2Message-write Grib2Message-num_octets IterL1-write IterL1-num_octets IterL2-write IterL2-num_octets
    IterL3-write IterL3-num_octets write_data_sections data_sections_len write_section section_len write_section_header write_section8
    write_section0 Section0-write_to_buffer SectionHeader-write_to_buffer write_to_buffer
frames_what_01_refuses =
    record {
      no_grid = record { planned = refl; refused = refl; framed = refl };
      no_grid_after_2 = record { planned = refl; refused = refl; framed = refl };
      no_product = record { planned = refl; refused = refl; framed = refl };
      under_least = record { planned = refl; refused = refl; framed = refl };
    }
