-- Each public function gives its definition (specs/Public.antt): its contract says so, and it meets
-- its contract.
use denote.Struct.Laws.{unit-plain, u8-plain, u64-plain, usize-plain}
use denote.Struct.Tuple.{Tuple, tuple_plain}
use Rattle.std.specs.Borrow.{unit, u8, u64, usize}
use Rattle.std.specs.contracts.option.Option as options
use Rattle.std.proofs.option.Option.TheLaws as OptionLaws
use Rattle.std.specs.contracts.result.Result as results
use Rattle.std.proofs.result.Result.TheLaws as ResultLaws
use Rattle.index.specs.contracts.refusal.Refused as Refused
use Rattle.index.proofs.refusal.Refused.TheLaws as RefusedLaws
use Rattle.publish.specs.contracts.CopyRefusal as CopyRefusal
use Rattle.publish.proofs.CopyRefusal.TheLaws as CopyRefusalLaws
use Rattle.writer.specs.contracts.WriteRefusal as WriteRefusal
use Rattle.writer.proofs.WriteRefusal.TheLaws as WriteRefusalLaws
use Rattle.inventory.specs.contracts.InventoryRefusal as InventoryRefusal
use Rattle.inventory.proofs.InventoryRefusal.TheLaws as InventoryRefusalLaws
use Rattle.lists.specs.contracts.ListRefusal as ListRefusal
use Rattle.lists.proofs.ListRefusal.TheLaws as ListRefusalLaws
use Rattle.std.specs.Prelude.{Option, Result}
use Prim.Native.Nat.{ℕ}
use mathlib.Core.List.{List, [], ◌∷◌}
use mathlib.Core.Path.{◌≡◌, refl, ap}
use base.Fraction.{full_share}
use base.Logic.{id⊢}
use mir.Syntax.{Width, w8, w16, w32, w64}
use contract.Monad.{fact_mono}
use denote.Copied.{uint_Copied}
use denote.Plain.{UInt, uint_Lawful}
use denote.Ref.{Bor}
use denote.Struct.Laws.{lawful}
use Rattle.octets.proofs as octets
use Rattle.sections.proofs as sections
use Rattle.sections.proofs.indicator.Indicator as Indicator
use Rattle.sections.proofs.identification.Identification as Identification
use Rattle.sections.proofs.grid_definition.GridDefinition as GridDefinition
use Rattle.sections.proofs.prod_definition.ProdDefinition as ProdDefinition
use Rattle.sections.proofs.repr_definition.ReprDefinition as ReprDefinition
use Rattle.sections.proofs.bit_map.BitMap as BitMap
use Rattle.products.proofs as products
use Rattle.framing.proofs as framing
use Rattle.order.proofs as order
use Rattle.index.proofs as index
use Rattle.reading.proofs as reading
use Rattle.standing.proofs as standing
use Rattle.walk.proofs as walk
use Rattle.walk_numbers.proofs as walk_numbers
use Rattle.pull.proofs as pull
use Rattle.publish.proofs as publish
use Rattle.writer.proofs as writer
use Rattle.entries.proofs as entries
use Rattle.inventory.proofs as inventory
use Rattle.lists.proofs as lists
use Rattle.requests.proofs as requests
use Rattle.buttresk.proofs as buttresk
use Rattle.buttresk.proofs.storing.StoreAnswerFromStoreEnd as StoreAnswer
use Rattle.buttresk.proofs.listing.ReadAnswerFromListAnswer as ReadAnswer
use Rattle.buttresk.proofs.product.OctetFieldFromOptionU8 as OctetField
use Rattle.buttresk.proofs.product.TimeFieldFromOptionForecastTime as TimeField
use Rattle.buttresk.proofs.product.SurfaceFromFixedSurface as Surface
use Rattle.buttresk.proofs.product.SurfacesFieldFromOptionTuple2FixedSurfaceFixedSurface
    as SurfacesField
use Rattle.buttresk.proofs.product.WhenWhereFieldsFromWhenWhere as WhenWhereFields
use Rattle.products.specs.contracts.templates.TemplateReading as TemplateReading
use Rattle.products.proofs.templates.TemplateReading.TheLaws as TemplateReadingLaws
use Rattle.products.specs.contracts.ForecastTime as ForecastTime
use Rattle.products.proofs.ForecastTime.TheLaws as ForecastTimeLaws
use Rattle.products.specs.contracts.FixedSurface as FixedSurface
use Rattle.products.proofs.FixedSurface.TheLaws as FixedSurfaceLaws
use Rattle.products.specs.contracts.WhenWhere as WhenWhere
use Rattle.products.proofs.WhenWhere.TheLaws as WhenWhereLaws
use Rattle.framing.specs.contracts.read.Cursor as Cursor
use Rattle.framing.proofs.read.Cursor.TheLaws as CursorLaws
use Rattle.framing.specs.contracts.read.Section as Section
use Rattle.framing.proofs.read.Section.TheLaws as SectionLaws
use Rattle.order.specs.contracts.Order as Order
use Rattle.order.proofs.Order.TheLaws as OrderLaws
use Rattle.order.specs.contracts.Place as Place
use Rattle.order.proofs.Place.TheLaws as PlaceLaws
use Rattle.index.specs.contracts.line.Force as Force
use Rattle.index.proofs.line.Force.TheLaws as ForceLaws
use Rattle.index.specs.contracts.line.Span as Span
use Rattle.index.proofs.line.Span.TheLaws as SpanLaws
use Rattle.index.specs.contracts.line.Line as Line
use Rattle.index.proofs.line.Line.TheLaws as LineLaws
use Rattle.index.specs.contracts.numbers.StoreEnd as StoreEnd
use Rattle.index.proofs.numbers.StoreEnd.TheLaws as StoreEndLaws
use Rattle.reading.specs.contracts.Reading as Reading
use Rattle.reading.proofs.Reading.TheLaws as ReadingLaws
use Rattle.standing.specs.contracts.Standing as Standing
use Rattle.standing.proofs.Standing.TheLaws as StandingLaws
use Rattle.pull.specs.contracts.Progress as Progress
use Rattle.pull.proofs.Progress.TheLaws as ProgressLaws
use Rattle.lists.specs.contracts.ListAnswer as ListAnswer
use Rattle.lists.proofs.ListAnswer.TheLaws as ListAnswerLaws
use Rattle.entries.specs.contracts.Entry as Entry
use Rattle.entries.proofs.Entry.TheLaws as EntryLaws
use Rattle.framing.proofs.NextStart.{next_start_is}
use Rattle.pull.specs.declared.Progress.{Progress}
use Rattle.promises.specs.Public.{PublicFunctions, EachGivesItsDefinition}
use Rattle.promises.proofs.Called.{
  Plain,
  plain_array,
  Element,
  Readable,
  by_value,
  to_read,
  to_write,
  by,
}
use Rattle.promises.proofs.NextCalled.{next_can_be_called}
use Rattle.promises.proofs.Told.{both, three, promised}
use Rattle.index.specs.declared.listed.Listed.{Listed}
use Rattle.index.specs.declared.refusal.Refused.{Refused}

-- what is passed by value, and what stands in lent slices
plain_number : (w : Width) → Plain (UInt w)
plain_number w = record { pure = λ n vs. (tt, tt) }

number : (w : Width) → Element (UInt w)
number w = record { plain = plain_number w; single = tt; lawful = λ 𝓛. uint_Lawful 𝓛 w }

read : (w : Width) → Readable (UInt w)
read w = record {
  element = number w;
  lends = λ 𝓛 n b o. (uint_Copied 𝓛 w).lends full_share n b o;
}

plain-Cursor : Plain Cursor.the_row
plain-Cursor = record { pure = λ d. CursorLaws.the_field_plain (Cursor.the_type.to d) }

plain-Order : Plain Order.the_row
plain-Order = record { pure = λ d. OrderLaws.the_field_plain (Order.the_type.to d) }

plain-Place : Plain Place.the_row
plain-Place = record { pure = λ d. PlaceLaws.the_field_plain (Place.the_type.to d) }

plain-place_or_none : Plain (options.the_row Place.the_row)
plain-place_or_none = record {
  pure = λ d. OptionLaws.the_field_plain Place.the_row PlaceLaws.the_row_plain ((options.the_type Place.the_row).to d);
}

plain-Span : Plain Span.the_row
plain-Span = record { pure = λ d. SpanLaws.the_field_plain (Span.the_type.to d) }

plain-Force : Plain Force.the_row
plain-Force = record { pure = λ d. ForceLaws.the_field_plain (Force.the_type.to d) }

plain-Line : Plain Line.the_row
plain-Line = record { pure = λ d. LineLaws.the_field_plain (Line.the_type.to d) }

plain-Outcome : Plain (results.the_row unit Refused.the_row)
plain-Outcome = record {
  pure = λ d. ResultLaws.the_field_plain unit Refused.the_row unit-plain RefusedLaws.the_row_plain ((results.the_type unit Refused.the_row).to d);
}

plain-Reading : Plain Reading.the_row
plain-Reading = record { pure = λ d. ReadingLaws.the_field_plain (Reading.the_type.to d) }

plain-Section : Plain Section.the_row
plain-Section = record { pure = λ d. SectionLaws.the_field_plain (Section.the_type.to d) }

plain-Standing : Plain Standing.the_row
plain-Standing = record { pure = λ d. StandingLaws.the_field_plain (Standing.the_type.to d) }

plain-TemplateReading : Plain TemplateReading.the_row
plain-TemplateReading =
    record { pure = λ d. TemplateReadingLaws.the_field_plain (TemplateReading.the_type.to d) }

plain-Progress : Plain Progress.the_row
plain-Progress = record { pure = λ d. ProgressLaws.the_field_plain (Progress.the_type.to d) }

plain-copied : Plain (results.the_row usize CopyRefusal.the_row)
plain-copied = record {
  pure = λ d. ResultLaws.the_field_plain usize CopyRefusal.the_row usize-plain CopyRefusalLaws.the_row_plain ((results.the_type usize CopyRefusal.the_row).to d);
}

plain-written : Plain (results.the_row u64 WriteRefusal.the_row)
plain-written = record {
  pure = λ d. ResultLaws.the_field_plain u64 WriteRefusal.the_row u64-plain WriteRefusalLaws.the_row_plain ((results.the_type u64 WriteRefusal.the_row).to d);
}

plain-Entry : Plain Entry.the_row
plain-Entry = record { pure = λ d. EntryLaws.the_field_plain (Entry.the_type.to d) }

plain-inventoried : Plain (results.the_row usize InventoryRefusal.the_row)
plain-inventoried = record {
  pure = λ d. ResultLaws.the_field_plain usize InventoryRefusal.the_row usize-plain InventoryRefusalLaws.the_row_plain ((results.the_type usize InventoryRefusal.the_row).to d);
}

plain-list_end : Plain (results.the_row unit ListRefusal.the_row)
plain-list_end = record {
  pure = λ d. ResultLaws.the_field_plain unit ListRefusal.the_row unit-plain ListRefusalLaws.the_row_plain ((results.the_type unit ListRefusal.the_row).to d);
}

plain-StoreEnd : Plain StoreEnd.the_row
plain-StoreEnd = record { pure = λ d. StoreEndLaws.the_field_plain (StoreEnd.the_type.to d) }

plain-ListAnswer : Plain ListAnswer.the_row
plain-ListAnswer = record { pure = λ d. ListAnswerLaws.the_field_plain (ListAnswer.the_type.to d) }

plain-octet_or_none : Plain (options.the_row u8)
plain-octet_or_none =
    record { pure = λ d. OptionLaws.the_field_plain u8 u8-plain ((options.the_type u8).to d) }

plain-time_or_none : Plain (options.the_row ForecastTime.the_row)
plain-time_or_none = record {
  pure = λ d. OptionLaws.the_field_plain ForecastTime.the_row ForecastTimeLaws.the_row_plain ((options.the_type ForecastTime.the_row).to d);
}

plain-FixedSurface : Plain FixedSurface.the_row
plain-FixedSurface =
    record { pure = λ d. FixedSurfaceLaws.the_field_plain (FixedSurface.the_type.to d) }

plain-surfaces_or_none :
    Plain (options.the_row (Tuple (FixedSurface.the_row ∷ FixedSurface.the_row ∷ [])))
plain-surfaces_or_none =
    let both = FixedSurface.the_row ∷ FixedSurface.the_row ∷ [] in
    let plain = FixedSurfaceLaws.the_row_plain in
    record {
      pure = λ d. OptionLaws.the_field_plain (Tuple both) (tuple_plain both (plain, (plain, tt))) ((options.the_type (Tuple both)).to d);
    }

plain-WhenWhere : Plain WhenWhere.the_row
plain-WhenWhere = record { pure = λ d. WhenWhereLaws.the_field_plain (WhenWhere.the_type.to d) }

line : Element Line.the_row
line = record {
  plain = plain-Line;
  single = tt;
  lawful = λ 𝓛. lawful Line.the_type LineLaws.the_laws 𝓛;
}

-- a reader at its file's start, and a reader after a turn
one_reader : {file held : Bor (List ℕ)} {progress first : Progress} → held ≡ file
    → progress ≡ first
    → ◌≡◌ {A = List ℕ × Progress} (held.now, progress) (file.now, first)
one_reader h p = rw (h, p)

one_turn : {answer one : Option (Result Listed Refused)} {file held : Bor (List ℕ)} {progress next : Progress}
    → answer ≡ one → held ≡ file → progress ≡ next
    → ◌≡◌ {A = (Option (Result Listed Refused)) × List ℕ × Progress} (answer, held.now, progress) (one, file.now, next)
one_turn a h p = rw (a, h, p)

module _ {M : Type 1} where
  public_functions : PublicFunctions M
  public_functions = record {
    octets_be16 = by 0 (by_value (plain_array _ 2 (plain_number w8)) ∷ []) (λ n. refl)
        (λ 𝓤 𝓛 content run κs a. tt) octets.be16.Met.met (λ n r e. id⊢ n.memory _);
    octets_be32 = by 0 (by_value (plain_array _ 4 (plain_number w8)) ∷ []) (λ n. refl)
        (λ 𝓤 𝓛 content run κs a. tt) octets.be32.Met.met (λ n r e. id⊢ n.memory _);
    octets_be64 = by 0 (by_value (plain_array _ 8 (plain_number w8)) ∷ []) (λ n. refl)
        (λ 𝓤 𝓛 content run κs a. tt) octets.be64.Met.met (λ n r e. id⊢ n.memory _);
    octets_sign_and_size = by 1 (to_read 0 tt (read w8) ∷ []) (λ n. refl)
        (λ 𝓤 𝓛 content run κs a. tt) octets.sign_and_size.Met.met (λ n r e. id⊢ n.memory _);
    sections_least_payload_of = by 0 (by_value (plain_number w64) ∷ []) (λ n. refl)
        (λ 𝓤 𝓛 content run κs a. tt) sections.least_payload_of.Met.met
        (λ n r e. id⊢ n.memory _);
    sections_values_of = by 0 (by_value (plain_number w64) ∷ []) (λ n. refl)
        (λ 𝓤 𝓛 content run κs a. tt) sections.values_of.Met.met (λ n r e. id⊢ n.memory _);
    Indicator-from_section = by 1 (to_read 0 tt (read w8) ∷ []) (λ n. refl)
        (λ 𝓤 𝓛 content run κs a. tt) Indicator.from_section.Met.met (λ n r e. id⊢ n.memory _);
    Identification-from_payload = by 1 (to_read 0 tt (read w8) ∷ []) (λ n. refl)
        (λ 𝓤 𝓛 content run κs a. tt) Identification.from_payload.Met.met
        (λ n r e. id⊢ n.memory _);
    GridDefinition-from_payload = by 1 (to_read 0 tt (read w8) ∷ []) (λ n. refl)
        (λ 𝓤 𝓛 content run κs a. tt) GridDefinition.from_payload.Met.met
        (λ n r e. id⊢ n.memory _);
    ProdDefinition-from_payload = by 1 (to_read 0 tt (read w8) ∷ []) (λ n. refl)
        (λ 𝓤 𝓛 content run κs a. tt) ProdDefinition.from_payload.Met.met
        (λ n r e. id⊢ n.memory _);
    ReprDefinition-from_payload = by 1 (to_read 0 tt (read w8) ∷ []) (λ n. refl)
        (λ 𝓤 𝓛 content run κs a. tt) ReprDefinition.from_payload.Met.met
        (λ n r e. id⊢ n.memory _);
    BitMap-from_payload = by 1 (to_read 0 tt (read w8) ∷ []) (λ n. refl)
        (λ 𝓤 𝓛 content run κs a. tt) BitMap.from_payload.Met.met (λ n r e. id⊢ n.memory _);
    products_offsets_at =
        by 0 (by_value plain-TemplateReading ∷ by_value (plain_number w16) ∷ []) (λ n. refl)
        (λ 𝓤 𝓛 content run κs a. tt) products.offsets_at.Met.met (λ n r e. id⊢ n.memory _);
    products_offsets_by =
        by 1
        (to_read 0 tt (read w32) ∷ by_value plain-TemplateReading ∷ by_value (plain_number w16)
        ∷ [])
        (λ n. refl) (λ 𝓤 𝓛 content run κs a. tt) products.offsets_by.Met.met
        (λ n r e. id⊢ n.memory _);
    products_when_and_where =
        by 1 (by_value plain-TemplateReading ∷ to_read 0 tt (read w8) ∷ []) (λ n. refl)
        (λ 𝓤 𝓛 content run κs a. tt) products.when_and_where.Met.met
        (λ n r e. id⊢ n.memory _);
    products_product_by =
        by 2
        (to_read 0 tt (read w32) ∷ by_value plain-TemplateReading ∷ to_read 1 tt (read w8) ∷ [])
        (λ n. refl) (λ 𝓤 𝓛 content run κs a. tt) products.product_by.Met.met
        (λ n r e. id⊢ n.memory _);
    products_product_of =
        by 1 (by_value plain-TemplateReading ∷ to_read 0 tt (read w8) ∷ []) (λ n. refl)
        (λ 𝓤 𝓛 content run κs a. tt) products.product_of.Met.met (λ n r e. id⊢ n.memory _);
    framing_framed_at = by 1 (to_read 0 tt (read w8) ∷ by_value plain-Cursor ∷ []) (λ n. refl)
        (λ 𝓤 𝓛 content run κs a. tt) framing.framed_at.Met.met (λ n r e. id⊢ n.memory _);
    framing_next_start = by 1 (to_read 0 tt (read w8) ∷ by_value (plain_number w64) ∷ [])
        (λ n. refl) (λ 𝓤 𝓛 content run κs a. tt) framing.next_start.Met.met
        (λ n r e. fact_mono n.memory _ _
        (next_start_is n.arguments.0.now n.arguments.1.0 r));
    order_judge = by 0 (by_value plain-Order ∷ by_value (plain_number w64) ∷ []) (λ n. refl)
        (λ 𝓤 𝓛 content run κs a. tt) order.judge.Met.met (λ n r e. id⊢ n.memory _);
    order_judge_read = by 0 (by_value plain-Order ∷ by_value (plain_number w64) ∷ []) (λ n. refl)
        (λ 𝓤 𝓛 content run κs a. tt) order.judge_read.Met.met (λ n r e. id⊢ n.memory _);
    order_completing = by 0 (by_value plain-Order ∷ by_value (plain_number w64) ∷ []) (λ n. refl)
        (λ 𝓤 𝓛 content run κs a. tt) order.completing.Met.met (λ n r e. id⊢ n.memory _);
    order_between_messages = by 0 (by_value plain-Order ∷ []) (λ n. refl)
        (λ 𝓤 𝓛 content run κs a. tt) order.between_messages.Met.met (λ n r e. id⊢ n.memory _);
    order_judge_all = by 1 (to_read 0 tt (read w64) ∷ []) (λ n. refl)
        (λ 𝓤 𝓛 content run κs a. tt) order.judge_all.Met.met (λ n r e. id⊢ n.memory _);
    index_opened = by 0 (by_value (plain_number w64) ∷ []) (λ n. refl)
        (λ 𝓤 𝓛 content run κs a. tt) index.opened.Met.met (λ n r e. id⊢ n.memory _);
    index_in_force = by 0
        (by_value plain-Force ∷ by_value (plain_number w64) ∷ by_value plain-Place ∷ []) (λ n. refl)
        (λ 𝓤 𝓛 content run κs a. tt) index.in_force.Met.met (λ n r e. id⊢ n.memory _);
    index_with_span = by 0 (by_value plain-Force ∷ by_value plain-Span ∷ []) (λ n. refl)
        (λ 𝓤 𝓛 content run κs a. tt) index.with_span.Met.met (λ n r e. id⊢ n.memory _);
    index_with_submessage = by 0 (by_value plain-Force ∷ by_value (plain_number w64) ∷ [])
        (λ n. refl) (λ 𝓤 𝓛 content run κs a. tt) index.with_submessage.Met.met
        (λ n r e. id⊢ n.memory _);
    index_line_of = by 0 (by_value plain-Force ∷ by_value plain-place_or_none ∷ []) (λ n. refl)
        (λ 𝓤 𝓛 content run κs a. tt) index.line_of.Met.met (λ n r e. id⊢ n.memory _);
    index_unlisted = by 0 [] (λ n. refl) (λ 𝓤 𝓛 content run κs a. tt) index.unlisted.Met.met
        (λ n r e. id⊢ n.memory _);
    index_end_of = by 0 (by_value plain-Outcome ∷ []) (λ n. refl) (λ 𝓤 𝓛 content run κs a. tt)
        index.end_of.Met.met (λ n r e. id⊢ n.memory _);
    index_stored = by 0 (by_value (plain_number w64) ∷ []) (λ n. refl)
        (λ 𝓤 𝓛 content run κs a. tt) index.stored.Met.met (λ n r e. id⊢ n.memory _);
    index_unplaced = by 0 (by_value (plain_number w64) ∷ by_value (plain_number w64) ∷ [])
        (λ n. refl) (λ 𝓤 𝓛 content run κs a. tt) index.unplaced.Met.met
        (λ n r e. id⊢ n.memory _);
    reading_start = by 0 [] (λ n. refl) (λ 𝓤 𝓛 content run κs a. tt) reading.start.Met.met
        (λ n r e. id⊢ n.memory _);
    reading_look = by 1 (to_read 0 tt (read w8) ∷ by_value plain-Reading ∷ []) (λ n. refl)
        (λ 𝓤 𝓛 content run κs a. tt) reading.look.Met.met (λ n r e. id⊢ n.memory _);
    reading_glance = by 1 (to_read 0 tt (read w8) ∷ by_value plain-Reading ∷ []) (λ n. refl)
        (λ 𝓤 𝓛 content run κs a. tt) reading.glance.Met.met (λ n r e. id⊢ n.memory _);
    standing_one_more = by 0 (by_value (plain_number w64) ∷ []) (λ n. refl)
        (λ 𝓤 𝓛 content run κs a. tt) standing.one_more.Met.met (λ n r e. id⊢ n.memory _);
    standing_span_after = by 0
        (by_value plain-Span ∷ by_value plain-Section ∷ by_value plain-Cursor ∷ []) (λ n. refl)
        (λ 𝓤 𝓛 content run κs a. tt) standing.span_after.Met.met (λ n r e. id⊢ n.memory _);
    standing_passed_row = by 0
        (by_value plain-Standing ∷ by_value plain-Section ∷ by_value plain-Reading ∷ []) (λ n. refl)
        (λ 𝓤 𝓛 content run κs a. tt) standing.passed_row.Met.met (λ n r e. id⊢ n.memory _);
    standing_put_row = by 1
        (to_write 0 tt (number w64) ∷ by_value (plain_number w64) ∷ by_value plain-Section ∷ [])
        (λ n. refl) (λ 𝓤 𝓛 content run κs a. tt) standing.put_row.Met.met
        (λ n r e. fact_mono n.memory _ _ (λ same. ap (λ (rows : List ℕ). (r, rows)) same));
    standing_put_numbers = by 2
        (to_write 0 tt (number w64) ∷ by_value (plain_number w64) ∷ to_read 1 tt (read w64) ∷ [])
        (λ n. refl) (λ 𝓤 𝓛 content run κs a. tt) standing.put_numbers.Met.met
        (λ n r e. fact_mono n.memory _ _ (λ same. ap (λ (table : List ℕ). (r, table)) same));
    walk_walk = by 3
        (to_read 0 tt (read w8) ∷ to_write 1 tt (number w64) ∷ to_write 2 tt line ∷ [])
        (λ n. refl) (λ 𝓤 𝓛 content run κs a. tt) walk.walk.Met.met
        (λ n r e. three n.memory (λ answer rows lines. ((answer, rows), lines)));
    walk_numbers_walk_numbers = by 3
        (to_read 0 tt (read w8) ∷ to_write 1 tt (number w64) ∷ to_write 2 tt (number w64) ∷ [])
        (λ n. refl) (λ 𝓤 𝓛 content run κs a. tt) walk_numbers.walk_numbers.Met.met
        (λ n r e. three n.memory (λ answer rows lines. ((answer, rows), lines)));
    pull_first = by 1 (to_read 0 tt (read w8) ∷ []) (λ n. refl) (λ 𝓤 𝓛 content run κs a. tt)
        pull.first.Met.met (λ n r e. id⊢ n.memory _);
    pull_pull_at = by 1 (to_read 0 tt (read w8) ∷ by_value plain-Progress ∷ []) (λ n. refl)
        (λ 𝓤 𝓛 content run κs a. tt) pull.pull_at.Met.met (λ n r e. id⊢ n.memory _);
    pull_new = by 1 (to_read 0 tt (read w8) ∷ []) (λ n. refl) (λ 𝓤 𝓛 content run κs a. tt)
        pull.new.Met.met (λ n r e. fact_mono n.memory _ _ (λ h. one_reader h.0 h.1));
    pull_new_holds = λ n r e. fact_mono n.memory _ _ (λ h. h.0);
    pull-Reader_next =
        promised (λ n. refl) (next_can_be_called (read w8, (plain-Progress, tt)))
        pull.Reader.next.Met.met
        (λ n r e. fact_mono n.memory _ _ (λ h. one_turn h.0 h.1.0 h.1.1));
    pull-Reader_next_keeps = λ n r e. fact_mono n.memory _ _ (λ h. h.1.0);
    publish_publish = by 2 (to_read 0 tt (read w8) ∷ to_write 1 tt (number w8) ∷ []) (λ n. refl)
        (λ 𝓤 𝓛 content run κs a. tt) publish.publish.Met.met
        (λ n r e. both n.memory (λ answer dest. (answer, dest)));
    publish_copy_end = by 0 (by_value plain-copied ∷ []) (λ n. refl)
        (λ 𝓤 𝓛 content run κs a. tt) publish.copy_end.Met.met (λ n r e. id⊢ n.memory _);
    writer_write = by 3
        (by_value (plain_number w8) ∷ by_value (plain_number w8) ∷ by_value (plain_number w8)
        ∷ to_read 0 tt (read w64) ∷ to_read 1 tt (read w8) ∷ to_write 2 tt (number w8) ∷ [])
        (λ n. refl) (λ 𝓤 𝓛 content run κs a. tt) writer.write.Met.met
        (λ n r e. both n.memory (λ answer dest. (answer, dest)));
    writer_write_end = by 0 (by_value plain-written ∷ []) (λ n. refl) (λ 𝓤 𝓛 content run κs a. tt)
        writer.write_end.Met.met (λ n r e. id⊢ n.memory _);
    entries_spell = by 0 (by_value plain-Entry ∷ []) (λ n. refl) (λ 𝓤 𝓛 content run κs a. tt)
        entries.spell.Met.met (λ n r e. id⊢ n.memory _);
    inventory_inventory = by 2 (to_read 0 tt (read w8) ∷ to_write 1 tt (number w8) ∷ [])
        (λ n. refl) (λ 𝓤 𝓛 content run κs a. tt) inventory.inventory.Met.met
        (λ n r e. both n.memory (λ answer dest. (answer, dest)));
    inventory_inventory_end = by 0 (by_value plain-inventoried ∷ []) (λ n. refl)
        (λ 𝓤 𝓛 content run κs a. tt) inventory.inventory_end.Met.met (λ n r e. id⊢ n.memory _);
    lists_read_list = by 2 (to_read 0 tt (read w8) ∷ to_write 1 tt (number w64) ∷ []) (λ n. refl)
        (λ 𝓤 𝓛 content run κs a. tt) lists.read_list.Met.met
        (λ n r e. both n.memory (λ answer dest. (answer, dest)));
    lists_list_end = by 0 (by_value plain-list_end ∷ []) (λ n. refl) (λ 𝓤 𝓛 content run κs a. tt)
        lists.list_end.Met.met (λ n r e. id⊢ n.memory _);
    requests_request_at = by 1 (to_read 0 tt (read w8) ∷ by_value (plain_number w64) ∷ [])
        (λ n. refl) (λ 𝓤 𝓛 content run κs a. tt) requests.request_at.Met.met
        (λ n r e. id⊢ n.memory _);
    buttresk_walk = by 3
        (to_read 0 tt (read w8) ∷ to_write 1 tt (number w64) ∷ to_write 2 tt (number w64) ∷ [])
        (λ n. refl) (λ 𝓤 𝓛 content run κs a. tt) buttresk.buttresk_walk.Met.met
        (λ n r e. three n.memory (λ answer rows lines. ((answer, rows), lines)));
    buttresk_publish = by 2 (to_read 0 tt (read w8) ∷ to_write 1 tt (number w8) ∷ []) (λ n. refl)
        (λ 𝓤 𝓛 content run κs a. tt) buttresk.buttresk_publish.Met.met
        (λ n r e. both n.memory (λ answer dest. (answer, dest)));
    buttresk_write = by 3
        (by_value (plain_number w8) ∷ by_value (plain_number w8) ∷ by_value (plain_number w8)
        ∷ to_read 0 tt (read w64) ∷ to_read 1 tt (read w8) ∷ to_write 2 tt (number w8) ∷ [])
        (λ n. refl) (λ 𝓤 𝓛 content run κs a. tt) buttresk.buttresk_write.Met.met
        (λ n r e. both n.memory (λ answer dest. (answer, dest)));
    buttresk_inventory = by 2 (to_read 0 tt (read w8) ∷ to_write 1 tt (number w8) ∷ [])
        (λ n. refl) (λ 𝓤 𝓛 content run κs a. tt) buttresk.buttresk_inventory.Met.met
        (λ n r e. both n.memory (λ answer dest. (answer, dest)));
    buttresk_read_list = by 2 (to_read 0 tt (read w8) ∷ to_write 1 tt (number w64) ∷ [])
        (λ n. refl) (λ 𝓤 𝓛 content run κs a. tt) buttresk.buttresk_read_list.Met.met
        (λ n r e. both n.memory (λ answer dest. (answer, dest)));
    buttresk_indicator = by 1 (to_read 0 tt (read w8) ∷ []) (λ n. refl)
        (λ 𝓤 𝓛 content run κs a. tt) buttresk.buttresk_indicator.Met.met
        (λ n r e. id⊢ n.memory _);
    buttresk_identification = by 1 (to_read 0 tt (read w8) ∷ []) (λ n. refl)
        (λ 𝓤 𝓛 content run κs a. tt) buttresk.buttresk_identification.Met.met
        (λ n r e. id⊢ n.memory _);
    buttresk_grid_definition = by 1 (to_read 0 tt (read w8) ∷ []) (λ n. refl)
        (λ 𝓤 𝓛 content run κs a. tt) buttresk.buttresk_grid_definition.Met.met
        (λ n r e. id⊢ n.memory _);
    buttresk_product_definition =
        by 1 (by_value (plain_number w64) ∷ to_read 0 tt (read w8) ∷ []) (λ n. refl)
        (λ 𝓤 𝓛 content run κs a. tt) buttresk.buttresk_product_definition.Met.met
        (λ n r e. id⊢ n.memory _);
    buttresk_when_and_where =
        by 1 (by_value (plain_number w64) ∷ to_read 0 tt (read w8) ∷ []) (λ n. refl)
        (λ 𝓤 𝓛 content run κs a. tt) buttresk.buttresk_when_and_where.Met.met
        (λ n r e. id⊢ n.memory _);
    buttresk_representation = by 1 (to_read 0 tt (read w8) ∷ []) (λ n. refl)
        (λ 𝓤 𝓛 content run κs a. tt) buttresk.buttresk_representation.Met.met
        (λ n r e. id⊢ n.memory _);
    buttresk_bit_map = by 1 (to_read 0 tt (read w8) ∷ []) (λ n. refl)
        (λ 𝓤 𝓛 content run κs a. tt) buttresk.buttresk_bit_map.Met.met
        (λ n r e. id⊢ n.memory _);
    StoreAnswer-from = by 0 (by_value plain-StoreEnd ∷ []) (λ n. refl)
        (λ 𝓤 𝓛 content run κs a. tt) StoreAnswer.from.Met.met (λ n r e. id⊢ n.memory _);
    ReadAnswer-from = by 0 (by_value plain-ListAnswer ∷ []) (λ n. refl)
        (λ 𝓤 𝓛 content run κs a. tt) ReadAnswer.from.Met.met (λ n r e. id⊢ n.memory _);
    OctetField-from = by 0 (by_value plain-octet_or_none ∷ []) (λ n. refl)
        (λ 𝓤 𝓛 content run κs a. tt) OctetField.from.Met.met (λ n r e. id⊢ n.memory _);
    TimeField-from = by 0 (by_value plain-time_or_none ∷ []) (λ n. refl)
        (λ 𝓤 𝓛 content run κs a. tt) TimeField.from.Met.met (λ n r e. id⊢ n.memory _);
    Surface-from = by 0 (by_value plain-FixedSurface ∷ []) (λ n. refl)
        (λ 𝓤 𝓛 content run κs a. tt) Surface.from.Met.met (λ n r e. id⊢ n.memory _);
    SurfacesField-from = by 0 (by_value plain-surfaces_or_none ∷ []) (λ n. refl)
        (λ 𝓤 𝓛 content run κs a. tt) SurfacesField.from.Met.met (λ n r e. id⊢ n.memory _);
    WhenWhereFields-from = by 0 (by_value plain-WhenWhere ∷ []) (λ n. refl)
        (λ 𝓤 𝓛 content run κs a. tt) WhenWhereFields.from.Met.met (λ n r e. id⊢ n.memory _);
  }

pub each_gives_its_definition : EachGivesItsDefinition
each_gives_its_definition M = public_functions
