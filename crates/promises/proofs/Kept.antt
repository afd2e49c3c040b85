-- The three demands of specs/Promises.antt are kept.
use mathlib.Core.Path.{sym, ap, ◌∙◌}
use Rattle.products.proofs.Rows.{table_is_the_ranges}
use Rattle.products.proofs.Readings.{where_readings_differ}
use Rattle.products.proofs.OneCall.{when_and_where}
use Rattle.index.specs.Numbers.{end_of}
use Rattle.index.specs.Bounds.{unlimited}
use Rattle.index.specs.Walk.{Told, walked}
use Rattle.index.proofs.Rows.{rows_are_laid_out, over_tells_all, just_read_stands_next}
use Rattle.index.proofs.Pins.{lines_are_pinned, a_line_for_each_7}
use Rattle.walk_laws.proofs.Computed.{starred_hold, others_hold, witnesses_hold}
use Rattle.walk_laws.proofs.WholeWalk.{is_clean, walk_refused_exactly_when, walk_clean_exactly_when}
use Rattle.walk_laws.proofs.OneStep.{one_step_exactly_when}
use Rattle.walk_laws.proofs.Missing.{how_much_is_missing}
use Rattle.walk_laws.proofs.Starts.{where_messages_start}
use Rattle.walk_laws.proofs.Spans.{where_messages_stand}
use Rattle.walk_laws.proofs.Messages.{
  closed_messages_are_tiled,
  each_end_closes_a_message,
  messages_are_ends,
  no_end_at_place_0,
}
use Rattle.walk_laws.proofs.Counts.{unlimited_is_never_full}
use Rattle.walk_laws.proofs.Unlimited.{begins_the_unlimited, held_is_unlimited}
use Rattle.walk_laws.proofs.Places.{place_is_count, input_over_at_last}
use Rattle.as_the_crate.proofs.Equal.{
  walk_equals_the_rust,
  walk_numbers_equals_the_rust,
  pull_equals_the_rust,
  open_loses_nothing,
}
use Rattle.as_the_crate.proofs.Overflow.{overflows_exactly_when}
use Rattle.as_the_encoder.proofs.Encoding.{writes_as_the_rust}
use Rattle.as_the_encoder.proofs.EncodingNested.{every_accepted_plan_is_nested}
use Rattle.blindness.proofs.Theorems.{blindness, lent_blindness, public_copies}
use Rattle.blindness.proofs.Spared.{licensed_are_four, terms_pass, one_more_fails}
use Rattle.promises.specs.Promises.{Demand1, Demand2, Demand3}
use Rattle.promises.specs.AllTerms.{ForAllTerms}
use Rattle.promises.proofs.Answers.{each_gives_its_definition}
use Rattle.promises.proofs.There.{code_is_there}
use Rattle.promises.proofs.Leaves.{walk_stores, numbers_store, copy_leaves, write_leaves}
use Rattle.promises.proofs.Listing.{inventory_leaves, list_stores}
use Rattle.promises.proofs.Pulling.{pull_hands_out}
use Rattle.promises.proofs.Copying.{
  copied,
  copy_refused_exactly_when,
  copy_written_exactly_when,
}
use Rattle.promises.proofs.Writing.{
  plan_refused_exactly_when,
  plan_taken_exactly_when,
  one_message_is_in_order,
  written_reads_back,
}
use Rattle.promises.proofs.Inventory.{text_inventory}
use Rattle.promises.proofs.Blind.{one, public, equal_numbers, equal_faces, equal_pulls}

-- what was stored stands, and all else lent is untouched
pub demand_1 : Demand1
demand_1 =
    record {
      each_gives = each_gives_its_definition;
      code_is_there = code_is_there;
      walk_stores = walk_stores;
      numbers_store = numbers_store;
      list_stores = list_stores;
      nothing_else =
          record {
            copy_leaves = copy_leaves;
            write_leaves = write_leaves;
            inventory_leaves = inventory_leaves;
          };
    }

-- what makes the definitions worth believing
pub demand_2 : Demand2
demand_2 =
    record {
      rows_are_laid_out = rows_are_laid_out;
      over_tells_all = over_tells_all;
      just_read_stands_next = just_read_stands_next;
      lines_are_pinned = lines_are_pinned;
      a_line_for_each_7 = a_line_for_each_7;
      walk_refuses = walk_refused_exactly_when;
      walk_ends_clean = walk_clean_exactly_when;
      one_step = one_step_exactly_when;
      missing = how_much_is_missing;
      starts = where_messages_start;
      stands = where_messages_stand;
      offsets = table_is_the_ranges;
      readings = where_readings_differ;
      one_call = when_and_where;
      starred = starred_hold;
      others = others_hold;
      each_refusal = witnesses_hold;
      tiled = closed_messages_are_tiled;
      ends_close = each_end_closes_a_message;
      messages_counted = messages_are_ends;
      no_end_at_0 = no_end_at_place_0;
      place_is_count = place_is_count;
      over_at_last = input_over_at_last;
      never_full = unlimited_is_never_full;
      begins = begins_the_unlimited;
      held = held_is_unlimited;
      pull_hands_out = pull_hands_out;
      copy_refuses = copy_refused_exactly_when;
      copy_written = copy_written_exactly_when;
      inventory = text_inventory;
      plan_refused = plan_refused_exactly_when;
      plan_taken = plan_taken_exactly_when;
      one_message = one_message_is_in_order;
      reads_back = written_reads_back;
      walk_is_the_rust's = walk_equals_the_rust;
      numbers_are_the_rust's = walk_numbers_equals_the_rust;
      pull_is_the_rust's = pull_equals_the_rust;
      open_loses_nothing = open_loses_nothing;
      rust_overflows = overflows_exactly_when;
      writes_as_the_rust = writes_as_the_rust;
      every_plan_nested = every_accepted_plan_is_nested;
    }

-- no values octet reaches an answer or a copy
pub demand_3 : Demand3
demand_3 =
    record {
      equal_files = one;
      equal_numbers = equal_numbers;
      equal_faces = equal_faces;
      equal_pulls = equal_pulls;
      equal_copies = λ f g d e dest other fits also.
          let clean = is_clean (walked unlimited f).outcome e in
          let clean' =
          is_clean (walked unlimited g).outcome
          (sym (ap (λ (told : Told). (end_of told.outcome).outcome)
          ((one f g d).one_walk unlimited)) ∙ e) in
          copied f dest clean fits ∙ (one f g d).one_copy clean ∙ sym (copied g other clean' also);
      copy_stands =
          λ f e dest fits. rw (copied f dest (is_clean (walked unlimited f).outcome e) fits)
          (public f e);
    }

-- nor under any other terms that pass the test
pub for_all_terms : ForAllTerms
for_all_terms =
    record {
      equal_files = blindness;
      with_lent_tables = lent_blindness;
      copies = public_copies;
      four_stretches = licensed_are_four;
      terms_pass = terms_pass;
      one_more_fails = one_more_fails;
    }
