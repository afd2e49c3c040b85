-- The samples and the witnesses, by computing.
use mathlib.Core.Path.{refl}
use lib.ListN.{length, length-replicate}
use borrow.Author.Tests.{lt-ltb}
use Rattle.octets.specs.BigEndian.{be_at}
use Rattle.octets.specs.Signed.{signed_of}
use Rattle.sections.specs.Kinds.{least_payload_of, kind_of, kinds}
use Rattle.framing.specs.Search.{says, starts_at, start_among, next_start}
use Rattle.framing.specs.Framing.{indicator_at, end_at, is_cut, missing, payload_at, header_at, message_at, read_at}
use Rattle.framing.specs.Listing.{listing_from, listing}
use Rattle.order.specs.Order.{judged, completes, is_between}
use Rattle.index.specs.Lines.{in_force, line_of}
use Rattle.index.specs.Numbers.{end_of, refusal_number, refusal_detail, fault_number, fault_detail}
use Rattle.index.specs.Walk.{span_at, span_behind, fitted, closing, by_order, judgement, concluded, walked_from, walked}
use Rattle.walk_laws.specs.Samples.{printed, answer, starred, others, StarredHold, OthersHold}
use Rattle.walk_laws.specs.Witnesses.{witnesses, WitnessesHold, TooLongRefused, LongFiles}

pub starred_hold : StarredHold
unfolding starred answer printed walked walked_from judgement by_order closing fitted concluded line_of in_force span_at span_behind
    judged completes is_between end_of refusal_number refusal_detail fault_number fault_detail listing listing_from read_at message_at
    header_at payload_at is_cut end_at indicator_at next_start start_among starts_at says least_payload_of kind_of kinds be_at signed_of
starred_hold = refl

pub others_hold : OthersHold
unfolding others answer printed walked walked_from judgement by_order closing fitted concluded line_of in_force span_at span_behind
    judged completes is_between end_of refusal_number refusal_detail fault_number fault_detail listing listing_from read_at message_at
    header_at payload_at is_cut end_at indicator_at next_start start_among starts_at says least_payload_of kind_of kinds be_at signed_of
others_hold = refl

pub witnesses_hold : WitnessesHold
unfolding witnesses walked walked_from judgement by_order closing fitted concluded line_of in_force span_at span_behind judged
    completes is_between end_of refusal_number refusal_detail fault_number fault_detail listing listing_from read_at message_at header_at
    payload_at is_cut missing end_at indicator_at next_start start_among starts_at says least_payload_of kind_of kinds be_at
witnesses_hold = refl

pub too_long_refused : TooLongRefused
unfolding walked
too_long_refused room file long = rw (lt-ltb 1099511627776 (length file) long)

pub long_files : LongFiles
long_files n long = rw length-replicate long
