-- What may be lent: octets, numbers and lines that fit (specs/Parameters.antt).
use Rattle.std.specs.contracts.option.Option as options
use Rattle.std.proofs.option.Option.TheLaws as OptionLaws
use Rattle.std.specs.Prelude.{Option, Some, None}
use native.Mathlib.Omega.{arith}
use Prim.Native.Nat.{ℕ, ◌<◌, ◌^◌}
use mathlib.Core.List.{List, [], ◌∷◌, ◌++◌}
use mathlib.Core.Path.{refl}
use mir.Syntax.{Width, w8, w64}
use mir.Val.{vint}
use prog.Model.{AllFit}
use denote.Laws.{Is}
use denote.Plain.{UInt}
use denote.Struct.Laws as struct
use denote.Enum.Laws as enum
use Rattle.order.specs.contracts.Place as PlaceRow
use Rattle.order.proofs.Place.TheLaws as PlaceRowLaws
use Rattle.order.specs.declared.Place.{Place}
use Rattle.index.specs.contracts.line.Span as SpanRow
use Rattle.index.proofs.line.Span.TheLaws as SpanRowLaws
use Rattle.index.specs.contracts.line.Line as LineRow
use Rattle.index.proofs.line.Line.TheLaws as LineRowLaws
use Rattle.framing.specs.contracts.read.Offset as OffsetRow
use Rattle.framing.proofs.read.Offset.TheLaws as OffsetRowLaws
use Rattle.framing.specs.declared.read.Offset.{Offset}
use Rattle.index.specs.declared.line.Line.{Line}
use Rattle.index.specs.declared.line.Span.{Span}
use Rattle.walk_numbers.specs.Numbers.{place_or_0, line_numbers, lines_of}
use Rattle.promises.specs.Parameters.{Representable, AllRepresentable, MayBeLent}

numbers_fit : (w : Width) (ns : List ℕ) → AllFit w ns → AllRepresentable (UInt w) ns
numbers_fit w [] fit = tt
numbers_fit w (n ∷ ns) fit = ((vint w n ∷ [], (refl, fit.0.fits)), numbers_fit w ns fit.1)

place_fits : (p : Place) → p.0 < 2 ^ 64 → Is PlaceRow.the_row p (struct.vals PlaceRow.the_type PlaceRowLaws.the_laws p)
place_fits p fit = struct.owes PlaceRow.the_type PlaceRowLaws.the_laws p ((refl, fit), tt)

place_or_none_fits : (d : Option Place) → place_or_0 d < 2 ^ 64
    → Is (options.the_row PlaceRow.the_row) d (enum.vals (options.the_type PlaceRow.the_row) (OptionLaws.the_laws PlaceRow.the_row PlaceRowLaws.the_row_laws PlaceRowLaws.the_told) d)
unfolding place_or_0
place_or_none_fits (Some p) fit = enum.owes (options.the_type PlaceRow.the_row) (OptionLaws.the_laws PlaceRow.the_row PlaceRowLaws.the_row_laws PlaceRowLaws.the_told) (Some p) (place_fits p fit, tt)
place_or_none_fits None fit = enum.owes (options.the_type PlaceRow.the_row) (OptionLaws.the_laws PlaceRow.the_row PlaceRowLaws.the_row_laws PlaceRowLaws.the_told) None tt

offset_fits : (o : Offset) → o.0 < 2 ^ 64 → Is OffsetRow.the_row o (struct.vals OffsetRow.the_type OffsetRowLaws.the_laws o)
offset_fits o fit = struct.owes OffsetRow.the_type OffsetRowLaws.the_laws o ((refl, fit), tt)

span_fits : (s : Span) → s.offset.0 < 2 ^ 64 → s.total < 2 ^ 64 → Is SpanRow.the_row s (struct.vals SpanRow.the_type SpanRowLaws.the_laws s)
span_fits s offset total = struct.owes SpanRow.the_type SpanRowLaws.the_laws s (offset_fits s.offset offset, ((refl, total), tt))

line_fits : (l : Line) → AllFit w64 (line_numbers l) → Representable LineRow.the_row l
unfolding line_numbers
line_fits l fit =
    let places = fit.1.1.1.1 in
    let later = places.1.1.1.1 in (
      struct.vals LineRow.the_type LineRowLaws.the_laws l,
      struct.owes LineRow.the_type LineRowLaws.the_laws l (
        (refl, fit.0.fits),
        (
          (refl, fit.1.0.fits),
          (
            place_fits l.indicator places.0.fits,
            (
              place_fits l.identification places.1.0.fits,
              (
                place_or_none_fits l.local places.1.1.0.fits,
                (
                  place_fits l.grid places.1.1.1.0.fits,
                  (
                    place_fits l.product later.0.fits,
                    (
                      place_fits l.representation later.1.0.fits,
                      (
                        place_fits l.bitmap later.1.1.0.fits,
                        (
                          place_fits l.values later.1.1.1.0.fits,
                          (
                            place_or_none_fits l.end later.1.1.1.1.0.fits,
                            (span_fits l.span later.1.1.1.1.1.0.fits later.1.1.1.1.1.1.0.fits, tt),
                          ),
                        ),
                      ),
                    ),
                  ),
                ),
              ),
            ),
          ),
        ),
      ),
    )

fit_apart : (w : Width) (xs ys : List ℕ) → AllFit w (xs ++ ys) → AllFit w xs × AllFit w ys
fit_apart w [] ys fit = (tt, fit)
fit_apart w (x ∷ xs) ys fit = let both = fit_apart w xs ys fit.1 in ((fit.0, both.0), both.1)

lines_fit : (ls : List Line) → AllFit w64 (lines_of ls) → AllRepresentable LineRow.the_row ls
unfolding lines_of
lines_fit [] fit = tt
lines_fit (l ∷ ls) fit = let both = fit_apart w64 (line_numbers l) (lines_of ls) fit in (line_fits l both.0, lines_fit ls both.1)

pub may_be_lent : MayBeLent
may_be_lent = record {
  octets = λ xs fit short. ((omega (arith, short), omega (arith, short)), numbers_fit w8 xs fit);
  numbers = λ xs fit short. ((omega (arith, short), omega (arith, short)), numbers_fit w64 xs fit);
  lines = λ ls fit short. ((omega (arith, short), omega (arith, short)), lines_fit ls fit);
}
