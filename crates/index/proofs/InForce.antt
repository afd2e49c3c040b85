-- What is in force at each stand is the last section of each number in the message in hand (`Inside`), and between messages it is a
-- message newly opened; a section that is passed keeps that so, and the line that is made of it is pinned.
use Rattle.std.specs.Prelude.{Option, Some, None}
use Prim.Native.Nat.{ℕ, ◌+◌, ◌≤◌, ◌<◌}
use native.Mathlib.Omega.{arith}
use mathlib.Core.Path.{◌≡◌, refl, sym, ap, subst, subst₂, ◌∙◌}
use mathlib.Core.Bool.{Bool, true, false}
use mathlib.Core.List.{List}
use lib.Dec.{ltb, eqb}
use lib.ListN.{length, get_or, set, take, drop, length-set}
use lib.Seq.{get_or-set_same, get_or-set_other}
use borrow.Author.Tests.{eqb-true, eqb-false, ltb-false, ne_eqb}
use Rattle.octets.specs.Words.{pick, Not}
use Rattle.framing.specs.declared.read.Section.{Section}
use Rattle.framing.proofs.Tests.{by_test, never_both}
use Rattle.order.specs.Order.{is_between}
use Rattle.order.specs.declared.Place.{Place}
use Rattle.order.specs.declared.Order.{Order}
use Rattle.order.specs.declared.Order.TheVariants.{BetweenMessages, AfterIndicator, AfterData, SubmessageStart}
use Rattle.index.specs.Lines.{place, opened, with_span, with_local, with_places, in_force, with_submessage, line_of}
use Rattle.index.specs.declared.line.Span.{Span}
use Rattle.index.specs.declared.line.Force.{Force}
use Rattle.index.specs.Walk.{span_at, span_behind, comes_in_force}
use Rattle.index.specs.Pins.{told_at, ToldAt, LastBefore, LocalBefore, count_of, PinnedLine}
use Rattle.index.proofs.Counted.{Here, by_number, apart, last_stays, last_was, last_is, local_stays, local_was, count_step, count_none}
use Rattle.index.proofs.Fitting.{level, waiting, Fitting, opening, within}

-- the place that is kept for a number
abbrev pub kept : Force → ℕ → ℕ
kept f n = (get_or f.places n (place 0)).0

module _ (file : List ℕ) (told : List Section) where
  -- in a message that starts at z, where so many sections are told
  pub record Inside (c : ℕ) (order : Order) (f : Force) (z : ℕ) : Type 0 where
    pub room : length f.places ≡ 8
    pub start : kept f 0 ≡ z
    pub zeroth : LastBefore told 0 0 c z
    pub before : f.message ≡ count_of 0 (take z told)
    pub so_far : f.message + 1 ≡ count_of 0 (take c told)
    pub lines : f.submessage + waiting order ≡ count_of 7 (drop z (take c told))
    pub local : LocalBefore told z c f.local
    pub each : (n : ℕ) → 1 ≤ n → n < level order → Not (n ≡ 2) → LastBefore told n z c (kept f n)
    pub data_last : waiting order ≡ 1 → kept f 7 + 1 ≡ c
    pub stated : f.span ≡ span_at file (told_at told z).offset

  pub data InForce (c : ℕ) : Order → Force → Type 0 where
    outside : {message : ℕ} → message ≡ count_of 0 (take c told) → InForce c BetweenMessages (opened message)
    inside : {order : Order} {f : Force} → is_between order ≡ false → (z : ℕ) → Inside c order f z → InForce c order f

  -- a section 0 comes in force
  opens : (c message : ℕ) → message ≡ count_of 0 (take c told) → ToldAt told 0 c
      → Inside (c + 1) AfterIndicator (with_span (in_force (opened message) 0 (place c)) (span_at file (told_at told c).offset)) c
  unfolding in_force
  opens c message before here =
      record {
        room = refl;
        start = refl;
        zeroth = last_is told (omega arith) here;
        before = before;
        so_far = let step = count_step told 0 0 0 c (omega arith) here in omega arith;
        lines = let step = count_step told 7 0 c c (omega arith) here in omega (arith, count_none told 7 c);
        local = λ k above below there. apart told there here (λ z. omega arith) (omega arith);
        each = λ n low high two. absurd (omega arith);
        data_last = λ e. absurd (omega arith);
        stated = refl;
      }

  -- a section 1 to 7 comes in force
  module _ (c : ℕ) (order next : Order) (f : Force) (z n : ℕ) (i : Inside c order f z) (here : ToldAt told n c)
      (low : 1 ≤ n) (high : n < 8) (none : waiting order ≡ 0) (seven : waiting next ≡ pick (eqb n 7) 1 0)
      (lower : (k : ℕ) → k < level next → Not (k ≡ 2) → Not (k ≡ n) → k < level order) where
    z_before : z ≤ c
    z_before = let h = i.zeroth.high in omega arith

    so_far' : f.message + 1 ≡ count_of 0 (take (c + 1) told)
    so_far' =
        let step = rw (ne_eqb n 0 (λ e. omega arith)) at (count_step told 0 n 0 c (omega arith) here) in
        let old = i.so_far in
        omega arith

    lines' : f.submessage + waiting next ≡ count_of 7 (drop z (take (c + 1) told))
    lines' = let step = count_step told 7 n z c z_before here in let old = i.lines in omega arith

    as_local : n ≡ 2 → Inside (c + 1) next (with_local f (Some (place c))) z
    as_local two =
        record {
          room = i.room;
          start = i.start;
          zeroth = last_stays told here (λ e. omega arith) i.zeroth;
          before = i.before;
          so_far = so_far';
          lines = lines';
          local = rw two at (last_is told z_before here);
          each = λ k one below other. last_stays told here (λ e. omega arith) (i.each k one (lower k below other (λ e. omega arith)) other);
          data_last = λ e. let z = rw (ne_eqb n 7 (λ e. omega arith)) at seven in absurd (omega arith);
          stated = i.stated;
        }

    as_place : Not (n ≡ 2) → Inside (c + 1) next (with_places f (set f.places n (place c))) z
    as_place other =
        record {
          room = length-set f.places n (place c) ∙ i.room;
          start = ap (λ (p : Place). p.0) (get_or-set_other f.places n 0 (place c) (place 0) (λ e. omega arith)) ∙ i.start;
          zeroth = last_stays told here (λ e. omega arith) i.zeroth;
          before = i.before;
          so_far = so_far';
          lines = lines';
          local = local_stays told z c f.local here (λ e. other (sym e)) i.local;
          each = λ k one below two. by_test (λ (x : ℕ). LastBefore told k z (c + 1) (kept f' k)) (eqb k n) {a = k} {b = k}
              (λ e. same k (eqb-true k n e)) (λ e. apart_from k one below two (eqb-false k n e));
          data_last = λ e. let last = kept_new 7 (sym (is_7 (eqb n 7) refl (sym seven ∙ e))) in omega arith;
          stated = i.stated;
        }
      where
        f' : Force
        f' = with_places f (set f.places n (place c))

        kept_new : (k : ℕ) → k ≡ n → kept f' k ≡ c
        kept_new k e =
            ap (kept f') e ∙ ap (λ (p : Place). p.0) (get_or-set_same f.places n (place c) (place 0) (omega (arith, i.room)))

        is_7 : (t : Bool) → eqb n 7 ≡ t → pick {A = ℕ} t 1 0 ≡ 1 → n ≡ 7
        is_7 true e one = eqb-true n 7 e
        is_7 false e one = absurd (omega arith)

        same : (k : ℕ) → k ≡ n → LastBefore told k z (c + 1) (kept f' k)
        same k e = subst₂ (λ (m p : ℕ). LastBefore told m z (c + 1) p) (sym e) (sym (kept_new k e)) (last_is told z_before here)

        apart_from : (k : ℕ) → 1 ≤ k → k < level next → Not (k ≡ 2) → Not (k ≡ n) → LastBefore told k z (c + 1) (kept f' k)
        apart_from k one below two differs =
            subst (LastBefore told k z (c + 1))
            (ap (λ (p : Place). p.0) (sym (get_or-set_other f.places n k (place c) (place 0) differs)))
            (last_stays told here differs (i.each k one (lower k below two differs) two))

    in_place : Inside (c + 1) next (with_span (in_force f n (place c)) f.span) z
    unfolding in_force
    in_place =
        by_test (λ (g : Force). Inside (c + 1) next (with_span g f.span) z) (eqb n 2) (λ e. as_local (eqb-true n 2 e)) λ e.
        by_test (λ (g : Force). Inside (c + 1) next (with_span g f.span) z) (ltb n 8) (λ below. as_place (eqb-false n 2 e)) λ above.
        absurd (omega (arith, ltb-false n 8 above))

  -- any section that fits
  pub comes : (c : ℕ) (s : Section) {order next : Order} {f : Force} → InForce c order f → Fitting s.number order next → Here told c s
      → InForce (c + 1) next (comes_in_force file f s (place c))
  unfolding is_between span_behind
  comes c s (outside {message} count) (opening zeroth) here =
      rw (zeroth, ← here.1)
      (inside refl c (opens c message count (here.0, ap (λ (x : Section). x.number) here.1 ∙ zeroth)))
  comes c s (outside count) (within was ajar low high none seven lower) here = absurd (never_both refl was)
  comes c s (inside ajar z i) (opening zeroth) here = absurd (never_both refl ajar)
  comes c s {order} {next} {f} (inside was z i) (within _ ajar low high none seven lower) here =
      rw (ne_eqb s.number 0 (λ e. omega arith))
      (inside ajar z (in_place c order next f z s.number i (by_number told here) low high none seven lower))

  -- the line of the submessage in hand
  pinned : (f : Force) (end : Option Place) → Inside (kept f 7 + 1) AfterData f (kept f 0)
      → (ToldAt told 8 (kept f 7 + 1) → end ≡ Some (place (kept f 7 + 1))) → (Not (ToldAt told 8 (kept f 7 + 1)) → end ≡ None)
      → PinnedLine file told (line_of f end)
  unfolding line_of span_at
  pinned f end i closed goes_on =
      record {
        values = seventh;
        indicator = last_was told seventh (λ e. omega arith) i.zeroth;
        identification = last_was told seventh (λ e. omega arith) (i.each 1 (omega arith) (omega arith) (λ e. omega arith));
        local = local_was told (kept f 0) (kept f 7) f.local seventh (λ e. omega arith) i.local;
        grid = last_was told seventh (λ e. omega arith) (i.each 3 (omega arith) (omega arith) (λ e. omega arith));
        product = last_was told seventh (λ e. omega arith) (i.each 4 (omega arith) (omega arith) (λ e. omega arith));
        representation = last_was told seventh (λ e. omega arith) (i.each 5 (omega arith) (omega arith) (λ e. omega arith));
        bitmap = last_was told seventh (λ e. omega arith) (i.each 6 (omega arith) (omega arith) (λ e. omega arith));
        message = i.before;
        submessage =
            let low = (i.each 7 (omega arith) (omega arith) (λ e. omega arith)).low in
            let step = count_step told 7 7 (kept f 0) (kept f 7) low seventh in
            let lines = i.lines in
            omega arith;
        closed = closed;
        goes_on = goes_on;
        offset = ap (λ (e : Span). e.offset) i.stated;
        total = rw i.stated refl;
      }
    where
      seventh : ToldAt told 7 (kept f 7)
      seventh = (i.each 7 (omega arith) (omega arith) (λ e. omega arith)).there

  -- after a section 7 it stands right before
  pub in_hand_lem : {c : ℕ} {order : Order} {f : Force} → InForce c order f → order ≡ AfterData
      → (kept f 7 + 1 ≡ c) × Inside c AfterData f (kept f 0)
  in_hand_lem (outside count) e = let z : ◌≡◌ {A = ℕ} 0 1 = cc in absurd (omega arith)
  in_hand_lem {c} {order} {f} (inside ajar z i) e =
      let here = subst₂ (λ (o : Order) (k : ℕ). Inside c o f k) e (sym i.start) i in (here.data_last refl, here)

  pub line_of_lem : {c : ℕ} {order : Order} {f : Force} → InForce c order f → order ≡ AfterData → (end : Option Place)
      → (ToldAt told 8 c → end ≡ Some (place c)) → (Not (ToldAt told 8 c) → end ≡ None) → PinnedLine file told (line_of f end)
  line_of_lem {f = f} force e end closed goes_on =
      let (next, i) = in_hand_lem force e in
      pinned f end (rw (← next) at i) (rw (← next) at closed) (rw (← next) at goes_on)

  -- a message that goes on
  goes_in : (c : ℕ) (f : Force) (z : ℕ) → Inside c AfterData f z → Inside c SubmessageStart (with_submessage f (f.submessage + 1)) z
  goes_in c f z i =
      record {
        room = i.room;
        start = i.start;
        zeroth = i.zeroth;
        before = i.before;
        so_far = i.so_far;
        lines = let old = i.lines in omega arith;
        local = i.local;
        each = i.each;
        data_last = λ e. absurd (omega arith);
        stated = i.stated;
      }

  pub gone_on_lem : {c : ℕ} {f : Force} → InForce c AfterData f → InForce c SubmessageStart (with_submessage f (f.submessage + 1))
  unfolding is_between
  gone_on_lem {c} {f} (inside ajar z i) = inside refl z (goes_in c f z i)
