-- `requests::request_at` meets its contract: no octet stands there, or one of a kind, or of none.
use mathlib.Core.Path.{◌≡◌, ◌∙◌}
use native.Mathlib.Omega.{arith}
use lib.ListN.{get_or}
use borrow.Author.Tests.{le-leb, lt-leb, ne_eqb}
use Rattle.requests.specs.Requests.{request_at}
use Rattle.requests.proofs.request_at.Goals as goal

pub returns-then-input-at : goal.returns-then-input-at
unfolding request_at
returns-then-input-at c = simp (le-leb _ _ c.if-input-at.true)

pub returns-in-87 : goal.returns-in-87
unfolding request_at
returns-in-87 c =
    c.walk_request_at.ensures
    ∙ simp (lt-leb _ _ c.if-input-at.false, c.in-87.is)

pub returns-in-80 : goal.returns-in-80
unfolding request_at
returns-in-80 c =
    c.pull_request_at.ensures
    ∙ simp (lt-leb _ _ c.if-input-at.false, c.in-80.is)

pub returns-in-67 : goal.returns-in-67
unfolding request_at
returns-in-67 c =
    c.into_request_at.ensures
    ∙ simp (lt-leb _ _ c.if-input-at.false, c.in-67.is)

pub returns-in-77 : goal.returns-in-77
unfolding request_at
returns-in-77 c =
    c.write_request_at.ensures
    ∙ simp (lt-leb _ _ c.if-input-at.false, c.in-77.is)

pub returns-in-70 : goal.returns-in-70
unfolding request_at
returns-in-70 c =
    c.payload_request_at.ensures
    ∙ simp (lt-leb _ _ c.if-input-at.false, c.in-70.is)

pub returns-in-83 : goal.returns-in-83
unfolding request_at
returns-in-83 c =
    c.signed_request_at.ensures
    ∙ simp (lt-leb _ _ c.if-input-at.false, c.in-83.is)

pub returns-in-73 : goal.returns-in-73
unfolding request_at
returns-in-73 c =
    c.into_request_at-in-73.ensures
    ∙ simp (lt-leb _ _ c.if-input-at.false, c.in-73.is)

pub returns-in-82 : goal.returns-in-82
unfolding request_at
returns-in-82 c =
    c.list_request_at.ensures
    ∙ simp (lt-leb _ _ c.if-input-at.false, c.in-82.is)

pub returns-in-79 : goal.returns-in-79
unfolding request_at
returns-in-79 c =
    c.offsets_request_at.ensures
    ∙ simp (lt-leb _ _ c.if-input-at.false, c.in-79.is)

pub returns-in-84 : goal.returns-in-84
unfolding request_at
returns-in-84 c =
    c.payload_request_at-in-84.ensures
    ∙ simp (lt-leb _ _ c.if-input-at.false, c.in-84.is)

pub returns-in_default : goal.returns-in_default
unfolding request_at
returns-in_default c =
    let kind = get_or c.args.input.now c.args.at 0 in
    let not_87 : kind ≡ 87 → ⊥ = λ is. omega arith in
    let not_80 : kind ≡ 80 → ⊥ = λ is. omega arith in
    let not_67 : kind ≡ 67 → ⊥ = λ is. omega arith in
    let not_77 : kind ≡ 77 → ⊥ = λ is. omega arith in
    let not_70 : kind ≡ 70 → ⊥ = λ is. omega arith in
    let not_83 : kind ≡ 83 → ⊥ = λ is. omega arith in
    let not_73 : kind ≡ 73 → ⊥ = λ is. omega arith in
    let not_82 : kind ≡ 82 → ⊥ = λ is. omega arith in
    let not_79 : kind ≡ 79 → ⊥ = λ is. omega arith in
    let not_84 : kind ≡ 84 → ⊥ = λ is. omega arith in
    simp (
      lt-leb _ _ c.if-input-at.false,
      ne_eqb _ _ not_87,
      ne_eqb _ _ not_80,
      ne_eqb _ _ not_67,
      ne_eqb _ _ not_77,
      ne_eqb _ _ not_70,
      ne_eqb _ _ not_83,
      ne_eqb _ _ not_73,
      ne_eqb _ _ not_82,
      ne_eqb _ _ not_79,
      ne_eqb _ _ not_84,
    )
