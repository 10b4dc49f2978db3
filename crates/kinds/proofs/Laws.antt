-- What holds of every kind that keeps the conditions.
use Rattle.std.proofs.Common.{◌≡◌, ℕ, ◌-◌, ◌≤◌, List, ◌++◌, length, take, drop, sym, refl, ap, ◌∙◌, arith}
use Rattle.std.proofs.lemmas.List.{length-drop, length-take, take_all, take_at, take-append-le, drop-append-le}
use Rattle.kinds.specs.Kind.{EveryKindReturns}

pub every_kind_returns : EveryKindReturns
every_kind_returns k kept ns text out more e =
    let b = kept.back ns text out e in
    let s = kept.steady out ns b.at (length text) (length out) b.read in
    let before : b.at ≤ length out = omega (arith, s.inside) in
    let room : length text ≤ length (drop b.at out) = simp length-drop (omega (arith, s.inside)) in
    let fronts : take (length out) (out ++ more) ≡ take (length out) out =
    take_at out more (length out) refl ∙ sym (take_all (length out) out (omega arith)) in (
      b.at,
      s.same (out ++ more) fronts,
      ap (take (length text)) (drop-append-le b.at out more before) ∙ take-append-le (length text) (drop b.at out) more room ∙ b.text_is,
    )

-- a part of a list is no longer than what is left of it
pub part_within : (n at : ℕ) (b : List ℕ) → length (take n (drop at b)) ≤ length b - at
part_within n at b = omega (arith, length-take n (drop at b), length-drop at b)
