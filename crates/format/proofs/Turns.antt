-- Checks made one after the other over a table: the first that fails ends the turns, and behind one
-- that passes the rest decides.
use Rattle.std.proofs.Common.{◌≡◌, ℕ, suc, ◌+◌, ◌<◌, List, get_or, length, drop, map, Ok, Err, sym, ap, ◌∙◌, arith}
use Rattle.std.proofs.Math.Seq.{drop-cons}
use Rattle.std.proofs.lemmas.List.{get_or-map, length-map}
use Rattle.faults.specs.declared.fault.Fault.{Fault}
use Rattle.format.specs.Checks.{Check, all_of, ◌then◌}

-- a table, the turn i, and that the turns from this one on decide the whole
module _ {E : Type 0} (check : E → Check) (es : List E) (whole : Check) (i : ℕ) (d : E) (l : i < length es) (before : whole ≡ all_of (drop i (map check es))) where
  split : all_of (drop i (map check es)) ≡ (get_or (map check es) i (Ok tt) then all_of (drop (suc i) (map check es)))
  split = ap all_of (drop-cons (map check es) i (Ok tt) (rw (length-map es check) l))

  turn : whole ≡ (check (get_or es i d) then all_of (drop (suc i) (map check es)))
  turn = before ∙ split ∙ ap (λ c. c then all_of (drop (suc i) (map check es))) (get_or-map check es i d (Ok tt) l)

  pub turn_fails : (f : Fault) → Err f ≡ check (get_or es i d) → whole ≡ Err f
  turn_fails f e = turn ∙ ap (λ c. c then all_of (drop (suc i) (map check es))) (sym e)

  pub turn_passes : Ok tt ≡ check (get_or es i d) → whole ≡ all_of (drop (i + 1) (map check es))
  turn_passes e =
      let next : suc i ≡ i + 1 = omega arith in
      turn ∙ ap (λ c. c then all_of (drop (suc i) (map check es))) (sym e) ∙ ap (λ k. all_of (drop k (map check es))) next
