-- A row that is read into a list of just its length.
use Rattle.std.proofs.Common.{◌≡◌, ℕ, ◌+◌, ◌/◌, ◌≤◌, List, length, Ok, arith}
use Rattle.std.proofs.lemmas.Grind.{common_steps}
use Rattle.std.proofs.lemmas.List.FromFn.{length-map-range_with_len}
use Rattle.reader.specs.Answers.{row_answer, numbers_answer, numbers_list}
use Rattle.printed.specs.Patterns.{row_patterns}

-- a row's patterns are the list that `numbers` fills whole
pub row_read : (b : List ℕ) (level cell row : ℕ) (p : ℕ × ℕ) (old new : List ℕ) → row_answer b level cell row ≡ Ok p → p.0 + p.1 ≤ length b
    → length old ≡ p.1 / 4 → numbers_answer b level cell row (length old) ≡ Ok tt → new ≡ numbers_list b level cell row old
    → row_patterns b level cell row ≡ Ok new
row_read b level cell row p old new answered inside room fits is = grind (arith, common_steps, length-map-range_with_len)
