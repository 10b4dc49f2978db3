-- The numbers of a row.
use Rattle.std.specs.Prelude.{◌≡◌, ℕ, List, Ok, Err, Result, ⊤}
use Rattle.faults.specs.declared.fault.Fault.{Fault}
use Rattle.format.specs.Checks.{◌with◌}
use Rattle.printed.specs.declared.rows.RowError.{RowError}
use Rattle.printed.specs.declared.rows.RowError.TheVariants.{Refused, OutOfMemory}
use Rattle.reader.specs.Answers.{row_part, patterns}

-- the patterns of a row's bytes, or why the row is refused
abbrev pub row_patterns : List ℕ → ℕ → ℕ → ℕ → Result (List ℕ) Fault
row_patterns b level cell row = row_part b level cell row with λ p. Ok (patterns p)

-- a result holds those patterns, or has that fault; where memory is out it says nothing of them
abbrev pub HoldsPatterns : {V : Type 0} → (V → List ℕ) → Result (List ℕ) Fault → Result V RowError → Type 0
HoldsPatterns items answer (Ok v) = answer ≡ Ok (items v)
HoldsPatterns items answer (Err (Refused f)) = answer ≡ Err f
HoldsPatterns items answer (Err (OutOfMemory e)) = ⊤
