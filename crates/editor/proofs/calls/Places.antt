-- Where a row that is to be stored stands.
use Rattle.std.proofs.Common.{◌≡◌, ℕ, min, List, Ok, Err, Result, refl, arith}
use Rattle.std.proofs.lemmas.Bool.{le-leb}
use Rattle.faults.specs.declared.fault.Fault.{Fault}
use Rattle.format.specs.declared.judging.Layout.{Layout}
use Rattle.format.specs.Checks.{Check, ◌then◌, ◌with◌, all_of}
use Rattle.format.specs.Rows.{row_span}
use Rattle.reader.specs.Levels.{layout_of_file, row_known, row_conditions}
use Rattle.editor.specs.Edits.{store_conditions}
use Rattle.format.specs.Conditions.{as_long}
use Rattle.editor.specs.steps.Places.{store_place}

-- at level 6 a row is refused for its cell or its number alone
behind_row : (c : Check) (x : ℕ × ℕ) (m : ℕ) → (((c then Ok tt) then Ok x) with λ p. as_long p.1 m then Ok p.0) ≡ ((c then (as_long x.1 m then Ok tt)) then Ok x.0)
behind_row (Ok u) x m = at_once (as_long x.1 m)
  where
    at_once : (q : Check) → (q then Ok x.0) ≡ ((q then Ok tt) then Ok x.0)
    at_once (Ok v) = refl
    at_once (Err g) = refl
behind_row (Err f) x m = refl

by_layout : (r : Result Layout Fault) (cell row m : ℕ)
    → ((r with λ l. all_of (row_conditions l.version l.sizes 6 cell row) then Ok (row_span l cell row)) with λ p. as_long p.1 m then Ok p.0)
    ≡ (r with λ l. all_of (store_conditions l.sizes cell row m) then Ok (row_span l cell row).0)
by_layout (Ok l) cell row m = rw (le-leb (min l.version 4) 6 (omega arith)) (behind_row (row_known l.sizes cell row) (row_span l cell row) m)
by_layout (Err g) cell row m = refl

pub stored_at : (b : List ℕ) (cell row m : ℕ)
    → store_place b cell row m ≡ (layout_of_file b with λ l. all_of (store_conditions l.sizes cell row m) then Ok (row_span l cell row).0)
stored_at b cell row m = by_layout (layout_of_file b) cell row m
