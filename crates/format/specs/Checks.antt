-- Checks in a row: what a check answers, and the first that fails.
use Rattle.std.specs.Prelude.{◌≡◌, ℕ, ◌<◌, Bool, cond, List, [], ◌∷◌, length, Ok, Err, Result, nat_lt, slice_index_or}
use Rattle.faults.specs.declared.fault.Fault.{Fault}

-- a check passes, or answers its fault
abbrev pub Check : Type 0
Check = Result (Unit {0}) Fault

-- passes where the test holds, else answers the fault
abbrev pub unless : Bool → Fault → Check
unless holds f = cond holds (Ok tt) (Err f)

-- a check that files below version i are spared
abbrev pub from : ℕ → ℕ → Check → Check
from i v c = cond (nat_lt v i) (Ok tt) c

infixr 20 ◌then◌
-- what comes next, where a check passed
abbrev pub ◌then◌ : {X : Type 0} → Check → Result X Fault → Result X Fault
Ok _ then next = next
Err f then next = Err f

infixr 20 ◌with◌
-- what comes next, from the answer of what came before
abbrev pub ◌with◌ : {X Y : Type 0} → Result X Fault → (X → Result Y Fault) → Result Y Fault
Ok x with next = next x
Err f with next = Err f

-- the fault of the first check that fails, or x where none does
abbrev pub first_of : {X : Type 0} → List Check → X → Result X Fault
first_of [] x = Ok x
first_of (c ∷ cs) x = c then first_of cs x

-- the fault of the first check that fails, if one does
abbrev pub all_of : List Check → Check
all_of cs = first_of cs tt

-- a question that may refuse, as a check
abbrev pub passed : {X : Type 0} → Result X Fault → Check
passed (Ok x) = Ok tt
passed (Err f) = Err f

-- every check passes
abbrev pub IsPassed : List Check → Type 0
IsPassed cs = (j : ℕ) → j < length cs → slice_index_or cs j (Ok tt) ≡ Ok tt

-- one of the checks answers f, and every check before it passes
pub record IsFirstFault (cs : List Check) (f : Fault) : Type 0 where
  pub which : ℕ
  pub within : which < length cs
  pub before : (j : ℕ) → j < which → slice_index_or cs j (Ok tt) ≡ Ok tt
  pub fails : slice_index_or cs which (Ok tt) ≡ Err f
