-- A refusal is told by its fault.
use Rattle.std.proofs.Common.{◌≡◌, Err, Result, refl}
use Rattle.faults.specs.declared.fault.Fault.{Fault}
use Rattle.faults.specs.Numbers.{number_of, layer_number}
use Rattle.examples.specs.Refused.{Refused}

-- a result that is a fault is refused with the fault's number, layer, block and place
pub refused_with : {X : Type 0} (r : Result X Fault) (f : Fault) → r ≡ Err f
    → Refused r (number_of f.refusal) (layer_number f.layer) f.block f.place
refused_with r f is = record { fault = f; refused = is; number_is = refl; layer_is = refl; block_is = refl; place_is = refl }
