-- What a worked example says of a refusal.
use Rattle.std.specs.Prelude.{◌≡◌, ℕ, Err, Result}
use Rattle.faults.specs.declared.fault.Fault.{Fault}
use Rattle.faults.specs.Numbers.{number_of, layer_number}

-- refused with that number, layer, block and place
pub record Refused {X : Type 0} (r : Result X Fault) (number layer block place : ℕ) : Type 0 where
  pub fault : Fault
  pub refused : r ≡ Err fault
  pub number_is : number_of fault.refusal ≡ number
  pub layer_is : layer_number fault.layer ≡ layer
  pub block_is : fault.block ≡ block
  pub place_is : fault.place ≡ place
