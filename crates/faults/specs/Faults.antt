-- A fault's four parts: refusal, layer, block and place.
use Rattle.std.specs.Prelude.{ℕ, List, [], ◌++◌, codes, decimal, nat_lt, if◌then◌else◌}
use Rattle.faults.specs.declared.fault.Fault.{Fault}
use Rattle.faults.specs.declared.refusal.Layer.{Layer}
use Rattle.faults.specs.declared.refusal.Refusal.{Refusal}
use Rattle.faults.specs.Numbers.{number_of, name_of, layer_of, layer_number, layer_name}

-- a fault in the block k, at a place; the layer is the refusal's own
abbrev pub in_block : Refusal → ℕ → ℕ → Fault
in_block r k place = record { refusal = r; layer = layer_of r; block = k; place = place }

-- a fault outside the blocks: its block is 0
abbrev pub fault : Refusal → ℕ → Fault
fault r place = in_block r 0 place

-- the block of a fault as it is printed, if it has one
abbrev pub block_text : ℕ → List ℕ
block_text k = if nat_lt 0 k then codes ", block " ++ decimal k else []

-- the place of a fault as it is printed; at the layer call, number 5, a place is not one of the
-- file
abbrev pub place_text : Layer → ℕ → List ℕ
place_text l place = if nat_lt (layer_number l) 5 then codes ", place " ++ decimal place else []

-- a fault as it is printed: refused 9: block head cut (section), block 2, place 116
abbrev pub fault_text : Fault → List ℕ
fault_text f =
    codes "refused " ++ (decimal (number_of f.refusal) ++ (codes ": " ++ (name_of f.refusal ++ (codes " (" ++ (layer_name f.layer
    ++ (codes ")" ++ (block_text f.block ++ place_text f.layer f.place)))))))
