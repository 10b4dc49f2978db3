-- A refusal in full, as it is printed.
use Rattle.std.specs.Prelude.{ℕ, List, ◌++◌, codes, decimal}
use Rattle.faults.specs.declared.fault.Fault.{Fault}
use Rattle.faults.specs.Numbers.{number_of, name_of, layer_name}

-- a fault with all its parts: refused 19: level (call), block 0, place 0
abbrev pub refusal_text : Fault → List ℕ
refusal_text f =
    codes "refused " ++ (decimal (number_of f.refusal) ++ (codes ": " ++ (name_of f.refusal ++ (codes " (" ++ (layer_name f.layer
    ++ (codes "), block " ++ (decimal f.block ++ (codes ", place " ++ decimal f.place))))))))
