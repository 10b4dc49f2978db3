-- The line that is printed for a file.
use Rattle.std.specs.Prelude.{ℕ, List, [], ◌++◌, Ok, Err, codes, decimal, Result}
use Rattle.faults.specs.declared.fault.Fault.{Fault}
use Rattle.faults.specs.Faults.{fault_text}
use Rattle.format.specs.declared.judging.Layout.{Layout}
use Rattle.format.specs.Shown.{layout_text}
use Rattle.printed.specs.Keys.{keys_text}
use Rattle.reader.specs.Answers.{entries}

-- the keys of an accepted file's blocks, whose bytes from 33 to 126 are shown as themselves;
-- nothing of a file that is refused
abbrev pub keys_of : List ℕ → Result Layout Fault → List ℕ
keys_of b (Ok layout) = keys_text 33 126 (entries b layout.blocks)
keys_of b (Err fault) = []

-- the file's name, and its layout with the keys of its blocks, or its fault
abbrev pub verdict_text : List ℕ → Result Layout Fault → List ℕ → List ℕ
verdict_text name (Ok layout) keys = name ++ (codes ": accepted: " ++ (layout_text layout ++ keys))
verdict_text name (Err fault) keys = name ++ (codes ": " ++ fault_text fault)

-- what is said of a file that was raised: out.cs: raised from version 4 to 5, 136 bytes
abbrev pub raised_text : List ℕ → ℕ → ℕ → ℕ → List ℕ
raised_text name from to size =
    name ++ (codes ": raised from version " ++ (decimal from ++ (codes " to " ++ (decimal to ++ (codes ", " ++ (decimal size ++ codes " bytes"))))))

-- what is said of a file that has a block more: out.cs: ZONE added as block 3, 176 bytes
abbrev pub added_text : List ℕ → List ℕ → ℕ → ℕ → List ℕ
added_text name kind number size =
    name ++ (codes ": " ++ (kind ++ (codes " added as block " ++ (decimal number ++ (codes ", " ++ (decimal size ++ codes " bytes"))))))
