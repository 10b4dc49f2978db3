-- Which argument names which call of a run.
use Rattle.std.specs.Prelude.{◌≡◌, ◌≢◌, ℕ, List, Some, None, Option, codes}
use Rattle.session.specs.declared.names.Edit.{Edit}
use Rattle.session.specs.declared.names.Edit.TheVariants.{Load, Set, Store, Add, Carry, Lengthen, Replace, Remove, Raise}
use Rattle.session.specs.declared.names.Question.{Question}
use Rattle.session.specs.declared.names.Question.TheVariants.{Version, Start, Field, Row, Numbers, Block, Look, Table}
use Rattle.session.specs.declared.names.Call.{Call}
use Rattle.session.specs.declared.names.Call.TheVariants.{Judge, Make, Begin, Save, Bytes, Change, Ask, Other}

-- the names of the edits; any other argument names none
abbrev pub NamesEdit : List ℕ → Option Edit → Type 0
NamesEdit argument (Some Load) = argument ≡ codes "load"
NamesEdit argument (Some Set) = argument ≡ codes "set"
NamesEdit argument (Some Store) = argument ≡ codes "store"
NamesEdit argument (Some Add) = argument ≡ codes "add"
NamesEdit argument (Some Carry) = argument ≡ codes "carry"
NamesEdit argument (Some Lengthen) = argument ≡ codes "lengthen"
NamesEdit argument (Some Replace) = argument ≡ codes "replace"
NamesEdit argument (Some Remove) = argument ≡ codes "drop"
NamesEdit argument (Some Raise) = argument ≡ codes "raise"
NamesEdit argument None =
    (argument ≢ codes "load") × (argument ≢ codes "set") × (argument ≢ codes "store") × (argument ≢ codes "add") × (argument ≢ codes "carry")
    × (argument ≢ codes "lengthen") × (argument ≢ codes "replace") × (argument ≢ codes "drop") × (argument ≢ codes "raise")

-- the names of the questions; any other argument names none
abbrev pub NamesQuestion : List ℕ → Option Question → Type 0
NamesQuestion argument (Some Version) = argument ≡ codes "version"
NamesQuestion argument (Some Start) = argument ≡ codes "start"
NamesQuestion argument (Some Field) = argument ≡ codes "field"
NamesQuestion argument (Some Row) = argument ≡ codes "row"
NamesQuestion argument (Some Numbers) = argument ≡ codes "numbers"
NamesQuestion argument (Some Block) = argument ≡ codes "block"
NamesQuestion argument (Some Look) = argument ≡ codes "look"
NamesQuestion argument (Some Table) = argument ≡ codes "table"
NamesQuestion argument None =
    (argument ≢ codes "version") × (argument ≢ codes "start") × (argument ≢ codes "field") × (argument ≢ codes "row") × (argument ≢ codes "numbers")
    × (argument ≢ codes "block") × (argument ≢ codes "look") × (argument ≢ codes "table")

-- an edit or a question, by its name; any other argument is neither's
abbrev pub NamesOfFile : List ℕ → Call → Type 0
NamesOfFile argument (Change e) = NamesEdit argument (Some e)
NamesOfFile argument (Ask q) = NamesQuestion argument (Some q)
NamesOfFile argument Other = NamesEdit argument None × NamesQuestion argument None
NamesOfFile argument Judge = ⊥
NamesOfFile argument Make = ⊥
NamesOfFile argument Begin = ⊥
NamesOfFile argument Save = ⊥
NamesOfFile argument Bytes = ⊥

-- the names of the calls; any other argument is left to the draft
abbrev pub NamesCall : List ℕ → Call → Type 0
NamesCall argument Judge = argument ≡ codes "judge"
NamesCall argument Make = argument ≡ codes "make"
NamesCall argument Begin = argument ≡ codes "begin"
NamesCall argument Save = argument ≡ codes "save"
NamesCall argument Bytes = argument ≡ codes "bytes"
NamesCall argument (Change e) = NamesEdit argument (Some e)
NamesCall argument (Ask q) = NamesQuestion argument (Some q)
NamesCall argument Other =
    (argument ≢ codes "judge") × (argument ≢ codes "make") × (argument ≢ codes "begin") × (argument ≢ codes "save") × (argument ≢ codes "bytes")
    × NamesEdit argument None × NamesQuestion argument None
