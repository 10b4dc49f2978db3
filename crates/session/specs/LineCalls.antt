-- What the arguments of a line ask of a working file.
use Rattle.std.specs.Prelude.{◌≡◌, ℕ, List, Result, ⊤}
use Rattle.buffers.specs.Words.{four, eight}
use Rattle.kinds.specs.Packed.{plain}
use Rattle.script.specs.Numbers.{number_for}
use Rattle.script.specs.Arguments.{argument, after_argument}
use Rattle.faults.specs.declared.fault.Fault.{Fault}
use Rattle.editor.specs.Calls.{Call, WorkState, load, edit, call_answer, state_after}
use Rattle.editor.specs.Edits.{set, store, carry, lengthen, remove}
use Rattle.reader.specs.Answers.{version_answer, start_answer, field_answer, row_answer, block_answer}
use Rattle.reader.specs.declared.rows.RowAt.{RowAt}
use Rattle.session.specs.declared.names.Edit.{Edit}
use Rattle.session.specs.declared.names.Edit.TheVariants.{Load, Set, Store, Add, Carry, Lengthen, Replace, Remove, Raise}
use Rattle.session.specs.declared.names.Question.{Question}
use Rattle.session.specs.declared.names.Question.TheVariants.{Version, Start, Field, Row, Numbers, Block, Look, Table}
use Rattle.calls.specs.declared.outcome.Outcome.{Outcome}
use Rattle.calls.specs.Bytes.{IsSaidBy}
use Rattle.calls.specs.Outcome.{number_or_refused, span_or_refused, head_or_refused}

-- the number that the first argument of a text writes, the second, and the third
abbrev pub first_number : List ℕ → ℕ
first_number t = number_for (plain eight) (argument t)

abbrev pub second_number : List ℕ → ℕ
second_number t = first_number (after_argument t)

abbrev pub third_number : List ℕ → ℕ
third_number t = second_number (after_argument t)

-- level, cell and row, by the first three arguments
abbrev pub IsRowAt : List ℕ → RowAt → Type 0
IsRowAt t at = (at.level ≡ first_number t) × (at.cell ≡ second_number t) × (at.row ≡ third_number t)

-- set FIELD VALUE, the value being one of 32 bits
abbrev pub set_call : List ℕ → Call
set_call t = edit (set (first_number t) (number_for (plain four) (argument (after_argument t))))

-- drop BLOCK
abbrev pub remove_call : List ℕ → Call
remove_call t = edit (remove (first_number t))

-- one of those that a line asks for was made: its answer, and what it left
abbrev pub MakesCall : Call → WorkState → Result (Unit {0}) Fault → WorkState → Type 0
MakesCall call old done new = (done ≡ call_answer call old) × (new ≡ state_after call old)

-- load BYTES
abbrev pub MakesLoad : List ℕ → WorkState → Result (Unit {0}) Fault → WorkState → Type 0
MakesLoad t old done new = (bs : List ℕ) × (IsSaidBy (argument t) bs × MakesCall (load bs) old done new)

-- store CELL ROW BYTES
abbrev pub MakesStore : List ℕ → WorkState → Result (Unit {0}) Fault → WorkState → Type 0
MakesStore t old done new =
    (bs : List ℕ) × (IsSaidBy (argument (after_argument (after_argument t))) bs
    × MakesCall (edit (store (first_number t) (second_number t) bs)) old done new)

-- lengthen BLOCK BYTES
abbrev pub MakesLengthen : List ℕ → WorkState → Result (Unit {0}) Fault → WorkState → Type 0
MakesLengthen t old done new =
    (bs : List ℕ) × (IsSaidBy (argument (after_argument t)) bs × MakesCall (edit (lengthen (first_number t) bs)) old done new)

-- carry KEY BYTES
abbrev pub MakesCarry : List ℕ → WorkState → Result (Unit {0}) Fault → WorkState → Type 0
MakesCarry t old done new =
    (key : List ℕ) × ((body : List ℕ) × (IsSaidBy (argument t) key × IsSaidBy (argument (after_argument t)) body
    × MakesCall (edit (carry key body)) old done new))

-- the edit of that name, as the arguments after it ask; of the blocks of a kind, and of the values
-- of a raise, nothing is said here
abbrev pub MakesEdit : Edit → List ℕ → WorkState → Result (Unit {0}) Fault → WorkState → Type 0
MakesEdit Load t old done new = MakesLoad t old done new
MakesEdit Set t old done new = MakesCall (set_call t) old done new
MakesEdit Store t old done new = MakesStore t old done new
MakesEdit Add t old done new = ⊤
MakesEdit Carry t old done new = MakesCarry t old done new
MakesEdit Lengthen t old done new = MakesLengthen t old done new
MakesEdit Replace t old done new = ⊤
MakesEdit Remove t old done new = MakesCall (remove_call t) old done new
MakesEdit Raise t old done new = ⊤

-- start LEVEL, field LEVEL FIELD, row LEVEL CELL ROW and block LEVEL BLOCK, asked of a file
abbrev pub start_outcome : List ℕ → List ℕ → Outcome
start_outcome file t = number_or_refused (start_answer file (first_number t))

abbrev pub field_outcome : List ℕ → List ℕ → Outcome
field_outcome file t = number_or_refused (field_answer file (first_number t) (second_number t))

abbrev pub row_outcome : List ℕ → List ℕ → Outcome
row_outcome file t = span_or_refused (row_answer file (first_number t) (second_number t) (third_number t))

abbrev pub block_outcome : List ℕ → List ℕ → Outcome
block_outcome file t = head_or_refused (block_answer file (first_number t) (second_number t))

-- what a question is told of a file by the arguments after it; of the answers that are lists
-- nothing is said here
abbrev pub AnswersQuestion : Question → List ℕ → List ℕ → Outcome → Type 0
AnswersQuestion Version file t told = told ≡ number_or_refused (version_answer file)
AnswersQuestion Start file t told = told ≡ start_outcome file t
AnswersQuestion Field file t told = told ≡ field_outcome file t
AnswersQuestion Row file t told = told ≡ row_outcome file t
AnswersQuestion Block file t told = told ≡ block_outcome file t
AnswersQuestion Numbers file t told = ⊤
AnswersQuestion Look file t told = ⊤
AnswersQuestion Table file t told = ⊤
