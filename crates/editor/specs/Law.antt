-- The readers' law: whatever is called on a working file, what is read of it is what the ledger of
-- the calls says.
use Rattle.std.specs.Prelude.{◌≡◌, ℕ, ◌+◌, ◌-◌, ◌/◌, ◌^◌, ◌<◌, ◌≤◌, List, [], ◌∷◌, length, Some, Ok}
use Rattle.std.specs.List.{AllByRecursion, slice_get}
use Rattle.buffers.specs.Words.{Bytes}
use Rattle.format.specs.declared.judging.Layout.{Layout}
use Rattle.format.specs.Checks.{Check, ◌with◌}
use Rattle.format.specs.Content.{IsSound, write, content}
use Rattle.kinds.specs.Kind.{KindSpec, IsSoundKind, Payload}
use Rattle.reader.specs.Answers.{Sight, part, list_after, version_answer, field_answer, row_part, numbers_answer, numbers_list, look_answer}
use Rattle.reader.specs.Laws.{AgreedFile, ReadFile}
use Rattle.reader.specs.Levels.{layout_of_file, enough_room}
use Rattle.kinds.specs.Writing.{IsBytesWritten}
use Rattle.editor.specs.Edits.{set, store, add, carry, lengthen, replace, remove, raise}
use Rattle.editor.specs.Calls.{WorkState, Call, load, edit, file, call_answer, state_after}
use Rattle.format.specs.InBuffer.{capacity}
use Rattle.editor.specs.Ledger.{Page, Ledger, page, ledger_entered, ledger_version, ledger_count, ledger_field, ledger_row}

-- what happens to a working file: a call with its answer, or a question
pub data WorkEvent : Type 0 where
  called : Call → Check → WorkEvent
  asked : WorkEvent

-- the arguments of a call are bytes and 32-bit numbers, and a key is four bytes
abbrev pub IsGiven : Call → Type 0
IsGiven (load bytes) = Bytes bytes
IsGiven (edit (set n x)) = x < 2 ^ 32
IsGiven (edit (store cell row bytes)) = Bytes bytes
IsGiven (edit (add new)) = (length new.kind.key ≡ 4) × Bytes new.kind.key × IsBytesWritten new
IsGiven (edit (carry key body)) = (length key ≡ 4) × Bytes key × Bytes body
IsGiven (edit (lengthen k more)) = Bytes more
IsGiven (edit (replace k new)) = IsBytesWritten new
IsGiven (edit (remove k)) = Unit {0}
IsGiven (edit (raise xs)) = AllByRecursion (λ x. x < 2 ^ 32) xs

-- a run of calls, refused ones too, and of questions, which change nothing
pub data WorkRun : WorkState → List WorkEvent → WorkState → Type 0 where
  stop : {s : WorkState} → WorkRun s [] s
  call : {s t : WorkState} {es : List WorkEvent} → (c : Call)
      → (call_answer c s ≡ Ok tt → IsGiven c) → WorkRun (state_after c s) es t
      → WorkRun s (called c (call_answer c s) ∷ es) t
  ask : {s t : WorkState} {es : List WorkEvent} → WorkRun s es t → WorkRun s (asked ∷ es) t

-- the ledger after the events
abbrev pub ledger_of : Ledger → List WorkEvent → Ledger
ledger_of l [] = l
ledger_of l (called c a ∷ es) = ledger_of (ledger_entered l c a) es
ledger_of l (asked ∷ es) = ledger_of l es

-- a file is held
abbrev pub HoldsFile : WorkState → Type 0
HoldsFile s = (l : Layout) × (layout_of_file (file s) ≡ Ok l)

-- the ledger is not blank
abbrev pub IsWritten : Ledger → Type 0
IsWritten l = (p : Page) × (l ≡ page p)

-- the file is the writing of its content, and lies within the capacity
pub record IsWholeFile (s : WorkState) : Type 0 where
  pub sound : IsSound (content (file s))
  pub written : write (content (file s)) ≡ file s
  pub size_is : length (file s) ≡ s.size
  pub room : s.size ≤ capacity s.buffer

-- what is read of a working file is what the ledger tells
pub record ReadsAs (l : Ledger) (s : WorkState) : Type 0 where
  -- a file is held exactly when the ledger is not blank
  pub written : HoldsFile s → IsWritten l
  pub holds : IsWritten l → HoldsFile s
  pub whole : HoldsFile s → IsWholeFile s
  -- the readers of all levels find the data at one byte; blocks fill the section, as many as there
  -- are marks; rows lie behind header and section, inside the file, and no two overlap
  pub agree : AgreedFile (file s)
  pub read : ReadFile (file s)
  pub count : (layout_of_file (file s) with λ k. Ok k.blocks) ≡ ledger_count l
  -- version, fields and rows are the ledger's at every level, or refused as the conditions say
  pub version : version_answer (file s) ≡ ledger_version l
  pub fields : (level n : ℕ) → field_answer (file s) level n ≡ ledger_field l level n
  pub rows : (level cell row : ℕ) → row_part (file s) level cell row ≡ ledger_row l level cell row
  pub numbers : (level cell row room : ℕ)
      → numbers_answer (file s) level cell row room
      ≡ (ledger_row l level cell row with λ bytes. enough_room (length bytes / 4) room)
  pub list : (level cell row : ℕ) (old : List ℕ)
      → numbers_list (file s) level cell row old
      ≡ list_after old (ledger_row l level cell row) (ledger_row l level cell row with λ bytes.
      enough_room (length bytes / 4) (length old))

-- block k shows a record's numbers and a text to a kind
pub record Shows (kind : KindSpec) (s : WorkState) (k : ℕ) (numbers text : List ℕ) : Type 0 where
  pub sight : Sight
  pub looked : look_answer kind (file s) k ≡ Ok sight
  pub numbers_are : sight.numbers ≡ numbers
  pub text_is : part (file s) (sight.text, sight.size) ≡ text

-- block k has the mark m
abbrev pub HasMark : Ledger → ℕ → ℕ → Type 0
HasMark l k m = (p : Page) × (l ≡ page p) × (1 ≤ k) × (slice_get p.marks (k - 1) ≡ Some m)

-- what a block shows to a kind that keeps the conditions, the block with the same mark shows later
abbrev pub Lasts : Ledger → WorkState → Ledger → WorkState → Type 0
Lasts l s later t =
    (kind : KindSpec) → IsSoundKind kind → (i j m : ℕ) (numbers text : List ℕ)
    → HasMark l i m → Shows kind s i numbers text → HasMark later j m → Shows kind t j numbers text

-- after an accepted add the last block shows the numbers and the text given, and after an accepted
-- replace that block does
pub record ShowsGiven (s : WorkState) : Type 0 where
  pub added : (new : Payload) → IsSoundKind new.kind → (n : ℕ) → IsGiven (edit (add new))
      → call_answer (edit (add new)) s ≡ Ok tt
      → (layout_of_file (file s) with λ k. Ok k.blocks) ≡ Ok n
      → Shows new.kind (state_after (edit (add new)) s) (n + 1) new.numbers new.text
  pub replaced : (new : Payload) → IsSoundKind new.kind → (k : ℕ) → IsGiven (edit (replace k new))
      → call_answer (edit (replace k new)) s ≡ Ok tt
      → Shows new.kind (state_after (edit (replace k new)) s) k new.numbers new.text

-- of every run from the state s on, with the ledger l at its begin
pub record ReadersLaw (l : Ledger) (s : WorkState) : Type 0 where
  pub tells : (es : List WorkEvent) (t : WorkState) → WorkRun s es t → ReadsAs (ledger_of l es) t
  pub lasts : (es fs : List WorkEvent) (t u : WorkState) → WorkRun s es t → WorkRun t fs u
      → Lasts (ledger_of l es) t (ledger_of (ledger_of l es) fs) u
  pub given : (es : List WorkEvent) (t : WorkState) → WorkRun s es t → ShowsGiven t
