-- What a whole amendment enters into the ledger.
use Rattle.std.specs.Prelude.{[], ◌∷◌}
use Rattle.editor.specs.Ledger.{Ledger}
use Rattle.editor.specs.Law.{WorkEvent, asked, ledger_of}

-- nine calls one after the other, with a question in between
abbrev pub amended_ledger : Ledger → WorkEvent → WorkEvent → WorkEvent → WorkEvent → WorkEvent
    → WorkEvent → WorkEvent → WorkEvent → WorkEvent → Ledger
amended_ledger l loading raising setting storing adding carrying lengthening replacing removing =
    ledger_of l
    (loading ∷ raising ∷ setting ∷ storing ∷ asked ∷ adding ∷ carrying ∷ lengthening ∷ replacing
    ∷ removing ∷ [])
