-- What an edit keeps, stated once for all edits.
use Rattle.std.proofs.Common.{◌≡◌, ℕ, ◌<◌, ◌≤◌, List, length, Ok}
use Rattle.format.specs.Content.{Content, IsSound, write}
use Rattle.kinds.specs.Kind.{KindSpec, IsSoundKind}
use Rattle.editor.specs.Edits.{Edit, edited_content}
use Rattle.editor.specs.Calls.{edit}
use Rattle.editor.specs.Ledger.{Page, page_after}
use Rattle.editor.specs.Law.{IsGiven}
use Rattle.editor.proofs.laws.Agrees.{Agrees}
use Rattle.editor.proofs.laws.Looks.{Showing}
use Rattle.editor.proofs.laws.Marks.{Beside}

-- the mark m was given, and the block that has it, if one does, shows that to the kind
pub record Follows (kind : KindSpec) (numbers text : List ℕ) (m : ℕ) (p : Page) (c : Content) : Type 0 where
  pub given : m < p.next
  pub beside : Beside (λ n x. n ≡ m → Showing kind numbers text x) p.marks c.blocks

-- an accepted edit keeps a content sound and the page in agreement with it, and what a block shows
-- goes with its mark
pub record KeptBy (e : Edit) (p : Page) (c d : Content) : Type 0 where
  pub sound : IsSound d
  pub agrees : Agrees (page_after e p) d
  pub follows : (kind : KindSpec) → IsSoundKind kind → (numbers text : List ℕ) (m : ℕ) → Follows kind numbers text m p c → Follows kind numbers text m (page_after e p) d

abbrev pub Keeping : Edit → Type 0
Keeping e = (p : Page) (c d : Content) → IsSound c → IsGiven (edit e) → length (write d) ≤ 1073741824 → Agrees p c → edited_content e c ≡ Ok d → KeptBy e p c d
