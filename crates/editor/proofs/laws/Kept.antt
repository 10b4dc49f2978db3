-- What each edit keeps: one lemma to an edit.
use Rattle.std.proofs.Common.{◌≡◌, ℕ, List, length, Ok, subst}
use Rattle.format.specs.Changes.{with_field}
use Rattle.format.specs.Checks.{all_of}
use Rattle.format.specs.Content.{content_sizes}
use Rattle.reader.proofs.Asked.{then_ok}
use Rattle.editor.specs.Edits.{Edit, set, store, add, carry, lengthen, replace, remove, raise, set_conditions, store_conditions, with_row}
use Rattle.editor.proofs.laws.KeptBlocks.{add_keeps, carry_keeps, lengthen_keeps, replace_keeps, remove_keeps}
use Rattle.editor.proofs.laws.Keeping.{KeptBy, Keeping}
use Rattle.editor.proofs.laws.Agrees.{agrees_set, agrees_store}
use Rattle.editor.proofs.raised.Raised.{raise_keeps}
use Rattle.editor.proofs.laws.Sounds.{settable, sound_field, storable, sound_row}

set_keeps : (n x : ℕ) → Keeping (set n x)
set_keeps n x p c d s given room h e =
    let q = then_ok (all_of (set_conditions c.version n)) (Ok (with_field c n x)) d e in
    let k = settable c.version n q.0 in
    let is : with_field c n x ≡ d = cc in
    subst (KeptBy (set n x) p c) is (record {
      sound = sound_field c n x s k given;
      agrees = agrees_set p c n x s k h;
      follows = λ kind keeps numbers text m f. record { given = f.given; beside = f.beside };
    })

store_keeps : (cell row : ℕ) (bytes : List ℕ) → Keeping (store cell row bytes)
store_keeps cell row bytes p c d s given room h e =
    let q = then_ok (all_of (store_conditions (content_sizes c) cell row (length bytes))) (Ok (with_row c cell row bytes)) d e in
    let k = storable (content_sizes c) cell row (length bytes) q.0 in
    let is : with_row c cell row bytes ≡ d = cc in
    subst (KeptBy (store cell row bytes) p c) is (record {
      sound = sound_row c cell row bytes s k given;
      agrees = agrees_store p c cell row bytes s k h;
      follows = λ kind keeps numbers text m f. record { given = f.given; beside = f.beside };
    })

pub edit_keeps : (e : Edit) → Keeping e
edit_keeps (set n x) = set_keeps n x
edit_keeps (store cell row bytes) = store_keeps cell row bytes
edit_keeps (add new) = add_keeps new
edit_keeps (carry key body) = carry_keeps key body
edit_keeps (lengthen k more) = lengthen_keeps k more
edit_keeps (replace k new) = replace_keeps k new
edit_keeps (remove k) = remove_keeps k
edit_keeps (raise xs) = raise_keeps xs
