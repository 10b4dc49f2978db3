-- A page agrees with a content whose blocks are edited, and what a block shows goes with its mark.
use Rattle.std.proofs.Common.{◌≡◌, ℕ, suc, ◌+◌, ◌-◌, ◌<◌, List, [], ◌∷◌, ◌++◌, length, slice_set, take, drop, Some, sym, ap, ◌∙◌, arith}
use Rattle.std.proofs.lemmas.List.{length-append, length-set, take-append-le, length-drop, drop-append-le}
use Rattle.std.specs.List.{slice_get}
use Rattle.format.specs.Changes.{with_blocks, with_last}
use Rattle.format.specs.Content.{Block, Content}
use Rattle.kinds.specs.Kind.{KindSpec, IsSoundKind}
use Rattle.editor.specs.Blocks.{longer_block}
use Rattle.editor.specs.Edits.{with_block}
use Rattle.editor.specs.Ledger.{Page, with_marks, with_new}
use Rattle.editor.proofs.laws.Agrees.{Agrees}
use Rattle.editor.proofs.laws.Keeping.{Follows}
use Rattle.editor.proofs.laws.Looks.{Showing}
use Rattle.editor.proofs.laws.Marks.{below_push, below_set, below_without, apart_push, apart_set, apart_without, beside_push, beside_set, beside_change, beside_without, length-without}

module _ (p : Page) (c : Content) (h : Agrees p c) where
  pub agrees_last : (b : Block) → Agrees (with_new p (p.marks ++ (p.next ∷ []))) (with_last c b)
  agrees_last b =
      record {
        version = h.version;
        fields = h.fields;
        rows = h.rows;
        count = length-append p.marks (p.next ∷ []) ∙ ap (λ (n : ℕ). n + 1) h.count ∙ sym (length-append c.blocks (b ∷ []));
        below = below_push p.next p.marks h.below;
        apart = apart_push p.next p.marks h.below h.apart;
      }

  pub agrees_changed : (k : ℕ) (b : Block) → Agrees p (with_block c k b)
  agrees_changed k b =
      record {
        version = h.version;
        fields = h.fields;
        rows = h.rows;
        count = h.count ∙ sym (length-set c.blocks (k - 1) b);
        below = h.below;
        apart = h.apart;
      }

  pub agrees_renewed : (k : ℕ) (b : Block) → Agrees (with_new p (slice_set p.marks (k - 1) p.next)) (with_block c k b)
  agrees_renewed k b =
      record {
        version = h.version;
        fields = h.fields;
        rows = h.rows;
        count = length-set p.marks (k - 1) p.next ∙ h.count ∙ sym (length-set c.blocks (k - 1) b);
        below = below_set p.next p.marks (k - 1) h.below;
        apart = apart_set p.next p.marks (k - 1) h.below h.apart;
      }

  pub agrees_without : (i : ℕ) → i < length c.blocks
      → Agrees (with_marks p (take i p.marks ++ drop (suc i) p.marks)) (with_blocks c (take i c.blocks ++ drop (suc i) c.blocks))
  agrees_without i less =
      let count = h.count in
      let l1 = length-without p.marks i (omega arith) in
      let l2 = length-without c.blocks i less in
      record {
        version = h.version;
        fields = h.fields;
        rows = h.rows;
        count = omega arith;
        below = below_without p.next p.marks i h.below;
        apart = apart_without p.marks i h.apart;
      }

-- data that go on show what they showed
pub showing_longer : (kind : KindSpec) → IsSoundKind kind → (numbers text : List ℕ) (x : Block) (more : List ℕ) → Showing kind numbers text x → Showing kind numbers text (longer_block x more)
showing_longer kind keeps numbers text x more w =
    let s = keeps.steady x.body numbers w.at w.size w.used w.reads in
    let within = s.within in
    let inside = s.inside in
    record {
      key = w.key;
      at = w.at;
      size = w.size;
      used = w.used;
      reads = s.same (x.body ++ more) (take-append-le w.used x.body more within);
      text_is =
          ap (take w.size) (drop-append-le w.at x.body more (omega arith))
          ∙ take-append-le w.size (drop w.at x.body) more (simp length-drop (omega arith)) ∙ w.text_is;
    }

module _ (kind : KindSpec) (keeps : IsSoundKind kind) (numbers text : List ℕ) (m : ℕ) (p : Page) (c : Content) (f : Follows kind numbers text m p c) where
  -- a new mark is none that was given
  new_mark : (b : Block) → p.next ≡ m → Showing kind numbers text b
  new_mark b e = absurd (omega (arith, f.given))

  pub follows_last : (b : Block) → Follows kind numbers text m (with_new p (p.marks ++ (p.next ∷ []))) (with_last c b)
  follows_last b = record { given = omega (arith, f.given); beside = beside_push (λ n x. n ≡ m → Showing kind numbers text x) p.marks c.blocks p.next b f.beside (new_mark b) }

  pub follows_longer : (k : ℕ) (b : Block) (more : List ℕ) → slice_get c.blocks (k - 1) ≡ Some b → Follows kind numbers text m p (with_block c k (longer_block b more))
  follows_longer k b more e =
      record {
        given = f.given;
        beside =
            beside_change (λ n x. n ≡ m → Showing kind numbers text x) p.marks c.blocks (k - 1) b (longer_block b more) e
            (λ n shows is. showing_longer kind keeps numbers text b more (shows is)) f.beside;
      }

  pub follows_renewed : (k : ℕ) (b : Block) → Follows kind numbers text m (with_new p (slice_set p.marks (k - 1) p.next)) (with_block c k b)
  follows_renewed k b =
      record { given = omega (arith, f.given); beside = beside_set (λ n x. n ≡ m → Showing kind numbers text x) p.marks c.blocks (k - 1) p.next b f.beside (new_mark b) }

  pub follows_without : (i : ℕ) → Follows kind numbers text m (with_marks p (take i p.marks ++ drop (suc i) p.marks)) (with_blocks c (take i c.blocks ++ drop (suc i) c.blocks))
  follows_without i = record { given = f.given; beside = beside_without (λ n x. n ≡ m → Showing kind numbers text x) p.marks c.blocks i f.beside }
