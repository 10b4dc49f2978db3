-- The keys of a judged file's blocks, as a walk over them meets them.
use Rattle.std.proofs.Common.{◌≡◌, ℕ, List, [], Ok, Err, Result, sym, ap, ◌∙◌, arith}
use Rattle.faults.specs.declared.fault.Fault.{Fault}
use Rattle.format.specs.declared.judging.Layout.{Layout}
use Rattle.format.specs.Checks.{◌with◌}
use Rattle.format.specs.Judging.{judged}
use Rattle.kutsvame.specs.Lines.{keys_of}
use Rattle.printed.specs.Keys.{keys_text}
use Rattle.reader.specs.declared.blocks.Entry.{Entry}
use Rattle.reader.specs.Answers.{entries, blocks_answer}
use Rattle.reader.specs.Levels.{layout_of_file, file_layout, accepted_layout, or_no_file}

-- a file that was judged so has that layout, or none
held_is : (b : List ℕ) (r : Result Layout Fault) → r ≡ judged b → layout_of_file b ≡ or_no_file (accepted_layout r)
unfolding layout_of_file file_layout
held_is b r is = ap (λ (v : Result Layout Fault). or_no_file (accepted_layout v)) (sym is)

-- and as many blocks as the layout says
blocks_are : (b : List ℕ) (r : Result Layout Fault) → r ≡ judged b
    → blocks_answer b ≡ (or_no_file (accepted_layout r) with λ l. Ok (entries b l.blocks))
blocks_are b r is = ap (λ (held : Result Layout Fault). held with λ l. Ok (entries b l.blocks)) (held_is b r is)

-- the keys of the blocks that a walk over an accepted file meets are those of the file
pub walked_whole : (b : List ℕ) (r : Result Layout Fault) (es : List Entry) → r ≡ judged b → blocks_answer b ≡ Ok es → keys_text 33 126 es ≡ keys_of b r
walked_whole b (Ok l) es is answered =
    let same : ◌≡◌ {A = Result (List Entry) Fault} (Ok (entries b l.blocks)) (Ok es) = sym (blocks_are b (Ok l) is) ∙ answered in
    let whole : es ≡ entries b l.blocks = cc in
    ap (keys_text 33 126) whole
walked_whole b (Err f) es is answered =
    let none = sym (blocks_are b (Err f) is) ∙ answered in
    let clash : ◌≡◌ {A = ℕ} 0 1 = cc in
    absurd (omega arith)

-- a file that was judged so and has no walk was refused, and has no keys
pub not_walked : (b : List ℕ) (r : Result Layout Fault) (f : Fault) (keys : List ℕ) → r ≡ judged b → blocks_answer b ≡ Err f → keys ≡ [] → keys ≡ keys_of b r
not_walked b (Ok l) f keys is answered empty =
    let some : ◌≡◌ {A = Result (List Entry) Fault} (Ok (entries b l.blocks)) (Err f) = sym (blocks_are b (Ok l) is) ∙ answered in
    let clash : ◌≡◌ {A = ℕ} 0 1 = cc in
    absurd (omega arith)
not_walked b (Err g) f keys is answered empty = empty
