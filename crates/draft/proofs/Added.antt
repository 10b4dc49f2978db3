-- What a call adds to a draft: the writing of its content grows by a block or by a cell.
use Rattle.std.proofs.Common.{◌≡◌, ℕ, zero, suc, ◌+◌, ◌-◌, ◌<◌, ◌≤◌, max, List, [], ◌∷◌, ◌++◌, length, take, drop, replicate, sym, refl, ap, ◌∙◌, append_assoc, append-nil, arith}
use Rattle.std.proofs.ByRecursion.{All-append}
use Rattle.std.proofs.lemmas.List.{length-append, length-replicate, take-append-drop}
use Rattle.std.proofs.Math.Seq.{drop-append-add, drop-append_seam, take-append_seam}
use Rattle.std.proofs.lemmas.List.{drop-drop}
use Rattle.buffers.specs.Moves.{written}
use Rattle.buffers.specs.Words.{Bytes}
use Rattle.format.specs.Changes.{with_cells, settled_header, with_last}
use Rattle.format.specs.Content.{Block, Content, IsSound, IsWritable, block_bytes, section, start, header, write, content_sizes}
use Rattle.format.specs.Header.{header_end}
use Rattle.format.specs.Rows.{cells_size}
use Rattle.format.proofs.Trip.{head_six}
use Rattle.format.proofs.Writing.{header_long, writing_changes}
use Rattle.format.specs.InBuffer.{with_file}
use Rattle.editor.proofs.patches.BlockPlans.{block_long}
use Rattle.editor.proofs.patches.Filling.{settled-length}
use Rattle.editor.proofs.laws.SoundBlocks.{fit_slots}
use Rattle.editor.proofs.patches.Spliced.{section-append, settled_file}
use Rattle.draft.specs.Law.{IsGrowing}

-- a file at the start of a buffer, where none stood before
pub file_in : (buffer x : List ℕ) → with_file buffer 0 x ≡ x ++ drop (length x) buffer
file_in buffer x =
    let none : 0 - length x ≡ 0 = omega arith in
    let all : max 0 (length x) ≡ length x = omega arith in
    ap (λ (n : ℕ). x ++ (replicate n 0 ++ drop (max 0 (length x)) buffer)) none ∙ ap (λ (n : ℕ). x ++ drop n buffer) all

-- bytes that are written behind it
pub written_behind : (buffer x r : List ℕ) (at : ℕ) → length x ≡ at → written (with_file buffer 0 x) at r ≡ with_file buffer 0 (x ++ r)
unfolding written
written_behind buffer x r at e =
    let y = drop (length x) buffer in
    let more : drop (length r) y ≡ drop (length (x ++ r)) buffer = drop-drop (length r) (length x) buffer ∙ ap (λ (n : ℕ). drop n buffer) (sym (length-append x r)) in
    ap (λ (n : ℕ). written (with_file buffer 0 x) n r) (sym e)
    ∙ ap (λ (f : List ℕ). written f (length x) r) (file_in buffer x)
    ∙ ap (λ (l : List ℕ). l ++ (r ++ drop (length x + length r) (x ++ y))) (take-append_seam x y)
    ∙ ap (λ (l : List ℕ). x ++ (r ++ l)) (drop-append-add x y (length r) ∙ more)
    ∙ sym (append_assoc x r (drop (length (x ++ r)) buffer))
    ∙ sym (file_in buffer (x ++ r))

-- a buffer that begins with x
pub begins_file : (b x : List ℕ) → take (length x) b ≡ x → b ≡ with_file b 0 x
begins_file b x e = sym (take-append-drop (length x) b) ∙ ap (λ (l : List ℕ). l ++ drop (length x) b) e ∙ sym (file_in b x)

pub file_begins : (b before x : List ℕ) → b ≡ with_file before 0 x → take (length x) b ≡ x
file_begins b before x e = ap (take (length x)) (e ∙ file_in before x) ∙ take-append_seam x (drop (length x) before)

-- a content that is sound as far as it goes, with zeros as its cells
abbrev pub zeros : Content → List ℕ
zeros c = replicate (cells_size (content_sizes c)) 0

zero_bytes : (n : ℕ) → Bytes (replicate n 0)
zero_bytes zero = tt
zero_bytes (suc n) = (omega arith, zero_bytes n)

pub filled_sound : (c : Content) → IsGrowing c → IsSound (with_cells c (zeros c))
filled_sound c g = g.whole (zeros c) (zero_bytes (cells_size (content_sizes c))) (length-replicate (cells_size (content_sizes c)) 0)

pub head_long : (c : Content) → IsGrowing c → length (header c) ≡ header_end c.version
head_long c g = header_long (with_cells c (zeros c)) (filled_sound c g).fields_fit

-- ---- a block more
-- a content that has a header and blocks alone
pub record Bare (c : Content) : Type 0 where
  pub growing : IsGrowing c
  pub no_gap : c.gap ≡ []
  pub no_cells : c.cells ≡ []
  pub no_tail : c.tail ≡ []
  pub late : 6 ≤ c.version

bare_writing : (c : Content) → c.gap ≡ [] → c.cells ≡ [] → c.tail ≡ [] → write c ≡ header c ++ section c.blocks
bare_writing c g e t =
    let h = header c in
    let k = section c.blocks in
    ap (λ (x : List ℕ). h ++ (k ++ (x ++ (c.cells ++ c.tail)))) g
    ∙ ap (λ (x : List ℕ). h ++ (k ++ (x ++ c.tail))) e
    ∙ ap (λ (x : List ℕ). h ++ (k ++ x)) t
    ∙ ap (λ (x : List ℕ). h ++ x) (append-nil k)

module _ (c : Content) (k : Block) (four : length k.key ≡ 4) (bare : Bare c) where
  head : length (header c) ≡ 104
  head = head_long c bare.growing ∙ head_six c.version bare.late

  long : length (write c) ≡ 104 + length (section c.blocks)
  long = ap length (bare_writing c bare.no_gap bare.no_cells bare.no_tail) ∙ length-append (header c) (section c.blocks) ∙ ap (λ (n : ℕ). n + length (section c.blocks)) head

  blocks_long : length (section (c.blocks ++ (k ∷ []))) ≡ length (section c.blocks) + (8 + length k.body)
  blocks_long =
      ap length (section-append c.blocks (k ∷ [])) ∙ length-append (section c.blocks) (block_bytes k ++ [])
      ∙ ap (λ (l : List ℕ). length (section c.blocks) + length l) (append-nil (block_bytes k)) ∙ ap (λ (n : ℕ). length (section c.blocks) + n) (block_long k.key k.body four)

  -- where its data begin
  pub starts : start (with_last c k) ≡ length (write c) + (8 + length k.body)
  starts =
      let e = head_six c.version bare.late in
      let gap : length c.gap ≡ 0 = ap length bare.no_gap in
      let l = long in
      let b = blocks_long in
      omega arith

  -- the writing with the block, by the writing without it
  pub last_written : write (with_last c k) ≡ settled_header (write c) (length (write c) + (8 + length k.body)) (length (write c) + (8 + length k.body) - 104) ++ block_bytes k
  last_written =
      let d = with_last c k in
      let ks = c.blocks ++ (k ∷ []) in
      let end = length (write c) + (8 + length k.body) in
      let l = long in
      let b = blocks_long in
      let size : length (section ks) ≡ end - 104 = omega arith in
      let old = bare_writing c bare.no_gap bare.no_cells bare.no_tail in
      let rest : drop (length (header c)) (write c) ≡ section c.blocks = ap (drop (length (header c))) old ∙ drop-append_seam (header c) (section c.blocks) in
      let apart : with_file (write c) 0 (header c) ≡ write c = file_in (write c) (header c) ∙ ap (λ (x : List ℕ). header c ++ x) rest ∙ sym old in
      let moved : settled_header (write c) end (end - 104) ≡ with_file (write c) 0 (settled_header (header c) end (end - 104)) =
      ap (λ (x : List ℕ). settled_header x end (end - 104)) (sym apart) ∙ settled_file (write c) (header c) 0 end (end - 104) (omega (arith, head)) in
      let same : length (settled_header (header c) end (end - 104)) ≡ length (header c) = settled-length (header c) end (end - 104) (omega (arith, head)) in
      let whole : settled_header (write c) end (end - 104) ≡ settled_header (header c) end (end - 104) ++ section c.blocks =
      moved ∙ file_in (write c) (settled_header (header c) end (end - 104)) ∙ ap (λ (n : ℕ). settled_header (header c) end (end - 104) ++ drop n (write c)) same
      ∙ ap (λ (x : List ℕ). settled_header (header c) end (end - 104) ++ x) rest in
      let front : header d ≡ settled_header (header c) end (end - 104) =
      (writing_changes (with_cells c (zeros c)) (filled_sound c bare.growing)).header_change ks bare.late
      ∙ ap (λ (n : ℕ). settled_header (header c) n (length (section ks))) starts ∙ ap (λ (n : ℕ). settled_header (header c) end n) size in
      bare_writing d bare.no_gap bare.no_cells bare.no_tail
      ∙ ap (λ (x : List ℕ). x ++ section ks) front
      ∙ ap (λ (x : List ℕ). settled_header (header c) end (end - 104) ++ x) (section-append c.blocks (k ∷ []) ∙ ap (λ (x : List ℕ). section c.blocks ++ x) (append-nil (block_bytes k)))
      ∙ sym (append_assoc (settled_header (header c) end (end - 104)) (section c.blocks) (block_bytes k))
      ∙ ap (λ (x : List ℕ). x ++ block_bytes k) (sym whole)

  pub last_long : length (write (with_last c k)) ≡ length (write c) + (8 + length k.body)
  last_long =
      let end = length (write c) + (8 + length k.body) in
      let l = long in
      ap length last_written ∙ length-append (settled_header (write c) end (end - 104)) (block_bytes k)
      ∙ ap (λ (n : ℕ). n + length (block_bytes k)) (settled-length (write c) end (end - 104) (omega arith))
      ∙ ap (λ (n : ℕ). length (write c) + n) (block_long k.key k.body four)

  -- in a buffer
  pub last_in_buffer : (buffer before : List ℕ) → buffer ≡ with_file before 0 (write c)
      → written (settled_header buffer (length (write c) + (8 + length k.body)) (length (write c) + (8 + length k.body) - 104)) (length (write c)) (block_bytes k) ≡ with_file before 0 (write (with_last c k))
  last_in_buffer buffer before e =
      let end = length (write c) + (8 + length k.body) in
      let l = long in
      ap (λ (x : List ℕ). written (settled_header x end (end - 104)) (length (write c)) (block_bytes k)) e
      ∙ ap (λ (x : List ℕ). written x (length (write c)) (block_bytes k)) (settled_file before (write c) 0 end (end - 104) (omega arith))
      ∙ written_behind before (settled_header (write c) end (end - 104)) (block_bytes k) (length (write c)) (settled-length (write c) end (end - 104) (omega arith))
      ∙ ap (with_file before 0) (sym last_written)

  -- it is sound as far as it goes, if it is not too long
  pub last_growing : Bytes k.key → Bytes k.body → length (write (with_last c k)) ≤ 1073741824 → IsGrowing (with_last c k)
  last_growing key body room =
      let l = last_long in
      let s = starts in
      let writable : IsWritable k = record { key_size = four; key_bytes = key; body_size = omega arith; body_bytes = body } in
      record {
        cells_bytes = bare.growing.cells_bytes;
        whole = λ cells fit size.
            let old = bare.growing.whole cells fit size in
            record {
              version_from = old.version_from;
              version_to = old.version_to;
              fields_fit = fit_slots c.version _ _ _ _ c.fields old.fields_fit;
              reach = omega arith;
              bins_from = old.bins_from;
              bins_to = old.bins_to;
              ranges_from = old.ranges_from;
              ranges_to = old.ranges_to;
              channels = old.channels;
              blocks_fit = All-append IsWritable c.blocks (k ∷ []) old.blocks_fit (writable, tt);
              blocks_from_six = λ early. absurd (omega (arith, bare.late));
              gap_bytes = old.gap_bytes;
              cells_bytes = old.cells_bytes;
              tail_bytes = old.tail_bytes;
              cells_whole = old.cells_whole;
            };
      }

-- ---- a cell more
cells_written : (c : Content) (more : List ℕ) → c.tail ≡ [] → write (with_cells c (c.cells ++ more)) ≡ write c ++ more
cells_written c more t =
    let h = header c in
    let k = section c.blocks in
    let none : (x : List ℕ) → x ++ c.tail ≡ x = λ x. ap (λ (y : List ℕ). x ++ y) t ∙ append-nil x in
    ap (λ (x : List ℕ). h ++ (k ++ (c.gap ++ x))) (none (c.cells ++ more))
    ∙ sym (ap (λ (x : List ℕ). x ++ more) (ap (λ (x : List ℕ). h ++ (k ++ (c.gap ++ x))) (none c.cells))
    ∙ append_assoc h (k ++ (c.gap ++ c.cells)) more
    ∙ ap (λ (x : List ℕ). h ++ x) (append_assoc k (c.gap ++ c.cells) more)
    ∙ ap (λ (x : List ℕ). h ++ (k ++ x)) (append_assoc c.gap c.cells more))

pub cells_long : (c : Content) (more : List ℕ) → c.tail ≡ [] → length (write (with_cells c (c.cells ++ more))) ≡ length (write c) + length more
cells_long c more t = ap length (cells_written c more t) ∙ length-append (write c) more

pub cells_in_buffer : (c : Content) (more buffer before : List ℕ) → c.tail ≡ [] → buffer ≡ with_file before 0 (write c)
    → written buffer (length (write c)) more ≡ with_file before 0 (write (with_cells c (c.cells ++ more)))
cells_in_buffer c more buffer before t e =
    ap (λ (x : List ℕ). written x (length (write c)) more) e ∙ written_behind before (write c) more (length (write c)) refl
    ∙ ap (with_file before 0) (sym (cells_written c more t))

pub cells_growing : (c : Content) (more : List ℕ) → Bytes more → IsGrowing c → IsGrowing (with_cells c (c.cells ++ more))
cells_growing c more b g = record { cells_bytes = All-append (λ x. x < 256) c.cells more g.cells_bytes b; whole = g.whole }
