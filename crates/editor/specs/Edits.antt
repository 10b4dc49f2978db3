-- Edits: what each makes of a content, or why it is refused.
use Rattle.std.specs.Prelude.{ℕ, ◌+◌, ◌-◌, ◌&&◌, not, cond, List, [], ◌∷◌, ◌++◌, length, take, drop, Ok, Result, ◌==◌, nat_lt, slice_set}
use Rattle.buffers.specs.Moves.{written}
use Rattle.faults.specs.declared.fault.Fault.{Fault}
use Rattle.faults.specs.declared.refusal.Refusal.TheVariants.{SteeringField, NothingToRaise, Gap}
use Rattle.faults.specs.Faults.{fault}
use Rattle.format.specs.declared.sizes.Sizes.{Sizes}
use Rattle.format.specs.Changes.{with_blocks, with_last, with_field, with_cells, with_header}
use Rattle.format.specs.Checks.{Check, unless, ◌then◌, ◌with◌, all_of}
use Rattle.format.specs.Content.{Block, Content, write, content_sizes, block}
use Rattle.format.specs.Header.{the_field, is_steering}
use Rattle.headers.specs.Fields.{FillingSpec, filled_values, values_wanted}
use Rattle.kinds.specs.Kind.{Payload, payload_output}
use Rattle.editor.specs.Blocks.{block_in, longer_block, renewed_block}
use Rattle.kinds.specs.Writing.{output_bytes}
use Rattle.format.specs.Rows.{row_in}
use Rattle.format.specs.Conditions.{field_known, as_long}
use Rattle.reader.specs.Answers.{part, look_answer}
use Rattle.reader.specs.Levels.{field_present, row_known, blocks_present, block_conditions}

-- an edit of the file that is held
pub data Edit : Type 0 where
  -- a value for a field, by its number
  set : ℕ → ℕ → Edit
  -- other bytes for a row, by its cell and its number
  store : ℕ → ℕ → List ℕ → Edit
  -- a block that a kind writes, behind the last block
  add : Payload → Edit
  -- a block with a key and data, behind the last block
  carry : List ℕ → List ℕ → Edit
  -- more bytes at the end of a block's data
  lengthen : ℕ → List ℕ → Edit
  -- what a kind writes, in the place of what it used of a block
  replace : ℕ → Payload → Edit
  -- a block less
  remove : ℕ → Edit
  -- the next version, with values for the fields that it has more
  raise : List ℕ → Edit

-- no edit sets a field that steers the layout of the data
abbrev pub field_free : ℕ → Check
field_free n = unless (not (is_steering n)) (fault SteeringField 0)

-- what is asked where a field is set, in order, in a file of version v
abbrev pub set_conditions : ℕ → ℕ → List Check
set_conditions v n = field_known n ∷ field_free n ∷ field_present v n ∷ []

-- what is asked where m bytes are stored as a row, in order, in a file of those sizes
abbrev pub store_conditions : Sizes → ℕ → ℕ → ℕ → List Check
store_conditions s cell row m = row_known s cell row ∷ as_long (row_in s cell row).1 m ∷ []

-- the bytes of a row of a content
abbrev pub row_of : Content → ℕ → ℕ → List ℕ
row_of c cell row = part c.cells (row_in (content_sizes c) cell row)

-- the content with other bytes in a row
abbrev pub with_row : Content → ℕ → ℕ → List ℕ → Content
with_row c cell row bytes =
    with_cells c (written c.cells (row_in (content_sizes c) cell row).0 bytes)

-- the blocks with another in the place of block k, and without block k
abbrev pub with_block : Content → ℕ → Block → Content
with_block c k b = with_blocks c (slice_set c.blocks (k - 1) b)

abbrev pub without_block : Content → ℕ → Content
without_block c k = with_blocks c (take (k - 1) c.blocks ++ drop k c.blocks)

-- what a raise gives the fields that take no value: 1 for field 2, which is no quality, and for the
-- rest the sizes that the file had before
abbrev pub raise_given : Sizes → ℕ → ℕ
raise_given s n =
    cond (n == 2) 1 (cond (n == 11) s.bins (cond (n == 12) s.ranges (cond (n == 13) s.first s.channels)))

-- how a raise fills the header of a file of version v and those sizes: with the fields of the next
-- level. Those that neither steer the layout nor are field 13 take a value of the caller's
abbrev pub raise_filling : ℕ → Sizes → FillingSpec
raise_filling v s =
    record {
      has = λ n. (the_field n).level == v + 1;
      takes = λ n. not (is_steering n) && not (n == 13);
      given = raise_given s;
    }

-- what is asked of a raise with m values, in order
abbrev pub raise_conditions : Content → ℕ → List Check
raise_conditions c m =
    unless (nat_lt c.version 6) (fault NothingToRaise 0)
    ∷ unless (length c.gap == 0) (fault Gap 0)
    ∷ as_long (values_wanted (raise_filling c.version (content_sizes c))) m
    ∷ []

-- the content under the next version
abbrev pub raised_content : Content → List ℕ → Content
raised_content c xs =
    with_header c (c.version + 1) (c.fields
    ++ filled_values (raise_filling c.version (content_sizes c)) xs)

-- what an edit makes of a content, or the first of its conditions that fails. A replace refuses as
-- looking at the block does
abbrev pub edited_content : Edit → Content → Result Content Fault
edited_content (set n x) c = all_of (set_conditions c.version n) then Ok (with_field c n x)
edited_content (store cell row bytes) c =
    all_of (store_conditions (content_sizes c) cell row (length bytes)) then
    Ok (with_row c cell row bytes)
edited_content (add new) c =
    blocks_present c.version then output_bytes (payload_output new) with λ w.
    Ok (with_last c (block new.kind.key w))
edited_content (carry key body) c = blocks_present c.version then Ok (with_last c (block key body))
edited_content (lengthen k more) c =
    all_of (block_conditions c.version (length c.blocks) k) then
    Ok (with_block c k (longer_block (block_in c.blocks k) more))
edited_content (replace k new) c =
    look_answer new.kind (write c) k with λ seen.
    output_bytes (payload_output new) with λ w.
    Ok (with_block c k (renewed_block (block_in c.blocks k) w seen.used))
edited_content (remove k) c =
    all_of (block_conditions c.version (length c.blocks) k) then Ok (without_block c k)
edited_content (raise xs) c = all_of (raise_conditions c (length xs)) then Ok (raised_content c xs)
