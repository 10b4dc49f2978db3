-- The ledger: what the calls on a working file come to, read from their arguments and from whether
-- each was accepted. It knows neither places nor bytes of blocks.
use Rattle.std.specs.Prelude.{ℕ, ◌+◌, ◌&&◌, cond, List, length, Ok, Err, Result, ◌==◌, ◌-◌, [], ◌∷◌, ◌++◌, take, drop, slice_set}
use Rattle.std.specs.List.{range_with_len}
use Rattle.faults.specs.declared.fault.Fault.{Fault}
use Rattle.faults.specs.declared.refusal.Refusal.TheVariants.{NoFile}
use Rattle.faults.specs.Faults.{fault}
use Rattle.format.specs.Checks.{Check, ◌then◌, ◌with◌, all_of}
use Rattle.format.specs.Content.{Content, field_in, content}
use Rattle.format.specs.Sizes.{sizes_in}
use Rattle.headers.specs.Fields.{fields_filled, filled_values}
use Rattle.reader.specs.Levels.{field_conditions, row_conditions}
use Rattle.editor.specs.Edits.{Edit, set, store, add, carry, lengthen, replace, remove, raise, raise_filling, row_of}
use Rattle.editor.specs.Calls.{Call, load, edit, work_state, file_content}

-- a page of the ledger: the version, the fields by number, the bytes of the rows by cell and row,
-- and a mark for each block in order. Every mark that was ever given is below `next`
pub record Page : Type 0 where
  pub version : ℕ
  pub fields : ℕ → ℕ
  pub rows : ℕ → ℕ → List ℕ
  pub marks : List ℕ
  pub next : ℕ

-- a ledger holds nothing, or a page
pub data Ledger : Type 0 where
  blank : Ledger
  page : Page → Ledger

-- the page of a content, with new marks from n on
abbrev pub opened_page : ℕ → Content → Page
opened_page n c =
    record {
      version = c.version;
      fields = field_in c.fields;
      rows = row_of c;
      marks = range_with_len n (length c.blocks);
      next = n + length c.blocks;
    }

-- the ledger at the making: the page of the file that is held, if one is
abbrev pub opened_ledger : Result Content Fault → Ledger
opened_ledger (Ok c) = page (opened_page 0 c)
opened_ledger (Err f) = blank

abbrev pub begun_ledger : List ℕ → ℕ → Ledger
begun_ledger buffer n = opened_ledger (file_content (work_state buffer n))

-- the first mark that was never used
abbrev pub unused_mark : Ledger → ℕ
unused_mark blank = 0
unused_mark (page p) = p.next

-- the fields, with x for field n
abbrev pub with_value : (ℕ → ℕ) → ℕ → ℕ → ℕ → ℕ
with_value fields n x m = cond (m == n) x (fields m)

-- the rows, with other bytes for one of them
abbrev pub with_bytes : (ℕ → ℕ → List ℕ) → ℕ → ℕ → List ℕ → ℕ → ℕ → List ℕ
with_bytes rows cell row bytes i j = cond (i == cell && j == row) bytes (rows i j)

-- the fields, with values for some of them in turn
abbrev pub with_values : (ℕ → ℕ) → List ℕ → List ℕ → ℕ → ℕ
with_values fields [] xs = fields
with_values fields (n ∷ ns) [] = fields
with_values fields (n ∷ ns) (x ∷ xs) = with_values (with_value fields n x) ns xs

-- a page with those marks; and with a new one among them
abbrev pub with_marks : Page → List ℕ → Page
with_marks p ms = record p { marks = ms }

abbrev pub with_new : Page → List ℕ → Page
with_new p ms = record p { marks = ms; next = p.next + 1 }

-- what an accepted edit enters
abbrev pub page_after : Edit → Page → Page
page_after (set n x) p = record p { fields = with_value p.fields n x }
page_after (store cell row bytes) p = record p { rows = with_bytes p.rows cell row bytes }
page_after (add new) p = with_new p (p.marks ++ (p.next ∷ []))
page_after (carry key body) p = with_new p (p.marks ++ (p.next ∷ []))
page_after (lengthen k more) p = p
page_after (replace k new) p = with_new p (slice_set p.marks (k - 1) p.next)
page_after (remove k) p = with_marks p (take (k - 1) p.marks ++ drop k p.marks)
page_after (raise xs) p =
    let filling = raise_filling p.version (sizes_in p.version p.fields) in
    record p {
      version = p.version + 1;
      fields = with_values p.fields (fields_filled filling) (filled_values filling xs);
    }

-- what an accepted call enters: a load replaces all by what its bytes say
abbrev pub ledger_after : Call → Ledger → Ledger
ledger_after (load bytes) l = page (opened_page (unused_mark l) (content bytes))
ledger_after (edit e) blank = blank
ledger_after (edit e) (page p) = page (page_after e p)

-- a refused call enters nothing
abbrev pub ledger_entered : Ledger → Call → Check → Ledger
ledger_entered l call (Ok done) = ledger_after call l
ledger_entered l call (Err f) = l

-- what the ledger tells of a question: nothing where it is blank, 31; else what is asked of the
-- question, and the answer
abbrev pub ledger_page : Ledger → Result Page Fault
ledger_page blank = Err (fault NoFile 0)
ledger_page (page p) = Ok p

abbrev pub ledger_version : Ledger → Result ℕ Fault
ledger_version l = ledger_page l with λ p. Ok p.version

abbrev pub ledger_count : Ledger → Result ℕ Fault
ledger_count l = ledger_page l with λ p. Ok (length p.marks)

abbrev pub ledger_field : Ledger → ℕ → ℕ → Result ℕ Fault
ledger_field l level n =
    ledger_page l with λ p. all_of (field_conditions p.version level n) then Ok (p.fields n)

abbrev pub ledger_row : Ledger → ℕ → ℕ → ℕ → Result (List ℕ) Fault
ledger_row l level cell row =
    ledger_page l with λ p.
    all_of (row_conditions p.version (sizes_in p.version p.fields) level cell row) then
    Ok (p.rows cell row)
