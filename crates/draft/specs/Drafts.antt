-- Drafts: the content that a draft has so far, what begins it, and what each call makes of it, or
-- why it is refused.
use Rattle.std.specs.Prelude.{ℕ, ◌/◌, cond, ◌&&◌, not, List, [], ◌∷◌, ◌++◌, length, Ok, Result, ◌==◌, nat_le, nat_lt}
use Rattle.faults.specs.declared.fault.Fault.{Fault}
use Rattle.faults.specs.declared.refusal.Layer.TheVariants.{Call}
use Rattle.faults.specs.declared.refusal.Refusal.{Refusal}
use Rattle.faults.specs.declared.refusal.Refusal.TheVariants.{Version, Bins, Cells, CellCount}
use Rattle.faults.specs.Faults.{fault}
use Rattle.format.specs.declared.sizes.Sizes.{Sizes}
use Rattle.format.specs.Changes.{with_cells}
use Rattle.format.specs.Checks.{Check, unless, ◌then◌, ◌with◌, all_of}
use Rattle.format.specs.Content.{Content, content_sizes}
use Rattle.format.specs.Header.{the_field, is_steering}
use Rattle.format.specs.Judging.{is_bin_count, is_range_count}
use Rattle.format.specs.Rows.{cell_size}
use Rattle.format.specs.Sizes.{kind_has_quality}
use Rattle.headers.specs.Fields.{FillingSpec, filled_values, values_wanted}
use Rattle.kinds.specs.Kind.{Payload}
use Rattle.format.specs.InBuffer.{room_for}
use Rattle.editor.specs.Edits.{add, carry, edited_content}
use Rattle.format.specs.Conditions.{as_long}
use Rattle.draft.specs.declared.start.Start.{Start}

-- a refusal of the call, of what a file would be refused for at another layer
abbrev pub call_fault : Refusal → Fault
call_fault r = record { refusal = r; layer = Call; block = 0; place = 0 }

-- the fields that steer: field 2, the bins and the cells as they are given, and three channels
abbrev pub begin_given : Start → ℕ → ℕ
begin_given s n = cond (n == 2) s.kind (cond (n == 11) s.bins (cond (n == 12) s.ranges 3))

-- how begin fills the header: with the fields of its version and those before. Those that do not
-- steer the layout take a value of the caller's
abbrev pub begin_filling : Start → FillingSpec
begin_filling s =
    record {
      has = λ n. nat_le (the_field n).level s.version;
      takes = λ n. not (is_steering n);
      given = begin_given s;
    }

-- the sizes of the data, but for the first range cell's number, which is a value of the caller's
abbrev pub start_sizes : Start → Sizes
start_sizes s =
    record {
      ranges = s.ranges;
      bins = s.bins;
      channels = 3;
      first = 1;
      quality = kind_has_quality s.kind;
    }

-- what is asked of a begin with m values, in order
abbrev pub begin_conditions : Start → ℕ → List Check
begin_conditions s m =
    unless (nat_le 4 s.version && nat_le s.version 6) (call_fault Version)
    ∷ unless (is_bin_count s.bins) (call_fault Bins)
    ∷ unless (is_range_count s.ranges) (call_fault Cells)
    ∷ as_long (values_wanted (begin_filling s)) m
    ∷ []

-- the content of a draft that was begun: its fields alone
abbrev pub begun_content : Start → List ℕ → Content
begun_content s xs =
    record {
      version = s.version;
      fields = filled_values (begin_filling s) xs;
      blocks = [];
      gap = [];
      cells = [];
      tail = [];
    }

-- begin's content, or the first of its conditions that fails, with 32 as the last
abbrev pub begin_outcome : ℕ → Start → List ℕ → Result Content Fault
begin_outcome most s xs = all_of (begin_conditions s (length xs)) then
    (room_for most (begun_content s xs) then Ok (begun_content s xs))

-- the calls that add to a draft: a block that a kind writes, a block with a key and data, and a
-- cell
pub data Step : Type 0 where
  put : Payload → Step
  carried : List ℕ → List ℕ → Step
  lay : List ℕ → Step

-- how many cells are laid
abbrev pub cells_laid : Content → ℕ
cells_laid c = length c.cells / cell_size (content_sizes c)

-- what is asked where m bytes are laid as a cell, in order, in a draft with `laid` cells of
-- `cells`, each of n bytes
abbrev pub lay_conditions : ℕ → ℕ → ℕ → ℕ → List Check
lay_conditions laid cells n m = unless (nat_lt laid cells) (fault CellCount laid) ∷ as_long n m ∷ []

-- what a call makes of the content so far, or the first of its conditions that fails. A block is
-- put or carried as into a file
abbrev pub step_content : Step → Content → Result Content Fault
step_content (put new) c = edited_content (add new) c
step_content (carried key body) c = edited_content (carry key body) c
step_content (lay bytes) c =
    all_of (lay_conditions (cells_laid c) (content_sizes c).ranges (cell_size (content_sizes c)) (length bytes)) then
    Ok (with_cells c (c.cells ++ bytes))

-- the same, with 32 as the last reason
abbrev pub step_outcome : ℕ → Step → Content → Result Content Fault
step_outcome most step c = step_content step c with λ d. room_for most d then Ok d
