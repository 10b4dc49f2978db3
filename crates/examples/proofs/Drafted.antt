-- The worked examples of drafts hold by computing the definitions.
use Rattle.std.proofs.Common.{ℕ, ◌+◌, refl, ap, ◌∙◌}
use Rattle.faults.specs.declared.refusal.Refusal.TheVariants.{Version, Bins, Cells, WrongLengthOrCount, Capacity, VersionLacksIt, TextUnfit, CellCount}
use Rattle.faults.specs.Faults.{fault}
use Rattle.draft.specs.Drafts.{call_fault, begun_content}
use Rattle.draft.proofs.Added.{cells_long}
use Rattle.examples.specs.Draftings.{Draftings, long_start}
use Rattle.examples.proofs.Told.{refused_with}

pub draftings : Draftings
draftings =
    record {
      begins_m = refl;
      fills_m = refl;
      carries_m = refl;
      lays_m = refl;
      bytes_m = refl;
      long = λ xs cells e. cells_long (begun_content long_start xs) cells refl ∙ ap (λ (n : ℕ). 72 + n) e;
      version_3 = refused_with _ (call_fault Version) refl;
      version_7 = refused_with _ (call_fault Version) refl;
      bins = refused_with _ (call_fault Bins) refl;
      cells = refused_with _ (call_fault Cells) refl;
      values_4 = refused_with _ (fault WrongLengthOrCount 11) refl;
      values_6 = refused_with _ (fault WrongLengthOrCount 16) refl;
      header = refused_with _ (fault Capacity 104) refl;
      early = refused_with _ (fault VersionLacksIt 0) refl;
      text = refused_with _ (fault TextUnfit 1) refl;
      block_room = refused_with _ (fault Capacity 116) refl;
      all_laid = refused_with _ (fault CellCount 1) refl;
      short_cell = refused_with _ (fault WrongLengthOrCount 36) refl;
      cell_room = refused_with _ (fault Capacity 160) refl;
      missing = refused_with _ (fault CellCount 1) refl;
    }
