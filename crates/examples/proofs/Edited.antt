-- The worked examples of edits hold by computing the definitions.
use Rattle.std.proofs.Common.{◌≡◌, [], Ok, refl}
use Rattle.std.specs.Prelude.{codes}
use Rattle.faults.specs.declared.refusal.Refusal.TheVariants.{WrongLengthOrCount, Gap}
use Rattle.faults.specs.Faults.{fault}
use Rattle.reader.specs.Levels.{layout_of_file, file_layout}
use Rattle.kinds.specs.Kind.{payload}
use Rattle.texts.specs.Zone.{zone_kind}
use Rattle.editor.specs.Edits.{edited_content, replace}
use Rattle.examples.specs.Editings.{Editings, blocks_est5}
use Rattle.examples.specs.FileM.{sample, sample_blocks}
use Rattle.examples.proofs.Told.{refused_with}

zone : edited_content (replace 1 (payload zone_kind [] (codes "EST5"))) (sample 6 20 sample_blocks) ≡ Ok (sample 6 20 blocks_est5)
unfolding layout_of_file file_layout
zone = refl

pub editings : Editings
editings =
    record {
      extents_4 = refl;
      raised_5 = refl;
      extents_5 = refl;
      raised_6 = refl;
      extents_6 = refl;
      few = refused_with _ (fault WrongLengthOrCount 5) refl;
      gap = refused_with _ (fault Gap 0) refl;
      zone = zone;
    }
