-- The worked examples hold by computing the definitions.
use Rattle.std.proofs.Common.{refl}
use Rattle.faults.specs.declared.refusal.Refusal.TheVariants.{ExtentsDisagree, BlockHeadCut, BlockDataCut}
use Rattle.faults.specs.Faults.{fault, in_block}
use Rattle.examples.specs.Worked.{Worked}
use Rattle.examples.proofs.Told.{refused_with}

pub worked : Worked
worked =
    record {
      size = refl;
      extent_1 = refl;
      extent_2 = refl;
      extent_3 = refl;
      extent_4 = refl;
      extent_5 = refl;
      accepted = refl;
      content_m = refl;
      again_m = refl;
      version_4 = record { accepted = refl; again = refl };
      version_5 = record { accepted = refl; again = refl };
      version_6 = record { accepted = refl; again = refl };
      version_7 = record { accepted = refl; again = refl };
      version_32 = record { accepted = refl; again = refl };
      disagree = refused_with _ (fault ExtentsDisagree 12) refl;
      head_cut = refused_with _ (in_block BlockHeadCut 2 116) refl;
      data_cut = refused_with _ (in_block BlockDataCut 1 108) refl;
    }
