-- The worked examples of reading hold by computing the definitions.
use Rattle.std.proofs.Common.{◌≡◌, ℕ, ◌≤◌, Bool, true, false, List, [], ◌∷◌, Ok, Result, refl, ap, ◌∙◌}
use Rattle.std.proofs.lemmas.Bool.{le-leb}
use Rattle.faults.specs.declared.fault.Fault.{Fault}
use Rattle.faults.specs.declared.refusal.Refusal.TheVariants.{Key, LayoutUnknown}
use Rattle.faults.specs.Faults.{fault, in_block}
use Rattle.format.specs.declared.judging.Layout.{Layout}
use Rattle.format.specs.Checks.{all_of, ◌then◌, ◌with◌}
use Rattle.format.specs.Judging.{layout_of}
use Rattle.reader.proofs.Agree.{agreed}
use Rattle.reader.proofs.Place.{placed}
use Rattle.reader.specs.Answers.{look_answer}
use Rattle.format.specs.Rows.{row_span}
use Rattle.reader.specs.Levels.{layout_of_file, file_layout, row_conditions}
use Rattle.records.specs.Fill.{fill_kind}
use Rattle.records.specs.Loca.{loca_kind}
use Rattle.examples.specs.FileM.{file_m}
use Rattle.examples.specs.Readings.{RowSix, Readings}
use Rattle.examples.specs.Refused.{Refused}
use Rattle.examples.proofs.Told.{refused_with}

-- M is a file
held_m : layout_of_file file_m ≡ Ok (layout_of file_m)
unfolding layout_of_file file_layout
held_m = refl

fill_m : look_answer fill_kind file_m 1 ≡ Ok (record { numbers = 1 ∷ 2 ∷ 2 ∷ 4 ∷ []; text = 112; size = 0; used = 4 })
unfolding layout_of_file file_layout
fill_m = refl

loca_m : Refused (look_answer loca_kind file_m 1) 12 4 1 104
unfolding layout_of_file file_layout
loca_m = refused_with _ (in_block Key 1 104) refl

-- what is asked of row 6 of cell 1, and where it stands
asked_six : (l : Layout) (quality : Bool) (level : ℕ) → l.version ≡ 4 → l.start ≡ 72 → l.sizes.bins ≡ 512 → l.sizes.quality ≡ quality → 1 ≤ l.sizes.ranges
    → (all_of (row_conditions l.version l.sizes 4 1 6) then Ok (row_span l 1 6)) ≡ Ok (14408, 4096)
asked_six l true level v d n q some = rw (v, d, n, q, le-leb 1 l.sizes.ranges some) refl
asked_six l false level v d n q some = rw (v, d, n, q, le-leb 1 l.sizes.ranges some) refl

row_six : (b : List ℕ) (l : Layout) → layout_of_file b ≡ Ok l → l.version ≡ 4 → l.start ≡ 72 → l.sizes.bins ≡ 512 → RowSix b
row_six b l h v d n =
    let at = λ (level : ℕ). ap (λ (x : Result Layout Fault). x with λ m. all_of (row_conditions m.version m.sizes level 1 6) then Ok (row_span m 1 6)) h in
    record {
      found = at 4 ∙ asked_six l l.sizes.quality 4 v d n refl (placed b l h).ranges_from;
      unknown = refused_with _ (fault LayoutUnknown 0) (at 3 ∙ rw v refl);
    }

pub readings : Readings
readings =
    record {
      starts = (agreed file_m (layout_of file_m) held_m).one_start;
      fill_m = fill_m;
      loca_m = loca_m;
      row_6 = row_six;
    }
