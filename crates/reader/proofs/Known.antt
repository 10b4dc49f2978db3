-- A layout is known by its numbers.
use Rattle.std.proofs.Common.{◌≡◌, ℕ, Bool, true, false, cond, List, Some, None, Ok, Err, Option, Result, refl, ap, ◌∙◌, arith}
use Rattle.faults.specs.declared.fault.Fault.{Fault}
use Rattle.format.specs.declared.judging.Layout.{Layout}
use Rattle.format.specs.Judging.{judged}
use Rattle.std.specs.Option.{ok_or}
use Rattle.std.specs.Result.{result_ok}
use Rattle.faults.specs.declared.refusal.Refusal.TheVariants.{NoFile}
use Rattle.faults.specs.Faults.{fault}
use Rattle.reader.specs.Levels.{accepted_layout, file_layout, layout_of_file, or_no_file, layout_numbers}

same_flag : (p q : Bool) → ◌≡◌ {A = ℕ} (cond p 1 0) (cond q 1 0) → p ≡ q
same_flag true true e = refl
same_flag true false e = let z : ◌≡◌ {A = ℕ} 0 1 = cc in absurd (omega arith)
same_flag false true e = let z : ◌≡◌ {A = ℕ} 0 1 = cc in absurd (omega arith)
same_flag false false e = refl

same_layout : (l m : Layout) → layout_numbers (Some l) ≡ layout_numbers (Some m) → l ≡ m
same_layout l m e =
    let version : l.version ≡ m.version = cc in
    let start : l.start ≡ m.start = cc in
    let ranges : l.sizes.ranges ≡ m.sizes.ranges = cc in
    let bins : l.sizes.bins ≡ m.sizes.bins = cc in
    let channels : l.sizes.channels ≡ m.sizes.channels = cc in
    let first : l.sizes.first ≡ m.sizes.first = cc in
    let flag : ◌≡◌ {A = ℕ} (cond l.sizes.quality 1 0) (cond m.sizes.quality 1 0) = cc in
    let quality = same_flag l.sizes.quality m.sizes.quality flag in
    let section : l.section ≡ m.section = cc in
    let blocks : l.blocks ≡ m.blocks = cc in
    let sizes : l.sizes ≡ m.sizes =
    λ i. record { ranges = ranges i; bins = bins i; channels = channels i; first = first i; quality = quality i } in
    λ i. record { version = version i; start = start i; sizes = sizes i; section = section i; blocks = blocks i }

same_option : (x y : Option Layout) → layout_numbers x ≡ layout_numbers y → x ≡ y
same_option (Some l) (Some m) e = ap Some (same_layout l m e)
same_option (Some l) None e = let z : ◌≡◌ {A = ℕ} 0 1 = cc in absurd (omega arith)
same_option None (Some m) e = let z : ◌≡◌ {A = ℕ} 0 1 = cc in absurd (omega arith)
same_option None None e = refl

-- what is kept answers for the file
pub held_by : (b : List ℕ) (x : Option Layout) → layout_numbers x ≡ layout_numbers (file_layout b) → or_no_file x ≡ layout_of_file b
unfolding layout_of_file
held_by b x e = ap or_no_file (same_option x (file_layout b) e)

-- and no layout is refused by 31
pub held_or : (b : List ℕ) (x : Option Layout) (f : Fault) → layout_numbers x ≡ layout_numbers (file_layout b) → f ≡ fault NoFile 0 → ok_or x f ≡ layout_of_file b
held_or b (Some l) f e none = held_by b (Some l) e
held_or b None f e none = ap Err none ∙ held_by b None e

-- what judging answers is kept
pub kept_of : (b : List ℕ) (r : Result Layout Fault) → r ≡ judged b → layout_numbers (result_ok r) ≡ layout_numbers (file_layout b)
unfolding file_layout
kept_of b (Ok l) e = ap layout_numbers (ap accepted_layout e)
kept_of b (Err g) e = ap layout_numbers (ap accepted_layout e)
