-- A layout as it is printed.
use Rattle.std.specs.Prelude.{ℕ, Bool, List, [], ◌++◌, codes, decimal, ◌==◌, if◌then◌else◌}
use Rattle.format.specs.declared.judging.Layout.{Layout}

-- a count of things: 1 block, 2 blocks
abbrev pub count_text : ℕ → List ℕ → List ℕ
count_text n thing = decimal n ++ (codes " " ++ (thing ++ (if n == 1 then [] else codes "s")))

abbrev pub quality_text : Bool → List ℕ
quality_text quality = if quality then codes "quality" else codes "no quality"

-- version 6, 31 range cells of 512 Doppler bins, quality, data at 124, 2 blocks
abbrev pub layout_text : Layout → List ℕ
layout_text l =
    codes "version " ++ (decimal l.version ++ (codes ", " ++ (count_text l.sizes.ranges (codes "range cell")
    ++ (codes " of " ++ (count_text l.sizes.bins (codes "Doppler bin") ++ (codes ", " ++ (quality_text l.sizes.quality
    ++ (codes ", data at " ++ (decimal l.start ++ (codes ", " ++ count_text l.blocks (codes "block")))))))))))
