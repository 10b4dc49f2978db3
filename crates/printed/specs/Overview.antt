-- What is printed of a file before its fields.
use Rattle.std.specs.Prelude.{ℕ, List, ◌++◌, codes, decimal}
use Rattle.format.specs.declared.sizes.Sizes.{Sizes}
use Rattle.format.specs.Shown.{quality_text}

-- the sizes of the data
abbrev pub sizes_text : Sizes → List ℕ
sizes_text s =
    codes "range cells " ++ (decimal s.ranges ++ (codes ", Doppler bins " ++ (decimal s.bins ++ (codes ", first range cell "
    ++ (decimal s.first ++ (codes ", channels " ++ (decimal s.channels ++ (codes ", " ++ quality_text s.quality))))))))

-- two lines, the last of them without its end
abbrev pub opening_text : ℕ → ℕ → ℕ → List ℕ
opening_text version level start =
    codes "version " ++ (decimal version ++ (codes ", read at level " ++ (decimal level ++ (codes "\ndata at " ++ decimal start))))
