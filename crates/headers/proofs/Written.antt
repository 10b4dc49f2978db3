-- What is written where a header fits.
use Rattle.std.proofs.Common.{◌≡◌, ℕ, suc, get_or, drop, ap, ◌+◌, ◌^◌, ◌<◌, ◌≤◌, true, List, length, if◌then◌else◌, sym, refl, ◌∙◌, arith}
use Rattle.std.proofs.lemmas.Bool.{and_from, le-leb, cond-true}
use Rattle.std.proofs.Math.Seq.{drop-cons}
use Rattle.format.specs.declared.extents.Extent.{Extent}
use Rattle.format.specs.declared.extents.TheConstants.{EXTENTS}
use Rattle.format.specs.Changes.{with_extent, with_extents_from, settled_header}
use Rattle.headers.specs.Extents.{with_extents, with_following, header_fits}

-- ---- the words that follow
pub six_following : (b : List ℕ) (d s : ℕ) → with_following b 6 d s ≡ settled_header b d s
unfolding with_following with_extents
six_following b d s = refl

pub following_written : (b new : List ℕ) (d s : ℕ) → 104 ≤ length b → 104 ≤ d → d < 2 ^ 32 → new ≡ (if header_fits b 6 d then with_following b 6 d s else b) → new ≡ settled_header b d s
following_written b new d s long from to e =
    let ok : header_fits b 6 d ≡ true = and_from _ _ (le-leb 104 (length b) long) (and_from _ _ (le-leb 104 d from) (le-leb d 4294967295 (omega arith))) in
    e ∙ cond-true (header_fits b 6 d) _ _ ok ∙ six_following b d s

-- one extent more is written
pub extent_turn : (first b new : List ℕ) (v d k : ℕ) (x : Extent) → k < 5 → with_extents_from first v d EXTENTS ≡ with_extents_from b v d (drop k EXTENTS)
    → new ≡ with_extent b v d (get_or EXTENTS k x) → with_extents_from first v d EXTENTS ≡ with_extents_from new v d (drop (k + 1) EXTENTS)
extent_turn first b new v d k x l before e =
    let next : suc k ≡ k + 1 = omega arith in
    before
    ∙ ap (with_extents_from b v d) (drop-cons EXTENTS k x l)
    ∙ ap (λ (y : List ℕ). with_extents_from y v d (drop (suc k) EXTENTS)) (sym e)
    ∙ ap (λ (m : ℕ). with_extents_from new v d (drop m EXTENTS)) next
