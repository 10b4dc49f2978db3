-- Judging: the groups of checks are the list of checks, its refusal is the first, and what it says
-- of the blocks.
use Rattle.std.proofs.Common.{◌≡◌, ℕ, zero, suc, ◌+◌, ◌<◌, ◌≤◌, Bool, true, false, List, [], ◌∷◌, ◌++◌, map, drop, get_or, Ok, Err, Result, sym, refl, ⊎_elim, arith, MatchResult}
use Rattle.std.proofs.lemmas.Result.{MatchResult-weaker}
use Rattle.std.proofs.lemmas.Bool.{cases_lt, lt-ltb, le-ltb}
use Rattle.std.specs.List.{AllByRecursion}
use Rattle.buffers.specs.Words.{word32}
use Rattle.faults.specs.declared.fault.Fault.{Fault}
use Rattle.faults.specs.declared.refusal.Refusal.TheVariants.{TooFewBytes, Version, ExtentTooSmall, ExtentsDisagree, Bins, Cells, Channels, SectionTooLong, DataCut}
use Rattle.faults.specs.Faults.{fault}
use Rattle.faults.specs.Numbers.{layer_number}
use Rattle.format.specs.declared.judging.Layout.{Layout}
use Rattle.format.specs.declared.extents.Extent.{Extent}
use Rattle.format.specs.Checks.{Check, unless, from, ◌with◌, first_of, passed, IsPassed, IsFirstFault}
use Rattle.format.specs.Header.{version, extents, header_end, data_start, section_size}
use Rattle.format.specs.Judging.{longer_than, extent_covers, extent_agrees, opening_checks, covering_checks, agreeing_checks, size_checks, holding_checks, filling_checks, checks, block_count_of, blocks_of, layout_with, layout_of, judged, judged_in_groups, IsFirstRefusal, IsFilled, IsCutThere}
use Rattle.format.specs.Section.{section_blocks, IsCut}
use Rattle.format.specs.Sizes.{sizes_of}
use Rattle.format.proofs.Walk.{section_walked}

-- a list of checks, and then another, is the two lists as one
joined : {X Y : Type 0} (cs ds : List Check) (y : Y) (x : X) (next : Y → Result X Fault) → next y ≡ first_of ds x
    → (first_of cs y with next) ≡ first_of (cs ++ ds) x
joined [] ds y x next e = e
joined (Ok _ ∷ cs) ds y x next e = joined cs ds y x next e
joined (Err f ∷ cs) ds y x next e = refl

-- the last check gives the count of the blocks, or its fault
last : (r : Result ℕ Fault) (shown : ℕ → Layout) → (r with λ n. Ok (shown n)) ≡ first_of (passed r ∷ []) (shown (block_count_of r))
last (Ok n) shown = refl
last (Err f) shown = refl

-- the groups of checks, one after the other, are the list of checks
pub in_one : (b : List ℕ) → judged_in_groups b ≡ judged b
in_one b =
    let v = version b in
    let x = layout_of b in
    joined (opening_checks b) (covering_checks b v ++ (agreeing_checks b v ++ (size_checks b v ++ (holding_checks b v ++ filling_checks b v)))) v x _
    (joined (covering_checks b v) (agreeing_checks b v ++ (size_checks b v ++ (holding_checks b v ++ filling_checks b v))) tt x _
    (joined (agreeing_checks b v) (size_checks b v ++ (holding_checks b v ++ filling_checks b v)) tt x _
    (joined (size_checks b v) (holding_checks b v ++ filling_checks b v) (sizes_of b v) x _
    (joined (holding_checks b v) (filling_checks b v) tt x _
    (last (blocks_of b v) (layout_with b v))))))

passes_more : (cs : List Check) → IsPassed cs → IsPassed (Ok tt ∷ cs)
passes_more cs p zero h = refl
passes_more cs p (suc j) h = p j (omega arith)

before_more : (cs : List Check) (k : ℕ) → ((j : ℕ) → j < k → get_or cs j (Ok tt) ≡ Ok tt) → (j : ℕ) → j < suc k → get_or (Ok tt ∷ cs) j (Ok tt) ≡ Ok tt
before_more cs k p zero h = refl
before_more cs k p (suc j) h = p j (omega arith)

fails_more : (cs : List Check) (f : Fault) → IsFirstFault cs f → IsFirstFault (Ok tt ∷ cs) f
fails_more cs f q =
    record { which = suc q.which; within = omega (arith, q.within); before = before_more cs q.which q.before; fails = q.fails }

-- a list of checks refuses by the first that fails
first : {X : Type 0} (cs : List Check) (x : X) → MatchResult (first_of cs x) (λ y. (y ≡ x) × IsPassed cs) (IsFirstFault cs)
first [] x = (refl, λ j h. absurd (omega arith))
first (Ok _ ∷ cs) x = MatchResult-weaker (first_of cs x) (first cs x) (λ y p. (p.0, passes_more cs p.1)) (fails_more cs)
first (Err f ∷ cs) x = record { which = 0; within = omega arith; before = λ j h. absurd (omega arith); fails = refl }

pub first_refusal : (b : List ℕ) → IsFirstRefusal b (judged b)
first_refusal b = first (checks b) (layout_of b)

-- the check does not refuse at the layer section
abbrev Outside : Check → Type 0
Outside c = (f : Fault) → c ≡ Err f → layer_number f.layer ≡ 3 → ⊥

outside_unless : (t : Bool) (g : Fault) → (layer_number g.layer ≡ 3 → ⊥) → Outside (unless t g)
outside_unless true g n f e = let z : ◌≡◌ {A = ℕ} 0 1 = cc in absurd (omega arith)
outside_unless false g n f e = let is : g ≡ f = cc in rw (sym is) n

outside_from : (i v : ℕ) (c : Check) → Outside c → Outside (from i v c)
outside_from i v c o f e =
    ⊎_elim
    (λ (l : v < i). let p = rw (lt-ltb v i l) at e in let z : ◌≡◌ {A = ℕ} 0 1 = cc in absurd (omega arith))
    (λ (l : i ≤ v). o f (rw (le-ltb v i l) at e))
    (cases_lt v i)

-- checks outside the section, and then others
past : {X : Type 0} (b : List ℕ) (cs ds : List Check) (x : X) (P : X → Type 0) → AllByRecursion Outside cs → MatchResult (first_of ds x) P (IsCutThere b)
    → MatchResult (first_of (cs ++ ds) x) P (IsCutThere b)
past b [] ds x P o h = h
past b (Ok _ ∷ cs) ds x P o h = past b cs ds x P o.1 h
past b (Err f ∷ cs) ds x P o h = λ three. absurd (o.0 f refl three)

-- what the last check says of the layout
at_last : (r : Result ℕ Fault) (shown : ℕ → Layout) (P : Layout → Type 0) (Q : Fault → Type 0) → MatchResult r (λ n. P (shown n)) Q
    → MatchResult (first_of (passed r ∷ []) (shown (block_count_of r))) P Q
at_last (Ok n) shown P Q h = h
at_last (Err f) shown P Q h = h

filled : (b : List ℕ) (v : ℕ)
    → MatchResult (blocks_of b v) (λ n. IsFilled b (layout_with b v n)) (λ f. layer_number f.layer ≡ 3 → IsCut b (104 + section_size b v) f)
filled b v =
    ⊎_elim
    (λ (l : v < 6). rw (lt-ltb v 6 l) (record { tiled = λ six. absurd (omega arith); early = λ _. refl }))
    (λ (l : 6 ≤ v).
    rw (le-ltb v 6 l)
    (MatchResult-weaker (section_blocks b (104 + word32 b 100)) (section_walked b (104 + word32 b 100) (omega arith))
    (λ n t. record { tiled = λ _. t; early = λ five. absurd (omega arith) })
    (λ f k _. k)))
    (cases_lt v 6)

-- the checks before the last do not refuse at the layer section
outside_longer : (b : List ℕ) (end : ℕ) → Outside (longer_than b end)
outside_longer b end = outside_unless _ (fault TooFewBytes 0) (λ e. omega arith)

outside_covers : (b : List ℕ) (v : ℕ) (e : Extent) → Outside (extent_covers b v e)
outside_covers b v e = outside_from e.level v _ (outside_unless _ (fault ExtentTooSmall e.place) (λ e. omega arith))

outside_agrees : (b : List ℕ) (v : ℕ) (e : Extent) → Outside (extent_agrees b v e)
outside_agrees b v e = outside_from e.level v _ (outside_unless _ (fault ExtentsDisagree e.place) (λ e. omega arith))

outside_each : {E : Type 0} (check : E → Check) → ((e : E) → Outside (check e)) → (es : List E) → AllByRecursion Outside (map check es)
outside_each check o [] = tt
outside_each check o (e ∷ es) = (o e, outside_each check o es)

outside_opening : (b : List ℕ) → AllByRecursion Outside (opening_checks b)
outside_opening b =
    (outside_longer b 10, (outside_unless _ (fault Version 0) (λ e. omega arith), (outside_longer b (header_end (version b)), tt)))

outside_sizing : (b : List ℕ) (v : ℕ) → AllByRecursion Outside (size_checks b v)
outside_sizing b v = (
  outside_from 4 v _ (outside_unless _ (fault Bins 52) (λ e. omega arith)),
  (
    outside_from 4 v _ (outside_unless _ (fault Cells 56) (λ e. omega arith)),
    (outside_from 5 v _ (outside_unless _ (fault Channels 88) (λ e. omega arith)), tt),
  ),
)

outside_holding : (b : List ℕ) (v : ℕ) → AllByRecursion Outside (holding_checks b v)
outside_holding b v = (
  outside_unless _ (fault DataCut (data_start b)) (λ e. omega arith),
  (outside_from 6 v _ (outside_unless _ (fault SectionTooLong 100) (λ e. omega arith)), tt),
)

-- an accepted file's blocks fill its section, and a refusal in the section tells of a block that is
-- cut
pub says_of_blocks : (b : List ℕ) → MatchResult (judged b) (IsFilled b) (IsCutThere b)
says_of_blocks b =
    let v = version b in
    let x = layout_of b in
    let p = λ (cs ds : List Check). past b cs ds x (IsFilled b) in
    p (opening_checks b) (covering_checks b v ++ (agreeing_checks b v ++ (size_checks b v ++ (holding_checks b v ++ filling_checks b v)))) (outside_opening b)
    (p (covering_checks b v) (agreeing_checks b v ++ (size_checks b v ++ (holding_checks b v ++ filling_checks b v))) (outside_each (extent_covers b v) (outside_covers b v) extents)
    (p (agreeing_checks b v) (size_checks b v ++ (holding_checks b v ++ filling_checks b v)) (outside_each (extent_agrees b v) (outside_agrees b v) (drop 1 extents))
    (p (size_checks b v) (holding_checks b v ++ filling_checks b v) (outside_sizing b v)
    (p (holding_checks b v) (filling_checks b v) (outside_holding b v)
    (at_last (blocks_of b v) (layout_with b v) (IsFilled b) (IsCutThere b) (filled b v))))))
