-- Which argument names which verb.
use Rattle.std.specs.Prelude.{◌≡◌, ℕ, ◌⊎◌, List, Some, None, codes, Option, ◌≢◌}
use Rattle.kutsvame.specs.declared.arguments.Verb.{Verb}
use Rattle.kutsvame.specs.declared.arguments.Verb.TheVariants.{Judge, Show, Row, Draft, Run, Raise, Add, Help}

-- the arguments that name a verb; any other argument names none
abbrev pub NamesVerb : List ℕ → Option Verb → Type 0
NamesVerb argument (Some Judge) = argument ≡ codes "judge"
NamesVerb argument (Some Show) = argument ≡ codes "show"
NamesVerb argument (Some Row) = argument ≡ codes "row"
NamesVerb argument (Some Draft) = argument ≡ codes "draft"
NamesVerb argument (Some Run) = argument ≡ codes "run"
NamesVerb argument (Some Raise) = argument ≡ codes "raise"
NamesVerb argument (Some Add) = argument ≡ codes "add"
NamesVerb argument (Some Help) = (argument ≡ codes "help") ⊎ ((argument ≡ codes "--help") ⊎ (argument ≡ codes "-h"))
NamesVerb argument None =
    (argument ≢ codes "judge") × (argument ≢ codes "show") × (argument ≢ codes "row") × (argument ≢ codes "draft")
    × (argument ≢ codes "run") × (argument ≢ codes "raise") × (argument ≢ codes "add")
    × (argument ≢ codes "help") × (argument ≢ codes "--help") × (argument ≢ codes "-h")
