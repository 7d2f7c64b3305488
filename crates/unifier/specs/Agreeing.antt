-- What a walk down two terms side by side shows.
use Rattle.std.specs.Prelude.{◌≡◌, ℕ, Bool, true, ⊤}
use Rattle.std.specs.List.{list_all}
use Rattle.fol_base.specs.Tree.{Tree, Trees, trees_variables}
use Rattle.fol_base.specs.Instance.{Substitution, instances}
use Rattle.fol_base.specs.declared.clause.Side.{Side}
use Rattle.fol_base.specs.declared.clause.Side.TheVariants.{Left, Right}
use Rattle.unifier.specs.declared.equation.Equations.{Equations}
use Rattle.unifier.specs.declared.agreeing.Walked.{Walked}
use Rattle.unifier.specs.declared.agreeing.Walked.TheVariants.{Agreed, Clashed, Stopped}
use Rattle.unifier.specs.SolvedForm.{code_of, of_side}
use Rattle.unifier.specs.Equations.{Item, ItemPasses, item_under, Solves, EquationsPass}

-- the new equations hold exactly where the old ones do and two things are the same; and they have the variables of these, and no further ones
abbrev pub AddsForced : Bool → Equations → Equations → (Substitution → Type 0) → ((ℕ → Bool) → Type 0) → Type 0
AddsForced apart old new Same Pass =
    ((θ : Substitution) → Solves apart θ new → Solves apart θ old × Same θ)
    × ((θ : Substitution) → Solves apart θ old → Same θ → Solves apart θ new)
    × ((test : ℕ → Bool) → EquationsPass apart test old → Pass test → EquationsPass apart test new)
    × ((test : ℕ → Bool) → EquationsPass apart test new → EquationsPass apart test old × Pass test)

abbrev pub WalkDone : Bool → Equations → Equations → (Substitution → Type 0) → ((ℕ → Bool) → Type 0) → Walked → Type 0
WalkDone apart old new Same Pass Agreed = AddsForced apart old new Same Pass
WalkDone apart old new Same Pass Clashed = (θ : Substitution) → Solves apart θ old → Same θ → ⊥
WalkDone apart old new Same Pass Stopped = ⊤

-- for two trees
abbrev pub Agrees : Bool → Equations → Equations → Item → Item → Walked → Type 0
Agrees apart old new a b =
    WalkDone apart old new (λ θ. item_under apart θ a ≡ item_under apart θ b) (λ test. ItemPasses apart test a × ItemPasses apart test b)

-- for a variable and a tree
abbrev pub AgreesWithVariable : Bool → Equations → Equations → ℕ → Item → Walked → Type 0
AgreesWithVariable apart old new w b =
    WalkDone apart old new (λ θ. θ w ≡ item_under apart θ b) (λ test. (test w ≡ true) × ItemPasses apart test b)

-- the trees of a list pass a test of the numbers of their variables
abbrev pub ItemsPass : Bool → (ℕ → Bool) → Side → Trees → Type 0
ItemsPass apart test side ts = list_all (λ v. test (code_of apart side v)) (trees_variables ts) ≡ true

-- for two lists of trees
abbrev pub AgreesInAll : Bool → Equations → Equations → Side → Trees → Side → Trees → Walked → Type 0
AgreesInAll apart old new one ts other us =
    WalkDone apart old new (λ θ. instances (of_side apart one θ) ts ≡ instances (of_side apart other θ) us)
    (λ test. ItemsPass apart test one ts × ItemsPass apart test other us)

-- the equations hold exactly where two trees are equal, the sides apart or not; and they have the variables of the two trees
abbrev pub AreForced : Bool → Equations → Tree → Tree → Type 0
AreForced apart es s t =
    ((θ : Substitution) → Solves apart θ es → item_under apart θ (Left, s) ≡ item_under apart θ (Right, t))
    × ((θ : Substitution) → item_under apart θ (Left, s) ≡ item_under apart θ (Right, t) → Solves apart θ es)
    × ((test : ℕ → Bool) → ItemPasses apart test (Left, s) → ItemPasses apart test (Right, t) → EquationsPass apart test es)
    × ((test : ℕ → Bool) → EquationsPass apart test es → ItemPasses apart test (Left, s) × ItemPasses apart test (Right, t))
