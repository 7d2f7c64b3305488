-- What `unify` answers.
use Rattle.std.specs.Prelude.{◌≡◌, ℕ, Bool, true, false, ◌==◌, Option, None, Some}
use Rattle.std.specs.List.{list_all, list_any}
use Rattle.fol_base.specs.Tree.{Tree, variable, tree_variables}
use Rattle.fol_base.specs.Instance.{Substitution}
use Rattle.fol_base.specs.Unifier.{IsUnifier, IsUnifierApart, IsMostGeneralUnifier, IsMostGeneralUnifierApart}
use Rattle.fol_base.specs.declared.clause.Side.TheVariants.{Left, Right}
use Rattle.unifier.specs.Matching.{variables_of}
use Rattle.unifier.specs.SolvedForm.{SolvedForm, code_of, codes_of, substitution_of}

-- the answer of a unification: a most general unifier, None where there is none
abbrev pub IsUnified : Bool → Tree → Tree → Option SolvedForm → Type 0
IsUnified true s t None = (σ τ : Substitution) → IsUnifierApart s t σ τ → ⊥
IsUnified true s t (Some b) = IsMostGeneralUnifierApart s t (substitution_of b Left) (substitution_of b Right)
IsUnified false s t None = (σ : Substitution) → IsUnifier s t σ → ⊥
IsUnified false s t (Some b) =
    IsMostGeneralUnifier s t (substitution_of b Left) × ((v : ℕ) → substitution_of b Right v ≡ substitution_of b Left v)

-- a variable that stands in the tree
abbrev pub occurs : ℕ → Tree → Bool
occurs v t = list_any (λ w. w == v) (tree_variables t)

-- a variable that doesn't stand in its side's tree stands for itself, by its number among the variables of both sides; where
-- the sides aren't apart, one that stands in neither tree
abbrev pub LeavesOthers : Bool → Tree → Tree → SolvedForm → Type 0
LeavesOthers true s t b =
    ((v : ℕ) → occurs v s ≡ false → substitution_of b Left v ≡ variable (code_of true Left v))
    × ((v : ℕ) → occurs v t ≡ false → substitution_of b Right v ≡ variable (code_of true Right v))
LeavesOthers false s t b = (v : ℕ) → occurs v s ≡ false → occurs v t ≡ false → substitution_of b Left v ≡ variable v

-- what every way of unifying finds: a most general unifier, with pairs for just the variables of the two terms (what all of the one
-- pass, all of the other pass)
pub record IsFound (apart : Bool) (s : Tree) (t : Tree) (b : SolvedForm) : Type 0 where
  pub sides : b.apart ≡ apart
  pub unified : IsUnified apart s t (Some b)
  pub variables : (test : ℕ → Bool) → list_all test (variables_of b.pairs) ≡ list_all test (codes_of apart s t)
