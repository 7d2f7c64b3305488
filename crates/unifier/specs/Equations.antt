-- Equations of variables and terms, in a triangular form: a variable's term may have variables that are bound too.
use Rattle.std.specs.Prelude.{◌≡◌, ℕ, Bool, true, ◌&&◌, ◌==◌, List, [], ◌∷◌, take, min, Option, None, Some, if◌then◌else◌}
use Rattle.std.specs.List.{list_all}
use Rattle.fol_base.specs.Tree.{Tree, tree_variables}
use Rattle.fol_base.specs.Term.{tree_of}
use Rattle.fol_base.specs.Instance.{Substitution, instance}
use Rattle.fol_base.specs.declared.clause.Side.{Side}
use Rattle.unifier.specs.declared.equation.TheConstants.{MOST_EQUATIONS, MOST_NOTED}
use Rattle.unifier.specs.declared.equation.SideTerm.{SideTerm}
use Rattle.unifier.specs.declared.equation.Equation.{Equation}
use Rattle.unifier.specs.declared.equation.Equations.{Equations}
use Rattle.unifier.specs.SolvedForm.{code_of, of_side}

-- a tree of a side
abbrev pub Item : Type 0
Item = Side × Tree

abbrev pub item_of : SideTerm → Item
item_of a = (a.side, tree_of a.term.now)

-- the tree under a substitution of both sides
abbrev pub item_under : Bool → Substitution → Item → Tree
item_under apart θ a = instance (of_side apart a.0 θ) a.1

-- the tree's variables, by their numbers among those of both sides, pass a test
abbrev pub ItemPasses : Bool → (ℕ → Bool) → Item → Type 0
ItemPasses apart test a = list_all (λ v. test (code_of apart a.0 v)) (tree_variables a.1) ≡ true

-- what a variable is equal to by its first equation
abbrev pub bound_to : ℕ → List Equation → Option Item
bound_to w [] = None
bound_to w (e ∷ es) = if w == e.code then Some (item_of e.bound) else bound_to w es

-- the equations in force
abbrev pub equations_of : Equations → List Equation
equations_of es = take (min es.len MOST_EQUATIONS) es.items

abbrev pub bound_in : Equations → ℕ → Option Item
bound_in es w = bound_to w (equations_of es)

-- the equations hold under a substitution of both sides
abbrev pub Solves : Bool → Substitution → Equations → Type 0
Solves apart θ es = (w : ℕ) (a : Item) → bound_in es w ≡ Some a → θ w ≡ item_under apart θ a

-- the variables that are noted
abbrev pub noted_of : Equations → List ℕ
noted_of es = take (min es.noted_len MOST_NOTED) es.noted

-- no equations, and no variable noted
abbrev pub HasNone : Equations → Type 0
HasNone es = ((w : ℕ) → bound_in es w ≡ None) × (noted_of es ≡ [])

-- the variables of the equations, and those noted, pass a test
abbrev pub EquationsPass : Bool → (ℕ → Bool) → Equations → Type 0
EquationsPass apart test es =
    ((w : ℕ) (a : Item) → bound_in es w ≡ Some a → (test w ≡ true) × ItemPasses apart test a) × (list_all test (noted_of es) ≡ true)

-- a variable has got an equation, and the others have those that they had
pub record IsWithEquation (old : Equations) (new : Equations) (w : ℕ) (a : Item) : Type 0 where
  pub here : bound_in new w ≡ Some a
  pub others : (u : ℕ) → (u ≡ w → ⊥) → bound_in new u ≡ bound_in old u
  pub noted : noted_of new ≡ noted_of old

-- a variable is noted, and the equations are as they were
pub record IsWithNoted (old : Equations) (new : Equations) (w : ℕ) : Type 0 where
  pub equations : (u : ℕ) → bound_in new u ≡ bound_in old u
  pub noted : (test : ℕ → Bool) → list_all test (noted_of new) ≡ (list_all test (noted_of old) && test w)
