-- The state of the program's work on a form: the variables in force, and the variables and symbols that were made.
use Rattle.std.specs.Prelude.{◌≡◌, ℕ, zero, suc, ◌+◌, ◌≤◌, List, [], ◌∷◌, ◌++◌, length, take, get_or, flat_map}
use Rattle.tptp_tree.specs.Formula.{FormulaTree, truth, falsity, predicate, equation, negation, conjunction, disjunction, connected, quantified, FormulaTrees, no_formulas, formula_then}
use Rattle.fol_base.specs.Tree.{variable, tree_variables, true_tree}
use Rattle.signature.specs.Environment.{Environment, term_names, terms_names, term_in_force}
use Rattle.signature.specs.Clausal.{SymbolNumbers, Made, Scope, applied}
use Rattle.skolem.specs.declared.bound_term.BoundTerm.{BoundTerm}
use Rattle.skolem.specs.declared.bound_term.BoundTerm.TheVariants.{Var}
use Rattle.skolem.specs.declared.bindings.Binding.{Binding}
use Rattle.skolem.specs.declared.progress.Progress.{Progress}
use Rattle.skolem.specs.BoundTerm.{bound_tree}
use Rattle.skolem.specs.Bindings.{no_binding}

-- the last binding is the innermost
abbrev pub environment_of : List Binding → Environment
environment_of [] = []
environment_of (b ∷ bs) = environment_of bs ++ (b.name, bound_tree b.term) ∷ []

-- the variables in the terms of names
abbrev pub occurring_in : Environment → List (List ℕ) → List ℕ
occurring_in env xs = flat_map (λ x. tree_variables (term_in_force env x)) xs

abbrev pub variable_term : ℕ → BoundTerm
variable_term v = Var v

-- no names are made here
abbrev pub made_of : Progress → Made
made_of p = record { variables = p.variables; skolem_arities = p.arities.items; naming_arities = []; defining = [] }

abbrev pub scope_of_progress : Progress → Scope
scope_of_progress p = record { environment = environment_of p.bindings; made = made_of p }

-- ---- the variables of a quantified formula

-- each name stands for a term without variables
abbrev pub with_closed : List (List ℕ) → Environment → Environment
with_closed [] env = env
with_closed (x ∷ xs) env = with_closed xs ((x, true_tree) ∷ env)

-- The variables in the terms of a formula's free variables, with repetitions: inside a quantifier its own variables add none.
abbrev mutual
  pub occurring : FormulaTree → Environment → List ℕ
  occurring truth env = []
  occurring falsity env = []
  occurring (predicate p ts) env = occurring_in env (terms_names ts)
  occurring (equation positive s t) env = occurring_in env (term_names s) ++ occurring_in env (term_names t)
  occurring (negation f) env = occurring f env
  occurring (conjunction fs) env = all_occurring fs env
  occurring (disjunction fs) env = all_occurring fs env
  occurring (connected c f g) env = occurring f env ++ occurring g env
  occurring (quantified q xs f) env = occurring f (with_closed xs env)

  pub all_occurring : FormulaTrees → Environment → List ℕ
  all_occurring no_formulas env = []
  all_occurring (formula_then f fs) env = occurring f env ++ all_occurring fs env

-- ---- the places of bindings

-- The variables of the term at a place. Places are counted from 1, and 0 is that of a name without a binding.
abbrev pub place_variables : List Binding → ℕ → List ℕ
place_variables bs zero = tree_variables (variable 0)
place_variables bs (suc i) = tree_variables (bound_tree (get_or bs i no_binding).term)

abbrev pub variables_at : List Binding → List ℕ → List ℕ
variables_at bs places = flat_map (place_variables bs) places

-- the variables at places among the first bindings
abbrev pub outer_variables : ℕ → List Binding → List ℕ → List ℕ
outer_variables outer bs places = variables_at (take outer bs) places

-- the bindings after the first ones add no variables
pub record AreClosedFrom (outer : ℕ) (bs : List Binding) : Type 0 where
  pub within : outer ≤ length bs
  pub closed : (i : ℕ) → outer ≤ i → place_variables bs (suc i) ≡ []

-- ---- Skolem terms with given arguments

abbrev pub skolem_step : SymbolNumbers → List ℕ → List ℕ → Scope → Scope
skolem_step n arguments x s =
    record {
      environment = (x, applied (n.first_skolem + length s.made.skolem_arities) arguments) ∷ s.environment;
      made =
          record {
            variables = s.made.variables;
            skolem_arities = s.made.skolem_arities ++ length arguments ∷ [];
            naming_arities = s.made.naming_arities;
            defining = s.made.defining;
          };
    }

abbrev pub skolem_steps : SymbolNumbers → List ℕ → List (List ℕ) → Scope → Scope
skolem_steps n arguments [] s = s
skolem_steps n arguments (x ∷ xs) s = skolem_steps n arguments xs (skolem_step n arguments x s)
