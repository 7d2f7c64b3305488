-- The demands of a derivation: which instances of its lines its last line needs. A demand is a line with a ground term for each of its
-- variables. The last line is demanded with no terms, and a demanded line demands its parents under its step's bindings.
use Rattle.std.specs.Prelude.{ℕ, zero, suc, ◌-◌, Bool, ◌&&◌, ◌==◌, List, [], ◌∷◌, ◌++◌, map, flat_map, filter, fold, length, slice_index_or, if◌then◌else◌}
use Rattle.std.specs.List.{list_any}
use Rattle.fol_base.specs.Tree.{Tree, trees_of, trees_eq}
use Rattle.fol_base.specs.Instance.{Substitution, instance}
use Rattle.kernel_steps.specs.declared.step.Step.{Step}
use Rattle.kernel_steps.specs.declared.step.Step.TheVariants.{Input, Para, Refl, Factor, Merge}
use Rattle.kernel_steps.specs.declared.step.Line.{Line}

pub record Demand : Type 0 where
  pub line : ℕ
  pub terms : List Tree

-- a variable's term; a variable that has none, as it occurs in a binding alone, becomes a constant
abbrev pub put_in : Tree → List Tree → Substitution
put_in constant terms v = slice_index_or terms v constant

-- the parents of a step that have bindings, in the line's order, each with its binding
abbrev pub bound_parents : Step → List (ℕ × List Tree)
bound_parents (Para first second from from_side into into_side place first_bind second_bind) = (first, first_bind) ∷ (second, second_bind) ∷ []
bound_parents (Refl parent literal bind) = (parent, bind) ∷ []
bound_parents (Factor parent becomes becomes_side other other_side bind) = (parent, bind) ∷ []
bound_parents (Merge parent stays goes bind) = (parent, bind) ∷ []
bound_parents _ = []

-- what a line demands that is demanded with these terms
abbrev pub demanded_by : Tree → Step → List Tree → List Demand
demanded_by constant step terms =
    map (λ p. record { line = p.0; terms = map (instance (put_in constant terms)) p.1 }) (bound_parents step)

-- ---- the order in which demands arrive

-- one line, and equal terms at equal places
abbrev pub same_demand : Demand → Demand → Bool
same_demand d e = (d.line == e.line) && trees_eq (trees_of d.terms) (trees_of e.terms)

-- a demand arrives: it comes last, unless it is there
abbrev pub with_demand : List Demand → Demand → List Demand
with_demand demands d = if list_any (same_demand d) demands then demands else demands ++ d ∷ []

-- the terms with which a line is demanded, in order of arrival
abbrev pub terms_for : ℕ → List Demand → List (List Tree)
terms_for n demands = map (λ (d : Demand). d.terms) (filter (λ (d : Demand). d.line == n) demands)

-- the step of the line with a number
abbrev pub step_at : List Line → ℕ → Step
step_at lines n = (slice_index_or lines n (record { step = Input 0; clause = record { literals = []; names = [] } })).step

-- the demands once line n is worked: what its demands demand arrives, one after another
abbrev pub worked : Tree → List Line → ℕ → List Demand → List Demand
worked constant lines n demands = fold with_demand demands (flat_map (demanded_by constant (step_at lines n)) (terms_for n demands))

-- the demands once the first n lines are worked, from the last of them to the first
abbrev pub all_worked : Tree → List Line → ℕ → List Demand → List Demand
all_worked constant lines zero demands = demands
all_worked constant lines (suc n) demands = all_worked constant lines n (worked constant lines n demands)

-- the last line, with no terms
abbrev pub last_line : List Line → Demand
last_line lines = record { line = length lines - 1; terms = [] }

-- all demands, in order of arrival
abbrev pub demands_of : Tree → List Line → List Demand
demands_of constant lines = all_worked constant lines (length lines) (last_line lines ∷ [])
