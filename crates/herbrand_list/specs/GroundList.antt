-- The ground list of a derivation: the ground instances of the clausal form that its last line needs (Herbrand 1930), and its weight.
use Rattle.std.specs.Prelude.{ℕ, zero, suc, ◌+◌, Bool, true, false, ◌==◌, List, [], ◌∷◌, ◌++◌, map, sum_by, position, length, Option, option_map, slice_index_or, if◌then◌else◌}
use Rattle.std.specs.List.{list_any}
use Rattle.fol_base.specs.Tree.{Tree, application, no_trees}
use Rattle.fol_base.specs.Symbols.{FunctionSymbol}
use Rattle.fol_base.specs.Clause.{TreeLiteral, literal_size}
use Rattle.fol_base.specs.Ground.{GroundClause, literals_instance}
use Rattle.fol_base.specs.Literal.{clause_of}
use Rattle.kernel_steps.specs.declared.step.Step.{Step}
use Rattle.kernel_steps.specs.declared.step.Step.TheVariants.{Clausify, Component, Opposite, Split, Chain}
use Rattle.kernel_steps.specs.declared.step.Line.{Line}
use Rattle.herbrand_list.specs.Demands.{Demand, put_in, step_at, terms_for, demands_of}

-- ---- names

-- component, opposite, split and chain lines speak of names
abbrev pub speaks_of_names : Step → Bool
speaks_of_names (Component name) = true
speaks_of_names (Opposite name) = true
speaks_of_names (Split parent definitions parts) = true
speaks_of_names (Chain parents pivots) = true
speaks_of_names _ = false

-- whether some line does
abbrev pub any_names : List Line → Bool
any_names lines = list_any (λ (l : Line). speaks_of_names l.step) lines

-- the first line that speaks of names, counted from 1
abbrev pub names_line : List Line → Option ℕ
names_line lines = option_map suc (position (λ (l : Line). speaks_of_names l.step) lines)

-- ---- the list

-- the literals of the line with a number
abbrev pub literals_at : List Line → ℕ → List TreeLiteral
literals_at lines n = (clause_of (slice_index_or lines n (record { step = Clausify 0; clause = record { literals = []; names = [] } })).clause).literals

-- a line's clause with these terms for its variables
abbrev pub demanded_instance : Tree → List Line → ℕ → List Tree → GroundClause
demanded_instance constant lines n terms = literals_instance (put_in constant terms) (literals_at lines n)

abbrev pub is_clausify : Step → Bool
is_clausify (Clausify number) = true
is_clausify _ = false

-- the demanded instances of a clausify line; of another line none
abbrev pub instances_at : Tree → List Line → List Demand → ℕ → List GroundClause
instances_at constant lines demands n =
    if is_clausify (step_at lines n) then map (demanded_instance constant lines n) (terms_for n demands) else []

-- from line n - 1 to the first
abbrev pub instances_below : Tree → List Line → List Demand → ℕ → List GroundClause
instances_below constant lines demands zero = []
instances_below constant lines demands (suc n) = instances_at constant lines demands n ++ instances_below constant lines demands n

-- The demanded instances of the clausify lines, from the last line to the first, those of one line in order of arrival. A variable
-- that has no term becomes the constant.
abbrev pub ground_list : Tree → List Line → List GroundClause
ground_list constant lines = instances_below constant lines (demands_of constant lines) (length lines)

-- ---- the weight

abbrev pub ground_size : GroundClause → ℕ
ground_size c = sum_by literal_size c

-- the sum of size plus 1 over all demanded instances, also those of lines that aren't clausify lines
abbrev pub weight : Tree → List Line → ℕ
weight constant lines =
    sum_by (λ (d : Demand). ground_size (demanded_instance constant lines d.line d.terms) + 1) (demands_of constant lines)

-- ---- the constant

-- the first function symbol without arguments, which has the lowest number; there is one in each clausal form
abbrev pub first_constant : List FunctionSymbol → Tree
first_constant [] = application 0 no_trees
first_constant (s ∷ ss) = if s.arity == 0 then application s.number no_trees else first_constant ss
