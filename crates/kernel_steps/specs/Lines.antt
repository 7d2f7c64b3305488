-- The parts of steps and lines beside their conclusions: parents, names of inferences, sizes, and the numbers of variables.
use Rattle.std.specs.Prelude.{◌≡◌, ℕ, Bool, true, false, ◌&&◌, nat_lt, nat_le, List, [], ◌∷◌, ◌++◌, filter, flat_map, length, Option, None, Some, option_map, All, IsTrue}
use Rattle.std.specs.List.{list_all}
use Rattle.fol_base.specs.Tree.{Tree, variable, tree_size, trees_of, trees_variables}
use Rattle.fol_base.specs.Clause.{TreeLiteral, TreeClause, clause_variables}
use Rattle.fol_base.specs.Canonical.{bound_of, distinct, numbers_from, terms_from, IsCanonical}
use Rattle.fol_base.specs.Literal.{clause_of}
use Rattle.fol_base.specs.declared.limits.TheConstants.{MOST_SYMBOLS}
use Rattle.kernel_steps.specs.Parents.{Parent, Parents}
use Rattle.kernel_steps.specs.Derivation.{AreSteps}
use Rattle.kernel_steps.specs.Soundness.{bindings_of, binds_each, BindsFunctionTerms}
use Rattle.kernel_steps.specs.declared.key.Key.{Key}
use Rattle.kernel_steps.specs.declared.key.Key.TheVariants as key
use Rattle.kernel_steps.specs.declared.step.TheConstants.{CLAUSE_NUMBERS}
use Rattle.kernel_steps.specs.declared.step.Step.{Step}
use Rattle.kernel_steps.specs.declared.step.Step.TheVariants.{Clausify, Para, Refl, Factor, Merge, Split, Chain}
use Rattle.kernel_steps.specs.declared.step.Line.{Line}

-- ---- parents

-- clauses as parents by their numbers; they introduce no names
abbrev pub clause_parents : (ℕ → Option TreeClause) → Parents
clause_parents clauses n = option_map (λ c. let p : Parent = record { clause = c; introduces = false } in p) (clauses n)

-- the numbers of a step's parents, in its order
abbrev pub step_parents : Step → List ℕ
step_parents (Para first second from from_side into into_side place first_bind second_bind) = first ∷ second ∷ []
step_parents (Refl parent literal bind) = parent ∷ []
step_parents (Factor parent becomes becomes_side other other_side bind) = parent ∷ []
step_parents (Merge parent stays goes bind) = parent ∷ []
step_parents (Split parent definitions parts) = parent ∷ definitions
step_parents (Chain numbers pivots) = numbers
step_parents _ = []

-- the parents of lines that are clauses by their numbers, and neither lines nor a clause that was handed in
abbrev pub clauses_named : List Line → List ℕ
clauses_named lines = filter (λ n. nat_lt n CLAUSE_NUMBERS) (flat_map (λ (l : Line). step_parents l.step) lines)

-- ---- kinds of steps

-- inferences and reductions, which conclude from literals
abbrev pub is_on_literals : Step → Bool
is_on_literals (Para first second from from_side into into_side place first_bind second_bind) = true
is_on_literals (Refl parent literal bind) = true
is_on_literals (Factor parent becomes becomes_side other other_side bind) = true
is_on_literals (Merge parent stays goes bind) = true
is_on_literals _ = false

-- A clause of the form, or a conclusion from literals: the steps of a derivation in which nothing is split.
abbrev pub is_plain_step : Step → Bool
is_plain_step (Clausify i) = true
is_plain_step step = is_on_literals step

-- the name of the inference that a step makes, where its parents are clauses by their numbers
abbrev pub key_of : Step → Option Key
key_of (Para first second from from_side into into_side place first_bind second_bind) =
    Some (key.Para first from from_side second into into_side place)
key_of (Refl parent literal bind) = Some (key.Refl parent literal)
key_of (Factor parent becomes becomes_side other other_side bind) = Some (key.Factor parent becomes becomes_side other other_side)
key_of _ = None

-- ---- sizes

-- at most as many symbols as a kept clause may have
abbrev pub is_small_term : Tree → Bool
is_small_term t = nat_le (tree_size t) MOST_SYMBOLS

-- neither side is too large
abbrev pub has_small_sides : TreeLiteral → Bool
has_small_sides l = is_small_term l.left && is_small_term l.right

-- no side of a literal and no term that is bound is too large
abbrev pub has_small_terms : Line → Bool
has_small_terms l = list_all has_small_sides (clause_of l.clause).literals && binds_each is_small_term l.step

-- ---- variables

-- the variables of a clause as terms, by their numbers
abbrev pub own_terms : TreeClause → List Tree
own_terms c = terms_from 0 (bound_of (clause_variables c)) variable

-- the variables of a line's clause, and then those of the terms in its step's bindings
abbrev pub line_variables : Line → List ℕ
line_variables l = clause_variables (clause_of l.clause) ++ flat_map (λ b. trees_variables (trees_of b)) (bindings_of l.step)

-- The clause is canonical, and the variables that stand in the bindings alone have the next numbers.
pub record IsNumbered (l : Line) : Type 0 where
  pub canonical : IsCanonical (clause_of l.clause)
  pub bindings : let order = distinct (line_variables l) in order ≡ numbers_from 0 (length order)

-- ---- lines

-- Lines that go on from parents: line i has the number first + i. They are kernel steps on literals that bind small function terms.
pub record AreLines (is_predicate : ℕ → Bool) (first : ℕ) (parents : Parents) (lines : List Line) : Type 0 where
  pub kinds : IsTrue (list_all (λ (l : Line). is_on_literals l.step) lines)
  pub steps : AreSteps first parents lines
  pub numbered : All IsNumbered lines
  pub terms : BindsFunctionTerms is_predicate lines
  pub small : IsTrue (list_all has_small_terms lines)
