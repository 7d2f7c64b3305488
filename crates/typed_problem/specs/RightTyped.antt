-- The typed problems that are translated: their sorts and types are right, no variable is free, and they are within a size.
use Rattle.std.specs.Prelude.{◌≡◌, ℕ, ◌+◌, ◌≤◌, Bool, true, not, ◌&&◌, count_by, List, [], ◌∷◌, ◌++◌, map, length, sum, Option, None, Some, IsTrue, IsFalse}
use Rattle.std.specs.List.{AllByRecursion}
use Rattle.tptp_token.specs.Spelling.{is_one_of}
use Rattle.tptp_tree.specs.Entries.{is_conjecture}
use Rattle.tptp_problem.specs.Closed.{term_within, terms_within}
use Rattle.typed_problem.specs.declared.limits.TheConstants.{MOST_TYPED_SIZE}
use Rattle.typed_tree.specs.declared.cause.TypedCause.{TypedCause}
use Rattle.typed_tree.specs.Sorts.{SortTree, Declared, a_sort, a_symbol, DeclarationTree}
use Rattle.typed_tree.specs.TypedFormula.{TypedVariable, TypedTree, truth, falsity, predicate, equation, negation, conjunction, disjunction, connected, quantified, TypedTrees, no_formulas, formula_then, typed_occurrences}
use Rattle.typed_problem.specs.Declarations.{is_sort_word, TypedAnnotatedTree, TypedProblemTree, all_declarations}
use Rattle.typed_problem.specs.SortFaults.{declared_causes, formula_causes}

-- ---- variables

abbrev pub variable_names : List TypedVariable → List (List ℕ)
variable_names xs = map (λ (x : TypedVariable). x.name) xs

-- each variable is one of these, or a quantifier around it binds it
abbrev mutual
  pub typed_within : List (List ℕ) → TypedTree → Bool
  typed_within xs truth = true
  typed_within xs falsity = true
  typed_within xs (predicate p ts) = terms_within xs ts
  typed_within xs (equation positive s t) = term_within xs s && term_within xs t
  typed_within xs (negation f) = typed_within xs f
  typed_within xs (conjunction fs) = all_typed_within xs fs
  typed_within xs (disjunction fs) = all_typed_within xs fs
  typed_within xs (connected c f g) = typed_within xs f && typed_within xs g
  typed_within xs (quantified q ys f) = typed_within (variable_names ys ++ xs) f

  pub all_typed_within : List (List ℕ) → TypedTrees → Bool
  all_typed_within xs no_formulas = true
  all_typed_within xs (formula_then f fs) = typed_within xs f && all_typed_within xs fs

-- ---- words

-- no word stands twice
abbrev pub are_different_words : List (List ℕ) → Bool
are_different_words [] = true
are_different_words (w ∷ ws) = not (is_one_of ws w) && are_different_words ws

abbrev pub declared_words : TypedProblemTree → List (List ℕ)
declared_words t = map (λ (d : DeclarationTree). d.word) (all_declarations t)

-- ---- sizes

abbrev pub result_count : Option SortTree → ℕ
result_count None = 0
result_count (Some s) = 1

abbrev pub sorts_in : Declared → ℕ
sorts_in a_sort = 0
sorts_in (a_symbol t) = length t.arguments + result_count t.result

-- declared words, sorts in declarations, formulas, occurrences of symbols and variables, and quantified variables
abbrev pub typed_problem_size : TypedProblemTree → ℕ
typed_problem_size t =
    length (all_declarations t) + sum (map (λ (d : DeclarationTree). sorts_in d.declared) t.declared)
    + length t.formulas + sum (map (λ (a : TypedAnnotatedTree). typed_occurrences a.formula) t.formulas)

abbrev pub IsNone : Option TypedCause → Type 0
IsNone cause = cause ≡ None

-- The condition of a translation, which each typed problem that is read has. No declaration of a sort is listed among those of the symbols.
pub record IsRightTyped (t : TypedProblemTree) : Type 0 where
  pub words : IsTrue (are_different_words (declared_words t))
  pub symbols : AllByRecursion (λ (d : DeclarationTree). IsFalse (is_sort_word (Some d.declared))) t.declared
  pub declared : AllByRecursion (λ (d : DeclarationTree). AllByRecursion IsNone (declared_causes (all_declarations t) d.declared)) t.declared
  pub sorted : AllByRecursion (λ (a : TypedAnnotatedTree). AllByRecursion IsNone (formula_causes (all_declarations t) [] a.formula [])) t.formulas
  pub closed : AllByRecursion (λ (a : TypedAnnotatedTree). IsTrue (typed_within [] a.formula)) t.formulas
  pub one_conjecture : count_by (λ (a : TypedAnnotatedTree). is_conjecture a.role) t.formulas ≤ 1
  pub size : typed_problem_size t ≤ MOST_TYPED_SIZE
