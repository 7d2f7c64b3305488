-- Typed formulas over names, as trees: those of untyped ones, with a sort for each variable that a quantifier binds.
use Rattle.std.specs.Prelude.{ℕ, ◌+◌, Bool, List, [], ◌∷◌, length}
use Rattle.tptp_tree.specs.Term.{TermTree, TermTrees, term_size, terms_size}
use Rattle.tptp_tree.specs.Formula.{BinaryConnective, Quantifier}
use Rattle.typed_tree.specs.Sorts.{SortTree}

pub record TypedVariable : Type 0 where
  pub name : List ℕ
  pub sort : SortTree

mutual
  pub data TypedTree : Type 0 where
    truth : TypedTree
    falsity : TypedTree
    predicate : List ℕ → TermTrees → TypedTree
    equation : Bool → TermTree → TermTree → TypedTree
    negation : TypedTree → TypedTree
    conjunction : TypedTrees → TypedTree
    disjunction : TypedTrees → TypedTree
    connected : BinaryConnective → TypedTree → TypedTree → TypedTree
    quantified : Quantifier → List TypedVariable → TypedTree → TypedTree

  pub data TypedTrees : Type 0 where
    no_formulas : TypedTrees
    formula_then : TypedTree → TypedTrees → TypedTrees

-- the trees of a list
abbrev pub trees_of : List TypedTree → TypedTrees
trees_of [] = no_formulas
trees_of (f ∷ fs) = formula_then f (trees_of fs)

-- how many formulas there are in a formula, itself included
abbrev mutual
  pub typed_size : TypedTree → ℕ
  typed_size truth = 1
  typed_size falsity = 1
  typed_size (predicate p ts) = 1
  typed_size (equation positive s t) = 1
  typed_size (negation f) = 1 + typed_size f
  typed_size (conjunction fs) = 1 + all_typed_size fs
  typed_size (disjunction fs) = 1 + all_typed_size fs
  typed_size (connected c f g) = 1 + (typed_size f + typed_size g)
  typed_size (quantified q xs f) = 1 + typed_size f

  pub all_typed_size : TypedTrees → ℕ
  all_typed_size no_formulas = 0
  all_typed_size (formula_then f fs) = typed_size f + all_typed_size fs

-- the occurrences of symbols and variables in a formula, and the variables that it quantifies
abbrev mutual
  pub typed_occurrences : TypedTree → ℕ
  typed_occurrences truth = 0
  typed_occurrences falsity = 0
  typed_occurrences (predicate p ts) = 1 + terms_size ts
  typed_occurrences (equation positive s t) = term_size s + term_size t
  typed_occurrences (negation f) = typed_occurrences f
  typed_occurrences (conjunction fs) = all_typed_occurrences fs
  typed_occurrences (disjunction fs) = all_typed_occurrences fs
  typed_occurrences (connected c f g) = typed_occurrences f + typed_occurrences g
  typed_occurrences (quantified q xs f) = length xs + typed_occurrences f

  pub all_typed_occurrences : TypedTrees → ℕ
  all_typed_occurrences no_formulas = 0
  all_typed_occurrences (formula_then f fs) = typed_occurrences f + all_typed_occurrences fs
