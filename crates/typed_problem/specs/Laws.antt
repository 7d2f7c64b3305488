-- Declared or not, the type of a symbol has as many arguments as the symbol.
use Rattle.std.specs.Prelude.{◌≡◌, ℕ, List, length}
use Rattle.typed_tree.specs.Sorts.{DeclarationTree}
use Rattle.typed_problem.specs.Declarations.{function_type, predicate_type}

abbrev pub FunctionTypesFit : Type 0
FunctionTypesFit = (ds : List DeclarationTree) (name : List ℕ) (arity : ℕ) → length (function_type ds name arity).arguments ≡ arity

abbrev pub PredicateTypesFit : Type 0
PredicateTypesFit = (ds : List DeclarationTree) (name : List ℕ) (arity : ℕ) → length (predicate_type ds name arity).arguments ≡ arity
