-- The program's typed problems and their translations in the words of the definitions.
use Rattle.std.specs.Prelude.{◌≡◌, List, map}
use Rattle.tptp_tree.specs.declared.problem.Annotated.{Annotated}
use Rattle.tptp_problem.specs.Formulas.{placed}
use Rattle.typed_problem.specs.declared.problem.TypedAnnotated.{TypedAnnotated}
use Rattle.typed_problem.specs.declared.problem.TypedProblem.{TypedProblem}
use Rattle.typed_tree.specs.declared.sort.Declaration.{Declaration}
use Rattle.typed_tree.specs.Shape.{sort_of, result_sort, typed_of, declaration_of}
use Rattle.typed_tree.specs.Sorts.{SymbolType}
use Rattle.typed_problem.specs.Declarations.{TypedAnnotatedTree, TypedProblemTree}
use Rattle.typed_problem.specs.Translation.{translation}

-- the type that a declaration of the program gives
abbrev pub type_of : Declaration → SymbolType
type_of d = record { arguments = map sort_of d.args; result = result_sort d.result }

abbrev pub annotated_of : TypedAnnotated → TypedAnnotatedTree
annotated_of a = record { name = a.name; role = a.role; formula = typed_of a.formula; file = a.file; place = a.place }

abbrev pub problem_of : TypedProblem → TypedProblemTree
problem_of t = record { sorts = t.sorts; declared = map declaration_of t.declared; formulas = map annotated_of t.formulas }

-- The program's formulas are the translation of the typed problem.
abbrev pub IsTranslation : TypedProblemTree → List Annotated → Type 0
IsTranslation t formulas = map placed formulas ≡ translation t
