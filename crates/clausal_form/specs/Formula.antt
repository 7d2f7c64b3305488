-- One formula of a problem.
use Rattle.std.specs.Prelude.{◌≡◌, ℕ, ◌+◌, not, List, [], ◌++◌, flat_map, Some, Result, Ok, Err}
use Rattle.tptp_tree.specs.Entries.{is_conjecture}
use Rattle.tptp_tree.specs.declared.problem.Annotated.{Annotated}
use Rattle.signature.specs.declared.symbol.Symbol.{Symbol}
use Rattle.signature.specs.Environment.{closed}
use Rattle.signature.specs.Clausal.{SymbolNumbers, Made, Literals}
use Rattle.formula_nnf.specs.NormalForm.{normal_form}
use Rattle.skolem.specs.Shape.{matrix_tree}
use Rattle.skolem.specs.Skolemized.{Skolemized, skolemized_form}
use Rattle.skolem.specs.declared.forms.Skolemized.{Skolemized as MadeMatrix}
use Rattle.skolem.specs.Matrix.{MatrixTree}
use Rattle.skolem.specs.MatrixClauses.{matrix_clauses}
use Rattle.clausal_form.specs.Fault.{limit_fault, counted_in}
use Rattle.clausal_form.specs.Measure.{largest}
use Rattle.clausal_form.specs.declared.fault.FormCause.{FormCause}
use Rattle.clausal_form.specs.Naming.{definition_clauses}
use Rattle.clausal_form.specs.declared.naming.Definition.{Definition}

-- the matrix of a formula, whose Skolem symbols come after the symbols that are known
abbrev pub form_by_itself : List Symbol → Annotated → Skolemized
form_by_itself known a = skolemized_form known (normal_form (closed a) (not (is_conjecture a.role)))

-- The clauses of a matrix, with those that define names, pass that limit, whatever was counted before.
abbrev pub Passes : FormCause → MatrixTree → Type 0
Passes cause x =
    (n : SymbolNumbers) (m : Made) (before after : ℕ) (cs : List Literals)
    → m.defining ≡ [] → cs ≡ (matrix_clauses n x m).clauses ++ (matrix_clauses n x m).made.defining
    → limit_fault (largest cs) (before + counted_in cs + after) ≡ Some cause

-- that matrix with its Skolem symbols by their numbers of arguments, or the limit that the formula passes
abbrev pub IsMatrixOrCause : List Symbol → Annotated → Result MadeMatrix FormCause → Type 0
IsMatrixOrCause known a (Err cause) = Passes cause (form_by_itself known a).matrix
IsMatrixOrCause known a (Ok made) =
    (matrix_tree made.matrix ≡ (form_by_itself known a).matrix) × (made.arities.items ≡ (form_by_itself known a).made.skolem_arities)

abbrev pub definitions_clauses : List Definition → List Literals
definitions_clauses ds = flat_map definition_clauses ds
