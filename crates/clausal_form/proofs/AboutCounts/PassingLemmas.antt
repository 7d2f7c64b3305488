-- The limits that a formula passes by the literals of its normal form.
use Rattle.std.proofs.Common.{◌≡◌, ℕ, ◌+◌, ◌<◌, ◌≤◌, Bool, true, false, List, [], refl, ap, sym, subst, ◌∙◌, arith}
use Rattle.std.specs.Prelude.{max, not, flat_map, nat_lt, None, Some, Err, if◌then◌else◌}
use Rattle.std.proofs.lemmas.Bool.{lt-ltb, le-ltb}
use Rattle.std.proofs.lemmas.List.Sums.{sum_by-append}
use Rattle.tptp_tree.specs.Entries.{is_conjecture}
use Rattle.tptp_tree.specs.Formula.{FormulaTree}
use Rattle.tptp_tree.specs.declared.problem.Annotated.{Annotated}
use Rattle.fol_base.specs.declared.limits.TheConstants.{MOST_SYMBOLS, MOST_FORM_SYMBOLS}
use Rattle.signature.specs.declared.symbol.Symbol.{Symbol}
use Rattle.signature.specs.Environment.{closed}
use Rattle.signature.specs.Form.{nothing_made}
use Rattle.formula_nnf.specs.NormalForm.{normal_form}
use Rattle.skolem.specs.Matrix.{MatrixTree}
use Rattle.skolem.specs.MatrixClauses.{matrix_clauses}
use Rattle.skolem.specs.Skolemized.{skolemized_form, numbers_after}
use Rattle.skolem.specs.Outline.{outline_of, told}
use Rattle.skolem.specs.Heavy.{heavy_matrix, matrix_total, IsMatrixEnd}
use Rattle.skolem.specs.declared.forms.MatrixEnd.{MatrixEnd}
use Rattle.skolem.specs.declared.forms.MatrixEnd.TheVariants.{TooHeavy as over_limit, TotalLimit as over_total}
use Rattle.clausal_form.specs.Fault.{limit_fault, counted_in}
use Rattle.clausal_form.specs.Formula.{Passes, IsMatrixOrCause}
use Rattle.clausal_form.specs.Heavy.{heavy_form, written_total}
use Rattle.clausal_form.specs.Measure.{literals_size, symbols_in, largest}
use Rattle.clausal_form.specs.Naming.{definition_clauses, naming_made, naming_numbers}
use Rattle.clausal_form.specs.declared.naming.Naming.{Naming}
use Rattle.clausal_form.specs.declared.fault.FormCause.{FormCause}
use Rattle.clausal_form.specs.declared.fault.FormCause.TheVariants.{TooHeavy, TotalLimit}
use Rattle.clausal_form.proofs.AboutCounts.HeavyLemmas.{heavy-largest, form-heavy}
use Rattle.clausal_form.proofs.AboutCounts.OutlineLemmas.{tells, all-told}
use Rattle.clausal_form.proofs.AboutCounts.TotalLemmas.{total-so, written-more}

too-heavy : (size total : ℕ) → nat_lt MOST_SYMBOLS size ≡ true → limit_fault size total ≡ Some TooHeavy
too-heavy size total h = ap (λ t. if t then Some TooHeavy else if nat_lt MOST_FORM_SYMBOLS total then Some TotalLimit else None) h

over-total : (size total : ℕ) → nat_lt MOST_SYMBOLS size ≡ false → nat_lt MOST_FORM_SYMBOLS total ≡ true → limit_fault size total ≡ Some TotalLimit
over-total size total h k =
    ap (λ t. if t then Some TooHeavy else if nat_lt MOST_FORM_SYMBOLS total then Some TotalLimit else None) h
    ∙ ap (λ t. if t then Some TotalLimit else None) k

pub heavy-passes : (x : MatrixTree) → heavy_matrix x ≡ true → Passes TooHeavy x
heavy-passes x h n m before after cs d e = too-heavy (largest cs) (before + counted_in cs + after) (heavy-largest n x m cs h e)

-- the outline's largest clause is over the limit
pub outline-passes :
    (x : MatrixTree) (size : ℕ) → size ≡ told (max (outline_of x).largest (outline_of x).defining) → MOST_SYMBOLS < size → Passes TooHeavy x
outline-passes x size t h n m before after cs d e =
    too-heavy (largest cs) (before + counted_in cs + after) (lt-ltb MOST_SYMBOLS (largest cs) (omega (arith, all-told n x m cs d e, t, h)))

-- naming ended with a clause that defines a name and is over the limit
pub end-passes :
    (x : MatrixTree) (begun : Naming) → begun.definitions.items ≡ []
    → MOST_SYMBOLS < largest (matrix_clauses (naming_numbers begun.first) x (naming_made begun)).made.defining → Passes TooHeavy x
end-passes x begun d h =
    outline-passes x (told (max (outline_of x).largest (outline_of x).defining)) refl
    (omega (arith, h, (tells (naming_numbers begun.first) x (naming_made begun)).defining, ap (λ ds. largest (flat_map definition_clauses ds)) d))

-- it isn't, and all literals together are
pub total-passes :
    (known : List Symbol) (f : FormulaTree) (size : ℕ)
    → size ≡ told (max (outline_of (skolemized_form known f).matrix).largest (outline_of (skolemized_form known f).matrix).defining)
    → size ≤ MOST_SYMBOLS → MOST_FORM_SYMBOLS < matrix_total (skolemized_form known f).matrix → Passes TotalLimit (skolemized_form known f).matrix
total-passes known f size t h o n m before after cs d e =
    over-total (largest cs) (before + counted_in cs + after)
    (le-ltb MOST_SYMBOLS (largest cs) (omega (arith, all-told n (skolemized_form known f).matrix m cs d e, t, h)))
    (lt-ltb MOST_FORM_SYMBOLS (before + counted_in cs + after)
    (omega (
      arith,
      o,
      total-so n (skolemized_form known f).matrix m,
      ap symbols_in e,
      sum_by-append literals_size (matrix_clauses n (skolemized_form known f).matrix m).clauses (matrix_clauses n (skolemized_form known f).matrix m).made.defining,
    )))

-- ---- the program's answer, from the normal form that it made

pub cause-of-form :
    (known : List Symbol) (a : Annotated) (f : FormulaTree) (cause : FormCause)
    → f ≡ normal_form (closed a) (not (is_conjecture a.role)) → Passes cause (skolemized_form known f).matrix → IsMatrixOrCause known a (Err cause)
cause-of-form known a f cause e p = subst (λ g. Passes cause (skolemized_form known g).matrix) e p

pub heavy-form-of :
    (known : List Symbol) (a : Annotated) (f : FormulaTree) (heavy : Bool)
    → f ≡ normal_form (closed a) (not (is_conjecture a.role)) → heavy ≡ heavy_form f → heavy ≡ true → IsMatrixOrCause known a (Err TooHeavy)
heavy-form-of known a f heavy e h t =
    cause-of-form known a f TooHeavy e
    (heavy-passes (skolemized_form known f).matrix (form-heavy (numbers_after known) f [] nothing_made (sym h ∙ t)))

pub heavy-end-of :
    (known : List Symbol) (a : Annotated) (f : FormulaTree) (end : MatrixEnd)
    → f ≡ normal_form (closed a) (not (is_conjecture a.role)) → end ≡ over_limit
    → IsMatrixEnd end true 0 (heavy_matrix (skolemized_form known f).matrix) (matrix_total (skolemized_form known f).matrix)
    → IsMatrixOrCause known a (Err TooHeavy)
heavy-end-of known a f end e t h =
    cause-of-form known a f TooHeavy e
    (heavy-passes (skolemized_form known f).matrix
    (subst (λ k. IsMatrixEnd k true 0 (heavy_matrix (skolemized_form known f).matrix) (matrix_total (skolemized_form known f).matrix)) t h))

-- ---- the literals are too large together

pub written-over : (known : List Symbol) (f : FormulaTree) → MOST_FORM_SYMBOLS < written_total f → MOST_FORM_SYMBOLS < matrix_total (skolemized_form known f).matrix
written-over known f h = omega (arith, h, written-more (numbers_after known) f [] nothing_made)

pub over-end-of :
    (known : List Symbol) (f : FormulaTree) (end : MatrixEnd)
    → end ≡ over_total → IsMatrixEnd end true 0 (heavy_matrix (skolemized_form known f).matrix) (matrix_total (skolemized_form known f).matrix)
    → MOST_FORM_SYMBOLS < matrix_total (skolemized_form known f).matrix
over-end-of known f end t h =
    let over : IsMatrixEnd over_total true 0 (heavy_matrix (skolemized_form known f).matrix) (matrix_total (skolemized_form known f).matrix) =
    subst (λ k. IsMatrixEnd k true 0 (heavy_matrix (skolemized_form known f).matrix) (matrix_total (skolemized_form known f).matrix)) t h in
    omega (arith, over)
