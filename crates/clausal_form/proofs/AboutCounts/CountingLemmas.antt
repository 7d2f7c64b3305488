-- Counts of Skolem symbols over lists of formulas.
use Rattle.std.proofs.Common.{◌≡◌, ℕ, ◌+◌, ◌<◌, ◌≤◌, min, Bool, true, false, not, List, [], ◌∷◌, length, map, drop, get_or, ap, ◌∙◌, arith}
use Rattle.std.specs.Prelude.{nat_lt, if◌then◌else◌}
use Rattle.tptp_tree.specs.Entries.{is_conjecture}
use Rattle.tptp_tree.specs.declared.problem.Annotated.{Annotated}
use Rattle.tptp_tree.specs.Formula.{formulas_of}
use Rattle.tptp_tree.specs.Shape.{formula_of}
use Rattle.tptp_tree.specs.declared.formula.Formula.{Formula}
use Rattle.signature.specs.Environment.{closed}
use Rattle.signature.specs.Form.{skolem_count, all_skolem_count, problem_skolem_count}
use Rattle.formula_nnf.specs.Expanded.{expanded_count}
use Rattle.clausal_form.specs.Progress.{expandable, counted_skolem}
use Rattle.fol_base.specs.declared.limits.TheConstants.{MOST_FORM_SYMBOLS}
use Rattle.clausal_form.specs.declared.fault.TheConstants.{MOST_EXPANDED}
use Rattle.list_lemmas.proofs.Places.{drop-item, drop-all}

pub count-then :
    (fs : List Formula) (i : ℕ) (f : Formula) (sign : Bool) → i < length fs → f ≡ get_or fs i f
    → all_skolem_count (formulas_of (map formula_of (drop i fs))) sign
    ≡ skolem_count (formula_of f) sign + all_skolem_count (formulas_of (map formula_of (drop (i + 1) fs))) sign
count-then fs i f sign h e = ap (λ gs. all_skolem_count (formulas_of (map formula_of gs)) sign) (drop-item fs i f h e)

-- ---- the formulas of a problem

-- the Skolem symbols of those before a place are counted, up to the limit
abbrev pub IsCounted : List Annotated → ℕ → ℕ → Type 0
IsCounted fs i total =
    (min (total + problem_skolem_count (expandable (drop i fs))) MOST_FORM_SYMBOLS ≡ counted_skolem fs) × (total ≤ MOST_FORM_SYMBOLS)

pub counted-begin : (fs : List Annotated) → IsCounted fs 0 0
counted-begin fs = (omega arith, omega arith)

expandable-none : (fs gs : List Annotated) (total : ℕ) → gs ≡ [] → (min (total + problem_skolem_count gs) MOST_FORM_SYMBOLS ≡ counted_skolem fs) → total ≤ MOST_FORM_SYMBOLS → total ≡ counted_skolem fs
expandable-none fs gs total e h k = let none : problem_skolem_count gs ≡ 0 = ap problem_skolem_count e in omega (arith, none, h, k)

pub counted-end : (fs : List Annotated) (i total : ℕ) → length fs ≤ i → IsCounted fs i total → total ≡ counted_skolem fs
counted-end fs i total h c = expandable-none fs (expandable (drop i fs)) total (ap expandable (drop-all fs i h)) c.0 c.1

pub counted-stop :
    (fs : List Annotated) (i : ℕ) (a : Annotated) (total : ℕ) → i < length fs → a ≡ get_or fs i a
    → nat_lt MOST_EXPANDED (expanded_count (formula_of a.formula)) ≡ true → IsCounted fs i total
    → total ≡ counted_skolem fs
counted-stop fs i a total h e b c =
    expandable-none fs (expandable (drop i fs)) total
    (ap expandable (drop-item fs i a h e) ∙ ap (λ t. if t then [] else a ∷ expandable (drop (i + 1) fs)) b) c.0 c.1

pub counted-then :
    (fs : List Annotated) (i : ℕ) (a : Annotated) (total count new : ℕ) → i < length fs → a ≡ get_or fs i a
    → nat_lt MOST_EXPANDED (expanded_count (formula_of a.formula)) ≡ false
    → count ≡ skolem_count (closed a) (not (is_conjecture a.role)) → new ≡ min (total + count) MOST_FORM_SYMBOLS → IsCounted fs i total
    → IsCounted fs (i + 1) new
counted-then fs i a total count new h e b k n c = (
  omega (
    arith,
    ap problem_skolem_count (ap expandable (drop-item fs i a h e) ∙ ap (λ t. if t then [] else a ∷ expandable (drop (i + 1) fs)) b),
    k,
    n,
    c.0,
    c.1,
  ),
  omega (arith, n),
)
