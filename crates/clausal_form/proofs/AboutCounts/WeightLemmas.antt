-- The weights of forms, matrices and terms, as a walk over them works them off.
use Rattle.std.proofs.Common.{◌≡◌, ℕ, ◌+◌, ◌-◌, ◌^◌, ◌<◌, ◌≤◌, Bool, true, false, ◌&&◌, ◌||◌, List, length, map, drop, get_or, refl, ap, sym, ◌∙◌, arith}
use Rattle.std.specs.Prelude.{min}
use Rattle.tptp_tree.specs.Term.{term_size, terms_size, terms_of}
use Rattle.tptp_tree.specs.Shape.{term_of}
use Rattle.tptp_tree.specs.declared.term.TreeTerm.{TreeTerm}
use Rattle.tptp_tree.specs.Formula.{formulas_of}
use Rattle.formula_nnf.specs.declared.form.Nnf.{Nnf}
use Rattle.formula_nnf.specs.Shape.{nnf_tree}
use Rattle.skolem.specs.Heavy.{form_has_clauses, some_form_has_clauses, all_forms_have_clauses}
use Rattle.clausal_form.specs.Heavy.{heavy_form, some_heavy_form, written_total, written_totals}
use Rattle.plain_types.specs.Capped.{capped}
use Rattle.list_lemmas.proofs.Bools.{or-false, and-true}
use Rattle.list_lemmas.proofs.Places.{drop-item, drop-all}

-- one member more of a disjunction or a conjunction of tests
or-then : (made new found rest all : Bool) → new ≡ (made || found) → (made || (found || rest)) ≡ all → (new || rest) ≡ all
or-then made new found rest all h k = ap (λ t. t || rest) h ∙ by made found ∙ k
  where
    by : (t u : Bool) → ((t || u) || rest) ≡ (t || (u || rest))
    by true u = refl
    by false u = refl

and-then : (made new found rest all : Bool) → new ≡ (made && found) → (made && (found && rest)) ≡ all → (new && rest) ≡ all
and-then made new found rest all h k = ap (λ t. t && rest) h ∙ by made found ∙ k
  where
    by : (t u : Bool) → ((t && u) && rest) ≡ (t && (u && rest))
    by true u = refl
    by false u = refl

-- ---- normal forms

pub some-forms-then :
    (made new found all : Bool) (fs : List Nnf) (i : ℕ) (f : Nnf)
    → i < length fs → f ≡ get_or fs i f → found ≡ form_has_clauses (nnf_tree f) → new ≡ (made || found)
    → (made || some_form_has_clauses (formulas_of (map nnf_tree (drop i fs)))) ≡ all
    → (new || some_form_has_clauses (formulas_of (map nnf_tree (drop (i + 1) fs)))) ≡ all
some-forms-then made new found all fs i f h e g n k =
    or-then made new (form_has_clauses (nnf_tree f)) _ all (n ∙ ap (λ t. made || t) g)
    (ap (λ us. made || some_form_has_clauses (formulas_of (map nnf_tree us))) (sym (drop-item fs i f h e)) ∙ k)

pub all-forms-then :
    (made new found all : Bool) (fs : List Nnf) (i : ℕ) (f : Nnf)
    → i < length fs → f ≡ get_or fs i f → found ≡ form_has_clauses (nnf_tree f) → new ≡ (made && found)
    → (made && all_forms_have_clauses (formulas_of (map nnf_tree (drop i fs)))) ≡ all
    → (new && all_forms_have_clauses (formulas_of (map nnf_tree (drop (i + 1) fs)))) ≡ all
all-forms-then made new found all fs i f h e g n k =
    and-then made new (form_has_clauses (nnf_tree f)) _ all (n ∙ ap (λ t. made && t) g)
    (ap (λ us. made && all_forms_have_clauses (formulas_of (map nnf_tree us))) (sym (drop-item fs i f h e)) ∙ k)

pub heavy-forms-then :
    (made new found all : Bool) (fs : List Nnf) (i : ℕ) (f : Nnf)
    → i < length fs → f ≡ get_or fs i f → found ≡ heavy_form (nnf_tree f) → new ≡ (made || found)
    → (made || some_heavy_form (formulas_of (map nnf_tree (drop i fs)))) ≡ all
    → (new || some_heavy_form (formulas_of (map nnf_tree (drop (i + 1) fs)))) ≡ all
heavy-forms-then made new found all fs i f h e g n k =
    or-then made new (heavy_form (nnf_tree f)) _ all (n ∙ ap (λ t. made || t) g)
    (ap (λ us. made || some_heavy_form (formulas_of (map nnf_tree us))) (sym (drop-item fs i f h e)) ∙ k)

pub some-forms-end :
    (made all : Bool) (fs : List Nnf) (i : ℕ)
    → length fs ≤ i → (made || some_form_has_clauses (formulas_of (map nnf_tree (drop i fs)))) ≡ all → made ≡ all
some-forms-end made all fs i h k =
    sym (or-false made) ∙ ap (λ us. made || some_form_has_clauses (formulas_of (map nnf_tree us))) (sym (drop-all fs i h)) ∙ k

pub all-forms-end :
    (made all : Bool) (fs : List Nnf) (i : ℕ)
    → length fs ≤ i → (made && all_forms_have_clauses (formulas_of (map nnf_tree (drop i fs)))) ≡ all → made ≡ all
all-forms-end made all fs i h k =
    sym (and-true made) ∙ ap (λ us. made && all_forms_have_clauses (formulas_of (map nnf_tree us))) (sym (drop-all fs i h)) ∙ k

pub heavy-forms-end :
    (made all : Bool) (fs : List Nnf) (i : ℕ)
    → length fs ≤ i → (made || some_heavy_form (formulas_of (map nnf_tree (drop i fs)))) ≡ all → made ≡ all
heavy-forms-end made all fs i h k =
    sym (or-false made) ∙ ap (λ us. made || some_heavy_form (formulas_of (map nnf_tree us))) (sym (drop-all fs i h)) ∙ k

-- ---- the symbols of literals together

pub totals-then :
    (made new found all : ℕ) (fs : List Nnf) (i : ℕ) (f : Nnf)
    → i < length fs → f ≡ get_or fs i f → found ≡ capped (written_total (nnf_tree f)) → new ≡ capped (made + found)
    → capped (made + written_totals (formulas_of (map nnf_tree (drop i fs)))) ≡ all
    → capped (new + written_totals (formulas_of (map nnf_tree (drop (i + 1) fs)))) ≡ all
totals-then made new found all fs i f h e g n k =
    let next : written_totals (formulas_of (map nnf_tree (drop i fs))) ≡ written_total (nnf_tree f) + written_totals (formulas_of (map nnf_tree (drop (i + 1) fs))) =
    ap (λ gs. written_totals (formulas_of (map nnf_tree gs))) (drop-item fs i f h e) in
    omega (arith, next, g, n, k)

pub totals-end :
    (made all : ℕ) (fs : List Nnf) (i : ℕ)
    → length fs ≤ i → made ≤ 2 ^ 64 - 1 → capped (made + written_totals (formulas_of (map nnf_tree (drop i fs)))) ≡ all → made ≡ all
totals-end made all fs i h l k =
    let none : written_totals (formulas_of (map nnf_tree (drop i fs))) ≡ 0 = ap (λ gs. written_totals (formulas_of (map nnf_tree gs))) (drop-all fs i h) in
    omega (arith, none, l, k)

-- ---- sizes of terms

pub sizes-then :
    (made new all most : ℕ) (ts : List TreeTerm) (i : ℕ) (t : TreeTerm)
    → i < length ts → t ≡ get_or ts i t → new ≡ min (made + term_size (term_of t)) most
    → min (made + terms_size (terms_of (map term_of (drop i ts)))) most ≡ all
    → min (new + terms_size (terms_of (map term_of (drop (i + 1) ts)))) most ≡ all
sizes-then made new all most ts i t h e n m =
    let next : terms_size (terms_of (map term_of (drop i ts))) ≡ term_size (term_of t) + terms_size (terms_of (map term_of (drop (i + 1) ts))) =
    ap (λ us. terms_size (terms_of (map term_of us))) (drop-item ts i t h e) in
    omega (arith, next, n, m)

pub sizes-end :
    (made all most : ℕ) (ts : List TreeTerm) (i : ℕ)
    → length ts ≤ i → made ≤ most → min (made + terms_size (terms_of (map term_of (drop i ts)))) most ≡ all → made ≡ all
sizes-end made all most ts i h l m =
    let none : terms_size (terms_of (map term_of (drop i ts))) ≡ 0 = ap (λ us. terms_size (terms_of (map term_of us))) (drop-all ts i h) in
    omega (arith, none, l, m)
