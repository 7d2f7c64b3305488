-- Which parts have clauses, and literals that are too heavy in these, alone or together: what is found in a member is found in the whole.
use Rattle.std.proofs.Common.{◌≡◌, ℕ, ◌+◌, ◌<◌, ◌≤◌, ◌⊎◌, inl, inr, Bool, true, false, ◌&&◌, ◌||◌, List, [], ◌∷◌, ◌++◌, length, map, drop, get_or, refl, ap, sym, subst, ◌∙◌, arith}
use Rattle.std.specs.Prelude.{if◌then◌else◌}
use Rattle.std.proofs.lemmas.Bool.{and_parts}
use Rattle.tptp_tree.specs.Formula.{FormulaTree, truth, falsity, predicate, equation, negation, conjunction, disjunction, connected, quantified, FormulaTrees, no_formulas, formula_then, formulas_of}
use Rattle.signature.specs.declared.symbol.Symbol.{Symbol}
use Rattle.signature.specs.Environment.{Environment}
use Rattle.signature.specs.Clausal.{SymbolNumbers, Made, Scope, scope_of, makes_variables}
use Rattle.formula_nnf.specs.declared.form.Nnf.{Nnf}
use Rattle.formula_nnf.specs.Shape.{nnf_tree}
use Rattle.skolem.specs.Matrix.{MatrixTree, MatrixTrees, matrices_of, list_of_matrices}
use Rattle.skolem.specs.Skolemized.{Skolemized, SkolemizedList, skolemized, skolemized_list, numbers_after}
use Rattle.skolem.specs.Progress.{environment_of, made_of}
use Rattle.skolem.specs.SkolemizedLaws.{is_predicate}
use Rattle.skolem.specs.Heavy.{has_clauses, some_have_clauses, all_have_clauses, heavy_matrix, some_heavy, matrix_total, matrix_totals, total_in, form_has_clauses, some_form_has_clauses, all_forms_have_clauses, IsMatrixEnd}
use Rattle.skolem.specs.declared.forms.MatrixEnd.{MatrixEnd}
use Rattle.skolem.specs.declared.forms.MatrixEnd.TheVariants.{NoMemory, TooHeavy, TotalLimit}
use Rattle.skolem.specs.declared.progress.Progress.{Progress}
use Rattle.skolem.proofs.AboutFormulas.FormLemmas.{list_left, matrices_left, left-then, rest-same, one}
use Rattle.list_lemmas.proofs.Bools.{both-true, or-second, or-first, or-either}
use Rattle.list_lemmas.proofs.Places.{drop-item, drop-all}

-- ---- a form that has clauses, and its matrix

negated-has : (n : SymbolNumbers) (f : FormulaTree) (env : Environment) (m : Made) → is_predicate f ≡ true → has_clauses (skolemized n (negation f) env m).matrix ≡ true
negated-has n truth env m h = cc
negated-has n falsity env m h = cc
negated-has n (predicate p ts) env m h = refl
negated-has n (equation positive s t) env m h = cc
negated-has n (negation f) env m h = cc
negated-has n (conjunction fs) env m h = cc
negated-has n (disjunction fs) env m h = cc
negated-has n (connected c f g) env m h = cc
negated-has n (quantified q xs f) env m h = cc

mutual
  pub form-has : (n : SymbolNumbers) (f : FormulaTree) (env : Environment) (m : Made) → form_has_clauses f ≡ true → has_clauses (skolemized n f env m).matrix ≡ true
  form-has n truth env m h = cc
  form-has n falsity env m h = refl
  form-has n (predicate p ts) env m h = refl
  form-has n (equation positive s t) env m h = refl
  form-has n (negation f) env m h = negated-has n f env m h
  form-has n (conjunction fs) env m h = some-form-has n fs env m h
  form-has n (disjunction fs) env m h = all-forms-have n fs env m h
  form-has n (connected c f g) env m h = cc
  form-has n (quantified q xs f) env m h =
      let s : Scope = scope_of n (makes_variables q true) xs f env m in
      form-has n f s.environment s.made h

  some-form-has :
      (n : SymbolNumbers) (fs : FormulaTrees) (env : Environment) (m : Made)
      → some_form_has_clauses fs ≡ true → some_have_clauses (skolemized_list n fs env m).matrices ≡ true
  some-form-has n no_formulas env m h = cc
  some-form-has n (formula_then f fs) env m h =
      let s : Skolemized = skolemized n f env m in
      by (has_clauses s.matrix) (some_have_clauses (skolemized_list n fs env s.made).matrices)
      (or-either (form_has_clauses f) (some_form_has_clauses fs) h) (form-has n f env m) (some-form-has n fs env s.made)
    where
      by :
          (t u : Bool) → (form_has_clauses f ≡ true) ⊎ (some_form_has_clauses fs ≡ true)
          → (form_has_clauses f ≡ true → t ≡ true) → (some_form_has_clauses fs ≡ true → u ≡ true) → (t || u) ≡ true
      by t u (inl k) p q = or-first t u (p k)
      by t u (inr k) p q = or-second t u (q k)

  pub all-forms-have :
      (n : SymbolNumbers) (fs : FormulaTrees) (env : Environment) (m : Made)
      → all_forms_have_clauses fs ≡ true → all_have_clauses (skolemized_list n fs env m).matrices ≡ true
  all-forms-have n no_formulas env m h = refl
  all-forms-have n (formula_then f fs) env m h =
      let s : Skolemized = skolemized n f env m in
      let parts : (form_has_clauses f ≡ true) × (all_forms_have_clauses fs ≡ true) = and_parts (form_has_clauses f) (all_forms_have_clauses fs) h in
      both-true (has_clauses s.matrix) (all_have_clauses (skolemized_list n fs env s.made).matrices) (form-has n f env m parts.0) (all-forms-have n fs env s.made parts.1)

-- ---- where the work ends

-- in a member
heavy-among : (us vs : List MatrixTree) (m : MatrixTree) → heavy_matrix m ≡ true → some_heavy (matrices_of (us ++ m ∷ vs)) ≡ true
heavy-among [] vs m h = or-first (heavy_matrix m) (some_heavy (matrices_of vs)) h
heavy-among (u ∷ us) vs m h = or-second (heavy_matrix u) (some_heavy (matrices_of (us ++ m ∷ vs))) (heavy-among us vs m h)

-- the symbols of one more
left-total :
    (known : List Symbol) (fs : List Nnf) (i : ℕ) (f : Nnf) (p : Progress) (inside : Bool)
    → i < length fs → f ≡ get_or fs i f
    → total_in inside (matrix_totals (list_left known fs i p).matrices)
    ≡ total_in inside (matrix_total (one known f p).matrix)
    + total_in inside
    (matrix_totals
    (skolemized_list (numbers_after known) (formulas_of (map nnf_tree (drop (i + 1) fs))) (environment_of p.bindings) (one known f p).made).matrices)
left-total known fs i f p inside h e =
    ap (λ (s : SkolemizedList). total_in inside (matrix_totals s.matrices)) (left-then known fs i f p h e) ∙ both inside _ _
  where
    both : (t : Bool) (a b : ℕ) → total_in t (a + b) ≡ total_in t a + total_in t b
    both true a b = refl
    both false a b = refl

pub counted-then :
    (known : List Symbol) (fs : List Nnf) (i : ℕ) (f : Nnf) (p q : Progress) (inside : Bool) (counted new all : ℕ)
    → i < length fs → f ≡ get_or fs i f → made_of q ≡ (one known f p).made → q.bindings ≡ p.bindings
    → new ≤ counted + total_in inside (matrix_total (one known f p).matrix)
    → counted + total_in inside (matrix_totals (list_left known fs i p).matrices) ≤ all
    → new + total_in inside (matrix_totals (list_left known fs (i + 1) q).matrices) ≤ all
counted-then known fs i f p q inside counted new all h e g b k m =
    omega (
      arith,
      k,
      m,
      left-total known fs i f p inside h e,
      ap (λ (s : SkolemizedList). total_in inside (matrix_totals s.matrices)) (rest-same known fs i f p q g b),
    )

pub ended-member :
    (known : List Symbol) (fs : List Nnf) (i : ℕ) (f : Nnf) (p : Progress) (made : List MatrixTree) (all : MatrixTrees) (end : MatrixEnd) (inside : Bool)
    (counted begun : ℕ)
    → i < length fs → f ≡ get_or fs i f
    → matrices_of (made ++ matrices_left known fs i p) ≡ all
    → counted + total_in inside (matrix_totals (list_left known fs i p).matrices) ≤ begun + total_in inside (matrix_totals all)
    → IsMatrixEnd end inside counted (heavy_matrix (one known f p).matrix) (matrix_total (one known f p).matrix)
    → IsMatrixEnd end inside begun (some_heavy all) (matrix_totals all)
ended-member known fs i f p made all NoMemory inside counted begun h e m k g = tt
ended-member known fs i f p made all TooHeavy inside counted begun h e m k g =
    let parts : (inside ≡ true) × (heavy_matrix (one known f p).matrix ≡ true) = and_parts inside (heavy_matrix (one known f p).matrix) g in
    both-true inside (some_heavy all) parts.0
    (ap some_heavy (sym m)
    ∙ ap (λ (s : SkolemizedList). some_heavy (matrices_of (made ++ list_of_matrices s.matrices))) (left-then known fs i f p h e)
    ∙ heavy-among made _ (one known f p).matrix parts.1)
ended-member known fs i f p made all TotalLimit inside counted begun h e m k g = omega (arith, g, k, left-total known fs i f p inside h e)

-- in a product, whose members stand in clauses
counted-members :
    (n : SymbolNumbers) (fs : FormulaTrees) (env : Environment) (m : Made) (in_clauses inside : Bool)
    → inside ≡ (in_clauses && all_forms_have_clauses fs)
    → total_in inside (matrix_totals (skolemized_list n fs env m).matrices) ≤ total_in in_clauses (matrix_total (skolemized n (disjunction fs) env m).matrix)
counted-members n fs env m in_clauses false e = omega arith
counted-members n fs env m in_clauses true e =
    let both : (in_clauses ≡ true) × (all_forms_have_clauses fs ≡ true) = and_parts in_clauses (all_forms_have_clauses fs) (sym e) in
    counted in_clauses (all_have_clauses (skolemized_list n fs env m).matrices) (matrix_totals (skolemized_list n fs env m).matrices)
    both.0 (all-forms-have n fs env m both.1)
  where
    counted : (t u : Bool) (total : ℕ) → t ≡ true → u ≡ true → total ≤ total_in t (if u then total else 0)
    counted true true total p q = omega arith
    counted true false total p q = cc
    counted false u total p q = cc

ended-members :
    (n : SymbolNumbers) (fs : FormulaTrees) (env : Environment) (m : Made) (counted : ℕ) (end : MatrixEnd) (in_clauses inside : Bool)
    → inside ≡ (in_clauses && all_forms_have_clauses fs)
    → IsMatrixEnd end inside counted (some_heavy (skolemized_list n fs env m).matrices) (matrix_totals (skolemized_list n fs env m).matrices)
    → IsMatrixEnd end in_clauses counted (heavy_matrix (skolemized n (disjunction fs) env m).matrix) (matrix_total (skolemized n (disjunction fs) env m).matrix)
ended-members n fs env m counted NoMemory in_clauses inside e g = tt
ended-members n fs env m counted TooHeavy in_clauses inside e g =
    let parts : (inside ≡ true) × (some_heavy (skolemized_list n fs env m).matrices ≡ true) = and_parts inside (some_heavy (skolemized_list n fs env m).matrices) g in
    let both : (in_clauses ≡ true) × (all_forms_have_clauses fs ≡ true) = and_parts in_clauses (all_forms_have_clauses fs) (sym e ∙ parts.0) in
    both-true in_clauses (all_have_clauses (skolemized_list n fs env m).matrices && some_heavy (skolemized_list n fs env m).matrices) both.0
    (both-true (all_have_clauses (skolemized_list n fs env m).matrices) (some_heavy (skolemized_list n fs env m).matrices) (all-forms-have n fs env m both.1) parts.1)
ended-members n fs env m counted TotalLimit in_clauses inside e g = omega (arith, g, counted-members n fs env m in_clauses inside e)

pub counted-product :
    (n : SymbolNumbers) (f : FormulaTree) (us vs : List FormulaTree) (env : Environment) (m : Made) (counted new : ℕ) (in_clauses inside : Bool)
    → f ≡ disjunction (formulas_of us) → vs ≡ us → inside ≡ (in_clauses && all_forms_have_clauses (formulas_of vs))
    → new ≤ counted + total_in inside (matrix_totals (skolemized_list n (formulas_of vs) env m).matrices)
    → new ≤ counted + total_in in_clauses (matrix_total (skolemized n f env m).matrix)
counted-product n f us vs env m counted new in_clauses inside e s k g =
    subst (λ h. new ≤ counted + total_in in_clauses (matrix_total (skolemized n h env m).matrix)) (sym (e ∙ ap (λ ws. disjunction (formulas_of ws)) (sym s)))
    (omega (arith, g, counted-members n (formulas_of vs) env m in_clauses inside k))

pub ended-product :
    (n : SymbolNumbers) (f : FormulaTree) (us vs : List FormulaTree) (env : Environment) (m : Made) (counted : ℕ) (end : MatrixEnd) (in_clauses inside : Bool)
    → f ≡ disjunction (formulas_of us) → vs ≡ us → inside ≡ (in_clauses && all_forms_have_clauses (formulas_of vs))
    → IsMatrixEnd end inside counted (some_heavy (skolemized_list n (formulas_of vs) env m).matrices) (matrix_totals (skolemized_list n (formulas_of vs) env m).matrices)
    → IsMatrixEnd end in_clauses counted (heavy_matrix (skolemized n f env m).matrix) (matrix_total (skolemized n f env m).matrix)
ended-product n f us vs env m counted end in_clauses inside e s k g =
    subst (λ h. IsMatrixEnd end in_clauses counted (heavy_matrix (skolemized n h env m).matrix) (matrix_total (skolemized n h env m).matrix))
    (sym (e ∙ ap (λ ws. disjunction (formulas_of ws)) (sym s)))
    (ended-members n (formulas_of vs) env m counted end in_clauses inside k g)

-- ---- forms that are looked through for clauses

pub some-passed :
    (fs : List Nnf) (i : ℕ) (f : Nnf) (all : Bool) → i < length fs → f ≡ get_or fs i f → form_has_clauses (nnf_tree f) ≡ false
    → some_form_has_clauses (formulas_of (map nnf_tree (drop i fs))) ≡ all → some_form_has_clauses (formulas_of (map nnf_tree (drop (i + 1) fs))) ≡ all
some-passed fs i f all h e g k =
    ap (λ t. t || some_form_has_clauses (formulas_of (map nnf_tree (drop (i + 1) fs)))) (sym g)
    ∙ ap (λ gs. some_form_has_clauses (formulas_of (map nnf_tree gs))) (sym (drop-item fs i f h e)) ∙ k

pub some-found :
    (fs : List Nnf) (i : ℕ) (f : Nnf) (all : Bool) → i < length fs → f ≡ get_or fs i f → form_has_clauses (nnf_tree f) ≡ true
    → some_form_has_clauses (formulas_of (map nnf_tree (drop i fs))) ≡ all → true ≡ all
some-found fs i f all h e g k =
    ap (λ t. t || some_form_has_clauses (formulas_of (map nnf_tree (drop (i + 1) fs)))) (sym g)
    ∙ ap (λ gs. some_form_has_clauses (formulas_of (map nnf_tree gs))) (sym (drop-item fs i f h e)) ∙ k

pub some-end :
    (fs : List Nnf) (i : ℕ) (all : Bool) → length fs ≤ i → some_form_has_clauses (formulas_of (map nnf_tree (drop i fs))) ≡ all → false ≡ all
some-end fs i all h k = ap (λ gs. some_form_has_clauses (formulas_of (map nnf_tree gs))) (sym (drop-all fs i h)) ∙ k

pub all-passed :
    (fs : List Nnf) (i : ℕ) (f : Nnf) (all : Bool) → i < length fs → f ≡ get_or fs i f → form_has_clauses (nnf_tree f) ≡ true
    → all_forms_have_clauses (formulas_of (map nnf_tree (drop i fs))) ≡ all → all_forms_have_clauses (formulas_of (map nnf_tree (drop (i + 1) fs))) ≡ all
all-passed fs i f all h e g k =
    ap (λ t. t && all_forms_have_clauses (formulas_of (map nnf_tree (drop (i + 1) fs)))) (sym g)
    ∙ ap (λ gs. all_forms_have_clauses (formulas_of (map nnf_tree gs))) (sym (drop-item fs i f h e)) ∙ k

pub all-missed :
    (fs : List Nnf) (i : ℕ) (f : Nnf) (all : Bool) → i < length fs → f ≡ get_or fs i f → form_has_clauses (nnf_tree f) ≡ false
    → all_forms_have_clauses (formulas_of (map nnf_tree (drop i fs))) ≡ all → false ≡ all
all-missed fs i f all h e g k =
    ap (λ t. t && all_forms_have_clauses (formulas_of (map nnf_tree (drop (i + 1) fs)))) (sym g)
    ∙ ap (λ gs. all_forms_have_clauses (formulas_of (map nnf_tree gs))) (sym (drop-item fs i f h e)) ∙ k

pub all-end :
    (fs : List Nnf) (i : ℕ) (all : Bool) → length fs ≤ i → all_forms_have_clauses (formulas_of (map nnf_tree (drop i fs))) ≡ all → true ≡ all
all-end fs i all h k = ap (λ gs. all_forms_have_clauses (formulas_of (map nnf_tree gs))) (sym (drop-all fs i h)) ∙ k
