-- The clauses of a formula in negation normal form are those of its matrix.
use Rattle.std.proofs.Common.{◌≡◌, ℕ, Bool, true, false, not, List, [], ◌∷◌, ◌++◌, length, refl, ap, sym, ◌∙◌}
use Rattle.std.specs.Prelude.{if◌then◌else◌, nat_lt}
use Rattle.std.proofs.lemmas.Bool.{and_parts, and_from}
use Rattle.tptp_tree.specs.Formula.{implies, implied, equivalent, different, nor, nand, FormulaTree, truth, falsity, predicate, equation, negation, conjunction, disjunction, connected, quantified, FormulaTrees, no_formulas, formula_then}
use Rattle.signature.specs.Environment.{Environment, free_names}
use Rattle.signature.specs.Clausal.{SymbolNumbers, Made, Worked, Scope, Literals, Work, all_pairs, is_large, named, product, truth_value, with_variables, with_skolem_terms, scope_of, makes_variables, clauses_of, listed_clauses, product_clauses}
use Rattle.formula_nnf.specs.NormalForm.{list_form, pair_form, normal_form, normal_forms}
use Rattle.formula_nnf.proofs.ClauseLemmas.{normal_form_keeps_clauses}
use Rattle.skolem.specs.Matrix.{MatrixTree, truth as true_matrix, falsity as false_matrix, literal, conjunction as all_of, disjunction as some_of, MatrixTrees, no_matrices, matrix_then, negated}
use Rattle.skolem.specs.Skolemized.{Skolemized, SkolemizedList, skolemized, skolemized_list}
use Rattle.skolem.specs.MatrixClauses.{matrix_clauses, listed_matrices, product_of_matrices}
use Rattle.skolem.specs.SkolemizedLaws.{is_predicate, is_normal, are_normal, MatrixKeepsClauses, MatrixOfNormalFormKeepsClauses}

-- ---- what the work on a part doesn't look at

-- the variables and Skolem symbols of the one, the names of the other
abbrev with_names : Made → Made → Made
with_names m o =
    record { variables = m.variables; skolem_arities = m.skolem_arities; naming_arities = o.naming_arities; defining = o.defining }

abbrev scope_with : Made → Scope → Scope
scope_with o s = record { environment = s.environment; made = with_names s.made o }

abbrev matrix_with : Made → Skolemized → Skolemized
matrix_with o s = record { matrix = s.matrix; made = with_names s.made o }

abbrev matrices_with : Made → SkolemizedList → SkolemizedList
matrices_with o s = record { matrices = s.matrices; made = with_names s.made o }

-- the variables and Skolem symbols of the one, and what is worked
abbrev worked_with : Made → Worked → Worked
worked_with m w = record { clauses = w.clauses; made = with_names m w.made }

itself : (m : Made) → with_names m m ≡ m
itself m = refl

variables-frame : (xs : List (List ℕ)) (env : Environment) (m o : Made) → with_variables xs env (with_names m o) ≡ scope_with o (with_variables xs env m)
variables-frame [] env m o = refl
variables-frame (x ∷ xs) env m o = variables-frame xs _ _ o

terms-frame :
    (n : SymbolNumbers) (free xs : List (List ℕ)) (env : Environment) (m o : Made)
    → with_skolem_terms n free xs env (with_names m o) ≡ scope_with o (with_skolem_terms n free xs env m)
terms-frame n free [] env m o = refl
terms-frame n free (x ∷ xs) env m o = terms-frame n free xs _ _ o

scope-frame :
    (n : SymbolNumbers) (new : Bool) (xs : List (List ℕ)) (f : FormulaTree) (env : Environment) (m o : Made)
    → scope_of n new xs f env (with_names m o) ≡ scope_with o (scope_of n new xs f env m)
scope-frame n true xs f env m o = variables-frame xs env m o
scope-frame n false xs f env m o = terms-frame n (free_names f) xs env m o

mutual
  skolemized-frame :
      (n : SymbolNumbers) (f : FormulaTree) (env : Environment) (m o : Made)
      → skolemized n f env (with_names m o) ≡ matrix_with o (skolemized n f env m)
  skolemized-frame n truth env m o = refl
  skolemized-frame n falsity env m o = refl
  skolemized-frame n (predicate p ts) env m o = refl
  skolemized-frame n (equation positive s t) env m o = refl
  skolemized-frame n (negation f) env m o =
      ap (λ (s : Skolemized). let r : Skolemized = record { matrix = negated s.matrix; made = s.made } in r) (skolemized-frame n f env m o)
  skolemized-frame n (conjunction fs) env m o =
      ap (λ (s : SkolemizedList). let r : Skolemized = record { matrix = all_of s.matrices; made = s.made } in r) (skolemized-list-frame n fs env m o)
  skolemized-frame n (disjunction fs) env m o =
      ap (λ (s : SkolemizedList). let r : Skolemized = record { matrix = some_of m.variables s.matrices; made = s.made } in r)
      (skolemized-list-frame n fs env m o)
  skolemized-frame n (connected c f g) env m o = refl
  skolemized-frame n (quantified q xs f) env m o =
      let s : Scope = scope_of n (makes_variables q true) xs f env m in
      ap (λ (r : Scope). skolemized n f r.environment r.made) (scope-frame n (makes_variables q true) xs f env m o)
      ∙ skolemized-frame n f s.environment s.made o

  skolemized-list-frame :
      (n : SymbolNumbers) (fs : FormulaTrees) (env : Environment) (m o : Made)
      → skolemized_list n fs env (with_names m o) ≡ matrices_with o (skolemized_list n fs env m)
  skolemized-list-frame n no_formulas env m o = refl
  skolemized-list-frame n (formula_then f fs) env m o =
      let s : Skolemized = skolemized n f env m in
      ap (λ (t : Skolemized). let rest : SkolemizedList = skolemized_list n fs env t.made in
      let r : SkolemizedList = record { matrices = matrix_then t.matrix rest.matrices; made = rest.made } in r) (skolemized-frame n f env m o)
      ∙ ap (λ (rest : SkolemizedList). let r : SkolemizedList = record { matrices = matrix_then s.matrix rest.matrices; made = rest.made } in r)
      (skolemized-list-frame n fs env s.made o)

-- the cases of a product: it is large, and its second list is the longer one
abbrev product_by : SymbolNumbers → ℕ → List Literals → List Literals → Bool → Bool → Work
product_by n began first second large longer m =
    if not large then record { clauses = all_pairs first second; made = m }
    else if longer then
    (let w : Worked = named n began second m in record { clauses = all_pairs first w.clauses; made = w.made })
    else (let w : Worked = named n began first m in record { clauses = all_pairs w.clauses second; made = w.made })

product-frame :
    (n : SymbolNumbers) (began : ℕ) (first second : List Literals) (m o : Made)
    → product n began first second (with_names m o) ≡ worked_with m (product n began first second o)
product-frame n began first second m o = by (is_large first second) (nat_lt (length first) (length second))
  where
    by : (t u : Bool) → product_by n began first second t u (with_names m o) ≡ worked_with m (product_by n began first second t u o)
    by false u = refl
    by true true = refl
    by true false = refl

truth-frame : (sign : Bool) (m o : Made) → truth_value sign (with_names m o) ≡ worked_with m (truth_value sign o)
truth-frame true m o = refl
truth-frame false m o = refl

-- one list of clauses after another
abbrev after : Worked → Worked → Worked
after w v = record { clauses = w.clauses ++ v.clauses; made = v.made }

mutual
  matrix-frame :
      (n : SymbolNumbers) (x : MatrixTree) (m o : Made) → matrix_clauses n x (with_names m o) ≡ worked_with m (matrix_clauses n x o)
  matrix-frame n true_matrix m o = truth-frame true m o
  matrix-frame n false_matrix m o = truth-frame false m o
  matrix-frame n (literal l) m o = refl
  matrix-frame n (all_of xs) m o = listed-frame n xs m o
  matrix-frame n (some_of began xs) m o = products-frame n began ([] ∷ []) xs m o

  listed-frame :
      (n : SymbolNumbers) (xs : MatrixTrees) (m o : Made) → listed_matrices n xs (with_names m o) ≡ worked_with m (listed_matrices n xs o)
  listed-frame n no_matrices m o = truth-frame true m o
  listed-frame n (matrix_then x xs) m o =
      let w : Worked = matrix_clauses n x o in
      ap (λ (v : Worked). after v (listed_matrices n xs v.made)) (matrix-frame n x m o)
      ∙ ap (after w) (listed-frame n xs m w.made)

  products-frame :
      (n : SymbolNumbers) (began : ℕ) (cs : List Literals) (xs : MatrixTrees) (m o : Made)
      → product_of_matrices n began cs xs (with_names m o) ≡ worked_with m (product_of_matrices n began cs xs o)
  products-frame n began cs no_matrices m o = refl
  products-frame n began cs (matrix_then x xs) m o =
      let w : Worked = matrix_clauses n x o in
      let p : Worked = product n began cs w.clauses w.made in
      ap (λ (v : Worked). let t : Worked = product n began cs v.clauses v.made in product_of_matrices n began t.clauses xs t.made)
      (matrix-frame n x m o)
      ∙ ap (λ (t : Worked). product_of_matrices n began t.clauses xs t.made) (product-frame n began cs w.clauses m w.made)
      ∙ products-frame n began p.clauses xs m p.made

-- ---- the law

negated-clauses :
    (n : SymbolNumbers) (f : FormulaTree) (env : Environment) (m : Made) → is_predicate f ≡ true
    → clauses_of n f false env m ≡ worked_with (skolemized n f env m).made (matrix_clauses n (negated (skolemized n f env m).matrix) m)
negated-clauses n truth env m h = cc
negated-clauses n falsity env m h = cc
negated-clauses n (predicate p ts) env m h = refl
negated-clauses n (equation positive s t) env m h = cc
negated-clauses n (negation f) env m h = cc
negated-clauses n (conjunction fs) env m h = cc
negated-clauses n (disjunction fs) env m h = cc
negated-clauses n (connected c f g) env m h = cc
negated-clauses n (quantified q xs f) env m h = cc

mutual
  clauses-kept :
      (n : SymbolNumbers) (f : FormulaTree) (env : Environment) (m : Made) → is_normal f ≡ true
      → (let s : Skolemized = skolemized n f env m in clauses_of n f true env m ≡ worked_with s.made (matrix_clauses n s.matrix m))
  clauses-kept n truth env m h = refl
  clauses-kept n falsity env m h = refl
  clauses-kept n (predicate p ts) env m h = refl
  clauses-kept n (equation true s t) env m h = refl
  clauses-kept n (equation false s t) env m h = refl
  clauses-kept n (negation f) env m h = negated-clauses n f env m h
  clauses-kept n (conjunction fs) env m h = listed-kept n fs env m h
  clauses-kept n (disjunction fs) env m h = products-kept n m.variables ([] ∷ []) fs env m h
  clauses-kept n (connected c f g) env m h = cc
  clauses-kept n (quantified q xs f) env m h =
      let s : Scope = scope_of n (makes_variables q true) xs f env m in
      let t : Skolemized = skolemized n f s.environment s.made in
      clauses-kept n f s.environment s.made h
      ∙ ap (λ (o : Made). worked_with t.made (matrix_clauses n t.matrix o)) (ap (λ (r : Scope). r.made) (scope-frame n (makes_variables q true) xs f env m m))
      ∙ ap (worked_with t.made) (matrix-frame n t.matrix s.made m)

  listed-kept :
      (n : SymbolNumbers) (fs : FormulaTrees) (env : Environment) (m : Made) → are_normal fs ≡ true
      → (let s : SkolemizedList = skolemized_list n fs env m in listed_clauses n fs true env m ≡ worked_with s.made (listed_matrices n s.matrices m))
  listed-kept n no_formulas env m h = refl
  listed-kept n (formula_then f fs) env m h =
      let s : Skolemized = skolemized n f env m in
      let w : Worked = matrix_clauses n s.matrix m in
      let o : Made = with_names s.made w.made in
      let rest : SkolemizedList = skolemized_list n fs env s.made in
      ap (λ (v : Worked). after v (listed_clauses n fs true env v.made)) (clauses-kept n f env m (and_parts _ _ h).0)
      ∙ ap (after w) (listed-kept n fs env o (and_parts _ _ h).1)
      ∙ ap (λ (r : SkolemizedList). after w (worked_with r.made (listed_matrices n r.matrices o))) (skolemized-list-frame n fs env s.made w.made)
      ∙ ap (λ (v : Worked). after w (worked_with rest.made v)) (listed-frame n rest.matrices s.made w.made)

  products-kept :
      (n : SymbolNumbers) (began : ℕ) (cs : List Literals) (fs : FormulaTrees) (env : Environment) (m : Made) → are_normal fs ≡ true
      → (let s : SkolemizedList = skolemized_list n fs env m in
      product_clauses n began cs fs true env m ≡ worked_with s.made (product_of_matrices n began cs s.matrices m))
  products-kept n began cs no_formulas env m h = refl
  products-kept n began cs (formula_then f fs) env m h =
      let s : Skolemized = skolemized n f env m in
      let w : Worked = matrix_clauses n s.matrix m in
      let p : Worked = product n began cs w.clauses w.made in
      let o : Made = with_names s.made p.made in
      let rest : SkolemizedList = skolemized_list n fs env s.made in
      ap (λ (v : Worked). let t : Worked = product n began cs v.clauses v.made in product_clauses n began t.clauses fs true env t.made)
      (clauses-kept n f env m (and_parts _ _ h).0)
      ∙ ap (λ (t : Worked). product_clauses n began t.clauses fs true env t.made) (product-frame n began cs w.clauses s.made w.made)
      ∙ products-kept n began p.clauses fs env o (and_parts _ _ h).1
      ∙ ap (λ (r : SkolemizedList). worked_with r.made (product_of_matrices n began p.clauses r.matrices o)) (skolemized-list-frame n fs env s.made p.made)
      ∙ ap (worked_with rest.made) (products-frame n began p.clauses rest.matrices s.made p.made)

pub matrix_keeps_clauses : MatrixKeepsClauses
matrix_keeps_clauses n f env m h =
    let s : Skolemized = skolemized n f env m in
    clauses-kept n f env m h
    ∙ sym (ap (matrix_clauses n s.matrix) (ap (λ (r : Skolemized). r.made) (skolemized-frame n f env m m)) ∙ matrix-frame n s.matrix s.made m)

-- ---- normal forms

list-normal : (all : Bool) (fs : FormulaTrees) → are_normal fs ≡ true → is_normal (list_form all fs) ≡ true
list-normal true fs h = h
list-normal false fs h = h

pair-normal : (all : Bool) (f g : FormulaTree) → is_normal f ≡ true → is_normal g ≡ true → is_normal (pair_form all f g) ≡ true
pair-normal all f g h k = list-normal all (formula_then f (formula_then g no_formulas)) (and_from _ _ h (and_from _ _ k refl))

doubled-normal :
    (a b c d : FormulaTree) → is_normal a ≡ true → is_normal b ≡ true → is_normal c ≡ true → is_normal d ≡ true
    → is_normal (pair_form true (pair_form false a b) (pair_form false c d)) ≡ true
doubled-normal a b c d h k i j =
    pair-normal true (pair_form false a b) (pair_form false c d) (pair-normal false a b h k) (pair-normal false c d i j)

mutual
  form-normal : (f : FormulaTree) (sign : Bool) → is_normal (normal_form f sign) ≡ true
  form-normal truth true = refl
  form-normal truth false = refl
  form-normal falsity true = refl
  form-normal falsity false = refl
  form-normal (predicate p ts) true = refl
  form-normal (predicate p ts) false = refl
  form-normal (equation positive s t) sign = refl
  form-normal (negation f) sign = form-normal f (not sign)
  form-normal (conjunction fs) sign = list-normal sign (normal_forms fs sign) (forms-normal fs sign)
  form-normal (disjunction fs) sign = list-normal (not sign) (normal_forms fs sign) (forms-normal fs sign)
  form-normal (connected implies f g) sign = pair-normal (not sign) (normal_form f (not sign)) (normal_form g sign) (form-normal f (not sign)) (form-normal g sign)
  form-normal (connected implied f g) sign = pair-normal (not sign) (normal_form f sign) (normal_form g (not sign)) (form-normal f sign) (form-normal g (not sign))
  form-normal (connected nor f g) sign = pair-normal sign (normal_form f (not sign)) (normal_form g (not sign)) (form-normal f (not sign)) (form-normal g (not sign))
  form-normal (connected nand f g) sign = pair-normal (not sign) (normal_form f (not sign)) (normal_form g (not sign)) (form-normal f (not sign)) (form-normal g (not sign))
  form-normal (connected equivalent f g) sign =
      doubled-normal (normal_form f (not sign)) (normal_form g true) (normal_form f sign) (normal_form g false)
      (form-normal f (not sign)) (form-normal g true) (form-normal f sign) (form-normal g false)
  form-normal (connected different f g) sign =
      doubled-normal (normal_form f sign) (normal_form g true) (normal_form f (not sign)) (normal_form g false)
      (form-normal f sign) (form-normal g true) (form-normal f (not sign)) (form-normal g false)
  form-normal (quantified q xs f) sign = form-normal f sign

  forms-normal : (fs : FormulaTrees) (sign : Bool) → are_normal (normal_forms fs sign) ≡ true
  forms-normal no_formulas sign = refl
  forms-normal (formula_then f fs) sign = and_from _ _ (form-normal f sign) (forms-normal fs sign)

pub matrix_of_normal_form_keeps_clauses : MatrixOfNormalFormKeepsClauses
matrix_of_normal_form_keeps_clauses n f sign env m =
    sym (normal_form_keeps_clauses n f sign env m) ∙ matrix_keeps_clauses n (normal_form f sign) env m (form-normal f sign)
