-- The clauses of a normal form are those of the formula.
use Rattle.std.proofs.Common.{◌≡◌, ℕ, Bool, true, false, not, List, [], ◌∷◌, ◌++◌, map, refl, ap, ◌∙◌, append-nil}
use Rattle.std.specs.Prelude.{if◌then◌else◌}
use Rattle.tptp_tree.specs.Formula.{implies, implied, equivalent, different, nor, nand, Quantifier, for_all, exists_some, FormulaTree, truth, falsity, predicate, equation, negation, conjunction, disjunction, connected, quantified, FormulaTrees, no_formulas, formula_then}
use Rattle.signature.specs.Environment.{Environment, free_names}
use Rattle.signature.specs.Clausal.{SymbolNumbers, Made, Worked, Scope, Literals, Work, product, joined, scope_of, makes_variables, clauses_of, listed_clauses, product_clauses}
use Rattle.formula_nnf.specs.NormalForm.{pair_form, quantifier_form, normal_form, normal_forms}
use Rattle.formula_nnf.specs.NormalFormLaws.{NormalFormKeepsClauses}
use Rattle.formula_nnf.proofs.NameLemmas.{skolem-same, names-same}

-- ---- joined works

abbrev combined : SymbolNumbers → Bool → ℕ → Worked → Worked → Worked
combined n listed began w v = if listed then record { clauses = w.clauses ++ v.clauses; made = v.made } else product n began w.clauses v.clauses v.made

joined-same :
    (n : SymbolNumbers) (listed : Bool) (f f₁ g g₁ : Work)
    → ((m : Made) → f m ≡ f₁ m) → ((m : Made) → g m ≡ g₁ m) → (m : Made) → joined n listed f g m ≡ joined n listed f₁ g₁ m
joined-same n listed f f₁ g g₁ h k m =
    ap (λ (w : Worked). combined n listed m.variables w (g w.made)) (h m) ∙ ap (combined n listed m.variables (f₁ m)) (k (f₁ m).made)

units : (cs : List Literals) → map (λ d. [] ++ d) cs ++ [] ≡ cs
units [] = refl
units (c ∷ cs) = ap (λ ds. c ∷ ds) (units cs)

product-one : (n : SymbolNumbers) (began : ℕ) (cs : List Literals) (m : Made) → product n began ([] ∷ []) cs m ≡ record { clauses = cs; made = m }
product-one n began cs m = ap (λ ds. let r : Worked = record { clauses = ds; made = m } in r) (units cs)

pair-joined :
    (n : SymbolNumbers) (all : Bool) (f g : FormulaTree) (env : Environment) (m : Made)
    → clauses_of n (pair_form all f g) true env m ≡ joined n all (clauses_of n f true env) (clauses_of n g true env) m
pair-joined n true f g env m =
    let w : Worked = clauses_of n f true env m in
    let v : Worked = clauses_of n g true env w.made in
    ap (λ cs. let r : Worked = record { clauses = w.clauses ++ cs; made = v.made } in r) (append-nil v.clauses)
pair-joined n false f g env m =
    let w : Worked = clauses_of n f true env m in
    ap (λ (u : Worked). product n m.variables u.clauses (clauses_of n g true env u.made).clauses (clauses_of n g true env u.made).made)
    (product-one n m.variables w.clauses w.made)

paired :
    (n : SymbolNumbers) (all : Bool) (a b : FormulaTree) (f g : Work) (env : Environment)
    → ((m : Made) → clauses_of n a true env m ≡ f m) → ((m : Made) → clauses_of n b true env m ≡ g m)
    → (m : Made) → clauses_of n (pair_form all a b) true env m ≡ joined n all f g m
paired n all a b f g env h k m =
    pair-joined n all a b env m ∙ joined-same n all (clauses_of n a true env) f (clauses_of n b true env) g h k m

-- ---- the law

scope-same :
    (n : SymbolNumbers) (new : Bool) (xs : List (List ℕ)) (f : FormulaTree) (sign : Bool) (env : Environment) (m : Made)
    → scope_of n new xs (normal_form f sign) env m ≡ scope_of n new xs f env m
scope-same n true xs f sign env m = refl
scope-same n false xs f sign env m = skolem-same n (free_names (normal_form f sign)) (free_names f) xs env m (names-same f sign)

turned : (q : Quantifier) (sign : Bool) → makes_variables (quantifier_form sign q) true ≡ makes_variables q sign
turned for_all true = refl
turned for_all false = refl
turned exists_some true = refl
turned exists_some false = refl

mutual
  clauses-same :
      (n : SymbolNumbers) (f : FormulaTree) (sign : Bool) (env : Environment) (m : Made)
      → clauses_of n (normal_form f sign) true env m ≡ clauses_of n f sign env m
  clauses-same n truth true env m = refl
  clauses-same n truth false env m = refl
  clauses-same n falsity true env m = refl
  clauses-same n falsity false env m = refl
  clauses-same n (predicate p ts) true env m = refl
  clauses-same n (predicate p ts) false env m = refl
  clauses-same n (equation true s t) true env m = refl
  clauses-same n (equation true s t) false env m = refl
  clauses-same n (equation false s t) true env m = refl
  clauses-same n (equation false s t) false env m = refl
  clauses-same n (negation f) sign env m = clauses-same n f (not sign) env m
  clauses-same n (conjunction fs) true env m = listed-same n fs true env m
  clauses-same n (conjunction fs) false env m = products-same n m.variables ([] ∷ []) fs false env m
  clauses-same n (disjunction fs) true env m = products-same n m.variables ([] ∷ []) fs true env m
  clauses-same n (disjunction fs) false env m = listed-same n fs false env m
  clauses-same n (connected implies f g) sign env m =
      paired n (not sign) (normal_form f (not sign)) (normal_form g sign) (clauses_of n f (not sign) env) (clauses_of n g sign env) env
      (λ o. clauses-same n f (not sign) env o) (λ o. clauses-same n g sign env o) m
  clauses-same n (connected implied f g) sign env m =
      paired n (not sign) (normal_form f sign) (normal_form g (not sign)) (clauses_of n f sign env) (clauses_of n g (not sign) env) env
      (λ o. clauses-same n f sign env o) (λ o. clauses-same n g (not sign) env o) m
  clauses-same n (connected nor f g) sign env m =
      paired n sign (normal_form f (not sign)) (normal_form g (not sign)) (clauses_of n f (not sign) env) (clauses_of n g (not sign) env) env
      (λ o. clauses-same n f (not sign) env o) (λ o. clauses-same n g (not sign) env o) m
  clauses-same n (connected nand f g) sign env m =
      paired n (not sign) (normal_form f (not sign)) (normal_form g (not sign)) (clauses_of n f (not sign) env) (clauses_of n g (not sign) env) env
      (λ o. clauses-same n f (not sign) env o) (λ o. clauses-same n g (not sign) env o) m
  clauses-same n (connected equivalent f g) sign env m =
      paired n true (pair_form false (normal_form f (not sign)) (normal_form g true)) (pair_form false (normal_form f sign) (normal_form g false))
      (joined n false (clauses_of n f (not sign) env) (clauses_of n g true env)) (joined n false (clauses_of n f sign env) (clauses_of n g false env)) env
      (paired n false (normal_form f (not sign)) (normal_form g true) (clauses_of n f (not sign) env) (clauses_of n g true env) env
      (λ o. clauses-same n f (not sign) env o) (λ o. clauses-same n g true env o))
      (paired n false (normal_form f sign) (normal_form g false) (clauses_of n f sign env) (clauses_of n g false env) env
      (λ o. clauses-same n f sign env o) (λ o. clauses-same n g false env o)) m
  clauses-same n (connected different f g) sign env m =
      paired n true (pair_form false (normal_form f sign) (normal_form g true)) (pair_form false (normal_form f (not sign)) (normal_form g false))
      (joined n false (clauses_of n f sign env) (clauses_of n g true env)) (joined n false (clauses_of n f (not sign) env) (clauses_of n g false env)) env
      (paired n false (normal_form f sign) (normal_form g true) (clauses_of n f sign env) (clauses_of n g true env) env
      (λ o. clauses-same n f sign env o) (λ o. clauses-same n g true env o))
      (paired n false (normal_form f (not sign)) (normal_form g false) (clauses_of n f (not sign) env) (clauses_of n g false env) env
      (λ o. clauses-same n f (not sign) env o) (λ o. clauses-same n g false env o)) m
  clauses-same n (quantified q xs f) sign env m =
      let s : Scope = scope_of n (makes_variables (quantifier_form sign q) true) xs (normal_form f sign) env m in
      clauses-same n f sign s.environment s.made
      ∙ ap (λ (r : Scope). clauses_of n f sign r.environment r.made)
      (scope-same n (makes_variables (quantifier_form sign q) true) xs f sign env m
      ∙ ap (λ new. scope_of n new xs f env m) (turned q sign))

  listed-same :
      (n : SymbolNumbers) (fs : FormulaTrees) (sign : Bool) (env : Environment) (m : Made)
      → listed_clauses n (normal_forms fs sign) true env m ≡ listed_clauses n fs sign env m
  listed-same n no_formulas sign env m = refl
  listed-same n (formula_then f fs) sign env m =
      joined-same n true (clauses_of n (normal_form f sign) true env) (clauses_of n f sign env)
      (listed_clauses n (normal_forms fs sign) true env) (listed_clauses n fs sign env)
      (λ o. clauses-same n f sign env o) (λ o. listed-same n fs sign env o) m

  products-same :
      (n : SymbolNumbers) (began : ℕ) (cs : List Literals) (fs : FormulaTrees) (sign : Bool) (env : Environment) (m : Made)
      → product_clauses n began cs (normal_forms fs sign) true env m ≡ product_clauses n began cs fs sign env m
  products-same n began cs no_formulas sign env m = refl
  products-same n began cs (formula_then f fs) sign env m =
      let w : Worked = clauses_of n (normal_form f sign) true env m in
      let v : Worked = product n began cs w.clauses w.made in
      products-same n began v.clauses fs sign env v.made
      ∙ ap (λ (u : Worked). let t : Worked = product n began cs u.clauses u.made in product_clauses n began t.clauses fs sign env t.made)
      (clauses-same n f sign env m)

pub normal_form_keeps_clauses : NormalFormKeepsClauses
normal_form_keeps_clauses n f sign env m = clauses-same n f sign env m
