-- The variables of a form, as a walk over it finds them, and that they are those in the terms of its free variables.
use Rattle.std.proofs.Common.{◌≡◌, ℕ, zero, suc, ◌+◌, ◌<◌, ◌≤◌, Bool, true, false, not, ◌&&◌, ◌||◌, ◌==◌, List, [], ◌∷◌, ◌++◌, length, map, drop, get_or, refl, ap, sym, ◌∙◌, append_assoc, append-nil, arith}
use Rattle.std.specs.Prelude.{if◌then◌else◌, bytes_eq}
use Rattle.std.specs.List.{list_any}
use Rattle.std.proofs.lemmas.List.Folds.{list_any-append}
use Rattle.std.proofs.lemmas.List.Elements.{filter_agree}
use Rattle.tptp_tree.specs.Term.{terms_of}
use Rattle.tptp_tree.specs.Formula.{exists_some, FormulaTree, truth, falsity, predicate, equation, negation, conjunction, disjunction, connected, quantified, FormulaTrees, no_formulas, formula_then, formula_size, formulas_size, formulas_of}
use Rattle.tptp_tree.specs.Shape.{term_of}
use Rattle.tptp_tree.specs.declared.term.TreeTerm.{TreeTerm}
use Rattle.fol_base.specs.Tree.{tree_variables, true_tree}
use Rattle.fol_base.specs.Canonical.{numbers_from}
use Rattle.fol_base.proofs.WorkedExamples.TestLemmas.{list_any-agree}
use Rattle.signature.specs.Environment.{Environment, term_names, terms_names, free_names, all_free_names, without_names, term_in_force}
use Rattle.signature.specs.Clausal.{made_in_order, Made, skolem_arguments}
use Rattle.formula_nnf.specs.declared.form.Nnf.{Nnf}
use Rattle.formula_nnf.specs.Shape.{nnf_tree}
use Rattle.skolem.specs.declared.bindings.Binding.{Binding}
use Rattle.skolem.specs.BoundTerm.{bound_tree}
use Rattle.skolem.specs.Progress.{environment_of, occurring_in, with_closed, occurring, all_occurring}
use Rattle.skolem.proofs.AboutBindings.ListLemmas.{added}
use Rattle.skolem.proofs.AboutBindings.BindingsLemmas.{environment-last}
use Rattle.list_lemmas.proofs.Tests.{any-filter, any-flat_map}
use Rattle.list_lemmas.proofs.Places.{drop-item, drop-all}
use Rattle.list_lemmas.proofs.Lists.{bytes-turned}

-- ---- walks

occurring-joined : (env : Environment) (xs ys : List (List ℕ)) → occurring_in env (xs ++ ys) ≡ occurring_in env xs ++ occurring_in env ys
occurring-joined env [] ys = refl
occurring-joined env (x ∷ xs) ys =
    ap (λ vs. tree_variables (term_in_force env x) ++ vs) (occurring-joined env xs ys)
    ∙ sym (append_assoc (tree_variables (term_in_force env x)) (occurring_in env xs) (occurring_in env ys))

pub of-name :
    (made new : List ℕ) (env : Environment) (x : List ℕ) → new ≡ made ++ tree_variables (term_in_force env x) → new ≡ made ++ occurring_in env (x ∷ [])
of-name made new env x h = h ∙ ap (λ vs. made ++ vs) (sym (append-nil (tree_variables (term_in_force env x))))

pub both-sides : (made mid new first second : List ℕ) → mid ≡ made ++ first → new ≡ mid ++ second → new ≡ made ++ (first ++ second)
both-sides made mid new first second h k = k ∙ ap (λ vs. vs ++ second) h ∙ append_assoc made first second

pub terms-added :
    (made new all : List ℕ) (env : Environment) (ts : List TreeTerm) (i : ℕ) (t : TreeTerm)
    → i < length ts → t ≡ get_or ts i t → new ≡ made ++ occurring_in env (term_names (term_of t))
    → made ++ occurring_in env (terms_names (terms_of (map term_of (drop i ts)))) ≡ all
    → new ++ occurring_in env (terms_names (terms_of (map term_of (drop (i + 1) ts)))) ≡ all
terms-added made new all env ts i t h e n m =
    added made new (occurring_in env (term_names (term_of t))) _ all n
    (ap (λ vs. made ++ vs) (sym (occurring-joined env (term_names (term_of t)) (terms_names (terms_of (map term_of (drop (i + 1) ts))))))
    ∙ ap (λ us. made ++ occurring_in env (terms_names (terms_of (map term_of us)))) (sym (drop-item ts i t h e)) ∙ m)

pub terms-done :
    (made all : List ℕ) (env : Environment) (ts : List TreeTerm) (i : ℕ)
    → length ts ≤ i → made ++ occurring_in env (terms_names (terms_of (map term_of (drop i ts)))) ≡ all → made ≡ all
terms-done made all env ts i h m =
    sym (append-nil made) ∙ ap (λ us. made ++ occurring_in env (terms_names (terms_of (map term_of us)))) (sym (drop-all ts i h)) ∙ m

pub forms-added :
    (made new all : List ℕ) (env : Environment) (fs : List Nnf) (i : ℕ) (f : Nnf)
    → i < length fs → f ≡ get_or fs i f → new ≡ made ++ occurring (nnf_tree f) env
    → made ++ all_occurring (formulas_of (map nnf_tree (drop i fs))) env ≡ all
    → new ++ all_occurring (formulas_of (map nnf_tree (drop (i + 1) fs))) env ≡ all
forms-added made new all env fs i f h e n m =
    added made new (occurring (nnf_tree f) env) _ all n
    (ap (λ gs. made ++ all_occurring (formulas_of (map nnf_tree gs)) env) (sym (drop-item fs i f h e)) ∙ m)

pub forms-done :
    (made all : List ℕ) (env : Environment) (fs : List Nnf) (i : ℕ)
    → length fs ≤ i → made ++ all_occurring (formulas_of (map nnf_tree (drop i fs))) env ≡ all → made ≡ all
forms-done made all env fs i h m =
    sym (append-nil made) ∙ ap (λ gs. made ++ all_occurring (formulas_of (map nnf_tree gs)) env) (sym (drop-all fs i h)) ∙ m

form-item :
    (fs : List Nnf) (i : ℕ) (d : Nnf) → i < length fs → formula_size (nnf_tree (get_or fs i d)) ≤ formulas_size (formulas_of (map nnf_tree fs))
form-item [] i d h = absurd (omega arith)
form-item (f ∷ fs) zero d h = omega arith
form-item (f ∷ fs) (suc i) d h = omega (arith, form-item fs i d (omega arith))

pub form-item-is :
    (fs : List Nnf) (i : ℕ) (f : Nnf)
    → i < length fs → f ≡ get_or fs i f → formula_size (nnf_tree f) ≤ formulas_size (formulas_of (map nnf_tree fs))
form-item-is fs i f h e = omega (arith, form-item fs i f h, ap (λ g. formula_size (nnf_tree g)) e)

pub closed-then :
    (names : List (List ℕ)) (i : ℕ) (x : List ℕ) (b : Binding) (bs new : List Binding) (all : Environment)
    → i < length names → x ≡ get_or names i x → bound_tree b.term ≡ true_tree → b.name ≡ x → new ≡ bs ++ b ∷ []
    → with_closed (drop i names) (environment_of bs) ≡ all
    → with_closed (drop (i + 1) names) (environment_of new) ≡ all
closed-then names i x b bs new all h e t n a m =
    ap (λ cs. with_closed (drop (i + 1) names) (environment_of cs)) a
    ∙ ap (with_closed (drop (i + 1) names)) (environment-last bs b ∙ (λ j. (n j, t j) ∷ environment_of bs))
    ∙ ap (λ xs. with_closed xs (environment_of bs)) (sym (drop-item names i x h e))
    ∙ m

-- ---- the variables of a formula are those in the terms of its free variables

-- whether the variable is in the term of a name
abbrev pub is_in : ℕ → Environment → List ℕ → Bool
is_in v env x = list_any (λ w. v == w) (tree_variables (term_in_force env x))

-- whether it is in one of those of names that are left
pub in-some :
    (v : ℕ) (env : Environment) (bound free : List (List ℕ))
    → list_any (λ w. v == w) (occurring_in env (without_names bound free))
    ≡ list_any (λ x. not (list_any (bytes_eq x) bound) && is_in v env x) free
in-some v env bound free =
    any-flat_map (λ w. v == w) (λ x. tree_variables (term_in_force env x)) (without_names bound free)
    ∙ any-filter (is_in v env) (λ x. not (list_any (bytes_eq x) bound)) free

in-closed :
    (v : ℕ) (xs : List (List ℕ)) (env : Environment) (y : List ℕ)
    → is_in v (with_closed xs env) y ≡ (not (list_any (bytes_eq y) xs) && is_in v env y)
in-closed v [] env y = refl
in-closed v (x ∷ xs) env y =
    in-closed v xs ((x, true_tree) ∷ env) y
    ∙ by (bytes_eq x y) (list_any (bytes_eq y) xs)
    ∙ ap (λ t. not (t || list_any (bytes_eq y) xs) && is_in v env y) (bytes-turned x y)
  where
    by :
        (t u : Bool)
        → (not u && list_any (λ w. v == w) (tree_variables (if t then true_tree else term_in_force env y))) ≡ (not (t || u) && is_in v env y)
    by true true = refl
    by true false = refl
    by false u = refl

joined-same :
    (v : ℕ) (env : Environment) (first second : List ℕ) (xs ys : List (List ℕ))
    → list_any (λ w. v == w) first ≡ list_any (λ w. v == w) (occurring_in env xs)
    → list_any (λ w. v == w) second ≡ list_any (λ w. v == w) (occurring_in env ys)
    → list_any (λ w. v == w) (first ++ second) ≡ list_any (λ w. v == w) (occurring_in env (xs ++ ys))
joined-same v env first second xs ys h k =
    list_any-append (λ w. v == w) first second
    ∙ ap (λ t. t || list_any (λ w. v == w) second) h
    ∙ ap (λ t. list_any (λ w. v == w) (occurring_in env xs) || t) k
    ∙ sym (list_any-append (λ w. v == w) (occurring_in env xs) (occurring_in env ys))
    ∙ ap (list_any (λ w. v == w)) (sym (occurring-joined env xs ys))

mutual
  occurring-same :
      (v : ℕ) (f : FormulaTree) (env : Environment)
      → list_any (λ w. v == w) (occurring f env) ≡ list_any (λ w. v == w) (occurring_in env (free_names f))
  occurring-same v truth env = refl
  occurring-same v falsity env = refl
  occurring-same v (predicate p ts) env = refl
  occurring-same v (equation positive s t) env = ap (list_any (λ w. v == w)) (sym (occurring-joined env (term_names s) (term_names t)))
  occurring-same v (negation f) env = occurring-same v f env
  occurring-same v (conjunction fs) env = all-same v fs env
  occurring-same v (disjunction fs) env = all-same v fs env
  occurring-same v (connected c f g) env =
      joined-same v env (occurring f env) (occurring g env) (free_names f) (free_names g) (occurring-same v f env) (occurring-same v g env)
  occurring-same v (quantified q xs f) env =
      occurring-same v f (with_closed xs env)
      ∙ any-flat_map (λ w. v == w) (λ x. tree_variables (term_in_force (with_closed xs env) x)) (free_names f)
      ∙ list_any-agree (is_in v (with_closed xs env)) (λ y. not (list_any (bytes_eq y) xs) && is_in v env y) (in-closed v xs env) (free_names f)
      ∙ sym (in-some v env xs (free_names f))

  all-same :
      (v : ℕ) (fs : FormulaTrees) (env : Environment)
      → list_any (λ w. v == w) (all_occurring fs env) ≡ list_any (λ w. v == w) (occurring_in env (all_free_names fs))
  all-same v no_formulas env = refl
  all-same v (formula_then f fs) env =
      joined-same v env (occurring f env) (all_occurring fs env) (free_names f) (all_free_names fs) (occurring-same v f env) (all-same v fs env)

pub arguments-found :
    (xs : List (List ℕ)) (f : FormulaTree) (env : Environment) (m : Made) (found occurs : List ℕ)
    → ((v : ℕ) → list_any (λ w. v == w) occurs ≡ list_any (λ w. v == w) (occurring f (with_closed xs env)))
    → found ≡ made_in_order m.variables occurs
    → found ≡ skolem_arguments (without_names xs (free_names f)) env m
arguments-found xs f env m found occurs h e =
    e ∙ filter_agree _ _ (λ v. h v ∙ occurring-same v (quantified exists_some xs f) env) (numbers_from 0 m.variables)
