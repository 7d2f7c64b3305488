-- Quantifiers and lists of forms, as a walk over a form works them off.
use Rattle.std.proofs.Common.{◌≡◌, ℕ, ◌+◌, ◌<◌, ◌≤◌, Bool, true, false, not, ◌&&◌, ◌||◌, ◌==◌, List, [], ◌∷◌, ◌++◌, length, map, drop, get_or, refl, ap, sym, ◌∙◌, append-nil, eq-eqb, eqb-true, true≢false}
use Rattle.std.specs.Prelude.{filter, bytes_eq, if◌then◌else◌}
use Rattle.std.specs.List.{list_all, list_any}
use Rattle.std.proofs.lemmas.Map.Views.{any-filter_same}
use Rattle.fol_base.proofs.WorkedExamples.TestLemmas.{list_any-agree}
use Rattle.fol_base.specs.Canonical.{numbers_from}
use Rattle.tptp_tree.specs.Term.{TermTrees}
use Rattle.tptp_tree.specs.Formula.{predicate, formulas_of, with_sign}
use Rattle.fol_base.specs.Tree.{variable, application, tree_variables}
use Rattle.fol_base.specs.Clause.{TreeLiteral}
use Rattle.skolem.specs.declared.bound_term.BoundTerm.{BoundTerm}
use Rattle.skolem.specs.BoundTerm.{bound_tree}
use Rattle.signature.specs.declared.symbol.Symbol.{Symbol}
use Rattle.signature.specs.Symbol.{predicate_symbol, has_symbol, number_of}
use Rattle.signature.specs.Occurrences.{terms_count, formula_symbols, formulas_symbols}
use Rattle.signature.specs.Environment.{Environment, terms_under, without_names, term_in_force}
use Rattle.signature.specs.Clausal.{SymbolNumbers, Made, Scope, atom_literal, with_variables, with_skolem_terms, skolem_arguments, applied}
use Rattle.formula_nnf.specs.declared.form.Nnf.{Nnf}
use Rattle.formula_nnf.specs.Shape.{nnf_tree}
use Rattle.skolem.specs.declared.progress.Progress.{Progress}
use Rattle.skolem.specs.Matrix.{MatrixTree, literal, MatrixTrees, no_matrices, matrix_then, matrices_of, list_of_matrices}
use Rattle.skolem.specs.Skolemized.{Skolemized, SkolemizedList, skolemized, skolemized_list, numbers_after, AreKnown}
use Rattle.skolem.specs.Progress.{environment_of, variable_term, made_of, scope_of_progress, skolem_step, skolem_steps, occurring_in}
use Rattle.skolem.proofs.AboutBindings.ListLemmas.{added}
use Rattle.skolem.proofs.AboutBindings.BoundTermLemmas.{variables-of}
use Rattle.skolem.proofs.AboutBindings.BindingsLemmas.{environment-last}
use Rattle.skolem.proofs.AboutBindings.OccurringLemmas.{is_in, in-some}
use Rattle.list_lemmas.proofs.Tests.{all-parts}
use Rattle.list_lemmas.proofs.Places.{drop-item, drop-all}
use Rattle.list_lemmas.proofs.Lists.{bytes-turned}

-- ---- quantifiers

pub variables-then :
    (names : List (List ℕ)) (i : ℕ) (x : List ℕ) (p q : Progress) (all : Scope)
    → i < length names → x ≡ get_or names i x
    → q.bindings ≡ p.bindings ++ record { name = x; term = variable_term p.variables } ∷ []
    → q.variables ≡ p.variables + 1 → q.arities.items ≡ p.arities.items
    → with_variables (drop i names) (environment_of p.bindings) (made_of p) ≡ all
    → with_variables (drop (i + 1) names) (environment_of q.bindings) (made_of q) ≡ all
variables-then names i x p q all h e b v a m =
    ap (λ env. with_variables (drop (i + 1) names) env (made_of q))
    (ap environment_of b ∙ environment-last p.bindings (record { name = x; term = variable_term p.variables }))
    ∙ ap (with_variables (drop (i + 1) names) ((x, variable p.variables) ∷ environment_of p.bindings)) made
    ∙ ap (λ xs. with_variables xs (environment_of p.bindings) (made_of p)) (sym (drop-item names i x h e))
    ∙ m
  where
    made : made_of q ≡ record { variables = p.variables + 1; skolem_arities = p.arities.items; naming_arities = []; defining = [] }
    made = λ j. record { variables = v j; skolem_arities = a j; naming_arities = []; defining = [] }

pub variables-done :
    (names : List (List ℕ)) (i : ℕ) (p : Progress) (all : Scope)
    → length names ≤ i → with_variables (drop i names) (environment_of p.bindings) (made_of p) ≡ all → scope_of_progress p ≡ all
variables-done names i p all h m = ap (λ xs. with_variables xs (environment_of p.bindings) (made_of p)) (sym (drop-all names i h)) ∙ m

pub scope-step :
    (known : List Symbol) (x : List ℕ) (p q : Progress) (arguments : List ℕ) (t : BoundTerm) (symbol arity : ℕ)
    → symbol ≡ length known + length p.arities.items → arity ≡ length arguments → bound_tree t ≡ applied symbol arguments
    → q.bindings ≡ p.bindings ++ record { name = x; term = t } ∷ []
    → q.variables ≡ p.variables → q.arities.items ≡ p.arities.items ++ arity ∷ []
    → scope_of_progress q ≡ skolem_step (numbers_after known) arguments x (scope_of_progress p)
scope-step known x p q arguments t symbol arity s k u b v a =
    λ j. record {
      environment = bound j;
      made = record { variables = v j; skolem_arities = arities j; naming_arities = []; defining = [] };
    }
  where
    bound : environment_of q.bindings ≡ (x, applied (length known + length p.arities.items) arguments) ∷ environment_of p.bindings
    bound =
        ap environment_of b ∙ environment-last p.bindings (record { name = x; term = t })
        ∙ ap (λ w. (x, w) ∷ environment_of p.bindings) (u ∙ ap (λ f. applied f arguments) s)

    arities : q.arities.items ≡ p.arities.items ++ length arguments ∷ []
    arities = a ∙ ap (λ m. p.arities.items ++ m ∷ []) k

pub steps-then :
    (n : SymbolNumbers) (arguments : List ℕ) (names : List (List ℕ)) (i : ℕ) (x : List ℕ) (p q : Progress) (all : Scope)
    → i < length names → x ≡ get_or names i x
    → scope_of_progress q ≡ skolem_step n arguments x (scope_of_progress p)
    → skolem_steps n arguments (drop i names) (scope_of_progress p) ≡ all
    → skolem_steps n arguments (drop (i + 1) names) (scope_of_progress q) ≡ all
steps-then n arguments names i x p q all h e s m =
    ap (skolem_steps n arguments (drop (i + 1) names)) s
    ∙ ap (λ xs. skolem_steps n arguments xs (scope_of_progress p)) (sym (drop-item names i x h e))
    ∙ m

pub steps-done :
    (n : SymbolNumbers) (arguments : List ℕ) (names : List (List ℕ)) (i : ℕ) (p : Progress) (all : Scope)
    → length names ≤ i → skolem_steps n arguments (drop i names) (scope_of_progress p) ≡ all → scope_of_progress p ≡ all
steps-done n arguments names i p all h m =
    ap (λ xs. skolem_steps n arguments xs (scope_of_progress p)) (sym (drop-all names i h)) ∙ m

-- ---- the Skolem terms of one quantifier have the same arguments

pub any-mono : {X : Type 0} (p q : X → Bool) (xs : List X) → ((x : X) → p x ≡ true → q x ≡ true) → list_any p xs ≡ true → list_any q xs ≡ true
any-mono p q [] h k = cc
any-mono p q (x ∷ xs) h k = by (p x) (q x) (h x) k (any-mono p q xs h)
  where
    by :
        (t u : Bool) → (t ≡ true → u ≡ true) → (t || list_any p xs) ≡ true → (list_any p xs ≡ true → list_any q xs ≡ true)
        → (u || list_any q xs) ≡ true
    by true true f g r = refl
    by true false f g r = absurd (true≢false (sym (f refl)))
    by false true f g r = refl
    by false false f g r = r g

filter-within :
    (p q : ℕ → Bool) (ns : List ℕ) → ((v : ℕ) → list_any (λ w. v == w) ns ≡ true → p v ≡ q v) → filter p ns ≡ filter q ns
filter-within p q [] h = refl
filter-within p q (n ∷ ns) h =
    ap (λ t. if t then n ∷ filter p ns else filter p ns) (h n (ap (λ t. t || list_any (λ w. n == w) ns) (eq-eqb n n refl)))
    ∙ ap (λ vs. if q n then n ∷ vs else vs) (filter-within p q ns (λ v g. h v (later v g)))
  where
    later : (v : ℕ) → list_any (λ w. v == w) ns ≡ true → ((v == n) || list_any (λ w. v == w) ns) ≡ true
    later v g = ap (λ t. (v == n) || t) g ∙ or-true (v == n)
      where
        or-true : (t : Bool) → (t || true) ≡ true
        or-true true = refl
        or-true false = refl

any-filtered :
    (p : ℕ → Bool) (ns : List ℕ) (v : ℕ) → list_any (λ w. v == w) ns ≡ true → list_any (λ w. v == w) (filter p ns) ≡ p v
any-filtered p ns v h =
    any-filter_same (λ w. v == w) p (p v) (λ k e. ap p (sym (eqb-true v k e))) ns ∙ ap (λ t. p v && t) h ∙ and-true (p v)
  where
    and-true : (t : Bool) → (t && true) ≡ t
    and-true true = refl
    and-true false = refl

-- A name that is bound to the symbol applied to the arguments adds no variable to them.
adds-none :
    (v : ℕ) (x : List ℕ) (xs free : List (List ℕ)) (env : Environment) (symbol : ℕ) (arguments : List ℕ)
    → list_any (λ w. v == w) arguments ≡ list_any (λ w. v == w) (occurring_in env (without_names (x ∷ xs) free))
    → list_any (λ w. v == w) (occurring_in ((x, applied symbol arguments) ∷ env) (without_names xs free))
    ≡ list_any (λ w. v == w) (occurring_in env (without_names (x ∷ xs) free))
adds-none v x xs free env symbol arguments h =
    in-some v ((x, applied symbol arguments) ∷ env) xs free
    ∙ by (list_any (λ w. v == w) arguments) refl
    ∙ sym (in-some v env (x ∷ xs) free)
  where
    new : Environment
    new = (x, applied symbol arguments) ∷ env

    first : List ℕ → Bool
    first y = not (list_any (bytes_eq y) xs) && is_in v new y

    second : List ℕ → Bool
    second y = not (list_any (bytes_eq y) (x ∷ xs)) && is_in v env y

    given : list_any (λ w. v == w) arguments ≡ list_any second free
    given = h ∙ in-some v env (x ∷ xs) free

    -- whether the variable is in the term of a name, which may be the new one
    is-new : (y : List ℕ) → is_in v new y ≡ (if bytes_eq y x then list_any (λ w. v == w) arguments else is_in v env y)
    is-new y = case (bytes_eq x y) ∙ ap (λ t. if t then list_any (λ w. v == w) arguments else is_in v env y) (bytes-turned x y)
      where
        case :
            (t : Bool)
            → list_any (λ w. v == w) (tree_variables (if t then applied symbol arguments else term_in_force env y))
            ≡ (if t then list_any (λ w. v == w) arguments else is_in v env y)
        case true = ap (list_any (λ w. v == w)) (variables-of arguments)
        case false = refl

    by : (t : Bool) → list_any (λ w. v == w) arguments ≡ t → list_any first free ≡ list_any second free
    by true e = any-mono second first free implied (sym given ∙ e) ∙ sym (sym given ∙ e)
      where
        implied : (y : List ℕ) → second y ≡ true → first y ≡ true
        implied y g =
            ap (λ u. not (list_any (bytes_eq y) xs) && u) (is-new y ∙ ap (λ u. if bytes_eq y x then u else is_in v env y) e)
            ∙ case (bytes_eq y x) (list_any (bytes_eq y) xs) (is_in v env y) g
          where
            case : (t u w : Bool) → (not (t || u) && w) ≡ true → (not u && (if t then true else w)) ≡ true
            case true u w k = cc
            case false true w k = cc
            case false false w k = k
    by false e = list_any-agree first second same free
      where
        same : (y : List ℕ) → first y ≡ second y
        same y =
            ap (λ u. not (list_any (bytes_eq y) xs) && u) (is-new y ∙ ap (λ u. if bytes_eq y x then u else is_in v env y) e)
            ∙ case (bytes_eq y x) (list_any (bytes_eq y) xs) (is_in v env y)
          where
            case : (t u w : Bool) → (not u && (if t then false else w)) ≡ (not (t || u) && w)
            case true true w = refl
            case true false w = refl
            case false u w = refl

next-arguments :
    (n : SymbolNumbers) (x : List ℕ) (xs free : List (List ℕ)) (s : Scope) (arguments : List ℕ)
    → skolem_arguments (without_names (x ∷ xs) free) s.environment s.made ≡ arguments
    → (let t : Scope = skolem_step n arguments x s in skolem_arguments (without_names xs free) t.environment t.made ≡ arguments)
next-arguments n x xs free s arguments h =
    filter-within _ _ (numbers_from 0 s.made.variables) (λ v g.
    adds-none v x xs free s.environment (n.first_skolem + length s.made.skolem_arities) arguments
    (ap (list_any (λ w. v == w)) (sym h)
    ∙ any-filtered (λ u. list_any (λ w. u == w) (occurring_in s.environment (without_names (x ∷ xs) free))) (numbers_from 0 s.made.variables) v g))
    ∙ h

steps-are-terms :
    (n : SymbolNumbers) (free names : List (List ℕ)) (s : Scope) (arguments : List ℕ)
    → skolem_arguments (without_names names free) s.environment s.made ≡ arguments
    → skolem_steps n arguments names s ≡ with_skolem_terms n free names s.environment s.made
steps-are-terms n free [] s arguments h = refl
steps-are-terms n free (x ∷ xs) s arguments h =
    let t : Scope = skolem_step n arguments x s in
    steps-are-terms n free xs t arguments (next-arguments n x xs free s arguments h)
    ∙ ap (λ vs. let u : Scope = skolem_step n vs x s in with_skolem_terms n free xs u.environment u.made) (sym h)

pub terms-bound :
    (n : SymbolNumbers) (free names : List (List ℕ)) (p q r : Progress) (arguments : List ℕ)
    → arguments ≡ skolem_arguments (without_names names free) (environment_of p.bindings) (made_of p)
    → q.bindings ≡ p.bindings → q.variables ≡ p.variables → q.arities.items ≡ p.arities.items
    → scope_of_progress r ≡ skolem_steps n arguments names (scope_of_progress q)
    → scope_of_progress r ≡ with_skolem_terms n free names (environment_of p.bindings) (made_of p)
terms-bound n free names p q r arguments g b v a h =
    h ∙ ap (skolem_steps n arguments names) same ∙ steps-are-terms n free names (scope_of_progress p) arguments (sym g)
  where
    same : scope_of_progress q ≡ scope_of_progress p
    same = λ j. record {
      environment = environment_of (b j);
      made = record { variables = v j; skolem_arities = a j; naming_arities = []; defining = [] };
    }

-- ---- lists of forms

pub listed : (ms : MatrixTrees) → matrices_of (list_of_matrices ms) ≡ ms
listed no_matrices = refl
listed (matrix_then m ms) = ap (matrix_then m) (listed ms)

abbrev pub list_left : List Symbol → List Nnf → ℕ → Progress → SkolemizedList
list_left known fs i p =
    skolemized_list (numbers_after known) (formulas_of (map nnf_tree (drop i fs))) (environment_of p.bindings) (made_of p)

abbrev pub matrices_left : List Symbol → List Nnf → ℕ → Progress → List MatrixTree
matrices_left known fs i p = list_of_matrices (list_left known fs i p).matrices

abbrev pub made_left : List Symbol → List Nnf → ℕ → Progress → Made
made_left known fs i p = (list_left known fs i p).made

abbrev pub one : List Symbol → Nnf → Progress → Skolemized
one known f p = skolemized (numbers_after known) (nnf_tree f) (environment_of p.bindings) (made_of p)

-- the rest after one more form
pub rest-same :
    (known : List Symbol) (fs : List Nnf) (i : ℕ) (f : Nnf) (p q : Progress)
    → made_of q ≡ (one known f p).made → q.bindings ≡ p.bindings
    → list_left known fs (i + 1) q
    ≡ skolemized_list (numbers_after known) (formulas_of (map nnf_tree (drop (i + 1) fs))) (environment_of p.bindings) (one known f p).made
rest-same known fs i f p q g b =
    ap (λ bs. skolemized_list (numbers_after known) (formulas_of (map nnf_tree (drop (i + 1) fs))) (environment_of bs) (made_of q)) b
    ∙ ap (skolemized_list (numbers_after known) (formulas_of (map nnf_tree (drop (i + 1) fs))) (environment_of p.bindings)) g

pub left-then :
    (known : List Symbol) (fs : List Nnf) (i : ℕ) (f : Nnf) (p : Progress)
    → i < length fs → f ≡ get_or fs i f
    → list_left known fs i p
    ≡ skolemized_list (numbers_after known) (formulas_of (map nnf_tree (f ∷ drop (i + 1) fs))) (environment_of p.bindings) (made_of p)
left-then known fs i f p h e =
    ap (λ gs. skolemized_list (numbers_after known) (formulas_of (map nnf_tree gs)) (environment_of p.bindings) (made_of p)) (drop-item fs i f h e)

pub matrices-then :
    (known : List Symbol) (fs : List Nnf) (i : ℕ) (f : Nnf) (p q : Progress) (made new : List MatrixTree) (u : MatrixTree) (all : MatrixTrees)
    → i < length fs → f ≡ get_or fs i f
    → u ≡ (one known f p).matrix → made_of q ≡ (one known f p).made → q.bindings ≡ p.bindings
    → new ≡ made ++ u ∷ []
    → matrices_of (made ++ matrices_left known fs i p) ≡ all
    → matrices_of (new ++ matrices_left known fs (i + 1) q) ≡ all
matrices-then known fs i f p q made new u all h e g k b n m =
    ap matrices_of
    (added made new (u ∷ []) (matrices_left known fs (i + 1) q) _ n refl
    ∙ ap (λ x. made ++ x ∷ matrices_left known fs (i + 1) q) g
    ∙ ap (λ (s : SkolemizedList). made ++ (one known f p).matrix ∷ list_of_matrices s.matrices) (rest-same known fs i f p q k b)
    ∙ ap (λ (s : SkolemizedList). made ++ list_of_matrices s.matrices) (sym (left-then known fs i f p h e)))
    ∙ m

pub made-then :
    (known : List Symbol) (fs : List Nnf) (i : ℕ) (f : Nnf) (p q : Progress) (all : Made)
    → i < length fs → f ≡ get_or fs i f
    → made_of q ≡ (one known f p).made → q.bindings ≡ p.bindings
    → made_left known fs i p ≡ all → made_left known fs (i + 1) q ≡ all
made-then known fs i f p q all h e k b m =
    ap (λ (s : SkolemizedList). s.made) (rest-same known fs i f p q k b ∙ refl)
    ∙ ap (λ (s : SkolemizedList). s.made) (sym (left-then known fs i f p h e))
    ∙ m

pub matrices-done :
    (known : List Symbol) (fs : List Nnf) (i : ℕ) (p : Progress) (made : List MatrixTree) (all : MatrixTrees)
    → length fs ≤ i → matrices_of (made ++ matrices_left known fs i p) ≡ all → matrices_of made ≡ all
matrices-done known fs i p made all h m =
    ap matrices_of
    (sym (append-nil made)
    ∙ ap (λ gs. made ++ list_of_matrices (skolemized_list (numbers_after known) (formulas_of (map nnf_tree gs)) (environment_of p.bindings) (made_of p)).matrices)
    (sym (drop-all fs i h)))
    ∙ m

pub made-done :
    (known : List Symbol) (fs : List Nnf) (i : ℕ) (p : Progress) (all : Made)
    → length fs ≤ i → made_left known fs i p ≡ all → made_of p ≡ all
made-done known fs i p all h m =
    ap (λ gs. (skolemized_list (numbers_after known) (formulas_of (map nnf_tree gs)) (environment_of p.bindings) (made_of p)).made) (sym (drop-all fs i h))
    ∙ m

pub forms-known :
    (known : List Symbol) (fs : List Nnf) (i : ℕ) (f : Nnf)
    → i < length fs → f ≡ get_or fs i f → AreKnown known (formulas_symbols (formulas_of (map nnf_tree (drop i fs))))
    → AreKnown known (formula_symbols (nnf_tree f)) × AreKnown known (formulas_symbols (formulas_of (map nnf_tree (drop (i + 1) fs))))
forms-known known fs i f h e a =
    all-parts (λ s. has_symbol s known) (formula_symbols (nnf_tree f)) _
    (ap (λ gs. list_all (λ s. has_symbol s known) (formulas_symbols (formulas_of (map nnf_tree gs)))) (sym (drop-item fs i f h e)) ∙ a)

-- a predicate's literal
pub atom-matrix :
    (known : List Symbol) (positive : Bool) (p : List ℕ) (ts : TermTrees) (env : Environment) (m : Made) (l : TreeLiteral)
    → l ≡ atom_literal positive (application (number_of known (predicate_symbol p (terms_count ts))) (terms_under known env ts))
    → literal l ≡ (skolemized (numbers_after known) (with_sign positive (predicate p ts)) env m).matrix
atom-matrix known true p ts env m l h = ap literal h
atom-matrix known false p ts env m l h = ap literal h
