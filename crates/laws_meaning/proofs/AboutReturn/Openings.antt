-- The way back through quantifiers: what holds for each value of a new variable holds for all, and what holds for the value of a Skolem
-- term holds for some.
use Rattle.std.proofs.Common.{◌≡◌, ℕ, ◌+◌, ◌<◌, ◌≤◌, ◌==◌, Bool, true, List, [], ◌∷◌, length, flat_map, if◌then◌else◌, inr, ⊎_elim, refl, ap, sym, ◌∙◌, subst, arith}
use Rattle.std.specs.List.{AllByRecursion, list_any}
use Rattle.std.proofs.lemmas.Bool.{or_left, or_right, or_cases, eqb-true, eq-eqb, ne_eqb, cond_both, true≢false}
use Rattle.tptp_tree.specs.Formula.{for_all, exists_some}
use Rattle.fol_base.specs.Tree.{Tree, variable, tree_variables}
use Rattle.fol_base.specs.Canonical.{numbers_from}
use Rattle.fol_base.specs.Interpretation.{Assignment}
use Rattle.signature.specs.Environment.{Environment, term_in_force, without_names}
use Rattle.signature.specs.Clausal.{SymbolNumbers, Made, made_in_order, applied, with_variables, skolem_arguments, with_skolem_terms}
use Rattle.signature.specs.Truth.{Values, value_in_force, values_tested}
use Rattle.laws_meaning.proofs.AboutStructures.ListLemmas.{is_listed, each-all, each-listed, each-weaker, each-joined, numbers-below, numbers-listed, passing}
use Rattle.laws_meaning.proofs.AboutStructures.Structures.{Structure, value, applied-variables}
use Rattle.laws_meaning.proofs.AboutStructures.Search.{HasSize, changed}
use Rattle.laws_meaning.proofs.AboutFormulas.NameLemmas.{each-without_none, each-without_one}
use Rattle.laws_meaning.proofs.AboutWork.Extending.{InForce}
use Rattle.laws_meaning.proofs.AboutWork.Scopes.{in_force-bound, one_variable, one_skolem, longer}
use Rattle.laws_meaning.proofs.AboutReturn.Ranges.{AllHold, Near, SpreadTo, EachForced, force-near}

-- ---- one name more in force

forced-bound :
    (P Q : ℕ → Type 0) (env : Environment) (x : List ℕ) (t : Tree) (xs free : List (List ℕ))
    → ((v : ℕ) → P v → Q v) → AllByRecursion Q (tree_variables t) → EachForced P env (without_names (x ∷ xs) free)
    → EachForced Q ((x, t) ∷ env) (without_names xs free)
forced-bound P Q env x t xs free w new h =
    each-without_one (λ y. AllByRecursion P (tree_variables (term_in_force env y))) (λ y. AllByRecursion Q (tree_variables (term_in_force ((x, t) ∷ env) y)))
    x xs free
    (λ y k. subst (λ (b : Bool). AllByRecursion Q (tree_variables (if b then t else term_in_force env y))) (sym k) new)
    (λ y k old.
    subst (λ (b : Bool). AllByRecursion Q (tree_variables (if b then t else term_in_force env y))) (sym k)
    (each-weaker P Q w (tree_variables (term_in_force env y)) old))
    h

-- ---- new variables

pub variables-ranged :
    (b low : ℕ) (xs free : List (List ℕ)) (env : Environment) (m : Made) → low ≤ m.variables
    → EachForced (SpreadTo b low m.variables) env (without_names xs free)
    → (m.variables ≤ (with_variables xs env m).made.variables)
    × EachForced (SpreadTo b low (with_variables xs env m).made.variables) (with_variables xs env m).environment free
variables-ranged b low [] free env m l h =
    (omega arith, each-without_none (λ x. AllByRecursion (SpreadTo b low m.variables) (tree_variables (term_in_force env x))) free h)
variables-ranged b low (x ∷ xs) free env m l h =
    let rest =
    variables-ranged b low xs free ((x, variable m.variables) ∷ env) (one_variable m) (omega (arith, l))
    (forced-bound (SpreadTo b low m.variables) (SpreadTo b low (m.variables + 1)) env x (variable m.variables) xs free
    (λ v g. (g.0, omega (arith, g.1))) ((inr l, omega arith), tt) h) in
    (omega (arith, rest.0), rest.1)

pub variables-below :
    (xs free : List (List ℕ)) (env : Environment) (m : Made) → EachForced (λ v. v < m.variables) env (without_names xs free)
    → EachForced (λ v. v < (with_variables xs env m).made.variables) (with_variables xs env m).environment free
variables-below [] free env m h = each-without_none (λ x. AllByRecursion (λ v. v < m.variables) (tree_variables (term_in_force env x))) free h
variables-below (x ∷ xs) free env m h =
    variables-below xs free ((x, variable m.variables) ∷ env) (one_variable m)
    (forced-bound (λ v. v < m.variables) (λ v. v < m.variables + 1) env x (variable m.variables) xs free (λ v g. omega (arith, g)) (omega arith, tt) h)

pub variables-more : (xs : List (List ℕ)) (env : Environment) (m : Made) → m.variables ≤ (with_variables xs env m).made.variables
variables-more [] env m = omega arith
variables-more (x ∷ xs) env m = omega (arith, variables-more xs ((x, variable m.variables) ∷ env) (one_variable m))

pub variables-counted :
    (xs : List (List ℕ)) (env : Environment) (m : Made) → length (with_variables xs env m).made.skolem_arities ≡ length m.skolem_arities + 0
variables-counted [] env m = omega arith
variables-counted (x ∷ xs) env m = variables-counted xs ((x, variable m.variables) ∷ env) (one_variable m)

pub variables-defining :
    (size : ℕ) (s : Structure) (xs : List (List ℕ)) (env : Environment) (m : Made) → AllHold size s (with_variables xs env m).made.defining → AllHold size s m.defining
variables-defining size s [] env m h = h
variables-defining size s (x ∷ xs) env m h = variables-defining size s xs ((x, variable m.variables) ∷ env) (one_variable m) h

-- what holds inside for each assignment near one holds for all values outside
pub variables-close :
    (size : ℕ) (s : Structure) (xs free : List (List ℕ)) (env : Environment) (m : Made) (test : Values → Bool)
    → EachForced (λ v. v < m.variables) env (without_names xs free)
    → (ρ : Assignment) → HasSize size ρ → (V : Values) → InForce s env (without_names xs free) ρ V
    → ((τ : Assignment) → HasSize size τ → Near m.variables τ ρ → (W : Values) → InForce s (with_variables xs env m).environment free τ W → test W ≡ true)
    → values_tested for_all size xs test V ≡ true
variables-close size s [] free env m test below ρ has V h inside =
    inside ρ has (λ v l. refl) V (each-without_none (λ x. value_in_force V x ≡ value s ρ (term_in_force env x)) free h)
variables-close size s (x ∷ xs) free env m test below ρ has V h inside =
    each-all (λ a. values_tested for_all size xs test ((x, a) ∷ V)) (numbers_from 0 size)
    (each-weaker (λ a. a < size) (λ a. values_tested for_all size xs test ((x, a) ∷ V) ≡ true)
    (λ a l.
    let τ : Assignment = changed ρ m.variables a in
    let near : Near m.variables τ ρ =
    λ v k. ap (λ (b : Bool). if b then a else ρ v) (ne_eqb v m.variables (other v k)) in
    variables-close size s xs free ((x, variable m.variables) ∷ env) (one_variable m) test
    (forced-bound (λ v. v < m.variables) (λ v. v < m.variables + 1) env x (variable m.variables) xs free (λ v g. omega (arith, g)) (omega arith, tt) below)
    τ (λ u. cond_both (u == m.variables) a (ρ u) (λ w. w < size) (λ e. l) (λ e. has u)) ((x, a) ∷ V)
    (in_force-bound s env τ V x (variable m.variables) a xs free (sym (ap (λ (b : Bool). if b then a else ρ m.variables) (eq-eqb m.variables m.variables refl)))
    (force-near s m.variables env (without_names (x ∷ xs) free) ρ τ V below near h))
    (λ π has_π close W f. inside π has_π (λ v k. close v (omega (arith, k)) ∙ near v k) W f))
    (numbers_from 0 size) (numbers-below size))
  where
    other : (v : ℕ) → v < m.variables → v ≡ m.variables → ⊥
    other v k e = omega (arith, k, e)

-- ---- Skolem terms

-- each variable of a Skolem term is one of the terms in force
arguments-each :
    (P : ℕ → Type 0) (n : ℕ) (occurring : List ℕ) → AllByRecursion P occurring → AllByRecursion P (made_in_order n occurring)
arguments-each P n occurring h =
    each-weaker (λ v. is_listed occurring v ≡ true) P (λ v l. each-listed P occurring v h l) (made_in_order n occurring)
    (passing (is_listed occurring) (numbers_from 0 n))

flat-forced : (P : ℕ → Type 0) (env : Environment) (names : List (List ℕ)) → EachForced P env names → AllByRecursion P (flat_map (λ x. tree_variables (term_in_force env x)) names)
flat-forced P env [] h = tt
flat-forced P env (x ∷ names) h =
    each-joined P (tree_variables (term_in_force env x)) (flat_map (λ y. tree_variables (term_in_force env y)) names) h.0 (flat-forced P env names h.1)

pub skolem-each :
    (P : ℕ → Type 0) (n : SymbolNumbers) (xs free : List (List ℕ)) (env : Environment) (m : Made)
    → EachForced P env (without_names xs free) → EachForced P (with_skolem_terms n free xs env m).environment free
skolem-each P n [] free env m h = each-without_none (λ x. AllByRecursion P (tree_variables (term_in_force env x))) free h
skolem-each P n (x ∷ xs) free env m h =
    let names : List (List ℕ) = without_names (x ∷ xs) free in
    let arguments : List ℕ = skolem_arguments names env m in
    let t : Tree = applied (n.first_skolem + length m.skolem_arities) arguments in
    skolem-each P n xs free ((x, t) ∷ env) (one_skolem m (length arguments))
    (forced-bound P P env x t xs free (λ v g. g)
    (subst (AllByRecursion P) (sym (applied-variables arguments))
    (arguments-each P m.variables (flat_map (λ y. tree_variables (term_in_force env y)) names) (flat-forced P env names h)))
    h)

pub skolem-variables : (n : SymbolNumbers) (free xs : List (List ℕ)) (env : Environment) (m : Made) → (with_skolem_terms n free xs env m).made.variables ≡ m.variables
skolem-variables n free [] env m = refl
skolem-variables n free (x ∷ xs) env m =
    let arguments : List ℕ = skolem_arguments (without_names (x ∷ xs) free) env m in
    skolem-variables n free xs ((x, applied (n.first_skolem + length m.skolem_arities) arguments) ∷ env) (one_skolem m (length arguments))

pub skolem-counted :
    (n : SymbolNumbers) (free xs : List (List ℕ)) (env : Environment) (m : Made)
    → length (with_skolem_terms n free xs env m).made.skolem_arities ≡ length m.skolem_arities + length xs
skolem-counted n free [] env m = omega arith
skolem-counted n free (x ∷ xs) env m =
    let arguments : List ℕ = skolem_arguments (without_names (x ∷ xs) free) env m in
    omega (
      arith,
      skolem-counted n free xs ((x, applied (n.first_skolem + length m.skolem_arities) arguments) ∷ env) (one_skolem m (length arguments)),
      longer m.skolem_arities (length arguments),
    )

pub skolem-defining :
    (size : ℕ) (s : Structure) (n : SymbolNumbers) (free xs : List (List ℕ)) (env : Environment) (m : Made)
    → AllHold size s (with_skolem_terms n free xs env m).made.defining → AllHold size s m.defining
skolem-defining size s n free [] env m h = h
skolem-defining size s n free (x ∷ xs) env m h =
    let arguments : List ℕ = skolem_arguments (without_names (x ∷ xs) free) env m in
    skolem-defining size s n free xs ((x, applied (n.first_skolem + length m.skolem_arities) arguments) ∷ env) (one_skolem m (length arguments)) h

-- the values of Skolem symbols are below the size
abbrev pub SkolemBelow : SymbolNumbers → ℕ → Structure → Type 0
SkolemBelow n size s = (g : ℕ) → n.first_skolem ≤ g → g < n.first_naming → (vs : List ℕ) → s g vs < size

any-one : (test : ℕ → Bool) (ns : List ℕ) (a : ℕ) → is_listed ns a ≡ true → test a ≡ true → list_any test ns ≡ true
any-one test [] a l h = absurd (true≢false (sym l))
any-one test (n ∷ ns) a l h =
    ⊎_elim
    (λ here. or_left (test n) (list_any test ns) (ap test (sym (eqb-true a n here)) ∙ h))
    (λ later. or_right (test n) (list_any test ns) (any-one test ns a later h))
    (or_cases (a == n) (is_listed ns a) l)

pub skolem-close :
    (n : SymbolNumbers) (size : ℕ) (s : Structure) (xs free : List (List ℕ)) (env : Environment) (m : Made) (test : Values → Bool)
    → SkolemBelow n size s → n.first_skolem + (length m.skolem_arities + length xs) ≤ n.first_naming
    → (ρ : Assignment) (V : Values) → InForce s env (without_names xs free) ρ V
    → ((W : Values) → InForce s (with_skolem_terms n free xs env m).environment free ρ W → test W ≡ true)
    → values_tested exists_some size xs test V ≡ true
skolem-close n size s [] free env m test range fits ρ V h inside =
    inside V (each-without_none (λ x. value_in_force V x ≡ value s ρ (term_in_force env x)) free h)
skolem-close n size s (x ∷ xs) free env m test range fits ρ V h inside =
    let arguments : List ℕ = skolem_arguments (without_names (x ∷ xs) free) env m in
    let t : Tree = applied (n.first_skolem + length m.skolem_arities) arguments in
    let a : ℕ = value s ρ t in
    let small : a < size = range (n.first_skolem + length m.skolem_arities) (omega arith) (omega (arith, fits)) _ in
    any-one (λ v. values_tested exists_some size xs test ((x, v) ∷ V)) (numbers_from 0 size) a (numbers-listed size a small)
    (skolem-close n size s xs free ((x, t) ∷ env) (one_skolem m (length arguments)) test range (omega (arith, fits, longer m.skolem_arities (length arguments))) ρ ((x, a) ∷ V)
    (in_force-bound s env ρ V x t a xs free refl h) inside)
