-- What the terms of a most general unifier are like, and so what a step binds: of the kind of function terms, no larger than what is
-- unified, and of its symbols alone.
use Rattle.std.proofs.Common.{◌≡◌, ◌⊎◌, ℕ, suc, ◌+◌, ◌<◌, ◌≤◌, Bool, true, ◌&&◌, ◌||◌, ◌==◌, cond, nat_le, List, [], ◌∷◌, length, map, get_or, refl, ap, ap₂, sym, ◌∙◌, inl, inr, ⊎_elim, arith}
use Rattle.std.specs.List.{list_all}
use Rattle.std.proofs.lemmas.Bool.{and_parts, and_from, or_left, or_right, or_cases, cond-true, cond-false, cases_Bool, eq-eqb, eqb-true, le-leb, true≢false}
use Rattle.fol_base.specs.Tree.{Tree, variable, application, Trees, no_trees, tree_then, trees_count, tree_size, trees_size}
use Rattle.fol_base.specs.Instance.{Substitution, instance, instances, substitution}
use Rattle.fol_base.specs.Canonical.{renaming}
use Rattle.fol_base.specs.Kind.{is_function_term, PutsFunctionTerms}
use Rattle.fol_base.specs.declared.limits.TheConstants.{MOST_SYMBOLS}
use Rattle.fol_base.proofs.AboutInstances.InstanceLemmas.{trees_count-instances}
use Rattle.fol_base.proofs.AboutTerms.KindLemmas.{is_function_term-instance}
use Rattle.fol_base.proofs.WorkedExamples.TestLemmas.{list_all-map_from}
use Rattle.kernel_steps.specs.Symbols.{symbols_pass, all_symbols_pass}
use Rattle.unifier.specs.Additions.{stands, stands_in_any}
use Rattle.unifier.proofs.AboutAdditions.SymbolLemmas.{cleaned, adds-no_symbol}
use Rattle.eq_rules.specs.Concluding.{IsGeneralBelow}
use Rattle.kernel_steps.specs.Lines.{is_small_term}
use Rattle.eq_rules.proofs.AboutConclusions.WideLemmas.{renamed-size}

abbrev pub SymbolTest : Type 0
SymbolTest = ℕ → ℕ → Bool

-- ---- from the terms to what is bound

all_pass :
    (test : Tree → Bool) (first : ℕ) (terms : List Tree)
    → ((k : ℕ) → k < length terms → test (get_or terms k (variable (first + k))) ≡ true) → list_all test terms ≡ true
all_pass test first [] h = refl
all_pass test first (t ∷ ts) h =
    and_from (test t) (list_all test ts) (h 0 (omega arith))
    (all_pass test (suc first) ts (λ k less.
    let same : suc first + k ≡ first + suc k = omega arith in
    ap (λ n. test (get_or ts k (variable n))) same ∙ h (suc k) (omega (arith, less))))

-- a test that trees pass by other numbers too
bound_pass :
    (test : Tree → Bool) (order : List ℕ) (terms bind : List Tree)
    → ((t : Tree) → test t ≡ true → test (instance (renaming order) t) ≡ true)
    → bind ≡ map (instance (renaming order)) terms
    → ((v : ℕ) → v < length terms → test (substitution terms v) ≡ true)
    → list_all test bind ≡ true
bound_pass test order terms bind keeps renamed each =
    ap (list_all test) renamed
    ∙ list_all-map_from test test (instance (renaming order)) keeps terms
    (all_pass test 0 terms (λ k less.
    let same : 0 + k ≡ k = omega arith in ap (λ n. test (get_or terms k (variable n))) same ∙ each k less))

pub bound_functions :
    (p : ℕ → Bool) (order : List ℕ) (terms bind : List Tree)
    → bind ≡ map (instance (renaming order)) terms → PutsFunctionTerms p (substitution terms) → list_all (is_function_term p) bind ≡ true
bound_functions p order terms bind renamed puts =
    bound_pass (is_function_term p) order terms bind (is_function_term-instance p (renaming order) (λ v. refl)) renamed (λ v less. puts v)

-- ---- sizes

is_small-from : (t : Tree) → tree_size t ≤ MOST_SYMBOLS → is_small_term t ≡ true
is_small-from t h = le-leb (tree_size t) MOST_SYMBOLS h

renamed-small : (order : List ℕ) (t : Tree) → is_small_term t ≡ true → is_small_term (instance (renaming order) t) ≡ true
renamed-small order t h = ap (λ n. nat_le n MOST_SYMBOLS) (renamed-size order t) ∙ h

pub bound_small :
    (order : List ℕ) (terms bind : List Tree)
    → bind ≡ map (instance (renaming order)) terms
    → ((v : ℕ) → v < length terms → tree_size (substitution terms v) ≤ MOST_SYMBOLS) → list_all is_small_term bind ≡ true
bound_small order terms bind renamed small =
    bound_pass is_small_term order terms bind (renamed-small order) renamed (λ v less. is_small-from (substitution terms v) (small v less))

-- another term for one variable
abbrev pub changed : Substitution → ℕ → Substitution
changed σ v w = cond (w == v) (variable 0) (σ w)

pub changed_there : (σ : Substitution) (v : ℕ) → changed σ v v ≡ variable 0
changed_there σ v = cond-true (v == v) (variable 0) (σ v) (eq-eqb v v refl)

-- either the variable stands in the tree, and its term is no larger than the instance, or the instance is the same
mutual
  pub smaller_or_same :
      (σ : Substitution) (v : ℕ) (t : Tree)
      → (tree_size (σ v) ≤ tree_size (instance σ t)) ⊎ (instance (changed σ v) t ≡ instance σ t)
  smaller_or_same σ v (variable w) =
      ⊎_elim
      (λ e. let same : tree_size (σ w) ≡ tree_size (σ v) = ap (λ u. tree_size (σ u)) (eqb-true w v e) in inl (omega (arith, same)))
      (λ e. inr (cond-false (w == v) (variable 0) (σ w) e))
      (cases_Bool (w == v))
  smaller_or_same σ v (application f ts) =
      ⊎_elim (λ less. inl (omega (arith, less))) (λ same. inr (ap (application f) same)) (all_smaller_or_same σ v ts)

  all_smaller_or_same :
      (σ : Substitution) (v : ℕ) (ts : Trees)
      → (tree_size (σ v) ≤ trees_size (instances σ ts)) ⊎ (instances (changed σ v) ts ≡ instances σ ts)
  all_smaller_or_same σ v no_trees = inr refl
  all_smaller_or_same σ v (tree_then t ts) =
      ⊎_elim
      (λ less. inl (omega (arith, less)))
      (λ same.
      ⊎_elim (λ less. inl (omega (arith, less))) (λ rest. inr (ap₂ tree_then same rest)) (all_smaller_or_same σ v ts))
      (smaller_or_same σ v t)

-- what has a variable as an instance is one
pub variable_size : (κ : Substitution) (t : Tree) (k : ℕ) → instance κ t ≡ variable k → tree_size t ≡ 1
variable_size κ (variable v) k h = refl
variable_size κ (application f ts) k h = absurd (cc)

-- no term of a most general unifier is larger than what the two trees become
pub unified_small :
    (s t : Tree) (terms : List Tree) (most : ℕ) → IsGeneralBelow s t terms
    → tree_size (instance (substitution terms) s) ≤ most → 1 ≤ most
    → (v : ℕ) → v < length terms → tree_size (substitution terms v) ≤ most
unified_small s t terms most general small some v within =
    let σ : Substitution = substitution terms in
    let one : tree_size (instance σ s) ≡ tree_size (instance σ t) = ap tree_size general.unifies in
    ⊎_elim
    (λ less. omega (arith, less, small))
    (λ s_same.
    ⊎_elim
    (λ less. omega (arith, less, one, small))
    (λ t_same.
    let by = general.is_general (changed σ v) (s_same ∙ general.unifies ∙ sym t_same) in
    let size : tree_size (σ v) ≡ 1 = variable_size by.0 (σ v) 0 (sym (by.1 v within) ∙ changed_there σ v) in
    omega (arith, size, some))
    (smaller_or_same σ v t))
    (smaller_or_same σ v s)

-- ---- symbols

mutual
  renamed-passes : (test : SymbolTest) (order : List ℕ) (t : Tree) → symbols_pass test t ≡ true → symbols_pass test (instance (renaming order) t) ≡ true
  renamed-passes test order (variable v) h = refl
  renamed-passes test order (application f ts) h =
      let both = and_parts (test f (trees_count ts)) (all_symbols_pass test ts) h in
      and_from (test f (trees_count (instances (renaming order) ts))) (all_symbols_pass test (instances (renaming order) ts))
      (ap (test f) (trees_count-instances (renaming order) ts) ∙ both.0) (all_renamed-pass test order ts both.1)

  all_renamed-pass :
      (test : SymbolTest) (order : List ℕ) (ts : Trees)
      → all_symbols_pass test ts ≡ true → all_symbols_pass test (instances (renaming order) ts) ≡ true
  all_renamed-pass test order no_trees h = refl
  all_renamed-pass test order (tree_then t ts) h =
      let both = and_parts (symbols_pass test t) (all_symbols_pass test ts) h in
      and_from (symbols_pass test (instance (renaming order) t)) (all_symbols_pass test (instances (renaming order) ts))
      (renamed-passes test order t both.0) (all_renamed-pass test order ts both.1)

pub bound_symbols :
    (test : SymbolTest) (order : List ℕ) (terms bind : List Tree)
    → bind ≡ map (instance (renaming order)) terms
    → ((v : ℕ) → v < length terms → symbols_pass test (substitution terms v) ≡ true) → list_all (symbols_pass test) bind ≡ true
bound_symbols test order terms bind renamed pass = bound_pass (symbols_pass test) order terms bind (renamed-passes test order) renamed pass

-- a symbol of a tree that passes passes
mutual
  symbol-passes : (test : SymbolTest) (f n : ℕ) (t : Tree) → symbols_pass test t ≡ true → stands f n t ≡ true → test f n ≡ true
  symbol-passes test f n (variable v) h there = absurd (true≢false (sym there))
  symbol-passes test f n (application g ts) h there =
      let both = and_parts (test g (trees_count ts)) (all_symbols_pass test ts) h in
      ⊎_elim
      (λ head.
      let same = and_parts (f == g) (n == trees_count ts) head in
      ap₂ test (eqb-true f g same.0) (eqb-true n (trees_count ts) same.1) ∙ both.0)
      (λ later. symbol-passes-among test f n ts both.1 later)
      (or_cases ((f == g) && (n == trees_count ts)) (stands_in_any f n ts) there)

  symbol-passes-among : (test : SymbolTest) (f n : ℕ) (ts : Trees) → all_symbols_pass test ts ≡ true → stands_in_any f n ts ≡ true → test f n ≡ true
  symbol-passes-among test f n no_trees h there = absurd (true≢false (sym there))
  symbol-passes-among test f n (tree_then t ts) h there =
      let both = and_parts (symbols_pass test t) (all_symbols_pass test ts) h in
      ⊎_elim (λ first. symbol-passes test f n t both.0 first) (λ later. symbol-passes-among test f n ts both.1 later)
      (or_cases (stands f n t) (stands_in_any f n ts) there)

-- a tree passes where each of its symbols does
mutual
  passes-from : (test : SymbolTest) (t : Tree) → ((f n : ℕ) → stands f n t ≡ true → test f n ≡ true) → symbols_pass test t ≡ true
  passes-from test (variable v) each = refl
  passes-from test (application g ts) each =
      and_from (test g (trees_count ts)) (all_symbols_pass test ts)
      (each g (trees_count ts)
      (or_left ((g == g) && (trees_count ts == trees_count ts)) (stands_in_any g (trees_count ts) ts)
      (and_from (g == g) (trees_count ts == trees_count ts) (eq-eqb g g refl) (eq-eqb (trees_count ts) (trees_count ts) refl))))
      (all-pass-from test ts (λ f n there. each f n (or_right ((f == g) && (n == trees_count ts)) (stands_in_any f n ts) there)))

  all-pass-from : (test : SymbolTest) (ts : Trees) → ((f n : ℕ) → stands_in_any f n ts ≡ true → test f n ≡ true) → all_symbols_pass test ts ≡ true
  all-pass-from test no_trees each = refl
  all-pass-from test (tree_then t ts) each =
      and_from (symbols_pass test t) (all_symbols_pass test ts)
      (passes-from test t (λ f n there. each f n (or_left (stands f n t) (stands_in_any f n ts) there)))
      (all-pass-from test ts (λ f n there. each f n (or_right (stands f n t) (stands_in_any f n ts) there)))

-- what has the symbols of two trees alone passes where both do
pub added-passes :
    (test : SymbolTest) (s t put : Tree) → symbols_pass test s ≡ true → symbols_pass test t ≡ true
    → ((f n : ℕ) → stands f n put ≡ true → (stands f n s || stands f n t) ≡ true) → symbols_pass test put ≡ true
added-passes test s t put s_passes t_passes of_them =
    passes-from test put (λ f n there.
    ⊎_elim (λ in_s. symbol-passes test f n s s_passes in_s) (λ in_t. symbol-passes test f n t t_passes in_t)
    (or_cases (stands f n s) (stands f n t) (of_them f n there)))

-- a most general unifier brings in no symbols
pub unified_symbols :
    (test : SymbolTest) (s t : Tree) (terms : List Tree) → IsGeneralBelow s t terms
    → symbols_pass test s ≡ true → symbols_pass test t ≡ true
    → (v : ℕ) → v < length terms → symbols_pass test (substitution terms v) ≡ true
unified_symbols test s t terms general s_passes t_passes v within =
    let σ : Substitution = substitution terms in
    added-passes test s t (σ v) s_passes t_passes (λ f n there.
    adds-no_symbol s t σ σ (σ v) f n general.unifies
    (λ unifies. let by = general.is_general (λ w. cleaned f n (σ w)) unifies in (by.0, by.1 v within))
    there)
