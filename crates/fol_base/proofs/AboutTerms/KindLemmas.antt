-- Kinds of terms, and the numbers of arguments of their symbols: in subterms, after a replacement, and in instances.
use Rattle.std.proofs.Common.{◌≡◌, ℕ, Bool, true, false, ◌&&◌, ◌==◌, List, [], ◌∷◌, length, Some, refl, ap, sym, ◌∙◌, ⊎_elim, arith}
use Rattle.std.specs.Prelude.{not, slice_set}
use Rattle.std.specs.List.{list_all}
use Rattle.std.proofs.lemmas.Bool.{and_parts, and_from, or_cases, not-true, true≢false, false_from_ne_true, eqb-true}
use Rattle.std.proofs.lemmas.Option.{option_and_then_some, none-some, same_Some}
use Rattle.std.proofs.lemmas.List.{length-set}
use Rattle.fol_base.specs.Tree.{Tree, variable, application, Trees, no_trees, tree_then, trees_of, list_of, trees_count, true_symbol, true_tree, is_truth}
use Rattle.fol_base.specs.Instance.{Substitution, instance, instances}
use Rattle.fol_base.specs.Place.{argument, with_argument, subterm, replaced}
use Rattle.fol_base.specs.Symbols.{FunctionSymbol, FunctionSymbols, are_function_symbols}
use Rattle.fol_base.specs.Ground.{has_symbol, is_ground, is_over, are_over, IsGroundOver}
use Rattle.fol_base.specs.Kind.{is_function_term, are_function_terms, is_predicate_term, PutsFunctionTerms, GroundTreesAreFunctionTerms}
use Rattle.fol_base.specs.InstanceLaws.{PutsNoTruth}
use Rattle.fol_base.specs.WellFormed.{has_arities, have_arities}
use Rattle.fol_base.proofs.AboutTerms.TreeLemmas.{tree_eq-true, list_of-trees_of}
use Rattle.fol_base.proofs.WorkedExamples.TestLemmas.{list_all-item, list_all-set}
use Rattle.fol_base.proofs.AboutInstances.PlaceLemmas.{replaced-parts}
use Rattle.fol_base.proofs.AboutInstances.InstanceLemmas.{trees_count-instances}

-- ---- lists of trees

pub are_function_terms-listed :
    (p : ℕ → Bool) (ts : Trees) → are_function_terms p ts ≡ list_all (is_function_term p) (list_of ts)
are_function_terms-listed p no_trees = refl
are_function_terms-listed p (tree_then t ts) = ap (λ b. is_function_term p t && b) (are_function_terms-listed p ts)

pub have_arities-listed :
    (arity : ℕ → ℕ) (ts : Trees) → have_arities arity ts ≡ list_all (has_arities arity) (list_of ts)
have_arities-listed arity no_trees = refl
have_arities-listed arity (tree_then t ts) = ap (λ b. has_arities arity t && b) (have_arities-listed arity ts)

pub trees_count-listed : (ts : Trees) → trees_count ts ≡ length (list_of ts)
trees_count-listed no_trees = refl
trees_count-listed (tree_then t ts) = omega (arith, trees_count-listed ts)

-- one tree exchanged
are_function_terms-set :
    (p : ℕ → Bool) (ts : Trees) (k : ℕ) (new : Tree)
    → are_function_terms p ts ≡ true → is_function_term p new ≡ true
    → are_function_terms p (trees_of (slice_set (list_of ts) k new)) ≡ true
are_function_terms-set p ts k new all passes =
    are_function_terms-listed p (trees_of (slice_set (list_of ts) k new))
    ∙ ap (list_all (is_function_term p)) (list_of-trees_of (slice_set (list_of ts) k new))
    ∙ list_all-set (is_function_term p) (list_of ts) k new (sym (are_function_terms-listed p ts) ∙ all) passes

have_arities-set :
    (arity : ℕ → ℕ) (ts : Trees) (k : ℕ) (new : Tree)
    → have_arities arity ts ≡ true → has_arities arity new ≡ true
    → have_arities arity (trees_of (slice_set (list_of ts) k new)) ≡ true
have_arities-set arity ts k new all passes =
    have_arities-listed arity (trees_of (slice_set (list_of ts) k new))
    ∙ ap (list_all (has_arities arity)) (list_of-trees_of (slice_set (list_of ts) k new))
    ∙ list_all-set (has_arities arity) (list_of ts) k new (sym (have_arities-listed arity ts) ∙ all) passes

trees_count-set : (ts : Trees) (k : ℕ) (new : Tree) → trees_count (trees_of (slice_set (list_of ts) k new)) ≡ trees_count ts
trees_count-set ts k new =
    trees_count-listed (trees_of (slice_set (list_of ts) k new))
    ∙ ap length (list_of-trees_of (slice_set (list_of ts) k new))
    ∙ length-set (list_of ts) k new
    ∙ sym (trees_count-listed ts)

-- ---- a term is of one kind

pub record FunctionHead (p : ℕ → Bool) (f : ℕ) (ts : Trees) : Type 0 where
  pub no_truth : (f == true_symbol) ≡ false
  pub no_predicate : p f ≡ false
  pub arguments : are_function_terms p ts ≡ true

pub record PredicateHead (p : ℕ → Bool) (f : ℕ) (ts : Trees) : Type 0 where
  pub no_truth : (f == true_symbol) ≡ false
  pub predicate : p f ≡ true
  pub arguments : are_function_terms p ts ≡ true

pub is_function_term-parts :
    (p : ℕ → Bool) (f : ℕ) (ts : Trees) → is_function_term p (application f ts) ≡ true → FunctionHead p f ts
is_function_term-parts p f ts h =
    let parts = and_parts (not (f == true_symbol)) (not (p f) && are_function_terms p ts) h in
    let rest = and_parts (not (p f)) (are_function_terms p ts) parts.1 in
    record { no_truth = not-true (f == true_symbol) parts.0; no_predicate = not-true (p f) rest.0; arguments = rest.1 }

pub is_function_term-from :
    (p : ℕ → Bool) (f : ℕ) (ts : Trees) → FunctionHead p f ts → is_function_term p (application f ts) ≡ true
is_function_term-from p f ts h =
    and_from (not (f == true_symbol)) _ (ap not h.no_truth) (and_from (not (p f)) _ (ap not h.no_predicate) h.arguments)

pub is_predicate_term-parts :
    (p : ℕ → Bool) (f : ℕ) (ts : Trees) → is_predicate_term p (application f ts) ≡ true → PredicateHead p f ts
is_predicate_term-parts p f ts h =
    let parts = and_parts (not (f == true_symbol)) (p f && are_function_terms p ts) h in
    let rest = and_parts (p f) (are_function_terms p ts) parts.1 in
    record { no_truth = not-true (f == true_symbol) parts.0; predicate = rest.0; arguments = rest.1 }

pub is_predicate_term-from :
    (p : ℕ → Bool) (f : ℕ) (ts : Trees) → PredicateHead p f ts → is_predicate_term p (application f ts) ≡ true
is_predicate_term-from p f ts h =
    and_from (not (f == true_symbol)) _ (ap not h.no_truth) (and_from (p f) _ h.predicate h.arguments)

-- a function term is no predicate term
pub no_predicate_term : (p : ℕ → Bool) (t : Tree) → is_function_term p t ≡ true → is_predicate_term p t ≡ true → ⊥
no_predicate_term p (variable v) h k = true≢false (sym k)
no_predicate_term p (application f ts) h k =
    true≢false (sym (is_predicate_term-parts p f ts k).predicate ∙ (is_function_term-parts p f ts h).no_predicate)

-- and neither is `$true`
pub function_term-no_truth : (p : ℕ → Bool) (t : Tree) → is_function_term p t ≡ true → is_truth t ≡ false
function_term-no_truth p t h =
    false_from_ne_true (is_truth t) (λ e. true≢false (sym h ∙ ap (is_function_term p) (tree_eq-true t true_tree e)))

pub predicate_term-no_truth : (p : ℕ → Bool) (t : Tree) → is_predicate_term p t ≡ true → is_truth t ≡ false
predicate_term-no_truth p t h =
    false_from_ne_true (is_truth t) (λ e. true≢false (sym h ∙ ap (is_predicate_term p) (tree_eq-true t true_tree e)))

-- ---- arguments and subterms

pub is_function_term-argument :
    (p : ℕ → Bool) (k : ℕ) (t a : Tree) → argument k t ≡ Some a → is_function_term p t ≡ true → is_function_term p a ≡ true
is_function_term-argument p k (variable v) a there h = absurd (none-some a there)
is_function_term-argument p k (application f ts) a there h =
    list_all-item (is_function_term p) (list_of ts) k a there
    (sym (are_function_terms-listed p ts) ∙ (is_function_term-parts p f ts h).arguments)

pub is_predicate_term-argument :
    (p : ℕ → Bool) (k : ℕ) (t a : Tree) → argument k t ≡ Some a → is_predicate_term p t ≡ true → is_function_term p a ≡ true
is_predicate_term-argument p k (variable v) a there h = absurd (none-some a there)
is_predicate_term-argument p k (application f ts) a there h =
    list_all-item (is_function_term p) (list_of ts) k a there
    (sym (are_function_terms-listed p ts) ∙ (is_predicate_term-parts p f ts h).arguments)

pub has_arities-argument :
    (arity : ℕ → ℕ) (k : ℕ) (t a : Tree) → argument k t ≡ Some a → has_arities arity t ≡ true → has_arities arity a ≡ true
has_arities-argument arity k (variable v) a there h = absurd (none-some a there)
has_arities-argument arity k (application f ts) a there h =
    list_all-item (has_arities arity) (list_of ts) k a there
    (sym (have_arities-listed arity ts) ∙ (and_parts (arity f == trees_count ts) (have_arities arity ts) h).1)

-- the subterms of a function term are function terms
pub is_function_term-subterm :
    (p : ℕ → Bool) (place : List ℕ) (t u : Tree)
    → subterm place t ≡ Some u → is_function_term p t ≡ true → is_function_term p u ≡ true
is_function_term-subterm p [] t u there h = ap (is_function_term p) (sym (same_Some t u there)) ∙ h
is_function_term-subterm p (k ∷ place) t u there h =
    option_and_then_some (subterm place) (argument k t) u there λ a a_is a_there.
    is_function_term-subterm p place a u a_there (is_function_term-argument p k t a a_is h)

-- and so are those of a predicate term, but for itself
pub is_predicate_term-subterm :
    (p : ℕ → Bool) (k : ℕ) (place : List ℕ) (t u : Tree)
    → subterm (k ∷ place) t ≡ Some u → is_predicate_term p t ≡ true → is_function_term p u ≡ true
is_predicate_term-subterm p k place t u there h =
    option_and_then_some (subterm place) (argument k t) u there λ a a_is a_there.
    is_function_term-subterm p place a u a_there (is_predicate_term-argument p k t a a_is h)

-- `$true` has no other subterm than itself
pub is_truth-subterm : (place : List ℕ) (t u : Tree) → subterm place t ≡ Some u → is_truth t ≡ true → is_truth u ≡ true
is_truth-subterm [] t u there h = ap is_truth (sym (same_Some t u there)) ∙ h
is_truth-subterm (k ∷ place) t u there h =
    option_and_then_some (subterm place) (argument k t) u there λ a a_is a_there.
    absurd (none-some a (sym (ap (argument k) (tree_eq-true t true_tree h)) ∙ a_is))

pub has_arities-subterm :
    (arity : ℕ → ℕ) (place : List ℕ) (t u : Tree)
    → subterm place t ≡ Some u → has_arities arity t ≡ true → has_arities arity u ≡ true
has_arities-subterm arity [] t u there h = ap (has_arities arity) (sym (same_Some t u there)) ∙ h
has_arities-subterm arity (k ∷ place) t u there h =
    option_and_then_some (subterm place) (argument k t) u there λ a a_is a_there.
    has_arities-subterm arity place a u a_there (has_arities-argument arity k t a a_is h)

-- ---- replacements

pub is_function_term-with_argument :
    (p : ℕ → Bool) (k : ℕ) (new t : Tree)
    → is_function_term p t ≡ true → is_function_term p new ≡ true → is_function_term p (with_argument k new t) ≡ true
is_function_term-with_argument p k new (variable v) h new_is = h
is_function_term-with_argument p k new (application f ts) h new_is =
    let head = is_function_term-parts p f ts h in
    is_function_term-from p f (trees_of (slice_set (list_of ts) k new)) (record {
      no_truth = head.no_truth;
      no_predicate = head.no_predicate;
      arguments = are_function_terms-set p ts k new head.arguments new_is;
    })

pub is_predicate_term-with_argument :
    (p : ℕ → Bool) (k : ℕ) (new t : Tree)
    → is_predicate_term p t ≡ true → is_function_term p new ≡ true → is_predicate_term p (with_argument k new t) ≡ true
is_predicate_term-with_argument p k new (variable v) h new_is = h
is_predicate_term-with_argument p k new (application f ts) h new_is =
    let head = is_predicate_term-parts p f ts h in
    is_predicate_term-from p f (trees_of (slice_set (list_of ts) k new)) (record {
      no_truth = head.no_truth;
      predicate = head.predicate;
      arguments = are_function_terms-set p ts k new head.arguments new_is;
    })

pub has_arities-with_argument :
    (arity : ℕ → ℕ) (k : ℕ) (new t : Tree)
    → has_arities arity t ≡ true → has_arities arity new ≡ true → has_arities arity (with_argument k new t) ≡ true
has_arities-with_argument arity k new (variable v) h new_is = h
has_arities-with_argument arity k new (application f ts) h new_is =
    let parts = and_parts (arity f == trees_count ts) (have_arities arity ts) h in
    and_from (arity f == trees_count (trees_of (slice_set (list_of ts) k new))) _
    (ap (λ n. arity f == n) (trees_count-set ts k new) ∙ parts.0)
    (have_arities-set arity ts k new parts.1 new_is)

-- a function term in a function term
pub is_function_term-replaced :
    (p : ℕ → Bool) (place : List ℕ) (new t made : Tree)
    → replaced place new t ≡ Some made → is_function_term p t ≡ true → is_function_term p new ≡ true → is_function_term p made ≡ true
is_function_term-replaced p [] new t made put h new_is = ap (is_function_term p) (sym (same_Some new made put)) ∙ new_is
is_function_term-replaced p (k ∷ place) new t made put h new_is =
    replaced-parts k place new t made put λ a b a_is b_is gives.
    ap (is_function_term p) (sym gives)
    ∙ is_function_term-with_argument p k b t h
    (is_function_term-replaced p place new a b b_is (is_function_term-argument p k t a a_is h) new_is)

-- and in a predicate term, below its head
pub is_predicate_term-replaced :
    (p : ℕ → Bool) (k : ℕ) (place : List ℕ) (new t made : Tree)
    → replaced (k ∷ place) new t ≡ Some made → is_predicate_term p t ≡ true → is_function_term p new ≡ true
    → is_predicate_term p made ≡ true
is_predicate_term-replaced p k place new t made put h new_is =
    replaced-parts k place new t made put λ a b a_is b_is gives.
    ap (is_predicate_term p) (sym gives)
    ∙ is_predicate_term-with_argument p k b t h
    (is_function_term-replaced p place new a b b_is (is_predicate_term-argument p k t a a_is h) new_is)

pub has_arities-replaced :
    (arity : ℕ → ℕ) (place : List ℕ) (new t made : Tree)
    → replaced place new t ≡ Some made → has_arities arity t ≡ true → has_arities arity new ≡ true → has_arities arity made ≡ true
has_arities-replaced arity [] new t made put h new_is = ap (has_arities arity) (sym (same_Some new made put)) ∙ new_is
has_arities-replaced arity (k ∷ place) new t made put h new_is =
    replaced-parts k place new t made put λ a b a_is b_is gives.
    ap (has_arities arity) (sym gives)
    ∙ has_arities-with_argument arity k b t h
    (has_arities-replaced arity place new a b b_is (has_arities-argument arity k t a a_is h) new_is)

-- ---- instances

mutual
  pub is_function_term-instance :
      (p : ℕ → Bool) (σ : Substitution) → PutsFunctionTerms p σ
      → (t : Tree) → is_function_term p t ≡ true → is_function_term p (instance σ t) ≡ true
  is_function_term-instance p σ puts (variable v) h = puts v
  is_function_term-instance p σ puts (application f ts) h =
      let head = is_function_term-parts p f ts h in
      is_function_term-from p f (instances σ ts) (record {
        no_truth = head.no_truth;
        no_predicate = head.no_predicate;
        arguments = are_function_terms-instances p σ puts ts head.arguments;
      })

  pub are_function_terms-instances :
      (p : ℕ → Bool) (σ : Substitution) → PutsFunctionTerms p σ
      → (ts : Trees) → are_function_terms p ts ≡ true → are_function_terms p (instances σ ts) ≡ true
  are_function_terms-instances p σ puts no_trees h = refl
  are_function_terms-instances p σ puts (tree_then t ts) h =
      let parts = and_parts (is_function_term p t) (are_function_terms p ts) h in
      and_from (is_function_term p (instance σ t)) _ (is_function_term-instance p σ puts t parts.0) (are_function_terms-instances p σ puts ts parts.1)

pub is_predicate_term-instance :
    (p : ℕ → Bool) (σ : Substitution) → PutsFunctionTerms p σ
    → (t : Tree) → is_predicate_term p t ≡ true → is_predicate_term p (instance σ t) ≡ true
is_predicate_term-instance p σ puts (variable v) h = absurd (true≢false (sym h))
is_predicate_term-instance p σ puts (application f ts) h =
    let head = is_predicate_term-parts p f ts h in
    is_predicate_term-from p f (instances σ ts) (record {
      no_truth = head.no_truth;
      predicate = head.predicate;
      arguments = are_function_terms-instances p σ puts ts head.arguments;
    })

mutual
  pub has_arities-instance :
      (arity : ℕ → ℕ) (σ : Substitution) → ((v : ℕ) → has_arities arity (σ v) ≡ true)
      → (t : Tree) → has_arities arity t ≡ true → has_arities arity (instance σ t) ≡ true
  has_arities-instance arity σ puts (variable v) h = puts v
  has_arities-instance arity σ puts (application f ts) h =
      let parts = and_parts (arity f == trees_count ts) (have_arities arity ts) h in
      and_from (arity f == trees_count (instances σ ts)) _
      (ap (λ n. arity f == n) (trees_count-instances σ ts) ∙ parts.0)
      (have_arities-instances arity σ puts ts parts.1)

  pub have_arities-instances :
      (arity : ℕ → ℕ) (σ : Substitution) → ((v : ℕ) → has_arities arity (σ v) ≡ true)
      → (ts : Trees) → have_arities arity ts ≡ true → have_arities arity (instances σ ts) ≡ true
  have_arities-instances arity σ puts no_trees h = refl
  have_arities-instances arity σ puts (tree_then t ts) h =
      let parts = and_parts (has_arities arity t) (have_arities arity ts) h in
      and_from (has_arities arity (instance σ t)) _ (has_arities-instance arity σ puts t parts.0) (have_arities-instances arity σ puts ts parts.1)

-- function terms put in are not `$true`
pub puts_no_truth : (p : ℕ → Bool) (σ : Substitution) → PutsFunctionTerms p σ → PutsNoTruth σ
puts_no_truth p σ puts v = function_term-no_truth p (σ v) (puts v)

-- ---- trees over function symbols

-- a symbol of the list
listed_symbol :
    (p : ℕ → Bool) (symbols : List FunctionSymbol) (f arity : ℕ)
    → are_function_symbols p symbols ≡ true → has_symbol symbols f arity ≡ true
    → ((f == true_symbol) ≡ false) × (p f ≡ false)
listed_symbol p [] f arity all there = absurd (true≢false (sym there))
listed_symbol p (s ∷ symbols) f arity all there =
    let parts = and_parts (not (s.number == true_symbol) && not (p s.number)) (are_function_symbols p symbols) all in
    ⊎_elim
    (λ here.
    let own = and_parts (not (s.number == true_symbol)) (not (p s.number)) parts.0 in
    let same : s.number ≡ f = eqb-true s.number f (and_parts (s.number == f) (s.arity == arity) here).0 in (
      ap (λ n. n == true_symbol) (sym same) ∙ not-true (s.number == true_symbol) own.0,
      ap p (sym same) ∙ not-true (p s.number) own.1,
    ))
    (λ later. listed_symbol p symbols f arity parts.1 later)
    (or_cases ((s.number == f) && (s.arity == arity)) (has_symbol symbols f arity) there)

mutual
  pub is_over-function_term :
      (p : ℕ → Bool) (functions : FunctionSymbols p) (t : Tree) → is_over functions.symbols t ≡ true → is_function_term p t ≡ true
  is_over-function_term p functions (variable v) h = refl
  is_over-function_term p functions (application f ts) h =
      let parts = and_parts (has_symbol functions.symbols f (trees_count ts)) (are_over functions.symbols ts) h in
      let head = listed_symbol p functions.symbols f (trees_count ts) functions.functions_alone parts.0 in
      is_function_term-from p f ts (record {
        no_truth = head.0;
        no_predicate = head.1;
        arguments = are_over-function_terms p functions ts parts.1;
      })

  pub are_over-function_terms :
      (p : ℕ → Bool) (functions : FunctionSymbols p) (ts : Trees) → are_over functions.symbols ts ≡ true → are_function_terms p ts ≡ true
  are_over-function_terms p functions no_trees h = refl
  are_over-function_terms p functions (tree_then t ts) h =
      let parts = and_parts (is_over functions.symbols t) (are_over functions.symbols ts) h in
      and_from (is_function_term p t) _ (is_over-function_term p functions t parts.0) (are_over-function_terms p functions ts parts.1)

pub ground_trees_are_function_terms : GroundTreesAreFunctionTerms
ground_trees_are_function_terms p functions t h =
    is_over-function_term p functions t (and_parts (is_ground t) (is_over functions.symbols t) h).1

-- a substitution that is ground over function symbols puts in function terms
pub puts_function_terms : (p : ℕ → Bool) (functions : FunctionSymbols p) (σ : Substitution) → IsGroundOver functions σ → PutsFunctionTerms p σ
puts_function_terms p functions σ ground v = ground_trees_are_function_terms p functions (σ v) (ground v)
