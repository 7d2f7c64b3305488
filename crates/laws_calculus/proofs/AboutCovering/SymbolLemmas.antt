-- What a matcher puts in has the symbols of what is matched.
use Rattle.std.proofs.Common.{◌≡◌, ℕ, Bool, true, false, ◌||◌, ◌==◌, List, [], ◌∷◌, ◌++◌, Some, refl, ap, sym, ◌∙◌, ⊎_elim, inl}
use Rattle.std.specs.Prelude.{slice_get}
use Rattle.std.specs.List.{list_all}
use Rattle.std.proofs.lemmas.Bool.{and_parts, and_from}
use Rattle.fol_base.specs.Tree.{Tree, variable, application, Trees, no_trees, tree_then, trees_count, tree_variables, trees_variables, true_symbol}
use Rattle.fol_base.specs.Instance.{Substitution, instance, instances}
use Rattle.fol_base.specs.Clause.{TreeLiteral, TreeClause, literal_instance}
use Rattle.fol_base.specs.Canonical.{renaming}
use Rattle.fol_base.specs.Symbols.{FunctionSymbols}
use Rattle.fol_base.specs.Ground.{has_symbol, is_over, are_over, literals_instance}
use Rattle.fol_base.specs.Kind.{is_function_term, are_function_terms}
use Rattle.fol_base.specs.Order.{equivalent_literals}
use Rattle.fol_base.specs.declared.clause.Side.TheVariants.{Left, Right}
use Rattle.fol_base.proofs.WorkedExamples.TestLemmas.{list_all-item}
use Rattle.fol_base.proofs.AboutOrders.OrderLemmas.{equivalent_literals-decided}
use Rattle.fol_base.proofs.AboutTerms.KindLemmas.{is_function_term-parts}
use Rattle.kernel_steps.specs.Symbols.{symbols_pass, all_symbols_pass, literal_symbols_pass}
use Rattle.kbo_order.proofs.AboutMultisets.MemberLemmas.{In, In-left, In-right}
use Rattle.laws_calculus.specs.Symbols.{is_allowed, HasSymbolsOf}
use Rattle.laws_calculus.proofs.AboutCovering.ClauseLemmas.{In-either}
use Rattle.fol_base.proofs.AboutInstances.InstanceLemmas.{trees_count-instances}
use Rattle.kernel_steps.proofs.AboutCalls.SymbolLemmas.{side-passes}

abbrev SymbolTest : Type 0
SymbolTest = ℕ → ℕ → Bool

-- ---- what stands in an instance

mutual
  pub variable-passes :
      (test : SymbolTest) (σ : Substitution) (t : Tree) (v : ℕ)
      → symbols_pass test (instance σ t) ≡ true → In v (tree_variables t) → symbols_pass test (σ v) ≡ true
  variable-passes test σ (variable w) v h there = ⊎_elim (λ e. ap (λ u. symbols_pass test (σ u)) e ∙ h) (λ none. absurd none) there
  variable-passes test σ (application f ts) v h there =
      variables-pass test σ ts v (and_parts (test f (trees_count (instances σ ts))) (all_symbols_pass test (instances σ ts)) h).1 there

  variables-pass :
      (test : SymbolTest) (σ : Substitution) (ts : Trees) (v : ℕ)
      → all_symbols_pass test (instances σ ts) ≡ true → In v (trees_variables ts) → symbols_pass test (σ v) ≡ true
  variables-pass test σ no_trees v h there = absurd there
  variables-pass test σ (tree_then t ts) v h there =
      let both = and_parts (symbols_pass test (instance σ t)) (all_symbols_pass test (instances σ ts)) h in
      ⊎_elim (λ here. variable-passes test σ t v both.0 here) (λ later. variables-pass test σ ts v both.1 later)
      (In-either v (tree_variables t) (trees_variables ts) there)

-- of a literal that is the same as an instance, sides in either order
pub literal-variable-passes :
    (test : SymbolTest) (σ : Substitution) (l m : TreeLiteral) (v : ℕ)
    → equivalent_literals (literal_instance σ l) m ≡ true → literal_symbols_pass test m ≡ true
    → In v (tree_variables l.left ++ tree_variables l.right) → symbols_pass test (σ v) ≡ true
literal-variable-passes test σ l m v same h there =
    let sides = (equivalent_literals-decided (literal_instance σ l) m).0 same in
    let left = side-passes test Left m h in
    let right = side-passes test Right m h in
    let both : (symbols_pass test (instance σ l.left) ≡ true) × (symbols_pass test (instance σ l.right) ≡ true) =
    ⊎_elim
    (λ e. (ap (symbols_pass test) e.0 ∙ left, ap (symbols_pass test) e.1 ∙ right))
    (λ e. (ap (symbols_pass test) e.0 ∙ right, ap (symbols_pass test) e.1 ∙ left))
    sides.1 in
    ⊎_elim (λ k. variable-passes test σ l.left v both.0 k) (λ k. variable-passes test σ l.right v both.1 k)
    (In-either v (tree_variables l.left) (tree_variables l.right) there)

-- ---- what is put in

mutual
  pub instance-passes :
      (test : SymbolTest) (σ : Substitution) (t : Tree)
      → ((v : ℕ) → In v (tree_variables t) → symbols_pass test (σ v) ≡ true) → symbols_pass test t ≡ true → symbols_pass test (instance σ t) ≡ true
  instance-passes test σ (variable v) puts h = puts v (inl refl)
  instance-passes test σ (application f ts) puts h =
      let both = and_parts (test f (trees_count ts)) (all_symbols_pass test ts) h in
      and_from (test f (trees_count (instances σ ts))) (all_symbols_pass test (instances σ ts))
      (ap (test f) (trees_count-instances σ ts) ∙ both.0) (instances-pass test σ ts puts both.1)

  instances-pass :
      (test : SymbolTest) (σ : Substitution) (ts : Trees)
      → ((v : ℕ) → In v (trees_variables ts) → symbols_pass test (σ v) ≡ true) → all_symbols_pass test ts ≡ true
      → all_symbols_pass test (instances σ ts) ≡ true
  instances-pass test σ no_trees puts h = refl
  instances-pass test σ (tree_then t ts) puts h =
      let both = and_parts (symbols_pass test t) (all_symbols_pass test ts) h in
      and_from (symbols_pass test (instance σ t)) (all_symbols_pass test (instances σ ts))
      (instance-passes test σ t (λ v k. puts v (In-left v (tree_variables t) (trees_variables ts) k)) both.0)
      (instances-pass test σ ts (λ v k. puts v (In-right v (tree_variables t) (trees_variables ts) k)) both.1)

-- variables that are numbered anew change no symbol
pub renamed-pass :
    (test : SymbolTest) (order : List ℕ) (ls : List TreeLiteral)
    → list_all (literal_symbols_pass test) ls ≡ true → list_all (literal_symbols_pass test) (literals_instance (renaming order) ls) ≡ true
renamed-pass test order [] h = refl
renamed-pass test order (l ∷ ls) h =
    let σ : Substitution = renaming order in
    let both = and_parts (literal_symbols_pass test l) (list_all (literal_symbols_pass test) ls) h in
    and_from (literal_symbols_pass test (literal_instance σ l)) (list_all (literal_symbols_pass test) (literals_instance σ ls))
    (and_from (symbols_pass test (instance σ l.left)) (symbols_pass test (instance σ l.right))
    (instance-passes test σ l.left (λ v there. refl) (side-passes test Left l both.0))
    (instance-passes test σ l.right (λ v there. refl) (side-passes test Right l both.0)))
    (renamed-pass test order ls both.1)

-- ---- function terms

listed_symbol :
    {is_predicate : ℕ → Bool} (functions : FunctionSymbols is_predicate) (f n : ℕ)
    → (f == true_symbol) ≡ false → is_predicate f ≡ false → is_allowed functions f n ≡ true → has_symbol functions.symbols f n ≡ true
listed_symbol {is_predicate} functions f n no_truth no_predicate h =
    ap (λ (b : Bool). b || has_symbol functions.symbols f n) (sym (ap (λ (b : Bool). b || is_predicate f) no_truth ∙ no_predicate)) ∙ h

mutual
  pub function_term-over :
      {is_predicate : ℕ → Bool} (functions : FunctionSymbols is_predicate) (t : Tree)
      → is_function_term is_predicate t ≡ true → symbols_pass (is_allowed functions) t ≡ true → is_over functions.symbols t ≡ true
  function_term-over functions (variable v) kind h = refl
  function_term-over {is_predicate} functions (application f ts) kind h =
      let head = is_function_term-parts is_predicate f ts kind in
      let both = and_parts (is_allowed functions f (trees_count ts)) (all_symbols_pass (is_allowed functions) ts) h in
      and_from (has_symbol functions.symbols f (trees_count ts)) (are_over functions.symbols ts)
      (listed_symbol functions f (trees_count ts) head.no_truth head.no_predicate both.0)
      (function_terms-over functions ts head.arguments both.1)

  function_terms-over :
      {is_predicate : ℕ → Bool} (functions : FunctionSymbols is_predicate) (ts : Trees)
      → are_function_terms is_predicate ts ≡ true → all_symbols_pass (is_allowed functions) ts ≡ true → are_over functions.symbols ts ≡ true
  function_terms-over functions no_trees kind h = refl
  function_terms-over {is_predicate} functions (tree_then t ts) kind h =
      let kinds = and_parts (is_function_term is_predicate t) (are_function_terms is_predicate ts) kind in
      let both = and_parts (symbols_pass (is_allowed functions) t) (all_symbols_pass (is_allowed functions) ts) h in
      and_from (is_over functions.symbols t) (are_over functions.symbols ts)
      (function_term-over functions t kinds.0 both.0) (function_terms-over functions ts kinds.1 both.1)

-- a literal of a clause over the list
pub literal-over :
    {is_predicate : ℕ → Bool} (functions : FunctionSymbols is_predicate) (c : TreeClause) (k : ℕ) (l : TreeLiteral)
    → HasSymbolsOf functions c → slice_get c.literals k ≡ Some l → literal_symbols_pass (is_allowed functions) l ≡ true
literal-over functions c k l h at = list_all-item (literal_symbols_pass (is_allowed functions)) c.literals k l at h
