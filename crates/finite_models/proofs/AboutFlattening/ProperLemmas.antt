-- Terms and literals whose symbols are used as a signature tells, as cases.
use Rattle.std.proofs.Common.{◌≡◌, ℕ, ◌==◌, nat_lt, Bool, true, false, not, ◌&&◌, ◌||◌, List, [], ◌∷◌, refl, ap, sym, ⊎_elim}
use Rattle.std.specs.List.{AllByRecursion, list_all}
use Rattle.std.proofs.lemmas.Bool.{and_parts, or_cases, eqb-true, true≢false}
use Rattle.fol_base.specs.Tree.{Tree, variable, application, Trees, no_trees, tree_then, trees_count, is_truth}
use Rattle.fol_base.specs.Clause.{TreeLiteral}
use Rattle.fol_base.specs.Kind.{is_function_term, are_function_terms, is_predicate_term, is_literal}
use Rattle.fol_base.specs.WellFormed.{SymbolUse, has_arities, have_arities, is_literal_of, are_literals_of}
use Rattle.kernel_steps.specs.Symbols.{symbols_pass, all_symbols_pass, literal_symbols_pass}

module _ (u : SymbolUse) (count : ℕ) where
  -- a symbol that is known, with its number of arguments
  pub record Applies (f : ℕ) (ts : Trees) : Type 0 where
    pub not_truth : (f == 0) ≡ false
    pub is_known : nat_lt f count ≡ true
    pub arguments : u.arity f ≡ trees_count ts

  abbrev mutual
    pub Proper : Tree → Type 0
    Proper (variable v) = Unit {0}
    Proper (application f ts) = Applies f ts × (u.is_predicate f ≡ false) × AllProper ts

    pub AllProper : Trees → Type 0
    AllProper no_trees = Unit {0}
    AllProper (tree_then t ts) = Proper t × AllProper ts

  abbrev pub ProperAtom : Tree → Type 0
  ProperAtom (variable v) = ⊥
  ProperAtom (application f ts) = Applies f ts × (u.is_predicate f ≡ true) × AllProper ts

  pub data ProperLiteral (l : TreeLiteral) : Type 0 where
    an_equation : is_truth l.right ≡ false → Proper l.left → Proper l.right → ProperLiteral l
    an_atom : is_truth l.right ≡ true → ProperAtom l.left → ProperLiteral l
    a_truth : is_truth l.right ≡ true → is_truth l.left ≡ true → ProperLiteral l

not-true : (b : Bool) → not b ≡ true → b ≡ false
not-true true h = sym h
not-true false h = refl

-- symbols that pass a test have numbers below `count`
module _ (u : SymbolUse) (count : ℕ) (known : ℕ → ℕ → Bool) (within : (f k : ℕ) → known f k ≡ true → nat_lt f count ≡ true) where
  mutual
    proper :
        (t : Tree) → is_function_term u.is_predicate t ≡ true → has_arities u.arity t ≡ true → symbols_pass known t ≡ true → Proper u count t
    proper (variable v) h a k = tt
    proper (application f ts) h a k =
        let kind = and_parts (not (f == 0)) (not (u.is_predicate f) && are_function_terms u.is_predicate ts) h in
        let rest = and_parts (not (u.is_predicate f)) (are_function_terms u.is_predicate ts) kind.1 in
        let arity = and_parts (u.arity f == trees_count ts) (have_arities u.arity ts) a in
        let there = and_parts (known f (trees_count ts)) (all_symbols_pass known ts) k in (
          record {
            not_truth = not-true (f == 0) kind.0;
            is_known = within f (trees_count ts) there.0;
            arguments = eqb-true (u.arity f) (trees_count ts) arity.0;
          },
          not-true (u.is_predicate f) rest.0,
          all-proper ts rest.1 arity.1 there.1,
        )

    all-proper :
        (ts : Trees)
        → are_function_terms u.is_predicate ts ≡ true → have_arities u.arity ts ≡ true → all_symbols_pass known ts ≡ true → AllProper u count ts
    all-proper no_trees h a k = tt
    all-proper (tree_then t ts) h a k =
        let kind = and_parts (is_function_term u.is_predicate t) (are_function_terms u.is_predicate ts) h in
        let arity = and_parts (has_arities u.arity t) (have_arities u.arity ts) a in
        let there = and_parts (symbols_pass known t) (all_symbols_pass known ts) k in (
          proper t kind.0 arity.0 there.0,
          all-proper ts kind.1 arity.1 there.1,
        )

  proper-atom :
      (t : Tree) → is_predicate_term u.is_predicate t ≡ true → has_arities u.arity t ≡ true → symbols_pass known t ≡ true → ProperAtom u count t
  proper-atom (variable v) h a k = true≢false (sym h)
  proper-atom (application f ts) h a k =
      let kind = and_parts (not (f == 0)) (u.is_predicate f && are_function_terms u.is_predicate ts) h in
      let rest = and_parts (u.is_predicate f) (are_function_terms u.is_predicate ts) kind.1 in
      let arity = and_parts (u.arity f == trees_count ts) (have_arities u.arity ts) a in
      let there = and_parts (known f (trees_count ts)) (all_symbols_pass known ts) k in (
        record {
          not_truth = not-true (f == 0) kind.0;
          is_known = within f (trees_count ts) there.0;
          arguments = eqb-true (u.arity f) (trees_count ts) arity.0;
        },
        rest.0,
        all-proper ts rest.1 arity.1 there.1,
      )

  -- a function term isn't `$true`
  no-truth : (t : Tree) → is_function_term u.is_predicate t ≡ true → is_truth t ≡ false
  no-truth (variable v) h = refl
  no-truth (application f no_trees) h =
      let kind = and_parts (not (f == 0)) (not (u.is_predicate f) && true) h in ap (λ b. b && true) (not-true (f == 0) kind.0)
  no-truth (application f (tree_then t ts)) h = by (f == 0)
    where
      by : (b : Bool) → (b && false) ≡ false
      by true = refl
      by false = refl

  pub proper-literal : (l : TreeLiteral) → is_literal_of u l ≡ true → literal_symbols_pass known l ≡ true → ProperLiteral u count l
  proper-literal l h k =
      let parts = and_parts (is_literal u.is_predicate l) (has_arities u.arity l.left && has_arities u.arity l.right) h in
      let arity = and_parts (has_arities u.arity l.left) (has_arities u.arity l.right) parts.1 in
      let there = and_parts (symbols_pass known l.left) (symbols_pass known l.right) k in
      ⊎_elim
      (λ e.
      let sides = and_parts (is_function_term u.is_predicate l.left) (is_function_term u.is_predicate l.right) e in
      an_equation (no-truth l.right sides.1) (proper l.left sides.0 arity.0 there.0) (proper l.right sides.1 arity.1 there.1))
      (λ e.
      let sides = and_parts (is_predicate_term u.is_predicate l.left || is_truth l.left) (is_truth l.right) e in
      ⊎_elim (λ p. an_atom sides.1 (proper-atom l.left p arity.0 there.0)) (λ p. a_truth sides.1 p)
      (or_cases (is_predicate_term u.is_predicate l.left) (is_truth l.left) sides.0))
      (or_cases (is_function_term u.is_predicate l.left && is_function_term u.is_predicate l.right)
      ((is_predicate_term u.is_predicate l.left || is_truth l.left) && is_truth l.right) parts.0)

  pub proper-literals :
      (ls : List TreeLiteral) → are_literals_of u ls ≡ true → list_all (literal_symbols_pass known) ls ≡ true → AllByRecursion (ProperLiteral u count) ls
  proper-literals [] h k = tt
  proper-literals (l ∷ ls) h k =
      let these = and_parts (is_literal_of u l) (are_literals_of u ls) h in
      let there = and_parts (literal_symbols_pass known l) (list_all (literal_symbols_pass known) ls) k in (
        proper-literal l these.0 there.0,
        proper-literals ls these.1 there.1,
      )
