-- Two values that are exchanged, and the interpretation that comes of it: it makes the same clauses true.
use Rattle.std.proofs.Common.{◌≡◌, ℕ, ◌<◌, ◌≤◌, ◌==◌, Bool, true, false, not, ◌||◌, List, [], ◌∷◌, length, map, if◌then◌else◌, refl, ap, ap₂, sym, ◌∙◌, subst, arith, ◌⊎◌, inl, inr}
use Rattle.std.specs.List.{AllByRecursion, list_any}
use Rattle.std.proofs.lemmas.Bool.{cases_Bool, cond-true, cond-false, cond_both, eqb-true, eq-eqb, ltb-true}
use Rattle.std.proofs.lemmas.List.{length-map}
use Rattle.list_lemmas.proofs.Bools.{tests-agree}
use Rattle.fol_base.specs.Tree.{Tree, variable, application, Trees, no_trees, tree_then, trees_count, is_truth}
use Rattle.fol_base.specs.Clause.{TreeLiteral, TreeClause}
use Rattle.fol_base.specs.Interpretation.{Interpretation, IsInterpretation, symbol_value, Assignment, HasValues, tree_value, trees_values, sides_true, literal_true_under, HoldsIn}
use Rattle.signature.specs.declared.symbol.Symbol.{Symbol}
use Rattle.clausal_form.specs.FormFunctions.{is_predicate_in}
use Rattle.clausal_form.specs.FormLaws.{arity_in, use_of}
use Rattle.finite_models.specs.Digits.{digits, digits_number}
use Rattle.finite_models.proofs.AboutNumbers.DigitLemmas.{digits-of-number}
use Rattle.finite_models.proofs.AboutFlattening.ProperLemmas.{Applies, Proper, AllProper, ProperAtom, ProperLiteral, an_equation, an_atom, a_truth}
use Rattle.finite_models.proofs.AboutFlattening.ReturnLemmas.{function-below}
use Rattle.finite_models.proofs.AboutFlattening.SlotLemmas.{truth-value}
use Rattle.finite_models.proofs.AboutTables.CellLemmas.{told_table, told-interprets, told-at}
use Rattle.finite_models.proofs.AboutTables.SignatureLemmas.{function-proper}

-- ---- two values

-- a becomes b, b becomes a, and each other value stays
abbrev pub exchanged : ℕ → ℕ → ℕ → ℕ
exchanged a b v = if v == a then b else (if v == b then a else v)

module _ (a b : ℕ) where
  exchanged-first : exchanged a b a ≡ b
  exchanged-first = cond-true (a == a) b (if a == b then a else a) (eq-eqb a a refl)

  pub exchanged-second : exchanged a b b ≡ a
  exchanged-second = by (cases_Bool (b == a))
    where
      by : ((b == a) ≡ true) ⊎ ((b == a) ≡ false) → exchanged a b b ≡ a
      by (inl e) = cond-true (b == a) b (if b == b then a else b) e ∙ eqb-true b a e
      by (inr e) = cond-false (b == a) b (if b == b then a else b) e ∙ cond-true (b == b) a b (eq-eqb b b refl)

  pub exchanged-other : (v : ℕ) → (v == a) ≡ false → (v == b) ≡ false → exchanged a b v ≡ v
  exchanged-other v e d = cond-false (v == a) b (if v == b then a else v) e ∙ cond-false (v == b) a v d

  pub exchanged-twice : (v : ℕ) → exchanged a b (exchanged a b v) ≡ v
  exchanged-twice v = by (cases_Bool (v == a)) (cases_Bool (v == b))
    where
      by :
          ((v == a) ≡ true) ⊎ ((v == a) ≡ false) → ((v == b) ≡ true) ⊎ ((v == b) ≡ false)
          → exchanged a b (exchanged a b v) ≡ v
      by (inl e) d =
          ap (λ (k : ℕ). exchanged a b (exchanged a b k)) (eqb-true v a e)
          ∙ ap (exchanged a b) exchanged-first
          ∙ exchanged-second
          ∙ sym (eqb-true v a e)
      by (inr e) (inl d) =
          ap (λ (k : ℕ). exchanged a b (exchanged a b k)) (eqb-true v b d)
          ∙ ap (exchanged a b) exchanged-second
          ∙ exchanged-first
          ∙ sym (eqb-true v b d)
      by (inr e) (inr d) = ap (exchanged a b) (exchanged-other v e d) ∙ exchanged-other v e d

  pub exchanged-below : (size v : ℕ) → a < size → b < size → v < size → exchanged a b v < size
  exchanged-below size v h k l =
      cond_both (v == a) b (if v == b then a else v) (λ w. w < size) (λ e. k) (λ e. cond_both (v == b) a v (λ w. w < size) (λ d. h) (λ d. l))

-- ---- the interpretation under an exchange

module _ (symbols : List Symbol) (i : Interpretation) (interprets : IsInterpretation (is_predicate_in symbols) i)
    (truth : is_predicate_in symbols 0 ≡ true) (π : ℕ → ℕ) (twice : (v : ℕ) → π (π v) ≡ v) (below : (v : ℕ) → v < i.size → π v < i.size) where
  abbrev Below : List ℕ → Type 0
  Below vs = AllByRecursion (λ v. v < i.size) vs

  -- A function's value at values is that which it had before the exchange, exchanged. A predicate holds where it held.
  abbrev value_of : Bool → ℕ → List ℕ → ℕ
  value_of is_predicate f vs = if is_predicate then (if symbol_value i f vs == 1 then 1 else 0) else π (symbol_value i f vs)

  abbrev moved_value : ℕ → ℕ → ℕ
  moved_value f number = value_of (is_predicate_in symbols f) f (map π (digits i.size (arity_in symbols f) number))

  abbrev pub moved : Interpretation
  moved = told_table symbols i.size moved_value interprets.has_value

  pub moved-interprets : IsInterpretation (is_predicate_in symbols) moved
  moved-interprets =
      told-interprets symbols i.size moved_value interprets.has_value
      (λ f number. by f (map π (digits i.size (arity_in symbols f) number)) (is_predicate_in symbols f) refl)
    where
      bit : (b : Bool) → (if b then 1 else 0) < 2
      bit true = omega arith
      bit false = omega arith

      by :
          (f : ℕ) (vs : List ℕ) (b : Bool) → is_predicate_in symbols f ≡ b
          → value_of b f vs < (if b then 2 else i.size)
      by f vs true e = bit (symbol_value i f vs == 1)
      by f vs false e = below (symbol_value i f vs) (function-below (is_predicate_in symbols) i f vs interprets (function-proper symbols truth f e) e)

  map-twice : (vs : List ℕ) → map π (map π vs) ≡ vs
  map-twice [] = refl
  map-twice (v ∷ vs) = ap₂ ◌∷◌ (twice v) (map-twice vs)

  map-below : (vs : List ℕ) → Below vs → Below (map π vs)
  map-below [] h = tt
  map-below (v ∷ vs) h = (below v h.0, map-below vs h.1)

  moved-at :
      (f : ℕ) (vs : List ℕ) → (f == 0) ≡ false → f < length symbols → length vs ≡ arity_in symbols f → Below vs
      → symbol_value moved f (map π vs) ≡ value_of (is_predicate_in symbols f) f vs
  moved-at f vs z known long low =
      let many : length (map π vs) ≡ arity_in symbols f = length-map vs π ∙ long in
      told-at symbols i.size moved_value interprets.has_value f (map π vs) z known many (map-below vs low)
      ∙ ap (λ (us : List ℕ). value_of (is_predicate_in symbols f) f (map π us))
      (subst (λ (k : ℕ). digits i.size k (digits_number i.size (map π vs)) ≡ map π vs) many (digits-of-number i.size (map π vs) (map-below vs low)))
      ∙ ap (value_of (is_predicate_in symbols f) f) (map-twice vs)

  pub function-moved :
      (f : ℕ) (vs : List ℕ) → f < length symbols → is_predicate_in symbols f ≡ false → length vs ≡ arity_in symbols f → Below vs
      → symbol_value moved f (map π vs) ≡ π (symbol_value i f vs)
  function-moved f vs known function long low =
      moved-at f vs (function-proper symbols truth f function) known long low ∙ ap (λ (b : Bool). value_of b f vs) function

  predicate-moved :
      (f : ℕ) (vs : List ℕ)
      → (f == 0) ≡ false → f < length symbols → is_predicate_in symbols f ≡ true → length vs ≡ arity_in symbols f → Below vs
      → (symbol_value moved f (map π vs) == 1) ≡ (symbol_value i f vs == 1)
  predicate-moved f vs z known predicate long low =
      ap (λ (v : ℕ). v == 1) (moved-at f vs z known long low ∙ ap (λ (b : Bool). value_of b f vs) predicate) ∙ bit (symbol_value i f vs == 1)
    where
      bit : (b : Bool) → ((if b then 1 else 0) == 1) ≡ b
      bit true = refl
      bit false = refl

  -- one value, exchanged
  exchanged-same : (v w : ℕ) → (π v == π w) ≡ (v == w)
  exchanged-same v w =
      tests-agree (π v == π w) (v == w)
      (λ e. eq-eqb v w (sym (twice v) ∙ ap π (eqb-true (π v) (π w) e) ∙ twice w))
      (λ e. eq-eqb (π v) (π w) (ap π (eqb-true v w e)))

  sides-same : (positive : Bool) (v w : ℕ) → sides_true positive (π v) (π w) ≡ sides_true positive v w
  sides-same true v w = exchanged-same v w
  sides-same false v w = ap not (exchanged-same v w)

  -- ---- terms and clauses

  module _ (ρ : Assignment) (has : (v : ℕ) → ρ v < i.size) where
    -- the values of the variables before the exchange
    abbrev σ : Assignment
    σ v = π (ρ v)

    mutual
      tree-below : (t : Tree) → Proper (use_of symbols) (length symbols) t → tree_value i σ t < i.size
      tree-below (variable v) h = below (ρ v) (has v)
      tree-below (application f ts) h =
          function-below (is_predicate_in symbols) i f (trees_values i σ ts) interprets (h.0).not_truth h.1

      trees-below : (ts : Trees) → AllProper (use_of symbols) (length symbols) ts → Below (trees_values i σ ts)
      trees-below no_trees h = tt
      trees-below (tree_then t ts) h = (tree-below t h.0, trees-below ts h.1)

    values-count : (ts : Trees) → length (trees_values i σ ts) ≡ trees_count ts
    values-count no_trees = refl
    values-count (tree_then t ts) = omega (arith, values-count ts)

    known-below : (f : ℕ) (ts : Trees) → Applies (use_of symbols) (length symbols) f ts → f < length symbols
    known-below f ts h = ltb-true f (length symbols) h.is_known

    mutual
      tree-moved : (t : Tree) → Proper (use_of symbols) (length symbols) t → tree_value moved ρ t ≡ π (tree_value i σ t)
      tree-moved (variable v) h = sym (twice (ρ v))
      tree-moved (application f ts) h =
          ap (symbol_value moved f) (trees-moved ts h.2)
          ∙ function-moved f (trees_values i σ ts) (known-below f ts h.0) h.1 (values-count ts ∙ sym (h.0).arguments) (trees-below ts h.2)

      trees-moved : (ts : Trees) → AllProper (use_of symbols) (length symbols) ts → trees_values moved ρ ts ≡ map π (trees_values i σ ts)
      trees-moved no_trees h = refl
      trees-moved (tree_then t ts) h = ap₂ ◌∷◌ (tree-moved t h.0) (trees-moved ts h.1)

    atom-moved :
        (positive : Bool) (t : Tree) → ProperAtom (use_of symbols) (length symbols) t
        → sides_true positive (tree_value moved ρ t) 1 ≡ sides_true positive (tree_value i σ t) 1
    atom-moved positive (variable v) h = absurd h
    atom-moved positive (application f ts) h = by positive same
      where
        same : (tree_value moved ρ (application f ts) == 1) ≡ (tree_value i σ (application f ts) == 1)
        same =
            ap (λ (vs : List ℕ). symbol_value moved f vs == 1) (trees-moved ts h.2)
            ∙ predicate-moved f (trees_values i σ ts) (h.0).not_truth (known-below f ts h.0) h.1 (values-count ts ∙ sym (h.0).arguments) (trees-below ts h.2)

        by :
            (b : Bool) → (tree_value moved ρ (application f ts) == 1) ≡ (tree_value i σ (application f ts) == 1)
            → sides_true b (tree_value moved ρ (application f ts)) 1 ≡ sides_true b (tree_value i σ (application f ts)) 1
        by true e = e
        by false e = ap not e

    literal-moved :
        (l : TreeLiteral) → ProperLiteral (use_of symbols) (length symbols) l → literal_true_under moved ρ l ≡ literal_true_under i σ l
    literal-moved l (an_equation r h k) =
        ap₂ (sides_true l.positive) (tree-moved l.left h) (tree-moved l.right k)
        ∙ sides-same l.positive (tree_value i σ l.left) (tree_value i σ l.right)
    literal-moved l (an_atom r h) =
        ap (sides_true l.positive (tree_value moved ρ l.left)) (truth-value moved ρ l.right r)
        ∙ atom-moved l.positive l.left h
        ∙ ap (sides_true l.positive (tree_value i σ l.left)) (sym (truth-value i σ l.right r))
    literal-moved l (a_truth r h) =
        ap₂ (sides_true l.positive) (truth-value moved ρ l.left h) (truth-value moved ρ l.right r)
        ∙ sym (ap₂ (sides_true l.positive) (truth-value i σ l.left h) (truth-value i σ l.right r))

    literals-moved :
        (ls : List TreeLiteral) → AllByRecursion (ProperLiteral (use_of symbols) (length symbols)) ls
        → list_any (literal_true_under moved ρ) ls ≡ list_any (literal_true_under i σ) ls
    literals-moved [] h = refl
    literals-moved (l ∷ ls) h = ap₂ ◌||◌ (literal-moved l h.0) (literals-moved ls h.1)

  pub clause-moved :
      (c : TreeClause) → AllByRecursion (ProperLiteral (use_of symbols) (length symbols)) c.literals → HoldsIn i c → HoldsIn moved c
  clause-moved c proper holds ρ has = literals-moved ρ has c.literals proper ∙ holds (λ v. π (ρ v)) (λ v. below (ρ v) (has v))
