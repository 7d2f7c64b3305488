-- The way back through products: where a product is true near an assignment, one of its two lists is.
use Rattle.std.proofs.Common.{◌≡◌, ℕ, ◌<◌, ◌≤◌, ◌==◌, nat_lt, Bool, true, false, not, ◌&&◌, ◌||◌, List, [], ◌∷◌, length, map, if◌then◌else◌, inl, ⊎_elim, refl, ap₂, sym, ◌∙◌, subst, arith}
use Rattle.std.specs.List.{AllByRecursion}
use Rattle.std.proofs.lemmas.Bool.{and_parts, or_parts, or_cases, or_left, or_right, cond-true, cond-false, cond_both, lt-ltb, le-ltb, true≢false, true_from_ne_false}
use Rattle.fol_base.specs.Tree.{tree_variables, true_tree}
use Rattle.fol_base.specs.Clause.{TreeLiteral}
use Rattle.fol_base.specs.Canonical.{numbers_from}
use Rattle.fol_base.specs.Interpretation.{Assignment}
use Rattle.signature.specs.Clausal.{SymbolNumbers, Made, Literals, made_in_order, all_pairs, is_large, atom_literal, named, product}
use Rattle.laws_meaning.proofs.AboutStructures.ListLemmas.{is_listed, each-joined, each-weaker, each-filtered, each-listed, numbers-below, passing}
use Rattle.laws_meaning.proofs.AboutStructures.Structures.{Structure, value, all_hold, all_hold-same, applied-variables, all_hold-joined, all_hold-headed, all_hold-pairs}
use Rattle.laws_meaning.proofs.AboutStructures.Search.{HasSize}
use Rattle.laws_meaning.proofs.AboutWork.Products.{occurring_in, product_by, named_tree}
use Rattle.laws_meaning.proofs.AboutReturn.Ranges.{AllHold, Near, HoldNear, IsSpread, EachVariable, variables-weaker, pairs-each, flat-each}

-- ---- assignments that are put together at a number

abbrev mixed : ℕ → Assignment → Assignment → Assignment
mixed k τ π u = if nat_lt u k then τ u else π u

mixed-low : (k : ℕ) (τ π : Assignment) (v : ℕ) → v < k → mixed k τ π v ≡ τ v
mixed-low k τ π v l = cond-true (nat_lt v k) (τ v) (π v) (lt-ltb v k l)

mixed-high : (k : ℕ) (τ π : Assignment) (v : ℕ) → k ≤ v → mixed k τ π v ≡ π v
mixed-high k τ π v l = cond-false (nat_lt v k) (τ v) (π v) (le-ltb v k l)

-- One list has variables below k, the other has variables below `began`, where the assignments are near, or from k on. So where the
-- product is true near an assignment, one of the lists is true under each of two assignments that are near it.
abbrev pub EitherHolds : ℕ → Structure → ℕ → Assignment → List Literals → List Literals → Type 0
EitherHolds size s began ρ cs ds =
    (τ π : Assignment) → HasSize size τ → HasSize size π → Near began τ ρ → Near began π ρ
    → (all_hold s τ cs || all_hold s π ds) ≡ true

pairs-either :
    (size : ℕ) (s : Structure) (began k : ℕ) (ρ : Assignment) (cs ds : List Literals) → began ≤ k
    → EachVariable (λ v. v < k) cs → EachVariable (IsSpread began k) ds
    → HoldNear size s began ρ (all_pairs cs ds) → EitherHolds size s began ρ cs ds
pairs-either size s began k ρ cs ds up low apart h τ π has_τ has_π near_τ near_π =
    let both : Assignment = mixed k τ π in
    let first : all_hold s both cs ≡ all_hold s τ cs =
    all_hold-same s both τ cs
    (each-weaker (λ v. v < k) (λ v. both v ≡ τ v) (λ v l. mixed-low k τ π v l) (occurring_in cs) (flat-each (λ v. v < k) cs low)) in
    let second : all_hold s both ds ≡ all_hold s π ds =
    all_hold-same s both π ds
    (each-weaker (IsSpread began k) (λ v. both v ≡ π v)
    (λ v g. ⊎_elim (λ l. mixed-low k τ π v (under v l) ∙ near_τ v l ∙ sym (near_π v l)) (λ l. mixed-high k τ π v l) g) (occurring_in ds)
    (flat-each (IsSpread began k) ds apart)) in
    sym (ap₂ ◌||◌ first second) ∙ sym (all_hold-pairs s both cs ds)
    ∙ h both (λ u. cond_both (nat_lt u k) (τ u) (π u) (λ w. w < size) (λ e. has_τ u) (λ e. has_π u)) (λ v l. mixed-low k τ π v (under v l) ∙ near_τ v l)
  where
    under : (v : ℕ) → v < began → v < k
    under v l = omega (arith, l, up)

-- ---- names

opposite : (b c : Bool) → ((b || false) && true) ≡ true → (not b || c) ≡ true → c ≡ true
opposite true c h k = k
opposite false c h k = absurd (true≢false (sym h))

-- a name that is true makes its list true
name-holds :
    (size : ℕ) (s : Structure) (n : SymbolNumbers) (began : ℕ) (cs : List Literals) (m : Made) → AllHold size s (named n began cs m).made.defining
    → (τ : Assignment) → HasSize size τ → all_hold s τ (named n began cs m).clauses ≡ true → all_hold s τ cs ≡ true
name-holds size s n began cs m d τ has h =
    let negative : TreeLiteral = atom_literal false (named_tree n began cs m) in
    let parts =
    and_parts (all_hold s τ m.defining) (all_hold s τ (map (λ c. negative ∷ c) cs))
    (sym (all_hold-joined s τ m.defining (map (λ c. negative ∷ c) cs)) ∙ d τ has) in
    opposite (value s τ (named_tree n began cs m) == value s τ true_tree) (all_hold s τ cs) h
    (sym (all_hold-headed s τ negative cs) ∙ parts.1)

name-defining :
    (size : ℕ) (s : Structure) (n : SymbolNumbers) (began : ℕ) (cs : List Literals) (m : Made) → AllHold size s (named n began cs m).made.defining
    → AllHold size s m.defining
name-defining size s n began cs m d τ has =
    let negative : TreeLiteral = atom_literal false (named_tree n began cs m) in
    (and_parts (all_hold s τ m.defining) (all_hold s τ (map (λ c. negative ∷ c) cs))
    (sym (all_hold-joined s τ m.defining (map (λ c. negative ∷ c) cs)) ∙ d τ has)).0

-- the variables of a name are some of its list, below `began`
name-each :
    (P : ℕ → Type 0) (n : SymbolNumbers) (began : ℕ) (cs : List Literals) (m : Made) → EachVariable P cs → EachVariable P (named n began cs m).clauses
name-each P n began cs m h = ((each-joined P (tree_variables (named_tree n began cs m)) [] variables tt, tt), tt)
  where
    variables : AllByRecursion P (tree_variables (named_tree n began cs m))
    variables =
        subst (AllByRecursion P) (sym (applied-variables (made_in_order began (occurring_in cs))))
        (each-weaker (λ v. is_listed (occurring_in cs) v ≡ true) P (λ v l. each-listed P (occurring_in cs) v (flat-each P cs h) l)
        (made_in_order began (occurring_in cs)) (passing (is_listed (occurring_in cs)) (numbers_from 0 began)))

name-below : (n : SymbolNumbers) (began : ℕ) (cs : List Literals) (m : Made) → EachVariable (λ v. v < began) (named n began cs m).clauses
name-below n began cs m = ((each-joined (λ v. v < began) (tree_variables (named_tree n began cs m)) [] variables tt, tt), tt)
  where
    variables : AllByRecursion (λ v. v < began) (tree_variables (named_tree n began cs m))
    variables =
        subst (AllByRecursion (λ v. v < began)) (sym (applied-variables (made_in_order began (occurring_in cs))))
        (each-filtered (λ v. v < began) (is_listed (occurring_in cs)) (numbers_from 0 began) (numbers-below began))

-- ---- products

pub product-each :
    (P : ℕ → Type 0) (n : SymbolNumbers) (began : ℕ) (cs ds : List Literals) (m : Made) → EachVariable P cs → EachVariable P ds
    → EachVariable P (product n began cs ds m).clauses
product-each P n began cs ds m h k = by (is_large cs ds) (nat_lt (length cs) (length ds))
  where
    by : (t u : Bool) → EachVariable P (product_by n began cs ds m t u).clauses
    by false u = pairs-each P cs ds h k
    by true true = pairs-each P cs (named n began ds m).clauses h (name-each P n began ds m k)
    by true false = pairs-each P (named n began cs m).clauses ds (name-each P n began cs m h) k

-- what a product leaves as it is
pub record Unchanged (m later : Made) : Type 0 where
  pub variables : later.variables ≡ m.variables
  pub skolem : length later.skolem_arities ≡ length m.skolem_arities

pub product-unchanged : (n : SymbolNumbers) (began : ℕ) (cs ds : List Literals) (m : Made) → Unchanged m (product n began cs ds m).made
product-unchanged n began cs ds m = by (is_large cs ds) (nat_lt (length cs) (length ds))
  where
    by : (t u : Bool) → Unchanged m (product_by n began cs ds m t u).made
    by false u = record { variables = refl; skolem = refl }
    by true true = record { variables = refl; skolem = refl }
    by true false = record { variables = refl; skolem = refl }

pub product-defining :
    (size : ℕ) (s : Structure) (n : SymbolNumbers) (began : ℕ) (cs ds : List Literals) (m : Made)
    → AllHold size s (product n began cs ds m).made.defining → AllHold size s m.defining
product-defining size s n began cs ds m h = by (is_large cs ds) (nat_lt (length cs) (length ds)) h
  where
    by : (t u : Bool) → AllHold size s (product_by n began cs ds m t u).made.defining → AllHold size s m.defining
    by false u d = d
    by true true d = name-defining size s n began ds m d
    by true false d = name-defining size s n began cs m d

pub product-either :
    (size : ℕ) (s : Structure) (n : SymbolNumbers) (began k : ℕ) (ρ : Assignment) (cs ds : List Literals) (m : Made) → began ≤ k
    → EachVariable (λ v. v < k) cs → EachVariable (IsSpread began k) ds
    → AllHold size s (product n began cs ds m).made.defining
    → HoldNear size s began ρ (product n began cs ds m).clauses → EitherHolds size s began ρ cs ds
product-either size s n began k ρ cs ds m up low apart d h = by (is_large cs ds) (nat_lt (length cs) (length ds)) d h
  where
    by :
        (t u : Bool) → AllHold size s (product_by n began cs ds m t u).made.defining
        → HoldNear size s began ρ (product_by n began cs ds m t u).clauses → EitherHolds size s began ρ cs ds
    by false u e g = pairs-either size s began k ρ cs ds up low apart g
    by true true e g = λ τ π has_τ has_π near_τ near_π.
        let either =
        pairs-either size s began k ρ cs (named n began ds m).clauses up low
        (variables-weaker (λ v. v < began) (IsSpread began k) (λ v l. inl l) (named n began ds m).clauses (name-below n began ds m)) g
        τ π has_τ has_π near_τ near_π in
        ⊎_elim (λ x. or_left (all_hold s τ cs) (all_hold s π ds) x)
        (λ y. or_right (all_hold s τ cs) (all_hold s π ds) (name-holds size s n began ds m e π has_π y))
        (or_cases (all_hold s τ cs) (all_hold s π (named n began ds m).clauses) either)
    by true false e g = λ τ π has_τ has_π near_τ near_π.
        let either =
        pairs-either size s began k ρ (named n began cs m).clauses ds up
        (variables-weaker (λ v. v < began) (λ v. v < k) (λ v l. omega (arith, l, up)) (named n began cs m).clauses (name-below n began cs m)) apart g
        τ π has_τ has_π near_τ near_π in
        ⊎_elim (λ x. or_left (all_hold s τ cs) (all_hold s π ds) (name-holds size s n began cs m e τ has_τ x))
        (λ y. or_right (all_hold s τ cs) (all_hold s π ds) y)
        (or_cases (all_hold s τ (named n began cs m).clauses) (all_hold s π ds) either)

-- where one of two lists is true near an assignment, what follows from one of them holds
pub either-follows :
    (size : ℕ) (s : Structure) (began : ℕ) (ρ : Assignment) (cs ds : List Literals) (p q : Bool)
    → EitherHolds size s began ρ cs ds → (HoldNear size s began ρ cs → p ≡ true) → (HoldNear size s began ρ ds → q ≡ true) → (p || q) ≡ true
either-follows size s began ρ cs ds p q either first second =
    true_from_ne_false (p || q)
    (λ none.
    let parts = or_parts p q none in
    true≢false
    (sym
    (first
    (λ τ has_τ near_τ.
    true_from_ne_false (all_hold s τ cs)
    (λ e.
    true≢false
    (sym
    (second
    (λ π has_π near_π.
    ⊎_elim (λ x. absurd (true≢false (sym x ∙ e))) (λ y. y) (or_cases (all_hold s τ cs) (all_hold s π ds) (either τ π has_τ has_π near_τ near_π))))
    ∙ parts.1))))
    ∙ parts.0))
