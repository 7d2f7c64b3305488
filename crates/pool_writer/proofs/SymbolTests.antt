-- Lemmas: trees, literals and clauses whose symbols all pass a test, and those that are built of such.
use Rattle.std.proofs.Common.{◌≡◌, ℕ, zero, suc, ◌+◌, Bool, true, List, [], ◌∷◌, ◌++◌, length, map, Some, refl, ap, sym, ◌∙◌, subst, arith}
use Rattle.std.specs.Prelude.{slice_get}
use Rattle.std.specs.List.{list_all}
use Rattle.std.proofs.lemmas.Bool.{and_parts, and_from}
use Rattle.std.proofs.lemmas.Option.{none-some}
use Rattle.std.proofs.lemmas.List.Folds.{list_all-append}
use Rattle.fol_base.specs.Tree.{Tree, variable, application, Trees, no_trees, tree_then, trees_of, trees_count}
use Rattle.fol_base.specs.Clause.{TreeLiteral}
use Rattle.signature.specs.declared.symbol.Symbol.{Symbol}
use Rattle.signature.specs.Symbol.{has_symbol, number_of}
use Rattle.signature.specs.Clausal.{Literals, applied, all_pairs, atom_literal}
use Rattle.kernel_steps.specs.Symbols.{symbols_pass, all_symbols_pass, literal_symbols_pass}

-- ---- places in lists

pub slice-front : {X : Type 0} (xs ys : List X) (k : ℕ) (x : X) → slice_get xs k ≡ Some x → slice_get (xs ++ ys) k ≡ Some x
slice-front [] ys zero x h = absurd (none-some x h)
slice-front [] ys (suc k) x h = absurd (none-some x h)
slice-front (y ∷ xs) ys zero x h = h
slice-front (y ∷ xs) ys (suc k) x h = slice-front xs ys k x h

pub slice-behind : {X : Type 0} (xs ys : List X) (k : ℕ) (x : X) → slice_get ys k ≡ Some x → slice_get (xs ++ ys) (length xs + k) ≡ Some x
slice-behind [] ys k x h = subst (λ i. slice_get ys i ≡ Some x) (let e : k ≡ 0 + k = omega arith in e) h
slice-behind (y ∷ xs) ys k x h =
    subst (λ i. slice_get (y ∷ xs ++ ys) i ≡ Some x) (let e : suc (length xs + k) ≡ suc (length xs) + k = omega arith in e) (slice-behind xs ys k x h)

pub all-parts : {X : Type 0} (p : X → Bool) (xs ys : List X) → list_all p (xs ++ ys) ≡ true → (list_all p xs ≡ true) × (list_all p ys ≡ true)
all-parts p xs ys h = and_parts (list_all p xs) (list_all p ys) (sym (list_all-append p xs ys) ∙ h)

-- all symbols are in the list
abbrev pub AreKnown : List Symbol → List Symbol → Type 0
AreKnown known symbols = list_all (λ s. has_symbol s known) symbols ≡ true

-- ---- tests of symbols, which are handed a number and how many arguments it has there

abbrev pub SymbolTest : Type 0
SymbolTest = ℕ → ℕ → Bool

-- the symbols of the problem pass at their places, and so does `$true`
pub record Knows (test : SymbolTest) (known : List Symbol) : Type 0 where
  pub there : (s : Symbol) → has_symbol s known ≡ true → test (number_of known s) s.arity ≡ true
  pub first : test 0 0 ≡ true

pub record Right (test : SymbolTest) (t : Tree) : Type 0 where
  pub passes : symbols_pass test t ≡ true

pub record RightAll (test : SymbolTest) (ts : Trees) : Type 0 where
  pub passes : all_symbols_pass test ts ≡ true

pub right-then : (test : SymbolTest) (t : Tree) (ts : Trees) → Right test t → RightAll test ts → RightAll test (tree_then t ts)
right-then test t ts h k = record { passes = and_from _ _ h.passes k.passes }

pub right-application :
    (test : SymbolTest) (f : ℕ) (ts : Trees) → test f (trees_count ts) ≡ true → RightAll test ts → Right test (application f ts)
right-application test f ts at h = record { passes = and_from _ _ at h.passes }

variables-right : (test : SymbolTest) (vs : List ℕ) → RightAll test (trees_of (map variable vs))
variables-right test [] = record { passes = refl }
variables-right test (v ∷ vs) = right-then test (variable v) _ (record { passes = refl }) (variables-right test vs)

variables-count : (vs : List ℕ) → trees_count (trees_of (map variable vs)) ≡ length vs
variables-count [] = refl
variables-count (v ∷ vs) = omega (arith, variables-count vs)

pub applied-right : (test : SymbolTest) (f : ℕ) (vs : List ℕ) → test f (length vs) ≡ true → Right test (applied f vs)
applied-right test f vs at =
    right-application test f _ (ap (test f) (variables-count vs) ∙ at) (variables-right test vs)

-- ---- literals and clauses

abbrev pub RightLiteral : SymbolTest → TreeLiteral → Type 0
RightLiteral test l = literal_symbols_pass test l ≡ true

abbrev pub RightClauses : SymbolTest → List Literals → Type 0
RightClauses test cs = list_all (list_all (literal_symbols_pass test)) cs ≡ true

pub right-literal : (test : SymbolTest) (l : TreeLiteral) → Right test l.left → Right test l.right → RightLiteral test l
right-literal test l h k = and_from _ _ h.passes k.passes

pub right-atom :
    (test : SymbolTest) (sign : Bool) (f : ℕ) (ts : Trees) → test 0 0 ≡ true → test f (trees_count ts) ≡ true
    → RightAll test ts → RightLiteral test (atom_literal sign (application f ts))
right-atom test sign f ts first at h =
    right-literal test (atom_literal sign (application f ts)) (right-application test f ts at h) (right-application test 0 no_trees first (record { passes = refl }))

pub name-right :
    (test : SymbolTest) (sign : Bool) (f : ℕ) (vs : List ℕ) → test 0 0 ≡ true → test f (length vs) ≡ true
    → RightLiteral test (atom_literal sign (applied f vs))
name-right test sign f vs first at =
    right-atom test sign f _ first (ap (test f) (variables-count vs) ∙ at) (variables-right test vs)

pub clauses-joined : (test : SymbolTest) (a b : List Literals) → RightClauses test a → RightClauses test b → RightClauses test (a ++ b)
clauses-joined test a b h k = list_all-append (list_all (literal_symbols_pass test)) a b ∙ and_from _ _ h k

before-right :
    (test : SymbolTest) (c : Literals) (b : List Literals) → list_all (literal_symbols_pass test) c ≡ true → RightClauses test b
    → RightClauses test (map (λ d. c ++ d) b)
before-right test c [] h k = refl
before-right test c (d ∷ b) h k =
    let parts = and_parts (list_all (literal_symbols_pass test) d) _ k in
    and_from (list_all (literal_symbols_pass test) (c ++ d)) _ (list_all-append (literal_symbols_pass test) c d ∙ and_from _ _ h parts.0)
    (before-right test c b h parts.1)

pub pairs-right : (test : SymbolTest) (a b : List Literals) → RightClauses test a → RightClauses test b → RightClauses test (all_pairs a b)
pairs-right test [] b h k = refl
pairs-right test (c ∷ a) b h k =
    let parts = and_parts (list_all (literal_symbols_pass test) c) _ h in
    clauses-joined test (map (λ d. c ++ d) b) (all_pairs a b) (before-right test c b parts.0 k) (pairs-right test a b parts.1 k)

pub headed-right :
    (test : SymbolTest) (l : TreeLiteral) (cs : List Literals) → RightLiteral test l → RightClauses test cs
    → RightClauses test (map (λ c. l ∷ c) cs)
headed-right test l [] h k = refl
headed-right test l (c ∷ cs) h k =
    let parts = and_parts (list_all (literal_symbols_pass test) c) _ k in
    and_from (list_all (literal_symbols_pass test) (l ∷ c)) _ (and_from _ _ h parts.0) (headed-right test l cs h parts.1)
