-- Literals whose terms aren't made yet: the terms for an atom's variables are those in force, and the literal is the atom's under them.
use Rattle.std.proofs.Common.{◌≡◌, ℕ, zero, suc, ◌+◌, ◌-◌, ◌^◌, ◌<◌, ◌≤◌, Bool, List, [], ◌∷◌, ◌++◌, length, map, drop, get_or, refl, ap, ap₂, sym, ◌∙◌, arith, append-nil, append_assoc}
use Rattle.std.specs.Prelude.{min, flat_map}
use Rattle.std.proofs.lemmas.List.{map-append, length-append}
use Rattle.std.proofs.lemmas.Grind.{flat_map-append}
use Rattle.tptp_tree.specs.Term.{TermTree, variable as named_variable, application as named_application, TermTrees, no_terms, term_then, terms_of}
use Rattle.tptp_tree.specs.Shape.{term_of}
use Rattle.tptp_tree.specs.declared.term.TreeTerm.{TreeTerm}
use Rattle.fol_base.specs.Tree.{Tree, application, Trees, no_trees, tree_then, trees_of, list_of, tree_size, trees_size, tree_variables, trees_variables}
use Rattle.fol_base.specs.Clause.{literal_size, literal_variables}
use Rattle.signature.specs.declared.symbol.Symbol.{Symbol}
use Rattle.signature.specs.declared.symbol.SymbolKind.{SymbolKind}
use Rattle.signature.specs.Symbol.{function_symbol, predicate_symbol, number_of}
use Rattle.signature.specs.Occurrences.{terms_count}
use Rattle.signature.specs.Environment.{Environment, term_names, terms_names, term_in_force, term_under, terms_under}
use Rattle.skolem.specs.declared.literal.Atom.{Atom}
use Rattle.skolem.specs.declared.literal.Atom.TheVariants.{Pred, Equal}
use Rattle.skolem.specs.declared.literal.BoundLiteral.{BoundLiteral}
use Rattle.skolem.specs.BoundTerm.{bound_tree}
use Rattle.skolem.specs.Skolemized.{AreKnown}
use Rattle.skolem.specs.Literal.{terms_in_force, filled, filled_terms, size_under, sizes_under, atom_symbols, atom_names, atom_size, atom_under, atom_filled, IsBound}
use Rattle.skolem.proofs.AboutBindings.ListLemmas.{added}
use Rattle.skolem.proofs.AboutBindings.TermLemmas.{head-same}
use Rattle.list_lemmas.proofs.Places.{drop-item, drop-all}

-- ---- filling with the terms in force

drop-front : (env : Environment) (xs : List (List ℕ)) (us : List Tree) → drop (length xs) (terms_in_force env xs ++ us) ≡ us
drop-front env [] us = refl
drop-front env (x ∷ xs) us = drop-front env xs us

joined : (env : Environment) (xs ys : List (List ℕ)) (us : List Tree) → terms_in_force env (xs ++ ys) ++ us ≡ terms_in_force env xs ++ (terms_in_force env ys ++ us)
joined env xs ys us =
    ap (λ vs. vs ++ us) (map-append (term_in_force env) xs ys) ∙ append_assoc (terms_in_force env xs) (terms_in_force env ys) us

mutual
  filled-under :
      (known : List Symbol) (env : Environment) (t : TermTree) (us : List Tree) → filled known t (terms_in_force env (term_names t) ++ us) ≡ term_under known env t
  filled-under known env (named_variable x) us = refl
  filled-under known env (named_application f ts) us =
      ap (application (number_of known (function_symbol f (terms_count ts)))) (fills-under known env ts us)

  fills-under :
      (known : List Symbol) (env : Environment) (ts : TermTrees) (us : List Tree)
      → filled_terms known ts (terms_in_force env (terms_names ts) ++ us) ≡ terms_under known env ts
  fills-under known env no_terms us = refl
  fills-under known env (term_then t ts) us =
      let rest : List Tree = terms_in_force env (terms_names ts) ++ us in
      ap (filled_terms known (term_then t ts)) (joined env (term_names t) (terms_names ts) us)
      ∙ ap (λ u. tree_then u (filled_terms known ts (drop (length (term_names t)) (terms_in_force env (term_names t) ++ rest))))
      (filled-under known env t rest)
      ∙ ap (λ vs. tree_then (term_under known env t) (filled_terms known ts vs)) (drop-front env (term_names t) rest)
      ∙ ap (tree_then (term_under known env t)) (fills-under known env ts us)

filled-whole : (known : List Symbol) (env : Environment) (t : TermTree) → filled known t (terms_in_force env (term_names t)) ≡ term_under known env t
filled-whole known env t = ap (filled known t) (sym (append-nil (terms_in_force env (term_names t)))) ∙ filled-under known env t []

fills-whole : (known : List Symbol) (env : Environment) (ts : TermTrees) → filled_terms known ts (terms_in_force env (terms_names ts)) ≡ terms_under known env ts
fills-whole known env ts = ap (filled_terms known ts) (sym (append-nil (terms_in_force env (terms_names ts)))) ∙ fills-under known env ts []

atom-filled :
    (known : List Symbol) (env : Environment) (positive : Bool) (a : Atom)
    → atom_filled known positive a (terms_in_force env (atom_names a)) ≡ atom_under known env positive a
atom-filled known env positive (Pred p ts) =
    λ i. record {
      positive = positive;
      left = application (number_of known (predicate_symbol p.now (terms_count (terms_of ts.now)))) (fills-whole known env (terms_of ts.now) i);
      right = application 0 no_trees;
    }
atom-filled known env positive (Equal s t) =
    ap (atom_filled known positive (Equal s t)) (map-append (term_in_force env) (term_names (term_of s.now)) (term_names (term_of t.now)))
    ∙ (λ i. record { positive = positive; left = filled-under known env (term_of s.now) rest i; right = right i })
  where
    rest : List Tree
    rest = terms_in_force env (term_names (term_of t.now))

    right :
        filled known (term_of t.now) (drop (length (term_names (term_of s.now))) (terms_in_force env (term_names (term_of s.now)) ++ rest))
        ≡ term_under known env (term_of t.now)
    right = ap (filled known (term_of t.now)) (drop-front env (term_names (term_of s.now)) rest) ∙ filled-whole known env (term_of t.now)

-- ---- sizes

mutual
  size-under : (known : List Symbol) (env : Environment) (t : TermTree) → tree_size (term_under known env t) ≡ size_under env t
  size-under known env (named_variable x) = refl
  size-under known env (named_application f ts) = ap (λ n. 1 + n) (sizes-under known env ts)

  sizes-under : (known : List Symbol) (env : Environment) (ts : TermTrees) → trees_size (terms_under known env ts) ≡ sizes_under env ts
  sizes-under known env no_terms = refl
  sizes-under known env (term_then t ts) = ap₂ ◌+◌ (size-under known env t) (sizes-under known env ts)

size-of-atom : (known : List Symbol) (env : Environment) (positive : Bool) (a : Atom) → literal_size (atom_under known env positive a) ≡ atom_size env a
size-of-atom known env positive (Pred p ts) = omega (arith, sizes-under known env (terms_of ts.now))
size-of-atom known env positive (Equal s t) = ap₂ ◌+◌ (size-under known env (term_of s.now)) (size-under known env (term_of t.now))

-- ---- variables

variables-joined :
    (env : Environment) (xs ys : List (List ℕ))
    → flat_map tree_variables (terms_in_force env (xs ++ ys))
    ≡ flat_map tree_variables (terms_in_force env xs) ++ flat_map tree_variables (terms_in_force env ys)
variables-joined env xs ys =
    ap (flat_map tree_variables) (map-append (term_in_force env) xs ys)
    ∙ flat_map-append tree_variables (terms_in_force env xs) (terms_in_force env ys)

mutual
  variables-under :
      (known : List Symbol) (env : Environment) (t : TermTree)
      → flat_map tree_variables (terms_in_force env (term_names t)) ≡ tree_variables (term_under known env t)
  variables-under known env (named_variable x) = append-nil (tree_variables (term_in_force env x))
  variables-under known env (named_application f ts) = all-variables-under known env ts

  all-variables-under :
      (known : List Symbol) (env : Environment) (ts : TermTrees)
      → flat_map tree_variables (terms_in_force env (terms_names ts)) ≡ trees_variables (terms_under known env ts)
  all-variables-under known env no_terms = refl
  all-variables-under known env (term_then t ts) =
      variables-joined env (term_names t) (terms_names ts)
      ∙ ap₂ ◌++◌ (variables-under known env t) (all-variables-under known env ts)

variables-of-atom :
    (known : List Symbol) (env : Environment) (positive : Bool) (a : Atom)
    → flat_map tree_variables (terms_in_force env (atom_names a)) ≡ literal_variables (atom_under known env positive a)
variables-of-atom known env positive (Pred p ts) =
    all-variables-under known env (terms_of ts.now) ∙ sym (append-nil (trees_variables (terms_under known env (terms_of ts.now))))
variables-of-atom known env positive (Equal s t) =
    variables-joined env (term_names (term_of s.now)) (term_names (term_of t.now))
    ∙ ap₂ ◌++◌ (variables-under known env (term_of s.now)) (variables-under known env (term_of t.now))

-- ---- bound literals

pub literal-filled :
    (known : List Symbol) (env : Environment) (positive : Bool) (a : Atom) (us : List Tree)
    → us ≡ terms_in_force env (atom_names a) → atom_filled known positive a us ≡ atom_under known env positive a
literal-filled known env positive a us h = ap (atom_filled known positive a) h ∙ atom-filled known env positive a

pub literal-bound :
    (l : BoundLiteral) (env : Environment)
    → map bound_tree l.terms.items ≡ terms_in_force env (atom_names l.atom) → l.size ≡ min (atom_size env l.atom) (2 ^ 64 - 1)
    → AreKnown l.signature.now (atom_symbols l.atom) → IsBound l
literal-bound l env h s k =
    record {
      known = k;
      size = s ∙ ap (λ n. min n (2 ^ 64 - 1)) (sym (size-of-atom l.signature.now env l.positive l.atom) ∙ ap literal_size (sym (literal-filled l.signature.now env l.positive l.atom _ h)));
      variables =
          ap (flat_map tree_variables) h ∙ variables-of-atom l.signature.now env l.positive l.atom ∙ ap literal_variables (sym (literal-filled l.signature.now env l.positive l.atom _ h));
    }

-- ---- walks

pub bound-added :
    (made new all : List Tree) (env : Environment) (ts : List TreeTerm) (i : ℕ) (t : TreeTerm)
    → i < length ts → t ≡ get_or ts i t → new ≡ made ++ terms_in_force env (term_names (term_of t))
    → made ++ terms_in_force env (terms_names (terms_of (map term_of (drop i ts)))) ≡ all
    → new ++ terms_in_force env (terms_names (terms_of (map term_of (drop (i + 1) ts)))) ≡ all
bound-added made new all env ts i t h e n m =
    added made new (terms_in_force env (term_names (term_of t))) _ all n
    (ap (λ vs. made ++ vs) (sym (map-append (term_in_force env) (term_names (term_of t)) (terms_names (terms_of (map term_of (drop (i + 1) ts))))))
    ∙ ap (λ us. made ++ terms_in_force env (terms_names (terms_of (map term_of us)))) (sym (drop-item ts i t h e)) ∙ m)

pub bound-done :
    (made all : List Tree) (env : Environment) (ts : List TreeTerm) (i : ℕ)
    → length ts ≤ i → made ++ terms_in_force env (terms_names (terms_of (map term_of (drop i ts)))) ≡ all → made ≡ all
bound-done made all env ts i h m =
    sym (append-nil made) ∙ ap (λ us. made ++ terms_in_force env (terms_names (terms_of (map term_of us)))) (sym (drop-all ts i h)) ∙ m

pub sizes-added :
    (made new all : ℕ) (env : Environment) (ts : List TreeTerm) (i : ℕ) (t : TreeTerm)
    → i < length ts → t ≡ get_or ts i t → new ≡ min (made + size_under env (term_of t)) (2 ^ 64 - 1)
    → min (made + sizes_under env (terms_of (map term_of (drop i ts)))) (2 ^ 64 - 1) ≡ all
    → min (new + sizes_under env (terms_of (map term_of (drop (i + 1) ts)))) (2 ^ 64 - 1) ≡ all
sizes-added made new all env ts i t h e n m =
    let next : sizes_under env (terms_of (map term_of (drop i ts))) ≡ size_under env (term_of t) + sizes_under env (terms_of (map term_of (drop (i + 1) ts))) =
    ap (λ us. sizes_under env (terms_of (map term_of us))) (drop-item ts i t h e) in
    omega (arith, next, n, m)

pub sizes-done :
    (made all : ℕ) (env : Environment) (ts : List TreeTerm) (i : ℕ)
    → length ts ≤ i → made ≤ 2 ^ 64 - 1 → min (made + sizes_under env (terms_of (map term_of (drop i ts)))) (2 ^ 64 - 1) ≡ all → made ≡ all
sizes-done made all env ts i h l m =
    let none : sizes_under env (terms_of (map term_of (drop i ts))) ≡ 0 = ap (λ us. sizes_under env (terms_of (map term_of us))) (drop-all ts i h) in
    omega (arith, none, l, m)

abbrev pub fills_left : List Symbol → List TreeTerm → ℕ → List Tree → List Tree
fills_left known ts i us = list_of (filled_terms known (terms_of (map term_of (drop i ts))) us)

pub fills-added :
    (made new us vs : List Tree) (known : List Symbol) (ts : List TreeTerm) (i : ℕ) (t : TreeTerm) (u : Tree) (all : Trees)
    → i < length ts → t ≡ get_or ts i t → u ≡ filled known (term_of t) us → vs ≡ drop (length (term_names (term_of t))) us → new ≡ made ++ u ∷ []
    → trees_of (made ++ fills_left known ts i us) ≡ all
    → trees_of (new ++ fills_left known ts (i + 1) vs) ≡ all
fills-added made new us vs known ts i t u all h e g d n m =
    ap trees_of
    (added made new (u ∷ []) (fills_left known ts (i + 1) vs) _ n refl
    ∙ ap₂ (λ x ws. made ++ x ∷ fills_left known ts (i + 1) ws) g d
    ∙ ap (λ ss. made ++ list_of (filled_terms known (terms_of (map term_of ss)) us)) (sym (drop-item ts i t h e)))
    ∙ m

pub fills-done :
    (made us : List Tree) (known : List Symbol) (ts : List TreeTerm) (i : ℕ) (all : Trees)
    → length ts ≤ i → trees_of (made ++ fills_left known ts i us) ≡ all → trees_of made ≡ all
fills-done made us known ts i all h m =
    ap trees_of (sym (append-nil made) ∙ ap (λ ss. made ++ list_of (filled_terms known (terms_of (map term_of ss)) us)) (sym (drop-all ts i h))) ∙ m

-- how many terms the variables from the i-th term on take
abbrev pub names_left : List TreeTerm → ℕ → ℕ
names_left ts i = length (terms_names (terms_of (map term_of (drop i ts))))

abbrev no_tree : List Tree
no_tree = []

one-more : (a b : ℕ) → suc a + b ≡ suc (a + b)
one-more a b = omega arith

drop-none : (b : ℕ) → drop b no_tree ≡ no_tree
drop-none zero = refl
drop-none (suc b) = refl

drop-sum : (a b : ℕ) (us : List Tree) → drop (a + b) us ≡ drop b (drop a us)
drop-sum zero b us = ap (λ k. drop k us) none
  where
    none : 0 + b ≡ b
    none = omega arith
drop-sum (suc a) b [] = drop-none (suc a + b) ∙ sym (drop-none b)
drop-sum (suc a) b (u ∷ us) = ap (λ k. drop k (u ∷ us)) (one-more a b) ∙ drop-sum a b us

pub names-added :
    (us vs all : List Tree) (ts : List TreeTerm) (i : ℕ) (t : TreeTerm)
    → i < length ts → t ≡ get_or ts i t → vs ≡ drop (length (term_names (term_of t))) us
    → drop (names_left ts i) us ≡ all → drop (names_left ts (i + 1)) vs ≡ all
names-added us vs all ts i t h e d m =
    ap (drop (names_left ts (i + 1))) d
    ∙ sym (drop-sum (length (term_names (term_of t))) (names_left ts (i + 1)) us)
    ∙ ap (λ k. drop k us) (sym (length-append (term_names (term_of t)) (terms_names (terms_of (map term_of (drop (i + 1) ts))))))
    ∙ ap (λ ss. drop (length (terms_names (terms_of (map term_of ss)))) us) (sym (drop-item ts i t h e))
    ∙ m

pub names-done :
    (us all : List Tree) (ts : List TreeTerm) (i : ℕ) → length ts ≤ i → drop (names_left ts i) us ≡ all → us ≡ all
names-done us all ts i h m = ap (λ ss. drop (length (terms_names (terms_of (map term_of ss)))) us) (sym (drop-all ts i h)) ∙ m

pub variables-then :
    {X : Type 0} (f : X → Tree) (made new all : List ℕ) (ts : List X) (i : ℕ) (t : X)
    → i < length ts → t ≡ get_or ts i t → new ≡ made ++ tree_variables (f t)
    → made ++ flat_map tree_variables (map f (drop i ts)) ≡ all → new ++ flat_map tree_variables (map f (drop (i + 1) ts)) ≡ all
variables-then f made new all ts i t h e n m =
    added made new (tree_variables (f t)) _ all n (ap (λ ws. made ++ flat_map tree_variables (map f ws)) (sym (drop-item ts i t h e)) ∙ m)

pub variables-end :
    {X : Type 0} (f : X → Tree) (made all : List ℕ) (ts : List X) (i : ℕ)
    → length ts ≤ i → made ++ flat_map tree_variables (map f (drop i ts)) ≡ all → made ≡ all
variables-end f made all ts i h m = sym (append-nil made) ∙ ap (λ ws. made ++ flat_map tree_variables (map f ws)) (sym (drop-all ts i h)) ∙ m

-- ---- heads

-- a head, its name and its arguments lent
pub head-filled :
    (known : List Symbol) (kind : SymbolKind) (name lent : List ℕ) (arguments : List TermTree)
    (items others : List TreeTerm) (number : ℕ) (trees us : List Tree)
    → lent ≡ name → map term_of items ≡ arguments → map term_of others ≡ arguments
    → number ≡ number_of known (record { kind = kind; name = lent; arity = length items })
    → trees_of trees ≡ filled_terms known (terms_of (map term_of others)) us
    → application number (trees_of trees)
    ≡ application (number_of known (record { kind = kind; name = name; arity = terms_count (terms_of arguments) })) (filled_terms known (terms_of arguments) us)
head-filled known kind name lent arguments items others number trees us n a b k t =
    ap (λ f. application f (trees_of trees)) (k ∙ ap (number_of known) (head-same kind name lent arguments items n a))
    ∙ ap (application (number_of known (record { kind = kind; name = name; arity = terms_count (terms_of arguments) })))
    (t ∙ ap (λ ss. filled_terms known (terms_of ss) us) b)
