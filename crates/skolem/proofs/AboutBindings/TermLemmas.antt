-- Lists of terms, as a walk over them works them off.
use Rattle.std.proofs.Common.{◌≡◌, ℕ, ◌+◌, ◌<◌, ◌≤◌, List, [], ◌∷◌, ◌++◌, length, map, drop, get_or, refl, ap, sym, ◌∙◌, append-nil}
use Rattle.std.specs.List.{list_all}
use Rattle.tptp_tree.specs.Term.{terms_of, TermTree}
use Rattle.tptp_tree.specs.Shape.{term_of}
use Rattle.tptp_tree.specs.declared.term.TreeTerm.{TreeTerm}
use Rattle.std.proofs.lemmas.Bool.{and_parts}
use Rattle.signature.specs.declared.symbol.SymbolKind.{SymbolKind}
use Rattle.fol_base.specs.Tree.{Tree, variable, Trees, no_trees, tree_then, trees_of, list_of}
use Rattle.signature.specs.declared.symbol.Symbol.{Symbol}
use Rattle.signature.specs.Symbol.{has_symbol}
use Rattle.signature.specs.Occurrences.{terms_count, term_symbols, terms_symbols}
use Rattle.signature.proofs.OccurrenceLemmas.{count_length}
use Rattle.skolem.specs.Skolemized.{IsKnown, AreKnown}
use Rattle.skolem.proofs.AboutBindings.ListLemmas.{added}
use Rattle.list_lemmas.proofs.Tests.{all-parts}
use Rattle.list_lemmas.proofs.Places.{drop-item, drop-all}

-- the symbols of the next term are known, and those after it
pub known-then :
    (known : List Symbol) (ts : List TreeTerm) (i : ℕ) (t : TreeTerm)
    → i < length ts → t ≡ get_or ts i t → AreKnown known (terms_symbols (terms_of (map term_of (drop i ts))))
    → AreKnown known (term_symbols (term_of t)) × AreKnown known (terms_symbols (terms_of (map term_of (drop (i + 1) ts))))
known-then known ts i t h e a =
    all-parts (λ s. has_symbol s known) (term_symbols (term_of t)) _
    (ap (λ us. list_all (λ s. has_symbol s known) (terms_symbols (terms_of (map term_of us)))) (sym (drop-item ts i t h e)) ∙ a)

pub variables-added :
    (made new : List Tree) (vs : List ℕ) (i v : ℕ) (all : List Tree)
    → i < length vs → v ≡ get_or vs i v → new ≡ made ++ variable v ∷ []
    → made ++ map variable (drop i vs) ≡ all → new ++ map variable (drop (i + 1) vs) ≡ all
variables-added made new vs i v all h e n m =
    added made new (variable v ∷ []) _ all n (ap (λ ws. made ++ map variable ws) (sym (drop-item vs i v h e)) ∙ m)

pub variables-done :
    (made : List Tree) (vs : List ℕ) (i : ℕ) (all : List Tree)
    → length vs ≤ i → made ++ map variable (drop i vs) ≡ all → made ≡ all
variables-done made vs i all h m = sym (append-nil made) ∙ ap (λ ws. made ++ map variable ws) (sym (drop-all vs i h)) ∙ m

-- ---- heads

-- the symbol of a head, its name and its arguments lent
pub head-same :
    (kind : SymbolKind) (name lent : List ℕ) (arguments : List TermTree) (items : List TreeTerm)
    → lent ≡ name → map term_of items ≡ arguments
    → (let s : Symbol = record { kind = kind; name = lent; arity = length items } in s)
    ≡ record { kind = kind; name = name; arity = terms_count (terms_of arguments) }
head-same kind name lent arguments items n a = λ i. record { kind = kind; name = n i; arity = count i }
  where
    count : length items ≡ terms_count (terms_of arguments)
    count = sym (count_length items) ∙ ap (λ us. terms_count (terms_of us)) a

pub head-known :
    (known : List Symbol) (kind : SymbolKind) (name lent : List ℕ) (arguments : List TermTree) (items : List TreeTerm)
    → lent ≡ name → map term_of items ≡ arguments
    → AreKnown known (record { kind = kind; name = name; arity = terms_count (terms_of arguments) } ∷ terms_symbols (terms_of arguments))
    → IsKnown known (record { kind = kind; name = lent; arity = length items })
head-known known kind name lent arguments items n a h =
    ap (λ s. has_symbol s known) (head-same kind name lent arguments items n a) ∙ (and_parts _ _ h).0

pub arguments-known :
    (known : List Symbol) (s : Symbol) (arguments : List TermTree) (items : List TreeTerm)
    → map term_of items ≡ arguments
    → AreKnown known (s ∷ terms_symbols (terms_of arguments))
    → AreKnown known (terms_symbols (terms_of (map term_of items)))
arguments-known known s arguments items a h =
    ap (λ us. list_all (λ s. has_symbol s known) (terms_symbols (terms_of us))) a ∙ (and_parts _ _ h).1
