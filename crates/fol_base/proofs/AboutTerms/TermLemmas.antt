-- Facts about the program's terms, as they are read from a list.
use Rattle.std.proofs.Common.{◌≡◌, ℕ, zero, suc, ◌+◌, ◌<◌, ◌≤◌, List, [], ◌∷◌, length, map, take, get_or, refl, ap, sym, ◌∙◌, subst, arith}
use Rattle.fol_base.specs.Tree.{Tree, trees_of, tree_size, trees_size, VariablesBelow, AllVariablesBelow}
use Rattle.fol_base.specs.Term.{tree_of}
use Rattle.fol_base.specs.declared.term.Term.{Term}
use Rattle.fol_base.proofs.ListLemmas.{map-take_more_item}
use Rattle.fol_base.proofs.AboutTerms.TreeLemmas.{trees_size-push}

-- a term of a slice is no larger than the list
pub tree_size-item :
    (xs : List Term) (ts : List Tree) (i : ℕ) (x : Term)
    → map tree_of xs ≡ ts → i < length xs → x ≡ get_or xs i x → tree_size (tree_of x) ≤ trees_size (trees_of ts)
tree_size-item xs ts i x e h r =
    let P : List Tree → Type 0 = λ us. tree_size (tree_of x) ≤ trees_size (trees_of us) in
    let Q : Term → Type 0 = λ y. tree_size (tree_of y) ≤ trees_size (trees_of (map tree_of xs)) in
    subst P e (subst Q (sym r) (at_index xs i x h))
  where
    at_index : (xs : List Term) (i : ℕ) (d : Term) → i < length xs → tree_size (tree_of (get_or xs i d)) ≤ trees_size (trees_of (map tree_of xs))
    at_index [] i d h = omega arith
    at_index (y ∷ ys) zero d h = omega arith
    at_index (y ∷ ys) (suc i) d h = omega (arith, at_index ys i d (omega arith))

-- the sizes of one more term
pub trees_size-take_more :
    (xs : List Term) (i : ℕ) (x : Term)
    → i < length xs → x ≡ get_or xs i x
    → trees_size (trees_of (map tree_of (take (i + 1) xs)))
    ≡ trees_size (trees_of (map tree_of (take i xs))) + tree_size (tree_of x)
trees_size-take_more xs i x h r =
    ap (λ us. trees_size (trees_of us)) (map-take_more_item tree_of xs i x h r)
    ∙ trees_size-push (map tree_of (take i xs)) (tree_of x)

-- a term of a slice has its variables below what bounds those of the list
pub VariablesBelow-item :
    (n : ℕ) (xs : List Term) (ts : List Tree) (i : ℕ) (x : Term)
    → map tree_of xs ≡ ts → i < length xs → x ≡ get_or xs i x
    → AllVariablesBelow n (trees_of ts) → VariablesBelow n (tree_of x)
VariablesBelow-item n xs ts i x e h r all =
    let P : List Tree → Type 0 = λ us. AllVariablesBelow n (trees_of us) in
    let Q : Term → Type 0 = λ y. VariablesBelow n (tree_of y) in
    subst Q (sym r) (at_index xs i x h (subst P (sym e) all))
  where
    at_index :
        (xs : List Term) (i : ℕ) (d : Term)
        → i < length xs → AllVariablesBelow n (trees_of (map tree_of xs)) → VariablesBelow n (tree_of (get_or xs i d))
    at_index [] i d h all = absurd (omega arith)
    at_index (y ∷ ys) zero d h all = all.0
    at_index (y ∷ ys) (suc i) d h all = at_index ys i d (omega arith) all.1

pub length-trees : (xs : List Term) → length (map tree_of xs) ≡ length xs
length-trees [] = refl
length-trees (x ∷ xs) = ap suc (length-trees xs)
