-- What a list has behind another one.
use Rattle.std.proofs.Common.{◌≡◌, ℕ, ◌+◌, ◌<◌, ◌==◌, List, [], ◌∷◌, ◌++◌, length, map, take, drop, get_or, Option, None, Some, append_assoc, refl, ap, ap₂, sym, ◌∙◌, ⊎_elim, eq-eqb}
use Rattle.std.proofs.lemmas.Bool.{cases_Bool, cond-true, cond-false, eqb-true}
use Rattle.std.proofs.lemmas.List.{take-append-drop}
use Rattle.fol_base.specs.Tree.{Tree, trees_of, tree_variables, trees_variables}
use Rattle.fol_base.specs.Term.{tree_of}
use Rattle.fol_base.specs.declared.term.Term.{Term}
use Rattle.fol_base.proofs.AboutTerms.VariableLemmas.{trees_variables-take_more}
use Rattle.disc_tree.specs.Entries.{without_front}

pub front-then :
    (xs ys zs ws : List ℕ) (o : Option (List ℕ))
    → without_front xs zs ≡ Some ws → without_front ys ws ≡ o → without_front (xs ++ ys) zs ≡ o
front-then [] ys zs ws o h k =
    let same : zs ≡ ws = cc in
    ap (without_front ys) same ∙ k
front-then (x ∷ xs) ys [] ws o h k = cc
front-then (x ∷ xs) ys (z ∷ zs) ws o h k =
    ⊎_elim
    (λ same.
    cond-true (x == z) (without_front (xs ++ ys) zs) None same
    ∙ front-then xs ys zs ws o (sym (cond-true (x == z) (without_front xs zs) None same) ∙ h) k)
    (λ other. let wrong : None ≡ Some ws = sym (cond-false (x == z) (without_front xs zs) None other) ∙ h in absurd cc)
    (cases_Bool (x == z))

pub front-none : (xs ys zs : List ℕ) → without_front xs zs ≡ None → without_front (xs ++ ys) zs ≡ None
front-none [] ys zs h = cc
front-none (x ∷ xs) ys [] h = refl
front-none (x ∷ xs) ys (z ∷ zs) h =
    ⊎_elim
    (λ same.
    cond-true (x == z) (without_front (xs ++ ys) zs) None same
    ∙ front-none xs ys zs (sym (cond-true (x == z) (without_front xs zs) None same) ∙ h))
    (λ other. cond-false (x == z) (without_front (xs ++ ys) zs) None other)
    (cases_Bool (x == z))

pub front-whole : (xs ys : List ℕ) → without_front xs ys ≡ Some [] → ys ≡ xs
front-whole [] ys h = cc
front-whole (x ∷ xs) [] h = absurd cc
front-whole (x ∷ xs) (y ∷ ys) h =
    ⊎_elim
    (λ same.
    ap₂ ◌∷◌ (sym (eqb-true x y same)) (front-whole xs ys (sym (cond-true (x == y) (without_front xs ys) None same) ∙ h)))
    (λ other. let wrong : None ≡ Some [] = sym (cond-false (x == y) (without_front xs ys) None other) ∙ h in absurd cc)
    (cases_Bool (x == y))

pub front-itself : (xs : List ℕ) → without_front xs xs ≡ Some []
front-itself [] = refl
front-itself (x ∷ xs) = cond-true (x == x) (without_front xs xs) None (eq-eqb x x refl) ∙ front-itself xs

variables-append :
    (ts us : List Tree) → trees_variables (trees_of (ts ++ us)) ≡ trees_variables (trees_of ts) ++ trees_variables (trees_of us)
variables-append [] us = refl
variables-append (t ∷ ts) us =
    ap (λ vs. tree_variables t ++ vs) (variables-append ts us)
    ∙ sym (append_assoc (tree_variables t) (trees_variables (trees_of ts)) (trees_variables (trees_of us)))

abbrev variables_in : List Term → List ℕ
variables_in xs = trees_variables (trees_of (map tree_of xs))

-- where an item's variables aren't the next ones, the list's aren't at all
pub front-item-none :
    (xs : List Term) (i : ℕ) (x : Term) (zs ws : List ℕ)
    → i < length xs → x ≡ get_or xs i x → without_front (variables_in (take i xs)) zs ≡ Some ws
    → without_front (tree_variables (tree_of x)) ws ≡ None → without_front (variables_in xs) zs ≡ None
front-item-none xs i x zs ws h e front none =
    ap (λ vs. without_front vs zs) (parts xs (i + 1))
    ∙ front-none (variables_in (take (i + 1) xs)) (variables_in (drop (i + 1) xs)) zs
    (ap (λ vs. without_front vs zs) (trees_variables-take_more xs i x h e)
    ∙ front-then (variables_in (take i xs)) (tree_variables (tree_of x)) zs ws None front none)
  where
    parts : (ys : List Term) (n : ℕ) → variables_in ys ≡ variables_in (take n ys) ++ variables_in (drop n ys)
    parts ys n = ap variables_in (sym (take-append-drop n ys)) ∙ ap (λ ts. trees_variables (trees_of ts)) (map-parts (take n ys) (drop n ys)) ∙ variables-append (map tree_of (take n ys)) (map tree_of (drop n ys))
      where
        map-parts : (as_ bs : List Term) → map tree_of (as_ ++ bs) ≡ map tree_of as_ ++ map tree_of bs
        map-parts [] bs = refl
        map-parts (a ∷ as_) bs = ap (λ ts. tree_of a ∷ ts) (map-parts as_ bs)
