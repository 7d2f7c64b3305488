-- The variables of the terms to which variables are bound.
use Rattle.std.proofs.Common.{◌≡◌, ℕ, ◌+◌, ◌-◌, ◌^◌, ◌<◌, List, [], ◌∷◌, ◌++◌, length, map, take, get_or, refl, ap, sym, ◌∙◌, arith, append-nil}
use Rattle.std.specs.Prelude.{min, flat_map}
use Rattle.std.proofs.lemmas.Grind.{flat_map-append}
use Rattle.fol_base.specs.Tree.{Tree, variable, trees_of, tree_size, trees_size, tree_variables, trees_variables}
use Rattle.fol_base.proofs.ListLemmas.{map-take_more_item}
use Rattle.signature.specs.Clausal.{applied}
use Rattle.skolem.specs.BoundTerm.{bound_tree}
use Rattle.skolem.specs.declared.bound_term.BoundTerm.{BoundTerm}

pub variables-of : (vs : List ℕ) → trees_variables (trees_of (map variable vs)) ≡ vs
variables-of [] = refl
variables-of (v ∷ vs) = ap (λ ws. v ∷ ws) (variables-of vs)

pub arguments-added :
    (made new vs : List ℕ) (symbol : ℕ) (t : Tree) → new ≡ made ++ vs → t ≡ applied symbol vs → new ≡ made ++ tree_variables t
arguments-added made new vs symbol t h e =
    h ∙ ap (λ ws. made ++ ws) (sym (variables-of vs)) ∙ ap (λ u. made ++ tree_variables u) (sym e)

pub sizes-of : (vs : List ℕ) → trees_size (trees_of (map variable vs)) ≡ length vs
sizes-of [] = refl
sizes-of (v ∷ vs) = omega (arith, sizes-of vs)

pub size-of-applied :
    (symbol : ℕ) (vs : List ℕ) (count total : ℕ) (t : Tree)
    → count ≡ length vs → total ≡ min (count + 1) (2 ^ 64 - 1) → t ≡ applied symbol vs → total ≡ min (tree_size t) (2 ^ 64 - 1)
size-of-applied symbol vs count total t h k e = omega (arith, h, k, ap tree_size e, sizes-of vs)

-- the variables of one term more
pub variables-of-more :
    (terms : List BoundTerm) (i : ℕ) (t : BoundTerm)
    → i < length terms → t ≡ get_or terms i t
    → flat_map tree_variables (map bound_tree (take (i + 1) terms))
    ≡ flat_map tree_variables (map bound_tree (take i terms)) ++ tree_variables (bound_tree t)
variables-of-more terms i t h e =
    ap (flat_map tree_variables) (map-take_more_item bound_tree terms i t h e)
    ∙ flat_map-append tree_variables (map bound_tree (take i terms)) (bound_tree t ∷ [])
    ∙ ap (λ vs. flat_map tree_variables (map bound_tree (take i terms)) ++ vs) (append-nil (tree_variables (bound_tree t)))
