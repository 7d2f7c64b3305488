-- A literal is greater than an equation that rewrites it.
use Rattle.std.proofs.Common.{◌≡◌, ℕ, ◌+◌, Bool, true, false, List, [], ◌∷◌, Some, refl, ap, sym, ◌∙◌, inl, inr, ⊎_elim, arith}
use Rattle.std.proofs.lemmas.Bool.{true≢false}
use Rattle.std.proofs.lemmas.Option.{same_Some}
use Rattle.fol_base.specs.Tree.{Tree, tree_eq}
use Rattle.fol_base.specs.Place.{subterm}
use Rattle.fol_base.specs.Clause.{TreeLiteral}
use Rattle.fol_base.specs.Sides.{side_of, other_side_of}
use Rattle.fol_base.specs.Multiset.{times}
use Rattle.fol_base.specs.Order.{tree_greater, sides_multiset, literal_greater}
use Rattle.fol_base.specs.declared.clause.Side.{Side}
use Rattle.fol_base.specs.declared.clause.Side.TheVariants.{Left, Right}
use Rattle.fol_base.proofs.AboutClauses.CountLemmas.{multiset_greater-decided}
use Rattle.kbo_order.proofs.AboutMultisets.MemberLemmas.{In}
use Rattle.kbo_order.proofs.AboutMultisets.MultisetLemmas.{Dominates, dominating-greater}
use Rattle.kbo_order.proofs.AboutLaws.StrictOrderLemmas.{sides, trees_ordered}
use Rattle.kbo_order.proofs.AboutLaws.SubtermLemmas.{proper_subterms_are_smaller}
use Rattle.kernel_steps.specs.Inference.{AllowsRoot}

abbrev count : Tree → List Tree → ℕ
count w ts = times tree_eq w ts

-- what dominates makes a literal greater, whatever the two have in common
literal-greater :
    (l m : TreeLiteral) (common left right : List Tree)
    → ((w : Tree) → count w (sides_multiset l) ≡ count w common + count w left)
    → ((w : Tree) → count w (sides_multiset m) ≡ count w common + count w right)
    → (x : Tree) → In x left → Dominates tree_greater left right → literal_greater l m ≡ true
literal-greater l m common left right lefts rights x there dominates =
    (multiset_greater-decided tree_eq tree_greater (sides_multiset l) (sides_multiset m)).1
    (dominating-greater tree_eq tree_greater trees_ordered (sides_multiset l) (sides_multiset m) common left right lefts rights x there dominates)

-- ---- an equation below a literal

-- the sides of a literal but one occurrence of a side
abbrev rest : Bool → Tree → Tree → List Tree
rest true u v = v ∷ []
rest false u v = u ∷ v ∷ v ∷ []

one_side :
    (p : Bool) (z : Side) (l : TreeLiteral) (w : Tree)
    → count w (sides p l.left l.right) ≡ count w (side_of z l ∷ []) + count w (rest p (side_of z l) (other_side_of z l))
one_side true Left l w = omega arith
one_side true Right l w = omega arith
one_side false Left l w = omega arith
one_side false Right l w = omega arith

two_sides :
    (p : Bool) (s : Side) (l : TreeLiteral) (w : Tree) → p ≡ true
    → count w (sides p l.left l.right) ≡ count w (side_of s l ∷ []) + count w (other_side_of s l ∷ [])
two_sides true Left l w h = omega arith
two_sides true Right l w h = omega arith
two_sides false s l w h = absurd (true≢false (sym h))

In-sides : (p : Bool) (z : Side) (l : TreeLiteral) → In (side_of z l) (sides p l.left l.right)
In-sides true Left l = inl refl
In-sides true Right l = inr (inl refl)
In-sides false Left l = inl refl
In-sides false Right l = inr (inr (inl refl))

-- where the side of an equation stands strictly below a side
below-side :
    (l e : TreeLiteral) (z s : Side) → e.positive ≡ true
    → tree_greater (side_of z l) (side_of s e) ≡ true → tree_greater (side_of s e) (other_side_of s e) ≡ true
    → literal_greater l e ≡ true
below-side l e z s positive above ordered =
    let u : Tree = side_of z l in
    let both : List Tree = side_of s e ∷ other_side_of s e ∷ [] in
    let there : In u (sides_multiset l) = In-sides l.positive z l in
    literal-greater l e [] (sides_multiset l) both
    (λ w. omega arith)
    (λ w. omega (arith, two_sides e.positive s e w positive))
    u there
    (λ y in_both. (
      u,
      there,
      ⊎_elim
          (λ k. ap (tree_greater u) k ∙ above)
          (λ more.
          ⊎_elim
          (λ k. ap (tree_greater u) k ∙ trees_ordered.is_transitive u (side_of s e) (other_side_of s e) above ordered)
          (λ none. absurd none)
          more)
          in_both,
    ))

-- what stands beside a side that is the equation's, above its other side
beside : (p : Bool) (u v r : Tree) → (p ≡ true → tree_greater v r ≡ true) → tree_greater u r ≡ true → (x : Tree) × In x (rest p u v) × (tree_greater x r ≡ true)
beside true u v r root above = (v, inl refl, root refl)
beside false u v r root above = (u, inl refl, above)

-- where it is the whole side
at-side :
    (l e : TreeLiteral) (z s : Side) → e.positive ≡ true
    → side_of s e ≡ side_of z l → tree_greater (side_of s e) (other_side_of s e) ≡ true
    → (l.positive ≡ true → tree_greater (other_side_of z l) (other_side_of s e) ≡ true)
    → literal_greater l e ≡ true
at-side l e z s positive same ordered root =
    let u : Tree = side_of z l in
    let v : Tree = other_side_of z l in
    let r : Tree = other_side_of s e in
    let x = beside l.positive u v r root (ap (λ t. tree_greater t r) (sym same) ∙ ordered) in
    literal-greater l e (u ∷ []) (rest l.positive u v) (r ∷ [])
    (λ w. one_side l.positive z l w)
    (λ w. two_sides e.positive s e w positive ∙ ap (λ t. count w (t ∷ []) + count w (r ∷ [])) same)
    x.0 x.1
    (λ y there. (x.0, x.1, ⊎_elim (λ k. ap (tree_greater x.0) k ∙ x.2) (λ none. absurd none) there))

-- an equation, its greater side in a side of the literal, and at the root of a positive one the other side above its smaller side
pub rewriting-smaller :
    (l e : TreeLiteral) (z s : Side) (place : List ℕ) → e.positive ≡ true
    → subterm place (side_of z l) ≡ Some (side_of s e) → tree_greater (side_of s e) (other_side_of s e) ≡ true
    → AllowsRoot l z place (other_side_of s e)
    → literal_greater l e ≡ true
rewriting-smaller l e z s [] positive there ordered root =
    at-side l e z s positive (sym (same_Some (side_of z l) (side_of s e) there)) ordered (λ h. root h refl)
rewriting-smaller l e z s (k ∷ place) positive there ordered root =
    below-side l e z s positive
    (proper_subterms_are_smaller (k ∷ place) (side_of z l) (side_of s e) (λ h. absurd (cc)) there)
    ordered
