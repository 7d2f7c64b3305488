-- Sizes of instances that are told without building them.
use Rattle.std.proofs.Common.{◌≡◌, ℕ, ◌+◌, ◌-◌, ◌<◌, ◌≤◌, ◌^◌, min, List, [], ◌∷◌, ◌++◌, length, map, take, get_or, sym, ap, subst, ◌∙◌, arith}
use Rattle.std.proofs.Math.ListN.{get_or-map}
use Rattle.std.proofs.lemmas.List.{map-append}
use Rattle.std.proofs.lemmas.List.Sums.{sum_by-append, sum_by-cons}
use Rattle.fol_base.specs.Tree.{Tree, application, trees_of, tree_size, trees_size}
use Rattle.fol_base.specs.Term.{tree_of}
use Rattle.fol_base.specs.Instance.{Substitution, instance, instances}
use Rattle.fol_base.specs.Clause.{TreeLiteral, literal_instance, literal_size}
use Rattle.fol_base.specs.Ground.{literals_instance}
use Rattle.fol_base.specs.Literal.{literal_of}
use Rattle.fol_base.specs.declared.term.Term.{Term}
use Rattle.fol_base.specs.declared.clause.Literal.{Literal}
use Rattle.fol_base.proofs.ListLemmas.{map-take_more_item}
use Rattle.kernel_steps.specs.declared.step.Line.{Line}
use Rattle.herbrand_list.specs.Demands.{put_in}
use Rattle.herbrand_list.specs.GroundList.{ground_size, literals_at}
use Rattle.herbrand_list.specs.Worked.{constant_tree, stopped_size, AreSizes, bound_demand, demand_weight}

-- the sizes of terms are those of what they are put in for
pub sizes-put :
    (constant : ℕ) (ts : List Tree) (sizes : List ℕ) → sizes ≡ map stopped_size ts → AreSizes (put_in (constant_tree constant) ts) sizes
sizes-put constant ts sizes e v =
    ap (λ l. get_or l v 1) e
    ∙ subst (λ k. get_or (map stopped_size ts) v k ≡ stopped_size (get_or ts v (constant_tree constant))) one
    (get_or-map stopped_size ts v (constant_tree constant))
  where
    one : stopped_size (constant_tree constant) ≡ 1
    one = omega arith

-- the size of an application, by that of its arguments
pub application-sized :
    (σ : Substitution) (f : ℕ) (ts us : List Tree) (t : Tree) (all made : ℕ)
    → all ≡ min (trees_size (instances σ (trees_of us))) (2 ^ 64 - 1) → us ≡ ts → t ≡ application f (trees_of ts)
    → made ≡ min (all + 1) (2 ^ 64 - 1) → made ≡ min (tree_size (instance σ t)) (2 ^ 64 - 1)
application-sized σ f ts us t all made a e is m =
    subst (λ x. made ≡ min (tree_size (instance σ x)) (2 ^ 64 - 1)) (sym is)
    (whole (trees_size (instances σ (trees_of ts))) (a ∙ ap (λ vs. min (trees_size (instances σ (trees_of vs))) (2 ^ 64 - 1)) e))
  where
    whole : (size : ℕ) → all ≡ min size (2 ^ 64 - 1) → made ≡ min (1 + size) (2 ^ 64 - 1)
    whole size s = omega (arith, s, m)

-- a sum of two
pub sum-stopped : (x y left right made most : ℕ) → left ≡ min x most → right ≡ min y most → made ≡ min (left + right) most → made ≡ min (x + y) most
sum-stopped x y left right made most l r m = omega (arith, l, r, m)

-- the instances of one more term
pub bound-more :
    (σ : Substitution) (xs : List Term) (i : ℕ) (x : Term) → i < length xs → x ≡ get_or xs i x
    → map stopped_size (map (instance σ) (map tree_of (take (i + 1) xs)))
    ≡ map stopped_size (map (instance σ) (map tree_of (take i xs))) ++ stopped_size (instance σ (tree_of x)) ∷ []
bound-more σ xs i x h r =
    ap (λ ts. map stopped_size (map (instance σ) ts)) (map-take_more_item tree_of xs i x h r)
    ∙ ap (map stopped_size) (map-append (instance σ) (map tree_of (take i xs)) (tree_of x ∷ []))
    ∙ map-append stopped_size (map (instance σ) (map tree_of (take i xs))) (instance σ (tree_of x) ∷ [])

-- the size of one more literal
size-pushed :
    (σ : Substitution) (ls : List TreeLiteral) (l : TreeLiteral)
    → ground_size (literals_instance σ (ls ++ l ∷ [])) ≡ ground_size (literals_instance σ ls) + (tree_size (instance σ l.left) + tree_size (instance σ l.right))
size-pushed σ ls l =
    ap ground_size (map-append (literal_instance σ) ls (l ∷ []))
    ∙ omega (
      arith,
      sum_by-append literal_size (map (literal_instance σ) ls) (literal_instance σ l ∷ []),
      sum_by-cons literal_size (literal_instance σ l) [],
    )

pub literals-more :
    (σ : Substitution) (xs : List Literal) (i : ℕ) (x : Literal) → i < length xs → x ≡ get_or xs i x
    → ground_size (literals_instance σ (map literal_of (take (i + 1) xs)))
    ≡ ground_size (literals_instance σ (map literal_of (take i xs)))
    + (tree_size (instance σ (literal_of x).left) + tree_size (instance σ (literal_of x).right))
literals-more σ xs i x h r =
    ap (λ ls. ground_size (literals_instance σ ls)) (map-take_more_item literal_of xs i x h r)
    ∙ size-pushed σ (map literal_of (take i xs)) (literal_of x)

-- the size that is told of a demand is at most its weight
pub size-light :
    (constant : Tree) (lines : List Line) (τ : Substitution) (parent : ℕ) (bind : List Tree) (size : ℕ)
    → size ≡ min (ground_size (literals_instance (put_in constant (map (instance τ) bind)) (literals_at lines parent))) (2 ^ 64 - 1)
    → 0 + size + 1 ≤ demand_weight constant lines (bound_demand τ parent bind)
size-light constant lines τ parent bind size e = omega (arith, e)
