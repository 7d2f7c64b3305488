-- Instances of lists of terms, as they are read one by one.
use Rattle.std.proofs.Common.{◌≡◌, ℕ, ◌+◌, ◌<◌, List, [], ◌∷◌, ◌++◌, length, map, take, get_or, ap, ◌∙◌, arith}
use Rattle.fol_base.specs.Tree.{Tree, trees_of, tree_size, trees_size}
use Rattle.fol_base.specs.Term.{tree_of}
use Rattle.fol_base.specs.Instance.{Substitution, instance, instances}
use Rattle.fol_base.specs.declared.term.Term.{Term}
use Rattle.fol_base.proofs.ListLemmas.{map-take_more_item}

pub instances_size-push :
    (σ : Substitution) (ts : List Tree) (t : Tree)
    → trees_size (instances σ (trees_of (ts ++ t ∷ []))) ≡ trees_size (instances σ (trees_of ts)) + tree_size (instance σ t)
instances_size-push σ [] t = omega arith
instances_size-push σ (u ∷ ts) t = omega (arith, instances_size-push σ ts t)

-- the size of one more instance
pub instances_size-take_more :
    (σ : Substitution) (xs : List Term) (i : ℕ) (x : Term)
    → i < length xs → x ≡ get_or xs i x
    → trees_size (instances σ (trees_of (map tree_of (take (i + 1) xs))))
    ≡ trees_size (instances σ (trees_of (map tree_of (take i xs)))) + tree_size (instance σ (tree_of x))
instances_size-take_more σ xs i x h r =
    ap (λ us. trees_size (instances σ (trees_of us))) (map-take_more_item tree_of xs i x h r)
    ∙ instances_size-push σ (map tree_of (take i xs)) (tree_of x)
