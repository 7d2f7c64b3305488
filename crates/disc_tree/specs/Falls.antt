-- Each child of a node weighs less than the node, which is why a recursion down a tree ends.
use Rattle.std.specs.Prelude.{ℕ, suc, ◌+◌, ◌≤◌, List, [], ◌∷◌, ◌++◌, length}
use Rattle.std.proofs.Common.{◌≡◌, arith}
use denote.Param.Weighed.{most}
use Rattle.fol_base.specs.Tree.{Tree}
use Rattle.disc_tree.specs.declared.label.Label.{Label}
use Rattle.disc_tree.specs.declared.node.Below.{Below}
use Rattle.disc_tree.specs.declared.node.Below.TheVariants.{Branching, Single}
use Rattle.disc_tree.specs.declared.node.Branch.{Branch}
use Rattle.disc_tree.specs.declared.node.Node.TheDeep.{deep-Branch, deep-Below}
use Rattle.disc_tree.specs.Rows.{Row, here, below, all_below, rows, weight, NoneIsEmpty}
use Rattle.disc_tree.specs.Children.{children_of, rows_below}

pub weight-append : (rs ss : List Row) → weight (rs ++ ss) ≡ weight rs + weight ss
weight-append [] ss = omega arith
weight-append (r ∷ rs) ss = omega (arith, weight-append rs ss)

pub weight-below : (l : Label) (rs : List Row) → weight (below l rs) ≡ weight rs + length rs
weight-below l [] = omega arith
weight-below l (r ∷ rs) = omega (arith, weight-below l rs)

pub most-deep-Branch-≤ : (bs : List Branch) → NoneIsEmpty (children_of bs) → most deep-Branch bs ≤ weight (all_below (children_of bs))
most-deep-Branch-≤ [] h = omega arith
most-deep-Branch-≤ (b ∷ bs) h =
    omega (
      arith,
      h.0,
      deep-below b.below,
      weight-below b.label (rows_below b.below),
      weight-append (below b.label (rows_below b.below)) (all_below (children_of bs)),
      most-deep-Branch-≤ bs h.1,
    )
  where
    deep-below : (d : Below) → deep-Below d ≤ suc (weight (rows_below d))
    deep-below (Branching n) = omega arith
    deep-below (Single t) = omega arith

pub most-deep-rows-≤ :
    (es : List (Tree × ℕ)) (bs : List Branch) → NoneIsEmpty (children_of bs) → most deep-Branch bs ≤ weight (rows (es, children_of bs))
most-deep-rows-≤ es bs h = omega (arith, weight-append (here es) (all_below (children_of bs)), most-deep-Branch-≤ bs h)
