use Rattle.std.proofs.Common.{◌<◌, List, length, sym, subst, arith}
use Rattle.fol_base.specs.Tree.{Tree}
use Rattle.disc_tree.specs.Rows.{Child, rows, weight}
use Rattle.disc_tree.specs.Children.{child_of, children_of, rows_below}
use Rattle.disc_tree.proofs.AboutPaths.SlotLemmas.{child-get, children-length, some-rows-at}
use Rattle.disc_tree.proofs.AboutPaths.ChildLemmas.{child-lighter}
use Rattle.disc_tree.proofs.node.Node.child_at.Goals as goal

pub returns-clause-smaller : goal.returns-clause-smaller
returns-clause-smaller g c =
    let in_range : c.args.index < length (children_of c.self.inside.branches.items) =
    subst (λ (v : List (Tree × _) × List Child). c.args.index < length v.1) (sym c.self.view_is) c.requires in
    subst (λ (v : List (Tree × _) × List Child). weight (rows_below c.index-branch.result.now.below) < weight (rows v)) c.self.view_is
    (child-lighter c.self.inside.entries (children_of c.self.inside.branches.items) c.args.index (child_of c.index-branch.result.now)
    c.self.invariant.none_is_empty in_range
    (child-get c.self.inside.branches.items c.args.index c.index-branch.result.now
    (omega (arith, in_range, children-length c.self.inside.branches.items)) c.index-branch.ensures))

pub returns-clause-some : goal.returns-clause-some
returns-clause-some g c =
    let in_range : c.args.index < length (children_of c.self.inside.branches.items) =
    subst (λ (v : List (Tree × _) × List Child). c.args.index < length v.1) (sym c.self.view_is) c.requires in
    some-rows-at (children_of c.self.inside.branches.items) c.args.index (child_of c.index-branch.result.now)
    c.self.invariant.none_is_empty in_range
    (child-get c.self.inside.branches.items c.args.index c.index-branch.result.now
    (omega (arith, in_range, children-length c.self.inside.branches.items)) c.index-branch.ensures)
