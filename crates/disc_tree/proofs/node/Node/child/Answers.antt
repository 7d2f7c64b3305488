use Rattle.std.proofs.Common.{◌<◌, List, ap, sym, subst, ◌∙◌, arith}
use Rattle.fol_base.specs.Tree.{Tree}
use Rattle.disc_tree.specs.Rows.{Child, rows, rows_at, weight, IsAt, IsGap}
use Rattle.disc_tree.specs.Children.{child_of, children_of, rows_below}
use Rattle.disc_tree.proofs.AboutPaths.SlotLemmas.{child-get, children-length, some-rows-at}
use Rattle.disc_tree.proofs.AboutPaths.ChildLemmas.{at-rows, gap-rows, child-lighter}
use Rattle.disc_tree.proofs.node.Node.child.Goals as goal

pub returns-in-Ok-clause-child : goal.returns-in-Ok-clause-child
returns-in-Ok-clause-child g c =
    let found : IsAt c.args.label (children_of c.self.inside.branches.items) c.in-Ok.at =
    subst (λ bs. IsAt c.args.label (children_of bs) c.in-Ok.at) c.deref.ensures.value c.in-Ok.ensures.found in
    at-rows c.args.label (children_of c.self.inside.branches.items) c.in-Ok.at (child_of c.index.result.now) c.self.invariant.rise found
    (child-get c.self.inside.branches.items c.in-Ok.at c.index.result.now
    (omega (arith, found.in_range, children-length c.self.inside.branches.items)) c.index.ensures)
    ∙ ap (λ (v : List (Tree × _) × List Child). rows_at c.args.label v.1) c.self.view_is

pub returns-in-Ok-clause-smaller : goal.returns-in-Ok-clause-smaller
returns-in-Ok-clause-smaller g c =
    let found : IsAt c.args.label (children_of c.self.inside.branches.items) c.in-Ok.at =
    subst (λ bs. IsAt c.args.label (children_of bs) c.in-Ok.at) c.deref.ensures.value c.in-Ok.ensures.found in
    subst (λ (v : List (Tree × _) × List Child). weight (rows_below c.index.result.now.below) < weight (rows v)) c.self.view_is
    (child-lighter c.self.inside.entries (children_of c.self.inside.branches.items) c.in-Ok.at (child_of c.index.result.now)
    c.self.invariant.none_is_empty found.in_range
    (child-get c.self.inside.branches.items c.in-Ok.at c.index.result.now
    (omega (arith, found.in_range, children-length c.self.inside.branches.items)) c.index.ensures))

pub returns-in-Err-clause-child : goal.returns-in-Err-clause-child
returns-in-Err-clause-child g c =
    let gap : IsGap c.args.label (children_of c.self.inside.branches.items) c.in-Err.field-0 =
    subst (λ bs. IsGap c.args.label (children_of bs) c.in-Err.field-0) c.deref.ensures.value c.in-Err.ensures.absent in
    sym (ap (λ (v : List (Tree × _) × List Child). rows_at c.args.label v.1) c.self.view_is)
    ∙ gap-rows c.args.label (children_of c.self.inside.branches.items) c.in-Err.field-0 gap.smaller gap.greater

pub returns-in-Ok-clause-some : goal.returns-in-Ok-clause-some
returns-in-Ok-clause-some g c =
    let found : IsAt c.args.label (children_of c.self.inside.branches.items) c.in-Ok.at =
    subst (λ bs. IsAt c.args.label (children_of bs) c.in-Ok.at) c.deref.ensures.value c.in-Ok.ensures.found in
    some-rows-at (children_of c.self.inside.branches.items) c.in-Ok.at (child_of c.index.result.now) c.self.invariant.none_is_empty
    found.in_range
    (child-get c.self.inside.branches.items c.in-Ok.at c.index.result.now
    (omega (arith, found.in_range, children-length c.self.inside.branches.items)) c.index.ensures)
