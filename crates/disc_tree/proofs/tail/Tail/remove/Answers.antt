use Rattle.std.proofs.Common.{◌≡◌, true, false, sym, ◌∙◌}
use Rattle.fol_base.specs.Tree.{tree_variables}
use Rattle.fol_base.specs.Term.{tree_of}
use Rattle.disc_tree.specs.Path.{path_of_all}
use Rattle.disc_tree.specs.Work.{trees_left}
use Rattle.disc_tree.proofs.AboutChanges.TailEdits.{tail-taken, none-on-tail, none-beside-tail}
use Rattle.disc_tree.proofs.tail.Tail.remove.Goals as goal

pub returns-then-not-is_at-clause-absent : goal.returns-then-not-is_at-clause-absent
returns-then-not-is_at-clause-absent c h =
    none-beside-tail c.args.self.now.labels.items (path_of_all (trees_left c.args.rest.now)) (tree_variables (tree_of c.args.term.now))
    c.args.number c.args.self.now.entries
    (λ same.
    let is : c.is_at.result ≡ true = c.is_at.ensures.1 same in
    let wrong : true ≡ false = sym is ∙ c.if-not-is_at.true in absurd cc)

pub returns-clause-removed : goal.returns-clause-removed
returns-clause-removed c h =
    tail-taken c.args.self.now.labels.items (path_of_all (trees_left c.args.rest.now)) (tree_variables (tree_of c.args.term.now))
    c.args.number c.args.self.now.entries c.take.new.self (c.is_at.ensures.0 c.if-not-is_at.false) (c.take.ensures.removed h)

pub returns-clause-absent : goal.returns-clause-absent
returns-clause-absent c h =
    none-on-tail c.args.self.now.labels.items (path_of_all (trees_left c.args.rest.now)) (tree_variables (tree_of c.args.term.now))
    c.args.number c.args.self.now.entries (c.take.ensures.absent h)
