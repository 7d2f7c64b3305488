use Rattle.std.proofs.Common.{◌++◌, map, ap, arith}
use Rattle.fol_base.specs.Term.{tree_of}
use Rattle.disc_tree.specs.Work.{trees_left}
use Rattle.disc_tree.proofs.AboutChanges.EditLemmas.{work-falls}
use Rattle.disc_tree.proofs.tail.+count_labels.Goals as goal

pub count_labels-requires : goal.count_labels-requires
count_labels-requires t c = (
  omega (
    arith,
    c.decreases,
    work-falls (trees_left c.args.rest.now) (map tree_of c.in-Then.more.now ++ trees_left c.in-Then.below.now)
        (trees_left c.of-after.result) (trees_left c.of-next.result) (map tree_of c.arguments_of.result.now) (tree_of c.in-Then.first.now)
        (ap trees_left c.in-Then.is) c.of-after.ensures c.of-next.ensures c.arguments_of.ensures,
  ),
  tt,
)
