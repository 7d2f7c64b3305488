use Rattle.std.proofs.Common.{◌<◌, length, arith}
use Rattle.unifier.proofs.AboutClasses.ClassLemmas.{read, one-up}
use Rattle.unifier.proofs.classes.Classes.find.Goals as goal

pub loop-at-preserved : goal.loop-at-preserved
loop-at-preserved c =
    let inside : c.loop-at.at < length c.args.self.now.parents.items = omega (arith, c.loop-at.invariant.below, c.requires.inside) in
    one-up c.args.self.now c.args.cell c.loop-at.at _ c.requires.classes inside (read _ _ _ inside c.index-at.ensures) c.loop-at.invariant
