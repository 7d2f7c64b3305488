use Rattle.std.proofs.Common.{◌<◌, length, refl, arith}
use Rattle.unifier.specs.declared.classes.Classes.{Classes}
use Rattle.unifier.proofs.AboutClasses.ClassLemmas.{read}
use Rattle.unifier.proofs.AboutClasses.ClosingLemmas.{flattening-step}
use Rattle.unifier.proofs.classes.Classes.flatten.Goals as goal

pub loop-cell-preserved : goal.loop-cell-preserved
loop-cell-preserved c =
    let old : Classes = c.args.self.now in
    let mid : Classes = c.loop-cell.self in
    let inside : c.loop-cell.cell < length mid.parents.items = omega (arith, c.loop-cell.invariant.classes.parents, c.len-cell-end.ensures, old.parents.ok.0) in
    let here : c.loop-cell.cell < length old.parents.items = omega (arith, c.loop-cell.invariant.classes.parents) in
    let up_is = read mid.parents.items c.loop-cell.cell c.index-parent.result.now inside c.index-parent.ensures in
    let up_inside : c.index-parent.result.now < length mid.parents.items =
    omega (arith, up_is, c.loop-cell.invariant.classes.down c.loop-cell.cell here) in
    flattening-step (length old.parents.items) old mid _ c.loop-cell.cell c.index-parent.result.now c.index.result.now c.loop-cell.invariant here up_is
    (read mid.parents.items c.index-parent.result.now c.index.result.now up_inside c.index.ensures) refl refl
