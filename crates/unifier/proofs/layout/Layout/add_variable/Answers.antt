use Rattle.std.proofs.Common.{refl, arith}
use Rattle.unifier.proofs.AboutLayouts.LayoutLemmas.{with-variable}
use Rattle.unifier.proofs.layout.Layout.add_variable.Goals as goal

pub returns : goal.returns
returns c =
    with-variable c.args.self.now _ c.args.code _ c.requires.layout c.requires.after refl
    (omega (arith, c.len-cell.ensures, c.args.self.now.cells.ok.0)) c.in_ok-push.ensures.items c.in_ok-push-2.ensures.items
