use Rattle.std.proofs.Common.{refl, arith}
use Rattle.unifier.proofs.AboutLayouts.LayoutLemmas.{layout-push}
use Rattle.unifier.proofs.layout.Layout.push.Goals as goal

pub returns : goal.returns
returns c = record {
  layout =
      layout-push c.args.self.now _ c.args.cell c.requires.layout c.requires.parts c.requires.kinds c.requires.no_variable c.in_ok-push.ensures.items refl;
  number = omega (arith, c.len-number.ensures, c.args.self.now.cells.ok.0);
  cells = c.in_ok-push.ensures.items;
  places = refl;
}
