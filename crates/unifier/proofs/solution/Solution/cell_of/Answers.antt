use Rattle.std.proofs.Common.{sym, subst, arith}
use Rattle.unifier.specs.Layout.{AreRising}
use Rattle.unifier.proofs.solution.Solution.cell_of.Goals as goal

pub find_place-requires : goal.find_place-requires
find_place-requires c = subst AreRising (sym c.as_slice-else-len-le-FEW_PLACES.ensures.value) (c.args.self.now.in_order.findable (omega arith))
