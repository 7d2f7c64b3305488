use Rattle.std.proofs.Common.{◌≡◌, length}
use Rattle.unifier.specs.Sizes.{AreSizes}
use Rattle.unifier.proofs.solution.Solution.cell_sizes.Given as goal

abbrev pub invariant-loop-cell : goal.invariant-loop-cell
invariant-loop-cell l = AreSizes l.self.cells.items l.sizes.items l.cell × (length l.sizes.items ≡ l.cell)
