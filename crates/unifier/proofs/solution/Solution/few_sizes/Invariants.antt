use Rattle.std.proofs.Common.{◌≡◌, length}
use Rattle.unifier.specs.Sizes.{AreSizes}
use Rattle.unifier.specs.declared.sizes.TheConstants.{FEW_CELLS}
use Rattle.unifier.proofs.solution.Solution.few_sizes.Given as goal

abbrev pub invariant-loop-cell : goal.invariant-loop-cell
invariant-loop-cell l = AreSizes l.self.cells.items l.sizes l.cell × (length l.sizes ≡ FEW_CELLS)
