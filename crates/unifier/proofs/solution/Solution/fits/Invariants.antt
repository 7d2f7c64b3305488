use Rattle.std.proofs.Common.{◌≡◌, drop}
use Rattle.unifier.specs.Layout.{all_pass}
use Rattle.unifier.specs.Renaming.{is_within}
use Rattle.unifier.proofs.solution.Solution.fits.Given as goal

abbrev pub invariant-loop-place : goal.invariant-loop-place
invariant-loop-place l =
    all_pass (is_within l.self.apart l.left_vars l.right_vars) (drop l.place-index l.place-items)
    ≡ all_pass (is_within l.self.apart l.left_vars l.right_vars) l.place-items
