use mathlib.Core.Bool.{beq}
use Rattle.std.proofs.Common.{◌≡◌, ◌+◌, ◌*◌, ◌<◌, ◌≤◌, ℕ, Bool, map, min, take}
use Rattle.std.specs.Prelude.{slice_index, if◌then◌else◌}
use Rattle.fol_base.specs.Tree.{tree_size, trees_size, trees_of}
use Rattle.fol_base.specs.Term.{tree_of}
use Rattle.subsume.specs.Features.{slot, trees_measure}
use Rattle.subsume.specs.declared.vector.TheConstants.{MEASURES, MOST}
use Rattle.subsume.proofs.vector.Features.+count_term.Given as goal

abbrev pub decreases-count_term : goal.decreases-count_term
decreases-count_term l = 2 * tree_size (tree_of l.term.now)

abbrev pub decreases-count_terms : goal.decreases-count_terms
decreases-count_terms l = 2 * trees_size (trees_of l.terms.now) + 1

abbrev pub invariant-count_terms-loop-term : goal.invariant-count_terms-loop-term
invariant-count_terms-loop-term l =
    (sign : Bool) (k : ℕ) → k < MEASURES → slice_index l.fn.self.values (slot sign k) ≤ MOST
    → slice_index l.self.values (slot sign k)
    ≡ min (slice_index l.fn.self.values (slot sign k)
    + (if beq l.positive sign then trees_measure k (trees_of (map tree_of (take l.term-index l.term-items))) else 0)) MOST
