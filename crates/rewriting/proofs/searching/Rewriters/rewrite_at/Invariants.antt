use Rattle.std.proofs.Common.{ℕ, take}
use Rattle.fol_base.specs.Term.{tree_of}
use Rattle.disc_tree.specs.Entries.{IsIn}
use Rattle.rewriting.specs.Spots.{spot_of}
use Rattle.rewriting.specs.Searching.{NotBy, usable_by}
use Rattle.rewriting.proofs.searching.Rewriters.rewrite_at.Given as goal

abbrev pub invariant-loop-entry : goal.invariant-loop-entry
invariant-loop-entry l =
    (x : ℕ) → IsIn x (take l.entry-index l.entry-items) → NotBy (usable_by l.self) (spot_of l.spot) (tree_of l.term) x
