use Rattle.std.proofs.Common.{ℕ, take}
use Rattle.fol_base.specs.Lent.{lent_of}
use Rattle.disc_tree.specs.Entries.{IsIn}
use Rattle.unit_cutting.specs.Subsuming.{CoversNotAt}
use Rattle.unit_cutting.proofs.index.UnitIndex.covering_one_of.Given as goal

abbrev pub invariant-loop-number : goal.invariant-loop-number
invariant-loop-number l =
    (n : ℕ) → IsIn n (take l.number-index l.numbers) → CoversNotAt l.self l.left_out l.names (lent_of l.literal) n
