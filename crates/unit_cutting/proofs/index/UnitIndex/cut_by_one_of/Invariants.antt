use Rattle.std.proofs.Common.{◌≡◌, ℕ, take}
use Rattle.fol_base.specs.Literal.{clause_of}
use Rattle.disc_tree.specs.Entries.{IsIn}
use Rattle.unit_cutting.specs.Cuts.{SignedCutsNone}
use Rattle.unit_cutting.proofs.index.UnitIndex.cut_by_one_of.Given as goal

abbrev pub invariant-loop-number : goal.invariant-loop-number
invariant-loop-number l =
    (l.reduced ≡ l.fn.reduced)
    × ((n : ℕ) → IsIn n (take l.number-index l.numbers) → SignedCutsNone l.self l.left_out l.positive (clause_of l.fn.reduced.clause) n)
