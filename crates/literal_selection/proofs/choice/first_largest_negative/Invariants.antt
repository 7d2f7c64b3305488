use Rattle.std.proofs.Common.{◌≡◌, take}
use Rattle.fol_base.specs.Selection.{greatest_negative_size, select_negative, chosen}
use Rattle.literal_selection.proofs.choice.first_largest_negative.Given as goal

abbrev pub invariant-loop-index : goal.invariant-loop-index
invariant-loop-index g l = record {
  largest : l.largest ≡ greatest_negative_size (take l.index (g.L.LendsLiterals.meaning l.literals));
  found : l.found ≡ chosen select_negative (take l.index (g.L.LendsLiterals.meaning l.literals));
}
