use Rattle.std.proofs.Common.{refl, arith, ◌∙◌}
use Rattle.std.proofs.lemmas.List.{length-set}
use Rattle.sat_core.proofs.AboutConflicts.MarkLemmas.{last_within, left_after}
use Rattle.sat_core.proofs.marks.Marks.clear.Goals as goal

pub loop-literal-init : goal.loop-literal-init
loop-literal-init c = record { left = c.requires; names = refl }

pub index_mut-requires : goal.index_mut-requires
index_mut-requires c = omega (arith, last_within _ _ _ c.in-Some.literal c.loop-literal.invariant.left c.in-Some.ensures.items)

pub loop-literal-preserved : goal.loop-literal-preserved
loop-literal-preserved c = record {
  left = left_after _ _ _ c.in-Some.literal c.loop-literal.invariant.left c.in-Some.ensures.items;
  names = length-set c.loop-literal.self.marked.items _ _ ∙ c.loop-literal.invariant.names;
}
