use Rattle.std.proofs.Common.{rules}
use Rattle.given_work.proofs.AboutBatches.EntryLemmas.{entries-more}
use Rattle.given_work.proofs.entries.entries_of.Goals as goal

pub loop-inference-init : goal.loop-inference-init
loop-inference-init c = record {
  entered = search rules;
  memory = c.new-memory.ensures c.args.by.now.equations.now c.args.by.now.left_out;
  dropped = c.new-dropped.ensures c.args.by.now.equations.now c.args.by.now.units.now c.args.by.now.members.now;
}

pub loop-inference-preserved : goal.loop-inference-preserved
loop-inference-preserved c = record {
  entered =
      entries-more _ _ _ _ _ _ _ _ _ _ _ c.loop-inference.invariant.entered c.in-Some.ensures.steps.0 c.in_ok-push.ensures.items c.in_ok-entry_of.ensures.entry;
  memory = c.entry_of.ensures.memory;
  dropped = c.in_ok-entry_of.ensures.dropped;
}
