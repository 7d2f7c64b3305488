use Rattle.std.proofs.Common.{◌≡◌, ◌++◌, List}
use Rattle.std.specs.Vec.Iter.{into_iter_items}
use Rattle.eq_rules.specs.declared.inference.Inference.{Inference}
use Rattle.demodulate.specs.Memory.{Remembers}
use Rattle.given_work.specs.Dropped.{AreDropped}
use Rattle.given_work.specs.Meeting.{AreEntriesOf}
use Rattle.given_work.proofs.entries.entries_of.Given as goal

abbrev pub invariant-loop-inference : goal.invariant-loop-inference
invariant-loop-inference l = record {
  entered :
      (done : List Inference)
      × (l.fn.inferences.items ≡ done ++ into_iter_items l.inference-iterator)
      × AreEntriesOf l.split l.by.equations.now l.by.units.now l.by.members.now done l.entries.items;
  memory : Remembers l.by.equations.now l.by.left_out l.memory;
  dropped : AreDropped l.by.equations.now l.by.units.now l.by.members.now l.dropped;
}
