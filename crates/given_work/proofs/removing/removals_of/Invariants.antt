use Rattle.std.proofs.Common.{take}
use Rattle.given_work.specs.Removing.{AreRemovalsAmong}
use Rattle.given_work.specs.Store.{members_in}
use Rattle.given_work.proofs.removing.removals_of.Given as goal

abbrev pub invariant-loop-candidate : goal.invariant-loop-candidate
invariant-loop-candidate l =
    AreRemovalsAmong l.known.split (members_in l.known.store.now.slots.items) l.given (take l.candidate-index l.candidate-items) l.removals.items
