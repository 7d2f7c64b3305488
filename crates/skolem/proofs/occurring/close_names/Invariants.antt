use Rattle.std.proofs.Common.{◌≡◌, length, take, drop}
use Rattle.skolem.specs.Progress.{environment_of, with_closed, AreClosedFrom}
use Rattle.skolem.proofs.occurring.close_names.Given as goal

abbrev pub invariant-loop-name : goal.invariant-loop-name
invariant-loop-name l =
    (with_closed (drop l.name-index l.names) (environment_of l.bindings) ≡ with_closed l.names (environment_of l.initial.bindings))
    × ((take (length l.initial.bindings) l.bindings ≡ l.initial.bindings) × AreClosedFrom (length l.initial.bindings) l.bindings)
