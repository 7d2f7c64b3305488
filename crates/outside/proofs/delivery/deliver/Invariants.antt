use Rattle.std.proofs.Common.{◌≡◌, ◌≤◌, ◌-◌, length}
use Rattle.std.specs.Prelude.{take, drop}
use Rattle.outside.specs.Sink.{with_bytes}
use Rattle.outside.proofs.Delivered.{Completes}
use Rattle.outside.proofs.delivery.deliver.Given as goal

-- what was taken is the text up to the rest, whose writes are still to be made
abbrev pub invariant-loop-rest : goal.invariant-loop-rest
invariant-loop-rest g l =
    let done = length l.text - length l.rest in
    record {
      fits : length l.rest ≤ length l.text;
      rest : l.rest ≡ drop done l.text;
      taken : g.S.Sink.taken l.sink ≡ with_bytes (g.S.Sink.taken l.fn.sink) (take done l.text);
      stays : g.S.Sink.faults l.sink ≡ g.S.Sink.faults l.fn.sink;
      completes : Completes g.S.Sink.gives l.fn.sink l.text l.sink l.rest;
    }

abbrev pub decreases-loop-rest : goal.decreases-loop-rest
decreases-loop-rest g l = length l.rest
