use Rattle.std.proofs.Common.{◌≡◌, take}
use Rattle.std.specs.Prelude.{Ok}
use Rattle.outside.specs.Sink.{with_bytes}
use Rattle.command_reports.specs.Names.{shown}
use Rattle.commands.specs.Run.{DeliversInPieces}
use Rattle.commands.proofs.memory_out.deliver_shown.Given as goal

-- the bytes up to this one were taken, as they are shown
abbrev pub invariant-loop-byte : goal.invariant-loop-byte
invariant-loop-byte g l = record {
  taken : g.S.Sink.taken l.sink ≡ with_bytes (g.S.Sink.taken l.fn.sink) (shown (take l.byte-index l.bytes));
  stays : g.S.Sink.faults l.sink ≡ g.S.Sink.faults l.fn.sink;
  writes : DeliversInPieces g.S.Sink.gives l.fn.sink (shown (take l.byte-index l.bytes)) (Ok tt) l.sink;
}
