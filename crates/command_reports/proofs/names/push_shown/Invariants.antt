use Rattle.std.proofs.Common.{◌≡◌, ◌++◌, take}
use Rattle.command_reports.specs.Names.{shown}
use Rattle.command_reports.proofs.names.push_shown.Given as goal

abbrev pub invariant-loop-byte : goal.invariant-loop-byte
invariant-loop-byte l = l.page ≡ l.initial.page ++ shown (take l.byte-index l.bytes)
