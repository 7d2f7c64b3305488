use Rattle.std.proofs.Common.{take}
use Rattle.unifier.specs.Resolving.{AreResolved}
use Rattle.unifier.proofs.layout.Layout.resolve_noted.Given as goal

abbrev pub invariant-loop-code : goal.invariant-loop-code
invariant-loop-code l = AreResolved l.apart l.equations l.initial.self l.self (take l.code-index l.code-items)
