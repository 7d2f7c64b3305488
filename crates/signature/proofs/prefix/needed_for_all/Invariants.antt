use Rattle.std.proofs.Common.{◌≡◌, max, drop}
use Rattle.signature.specs.Prefix.{needed}
use Rattle.signature.proofs.prefix.needed_for_all.Given as goal

abbrev pub invariant-loop-symbol : goal.invariant-loop-symbol
invariant-loop-symbol l = max l.count (needed (drop l.symbol-index l.symbols) l.base) ≡ needed l.symbols l.base
