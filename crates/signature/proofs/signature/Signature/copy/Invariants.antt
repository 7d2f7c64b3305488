use Rattle.std.proofs.Common.{◌≡◌, drop, fold}
use Rattle.signature.specs.Symbol.{with_symbol}
use Rattle.signature.proofs.signature.Signature.copy.Given as goal

abbrev pub invariant-loop-symbol : goal.invariant-loop-symbol
invariant-loop-symbol l = fold with_symbol l.symbols.keys (drop l.symbol-index l.symbol-items) ≡ l.symbol-items
