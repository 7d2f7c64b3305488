use Rattle.std.proofs.Common.{◌≡◌, ◌++◌, ◌+◌, ◌≤◌, length, take, drop}
use Rattle.signature.specs.Symbol.{function_symbol}
use Rattle.signature.specs.Form.{AreUnused, numbered_symbols}
use Rattle.skolem.proofs.symbols.push_symbols.Given as goal

abbrev pub invariant-loop-arity : goal.invariant-loop-arity
invariant-loop-arity l =
    (l.signature ++ numbered_symbols function_symbol l.prefix l.number (drop l.arity-index l.arities)
    ≡ l.initial.signature ++ numbered_symbols function_symbol l.prefix l.next l.arities)
    × ((l.number ≡ l.next + l.arity-index)
    × (AreUnused l.signature l.prefix l.number
    × ((take (length l.initial.signature) l.signature ≡ l.initial.signature) × (length l.initial.signature ≤ length l.signature))))
