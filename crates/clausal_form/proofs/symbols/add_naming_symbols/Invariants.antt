use Rattle.std.proofs.Common.{◌≡◌, ◌++◌, drop}
use Rattle.signature.specs.Symbol.{predicate_symbol}
use Rattle.signature.specs.Form.{AreUnused, numbered_symbols}
use Rattle.clausal_form.specs.Symbols.{with_names}
use Rattle.clausal_form.proofs.symbols.add_naming_symbols.Given as goal

abbrev pub invariant-loop-arity : goal.invariant-loop-arity
invariant-loop-arity l =
    (l.signature ++ numbered_symbols predicate_symbol l.prefix l.number (drop l.arity-index l.arities) ≡ with_names l.prefix l.arities l.initial.signature)
    × AreUnused l.signature l.prefix l.number
