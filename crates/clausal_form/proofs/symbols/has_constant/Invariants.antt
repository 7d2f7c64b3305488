use Rattle.std.proofs.Common.{◌≡◌, drop}
use Rattle.std.specs.List.{list_any}
use Rattle.signature.specs.Form.{is_constant}
use Rattle.clausal_form.proofs.symbols.has_constant.Given as goal

abbrev pub invariant-loop-symbol : goal.invariant-loop-symbol
invariant-loop-symbol l = list_any is_constant (drop l.symbol-index l.symbols) ≡ list_any is_constant l.symbols
