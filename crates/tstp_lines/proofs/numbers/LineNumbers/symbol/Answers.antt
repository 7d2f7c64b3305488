use Rattle.std.proofs.Common.{ap}
use Rattle.signature.specs.Symbol.{same_symbol}
use Rattle.signature.specs.SymbolLaws.{same_symbols}
use Rattle.tstp_lines.specs.Numbers.{symbol_for}
use Rattle.tstp_lines.proofs.AboutReadings.TableLemmas.{added-number}
use Rattle.tstp_lines.proofs.numbers.LineNumbers.symbol.Goals as goal

pub returns-clause-number : goal.returns-clause-number
returns-clause-number c =
    added-number same_symbol c.add.result c.args.self.now.symbols c.add.new.self c.in_ok-copy.field-0 _
    (symbol_for c.args.kind c.args.name.now c.args.arguments) c.in_ok-copy.ensures
    (ap (symbol_for c.args.kind c.args.name.now) c.in_ok-arity.ensures)
    (same_symbols.refl (symbol_for c.args.kind c.args.name.now c.args.arguments)) c.in_default.ensures.found c.add.ensures.added
    c.add.ensures.number
