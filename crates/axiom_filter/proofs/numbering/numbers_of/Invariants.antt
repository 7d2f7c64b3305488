use Rattle.std.proofs.Common.{◌≡◌, ◌++◌, fold}
use Rattle.std.specs.Vec.Iter.{into_iter_items}
use Rattle.signature.specs.Symbol.{with_symbol}
use Rattle.axiom_filter.specs.Numbering.{met_numbers}
use Rattle.axiom_filter.proofs.numbering.numbers_of.Given as goal

abbrev pub invariant-loop-symbol : goal.invariant-loop-symbol
invariant-loop-symbol l = record {
  row : l.row ++ met_numbers l.known.keys (into_iter_items l.symbol-iterator) ≡ met_numbers l.initial.known.keys l.fn.symbols.items;
  known : fold with_symbol l.known.keys (into_iter_items l.symbol-iterator) ≡ fold with_symbol l.initial.known.keys l.fn.symbols.items;
}
