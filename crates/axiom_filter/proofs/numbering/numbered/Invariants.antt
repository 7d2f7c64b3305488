use Rattle.std.proofs.Common.{◌≡◌, [], ◌++◌, drop, fold, flat_map}
use Rattle.signature.specs.Symbol.{with_symbol}
use Rattle.signature.specs.Occurrences.{annotated_symbols}
use Rattle.axiom_filter.specs.Numbering.{formula_rows}
use Rattle.axiom_filter.proofs.numbering.numbered.Given as goal

abbrev pub invariant-loop-annotated : goal.invariant-loop-annotated
invariant-loop-annotated l = record {
  rows : l.rows.items ++ formula_rows l.known.keys (drop l.annotated-index l.formulas) ≡ formula_rows [] l.formulas;
  known : fold with_symbol l.known.keys (flat_map annotated_symbols (drop l.annotated-index l.formulas)) ≡ fold with_symbol [] (flat_map annotated_symbols l.formulas);
}
