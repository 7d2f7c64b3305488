use Rattle.std.proofs.Common.{◌≡◌, ◌++◌, ◌+◌, ◌*◌, map, drop}
use Rattle.tptp_tree.specs.Formula.{formula_size, formulas_size, formulas_of}
use Rattle.tptp_tree.specs.Shape.{formula_of}
use Rattle.signature.specs.Occurrences.{formulas_symbols}
use Rattle.axiom_filter.proofs.numbering.+push_formula_symbols.Given as goal

abbrev pub decreases-push_formula_symbols : goal.decreases-push_formula_symbols
decreases-push_formula_symbols l = 2 * formula_size (formula_of l.formula.now)

abbrev pub decreases-push_formulas_symbols : goal.decreases-push_formulas_symbols
decreases-push_formulas_symbols l = 2 * formulas_size (formulas_of (map formula_of l.formulas.now)) + 1

abbrev pub invariant-push_formulas_symbols-loop-formula : goal.invariant-push_formulas_symbols-loop-formula
invariant-push_formulas_symbols-loop-formula l =
    l.symbols ++ formulas_symbols (formulas_of (map formula_of (drop l.formula-index l.formulas))) ≡ l.initial.symbols ++ formulas_symbols (formulas_of (map formula_of l.formulas))
