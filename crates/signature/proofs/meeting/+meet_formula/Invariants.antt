use Rattle.std.proofs.Common.{◌≡◌, ◌+◌, ◌*◌, map, drop, fold}
use Rattle.tptp_tree.specs.Formula.{formula_size, formulas_size, formulas_of}
use Rattle.tptp_tree.specs.Shape.{formula_of}
use Rattle.signature.specs.Symbol.{with_symbol}
use Rattle.signature.specs.Occurrences.{formulas_symbols}
use Rattle.signature.proofs.meeting.+meet_formula.Given as goal

abbrev pub decreases-meet_formula : goal.decreases-meet_formula
decreases-meet_formula l = 2 * formula_size (formula_of l.formula.now)

abbrev pub decreases-meet_formulas : goal.decreases-meet_formulas
decreases-meet_formulas l = 2 * formulas_size (formulas_of (map formula_of l.formulas.now)) + 1

abbrev pub invariant-meet_formulas-loop-formula : goal.invariant-meet_formulas-loop-formula
invariant-meet_formulas-loop-formula l =
    fold with_symbol l.known.keys (formulas_symbols (formulas_of (map formula_of (drop l.formula-index l.formulas))))
    ≡ fold with_symbol l.initial.known.keys (formulas_symbols (formulas_of (map formula_of l.formulas)))
