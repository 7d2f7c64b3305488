use Rattle.std.proofs.Common.{◌≡◌, map, take}
use Rattle.tptp_tree.specs.Shape.{formula_of}
use Rattle.tptp_tree.proofs.formula.+copy_formulas.Given as goal

abbrev pub invariant-Formulas::copy-loop-formula : goal.invariant-Formulas::copy-loop-formula
invariant-Formulas::copy-loop-formula l = map formula_of l.items.items ≡ map formula_of (take l.formula-index l.formula-items)
