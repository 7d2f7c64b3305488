use Rattle.std.proofs.Common.{◌*◌, sym, subst, rules}
use Rattle.tptp_tree.specs.Levels.{SpellsFormulaWithin}
use Rattle.tptp_tree.specs.Shape.{formula_of}
use Rattle.tptp_tree.proofs.AboutPrinting.AgainLemmas.{formula-again}
use Rattle.tptp_tree.proofs.AboutLevels.PrintedLevels.{printing-doubles}
use Rattle.tptp_tree.proofs.print.print_formula.Goals as goal

pub returns-clause-read_again : goal.returns-clause-read_again
returns-clause-read_again c =
    λ other s. formula-again c.from_vec.result other (formula_of c.args.formula.now) (search rules) s

pub returns-clause-within : goal.returns-clause-within
returns-clause-within c =
    λ levels other s. subst (λ text. SpellsFormulaWithin (2 * levels) text (formula_of c.args.formula.now))
    (sym (search rules)) (printing-doubles levels other (formula_of c.args.formula.now) s)
