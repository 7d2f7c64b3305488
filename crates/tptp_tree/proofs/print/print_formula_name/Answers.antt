use Rattle.std.proofs.Common.{rules}
use Rattle.tptp_tree.proofs.AboutNames.FormulaNames.{formula_name-again}
use Rattle.tptp_tree.proofs.print.print_formula_name.Goals as goal

pub returns-clause-read_again : goal.returns-clause-read_again
returns-clause-read_again c = λ other s. formula_name-again c.from_vec.result other c.args.name.now (search rules) s
