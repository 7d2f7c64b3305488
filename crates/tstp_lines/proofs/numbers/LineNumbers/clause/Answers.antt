use Rattle.tptp_tree.specs.Shape.{formula_of}
use Rattle.tstp_lines.proofs.AboutReadings.WrittenLemmas.{written-literals}
use Rattle.tstp_lines.proofs.numbers.LineNumbers.clause.Goals as goal

pub literals-requires : goal.literals-requires
literals-requires c =
    written-literals c.args.names.now (formula_of c.args.formula.now) _ c.requires c.literals_of-written.ensures
