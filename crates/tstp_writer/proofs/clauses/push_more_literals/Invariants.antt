use Rattle.std.proofs.Common.{◌≡◌, ◌++◌, map, drop, codes}
use Rattle.tptp_tree.specs.Formula.{formulas_of}
use Rattle.tptp_tree.specs.Printing.{more_operands_text}
use Rattle.tstp_writer.specs.ClauseTrees.{literal_formula}
use Rattle.tstp_writer.proofs.clauses.push_more_literals.Given as goal

abbrev pub invariant-loop-index : goal.invariant-loop-index
invariant-loop-index g l =
    l.page ++ more_operands_text (codes " | ") (formulas_of (map (literal_formula l.symbols) (drop l.index (g.L.LendsLiterals.meaning l.literals))))
    ≡ l.initial.page ++ more_operands_text (codes " | ") (formulas_of (map (literal_formula l.symbols) (drop 1 (g.L.LendsLiterals.meaning l.literals))))
