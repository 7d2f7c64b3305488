use Rattle.std.proofs.Common.{◌≡◌}
use Rattle.tptp_tree.specs.Shape.{formula_of}
use Rattle.clausal_form.specs.DerivationClause.{is_written_clause}
use Rattle.tstp_lines.proofs.AboutReadings.WrittenLemmas.{written_from}
use Rattle.tstp_lines.proofs.written.is_written_clause.Given as goal

abbrev pub invariant-loop-literal : goal.invariant-loop-literal
invariant-loop-literal l = written_from l.names l.last l.literal-items l.literal-index ≡ is_written_clause l.names (formula_of l.formula)
