use Rattle.std.proofs.Common.{◌≡◌, ◌++◌, map, drop}
use Rattle.fol_base.specs.Literal.{literal_of}
use Rattle.clausal_form.specs.Agenda.{lent_literal}
use Rattle.clausal_form.proofs.writing.clause_of_literals.Given as goal

abbrev pub invariant-loop-literal : goal.invariant-loop-literal
invariant-loop-literal l = map literal_of l.made.items ++ map lent_literal (drop l.literal-index l.literals) ≡ map lent_literal l.literals
