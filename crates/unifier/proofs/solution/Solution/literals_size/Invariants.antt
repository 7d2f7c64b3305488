use Rattle.std.proofs.Common.{◌≡◌, take}
use Rattle.std.specs.Prelude.{sum_by}
use Rattle.fol_base.specs.Clause.{literal_size}
use Rattle.fol_base.specs.Ground.{literals_instance}
use Rattle.term_bank.specs.Literal.{literals_at}
use Rattle.unifier.specs.Solution.{solved_form}
use Rattle.unifier.specs.SolvedForm.{substitution_of}
use Rattle.plain_types.specs.Capped.{capped}
use Rattle.unifier.proofs.solution.Solution.literals_size.Given as goal

abbrev pub invariant-loop-literal : goal.invariant-loop-literal
invariant-loop-literal l =
    l.total ≡ capped (sum_by literal_size (literals_instance (substitution_of (solved_form l.self) l.side) (literals_at (take l.literal-index l.literals))))
