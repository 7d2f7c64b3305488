use Rattle.fol_base.specs.Clause.{clause_size}
use Rattle.fol_base.specs.Literal.{clause_of}
use Rattle.demodulate.specs.Rank.{clause_rank}
use Rattle.rewriting.specs.NormalTerms.{RemembersNormal}
use Rattle.rewriting.specs.Searching.{usable_by}
use Rattle.demodulate.proofs.AboutSteps.NormalLemmas.{Lasts}
use Rattle.demodulate.proofs.normal.normal_form.Given as goal
use Rattle.demodulate.proofs.AboutSteps.BoundLemmas.{bound_for}

abbrev pub invariant-steps : goal.invariant-steps
invariant-steps l = record {
  lasts : Lasts l.by.units.now l.by.left_out (clause_of l.clause) l.made;
  remembers : RemembersNormal (usable_by l.by) l.normal;
}

abbrev pub decreases-steps : goal.decreases-steps
decreases-steps l =
    clause_rank (bound_for (clause_of l.clause) l.by.units.now) (clause_size (clause_of l.clause)) (clause_of l.made.clause)
