use Rattle.std.proofs.Common.{ap, ◌∙◌}
use Rattle.fol_base.specs.Subsumption.{assertions}
use Rattle.subsume.proofs.searching.query_for.Goals as goal

pub returns-clause-query : goal.returns-clause-query
returns-clause-query c = λ usage wf. record {
  target = record { literals = c.in_ok-lent_literals.ensures; assertions = c.in_ok-asserted_numbers.ensures ∙ ap assertions c.as_slice.ensures };
  features = c.of.ensures;
  of_use = wf;
}
