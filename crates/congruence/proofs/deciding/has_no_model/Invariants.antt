use Rattle.congruence.specs.Models.{AreExtended}
use Rattle.congruence.proofs.AboutModels.EndLemmas.{models_left}
use Rattle.congruence.proofs.deciding.has_no_model.Given as goal

abbrev pub invariant-models : goal.invariant-models
invariant-models l = AreExtended l.nodes l.atoms l.initial.clauses l.clauses

abbrev pub decreases-models : goal.decreases-models
decreases-models l = models_left l.names l.clauses
