use Rattle.std.proofs.Common.{sym, ◌∙◌}
use Rattle.fol_base.specs.Lent.{lent_of}
use Rattle.fol_base.specs.Literal.{literal_of}
use Rattle.fol_base.specs.Order.{equivalent_literals}
use Rattle.fol_base.proofs.WorkedExamples.TestLemmas.{list_any-map}
use Rattle.unit_cutting.proofs.tautology.has_equivalent.Goals as goal

pub returns : goal.returns
returns c = c.is_among.ensures ∙ sym (list_any-map (equivalent_literals (lent_of c.args.wanted)) literal_of c.args.literals.now)
