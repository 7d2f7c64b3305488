use Rattle.std.proofs.Common.{◌∙◌, sym}
use Rattle.tptp_reader.proofs.AboutSteps.StepLemmas.{mark-leads, mark-ends}
use Rattle.tptp_reader.proofs.source.Reader.after.Goals as goal

pub returns-then-is_mark-clause-leads : goal.returns-then-is_mark-clause-leads
returns-then-is_mark-clause-leads c = mark-leads _ _ _ _ c.in_ok-token.ensures.found (sym c.is_mark.ensures ∙ c.if-is_mark.true)

pub returns-else-is_mark-clause-ends : goal.returns-else-is_mark-clause-ends
returns-else-is_mark-clause-ends c = mark-ends _ _ _ _ c.in_ok-token.ensures.found (sym c.is_mark.ensures ∙ c.if-is_mark.false)
