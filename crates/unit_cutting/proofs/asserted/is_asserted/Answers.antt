use Rattle.std.proofs.Common.{◌∙◌}
use Rattle.unit_cutting.proofs.AboutCuts.CutAnswers.{asserted-any}
use Rattle.unit_cutting.proofs.asserted.is_asserted.Goals as goal

pub returns : goal.returns
returns c = c.has_negative.ensures ∙ asserted-any c.args.number c.args.names.now
