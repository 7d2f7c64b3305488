use Rattle.std.proofs.Common.{◌∙◌}
use Rattle.fol_base.proofs.AboutClauses.AssertionLemmas.{asserted-are}
use Rattle.fol_base.proofs.asserted.asserted_numbers.Goals as goal

pub returns : goal.returns
returns c = c.in_ok-asserted.ensures ∙ asserted-are c.args.names.now
