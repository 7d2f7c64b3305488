use Rattle.std.proofs.Common.{◌∙◌}
use Rattle.tstp_checker.specs.Inputs.{says}
use Rattle.tstp_checker.proofs.AboutVerdicts.InputLemmas.{whole-search}
use Rattle.tstp_checker.proofs.inputs.Inputs.place_of.Goals as goal

pub returns : goal.returns
returns c = c.copied.ensures ∙ c.get.ensures.value ∙ c.requires c.args.entry ∙ whole-search (says c.args.entry) c.args.self.now.formulas.now
