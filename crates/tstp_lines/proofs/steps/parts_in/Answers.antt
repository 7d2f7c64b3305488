use Rattle.clausal_form.specs.DerivationItems.{numbers_in}
use Rattle.tstp_lines.proofs.AboutItems.ItemLemmas.{list-read}
use Rattle.tstp_lines.proofs.steps.parts_in.Goals as goal

pub returns-in-Some : goal.returns-in-Some
returns-in-Some c = list-read c.all_parts.result numbers_in _ _ c.in-Some.ensures c.all_parts.ensures
