use Rattle.clausal_form.specs.DerivationItems.{introduced_in}
use Rattle.tstp_lines.proofs.AboutItems.ItemLemmas.{list-read}
use Rattle.tstp_lines.proofs.steps.pivots_in.Goals as goal

pub returns-in-Some : goal.returns-in-Some
returns-in-Some c = list-read c.all_pivots.result (introduced_in c.args.names.now) _ _ c.in-Some.ensures c.all_pivots.ensures
