use Rattle.std.proofs.Common.{ap, sym, ◌∙◌}
use Rattle.std.specs.Prelude.{option_map}
use Rattle.tstp_lines.specs.Items.{into_meant}
use Rattle.tstp_lines.proofs.AboutItems.StepLemmas.{para-is}
use Rattle.tstp_lines.proofs.steps.para_step.Goals as goal

pub returns-in_default-read : goal.returns-in_default-read
returns-in_default-read c =
    para-is c.args.parents.now _ c.args.row.now _ _ c.from-item.result c.into-item.result _ _ c.in-Some.ensures c.in-Some-two_binds.ensures
    c.in-len2-up.len_at_least c.from-item.is c.into-item.is c.in-Some-of_literal.ensures
    (ap (option_map into_meant) (sym c.in_default-read.is) ∙ c.in_ok-read.ensures)

pub returns : goal.returns
returns c =
    para-is c.args.parents.now _ c.args.row.now _ _ c.from-item.result c.into-item.result _ _ c.in-Some.ensures c.in-Some-two_binds.ensures
    c.in-len2-up.len_at_least c.from-item.is c.into-item.is c.in-Some-of_literal.ensures
    (ap (option_map into_meant) (sym c.in-Some-read.is) ∙ c.in_ok-read.ensures)
