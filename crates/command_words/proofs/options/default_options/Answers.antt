use Rattle.std.proofs.Common.{ap, sym, subst, ◌∙◌, arith}
use Rattle.pool_history.specs.Inputs.{IsLimit}
use Rattle.command_words.specs.Words.{no_options, options_by}
use Rattle.command_words.proofs.options.default_options.Goals as goal

pub returns-clause-given : goal.returns-clause-given
returns-clause-given c = c.options.ensures ∙ ap options_by c.none.ensures

pub returns-clause-limit : goal.returns-clause-limit
returns-clause-limit c =
    let few : IsLimit (options_by no_options) = (omega arith, omega arith) in
    subst IsLimit (sym (c.options.ensures ∙ ap options_by c.none.ensures)) few
