use Rattle.std.proofs.Common.{ap, ◌∙◌}
use Rattle.plain_types.specs.Names.{without}
use Rattle.kernel_steps.proofs.AboutNames.NameSetLemmas.{remove-positive, remove-negative}
use Rattle.kernel_steps.proofs.name_set.NameSet.remove.Goals as goal

pub returns-then-name : goal.returns-then-name
returns-then-name c =
    remove-positive c.args.name c.self.inside.negative.keys c.self.inside.positive.keys c.remove.new.self.keys c.if-name.true
    c.remove.ensures.updates.0
    ∙ ap (without c.args.name) c.self.view_is

pub returns-else-name : goal.returns-else-name
returns-else-name c =
    remove-negative c.args.name c.self.inside.negative.keys c.self.inside.positive.keys c.remove-else-name.new.self.keys
    c.if-name.false c.remove-else-name.ensures.updates.0
    ∙ ap (without c.args.name) c.self.view_is
