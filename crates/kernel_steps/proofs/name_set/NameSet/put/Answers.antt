use Rattle.std.proofs.Common.{ap, ◌∙◌}
use Rattle.kernel_steps.specs.Names.{with_name}
use Rattle.kernel_steps.proofs.AboutNames.NameSetLemmas.{put-positive, put-negative}
use Rattle.kernel_steps.proofs.name_set.NameSet.put.Goals as goal

pub returns-in_ok-insert : goal.returns-in_ok-insert
returns-in_ok-insert c =
    put-positive c.args.name c.self.inside.negative.keys c.self.inside.positive.keys c.insert.new.self.keys c.if-name.true
    c.in_ok-insert.ensures.updates.0
    ∙ ap (with_name c.args.name) c.self.view_is

pub returns-in_ok-insert-2 : goal.returns-in_ok-insert-2
returns-in_ok-insert-2 c =
    put-negative c.args.name c.self.inside.negative.keys c.self.inside.positive.keys c.insert-else-name.new.self.keys c.if-name.false
    c.in_ok-insert-2.ensures.updates.0
    ∙ ap (with_name c.args.name) c.self.view_is
