use Rattle.std.proofs.Common.{false, true, ap, sym, ◌∙◌, map, ◌++◌}
use Rattle.plain_types.specs.Names.{has_name, signed}
use Rattle.kernel_steps.specs.Names.{are_sorted}
use Rattle.kernel_steps.proofs.AboutNames.NameRanks.{sorted_names-sorted}
use Rattle.kernel_steps.proofs.AboutNames.NameSetLemmas.{has-positive, has-negative}
use Rattle.kernel_steps.proofs.name_set.NameSet.has.Goals as goal

pub returns-then-name-clause-value : goal.returns-then-name-clause-value
returns-then-name-clause-value c =
    c.contains.ensures
    ∙ has-positive c.args.name c.self.inside.negative.keys c.self.inside.positive.keys c.if-name.true
    ∙ ap (has_name c.args.name) c.self.view_is

pub returns-else-name-clause-value : goal.returns-else-name-clause-value
returns-else-name-clause-value c =
    c.contains-else-name.ensures
    ∙ has-negative c.args.name c.self.inside.negative.keys c.self.inside.positive.keys c.if-name.false
    ∙ ap (has_name c.args.name) c.self.view_is

pub returns-then-name-clause-sorted : goal.returns-then-name-clause-sorted
returns-then-name-clause-sorted c =
    ap are_sorted (sym c.self.view_is)
    ∙ sorted_names-sorted (map (signed false) c.self.inside.negative.keys ++ map (signed true) c.self.inside.positive.keys)

pub returns-else-name-clause-sorted : goal.returns-else-name-clause-sorted
returns-else-name-clause-sorted c =
    ap are_sorted (sym c.self.view_is)
    ∙ sorted_names-sorted (map (signed false) c.self.inside.negative.keys ++ map (signed true) c.self.inside.positive.keys)
