use Rattle.std.proofs.Common.{◌≡◌, drop}
use Rattle.plain_types.specs.Names.{without}
use Rattle.kernel_steps.specs.Names.{with_names}
use Rattle.kernel_steps.proofs.name_set.NameSet.put_others.Given as goal

abbrev pub invariant-loop-name : goal.invariant-loop-name
invariant-loop-name l =
    with_names (without l.left_out (drop l.name-index l.names)) l.self ≡ with_names (without l.left_out l.names) l.initial.self
