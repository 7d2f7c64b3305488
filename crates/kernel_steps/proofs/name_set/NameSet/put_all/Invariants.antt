use Rattle.std.proofs.Common.{◌≡◌, drop}
use Rattle.kernel_steps.specs.Names.{with_names}
use Rattle.kernel_steps.proofs.name_set.NameSet.put_all.Given as goal

abbrev pub invariant-loop-name : goal.invariant-loop-name
invariant-loop-name l = with_names (drop l.name-index l.names) l.self ≡ with_names l.names l.initial.self
