use Rattle.std.proofs.Common.{◌≡◌, ◌++◌, map, drop}
use Rattle.kernel_steps.specs.Keys.{commas_before}
use Rattle.tstp_writer.specs.LineTrees.{derived_name}
use Rattle.tstp_writer.proofs.sources.push_more_parents.Given as goal

abbrev pub invariant-loop-parent : goal.invariant-loop-parent
invariant-loop-parent l =
    l.page ++ commas_before (map (derived_name l.layout) (drop l.parent-index l.parents))
    ≡ l.initial.page ++ commas_before (map (derived_name l.layout) l.parents)
