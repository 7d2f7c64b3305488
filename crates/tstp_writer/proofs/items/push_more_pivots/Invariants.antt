use Rattle.std.proofs.Common.{◌≡◌, ◌++◌, map, drop}
use Rattle.kernel_steps.specs.Keys.{commas_before}
use Rattle.tstp_writer.specs.NameTexts.{signed_name_text}
use Rattle.tstp_writer.proofs.items.push_more_pivots.Given as goal

abbrev pub invariant-loop-pivot : goal.invariant-loop-pivot
invariant-loop-pivot l =
    l.page ++ commas_before (map (signed_name_text l.prefix) (drop l.pivot-index l.pivots))
    ≡ l.initial.page ++ commas_before (map (signed_name_text l.prefix) l.pivots)
