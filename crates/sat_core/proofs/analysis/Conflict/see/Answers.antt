use Rattle.std.proofs.Common.{arith}
use Rattle.std.proofs.lemmas.List.{get_or_default}
use Rattle.sat_core.proofs.AboutConflicts.AnalysisLemmas.{has_name_read}
use Rattle.sat_core.proofs.analysis.Conflict.see.Goals as goal

pub place-place-requires : goal.place-place-requires
place-place-requires c = c.requires _ (has_name_read c.args.literals.now c.loop-literal.literal-index _ (omega arith) (get_or_default c.args.literals.now _ _ _ (omega arith)))
