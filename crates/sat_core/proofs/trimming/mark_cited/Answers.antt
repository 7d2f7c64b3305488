use Rattle.std.proofs.Common.{ℕ, false, ap, ◌∙◌, arith, get_or}
use Rattle.std.specs.Prelude.{nat_lt, ◌&&◌, ◌||◌}
use Rattle.sat_core.specs.Known.{log_of}
use Rattle.sat_core.specs.Trimming.{chain_at, cites}
use Rattle.sat_core.proofs.AboutAnswers.TrimLemmas.{marked_all}
use Rattle.sat_core.proofs.trimming.mark_cited.Goals as goal

pub returns-clause-marks : goal.returns-clause-marks
returns-clause-marks c k =
    marked_all _ _ c.len-inputs.result c.args.index k c.loop-link.link-index c.args.clauses.now.starts.items c.args.clauses.now.links c.get-link-items.result.now
    c.requires.lined c.requires.index c.get-link-items.ensures (omega arith) (c.loop-link.invariant.marks k)
    ∙ ap (λ (n : ℕ). get_or c.args.needed.now.items k false || (nat_lt k c.args.index && cites n k (chain_at (log_of c.args.clauses.now) c.args.index)))
    c.len-inputs.ensures.length
