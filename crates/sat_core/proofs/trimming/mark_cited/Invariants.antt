use Rattle.std.proofs.Common.{◌≡◌, ℕ, ◌&&◌, ◌||◌, false, length, take, get_or}
use Rattle.std.specs.Prelude.{nat_lt}
use Rattle.sat_core.proofs.AboutAnswers.TrimLemmas.{cited_so_far}
use Rattle.sat_core.proofs.trimming.mark_cited.Given as goal

abbrev pub invariant-loop-link : goal.invariant-loop-link
invariant-loop-link l = record {
  count : length l.needed.items ≡ length l.fn.needed.items;
  marks :
      (k : ℕ) → get_or l.needed.items k false
      ≡ (get_or l.fn.needed.items k false || (nat_lt k l.index && cited_so_far l.inputs k (get_or l.clauses.starts.items l.index 0) (take l.link-index l.link-items)));
}
