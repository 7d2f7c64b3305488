-- What a queue keeps where a node was taken out of its tree.
use Rattle.std.proofs.Common.{◌≡◌, ℕ, ◌+◌, List, length, Box}
use Rattle.std.specs.declared.alloc.Global.{Global}
use Rattle.clause_queue.specs.Pairs.{without, IsRising}
use Rattle.clause_queue.specs.Node.{pair_of, Takes}
use Rattle.clause_queue.specs.TreeFalls.{length-with_pair}
use Rattle.clause_queue.specs.declared.tree.Node.{Node}
use Rattle.clause_queue.proofs.PairsLemmas.{rising_rest, without-with_pair}

-- of rising pairs, one was taken out
pub record IsTakenOut (number : ℕ) (old new : List (ℕ × ℕ)) : Type 0 where
  pub shorter : length old ≡ length new + 1
  pub rising : IsRising new
  pub is : new ≡ without number old

pub taken_out : (b : Box Node Global) (old new : List (ℕ × ℕ)) → Takes b old new → IsRising old → IsTakenOut b.value.entry.number old new
taken_out b old new taken rising =
    let rest = rising_rest (pair_of b.value.entry) new (rw taken.is at rising) in
    record {
      shorter = rw taken.is (length-with_pair (pair_of b.value.entry) new);
      rising = rest.0;
      is = rw (taken.is, without-with_pair (pair_of b.value.entry) new rest.1);
    }
