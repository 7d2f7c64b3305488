use Rattle.std.proofs.Common.{◌≡◌, ℕ, ◌-◌, ◌<◌, ◌≤◌, get_or}
use Rattle.tptp_problem.proofs.name.folder_of.Given as goal

abbrev pub invariant-loop-at : goal.invariant-loop-at
invariant-loop-at l =
    record {
      below : l.end ≤ l.at;
      slash : 0 < l.end → get_or l.bytes (l.end - 1) 0 ≡ 47;
      none : (k : ℕ) → l.end ≤ k → k < l.at → get_or l.bytes k 0 ≡ 47 → ⊥;
    }
