use Rattle.std.proofs.Common.{◌≡◌, ◌+◌, ◌-◌, ◌≤◌, length, drop}
use Rattle.tptp_token.specs.Longest.{longest}
use Rattle.tptp_token.specs.Pieces.{fills}
use Rattle.tptp_token.proofs.quote.filled_length.Given as goal

abbrev pub invariant-loop-at : goal.invariant-loop-at
invariant-loop-at l =
    record {
      within : l.at ≤ length l.inside;
      counted : longest (fills l.quote) l.inside ≡ l.at + longest (fills l.quote) (drop l.at l.inside);
    }

abbrev pub decreases-loop-at : goal.decreases-loop-at
decreases-loop-at l = length l.inside - l.at
