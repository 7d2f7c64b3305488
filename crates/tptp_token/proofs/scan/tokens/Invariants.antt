use Rattle.std.proofs.Common.{◌≡◌, ◌-◌, ◌≤◌, length}
use Rattle.tptp_token.specs.Lexing.{lexed_from, lexed_of}
use Rattle.tptp_token.proofs.AboutTexts.PieceLemmas.{after}
use Rattle.tptp_token.proofs.scan.tokens.Given as goal

abbrev pub invariant-loop-first : goal.invariant-loop-first
invariant-loop-first l =
    record {
      within : length l.rest ≤ length l.bytes;
      whole : lexed_of l.bytes ≡ after l.tokens (lexed_from (length l.bytes - length l.rest) 0 l.rest);
    }

abbrev pub decreases-loop-first : goal.decreases-loop-first
decreases-loop-first l = length l.rest
