use Rattle.std.proofs.Common.{◌≡◌, ◌-◌, drop}
use Rattle.tptp_token.specs.Pieces.{block_end}
use Rattle.tptp_token.proofs.AboutTexts.PieceLemmas.{later}
use Rattle.tptp_token.proofs.comment.block_end.Given as goal

abbrev pub invariant-loop-at : goal.invariant-loop-at
invariant-loop-at l = block_end l.bytes ≡ later (l.at - 1) (block_end (drop (l.at - 1) l.bytes))
