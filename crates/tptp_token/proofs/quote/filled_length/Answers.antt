use Rattle.std.proofs.Common.{arith}
use Rattle.tptp_token.proofs.AboutTexts.FillLemmas.{fills-more, fills-end}
use Rattle.tptp_token.proofs.AboutLexemes.WordLemmas.{length-suffix}
use Rattle.list_lemmas.proofs.Places.{take-rest}
use Rattle.tptp_token.proofs.quote.filled_length.Goals as goal

pub returns-in-0-clause-length : goal.returns-in-0-clause-length
returns-in-0-clause-length c =
    fills-end _ _ _ _ (take-rest c.args.inside.now c.loop-at.at) (c.unit_length.ensures.stopped c.in-0.is) c.loop-at.invariant.counted

pub loop-at-preserved : goal.loop-at-preserved
loop-at-preserved c =
    record {
      within = omega (arith, c.unit_length.ensures.within, length-suffix c.args.inside.now c.loop-at.at);
      counted =
          fills-more _ _ _ _ _ (take-rest c.args.inside.now c.loop-at.at) c.unit_length.ensures.within
          (c.unit_length.ensures.right (omega arith)) c.loop-at.invariant.counted;
    }

pub returns-clause-length : goal.returns-clause-length
returns-clause-length c =
    fills-end _ _ _ _ (take-rest c.args.inside.now c.loop-at.at) (λ n l w. absurd (omega (arith, length-suffix c.args.inside.now c.loop-at.at))) c.loop-at.invariant.counted
