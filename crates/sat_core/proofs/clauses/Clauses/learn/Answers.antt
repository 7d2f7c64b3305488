use Rattle.std.proofs.Common.{refl}
use Rattle.sat_core.proofs.AboutAnswers.TrimLemmas.{known_more}
use Rattle.sat_core.proofs.clauses.Clauses.learn.Goals as goal

pub returns-clause-known : goal.returns-clause-known
returns-clause-known c =
    known_more c.args.self.now _ _ _ _ c.requires.known c.requires.chain refl c.in_ok-push.ensures.more c.in_ok-push-2.ensures.items c.in_ok-push-3.ensures.more
