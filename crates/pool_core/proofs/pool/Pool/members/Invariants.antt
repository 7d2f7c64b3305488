use Rattle.pool_history.specs.Replay.{replay}
use Rattle.pool_core.proofs.AboutClaims.MemberLemmas.{AreMembersUpTo}
use Rattle.pool_core.proofs.pool.Pool.members.Given as goal

abbrev pub invariant-loop-number : goal.invariant-loop-number
invariant-loop-number l = AreMembersUpTo l.self.bank (replay l.self.origin l.self.history) l.number l.members
