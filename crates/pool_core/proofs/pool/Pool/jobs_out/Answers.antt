use Rattle.std.proofs.Common.{arith}
use Rattle.pool_core.proofs.AboutClaims.FitLemmas.{jobs-fit}
use Rattle.pool_core.proofs.pool.Pool.jobs_out.Goals as goal

pub overflow_cast-given : goal.overflow_cast-given
overflow_cast-given c = let few = jobs-fit c.self.inside c.self.invariant in let same = c.len-given.ensures.len in omega (arith, few, same)
