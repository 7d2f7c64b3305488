use Rattle.std.proofs.Common.{[], length, ap, arith}
use Rattle.sort_checks.proofs.ScopeLemmas.{put-long}
use Rattle.sort_checks.proofs.scope.Scope.len.Goals as goal

pub returns : goal.returns
returns c = omega (arith, c.len.ensures, put-long [] c.self.inside.variables.items, ap length c.self.view_is)
