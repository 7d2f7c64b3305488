use Rattle.std.proofs.Common.{arith}
use Rattle.skolem.proofs.AboutFormulas.OutlineLemmas.{once-same}
use Rattle.skolem.proofs.variable_list.VariableList.shorten.Goals as goal

pub returns-clause-same : goal.returns-clause-same
returns-clause-same c = λ v l.
    once-same 4294967295 c.args.self.now.variables.items c.in_ok-variables.variables.items (omega arith) c.in_ok-variables.ensures.found v l
