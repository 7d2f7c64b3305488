use Rattle.std.proofs.Common.{arith}
use Rattle.finite_models.proofs.AboutLoops.AddsLemmas.{value_name-below}
use Rattle.finite_models.proofs.functions.FunctionNames.name.Goals as goal

pub overflow_mul-result : goal.overflow_mul-result
overflow_mul-result c =
    omega (arith, value_name-below c.args.self.first c.args.self.size c.args.self.rows c.args.number c.args.value c.requires.number c.requires.value)

pub overflow_add-result : goal.overflow_add-result
overflow_add-result c =
    omega (arith, value_name-below c.args.self.first c.args.self.size c.args.self.rows c.args.number c.args.value c.requires.number c.requires.value)

pub overflow_add-result-2 : goal.overflow_add-result-2
overflow_add-result-2 c =
    omega (arith, value_name-below c.args.self.first c.args.self.size c.args.self.rows c.args.number c.args.value c.requires.number c.requires.value)

pub returns-clause-below : goal.returns-clause-below
returns-clause-below c =
    value_name-below c.args.self.first c.args.self.size c.args.self.rows c.args.number c.args.value c.requires.number c.requires.value
