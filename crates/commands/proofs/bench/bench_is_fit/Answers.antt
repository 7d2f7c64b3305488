use Rattle.std.proofs.Common.{ap, sym, subst, ◌∙◌}
use Rattle.clausal_form.specs.Fault.{form_fault}
use Rattle.commands.specs.AnswerShape.{IsAdmissible}
use Rattle.commands.proofs.AboutBench.FormLemmas.{bench-within}
use Rattle.commands.proofs.AboutBench.ProblemLemmas.{bench-admissible}
use Rattle.commands.proofs.bench.bench_is_fit.Goals as goal

pub returns-clause-admissible : goal.returns-clause-admissible
returns-clause-admissible c = subst IsAdmissible (sym c.requires.made) (bench-admissible c.args.number c.requires.most)

pub returns-clause-within : goal.returns-clause-within
returns-clause-within c = ap form_fault c.requires.made ∙ bench-within c.args.number c.requires.most
