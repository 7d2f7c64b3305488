use Rattle.std.proofs.Common.{refl}
use Rattle.std.specs.Fmt.{digits}
use Rattle.signature.proofs.laws.problem_examples.entry_examples.Goals as goal

pub returns : goal.returns
unfolding digits
returns c = record {
  clauses = refl;
  origins = refl;
  symbols = refl;
  closed = refl;
  closed_already = refl;
  negated_clause = refl;
}
