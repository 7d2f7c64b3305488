use Rattle.std.proofs.Common.{map}
use Rattle.fol_base.specs.Literal.{clause_of}
use Rattle.split_parts.specs.SignedNames.{named}
use Rattle.pool_writer.proofs.AboutRetracing.RetraceLemmas.{IsBuilt}
use Rattle.pool_writer.proofs.retrace.refutation.Given as goal

abbrev pub invariant-loop-number : goal.invariant-loop-number
invariant-loop-number l = IsBuilt (map clause_of l.form) (named l.parts.parts) l.steps l.numbers l.number-index l.lines
