use Rattle.std.proofs.Common.{length, arith}
use Rattle.fol_base.specs.Literal.{clause_of}
use Rattle.fol_base.proofs.AboutTerms.VariableLemmas.{ClauseVariablesBelow-bound}
use Rattle.test_terms.proofs.terms.clauses_are_renamed.Goals as goal

pub apply_clause-requires : goal.apply_clause-requires
apply_clause-requires g c =
    ClauseVariablesBelow-bound (length c.expect-made.result.1) (clause_of c.expect-read.result)
    (omega (arith, c.variable_bound.ensures.value, c.len.ensures))
