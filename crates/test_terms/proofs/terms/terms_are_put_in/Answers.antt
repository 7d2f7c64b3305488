use Rattle.std.proofs.Common.{length, arith}
use Rattle.fol_base.specs.Literal.{literal_of}
use Rattle.fol_base.specs.Term.{tree_of}
use Rattle.fol_base.proofs.AboutTerms.VariableLemmas.{VariablesBelow-bound, LiteralVariablesBelow-bound}
use Rattle.test_terms.proofs.terms.terms_are_put_in.Goals as goal

pub apply-requires : goal.apply-requires
apply-requires g c =
    VariablesBelow-bound (length c.push.new.self) (tree_of c.expect-pattern.result)
    (omega (arith, c.variable_bound.ensures.value, c.len.ensures))

pub apply_literal-requires : goal.apply_literal-requires
apply_literal-requires g c =
    LiteralVariablesBelow-bound (length c.push.new.self) (literal_of c.atom-literal.result)
    (omega (arith, c.variable_bound-2.ensures.value, c.len.ensures))
