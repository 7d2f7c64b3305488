use Rattle.std.proofs.Common.{map, take, arith, ap, ◌∙◌}
use Rattle.fol_base.specs.Canonical.{bound_of}
use Rattle.std.specs.Prelude.{flat_map}
use Rattle.fol_base.specs.Clause.{literal_variables}
use Rattle.fol_base.specs.Literal.{literal_of}
use Rattle.fol_base.proofs.AboutTerms.VariableLemmas.{literals_variables-take_more, bound_of-append}
use Rattle.fol_base.proofs.clause.Clause.variable_bound.Goals as goal

pub loop-literal-preserved : goal.loop-literal-preserved
loop-literal-preserved c =
    let more = ap bound_of (literals_variables-take_more c.as_slice-literal-items.result.now c.loop-literal.literal-index c.literal-item.result c.loop-literal-test.true c.literal-item.is) ∙ bound_of-append (flat_map literal_variables (map literal_of (take c.loop-literal.literal-index c.as_slice-literal-items.result.now))) (literal_variables (literal_of c.literal-item.result)) in
    (omega (arith, more), omega arith)
