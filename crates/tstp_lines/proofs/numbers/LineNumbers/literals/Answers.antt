use Rattle.fol_base.specs.Literal.{literal_of}
use Rattle.tstp_lines.proofs.AboutReadings.ClauseLemmas.{is-ordinary, mapped-last, literals-go}
use Rattle.tstp_lines.proofs.numbers.LineNumbers.literals.Goals as goal

pub loop-literal-preserved : goal.loop-literal-preserved
loop-literal-preserved c =
    literals-go _ _ _ _ _ _ _ _ _ _ c.loop-literal-test.true c.literal-item.is
    (is-ordinary _ _ c.literal_name.ensures c.if-is_some.ensures) c.in_ok-literal.ensures.met c.in_ok-literal.ensures.literal
    (mapped-last literal_of _ _ _ c.in_ok-push.ensures.ok) c.loop-literal.invariant
