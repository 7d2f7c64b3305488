use Rattle.std.proofs.Common.{◌≡◌, ◌+◌, map, ap, ◌∙◌, arith}
use Rattle.std.specs.Prelude.{sum_by}
use Rattle.std.proofs.lemmas.List.{take_all}
use Rattle.plain_types.specs.Capped.{capped}
use Rattle.fol_base.specs.Clause.{clause_size}
use Rattle.fol_base.specs.Literal.{literal_of, clause_of}
use Rattle.finite_models.specs.Measure.{literal_occurrences, variable_count}
use Rattle.finite_models.proofs.AboutLoops.MeasureLemmas.{capped-next, capped-weighted}
use Rattle.finite_models.proofs.AboutLoops.WalkLemmas.{sum-more}
use Rattle.finite_models.proofs.measuring.clause_measure.Goals as goal

pub loop-literal-preserved : goal.loop-literal-preserved
loop-literal-preserved c =
    capped-next (variable_count (clause_of c.args.clause.now)) _ _ _ _ _ _ c.loop-literal.invariant c.literal_occurrences.ensures
    c.saturating_add-exponent.ensures
    (sum-more literal_occurrences literal_of c.as_slice-literal-items.result.now c.loop-literal.literal-index c.literal-item.result c.loop-literal-test.true c.literal-item.is)

pub returns : goal.returns
returns c =
    let all = take_all c.loop-literal.literal-index c.as_slice-literal-items.result.now (omega (arith, c.loop-literal-test.false)) in
    let whole : c.loop-literal.exponent ≡ capped (variable_count (clause_of c.args.clause.now) + sum_by literal_occurrences (clause_of c.args.clause.now).literals) =
    c.loop-literal.invariant
    ∙ ap (λ xs. capped (variable_count (clause_of c.args.clause.now) + sum_by literal_occurrences (map literal_of xs))) (all ∙ c.as_slice-literal-items.ensures) in
    capped-weighted (clause_size (clause_of c.args.clause.now)) c.args.size _ c.size.result c.loop-literal.exponent c.power.result _ c.size.ensures
    whole c.power.ensures c.saturating_mul.ensures
