use Rattle.std.proofs.Common.{ap, ◌∙◌}
use Rattle.std.proofs.lemmas.Result.{IfOk-weaker}
use Rattle.fol_base.specs.declared.clause.Side.TheVariants.{Left}
use Rattle.unifier.specs.SolvedForm.{substitution_of}
use Rattle.eq_rules.specs.Factoring.{literal_allows}
use Rattle.eq_rules.proofs.factoring.is_surely_largest.Goals as goal

pub returns-then-larger : goal.returns-then-larger
returns-then-larger c =
    let σ = substitution_of c.args.unifier.now Left in
    IfOk-weaker c.outsizes_others.result _ _
    (λ largest outsizes yes_. record {
      beside = ap (literal_allows σ c.args.place.becomes.side) c.literal-becomes.ensures ∙ c.in_ok-larger.ensures c.if-larger.true;
      outsizes = outsizes yes_;
    })
    c.outsizes_others.ensures
