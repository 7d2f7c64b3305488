use Rattle.std.proofs.Common.{◌≡◌, ◌+◌, ap, ◌∙◌}
use Rattle.std.specs.Prelude.{flat_map}
use Rattle.std.proofs.lemmas.Result.{IfOk-weaker}
use Rattle.fol_base.specs.Tree.{tree_variables}
use Rattle.fol_base.specs.Instance.{instance, substitution}
use Rattle.fol_base.specs.Clause.{literal_variables}
use Rattle.fol_base.specs.Lent.{lent_of}
use Rattle.fol_base.specs.Numbering.{with_variables}
use Rattle.eq_rules.specs.Steps.{factored_plain}
use Rattle.eq_rules.proofs.AboutConclusions.RenumberedLemmas.{variables_between}
use Rattle.eq_rules.proofs.AboutFactoring.FactorStepLemmas.{factored_met}
use Rattle.eq_rules.proofs.concluding.number_factored.Goals as goal

pub returns : goal.returns
returns g c =
    let σ = substitution c.args.terms.now in
    let ls = g.L.LendsLiterals.meaning c.args.literals.now in
    let place = c.args.place in
    let first = c.number_literals.new.numbers in
    let second = c.number_instance.new.numbers in
    let third = c.number_instance-2.new.numbers in
    let order = c.number_literals-2.new.numbers in
    IfOk-weaker c.number_literals-2.result
    (λ _. order ≡ with_variables third (variables_between σ ls (place.becomes.literal + 1) c.count-count.result))
    (λ _. order ≡ with_variables c.args.numbers.now (flat_map literal_variables (factored_plain ls σ place)))
    (λ _ last.
    factored_met σ ls place (lent_of c.literal.result) (lent_of c.literal-2.result) c.count-count.result c.args.numbers.now first second third order
    c.literal.ensures c.literal-2.ensures c.count-count.ensures c.in_ok-number_literals.ensures.met
    (c.in_ok-number_instance.ensures.met ∙ ap (λ x. with_variables first (tree_variables (instance σ x))) c.other_side-first.ensures)
    (c.in_ok-number_instance-2.ensures.met ∙ ap (λ x. with_variables second (tree_variables (instance σ x))) c.other_side-second.ensures)
    last)
    c.number_literals-2.ensures.met
