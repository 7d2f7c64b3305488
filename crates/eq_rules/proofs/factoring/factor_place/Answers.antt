use Rattle.std.proofs.Common.{◌+◌, List, sym, subst}
use Rattle.eq_rules.specs.Factoring.{factor_key, factors_before, number_of}
use Rattle.eq_rules.specs.Inferences.{AreInferences, alone}
use Rattle.eq_rules.specs.Trying.{IsTried}
use Rattle.eq_rules.specs.declared.inference.Inference.{Inference}
use Rattle.eq_rules.proofs.AboutFactoring.FactoringLists.{factorings-push, factorings-none}
use Rattle.eq_rules.proofs.factoring.factor_place.Goals as goal

pub returns-in_ok-push : goal.returns-in_ok-push
returns-in_ok-push c mode none before usage used =
    let p = usage.is_predicate in
    let m = c.args.given.now in
    let place = c.args.place in
    subst (λ (es : List Inference). AreInferences p mode (alone m) (factors_before (number_of place.becomes) (number_of place.other + 1)) es)
    (sym c.in_ok-push.ensures.items)
    (factorings-push p mode m place c.args.found.now.items c.in-Some.result (before usage used)
    (subst (λ o. IsTried p mode (alone m) (factor_key m.number place) o) c.in-Some.is (c.in_ok-result.ensures mode none usage used)))

pub returns-in_default : goal.returns-in_default
returns-in_default c mode none before usage used =
    let p = usage.is_predicate in
    let m = c.args.given.now in
    let place = c.args.place in
    factorings-none p mode m place c.args.found.now.items (before usage used)
    (subst (λ o. IsTried p mode (alone m) (factor_key m.number place) o) c.in_default.is (c.in_ok-result.ensures mode none usage used))
