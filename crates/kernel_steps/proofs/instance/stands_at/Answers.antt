use Rattle.std.proofs.Common.{◌≡◌, false, [], drop, Some, ap, sym, ◌∙◌}
use Rattle.std.specs.Prelude.{option_map, unwrap_or}
use Rattle.std.proofs.lemmas.List.{drop_all}
use Rattle.fol_base.specs.Tree.{tree_eq}
use Rattle.fol_base.specs.Instance.{instance}
use Rattle.fol_base.specs.Place.{subterm}
use Rattle.fol_base.specs.Term.{tree_of}
use Rattle.fol_base.proofs.AboutTerms.TreeLemmas.{tree_eq-sym}
use Rattle.kernel_steps.specs.Bound.{under}
use Rattle.kernel_steps.proofs.instance.stands_at.Goals as goal

pub returns-then-is_bound : goal.returns-then-is_bound
returns-then-is_bound g c =
    let term = instance (g.S.LendsTerms.meaning c.args.bind.now) (tree_of c.args.term.now) in
    let σ = g.T.LendsTerms.meaning c.args.host_bind.now in
    let end : drop c.loop-number.number-index c.args.place.now ≡ [] = drop_all c.loop-number.number-index c.args.place.now c.loop-number-test.false in
    c.is_instance.ensures
    ∙ tree_eq-sym term (tree_of c.loop-number.found.now)
    ∙ ap (λ o. unwrap_or (option_map (λ u. tree_eq u term) o) false)
    (ap (λ b. Some (under b σ (tree_of c.loop-number.found.now))) (sym c.if-is_bound.true)
    ∙ ap (λ p. subterm p (under c.loop-number.is_bound σ (tree_of c.loop-number.found.now))) (sym end)
    ∙ c.loop-number.invariant)
