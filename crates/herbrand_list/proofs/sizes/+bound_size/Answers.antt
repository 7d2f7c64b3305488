use Rattle.std.proofs.Common.{arith, rules, List, ◌<◌, ◌+◌, ◌-◌, ◌*◌, ◌^◌, ◌∙◌, ap, sym, refl, min, map}
use Rattle.std.proofs.lemmas.List.{take_all}
use Rattle.fol_base.specs.Tree.{tree_size, trees_size, trees_of}
use Rattle.fol_base.specs.Term.{tree_of}
use Rattle.fol_base.specs.Instance.{instance, instances}
use Rattle.fol_base.specs.declared.term.Term.{Term}
use Rattle.fol_base.proofs.ListLemmas.{stopped_sum}
use Rattle.fol_base.proofs.AboutTerms.TermLemmas.{tree_size-item}
use Rattle.fol_base.proofs.AboutInstances.InstanceSizes.{instances_size-take_more}
use Rattle.herbrand_list.proofs.AboutListing.SizeLemmas.{application-sized}
use Rattle.herbrand_list.proofs.sizes.+bound_size.Goals as goal

pub bound_size-returns-in-Var : goal.bound_size-returns-in-Var
bound_size-returns-in-Var t c σ are =
    c.variable_size.ensures ∙ are c.in-Var.variable
    ∙ ap (λ x. min (tree_size (instance σ (tree_of x))) (2 ^ 64 - 1)) (sym c.in-Var.is)

pub bound_size-returns-in-App : goal.bound_size-returns-in-App
bound_size-returns-in-App t c σ are =
    application-sized σ c.in-App.field-0 c.in-App.arguments (map tree_of c.as_slice.result.now) (tree_of c.args.term.now) c.all_bound_size.result
    c.saturating_add.result (c.all_bound_size.ensures σ are) c.as_slice.ensures (ap tree_of c.in-App.is) c.saturating_add.ensures

pub bound_size-all_bound_size-requires : goal.bound_size-all_bound_size-requires
bound_size-all_bound_size-requires t c =
    let smaller : 2 * trees_size (trees_of (map tree_of c.as_slice.result.now)) + 1 < 2 * tree_size (tree_of c.args.term.now) =
    omega (arith, ap (λ ts. trees_size (trees_of ts)) c.as_slice.ensures, ap (λ x. tree_size (tree_of x)) c.in-App.is) in
    search rules

pub all_bound_size-loop-term-init : goal.all_bound_size-loop-term-init
all_bound_size-loop-term-init t c σ are = omega arith

pub all_bound_size-bound_size-requires : goal.all_bound_size-bound_size-requires
all_bound_size-bound_size-requires t c =
    let smaller : 2 * tree_size (tree_of c.term-item.result) < 2 * trees_size (trees_of (map tree_of c.args.terms.now)) + 1 =
    omega (arith, tree_size-item c.args.terms.now (map tree_of c.args.terms.now) _ _ refl c.loop-term-test.true c.term-item.is) in
    search rules

pub all_bound_size-loop-term-preserved : goal.all_bound_size-loop-term-preserved
all_bound_size-loop-term-preserved t c σ are =
    stopped_sum _ _ _ _ _ _ (c.loop-term.invariant σ are) (c.bound_size.ensures σ are) c.saturating_add-total.ensures
    ∙ ap (λ n. min n (2 ^ 64 - 1)) (sym (instances_size-take_more σ _ _ _ c.loop-term-test.true c.term-item.is))

pub all_bound_size-returns : goal.all_bound_size-returns
all_bound_size-returns t c σ are =
    c.loop-term.invariant σ are
    ∙ ap (λ (ts : List Term). min (trees_size (instances σ (trees_of (map tree_of ts)))) (2 ^ 64 - 1))
    (take_all c.loop-term.term-index c.args.terms.now c.loop-term-test.false)
