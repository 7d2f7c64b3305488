use Rattle.std.proofs.Common.{ℕ, List, ◌++◌, ◌∷◌, [], map, ap, ap₂, sym, ◌∙◌}
use Rattle.std.proofs.lemmas.List.{take_all}
use Rattle.fol_base.specs.Term.{tree_of}
use Rattle.fol_base.specs.Instance.{instance}
use Rattle.fol_base.specs.declared.term.Term.{Term}
use Rattle.herbrand_list.specs.Worked.{stopped_size}
use Rattle.herbrand_list.proofs.AboutListing.SizeLemmas.{bound-more}
use Rattle.herbrand_list.proofs.sizes.bound_sizes.Goals as goal

pub loop-term-init : goal.loop-term-init
loop-term-init c σ are = c.in_ok-made.ensures.items

pub loop-term-preserved : goal.loop-term-preserved
loop-term-preserved c σ are =
    c.in_ok-push.ensures.items
    ∙ ap₂ (λ (xs : List ℕ) (x : ℕ). xs ++ x ∷ []) (c.loop-term.invariant σ are) (c.bound_size.ensures σ are)
    ∙ sym (bound-more σ c.args.terms.now c.loop-term.term-index c.term-item.result c.loop-term-test.true c.term-item.is)

pub returns : goal.returns
returns c σ are =
    c.loop-term.invariant σ are
    ∙ ap (λ (ts : List Term). map stopped_size (map (instance σ) (map tree_of ts))) (take_all c.loop-term.term-index c.args.terms.now c.loop-term-test.false)
