use Rattle.std.proofs.Common.{List, ◌-◌, ◌^◌, map, min, ap, sym, ◌∙◌, arith}
use Rattle.std.proofs.lemmas.List.{take_all}
use Rattle.fol_base.specs.Ground.{literals_instance}
use Rattle.fol_base.specs.Literal.{literal_of}
use Rattle.fol_base.specs.declared.clause.Literal.{Literal}
use Rattle.fol_base.proofs.ListLemmas.{stopped_sum}
use Rattle.herbrand_list.specs.GroundList.{ground_size}
use Rattle.herbrand_list.proofs.AboutListing.SizeLemmas.{literals-more}
use Rattle.herbrand_list.proofs.sizes.literals_size.Goals as goal

pub loop-literal-init : goal.loop-literal-init
loop-literal-init c σ are = omega arith

pub loop-literal-preserved : goal.loop-literal-preserved
loop-literal-preserved c σ are =
    stopped_sum _ _ _ _ _ _ (c.loop-literal.invariant σ are) (c.literal_size.ensures σ are) c.saturating_add-total.ensures
    ∙ ap (λ n. min n (2 ^ 64 - 1))
    (sym (literals-more σ c.args.literals.now c.loop-literal.literal-index c.literal-item.result c.loop-literal-test.true c.literal-item.is))

pub returns : goal.returns
returns c σ are =
    c.loop-literal.invariant σ are
    ∙ ap (λ (ls : List Literal). min (ground_size (literals_instance σ (map literal_of ls))) (2 ^ 64 - 1))
    (take_all c.loop-literal.literal-index c.args.literals.now c.loop-literal-test.false)
