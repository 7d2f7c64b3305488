use Rattle.std.proofs.Common.{ap, sym, ◌∙◌, subst, arith}
use Rattle.std.proofs.lemmas.Bool.{both_ways, not-true, not-false}
use denote.Enum.Bare.{sameb}
use Rattle.kbo_order.specs.contracts.cmp.Cmp.{the_type}
use Rattle.fol_base.specs.Instance.{instance}
use Rattle.fol_base.specs.Term.{tree_of}
use Rattle.kbo_order.specs.declared.cmp.Cmp.{Cmp}
use Rattle.kbo_order.specs.declared.cmp.Cmp.TheVariants.{Unordered}
use Rattle.kbo_order.specs.Block.{Answers, InBlock, Below, GreaterOn}
use Rattle.kbo_order.proofs.AboutReading.BlockLemmas.{sameb-itself, sameb-says}
use Rattle.kbo_order.proofs.AboutReading.FurtherLemmas.{answer-split, answer-compared, answer-next, answer-last}
use Rattle.kbo_order.proofs.terms.compare_in_blocks.Goals as goal

pub returns-then-ne : goal.returns-then-ne
returns-then-ne g c =
    let s = instance (g.S.LendsTerms.meaning c.args.left_bind.now) (tree_of c.args.left.now) in
    let t = instance (g.T.LendsTerms.meaning c.args.right_bind.now) (tree_of c.args.right.now) in
    let start = c.loop-start.start in
    let block = c.compare_in_block-block.result.answer in
    answer-compared Unordered s t
    (answer-split (Below start) (InBlock start) c.args.answer block s t c.requires.strict
    (λ e.
    both_ways (sameb the_type block c.args.answer) (not-true (sameb the_type block c.args.answer) (sym c.ne.ensures ∙ c.if-ne.true))
    (ap (λ (x : Cmp). sameb the_type x c.args.answer) e ∙ sameb-itself c.args.answer))
    c.loop-start.invariant c.compare_in_block-block.ensures.answer)

pub loop-start-preserved : goal.loop-start-preserved
loop-start-preserved g c =
    let s = instance (g.S.LendsTerms.meaning c.args.left_bind.now) (tree_of c.args.left.now) in
    let t = instance (g.T.LendsTerms.meaning c.args.right_bind.now) (tree_of c.args.right.now) in
    let start = c.loop-start.start in
    let block = c.compare_in_block-block.result in
    let same = sameb-says block.answer c.args.answer (not-false (sameb the_type block.answer c.args.answer) (sym c.ne.ensures ∙ c.if-ne.false)) in
    answer-next c.args.answer s t start block.next c.requires.strict
    c.compare_in_block-block.ensures.left_clear c.compare_in_block-block.ensures.right_clear c.loop-start.invariant
    (subst (λ (x : Cmp). Answers (GreaterOn (InBlock start)) x s t) same c.compare_in_block-block.ensures.answer)

pub returns : goal.returns
returns g c =
    answer-last c.args.answer (instance (g.S.LendsTerms.meaning c.args.left_bind.now) (tree_of c.args.left.now)) (instance (g.T.LendsTerms.meaning c.args.right_bind.now) (tree_of c.args.right.now)) c.loop-start.start c.requires.strict
    (omega arith) c.requires.left_numbers c.requires.right_numbers c.loop-start.invariant
