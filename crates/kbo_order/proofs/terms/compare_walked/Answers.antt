use Rattle.std.proofs.Common.{sym, subst, ⊎_elim}
use Rattle.fol_base.specs.Instance.{instance}
use Rattle.fol_base.specs.Term.{tree_of}
use Rattle.kbo_order.specs.Block.{IsStrict, InBlock}
use Rattle.kbo_order.proofs.AboutReading.FurtherLemmas.{answer-plain, answer-compared, answer-first}
use Rattle.kbo_order.proofs.terms.compare_walked.Goals as goal

pub compare_in_blocks-requires-clause-answered : goal.compare_in_blocks-requires-clause-answered
compare_in_blocks-requires-clause-answered g c =
    let first = c.compare_in_block-first.result in
    let strict : IsStrict first.answer = ⊎_elim (λ e. subst IsStrict (sym e) tt) (λ e. subst IsStrict (sym e) tt) c.in-Greater.is in
    answer-first first.answer (instance (g.S.LendsTerms.meaning c.args.left_bind.now) (tree_of c.args.left.now)) (instance (g.T.LendsTerms.meaning c.args.right_bind.now) (tree_of c.args.right.now)) first.next strict
    c.compare_in_block-first.ensures.left_clear c.compare_in_block-first.ensures.right_clear c.compare_in_block-first.ensures.answer

pub returns-in-Equal : goal.returns-in-Equal
returns-in-Equal g c =
    let first = c.compare_in_block-first.result in
    let s = instance (g.S.LendsTerms.meaning c.args.left_bind.now) (tree_of c.args.left.now) in
    let t = instance (g.T.LendsTerms.meaning c.args.right_bind.now) (tree_of c.args.right.now) in
    answer-compared first.answer s t
    (answer-plain (InBlock 0) first.answer s t
    (λ h. ⊎_elim (λ e. subst IsStrict e h) (λ e. subst IsStrict e h) c.in-Equal.is)
    c.compare_in_block-first.ensures.answer)
