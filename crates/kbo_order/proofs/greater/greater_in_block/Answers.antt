use Rattle.std.proofs.Common.{◌+◌, ◌≤◌, sym, ◌∙◌, subst, arith}
use Rattle.fol_base.specs.Instance.{instance}
use Rattle.fol_base.specs.Term.{tree_of}
use Rattle.fol_base.specs.Tree.{application}
use Rattle.kbo_order.specs.Reading.{seen_from}
use Rattle.kbo_order.specs.Exceeding.{Exceeds}
use Rattle.kbo_order.proofs.AboutReading.ReadingLemmas.{seen-application}
use Rattle.kbo_order.proofs.AboutReading.OneWayLemmas.{exceeds-greater, exceeds-not_greater}
use Rattle.kbo_order.proofs.greater.greater_in_block.Goals as goal

pub returns-then-exceeds : goal.returns-then-exceeds
returns-then-exceeds g c =
    let σ = g.S.LendsTerms.meaning c.args.left_bind.now in
    let τ = g.T.LendsTerms.meaning c.args.right_bind.now in
    let b = c.head-top.result.is_bound in
    let d = c.head-other_top.result.is_bound in
    let xs = c.as_slice.result.now in
    let ys = c.as_slice-in-App-term.result.now in
    let old = c.starting_at-balance.result in
    let new = c.exceeds-exceeds.new.self in
    let past : old.start + 32 ≤ old.next =
    omega (arith, c.starting_at-balance.ensures.start, c.starting_at-balance.ensures.none_past, c.requires.start) in
    let s = application c.in-App.first (seen_from b σ xs 0) in
    let t = application c.in-App-term.second (seen_from d τ ys 0) in
    exceeds-greater c.args.start old new (instance σ (tree_of c.args.left.now)) s (instance τ (tree_of c.args.right.now)) t
    (sym (seen-application b σ c.head-top.result.term.now c.in-App.first c.in-App.ones xs c.in-App.is c.as_slice.ensures) ∙ c.head-top.ensures.same)
    (sym (seen-application d τ c.head-other_top.result.term.now c.in-App-term.second c.in-App-term.others ys c.in-App-term.is c.as_slice-in-App-term.ensures)
    ∙ c.head-other_top.ensures.same)
    c.starting_at-balance.ensures.start past
    (subst (λ r. Exceeds r old new s t) c.if-exceeds.true c.exceeds-exceeds.ensures)

pub returns-else-exceeds : goal.returns-else-exceeds
returns-else-exceeds g c =
    let σ = g.S.LendsTerms.meaning c.args.left_bind.now in
    let τ = g.T.LendsTerms.meaning c.args.right_bind.now in
    let b = c.head-top.result.is_bound in
    let d = c.head-other_top.result.is_bound in
    let xs = c.as_slice.result.now in
    let ys = c.as_slice-in-App-term.result.now in
    let old = c.starting_at-balance.result in
    let new = c.exceeds-exceeds.new.self in
    let s = application c.in-App.first (seen_from b σ xs 0) in
    let t = application c.in-App-term.second (seen_from d τ ys 0) in
    exceeds-not_greater c.args.start old new (instance σ (tree_of c.args.left.now)) s (instance τ (tree_of c.args.right.now)) t
    (sym (seen-application b σ c.head-top.result.term.now c.in-App.first c.in-App.ones xs c.in-App.is c.as_slice.ensures) ∙ c.head-top.ensures.same)
    (sym (seen-application d τ c.head-other_top.result.term.now c.in-App-term.second c.in-App-term.others ys c.in-App-term.is c.as_slice-in-App-term.ensures)
    ∙ c.head-other_top.ensures.same)
    c.starting_at-balance.ensures.start
    (subst (λ r. Exceeds r old new s t) c.if-exceeds.false c.exceeds-exceeds.ensures)
