use Rattle.std.proofs.Common.{◌≡◌, ◌<◌, ◌+◌, ◌*◌, true, false, ap, sym, ◌∙◌, refl, inl, subst, rules, arith}
use Rattle.fol_base.specs.Term.{tree_of}
use Rattle.fol_base.specs.Tree.{variable, tree_size, trees_size, tree_variables}
use Rattle.fol_base.specs.declared.clause.Side.TheVariants.{Right}
use Rattle.kbo_order.specs.Reading.{seen, seen_from}
use Rattle.kbo_order.specs.Balance.{Consistent, HasRoom, Covers}
use Rattle.kbo_order.proofs.AboutReading.ReadingLemmas.{seen-variable, seen-application, seen-more, seen-all, seen-size, occurrences-within}
use Rattle.kbo_order.proofs.AboutReading.MetLemmas.{MetOn-consistent, MetOn-all, HasRoom-then, HasRoom-less, HasRoom-same}
use Rattle.kbo_order.proofs.AboutReading.CoverLemmas.{some-size, Covers-met, Covers-tree, Covers-application, Covers-more, Short-first}
use Rattle.kbo_order.proofs.balance.Balance.+cover.Goals as goal

pub cover-returns-then-self-least : goal.cover-returns-then-self-least
cover-returns-then-self-least g t c =
    let some = some-size (seen c.args.is_bound (g.S.LendsTerms.meaning c.args.bind.now) (tree_of c.args.term.now)) in
    inl (omega (arith, some))

pub cover-cover_from-requires : goal.cover-cover_from-requires
cover-cover_from-requires g t c =
    let σ = g.S.LendsTerms.meaning c.args.bind.now in
    let xs = c.as_slice.result.now in
    let whole =
    sym c.head-top.ensures.same
    ∙ seen-application c.head-top.result.is_bound σ c.head-top.result.term.now c.in-App.field-0 c.in-App.arguments xs c.in-App.is c.as_slice.ensures in
    let size : tree_size (seen c.args.is_bound σ (tree_of c.args.term.now)) ≡ 1 + trees_size (seen_from c.head-top.result.is_bound σ xs 0) =
    ap tree_size whole in
    let smaller : 2 * trees_size (seen_from c.head-top.result.is_bound σ xs 0) + 1 < 2 * tree_size (seen c.args.is_bound σ (tree_of c.args.term.now)) =
    omega arith in
    let consistent : Consistent c.weigh.new.self = c.weigh.ensures.consistent in
    let room : HasRoom c.weigh.new.self (trees_size (seen_from c.head-top.result.is_bound σ xs 0)) =
    HasRoom-then Right c.args.self.now c.weigh.new.self _ 1 (trees_size (seen_from c.head-top.result.is_bound σ xs 0))
    (λ v. omega arith) (HasRoom-same c.args.self.now _ _ size c.requires.room) c.weigh.ensures in
    search rules

pub cover-returns-in-App : goal.cover-returns-in-App
cover-returns-in-App g t c =
    let σ = g.S.LendsTerms.meaning c.args.bind.now in
    let xs = c.as_slice.result.now in
    Covers-application c.cover_from.result c.args.least c.args.self.now c.weigh.new.self c.cover_from.new.self
    (seen c.args.is_bound σ (tree_of c.args.term.now)) c.in-App.field-0 (seen_from c.head-top.result.is_bound σ xs 0)
    (sym c.head-top.ensures.same
    ∙ seen-application c.head-top.result.is_bound σ c.head-top.result.term.now c.in-App.field-0 c.in-App.arguments xs c.in-App.is c.as_slice.ensures)
    c.weigh.ensures c.cover_from.ensures

pub cover-returns-in-Var : goal.cover-returns-in-Var
cover-returns-in-Var g t c =
    let σ = g.S.LendsTerms.meaning c.args.bind.now in
    Covers-tree _ c.args.least c.args.self.now c.count.new.self (seen c.args.is_bound σ (tree_of c.args.term.now)) (variable c.in-Var.number)
    (sym c.head-top.ensures.same
    ∙ seen-variable c.head-top.result.is_bound σ c.head-top.result.term.now c.in-Var.number c.in-Var.is c.head-top.ensures.followed)
    (Covers-met _ c.args.least c.args.self.now c.count.new.self _ 1 c.count.ensures refl)

pub cover-count-requires : goal.cover-count-requires
cover-count-requires g t c =
    let σ = g.S.LendsTerms.meaning c.args.bind.now in
    let whole =
    sym c.head-top.ensures.same
    ∙ seen-variable c.head-top.result.is_bound σ c.head-top.result.term.now c.in-Var.number c.in-Var.is c.head-top.ensures.followed in
    let size : tree_size (seen c.args.is_bound σ (tree_of c.args.term.now)) ≡ 1 = ap tree_size whole in
    record { consistent = c.requires.consistent; room = HasRoom-same c.args.self.now _ _ size c.requires.room }

pub cover_from-cover-requires : goal.cover_from-cover-requires
cover_from-cover-requires g t c =
    let σ = g.S.LendsTerms.meaning c.args.bind.now in
    let b = c.args.is_bound in
    let i = c.loop-index.index in
    let x = c.index-terms-index.result in
    let size = seen-size b σ c.args.terms.now i x c.loop-index-test.true c.index-terms-index.is in
    let smaller : 2 * tree_size (seen b σ (tree_of x)) < 2 * trees_size (seen_from b σ c.args.terms.now c.args.from) + 1 =
    omega (arith, size, c.loop-index.invariant.falls) in
    let consistent : Consistent c.loop-index.self = c.loop-index.invariant.consistent in
    let room : HasRoom c.loop-index.self (tree_size (seen b σ (tree_of x))) =
    HasRoom-less c.loop-index.self _ (tree_size (seen b σ (tree_of x))) (omega (arith, size)) c.loop-index.invariant.room in
    search rules

pub cover_from-returns-then-not-cover : goal.cover_from-returns-then-not-cover
cover_from-returns-then-not-cover g t c =
    let σ = g.S.LendsTerms.meaning c.args.bind.now in
    let b = c.args.is_bound in
    let i = c.loop-index.index in
    let x = c.index-terms-index.result in
    c.loop-index.invariant.carried false c.loop-index.self
    (Short-first c.args.least c.loop-index.self (seen_from b σ c.args.terms.now i) (seen b σ (tree_of x)) (seen_from b σ c.args.terms.now (i + 1))
    (seen-more b σ c.args.terms.now i x c.loop-index-test.true c.index-terms-index.is)
    (subst (λ r. Covers r c.args.least c.loop-index.self c.cover.new.self (tree_variables (seen b σ (tree_of x))) (tree_size (seen b σ (tree_of x))))
    c.if-not-cover.true c.cover.ensures))

pub cover_from-loop-index-preserved : goal.cover_from-loop-index-preserved
cover_from-loop-index-preserved g t c =
    let σ = g.S.LendsTerms.meaning c.args.bind.now in
    let b = c.args.is_bound in
    let i = c.loop-index.index in
    let x = c.index-terms-index.result in
    let xs = c.args.terms.now in
    let size = seen-size b σ xs i x c.loop-index-test.true c.index-terms-index.is in
    let met =
    subst (λ r. Covers r c.args.least c.loop-index.self c.cover.new.self (tree_variables (seen b σ (tree_of x))) (tree_size (seen b σ (tree_of x))))
    c.if-not-cover.false c.cover.ensures in
    record {
      consistent = MetOn-consistent Right c.loop-index.self c.cover.new.self _ _ met;
      room =
          HasRoom-then Right c.loop-index.self c.cover.new.self _ (tree_size (seen b σ (tree_of x))) _
          (λ v. occurrences-within v (seen b σ (tree_of x))) (HasRoom-same c.loop-index.self _ _ size c.loop-index.invariant.room) met;
      falls = omega (arith, size, c.loop-index.invariant.falls);
      carried = λ answer z h. c.loop-index.invariant.carried answer z
          (Covers-more answer c.args.least c.loop-index.self c.cover.new.self z (seen_from b σ xs i) (seen b σ (tree_of x)) (seen_from b σ xs (i + 1))
          (seen-more b σ xs i x c.loop-index-test.true c.index-terms-index.is) met h);
    }

pub cover_from-returns : goal.cover_from-returns
cover_from-returns g t c =
    let σ = g.S.LendsTerms.meaning c.args.bind.now in
    let i = c.loop-index.index in
    c.loop-index.invariant.carried true c.loop-index.self
    (MetOn-all Right c.loop-index.self (seen_from c.args.is_bound σ c.args.terms.now i)
    (seen-all c.args.is_bound σ c.args.terms.now i c.loop-index-test.false) c.loop-index.invariant.consistent)
