use Rattle.std.proofs.Common.{◌≡◌, ◌<◌, ◌+◌, ◌*◌, ap, sym, ◌∙◌, rules, arith}
use Rattle.fol_base.specs.Term.{tree_of}
use Rattle.fol_base.specs.Tree.{tree_size, trees_size}
use Rattle.kbo_order.specs.Reading.{seen, seen_from}
use Rattle.kbo_order.specs.Balance.{Consistent, HasRoom}
use Rattle.kbo_order.proofs.AboutReading.ReadingLemmas.{seen-variable, seen-application, seen-more, seen-all, seen-size, occurrences-within}
use Rattle.kbo_order.proofs.AboutReading.MetLemmas.{MetOn-application, MetOn-more, MetOn-consistent, MetOn-variable, HasRoom-then, HasRoom-less, HasRoom-same, MetOn-all}
use Rattle.kbo_order.proofs.balance.Balance.+add.Goals as goal

pub add-add_from-requires : goal.add-add_from-requires
add-add_from-requires g t c =
    let σ = g.S.LendsTerms.meaning c.args.bind.now in
    let xs = c.as_slice.result.now in
    let whole =
    sym c.head-top.ensures.same
    ∙ seen-application c.head-top.result.is_bound σ c.head-top.result.term.now c.in-App.field-0 c.in-App.arguments xs c.in-App.is c.as_slice.ensures in
    let size : tree_size (seen c.args.is_bound σ (tree_of c.args.term.now)) ≡ 1 + trees_size (seen_from c.head-top.result.is_bound σ xs 0) =
    ap tree_size whole in
    let smaller : 2 * trees_size (seen_from c.head-top.result.is_bound σ xs 0) + 1 < 2 * tree_size (seen c.args.is_bound σ (tree_of c.args.term.now)) =
    omega arith in
    let consistent : Consistent c.weigh.new.self = MetOn-consistent c.args.side c.args.self.now c.weigh.new.self _ 1 c.weigh.ensures in
    let room : HasRoom c.weigh.new.self (trees_size (seen_from c.head-top.result.is_bound σ xs 0)) =
    HasRoom-then c.args.side c.args.self.now c.weigh.new.self _ 1 (trees_size (seen_from c.head-top.result.is_bound σ xs 0))
    (λ v. omega arith) (HasRoom-same c.args.self.now _ _ size c.requires.room) c.weigh.ensures in
    search rules

pub add-returns-in-App : goal.add-returns-in-App
add-returns-in-App g t c =
    let σ = g.S.LendsTerms.meaning c.args.bind.now in
    let xs = c.as_slice.result.now in
    MetOn-application c.args.side c.args.self.now c.weigh.new.self c.add_from.new.self
    (seen c.args.is_bound σ (tree_of c.args.term.now)) c.in-App.field-0 (seen_from c.head-top.result.is_bound σ xs 0)
    (sym c.head-top.ensures.same
    ∙ seen-application c.head-top.result.is_bound σ c.head-top.result.term.now c.in-App.field-0 c.in-App.arguments xs c.in-App.is c.as_slice.ensures)
    c.weigh.ensures c.add_from.ensures

pub add-returns-in-Var : goal.add-returns-in-Var
add-returns-in-Var g t c =
    let σ = g.S.LendsTerms.meaning c.args.bind.now in
    MetOn-variable c.args.side c.args.self.now c.count.new.self (seen c.args.is_bound σ (tree_of c.args.term.now)) c.in-Var.number
    (sym c.head-top.ensures.same
    ∙ seen-variable c.head-top.result.is_bound σ c.head-top.result.term.now c.in-Var.number c.in-Var.is c.head-top.ensures.followed)
    c.count.ensures

pub add-count-requires : goal.add-count-requires
add-count-requires g t c =
    let σ = g.S.LendsTerms.meaning c.args.bind.now in
    let whole =
    sym c.head-top.ensures.same
    ∙ seen-variable c.head-top.result.is_bound σ c.head-top.result.term.now c.in-Var.number c.in-Var.is c.head-top.ensures.followed in
    let size : tree_size (seen c.args.is_bound σ (tree_of c.args.term.now)) ≡ 1 = ap tree_size whole in
    record { consistent = c.requires.consistent; room = HasRoom-same c.args.self.now _ _ size c.requires.room }

pub add_from-add-requires : goal.add_from-add-requires
add_from-add-requires g t c =
    let σ = g.S.LendsTerms.meaning c.args.bind.now in
    let b = c.args.is_bound in
    let i = c.loop-index.index in
    let x = c.index-terms-index.result in
    let size = seen-size b σ c.args.terms.now i x c.loop-index-test.true c.index-terms-index.is in
    let smaller : 2 * tree_size (seen b σ (tree_of x)) < 2 * trees_size (seen_from b σ c.args.terms.now c.args.from) + 1 =
    omega (arith, size, c.loop-index.invariant.falls) in
    let consistent : Consistent c.loop-index.self = c.loop-index.invariant.consistent in
    let room : HasRoom c.loop-index.self (tree_size (seen b σ (tree_of x))) =
    HasRoom-less c.loop-index.self _ (tree_size (seen b σ (tree_of x))) (omega (arith, size)) c.loop-index.invariant.room in
    search rules

pub add_from-loop-index-preserved : goal.add_from-loop-index-preserved
add_from-loop-index-preserved g t c =
    let σ = g.S.LendsTerms.meaning c.args.bind.now in
    let b = c.args.is_bound in
    let i = c.loop-index.index in
    let x = c.index-terms-index.result in
    let xs = c.args.terms.now in
    let size = seen-size b σ xs i x c.loop-index-test.true c.index-terms-index.is in
    record {
      consistent = MetOn-consistent c.args.side c.loop-index.self c.add.new.self _ _ c.add.ensures;
      room =
          HasRoom-then c.args.side c.loop-index.self c.add.new.self _ (tree_size (seen b σ (tree_of x))) _
          (λ v. occurrences-within v (seen b σ (tree_of x))) (HasRoom-same c.loop-index.self _ _ size c.loop-index.invariant.room) c.add.ensures;
      falls = omega (arith, size, c.loop-index.invariant.falls);
      carried = λ z h. c.loop-index.invariant.carried z
          (MetOn-more c.args.side c.loop-index.self c.add.new.self z (seen_from b σ xs i) (seen b σ (tree_of x)) (seen_from b σ xs (i + 1))
          (seen-more b σ xs i x c.loop-index-test.true c.index-terms-index.is) c.add.ensures h);
    }

pub add_from-returns : goal.add_from-returns
add_from-returns g t c =
    let σ = g.S.LendsTerms.meaning c.args.bind.now in
    let i = c.loop-index.index in
    c.loop-index.invariant.carried c.loop-index.self
    (MetOn-all c.args.side c.loop-index.self (seen_from c.args.is_bound σ c.args.terms.now i)
    (seen-all c.args.is_bound σ c.args.terms.now i c.loop-index-test.false) c.loop-index.invariant.consistent)
