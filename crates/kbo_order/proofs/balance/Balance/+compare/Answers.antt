use Rattle.std.proofs.Common.{◌≡◌, ◌<◌, ◌+◌, ◌*◌, ◌^◌, length, ap, sym, ◌∙◌, subst, inl, rules, arith}
use Rattle.fol_base.specs.Tree.{tree_size, trees_size, tree_variables}
use Rattle.fol_base.specs.Term.{tree_of}
use Rattle.kbo_order.specs.declared.cmp.Cmp.{Cmp}
use Rattle.kbo_order.specs.declared.cmp.Cmp.TheVariants.{Equal, Unordered}
use Rattle.kbo_order.specs.Reading.{seen, seen_from}
use Rattle.kbo_order.specs.Balance.{IsLevel}
use Rattle.kbo_order.specs.Block.{Answers, InBlock, GreaterOn}
use Rattle.kbo_order.proofs.AboutReading.ReadingLemmas.{seen-application, seen-more, seen-all, seen-ended, seen-size}
use Rattle.kbo_order.proofs.AboutReading.BlockLemmas.{answer_ended, answer_below}
use Rattle.kbo_order.proofs.AboutReading.MetLemmas.{Met-applications, Met-same_trees}
use Rattle.kbo_order.proofs.AboutReading.PartlyLemmas.{Partly-none, Partly-more, Partly-rest, Partly-room}
use Rattle.kbo_order.proofs.AboutReading.BalanceLemmas.{compared, level-met, rest-answer_here, rest-answer_later}
use Rattle.kbo_order.proofs.balance.Balance.+compare.Goals as goal

pub compare-tie-tie-requires : goal.compare-tie-tie-requires
compare-tie-tie-requires g t c =
    let σ = g.S.LendsTerms.meaning c.args.left_bind.now in
    let τ = g.T.LendsTerms.meaning c.args.right_bind.now in
    let b = c.args.left_bound in
    let d = c.args.right_bound in
    let left = c.head-left.result in
    let right = c.head-right.result in
    let left_size : tree_size (seen left.is_bound σ (tree_of left.term.now)) ≡ tree_size (seen b σ (tree_of c.args.left.now)) =
    ap tree_size c.head-left.ensures.same in
    let right_size : tree_size (seen right.is_bound τ (tree_of right.term.now)) ≡ tree_size (seen d τ (tree_of c.args.right.now)) =
    ap tree_size c.head-right.ensures.same in
    let smaller : 3 * tree_size (seen left.is_bound σ (tree_of left.term.now)) + 1 < 3 * tree_size (seen b σ (tree_of c.args.left.now)) + 2 =
    omega arith in
    let room :
    tree_size (seen left.is_bound σ (tree_of left.term.now)) + tree_size (seen right.is_bound τ (tree_of right.term.now)) < 2 ^ 63 =
    omega arith in
    search rules

pub compare-returns-clause-answer : goal.compare-returns-clause-answer
compare-returns-clause-answer g t c =
    subst
    (λ (r : Cmp).
    Answers (GreaterOn (InBlock c.args.self.now.start)) r
    (seen c.args.left_bound (g.S.LendsTerms.meaning c.args.left_bind.now) (tree_of c.args.left.now))
    (seen c.args.right_bound (g.T.LendsTerms.meaning c.args.right_bind.now) (tree_of c.args.right.now)))
    (sym c.decide.ensures)
    (compared c.args.self.now c.tie-tie.new.self _ _ _ _ c.tie-tie.result c.requires.level
    c.head-left.ensures.same c.head-right.ensures.same c.tie-tie.ensures.met c.tie-tie.ensures.answer)

pub compare-returns-clause-met : goal.compare-returns-clause-met
compare-returns-clause-met g t c =
    Met-same_trees c.args.self.now c.tie-tie.new.self _ _ _ _ c.head-left.ensures.same c.head-right.ensures.same c.tie-tie.ensures.met

pub tie-difference-found-requires : goal.tie-difference-found-requires
tie-difference-found-requires g t c =
    let σ = g.S.LendsTerms.meaning c.args.left_bind.now in
    let τ = g.T.LendsTerms.meaning c.args.right_bind.now in
    let b = c.args.left_bound in
    let d = c.args.right_bound in
    let xs = c.as_slice-ones.result.now in
    let ys = c.as_slice-others.result.now in
    let left_size : tree_size (seen b σ (tree_of c.args.left.now)) ≡ 1 + trees_size (seen_from b σ xs 0) =
    ap tree_size (seen-application b σ c.args.left.now c.in-App.first c.in-App.ones xs c.in-App.is c.as_slice-ones.ensures) in
    let right_size : tree_size (seen d τ (tree_of c.args.right.now)) ≡ 1 + trees_size (seen_from d τ ys 0) =
    ap tree_size (seen-application d τ c.args.right.now c.in-App-right.second c.in-App-right.others ys c.in-App-right.is c.as_slice-others.ensures) in
    let smaller : 3 * trees_size (seen_from b σ xs 0) + 3 < 3 * tree_size (seen b σ (tree_of c.args.left.now)) + 1 =
    omega (arith, left_size) in
    let room : trees_size (seen_from b σ xs 0) + trees_size (seen_from d τ ys 0) < 2 ^ 63 =
    omega (arith, left_size, right_size) in
    search rules

pub tie-meet_rest-requires : goal.tie-meet_rest-requires
tie-meet_rest-requires g t c =
    let σ = g.S.LendsTerms.meaning c.args.left_bind.now in
    let τ = g.T.LendsTerms.meaning c.args.right_bind.now in
    let b = c.args.left_bound in
    let d = c.args.right_bound in
    let xs = c.as_slice-ones.result.now in
    let ys = c.as_slice-others.result.now in
    let left_size : tree_size (seen b σ (tree_of c.args.left.now)) ≡ 1 + trees_size (seen_from b σ xs 0) =
    ap tree_size (seen-application b σ c.args.left.now c.in-App.first c.in-App.ones xs c.in-App.is c.as_slice-ones.ensures) in
    let right_size : tree_size (seen d τ (tree_of c.args.right.now)) ≡ 1 + trees_size (seen_from d τ ys 0) =
    ap tree_size (seen-application d τ c.args.right.now c.in-App-right.second c.in-App-right.others ys c.in-App-right.is c.as_slice-others.ensures) in
    record {
      consistent = c.difference-found.ensures.met.met.consistent;
      room =
          Partly-room c.args.self.now c.difference-found.new.self _ _ _ _ c.requires.level c.difference-found.ensures.met
          (omega (arith, left_size, right_size));
    }

pub tie-returns-in-App-right-clause-met : goal.tie-returns-in-App-right-clause-met
tie-returns-in-App-right-clause-met g t c =
    let σ = g.S.LendsTerms.meaning c.args.left_bind.now in
    let τ = g.T.LendsTerms.meaning c.args.right_bind.now in
    let b = c.args.left_bound in
    let d = c.args.right_bound in
    let first = seen-application b σ c.args.left.now c.in-App.first c.in-App.ones c.as_slice-ones.result.now c.in-App.is c.as_slice-ones.ensures in
    let second =
    seen-application d τ c.args.right.now c.in-App-right.second c.in-App-right.others c.as_slice-others.result.now
    c.in-App-right.is c.as_slice-others.ensures in
    Met-applications c.args.self.now c.meet_rest.new.self _ _ _ _ _ _ first second
    (Partly-rest c.args.self.now c.difference-found.new.self c.meet_rest.new.self _ _ _ _ c.difference-found.ensures.met c.meet_rest.ensures)

pub difference-returns-then-first-second : goal.difference-returns-then-first-second
difference-returns-then-first-second g t c = record {
  tie = inl (omega arith);
  met = Partly-none c.args.self.now _ _ c.requires.level.consistent;
}

pub difference-returns-then-first-second-2 : goal.difference-returns-then-first-second-2
difference-returns-then-first-second-2 g t c = record {
  tie = inl (omega arith);
  met = Partly-none c.args.self.now _ _ c.requires.level.consistent;
}

pub difference-compare-found-requires : goal.difference-compare-found-requires
difference-compare-found-requires g t c =
    let σ = g.S.LendsTerms.meaning c.args.left_bind.now in
    let τ = g.T.LendsTerms.meaning c.args.right_bind.now in
    let b = c.args.left_bound in
    let d = c.args.right_bound in
    let i = c.loop-index.index in
    let x = c.index-left-index.result in
    let y = c.index-right-index.result in
    let xs = c.args.left.now in
    let ys = c.args.right.now in
    let left_in : i < length xs = omega arith in
    let right_in : i < length ys = omega arith in
    let left_size = seen-size b σ xs i x left_in c.index-left-index.is in
    let right_size = seen-size d τ ys i y right_in c.index-right-index.is in
    let met = c.loop-index.invariant.met in
    let smaller : 3 * tree_size (seen b σ (tree_of x)) + 2 < 3 * trees_size (seen_from b σ xs 0) + 3 =
    omega (arith, left_size, met.left.size) in
    let room : tree_size (seen b σ (tree_of x)) + tree_size (seen d τ (tree_of y)) < 2 ^ 63 =
    omega (arith, left_size, right_size, met.left.size, met.right.size, c.requires.room) in
    let level : IsLevel c.loop-index.self = c.loop-index.invariant.level in
    search rules

pub difference-loop-index-init : goal.difference-loop-index-init
difference-loop-index-init g t c = record {
  level = c.requires.level;
  met = Partly-none c.args.self.now _ _ c.requires.level.consistent;
  answered = λ r h. h;
}

pub difference-loop-index-preserved : goal.difference-loop-index-preserved
difference-loop-index-preserved g t c =
    let σ = g.S.LendsTerms.meaning c.args.left_bind.now in
    let τ = g.T.LendsTerms.meaning c.args.right_bind.now in
    let b = c.args.left_bound in
    let d = c.args.right_bound in
    let i = c.loop-index.index in
    let x = c.index-left-index.result in
    let y = c.index-right-index.result in
    let xs = c.args.left.now in
    let ys = c.args.right.now in
    let left_in : i < length xs = omega arith in
    let right_in : i < length ys = omega arith in
    let left_more = seen-more b σ xs i x left_in c.index-left-index.is in
    let right_more = seen-more d τ ys i y right_in c.index-right-index.is in
    let met = c.compare-found.ensures.met in
    let same : seen b σ (tree_of x) ≡ seen d τ (tree_of y) =
    subst (λ (r : Cmp). Answers (GreaterOn (InBlock c.loop-index.self.start)) r (seen b σ (tree_of x)) (seen d τ (tree_of y)))
    c.in-Equal.is c.compare-found.ensures.answer in
    record {
      level = level-met c.loop-index.self c.compare-found.new.self _ _ _ _ c.loop-index.invariant.level met (ap tree_variables same) (ap tree_size same);
      met =
          Partly-more c.args.self.now c.loop-index.self c.compare-found.new.self (seen_from b σ xs 0) (seen_from b σ xs i)
          (seen_from d τ ys 0) (seen_from d τ ys i) _ _ _ _ left_more right_more c.loop-index.invariant.met met;
      answered = λ r h. c.loop-index.invariant.answered r
          (rest-answer_later c.args.self.now.start r _ _ _ _ _ _ left_more right_more same h);
    }

pub difference-returns-in_default : goal.difference-returns-in_default
difference-returns-in_default g t c =
    let σ = g.S.LendsTerms.meaning c.args.left_bind.now in
    let τ = g.T.LendsTerms.meaning c.args.right_bind.now in
    let b = c.args.left_bound in
    let d = c.args.right_bound in
    let i = c.loop-index.index in
    let x = c.index-left-index.result in
    let y = c.index-right-index.result in
    let xs = c.args.left.now in
    let ys = c.args.right.now in
    let left_in : i < length xs = omega arith in
    let right_in : i < length ys = omega arith in
    let left_more = seen-more b σ xs i x left_in c.index-left-index.is in
    let right_more = seen-more d τ ys i y right_in c.index-right-index.is in
    record {
      tie =
          answer_below (InBlock c.args.self.now.start) c.compare-found.result c.args.first c.args.second _ _ (omega arith)
          (c.loop-index.invariant.answered c.compare-found.result
          (rest-answer_here c.args.self.now.start c.loop-index.self.start c.compare-found.result _ _ _ _ _ _
          left_more right_more c.loop-index.invariant.met.met.start c.compare-found.ensures.answer c.in_default.not-Equal));
      met =
          Partly-more c.args.self.now c.loop-index.self c.compare-found.new.self (seen_from b σ xs 0) (seen_from b σ xs i)
          (seen_from d τ ys 0) (seen_from d τ ys i) _ _ _ _ left_more right_more c.loop-index.invariant.met c.compare-found.ensures.met;
    }

pub difference-returns-then-left-right-clause-tie : goal.difference-returns-then-left-right-clause-tie
difference-returns-then-left-right-clause-tie g t c =
    let σ = g.S.LendsTerms.meaning c.args.left_bind.now in
    let τ = g.T.LendsTerms.meaning c.args.right_bind.now in
    let b = c.args.left_bound in
    let d = c.args.right_bound in
    let i = c.loop-index.index in
    answer_below (InBlock c.args.self.now.start) Equal c.args.first c.args.second _ _ (omega arith)
    (c.loop-index.invariant.answered Equal
    (seen-all b σ c.args.left.now i (omega arith) ∙ sym (seen-all d τ c.args.right.now i (omega arith))))

pub difference-returns-else-left-right-clause-tie : goal.difference-returns-else-left-right-clause-tie
difference-returns-else-left-right-clause-tie g t c =
    let σ = g.S.LendsTerms.meaning c.args.left_bind.now in
    let τ = g.T.LendsTerms.meaning c.args.right_bind.now in
    let b = c.args.left_bound in
    let d = c.args.right_bound in
    let i = c.loop-index.index in
    let ended = seen-ended b d σ τ c.args.left.now c.args.right.now i (omega arith) (omega arith) (omega arith) c.if-left-right.false in
    answer_below (InBlock c.args.self.now.start) Unordered c.args.first c.args.second _ _ (omega arith)
    (c.loop-index.invariant.answered Unordered
    (answer_ended (InBlock c.args.self.now.start) (seen_from b σ c.args.left.now i) (seen_from d τ c.args.right.now i) ended.0 ended.1))
