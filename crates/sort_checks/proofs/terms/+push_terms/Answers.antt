use Rattle.std.proofs.Common.{◌++◌, length, [], refl, ap, ◌∙◌, arith}
use Rattle.std.proofs.lemmas.Result.{on_ok_weaker}
use Rattle.tptp_tree.proofs.AboutTrees.SizeLemmas.{term-item-is}
use Rattle.tptp_tree.specs.Shape.{term_of}
use Rattle.typed_problem.specs.SortFaults.{term_causes}
use Rattle.sort_checks.specs.Lent.{declared_among}
use Rattle.sort_checks.specs.Wanted.{sort_wanted, arguments_wanted}
use Rattle.sort_checks.proofs.CauseLemmas.{argument-step, arguments-done}
use Rattle.sort_checks.proofs.PushLemmas.{variable-pushed, application-pushed}
use Rattle.sort_checks.proofs.terms.+push_terms.Goals as goal

pub push_term-returns-in-Var : goal.push_term-returns-in-Var
push_term-returns-in-Var t c =
    variable-pushed (declared_among c.args.table.now) c.args.scope.now (sort_wanted c.args.wanted) _ (term_of c.args.term.now) c.clash.result
    c.args.causes.now.items c.push.new.self.items (ap term_of c.in-Var.is) c.clash.ensures c.in_ok-push.ensures.items

pub push_term-returns-in-App : goal.push_term-returns-in-App
push_term-returns-in-App t c =
    on_ok_weaker c.push_arguments.result
    (application-pushed (declared_among c.args.table.now) c.args.scope.now (sort_wanted c.args.wanted) c.as_slice.result.now c.in-App.name
    (length c.as_slice-terms.result.now) c.as_slice-terms.result.now c.in-App.arguments c.function-declaration.result (term_of c.args.term.now) c.clash.result
    c.args.causes.now.items c.push.new.self.items c.push_arguments.new.causes.items (ap term_of c.in-App.is) c.as_slice.ensures c.as_slice-terms.ensures refl
    c.function-declaration.ensures c.clash.ensures c.in_ok-push.ensures.items)
    c.push_arguments.ensures

pub push_arguments-push_term-requires : goal.push_arguments-push_term-requires
push_arguments-push_term-requires t c = (omega (arith, term-item-is _ _ _ c.loop-index-test.true c.index-terms-index.is, c.decreases), tt)

pub push_arguments-loop-index-preserved : goal.push_arguments-loop-index-preserved
push_arguments-loop-index-preserved t c =
    argument-step (declared_among c.args.table.now) c.args.scope.now c.args.declaration c.args.terms.now c.loop-index.index c.index-terms-index.result
    c.loop-index.causes.items c.push_term.new.causes.items _ c.loop-index-test.true c.index-terms-index.is
    (c.in_ok-push_term.ensures
    ∙ ap (λ w. c.loop-index.causes.items ++ term_causes (declared_among c.args.table.now) c.args.scope.now w (term_of c.index-terms-index.result) [])
    c.wanted_at-wanted.ensures)
    c.loop-index.invariant

pub push_arguments-returns : goal.push_arguments-returns
push_arguments-returns t c =
    arguments-done (declared_among c.args.table.now) c.args.scope.now (arguments_wanted (length c.args.terms.now) c.args.declaration) c.args.terms.now
    c.loop-index.index c.loop-index.causes.items _ c.loop-index-test.false c.loop-index.invariant
