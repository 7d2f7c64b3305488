use Rattle.std.proofs.Common.{◌≡◌, ◌<◌, ◌+◌, ◌*◌, List, map, refl, ap, sym, ◌∙◌, subst, arith, rules}
use Rattle.fol_base.specs.Tree.{Tree, application, tree_size, trees_size, trees_of}
use Rattle.fol_base.specs.Term.{tree_of}
use Rattle.fol_base.proofs.AboutTerms.TermLemmas.{tree_size-item}
use Rattle.fol_base.specs.declared.term.Term.{Term}
use Rattle.disc_tree.specs.Entries.{IsIn}
use Rattle.partners.proofs.IndexLemmas.{put-keeps}
use Rattle.given_work.specs.Occurring.{ListsTerm}
use Rattle.given_work.proofs.AboutMeeting.OccurringLemmas.{application-listed, kept-then, put-in, term-at, terms-all, terms-more, variable-listed}
use Rattle.given_work.proofs.occurring.+put_term.Goals as goal

pub put_arguments-put_term-requires : goal.put_arguments-put_term-requires
put_arguments-put_term-requires t c =
    let smaller : 2 * tree_size (tree_of c.index-arguments-index.result) < 2 * trees_size (trees_of (map tree_of c.args.arguments.now)) + 1 =
    omega (arith, tree_size-item c.args.arguments.now (map tree_of c.args.arguments.now) _ _ refl c.loop-index-test.true c.index-arguments-index.is) in
    search rules

pub put_arguments-loop-index-init : goal.put_arguments-loop-index-init
put_arguments-loop-index-init t c = ((λ i low. absurd (omega (arith, low))), (λ e there. there))

pub put_arguments-loop-index-preserved : goal.put_arguments-loop-index-preserved
put_arguments-loop-index-preserved t c = (
  terms-more c.args.number c.loop-index.index c.loop-index.terms c.put_term.new.terms (map tree_of c.args.arguments.now)
      (tree_of c.index-arguments-index.result)
      (term-at c.args.arguments.now c.loop-index.index c.index-arguments-index.result c.loop-index-test.true c.index-arguments-index.is)
      c.in_ok-put_term.ensures.kept c.in_ok-put_term.ensures.put c.loop-index.invariant.0,
  kept-then c.args.terms.now c.loop-index.terms c.put_term.new.terms c.loop-index.invariant.1 c.in_ok-put_term.ensures.kept,
)

pub put_arguments-returns-clause-put : goal.put_arguments-returns-clause-put
put_arguments-returns-clause-put t c =
    terms-all c.args.number c.loop-index.index c.loop-index.terms c.args.arguments.now (omega arith) c.loop-index.invariant.0

pub put_term-returns-in-Var-clause-put : goal.put_term-returns-in-Var-clause-put
put_term-returns-in-Var-clause-put t c =
    subst (λ (x : Term). ListsTerm c.args.number c.args.terms.now (tree_of x)) (sym c.in-Var.is)
    (variable-listed c.args.number c.args.terms.now c.in-Var.field-0)

pub put_term-returns-in_ok-put_arguments-in-App-clause-put : goal.put_term-returns-in_ok-put_arguments-in-App-clause-put
put_term-returns-in_ok-put_arguments-in-App-clause-put t c =
    let n = c.args.number in
    let es = c.put_arguments.new.terms in
    let ts : List Tree = map tree_of c.as_slice.result.now in
    let is : tree_of c.args.term.now ≡ application c.in-App.field-0 (trees_of ts) =
    ap tree_of c.in-App.is ∙ ap (λ us. application c.in-App.field-0 (trees_of us)) (sym c.as_slice.ensures) in
    subst (λ (x : Tree). ListsTerm n es x) (sym is)
    (application-listed n es c.in-App.field-0 ts
    (subst (λ (x : Tree). IsIn (x, n) es) is
    (c.in_ok-put_arguments-in-App.ensures.kept (tree_of c.args.term.now, n)
    (put-in (tree_of c.args.term.now) c.from.result n c.args.terms.now c.insert.new.self c.from.ensures c.in_ok-insert-in-App.ensures.ok)))
    c.in_ok-put_arguments-in-App.ensures.put)

pub put_term-returns-in_ok-put_arguments-in-App-clause-kept : goal.put_term-returns-in_ok-put_arguments-in-App-clause-kept
put_term-returns-in_ok-put_arguments-in-App-clause-kept t c =
    kept-then c.args.terms.now c.insert.new.self c.put_arguments.new.terms
    (put-keeps (tree_of c.args.term.now, c.from.result) c.args.terms.now c.insert.new.self c.in_ok-insert-in-App.ensures.ok)
    c.in_ok-put_arguments-in-App.ensures.kept
