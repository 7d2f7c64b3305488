use Rattle.std.proofs.Common.{ap, sym, subst}
use Rattle.fol_base.specs.Term.{tree_of}
use Rattle.fol_base.specs.declared.term.Term.{Term}
use Rattle.partners.proofs.IndexLemmas.{put-keeps}
use Rattle.given_work.specs.Occurring.{ListsTerm}
use Rattle.given_work.proofs.AboutMeeting.OccurringLemmas.{application-side, put-in, variable-listed}
use Rattle.given_work.proofs.occurring.put_side.Goals as goal

pub returns-in_ok-insert-in-Var-clause-put : goal.returns-in_ok-insert-in-Var-clause-put
returns-in_ok-insert-in-Var-clause-put c = record {
  whole =
      put-in (tree_of c.args.side.now) c.from.result c.args.number c.args.terms.now c.insert.new.self c.from.ensures c.in_ok-insert-in-Var.ensures.ok;
  within =
      subst (λ (x : Term). ListsTerm c.args.number c.insert.new.self (tree_of x)) (sym c.in-Var.is)
      (variable-listed c.args.number c.insert.new.self c.in-Var.field-0);
}

pub returns-in_ok-insert-in-Var-clause-kept : goal.returns-in_ok-insert-in-Var-clause-kept
returns-in_ok-insert-in-Var-clause-kept c =
    put-keeps (tree_of c.args.side.now, c.from.result) c.args.terms.now c.insert.new.self c.in_ok-insert-in-Var.ensures.ok

pub returns-in_ok-put_term-in-App-clause-put : goal.returns-in_ok-put_term-in-App-clause-put
returns-in_ok-put_term-in-App-clause-put c =
    application-side c.args.number c.put_term.new.terms (tree_of c.args.side.now) _ _ (ap tree_of c.in-App.is) c.in_ok-put_term-in-App.ensures.put
