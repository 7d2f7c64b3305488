use Rattle.std.proofs.Common.{refl, sym, subst}
use Rattle.bank_clause.specs.Clause.{AreMembersOf}
use Rattle.given_work.specs.Kept.{IsKept}
use Rattle.given_work.specs.Store.{members_in}
use Rattle.given_work.specs.View.{IndexView}
use Rattle.given_work.specs.Working.{IsRightUnder, IsRightWorkOf}
use Rattle.given_work.specs.declared.store.Store.{Store}
use Rattle.given_work.proofs.index.Index.work_on.Goals as goal

pub work_in-requires-clause-kept : goal.work_in-requires-clause-kept
work_in-requires-clause-kept c =
    let bank = c.args.bank.now in
    let parts = c.self.invariant in
    subst (λ (store : Store). IsKept bank store c.deref-2.result.now) (sym c.deref.ensures)
    (subst (IsKept bank c.self.inside.store.value) (sym c.deref-2.ensures)
    (record {
      placed = parts.placed;
      listed = parts.listed;
      kept = parts.kept;
      of_bank = subst (λ (v : IndexView). AreMembersOf bank v.members) (sym c.self.view_is) c.requires.of_bank;
      numbered = parts.numbered;
    }))

pub returns : goal.returns
returns c =
    let inside = c.self.inside in
    subst (λ (v : IndexView). IsRightUnder v.options v.members c.args.number c.args.left c.in_ok-work.work) c.self.view_is
    (λ usage clauses j tells same left.
    subst
    (λ (store : Store).
    IsRightWorkOf inside.options.split store.partners.mode (members_in store.slots.items) c.args.number c.args.left c.in_ok-work.work)
    c.deref.ensures c.in_ok-work.ensures usage inside.options clauses j tells (sym c.self.invariant.mode) refl same left)
