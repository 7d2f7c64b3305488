use Rattle.std.proofs.Common.{sym, subst}
use Rattle.bank_clause.specs.Clause.{AreMembersOf}
use Rattle.given_work.specs.Kept.{IsKept}
use Rattle.given_work.specs.View.{IndexView}
use Rattle.given_work.specs.declared.store.Store.{Store}
use Rattle.given_work.proofs.index.Index.learn.Goals as goal

pub learn_all-requires-clause-kept : goal.learn_all-requires-clause-kept
learn_all-requires-clause-kept c =
    let bank = c.args.bank.now in
    let parts = c.self.invariant in
    subst (λ (store : Store). IsKept bank store c.deref_mut-2.result.now) (sym c.deref_mut.ensures.value)
    (subst (IsKept bank c.self.inside.store.value) (sym c.deref_mut-2.ensures.value)
    (record {
      placed = parts.placed;
      listed = parts.listed;
      kept = parts.kept;
      of_bank = subst (λ (v : IndexView). AreMembersOf bank v.members) (sym c.self.view_is) c.requires.of_bank;
      numbered = parts.numbered;
    }))
