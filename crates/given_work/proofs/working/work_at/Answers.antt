use Rattle.std.proofs.Common.{Option, subst}
use Rattle.std.proofs.lemmas.List.Elements.{All-contains}
use Rattle.bank_clause.specs.Clause.{IsMemberOf, clause_at}
use Rattle.bank_clause.specs.declared.member.Member.{Member}
use Rattle.pool_history.specs.declared.batch.Removal.{Removal}
use Rattle.given_work.specs.Going.{IsRemovalOf}
use Rattle.given_work.specs.Store.{members_in}
use Rattle.given_work.proofs.AboutIndexes.Slots.{at-living}
use Rattle.given_work.proofs.AboutIndexes.TellingLemmas.{member-told, sets-of-bank, sets-told}
use Rattle.given_work.proofs.AboutWhole.WorkLemmas.{going-right, meeting-right}
use Rattle.given_work.proofs.working.work_at.Goals as goal

pub removal_of-requires-clause-of_bank : goal.removal_of-requires-clause-of_bank
removal_of-requires-clause-of_bank c =
    sets-of-bank c.args.known.now.bank.now (members_in c.args.known.now.store.now.slots.items) c.args.known.now.sets.now c.requires.kept.of_bank c.requires.kept.kept

pub removal_of-requires-clause-member : goal.removal_of-requires-clause-member
removal_of-requires-clause-member c =
    All-contains (IsMemberOf c.args.known.now.bank.now) (members_in c.args.known.now.store.now.slots.items) c.args.given.now.member.now c.requires.kept.of_bank
    (at-living c.args.known.now.store.now.slots.items c.args.place c.args.given.now.member.now c.requires.given)

pub removal_of-requires-clause-told : goal.removal_of-requires-clause-told
removal_of-requires-clause-told c =
    let sets = c.args.known.now.sets.now in
    let slots = c.args.known.now.store.now.slots.items in
    let t = c.requires.told in
    record {
      usage = t.usage;
      clauses = t.clauses;
      job = t.job;
      sets = sets-told t.usage t.clauses t.job (members_in slots) t.tells sets c.requires.kept.kept c.requires.kept.numbered;
      there =
          member-told t.usage t.clauses t.job (members_in slots) t.tells c.args.given.now.member.now
          (at-living slots c.args.place c.args.given.now.member.now c.requires.given);
    }

pub returns-in-Some : goal.returns-in-Some
returns-in-Some c =
    let sets = c.args.known.now.sets.now in
    let m : Member = c.args.given.now.member.now in
    going-right c.args.known.now.split c.args.known.now.store.now.partners.mode c.args.known.now.store.now sets c.args.place c.args.given.now.member.now c.args.left c.in-Some.removal
    c.requires.kept.kept c.requires.kept.numbered c.requires.given
    (subst (λ (gone : Option Removal). IsRemovalOf c.args.known.now.split sets.equations sets.units sets.subsumers m.number (clause_at m.clause) gone) c.in-Some.is
    c.in_ok-gone.ensures)

pub returns-in_ok-work-in-None : goal.returns-in_ok-work-in-None
returns-in_ok-work-in-None c =
    let sets = c.args.known.now.sets.now in
    let m : Member = c.args.given.now.member.now in
    meeting-right c.args.known.now.split c.args.known.now.store.now.partners.mode c.args.known.now.store.now sets c.args.place c.args.given.now.member.now c.args.left c.in_ok-work-in-None.work
    c.requires.kept.placed c.requires.kept.kept c.requires.kept.numbered c.requires.given
    (subst (λ (gone : Option Removal). IsRemovalOf c.args.known.now.split sets.equations sets.units sets.subsumers m.number (clause_at m.clause) gone) c.in-None.is
    c.in_ok-gone.ensures)
    c.in_ok-work-in-None.ensures
