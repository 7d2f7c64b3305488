use Rattle.std.proofs.Common.{◌<◌, ◌==◌, not, List, sym, subst}
use Rattle.std.specs.Prelude.{All}
use Rattle.std.proofs.lemmas.List.Elements.{All-filter}
use Rattle.kernel_steps.specs.declared.step.TheConstants.{CLAUSE_NUMBERS}
use Rattle.bank_clause.specs.Clause.{IsMemberOf}
use Rattle.bank_clause.specs.declared.member.Member.{Member}
use Rattle.given_work.specs.Sets.{AreSetsOf}
use Rattle.given_work.specs.Store.{members_in}
use Rattle.given_work.proofs.AboutIndexes.StoreLemmas.{partners-of-bank}
use Rattle.given_work.proofs.AboutIndexes.TellingLemmas.{sets-of-bank}
use Rattle.given_work.proofs.learning.learn_change.Goals as goal

pub take-requires-clause-placed : goal.take-requires-clause-placed
take-requires-clause-placed c = c.requires.kept.placed

pub take-requires-clause-of_bank : goal.take-requires-clause-of_bank
take-requires-clause-of_bank c = partners-of-bank c.args.bank.now c.args.store.now c.requires.kept.placed c.requires.kept.of_bank

pub remove-requires-clause-equations : goal.remove-requires-clause-equations
remove-requires-clause-equations c =
    (sets-of-bank c.args.bank.now (members_in c.args.store.now.slots.items) c.args.sets.now c.requires.kept.of_bank c.requires.kept.kept).equations

pub remove-requires-clause-units : goal.remove-requires-clause-units
remove-requires-clause-units c =
    (sets-of-bank c.args.bank.now (members_in c.args.store.now.slots.items) c.args.sets.now c.requires.kept.of_bank c.requires.kept.kept).units

pub returns-in-Died-clause-kept : goal.returns-in-Died-clause-kept
returns-in-Died-clause-kept c =
    let k = c.in-Died.number in
    let before : List Member = members_in c.args.store.now.slots.items in
    record {
      placed = c.take.ensures.placed;
      listed = c.take.ensures.listed c.requires.kept.listed;
      kept = subst (λ (ms : List Member). AreSetsOf ms c.remove.new.self) (sym c.take.ensures.members) (c.remove.ensures before c.requires.kept.kept);
      of_bank =
          subst (λ (ms : List Member). All (IsMemberOf c.args.bank.now) ms) (sym c.take.ensures.members)
          (All-filter (λ (m : Member). not (m.number == k)) (IsMemberOf c.args.bank.now) before c.requires.kept.of_bank);
      numbered =
          subst (λ (ms : List Member). All (λ (m : Member). m.number < CLAUSE_NUMBERS) ms) (sym c.take.ensures.members)
          (All-filter (λ (m : Member). not (m.number == k)) (λ (m : Member). m.number < CLAUSE_NUMBERS) before c.requires.kept.numbered);
    }
