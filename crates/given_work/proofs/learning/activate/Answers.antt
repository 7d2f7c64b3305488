use Rattle.std.proofs.Common.{◌≡◌, ◌<◌, ◌++◌, [], ◌∷◌, List, sym, subst}
use Rattle.std.specs.Prelude.{All}
use Rattle.std.proofs.lemmas.List.Elements.{All-push}
use Rattle.kernel_steps.specs.declared.step.TheConstants.{CLAUSE_NUMBERS}
use Rattle.bank_clause.specs.Clause.{IsMemberOf}
use Rattle.bank_clause.specs.declared.member.Member.{Member}
use Rattle.rewriting.specs.Units.{IsUnit}
use Rattle.unit_cutting.specs.Indexed.{HasOneLiteral}
use Rattle.given_work.specs.Sets.{AreSetsOf}
use Rattle.given_work.specs.Store.{members_in}
use Rattle.given_work.proofs.AboutIndexes.SetLemmas.{members-new, those-new}
use Rattle.given_work.proofs.learning.activate.Goals as goal

pub insert-requires-clause-new_equation : goal.insert-requires-clause-new_equation
insert-requires-clause-new_equation c =
    those-new IsUnit (members_in c.args.store.now.slots.items) c.args.sets.now.equations c.args.member.now.number c.requires.kept.kept.equations c.requires.new

pub insert-requires-clause-new_unit : goal.insert-requires-clause-new_unit
insert-requires-clause-new_unit c =
    those-new HasOneLiteral (members_in c.args.store.now.slots.items) c.args.sets.now.units c.args.member.now.number c.requires.kept.kept.units c.requires.new

pub insert-requires-clause-new_member : goal.insert-requires-clause-new_member
insert-requires-clause-new_member c =
    members-new (members_in c.args.store.now.slots.items) c.args.sets.now.subsumers c.args.member.now.number c.requires.kept.kept.subsumers c.requires.new

pub put-requires-clause-placed : goal.put-requires-clause-placed
put-requires-clause-placed c = c.requires.kept.placed

pub returns-clause-kept : goal.returns-clause-kept
returns-clause-kept c =
    let m : Member = c.args.member.now in
    let before : List Member = members_in c.args.store.now.slots.items in
    let members : members_in c.put.new.self.slots.items ≡ before ++ m ∷ [] = c.in_ok-put.ensures.members in
    let small : m.number < CLAUSE_NUMBERS = c.below_lines.ensures in
    record {
      placed = c.in_ok-put.ensures.placed;
      listed = c.in_ok-put.ensures.listed c.requires.kept.listed;
      kept = subst (λ (ms : List Member). AreSetsOf ms c.insert.new.self) (sym members) (c.in_ok-insert.ensures before c.requires.new c.requires.kept.kept);
      of_bank =
          subst (λ (ms : List Member). All (IsMemberOf c.args.bank.now) ms) (sym members)
          (All-push (IsMemberOf c.args.bank.now) before m c.requires.kept.of_bank c.requires.member);
      numbered =
          subst (λ (ms : List Member). All (λ (k : Member). k.number < CLAUSE_NUMBERS) ms) (sym members)
          (All-push (λ (k : Member). k.number < CLAUSE_NUMBERS) before m c.requires.kept.numbered small);
    }
