use Rattle.std.proofs.Common.{ap, inl, inr, refl, sym, ◌∙◌, subst, arith}
use Rattle.std.specs.Prelude.{option_map}
use Rattle.std.proofs.lemmas.List.Elements.{All-contains}
use Rattle.bank_clause.specs.Clause.{IsMemberOf, clause_at}
use Rattle.bank_clause.specs.declared.member.Member.{Member}
use Rattle.superpose.specs.declared.sites.Premise.{Premise}
use Rattle.given_work.specs.Going.{IsRemovalOf}
use Rattle.given_work.specs.Store.{members_in}
use Rattle.given_work.proofs.AboutIndexes.StoreLemmas.{member-there, no-member}
use Rattle.given_work.proofs.AboutIndexes.TellingLemmas.{member-told, sets-of-bank, sets-told}
use Rattle.given_work.proofs.removing.consider.Goals as goal

pub returns-in_default : goal.returns-in_default
returns-in_default c =
    inl
    (record {
      none = λ m there same.
          absurd
          (no-member c.args.known.now.store.now c.args.candidate c.requires.kept.placed
          (sym c.premise.ensures.member ∙ ap (option_map (λ (p : Premise). p.member.now)) c.in_default.is) m there same);
      same = refl;
    })

pub removal_of-requires-clause-of_bank : goal.removal_of-requires-clause-of_bank
removal_of-requires-clause-of_bank c =
    sets-of-bank c.args.known.now.bank.now (members_in c.args.known.now.store.now.slots.items) c.args.known.now.sets.now c.requires.kept.of_bank c.requires.kept.kept

pub removal_of-requires-clause-member : goal.removal_of-requires-clause-member
removal_of-requires-clause-member c =
    let m : Member = c.in-Some.victim.member.now in
    let there =
    member-there c.args.known.now.store.now c.args.candidate m c.requires.kept.placed
    (sym c.premise.ensures.member ∙ ap (option_map (λ (p : Premise). p.member.now)) c.in-Some.is) in
    All-contains (IsMemberOf c.args.known.now.bank.now) (members_in c.args.known.now.store.now.slots.items) m c.requires.kept.of_bank there.0

pub removal_of-requires-clause-told : goal.removal_of-requires-clause-told
removal_of-requires-clause-told c =
    let ms = members_in c.args.known.now.store.now.slots.items in
    let m : Member = c.in-Some.victim.member.now in
    let there =
    member-there c.args.known.now.store.now c.args.candidate m c.requires.kept.placed
    (sym c.premise.ensures.member ∙ ap (option_map (λ (p : Premise). p.member.now)) c.in-Some.is) in
    let t = c.requires.told in
    record {
      usage = t.usage;
      clauses = t.clauses;
      job = t.job;
      sets = sets-told t.usage t.clauses t.job ms t.tells c.args.known.now.sets.now c.requires.kept.kept c.requires.kept.numbered;
      there = member-told t.usage t.clauses t.job ms t.tells m there.0;
    }

pub returns : goal.returns
returns c =
    let sets = c.args.known.now.sets.now in
    let m : Member = c.in-Some.victim.member.now in
    let there =
    member-there c.args.known.now.store.now c.args.candidate m c.requires.kept.placed
    (sym c.premise.ensures.member ∙ ap (option_map (λ (p : Premise). p.member.now)) c.in-Some.is) in
    inr
    (record {
      member = m;
      there = there.0;
      numbered = there.1;
      another = λ e. omega (arith, c.if-candidate-from.false, c.from.ensures, e);
      adds = record {
        gone = c.in_ok-gone.gone;
        added = c.in_ok-push_gone.ensures;
        right = subst (λ k. IsRemovalOf c.args.known.now.split sets.equations sets.units sets.subsumers k (clause_at m.clause) c.in_ok-gone.gone) there.1 c.in_ok-gone.ensures;
      };
    })
