use Rattle.std.proofs.Common.{ap, sym, ◌∙◌, subst}
use Rattle.std.specs.Prelude.{option_map}
use Rattle.std.proofs.lemmas.Option.{none-some}
use Rattle.superpose.specs.declared.sites.Premise.{Premise}
use Rattle.partners.specs.Partners.{Placed}
use Rattle.given_work.specs.Store.{members_in}
use Rattle.given_work.specs.Working.{IsRightWorkOf}
use Rattle.given_work.proofs.AboutWhole.WorkLemmas.{found-at, given-at}
use Rattle.given_work.proofs.working.work_in.Goals as goal

pub unreachable-requires : goal.unreachable-requires
unreachable-requires c =
    let found = found-at c.args.known.now.store.now c.args.number c.requires.kept.placed c.requires.given in
    none-some (found.0).position (sym c.in_default.is ∙ c.position.ensures ∙ ap (option_map (λ (p : Placed). p.position)) found.1)

pub unreachable-requires-in_default-premise : goal.unreachable-requires-in_default-premise
unreachable-requires-in_default-premise c =
    let found = found-at c.args.known.now.store.now c.args.number c.requires.kept.placed c.requires.given in
    none-some (found.0).member
    (sym (ap (option_map (λ (p : Premise). p.member.now)) c.in_default-premise.is) ∙ c.premise.ensures.member
    ∙ ap (option_map (λ (p : Placed). p.member)) found.1)

pub work_at-requires-clause-given : goal.work_at-requires-clause-given
work_at-requires-clause-given c =
    (given-at c.args.known.now.store.now c.args.number c.in-Some.place c.in-Some-premise.given.member.now c.requires.kept.placed
    (sym c.position.ensures ∙ c.in-Some.is)
    (sym c.premise.ensures.member ∙ ap (option_map (λ (p : Premise). p.member.now)) c.in-Some-premise.is)).there

pub returns : goal.returns
returns c =
    let at =
    given-at c.args.known.now.store.now c.args.number c.in-Some.place c.in-Some-premise.given.member.now c.requires.kept.placed
    (sym c.position.ensures ∙ c.in-Some.is)
    (sym c.premise.ensures.member ∙ ap (option_map (λ (p : Premise). p.member.now)) c.in-Some-premise.is) in
    subst (λ n. IsRightWorkOf c.args.known.now.split c.args.known.now.store.now.partners.mode (members_in c.args.known.now.store.now.slots.items) n c.args.left c.in_ok-work.work)
    at.numbered c.in_ok-work.ensures
