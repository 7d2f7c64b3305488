use Rattle.std.proofs.Common.{◌≡◌, None, ap, sym, ◌∙◌, subst}
use Rattle.std.specs.Prelude.{option_and_then, option_map}
use Rattle.superpose.specs.declared.sites.Premise.{Premise}
use Rattle.partners.specs.Partners.{PartnerSet, before, partner_before}
use Rattle.partners.proofs.KnownLemmas.{absent-known, found-known}
use Rattle.partners.proofs.partners.Partners.partner.Goals as goal

pub returns-in-None-clause-member : goal.returns-in-None-clause-member
returns-in-None-clause-member c =
    subst (λ (s : PartnerSet). None ≡ partner_before c.args.bound s c.args.number) c.self.view_is
    (sym (ap (option_and_then (before c.args.bound)) (absent-known c.args.number c.self.inside.known.entries c.in-None.ensures.value)))

pub returns-in-Some-clause-member : goal.returns-in-Some-clause-member
returns-in-Some-clause-member c =
    subst (λ (s : PartnerSet). option_map (λ (p : Premise). p.member.now) c.premise_before.result ≡ partner_before c.args.bound s c.args.number)
    c.self.view_is
    (c.premise_before.ensures.member
    ∙ sym (ap (option_and_then (before c.args.bound))
    (found-known c.self.inside.mode c.self.inside.starts c.self.inside.places c.args.number c.self.inside.known.entries c.in-Some.partner.now
    c.self.invariant c.in-Some.ensures.value)))
