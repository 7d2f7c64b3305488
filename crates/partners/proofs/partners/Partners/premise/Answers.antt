use Rattle.std.proofs.Common.{◌≡◌, None, Some, ap, sym, ◌∙◌, subst}
use Rattle.std.specs.Prelude.{option_map}
use Rattle.literal_selection.specs.declared.choice.Selection.{Selection}
use Rattle.bank_clause.specs.declared.member.Member.{Member}
use Rattle.superpose.specs.declared.sites.Sites.{Sites}
use Rattle.partners.specs.Partners.{AreSitesFor, PartnerSet, Placed, placed_numbered}
use Rattle.partners.proofs.KnownLemmas.{absent-known, found-known}
use Rattle.partners.proofs.partners.Partners.premise.Goals as goal

pub returns-in-None-clause-member : goal.returns-in-None-clause-member
returns-in-None-clause-member c =
    subst (λ (s : PartnerSet). None ≡ option_map (λ (p : Placed). p.member) (placed_numbered c.args.number s.members)) c.self.view_is
    (sym (ap (option_map (λ (p : Placed). p.member)) (absent-known c.args.number c.self.inside.known.entries c.in-None.ensures.value)))

pub returns-in-Some-clause-member : goal.returns-in-Some-clause-member
returns-in-Some-clause-member c =
    subst (λ (s : PartnerSet). Some c.premise.result.member.now ≡ option_map (λ (p : Placed). p.member) (placed_numbered c.args.number s.members))
    c.self.view_is
    (ap Some c.premise.ensures.member
    ∙ sym (ap (option_map (λ (p : Placed). p.member))
    (found-known c.self.inside.mode c.self.inside.starts c.self.inside.places c.args.number c.self.inside.known.entries c.in-Some.partner.now
    c.self.invariant c.in-Some.ensures.value)))

pub returns-in-Some-clause-sites : goal.returns-in-Some-clause-sites
returns-in-Some-clause-sites c =
    let known = c.self.invariant c.args.number c.in-Some.partner.now (sym c.in-Some.ensures.value) in
    subst (λ (k : Selection). AreSitesFor k c.premise.result.member.now c.premise.result.sites.now) (ap (λ (s : PartnerSet). s.mode) c.self.view_is)
    (subst (λ (ss : Sites). AreSitesFor c.self.inside.mode c.premise.result.member.now ss) (sym c.premise.ensures.sites)
    (subst (λ (m : Member). AreSitesFor c.self.inside.mode m c.in-Some.partner.now.sites) (sym c.premise.ensures.member) known.sites))
