use Rattle.std.proofs.Common.{◌≡◌, None, Some, ap, sym, subst}
use Rattle.std.specs.Prelude.{option_map}
use Rattle.partners.specs.Partners.{PartnerSet, Placed, placed_numbered}
use Rattle.partners.proofs.KnownLemmas.{absent-known, found-known}
use Rattle.partners.proofs.partners.Partners.position.Goals as goal

pub returns-in-None : goal.returns-in-None
returns-in-None c =
    subst (λ (s : PartnerSet). None ≡ option_map (λ (p : Placed). p.position) (placed_numbered c.args.number s.members)) c.self.view_is
    (sym (ap (option_map (λ (p : Placed). p.position)) (absent-known c.args.number c.self.inside.known.entries c.in-None.ensures.value)))

pub returns-in-Some : goal.returns-in-Some
returns-in-Some c =
    subst (λ (s : PartnerSet). Some c.in-Some.partner.now.position ≡ option_map (λ (p : Placed). p.position) (placed_numbered c.args.number s.members))
    c.self.view_is
    (sym (ap (option_map (λ (p : Placed). p.position))
    (found-known c.self.inside.mode c.self.inside.starts c.self.inside.places c.args.number c.self.inside.known.entries c.in-Some.partner.now
    c.self.invariant c.in-Some.ensures.value)))
