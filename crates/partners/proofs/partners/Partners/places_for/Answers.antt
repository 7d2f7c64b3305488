use Rattle.std.proofs.Common.{subst}
use Rattle.fol_base.specs.Term.{tree_of}
use Rattle.superpose.specs.Sites.{enter_sites}
use Rattle.superpose.specs.declared.sites.Sites.{Sites}
use Rattle.partners.specs.Meeting.{AreCandidates}
use Rattle.partners.specs.Partners.{PartnerSet}
use Rattle.partners.specs.SiteTerms.{place_term}
use Rattle.partners.proofs.KnownLemmas.{candidates, into-sites}
use Rattle.partners.proofs.partners.Partners.places_for.Goals as goal

pub returns : goal.returns
returns c =
    let a = c.self.inside in
    subst (λ (s : PartnerSet). AreCandidates enter_sites place_term s (tree_of c.args.term.now) c.in_order.result) c.self.view_is
    (candidates enter_sites place_term (λ (ss : Sites). ss.into.items) a.mode a.starts a.places a.places a.known.entries (tree_of c.args.term.now)
    c.in_ok-found.found c.in_order.result c.self.invariant (λ n p k. k.indexed.into) (into-sites a.mode) (λ ss few. few.into)
    c.in_ok-found.ensures c.in_order.ensures.rise c.in_order.ensures.same)
