use Rattle.std.proofs.Common.{subst}
use Rattle.fol_base.specs.Term.{tree_of}
use Rattle.superpose.specs.Sites.{start_sites}
use Rattle.superpose.specs.declared.sites.Sites.{Sites}
use Rattle.partners.specs.Meeting.{AreCandidates}
use Rattle.partners.specs.Partners.{PartnerSet}
use Rattle.partners.specs.SiteTerms.{start_term}
use Rattle.partners.proofs.KnownLemmas.{candidates, from-sites}
use Rattle.partners.proofs.partners.Partners.starts_for.Goals as goal

pub returns : goal.returns
returns c =
    let a = c.self.inside in
    subst (λ (s : PartnerSet). AreCandidates start_sites start_term s (tree_of c.args.term.now) c.in_order.result) c.self.view_is
    (candidates start_sites start_term (λ (ss : Sites). ss.from.items) a.mode a.starts a.places a.starts a.known.entries (tree_of c.args.term.now)
    c.in_ok-found.found c.in_order.result c.self.invariant (λ n p k. k.indexed.from) (from-sites a.mode) (λ ss few. few.from)
    c.in_ok-found.ensures c.in_order.ensures.rise c.in_order.ensures.same)
