use Rattle.std.proofs.Common.{length, refl, arith}
use Rattle.std.proofs.lemmas.Option.{slice_get_read}
use Rattle.partners.proofs.IndexLemmas.{all-indexed, one-indexed}
use Rattle.partners.proofs.index.put_sites.Goals as goal

pub returns-in_err-put_site-clause-kept : goal.returns-in_err-put_site-clause-kept
returns-in_err-put_site-clause-kept g c = λ e there. c.put_site.ensures.kept e (c.loop-index.invariant.1 e there)

pub loop-index-preserved : goal.loop-index-preserved
loop-index-preserved g c =
    let sites = c.args.sites.now in (
      one-indexed g.S.Site.term_in c.args.literals.now c.args.number sites c.loop-index.index c.index-sites-index.result
          c.loop-index.tree c.put_site.new.tree
          (slice_get_read sites (length sites) c.loop-index.index c.index-sites-index.result refl (omega arith) c.index-sites-index.is)
          c.put_site.ensures.kept c.in_ok-put_site.ensures.put c.loop-index.invariant.0,
      (λ e there. c.put_site.ensures.kept e (c.loop-index.invariant.1 e there)),
    )

pub returns-clause-put : goal.returns-clause-put
returns-clause-put g c =
    all-indexed g.S.Site.term_in c.args.literals.now c.args.number c.args.sites.now c.loop-index.index c.loop-index.tree (omega arith)
    c.loop-index.invariant.0
