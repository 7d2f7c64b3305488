use Rattle.std.proofs.Common.{map, subst, sym}
use Rattle.fol_base.specs.Lent.{lent_of}
use Rattle.subsume.specs.Choosing.{HasNoPartner}
use Rattle.subsume.proofs.AboutSearch.ChoosingLemmas.{no-free-partner-none}
use Rattle.list_lemmas.proofs.Lists.{length-mapped}
use Rattle.list_lemmas.proofs.Places.{get-mapped}
use Rattle.subsume.proofs.choosing.choose.Goals as goal

pub returns-then-partners-eq0 : goal.returns-then-partners-eq0
returns-then-partners-eq0 c =
    no-free-partner-none (map lent_of c.args.patterns.now) (map lent_of c.args.targets.now) c.args.used.now c.args.so_far.now c.loop-index.index
    (lent_of c.index-patterns-index.result)
    (get-mapped lent_of c.args.patterns.now c.loop-index.index c.index-patterns-index.result c.loop-index-test.true c.index-patterns-index.is)
    (subst (HasNoPartner c.args.so_far.now c.args.used.now (lent_of c.index-patterns-index.result) (map lent_of c.args.targets.now))
    (sym (length-mapped lent_of c.args.targets.now)) (c.in_ok-partners.ensures c.if-partners-eq0.true))
