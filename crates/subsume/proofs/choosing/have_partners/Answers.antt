use Rattle.std.proofs.Common.{◌≡◌, false, map, subst, rules}
use Rattle.fol_base.specs.Lent.{lent_of}
use Rattle.subsume.specs.Choosing.{AreNoPartners}
use Rattle.subsume.proofs.AboutSearch.ChoosingLemmas.{no-partners-none}
use Rattle.subsume.proofs.choosing.have_partners.Goals as goal

pub returns-then-not-found : goal.returns-then-not-found
returns-then-not-found g c = λ _.
    let l = lent_of c.literal-literal.result in
    let ds = map lent_of c.args.targets.now in
    let no : c.in_ok-found.found ≡ false = search rules in
    no-partners-none (g.L.LendsLiterals.meaning c.args.lender.now) ds c.loop-index.index l c.literal-literal.ensures
    (subst (λ ps. AreNoPartners ps l ds) c.empty-nothing.ensures (c.in_ok-found.ensures no))
