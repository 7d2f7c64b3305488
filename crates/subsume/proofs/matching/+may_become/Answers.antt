use Rattle.std.proofs.Common.{◌≡◌, false, map, refl, ap, sym, ◌∙◌, arith, rules}
use Rattle.std.proofs.lemmas.Result.{IfOk-weaker}
use Rattle.fol_base.specs.Term.{tree_of}
use Rattle.fol_base.proofs.AboutTerms.TermLemmas.{tree_size-item}
use Rattle.subsume.proofs.AboutSearch.BecomingLemmas.{arguments-become, item-becomes}
use Rattle.subsume.proofs.matching.+may_become.Goals as goal

pub all_may_become-may_become-requires : goal.all_may_become-may_become-requires
all_may_become-may_become-requires t c =
    (omega (arith, tree_size-item c.args.patterns.now (map tree_of c.args.patterns.now) _ _ refl c.loop-index-test.true c.index-patterns-index.is, c.decreases), tt)

pub may_become-returns-then-symbol-other : goal.may_become-returns-then-symbol-other
may_become-returns-then-symbol-other t c =
    IfOk-weaker c.all_may_become.result _ _
    (λ found h. λ σ has e.
    h σ has
    (arguments-become σ c.in-App.symbol c.in-App-target.other c.in-App.arguments c.in-App-target.others _ _ c.as_slice.result.now
    c.as_slice-then-symbol-other.result.now (ap tree_of c.in-App.is) (ap tree_of c.in-App-target.is) c.as_slice.ensures c.as_slice-then-symbol-other.ensures e))
    c.all_may_become.ensures

pub all_may_become-returns-then-not-fits : goal.all_may_become-returns-then-not-fits
all_may_become-returns-then-not-fits t c = λ σ has all.
    let no : c.in_ok-fits.fits ≡ false = search rules in
    sym no
    ∙ c.in_ok-fits.ensures σ has
    (item-becomes σ c.args.patterns.now c.args.targets.now c.loop-index.index c.index-patterns-index.result c.index-targets-index.result
    c.loop-index-test.true c.index-patterns-index.is (omega arith) c.index-targets-index.is all)
