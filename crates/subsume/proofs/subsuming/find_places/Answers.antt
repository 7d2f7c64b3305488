use Rattle.std.proofs.Common.{map, length, sym, ◌∙◌}
use Rattle.std.proofs.lemmas.Result.{IfOk-weaker}
use Rattle.fol_base.specs.Lent.{lent_of}
use Rattle.subsume.proofs.AboutSearch.ChoosingLemmas.{start-found}
use Rattle.list_lemmas.proofs.Lists.{length-mapped}
use Rattle.subsume.proofs.subsuming.find_places.Goals as goal

pub returns-clause-found : goal.returns-clause-found
returns-clause-found c =
    IfOk-weaker c.place.result _ _
    (λ found h.
    start-found (map lent_of c.args.patterns.now) (map lent_of c.args.targets.now) (length c.args.targets.now) _ c.new-used.result.items
    c.as_mut_slice.result.now c.empty.result found c.new-used.ensures.items c.new-used.ensures.len
    (c.as_mut_slice.ensures.value ∙ c.in_ok-resize.ensures.items) (sym (length-mapped lent_of c.args.targets.now)) c.empty.ensures h)
    c.place.ensures.found
