use Rattle.std.proofs.Common.{List, [], ap, sym, subst}
use Rattle.fol_base.specs.Selection.{SelectionMode}
use Rattle.literal_selection.specs.Mode.{mode_of}
use Rattle.eq_rules.specs.Inferences.{AreInferences, alone}
use Rattle.eq_rules.specs.declared.inference.Inference.{Inference}
use Rattle.superpose.specs.Pairing.{AddsTried, pair_keys, is_superposition}
use Rattle.superpose.proofs.AboutSites.TriedLemmas.{within_all}
use Rattle.superpose.proofs.pairing.within.Goals as goal

pub returns : goal.returns
returns c usage used =
    let m = c.args.given.now in
    let found = c.superpositions.new.found.items in
    let adds : AddsTried (mode_of c.args.mode) m m (pair_keys (mode_of c.args.mode) m m) [] found =
    subst (λ (es : List Inference). AddsTried (mode_of c.args.mode) m m (pair_keys (mode_of c.args.mode) m m) es found) c.new-found.ensures.items
    (subst (λ (mode : SelectionMode). AddsTried mode m m (pair_keys mode m m) c.new-found.result.items found) (ap mode_of c.in_ok-sites.ensures.mode)
    c.in_ok-superpositions.ensures.tried) in
    subst (λ (es : List Inference). AreInferences usage.is_predicate (mode_of c.args.mode) (alone m) is_superposition es) (sym c.from_vec.ensures)
    (within_all (mode_of c.args.mode) m found adds usage used)
