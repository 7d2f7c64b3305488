use Rattle.std.proofs.Common.{List, [], ap, sym, subst}
use Rattle.fol_base.specs.Selection.{SelectionMode}
use Rattle.literal_selection.specs.Mode.{mode_of}
use Rattle.eq_rules.specs.Inferences.{AreInferences}
use Rattle.eq_rules.specs.declared.inference.Inference.{Inference}
use Rattle.superpose.specs.Pairing.{AddsTried, pair_keys, is_between, two}
use Rattle.superpose.proofs.AboutSites.TriedLemmas.{between_all}
use Rattle.superpose.proofs.pairing.between.Goals as goal

pub returns : goal.returns
returns c usage used second_used =
    let m = c.args.given.now in
    let n = c.args.partner.now in
    let mode = mode_of c.args.mode in
    let middle = c.superpositions.new.found.items in
    let found = c.superpositions-2.new.found.items in
    let first : AddsTried mode m n (pair_keys mode m n) [] middle =
    subst (λ (es : List Inference). AddsTried mode m n (pair_keys mode m n) es middle) c.new-found.ensures.items
    (subst (λ (k : SelectionMode). AddsTried k m n (pair_keys k m n) c.new-found.result.items middle) (ap mode_of c.in_ok-given_sites.ensures.mode)
    c.in_ok-superpositions.ensures.tried) in
    let second : AddsTried mode n m (pair_keys mode n m) middle found =
    subst (λ (k : SelectionMode). AddsTried k n m (pair_keys k n m) middle found) (ap mode_of c.in_ok-partner_sites.ensures.mode)
    c.in_ok-superpositions-2.ensures.tried in
    subst (λ (es : List Inference). AreInferences usage.is_predicate mode (two m n) is_between es) (sym c.from_vec.ensures)
    (between_all m n c.requires.differ mode middle found first second usage used second_used)
