use Rattle.std.proofs.Common.{List, ℕ, ◌++◌, refl, ap, ◌∙◌}
use Rattle.fol_base.specs.Lent.{lent_of}
use Rattle.fol_base.specs.Compatible.{compatible_generalisation}
use Rattle.disc_tree.specs.Entries.{numbers_where}
use Rattle.unit_cutting.specs.Indexed.{HasCandidates}
use Rattle.unit_cutting.proofs.IndexedLemmas.{candidates}
use Rattle.unit_cutting.proofs.index.UnitIndex.candidates.Goals as goal

pub returns : goal.returns
returns c =
    let others : List ℕ = numbers_where (λ term. compatible_generalisation term (lent_of c.args.literal).right) c.self.inside.lefts in
    let all : HasCandidates c.args.self.now (lent_of c.args.literal) c.from_vec.result =
    rw (← c.self.view_is)
    (candidates c.self.inside.lefts c.self.inside.units.entries (lent_of c.args.literal) c.in_ok-generalisations.field-0 others
    c.from_vec.result c.self.invariant c.in_ok-generalisations.ensures refl
    (c.from_vec.ensures ∙ c.in_ok-push_generalisations.ensures.found ∙ ap (λ (xs : List ℕ). xs ++ others) c.into_vec-found.ensures)) in
    all
