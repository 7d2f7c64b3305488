-- Factorings of which sizes tell whether the order allows them: the unified sides cancel out, so the other sides decide between the two literals.
use Rattle.std.proofs.Common.{◌≡◌, true, false, ◌&&◌, None, ap, ap₂, sym, ◌∙◌, eq-eqb}
use Rattle.std.specs.Prelude.{slice_get}
use Rattle.std.proofs.lemmas.Bool.{true≢false, and_from}
use Rattle.std.proofs.Math.Bool.{and-false}
use Rattle.fol_base.specs.Tree.{Tree}
use Rattle.fol_base.specs.Instance.{Substitution, instance}
use Rattle.fol_base.specs.Clause.{TreeClause, literal_instance}
use Rattle.fol_base.specs.Ground.{literals_instance}
use Rattle.fol_base.specs.Order.{tree_greater, literal_greater}
use Rattle.fol_base.specs.Selection.{eligible}
use Rattle.fol_base.specs.Sides.{other_side_of}
use Rattle.fol_base.specs.declared.clause.Side.TheVariants.{Left}
use Rattle.fol_base.proofs.AboutClauses.InferenceLemmas.{side_of-instance, other_side_of-instance}
use Rattle.unifier.specs.SolvedForm.{SolvedForm, substitution_of}
use Rattle.eq_rules.specs.Factoring.{FactorsBy, IsLargest, allows, literal_allows}
use Rattle.eq_rules.specs.declared.concluding.FactorPlace.{FactorPlace}
use Rattle.eq_rules.proofs.AboutConclusions.OutsizeLemmas.{beside-unified, greater-refuses, outsizes-but-one}
use Rattle.eq_rules.proofs.AboutConclusions.SideLemmas.{alike-parts}

module _ (b : SolvedForm) (c : TreeClause) (place : FactorPlace) (r : FactorsBy b c place) where
  abbrev under : Substitution
  under = substitution_of b Left

  abbrev coming : Tree
  coming = instance under (other_side_of place.other.side r.literal_j)

  abbrev staying : Tree
  staying = instance under (other_side_of place.becomes.side r.literal_i)

  -- the other literal is greater exactly where its other side is
  decided : literal_greater (literal_instance under r.literal_j) (literal_instance under r.literal_i) ≡ tree_greater coming staying
  decided =
      let alike = alike-parts r.literal_i place.becomes.side r.literal_j place.other.side r.alike in
      beside-unified (literal_instance under r.literal_i) (literal_instance under r.literal_j) place.becomes.side place.other.side
      alike.first_positive alike.second_positive
      (side_of-instance under place.becomes.side r.literal_i
      ∙ r.unified.0.unifies
      ∙ sym (side_of-instance under place.other.side r.literal_j))
      ∙ ap₂ tree_greater
      (other_side_of-instance under place.other.side r.literal_j)
      (other_side_of-instance under place.becomes.side r.literal_i)

  differ : place.other.literal ≡ place.becomes.literal → ⊥
  differ e = true≢false (sym (eq-eqb place.becomes.literal place.other.literal (sym e)) ∙ r.differ)

  pub factoring_refused : tree_greater coming staying ≡ true → allows under c.literals place ≡ false
  factoring_refused greater =
      let ordered = literal_allows under place.becomes.side (slice_get c.literals place.becomes.literal) in
      ap (λ e. ordered && e)
      (greater-refuses under c.literals place.becomes.literal place.other.literal r.literal_i r.literal_j r.i_there r.j_there differ
      (decided ∙ greater))
      ∙ and-false ordered

  pub factoring_allowed : tree_greater coming staying ≡ false → IsLargest under c.literals place → allows under c.literals place ≡ true
  factoring_allowed not_greater largest =
      and_from (literal_allows under place.becomes.side (slice_get c.literals place.becomes.literal))
      (eligible (literals_instance under c.literals) place.becomes.literal None false)
      largest.beside
      (outsizes-but-one under c.literals place.becomes.literal place.other.literal r.literal_i r.literal_j r.i_there r.j_there largest.outsizes
      (decided ∙ not_greater))
