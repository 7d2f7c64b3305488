-- The first line of a cut: the literal that is cut becomes one without solution.
use Rattle.std.proofs.Common.{◌≡◌, ℕ, ◌+◌, ◌<◌, Bool, true, false, ◌&&◌, not, Option, Some, List, [], ◌∷◌, ◌++◌, length, append-nil, refl, ap, ap₂, sym, ◌∙◌, subst, ⊎_elim, arith}
use Rattle.std.specs.Prelude.{slice_get, slice_set, remove}
use Rattle.std.specs.List.{AllByRecursion}
use Rattle.std.proofs.lemmas.Bool.{cases_Bool, cond-true, cond-false, and_parts, not-true}
use Rattle.fol_base.specs.Tree.{Tree, is_truth}
use Rattle.fol_base.specs.Instance.{substitution}
use Rattle.fol_base.specs.Clause.{TreeLiteral, TreeClause, LiteralVariablesBelow, literal_instance, clause_variables}
use Rattle.fol_base.specs.Ground.{literals_instance}
use Rattle.fol_base.specs.Canonical.{bound_of}
use Rattle.fol_base.specs.Rules.{superposed}
use Rattle.fol_base.specs.Sides.{side_of, other_side_of, with_side}
use Rattle.fol_base.specs.declared.clause.Side.{Side}
use Rattle.fol_base.specs.declared.clause.Side.TheVariants.{Left, Right}
use Rattle.fol_base.proofs.AboutCanonical.CanonicalLemmas.{length-terms_from, terms_from-at}
use Rattle.fol_base.proofs.AboutInstances.InstanceLemmas.{instances_agree_below}
use Rattle.fol_base.proofs.AboutClauses.RuleLemmas.{superposed-from, superposed_literal-from}
use Rattle.kernel_steps.specs.Derivation.{complement}
use Rattle.unifier.specs.Matching.{by_pairs}
use Rattle.subsume.specs.Kinds.{are_alike}
use Rattle.subsume.proofs.AboutSearch.PlacingLemmas.{alike-says}
use Rattle.eq_rules.proofs.AboutConclusions.PremiseLemmas.{clause-below, literal-below}
use Rattle.unit_cutting.specs.Cutting.{IsFitting, turned, open_side, fitting_side, unit_terms, unsolvable, before_last}
use Rattle.kernel_steps.specs.Lines.{own_terms}
use Rattle.unit_cutting.specs.Superposing.{superposed_under}
use Rattle.unit_cutting.specs.declared.matching.Fitting.{Fitting}
use Rattle.unit_cutting.proofs.AboutCuts.OwnLemmas.{own-literals}

-- ---- sides

-- sides of a literal, and of one with which they agree, exchanged or as they stand
sides-fit :
    (crossed : Bool) (s : Side) (m l : TreeLiteral) → m.left ≡ (turned crossed l).left → m.right ≡ (turned crossed l).right
    → (side_of (fitting_side crossed s) m ≡ side_of s l) × (other_side_of (fitting_side crossed s) m ≡ other_side_of s l)
sides-fit true Left m l e d = (d, e)
sides-fit true Right m l e d = (e, d)
sides-fit false Left m l e d = (e, d)
sides-fit false Right m l e d = (d, e)

open-no_truth : (l : TreeLiteral) → (is_truth l.left && is_truth l.right) ≡ false → is_truth (side_of (open_side l) l) ≡ false
open-no_truth l h =
    ⊎_elim
    (λ left.
    ap (λ (s : Side). is_truth (side_of s l)) (cond-true (is_truth l.left) Right Left left)
    ∙ sym (ap (λ b. b && is_truth l.right) left) ∙ h)
    (λ left. ap (λ (s : Side). is_truth (side_of s l)) (cond-false (is_truth l.left) Right Left left) ∙ left)
    (cases_Bool (is_truth l.left))

-- a literal both sides of which are one term
both-sides : (s : Side) (t : Tree) (m : TreeLiteral) → m.positive ≡ false → other_side_of s m ≡ t → with_side s t m ≡ unsolvable t
both-sides Left t m sign other =
    ap₂ (λ (b : Bool) (u : Tree). let k : TreeLiteral = record { positive = b; left = t; right = u } in k) sign other
both-sides Right t m sign other =
    ap₂ (λ (b : Bool) (u : Tree). let k : TreeLiteral = record { positive = b; left = u; right = t } in k) sign other

-- ---- the unit's literal under its terms

module _ (uc : TreeClause) (u : TreeLiteral) (is_unit : uc.literals ≡ u ∷ []) (l : TreeLiteral) (f : Fitting) (fits : IsFitting (complement u) l f) where
  abbrev terms : List Tree
  terms = unit_terms uc f.terms

  pub unit-many : length terms ≡ bound_of (clause_variables uc)
  unit-many = length-terms_from 0 (bound_of (clause_variables uc)) (by_pairs f.terms)

  pub unit-below : AllByRecursion (LiteralVariablesBelow (length terms)) uc.literals
  unit-below = subst (λ (n : ℕ). AllByRecursion (LiteralVariablesBelow n) uc.literals) (sym unit-many) (clause-below uc)

  u-below : LiteralVariablesBelow (bound_of (clause_variables uc)) u
  u-below = literal-below uc 0 u (ap (λ (ls : List TreeLiteral). slice_get ls 0) is_unit)

  pub unit-at : (v : ℕ) → v < bound_of (clause_variables uc) → substitution terms v ≡ by_pairs f.terms v
  unit-at v less =
      let zero-plus : 0 + v ≡ v = omega arith in
      terms_from-at 0 (bound_of (clause_variables uc)) v (by_pairs f.terms) _ less ∙ ap (by_pairs f.terms) zero-plus

  abbrev made : TreeLiteral
  made = literal_instance (substitution terms) u

  pub made-left : made.left ≡ (turned f.crossed l).left
  made-left =
      instances_agree_below (bound_of (clause_variables uc)) (substitution terms) (by_pairs f.terms) u.left u-below.0 unit-at ∙ fits.turns.left

  pub made-right : made.right ≡ (turned f.crossed l).right
  made-right =
      instances_agree_below (bound_of (clause_variables uc)) (substitution terms) (by_pairs f.terms) u.right u-below.1 unit-at ∙ fits.turns.right

  abbrev s : Side
  s = open_side l

  abbrev z : Side
  z = fitting_side f.crossed s

  abbrev kept : Tree
  kept = other_side_of s l

  fit-sides : (side_of z made ≡ side_of s l) × (other_side_of z made ≡ kept)
  fit-sides = sides-fit f.crossed s made l made-left made-right

  parts : (are_alike (complement u) l ≡ true) × (not (is_truth l.left && is_truth l.right) ≡ true)
  parts = and_parts (are_alike (complement u) l) (not (is_truth l.left && is_truth l.right)) fits.may

  side-open : is_truth (side_of s l) ≡ false
  side-open = open-no_truth l (not-true (is_truth l.left && is_truth l.right) parts.1)

  pub signs : not u.positive ≡ l.positive
  signs = (alike-says (complement u) l parts.0).sign

  module _ (c : TreeClause) (j : ℕ) (there : slice_get c.literals j ≡ Some l) where
    -- the unit's literal onto the clause's
    pub positive-unit :
        u.positive ≡ true
        → superposed_under terms uc.literals 0 z (own_terms c) c.literals j s ≡ Some (before_last false c.literals j kept)
    positive-unit sign =
        let negative : l.positive ≡ false = sym signs ∙ ap not sign in
        ap₂ (λ (xs ys : List TreeLiteral). superposed (literals_instance (substitution terms) xs) 0 z ys j s []) is_unit (own-literals c)
        ∙ superposed-from (made ∷ []) 0 z c.literals j s [] (slice_set c.literals j (with_side s kept l) ++ []) (record {
          from = made;
          from_there = refl;
          into = l;
          into_there = there;
          literal = with_side s kept l;
          literal_made = superposed_literal-from made z l s [] (with_side s kept l) (record {
            positive = sign;
            no_truth = ap is_truth fit-sides.0 ∙ side-open;
            old_there = ap (λ (t : Tree). let o : Option Tree = Some t in o) (sym fit-sides.0);
            new = kept;
            new_made = ap (λ (t : Tree). let o : Option Tree = Some t in o) fit-sides.1;
            gives = refl;
          });
          gives = refl;
        })
        ∙ ap (λ (xs : List TreeLiteral). let o : Option (List TreeLiteral) = Some xs in o)
        (append-nil (slice_set c.literals j (with_side s kept l)) ∙ ap (slice_set c.literals j) (both-sides s kept l negative refl))

    -- the clause's onto the unit's
    pub negative-unit :
        u.positive ≡ false
        → superposed_under (own_terms c) c.literals j s terms uc.literals 0 z ≡ Some (before_last true c.literals j kept)
    negative-unit sign =
        let positive : l.positive ≡ true = sym signs ∙ ap not sign in
        ap₂ (λ (xs ys : List TreeLiteral). superposed xs j s (literals_instance (substitution terms) ys) 0 z []) (own-literals c) is_unit
        ∙ superposed-from c.literals j s (made ∷ []) 0 z [] (with_side z kept made ∷ remove c.literals j) (record {
          from = l;
          from_there = there;
          into = made;
          into_there = refl;
          literal = with_side z kept made;
          literal_made = superposed_literal-from l s made z [] (with_side z kept made) (record {
            positive = positive;
            no_truth = side-open;
            old_there = ap (λ (t : Tree). let o : Option Tree = Some t in o) fit-sides.0;
            new = kept;
            new_made = refl;
            gives = refl;
          });
          gives = refl;
        })
        ∙ ap (λ (m : TreeLiteral). let o : Option (List TreeLiteral) = Some (m ∷ remove c.literals j) in o) (both-sides z kept made sign fit-sides.1)
