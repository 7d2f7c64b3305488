-- What the way by equations finds is a most general unifier.
use Rattle.std.proofs.Common.{◌≡◌, ℕ, ◌+◌, ◌*◌, ◌<◌, ◌≤◌, Bool, true, false, Option, None, Some, List, [], ◌∷◌, length, map, refl, ap, sym, ◌∙◌, subst, arith}
use Rattle.std.specs.Prelude.{is_some}
use Rattle.std.specs.List.{list_all}
use Rattle.std.proofs.lemmas.Bool.{and_parts, and_from}
use Rattle.std.proofs.lemmas.List.Folds.{list_all-append, list_all-map}
use Rattle.fol_base.specs.Tree.{Tree, variable, tree_variables}
use Rattle.fol_base.specs.Instance.{Substitution, instance}
use Rattle.fol_base.specs.Unifier.{IsUnifierApart, IsMostGeneralUnifier, IsMostGeneralUnifierApart}
use Rattle.fol_base.specs.declared.clause.Side.TheVariants.{Left, Right}
use Rattle.unifier.specs.declared.layout.Place.{Place}
use Rattle.unifier.specs.declared.layout.Layout.{Layout}
use Rattle.unifier.specs.declared.equation.Equations.{Equations}
use Rattle.unifier.specs.declared.solution.TheConstants.{FEW_PLACES}
use Rattle.unifier.specs.declared.agreeing.Walked.TheVariants.{Agreed, Clashed}
use Rattle.unifier.specs.Cells.{Value, tree, as_tree, IsValuation}
use Rattle.unifier.specs.InOrder.{InOrder}
use Rattle.unifier.specs.SolvedForm.{SolvedForm, code_of, codes_of, of_side, joint}
use Rattle.unifier.specs.Layout.{cell_of, has_place, all_pass}
use Rattle.unifier.specs.Solution.{value_at, bound, pair_at}
use Rattle.unifier.specs.Bindings.{IsUnified, IsFound}
use Rattle.unifier.specs.Equations.{Item, ItemPasses, item_under, equations_of, bound_in, noted_of, HasNone, Solves, EquationsPass}
use Rattle.unifier.specs.Agreeing.{Agrees, AreForced}
use Rattle.unifier.specs.Resolving.{PlacesAgree, IsResolving, AreResolved, codes_in}
use Rattle.unifier.proofs.AboutClasses.CellLemmas.{tree-value}
use Rattle.unifier.proofs.AboutLayouts.PlaceLemmas.{found-passes}
use Rattle.unifier.proofs.AboutLayouts.ValueLemmas.{value_at-valuation, instance_value, valuation-instance, tree-instance}
use Rattle.unifier.proofs.AboutEquations.SolutionLemmas.{pairs-term, variables-pass}
use Rattle.unifier.proofs.AboutEquations.UnifyLemmas.{joint_of, joint_of-left, joint_of-right, instance-same, unified-by}
use Rattle.unifier.proofs.AboutEquations.EquationLemmas.{bound-passes, codes-pass}
use Rattle.unifier.proofs.AboutEquations.ResolveLemmas.{still-all-placed}
use Rattle.list_lemmas.proofs.Bools.{tests-agree}

-- ---- no equations yet

no-item : (es : Equations) (w : ℕ) (a : Item) → HasNone es → bound_in es w ≡ Some a → ⊥
no-item es w a none found = let wrong : None ≡ Some a = sym (none.0 w) ∙ found in cc

none-solves : (apart : Bool) (θ : Substitution) (es : Equations) → HasNone es → Solves apart θ es
none-solves apart θ es none w a found = absurd (no-item es w a none found)

pub forced-from-none :
    (apart : Bool) (start es : Equations) (s t : Tree) → HasNone start → Agrees apart start es (Left, s) (Right, t) Agreed → AreForced apart es s t
forced-from-none apart start es s t none h = (
  (λ θ solves. (h.0 θ solves).1),
  (λ θ e. h.1 θ (none-solves apart θ start none) e),
  (λ test left right. h.2 test ((λ w a found. absurd (no-item start w a none found)), ap (list_all test) none.1) (left, right)),
  (λ test p. (h.3 test p).1),
)

-- ---- unifiers apart and not, by substitutions of both sides

abbrev pub Unifies : Bool → Tree → Tree → Substitution → Type 0
Unifies apart s t θ = item_under apart θ (Left, s) ≡ item_under apart θ (Right, t)

joint-unifies : (s t : Tree) (σ τ : Substitution) → IsUnifierApart s t σ τ → Unifies true s t (joint_of σ τ)
joint-unifies s t σ τ e =
    let θ : Substitution = joint_of σ τ in
    instance-same (of_side true Left θ) σ s (joint_of-left σ τ) ∙ e ∙ sym (instance-same (of_side true Right θ) τ t (joint_of-right σ τ))

none-unified : (apart : Bool) (s t : Tree) → ((θ : Substitution) → Unifies apart s t θ → ⊥) → IsUnified apart s t None
none-unified true s t h = λ σ τ e. h (joint_of σ τ) (joint-unifies s t σ τ e)
none-unified false s t h = λ σ e. h σ e

pub clashed-unified :
    (apart : Bool) (start es : Equations) (s t : Tree) → HasNone start → Agrees apart start es (Left, s) (Right, t) Clashed → IsUnified apart s t None
clashed-unified apart start es s t none h = none-unified apart s t (λ θ e. h θ (none-solves apart θ start none) e)

general-apart :
    (s t : Tree) (σ : Substitution)
    → Unifies true s t σ → ((θ : Substitution) → Unifies true s t θ → (w : ℕ) → θ w ≡ instance θ (σ w))
    → IsMostGeneralUnifierApart s t (of_side true Left σ) (of_side true Right σ)
general-apart s t σ unifies general = record {
  unifies = unifies;
  is_general = λ ρ π e.
      let θ : Substitution = joint_of ρ π in
      let all : (w : ℕ) → θ w ≡ instance θ (σ w) = general θ (joint-unifies s t ρ π e) in (
        θ,
        (λ v. sym (joint_of-left ρ π v) ∙ all (2 * v)),
        (λ v. sym (joint_of-right ρ π v) ∙ all (2 * v + 1)),
      );
}

general-together :
    (s t : Tree) (σ : Substitution)
    → Unifies false s t σ → ((θ : Substitution) → Unifies false s t θ → (w : ℕ) → θ w ≡ instance θ (σ w))
    → IsMostGeneralUnifier s t (of_side false Left σ)
general-together s t σ unifies general = record { unifies = unifies; is_general = λ ρ e. (ρ, general ρ e) }

-- ---- the cells and places

placed-pass :
    (test : ℕ → Bool) (ps : List Place) (ws : List ℕ) → all_pass test ps ≡ true → list_all (has_place ps) ws ≡ true → list_all test ws ≡ true
placed-pass test ps [] all placed = refl
placed-pass test ps (w ∷ ws) all placed =
    let both = and_parts (has_place ps w) (list_all (has_place ps) ws) placed in
    and_from (test w) (list_all test ws) (by (cell_of w ps) refl both.0) (placed-pass test ps ws all both.1)
  where
    by : (o : Option ℕ) → cell_of w ps ≡ o → is_some o ≡ true → test w ≡ true
    by None e some = cc
    by (Some k) e some = found-passes test w k ps all e

-- what cells and places say
abbrev pub drawn : Bool → Layout → SolvedForm
drawn apart l = record { apart = apart; pairs = map (pair_at l.cells.items) l.places.items }

module _ (apart : Bool) (es : Equations) (s t : Tree) (start mid last : Layout)
    (forced : AreForced apart es s t) (starts : start.places.items ≡ [])
    (first : AreResolved apart es start mid (codes_in es)) (second : AreResolved apart es mid last (noted_of es)) where
  σ : Substitution
  σ = joint (drawn apart last)

  own : ℕ → Value
  own = value_at variable last.cells.items

  made : IsValuation variable last.cells.items own
  unfolding own
  made = value_at-valuation variable last.cells.items second.resolving.ordered

  found-at : (w k : ℕ) → cell_of w last.places.items ≡ Some k → σ w ≡ as_tree (own k)
  unfolding σ own
  found-at w k found = pairs-term last.cells.items last.places.items w ∙ ap (λ o. bound last.cells.items o w) found

  free-at : (w : ℕ) → cell_of w last.places.items ≡ None → σ w ≡ variable w
  unfolding σ
  free-at w none = pairs-term last.cells.items last.places.items w ∙ ap (λ o. bound last.cells.items o w) none

  agrees : PlacesAgree σ own last.places.items
  agrees w k found =
      let there = second.resolving.terms w k found in
      tree-value variable last.cells.items own k made there.0 there.1 ∙ ap tree (sym (found-at w k found))

  -- a bound variable has its place
  bound-placed : (w : ℕ) (a : Item) → bound_in es w ≡ Some a → has_place last.places.items w ≡ true
  bound-placed w a is =
      bound-passes (has_place last.places.items) (equations_of es) w a (still-all-placed mid last (codes_in es) second.grows first.placed) is

  -- so the equations' variables have, and those of both trees
  all-placed : EquationsPass apart (has_place last.places.items) es
  all-placed = ((λ w a is. (bound-placed w a is, by (cell_of w last.places.items) w a is refl (bound-placed w a is))), second.placed)
    where
      by :
          (o : Option ℕ) (w : ℕ) (a : Item)
          → bound_in es w ≡ Some a → cell_of w last.places.items ≡ o → is_some o ≡ true → ItemPasses apart (has_place last.places.items) a
      by None w a is e some = cc
      by (Some k) w a is e some = second.resolving.closed w k a e is

  both-placed : ItemPasses apart (has_place last.places.items) (Left, s) × ItemPasses apart (has_place last.places.items) (Right, t)
  both-placed = forced.3 (has_place last.places.items) all-placed

  solves : Solves apart σ es
  solves w a is = by (cell_of w last.places.items) refl (bound-placed w a is)
    where
      by : (o : Option ℕ) → cell_of w last.places.items ≡ o → is_some o ≡ true → σ w ≡ item_under apart σ a
      by None e some = cc
      by (Some k) e some = second.resolving.solves σ variable own made agrees w k a e is

  unifies : Unifies apart s t σ
  unifies = forced.0 σ solves

  general : (θ : Substitution) → Unifies apart s t θ → (w : ℕ) → θ w ≡ instance θ (σ w)
  general θ e w = by (cell_of w last.places.items) refl
    where
      agreed : PlacesAgree θ (λ k. instance_value θ (own k)) last.places.items
      agreed = second.resolving.general θ (λ k. instance_value θ (own k)) (forced.1 θ e) (valuation-instance θ last.cells.items own made)

      by : (o : Option ℕ) → cell_of w last.places.items ≡ o → θ w ≡ instance θ (σ w)
      by None none = ap (instance θ) (sym (free-at w none))
      by (Some k) found = tree-instance θ (θ w) (own k) (sym (agreed w k found)) ∙ ap (instance θ) (sym (found-at w k found))

  exactly : (test : ℕ → Bool) → all_pass test last.places.items ≡ list_all test (codes_of apart s t)
  exactly test =
      let ls : List ℕ = tree_variables s in
      let rs : List ℕ = tree_variables t in
      let lefts : List ℕ = map (code_of apart Left) ls in
      let rights : List ℕ = map (code_of apart Right) rs in
      tests-agree (all_pass test last.places.items) (list_all test (codes_of apart s t))
      (λ all.
      list_all-append test lefts rights
      ∙ and_from (list_all test lefts) (list_all test rights)
      (placed-pass test last.places.items lefts all (list_all-map (has_place last.places.items) (code_of apart Left) ls ∙ both-placed.0))
      (placed-pass test last.places.items rights all (list_all-map (has_place last.places.items) (code_of apart Right) rs ∙ both-placed.1)))
      (λ all.
      let both = and_parts (list_all test lefts) (list_all test rights) (sym (list_all-append test lefts rights) ∙ all) in
      let in_left : ItemPasses apart test (Left, s) = sym (list_all-map test (code_of apart Left) ls) ∙ both.0 in
      let in_right : ItemPasses apart test (Right, t) = sym (list_all-map test (code_of apart Right) rs) ∙ both.1 in
      let passing : EquationsPass apart test es = forced.2 test in_left in_right in
      let codes : list_all test (codes_in es) ≡ true = codes-pass test (equations_of es) (λ w a is. (passing.0 w a is).0) in
      second.pass test passing passing.1 (first.pass test passing codes (ap (all_pass test) starts)))

  pub equations-found : IsFound apart s t (drawn apart last)
  unfolding σ
  equations-found = record {
    sides = refl;
    unified =
        unified-by apart s t (drawn apart last) refl
        (λ is.
        let P : Bool → Type 0 = λ x. Unifies x s t σ in
        let Q : Bool → Type 0 = λ x. (θ : Substitution) → Unifies x s t θ → (w : ℕ) → θ w ≡ instance θ (σ w) in
        general-apart s t σ (subst P is unifies) (subst Q is general))
        (λ is.
        let P : Bool → Type 0 = λ x. Unifies x s t σ in
        let Q : Bool → Type 0 = λ x. (θ : Substitution) → Unifies x s t θ → (w : ℕ) → θ w ≡ instance θ (σ w) in
        general-together s t σ (subst P is unifies) (subst Q is general));
    variables = λ test. variables-pass test last.cells.items last.places.items ∙ exactly test;
  }

-- the cells are in order
pub equations-in-order :
    (apart : Bool) (es : Equations) (last : Layout) → IsResolving apart es last → length last.places.items ≤ FEW_PLACES → InOrder last.cells.items last.places.items
equations-in-order apart es last h few = record {
  ordered = h.ordered;
  kinded = h.kinded;
  terms = h.terms;
  own = h.own;
  findable = λ many. absurd (omega arith);
}

-- nothing is laid out yet
pub nothing-resolving :
    (apart : Bool) (es : Equations) (l : Layout) → l.cells.items ≡ [] → l.places.items ≡ [] → IsResolving apart es l
nothing-resolving apart es l cells places = record {
  ordered = λ i less. absurd (no-cell i less);
  kinded = λ i less. absurd (no-cell i less);
  terms = λ w k found. absurd (no-place w k found);
  own = λ k w less is. absurd (no-cell k less);
  solves = λ f θ val valuation agree w k a found bound. absurd (no-place w k found);
  closed = λ w k a found bound. absurd (no-place w k found);
  general = λ θ val solves valuation w k found. absurd (no-place w k found);
}
  where
    no-cell : (i : ℕ) → i < length l.cells.items → ⊥
    no-cell i less = omega (arith, less, ap length cells)

    no-place : (w k : ℕ) → cell_of w l.places.items ≡ Some k → ⊥
    no-place w k found = let wrong : None ≡ Some k = sym (ap (cell_of w) places) ∙ found in cc
