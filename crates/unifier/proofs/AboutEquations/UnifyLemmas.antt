-- The answer of `unify`, from what was laid out and solved.
use Rattle.std.proofs.Common.{◌≡◌, ℕ, ◌+◌, ◌*◌, ◌/◌, ◌%◌, Bool, true, false, ◌==◌, cond, Option, None, Some, refl, ap, ap₂, sym, ◌∙◌, subst}
use Rattle.std.specs.Prelude.{Result, Ok, Err, IfOk, MatchOption}
use Rattle.fol_base.specs.Tree.{Tree, variable, application, Trees, no_trees, tree_then}
use Rattle.fol_base.specs.Instance.{Substitution, instance, instances}
use Rattle.fol_base.specs.Unifier.{IsUnifier, IsUnifierApart, IsMostGeneralUnifier, IsMostGeneralUnifierApart}
use Rattle.fol_base.specs.declared.clause.Side.TheVariants.{Left, Right}
use Rattle.unifier.specs.declared.layout.Layout.{Layout}
use Rattle.unifier.specs.declared.solution.Solution.{Solution}
use Rattle.unifier.specs.Cells.{Value, tree, AreOrdered, IsValuation}
use Rattle.unifier.specs.SolvedForm.{SolvedForm, codes_of, of_side, joint}
use Rattle.unifier.specs.Layout.{all_pass, HasVariables, TermLaidOut}
use Rattle.unifier.specs.Solution.{value_at, joint_by, solved_form, CannotMeet, Meets, IsMeeting}
use Rattle.unifier.specs.Bindings.{IsUnified, IsFound}
use Rattle.plain_types.proofs.Parity.{even-half, odd-half}
use Rattle.unifier.proofs.AboutLayouts.ValueLemmas.{value_at-valuation}
use Rattle.unifier.proofs.AboutLayouts.LayoutLemmas.{denotes-kept}
use Rattle.unifier.proofs.AboutEquations.SolutionLemmas.{joint-is, variables-pass, meets-same}

-- ---- a substitution of both sides

-- the one whose sides are these
pub joint_of : Substitution → Substitution → Substitution
joint_of σ τ w = cond (w % 2 == 0) (σ (w / 2)) (τ (w / 2))

pub joint_of-left : (σ τ : Substitution) (v : ℕ) → joint_of σ τ (2 * v) ≡ σ v
unfolding joint_of
joint_of-left σ τ v = even-half σ τ v

pub joint_of-right : (σ τ : Substitution) (v : ℕ) → joint_of σ τ (2 * v + 1) ≡ τ v
unfolding joint_of
joint_of-right σ τ v = odd-half σ τ v

mutual
  pub instance-same : (σ τ : Substitution) (t : Tree) → ((v : ℕ) → σ v ≡ τ v) → instance σ t ≡ instance τ t
  instance-same σ τ (variable v) h = h v
  instance-same σ τ (application f ts) h = ap (application f) (instances-same σ τ ts h)

  instances-same : (σ τ : Substitution) (ts : Trees) → ((v : ℕ) → σ v ≡ τ v) → instances σ ts ≡ instances τ ts
  instances-same σ τ no_trees h = refl
  instances-same σ τ (tree_then t ts) h = ap₂ tree_then (instance-same σ τ t h) (instances-same σ τ ts h)

-- ---- the answer

-- what the two cells stand for
pub record AreBoth (layout : Layout) (apart : Bool) (first : ℕ) (second : ℕ) (s : Tree) (t : Tree) : Type 0 where
  pub ordered : AreOrdered layout.cells.items
  pub left : (θ : Substitution) (val : ℕ → Value) → IsValuation θ layout.cells.items val → val first ≡ tree (instance (of_side apart Left θ) s)
  pub right : (θ : Substitution) (val : ℕ → Value) → IsValuation θ layout.cells.items val → val second ≡ tree (instance (of_side apart Right θ) t)

meet-apart :
    (layout : Layout) (first second : ℕ) (s t : Tree) (σ τ : Substitution)
    → AreBoth layout true first second s t → IsUnifierApart s t σ τ
    → value_at (joint_of σ τ) layout.cells.items first ≡ value_at (joint_of σ τ) layout.cells.items second
meet-apart layout first second s t σ τ both e =
    let θ : Substitution = joint_of σ τ in
    let valuation : IsValuation θ layout.cells.items (value_at θ layout.cells.items) = value_at-valuation θ layout.cells.items both.ordered in
    both.left θ (value_at θ layout.cells.items) valuation
    ∙ ap tree (instance-same (of_side true Left θ) σ s (joint_of-left σ τ) ∙ e ∙ sym (instance-same (of_side true Right θ) τ t (joint_of-right σ τ)))
    ∙ sym (both.right θ (value_at θ layout.cells.items) valuation)

meet-together :
    (layout : Layout) (first second : ℕ) (s t : Tree) (σ : Substitution)
    → AreBoth layout false first second s t → IsUnifier s t σ
    → value_at σ layout.cells.items first ≡ value_at σ layout.cells.items second
meet-together layout first second s t σ both e =
    let valuation : IsValuation σ layout.cells.items (value_at σ layout.cells.items) = value_at-valuation σ layout.cells.items both.ordered in
    both.left σ (value_at σ layout.cells.items) valuation ∙ ap tree e ∙ sym (both.right σ (value_at σ layout.cells.items) valuation)

unify-apart :
    (layout : Layout) (first second : ℕ) (s t : Tree) (σ : Substitution)
    → AreBoth layout true first second s t → Meets layout.cells.items first second σ
    → IsMostGeneralUnifierApart s t (of_side true Left σ) (of_side true Right σ)
unify-apart layout first second s t σ both m = record {
  unifies =
      let e : tree (instance (of_side true Left σ) s) ≡ tree (instance (of_side true Right σ) t) =
      sym (both.left σ m.val m.valuation) ∙ m.same ∙ both.right σ m.val m.valuation in
      cc;
  is_general = λ ρ π e.
      let θ : Substitution = joint_of ρ π in
      let all : (w : ℕ) → θ w ≡ instance θ (σ w) =
      m.general θ (value_at θ layout.cells.items) (value_at-valuation θ layout.cells.items both.ordered) (meet-apart layout first second s t ρ π both e) in (
        θ,
        (λ v. sym (joint_of-left ρ π v) ∙ all (2 * v)),
        (λ v. sym (joint_of-right ρ π v) ∙ all (2 * v + 1)),
      );
}

unify-together :
    (layout : Layout) (first second : ℕ) (s t : Tree) (σ : Substitution)
    → AreBoth layout false first second s t → Meets layout.cells.items first second σ
    → IsMostGeneralUnifier s t (of_side false Left σ)
unify-together layout first second s t σ both m = record {
  unifies =
      let e : tree (instance σ s) ≡ tree (instance σ t) = sym (both.left σ m.val m.valuation) ∙ m.same ∙ both.right σ m.val m.valuation in
      cc;
  is_general = λ ρ e. (
    ρ,
    m.general ρ (value_at ρ layout.cells.items) (value_at-valuation ρ layout.cells.items both.ordered) (meet-together layout first second s t ρ both e),
  );
}

cannot-unify :
    (layout : Layout) (apart : Bool) (first second : ℕ) (s t : Tree)
    → AreBoth layout apart first second s t → CannotMeet layout.cells.items first second → IsUnified apart s t None
cannot-unify layout true first second s t both h = λ σ τ e.
    h (joint_of σ τ) (value_at (joint_of σ τ) layout.cells.items) (value_at-valuation (joint_of σ τ) layout.cells.items both.ordered)
    (meet-apart layout first second s t σ τ both e)
cannot-unify layout false first second s t both h = λ σ e.
    h σ (value_at σ layout.cells.items) (value_at-valuation σ layout.cells.items both.ordered) (meet-together layout first second s t σ both e)

-- a solved form whose sides are apart or not as was asked
pub unified-by :
    (apart : Bool) (s t : Tree) (b : SolvedForm) → b.apart ≡ apart
    → (apart ≡ true → IsMostGeneralUnifierApart s t (of_side true Left (joint b)) (of_side true Right (joint b)))
    → (apart ≡ false → IsMostGeneralUnifier s t (of_side false Left (joint b))) → IsUnified apart s t (Some b)
unified-by true s t b is parted together =
    let P : Bool → Type 0 = λ a. IsMostGeneralUnifierApart s t (of_side a Left (joint b)) (of_side a Right (joint b)) in
    subst P (sym is) (parted refl)
unified-by false s t b is parted together =
    let P : Bool → Type 0 =
    λ a. IsMostGeneralUnifier s t (of_side a Left (joint b)) × ((v : ℕ) → of_side a Right (joint b) v ≡ of_side a Left (joint b) v) in
    subst P (sym is) (together refl, λ v. refl)

unified :
    (layout : Layout) (apart : Bool) (first second : ℕ) (s t : Tree) (b : Solution)
    → AreBoth layout apart first second s t → IsMeeting layout apart first second b → IsUnified apart s t (Some (solved_form b))
unified layout apart first second s t b both h =
    let meets : Meets layout.cells.items first second (joint (solved_form b)) =
    meets-same layout.cells.items first second (joint_by b.cells.items b.places.items) (joint (solved_form b)) (λ w. sym (joint-is b w)) h.1 in
    let P : Bool → Type 0 = λ a. AreBoth layout a first second s t in
    unified-by apart s t (solved_form b) h.0
    (λ is. unify-apart layout first second s t (joint (solved_form b)) (subst P is both) meets)
    (λ is. unify-together layout first second s t (joint (solved_form b)) (subst P is both) meets)

-- as the code has it
pub found-answer :
    {E : Type 0} (r : Result (Option Solution) E) (start mid layout : Layout) (apart : Bool) (first second : ℕ) (s t : Tree)
    → HasVariables (codes_of apart s t) start → TermLaidOut start mid apart Left s first → TermLaidOut mid layout apart Right t second
    → IfOk r (λ found. MatchOption found (CannotMeet layout.cells.items first second) (IsMeeting layout apart first second))
    → IfOk r (λ found. MatchOption found (IsUnified apart s t None) (λ b. IsFound apart s t (solved_form b)))
found-answer (Err e) start mid layout apart first second s t laid one other h = tt
found-answer (Ok found) start mid layout apart first second s t laid one other h = by found h
  where
    both : AreBoth layout apart first second s t
    both = record {
      ordered = other.layout.ordered;
      left = λ θ val valuation. denotes-kept start mid layout apart s first Left θ val one other.grows valuation;
      right = other.denotes;
    }

    by :
        (o : Option Solution) → MatchOption o (CannotMeet layout.cells.items first second) (IsMeeting layout apart first second)
        → MatchOption o (IsUnified apart s t None) (λ b. IsFound apart s t (solved_form b))
    by None met = cannot-unify layout apart first second s t both met
    by (Some b) met = record {
      sides = met.0;
      unified = unified layout apart first second s t b both met;
      variables = λ test.
          variables-pass test b.cells.items b.places.items
          ∙ met.2 test
          ∙ ap (all_pass test) (other.places ∙ one.places)
          ∙ laid.exactly test;
    }
