-- The examples of matchers and unifiers.
use Rattle.std.proofs.Common.{◌≡◌, ℕ, zero, suc, ◌+◌, ◌*◌, ◌<◌, true, false, Some, None, [], ◌∷◌, refl, ap, sym, ◌∙◌, arith}
use Rattle.std.proofs.lemmas.Bool.{true≢false}
use Rattle.fol_base.specs.Tree.{Tree, variable, application, tree_size, VariablesBelow}
use Rattle.fol_base.specs.Instance.{Substitution, instance, substitution}
use Rattle.fol_base.specs.Examples.{x, a, b, f₂, p, is_predicate, all_a}
use Rattle.fol_base.specs.declared.clause.Side.TheVariants.{Left, Right}
use Rattle.unifier.specs.SolvedForm.{code_of, substitution_of}
use Rattle.unifier.specs.Bindings.{occurs, IsUnified, LeavesOthers}
use Rattle.unifier.specs.Renaming.{fits, renamed, AreRenamed}
use Rattle.unifier.specs.Examples.{example}
use Rattle.unifier.specs.Matching.{IsMatched, NoMatcher}
use Rattle.unifier.specs.Laws.{AreFunctionPairs}
use Rattle.unifier.specs.SharedLaws.{IsAfterBoth}
use Rattle.unifier.proofs.AboutLayouts.BoundLemmas.{fit-leaves-others-apart}
use Rattle.unifier.proofs.AboutEquations.UnifyLemmas.{joint_of, joint_of-left, joint_of-right}

abbrev symbol : Tree → ℕ
symbol (variable v) = 0
symbol (application f ts) = f

a-is-not-b : a ≡ b → ⊥
a-is-not-b e = let symbols : symbol a ≡ symbol b = ap symbol e in absurd (omega (arith, symbols))

pub matched : IsMatched [] (f₂ (x 0) (x 0)) (f₂ a a) ((0, a) ∷ [])
matched = record {
  further = (0, a) ∷ [];
  extends = refl;
  covers = refl;
  exact = λ σ. ((λ h. (tt, ap (λ t. f₂ t t) h.0)), (λ h. (cc, tt)));
}

pub two_terms : NoMatcher [] (f₂ (x 0) (x 0)) (f₂ a b)
two_terms σ h e =
    let first : σ 0 ≡ a = cc in
    let second : σ 0 ≡ b = cc in
    a-is-not-b (sym first ∙ second)

pub other_pair : NoMatcher ((0, b) ∷ []) (x 0) a
other_pair σ h e = a-is-not-b (sym e ∙ h.0)

-- ---- what is found for `f(X0,b)` and `f(a,X0)`

counts_fit : fits example 1 1 ≡ true
counts_fit = refl

-- the other variables stand for themselves
left-other : (v : ℕ) → substitution_of example Left (suc v) ≡ variable (2 * suc v)
left-other v = (fit-leaves-others-apart example 1 1 refl counts_fit).0 (suc v) (omega arith)

right-other : (v : ℕ) → substitution_of example Right (suc v) ≡ variable (2 * suc v + 1)
right-other v = (fit-leaves-others-apart example 1 1 refl counts_fit).1 (suc v) (omega arith)

left-others :
    (v : ℕ) → occurs v (f₂ (x 0) b) ≡ false → substitution_of example Left v ≡ variable (code_of true Left v)
left-others zero absent = absurd (true≢false absent)
left-others (suc v) absent = left-other v

right-others :
    (v : ℕ) → occurs v (f₂ a (x 0)) ≡ false → substitution_of example Right v ≡ variable (code_of true Right v)
right-others zero absent = absurd (true≢false absent)
right-others (suc v) absent = right-other v

pub leaves_others : LeavesOthers true (f₂ (x 0) b) (f₂ a (x 0)) example
leaves_others = ((λ v absent. left-others v absent), (λ v absent. right-others v absent))

-- another unifier is itself after them
left-general :
    (ρ π : Substitution) (v : ℕ) → ρ 0 ≡ a → ρ v ≡ instance (joint_of ρ π) (substitution_of example Left v)
left-general ρ π zero e = e
left-general ρ π (suc v) e = sym (joint_of-left ρ π (suc v)) ∙ sym (ap (instance (joint_of ρ π)) (left-other v))

right-general :
    (ρ π : Substitution) (v : ℕ) → π 0 ≡ b → π v ≡ instance (joint_of ρ π) (substitution_of example Right v)
right-general ρ π zero e = e
right-general ρ π (suc v) e = sym (joint_of-right ρ π (suc v)) ∙ sym (ap (instance (joint_of ρ π)) (right-other v))

pub is_unified : IsUnified true (f₂ (x 0) b) (f₂ a (x 0)) (Some example)
is_unified = record {
  unifies = refl;
  is_general = λ ρ π e.
      let both : f₂ (ρ 0) b ≡ f₂ a (π 0) = e in
      let first : ρ 0 ≡ a = cc in
      let second : π 0 ≡ b = cc in (
        joint_of ρ π,
        (λ v. left-general ρ π v first),
        (λ v. right-general ρ π v second),
      );
}

-- nothing is shared, so any names do
same : ℕ → ℕ
same w = w

first-alone : (P : ℕ → Type 0) → P 0 → (v : ℕ) → v < 1 → P v
first-alone P h zero less = h
first-alone P h (suc v) less = absurd (omega arith)

pub are_renamed : AreRenamed example 1 1 (a ∷ []) (b ∷ [])
are_renamed =
    let left : ℕ → Tree = substitution_of example Left in
    let right : ℕ → Tree = substitution_of example Right in
    record {
      named = record {
        names = same;
        back = same;
        left_terms = refl;
        right_terms = refl;
        left_back = first-alone (λ v. renamed same (renamed same (left v)) ≡ left v) refl;
        right_back = first-alone (λ v. renamed same (renamed same (right v)) ≡ right v) refl;
      };
      count = 0;
      left_below = first-alone (λ v. VariablesBelow 0 (renamed same (left v))) tt;
      right_below = first-alone (λ v. VariablesBelow 0 (renamed same (right v))) tt;
      no_gaps = λ k less. absurd (omega arith);
    }

-- ---- laws

pub contains_itself : IsUnified false (x 0) (f₂ (x 0) b) None
contains_itself σ e = let sizes : tree_size (σ 0) ≡ 1 + (tree_size (σ 0) + 1) = ap tree_size e in absurd (omega (arith, sizes))

pub clashes : IsUnified true a b None
clashes σ τ e = a-is-not-b e

pub after_both : IsAfterBoth (x 0 ∷ []) (f₂ (x 0) b ∷ []) all_a 1 1 all_a (λ v. f₂ a b)
after_both = record {
  on_left = λ v less. on-left v less;
  on_right = λ v less. on-right v less;
}
  where
    on-left : (v : ℕ) → v < 1 → all_a v ≡ instance all_a (substitution (x 0 ∷ []) v)
    on-left zero less = refl
    on-left (suc v) less = absurd (omega arith)

    on-right : (v : ℕ) → v < 1 → f₂ a b ≡ instance all_a (substitution (f₂ (x 0) b ∷ []) v)
    on-right zero less = refl
    on-right (suc v) less = absurd (omega arith)

pub function_pair : AreFunctionPairs is_predicate ((0, f₂ a (x 1)) ∷ [])
function_pair = (refl, tt)

pub predicate_pair : AreFunctionPairs is_predicate ((0, (p a).left) ∷ []) → ⊥
predicate_pair h = true≢false (sym h.0)
