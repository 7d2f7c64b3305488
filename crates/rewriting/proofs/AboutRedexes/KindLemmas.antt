-- The kinds of the terms of a redex: what a unit's side matches is of its kind.
use Rattle.std.proofs.Common.{◌≡◌, ℕ, Bool, true, false, not, ◌&&◌, ◌||◌, ◌==◌, List, [], ◌∷◌, refl, ap, ap₂, sym, ◌∙◌, subst, ⊎_elim, ◌⊎◌, inl, inr, arith}
use Rattle.std.specs.Prelude.{Some}
use Rattle.std.proofs.lemmas.Bool.{true≢false, and_from, or_left, or_right}
use Rattle.std.proofs.lemmas.Option.{none-some, same_Some}
use Rattle.fol_base.specs.Tree.{Tree, variable, application, Trees, no_trees, true_tree, true_symbol, is_truth, is_variable, trees_eq}
use Rattle.fol_base.specs.Instance.{Substitution, instance, instances}
use Rattle.fol_base.specs.Place.{subterm}
use Rattle.fol_base.specs.Kind.{is_function_term, is_predicate_term, is_literal}
use Rattle.fol_base.specs.Clause.{TreeLiteral}
use Rattle.fol_base.specs.Order.{tree_greater, TreeGreater}
use Rattle.fol_base.specs.Sides.{side_of, other_side_of}
use Rattle.fol_base.specs.declared.clause.Side.{Side}
use Rattle.fol_base.specs.declared.clause.Side.TheVariants.{Left, Right}
use Rattle.fol_base.proofs.AboutTerms.TreeLemmas.{tree_eq-true, and_left}
use Rattle.fol_base.proofs.AboutOrders.OrderLemmas.{tree_greater_decided}
use Rattle.fol_base.proofs.AboutTerms.KindLemmas.{is_function_term-parts, is_predicate_term-parts, function_term-no_truth, predicate_term-no_truth, is_function_term-subterm, is_predicate_term-subterm}
use Rattle.fol_base.proofs.AboutTerms.WellFormedLemmas.{IsEquation, IsAtom, is_literal-cases}
use Rattle.kernel_steps.specs.Inference as kernel
use Rattle.kernel_steps.specs.Inference.{has_predicate_head}
use Rattle.unifier.specs.Laws as unifier
use Rattle.rewriting.specs.Redex.{Spot, spot_at, root_spot, IsRedex}

-- ---- the order

pub truth-greatest_of_none : (u : Tree) → tree_greater true_tree u ≡ true → ⊥
truth-greatest_of_none u h = none u ((tree_greater_decided true_tree u).0 h)
  where
    none : (u : Tree) → TreeGreater true_tree u → ⊥
    none (variable w) g = ⊎_elim (λ less. absurd (omega (arith, less))) (λ e. e.1) g.1
    none (application k us) g =
        ⊎_elim
        (λ less. absurd (omega (arith, less)))
        (λ e. ⊎_elim (λ less. absurd (omega (arith, less))) (λ same. same.1) e.1)
        g.1

-- ---- terms of one kind

pub record OfOneKind (p : ℕ → Bool) (s : Tree) (old : Tree) : Type 0 where
  pub for_step : kernel.have_heads_of_one_kind p s old ≡ true
  pub for_matcher : unifier.are_of_one_kind p s old ≡ true
  pub no_truth : is_truth s ≡ false

function-head : (p : ℕ → Bool) (t : Tree) → is_function_term p t ≡ true → has_predicate_head p t ≡ false
function-head p (variable v) h = refl
function-head p (application f ts) h =
    let parts = is_function_term-parts p f ts h in
    ap₂ (λ (a b : Bool). not a && b) parts.no_truth parts.no_predicate

pub predicate-head : (p : ℕ → Bool) (t : Tree) → is_predicate_term p t ≡ true → has_predicate_head p t ≡ true
predicate-head p (variable v) h = absurd (true≢false (sym h))
predicate-head p (application f ts) h =
    let parts = is_predicate_term-parts p f ts h in
    ap₂ (λ (a b : Bool). not a && b) parts.no_truth parts.predicate

function-kinds : (p : ℕ → Bool) (s old : Tree) → is_function_term p s ≡ true → is_function_term p old ≡ true → OfOneKind p s old
function-kinds p s old h k = record {
  for_step =
      or_right (has_predicate_head p s && has_predicate_head p old) _
      (and_from (not (has_predicate_head p s) && not (is_truth s)) _
      (and_from (not (has_predicate_head p s)) _ (ap not (function-head p s h)) (ap not (function_term-no_truth p s h)))
      (and_from (not (has_predicate_head p old)) _ (ap not (function-head p old k)) (ap not (function_term-no_truth p old k))));
  for_matcher = or_left (is_function_term p s && is_function_term p old) _ (and_from (is_function_term p s) _ h k);
  no_truth = function_term-no_truth p s h;
}

predicate-kinds : (p : ℕ → Bool) (s old : Tree) → is_predicate_term p s ≡ true → is_predicate_term p old ≡ true → OfOneKind p s old
predicate-kinds p s old h k = record {
  for_step =
      or_left (has_predicate_head p s && has_predicate_head p old) _ (and_from (has_predicate_head p s) _ (predicate-head p s h) (predicate-head p old k));
  for_matcher =
      or_right (is_function_term p s && is_function_term p old) _
      (and_from (is_predicate_term p s || is_truth s) _
      (or_left (is_predicate_term p s) (is_truth s) h) (or_left (is_predicate_term p old) (is_truth old) k));
  no_truth = predicate_term-no_truth p s h;
}

-- ---- the subterms of a literal

-- a function term; or an atom or `$true` at the root of a side of an atom
abbrev pub KindAt : (ℕ → Bool) → Spot → Tree → Type 0
KindAt p spot t =
    (is_function_term p t ≡ true) ⊎ (((is_predicate_term p t ≡ true) ⊎ (is_truth t ≡ true)) × (spot.is_atom ≡ true))

truth-no_argument : (k : ℕ) (place : List ℕ) (t u : Tree) → is_truth t ≡ true → subterm (k ∷ place) t ≡ Some u → ⊥
truth-no_argument k place t u truth there =
    none-some u (sym (ap (subterm (k ∷ place)) (tree_eq-true t true_tree truth)) ∙ there)

pub kind-at :
    (p : ℕ → Bool) (z : Side) (l : TreeLiteral) (place : List ℕ) (old : Tree)
    → is_literal p l ≡ true → subterm place (side_of z l) ≡ Some old → KindAt p (spot_at (root_spot z l) place) old
kind-at p z l place old literal there =
    ⊎_elim (λ e. equation z e there) (λ a. atom z place a there) (is_literal-cases p l literal)
  where
    equation : (z : Side) → IsEquation p l → subterm place (side_of z l) ≡ Some old → KindAt p (spot_at (root_spot z l) place) old
    equation Left e at = inl (is_function_term-subterm p place l.left old at e.0)
    equation Right e at = inl (is_function_term-subterm p place l.right old at e.1)

    atom : (z : Side) (place : List ℕ) → IsAtom p l → subterm place (side_of z l) ≡ Some old → KindAt p (spot_at (root_spot z l) place) old
    atom Left [] a at =
        inr (
          ⊎_elim
              (λ h. inl (ap (is_predicate_term p) (sym (same_Some l.left old at)) ∙ h))
              (λ h. inr (ap is_truth (sym (same_Some l.left old at)) ∙ h))
              a.0,
          a.1,
        )
    atom Left (k ∷ place) a at =
        ⊎_elim (λ h. inl (is_predicate_term-subterm p k place l.left old at h)) (λ h. absurd (truth-no_argument k place l.left old h at)) a.0
    atom Right [] a at = inr (inr (ap is_truth (sym (same_Some l.right old at)) ∙ a.1), a.1)
    atom Right (k ∷ place) a at = absurd (truth-no_argument k place l.right old a.1 at)

-- ---- what matches

-- an application and an instance of it have one head
application-kinds :
    (p : ℕ → Bool) (σ : Substitution) (f : ℕ) (ts : Trees) (spot : Spot) → is_function_term p (application f ts) ≡ true
    → KindAt p spot (instance σ (application f ts)) → OfOneKind p (application f ts) (instance σ (application f ts))
application-kinds p σ f ts spot h kind =
    let head = is_function_term-parts p f ts h in
    ⊎_elim
    (λ k. function-kinds p (application f ts) (instance σ (application f ts)) h k)
    (λ other.
    absurd
    (⊎_elim
    (λ k. true≢false (sym (is_predicate_term-parts p f (instances σ ts) k).predicate ∙ head.no_predicate))
    (λ k. true≢false (sym (and_left (f == true_symbol) (trees_eq (instances σ ts) no_trees) k) ∙ head.no_truth))
    other.0))
    kind

predicate-kinds-of :
    (p : ℕ → Bool) (σ : Substitution) (t : Tree) (spot : Spot) → is_predicate_term p t ≡ true
    → KindAt p spot (instance σ t) → OfOneKind p t (instance σ t)
predicate-kinds-of p σ (variable v) spot h kind = absurd (true≢false (sym h))
predicate-kinds-of p σ (application f ts) spot h kind =
    let head = is_predicate_term-parts p f ts h in
    ⊎_elim
    (λ k. absurd (true≢false (sym head.predicate ∙ (is_function_term-parts p f (instances σ ts) k).no_predicate)))
    (λ other.
    ⊎_elim
    (λ k. predicate-kinds p (application f ts) (instance σ (application f ts)) h k)
    (λ k. absurd (true≢false (sym (and_left (f == true_symbol) (trees_eq (instances σ ts) no_trees) k) ∙ head.no_truth)))
    other.0)
    kind

function-kinds-of :
    (p : ℕ → Bool) (σ : Substitution) (t : Tree) (spot : Spot) → is_function_term p t ≡ true → (is_variable t && spot.is_atom) ≡ false
    → KindAt p spot (instance σ t) → OfOneKind p t (instance σ t)
function-kinds-of p σ (variable v) spot h no_atom kind =
    ⊎_elim
    (λ k. function-kinds p (variable v) (σ v) h k)
    (λ other. absurd (true≢false (sym other.1 ∙ no_atom)))
    kind
function-kinds-of p σ (application f ts) spot h no_atom kind = application-kinds p σ f ts spot h kind

side-kind : (p : ℕ → Bool) (s : Side) (e : TreeLiteral) → is_literal p e ≡ true
    → (is_function_term p (side_of s e) ≡ true) ⊎ ((is_predicate_term p (side_of s e) ≡ true) ⊎ (is_truth (side_of s e) ≡ true))
side-kind p Left e h = ⊎_elim (λ q. inl q.0) (λ a. inr a.0) (is_literal-cases p e h)
side-kind p Right e h = ⊎_elim (λ q. inl q.1) (λ a. inr (inr a.1)) (is_literal-cases p e h)

pub redex-kinds :
    (p : ℕ → Bool) (e : TreeLiteral) (s : Side) (spot : Spot) (old : Tree) (σ : Substitution)
    → is_literal p e ≡ true → KindAt p spot old → IsRedex e s spot old σ → OfOneKind p (side_of s e) old
redex-kinds p e s spot old σ literal kind r =
    let t : Tree = side_of s e in
    let new : Tree = instance σ (other_side_of s e) in
    let at : KindAt p spot (instance σ t) = subst (λ u. KindAt p spot u) (sym r.matches) kind in
    subst (λ u. OfOneKind p t u) r.matches
    (⊎_elim
    (λ h. function-kinds-of p σ t spot h r.no_atom at)
    (λ other.
    ⊎_elim
    (λ h. predicate-kinds-of p σ t spot h at)
    (λ h.
    absurd
    (truth-greatest_of_none new
    (ap (λ u. tree_greater u new) (sym (ap (instance σ) (tree_eq-true t true_tree h)) ∙ r.matches) ∙ r.greater)))
    other)
    (side-kind p s e literal))
