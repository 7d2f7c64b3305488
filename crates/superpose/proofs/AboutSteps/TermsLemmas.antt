-- Two premises under the terms that a most general unifier gives for their variables: what the rule gives, and its size.
use Rattle.std.proofs.Common.{◌≡◌, ℕ, zero, suc, ◌+◌, ◌*◌, true, false, Option, Some, List, [], ◌∷◌, ◌++◌, length, get_or, refl, ap, sym, ◌∙◌, subst, arith}
use Rattle.std.specs.Prelude.{sum_by, slice_get, slice_set, remove}
use Rattle.std.specs.List.{AllByRecursion}
use Rattle.std.proofs.lemmas.Bool.{true≢false, and_parts, not-true}
use Rattle.std.proofs.lemmas.List.Elements.{All-from_recursion}
use Rattle.std.proofs.lemmas.List.Sums.{sum_by-append, sum_by-set, sum_by-remove}
use Rattle.std.proofs.lemmas.Option.{same_Some, option_and_then_some, slice_get_within, get_or_from_slice_get}
use Rattle.fol_base.specs.Tree.{Tree, variable, application, Trees, no_trees, tree_then, list_of, tree_size, VariablesBelow, AllVariablesBelow, is_truth, is_variable}
use Rattle.fol_base.specs.Instance.{Substitution, instance, substitution}
use Rattle.fol_base.specs.Place.{argument, subterm, replaced}
use Rattle.fol_base.specs.Clause.{TreeLiteral, TreeClause, LiteralVariablesBelow, literal_size, literal_instance, clause_variables}
use Rattle.fol_base.specs.Ground.{literals_instance}
use Rattle.fol_base.specs.Canonical.{bound_of, terms_from}
use Rattle.fol_base.specs.Sides.{side_of, other_side_of, with_side}
use Rattle.fol_base.specs.declared.clause.Side.{Side}
use Rattle.fol_base.specs.declared.clause.Side.TheVariants.{Left, Right}
use Rattle.fol_base.proofs.AboutCanonical.CanonicalLemmas.{length-terms_from}
use Rattle.fol_base.proofs.AboutClauses.InferenceLemmas.{literal_in_instance, side_of-instance}
use Rattle.fol_base.proofs.AboutInstances.InstancePlaces.{subterms_of_instances}
use Rattle.fol_base.proofs.AboutClauses.RuleLemmas.{superposed_literal-from, superposed-from}
use Rattle.fol_base.proofs.AboutTerms.VariableLemmas.{ClauseVariablesBelow-bound}
use Rattle.kernel_steps.proofs.AboutCalls.BoundLemmas.{is_truth-application}
use Rattle.unifier.specs.Renaming.{AreNamedTerms, renamed}
use Rattle.unifier.specs.SolvedForm.{SolvedForm, substitution_of}
use Rattle.unifier.proofs.AboutClasses.SharedLemmas.{own_terms_are_named, shared_unify_apart, shared_keep_sizes}
use Rattle.eq_rules.proofs.AboutConclusions.PremiseLemmas.{clause-below, literal-below}
use Rattle.eq_rules.proofs.AboutConclusions.SideLemmas.{side-below, sides-size}
use Rattle.superpose.specs.Superposing.{SuperposesBy}
use Rattle.superpose.specs.Concluding.{superposed_at}
use Rattle.eq_rules.specs.declared.concluding.LiteralSide.{LiteralSide}
use Rattle.superpose.specs.declared.sites.LiteralPlace.{LiteralPlace}
use Rattle.superpose.proofs.AboutSteps.ApartLemmas.{IsGeneralApart}
use Rattle.superpose.proofs.AboutSites.PlaceLemmas.{replaced-size}
use Rattle.fol_base.proofs.AboutInstances.ConversePlaces.{replaced-there}

-- ---- variables of subterms

item-below : (n k : ℕ) (ts : Trees) (a : Tree) → slice_get (list_of ts) k ≡ Some a → AllVariablesBelow n ts → VariablesBelow n a
item-below n k no_trees a there below = absurd (cc)
item-below n zero (tree_then t ts) a there below = subst (λ (u : Tree). VariablesBelow n u) (same_Some t a there) below.0
item-below n (suc k) (tree_then t ts) a there below = item-below n k ts a there below.1

argument-below : (n k : ℕ) (t a : Tree) → argument k t ≡ Some a → VariablesBelow n t → VariablesBelow n a
argument-below n k (variable v) a there below = absurd (cc)
argument-below n k (application f ts) a there below = item-below n k ts a there below

pub subterm-below : (n : ℕ) (place : List ℕ) (t u : Tree) → subterm place t ≡ Some u → VariablesBelow n t → VariablesBelow n u
subterm-below n [] t u there below = subst (λ (w : Tree). VariablesBelow n w) (same_Some t u there) below
subterm-below n (k ∷ place) t u there below =
    option_and_then_some (subterm place) (argument k t) u there λ a a_is a_there.
    subterm-below n place a u a_there (argument-below n k t a a_is below)

-- ---- `$true`

instance-no_truth : (σ : Substitution) (t : Tree) → is_variable t ≡ false → is_truth t ≡ false → is_truth (instance σ t) ≡ false
instance-no_truth σ (variable v) h no_truth = absurd (true≢false h)
instance-no_truth σ (application f ts) h no_truth = is_truth-application σ f ts ∙ no_truth

-- ---- sizes of literals

with_side-size : (z : Side) (new : Tree) (l : TreeLiteral) → literal_size (with_side z new l) + tree_size (side_of z l) ≡ literal_size l + tree_size new
with_side-size Left new l =
    let sum : (tree_size new + tree_size l.right) + tree_size l.left ≡ (tree_size l.left + tree_size l.right) + tree_size new = omega arith in sum
with_side-size Right new l =
    let sum : (tree_size l.left + tree_size new) + tree_size l.right ≡ (tree_size l.left + tree_size l.right) + tree_size new = omega arith in sum

-- ---- the terms

-- the unifier's own terms for the first variables of both sides
pub own_both :
    (b : SolvedForm) (n m j k : ℕ) (left right : List Tree) → j ≡ n → k ≡ m
    → left ≡ terms_from 0 j (substitution_of b Left) → right ≡ terms_from 0 k (substitution_of b Right) → AreNamedTerms b n m left right
own_both b n m j k left right j_is k_is left_is right_is =
    subst (λ (ts : List Tree). AreNamedTerms b n m ts right) (sym (left_is ∙ ap (λ i. terms_from 0 i (substitution_of b Left)) j_is))
    (subst (λ (us : List Tree). AreNamedTerms b n m (terms_from 0 n (substitution_of b Left)) us)
    (sym (right_is ∙ ap (λ i. terms_from 0 i (substitution_of b Right)) k_is))
    (own_terms_are_named b n m))

module _
    (c : TreeClause) (s : LiteralSide) (d : TreeClause) (t : LiteralPlace) (b : SolvedForm) (r : SuperposesBy b c s d t)
    (left right : List Tree) (h : AreNamedTerms b (bound_of (clause_variables c)) (bound_of (clause_variables d)) left right) where
  abbrev l : TreeLiteral
  l = r.starts.literal

  abbrev m : TreeLiteral
  m = r.enters.literal

  abbrev σ : Substitution
  σ = substitution left

  abbrev τ : Substitution
  τ = substitution right

  pub left-many : length left ≡ bound_of (clause_variables c)
  left-many =
      ap (λ (ts : List Tree). length ts) h.left_terms ∙ length-terms_from 0 (bound_of (clause_variables c)) (λ v. renamed h.names (substitution_of b Left v))

  pub right-many : length right ≡ bound_of (clause_variables d)
  right-many =
      ap (λ (ts : List Tree). length ts) h.right_terms ∙ length-terms_from 0 (bound_of (clause_variables d)) (λ v. renamed h.names (substitution_of b Right v))

  pub left-below : AllByRecursion (LiteralVariablesBelow (length left)) c.literals
  left-below = subst (λ (n : ℕ). AllByRecursion (LiteralVariablesBelow n) c.literals) (sym left-many) (clause-below c)

  pub right-below : AllByRecursion (LiteralVariablesBelow (length right)) d.literals
  right-below = subst (λ (n : ℕ). AllByRecursion (LiteralVariablesBelow n) d.literals) (sym right-many) (clause-below d)

  pub s-bound : VariablesBelow (bound_of (clause_variables c)) (side_of s.side l)
  s-bound = side-below (bound_of (clause_variables c)) s.side l (literal-below c s.literal l r.starts.there)

  old-bound : VariablesBelow (bound_of (clause_variables d)) r.enters.old
  old-bound =
      subterm-below (bound_of (clause_variables d)) t.place (side_of t.at.side m) r.enters.old r.enters.old_there
      (side-below (bound_of (clause_variables d)) t.at.side m (literal-below d t.at.literal m r.enters.there))

  pub s-below : VariablesBelow (length left) (side_of s.side l)
  s-below = subst (λ (n : ℕ). VariablesBelow n (side_of s.side l)) (sym left-many) s-bound

  pub old-below : VariablesBelow (length right) r.enters.old
  old-below = subst (λ (n : ℕ). VariablesBelow n r.enters.old) (sym right-many) old-bound

  pub general : IsGeneralApart (side_of s.side l) r.enters.old left right
  general =
      let shared =
      shared_unify_apart (side_of s.side l) r.enters.old b (bound_of (clause_variables c)) (bound_of (clause_variables d)) left right
      r.unified s-bound old-bound h in
      record {
        unifies = shared.0;
        is_general = λ ρ π e.
            let by = shared.1 ρ π e in (
              by.0,
              λ v less. by.1.on_left v (omega (arith, less, left-many)),
              λ v less. by.1.on_right v (omega (arith, less, right-many)),
            );
      }

  pub left-size : sum_by literal_size (literals_instance σ c.literals) ≡ sum_by literal_size (literals_instance (substitution_of b Left) c.literals)
  left-size =
      let n : ℕ = bound_of (clause_variables c) in
      (shared_keep_sizes b n (bound_of (clause_variables d)) left right h).0 c.literals (ClauseVariablesBelow-bound n c (omega arith))

  pub right-size : sum_by literal_size (literals_instance τ d.literals) ≡ sum_by literal_size (literals_instance (substitution_of b Right) d.literals)
  right-size =
      let n : ℕ = bound_of (clause_variables d) in
      (shared_keep_sizes b (bound_of (clause_variables c)) n left right h).1 d.literals (ClauseVariablesBelow-bound n d (omega arith))

  pub left-tree_size :
      (u : Tree) → VariablesBelow (bound_of (clause_variables c)) u → tree_size (instance σ u) ≡ tree_size (instance (substitution_of b Left) u)
  left-tree_size u below =
      let n : ℕ = bound_of (clause_variables c) in
      let twice : TreeLiteral = record { positive = true; left = u; right = u } in
      let same =
      (shared_keep_sizes b n (bound_of (clause_variables d)) left right h).0 (twice ∷ [])
      (All-from_recursion (LiteralVariablesBelow n) (twice ∷ []) ((below, below), tt)) in
      omega (arith, same)

  -- ---- the rule under the terms

  old-no_truth : is_truth r.enters.old ≡ false
  old-no_truth = not-true (is_truth r.enters.old) (and_parts _ _ r.alike).0

  old_is : instance τ r.enters.old ≡ side_of s.side (literal_instance σ l)
  old_is = sym (side_of-instance σ s.side l ∙ general.unifies)

  old_there : subterm t.place (side_of t.at.side (literal_instance τ m)) ≡ Some (side_of s.side (literal_instance σ l))
  old_there =
      ap (subterm t.place) (side_of-instance τ t.at.side m)
      ∙ subterms_of_instances τ t.place (side_of t.at.side m) r.enters.old r.enters.old_there
      ∙ ap (λ u. let o : Option Tree = Some u in o) old_is

  pub new_side : (new : Tree) × (replaced t.place (other_side_of s.side (literal_instance σ l)) (side_of t.at.side (literal_instance τ m)) ≡ Some new)
  new_side =
      replaced-there t.place (other_side_of s.side (literal_instance σ l)) (side_of t.at.side (literal_instance τ m))
      (side_of s.side (literal_instance σ l)) old_there

  abbrev target : TreeLiteral
  target = with_side t.at.side new_side.0 (literal_instance τ m)

  abbrev pub plain : List TreeLiteral
  plain = slice_set (literals_instance τ d.literals) t.at.literal target ++ remove (literals_instance σ c.literals) s.literal

  pub superposition_gives : superposed_at s t (literals_instance σ c.literals) (literals_instance τ d.literals) ≡ Some plain
  superposition_gives =
      superposed-from (literals_instance σ c.literals) s.literal s.side (literals_instance τ d.literals) t.at.literal t.at.side t.place plain (record {
        from = literal_instance σ l;
        from_there = literal_in_instance σ c.literals s.literal l r.starts.there;
        into = literal_instance τ m;
        into_there = literal_in_instance τ d.literals t.at.literal m r.enters.there;
        literal = target;
        literal_made =
            superposed_literal-from (literal_instance σ l) s.side (literal_instance τ m) t.at.side t.place target (record {
              positive = r.starts.positive;
              no_truth = ap is_truth (sym old_is) ∙ instance-no_truth τ r.enters.old r.enters.no_variable old-no_truth;
              old_there = old_there;
              new = new_side.0;
              new_made = new_side.1;
              gives = refl;
            });
        gives = refl;
      })

  -- the conclusion's size, from the clauses': the chosen side goes twice, with its literal and at the place
  pub plain_size :
      sum_by literal_size plain + 2 * tree_size (instance σ (side_of s.side l))
      ≡ sum_by literal_size (literals_instance σ c.literals) + sum_by literal_size (literals_instance τ d.literals)
  plain_size =
      let ls : List TreeLiteral = literals_instance σ c.literals in
      let ks : List TreeLiteral = literals_instance τ d.literals in
      let from : TreeLiteral = literal_instance σ l in
      let into : TreeLiteral = literal_instance τ m in
      let from_there : slice_get ls s.literal ≡ Some from = literal_in_instance σ c.literals s.literal l r.starts.there in
      let into_there : slice_get ks t.at.literal ≡ Some into = literal_in_instance τ d.literals t.at.literal m r.enters.there in
      let whole : sum_by literal_size plain
      ≡ sum_by literal_size (slice_set ks t.at.literal target) + sum_by literal_size (remove ls s.literal) =
      sum_by-append literal_size (slice_set ks t.at.literal target) (remove ls s.literal) in
      let exchanged = sum_by-set literal_size ks t.at.literal target into (slice_get_within ks t.at.literal into into_there) in
      let into_read : literal_size (get_or ks t.at.literal into) ≡ literal_size into =
      ap literal_size (get_or_from_slice_get ks t.at.literal into into into_there) in
      let removed = sum_by-remove literal_size ls s.literal from (slice_get_within ls s.literal from from_there) in
      let from_read : literal_size (get_or ls s.literal from) ≡ literal_size from =
      ap literal_size (get_or_from_slice_get ls s.literal from from from_there) in
      let from_sides : literal_size from ≡ tree_size (side_of s.side from) + tree_size (other_side_of s.side from) = sides-size s.side from in
      let target_sides = with_side-size t.at.side new_side.0 into in
      let inner : tree_size new_side.0 + tree_size (side_of s.side from) ≡ tree_size (side_of t.at.side into) + tree_size (other_side_of s.side from) =
      replaced-size t.place (other_side_of s.side from) (side_of t.at.side into) (side_of s.side from) new_side.0 old_there new_side.1 in
      let side_is : tree_size (side_of s.side from) ≡ tree_size (instance σ (side_of s.side l)) = ap tree_size (side_of-instance σ s.side l) in
      omega (arith, whole, exchanged, into_read, removed, from_read, from_sides, target_sides, inner, side_is)
