-- The kinds of a side and of the term at a place, told by the other sides.
use mathlib.Core.Bool.{beq}
use Rattle.std.proofs.Common.{◌≡◌, ◌⊎◌, ℕ, Bool, true, false, ◌&&◌, ◌||◌, not, List, [], ◌∷◌, Some, refl, ap, ap₂, sym, ◌∙◌, inl, inr, ⊎_elim}
use Rattle.std.proofs.lemmas.Bool.{true≢false, not-true, not_from_false, and_parts, and_from, or_left, or_right, or_cases}
use Rattle.std.proofs.lemmas.Option.{same_Some}
use Rattle.fol_base.specs.Tree.{Tree, is_truth}
use Rattle.fol_base.specs.Place.{subterm}
use Rattle.fol_base.specs.Clause.{TreeLiteral}
use Rattle.fol_base.specs.Kind.{is_function_term, is_predicate_term, is_literal}
use Rattle.fol_base.specs.Sides.{side_of, other_side_of}
use Rattle.fol_base.proofs.AboutTerms.KindLemmas.{function_term-no_truth, predicate_term-no_truth, is_function_term-subterm, is_predicate_term-subterm}
use Rattle.fol_base.proofs.AboutTerms.WellFormedLemmas.{SidesOfOneKind, sides_of_one_kind}
use Rattle.kernel_steps.specs.Inference.{has_predicate_head}
use Rattle.kernel_steps.specs.Inference as kernel
use Rattle.eq_rules.proofs.AboutConclusions.SideLemmas.{Kinds, function-head, predicate-head}
use Rattle.superpose.specs.Superposing.{is_root, are_alike}
use Rattle.eq_rules.specs.declared.concluding.LiteralSide.{LiteralSide}
use Rattle.superpose.specs.declared.sites.LiteralPlace.{LiteralPlace}

-- a term is a predicate term exactly where the mark is there, and else a function term
abbrev pub KindBy : (ℕ → Bool) → Tree → Bool → Type 0
KindBy p t mark = ((is_function_term p t ≡ true) × (mark ≡ false)) ⊎ ((is_predicate_term p t ≡ true) × (mark ≡ true))

side-kind : (p : ℕ → Bool) (t u : Tree) → SidesOfOneKind p t u → KindBy p t (is_truth u)
side-kind p t u h =
    ⊎_elim (λ functions. inl (functions.0, function_term-no_truth p u functions.1)) (λ atom. inr (atom.0, atom.1)) h

root-false : (place : List ℕ) (mark : Bool) → mark ≡ false → (is_root place && mark) ≡ false
root-false [] mark h = h
root-false (k ∷ place) mark h = refl

-- the term at a place of a side
place-kind :
    (p : ℕ → Bool) (place : List ℕ) (u other old : Tree)
    → SidesOfOneKind p u other → subterm place u ≡ Some old → KindBy p old (is_root place && is_truth other)
place-kind p [] u other old h there =
    ⊎_elim
    (λ functions. inl (ap (is_function_term p) (sym (same_Some u old there)) ∙ functions.0, function_term-no_truth p other functions.1))
    (λ atom. inr (ap (is_predicate_term p) (sym (same_Some u old there)) ∙ atom.0, atom.1))
    h
place-kind p (k ∷ place) u other old h there =
    inl (
      ⊎_elim
          (λ functions. is_function_term-subterm p (k ∷ place) u old there functions.0)
          (λ atom. is_predicate_term-subterm p k place u old there atom.0)
          h,
      refl,
    )

-- ---- of one kind

both_functions : (p : ℕ → Bool) (t u : Tree) → is_function_term p t ≡ true → is_function_term p u ≡ true → Kinds p t u
both_functions p t u e f = record {
  calculus =
      or_right (has_predicate_head p t && has_predicate_head p u)
      ((not (has_predicate_head p t) && not (is_truth t)) && (not (has_predicate_head p u) && not (is_truth u)))
      (and_from (not (has_predicate_head p t) && not (is_truth t)) (not (has_predicate_head p u) && not (is_truth u))
      (and_from (not (has_predicate_head p t)) (not (is_truth t)) (ap not (function-head p t e)) (ap not (function_term-no_truth p t e)))
      (and_from (not (has_predicate_head p u)) (not (is_truth u)) (ap not (function-head p u f)) (ap not (function_term-no_truth p u f))));
  unifier =
      or_left (is_function_term p t && is_function_term p u) _ (and_from (is_function_term p t) (is_function_term p u) e f);
}

both_predicates : (p : ℕ → Bool) (t u : Tree) → is_predicate_term p t ≡ true → is_predicate_term p u ≡ true → Kinds p t u
both_predicates p t u e f = record {
  calculus =
      or_left (has_predicate_head p t && has_predicate_head p u) _
      (and_from (has_predicate_head p t) (has_predicate_head p u) (predicate-head p t e) (predicate-head p u f));
  unifier =
      or_right (is_function_term p t && is_function_term p u) _
      (and_from (is_predicate_term p t || is_truth t) (is_predicate_term p u || is_truth u)
      (or_left (is_predicate_term p t) (is_truth t) e) (or_left (is_predicate_term p u) (is_truth u) f));
}

beq-differ : (a b : Bool) → beq a b ≡ true → a ≡ true → b ≡ false → ⊥
beq-differ true true h e f = true≢false f
beq-differ true false h e f = true≢false (sym h)
beq-differ false b h e f = true≢false (sym e)

beq-differ-back : (a b : Bool) → beq a b ≡ true → a ≡ false → b ≡ true → ⊥
beq-differ-back true b h e f = true≢false e
beq-differ-back false true h e f = true≢false (sym h)
beq-differ-back false false h e f = true≢false (sym f)

both-same : (a b c : Bool) → a ≡ c → b ≡ c → beq c c ≡ true → beq a b ≡ true
both-same a b c e f h = ap₂ beq e f ∙ h

-- a predicate term and a function term aren't of one kind
mixed : (p : ℕ → Bool) (t u : Tree) → is_predicate_term p t ≡ true → is_function_term p u ≡ true → kernel.have_heads_of_one_kind p t u ≡ true → ⊥
mixed p t u e f h =
    ⊎_elim
    (λ heads.
    true≢false (sym (and_parts (has_predicate_head p t) (has_predicate_head p u) heads).1 ∙ function-head p u f))
    (λ neither.
    let first = and_parts (not (has_predicate_head p t) && not (is_truth t)) (not (has_predicate_head p u) && not (is_truth u)) neither in
    let head = and_parts (not (has_predicate_head p t)) (not (is_truth t)) first.0 in
    true≢false (sym (predicate-head p t e) ∙ not-true (has_predicate_head p t) head.0))
    (or_cases (has_predicate_head p t && has_predicate_head p u)
    ((not (has_predicate_head p t) && not (is_truth t)) && (not (has_predicate_head p u) && not (is_truth u))) h)

mixed-back : (p : ℕ → Bool) (t u : Tree) → is_function_term p t ≡ true → is_predicate_term p u ≡ true → kernel.have_heads_of_one_kind p t u ≡ true → ⊥
mixed-back p t u e f h =
    ⊎_elim
    (λ heads.
    true≢false (sym (and_parts (has_predicate_head p t) (has_predicate_head p u) heads).0 ∙ function-head p t e))
    (λ neither.
    let second = and_parts (not (has_predicate_head p t) && not (is_truth t)) (not (has_predicate_head p u) && not (is_truth u)) neither in
    let head = and_parts (not (has_predicate_head p u)) (not (is_truth u)) second.1 in
    true≢false (sym (predicate-head p u f) ∙ not-true (has_predicate_head p u) head.0))
    (or_cases (has_predicate_head p t && has_predicate_head p u)
    ((not (has_predicate_head p t) && not (is_truth t)) && (not (has_predicate_head p u) && not (is_truth u))) h)

module _ (p : ℕ → Bool) (t u : Tree) (first second : Bool) (t_kind : KindBy p t first) (u_kind : KindBy p u second) where
  kinds-from : beq first second ≡ true → Kinds p t u
  kinds-from h =
      ⊎_elim
      (λ e.
      ⊎_elim (λ f. both_functions p t u e.0 f.0) (λ f. absurd (beq-differ-back first second h e.1 f.1)) u_kind)
      (λ e.
      ⊎_elim (λ f. absurd (beq-differ first second h e.1 f.1)) (λ f. both_predicates p t u e.0 f.0) u_kind)
      t_kind

  kinds-says : kernel.have_heads_of_one_kind p t u ≡ true → beq first second ≡ true
  kinds-says h =
      ⊎_elim
      (λ e.
      ⊎_elim (λ f. both-same first second false e.1 f.1 refl) (λ f. absurd (mixed-back p t u e.0 f.0 h)) u_kind)
      (λ e.
      ⊎_elim (λ f. absurd (mixed p t u e.0 f.0 h)) (λ f. both-same first second true e.1 f.1 refl) u_kind)
      t_kind

module _
    (p : ℕ → Bool) (s : LiteralSide) (t : LiteralPlace) (l m : TreeLiteral) (old : Tree)
    (l_kind : is_literal p l ≡ true) (m_kind : is_literal p m ≡ true)
    (l_no_truth : is_truth (side_of s.side l) ≡ false) (m_no_truth : is_truth (side_of t.at.side m) ≡ false)
    (there : subterm t.place (side_of t.at.side m) ≡ Some old) where
  from_kind : KindBy p (side_of s.side l) (is_truth (other_side_of s.side l))
  from_kind = side-kind p (side_of s.side l) (other_side_of s.side l) (sides_of_one_kind p s.side l l_kind l_no_truth)

  old_kind : KindBy p old (is_root t.place && is_truth (other_side_of t.at.side m))
  old_kind =
      place-kind p t.place (side_of t.at.side m) (other_side_of t.at.side m) old (sides_of_one_kind p t.at.side m m_kind m_no_truth) there

  -- it isn't `$true`
  old-no_truth : is_truth old ≡ false
  old-no_truth =
      ⊎_elim (λ e. function_term-no_truth p old e.0) (λ e. predicate_term-no_truth p old e.0) old_kind

  pub alike-kinds : are_alike s t l m old ≡ true → Kinds p (side_of s.side l) old
  alike-kinds h =
      let mark : Bool = is_truth (other_side_of s.side l) in
      let place_mark : Bool = is_root t.place && is_truth (other_side_of t.at.side m) in
      kinds-from p (side_of s.side l) old mark place_mark from_kind old_kind (and_parts (not (is_truth old)) (beq mark place_mark) h).1

  pub kinds-alike : kernel.have_heads_of_one_kind p (side_of s.side l) old ≡ true → are_alike s t l m old ≡ true
  kinds-alike h =
      let mark : Bool = is_truth (other_side_of s.side l) in
      let place_mark : Bool = is_root t.place && is_truth (other_side_of t.at.side m) in
      and_from (not (is_truth old)) (beq mark place_mark) (not_from_false (is_truth old) old-no_truth)
      (kinds-says p (side_of s.side l) old mark place_mark from_kind old_kind h)
