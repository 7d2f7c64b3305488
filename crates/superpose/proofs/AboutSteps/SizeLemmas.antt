-- From the call with a unifier to the lemmas: sizes as they are told, and what each answer says.
use Rattle.std.proofs.Common.{◌≡◌, ℕ, ◌+◌, ◌*◌, ◌-◌, ◌<◌, ◌≤◌, max, Bool, true, false, ◌&&◌, not, Option, None, Some, List, length, refl, ap, sym, ◌∙◌, subst, inl, inr, arith}
use Rattle.std.specs.Prelude.{sum_by, slice_get}
use Rattle.std.specs.Option.{is_some}
use Rattle.std.proofs.lemmas.Bool.{true≢false, and_parts, cases_lt, le-ltb, ltb-true, ltb-false}
use Rattle.std.proofs.Math.Nat.{mul-add, le-mul_of_pos_right}
use Rattle.plain_types.specs.Capped.{capped}
use Rattle.fol_base.specs.Tree.{Tree, tree_size}
use Rattle.fol_base.specs.Instance.{instance, substitution}
use Rattle.fol_base.specs.Clause.{TreeLiteral, TreeClause, literal_size, clause_size, clause_instance, clause_variables}
use Rattle.fol_base.specs.Literal.{clause_of}
use Rattle.fol_base.specs.Ground.{literals_instance}
use Rattle.fol_base.specs.Canonical.{bound_of, terms_from}
use Rattle.fol_base.specs.Selection.{SelectionMode, chosen, eligible}
use Rattle.fol_base.specs.Sides.{side_of}
use Rattle.fol_base.specs.WellFormed.{SymbolUse, are_literals_of}
use Rattle.fol_base.specs.declared.clause.Side.TheVariants.{Left, Right}
use Rattle.fol_base.specs.declared.limits.TheConstants.{MOST_SYMBOLS, SIZE_LIMIT}
use Rattle.fol_base.proofs.AboutTerms.TreeLemmas.{tree_size-positive}
use Rattle.kernel_steps.specs.declared.step.Step.{Step}
use Rattle.kernel_steps.specs.declared.step.Step.TheVariants as step
use Rattle.bank_clause.specs.Clause.{clause_at}
use Rattle.bank_clause.specs.declared.member.Member.{Member}
use Rattle.unifier.specs.Bindings.{IsUnified}
use Rattle.unifier.specs.Renaming.{AreNamedTerms}
use Rattle.unifier.specs.SolvedForm.{SolvedForm, substitution_of}
use Rattle.unifier.proofs.AboutClasses.SharedLemmas.{own_terms_are_named}
use Rattle.eq_rules.specs.Inferences.{IsConcluded, IsMade}
use Rattle.eq_rules.specs.declared.inference.Made.{Made}
use Rattle.eq_rules.specs.declared.inference.Made.TheVariants.{Conclusion, Heavy}
use Rattle.eq_rules.proofs.AboutFactoring.FactorAnswers.{sides_size}
use Rattle.eq_rules.proofs.AboutConclusions.MadeLemmas.{size_above}
use Rattle.eq_rules.proofs.AboutConclusions.PremiseLemmas.{literal-kind}
use Rattle.eq_rules.proofs.AboutConclusions.SideLemmas.{Kinds}
use Rattle.superpose.specs.Sites.{is_usable, can_start, can_enter, literal_starts, literal_enters}
use Rattle.superpose.specs.Superposing.{para_key, IsSuperposition, AreSites, allows, are_alike, is_heavy, size_under, StartsAt, EntersAt, SuperposesBy}
use Rattle.superpose.specs.Concluding.{IsSuperpositionStep, GivesNumbered}
use Rattle.eq_rules.specs.declared.concluding.LiteralSide.{LiteralSide}
use Rattle.superpose.specs.declared.sites.LiteralPlace.{LiteralPlace}
use Rattle.superpose.proofs.AboutSites.KindLemmas.{alike-kinds}
use Rattle.superpose.proofs.AboutSteps.TermsLemmas.{general, left-below, right-below, left-size, left-tree_size, right-size, s-bound, plain, plain_size}
use Rattle.superpose.proofs.AboutSteps.BoundLemmas.{left_terms_small, right_terms_small}
use Rattle.superpose.proofs.AboutSteps.GrowthLemmas.{literals_grow}
use Rattle.superpose.proofs.AboutSteps.OwnLemmas.{allows-own}
use Rattle.superpose.proofs.AboutLists.SuperposeLemmas.{unlike_refused, apart_refused, superposition_not_allowed, superposition_heavy, superposition_concluded}
use Rattle.kbo_order.proofs.AboutMultisets.ClauseLoops.{item-size, mapped-size}

-- ---- what sites say

none_there : {X : Type 0} (o : Option X) → not (is_some o) ≡ true → o ≡ None
none_there None h = refl
none_there (Some x) h = absurd (true≢false (sym h))

pub start_unchosen : (mode : SelectionMode) (ls : List TreeLiteral) (s : LiteralSide) → can_start mode ls s ≡ true → chosen mode ls ≡ None
start_unchosen mode ls s h =
    none_there (chosen mode ls)
    (and_parts (not (is_some (chosen mode ls))) (literal_starts s.side (slice_get ls s.literal) && eligible ls s.literal None true) h).0

unchosen_by : (positive : Bool) (o : Option ℕ) → not (positive && is_some o) ≡ true → positive ≡ true → o ≡ None
unchosen_by true o h e = none_there o h
unchosen_by false o h e = absurd (true≢false (sym e))

pub enter_unchosen :
    (mode : SelectionMode) (ls : List TreeLiteral) (s : LiteralSide) (l : TreeLiteral)
    → slice_get ls s.literal ≡ Some l → can_enter mode ls s ≡ true → l.positive ≡ true → chosen mode ls ≡ None
enter_unchosen mode ls s l there h positive =
    let all : literal_enters ls (chosen mode ls) s (Some l) ≡ true = ap (literal_enters ls (chosen mode ls) s) (sym there) ∙ h in
    let free : Bool = not (l.positive && is_some (chosen mode ls)) in
    let rest = and_parts (is_usable s.side l) (free && eligible ls s.literal (chosen mode ls) l.positive) all in
    unchosen_by l.positive (chosen mode ls) (and_parts free (eligible ls s.literal (chosen mode ls) l.positive) rest.1).0 positive

-- ---- no unifier

module _
    (m n : Member) (s : LiteralSide) (t : LiteralPlace)
    (starts : StartsAt (clause_at m.clause).literals s) (enters : EntersAt (clause_at n.clause).literals t) (mode : SelectionMode) where
  pub unlike_none : are_alike s t starts.literal enters.literal enters.old ≡ false → IsSuperposition mode m s n t None
  unlike_none refused usage clauses used second_used there second_there =
      unlike_refused usage.is_predicate mode clauses m.number (clause_at m.clause) there n.number (clause_at n.clause) second_there s t starts enters
      (literal-kind usage (clause_at m.clause) s.literal starts.literal used starts.there)
      (literal-kind usage (clause_at n.clause) t.at.literal enters.literal second_used enters.there)
      refused

  pub apart_none : IsUnified true (side_of s.side starts.literal) enters.old None → IsSuperposition mode m s n t None
  apart_none none usage clauses used second_used there second_there =
      apart_refused usage.is_predicate mode clauses m.number (clause_at m.clause) there n.number (clause_at n.clause) second_there s t starts enters none

-- ---- a step

made_by_superposition :
    (p : ℕ → Bool) (mode : SelectionMode) (clauses : ℕ → Option TreeClause) (number : ℕ) (c : TreeClause) (s : LiteralSide)
    (partner : ℕ) (d : TreeClause) (t : LiteralPlace) (left right : List Tree) (made : Made)
    → IsSuperpositionStep number c s partner d t left right made
    → ((first_bind second_bind : List Tree) (e : TreeClause) → GivesNumbered c s d t left right first_bind second_bind e
    → IsConcluded p mode clauses (para_key number s partner t)
    (step.Para number partner s.literal s.side t.at.literal t.at.side t.place first_bind second_bind) e)
    → IsMade p mode clauses (para_key number s partner t) made
made_by_superposition p mode clauses number c s partner d t left right Heavy is by = absurd is
made_by_superposition p mode clauses number c s partner d t left right (Conclusion st clause) is by =
    subst (λ (k : Step). IsConcluded p mode clauses (para_key number s partner t) k (clause_of clause)) (sym is.2)
    (by is.0 is.1 (clause_of clause) is.3)

-- ---- by a unifier

-- where the order allows it under the unifier, a clause that is too large need not be built
pub heavy_allowed :
    (m n : Member) (s : LiteralSide) (t : LiteralPlace) (b : SolvedForm) (r : SuperposesBy b (clause_at m.clause) s (clause_at n.clause) t)
    (left_told right_told : ℕ)
    → left_told ≡ capped (clause_size (clause_instance (substitution_of b Left) (clause_at m.clause)))
    → right_told ≡ capped (clause_size (clause_instance (substitution_of b Right) (clause_at n.clause)))
    → MOST_SYMBOLS < max left_told right_told
    → (mode : SelectionMode) (choice : Option ℕ) → AreSites mode (clause_at m.clause) s (clause_at n.clause) t choice
    → allows (clause_at m.clause).literals s (clause_at n.clause).literals t choice (substitution_of b Left) (substitution_of b Right) ≡ true
    → IsSuperposition mode m s n t (Some Heavy)
heavy_allowed m n s t b r left_told right_told left_is right_is over mode choice sites allowed usage clauses used second_used there second_there =
    let c : TreeClause = clause_at m.clause in
    let d : TreeClause = clause_at n.clause in
    let first_bound : ℕ = bound_of (clause_variables c) in
    let second_bound : ℕ = bound_of (clause_variables d) in
    let left : List Tree = terms_from 0 first_bound (substitution_of b Left) in
    let right : List Tree = terms_from 0 second_bound (substitution_of b Right) in
    superposition_heavy usage.is_predicate mode clauses m.number c there n.number d second_there s t b r left right
    (own_terms_are_named b first_bound second_bound)
    (start_unchosen mode c.literals s sites.starts)
    (enter_unchosen mode d.literals t.at r.enters.literal r.enters.there sites.enters)
    (alike-kinds usage.is_predicate s t r.starts.literal r.enters.literal r.enters.old
    (literal-kind usage c s.literal r.starts.literal used r.starts.there)
    (literal-kind usage d t.at.literal r.enters.literal second_used r.enters.there)
    r.starts.no_truth r.enters.no_truth r.enters.old_there r.alike)
    (ap (λ o. allows c.literals s d.literals t o (substitution left) (substitution right)) (sym sites.choice_is)
    ∙ allows-own c s d t b r choice ∙ allowed)
    (elim (cases_lt MOST_SYMBOLS left_told) [
      | inl first ↦ inl (size_above left_told (clause_size (clause_instance (substitution_of b Left) c)) MOST_SYMBOLS left_is first)
      | inr first ↦
          inr (inl (size_above right_told (clause_size (clause_instance (substitution_of b Right) d)) MOST_SYMBOLS right_is (omega (arith, first, over))))
    ])

module _
    (m n : Member) (s : LiteralSide) (t : LiteralPlace) (b : SolvedForm) (r : SuperposesBy b (clause_at m.clause) s (clause_at n.clause) t)
    (left right : List Tree)
    (h : AreNamedTerms b (bound_of (clause_variables (clause_at m.clause))) (bound_of (clause_variables (clause_at n.clause))) left right) where
  abbrev c : TreeClause
  c = clause_at m.clause

  abbrev d : TreeClause
  d = clause_at n.clause

  pub left_sum : sum_by literal_size (literals_instance (substitution left) c.literals) ≡ size_under b Left c
  left_sum = left-size c s d t b r left right h

  pub right_sum : sum_by literal_size (literals_instance (substitution right) d.literals) ≡ size_under b Right d
  right_sum = right-size c s d t b r left right h

  abbrev side : Tree
  side = side_of s.side r.starts.literal

  abbrev pub side_size : ℕ
  side_size = tree_size (instance (substitution_of b Left) side)

  side_same : tree_size (instance (substitution left) side) ≡ side_size
  side_same = left-tree_size c s d t b r left right h side (s-bound c s d t b r left right h)

  pub side_low : side_size ≤ size_under b Left c
  side_low =
      let part = mapped-size (substitution left) c.literals s.literal r.starts.literal r.starts.there in
      let sides = sides_size (substitution left) s.side r.starts.literal in
      omega (arith, part, sides, left_sum, side_same)

  -- the conclusion's size
  pub made_size : sum_by literal_size (plain c s d t b r left right h) + 2 * side_size ≡ size_under b Left c + size_under b Right d
  made_size = let all = plain_size c s d t b r left right h in omega (arith, all, left_sum, right_sum, side_same)

  -- told by the clauses' own sizes: no variable becomes a larger term than the side does
  module _ (told : ℕ) (told_is : told ≡ capped side_size) (small : told * (clause_size c + clause_size d) ≤ MOST_SYMBOLS) where
    told_exactly : told ≡ side_size
    told_exactly =
        let l : TreeLiteral = r.starts.literal in
        let size : literal_size l ≤ clause_size c = item-size c.literals s.literal l r.starts.there in
        let positive : 0 < clause_size c + clause_size d = omega (arith, size, tree_size-positive l.left) in
        let less : told ≤ told * (clause_size c + clause_size d) = le-mul_of_pos_right told positive in
        omega (arith, told_is, less, small)

    term_low : (most : ℕ) → most ≡ told → tree_size (instance (substitution left) side) ≤ most
    term_low most is = omega (arith, is, told_exactly, side_same)

    some : 1 ≤ told
    some = omega (arith, told_exactly, tree_size-positive (instance (substitution_of b Left) side))

    pub surely_small : size_under b Left c + size_under b Right d ≤ MOST_SYMBOLS
    surely_small =
        let g = general c s d t b r left right h in
        let first : sum_by literal_size (literals_instance (substitution left) c.literals) ≤ told * clause_size c =
        literals_grow (length left) told (substitution left) some (left_terms_small side r.enters.old left right g told (term_low told refl) some)
        c.literals (left-below c s d t b r left right h) in
        let second : sum_by literal_size (literals_instance (substitution right) d.literals) ≤ told * clause_size d =
        literals_grow (length right) told (substitution right) some (right_terms_small side r.enters.old left right g told (term_low told refl) some)
        d.literals (right-below c s d t b r left right h) in
        omega (arith, first, second, left_sum, right_sum, mul-add told (clause_size c) (clause_size d), small)

  pub allowed_none :
      (mode : SelectionMode) (choice : Option ℕ) → AreSites mode c s d t choice
      → allows c.literals s d.literals t choice (substitution left) (substitution right) ≡ false → IsSuperposition mode m s n t None
  allowed_none mode choice sites refused usage clauses used second_used there second_there =
      superposition_not_allowed usage.is_predicate mode clauses m.number c there n.number d second_there s t b r left right h
      (ap (λ o. allows c.literals s d.literals t o (substitution left) (substitution right)) (sym sites.choice_is) ∙ refused)

  module _ (mode : SelectionMode) (choice : Option ℕ) (sites : AreSites mode c s d t choice)
      (allowed : allows c.literals s d.literals t choice (substitution left) (substitution right) ≡ true) where
    allowed_here : allows c.literals s d.literals t (chosen mode d.literals) (substitution left) (substitution right) ≡ true
    allowed_here = ap (λ o. allows c.literals s d.literals t o (substitution left) (substitution right)) (sym sites.choice_is) ∙ allowed

    kinds_here :
        (usage : SymbolUse) → are_literals_of usage c.literals ≡ true → are_literals_of usage d.literals ≡ true
        → Kinds usage.is_predicate side r.enters.old
    kinds_here usage used second_used =
        alike-kinds usage.is_predicate s t r.starts.literal r.enters.literal r.enters.old
        (literal-kind usage c s.literal r.starts.literal used r.starts.there)
        (literal-kind usage d t.at.literal r.enters.literal second_used r.enters.there)
        r.starts.no_truth r.enters.no_truth r.enters.old_there r.alike

    pub heavy_by_size :
        is_heavy (size_under b Left c) (size_under b Right d) side_size ≡ true → IsSuperposition mode m s n t (Some Heavy)
    heavy_by_size told usage clauses used second_used there second_there =
        let over : MOST_SYMBOLS < max (max (size_under b Left c) (size_under b Right d)) (size_under b Left c + size_under b Right d - 2 * side_size) =
        ltb-true MOST_SYMBOLS (max (max (size_under b Left c) (size_under b Right d)) (size_under b Left c + size_under b Right d - 2 * side_size)) told in
        superposition_heavy usage.is_predicate mode clauses m.number c there n.number d second_there s t b r left right h
        (start_unchosen mode c.literals s sites.starts)
        (enter_unchosen mode d.literals t.at r.enters.literal r.enters.there sites.enters)
        (kinds_here usage used second_used) allowed_here
        (elim (cases_lt MOST_SYMBOLS (size_under b Left c)) [
          | inl first ↦ inl first
          | inr first ↦
              (elim (cases_lt MOST_SYMBOLS (size_under b Right d)) [
                | inl second ↦ inr (inl second)
                | inr second ↦ inr (inr (omega (arith, first, second, over, made_size)))
              ])
        ])

    pub concluded_by_step :
        (made : Made) → is_heavy (size_under b Left c) (size_under b Right d) side_size ≡ false
        → IsSuperpositionStep m.number c s n.number d t left right made → IsSuperposition mode m s n t (Some made)
    concluded_by_step made told is usage clauses used second_used there second_there =
        let small : max (max (size_under b Left c) (size_under b Right d)) (size_under b Left c + size_under b Right d - 2 * side_size) ≤ MOST_SYMBOLS =
        ltb-false MOST_SYMBOLS (max (max (size_under b Left c) (size_under b Right d)) (size_under b Left c + size_under b Right d - 2 * side_size)) told in
        made_by_superposition usage.is_predicate mode clauses m.number c s n.number d t left right made is
        (superposition_concluded usage.is_predicate mode clauses m.number c there n.number d second_there s t b r left right h
        (start_unchosen mode c.literals s sites.starts)
        (enter_unchosen mode d.literals t.at r.enters.literal r.enters.there sites.enters)
        (kinds_here usage used second_used) allowed_here
        (omega (arith, small)) (omega (arith, small)) (omega (arith, small, made_size)))

-- where the order doesn't allow it under the unifier, there is none
pub refused_own :
    (m n : Member) (s : LiteralSide) (t : LiteralPlace) (b : SolvedForm) (r : SuperposesBy b (clause_at m.clause) s (clause_at n.clause) t)
    (mode : SelectionMode) (choice : Option ℕ) → AreSites mode (clause_at m.clause) s (clause_at n.clause) t choice
    → allows (clause_at m.clause).literals s (clause_at n.clause).literals t choice (substitution_of b Left) (substitution_of b Right) ≡ false
    → IsSuperposition mode m s n t None
refused_own m n s t b r mode choice sites refused =
    let c : TreeClause = clause_at m.clause in
    let d : TreeClause = clause_at n.clause in
    let first_bound : ℕ = bound_of (clause_variables c) in
    let second_bound : ℕ = bound_of (clause_variables d) in
    allowed_none m n s t b r (terms_from 0 first_bound (substitution_of b Left)) (terms_from 0 second_bound (substitution_of b Right))
    (own_terms_are_named b first_bound second_bound) mode choice sites (allows-own c s d t b r choice ∙ refused)

-- a clause that is surely small is not heavy
pub small_not_heavy : (left right side : ℕ) → left + right ≤ MOST_SYMBOLS → is_heavy left right side ≡ false
small_not_heavy left right side small =
    le-ltb MOST_SYMBOLS (max (max left right) (left + right - 2 * side)) (omega (arith, small))

-- a size that doesn't reach the limit is told as it is
pub stays : (told size : ℕ) → told ≡ capped size → told < SIZE_LIMIT → told ≡ size
stays told size is low = omega (arith, is, low)
