-- A worked inference from a clause under an assertion: the part p(X0) of a clause that was split, and not p(a), give the empty clause under the
-- part's assertion. p(X0) doesn't cut the other clause, since its assertion isn't among that one's.
use Rattle.std.proofs.Common.{◌≡◌, ℕ, zero, suc, true, false, ◌&&◌, ◌==◌, List, [], ◌∷◌, None, Some, refl, sym, ap, ◌∙◌, subst, ⊎_elim, inl, inr, arith, lit<}
use Rattle.std.specs.Prelude.{slice_get, slice_index_or, take, IsTrue, if◌then◌else◌, Contains}
use Rattle.std.proofs.lemmas.Bool.{true≢false, and_parts, and_from}
use Rattle.std.proofs.lemmas.Option.{none-some, same_Some}
use Rattle.std.proofs.lemmas.List.Elements.{All-nil, All-cons}
use Rattle.plain_types.specs.declared.sequence.NameLit.{NameLit}
use Rattle.plain_types.specs.Names.{negative_of}
use Rattle.fol_base.specs.Tree.{Tree, tree_eq, true_tree, variable}
use Rattle.fol_base.specs.Instance.{Substitution, instance}
use Rattle.fol_base.specs.Place.{subterm}
use Rattle.fol_base.specs.Clause.{TreeLiteral, TreeClause, literal_instance}
use Rattle.fol_base.specs.Literal.{clause_of}
use Rattle.fol_base.specs.Order.{equivalent_literals}
use Rattle.fol_base.specs.Selection.{select_negative, chosen}
use Rattle.fol_base.specs.Sides.{side_of}
use Rattle.fol_base.specs.Subsumption.{Subsumes, stand_at, is_there}
use Rattle.fol_base.specs.Unifier.{IsMostGeneralUnifierApart}
use Rattle.fol_base.specs.Examples.{x, a, p, clause, is_predicate, even, odd, first_is}
use Rattle.fol_base.specs.declared.clause.Side.{Side}
use Rattle.fol_base.specs.declared.clause.Side.TheVariants.{Left, Right}
use Rattle.fol_base.proofs.AboutClauses.RuleLemmas.{resolved-parts, merged-parts}
use Rattle.fol_base.proofs.AboutInstances.Shuffled.{shuffled, shuffled-even, shuffled-odd}
use Rattle.fol_base.proofs.WorkedExamples.MatchingExamples.{first_argument}
use Rattle.kernel_steps.specs.Conclusion.{verdict, concludes}
use Rattle.kernel_steps.specs.Derivation.{complement, continued, under_names}
use Rattle.kernel_steps.specs.Examples.{not_p, not_true}
use Rattle.kernel_steps.specs.Inference.{have_heads_of_one_kind, NamedSuperposition, NamedResolution, NamedFactoring, RewritesBy, CutsBy, Reduces}
use Rattle.kernel_steps.specs.Lines.{clause_parents, IsNumbered}
use Rattle.kernel_steps.specs.Named.{IsInference}
use Rattle.kernel_steps.specs.Sized.{IsSizedInference}
use Rattle.kernel_steps.specs.Symbols.{symbols_pass, literal_symbols_pass}
use Rattle.kernel_steps.specs.declared.key.Key.{Key}
use Rattle.kernel_steps.specs.declared.key.Key.TheVariants.{Para, Refl, Factor, Replaced}
use Rattle.kernel_steps.specs.declared.step.Step.TheVariants as step
use Rattle.kernel_steps.specs.declared.step.TheConstants.{CLAUSE_NUMBERS}
use Rattle.kernel_steps.specs.declared.step.Line.{Line}
use Rattle.laws_calculus.specs.Lifting.{among, IsMember}
use Rattle.pool_history.specs.Record.{GivenJob, clauses_of}
use Rattle.kernel_steps.specs.FromTrees.{line_of}
use Rattle.pool_history.specs.Reduction.{Lookup, AreLinesFrom}
use Rattle.pool_history.specs.Batches.{is_told, is_told_beside, told_clauses, is_to_meet, IsReduced, IsReducedBeside, IsRightFate, IsRightMeeting, Simplifies}
use Rattle.pool_history.specs.Lawful.{IsLawful}
use Rattle.pool_history.specs.Replay.{replay}
use Rattle.laws_pool_examples.specs.Examples.{split, denied, first_denied, both_denied, at_roots, batch_line, para_at_roots}
use Rattle.laws_pool_examples.proofs.WorkedExamples.CuttingExample.{truth-passes}
use Rattle.laws_pool_examples.proofs.WorkedExamples.MeetingExample.{meets_nothing, no_other, no_superposition_of_part, none-when}
use Rattle.laws_pool_examples.proofs.WorkedExamples.SteppingExample.{none_in_truth, none_in_variable, none_under_p}
use Rattle.pool_history.specs.declared.batch.Entry.{Entry}

-- the part p(X0) under its assertion, and not p(a)
abbrev names : List NameLit
names = negative_of 0 ∷ []

abbrev part : TreeClause
part = under_names (p (x 0) ∷ []) names

abbrev denial : TreeClause
denial = clause (not_p a ∷ [])

abbrev empty : TreeClause
empty = under_names [] names

-- ---- the job on the part, which was told it alone, as when it returns

abbrev before : Lookup
before = clauses_of (replay split (take 3 first_denied))

abbrev part_job : GivenJob
part_job = record { job = 2; number = 0; told = 0 ∷ []; as_of = 3; left = 100 }

none_after_four : (n : ℕ) → before (suc (suc (suc (suc n)))) ≡ None
none_after_four n = refl

only_part : (n : ℕ) (c : TreeClause) → among (is_told part_job) before n ≡ Some c → part ≡ c
only_part zero c there = same_Some part c there
only_part (suc zero) c there = absurd (none-some c there)
only_part (suc (suc zero)) c there = absurd (none-some c there)
only_part (suc (suc (suc zero))) c there = absurd (none-some c there)
only_part (suc (suc (suc (suc n)))) c there =
    absurd (none-some c (sym (none-when (is_told part_job (suc (suc (suc (suc n))))) (before (suc (suc (suc (suc n))))) (none_after_four n)) ∙ there))

part_stays : IsRightMeeting is_predicate split.options before part_job [] []
part_stays =
    meets_nothing split.options (p (x 0)) names before part_job refl refl refl only_part
    (λ n. ap (λ told. if told then before n else None) (no_other (n == 0))) no_superposition_of_part

-- ---- the job on its denial, which was told both

abbrev registered : Lookup
registered = clauses_of (replay split (take 5 first_denied))

abbrev job : GivenJob
job = record { job = 3; number = 2; told = 0 ∷ 2 ∷ []; as_of = 5; left = 100 }

abbrev told : Lookup
told = told_clauses is_predicate split.options registered job

-- what holds of both holds of each told clause
each_told : (P : ℕ → TreeClause → Type 0) → P 0 part → P 2 denial → (n : ℕ) (c : TreeClause) → told n ≡ Some c → P n c
each_told P first second zero c there = subst (P 0) (same_Some part c there) first
each_told P first second (suc zero) c there = absurd (none-some c there)
each_told P first second (suc (suc zero)) c there = subst (P 2) (same_Some denial c there) second
each_told P first second (suc (suc (suc zero))) c there = absurd (none-some c there)
each_told P first second (suc (suc (suc (suc n)))) c there =
    absurd
    (none-some c
    (sym (none-when (is_told job (suc (suc (suc (suc n))))) (registered (suc (suc (suc (suc n))))) refl) ∙ there))

-- the part alone is told beside the denial
beside : (d : TreeClause) (n : ℕ) → among (is_told_beside job 2) registered n ≡ Some d → part ≡ d
beside d zero there = same_Some part d there
beside d (suc zero) there = absurd (none-some d there)
beside d (suc (suc zero)) there = absurd (none-some d there)
beside d (suc (suc (suc zero))) there = absurd (none-some d there)
beside d (suc (suc (suc (suc n)))) there =
    absurd
    (none-some d
    (sym (none-when (is_told_beside job 2 (suc (suc (suc (suc n))))) (registered (suc (suc (suc (suc n))))) refl) ∙ there))

-- ---- the denial is irreducible: it lacks the part's assertion

only : {X : Type 0} (l m : X) (k : ℕ) → slice_get (l ∷ []) k ≡ Some m → l ≡ m
only l m zero there = same_Some l m there
only l m (suc k) there = absurd (none-some m there)

two_places :
    (l m n : TreeLiteral) (i j : ℕ) → slice_get (l ∷ []) i ≡ Some m → slice_get (l ∷ []) j ≡ Some n → (i == j) ≡ false → ⊥
two_places l m n zero zero at_i at_j differ = true≢false differ
two_places l m n zero (suc j) at_i at_j differ = none-some n at_j
two_places l m n (suc i) j at_i at_j differ = none-some m at_i

no_step : (d : TreeClause) → Reduces is_predicate (IsMember (is_told_beside job 2) registered) denial d → ⊥
no_step d (inl trivial) =
    let made = resolved-parts (not_p a ∷ []) trivial.i d.literals trivial.gives in
    let is : not_p a ≡ made.literal = only (not_p a) made.literal trivial.i made.literal_there in
    let sides : (p a).left ≡ true_tree = ap (λ (l : TreeLiteral). l.left) is ∙ made.same ∙ ap (λ (l : TreeLiteral). l.right) (sym is) in
    true≢false (ap (tree_eq (p a).left) sides)
no_step d (inr (inl equal)) =
    let made = merged-parts (not_p a ∷ []) equal.stays equal.goes d.literals equal.gives in
    two_places (not_p a) made.literal_i made.literal_j equal.stays equal.goes made.i_there made.j_there made.differ
no_step d (inr (inr (inl w))) =
    true≢false
    (sym (subst (λ (u : TreeClause). RewritesBy is_predicate u denial d) (sym (beside w.clause w.holds.0 w.holds.1)) w.does).asserted)
no_step d (inr (inr (inr w))) =
    true≢false
    (sym (subst (λ (u : TreeClause). CutsBy is_predicate u denial d) (sym (beside w.clause w.holds.0 w.holds.1)) w.does).asserted)

irreducible : IsReducedBeside is_predicate split.options registered job 2 denial
irreducible = record {
  no_step = no_step;
  no_tautology = refl;
  not_subsumed = λ s.
      true≢false
      (sym (subst (λ (u : TreeClause). Subsumes is_predicate u denial) (sym (beside s.clause s.holds.0 s.holds.1)) s.does).asserted);
}

-- ---- and so is the empty clause under an assertion

no_step_of_empty : (d : TreeClause) → Reduces is_predicate (IsMember (is_told job) registered) empty d → ⊥
no_step_of_empty d (inl trivial) =
    let made = resolved-parts [] trivial.i d.literals trivial.gives in none-some made.literal made.literal_there
no_step_of_empty d (inr (inl equal)) =
    let made = merged-parts [] equal.stays equal.goes d.literals equal.gives in none-some made.literal_i made.i_there
no_step_of_empty d (inr (inr (inl w))) = none-some w.does.literal w.does.literal_there
no_step_of_empty d (inr (inr (inr w))) = none-some w.does.literal w.does.literal_there

no_subsuming : (l : TreeLiteral) (ns : List NameLit) → Subsumes is_predicate (under_names (l ∷ []) ns) empty → ⊥
no_subsuming l ns s = by s.places s.mapped
  where
    by : (places : List ℕ) → stand_at s.matcher (l ∷ []) places [] ≡ true → ⊥
    by [] mapped = true≢false (sym mapped)
    by (k ∷ ks) mapped = true≢false (sym mapped)

empty_irreducible : IsReduced is_predicate split.options registered job empty
empty_irreducible = record {
  no_step = no_step_of_empty;
  no_tautology = refl;
  not_subsumed = λ s.
      each_told (λ n (c : TreeClause). Subsumes is_predicate c empty → ⊥) (no_subsuming (p (x 0)) names) (no_subsuming (not_p a) [])
      s.holds.0 s.clause s.holds.1 s.does;
}

-- ---- the entry

general : IsMostGeneralUnifierApart (p (x 0)).left (p a).left (first_is a odd) (λ v. variable (even v))
general = record {
  unifies = refl;
  is_general = λ ρ π unifies. (
    shuffled π (λ w. ρ (suc w)),
    λ v. at ρ π (ap first_argument unifies) v,
    λ v. shuffled-even π (λ w. ρ (suc w)) v,
  );
}
  where
    at : (ρ π : Substitution) → ρ 0 ≡ a → (v : ℕ) → ρ v ≡ instance (shuffled π (λ w. ρ (suc w))) (first_is a odd v)
    at ρ π e zero = e
    at ρ π e (suc v) = shuffled-odd π (λ w. ρ (suc w)) v

abbrev inference : NamedSuperposition is_predicate select_negative part 0 Left denial 0 Left [] (under_names (not_true ∷ []) names)
inference = record {
  from = p (x 0);
  from_there = refl;
  into = not_p a;
  into_there = refl;
  old = (p a).left;
  old_there = refl;
  no_variable = refl;
  one_kind = refl;
  first_unifier = first_is a odd;
  second_unifier = λ v. variable (even v);
  most_general = general;
  from_ordered = refl;
  into_ordered = refl;
  from_eligible = record { nothing_chosen = refl; is_eligible = refl };
  into_eligible = inl (refl, refl);
  others_differ = λ positive root. absurd (true≢false (sym positive));
  concludes = refl;
  names = refl;
}

inferred : IsSizedInference is_predicate select_negative told (at_roots 0 2) (under_names (not_true ∷ []) names) false
inferred = record {
  first_clause = part;
  first_there = refl;
  second_clause = denial;
  second_there = refl;
  infers = record { named = inference; size = refl };
}

abbrev superposed_line : Line
superposed_line = line_of (para_at_roots 0 2 (a ∷ []) []) (under_names (not_true ∷ []) names)

abbrev resolved_line : Line
resolved_line = line_of (step.Refl (batch_line 0) 0 []) empty

are_lines : AreLinesFrom is_predicate told (superposed_line ∷ resolved_line ∷ [])
are_lines = record {
  lines_right =
      record {
        kinds = refl;
        steps = steps;
        numbered =
            All-cons IsNumbered superposed_line (resolved_line ∷ []) (record { canonical = refl; bindings = refl })
            (All-cons IsNumbered resolved_line [] (record { canonical = refl; bindings = refl }) (All-nil _));
        terms = refl;
        small = refl;
      };
  symbols = λ test truth each.
      let t = truth-passes test truth in
      let trivial : IsTrue (literal_symbols_pass test not_true) = and_from (symbols_pass test true_tree) (symbols_pass test true_tree) t t in
      let atom = and_parts (literal_symbols_pass test (not_p a)) true (each 2 denial refl) in
      let sides = and_parts (symbols_pass test (p a).left) (symbols_pass test true_tree) atom.0 in
      let of_a = (and_parts (symbols_pass test a) true (and_parts (test 6 1) (symbols_pass test a && true) sides.0).1).0 in (
        and_from (literal_symbols_pass test not_true && true) true (and_from (literal_symbols_pass test not_true) true trivial refl) refl,
        and_from ((symbols_pass test a && true) && true) true
            (and_from (symbols_pass test a && true) true (and_from (symbols_pass test a) true of_a refl) refl) refl,
      );
}
  where
    steps :
        (n : ℕ) (l : Line) → slice_get (superposed_line ∷ resolved_line ∷ []) n ≡ Some l
        → verdict l.step (continued CLAUSE_NUMBERS (clause_parents told) (take n (superposed_line ∷ resolved_line ∷ [])))
        ≡ concludes (clause_of l.clause)
    steps zero l there =
        subst (λ (k : Line). verdict k.step (continued CLAUSE_NUMBERS (clause_parents told) []) ≡ concludes (clause_of k.clause))
        (same_Some superposed_line l there) refl
    steps (suc zero) l there =
        subst (λ (k : Line). verdict k.step (continued CLAUSE_NUMBERS (clause_parents told) (superposed_line ∷ [])) ≡ concludes (clause_of k.clause))
        (same_Some resolved_line l there) refl
    steps (suc (suc n)) l there = absurd (none-some l there)

abbrev the_entry : Entry
the_entry = denied 0 2 (a ∷ []) 0

right_entry : IsRightFate is_predicate split.options registered job (at_roots 0 2) the_entry.fate
right_entry = record {
  first = superposed_line;
  others = resolved_line ∷ [];
  begins = refl;
  of_key = refl;
  inferred = inferred;
  are_lines = are_lines;
  moves = record { by = None; gives = empty } ∷ [];
  result = empty;
  reduced =
      record {
        moved = (record { result = empty; step = inl (record { i = 0; gives = refl; names = refl }); canonical = refl }, tt);
        ends = refl;
        led = refl;
      };
  irreducible = empty_irreducible;
  given = refl;
}

-- ---- there is no other inference

abbrev the_keys : List Key
the_keys = at_roots 0 2 ∷ []

-- the inference of both at their atoms is the only superposition
only_superposition :
    (s z : Side) (place : List ℕ) (old : Tree)
    → subterm place (side_of z (not_p a)) ≡ Some old → have_heads_of_one_kind is_predicate (side_of s (p (x 0))) old ≡ true
    → Contains the_keys (Para 0 0 s 2 0 z place)
only_superposition Left Left [] old there kind = (0, lit< tt, refl)
only_superposition Left Left (zero ∷ []) old there kind =
    absurd (true≢false (sym kind ∙ ap (have_heads_of_one_kind is_predicate (p (x 0)).left) (sym (same_Some a old there))))
only_superposition Left Left (zero ∷ k ∷ place) old there kind = absurd (none-some old there)
only_superposition Left Left (suc k ∷ place) old there kind = absurd (none-some old there)
only_superposition Left Right [] old there kind =
    absurd (true≢false (sym kind ∙ ap (have_heads_of_one_kind is_predicate (p (x 0)).left) (sym (same_Some true_tree old there))))
only_superposition Left Right (k ∷ place) old there kind = absurd (none-some old there)
only_superposition Right z place old there kind = absurd (true≢false (sym kind))

superposed :
    (i j : ℕ) (s z : Side) (place : List ℕ) (d : TreeClause)
    → NamedSuperposition is_predicate select_negative part i s denial j z place d → Contains the_keys (Para 0 i s 2 j z place)
superposed zero zero s z place d n =
    let from_is : p (x 0) ≡ n.from = same_Some (p (x 0)) n.from n.from_there in
    let into_is : not_p a ≡ n.into = same_Some (not_p a) n.into n.into_there in
    only_superposition s z place n.old
    (ap (λ (l : TreeLiteral). subterm place (side_of z l)) into_is ∙ n.old_there)
    (ap (λ (l : TreeLiteral). have_heads_of_one_kind is_predicate (side_of s l) n.old) from_is ∙ n.one_kind)
superposed zero (suc j) s z place d n = absurd (none-some n.into n.into_there)
superposed (suc i) j s z place d n = absurd (none-some n.from n.from_there)

abbrev IsMet : Key → Type 0
IsMet key = IsTrue (is_to_meet is_predicate split.options registered job key)

not_resolved : (i : ℕ) (d : TreeClause) → NamedResolution select_negative denial i d → ⊥
not_resolved i d n =
    let is : not_p a ≡ n.literal = only (not_p a) n.literal i n.literal_there in
    let same : (p a).left ≡ true_tree =
    ap (λ (l : TreeLiteral). instance n.unifier l.left) is ∙ n.most_general.unifies ∙ ap (λ (l : TreeLiteral). instance n.unifier l.right) (sym is) in
    true≢false (ap (tree_eq (p a).left) same)

-- a literal of the denial is chosen
some_chosen : chosen select_negative denial.literals ≡ None → ⊥
some_chosen nothing = none-some 0 (sym nothing)

only_key : (key : Key) (c : TreeClause) → IsMet key → IsInference is_predicate select_negative told key c → Contains the_keys key
only_key (Para first i s second j z place) d met it =
    each_told
    (λ n (c : TreeClause).
    IsMet (Para n i s second j z place)
    → NamedSuperposition is_predicate select_negative c i s it.second_clause j z place d
    → Contains the_keys (Para n i s second j z place))
    (into_second second it.second_clause it.second_there)
    (λ also_met n. absurd (some_chosen n.from_eligible.nothing_chosen))
    first it.first_clause it.first_there met it.infers
  where
    into_second :
        (n : ℕ) (c : TreeClause) → told n ≡ Some c
        → IsMet (Para 0 i s n j z place) → NamedSuperposition is_predicate select_negative part i s c j z place d
        → Contains the_keys (Para 0 i s n j z place)
    into_second =
        each_told
        (λ n (c : TreeClause).
        IsMet (Para 0 i s n j z place)
        → NamedSuperposition is_predicate select_negative part i s c j z place d
        → Contains the_keys (Para 0 i s n j z place))
        (λ also_met n. absurd (true≢false (sym also_met)))
        (λ also_met n. superposed i j s z place d n)
only_key (Refl k i) d met it =
    each_told
    (λ n (c : TreeClause). IsMet (Refl n i) → NamedResolution select_negative c i d → Contains the_keys (Refl n i))
    (λ also_met n. absurd (true≢false (sym also_met)))
    (λ also_met n. absurd (not_resolved i d n))
    k it.clause it.there met it.infers
only_key (Factor k i s j z) d met it =
    each_told
    (λ n (c : TreeClause). IsMet (Factor n i s j z) → NamedFactoring is_predicate select_negative c i s j z d → Contains the_keys (Factor n i s j z))
    (λ also_met n. absurd (true≢false (sym also_met)))
    (λ also_met n. absurd (some_chosen n.i_eligible.nothing_chosen))
    k it.clause it.there met it.infers
only_key (Replaced k) d met it = absurd it

-- ---- the denial simplifies nothing

not_there : (σ : Substitution) (k : ℕ) → is_there (literal_instance σ (not_p a)) (slice_get (p (x 0) ∷ []) k) ≡ false
not_there σ zero = refl
not_there σ (suc k) = refl

no_match :
    (s z : Side) (place : List ℕ) (old : Tree) (σ : Substitution)
    → subterm place (side_of z (p (x 0))) ≡ Some old → have_heads_of_one_kind is_predicate (side_of s (not_p a)) old ≡ true
    → instance σ (side_of s (not_p a)) ≡ old → ⊥
no_match Left Left place old σ there kind match = none_under_p (x 0) refl none_in_variable place old there match
no_match Left Right place old σ there kind match = none_in_truth place old there match
no_match Right z place old σ there kind match = true≢false (sym kind)

not_rewritten : (d : TreeClause) → RewritesBy is_predicate denial part d → ⊥
not_rewritten d w =
    let unit_is : not_p a ≡ w.equation = ap (λ ls. slice_index_or ls 0 (not_p a)) w.is_unit in
    let literal_is : p (x 0) ≡ w.literal = only (p (x 0)) w.literal w.j w.literal_there in
    no_match w.from_side w.into_side w.place w.old w.matcher
    (ap (λ (l : TreeLiteral). subterm w.place (side_of w.into_side l)) literal_is ∙ w.old_there)
    (ap (λ (l : TreeLiteral). have_heads_of_one_kind is_predicate (side_of w.from_side l) w.old) unit_is ∙ w.one_kind)
    (ap (λ (l : TreeLiteral). instance w.matcher (side_of w.from_side l)) unit_is ∙ w.matches)

not_cut : (d : TreeClause) → CutsBy is_predicate denial part d → ⊥
not_cut d w =
    let unit_is : not_p a ≡ w.unit_literal = ap (λ ls. slice_index_or ls 0 (not_p a)) w.is_unit in
    let literal_is : p (x 0) ≡ w.literal = only (p (x 0)) w.literal w.j w.literal_there in
    true≢false
    (sym w.matches
    ∙ ap (λ (l : TreeLiteral). equivalent_literals (literal_instance w.matcher (complement l)) w.literal) (sym unit_is)
    ∙ ap (λ (l : TreeLiteral). equivalent_literals (literal_instance w.matcher (complement (not_p a))) l) (sym literal_is))

not_subsumed : Subsumes is_predicate denial part → ⊥
not_subsumed s = by s.places s.mapped
  where
    by : (places : List ℕ) → stand_at s.matcher (not_p a ∷ []) places (p (x 0) ∷ []) ≡ true → ⊥
    by [] mapped = true≢false (sym mapped)
    by (k ∷ ks) mapped =
        true≢false
        (sym (and_parts (is_there (literal_instance s.matcher (not_p a)) (slice_get (p (x 0) ∷ []) k)) (stand_at s.matcher [] ks (p (x 0) ∷ [])) mapped).0
        ∙ not_there s.matcher k)

not_simplified : Simplifies is_predicate split.options registered job denial part → ⊥
not_simplified h =
    ⊎_elim not_subsumed
    (λ units. ⊎_elim (λ rewrites. not_rewritten rewrites.0 rewrites.1) (λ cuts. not_cut cuts.0 cuts.1) units)
    h

-- ---- the history is lawful, with the second model

meeting : IsRightMeeting is_predicate split.options registered job (the_entry ∷ []) []
meeting = record {
  given_irreducible = record { clause = denial; there = refl; infers = irreducible };
  keys_differ = λ i j d before within. absurd (omega (arith, before, within));
  keys_met = refl;
  right_entries =
      All-cons (λ (e : Entry). IsRightFate is_predicate split.options registered job e.key e.fate) the_entry [] right_entry (All-nil _);
  others_removed = refl;
  right_removals = All-nil _;
  whole =
      inr (
        λ key c met named. only_key key c met named,
        λ n by c there given simplifies.
            absurd
            (not_simplified
            (subst (λ (d : TreeClause). Simplifies is_predicate split.options registered job d part) (sym (same_Some denial by given))
            (subst (λ (d : TreeClause). Simplifies is_predicate split.options registered job by d) (sym (beside c n there)) simplifies))),
      );
}

pub denied_part : IsLawful is_predicate split (take 8 both_denied)
denied_part = (
  ((refl, refl), refl),
  (
    record { solver = _; out = refl; same = refl; says = record { complete = refl; makes_true = refl } },
    (
      ((refl, refl), refl, refl),
      (
        record { given = part_job; out = refl; says = (refl, refl, part_stays) },
        (
          ((refl, refl), refl, refl),
          (
            record { given = job; out = refl; says = (refl, refl, meeting) },
            (
              ((refl, refl), refl),
              (record { solver = _; out = refl; same = refl; says = record { complete = refl; makes_true = refl } }, tt),
            ),
          ),
        ),
      ),
    ),
  ),
)
