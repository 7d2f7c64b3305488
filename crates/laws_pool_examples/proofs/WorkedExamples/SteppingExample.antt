-- A worked batch with an inference whose result was reduced: p(a) into not p(X0) or p(f(X0)), where one inference may be counted.
use Rattle.std.proofs.Common.{◌≡◌, ℕ, zero, suc, Bool, true, false, ◌&&◌, ◌==◌, List, [], ◌∷◌, refl, sym, ap, ◌∙◌, subst, inl, inr, arith}
use Rattle.std.specs.Prelude.{None, Some, slice_get, slice_index_or, take, IsTrue}
use Rattle.std.proofs.lemmas.Bool.{true≢false, and_parts, and_from}
use Rattle.std.proofs.lemmas.Option.{none-some, same_Some}
use Rattle.std.proofs.lemmas.List.Elements.{All-nil, All-cons}
use Rattle.fol_base.specs.Tree.{Tree, variable, tree_eq, true_tree}
use Rattle.fol_base.specs.Instance.{Substitution, instance}
use Rattle.fol_base.specs.Place.{subterm}
use Rattle.fol_base.specs.Clause.{TreeLiteral, TreeClause, literal_instance}
use Rattle.fol_base.specs.Sides.{side_of, other_side_of}
use Rattle.fol_base.specs.Order.{tree_greater, equivalent_literals}
use Rattle.fol_base.specs.Literal.{clause_of}
use Rattle.fol_base.specs.Selection.{select_negative}
use Rattle.fol_base.specs.Subsumption.{Subsumes, stand_at, is_there}
use Rattle.fol_base.specs.Unifier.{IsMostGeneralUnifierApart}
use Rattle.fol_base.specs.Examples.{x, a, f, p, clause, is_predicate, even, odd, first_is}
use Rattle.fol_base.specs.declared.clause.Side.{Side}
use Rattle.fol_base.specs.declared.clause.Side.TheVariants.{Left, Right}
use Rattle.fol_base.proofs.AboutClauses.RuleLemmas.{resolved-parts, merged-parts}
use Rattle.fol_base.proofs.AboutInstances.Shuffled.{shuffled, shuffled-even, shuffled-odd}
use Rattle.fol_base.proofs.WorkedExamples.MatchingExamples.{first_argument}
use Rattle.kernel_steps.specs.Conclusion.{verdict, concludes}
use Rattle.kernel_steps.specs.Derivation.{complement, continued}
use Rattle.kernel_steps.specs.Examples.{not_p, not_true}
use Rattle.kernel_steps.specs.Inference.{NamedSuperposition, RewritesBy, CutsBy, Reduces}
use Rattle.kernel_steps.specs.Lines.{clause_parents, IsNumbered}
use Rattle.kernel_steps.specs.Sized.{IsSizedInference}
use Rattle.kernel_steps.specs.Symbols.{symbols_pass, literal_symbols_pass, clause_symbols_pass}
use Rattle.kernel_steps.specs.declared.step.TheConstants.{CLAUSE_NUMBERS}
use Rattle.kernel_steps.specs.declared.step.Line.{Line}
use Rattle.kernel_steps.specs.declared.step.Step.TheVariants as step
use Rattle.laws_calculus.specs.Lifting.{among, IsMember}
use Rattle.pool_history.specs.Record.{GivenJob, clauses_of}
use Rattle.kernel_steps.specs.FromTrees.{line_of}
use Rattle.pool_history.specs.Reduction.{Lookup, AreLinesFrom}
use Rattle.pool_history.specs.Batches.{is_told, is_told_beside, told_clauses, IsReduced, IsReducedBeside, IsRightFate, IsRightMeeting}
use Rattle.pool_history.specs.Lawful.{IsLawful}
use Rattle.pool_history.specs.Replay.{Origin, start}
use Rattle.laws_pool_examples.specs.Examples.{growing, one_step, at_roots, batch_line, para_at_roots, return}
use Rattle.pool_history.specs.declared.batch.Entry.{Entry}
use Rattle.pool_history.specs.declared.batch.Work.TheVariants as work
use Rattle.pool_history.specs.declared.event.Event.TheVariants as event
use Rattle.laws_pool_examples.proofs.WorkedExamples.MeetingExample.{none-when}
use Rattle.laws_pool_examples.proofs.WorkedExamples.CuttingExample.{truth-passes}

abbrev origin : Origin
origin = growing 1

abbrev registered : Lookup
registered = clauses_of (start origin)

-- p(X0) implies p(f(X0))
abbrev implication : List TreeLiteral
implication = not_p (x 0) ∷ p (f (x 0)) ∷ []

-- the job on it, which was told p(a) too
abbrev job : GivenJob
job = record { job = 2; number = 1; told = 0 ∷ 1 ∷ []; as_of = 2; left = 1 }

abbrev told : Lookup
told = told_clauses is_predicate origin.options registered job

-- ---- the inference

general : IsMostGeneralUnifierApart (p a).left (p (x 0)).left (λ v. variable (even v)) (first_is a odd)
general = record {
  unifies = refl;
  is_general = λ ρ π unifies. (
    shuffled ρ (λ w. π (suc w)),
    λ v. shuffled-even ρ (λ w. π (suc w)) v,
    λ v. at ρ π (ap first_argument unifies) v,
  );
}
  where
    at : (ρ π : Substitution) → a ≡ π 0 → (v : ℕ) → π v ≡ instance (shuffled ρ (λ w. π (suc w))) (first_is a odd v)
    at ρ π e zero = sym e
    at ρ π e (suc v) = shuffled-odd ρ (λ w. π (suc w)) v

abbrev inference :
    NamedSuperposition is_predicate select_negative (clause (p a ∷ [])) 0 Left (clause implication) 0 Left [] (clause (not_true ∷ p (f a) ∷ []))
inference = record {
  from = p a;
  from_there = refl;
  into = not_p (x 0);
  into_there = refl;
  old = (p (x 0)).left;
  old_there = refl;
  no_variable = refl;
  one_kind = refl;
  first_unifier = λ v. variable (even v);
  second_unifier = first_is a odd;
  most_general = general;
  from_ordered = refl;
  into_ordered = refl;
  from_eligible = record { nothing_chosen = refl; is_eligible = refl };
  into_eligible = inl (refl, refl);
  others_differ = λ positive root. absurd (true≢false (sym positive));
  concludes = refl;
  names = refl;
}

inferred : IsSizedInference is_predicate select_negative told (at_roots 0 1) (clause (not_true ∷ p (f a) ∷ [])) false
inferred = record {
  first_clause = clause (p a ∷ []);
  first_there = refl;
  second_clause = clause implication;
  second_there = refl;
  infers = record { named = inference; size = refl };
}

-- ---- the lines

abbrev superposed_line : Line
superposed_line = line_of (para_at_roots 0 1 [] (a ∷ [])) (clause (not_true ∷ p (f a) ∷ []))

abbrev resolved_line : Line
resolved_line = line_of (step.Refl (batch_line 0) 0 []) (clause (p (f a) ∷ []))

symbols-pass :
    (test : ℕ → ℕ → Bool)
    → IsTrue (clause_symbols_pass test (clause (p a ∷ []))) → IsTrue (clause_symbols_pass test (clause implication))
    → IsTrue (symbols_pass test a) × IsTrue (literal_symbols_pass test (p (f a)))
symbols-pass test of_unit of_clause =
    let unit = and_parts (symbols_pass test (p a).left) (symbols_pass test true_tree) (and_parts (literal_symbols_pass test (p a)) true of_unit).0 in
    let of_a = (and_parts (symbols_pass test a) true (and_parts (test 6 1) (symbols_pass test a && true) unit.0).1).0 in
    let second = (and_parts (literal_symbols_pass test (p (f (x 0)))) true (and_parts (literal_symbols_pass test (not_p (x 0))) (literal_symbols_pass test (p (f (x 0))) && true) of_clause).1).0 in
    let of_p = and_parts (test 6 1) (symbols_pass test (f (x 0)) && true) (and_parts (symbols_pass test (p (f (x 0))).left) (symbols_pass test true_tree) second).0 in
    let of_f = and_parts (test 4 1) true (and_parts (test 4 1 && true) true of_p.1).0 in (
      of_a,
      and_from (symbols_pass test (p (f a)).left) (symbols_pass test true_tree)
          (and_from (test 6 1) (symbols_pass test (f a) && true) of_p.0
          (and_from (symbols_pass test (f a)) true (and_from (test 4 1) (symbols_pass test a && true) of_f.0 (and_from (symbols_pass test a) true of_a refl)) refl))
          unit.1,
    )

are_lines : AreLinesFrom is_predicate told (superposed_line ∷ resolved_line ∷ [])
are_lines = record {
  lines_right =
      record {
        kinds = refl;
        steps = steps;
        numbered =
            All-cons IsNumbered superposed_line (resolved_line ∷ []) (record { canonical = refl; bindings = refl })
            (All-cons IsNumbered resolved_line [] (record { canonical = refl; bindings = refl }) (All-nil _));
        terms = refl;
        small = refl;
      };
  symbols = λ test truth each.
      let pass = symbols-pass test (each 0 (clause (p a ∷ [])) refl) (each 1 (clause implication) refl) in
      let t = truth-passes test truth in
      let trivial : IsTrue (literal_symbols_pass test not_true) = and_from (symbols_pass test true_tree) (symbols_pass test true_tree) t t in
      let step : IsTrue (clause_symbols_pass test (clause (p (f a) ∷ []))) = and_from (literal_symbols_pass test (p (f a))) true pass.1 refl in (
        and_from (clause_symbols_pass test (clause (not_true ∷ p (f a) ∷ []))) (clause_symbols_pass test (clause (p (f a) ∷ [])) && true)
            (and_from (literal_symbols_pass test not_true) (clause_symbols_pass test (clause (p (f a) ∷ []))) trivial step)
            (and_from (clause_symbols_pass test (clause (p (f a) ∷ []))) true step refl),
        and_from ((symbols_pass test a && true) && true) true
            (and_from (symbols_pass test a && true) true (and_from (symbols_pass test a) true pass.0 refl) refl) refl,
      );
}
  where
    steps :
        (n : ℕ) (l : Line) → slice_get (superposed_line ∷ resolved_line ∷ []) n ≡ Some l
        → verdict l.step (continued CLAUSE_NUMBERS (clause_parents told) (take n (superposed_line ∷ resolved_line ∷ [])))
        ≡ concludes (clause_of l.clause)
    steps zero l there =
        subst (λ (k : Line). verdict k.step (continued CLAUSE_NUMBERS (clause_parents told) []) ≡ concludes (clause_of k.clause))
        (same_Some superposed_line l there) refl
    steps (suc zero) l there =
        subst (λ (k : Line). verdict k.step (continued CLAUSE_NUMBERS (clause_parents told) (superposed_line ∷ [])) ≡ concludes (clause_of k.clause))
        (same_Some resolved_line l there) refl
    steps (suc (suc n)) l there = absurd (none-some l there)

-- ---- what p(a) doesn't do

-- a term without p(a) at any place
abbrev pub HasNone : Tree → Type 0
HasNone t = (place : List ℕ) (old : Tree) → subterm place t ≡ Some old → (p a).left ≡ old → ⊥

pub none_in_truth : HasNone true_tree
none_in_truth [] old there is = true≢false (ap (tree_eq (p a).left) is ∙ ap (tree_eq (p a).left) (sym (same_Some true_tree old there)))
none_in_truth (k ∷ place) old there is = none-some old there

none_in_a : HasNone a
none_in_a [] old there is = true≢false (ap (tree_eq (p a).left) is ∙ ap (tree_eq (p a).left) (sym (same_Some a old there)))
none_in_a (k ∷ place) old there is = none-some old there

pub none_in_variable : HasNone (x 0)
none_in_variable [] old there is = true≢false (ap (tree_eq (p a).left) is ∙ ap (tree_eq (p a).left) (sym (same_Some (x 0) old there)))
none_in_variable (k ∷ place) old there is = none-some old there

none_under_f : (t : Tree) → HasNone t → HasNone (f t)
none_under_f t none [] old there is = true≢false (ap (tree_eq (p a).left) is ∙ ap (tree_eq (p a).left) (sym (same_Some (f t) old there)))
none_under_f t none (zero ∷ place) old there is = none place old there is
none_under_f t none (suc k ∷ place) old there is = none-some old there

pub none_under_p : (t : Tree) → tree_eq a t ≡ false → HasNone t → HasNone (p t).left
none_under_p t differs none [] old there is =
    true≢false
    (ap (tree_eq (p a).left) is ∙ ap (tree_eq (p a).left) (sym (same_Some (p t).left old there)) ∙ ap (λ same. same && true) differs)
none_under_p t differs none (zero ∷ place) old there is = none place old there is
none_under_p t differs none (suc k ∷ place) old there is = none-some old there

-- p(a) rewrites no literal without it
pub no_rewriting :
    (c d : TreeClause) → ((n : ℕ) (l : TreeLiteral) → slice_get c.literals n ≡ Some l → HasNone l.left × HasNone l.right)
    → RewritesBy is_predicate (clause (p a ∷ [])) c d → ⊥
no_rewriting c d none w =
    let unit_is : p a ≡ w.equation = ap (λ ls. slice_index_or ls 0 (p a)) w.is_unit in
    by w.from_side w.into_side w.old_there
    (ap (λ (l : TreeLiteral). instance w.matcher (side_of w.from_side l)) unit_is ∙ w.matches)
    (ap (λ (l : TreeLiteral). tree_greater w.old (instance w.matcher (other_side_of w.from_side l))) unit_is ∙ w.greater)
  where
    by :
        (s z : Side) → subterm w.place (side_of z w.literal) ≡ Some w.old → instance w.matcher (side_of s (p a)) ≡ w.old
        → tree_greater w.old (instance w.matcher (other_side_of s (p a))) ≡ true → ⊥
    by Left Left there is greater = (none w.j w.literal w.literal_there).0 w.place w.old there is
    by Left Right there is greater = (none w.j w.literal w.literal_there).1 w.place w.old there is
    by Right z there is greater = true≢false (sym greater ∙ ap (λ t. tree_greater t (p a).left) (sym is))

-- nor does it cut one that its complement isn't
pub no_cutting :
    (c d : TreeClause) → ((n : ℕ) (l : TreeLiteral) → slice_get c.literals n ≡ Some l → equivalent_literals (not_p a) l ≡ false)
    → CutsBy is_predicate (clause (p a ∷ [])) c d → ⊥
no_cutting c d none w =
    let unit_is : p a ≡ w.unit_literal = ap (λ ls. slice_index_or ls 0 (p a)) w.is_unit in
    true≢false
    (sym w.matches
    ∙ ap (λ (l : TreeLiteral). equivalent_literals (literal_instance w.matcher (complement l)) w.literal) (sym unit_is)
    ∙ none w.j w.literal w.literal_there)

-- the implication is no unit
no_unit : (l : TreeLiteral) → implication ≡ l ∷ [] → ⊥
no_unit l is = none-some (p (f (x 0))) (sym (ap (λ ls. slice_get ls 1) is))

-- ---- p(f(a)) is irreducible

abbrev result : TreeLiteral
result = p (f a)

two_places : (l m k : TreeLiteral) (i j : ℕ) → slice_get (l ∷ []) i ≡ Some m → slice_get (l ∷ []) j ≡ Some k → (i == j) ≡ false → ⊥
two_places l m k zero zero at_i at_j differ = true≢false differ
two_places l m k zero (suc j) at_i at_j differ = none-some k at_j
two_places l m k (suc i) j at_i at_j differ = none-some m at_i

only : (l m : TreeLiteral) (k : ℕ) → slice_get (l ∷ []) k ≡ Some m → l ≡ m
only l m zero there = same_Some l m there
only l m (suc k) there = absurd (none-some m there)

-- what holds of both told clauses holds of each
each_told : (P : TreeClause → Type 0) → P (clause (p a ∷ [])) → P (clause implication) → (n : ℕ) (c : TreeClause) → told n ≡ Some c → P c
each_told P unit other zero c there = subst P (same_Some (clause (p a ∷ [])) c there) unit
each_told P unit other (suc zero) c there = subst P (same_Some (clause implication) c there) other
each_told P unit other (suc (suc n)) c there =
    absurd (none-some c (sym (none-when (is_told job (suc (suc n))) (registered (suc (suc n))) refl) ∙ there))

result_literals : (n : ℕ) (l : TreeLiteral) → slice_get (result ∷ []) n ≡ Some l → HasNone l.left × HasNone l.right
result_literals n l there =
    subst (λ (k : TreeLiteral). HasNone k.left × HasNone k.right) (only result l n there)
    (none_under_p (f a) refl (none_under_f a none_in_a), none_in_truth)

result_uncut : (n : ℕ) (l : TreeLiteral) → slice_get (result ∷ []) n ≡ Some l → equivalent_literals (not_p a) l ≡ false
result_uncut n l there = subst (λ (k : TreeLiteral). equivalent_literals (not_p a) k ≡ false) (only result l n there) refl

not_there : (k : ℕ) → is_there (p a) (slice_get (result ∷ []) k) ≡ false
not_there zero = refl
not_there (suc k) = refl

denial_not_there : (σ : Substitution) (k : ℕ) → is_there (literal_instance σ (not_p (x 0))) (slice_get (result ∷ []) k) ≡ false
denial_not_there σ zero = refl
denial_not_there σ (suc k) = refl

-- a first literal that stands nowhere subsumes nothing
pub no_subsuming :
    (l : TreeLiteral) (ls ks : List TreeLiteral)
    → ((σ : Substitution) (k : ℕ) → is_there (literal_instance σ l) (slice_get ks k) ≡ false) → Subsumes is_predicate (clause (l ∷ ls)) (clause ks) → ⊥
no_subsuming l ls ks none s = by s.places s.mapped
  where
    by : (places : List ℕ) → stand_at s.matcher (l ∷ ls) places ks ≡ true → ⊥
    by [] mapped = true≢false (sym mapped)
    by (k ∷ places) mapped =
        true≢false
        (sym (and_parts (is_there (literal_instance s.matcher l) (slice_get ks k)) (stand_at s.matcher ls places ks) mapped).0 ∙ none s.matcher k)

no_step : (d : TreeClause) → Reduces is_predicate (IsMember (is_told job) registered) (clause (result ∷ [])) d → ⊥
no_step d (inl trivial) =
    let parts = resolved-parts (result ∷ []) trivial.i d.literals trivial.gives in
    true≢false (ap (λ (l : TreeLiteral). l.positive) (only result parts.literal trivial.i parts.literal_there) ∙ parts.negative)
no_step d (inr (inl equal)) =
    let parts = merged-parts (result ∷ []) equal.stays equal.goes d.literals equal.gives in
    two_places result parts.literal_i parts.literal_j equal.stays equal.goes parts.i_there parts.j_there parts.differ
no_step d (inr (inr (inl w))) =
    each_told (λ (u : TreeClause). RewritesBy is_predicate u (clause (result ∷ [])) d → ⊥)
    (no_rewriting (clause (result ∷ [])) d result_literals) (λ by. no_unit by.equation by.is_unit) w.holds.0 w.clause w.holds.1 w.does
no_step d (inr (inr (inr w))) =
    each_told (λ (u : TreeClause). CutsBy is_predicate u (clause (result ∷ [])) d → ⊥)
    (no_cutting (clause (result ∷ [])) d result_uncut) (λ by. no_unit by.unit_literal by.is_unit) w.holds.0 w.clause w.holds.1 w.does

irreducible : IsReduced is_predicate origin.options registered job (clause (result ∷ []))
irreducible = record {
  no_step = no_step;
  no_tautology = refl;
  not_subsumed = λ s.
      each_told (λ (u : TreeClause). Subsumes is_predicate u (clause (result ∷ [])) → ⊥)
      (no_subsuming (p a) [] (result ∷ []) (λ σ. not_there))
      (no_subsuming (not_p (x 0)) (p (f (x 0)) ∷ []) (result ∷ []) denial_not_there) s.holds.0 s.clause s.holds.1 s.does;
}

-- ---- and so is the implication

is-unit : (d : TreeClause) (n : ℕ) → among (is_told_beside job 1) registered n ≡ Some d → clause (p a ∷ []) ≡ d
is-unit d zero there = same_Some (clause (p a ∷ [])) d there
is-unit d (suc zero) there = absurd (none-some d there)
is-unit d (suc (suc n)) there =
    absurd (none-some d (sym (none-when (is_told_beside job 1 (suc (suc n))) (registered (suc (suc n))) refl) ∙ there))

-- what holds of two literals holds of each
pub each_of_two :
    (l m : TreeLiteral) (P : TreeLiteral → Type 0) → P l → P m → (n : ℕ) (k : TreeLiteral) → slice_get (l ∷ m ∷ []) n ≡ Some k → P k
each_of_two l m P one other zero k there = subst P (same_Some l k there) one
each_of_two l m P one other (suc zero) k there = subst P (same_Some m k there) other
each_of_two l m P one other (suc (suc n)) k there = absurd (none-some k there)

-- two literals that aren't the same aren't merged
pub none_merged :
    (l m : TreeLiteral) → equivalent_literals l m ≡ false → equivalent_literals m l ≡ false
    → (i j : ℕ) (k o : TreeLiteral)
    → slice_get (l ∷ m ∷ []) i ≡ Some k → slice_get (l ∷ m ∷ []) j ≡ Some o → (i == j) ≡ false → equivalent_literals k o ≡ true → ⊥
none_merged l m one other zero zero k o at_i at_j differ same = true≢false differ
none_merged l m one other zero (suc zero) k o at_i at_j differ same =
    true≢false
    (sym same ∙ ap (λ n. equivalent_literals n o) (sym (same_Some l k at_i)) ∙ ap (equivalent_literals l) (sym (same_Some m o at_j)) ∙ one)
none_merged l m one other zero (suc (suc j)) k o at_i at_j differ same = none-some o at_j
none_merged l m one other (suc zero) zero k o at_i at_j differ same =
    true≢false
    (sym same ∙ ap (λ n. equivalent_literals n o) (sym (same_Some m k at_i)) ∙ ap (equivalent_literals m) (sym (same_Some l o at_j)) ∙ other)
none_merged l m one other (suc zero) (suc zero) k o at_i at_j differ same = true≢false differ
none_merged l m one other (suc zero) (suc (suc j)) k o at_i at_j differ same = none-some o at_j
none_merged l m one other (suc (suc i)) j k o at_i at_j differ same = none-some k at_i

not_in_implication : (k : ℕ) → is_there (p a) (slice_get implication k) ≡ false
not_in_implication zero = refl
not_in_implication (suc zero) = refl
not_in_implication (suc (suc k)) = refl

no_step_of_implication : (d : TreeClause) → Reduces is_predicate (IsMember (is_told_beside job 1) registered) (clause implication) d → ⊥
no_step_of_implication d (inl trivial) =
    let parts = resolved-parts implication trivial.i d.literals trivial.gives in
    each_of_two (not_p (x 0)) (p (f (x 0))) (λ (l : TreeLiteral). l.positive ≡ false → l.left ≡ l.right → ⊥)
    (λ negative same. true≢false (ap (tree_eq (p (x 0)).left) same))
    (λ negative same. true≢false negative) trivial.i parts.literal parts.literal_there parts.negative parts.same
no_step_of_implication d (inr (inl equal)) =
    let parts = merged-parts implication equal.stays equal.goes d.literals equal.gives in
    none_merged (not_p (x 0)) (p (f (x 0))) refl refl equal.stays equal.goes parts.literal_i parts.literal_j parts.i_there parts.j_there parts.differ parts.same
no_step_of_implication d (inr (inr (inl w))) =
    no_rewriting (clause implication) d
    (each_of_two (not_p (x 0)) (p (f (x 0))) (λ (l : TreeLiteral). HasNone l.left × HasNone l.right)
    (none_under_p (x 0) refl none_in_variable, none_in_truth)
    (none_under_p (f (x 0)) refl (none_under_f (x 0) none_in_variable), none_in_truth))
    (subst (λ (u : TreeClause). RewritesBy is_predicate u (clause implication) d) (sym (is-unit w.clause w.holds.0 w.holds.1)) w.does)
no_step_of_implication d (inr (inr (inr w))) =
    no_cutting (clause implication) d (each_of_two (not_p (x 0)) (p (f (x 0))) (λ (l : TreeLiteral). equivalent_literals (not_p a) l ≡ false) refl refl)
    (subst (λ (u : TreeClause). CutsBy is_predicate u (clause implication) d) (sym (is-unit w.clause w.holds.0 w.holds.1)) w.does)

given_irreducible : IsReducedBeside is_predicate origin.options registered job 1 (clause implication)
given_irreducible = record {
  no_step = no_step_of_implication;
  no_tautology = refl;
  not_subsumed = λ s.
      no_subsuming (p a) [] implication (λ σ. not_in_implication)
      (subst (λ (u : TreeClause). Subsumes is_predicate u (clause implication)) (sym (is-unit s.clause s.holds.0 s.holds.1)) s.does);
}

-- ---- the history is lawful

right_entry : IsRightFate is_predicate origin.options registered job (at_roots 0 1) one_step.fate
right_entry = record {
  first = superposed_line;
  others = resolved_line ∷ [];
  begins = refl;
  of_key = refl;
  inferred = inferred;
  are_lines = are_lines;
  moves = record { by = None; gives = clause (result ∷ []) } ∷ [];
  result = clause (result ∷ []);
  reduced =
      record {
        moved = (record { result = clause (result ∷ []); step = inl (record { i = 0; gives = refl; names = refl }); canonical = refl }, tt);
        ends = refl;
        led = refl;
      };
  irreducible = irreducible;
  given = refl;
}

-- it stops early, as one inference is all that may be counted
meeting : IsRightMeeting is_predicate origin.options registered job (one_step ∷ []) []
meeting = record {
  given_irreducible = record { clause = clause implication; there = refl; infers = given_irreducible };
  keys_differ = λ i j d before within. absurd (omega (arith, before, within));
  keys_met = refl;
  right_entries =
      All-cons (λ (e : Entry). IsRightFate is_predicate origin.options registered job e.key e.fate) one_step [] right_entry (All-nil _);
  others_removed = refl;
  right_removals = All-nil _;
  whole = inl (omega arith);
}

pub step_met : IsLawful is_predicate origin (event.Claim 1 ∷ event.Claim 2 ∷ return 2 (work.Met (one_step ∷ []) []) ∷ [])
step_met = (
  ((refl, refl), refl, refl),
  (((refl, refl), refl, refl), (record { given = job; out = refl; says = (refl, refl, meeting) }, tt)),
)
