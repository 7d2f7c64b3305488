-- A worked batch with an entry whose result is handed back in two parts: X0 != a or p(X0) or q(X0), where it is the only clause, resolves to
-- p(a) or q(a). Handed back whole it isn't right.
use Rattle.std.proofs.Common.{◌≡◌, ℕ, zero, suc, Bool, true, false, ◌&&◌, ◌==◌, List, [], ◌∷◌, length, None, Some, refl, sym, ap, ap₂, ◌∙◌, subst, inl, inr, arith, lit<}
use Rattle.std.specs.Prelude.{slice_get, take, IsTrue, if◌then◌else◌, Contains}
use Rattle.std.proofs.lemmas.Bool.{true≢false, and_parts, and_from}
use Rattle.std.proofs.lemmas.Option.{none-some, same_Some}
use Rattle.std.proofs.lemmas.List.Elements.{All-nil, All-cons}
use Rattle.fol_base.specs.Tree.{tree_eq, true_tree}
use Rattle.fol_base.specs.Instance.{Substitution}
use Rattle.fol_base.specs.Clause.{TreeLiteral, TreeClause, literal_instance}
use Rattle.fol_base.specs.Ground.{literals_instance}
use Rattle.fol_base.specs.Literal.{clause_of}
use Rattle.fol_base.specs.Order.{equivalent_literals}
use Rattle.fol_base.specs.Rules.{disequation}
use Rattle.fol_base.specs.Selection.{select_negative, chosen}
use Rattle.fol_base.specs.Subsumption.{Subsumes, is_there}
use Rattle.fol_base.specs.Examples.{x, a, p, q, clause, is_predicate, first_is_a}
use Rattle.fol_base.proofs.WorkedExamples.MatchingExamples.{first_is_a_general}
use Rattle.fol_base.proofs.AboutClauses.RuleLemmas.{resolved-parts, merged-parts}
use Rattle.kernel_steps.specs.Conclusion.{verdict, concludes}
use Rattle.kernel_steps.specs.Derivation.{continued}
use Rattle.kernel_steps.specs.Inference.{NamedResolution, Reduces, IsIrreducible}
use Rattle.kernel_steps.specs.Lines.{clause_parents, IsNumbered}
use Rattle.kernel_steps.specs.Named.{IsInference}
use Rattle.kernel_steps.specs.Sized.{IsSizedInference}
use Rattle.kernel_steps.specs.Symbols.{symbols_pass, clause_symbols_pass}
use Rattle.kernel_steps.specs.declared.key.Key.{Key}
use Rattle.kernel_steps.specs.declared.key.Key.TheVariants.{Para, Refl, Factor, Replaced}
use Rattle.kernel_steps.specs.declared.step.Step.TheVariants as step
use Rattle.kernel_steps.specs.declared.step.TheConstants.{CLAUSE_NUMBERS}
use Rattle.kernel_steps.specs.declared.step.Line.{Line}
use Rattle.laws_calculus.specs.Lifting.{among, IsMember}
use Rattle.pool_history.specs.Record.{GivenJob, clauses_of}
use Rattle.kernel_steps.specs.FromTrees.{line_of}
use Rattle.pool_history.specs.Reduction.{Lookup, AreLinesFrom, handed_back}
use Rattle.pool_history.specs.Batches.{is_told, is_told_beside, told_clauses, IsReduced, IsRightFate, IsRightMeeting}
use Rattle.pool_history.specs.Lawful.{IsLawful}
use Rattle.pool_history.specs.Replay.{start}
use Rattle.laws_pool_examples.specs.Examples.{parting, parting_resolved, return}
use Rattle.laws_pool_examples.proofs.WorkedExamples.MeetingExample.{no_other, none-when}
use Rattle.laws_pool_examples.proofs.WorkedExamples.ReturnExamples.{said_of}
use Rattle.laws_pool_examples.proofs.WorkedExamples.SteppingExample.{no_subsuming, none_merged}
use Rattle.pool_history.specs.declared.batch.Entry.{Entry}
use Rattle.pool_history.specs.declared.batch.Work.TheVariants as work
use Rattle.pool_history.specs.declared.event.Event.TheVariants as event

abbrev denial : TreeLiteral
denial = disequation (x 0) a

abbrev given : List TreeLiteral
given = denial ∷ p (x 0) ∷ q (x 0) ∷ []

abbrev conclusion : List TreeLiteral
conclusion = p a ∷ q a ∷ []

abbrev parts : List TreeClause
parts = clause (p a ∷ []) ∷ clause (q a ∷ []) ∷ []

abbrev the_entry : Entry
the_entry = parting_resolved parts

abbrev registered : Lookup
registered = clauses_of (start parting)

-- the job on the clause, which was told it alone
abbrev job : GivenJob
job = record { job = 1; number = 0; told = 0 ∷ []; as_of = 1; left = 100 }

abbrev told : Lookup
told = told_clauses is_predicate parting.options registered job

abbrev the_line : Line
the_line = line_of (step.Refl 0 0 (a ∷ [])) (clause conclusion)

-- ---- the told clauses

only_told : (n : ℕ) (c : TreeClause) → told n ≡ Some c → clause given ≡ c
only_told zero c there = same_Some (clause given) c there
only_told (suc n) c there = absurd (none-some c (sym (none-when (is_told job (suc n)) (registered (suc n)) refl) ∙ there))

none_beside : (n : ℕ) → among (is_told_beside job 0) registered n ≡ None
none_beside n = ap (λ b. if b then registered n else None) (no_other (n == 0))

no_member : (d : TreeClause) → IsMember (is_told_beside job 0) registered d → ⊥
no_member d member = none-some d (sym (none_beside member.0) ∙ member.1)

-- ---- the clause is irreducible

-- literals that differ from those at two places
unlike : (k n l m : TreeLiteral) → k ≡ l → n ≡ m → equivalent_literals k n ≡ false → equivalent_literals l m ≡ true → ⊥
unlike k n l m left_is right_is differ same = true≢false (sym same ∙ sym (ap₂ equivalent_literals left_is right_is) ∙ differ)

given_not_trivial : (i : ℕ) (l : TreeLiteral) → slice_get given i ≡ Some l → l.positive ≡ false → l.left ≡ l.right → ⊥
given_not_trivial zero l at negative same =
    let is : denial ≡ l = same_Some denial l at in
    let sides : x 0 ≡ a = ap (λ (m : TreeLiteral). m.left) is ∙ same ∙ ap (λ (m : TreeLiteral). m.right) (sym is) in
    true≢false (ap (tree_eq a) (sym sides))
given_not_trivial (suc zero) l at negative same = true≢false (ap (λ (m : TreeLiteral). m.positive) (same_Some (p (x 0)) l at) ∙ negative)
given_not_trivial (suc (suc zero)) l at negative same =
    true≢false (ap (λ (m : TreeLiteral). m.positive) (same_Some (q (x 0)) l at) ∙ negative)
given_not_trivial (suc (suc (suc i))) l at negative same = none-some l at

given_not_equal :
    (i j : ℕ) (l m : TreeLiteral) → slice_get given i ≡ Some l → slice_get given j ≡ Some m → (i == j) ≡ false → equivalent_literals l m ≡ true → ⊥
given_not_equal zero zero l m at_l at_m differ same = true≢false differ
given_not_equal zero (suc zero) l m at_l at_m differ same = unlike denial (p (x 0)) l m (same_Some denial l at_l) (same_Some (p (x 0)) m at_m) refl same
given_not_equal zero (suc (suc zero)) l m at_l at_m differ same =
    unlike denial (q (x 0)) l m (same_Some denial l at_l) (same_Some (q (x 0)) m at_m) refl same
given_not_equal (suc zero) zero l m at_l at_m differ same = unlike (p (x 0)) denial l m (same_Some (p (x 0)) l at_l) (same_Some denial m at_m) refl same
given_not_equal (suc zero) (suc zero) l m at_l at_m differ same = true≢false differ
given_not_equal (suc zero) (suc (suc zero)) l m at_l at_m differ same =
    unlike (p (x 0)) (q (x 0)) l m (same_Some (p (x 0)) l at_l) (same_Some (q (x 0)) m at_m) refl same
given_not_equal (suc (suc zero)) zero l m at_l at_m differ same =
    unlike (q (x 0)) denial l m (same_Some (q (x 0)) l at_l) (same_Some denial m at_m) refl same
given_not_equal (suc (suc zero)) (suc zero) l m at_l at_m differ same =
    unlike (q (x 0)) (p (x 0)) l m (same_Some (q (x 0)) l at_l) (same_Some (p (x 0)) m at_m) refl same
given_not_equal (suc (suc zero)) (suc (suc zero)) l m at_l at_m differ same = true≢false differ
given_not_equal (suc (suc (suc i))) j l m at_l at_m differ same = none-some l at_l
given_not_equal i (suc (suc (suc j))) l m at_l at_m differ same = none-some m at_m

no_step : (d : TreeClause) → Reduces is_predicate (IsMember (is_told_beside job 0) registered) (clause given) d → ⊥
no_step d (inl trivial) =
    let made = resolved-parts given trivial.i d.literals trivial.gives in
    given_not_trivial trivial.i made.literal made.literal_there made.negative made.same
no_step d (inr (inl equal)) =
    let made = merged-parts given equal.stays equal.goes d.literals equal.gives in
    given_not_equal equal.stays equal.goes made.literal_i made.literal_j made.i_there made.j_there made.differ made.same
no_step d (inr (inr (inl rewriting))) = no_member rewriting.clause rewriting.holds
no_step d (inr (inr (inr cutting))) = no_member cutting.clause cutting.holds

irreducible : IsIrreducible is_predicate (IsMember (is_told_beside job 0) registered) (clause given)
irreducible = record {
  no_step = no_step;
  no_tautology = refl;
  not_subsumed = λ subsuming. no_member subsuming.clause subsuming.holds;
}

-- ---- and so is its conclusion, also by the clause itself

conclusion_positive : (i : ℕ) (l : TreeLiteral) → slice_get conclusion i ≡ Some l → l.positive ≡ false → ⊥
conclusion_positive zero l at negative = true≢false (ap (λ (m : TreeLiteral). m.positive) (same_Some (p a) l at) ∙ negative)
conclusion_positive (suc zero) l at negative = true≢false (ap (λ (m : TreeLiteral). m.positive) (same_Some (q a) l at) ∙ negative)
conclusion_positive (suc (suc i)) l at negative = none-some l at

no_unit : (n : ℕ) (c : TreeClause) (l : TreeLiteral) → told n ≡ Some c → c.literals ≡ l ∷ [] → ⊥
no_unit n c l there unit =
    let same : ◌≡◌ {A = ℕ} 3 1 = ap (λ (d : TreeClause). length d.literals) (only_told n c there) ∙ ap length unit in absurd (omega (arith, same))

no_step_of_conclusion : (d : TreeClause) → Reduces is_predicate (IsMember (is_told job) registered) (clause conclusion) d → ⊥
no_step_of_conclusion d (inl trivial) =
    let made = resolved-parts conclusion trivial.i d.literals trivial.gives in conclusion_positive trivial.i made.literal made.literal_there made.negative
no_step_of_conclusion d (inr (inl equal)) =
    let made = merged-parts conclusion equal.stays equal.goes d.literals equal.gives in
    none_merged (p a) (q a) refl refl equal.stays equal.goes made.literal_i made.literal_j made.i_there made.j_there made.differ made.same
no_step_of_conclusion d (inr (inr (inl rewriting))) =
    no_unit rewriting.holds.0 rewriting.clause rewriting.does.equation rewriting.holds.1 rewriting.does.is_unit
no_step_of_conclusion d (inr (inr (inr cutting))) =
    no_unit cutting.holds.0 cutting.clause cutting.does.unit_literal cutting.holds.1 cutting.does.is_unit

-- the disequation has no instance there
not_there : (σ : Substitution) (k : ℕ) → is_there (literal_instance σ denial) (slice_get conclusion k) ≡ false
not_there σ zero = refl
not_there σ (suc zero) = refl
not_there σ (suc (suc k)) = refl

conclusion_irreducible : IsReduced is_predicate parting.options registered job (clause conclusion)
conclusion_irreducible = record {
  no_step = no_step_of_conclusion;
  no_tautology = refl;
  not_subsumed = λ s.
      no_subsuming denial (p (x 0) ∷ q (x 0) ∷ []) conclusion not_there
      (subst (λ (c : TreeClause). Subsumes is_predicate c (clause conclusion)) (sym (only_told s.holds.0 s.clause s.holds.1)) s.does);
}

-- ---- the entry

-- what the clause's symbols pass, the conclusion's pass
module _ (test : ℕ → ℕ → Bool) (passes : IsTrue (clause_symbols_pass test (clause given))) where
  after_denial : IsTrue (symbols_pass test a) × IsTrue (clause_symbols_pass test (clause (p (x 0) ∷ q (x 0) ∷ [])))
  after_denial = and_parts (symbols_pass test a) (clause_symbols_pass test (clause (p (x 0) ∷ q (x 0) ∷ []))) passes

  of_literals :
      IsTrue ((test 6 1 && true) && symbols_pass test true_tree) × IsTrue (((test 7 1 && true) && symbols_pass test true_tree) && true)
  of_literals =
      and_parts ((test 6 1 && true) && symbols_pass test true_tree) (((test 7 1 && true) && symbols_pass test true_tree) && true) after_denial.1

  -- a predicate with the argument a
  with_a : (symbol : ℕ) → IsTrue ((test symbol 1 && true) && symbols_pass test true_tree) → IsTrue ((test symbol 1 && (symbols_pass test a && true)) && symbols_pass test true_tree)
  with_a symbol atom =
      let sides = and_parts (test symbol 1 && true) (symbols_pass test true_tree) atom in
      and_from (test symbol 1 && (symbols_pass test a && true)) (symbols_pass test true_tree)
      (and_from (test symbol 1) (symbols_pass test a && true) (and_parts (test symbol 1) true sides.0).0
      (and_from (symbols_pass test a) true after_denial.0 refl))
      sides.1

  conclusion_passes : IsTrue (clause_symbols_pass test (clause conclusion))
  conclusion_passes =
      and_from ((test 6 1 && (symbols_pass test a && true)) && symbols_pass test true_tree)
      (((test 7 1 && (symbols_pass test a && true)) && symbols_pass test true_tree) && true)
      (with_a 6 of_literals.0)
      (and_from ((test 7 1 && (symbols_pass test a && true)) && symbols_pass test true_tree) true
      (with_a 7 (and_parts ((test 7 1 && true) && symbols_pass test true_tree) true of_literals.1).0) refl)

are_lines : AreLinesFrom is_predicate told (the_line ∷ [])
are_lines = record {
  lines_right =
      record {
        kinds = refl;
        steps = steps;
        numbered = All-cons IsNumbered the_line [] (record { canonical = refl; bindings = refl }) (All-nil _);
        terms = refl;
        small = refl;
      };
  symbols = λ test truth each. (
    and_from (clause_symbols_pass test (clause conclusion)) true (conclusion_passes test (each 0 (clause given) refl)) refl,
    and_from (symbols_pass test a && true && true) true
        (and_from (symbols_pass test a && true) true (and_from (symbols_pass test a) true (after_denial test (each 0 (clause given) refl)).0 refl) refl) refl,
  );
}
  where
    steps :
        (n : ℕ) (l : Line) → slice_get (the_line ∷ []) n ≡ Some l
        → verdict l.step (continued CLAUSE_NUMBERS (clause_parents told) (take n (the_line ∷ []))) ≡ concludes (clause_of l.clause)
    steps zero l there =
        subst (λ (k : Line). verdict k.step (continued CLAUSE_NUMBERS (clause_parents told) []) ≡ concludes (clause_of k.clause))
        (same_Some the_line l there) refl
    steps (suc n) l there = absurd (none-some l there)

-- the unifier puts a for X0
abbrev resolving : NamedResolution select_negative (clause given) 0 (clause conclusion)
resolving = record {
  literal = denial;
  literal_there = refl;
  unifier = first_is_a;
  most_general = first_is_a_general;
  is_eligible = refl;
  concludes = refl;
  names = refl;
}

resolution : IsSizedInference is_predicate select_negative told (Refl 0 0) (clause conclusion) false
resolution = record { clause = clause given; there = refl; infers = record { named = resolving; size = refl } }

right_entry : IsRightFate is_predicate parting.options registered job (Refl 0 0) the_entry.fate
right_entry = record {
  first = the_line;
  others = [];
  begins = refl;
  of_key = refl;
  inferred = resolution;
  are_lines = are_lines;
  moves = [];
  result = clause conclusion;
  reduced = record { moved = tt; ends = refl; led = refl };
  irreducible = conclusion_irreducible;
  given = refl;
}

-- ---- there is no other inference

abbrev the_keys : List Key
the_keys = Refl 0 0 ∷ []

no_positive : (l : TreeLiteral) (m : TreeLiteral) → l.positive ≡ true → l ≡ m → m.positive ≡ false → ⊥
no_positive l m positive is negative = true≢false (sym positive ∙ ap (λ (k : TreeLiteral). k.positive) is ∙ negative)

of_place : (i : ℕ) (d : TreeClause) → NamedResolution select_negative (clause given) i d → Contains the_keys (Refl 0 i)
of_place zero d n = (0, lit< tt, refl)
of_place (suc zero) d n =
    let made = resolved-parts (literals_instance n.unifier given) 1 d.literals n.concludes in
    absurd
    (no_positive (literal_instance n.unifier (p (x 0))) made.literal refl
    (same_Some (literal_instance n.unifier (p (x 0))) made.literal made.literal_there) made.negative)
of_place (suc (suc zero)) d n =
    let made = resolved-parts (literals_instance n.unifier given) 2 d.literals n.concludes in
    absurd
    (no_positive (literal_instance n.unifier (q (x 0))) made.literal refl
    (same_Some (literal_instance n.unifier (q (x 0))) made.literal made.literal_there) made.negative)
of_place (suc (suc (suc i))) d n = absurd (none-some n.literal n.literal_there)

of_clause : (k i : ℕ) (c d : TreeClause) → told k ≡ Some c → NamedResolution select_negative c i d → Contains the_keys (Refl k i)
of_clause zero i c d there n = of_place i d (subst (λ (e : TreeClause). NamedResolution select_negative e i d) (sym (only_told zero c there)) n)
of_clause (suc k) i c d there n = absurd (none-some c (sym (none-when (is_told job (suc k)) (registered (suc k)) refl) ∙ there))

-- a literal of each clause is chosen
some_chosen : (n : ℕ) (c : TreeClause) → told n ≡ Some c → chosen select_negative c.literals ≡ None → ⊥
some_chosen n c there nothing =
    none-some 0 (sym nothing ∙ ap (λ (d : TreeClause). chosen select_negative d.literals) (sym (only_told n c there)))

only_key : (key : Key) (c : TreeClause) → IsInference is_predicate select_negative told key c → Contains the_keys key
only_key (Para first from s second into z place) d it =
    absurd (some_chosen first it.first_clause it.first_there it.infers.from_eligible.nothing_chosen)
only_key (Refl k i) d it = of_clause k i it.clause d it.there it.infers
only_key (Factor k i s j z) d it = absurd (some_chosen k it.clause it.there it.infers.i_eligible.nothing_chosen)
only_key (Replaced k) d it = absurd it

-- ---- the history is lawful

meeting : IsRightMeeting is_predicate parting.options registered job (the_entry ∷ []) []
meeting = record {
  given_irreducible = record { clause = clause given; there = refl; infers = irreducible };
  keys_differ = λ i j d before within. absurd (omega (arith, before, within));
  keys_met = refl;
  right_entries =
      All-cons (λ (e : Entry). IsRightFate is_predicate parting.options registered job e.key e.fate) the_entry [] right_entry (All-nil _);
  others_removed = refl;
  right_removals = All-nil _;
  whole =
      inr (
        λ key c met named. only_key key c named,
        λ n by c there given simplifies. absurd (none-some c (sym (none_beside n) ∙ there)),
      );
}

pub falls_apart : IsLawful is_predicate parting (event.Claim 1 ∷ return 1 (work.Met (parting_resolved parts ∷ []) []) ∷ [])
falls_apart = (
  ((refl, refl), refl, refl),
  (record { given = job; out = refl; says = (refl, refl, meeting) }, tt),
)

-- ---- handed back whole it isn't

pub whole_entry :
    IsLawful is_predicate parting (event.Claim 1 ∷ return 1 (work.Met (parting_resolved (clause conclusion ∷ []) ∷ []) []) ∷ []) → ⊥
whole_entry h =
    let right = (said_of _ 1 _ job refl h.1.0).2.right_entries 0 (parting_resolved (clause conclusion ∷ [])) (lit< tt) in
    let led : clause conclusion ≡ right.result = same_Some (clause conclusion) right.result right.reduced.led in
    let same : ◌≡◌ {A = ℕ} 1 2 = ap (λ (cs : List TreeClause). length cs) (right.given ∙ ap (handed_back true) (sym led)) in
    absurd (omega (arith, same))
