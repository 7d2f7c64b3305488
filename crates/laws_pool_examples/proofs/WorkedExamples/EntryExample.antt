-- A worked batch with an entry: X0 != a, where it is the only clause, resolves to the empty clause. Without that entry, or with it twice, a
-- batch isn't right; nor is one that leaves out the inference of two partners.
use Rattle.std.proofs.Common.{◌≡◌, ◌≤◌, ℕ, zero, suc, true, false, ◌&&◌, ◌==◌, List, [], ◌∷◌, None, Some, refl, sym, ap, ◌∙◌, subst, inl, inr, arith, lit<}
use Rattle.std.specs.Prelude.{slice_get, take, IsTrue, if◌then◌else◌, Contains}
use Rattle.std.proofs.lemmas.Bool.{true≢false, and_parts, and_from}
use Rattle.std.proofs.lemmas.Option.{none-some, same_Some}
use Rattle.std.proofs.lemmas.List.Elements.{All-nil, All-cons}
use Rattle.fol_base.specs.Tree.{tree_eq}
use Rattle.fol_base.specs.Clause.{TreeLiteral, TreeClause}
use Rattle.fol_base.specs.Literal.{clause_of}
use Rattle.fol_base.specs.Rules.{disequation}
use Rattle.fol_base.specs.Selection.{select_negative, chosen}
use Rattle.fol_base.specs.Subsumption.{Subsumes, stand_at}
use Rattle.fol_base.specs.Examples.{x, a, p, q, clause, is_predicate, first_is_a}
use Rattle.fol_base.proofs.WorkedExamples.MatchingExamples.{first_is_a_general}
use Rattle.fol_base.proofs.AboutClauses.RuleLemmas.{resolved-parts, merged-parts}
use Rattle.kernel_steps.specs.Conclusion.{verdict, concludes}
use Rattle.kernel_steps.specs.Derivation.{continued}
use Rattle.kernel_steps.specs.Examples.{not_p, not_true}
use Rattle.kernel_steps.specs.Inference.{NamedResolution, Reduces, IsIrreducible}
use Rattle.kernel_steps.specs.Lines.{clause_parents, IsNumbered}
use Rattle.kernel_steps.specs.Named.{IsInference}
use Rattle.kernel_steps.specs.Sized.{IsSizedInference}
use Rattle.kernel_steps.specs.Symbols.{symbols_pass}
use Rattle.kernel_steps.specs.declared.key.Key.{Key}
use Rattle.kernel_steps.specs.declared.key.Key.TheVariants.{Para, Refl, Factor, Replaced}
use Rattle.kernel_steps.specs.declared.step.Step.TheVariants as step
use Rattle.kernel_steps.specs.declared.step.TheConstants.{CLAUSE_NUMBERS}
use Rattle.kernel_steps.specs.declared.step.Line.{Line}
use Rattle.kernel_steps.proofs.WorkedExamples.SuperpositionExamples.{superposition}
use Rattle.literal_selection.specs.Mode.{mode_of}
use Rattle.laws_calculus.specs.Lifting.{among, IsMember}
use Rattle.pool_history.specs.Record.{GivenJob, clauses_of}
use Rattle.kernel_steps.specs.FromTrees.{line_of}
use Rattle.pool_history.specs.Reduction.{Lookup, AreLinesFrom}
use Rattle.pool_history.specs.Batches.{is_told, is_told_beside, told_clauses, IsReduced, IsRightFate, IsRightMeeting, is_to_meet}
use Rattle.pool_history.specs.Lawful.{IsLawful}
use Rattle.pool_history.specs.Replay.{Origin, start}
use Rattle.laws_pool_examples.specs.Examples.{unequal, unequal_resolved, partners, at_roots, return}
use Rattle.laws_pool_examples.proofs.WorkedExamples.MeetingExample.{no_other, none-when}
use Rattle.pool_history.specs.declared.batch.Entry.{Entry}
use Rattle.pool_history.specs.declared.batch.Work.TheVariants as work
use Rattle.pool_history.specs.declared.event.Event.TheVariants as event

abbrev literal : TreeLiteral
literal = disequation (x 0) a

abbrev the_clause : TreeClause
the_clause = clause (literal ∷ [])

abbrev registered : Lookup
registered = clauses_of (start unequal)

-- the job on X0 != a, which was told it alone
abbrev job : GivenJob
job = record { job = 1; number = 0; told = 0 ∷ []; as_of = 1; left = 100 }

abbrev told : Lookup
told = told_clauses is_predicate unequal.options registered job

abbrev the_line : Line
the_line = line_of (step.Refl 0 0 (a ∷ [])) (clause [])

-- ---- the told clauses

only_told : (n : ℕ) (c : TreeClause) → told n ≡ Some c → the_clause ≡ c
only_told zero c there = same_Some the_clause c there
only_told (suc n) c there = absurd (none-some c (sym (none-when (is_told job (suc n)) (registered (suc n)) refl) ∙ there))

none_beside : (n : ℕ) → among (is_told_beside job 0) registered n ≡ None
none_beside n = ap (λ b. if b then registered n else None) (no_other (n == 0))

no_member : (d : TreeClause) → IsMember (is_told_beside job 0) registered d → ⊥
no_member d member = none-some d (sym (none_beside member.0) ∙ member.1)

-- ---- X0 != a is irreducible

only : (l : TreeLiteral) (k : ℕ) → slice_get (literal ∷ []) k ≡ Some l → literal ≡ l
only l zero there = same_Some literal l there
only l (suc k) there = absurd (none-some l there)

two_places : (i j : ℕ) (l m : TreeLiteral) → slice_get (literal ∷ []) i ≡ Some l → slice_get (literal ∷ []) j ≡ Some m → (i == j) ≡ false → ⊥
two_places zero zero l m at_i at_j differ = true≢false differ
two_places zero (suc j) l m at_i at_j differ = absurd (none-some m at_j)
two_places (suc i) j l m at_i at_j differ = absurd (none-some l at_i)

no_step : (d : TreeClause) → Reduces is_predicate (IsMember (is_told_beside job 0) registered) the_clause d → ⊥
no_step d (inl trivial) =
    let parts = resolved-parts (literal ∷ []) trivial.i d.literals trivial.gives in
    let is : literal ≡ parts.literal = only parts.literal trivial.i parts.literal_there in
    let sides : x 0 ≡ a = ap (λ (l : TreeLiteral). l.left) is ∙ parts.same ∙ ap (λ (l : TreeLiteral). l.right) (sym is) in
    true≢false (ap (tree_eq a) (sym sides))
no_step d (inr (inl equal)) =
    let parts = merged-parts (literal ∷ []) equal.stays equal.goes d.literals equal.gives in
    two_places equal.stays equal.goes parts.literal_i parts.literal_j parts.i_there parts.j_there parts.differ
no_step d (inr (inr (inl rewriting))) = no_member rewriting.clause rewriting.holds
no_step d (inr (inr (inr cutting))) = no_member cutting.clause cutting.holds

irreducible : IsIrreducible is_predicate (IsMember (is_told_beside job 0) registered) the_clause
irreducible = record {
  no_step = no_step;
  no_tautology = refl;
  not_subsumed = λ subsuming. no_member subsuming.clause subsuming.holds;
}

-- ---- and so is the empty clause

abbrev empty : TreeClause
empty = clause []

pub no_subsuming : (l : TreeLiteral) (ls : List TreeLiteral) → Subsumes is_predicate (clause (l ∷ ls)) empty → ⊥
no_subsuming l ls s = by s.places s.mapped
  where
    by : (places : List ℕ) → stand_at s.matcher (l ∷ ls) places [] ≡ true → ⊥
    by [] mapped = true≢false (sym mapped)
    by (k ∷ ks) mapped = true≢false (sym mapped)

pub no_step_of_empty : (Holds : TreeClause → Type 0) (d : TreeClause) → Reduces is_predicate Holds empty d → ⊥
no_step_of_empty Holds d (inl trivial) =
    let parts = resolved-parts [] trivial.i d.literals trivial.gives in none-some parts.literal parts.literal_there
no_step_of_empty Holds d (inr (inl equal)) =
    let parts = merged-parts [] equal.stays equal.goes d.literals equal.gives in none-some parts.literal_i parts.i_there
no_step_of_empty Holds d (inr (inr (inl rewriting))) = none-some rewriting.does.literal rewriting.does.literal_there
no_step_of_empty Holds d (inr (inr (inr cutting))) = none-some cutting.does.literal cutting.does.literal_there

empty_irreducible : IsReduced is_predicate unequal.options registered job empty
empty_irreducible = record {
  no_step = no_step_of_empty (IsMember (is_told job) registered);
  no_tautology = refl;
  not_subsumed = λ s.
      no_subsuming literal []
      (subst (λ (c : TreeClause). Subsumes is_predicate c empty) (sym (only_told s.holds.0 s.clause s.holds.1)) s.does);
}

-- ---- the entry

are_lines : AreLinesFrom is_predicate told (the_line ∷ [])
are_lines = record {
  lines_right =
      record {
        kinds = refl;
        steps = steps;
        numbered = All-cons IsNumbered the_line [] (record { canonical = refl; bindings = refl }) (All-nil _);
        terms = refl;
        small = refl;
      };
  symbols = λ test truth each. (
    refl,
    let of_a : IsTrue (symbols_pass test a) = (and_parts (symbols_pass test a) true (each 0 the_clause refl)).0 in
        and_from (symbols_pass test a && true && true) true
        (and_from (symbols_pass test a && true) true (and_from (symbols_pass test a) true of_a refl) refl) refl,
  );
}
  where
    steps :
        (n : ℕ) (l : Line) → slice_get (the_line ∷ []) n ≡ Some l
        → verdict l.step (continued CLAUSE_NUMBERS (clause_parents told) (take n (the_line ∷ []))) ≡ concludes (clause_of l.clause)
    steps zero l there =
        subst (λ (k : Line). verdict k.step (continued CLAUSE_NUMBERS (clause_parents told) []) ≡ concludes (clause_of k.clause))
        (same_Some the_line l there) refl
    steps (suc n) l there = absurd (none-some l there)

-- the unifier puts a for X0
abbrev resolving : NamedResolution select_negative the_clause 0 empty
resolving = record {
  literal = literal;
  literal_there = refl;
  unifier = first_is_a;
  most_general = first_is_a_general;
  is_eligible = refl;
  concludes = refl;
  names = refl;
}

resolution : IsSizedInference is_predicate select_negative told (Refl 0 0) empty false
resolution = record { clause = the_clause; there = refl; infers = record { named = resolving; size = refl } }

right_entry : IsRightFate is_predicate unequal.options registered job (Refl 0 0) unequal_resolved.fate
right_entry = record {
  first = the_line;
  others = [];
  begins = refl;
  of_key = refl;
  inferred = resolution;
  are_lines = are_lines;
  moves = [];
  result = empty;
  reduced = record { moved = tt; ends = refl; led = refl };
  irreducible = empty_irreducible;
  given = refl;
}

-- ---- there is no other inference

abbrev the_keys : List Key
the_keys = Refl 0 0 ∷ []

first_of_them : Contains the_keys (Refl 0 0)
first_of_them = (0, lit< tt, refl)

of_place : (i : ℕ) (l : TreeLiteral) → slice_get (literal ∷ []) i ≡ Some l → Contains the_keys (Refl 0 i)
of_place zero l there = first_of_them
of_place (suc i) l there = absurd (none-some l there)

of_clause : (k i : ℕ) (c : TreeClause) (l : TreeLiteral) → told k ≡ Some c → slice_get c.literals i ≡ Some l → Contains the_keys (Refl k i)
of_clause zero i c l there at =
    of_place i l (ap (λ (d : TreeClause). slice_get d.literals i) (only_told zero c there) ∙ at)
of_clause (suc k) i c l there at =
    absurd (none-some c (sym (none-when (is_told job (suc k)) (registered (suc k)) refl) ∙ there))

-- a literal of each clause is chosen
some_chosen : (n : ℕ) (c : TreeClause) → told n ≡ Some c → chosen select_negative c.literals ≡ None → ⊥
some_chosen n c there nothing =
    none-some 0 (sym nothing ∙ ap (λ (d : TreeClause). chosen select_negative d.literals) (sym (only_told n c there)))

only_key : (key : Key) (c : TreeClause) → IsInference is_predicate select_negative told key c → Contains the_keys key
only_key (Para first from s second into z place) d it =
    absurd (some_chosen first it.first_clause it.first_there it.infers.from_eligible.nothing_chosen)
only_key (Refl k i) d it = of_clause k i it.clause it.infers.literal it.there it.infers.literal_there
only_key (Factor k i s j z) d it = absurd (some_chosen k it.clause it.there it.infers.i_eligible.nothing_chosen)
only_key (Replaced k) d it = absurd it

-- ---- the history is lawful

meeting : IsRightMeeting is_predicate unequal.options registered job (unequal_resolved ∷ []) []
meeting = record {
  given_irreducible = record { clause = the_clause; there = refl; infers = irreducible };
  keys_differ = λ i j d before within. absurd (omega (arith, before, within));
  keys_met = refl;
  right_entries =
      All-cons (λ (e : Entry). IsRightFate is_predicate unequal.options registered job e.key e.fate) unequal_resolved [] right_entry (All-nil _);
  others_removed = refl;
  right_removals = All-nil _;
  whole =
      inr (
        λ key c met named. only_key key c named,
        λ n by c there given simplifies. absurd (none-some c (sym (none_beside n) ∙ there)),
      );
}

pub met : IsLawful is_predicate unequal (event.Claim 1 ∷ return 1 (work.Met (unequal_resolved ∷ []) []) ∷ [])
met = (
  ((refl, refl), refl, refl),
  (record { given = job; out = refl; says = (refl, refl, meeting) }, tt),
)

-- ---- batches that aren't right

none_contained : (key : Key) → Contains [] key → ⊥
none_contained key h = absurd (omega (arith, h.1))

-- without entries no inference is met, as long as any may be counted
nothing_met :
    (origin : Origin) (j : GivenJob) (key : Key) (c : TreeClause)
    → let clauses = clauses_of (start origin) in
    IsRightMeeting is_predicate origin.options clauses j [] [] → j.left ≡ 100 → IsTrue (is_to_meet is_predicate origin.options clauses j key)
    → IsInference is_predicate (mode_of origin.options.select) (told_clauses is_predicate origin.options clauses j) key c → ⊥
nothing_met origin j key c right left met named =
    elim right.whole as (λ o. ⊥) [
      | inl few ↦ (let none : 100 ≤ 0 = subst (λ n. n ≤ 0) left few in absurd (omega (arith, none)))
      | inr all ↦ none_contained key (all.0 key c met named)
    ]

pub itself_left_out : IsLawful is_predicate unequal (event.Claim 1 ∷ return 1 (work.Met [] []) ∷ []) → ⊥
itself_left_out h =
    let given : GivenJob = h.1.0.given in
    let is : job ≡ given = same_Some job given h.1.0.out in
    nothing_met unequal job (Refl 0 0) empty
    (subst (λ (j : GivenJob). IsRightMeeting is_predicate unequal.options registered j [] []) (sym is) h.1.0.says.2) refl refl
    (record { clause = the_clause; there = refl; infers = resolving })

-- the job on p(X0) implies q(X0), which was told p(a) too
abbrev second_job : GivenJob
second_job = record { job = 2; number = 1; told = 0 ∷ 1 ∷ []; as_of = 2; left = 100 }

pub partner_left_out : IsLawful is_predicate partners (event.Claim 1 ∷ event.Claim 2 ∷ return 2 (work.Met [] []) ∷ []) → ⊥
partner_left_out h =
    let given : GivenJob = h.1.1.0.given in
    let is : second_job ≡ given = same_Some second_job given h.1.1.0.out in
    nothing_met partners second_job (at_roots 0 1) (clause (not_true ∷ q a ∷ []))
    (subst (λ (j : GivenJob). IsRightMeeting is_predicate partners.options (clauses_of (start partners)) j [] []) (sym is) h.1.1.0.says.2) refl refl
    (record {
      first_clause = clause (p a ∷ []);
      first_there = refl;
      second_clause = clause (not_p (x 0) ∷ q (x 0) ∷ []);
      second_there = refl;
      infers = superposition;
    })

pub met_twice :
    IsLawful is_predicate unequal (event.Claim 1 ∷ return 1 (work.Met (unequal_resolved ∷ unequal_resolved ∷ []) []) ∷ []) → ⊥
met_twice h = h.1.0.says.2.keys_differ 0 1 (Refl 0 0) (lit< tt) (lit< tt) refl
