-- A worked batch with an inference that was dropped: X0 != a or f(X0) = f(a), where it is the only clause, resolves to f(a) = f(a).
use Rattle.std.proofs.Common.{◌≡◌, ℕ, false, ◌==◌, [], ◌∷◌, None, refl, sym, ap, ◌∙◌, inl, inr, arith}
use Rattle.std.specs.Prelude.{if◌then◌else◌}
use Rattle.std.proofs.lemmas.Bool.{true≢false}
use Rattle.std.proofs.lemmas.Option.{none-some}
use Rattle.std.proofs.lemmas.List.Elements.{All-nil, All-cons}
use Rattle.fol_base.specs.Tree.{tree_eq}
use Rattle.fol_base.specs.Clause.{TreeLiteral, TreeClause}
use Rattle.fol_base.specs.Rules.{disequation}
use Rattle.fol_base.specs.Selection.{select_negative}
use Rattle.fol_base.specs.Examples.{x, a, f, equation, clause, is_predicate, first_is_a}
use Rattle.fol_base.proofs.WorkedExamples.MatchingExamples.{first_is_a_general}
use Rattle.fol_base.proofs.AboutClauses.RuleLemmas.{resolved-parts, merged-parts}
use Rattle.kernel_steps.specs.Inference.{NamedResolution, Reduces}
use Rattle.kernel_steps.specs.Sized.{IsSizedInference}
use Rattle.kernel_steps.specs.declared.key.Key.TheVariants.{Refl}
use Rattle.laws_calculus.specs.Lifting.{among, IsMember}
use Rattle.pool_history.specs.Record.{GivenJob, clauses_of}
use Rattle.pool_history.specs.Reduction.{Lookup}
use Rattle.pool_history.specs.Batches.{is_told_beside, told_clauses, IsReducedBeside, IsRightFate, IsRightMeeting}
use Rattle.pool_history.specs.Lawful.{IsLawful}
use Rattle.pool_history.specs.Replay.{start}
use Rattle.laws_pool_examples.specs.Examples.{dropping, tautology_dropped, return}
use Rattle.pool_history.specs.declared.batch.Entry.{Entry}
use Rattle.pool_history.specs.declared.batch.Work.TheVariants as work
use Rattle.pool_history.specs.declared.event.Event.TheVariants as event
use Rattle.laws_pool_examples.proofs.WorkedExamples.MeetingExample.{no_other}
use Rattle.laws_pool_examples.proofs.WorkedExamples.SteppingExample.{each_of_two, none_merged}

abbrev unequal : TreeLiteral
unequal = disequation (x 0) a

abbrev image : TreeLiteral
image = equation (f (x 0)) (f a)

abbrev the_clause : TreeClause
the_clause = clause (unequal ∷ image ∷ [])

abbrev conclusion : TreeClause
conclusion = clause (equation (f a) (f a) ∷ [])

abbrev registered : Lookup
registered = clauses_of (start dropping)

-- the job on it, which was told it alone
abbrev job : GivenJob
job = record { job = 1; number = 0; told = 0 ∷ []; as_of = 1; left = 1 }

-- ---- the clause is irreducible

none_beside : (n : ℕ) → among (is_told_beside job 0) registered n ≡ None
none_beside n = ap (λ b. if b then registered n else None) (no_other (n == 0))

no_member : (d : TreeClause) → IsMember (is_told_beside job 0) registered d → ⊥
no_member d member = none-some d (sym (none_beside member.0) ∙ member.1)

no_step : (d : TreeClause) → Reduces is_predicate (IsMember (is_told_beside job 0) registered) the_clause d → ⊥
no_step d (inl trivial) =
    let parts = resolved-parts (unequal ∷ image ∷ []) trivial.i d.literals trivial.gives in
    each_of_two unequal image (λ (l : TreeLiteral). l.positive ≡ false → l.left ≡ l.right → ⊥)
    (λ negative same. true≢false (ap (tree_eq (x 0)) same))
    (λ negative same. true≢false negative) trivial.i parts.literal parts.literal_there parts.negative parts.same
no_step d (inr (inl equal)) =
    let parts = merged-parts (unequal ∷ image ∷ []) equal.stays equal.goes d.literals equal.gives in
    none_merged unequal image refl refl equal.stays equal.goes parts.literal_i parts.literal_j parts.i_there parts.j_there parts.differ parts.same
no_step d (inr (inr (inl rewriting))) = no_member rewriting.clause rewriting.holds
no_step d (inr (inr (inr cutting))) = no_member cutting.clause cutting.holds

irreducible : IsReducedBeside is_predicate dropping.options registered job 0 the_clause
irreducible = record {
  no_step = no_step;
  no_tautology = refl;
  not_subsumed = λ subsuming. no_member subsuming.clause subsuming.holds;
}

-- ---- the inference

abbrev resolving : NamedResolution select_negative the_clause 0 conclusion
resolving = record {
  literal = unequal;
  literal_there = refl;
  unifier = first_is_a;
  most_general = first_is_a_general;
  is_eligible = refl;
  concludes = refl;
  names = refl;
}

inferred : IsSizedInference is_predicate select_negative (told_clauses is_predicate dropping.options registered job) (Refl 0 0) conclusion false
inferred = record { clause = the_clause; there = refl; infers = record { named = resolving; size = refl } }

right_entry : IsRightFate is_predicate dropping.options registered job (Refl 0 0) tautology_dropped.fate
right_entry = record { conclusion = conclusion; inferred = inferred; moves = []; moved = tt; redundant = refl }

-- ---- the history is lawful

-- it stops early, as one inference is all that may be counted
meeting : IsRightMeeting is_predicate dropping.options registered job (tautology_dropped ∷ []) []
meeting = record {
  given_irreducible = record { clause = the_clause; there = refl; infers = irreducible };
  keys_differ = λ i j d before within. absurd (omega (arith, before, within));
  keys_met = refl;
  right_entries =
      All-cons (λ (e : Entry). IsRightFate is_predicate dropping.options registered job e.key e.fate) tautology_dropped [] right_entry (All-nil _);
  others_removed = refl;
  right_removals = All-nil _;
  whole = inl (omega arith);
}

pub dropped_met : IsLawful is_predicate dropping (event.Claim 1 ∷ return 1 (work.Met (tautology_dropped ∷ []) []) ∷ [])
dropped_met = (
  ((refl, refl), refl, refl),
  (record { given = job; out = refl; says = (refl, refl, meeting) }, tt),
)
