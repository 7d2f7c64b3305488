-- A worked batch with a removal: p(X0) meets p(a) in no inference, and subsumes it.
use Rattle.std.proofs.Common.{◌≡◌, ℕ, zero, suc, true, false, ◌&&◌, ◌||◌, ◌==◌, List, [], ◌∷◌, Some, refl, sym, ap, ◌∙◌, subst, inl, inr, arith}
use Rattle.std.specs.Prelude.{slice_get, IsTrue, IsFalse}
use Rattle.std.specs.List.{list_any}
use Rattle.std.proofs.lemmas.Bool.{true≢false}
use Rattle.std.proofs.lemmas.Option.{none-some, same_Some}
use Rattle.std.proofs.lemmas.List.Elements.{All-nil, All-cons}
use Rattle.fol_base.specs.Tree.{Tree, tree_eq}
use Rattle.fol_base.specs.Ground.{literals_instance}
use Rattle.fol_base.specs.Instance.{Substitution, instance}
use Rattle.fol_base.specs.Place.{subterm}
use Rattle.fol_base.specs.Clause.{TreeLiteral, TreeClause}
use Rattle.fol_base.specs.Selection.{select_negative}
use Rattle.fol_base.specs.Sides.{side_of, other_side_of}
use Rattle.fol_base.specs.Order.{equivalent_literals}
use Rattle.fol_base.specs.Subsumption.{Subsumes, is_there}
use Rattle.fol_base.specs.Examples.{x, a, p, clause, is_predicate}
use Rattle.fol_base.specs.declared.clause.Side.{Side}
use Rattle.fol_base.specs.declared.clause.Side.TheVariants.{Left, Right}
use Rattle.fol_base.proofs.AboutClauses.RuleLemmas.{resolved-parts, merged-parts, factored-parts}
use Rattle.kernel_steps.specs.Examples.{not_p}
use Rattle.kernel_steps.specs.Inference.{has_predicate_head, have_heads_of_one_kind, NamedSuperposition, NamedResolution, NamedFactoring, RewritesBy, CutsBy, Reduces}
use Rattle.kernel_steps.specs.Named.{IsInference}
use Rattle.kernel_steps.specs.declared.key.Key.{Key}
use Rattle.kernel_steps.specs.declared.key.Key.TheVariants.{Para, Refl, Factor, Replaced}
use Rattle.laws_calculus.specs.Lifting.{among, IsMember}
use Rattle.pool_history.specs.Record.{GivenJob, clauses_of}
use Rattle.pool_history.specs.Reduction.{Lookup}
use Rattle.pool_history.specs.Batches.{is_told, is_told_beside, told_clauses, IsReducedBeside, IsRightRemoval, IsRightMeeting}
use Rattle.pool_history.specs.Lawful.{IsLawful}
use Rattle.pool_history.specs.Replay.{start}
use Rattle.laws_pool_examples.specs.Examples.{subsuming, subsumed_removed, removal}
use Rattle.pool_history.specs.declared.batch.Fate.TheVariants.{Dropped}
use Rattle.pool_history.specs.declared.batch.Redundancy.TheVariants.{Subsumed}
use Rattle.pool_history.specs.declared.batch.Removal.{Removal}
use Rattle.laws_pool_examples.proofs.WorkedExamples.MeetingExample.{none-when}
use Rattle.laws_pool_examples.proofs.WorkedExamples.ReturnExamples.{subsumption}
use Rattle.laws_pool_examples.proofs.WorkedExamples.SteppingExample.{HasNone, none_in_truth, none_in_variable, none_under_p, no_rewriting, no_cutting, no_subsuming}

abbrev registered : Lookup
registered = clauses_of (start subsuming)

-- the job on p(X0), which was told p(a) too
abbrev job : GivenJob
job = record { job = 2; number = 1; told = 0 ∷ 1 ∷ []; as_of = 2; left = 100 }

abbrev told : Lookup
told = told_clauses is_predicate subsuming.options registered job

abbrev given : TreeLiteral
given = p (x 0)

-- ---- units

only : (l m : TreeLiteral) (k : ℕ) → slice_get (l ∷ []) k ≡ Some m → l ≡ m
only l m zero there = same_Some l m there
only l m (suc k) there = absurd (none-some m there)

two_places : (l m k : TreeLiteral) (i j : ℕ) → slice_get (l ∷ []) i ≡ Some m → slice_get (l ∷ []) j ≡ Some k → (i == j) ≡ false → ⊥
two_places l m k zero zero at_i at_j differ = true≢false differ
two_places l m k zero (suc j) at_i at_j differ = none-some k at_j
two_places l m k (suc i) j at_i at_j differ = none-some m at_i

-- ---- p(X0) is irreducible by p(a)

is-unit : (d : TreeClause) (n : ℕ) → among (is_told_beside job 1) registered n ≡ Some d → clause (p a ∷ []) ≡ d
is-unit d zero there = same_Some (clause (p a ∷ [])) d there
is-unit d (suc zero) there = absurd (none-some d there)
is-unit d (suc (suc n)) there =
    absurd (none-some d (sym (none-when (is_told_beside job 1 (suc (suc n))) (registered (suc (suc n))) refl) ∙ there))

not_there : (k : ℕ) → is_there (p a) (slice_get (given ∷ []) k) ≡ false
not_there zero = refl
not_there (suc k) = refl

no_step : (d : TreeClause) → Reduces is_predicate (IsMember (is_told_beside job 1) registered) (clause (given ∷ [])) d → ⊥
no_step d (inl trivial) =
    let parts = resolved-parts (given ∷ []) trivial.i d.literals trivial.gives in
    true≢false (ap (λ (l : TreeLiteral). l.positive) (only given parts.literal trivial.i parts.literal_there) ∙ parts.negative)
no_step d (inr (inl equal)) =
    let parts = merged-parts (given ∷ []) equal.stays equal.goes d.literals equal.gives in
    two_places given parts.literal_i parts.literal_j equal.stays equal.goes parts.i_there parts.j_there parts.differ
no_step d (inr (inr (inl w))) =
    no_rewriting (clause (given ∷ [])) d
    (λ n l there.
    subst (λ (k : TreeLiteral). HasNone k.left × HasNone k.right) (only given l n there) (none_under_p (x 0) refl none_in_variable, none_in_truth))
    (subst (λ (u : TreeClause). RewritesBy is_predicate u (clause (given ∷ [])) d) (sym (is-unit w.clause w.holds.0 w.holds.1)) w.does)
no_step d (inr (inr (inr w))) =
    no_cutting (clause (given ∷ [])) d
    (λ n l there. subst (λ (k : TreeLiteral). equivalent_literals (not_p a) k ≡ false) (only given l n there) refl)
    (subst (λ (u : TreeClause). CutsBy is_predicate u (clause (given ∷ [])) d) (sym (is-unit w.clause w.holds.0 w.holds.1)) w.does)

irreducible : IsReducedBeside is_predicate subsuming.options registered job 1 (clause (given ∷ []))
irreducible = record {
  no_step = no_step;
  no_tautology = refl;
  not_subsumed = λ s.
      no_subsuming (p a) [] (given ∷ []) (λ σ. not_there)
      (subst (λ (u : TreeClause). Subsumes is_predicate u (clause (given ∷ []))) (sym (is-unit s.clause s.holds.0 s.holds.1)) s.does);
}

-- ---- no inference is named

-- no subterm is an atom
abbrev HasNoAtom : Tree → Type 0
HasNoAtom t = (place : List ℕ) (old : Tree) → subterm place t ≡ Some old → has_predicate_head is_predicate old ≡ false

no_atom_in_a : HasNoAtom a
no_atom_in_a [] old there = ap (has_predicate_head is_predicate) (sym (same_Some a old there))
no_atom_in_a (k ∷ place) old there = absurd (none-some old there)

no_atom_in_variable : HasNoAtom (x 0)
no_atom_in_variable [] old there = ap (has_predicate_head is_predicate) (sym (same_Some (x 0) old there))
no_atom_in_variable (k ∷ place) old there = absurd (none-some old there)

-- of atoms that hold no others
module _ (t u : Tree) (none : HasNoAtom u) where
  -- a term that is no atom is of another kind than an atom
  other_kind : (old : Tree) → has_predicate_head is_predicate old ≡ false → have_heads_of_one_kind is_predicate (p t).left old ≡ true → ⊥
  other_kind old is kind = true≢false (sym kind ∙ ap (λ b. (true && b) || false) is)

  no_superposition :
      (s z : Side) (place : List ℕ) (old : Tree) (σ τ : Substitution)
      → subterm place (side_of z (p u)) ≡ Some old → have_heads_of_one_kind is_predicate (side_of s (p t)) old ≡ true
      → (place ≡ [] → IsFalse (tree_eq (instance σ (other_side_of s (p t))) (instance τ (other_side_of z (p u)))))
      → ⊥
  no_superposition Left Left [] old σ τ there kind others_differ = true≢false (others_differ refl)
  no_superposition Left Left (zero ∷ place) old σ τ there kind others_differ = other_kind old (none place old there) kind
  no_superposition Left Left (suc k ∷ place) old σ τ there kind others_differ = none-some old there
  no_superposition Left Right [] old σ τ there kind others_differ =
      true≢false (sym kind ∙ ap (have_heads_of_one_kind is_predicate (p t).left) (sym (same_Some _ old there)))
  no_superposition Left Right (k ∷ place) old σ τ there kind others_differ = none-some old there
  no_superposition Right z place old σ τ there kind others_differ = true≢false (sym kind)

  superposition_of :
      (i : ℕ) (s : Side) (j : ℕ) (z : Side) (place : List ℕ) (d : TreeClause)
      → NamedSuperposition is_predicate select_negative (clause (p t ∷ [])) i s (clause (p u ∷ [])) j z place d → ⊥
  superposition_of i s j z place d n =
      let from_is : p t ≡ n.from = only (p t) n.from i n.from_there in
      let into_is : p u ≡ n.into = only (p u) n.into j n.into_there in
      no_superposition s z place n.old n.first_unifier n.second_unifier
      (ap (λ (l : TreeLiteral). subterm place (side_of z l)) into_is ∙ n.old_there)
      (ap (λ (l : TreeLiteral). have_heads_of_one_kind is_predicate (side_of s l) n.old) from_is ∙ n.one_kind)
      (λ root.
      ap (λ (l : TreeLiteral). tree_eq (instance n.first_unifier (other_side_of s l)) (instance n.second_unifier (other_side_of z (p u)))) from_is
      ∙ ap (λ (l : TreeLiteral). tree_eq (instance n.first_unifier (other_side_of s n.from)) (instance n.second_unifier (other_side_of z l))) into_is
      ∙ n.others_differ (ap (λ (l : TreeLiteral). l.positive) (sym into_is)) root)

resolution_of : (t : Tree) (i : ℕ) (d : TreeClause) → NamedResolution select_negative (clause (p t ∷ [])) i d → ⊥
resolution_of t i d n =
    let is : p t ≡ n.literal = only (p t) n.literal i n.literal_there in
    let parts = resolved-parts (literals_instance n.unifier (p t ∷ [])) i d.literals n.concludes in
    true≢false (ap (λ (l : TreeLiteral). l.positive) (only _ parts.literal i parts.literal_there) ∙ parts.negative)

factoring_of : (t : Tree) (i : ℕ) (s : Side) (j : ℕ) (z : Side) (d : TreeClause) → NamedFactoring is_predicate select_negative (clause (p t ∷ [])) i s j z d → ⊥
factoring_of t i s j z d n =
    let parts = factored-parts (literals_instance n.unifier (p t ∷ [])) i s j z d.literals n.concludes in
    two_places (p t) n.literal_i n.literal_j i j n.i_there n.j_there parts.differ

-- what holds of both told clauses holds of each
each_told : (P : TreeClause → Type 0) → P (clause (p a ∷ [])) → P (clause (given ∷ [])) → (n : ℕ) (c : TreeClause) → told n ≡ Some c → P c
each_told P one other zero c there = subst P (same_Some (clause (p a ∷ [])) c there) one
each_told P one other (suc zero) c there = subst P (same_Some (clause (given ∷ [])) c there) other
each_told P one other (suc (suc n)) c there =
    absurd (none-some c (sym (none-when (is_told job (suc (suc n))) (registered (suc (suc n))) refl) ∙ there))

none_named : (key : Key) (d : TreeClause) → IsInference is_predicate select_negative told key d → ⊥
none_named (Para first i s second j z place) d it =
    each_told (λ (c : TreeClause). NamedSuperposition is_predicate select_negative c i s it.second_clause j z place d → ⊥) (by a) (by (x 0))
    first it.first_clause it.first_there it.infers
  where
    by : (t : Tree) → NamedSuperposition is_predicate select_negative (clause (p t ∷ [])) i s it.second_clause j z place d → ⊥
    by t =
        each_told (λ (c : TreeClause). NamedSuperposition is_predicate select_negative (clause (p t ∷ [])) i s c j z place d → ⊥)
        (superposition_of t a no_atom_in_a i s j z place d) (superposition_of t (x 0) no_atom_in_variable i s j z place d)
        second it.second_clause it.second_there
none_named (Refl k i) d it =
    each_told (λ (c : TreeClause). NamedResolution select_negative c i d → ⊥) (resolution_of a i d) (resolution_of (x 0) i d) k it.clause it.there it.infers
none_named (Factor k i s j z) d it =
    each_told (λ (c : TreeClause). NamedFactoring is_predicate select_negative c i s j z d → ⊥) (factoring_of a i s j z d) (factoring_of (x 0) i s j z d)
    k it.clause it.there it.infers
none_named (Replaced k) d it = it

-- ---- the history is lawful

abbrev the_removal : Removal
the_removal = removal 0 (1 ∷ []) (Dropped (Subsumed 1))

right_removal : IsRightRemoval is_predicate subsuming.options registered job the_removal
right_removal = record {
  clause = clause (p a ∷ []);
  there = refl;
  moves = [];
  moved = tt;
  redundant = record { clause = clause (given ∷ []); there = refl; infers = subsumption };
  justified = refl;
}

-- p(a) is the only other told clause
all_removed : (n : ℕ) (c : TreeClause) → among (is_told_beside job 1) registered n ≡ Some c → IsTrue (list_any (λ (m : Removal). m.victim == n) (the_removal ∷ []))
all_removed zero c there = refl
all_removed (suc zero) c there = absurd (none-some c there)
all_removed (suc (suc n)) c there =
    absurd (none-some c (sym (none-when (is_told_beside job 1 (suc (suc n))) (registered (suc (suc n))) refl) ∙ there))

meeting : IsRightMeeting is_predicate subsuming.options registered job [] (the_removal ∷ [])
meeting = record {
  given_irreducible = record { clause = clause (given ∷ []); there = refl; infers = irreducible };
  keys_differ = λ i j d before within. absurd (omega (arith, within));
  keys_met = refl;
  right_entries = All-nil _;
  others_removed = refl;
  right_removals = All-cons (IsRightRemoval is_predicate subsuming.options registered job) the_removal [] right_removal (All-nil _);
  whole = inr (λ key c met named. absurd (none_named key c named), λ n by c there told simplifies. all_removed n c there);
}

pub removal_met : IsLawful is_predicate subsuming subsumed_removed
removal_met = (
  ((refl, refl), refl, refl),
  (((refl, refl), refl, refl), (record { given = job; out = refl; says = (refl, refl, meeting) }, tt)),
)
