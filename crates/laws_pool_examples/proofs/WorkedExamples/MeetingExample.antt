-- Worked batches of a clause that stays. A positive unit that was told alone meets nothing: r, where it is the only clause, and the part p(X0)
-- of a clause that was split.
use Rattle.std.proofs.Common.{◌≡◌, ℕ, zero, suc, Bool, true, false, not, ◌&&◌, ◌||◌, ◌==◌, List, [], ◌∷◌, None, Some, refl, sym, ap, ◌∙◌, subst, inl, inr, arith}
use Rattle.std.specs.Prelude.{Option, slice_get, take, IsTrue, IsFalse, if◌then◌else◌}
use Rattle.std.proofs.lemmas.Bool.{true≢false}
use Rattle.std.proofs.lemmas.Option.{none-some, same_Some}
use Rattle.std.proofs.lemmas.List.Elements.{All-nil}
use Rattle.plain_types.specs.declared.sequence.NameLit.{NameLit}
use Rattle.plain_types.specs.Names.{negative_of}
use Rattle.fol_base.specs.Clause.{TreeLiteral, TreeClause}
use Rattle.fol_base.specs.Examples.{x, p, r, clause, is_predicate}
use Rattle.fol_base.specs.Tree.{Tree, true_tree, tree_eq}
use Rattle.fol_base.specs.Instance.{Substitution, instance}
use Rattle.fol_base.specs.Place.{subterm}
use Rattle.fol_base.specs.Sides.{side_of, other_side_of}
use Rattle.fol_base.specs.Ground.{literals_instance}
use Rattle.fol_base.specs.declared.clause.Side.{Side}
use Rattle.fol_base.specs.declared.clause.Side.TheVariants.{Left, Right}
use Rattle.fol_base.proofs.AboutClauses.RuleLemmas.{resolved-parts, merged-parts, factored-parts}
use Rattle.kernel_steps.specs.Derivation.{under_names}
use Rattle.kernel_steps.specs.Inference.{have_heads_of_one_kind, is_tautology, NamedSuperposition, NamedResolution, NamedFactoring, Reduces, IsIrreducible}
use Rattle.kernel_steps.specs.Named.{IsInference}
use Rattle.kernel_steps.specs.declared.key.Key.{Key}
use Rattle.kernel_steps.specs.declared.key.Key.TheVariants.{Para, Refl, Factor, Replaced}
use Rattle.laws_calculus.specs.Lifting.{among, IsMember}
use Rattle.literal_selection.specs.Mode.{mode_of}
use Rattle.pool_history.specs.Record.{GivenJob, clauses_of}
use Rattle.pool_history.specs.Reduction.{Lookup}
use Rattle.pool_history.specs.Batches.{is_told, is_told_beside, IsRightMeeting}
use Rattle.pool_history.specs.Lawful.{IsLawful}
use Rattle.pool_history.specs.Replay.{start, replay}
use Rattle.pool_history.specs.declared.options.Options.{Options}
use Rattle.laws_pool_examples.specs.Examples.{alone, alone_history, parted, parted_history}

only : {X : Type 0} (x y : X) (k : ℕ) → slice_get (x ∷ []) k ≡ Some y → x ≡ y
only x y zero there = same_Some x y there
only x y (suc k) there = absurd (none-some y there)

two_places : (n : TreeLiteral) (i j : ℕ) (l m : TreeLiteral) → slice_get (n ∷ []) i ≡ Some l → slice_get (n ∷ []) j ≡ Some m → (i == j) ≡ false → ⊥
two_places n zero zero l m at_i at_j differ = true≢false differ
two_places n zero (suc j) l m at_i at_j differ = absurd (none-some m at_j)
two_places n (suc i) j l m at_i at_j differ = absurd (none-some l at_i)

pub no_other : (b : Bool) → ((b || false) && not b) ≡ false
no_other true = refl
no_other false = refl

pub none-when : (test : Bool) (o : Option TreeClause) → o ≡ None → (if test then o else None) ≡ None
none-when true o is = is
none-when false o is = refl

-- ---- a positive unit that was told alone

module _
    (options : Options) (atom : TreeLiteral) (names : List NameLit) (registered : Lookup) (job : GivenJob) (positive : atom.positive ≡ true)
    (no_tautology : is_tautology (under_names (atom ∷ []) names) ≡ false)
    (is_given : among (is_told job) registered job.number ≡ Some (under_names (atom ∷ []) names))
    (only_told : (n : ℕ) (c : TreeClause) → among (is_told job) registered n ≡ Some c → under_names (atom ∷ []) names ≡ c)
    (none_beside : (n : ℕ) → among (is_told_beside job job.number) registered n ≡ None)
    (no_superposition :
    (s z : Side) (place : List ℕ) (old : Tree) (σ τ : Substitution)
    → subterm place (side_of z atom) ≡ Some old → have_heads_of_one_kind is_predicate (side_of s atom) old ≡ true
    → (IsTrue atom.positive → place ≡ [] → IsFalse (tree_eq (instance σ (other_side_of s atom)) (instance τ (other_side_of z atom))))
    → ⊥) where
  abbrev unit : TreeClause
  unit = under_names (atom ∷ []) names

  no_member : (d : TreeClause) → IsMember (is_told_beside job job.number) registered d → ⊥
  no_member d member = none-some d (sym (none_beside member.0) ∙ member.1)

  -- no step reduces it
  no_step : (d : TreeClause) → Reduces is_predicate (IsMember (is_told_beside job job.number) registered) unit d → ⊥
  no_step d (inl trivial) =
      let parts = resolved-parts (atom ∷ []) trivial.i d.literals trivial.gives in
      true≢false (sym positive ∙ ap (λ (l : TreeLiteral). l.positive) (only atom parts.literal trivial.i parts.literal_there) ∙ parts.negative)
  no_step d (inr (inl equal)) =
      let parts = merged-parts (atom ∷ []) equal.stays equal.goes d.literals equal.gives in
      two_places atom equal.stays equal.goes parts.literal_i parts.literal_j parts.i_there parts.j_there parts.differ
  no_step d (inr (inr (inl rewriting))) = no_member rewriting.clause rewriting.holds
  no_step d (inr (inr (inr cutting))) = no_member cutting.clause cutting.holds

  irreducible : IsIrreducible is_predicate (IsMember (is_told_beside job job.number) registered) unit
  irreducible = record {
    no_step = no_step;
    no_tautology = no_tautology;
    not_subsumed = λ subsuming. no_member subsuming.clause subsuming.holds;
  }

  -- no inference is named
  superposition_of_unit :
      (i : ℕ) (s : Side) (j : ℕ) (z : Side) (place : List ℕ) (d : TreeClause)
      → NamedSuperposition is_predicate (mode_of options.select) unit i s unit j z place d → ⊥
  superposition_of_unit i s j z place d n =
      let from_is : atom ≡ n.from = only atom n.from i n.from_there in
      let into_is : atom ≡ n.into = only atom n.into j n.into_there in
      no_superposition s z place n.old n.first_unifier n.second_unifier
      (ap (λ (l : TreeLiteral). subterm place (side_of z l)) into_is ∙ n.old_there)
      (ap (λ (l : TreeLiteral). have_heads_of_one_kind is_predicate (side_of s l) n.old) from_is ∙ n.one_kind)
      (λ is_positive root.
      ap (λ (l : TreeLiteral). tree_eq (instance n.first_unifier (other_side_of s l)) (instance n.second_unifier (other_side_of z atom))) from_is
      ∙ ap (λ (l : TreeLiteral). tree_eq (instance n.first_unifier (other_side_of s n.from)) (instance n.second_unifier (other_side_of z l))) into_is
      ∙ n.others_differ (ap (λ (l : TreeLiteral). l.positive) (sym into_is) ∙ is_positive) root)

  resolution_of_unit : (i : ℕ) (d : TreeClause) → NamedResolution (mode_of options.select) unit i d → ⊥
  resolution_of_unit i d n =
      let parts = resolved-parts (literals_instance n.unifier (atom ∷ [])) i d.literals n.concludes in
      true≢false (sym positive ∙ ap (λ (l : TreeLiteral). l.positive) (only _ parts.literal i parts.literal_there) ∙ parts.negative)

  factoring_of_unit :
      (i : ℕ) (s : Side) (j : ℕ) (z : Side) (d : TreeClause) → NamedFactoring is_predicate (mode_of options.select) unit i s j z d → ⊥
  factoring_of_unit i s j z d n =
      let parts = factored-parts (literals_instance n.unifier (atom ∷ [])) i s j z d.literals n.concludes in
      two_places atom i j n.literal_i n.literal_j n.i_there n.j_there parts.differ

  none_named : (key : Key) (d : TreeClause) → IsInference is_predicate (mode_of options.select) (among (is_told job) registered) key d → ⊥
  none_named (Para first from s second into z place) d it =
      superposition_of_unit from s into z place d
      (subst (λ (c : TreeClause). NamedSuperposition is_predicate (mode_of options.select) unit from s c into z place d)
      (sym (only_told second it.second_clause it.second_there))
      (subst (λ (c : TreeClause). NamedSuperposition is_predicate (mode_of options.select) c from s it.second_clause into z place d)
      (sym (only_told first it.first_clause it.first_there)) it.infers))
  none_named (Refl k i) d it =
      resolution_of_unit i d
      (subst (λ (c : TreeClause). NamedResolution (mode_of options.select) c i d) (sym (only_told k it.clause it.there)) it.infers)
  none_named (Factor k i s j z) d it =
      factoring_of_unit i s j z d
      (subst (λ (c : TreeClause). NamedFactoring is_predicate (mode_of options.select) c i s j z d) (sym (only_told k it.clause it.there)) it.infers)
  none_named (Replaced k) d it = it

  pub meets_nothing : IsRightMeeting is_predicate options registered job [] []
  meets_nothing = record {
    given_irreducible = record { clause = unit; there = is_given; infers = irreducible };
    keys_differ = λ i j d before within. absurd (omega (arith, within));
    keys_met = refl;
    right_entries = All-nil _;
    others_removed = refl;
    right_removals = All-nil _;
    whole =
        inr (
          λ key c met named. absurd (none_named key c named),
          λ n by c there given simplifies. absurd (none-some c (sym (none_beside n) ∙ there)),
        );
  }

-- ---- r alone

-- the job on r, which was told r alone
abbrev job : GivenJob
job = record { job = 1; number = 0; told = 0 ∷ []; as_of = 1; left = 100 }

only_r : (n : ℕ) (c : TreeClause) → among (is_told job) (clauses_of (start alone)) n ≡ Some c → clause (r ∷ []) ≡ c
only_r zero c there = same_Some (clause (r ∷ [])) c there
only_r (suc n) c there = absurd (none-some c (sym (none-when (is_told job (suc n)) (clauses_of (start alone) (suc n)) refl) ∙ there))

no_superposition_of_r :
    (s z : Side) (place : List ℕ) (old : Tree) (σ τ : Substitution)
    → subterm place (side_of z r) ≡ Some old → have_heads_of_one_kind is_predicate (side_of s r) old ≡ true
    → (IsTrue r.positive → place ≡ [] → IsFalse (tree_eq (instance σ (other_side_of s r)) (instance τ (other_side_of z r))))
    → ⊥
no_superposition_of_r Left Left [] old σ τ there kind others_differ = true≢false (others_differ refl refl)
no_superposition_of_r Left Left (k ∷ place) old σ τ there kind others_differ = absurd (none-some old there)
no_superposition_of_r Left Right [] old σ τ there kind others_differ =
    true≢false (sym kind ∙ ap (have_heads_of_one_kind is_predicate r.left) (sym (same_Some true_tree old there)))
no_superposition_of_r Left Right (k ∷ place) old σ τ there kind others_differ = absurd (none-some old there)
no_superposition_of_r Right z place old σ τ there kind others_differ = true≢false (sym kind)

r_meets_nothing : IsRightMeeting is_predicate alone.options (clauses_of (start alone)) job [] []
r_meets_nothing =
    meets_nothing alone.options r [] (clauses_of (start alone)) job refl refl refl only_r
    (λ n. ap (λ told. if told then clauses_of (start alone) n else None) (no_other (n == 0))) no_superposition_of_r

pub r_stays : IsLawful is_predicate alone alone_history
r_stays = (
  ((refl, refl), refl, refl),
  (record { given = job; out = refl; says = (refl, refl, r_meets_nothing) }, tt),
)

-- ---- the part p(X0), once the model asserts it

-- the clauses when its job returns
abbrev of_parts : Lookup
of_parts = clauses_of (replay parted (take 3 parted_history))

abbrev part : TreeClause
part = under_names (p (x 0) ∷ []) (negative_of 0 ∷ [])

-- the job on it, which was told it alone
abbrev part_job : GivenJob
part_job = record { job = 2; number = 0; told = 0 ∷ []; as_of = 3; left = 100 }

only_part : (n : ℕ) (c : TreeClause) → among (is_told part_job) of_parts n ≡ Some c → part ≡ c
only_part zero c there = same_Some part c there
only_part (suc zero) c there = absurd (none-some c there)
only_part (suc (suc n)) c there = absurd (none-some c (sym (none-when (is_told part_job (suc (suc n))) (of_parts (suc (suc n))) refl) ∙ there))

pub no_superposition_of_part :
    (s z : Side) (place : List ℕ) (old : Tree) (σ τ : Substitution)
    → subterm place (side_of z (p (x 0))) ≡ Some old → have_heads_of_one_kind is_predicate (side_of s (p (x 0))) old ≡ true
    → (IsTrue (p (x 0)).positive → place ≡ [] → IsFalse (tree_eq (instance σ (other_side_of s (p (x 0)))) (instance τ (other_side_of z (p (x 0))))))
    → ⊥
no_superposition_of_part Left Left [] old σ τ there kind others_differ = true≢false (others_differ refl refl)
no_superposition_of_part Left Left (zero ∷ []) old σ τ there kind others_differ =
    true≢false (sym kind ∙ ap (have_heads_of_one_kind is_predicate (p (x 0)).left) (sym (same_Some (x 0) old there)))
no_superposition_of_part Left Left (zero ∷ k ∷ place) old σ τ there kind others_differ = absurd (none-some old there)
no_superposition_of_part Left Left (suc k ∷ place) old σ τ there kind others_differ = absurd (none-some old there)
no_superposition_of_part Left Right [] old σ τ there kind others_differ =
    true≢false (sym kind ∙ ap (have_heads_of_one_kind is_predicate (p (x 0)).left) (sym (same_Some true_tree old there)))
no_superposition_of_part Left Right (k ∷ place) old σ τ there kind others_differ = absurd (none-some old there)
no_superposition_of_part Right z place old σ τ there kind others_differ = true≢false (sym kind)

part_meets_nothing : IsRightMeeting is_predicate parted.options of_parts part_job [] []
part_meets_nothing =
    meets_nothing parted.options (p (x 0)) (negative_of 0 ∷ []) of_parts part_job refl refl refl only_part
    (λ n. ap (λ told. if told then of_parts n else None) (no_other (n == 0))) no_superposition_of_part

pub part_stays : IsLawful is_predicate parted parted_history
part_stays = (
  ((refl, refl), refl),
  (
    record { solver = _; out = refl; same = refl; says = record { complete = refl; makes_true = refl } },
    (((refl, refl), refl, refl), (record { given = part_job; out = refl; says = (refl, refl, part_meets_nothing) }, tt)),
  ),
)
