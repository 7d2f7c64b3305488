-- Worked examples: what is held, what is carried, and a set that is saturated by the law.
use Rattle.std.proofs.Common.{◌≡◌, ◌<◌, ◌≤◌, ℕ, zero, suc, Bool, true, false, not, List, [], ◌∷◌, refl, ap, sym, ◌∙◌, subst, arith}
use Rattle.std.specs.Prelude.{Option, Some, option_map, unwrap_or, nat_lt, All, IsTrue, if◌then◌else◌}
use Rattle.std.proofs.lemmas.Bool.{true≢false, and_parts, ltb-true}
use Rattle.std.proofs.lemmas.Option.{none-some, same_Some}
use Rattle.std.proofs.lemmas.List.Elements.{All-nil, All-cons, All-head}
use Rattle.plain_types.specs.Names.{negative_of}
use Rattle.fol_base.specs.Clause.{TreeClause, clause_eq, clause_size}
use Rattle.fol_base.specs.Canonical.{IsCanonical}
use Rattle.fol_base.specs.declared.limits.TheConstants.{MOST_SYMBOLS}
use Rattle.kernel_steps.specs.Derivation.{under_names}
use Rattle.laws_calculus.specs.Symbols.{HasSymbolsOf}
use Rattle.fol_base.specs.Ground.{GroundClause}
use Rattle.fol_base.specs.Interpretation.{Interpretation, clauses_true}
use Rattle.fol_base.specs.Covered.{InstanceOf}
use Rattle.fol_base.specs.Selection.{select_negative}
use Rattle.fol_base.specs.WellFormed.{SymbolUse}
use Rattle.fol_base.specs.Examples.{x, a, p, q, r, equation, clause, is_predicate, functions}
use Rattle.fol_base.proofs.AboutInstances.CoverageLemmas.{Covered-instance}
use Rattle.laws_pool_examples.specs.Examples.{justified, stale_history, parted, parted_history}
use Rattle.pool_history.specs.Record.{PoolRecord, clauses_of, has_died, is_awake_under, lives, nothing_registered}
use Rattle.pool_history.specs.Inputs.{AreInputs}
use Rattle.pool_history.specs.Lawful.{IsLawful}
use Rattle.pool_history.specs.Replay.{start, replay}
use Rattle.pool_history.specs.Saturated.{IsSaturated}
use Rattle.laws_calculus.specs.Coverage.{CoversEach}
use Rattle.laws_saturation.specs.Carried.{IsHeld, IsCarried}
use Rattle.laws_saturation.specs.Laws.{CarriedThrough, SaturatedIsSaturated}
use Rattle.laws_pool_examples.specs.CarriedExamples.{all_true, first_true, none_true, one_atom, one_tautology, tautology_history}
use Rattle.laws_pool_examples.proofs.WorkedExamples.MeetingExample.{part_stays}

-- ---- held

abbrev cut : PoolRecord
cut = replay justified stale_history

pub held : IsHeld all_true cut (clause (q (x 0) ∷ []))
held = (1, refl, refl, refl)

-- the test for q(a)
abbrev is_dead_clause : Option TreeClause → Bool
is_dead_clause o = unwrap_or (option_map (clause_eq (clause (q a ∷ []))) o) false

pub dead : IsHeld all_true cut (clause (q a ∷ [])) → ⊥
dead h = by h.0 h.1 h.2
  where
    by : (n : ℕ) → IsTrue (lives cut n) → clauses_of cut n ≡ Some (clause (q a ∷ [])) → ⊥
    by zero alive there = true≢false (sym alive)
    by (suc zero) alive there = true≢false (sym (ap is_dead_clause there))
    by (suc (suc zero)) alive there = true≢false (sym alive)
    by (suc (suc (suc zero))) alive there = true≢false (sym (ap is_dead_clause there))
    by (suc (suc (suc (suc n)))) alive there = none-some (clause (q a ∷ [])) there

-- ---- carried

abbrev atom : TreeClause
atom = clause (r ∷ [])

the_atom : (n : ℕ) (c : TreeClause) → clauses_of (start one_atom) n ≡ Some c → atom ≡ c
the_atom zero c there = same_Some atom c there
the_atom (suc n) c there = absurd (none-some c there)

atom_covered : CoversEach functions (IsHeld all_true (start one_atom)) atom
atom_covered g made = Covered-instance is_predicate functions (IsHeld all_true (start one_atom)) atom g (0, refl, refl, refl) made

pub begun : IsCarried functions select_negative (atom ∷ []) all_true (start one_atom)
begun = record {
  inputs_covered =
      All-cons (CoversEach functions (IsHeld all_true (start one_atom))) atom [] atom_covered (All-nil (CoversEach functions (IsHeld all_true (start one_atom))));
  registered_covered = λ n c there awake. subst (CoversEach functions (IsHeld all_true (start one_atom))) (the_atom n c there) atom_covered;
  counted_covered = λ key c counted not_aside awake inferred. let within = counted.1 in absurd (omega (arith, within));
}

-- all atoms are false
abbrev nothing_holds : Interpretation
nothing_holds = record { size = 1; rows = [] }

none-held : (c : TreeClause) → IsHeld all_true nothing_registered c → ⊥
none-held c h =
    let below : h.0 < 0 = ltb-true h.0 0 (and_parts (nat_lt h.0 0) (not (has_died [] h.0)) h.1).0 in absurd (omega (arith, below))

pub not_begun : IsCarried functions select_negative (atom ∷ []) all_true nothing_registered → ⊥
not_begun carried =
    let covered =
    All-head (CoversEach functions (IsHeld all_true nothing_registered)) atom [] carried.inputs_covered (r ∷ [])
    (record { trees = λ v. a; trees_ground = λ v. refl; literals = refl }) in
    true≢false (sym (covered.entailed nothing_holds (record { has_value = omega arith; rows_in_range = refl }) (none covered.by covered.instances)))
  where
    none : (gs : List GroundClause) → All (InstanceOf functions (IsHeld all_true nothing_registered)) gs → clauses_true nothing_holds gs ≡ true
    none [] all = refl
    none (g ∷ gs) all =
        let it = All-head (InstanceOf functions (IsHeld all_true nothing_registered)) g gs all in absurd (none-held it.clause it.holds)

-- ---- two parts

abbrev first_part : TreeClause
first_part = under_names (p (x 0) ∷ []) (negative_of 0 ∷ [])

abbrev second_part : TreeClause
second_part = under_names (q (x 0) ∷ []) (negative_of 1 ∷ [])

-- neither is awake
none-held-asleep : (c : TreeClause) → IsHeld none_true (start parted) c → ⊥
none-held-asleep c h = by h.0 h.2 h.3
  where
    by : (n : ℕ) → clauses_of (start parted) n ≡ Some c → is_awake_under none_true (start parted).parts c ≡ true → ⊥
    by zero there awake = true≢false (sym (ap (is_awake_under none_true (start parted).parts) (same_Some first_part c there) ∙ awake))
    by (suc zero) there awake = true≢false (sym (ap (is_awake_under none_true (start parted).parts) (same_Some second_part c there) ∙ awake))
    by (suc (suc n)) there awake = none-some c there

pub none_awake : IsCarried functions select_negative parted.inputs none_true (start parted) → ⊥
none_awake carried =
    let covered =
    All-head (CoversEach functions (IsHeld none_true (start parted))) (clause (p (x 0) ∷ q (x 1) ∷ [])) [] carried.inputs_covered (p a ∷ q a ∷ [])
    (record { trees = λ v. a; trees_ground = λ v. refl; literals = refl }) in
    true≢false (sym (covered.entailed nothing_holds (record { has_value = omega arith; rows_in_range = refl }) (none covered.by covered.instances)))
  where
    none : (gs : List GroundClause) → All (InstanceOf functions (IsHeld none_true (start parted))) gs → clauses_true nothing_holds gs ≡ true
    none [] all = refl
    none (g ∷ gs) all =
        let it = All-head (InstanceOf functions (IsHeld none_true (start parted))) g gs all in absurd (none-held-asleep it.clause it.holds)

-- p and q have one argument
abbrev part_usage : SymbolUse
part_usage = record { is_predicate = is_predicate; arity = λ f. if is_predicate f then 1 else 0 }

abbrev whole : TreeClause
whole = clause (p (x 0) ∷ q (x 1) ∷ [])

parts_are_inputs : AreInputs parted.inputs
parts_are_inputs = record {
  canonical = All-cons IsCanonical whole [] refl (All-nil IsCanonical);
  no_names = All-cons (λ (c : TreeClause). c.names ≡ []) whole [] refl (All-nil (λ (c : TreeClause). c.names ≡ []));
  small = All-cons (λ (c : TreeClause). clause_size c ≤ MOST_SYMBOLS) whole [] (omega arith) (All-nil (λ (c : TreeClause). clause_size c ≤ MOST_SYMBOLS));
  few = omega arith;
  well_formed = record { usage = part_usage; used = refl };
}

pub part_carried : CarriedThrough → IsCarried functions select_negative parted.inputs first_true (start parted)
part_carried law =
    law part_usage functions parted [] first_true parts_are_inputs refl
    (All-cons (HasSymbolsOf functions) whole [] refl (All-nil (HasSymbolsOf functions))) tt refl refl

pub part_saturated : SaturatedIsSaturated → IsSaturated functions select_negative parted.inputs (first_part ∷ [])
part_saturated law =
    law part_usage functions parted parted_history parts_are_inputs refl
    (All-cons (HasSymbolsOf functions) whole [] refl (All-nil (HasSymbolsOf functions))) part_stays refl

-- ---- saturated

abbrev tautology : TreeClause
tautology = clause (equation a a ∷ [])

pub tautology_goes : IsLawful is_predicate one_tautology tautology_history
tautology_goes = (
  ((refl, refl), refl, refl),
  (
    record {
      given = _;
      out = refl;
      says = (
        refl,
        refl,
        record {
          victim = refl;
          right = record { clause = tautology; there = refl; moves = []; moved = tt; redundant = refl; justified = refl };
          irreducible = tt;
        },
      );
    },
    tt,
  ),
)

-- every symbol but the predicates is a constant
abbrev usage : SymbolUse
usage = record { is_predicate = is_predicate; arity = λ f. 0 }

are_inputs : AreInputs one_tautology.inputs
are_inputs = record {
  canonical = All-cons IsCanonical tautology [] refl (All-nil IsCanonical);
  no_names = All-cons (λ (c : TreeClause). c.names ≡ []) tautology [] refl (All-nil (λ (c : TreeClause). c.names ≡ []));
  small =
      All-cons (λ (c : TreeClause). clause_size c ≤ MOST_SYMBOLS) tautology [] (omega arith) (All-nil (λ (c : TreeClause). clause_size c ≤ MOST_SYMBOLS));
  few = omega arith;
  well_formed = record { usage = usage; used = refl };
}

pub nothing_saturated : SaturatedIsSaturated → IsSaturated functions select_negative one_tautology.inputs []
nothing_saturated law =
    law usage functions one_tautology tautology_history are_inputs refl
    (All-cons (HasSymbolsOf functions) tautology [] refl (All-nil (HasSymbolsOf functions))) tautology_goes refl
