use Rattle.std.proofs.Common.{◌≡◌, ℕ, zero, suc, ◌<◌, false, true, ◌||◌, ◌==◌, List, [], ◌∷◌, Some, refl, ap₂, sym, ◌∙◌, subst, arith, ⊎_elim}
use Rattle.std.specs.Prelude.{slice_get, IsTrue}
use Rattle.std.specs.List.{list_all}
use Rattle.std.proofs.lemmas.Bool.{ne_eqb, eqb-true, or_cases, and_parts, false≢true}
use Rattle.std.proofs.lemmas.Option.{none-some, same_Some}
use Rattle.kernel_steps.specs.declared.step.Step.{Step}
use Rattle.kernel_steps.specs.declared.step.Step.TheVariants.{Clausify}
use Rattle.kernel_steps.specs.declared.step.Line.{Line}
use Rattle.pool_writer.proofs.AboutRetracing.ExampleLemmas.{unneeded-refutes}
use Rattle.tstp_writer.specs.Cone.{has_number, itself, needs_step, IsClosedBy, IsNeededBy}
use Rattle.pool_writer.specs.Retraced.{steps_of, IsRetraced}
use Rattle.pool_writer.specs.RetracedExamples.{with_unneeded, needed_numbers, needed_alone}
use Rattle.pool_writer.proofs.laws.retracing.retracing_examples.Goals as goal

-- a number of a list whose numbers are all in another
within : (ms ns : List ℕ) (n : ℕ) → list_all (has_number ns) ms ≡ true → has_number ms n ≡ true → has_number ns n ≡ true
within [] ns n all has = absurd (false≢true has)
within (m ∷ ms) ns n all has =
    let parts = and_parts (has_number ns m) (list_all (has_number ns) ms) all in
    ⊎_elim (λ same. subst (λ k. has_number ns k ≡ true) (eqb-true m n same) parts.0) (λ later. within ms ns n parts.1 later)
    (or_cases (m == n) (has_number ms n) has)

-- what a step that stands in the list needs is needed
needs-found : (s step other : Step) (m : ℕ) → Some s ≡ Some step → needs_step step m other ≡ true → needs_step s m other ≡ true
needs-found s step other m at need = subst (λ (t : Step). needs_step t m other ≡ true) (sym (same_Some s step at)) need

closed : IsClosedBy itself (steps_of with_unneeded) (has_number needed_numbers)
closed zero m step other at other_at inside need = absurd (false≢true inside)
closed (suc zero) m step other at other_at inside need = absurd (false≢true (needs-found (Clausify 0) step other m at need))
closed (suc (suc zero)) m step other at other_at inside need = absurd (false≢true (needs-found (Clausify 1) step other m at need))
closed (suc (suc (suc zero))) m step other at other_at inside need =
    within (1 ∷ 2 ∷ []) needed_numbers m refl (needs-found _ step other m at need)
closed (suc (suc (suc (suc zero)))) m step other at other_at inside need =
    within (3 ∷ []) needed_numbers m refl (needs-found _ step other m at need)
closed (suc (suc (suc (suc (suc n))))) m step other at other_at inside need = absurd (none-some step at)

none-past : (n : ℕ) → 4 < n → has_number needed_numbers n ≡ false
none-past n h = ap₂ ◌||◌ (differs 1 (omega (arith, h))) (ap₂ ◌||◌ (differs 2 (omega (arith, h))) (ap₂ ◌||◌ (differs 3 (omega (arith, h))) (ap₂ ◌||◌ (differs 4 h) refl)))
  where
    differs : (m : ℕ) → m < n → (m == n) ≡ false
    differs m less = ne_eqb m n (λ e. omega (arith, less, e))

needed : (n : ℕ) → IsTrue (has_number needed_numbers n) → IsNeededBy itself (steps_of with_unneeded) 4 n
needed zero has = absurd (false≢true has)
needed (suc zero) has = λ set last all. all 3 1 _ _ refl refl (all 4 3 _ _ refl refl last refl) refl
needed (suc (suc zero)) has = λ set last all. all 3 2 _ _ refl refl (all 4 3 _ _ refl refl last refl) refl
needed (suc (suc (suc zero))) has = λ set last all. all 4 3 _ _ refl refl last refl
needed (suc (suc (suc (suc zero)))) has = λ set last all. last
needed (suc (suc (suc (suc (suc n))))) has = absurd (false≢true (sym (none-past (suc (suc (suc (suc (suc n))))) (omega arith)) ∙ has))

each : (place : ℕ) (line : Line) → slice_get needed_alone place ≡ Some line → IsRetraced needed_numbers with_unneeded place line
each zero line at =
    subst (IsRetraced needed_numbers with_unneeded 0) (same_Some _ line at)
    (record { number = 1; numbered = refl; line = _; there = refl; step = refl; clause = refl })
each (suc zero) line at =
    subst (IsRetraced needed_numbers with_unneeded 1) (same_Some _ line at)
    (record { number = 2; numbered = refl; line = _; there = refl; step = refl; clause = refl })
each (suc (suc zero)) line at =
    subst (IsRetraced needed_numbers with_unneeded 2) (same_Some _ line at)
    (record { number = 3; numbered = refl; line = _; there = refl; step = refl; clause = refl })
each (suc (suc (suc zero))) line at =
    subst (IsRetraced needed_numbers with_unneeded 3) (same_Some _ line at)
    (record { number = 4; numbered = refl; line = _; there = refl; step = refl; clause = refl })
each (suc (suc (suc (suc n)))) line at = absurd (none-some line at)

pub returns-clause-refuting : goal.returns-clause-refuting
returns-clause-refuting c = unneeded-refutes

pub returns-clause-unneeded_kept : goal.returns-clause-unneeded_kept
returns-clause-unneeded_kept c are = false≢true ((are.exact 0).0 refl (has_number needed_numbers) refl closed)

pub returns-clause-needed : goal.returns-clause-needed
returns-clause-needed c = record {
  rising = ((omega arith, (omega arith, (omega arith, tt))), ((omega arith, (omega arith, tt)), ((omega arith, tt), (tt, tt))));
  exact = λ n. (needed n, λ need. need (has_number needed_numbers) refl closed);
}

pub returns-clause-lines : goal.returns-clause-lines
returns-clause-lines c = record { count = refl; each = each }
