-- Worked histories that are lawful, and events that aren't allowed.
use Rattle.std.proofs.Common.{◌≡◌, ℕ, true, false, [], ◌∷◌, ◌++◌, List, refl, ap, sym, ◌∙◌, subst, inl, inr, arith}
use Rattle.std.specs.Prelude.{take, IsTrue}
use Rattle.std.proofs.lemmas.Bool.{true≢false}
use Rattle.std.proofs.lemmas.Option.{none-some, same_Some}
use Rattle.plain_types.specs.Names.{positive_of, negative_of}
use Rattle.fol_base.specs.Examples.{x, a, p, equation, clause, all_a, is_predicate}
use Rattle.fol_base.specs.Subsumption.{is_among}
use Rattle.sat_core.specs.Answer.{IsRightLog}
use Rattle.sat_core.specs.Clause.{valuation_of, clauses_true}
use Rattle.sat_core.specs.Resolution.{ends_empty}
use Rattle.pool_history.specs.Lawful.{IsLawful}
use Rattle.pool_history.specs.Record.{PoolRecord, SolverJob}
use Rattle.pool_history.specs.Replay.{Origin, replay}
use Rattle.pool_history.specs.Solving.{handed}
use Rattle.kernel_steps.specs.Moves.{units_of}
use Rattle.laws_pool_examples.specs.Examples.{pool_of, three, split, justified, removing, parted, signed, signed_log, signed_history, return, removal}
use Rattle.pool_history.specs.declared.batch.Fate.TheVariants.{Dropped}
use Rattle.pool_history.specs.declared.batch.Redundancy.TheVariants.{Tautology, Subsumed}
use Rattle.pool_history.specs.declared.batch.Work.TheVariants as work
use Rattle.pool_history.specs.declared.event.Event.TheVariants as event

-- ---- lawful histories

pub tautology_goes :
    IsLawful is_predicate (pool_of (clause (equation a a ∷ []) ∷ []))
    (event.Claim 1 ∷ return 1 (work.Gone (removal 0 [] (Dropped Tautology))) ∷ [])
tautology_goes = (
  ((refl, refl), refl, refl),
  (
    record {
      given = _;
      out = refl;
      says = (
        refl,
        refl,
        record {
          victim = refl;
          right = record { clause = clause (equation a a ∷ []); there = refl; moves = []; moved = tt; redundant = refl; justified = refl };
          irreducible = tt;
        },
      );
    },
    tt,
  ),
)

pub subsumed_goes :
    IsLawful is_predicate (pool_of (clause (p (x 0) ∷ []) ∷ clause (p a ∷ []) ∷ []))
    (event.Claim 1 ∷ event.Claim 2 ∷ return 2 (work.Gone (removal 1 (0 ∷ []) (Dropped (Subsumed 0)))) ∷ [])
subsumed_goes = (
  ((refl, refl), refl, refl),
  (
    ((refl, refl), refl, refl),
    (
      record {
        given = _;
        out = refl;
        says = (
          refl,
          refl,
          record {
            victim = refl;
            right =
                record {
                  clause = clause (p a ∷ []);
                  there = refl;
                  moves = [];
                  moved = tt;
                  redundant =
                      record {
                        clause = clause (p (x 0) ∷ []);
                        there = refl;
                        infers =
                            record {
                              matcher = all_a;
                              function_terms = λ v. refl;
                              places = 0 ∷ [];
                              different = refl;
                              mapped = refl;
                              asserted = refl;
                            };
                      };
                  justified = refl;
                };
            irreducible = tt;
          },
        );
      },
      tt,
    ),
  ),
)

pub given_up : IsLawful is_predicate three (event.Claim 1 ∷ event.Abandon 1 ∷ event.Claim 2 ∷ [])
given_up = (
  ((refl, refl), refl, refl),
  (inl (record { given = _; out = refl; says = tt }), (((refl, refl), refl, refl), tt)),
)

pub solver_and_clause : IsLawful is_predicate split (event.ClaimSolve 1 ∷ event.Claim 2 ∷ [])
solver_and_clause = (((refl, refl), refl), (((refl, refl), refl, refl), tt))

pub solver_given_up : IsLawful is_predicate split (event.ClaimSolve 1 ∷ event.Abandon 1 ∷ event.ClaimSolve 2 ∷ [])
solver_given_up = (
  ((refl, refl), refl),
  (inr (record { solver = _; out = refl; same = refl; says = tt }), (((refl, refl), refl), tt)),
)

pub log_returned : IsLawful is_predicate signed signed_history
log_returned = (
  ((refl, refl), refl),
  (record { solver = _; out = refl; same = refl; says = record { made = _; lawful = refl; empty = refl } }, tt),
)

-- ---- what isn't allowed

pub number_of_solver : IsLawful is_predicate split (event.ClaimSolve 1 ∷ event.Claim 1 ∷ []) → ⊥
number_of_solver h = let same : ◌≡◌ {A = ℕ} 1 2 = h.1.0.0.0 in absurd (omega (arith, same))

pub number_given_up : IsLawful is_predicate three (event.Claim 1 ∷ event.Abandon 1 ∷ event.Claim 1 ∷ []) → ⊥
number_given_up h = let same : ◌≡◌ {A = ℕ} 1 2 = h.1.1.0.0.0 in absurd (omega (arith, same))

pub justifier_lives : IsLawful is_predicate justified (take 3 removing ++ event.Stale 3 0 ∷ []) → ⊥
justifier_lives h = true≢false (sym h.1.1.1.0.says.1)

pub number_twice : IsLawful is_predicate three (event.Claim 1 ∷ event.Claim 1 ∷ []) → ⊥
number_twice h = let same : ◌≡◌ {A = ℕ} 1 2 = h.1.0.0.0 in absurd (omega (arith, same))

pub solver_first : IsLawful is_predicate split (event.Claim 1 ∷ []) → ⊥
solver_first h = true≢false h.0.1

pub nothing_to_solve : IsLawful is_predicate three (event.ClaimSolve 1 ∷ []) → ⊥
nothing_to_solve h = true≢false (sym h.0.1)

-- ---- wrong answers of the solver

-- the job on two parts, and that on the four clauses
abbrev parts_job : SolverJob
parts_job = record { job = 1; clauses = 1; names = 2 }

abbrev signed_job : SolverJob
signed_job = record { job = 1; clauses = 4; names = 2 }

abbrev solving : Origin → PoolRecord
solving origin = replay origin (event.ClaimSolve 1 ∷ [])

pub wrong_model : IsLawful is_predicate parted (event.ClaimSolve 1 ∷ event.ReturnModel 1 (false ∷ false ∷ []) ∷ []) → ⊥
wrong_model h =
    let back = h.1.0 in
    let is : parts_job ≡ back.solver = same_Some parts_job back.solver back.out in
    true≢false
    (sym
    (subst (λ (s : SolverJob). IsTrue (clauses_true (valuation_of (false ∷ false ∷ [])) (handed (solving parted) s))) (sym is) back.says.makes_true))

pub short_model : IsLawful is_predicate parted (event.ClaimSolve 1 ∷ event.ReturnModel 1 (true ∷ []) ∷ []) → ⊥
short_model h =
    let back = h.1.0 in
    let is : parts_job ≡ back.solver = same_Some parts_job back.solver back.out in
    let same : ◌≡◌ {A = ℕ} 1 2 = subst (λ (s : SolverJob). ◌≡◌ {A = ℕ} 1 s.names) (sym is) back.says.complete in
    absurd (omega (arith, same))

-- the first two chains make two clauses, of which neither is empty
pub wrong_log : IsLawful is_predicate signed (event.ClaimSolve 1 ∷ event.ReturnRefuted 1 (take 2 signed_log) ∷ []) → ⊥
wrong_log h =
    let back = h.1.0 in
    let is : signed_job ≡ back.solver = same_Some signed_job back.solver back.out in
    let right = subst (λ (s : SolverJob). IsRightLog (handed (solving signed) s) (take 2 signed_log)) (sym is) back.says in
    true≢false (sym right.empty ∙ ap ends_empty (sym (same_Some ((positive_of 1 ∷ positive_of 1 ∷ []) ∷ (negative_of 1 ∷ negative_of 1 ∷ []) ∷ []) right.made right.lawful)))

-- ---- other events

pub not_out : IsLawful is_predicate three (return 1 (work.Met [] []) ∷ []) → ⊥
not_out h = none-some _ h.0.out

pub not_void : IsLawful is_predicate three (event.Claim 1 ∷ event.Void 1 ∷ []) → ⊥
not_void h = true≢false (sym h.1.0.says)

pub never_given : IsLawful is_predicate three (event.Abandon 1 ∷ []) → ⊥
never_given h = elim h.0 as (λ o. ⊥) [ inl g ↦ none-some _ g.out | inr s ↦ none-some _ s.out ]

more_than_none : (ns : List ℕ) (n : ℕ) → IsTrue (is_among (ns ++ n ∷ []) []) → ⊥
more_than_none [] n h = true≢false (sym h)
more_than_none (m ∷ ms) n h = true≢false (sym h)

pub justifier_missing :
    IsLawful is_predicate (pool_of (clause (p (x 0) ∷ []) ∷ clause (p a ∷ []) ∷ []))
    (event.Claim 1 ∷ event.Claim 2 ∷ return 2 (work.Gone (removal 1 [] (Dropped (Subsumed 0)))) ∷ []) → ⊥
justifier_missing h =
    let right = h.1.1.0.says.2.right in
    more_than_none (units_of right.moves) 0 right.justified
