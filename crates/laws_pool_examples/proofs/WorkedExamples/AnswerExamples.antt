-- Worked answers to claims and returns.
use Rattle.std.proofs.Common.{◌≡◌, ℕ, List, [], ◌∷◌, ◌++◌, take, Some, true, refl, sym, ◌∙◌, subst, true≢false, arith}
use Rattle.std.proofs.lemmas.Option.{none-some, same_Some}
use Rattle.fol_base.specs.Examples.{a}
use Rattle.pool_history.specs.Record.{GivenJob, lives}
use Rattle.pool_history.specs.Replay.{replay}
use Rattle.pool_history.specs.Answers.{IsAnswerToClaim, IsAnswerToReturn, TakesMemory, death_of, dead_justifier}
use Rattle.laws_pool_examples.specs.Examples.{pool_of, three, units, units_history, justified, removing, cut_by, limited, rewrites_history, return}
use Rattle.pool_history.specs.declared.batch.Work.TheVariants as work
use Rattle.pool_history.specs.declared.event.Event.{Event}
use Rattle.pool_history.specs.declared.ticket.Ticket.{Ticket}
use Rattle.pool_history.specs.declared.event.Event.TheVariants as event
use Rattle.pool_history.specs.declared.outcome.Outcome.TheVariants.{Refuted, Saturated}
use Rattle.pool_history.specs.declared.ticket.Back.TheVariants as back
use Rattle.pool_history.specs.declared.ticket.Claimed.TheVariants as answer

pub idle :
    IsAnswerToClaim three (event.Claim 1 ∷ event.Claim 2 ∷ event.Claim 3 ∷ []) 0 (answer.Idle 3)
    (event.Claim 1 ∷ event.Claim 2 ∷ event.Claim 3 ∷ [])
idle = (refl, refl, refl, refl, omega arith, refl)

pub ended : IsAnswerToClaim units units_history 0 (answer.Ended Refuted) units_history
ended = (refl, refl)

pub not_saturated : IsAnswerToClaim units (take 2 units_history) 0 (answer.Ended Saturated) (take 2 units_history) → ⊥
not_saturated h = none-some Saturated h.0

pub void :
    IsAnswerToReturn justified removing 0
    (record { job = 1; work = work.Met [] [] }) (back.Void 3) (removing ++ event.Void 1 ∷ [])
void = (record { given = _; out = refl; says = refl }, refl)

pub nothing_out : IsAnswerToClaim (pool_of []) [] 0 (answer.Idle 0) [] → ⊥
nothing_out h = absurd (omega (arith, h.4))

pub saturated : IsAnswerToClaim (pool_of []) [] 0 (answer.Ended Saturated) []
saturated = (refl, refl)

-- the third job, which was told all three clauses
abbrev third_job : GivenJob
third_job = record { job = 3; number = 2; told = 0 ∷ 1 ∷ 2 ∷ []; as_of = 3; left = 100 }

pub not_void :
    IsAnswerToReturn justified removing 0
    (record { job = 3; work = work.Gone (cut_by 1 (a ∷ [])) }) (back.Void 3) (removing ++ event.Void 3 ∷ []) → ⊥
not_void h =
    let is : third_job ≡ h.0.given = same_Some third_job h.0.given h.0.out in
    none-some 3 (subst (λ (j : GivenJob). death_of (replay justified removing) j.number ≡ Some 3) (sym is) h.0.says)

pub taken :
    IsAnswerToReturn justified removing 0
    (record { job = 3; work = work.Gone (cut_by 1 (a ∷ [])) }) back.Taken (removing ++ return 3 (work.Gone (cut_by 1 (a ∷ []))) ∷ [])
taken = (record { given = third_job; out = refl; says = refl }, refl, refl)

-- the justifier that has died
died : dead_justifier (replay justified removing) (work.Gone (cut_by 0 [])) ≡ Some 0
died = refl

pub not_taken :
    IsAnswerToReturn justified removing 0
    (record { job = 3; work = work.Gone (cut_by 0 []) }) back.Taken (removing ++ return 3 (work.Gone (cut_by 0 [])) ∷ []) → ⊥
not_taken h = none-some 0 (sym h.1 ∙ died)

pub first_dead :
    (ticket : Ticket) (new : List Event)
    → IsAnswerToReturn justified removing 0 (record { job = 3; work = work.Gone (cut_by 0 []) }) (back.Stale 1 3 ticket) new → ⊥
first_dead ticket new h = let same : ◌≡◌ {A = ℕ} 0 1 = same_Some 0 1 (sym died ∙ h.1) in absurd (omega (arith, same))

-- ---- memory

pub taken_with_memory : TakesMemory (replay justified removing) (record { job = 3; work = work.Gone (cut_by 1 (a ∷ [])) })
taken_with_memory = (record { given = third_job; out = refl; says = refl }, refl)

pub stale_with_memory : TakesMemory (replay justified removing) (record { job = 3; work = work.Gone (cut_by 0 []) })
stale_with_memory = (record { given = third_job; out = refl; says = refl }, refl)

-- the first job, whose clause has died
abbrev first_job : GivenJob
first_job = record { job = 1; number = 0; told = 0 ∷ []; as_of = 1; left = 100 }

pub void_without_memory : TakesMemory (replay justified removing) (record { job = 1; work = work.Met [] [] }) → ⊥
void_without_memory h =
    let is : first_job ≡ h.0.given = same_Some first_job h.0.given h.0.out in
    true≢false (sym (subst (λ (j : GivenJob). lives (replay justified removing) j.number ≡ true) (sym is) h.0.says))

pub spent_without_memory : TakesMemory (replay limited (take 3 rewrites_history)) (record { job = 1; work = work.Met [] [] }) → ⊥
spent_without_memory h = true≢false (sym h.1)
