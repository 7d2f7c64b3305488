-- Once the pool is refuted or spent, nothing is registered or counted, no line is written, and no clause dies.
use Rattle.std.proofs.Common.{◌≡◌, ℕ, ◌+◌, Bool, List, [], ◌∷◌, ◌++◌, refl, ap, sym, ◌∙◌, subst}
use Rattle.std.specs.Prelude.{Option, None, Some, is_none}
use Rattle.std.proofs.lemmas.Bool.{cond-false}
use Rattle.kernel_steps.specs.Split.{has_number}
use Rattle.sat_core.specs.declared.answer.Chain as log
use Rattle.pool_history.specs.Record.{PoolRecord, GivenJob, SolverJob, given_job, without_job}
use Rattle.pool_history.specs.Claiming.{next_given, given_out, claimed_by}
use Rattle.pool_history.specs.Returning.{worked, becomes_active, returns_to}
use Rattle.pool_history.specs.Solving.{modelled_by, refuted_by}
use Rattle.pool_history.specs.Replay.{after, start, replay}
use Rattle.pool_history.specs.Laws.{NothingComesAfter}
use Rattle.pool_history.specs.declared.options.Options.{Options}
use Rattle.pool_history.specs.declared.batch.Batch.{Batch}
use Rattle.pool_history.specs.declared.outcome.Outcome.{Outcome}
use Rattle.pool_history.specs.declared.event.Event.{Event}
use Rattle.pool_history.specs.declared.event.Event.TheVariants.{Claim, Return, Stale, Void, ClaimSolve, ReturnModel, ReturnRefuted, Abandon}
use Rattle.pool_history.proofs.AboutRecords.FrameLemmas.{by-if}
use Rattle.pool_history.proofs.AboutClaims.HistoryLemmas.{later_of, later-append}

-- what an event leaves of a record that ended
record Leaves (r s : PoolRecord) : Type 0 where
  pub ended : s.ended ≡ r.ended
  pub parts : s.parts ≡ r.parts
  pub registered : s.registered ≡ r.registered
  pub propositional : s.propositional ≡ r.propositional
  pub lines : s.lines ≡ r.lines
  pub counted : s.counted ≡ r.counted
  pub deaths : s.deaths ≡ r.deaths

leaves-all : (r : PoolRecord) → Leaves r r
leaves-all r = record { ended = refl; parts = refl; registered = refl; propositional = refl; lines = refl; counted = refl; deaths = refl }

leaves-then : (r s t : PoolRecord) → Leaves r s → Leaves s t → Leaves r t
leaves-then r s t first second = record {
  ended = second.ended ∙ first.ended;
  parts = second.parts ∙ first.parts;
  registered = second.registered ∙ first.registered;
  propositional = second.propositional ∙ first.propositional;
  lines = second.lines ∙ first.lines;
  counted = second.counted ∙ first.counted;
  deaths = second.deaths ∙ first.deaths;
}

module _ (options : Options) (outcome : Outcome) where
  claimed-leaves : (job : ℕ) (o : Option ℕ) (r : PoolRecord) → Leaves r (claimed_by options job o r)
  claimed-leaves job None r = leaves-all r
  claimed-leaves job (Some n) r =
      by-if (λ s. Leaves r (given_out options job n s)) (has_number n r.positions) r (record r { positions = r.positions ++ n ∷ [] })
      (record { ended = refl; parts = refl; registered = refl; propositional = refl; lines = refl; counted = refl; deaths = refl })
      (record { ended = refl; parts = refl; registered = refl; propositional = refl; lines = refl; counted = refl; deaths = refl })

  returned-leaves : (batch : Batch) (o : Option GivenJob) (r : PoolRecord) → r.ended ≡ Some outcome → Leaves r (returns_to options batch o r)
  returned-leaves batch None r ended = leaves-all r
  returned-leaves batch (Some j) r ended =
      let s : PoolRecord = record r { given = without_job batch.job r.given } in
      subst (Leaves r) (sym (cond-false (is_none r.ended) (worked options j.number batch.work s) (becomes_active j.number s) (ap is_none ended)))
      (record { ended = refl; parts = refl; registered = refl; propositional = refl; lines = refl; counted = refl; deaths = refl })

  modelled-leaves : (o : Option SolverJob) (truths : List Bool) (r : PoolRecord) → Leaves r (modelled_by o truths r)
  modelled-leaves None truths r = leaves-all r
  modelled-leaves (Some s) truths r = record { ended = refl; parts = refl; registered = refl; propositional = refl; lines = refl; counted = refl; deaths = refl }

  refuted-leaves : (o : Option SolverJob) (chains : List log.Chain) (r : PoolRecord) → r.ended ≡ Some outcome → Leaves r (refuted_by o chains r)
  refuted-leaves None chains r ended = leaves-all r
  refuted-leaves (Some s) chains r ended =
      subst (Leaves r) (sym (cond-false (is_none r.ended) _ (record r { solver = None }) (ap is_none ended)))
      (record { ended = refl; parts = refl; registered = refl; propositional = refl; lines = refl; counted = refl; deaths = refl })

  counted-event : (r s : PoolRecord) (count : ℕ) → Leaves r s → Leaves r (record s { events = count })
  counted-event r s count is = record {
    ended = is.ended;
    parts = is.parts;
    registered = is.registered;
    propositional = is.propositional;
    lines = is.lines;
    counted = is.counted;
    deaths = is.deaths;
  }

  after-leaves : (r : PoolRecord) (e : Event) → r.ended ≡ Some outcome → Leaves r (after options r e)
  after-leaves r (Claim job) ended = counted-event r _ (r.events + 1) (claimed-leaves job (next_given r) r)
  after-leaves r (Return batch) ended = counted-event r _ (r.events + 1) (returned-leaves batch (given_job r batch.job) r ended)
  after-leaves r (Stale job justifier) ended = record { ended = refl; parts = refl; registered = refl; propositional = refl; lines = refl; counted = refl; deaths = refl }
  after-leaves r (Void job) ended = record { ended = refl; parts = refl; registered = refl; propositional = refl; lines = refl; counted = refl; deaths = refl }
  after-leaves r (ClaimSolve job) ended = record { ended = refl; parts = refl; registered = refl; propositional = refl; lines = refl; counted = refl; deaths = refl }
  after-leaves r (ReturnModel job truths) ended = counted-event r _ (r.events + 1) (modelled-leaves r.solver truths r)
  after-leaves r (ReturnRefuted job chains) ended = counted-event r _ (r.events + 1) (refuted-leaves r.solver chains r ended)
  after-leaves r (Abandon job) ended = record { ended = refl; parts = refl; registered = refl; propositional = refl; lines = refl; counted = refl; deaths = refl }

  history-leaves : (es : List Event) (r : PoolRecord) → r.ended ≡ Some outcome → Leaves r (later_of options r es)
  history-leaves [] r ended = leaves-all r
  history-leaves (e ∷ es) r ended =
      let one = after-leaves r e ended in
      leaves-then r (after options r e) (later_of options r (e ∷ es)) one (history-leaves es (after options r e) (one.ended ∙ ended))

pub nothing_comes_after : NothingComesAfter
nothing_comes_after origin history later outcome ended =
    let is =
    subst (Leaves (replay origin history)) (sym (later-append origin.options history later (start origin)))
    (history-leaves origin.options outcome later (replay origin history) ended) in
    (is.parts, is.registered, is.propositional, is.lines, is.counted, is.deaths)
