-- What an answer to a claim leaves: a ticket of a clause, the solver's ticket, a wait, or an outcome.
use Rattle.std.proofs.Common.{◌≡◌, ℕ, ◌<◌, ◌==◌, Bool, true, false, not, ◌&&◌, length, refl, ap, ap₂, sym, ◌∙◌, subst, arith}
use Rattle.std.specs.Prelude.{Option, None, Some, Ok, IsFalse, is_some, position, if◌then◌else◌}
use Rattle.std.proofs.lemmas.Bool.{eqb-true}
use Rattle.std.proofs.lemmas.List.{length-map, take_all}
use Rattle.fol_base.specs.WellFormed.{SymbolUse}
use Rattle.term_bank.specs.declared.bank.Bank.{Bank}
use Rattle.sat_core.specs.Clause.{names_below}
use Rattle.pool_history.specs.Tags.{name_count}
use Rattle.pool_history.specs.Record.{PoolRecord, PropositionalClause, SolverJob, jobs_out, propositional_clauses}
use Rattle.pool_history.specs.Solving.{handed, must_solve}
use Rattle.pool_history.specs.Claiming.{can_give}
use Rattle.pool_history.specs.Outcomes.{heavy_or_saturated, is_of_living, outcome_by, outcome_of}
use Rattle.pool_history.specs.Replay.{Origin, after, replay}
use Rattle.pool_history.specs.Lawful.{IsSolverOut}
use Rattle.pool_history.specs.Answers.{IsSolverTicket}
use Rattle.pool_history.specs.declared.options.Options.{Options}
use Rattle.pool_history.specs.declared.outcome.Outcome.{Outcome}
use Rattle.pool_history.specs.declared.ticket.Ticket.{Ticket}
use Rattle.pool_history.specs.declared.ticket.PropTicket.{PropTicket}
use Rattle.pool_history.specs.declared.ticket.Claimed.TheVariants.{Given, Solve, Idle, Ended}
use Rattle.pool_history.specs.declared.event.Event.TheVariants.{Claim, ClaimSolve}
use Rattle.pool_history.proofs.AboutClaims.HistoryLemmas.{replay-end}
use Rattle.pool_history.proofs.AboutLines.BeginningLemmas.{names_are_met}
use Rattle.worker_team.specs.Passes.{HasClaimed, IsGiven, IsPassOf, PoolPass, origin_of, record_of, stands_for}
use Rattle.worker_team.specs.Jobs.{IsAsked}
use Rattle.worker_team.specs.Team.{Waits}
use Rattle.worker_team.proofs.KeyLemmas.{owned-added}

module _ (bank : Bank) (p q : PoolPass) (told : ℕ) where
  -- ---- a clause

  pub given-claimed : (ticket : Ticket) → HasClaimed bank p told q (Ok (Given ticket)) → IsGiven q told ticket
  given-claimed ticket is = record {
    answers = is.answer.1.5;
    of_bank = is.of_bank;
    owned = owned-added p q (Claim ticket.job) is.adds;
  }

  -- ---- the propositional clauses

  handed-all :
      (options : Options) (r : PoolRecord) (ticket : PropTicket)
      → IsSolverTicket r ticket
      → let s : PoolRecord = after options r (ClaimSolve ticket.job) in
      IsSolverOut s ticket.job (λ (j : SolverJob). (handed s j ≡ ticket.clauses) × (j.names ≡ ticket.names))
  handed-all options r ticket is = record {
    solver = record { job = ticket.job; clauses = length r.propositional; names = name_count r.parts };
    out = refl;
    same = refl;
    says = (
      take_all (length r.propositional) (propositional_clauses r)
          (omega (arith, length-map r.propositional (λ (c : PropositionalClause). c.names)))
          ∙ sym is.clauses,
      sym is.names,
    );
  }

  pub asked-claimed : (ticket : PropTicket) → IsPassOf bank q → HasClaimed bank p told q (Ok (Solve ticket)) → IsAsked q ticket
  asked-claimed ticket of is =
      let origin : Origin = origin_of q in
      let r : PoolRecord = replay origin is.answer.0 in
      let s : PoolRecord = after origin.options r (ClaimSolve ticket.job) in
      let now : record_of q ≡ s = ap (replay origin) is.answer.1.2 ∙ replay-end origin is.answer.0 (ClaimSolve ticket.job) in
      let same : IsSolverTicket r ticket = is.answer.1.3 in
      let usage : SymbolUse = of.inputs.well_formed.usage in
      record {
        out =
            subst (λ (t : PoolRecord). IsSolverOut t ticket.job (λ (j : SolverJob). (handed t j ≡ ticket.clauses) × (j.names ≡ ticket.names))) (sym now)
            (handed-all origin.options r ticket same);
        all = ap propositional_clauses now ∙ sym same.clauses;
        below =
            ap₂ names_below (same.names ∙ ap (λ (t : PoolRecord). name_count t.parts) (sym now))
            (same.clauses ∙ ap propositional_clauses (sym now))
            ∙ names_are_met usage origin q.seen of.inputs of.inputs.well_formed.used (of.lawful usage of.inputs.well_formed.used);
        owned = owned-added p q (ClaimSolve ticket.job) is.adds;
      }

  -- ---- no job

  not-zero : (n : ℕ) → 0 < n → (n == 0) ≡ false
  not-zero n some = by (n == 0) refl
    where
      by : (b : Bool) → (n == 0) ≡ b → (n == 0) ≡ false
      by true is = let none : n ≡ 0 = eqb-true n 0 is in absurd (omega (arith, some, none))
      by false is = is

  no-outcome : (a b : Bool) (o : Outcome) → is_some (if not a && (not b && false) then Some o else None) ≡ false
  no-outcome true b o = refl
  no-outcome false true o = refl
  no-outcome false false o = refl

  -- no outcome stands while a job is out
  busy : (r : PoolRecord) → r.ended ≡ None → 0 < jobs_out r → is_some (outcome_of r) ≡ false
  busy r running some =
      let o : Outcome = heavy_or_saturated (position (is_of_living r) r.set_aside) in
      ap (λ (e : Option Outcome). is_some (outcome_by e r)) running
      ∙ ap (λ (b : Bool). is_some (if not (must_solve r) && (not (can_give r) && b) then Some o else None)) (not-zero (jobs_out r) some)
      ∙ no-outcome (must_solve r) (can_give r) o

  pub waits-claimed : (n : ℕ) → HasClaimed bank p told q (Ok (Idle n)) → Waits q
  waits-claimed n is =
      let origin : Origin = origin_of q in
      let r : PoolRecord = replay origin is.answer.0 in
      let some : 0 < jobs_out r = subst (λ (k : ℕ). 0 < k) is.answer.1.3 is.answer.1.4 in
      let now : record_of q ≡ r = ap (replay origin) is.answer.1.5 in
      subst
      (λ (t : PoolRecord). IsFalse (is_some (outcome_of t)) × IsFalse (must_solve t) × IsFalse (can_give t) × (0 < jobs_out t)) (sym now)
      (busy r is.answer.1.0 some, is.answer.1.1, is.answer.1.2, some)

  pub stands-claimed : (outcome : Outcome) → HasClaimed bank p told q (Ok (Ended outcome)) → stands_for q ≡ true
  stands-claimed outcome is =
      let origin : Origin = origin_of q in
      ap (λ h. is_some (outcome_of (replay origin h))) is.answer.1.1 ∙ ap is_some is.answer.1.0
