-- A turn as a whole: what a claim and what follows it add together.
use Rattle.std.proofs.Common.{◌≡◌, ℕ, suc, true, false, List, [], ◌∷◌, ◌++◌, length, refl, ap, sym, subst, inl, inr, arith}
use Rattle.std.specs.Prelude.{Result, Ok, Err}
use Rattle.std.proofs.lemmas.Bool.{true≢false}
use Rattle.plain_types.specs.declared.memory.NoMemory.{NoMemory}
use Rattle.term_bank.specs.declared.bank.Bank.{Bank}
use Rattle.pool_history.specs.declared.outcome.Outcome.{Outcome}
use Rattle.pool_history.specs.declared.ticket.Ticket.{Ticket}
use Rattle.pool_history.specs.declared.ticket.PropTicket.{PropTicket}
use Rattle.pool_history.specs.declared.ticket.Claimed.TheVariants.{Given, Solve, Idle, Ended}
use Rattle.pool_history.specs.declared.event.Event.TheVariants.{Claim, ClaimSolve}
use Rattle.worker_team.specs.Passes.{HasClaimed, PoolPass, stands_for}
use Rattle.worker_team.specs.Jobs.{HasDoneClause, HasDoneSolving}
use Rattle.worker_team.specs.Team.{HasEndedTurn, Waits}
use Rattle.worker_team.specs.Workers.{Knows}
use Rattle.worker_team.specs.declared.job.Known.{Known}
use Rattle.worker_team.specs.declared.worker.Knowledge.{Knowledge}
use Rattle.worker_team.proofs.TurnLemmas.{adds-then}
use Rattle.worker_team.proofs.ClaimedLemmas.{stands-claimed, waits-claimed}
use Rattle.worker_team.proofs.JobLemmas.{knows-still}

not-empty : {X : Type 0} (x : X) (xs : List X) → x ∷ xs ≡ [] → ⊥
not-empty x xs none = let more : suc (length xs) ≡ 0 = ap length none in omega (arith, more)

module _ (bank : Bank) (p q : PoolPass) (told : ℕ) where
  -- ---- a job on a clause

  pub clause-turn :
      (r : PoolPass) (ticket : Ticket) (known : Result Known NoMemory)
      → HasClaimed bank p told q (Ok (Given ticket)) → HasDoneClause bank q ticket.job r known → HasEndedTurn bank p r known
  clause-turn r ticket (Ok k) claimed done =
      let ends = done.done in
      record {
        pass = done.pass;
        known = done.known;
        done = record {
          mine = Claim ticket.job ∷ ends.refused ++ ends.last ∷ [];
          events =
              inr (inr (record { job = ticket.job; refused = ends.refused; stale = ends.stale; last = ends.last; ended = ends.ended; events = refl }));
          adds = adds-then p q r (Claim ticket.job ∷ []) (ends.refused ++ ends.last ∷ []) claimed.adds ends.adds;
          outcome = done.known.stands;
          waits = λ none. absurd (not-empty _ _ none);
        };
        broken = tt;
      }
  clause-turn r ticket (Err e) claimed done =
      let ends = done.broken in
      record {
        pass = done.pass;
        known = tt;
        done = tt;
        broken = record {
          mine = Claim ticket.job ∷ ends.refused ++ ends.last ∷ [];
          events =
              inr (inr (record { job = ticket.job; refused = ends.refused; stale = ends.stale; last = ends.last; ended = ends.ended; events = refl }));
          adds = adds-then p q r (Claim ticket.job ∷ []) (ends.refused ++ ends.last ∷ []) claimed.adds ends.adds;
        };
      }

  -- ---- the solver's

  pub solver-turn :
      (r : PoolPass) (ticket : PropTicket) (known : Result Known NoMemory)
      → HasClaimed bank p told q (Ok (Solve ticket)) → HasDoneSolving bank q ticket.job r known → HasEndedTurn bank p r known
  solver-turn r ticket (Ok k) claimed done =
      let one = done.done in
      record {
        pass = done.pass;
        known = done.known;
        done = record {
          mine = ClaimSolve ticket.job ∷ one.event ∷ [];
          events = inr (inl (record { job = ticket.job; last = one.event; ended = one.is_kind; events = refl }));
          adds = adds-then p q r (ClaimSolve ticket.job ∷ []) (one.event ∷ []) claimed.adds one.adds;
          outcome = done.known.stands;
          waits = λ none. absurd (not-empty _ _ none);
        };
        broken = tt;
      }
  solver-turn r ticket (Err e) claimed done =
      let one = done.broken in
      record {
        pass = done.pass;
        known = tt;
        done = tt;
        broken = record {
          mine = ClaimSolve ticket.job ∷ one.event ∷ [];
          events = inr (inl (record { job = ticket.job; last = one.event; ended = one.is_kind; events = refl }));
          adds = adds-then p q r (ClaimSolve ticket.job ∷ []) (one.event ∷ []) claimed.adds one.adds;
        };
      }

  -- ---- no job

  pub idle-turn :
      (n : ℕ) (knowledge : Knowledge)
      → Knows bank p knowledge → HasClaimed bank p told q (Ok (Idle n))
      → HasEndedTurn bank p q (Ok (record { knowledge = knowledge; stands = false }))
  idle-turn n knowledge knows claimed =
      let waits : Waits q = waits-claimed bank p q told n claimed in
      record {
        pass = claimed.pass;
        known = record { knows = knows-still p q [] claimed.adds bank knowledge knows; stands = sym waits.0 };
        done = record { mine = []; events = inl refl; adds = claimed.adds; outcome = sym waits.0; waits = λ none running. waits };
        broken = tt;
      }

  pub ended-turn :
      (outcome : Outcome) (knowledge : Knowledge)
      → Knows bank p knowledge → HasClaimed bank p told q (Ok (Ended outcome))
      → HasEndedTurn bank p q (Ok (record { knowledge = knowledge; stands = true }))
  ended-turn outcome knowledge knows claimed =
      let stands : stands_for q ≡ true = stands-claimed bank p q told outcome claimed in
      record {
        pass = claimed.pass;
        known = record { knows = knows-still p q [] claimed.adds bank knowledge knows; stands = sym stands };
        done = record { mine = []; events = inl refl; adds = claimed.adds; outcome = sym stands; waits = λ none running. absurd (true≢false running) };
        broken = tt;
      }

  pub refused-turn : (known : Result Known NoMemory) (e : NoMemory) → known ≡ Err e → HasClaimed bank p told q (Err e) → HasEndedTurn bank p q known
  refused-turn known e same claimed =
      subst (HasEndedTurn bank p q) (sym same)
      (record { pass = claimed.pass; known = tt; done = tt; broken = record { mine = []; events = inl refl; adds = claimed.adds } })
