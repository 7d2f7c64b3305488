-- The tries of a job on a clause, the solver's job, and the ends of both.
use Rattle.std.proofs.Common.{◌≡◌, ℕ, Bool, true, List, [], ◌∷◌, ◌++◌, length, append-nil, refl, ap, sym, ◌∙◌, subst, inl, inr}
use Rattle.std.specs.Prelude.{Result, Ok, Err}
use Rattle.std.proofs.lemmas.Bool.{eq-eqb}
use Rattle.plain_types.specs.declared.memory.NoMemory.{NoMemory}
use Rattle.plain_types.specs.declared.sequence.NameLit.{NameLit}
use Rattle.term_bank.specs.declared.bank.Bank.{Bank}
use Rattle.turn_lock.specs.History.{OwnsKeys}
use Rattle.sat_core.specs.Answer.{IsRightAnswer}
use Rattle.sat_core.specs.declared.answer.Answer.{Answer}
use Rattle.pool_history.specs.Events.{job_of}
use Rattle.pool_history.specs.Record.{propositional_clauses}
use Rattle.pool_history.specs.Solving.{handed}
use Rattle.pool_history.specs.Inputs.{IsHistoryOf}
use Rattle.pool_history.specs.Lawful.{IsOut, IsRightSolution}
use Rattle.pool_history.specs.Replay.{Origin, replay}
use Rattle.pool_history.specs.declared.ticket.Ticket.{Ticket}
use Rattle.pool_history.specs.declared.ticket.PropTicket.{PropTicket}
use Rattle.pool_history.specs.declared.event.Event.{Event}
use Rattle.pool_history.specs.declared.event.Event.TheVariants.{Abandon}
use Rattle.given_work.specs.View.{IndexView}
use Rattle.worker_team.specs.Solving.{IsModelOfFirst}
use Rattle.worker_team.specs.Turns.{Adds, StandAt, is_abandon_of}
use Rattle.worker_team.specs.Passes.{HasJob, IsGiven, IsIndexOf, IsPassOf, PoolPass, origin_of, record_of}
use Rattle.worker_team.specs.Backs.{HasBrought, HasGivenUp, HasSolved}
use Rattle.worker_team.specs.Jobs.{HasDoneClause, HasDoneSolving, IsAsked, IsTrying}
use Rattle.worker_team.specs.Workers.{Knows}
use Rattle.worker_team.specs.declared.back.Brought.{Brought}
use Rattle.worker_team.specs.declared.back.Brought.TheVariants.{Again, Done}
use Rattle.worker_team.specs.declared.worker.Knowledge.{Knowledge}
use Rattle.worker_team.proofs.TurnLemmas.{adds-nothing, adds-then}
use Rattle.worker_team.proofs.KeyLemmas.{none-came, out-still, owned-after}
use Rattle.worker_team.proofs.JobLemmas.{index-stays, model-known, same-origin, stale-more}

-- ---- a job that is still out

no-places : (list : List Event) (bound : ℕ) (places : List ℕ) → StandAt list bound places [] → places ≡ []
no-places list bound [] there = refl
no-places list bound (p ∷ ps) there = absurd there

-- where no event of the worker came, its job is out still
module _ (bank : Bank) (p q : PoolPass) (job : ℕ) (was : IsPassOf bank p) (now : IsPassOf bank q) (adds : Adds p q []) (owned : HasJob p job) where
  same-own : q.own ≡ p.own
  same-own =
      adds.own ∙ ap (λ (ps : List ℕ). p.own ++ ps) (no-places q.seen (length p.seen) adds.places adds.there) ∙ append-nil p.own

  pub still-out : IsOut (record_of p) job → IsOut (record_of q) job
  still-out out =
      let same : origin_of q ≡ origin_of p = same-origin p q [] adds in
      let keys : OwnsKeys job_of q.seen p.own = subst (OwnsKeys job_of q.seen) same-own now.keys in
      let none =
      none-came p.start p.seen (adds.seen).0 p.own job was.added (subst (λ h. OwnsKeys job_of h p.own) (sym (adds.seen).1) keys) owned in
      subst (λ (o : Origin). IsOut (replay o q.seen) job) (sym same)
      (out-still (origin_of p) p.seen q.seen adds.seen was.inputs (subst (λ (o : Origin). IsHistoryOf o q.seen) same now.lawful) job none out)

  pub still-owned : HasJob q job
  still-owned = owned-after p q [] job adds owned

pub given-out : (p : PoolPass) (told : ℕ) (ticket : Ticket) → IsGiven p told ticket → IsOut (record_of p) ticket.job
given-out p told ticket is = inl (record { given = is.answers.job; out = is.answers.out; says = tt })

abandoned : (job : ℕ) → is_abandon_of job (Abandon job) ≡ true
abandoned job = eq-eqb job job refl

-- ---- tries

module _ (bank : Bank) (job : ℕ) (before : PoolPass) where
  pub first-try :
      (knowledge : Knowledge) (ticket : Ticket)
      → IsPassOf bank before → Knows bank before knowledge → IsGiven before knowledge.index.told ticket → ticket.job ≡ job
      → IsTrying bank job before before knowledge.index ticket
  first-try knowledge ticket of knows given same = record {
    of_pool = of;
    index = knows.index;
    ticket = given;
    same = same;
    refused = [];
    stale = refl;
    adds = adds-nothing before;
  }

  module _ (p : PoolPass) (index : IndexView) (ticket : Ticket) (is : IsTrying bank job before p index ticket) where
    pub trying-out : IsOut (record_of p) job
    trying-out = subst (IsOut (record_of p)) is.same (given-out p index.told ticket is.ticket)

    pub trying-owned : HasJob p job
    trying-owned = subst (HasJob p) is.same is.ticket.owned

    -- what is said of the batch of this try
    pub brought-of :
        (q : PoolPass) (now : IndexView) (number told : ℕ) (was brought : Result Brought NoMemory)
        → number ≡ ticket.job → told ≡ now.told → was ≡ brought → HasBrought bank p number told q was → HasBrought bank p job now.told q brought
    brought-of q now number told was brought same told_is is_so has =
        subst (HasBrought bank p job now.told q) is_so
        (subst (λ (n : ℕ). HasBrought bank p job n q was) told_is
        (subst (λ (n : ℕ). HasBrought bank p n told q was) (same ∙ is.same) has))

    pub next-try :
        (q : PoolPass) (now : IndexView) (next : Ticket)
        → IsIndexOf bank p now → HasBrought bank p job now.told q (Ok (Again next)) → IsTrying bank job before q now next
    next-try q now next knows brought =
        let one = brought.answer.0 in
        record {
          of_pool = brought.pass;
          index = index-stays p q (one.event ∷ []) one.adds bank now knows;
          ticket = brought.answer.2;
          same = brought.answer.1;
          refused = is.refused ++ one.event ∷ [];
          stale = stale-more job is.refused one.event is.stale one.is_kind;
          adds = adds-then before p q is.refused (one.event ∷ []) is.adds one.adds;
        }

    pub try-done :
        (q : PoolPass) (knowledge : Knowledge) (now : IndexView) (stands : Bool)
        → Knows bank before knowledge → IsIndexOf bank p now → HasBrought bank p job now.told q (Ok (Done stands)) → (known : Knowledge)
        → known.index ≡ now → known.last ≡ knowledge.last
        → HasDoneClause bank before job q (Ok (record { knowledge = known; stands = stands }))
    try-done q knowledge now stands knew knows brought known index_is last_is =
        let one = brought.answer.0 in
        let adds = adds-then before p q is.refused (one.event ∷ []) is.adds one.adds in
        record {
          pass = brought.pass;
          known = record {
            knows = record {
              index = subst (IsIndexOf bank q) (sym index_is) (index-stays p q (one.event ∷ []) one.adds bank now knows);
              last =
                  subst (IsModelOfFirst (propositional_clauses (record_of q))) (sym last_is)
                  (model-known before q (is.refused ++ one.event ∷ []) adds knowledge.last knew.last);
            };
            stands = brought.answer.1;
          };
          done = record { refused = is.refused; stale = is.stale; last = one.event; ended = one.is_kind; adds = adds };
          broken = tt;
        }

    pub try-given-up : (q : PoolPass) (e : NoMemory) → HasGivenUp bank p job q → HasDoneClause bank before job q (Err e)
    try-given-up q e gave = record {
      pass = gave.pass;
      known = tt;
      done = tt;
      broken = record {
        refused = is.refused;
        stale = is.stale;
        last = Abandon job;
        ended = abandoned job;
        adds = adds-then before p q is.refused (Abandon job ∷ []) is.adds gave.adds;
      };
    }

    pub try-refused :
        (q r : PoolPass) (told : ℕ) (failed e : NoMemory)
        → HasBrought bank p job told q (Err failed) → HasGivenUp bank q job r → HasDoneClause bank before job r (Err e)
    try-refused q r told failed e brought gave = record {
      pass = gave.pass;
      known = tt;
      done = tt;
      broken = record {
        refused = is.refused;
        stale = is.stale;
        last = Abandon job;
        ended = abandoned job;
        adds =
            adds-then before p r is.refused (Abandon job ∷ []) is.adds (adds-then p q r [] (Abandon job ∷ []) brought.nothing gave.adds);
      };
    }

-- ---- the solver's job

module _ (bank : Bank) (p : PoolPass) (ticket : PropTicket) (is : IsAsked p ticket) where
  pub asked-out : IsOut (record_of p) ticket.job
  asked-out = inr (record { solver = is.out.solver; out = is.out.out; same = is.out.same; says = tt })

  pub asked-right : (answer : Answer) → IsRightAnswer ticket.names ticket.clauses answer → IsRightSolution (record_of p) ticket.job answer
  asked-right answer right = record {
    solver = is.out.solver;
    out = is.out.out;
    same = is.out.same;
    says =
        subst (λ (n : ℕ). IsRightAnswer n (handed (record_of p) is.out.solver) answer) (sym is.out.says.1)
        (subst (λ (cs : List (List NameLit)). IsRightAnswer ticket.names cs answer) (sym is.out.says.0) right);
  }

  pub asked-last : (knowledge : Knowledge) → Knows bank p knowledge → IsModelOfFirst ticket.clauses knowledge.last
  asked-last knowledge knows = subst (λ (cs : List (List NameLit)). IsModelOfFirst cs knowledge.last) is.all knows.last

  pub solving-done :
      (q : PoolPass) (knowledge : Knowledge) (stands : Bool) (known : Knowledge)
      → Knows bank p knowledge → IsModelOfFirst ticket.clauses known.last → known.index ≡ knowledge.index
      → HasSolved bank p ticket.job q (Ok stands) → HasDoneSolving bank p ticket.job q (Ok (record { knowledge = known; stands = stands }))
  solving-done q knowledge stands known knows last index_is solved =
      let one = solved.answer.0 in
      record {
        pass = solved.pass;
        known = record {
          knows = record {
            index = index-stays p q (one.event ∷ []) one.adds bank known.index (subst (IsIndexOf bank p) (sym index_is) knows.index);
            last =
                model-known p q (one.event ∷ []) one.adds known.last
                (subst (λ (cs : List (List NameLit)). IsModelOfFirst cs known.last) (sym is.all) last);
          };
          stands = solved.answer.1;
        };
        done = one;
        broken = tt;
      }

  pub solving-given-up : (q : PoolPass) (e : NoMemory) → HasGivenUp bank p ticket.job q → HasDoneSolving bank p ticket.job q (Err e)
  solving-given-up q e gave = record {
    pass = gave.pass;
    known = tt;
    done = tt;
    broken = record { event = Abandon ticket.job; is_kind = abandoned ticket.job; adds = gave.adds };
  }

  pub solving-refused :
      (q r : PoolPass) (failed e : NoMemory)
      → HasSolved bank p ticket.job q (Err failed) → HasGivenUp bank q ticket.job r → HasDoneSolving bank p ticket.job r (Err e)
  solving-refused q r failed e solved gave = record {
    pass = gave.pass;
    known = tt;
    done = tt;
    broken = record {
      event = Abandon ticket.job;
      is_kind = abandoned ticket.job;
      adds = adds-then p q r [] (Abandon ticket.job ∷ []) solved.nothing gave.adds;
    };
  }
