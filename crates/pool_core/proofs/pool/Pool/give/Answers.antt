use Rattle.std.proofs.Common.{◌≡◌, ◌++◌, [], ◌∷◌, ℕ, List, length, refl, ap, sym, ◌∙◌, subst, arith}
use Rattle.std.specs.Prelude.{Some, None, false}
use Rattle.pool_history.specs.Answers.{IsTicket}
use Rattle.pool_history.specs.Claiming.{next_given}
use Rattle.pool_core.specs.Noted.{IsNextTicket}
use Rattle.pool_history.specs.Record.{PoolRecord}
use Rattle.pool_history.specs.Replay.{replay}
use Rattle.pool_history.specs.Solving.{must_solve}
use Rattle.pool_core.specs.State.{origin_of}
use Rattle.pool_core.specs.KeptEvents.{events_of}
use Rattle.pool_history.specs.View.{PoolView}
use Rattle.pool_history.specs.declared.event.Event.{Event}
use Rattle.pool_history.specs.declared.event.Event.TheVariants.{Claim}
use Rattle.pool_core.proofs.AboutClaims.ClaimLemmas.{claimed-pool, claimed-ticket, activated-by, given-registered}
use Rattle.pool_history.proofs.AboutBounds.JobLemmas.{Rising}
use Rattle.pool_core.proofs.AboutClaims.StateLemmas.{record_of, kept-pool, pool-rises}
use Rattle.pool_history.proofs.AboutRecords.ItemLemmas.{item-at}
use Rattle.pool_core.proofs.pool.Pool.give.Goals as goal

pub invariant_of-self : goal.invariant_of-self
invariant_of-self c =
    kept-pool c.self.inside _ c.self.invariant (record {
      origin = refl;
      bank = refl;
      knows = λ ls known. known;
      register = refl;
      positions = c.take_claim_memory.ensures.positions;
      pairs = refl;
      spare = omega arith;
      jobs = c.in_err-take_claim_memory.ensures.no_job;
      history = c.take_claim_memory.ensures.events;
      history_len = c.take_claim_memory.ensures.events_len;
      history_room = c.take_claim_memory.ensures.events_kept;
      notes = c.take_claim_memory.ensures.notes;
      before = c.take_claim_memory.ensures.before;
      before_len = c.take_claim_memory.ensures.before_len;
      before_room = c.take_claim_memory.ensures.before_kept;
      steps = refl;
      counted = refl;
      set_aside = refl;
      ended = refl;
      splits = refl;
      asserting = refl;
      solver = refl;
      last_job = refl;
      place = refl;
    })

pub activate-requires-clause-there : goal.activate-requires-clause-there
activate-requires-clause-there c =
    given-registered c.self.inside c.args.number c.self.invariant
    (ap (λ (v : PoolView). next_given (replay v.origin v.history)) c.self.view_is ∙ c.requires.next)

pub invariant_of-self-2 : goal.invariant_of-self-2
invariant_of-self-2 c =
    let r : PoolRecord = record_of c.self.inside in
    let next : next_given r ≡ Some c.args.number = ap (λ (v : PoolView). next_given (replay v.origin v.history)) c.self.view_is ∙ c.requires.next in
    let open_yet : r.ended ≡ None = ap (λ (v : PoolView). (replay v.origin v.history).ended) c.self.view_is ∙ c.requires.open in
    let solved : must_solve r ≡ false = ap (λ (v : PoolView). must_solve (replay v.origin v.history)) c.self.view_is ∙ c.requires.solved in
    let is : IsNextTicket (origin_of c.self.inside) (events_of c.self.inside.history) c.args.told c.args.number c.in_ok-ticket.ticket =
    subst (λ (v : PoolView). IsNextTicket v.origin v.history c.args.told c.args.number c.in_ok-ticket.ticket) (sym c.self.view_is) c.in_ok-ticket.ensures.next in
    let there = item-at c.self.inside.proof.register.clauses c.args.number (given-registered c.self.inside c.args.number c.self.invariant next) in
    let many : c.len.result ≡ length c.self.inside.proof.notes.items = omega (arith, c.take_claim_memory.new.notes.ok.0, ap length c.take_claim_memory.ensures.notes) in
    claimed-pool c.self.inside _ c.args.number c.in_ok-ticket.ticket.job c.in_ok-ticket.ticket.left c.in_ok-ticket.ticket.position there.0
    c.self.invariant open_yet solved next there.1 is.job is.left is.position
    (activated-by c.self.inside _ c.args.number c.in_ok-ticket.ticket.position there.0 c.take_claim_memory.new.positions.items c.take_claim_memory.new.notes.items
    c.take_claim_memory.ensures.positions c.take_claim_memory.ensures.notes
    (c.activate.ensures.register there.0 there.1) c.activate.ensures.positions c.activate.ensures.notes)
    (record {
      origin = refl;
      table = refl;
      queue = c.remove.ensures.pairs;
      nodes = c.remove.ensures.nodes;
      jobs = c.in_ok-take_claim_memory.ensures.jobs;
      history = c.push.ensures.events ∙ ap (λ (es : List Event). es ++ Claim c.in_ok-ticket.ticket.job ∷ []) c.take_claim_memory.ensures.events;
      history_room =
          let room = c.in_ok-take_claim_memory.ensures.events_room in
          omega (arith, room, c.push.ensures.len, c.push.ensures.room, c.take_claim_memory.ensures.events_len);
      before =
          c.push_reserved.ensures.items ∙ ap (λ (ks : List ℕ). ks ++ c.len.result ∷ []) c.take_claim_memory.ensures.before
          ∙ ap (λ (k : ℕ). c.self.inside.notes_before.items ++ k ∷ []) many;
      before_room =
          let room = c.in_ok-take_claim_memory.ensures.before_room in
          omega (arith, room, c.push_reserved.ensures.len, c.push_reserved.ensures.capacity, c.take_claim_memory.ensures.before_len);
      steps = refl;
      counted = refl;
      set_aside = refl;
      ended = refl;
      splits = refl;
      asserting = refl;
      solver = refl;
      last_job = refl;
      place = refl;
    })

pub returns-clause-bank : goal.returns-clause-bank
returns-clause-bank c = ap (λ (v : PoolView). v.bank) c.self.view_is

pub returns-clause-origin : goal.returns-clause-origin
returns-clause-origin c = ap (λ (v : PoolView). v.origin) c.self.view_is

pub returns-clause-number : goal.returns-clause-number
returns-clause-number c = c.in_ok-ticket.ensures.next.same

pub returns-clause-job : goal.returns-clause-job
returns-clause-job c = c.in_ok-ticket.ensures.next.job

pub returns-clause-history : goal.returns-clause-history
returns-clause-history c =
    c.push.ensures.events
    ∙ ap (λ (es : List Event). es ++ Claim c.in_ok-ticket.ticket.job ∷ []) (c.take_claim_memory.ensures.events ∙ ap (λ (v : PoolView). v.history) c.self.view_is)

pub returns-clause-ticket : goal.returns-clause-ticket
returns-clause-ticket c =
    let rise : Rising 0 (replay c.args.self.now.origin c.args.self.now.history).jobs (replay c.args.self.now.origin c.args.self.now.history).given =
    subst (λ (v : PoolView). Rising 0 (replay v.origin v.history).jobs (replay v.origin v.history).given) c.self.view_is (pool-rises c.self.inside c.self.invariant) in
    subst (λ (es : List Event). IsTicket c.args.self.now.origin es c.args.told c.in_ok-ticket.ticket)
    (sym (c.push.ensures.events
    ∙ ap (λ (es : List Event). es ++ Claim c.in_ok-ticket.ticket.job ∷ []) (c.take_claim_memory.ensures.events ∙ ap (λ (v : PoolView). v.history) c.self.view_is)))
    (claimed-ticket c.args.self.now.origin c.args.self.now.history c.args.told c.args.number c.in_ok-ticket.ticket rise c.requires.next c.requires.told c.in_ok-ticket.ensures.next)

pub returns-clause-of_bank : goal.returns-clause-of_bank
returns-clause-of_bank c = c.in_ok-ticket.ensures.of_bank
