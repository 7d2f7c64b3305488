-- A job from its claim to its end: what the worker knows stays known, and its events are those of the job.
use Rattle.std.proofs.Common.{◌≡◌, ℕ, true, List, [], ◌∷◌, ◌++◌, length, refl, ap, sym, ◌∙◌, subst}
use Rattle.std.specs.Prelude.{Option}
use Rattle.std.specs.Option.{unwrap_or}
use Rattle.std.specs.List.{list_all}
use Rattle.std.proofs.lemmas.Bool.{and_from, and_parts}
use Rattle.term_bank.specs.declared.bank.Bank.{Bank}
use Rattle.bank_clause.specs.Clause.{AreMembersOf}
use Rattle.pool_history.specs.View.{PoolView}
use Rattle.pool_history.specs.Record.{propositional_clauses}
use Rattle.pool_history.specs.Replay.{Origin, replay}
use Rattle.pool_history.specs.declared.ticket.Ticket.{Ticket}
use Rattle.pool_history.specs.declared.event.Event.{Event}
use Rattle.pool_history.proofs.AboutClaims.ModelLemmas.{propositional_clauses_stay}
use Rattle.given_work.specs.View.{IndexView}
use Rattle.given_work.specs.Laws.{AreToldFor}
use Rattle.given_work.specs.Learned.{HasLearned}
use Rattle.given_work.specs.Learning.{learned}
use Rattle.given_work.proofs.AboutLearning.TicketLemmas.{learned_stays, tickets_are_learned, told-for}
use Rattle.worker_team.specs.Solving.{IsModelOfFirst}
use Rattle.worker_team.specs.declared.solving.LastModel.{LastModel}
use Rattle.worker_team.proofs.SolvingLemmas.{model-stays}
use Rattle.worker_team.specs.Turns.{Adds, is_stale_of}
use Rattle.worker_team.specs.Passes.{PoolPass, IsGiven, IsIndexOf, begun_of, no_pool, origin_of, record_of, seen_pool}
use Rattle.worker_team.specs.Workers.{Knows}
use Rattle.worker_team.specs.declared.worker.Knowledge.{Knowledge}

-- ---- what is known after further events

module _ (p q : PoolPass) (mine : List Event) (adds : Adds p q mine) where
  pub same-begun : begun_of q ≡ begun_of p
  same-begun = ap (λ (o : Option PoolView). unwrap_or o no_pool) adds.origin

  pub same-origin : origin_of q ≡ origin_of p
  same-origin = ap (λ (v : PoolView). v.origin) same-begun

  pub index-stays : (bank : Bank) (index : IndexView) → IsIndexOf bank p index → IsIndexOf bank q index
  index-stays bank index is = record {
    of_bank = is.of_bank;
    options = is.options ∙ ap (λ (o : Origin). o.options) (sym same-origin);
    learned = learned_stays (seen_pool p) (seen_pool q) index same-origin adds.seen is.learned;
  }

  pub model-known :
      (last : LastModel) → IsModelOfFirst (propositional_clauses (record_of p)) last → IsModelOfFirst (propositional_clauses (record_of q)) last
  model-known last is =
      let stays = propositional_clauses_stay (origin_of p) p.seen adds.seen.0 in
      subst (λ (o : Origin). IsModelOfFirst (propositional_clauses (replay o q.seen)) last) (sym same-origin)
      (subst (λ h. IsModelOfFirst (propositional_clauses (replay (origin_of p) h)) last) adds.seen.1
      (subst (λ cs. IsModelOfFirst cs last) (sym stays.1) (model-stays (propositional_clauses (record_of p)) stays.0 last is)))

  pub knows-still : (bank : Bank) (known : Knowledge) → Knows bank p known → Knows bank q known
  knows-still bank known is = record { index = index-stays bank known.index is.index; last = model-known known.last is.last }

-- ---- what a ticket tells

module _ (bank : Bank) (pass : PoolPass) (index now : IndexView) (ticket : Ticket) where
  pub prepared :
      IsIndexOf bank pass index → IsGiven pass index.told ticket
      → now ≡ record { options = index.options; told = ticket.as_of; members = learned index.members ticket.news } → AreMembersOf bank now.members
      → IsIndexOf bank pass now × (now.told ≡ length pass.seen)
  prepared is given same of_bank = (
    record {
      of_bank = of_bank;
      options = ap (λ (i : IndexView). i.options) same ∙ is.options;
      learned = subst (HasLearned (seen_pool pass)) (sym same) (tickets_are_learned (seen_pool pass) index ticket is.learned given.answers).1;
    },
    ap (λ (i : IndexView). i.told) same ∙ given.answers.as_of.1,
  )

  pub knows-told :
      IsIndexOf bank pass index → IsGiven pass index.told ticket
      → now ≡ record { options = index.options; told = ticket.as_of; members = learned index.members ticket.news } → AreMembersOf bank now.members
      → AreToldFor (origin_of pass) pass.seen ticket now.members
  knows-told is given same of_bank =
      let ready = prepared is given same of_bank in told-for (seen_pool pass) now index.told ticket (ready.0).learned ready.1 given.answers

-- ---- stale returns

pub stale-more :
    (job : ℕ) (refused : List Event) (e : Event)
    → list_all (is_stale_of job) refused ≡ true → is_stale_of job e ≡ true → list_all (is_stale_of job) (refused ++ e ∷ []) ≡ true
stale-more job [] e all is = and_from (is_stale_of job e) true is refl
stale-more job (f ∷ fs) e all is =
    let parts = and_parts (is_stale_of job f) (list_all (is_stale_of job) fs) all in
    and_from (is_stale_of job f) (list_all (is_stale_of job) (fs ++ e ∷ [])) parts.0 (stale-more job fs e parts.1 is)
