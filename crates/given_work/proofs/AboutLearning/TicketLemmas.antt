-- An index that learned what a ticket tells: it knows the clauses of the ticket's job.
use Rattle.std.proofs.Common.{◌≡◌, ℕ, ◌+◌, ◌==◌, Bool, true, false, List, [], ◌∷◌, ◌++◌, map, length, take, drop, ap, ap₂, sym, ◌∙◌, subst, arith}
use Rattle.std.specs.Prelude.{Some, cond, find, All, Contains}
use Rattle.std.specs.List.{list_all}
use Rattle.std.proofs.lemmas.List.{length-append, map-append, take-append-drop, take-append-le, take_all}
use Rattle.std.proofs.lemmas.List.Elements.{All-nil, All-weaker, All-contains_itself}
use Rattle.std.proofs.lemmas.List.Sums.{fold-append}
use Rattle.std.proofs.lemmas.Bool.{and_parts}
use Rattle.std.proofs.lemmas.Option.{none-some, same_Some}
use Rattle.fol_base.specs.WellFormed.{SymbolUse}
use Rattle.kernel_steps.specs.Split.{has_number}
use Rattle.bank_clause.specs.declared.member.Member.{Member}
use Rattle.subsume.specs.Members.{numbers_of}
use Rattle.pool_history.specs.View.{PoolView}
use Rattle.pool_history.specs.Record.{GivenJob, told_now}
use Rattle.pool_history.specs.Replay.{Origin, start, replay}
use Rattle.pool_history.specs.News.{TreeChange, activated, died, change_of, changes_from, news_since}
use Rattle.pool_history.specs.Answers.{IsTicket}
use Rattle.pool_history.specs.Inputs.{AreInputs, IsHistoryOf}
use Rattle.pool_history.specs.declared.event.Event.{Event}
use Rattle.pool_history.specs.declared.ticket.Change.{Change}
use Rattle.pool_history.specs.declared.ticket.Ticket.{Ticket}
use Rattle.pool_history.proofs.AboutCounting.CountedLemmas.{given_are_told}
use Rattle.pool_history.proofs.AboutClaims.HistoryLemmas.{changes-append}
use Rattle.pool_history.proofs.AboutRecords.NewsLemmas.{news_are_registered, jobs_were_told}
use Rattle.pool_history.proofs.AboutRecords.PlaceLemmas.{replay-placed}
use Rattle.given_work.specs.View.{IndexView}
use Rattle.given_work.specs.Laws.{AreToldFor, LearnedAreToldFor, LearnedStays, TicketsAreLearned}
use Rattle.given_work.specs.Learning.{learns, learned, AreNews}
use Rattle.given_work.specs.Learned.{HasLearned}
use Rattle.given_work.proofs.AboutLearning.ToldLemmas.{told_all, AreNewNumbers}
use Rattle.given_work.proofs.AboutLearning.EventLemmas.{told-history, new-events}
use Rattle.given_work.proofs.AboutLearning.LearnedLemmas.{numbers-learned, news-new, IsRegistered, TellsRegistered, learned-registered}

module _ (pool : PoolView) (index : IndexView) where
  abbrev origin : Origin
  origin = pool.origin

  abbrev history : List Event
  history = pool.history

  -- the numbers that it knows are those that are told at its place
  known : HasLearned pool index → numbers_of index.members ≡ told_now (replay origin (take index.told history))
  known has =
      ap numbers_of has.members ∙ numbers-learned [] has.changes ∙ ap (λ cs. told_all [] cs) has.of_history ∙ told-history origin (take index.told history)

  pub news-are-new : (news : List Change) → HasLearned pool index → map change_of news ≡ news_since origin history index.told → AreNews index.members news
  news-are-new news has tells =
      news-new news index.members
      (subst (λ ns. AreNewNumbers ns (map change_of news)) (sym (known has))
      (subst (AreNewNumbers (told_now (replay origin (take index.told history)))) (sym tells)
      (new-events origin.options (drop index.told history) (replay origin (take index.told history)) (replay-placed origin (take index.told history)))))

  pub index-learned :
      (news : List Change) → HasLearned pool index → map change_of news ≡ news_since origin history index.told
      → HasLearned pool (record { options = index.options; told = length history; members = learned index.members news })
  index-learned news has tells = record {
    told = omega arith;
    changes = has.changes ++ news;
    of_history =
        map-append change_of has.changes news ∙ ap (λ cs. cs ++ map change_of news) has.of_history
        ∙ ap (λ cs. news_since origin (take index.told history) 0 ++ cs) tells
        ∙ sym (changes-append origin.options (take index.told history) (drop index.told history) (start origin))
        ∙ ap (changes_from origin.options (start origin)) (take-append-drop index.told history)
        ∙ ap (λ es. news_since origin es 0) (sym (take_all (length history) history (omega arith)));
    members = ap (λ ms. learned ms news) has.members ∙ sym (fold-append learns [] has.changes news);
  }

  pub told-for :
      (told : ℕ) (ticket : Ticket) → HasLearned pool index → index.told ≡ length history → IsTicket origin history told ticket
      → AreToldFor origin history ticket index.members
  told-for told ticket has all is = record {
    job = is.job;
    out = is.out;
    number = is.number;
    left = is.left;
    numbers =
        known has ∙ ap (λ es. told_now (replay origin es)) whole
        ∙ sym ((jobs_were_told origin history ticket.job is.job is.out).1 ∙ ap (λ es. told_now (replay origin es)) all_told);
    looked_up =
        subst (All (IsRegistered (replay origin history))) (sym has.members)
        (learned-registered (replay origin history) has.changes [] (All-nil (IsRegistered (replay origin history)))
        (subst (All (TellsRegistered (replay origin history))) (sym (has.of_history ∙ ap (λ es. news_since origin es 0) whole))
        (All-weaker (Contains (news_since origin history 0)) (TellsRegistered (replay origin history)) tells (news_since origin history 0)
        (All-contains_itself (news_since origin history 0)))));
  }
    where
      whole : take index.told history ≡ history
      whole = take_all index.told history (omega (arith, all))

      all_told : take is.job.as_of history ≡ history
      all_told = let same = sym is.as_of.0 ∙ is.as_of.1 in take_all is.job.as_of history (omega (arith, same))

      tells : (c : TreeChange) → Contains (news_since origin history 0) c → TellsRegistered (replay origin history) c
      tells (activated n c) there = news_are_registered origin history n c there
      tells (died n) there = tt

-- ---- the given clause

found-passes : {X : Type 0} (p q : X → Bool) (xs : List X) (x : X) → list_all p xs ≡ true → find q xs ≡ Some x → p x ≡ true
found-passes p q [] x all found = absurd (none-some x found)
found-passes p q (y ∷ ys) x all found =
    let parts = and_parts (p y) (list_all p ys) all in by (q y) found (found-passes p q ys x parts.1) parts.0
  where
    by : (b : Bool) → cond b (Some y) (find q ys) ≡ Some x → (find q ys ≡ Some x → p x ≡ true) → p y ≡ true → p x ≡ true
    by true here rest first = ap p (sym (same_Some y x here)) ∙ first
    by false later rest first = rest later

pub given-known :
    (origin : Origin) (history : List Event) (ticket : Ticket) (ms : List Member)
    → AreInputs origin.inputs → IsHistoryOf origin history → AreToldFor origin history ticket ms
    → has_number ticket.number (numbers_of ms) ≡ true
given-known origin history ticket ms inputs lawful told =
    let usage : SymbolUse = inputs.well_formed.usage in
    ap₂ has_number told.number told.numbers
    ∙ found-passes (λ (j : GivenJob). has_number j.number j.told) (λ (j : GivenJob). j.job == ticket.job) (replay origin history).given told.job
    (given_are_told usage.is_predicate origin history (lawful usage inputs.well_formed.used)) told.out

-- ---- the laws

pub tickets_are_learned : TicketsAreLearned
tickets_are_learned pool index ticket has is = (
  news-are-new pool index ticket.news has is.news,
  subst (λ (n : ℕ). HasLearned pool (record { options = index.options; told = n; members = learned index.members ticket.news }))
      (sym is.as_of.1) (index-learned pool index ticket.news has is.news),
)

pub learned_are_told_for : LearnedAreToldFor
learned_are_told_for pool index told ticket has all is = told-for pool index told ticket has all is

pub learned_stays : LearnedStays
learned_stays pool now index origin later has = record {
  told =
      let within = has.told in
      let more : length now.history ≡ length pool.history + length later.0 = ap length (sym later.1) ∙ length-append pool.history later.0 in
      omega (arith, within, more);
  changes = has.changes;
  of_history =
      has.of_history
      ∙ ap (λ es. news_since pool.origin es 0) (sym (take-append-le index.told pool.history later.0 has.told) ∙ ap (take index.told) later.1)
      ∙ ap (λ (o : Origin). news_since o (take index.told now.history) 0) (sym origin);
  members = has.members;
}
