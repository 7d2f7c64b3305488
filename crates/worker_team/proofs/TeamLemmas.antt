-- Turns of a worker as a whole, passes that are cut, and the workers of a team.
use Rattle.std.proofs.Common.{◌≡◌, ℕ, suc, ◌+◌, Bool, true, false, not, List, [], ◌∷◌, ◌++◌, All, IfSome, option_to_list, length, length-append, refl, ap, sym, ◌∙◌, subst, arith}
use Rattle.std.specs.Prelude.{Result, Ok, Err, Option, Some}
use Rattle.std.specs.Option.{unwrap_or}
use Rattle.std.specs.Result.{IsErr}
use Rattle.std.proofs.lemmas.Bool.{true≢false}
use Rattle.std.proofs.lemmas.Option.{same_Some}
use Rattle.std.proofs.lemmas.List.Elements.{All-nil, All-pop, All-push}
use Rattle.plain_types.specs.declared.memory.NoMemory.{NoMemory}
use Rattle.term_bank.specs.declared.bank.Bank.{Bank}
use Rattle.term_bank.specs.Bank.{identity}
use Rattle.pool_history.specs.Inputs.{AreInputs, IsHistoryOf}
use Rattle.std.specs.List.{Contains}
use Rattle.turn_lock.specs.Shown.{TableId, split_off, with_shares}
use Rattle.turn_lock.proofs.Lists.{contains_none}
use Rattle.bank_clause.specs.Clause.{AreMembersOf, IsMemberOf}
use Rattle.pool_history.specs.View.{PoolView}
use Rattle.pool_history.specs.declared.options.Options.{Options}
use Rattle.pool_history.specs.declared.event.Event.{Event}
use Rattle.given_work.specs.View.{IndexView}
use Rattle.given_work.specs.Learned.{HasLearned}
use Rattle.worker_team.specs.Turns.{Adds}
use Rattle.worker_team.specs.Passes.{IsIndexOf, IsPassOf, PoolPass, begun_of, no_pool, origin_of, seen_pool}
use Rattle.worker_team.specs.Team.{HasEndedTurn, HasTakenTurn, IsDone, IsIdleAt, HaveRun, IsOfTeam, IsReadyInTeam, IsRun}
use Rattle.worker_team.specs.Workers.{HasPass, IsReady}
use Rattle.worker_team.specs.declared.job.Known.{Known}
use Rattle.worker_team.specs.declared.worker.Worker.{Worker}

-- ---- passes that are made, and passes that are cut

-- the pass with which a lock is made of a pool
pub first-pass :
    (bank : Bank) (pool : PoolView) (p : PoolPass)
    → p.seen ≡ pool.history → p.own ≡ [] → p.origin ≡ Some (record pool { history = [] }) → pool.bank ≡ identity bank
    → AreInputs pool.origin.inputs → IsHistoryOf pool.origin pool.history → IsPassOf bank p
first-pass bank pool p seen own origin same_bank inputs lawful =
    let begun : PoolView = record pool { history = [] } in
    let begun_is : begun_of p ≡ begun = ap (λ (o : Option PoolView). unwrap_or o no_pool) origin in
    record {
      origin = origin ∙ ap (λ (v : PoolView). Some v) (sym begun_is);
      same_bank = ap (λ (v : PoolView). v.bank) begun_is ∙ same_bank;
      inputs = subst (λ (v : PoolView). AreInputs v.origin.inputs) (sym begun_is) inputs;
      lawful =
          subst (λ (v : PoolView). IsHistoryOf v.origin p.seen) (sym begun_is) (subst (IsHistoryOf pool.origin) (sym seen) lawful);
      added = λ place there. absurd (contains_none place (subst (λ (l : List ℕ). Contains l place) own there));
      keys = λ i j a b there at other same. absurd (contains_none i (subst (λ (l : List ℕ). Contains l i) own there));
    }

pub rest-of : (bank : Bank) (p : PoolPass) (shares : ℕ) → IsPassOf bank p → IsPassOf bank (with_shares p shares)
rest-of bank p shares of = record {
  origin = of.origin;
  same_bank = of.same_bank;
  inputs = of.inputs;
  lawful = of.lawful;
  added = of.added;
  keys = of.keys;
}

-- the second one owns nothing
pub part-of : (bank : Bank) (p : PoolPass) (shares : ℕ) → IsPassOf bank p → IsPassOf bank (split_off p shares)
part-of bank p shares of = record {
  origin = of.origin;
  same_bank = of.same_bank;
  inputs = of.inputs;
  lawful = of.lawful;
  added = λ place there. absurd (contains_none place there);
  keys = λ i j a b there at other same. absurd (contains_none i there);
}

-- ---- a worker that was told nothing

pub new-index :
    (bank : Bank) (p : PoolPass) (index : IndexView) (options : Options)
    → options ≡ (origin_of p).options → index ≡ record { options = options; told = 0; members = [] } → IsIndexOf bank p index
new-index bank p index options of_pool new = record {
  of_bank = subst (λ (i : IndexView). AreMembersOf bank i.members) (sym new) (All-nil (IsMemberOf bank));
  options = ap (λ (i : IndexView). i.options) new ∙ of_pool;
  learned = subst (HasLearned (seen_pool p)) (sym new) (record { told = omega arith; changes = []; of_history = refl; members = refl });
}

-- ---- turns

not-not : (b : Bool) → not (not b) ≡ b
not-not true = refl
not-not false = refl

module _ (lock : TableId) (bank : Bank) (old new : Worker) (p q : PoolPass) (had : HasPass lock bank old p) (there : new.pass ≡ Some q) (of_lock : q.lock ≡ lock) where
  pub taken-on :
      (known : Known) → HasEndedTurn bank p q (Ok known) → new.known ≡ Some known.knowledge → IsIdleAt q new.idle → HasTakenTurn lock bank old new (Ok (not known.stands))
  taken-on known ended knowing idle =
      let has : HasPass lock bank new q = record { there = there; of_lock = of_lock; of_pool = ended.pass } in
      record {
        before = p;
        had = had;
        after = q;
        has = has;
        ready = record { pass = q; has = has; known = known.knowledge; knowing = knowing; knows = ended.known.knows };
        done = subst (IsDone p q) (sym (not-not known.stands)) ended.done;
        broken = tt;
        idle = idle;
      }

  pub taken-broken :
      (e : NoMemory) (goes_on : Result Bool NoMemory) → HasEndedTurn bank p q (Err e) → IsErr goes_on → IsIdleAt q new.idle → HasTakenTurn lock bank old new goes_on
  taken-broken e (Ok on) ended refused idle = absurd (true≢false (sym refused))
  taken-broken e (Err f) ended refused idle = record {
    before = p;
    had = had;
    after = q;
    has = record { there = there; of_lock = of_lock; of_pool = ended.pass };
    ready = tt;
    done = tt;
    broken = ended.broken;
    idle = idle;
  }

-- ---- the team

-- a worker that got a part of a pass is of the team of the pass that was cut first
pub hired :
    (lock : TableId) (bank : Bank) (whole p own : PoolPass) (worker : Worker) (options : Options)
    → own ≡ split_off p 1 → p.lock ≡ lock → p.origin ≡ whole.origin → p.start ≡ whole.start → IsPassOf bank p → options ≡ (origin_of whole).options
    → worker.pass ≡ Some own → (IsPassOf bank own → options ≡ (origin_of own).options → IsReady own.lock bank worker)
    → IsReadyInTeam lock bank whole.origin whole.start worker
hired lock bank whole p own worker options same of_lock origin start of options_are there ready =
    let own_of : IsPassOf bank own = subst (IsPassOf bank) (sym same) (part-of bank p 1 of) in
    let own_lock : own.lock ≡ lock = ap (λ (k : PoolPass). k.lock) same ∙ of_lock in
    let own_origin : own.origin ≡ whole.origin = ap (λ (k : PoolPass). k.origin) same ∙ origin in
    record {
      member = record {
        pass = own;
        has = record { there = there; of_lock = own_lock; of_pool = own_of };
        one = ap (λ (k : PoolPass). k.shares) same;
        origin = own_origin;
        start = ap (λ (k : PoolPass). k.start) same ∙ start;
      };
      ready =
          subst (λ (l : TableId). IsReady l bank worker) own_lock
          (ready own_of (options_are ∙ ap (λ (o : Option PoolView). (unwrap_or o no_pool).origin.options) (sym own_origin)));
    }

-- a worker stays one of its team through a turn
pub run-once : (lock : TableId) (bank : Bank) (old new : Worker) (goes_on : Result Bool NoMemory) → HasTakenTurn lock bank old new goes_on → IsRun lock bank old new
run-once lock bank old new goes_on taken begun history team = by goes_on taken
  where
    stays :
        (p q : PoolPass) (mine : List Event)
        → HasPass lock bank old p → HasPass lock bank new q → Adds p q mine → IsOfTeam lock bank begun history new
    stays p q mine had has adds =
        let same : team.pass ≡ p = same_Some team.pass p (sym team.has.there ∙ had.there) in
        record {
          pass = q;
          has = has;
          one = adds.shares ∙ ap (λ (k : PoolPass). k.shares) (sym same) ∙ team.one;
          origin = adds.origin ∙ ap (λ (k : PoolPass). k.origin) (sym same) ∙ team.origin;
          start = adds.start ∙ ap (λ (k : PoolPass). k.start) (sym same) ∙ team.start;
        }

    by : (goes_on : Result Bool NoMemory) → HasTakenTurn lock bank old new goes_on → IsOfTeam lock bank begun history new
    by (Ok on) taken = stays taken.before taken.after taken.done.mine taken.had taken.has taken.done.adds
    by (Err e) taken = stays taken.before taken.after taken.broken.mine taken.had taken.has taken.broken.adds

pub run-then : (lock : TableId) (bank : Bank) (old middle new : Worker) → IsRun lock bank old middle → IsRun lock bank middle new → IsRun lock bank old new
run-then lock bank old middle new first second begun history team = second begun history (first begun history team)

pub run-nothing : (lock : TableId) (bank : Bank) (worker : Worker) → IsRun lock bank worker worker
run-nothing lock bank worker begun history team = team

-- ---- the passes of a team are joined

-- the next worker is of the team, and so are those after it
pub next-member :
    (lock : TableId) (bank : Bank) (begun : Option PoolView) (history : List Event) (old rest : List Worker) (w : Worker)
    → old ≡ w ∷ rest → All (IsOfTeam lock bank begun history) old
    → IsOfTeam lock bank begun history w × All (IsOfTeam lock bank begun history) rest
next-member lock bank begun history old rest w is team =
    let all = subst (All (IsOfTeam lock bank begun history)) is team in
    (all 0 w (omega arith), λ k d lt. all (suc k) d (omega (arith, lt)))

-- those that can take a turn
pub ready-members :
    (lock : TableId) (bank : Bank) (begun : Option PoolView) (history : List Event) (team : List Worker)
    → All (IsReadyInTeam lock bank begun history) team → All (IsReady lock bank) team
ready-members lock bank begun history team all k d lt = (all k d lt).ready

pub members :
    (lock : TableId) (bank : Bank) (begun : Option PoolView) (history : List Event) (team : List Worker)
    → All (IsReadyInTeam lock bank begun history) team → All (IsOfTeam lock bank begun history) team
members lock bank begun history team all k d lt = (all k d lt).member

-- the last worker of a team
pub last-member :
    (P : Worker → Type 0) (team olds : List Worker) (r : Option Worker) (old : Worker)
    → team ≡ olds ++ option_to_list r → r ≡ Some old → All P team → All P olds × P old
last-member P team olds r old is some all =
    let parts = All-pop P team olds r is all in (parts.0, subst (λ (o : Option Worker). IfSome o P) some parts.1)

-- the workers after all turns of each, where the last one ran apart from the others
pub have-run :
    (lock : TableId) (bank : Bank) (team olds news : List Worker) (r : Option Worker) (old new : Worker)
    → team ≡ olds ++ option_to_list r → r ≡ Some old → HaveRun lock bank olds news → IsRun lock bank old new
    → HaveRun lock bank team (news ++ new ∷ [])
have-run lock bank team olds news r old new is some ran run = (
  (
      let whole : team ≡ olds ++ old ∷ [] = is ∙ ap (λ (o : Option Worker). olds ++ option_to_list o) some in
      let long : length team ≡ length olds + 1 = ap (λ (l : List Worker). length l) whole ∙ length-append olds (old ∷ []) in
      let longer : length (news ++ new ∷ []) ≡ length news + 1 = length-append news (new ∷ []) in
      let same : length news ≡ length olds = ran.0 in
      omega (arith, long, longer, same)
      ),
  (λ begun history all.
      let parts = last-member (IsOfTeam lock bank begun history) team olds r old is some all in
      All-push (IsOfTeam lock bank begun history) news new (ran.1 begun history parts.0) (run begun history parts.1)),
)
