-- Each clause that died was registered: so a number that is new is that of no victim.
use Rattle.std.proofs.Common.{◌≡◌, ℕ, ◌<◌, true, false, not, ◌&&◌, ◌||◌, ◌==◌, List, [], ◌∷◌, ◌++◌, length, ap, sym, ◌∙◌, ⊎_elim, arith}
use Rattle.std.specs.Prelude.{None, is_none, nat_lt, fold}
use Rattle.std.specs.List.{list_all}
use Rattle.std.proofs.lemmas.Bool.{true≢false, and_parts, or_cases, eqb-true, ltb-true, lt-ltb}
use Rattle.std.proofs.lemmas.List.Folds.{list_any-append}
use Rattle.pool_history.specs.Record.{PoolRecord, Registered, Death, has_died, lives}
use Rattle.pool_history.specs.Returning.{dies, removed, takes_effect, proposed}
use Rattle.pool_history.specs.declared.options.Options.{Options}
use Rattle.pool_history.specs.declared.batch.Removal.{Removal}
use Rattle.pool_history.proofs.AboutCounting.DeathLemmas.{Keeps, replaced-keeps}
use Rattle.pool_history.proofs.AboutLines.JoinedLemmas.{by-test}
use Rattle.pool_history.proofs.AboutLines.SoundLemmas.{open-is}

abbrev pub VictimsRegistered : List Registered → List Death → Type 0
VictimsRegistered registered deaths = (n : ℕ) → has_died deaths n ≡ true → nat_lt n (length registered) ≡ true

abbrev pub Victims : PoolRecord → Type 0
Victims r = VictimsRegistered r.registered r.deaths

pub none-registered : VictimsRegistered [] []
none-registered n died = absurd (true≢false (sym died))

pub victims-keep : (r s : PoolRecord) → Keeps r s → Victims r → Victims s
victims-keep r s keeps victims n died =
    let less : n < length r.registered = ltb-true n (length r.registered) (victims n (ap (λ (ds : List Death). has_died ds n) (sym keeps.deaths) ∙ died)) in
    lt-ltb n (length s.registered) (omega (arith, less, keeps.clauses))

-- one more death
pub victims-die :
    (registered : List Registered) (deaths : List Death) (d : Death)
    → VictimsRegistered registered deaths → nat_lt d.victim (length registered) ≡ true → VictimsRegistered registered (deaths ++ d ∷ [])
victims-die registered deaths d victims below n died =
    ⊎_elim
    (λ (before : has_died deaths n ≡ true). victims n before)
    (λ (now : ((n == d.victim) || false) ≡ true).
    ⊎_elim
    (λ (same : (n == d.victim) ≡ true). ap (λ k. nat_lt k (length registered)) (eqb-true n d.victim same) ∙ below)
    (λ (none : false ≡ true). absurd (true≢false (sym none)))
    (or_cases (n == d.victim) false now))
    (or_cases (has_died deaths n) ((n == d.victim) || false) (sym (list_any-append (λ (e : Death). n == e.victim) deaths (d ∷ [])) ∙ died))

-- ---- removals

-- what a removal finds that takes effect
pub record TakesEffect (r : PoolRecord) (m : Removal) : Type 0 where
  pub is_open : r.ended ≡ None
  pub victim : lives r m.victim ≡ true
  pub justifiers : list_all (lives r) m.justifiers ≡ true

pub effect-parts : (r : PoolRecord) (m : Removal) → takes_effect r m ≡ true → TakesEffect r m
effect-parts r m effect =
    let first = and_parts (is_none r.ended) (lives r m.victim && list_all (lives r) m.justifiers) effect in
    let rest = and_parts (lives r m.victim) (list_all (lives r) m.justifiers) first.1 in
    record { is_open = open-is r.ended first.0; victim = rest.0; justifiers = rest.1 }

pub living-registered : (r : PoolRecord) (n : ℕ) → lives r n ≡ true → nat_lt n (length r.registered) ≡ true
living-registered r n alive = (and_parts (nat_lt n (length r.registered)) (not (has_died r.deaths n)) alive).0

module _ (options : Options) where
  pub removed-victims : (m : Removal) (r : PoolRecord) → Victims r → lives r m.victim ≡ true → Victims (removed options m r)
  removed-victims m r victims alive =
      victims-keep (dies m.victim m.justifiers r) (removed options m r) (replaced-keeps options m.victim m.fate (dies m.victim m.justifiers r))
      (victims-die r.registered r.deaths (record { victim = m.victim; event = r.events; justifiers = m.justifiers }) victims
      (living-registered r m.victim alive))

  pub proposed-victims : (m : Removal) (r : PoolRecord) → Victims r → Victims (proposed options r m)
  proposed-victims m r victims =
      by-test Victims (takes_effect r m) (removed options m r) r
      (λ effect. removed-victims m r victims (effect-parts r m effect).victim) (λ none. victims)

  pub all-proposed-victims : (ms : List Removal) (r : PoolRecord) → Victims r → Victims (fold (proposed options) r ms)
  all-proposed-victims [] r victims = victims
  all-proposed-victims (m ∷ ms) r victims = all-proposed-victims ms (proposed options r m) (proposed-victims m r victims)
