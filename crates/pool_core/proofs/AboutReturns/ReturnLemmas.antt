-- A pool after a return.
use Rattle.std.proofs.Common.{◌≡◌, ℕ, suc, ◌+◌, ◌<◌, ◌≤◌, Bool, true, false, not, ◌&&◌, ◌==◌, List, [], ◌∷◌, ◌^◌, map, length, refl, ap, sym, ◌∙◌, subst, ⊎_elim, arith}
use Rattle.std.specs.Prelude.{Option, None, Some, cond, find, nat_lt, is_none, is_some, option_map, slice_get, All, IfErr, if◌then◌else◌}
use Rattle.std.specs.declared.result.Result.{Result}
use Rattle.std.specs.declared.result.Result.TheVariants.{Ok, Err}
use Rattle.std.proofs.lemmas.Bool.{and_from, lt-ltb, true≢false, eqb-true, or_cases}
use Rattle.std.proofs.lemmas.Option.{none-some, same_Some}
use Rattle.kernel_steps.specs.Split.{has_number}
use Rattle.bank_clause.specs.Clause.{clause_at}
use Rattle.term_bank.specs.declared.table.Table.{Table}
use Rattle.kernel_steps.proofs.AboutSplits.SplitTables.{has-right}
use Rattle.pool_history.specs.Record.{PoolRecord, GivenJob, Death, clause_numbered, has_died, is_dead, lives, given_job}
use Rattle.clause_register.specs.Register.{death_at}
use Rattle.pool_history.specs.News.{TreeChange, activated}
use Rattle.pool_history.specs.Answers.{death_of, dead_justifier}
use Rattle.pool_core.specs.State.{IsProofStateOf, IsStateOf, IsPool, solver_job}
use Rattle.pool_history.specs.Claiming.{pair_of}
use Rattle.pool_history.specs.declared.batch.Work.{Work}
use Rattle.pool_history.specs.declared.batch.Work.TheVariants.{Gone, Met}
use Rattle.pool_history.specs.declared.event.Event.TheVariants.{Void}
use Rattle.pool_core.specs.declared.pool.ProofState.{ProofState}
use Rattle.pool_core.specs.declared.pool.Pool.TheInside.{Inside}
use Rattle.clause_register.specs.declared.register.Registration.{Registration}
use Rattle.pool_core.proofs.AboutClaims.ClaimLemmas.{told-now}
use Rattle.pool_core.proofs.AboutClaims.FitLemmas.{registered-fit}
use Rattle.pool_core.proofs.AboutClaims.GiveUpLemmas.{IsLetGoBy, let_go, let-go-pool, let-go-proof, length-without, ready-dead}
use Rattle.pool_core.proofs.AboutClaims.QuietLemmas.{IsQuietBy}
use Rattle.pool_core.proofs.AboutBeginnings.LivingLemmas.{no-death}
use Rattle.pool_history.proofs.AboutRecords.PlaceLemmas.{has-first}
use Rattle.pool_core.proofs.AboutReturns.ProofStateLemmas.{death-at}
use Rattle.pool_history.proofs.AboutRecords.ItemLemmas.{all-at}
use Rattle.pool_core.proofs.AboutClaims.StateLemmas.{record_of, pool-rises}

-- ---- the dead

some-or-none : {X : Type 0} (o : Option X) (b : Bool) → is_none o ≡ not b → is_some o ≡ b
some-or-none None true is = cc
some-or-none None false is = refl
some-or-none (Some x) true is = refl
some-or-none (Some x) false is = cc

pub dead-at : (a : Inside) (r : PoolRecord) (n : ℕ) → IsStateOf a r → is_some (death_at a.proof.register.clauses n) ≡ has_died r.deaths n
dead-at a r n is =
    some-or-none (death_at a.proof.register.clauses n) (has_died r.deaths n)
    (ap is_none (death-at a.table.bank a.table a.proof r n is.proof) ∙ no-death r.deaths n)

pub dead-of : (r : PoolRecord) (n e : ℕ) → death_of r n ≡ Some e → has_died r.deaths n ≡ true
dead-of r n e is = by (has_died r.deaths n) (sym (no-death r.deaths n) ∙ ap is_none is)
  where
    by : (b : Bool) → not b ≡ false → b ≡ true
    by true h = refl
    by false h = absurd (true≢false h)

pub living-of : (r : PoolRecord) (n : ℕ) → n < length r.registered → death_of r n ≡ None → lives r n ≡ true
living-of r n below is =
    and_from (nat_lt n (length r.registered)) (not (has_died r.deaths n)) (lt-ltb n (length r.registered) below) (sym (no-death r.deaths n) ∙ ap is_none is)

pub dead-has-event : (r : PoolRecord) (n : ℕ) → has_died r.deaths n ≡ true → death_of r n ≡ None → ⊥
dead-has-event r n dead none = true≢false (sym (ap is_none none) ∙ no-death r.deaths n ∙ ap not dead)

-- its number fits
pub dead-fits : (a : Inside) (n : ℕ) → IsPool a → has_died (record_of a).deaths n ≡ true → n < 2 ^ 32
dead-fits a n is dead =
    let below : n < length (record_of a).registered = by (record_of a).deaths is.state.proof.of_registered.victims dead in
    let fit = (registered-fit a is).0 in
    omega (arith, below, fit)
  where
    by : (ds : List Death) → All (λ (d : Death). d.victim < length (record_of a).registered) ds → has_died ds n ≡ true → n < length (record_of a).registered
    by [] all there = absurd (true≢false (sym there))
    by (d ∷ ds) all there =
        ⊎_elim
        (λ (here : (n == d.victim) ≡ true). subst (λ k. k < length (record_of a).registered) (sym (eqb-true n d.victim here)) (all-at (λ (e : Death). e.victim < length (record_of a).registered) (d ∷ ds) 0 d all refl))
        (λ (later : has_died ds n ≡ true). by ds (λ k e within. all (suc k) e (omega (arith, within))) later)
        (or_cases (n == d.victim) (has_died ds n) there)

-- the first that passes is in the list, and passes
pub found-one : (p : ℕ → Bool) (ns : List ℕ) (n : ℕ) → find p ns ≡ Some n → (p n ≡ true) × (has_number n ns ≡ true)
found-one p [] n found = absurd (none-some n found)
found-one p (m ∷ ms) n found = by (p m) refl found (λ later. found-one p ms n later)
  where
    by :
        (b : Bool) → p m ≡ b → cond b (Some m) (find p ms) ≡ Some n → (find p ms ≡ Some n → (p n ≡ true) × (has_number n ms ≡ true))
        → (p n ≡ true) × (has_number n (m ∷ ms) ≡ true)
    by true passes here rest = (ap p (sym (same_Some m n here)) ∙ passes, subst (λ k. has_number k (m ∷ ms) ≡ true) (same_Some m n here) (has-first m ms))
    by false fails later rest = let more = rest later in (more.0, has-right n (m ∷ []) ms more.1)

-- ---- the job of a dead clause

pub given-some : (a : Inside) (job : ℕ) (j : GivenJob) → IsPool a → given_job (record_of a) job ≡ Some j → 1 ≤ length (record_of a).given
given-some a job j is found =
    let one = length-without job 0 (record_of a).jobs (record_of a).given j (pool-rises a is) found in omega (arith, one)

pub dismissed-pool :
    (a b : Inside) (job : ℕ) (j : GivenJob)
    → IsPool a → given_job (record_of a) job ≡ Some j → has_died (record_of a).deaths j.number ≡ true
    → IsQuietBy a b (Void job) → IsLetGoBy a b job → b.solver ≡ a.solver → b.table ≡ a.table → b.proof ≡ a.proof
    → IsPool b
dismissed-pool a b job j is found dead quiet by solver table proof =
    let-go-pool a b (Void job) job r.solver is refl
    (λ is_predicate. record { given = j; out = found; says = dead })
    (let one = length-without job 0 r.jobs r.given j (pool-rises a is) found in omega (arith, one))
    quiet by (ap (option_map solver_job) solver ∙ is.state.solver)
    (ap (λ (s : ProofState). length s.queue.pairs + s.queue.spare) proof)
    (subst (λ (t : Table). IsProofStateOf t.bank t b.proof (let_go r.solver job r)) (sym table)
    (subst (λ (s : ProofState). IsProofStateOf a.table.bank a.table s (let_go r.solver job r)) (sym proof)
    (let-go-proof a.table.bank a.table a.proof a.proof r job r.solver refl
    (is.state.proof.queue ∙ ap (map (pair_of r)) (sym (ready-dead a.options job 0 r.jobs r j (pool-rises a is) found not_living)))
    is.state.proof)))
  where
    r : PoolRecord
    r = record_of a

    not_living : lives r j.number ≡ false
    not_living = ap (λ b. nat_lt j.number (length r.registered) && not b) dead ∙ none (nat_lt j.number (length r.registered))
      where
        none : (b : Bool) → (b && false) ≡ false
        none true = refl
        none false = refl

-- ---- a job that is out

found-all : (job : ℕ) (P : GivenJob → Type 0) (js : List GivenJob) (j : GivenJob) → find (λ (i : GivenJob). i.job == job) js ≡ Some j → All P js → P j
found-all job P [] j found all = absurd (none-some j found)
found-all job P (k ∷ ks) j found all =
    by (k.job == job) found (λ later. found-all job P ks j later (λ i d within. all (suc i) d (omega (arith, within))))
  where
    by : (b : Bool) → cond b (Some k) (find (λ (i : GivenJob). i.job == job) ks) ≡ Some j → (find (λ (i : GivenJob). i.job == job) ks ≡ Some j → P j) → P j
    by true here rest = subst P (same_Some k j here) (all-at P (k ∷ ks) 0 k all refl)
    by false later rest = rest later

pub out-below : (a : Inside) (job : ℕ) (j : GivenJob) → IsPool a → given_job (record_of a) job ≡ Some j → j.number < length (record_of a).registered
out-below a job j is found =
    found-all job (λ (i : GivenJob). i.number < length (record_of a).registered) (record_of a).given j found is.state.proof.of_registered.given

-- its clause has a position
pub out-placed :
    (a : Inside) (job n : ℕ) (j : GivenJob) (s : Registration)
    → IsPool a → given_job (record_of a) job ≡ Some j → j.number ≡ n → slice_get a.proof.register.clauses n ≡ Some s → s.position ≡ None → ⊥
out-placed a job n j s is found same there none =
    nothing-more (activated n (clause_at s.clause))
    (sym (ap (λ b. if b then [] else activated n (clause_numbered (record_of a) n) ∷ []) has)
    ∙ (told-now a (record_of a) n s is.state there none).0)
  where
    has : has_number n (record_of a).positions ≡ true
    has =
        subst (λ k. has_number k (record_of a).positions ≡ true) same
        (found-all job (λ (i : GivenJob). has_number i.number (record_of a).positions ≡ true) (record_of a).given j found is.state.proof.of_registered.placed)

    nothing-more : (c : TreeChange) → [] ≡ c ∷ [] → ⊥
    nothing-more c e = cc

-- the first dead justifier has died
pub first-died : (r : PoolRecord) (work : Work) (n : ℕ) → dead_justifier r work ≡ Some n → has_died r.deaths n ≡ true
first-died r (Gone m) n found = (found-one (is_dead r) m.justifiers n found).0
first-died r (Met entries removals) n found = absurd (none-some n found)

-- what holds whatever an error says
pub of-refused : {T E X : Type 0} (answer : Result T E) → X → IfErr answer (λ _. X)
of-refused (Ok y) x = tt
of-refused (Err y) x = x
