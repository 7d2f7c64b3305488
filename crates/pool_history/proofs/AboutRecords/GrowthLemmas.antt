-- What the work of a batch keeps: jobs, active clauses and positions stay, and clauses and deaths only grow. So no clause waits that didn't.
use Rattle.std.proofs.Common.{◌≡◌, ℕ, ◌<◌, true, false, not, ◌&&◌, ◌==◌, List, [], ◌∷◌, ◌++◌, length, append-nil, append_assoc, refl, ap, sym, ◌∙◌}
use Rattle.std.specs.Prelude.{Option, None, Some, nat_le, nat_lt, fold, find}
use Rattle.std.specs.List.{list_any}
use Rattle.std.proofs.lemmas.Bool.{and_parts, and_from, or_parts, not-true, not_from_false, lt-ltb}
use Rattle.std.proofs.lemmas.List.Folds.{list_any-append}
use Rattle.kernel_steps.specs.declared.key.Key.{Key}
use Rattle.kernel_steps.specs.declared.key.Key.TheVariants.{Replaced}
use Rattle.kernel_steps.specs.declared.step.Line.{Line}
use Rattle.kernel_steps.specs.Split.{has_number}
use Rattle.pool_history.specs.Record.{PoolRecord, Registered, GivenJob, PropositionalClause, Death, has_died, lives, is_out, waits}
use Rattle.pool_history.specs.Counting.{refutes, spends, counts, result_comes, keys_of, lines_of_entries}
use Rattle.pool_history.specs.Returning.{dies, replaced, removed, takes_effect, proposed, becomes_active, sets_aside, worked}
use Rattle.pool_history.specs.declared.options.Options.{Options}
use Rattle.pool_history.specs.declared.batch.Entry.{Entry}
use Rattle.pool_history.specs.declared.batch.Fate.{Fate}
use Rattle.pool_history.specs.declared.batch.Fate.TheVariants.{Kept, Dropped, Heavy}
use Rattle.pool_history.specs.declared.batch.Removal.{Removal}
use Rattle.pool_history.specs.declared.batch.Work.TheVariants.{Met}
use Rattle.pool_history.proofs.AboutRecords.FrameLemmas.{Registers, by-if, result-registers, results-register}

pub record Grows (r r' : PoolRecord) : Type 0 where
  pub given : r'.given ≡ r.given
  pub active : r'.active ≡ r.active
  pub positions : r'.positions ≡ r.positions
  pub jobs : r'.jobs ≡ r.jobs
  pub claims : r'.claims ≡ r.claims
  pub solver : r'.solver ≡ r.solver
  pub model : (r'.model ≡ r.model) × (r'.modelled ≡ r.modelled)
  pub events : r'.events ≡ r.events
  pub clauses : (cs : List Registered) × (r'.registered ≡ r.registered ++ cs)
  pub names : (ps : List PropositionalClause) × (r'.propositional ≡ r.propositional ++ ps)
  pub deaths : (ds : List Death) × (r'.deaths ≡ r.deaths ++ ds)

pub grows-all : (r : PoolRecord) → Grows r r
grows-all r = record {
  given = refl;
  active = refl;
  positions = refl;
  jobs = refl;
  claims = refl;
  solver = refl;
  model = (refl, refl);
  events = refl;
  clauses = ([], sym (append-nil r.registered));
  names = ([], sym (append-nil r.propositional));
  deaths = ([], sym (append-nil r.deaths));
}

pub more-then : {X : Type 0} (xs ys zs : List X) → (more : (ws : List X) × (ys ≡ xs ++ ws)) → (further : (ws : List X) × (zs ≡ ys ++ ws)) → (ws : List X) × (zs ≡ xs ++ ws)
more-then xs ys zs more further =
    (more.0 ++ further.0, further.1 ∙ ap (λ ws. ws ++ further.0) more.1 ∙ append_assoc xs more.0 further.0)

pub grows-then : (r s t : PoolRecord) → Grows r s → Grows s t → Grows r t
grows-then r s t first second = record {
  given = second.given ∙ first.given;
  active = second.active ∙ first.active;
  positions = second.positions ∙ first.positions;
  jobs = second.jobs ∙ first.jobs;
  claims = second.claims ∙ first.claims;
  solver = second.solver ∙ first.solver;
  model = (second.model.0 ∙ first.model.0, second.model.1 ∙ first.model.1);
  events = second.events ∙ first.events;
  clauses = more-then r.registered s.registered t.registered first.clauses second.clauses;
  names = more-then r.propositional s.propositional t.propositional first.names second.names;
  deaths = more-then r.deaths s.deaths t.deaths first.deaths second.deaths;
}

pub registers-grows : (r r' : PoolRecord) → Registers r r' → Grows r r'
registers-grows r r' is = record {
  given = ap (λ (s : PoolRecord). s.given) is.same;
  active = ap (λ (s : PoolRecord). s.active) is.same;
  positions = ap (λ (s : PoolRecord). s.positions) is.same;
  jobs = ap (λ (s : PoolRecord). s.jobs) is.same;
  claims = ap (λ (s : PoolRecord). s.claims) is.same;
  solver = ap (λ (s : PoolRecord). s.solver) is.same;
  model = (ap (λ (s : PoolRecord). s.model) is.same, ap (λ (s : PoolRecord). s.modelled) is.same);
  events = ap (λ (s : PoolRecord). s.events) is.same;
  clauses = is.more;
  names = is.more_names;
  deaths = ([], ap (λ (s : PoolRecord). s.deaths) is.same ∙ sym (append-nil r.deaths));
}

-- ---- countings and removals

spends-grows : (options : Options) (o : Option (List Line)) (r s : PoolRecord) → Grows r s → Grows r (spends options.split o s)
spends-grows options None r s grown = record {
  given = grown.given;
  active = grown.active;
  positions = grown.positions;
  jobs = grown.jobs;
  claims = grown.claims;
  solver = grown.solver;
  model = grown.model;
  events = grown.events;
  clauses = grown.clauses;
  names = grown.names;
  deaths = grown.deaths;
}
spends-grows options (Some lines) r s grown =
    grows-then r s (result_comes options.split s lines) grown
    (registers-grows s (result_comes options.split s lines) (result-registers options.split s lines))

abbrev with_keys : List Key → PoolRecord → PoolRecord
with_keys keys r = record r { counted = r.counted ++ keys }

with_keys-grows : (keys : List Key) (r : PoolRecord) → Grows r (with_keys keys r)
with_keys-grows keys r = record {
  given = refl;
  active = refl;
  positions = refl;
  jobs = refl;
  claims = refl;
  solver = refl;
  model = (refl, refl);
  events = refl;
  clauses = ([], sym (append-nil r.registered));
  names = ([], sym (append-nil r.propositional));
  deaths = ([], sym (append-nil r.deaths));
}

pub counts-grows :
    (options : Options) (keys : List Key) (results : List (List Line)) (r : PoolRecord) → Grows r (counts options keys results r)
counts-grows options keys results r =
    by-if (Grows r) (nat_le options.inferences (length (with_keys keys r).counted))
    (spends options.split (find refutes results) (with_keys keys r)) (fold (result_comes options.split) (with_keys keys r) results)
    (spends-grows options (find refutes results) r (with_keys keys r) (with_keys-grows keys r))
    (grows-then r (with_keys keys r) (fold (result_comes options.split) (with_keys keys r) results) (with_keys-grows keys r)
    (registers-grows (with_keys keys r) (fold (result_comes options.split) (with_keys keys r) results)
    (results-register options.split results (with_keys keys r))))

replaced-grows : (options : Options) (victim : ℕ) (fate : Fate) (r : PoolRecord) → Grows r (replaced options victim fate r)
replaced-grows options victim (Kept lines results) r = counts-grows options (Replaced victim ∷ []) (lines ∷ []) r
replaced-grows options victim (Dropped redundancy) r = grows-all r
replaced-grows options victim Heavy r = grows-all r

pub dies-grows : (victim : ℕ) (justifiers : List ℕ) (r : PoolRecord) → Grows r (dies victim justifiers r)
dies-grows victim justifiers r = record {
  given = refl;
  active = refl;
  positions = refl;
  jobs = refl;
  claims = refl;
  solver = refl;
  model = (refl, refl);
  events = refl;
  clauses = ([], sym (append-nil r.registered));
  names = ([], sym (append-nil r.propositional));
  deaths = (record { victim = victim; event = r.events; justifiers = justifiers } ∷ [], refl);
}

-- after the death
pub replaced-after-death : (options : Options) (m : Removal) (r : PoolRecord) → Grows (dies m.victim m.justifiers r) (removed options m r)
replaced-after-death options m r = replaced-grows options m.victim m.fate (dies m.victim m.justifiers r)

pub removed-grows : (options : Options) (m : Removal) (r : PoolRecord) → Grows r (removed options m r)
removed-grows options m r =
    grows-then r (dies m.victim m.justifiers r) (removed options m r) (dies-grows m.victim m.justifiers r) (replaced-after-death options m r)

pub all-proposed-grows : (options : Options) (ms : List Removal) (r : PoolRecord) → Grows r (fold (proposed options) r ms)
all-proposed-grows options [] r = grows-all r
all-proposed-grows options (m ∷ ms) r =
    grows-then r (proposed options r m) (fold (proposed options) (proposed options r m) ms)
    (by-if (Grows r) (takes_effect r m) (removed options m r) r (removed-grows options m r) (grows-all r))
    (all-proposed-grows options ms (proposed options r m))

-- a meeting, from the moment on in which the given clause is active
pub met-grows :
    (options : Options) (n : ℕ) (entries : List Entry) (removals : List Removal) (r : PoolRecord)
    → Grows (becomes_active n r) (worked options n (Met entries removals) r)
met-grows options n entries removals r =
    let mid : PoolRecord = becomes_active n r in
    let aside : PoolRecord = sets_aside entries mid in
    let counted : PoolRecord = counts options (keys_of entries) (lines_of_entries entries) aside in
    grows-then mid counted (fold (proposed options) counted removals)
    (grows-then mid aside counted (aside-grows entries mid) (counts-grows options (keys_of entries) (lines_of_entries entries) aside))
    (all-proposed-grows options removals counted)
  where
    aside-grows : (entries : List Entry) (s : PoolRecord) → Grows s (sets_aside entries s)
    aside-grows entries s = record {
      given = refl;
      active = refl;
      positions = refl;
      jobs = refl;
      claims = refl;
      solver = refl;
      model = (refl, refl);
      events = refl;
      clauses = ([], sym (append-nil s.registered));
      names = ([], sym (append-nil s.propositional));
      deaths = ([], sym (append-nil s.deaths));
    }

-- ---- what waits

pub has_died-less : (ds es : List Death) (n : ℕ) → has_died (ds ++ es) n ≡ false → has_died ds n ≡ false
has_died-less ds es n none =
    (or_parts (has_died ds n) (has_died es n) (sym (list_any-append (λ (d : Death). n == d.victim) ds es) ∙ none)).0

-- a clause that was registered before and lives after lived before
pub lives-before :
    (r r' : PoolRecord) (n : ℕ) → ((ds : List Death) × (r'.deaths ≡ r.deaths ++ ds)) → n < length r.registered → lives r' n ≡ true → lives r n ≡ true
lives-before r r' n deaths there after =
    let alive : not (has_died r'.deaths n) ≡ true = (and_parts (nat_lt n (length r'.registered)) (not (has_died r'.deaths n)) after).1 in
    and_from (nat_lt n (length r.registered)) (not (has_died r.deaths n))
    (lt-ltb n (length r.registered) there)
    (not_from_false (has_died r.deaths n)
    (has_died-less r.deaths deaths.0 n (ap (λ ds. has_died ds n) (sym deaths.1) ∙ not-true (has_died r'.deaths n) alive)))

-- the parts of waiting
pub record IsWaiting (r : PoolRecord) (n : ℕ) : Type 0 where
  pub alive : lives r n ≡ true
  pub in_hand : is_out r n ≡ false
  pub idle : has_number n r.active ≡ false

pub living-not-dead : (r : PoolRecord) (n : ℕ) → lives r n ≡ true → has_died r.deaths n ≡ false
living-not-dead r n alive = not-true (has_died r.deaths n) (and_parts (nat_lt n (length r.registered)) (not (has_died r.deaths n)) alive).1

pub waiting-parts : (r : PoolRecord) (n : ℕ) → waits r n ≡ true → IsWaiting r n
waiting-parts r n is =
    let first = and_parts (lives r n) (not (is_out r n) && not (has_number n r.active)) is in
    let rest = and_parts (not (is_out r n)) (not (has_number n r.active)) first.1 in
    record {
      alive = first.0;
      in_hand = not-true (is_out r n) rest.0;
      idle = not-true (has_number n r.active) rest.1;
    }

pub waiting-from : (r : PoolRecord) (n : ℕ) → IsWaiting r n → waits r n ≡ true
waiting-from r n is =
    and_from (lives r n) (not (is_out r n) && not (has_number n r.active)) is.alive
    (and_from (not (is_out r n)) (not (has_number n r.active)) (not_from_false (is_out r n) is.in_hand) (not_from_false (has_number n r.active) is.idle))

pub waits-before : (r r' : PoolRecord) (n : ℕ) → Grows r r' → n < length r.registered → waits r' n ≡ true → waits r n ≡ true
waits-before r r' n grown there after =
    let is = waiting-parts r' n after in
    waiting-from r n (record {
      alive = lives-before r r' n grown.deaths there is.alive;
      in_hand = ap (λ (js : List GivenJob). list_any (λ (j : GivenJob). n == j.number) js) (sym grown.given) ∙ is.in_hand;
      idle = ap (has_number n) (sym grown.active) ∙ is.idle;
    })
