-- The removals of a batch, one after another, and the work of a whole batch.
use Rattle.std.proofs.Common.{◌≡◌, ℕ, suc, ◌≤◌, Bool, true, false, not, ◌&&◌, ◌==◌, List, [], ◌∷◌, ◌++◌, map, length, append-nil, append_assoc, refl, ap, ap₂, sym, ◌∙◌, subst, arith}
use Rattle.std.specs.Prelude.{Option, None, Some, cond, find, fold, is_none, nat_le, option_to_list}
use Rattle.std.specs.List.{list_all, cons_option}
use Rattle.std.proofs.lemmas.Bool.{cond-true, cond-false}
use Rattle.std.proofs.lemmas.List.{map-append}
use Rattle.kernel_steps.specs.declared.key.Key.{Key}
use Rattle.kernel_steps.specs.declared.step.Line.{Line}
use Rattle.clause_queue.specs.Pairs.{without}
use Rattle.term_bank.specs.declared.bank.Bank.{Bank}
use Rattle.term_bank.specs.declared.table.Table.{Table}
use Rattle.pool_history.specs.Record.{PoolRecord, Death, lives}
use Rattle.pool_history.specs.Counting.{lines_of_fate, counts, refutes, result_comes, spends}
use Rattle.clause_register.specs.Register.{is_living_at}
use Rattle.pool_history.specs.Returning.{dies, replaced, removed, proposed, takes_effect}
use Rattle.pool_core.specs.Placing.{AreInterned, AreArrivals, IsResultOf, IsCountedStateOf, NotesDeaths, HasRoom, lines_of_removals, with_queue}
use Rattle.pool_core.specs.State.{IsProofStateOf}
use Rattle.pool_history.specs.declared.options.Options.{Options}
use Rattle.pool_history.specs.declared.batch.Fate.{Fate}
use Rattle.pool_history.specs.declared.batch.Removal.{Removal}
use Rattle.pool_core.specs.declared.interning.Interned.{Interned}
use Rattle.pool_core.specs.declared.pool.Note.{Note}
use Rattle.pool_core.specs.declared.pool.Note.TheVariants.{Died}
use Rattle.pool_core.specs.declared.pool.ProofState.{ProofState}
use Rattle.kernel_steps.specs.declared.key.Key.TheVariants.{Replaced}
use Rattle.pool_history.specs.declared.batch.Fate.TheVariants.{Kept, Dropped, Heavy}
use Rattle.pool_history.proofs.AboutRecords.FrameLemmas.{by-if}
use Rattle.pool_core.specs.Demanded.{no_demand, plus, total}
use Rattle.pool_core.specs.declared.demand.Demand.{Demand}
use Rattle.pool_core.proofs.AboutReturns.ArrivalLemmas.{recounted, IsLess, less-first, less-nothing, less-second, room-for-less}
use Rattle.pool_core.proofs.AboutReturns.GrownLemmas.{result-longer}
use Rattle.pool_core.proofs.AboutReturns.InternedLemmas.{all-more-met}
use Rattle.pool_history.proofs.AboutCounting.DeathLemmas.{replaced-keeps, counts-keeps}
use Rattle.pool_core.proofs.AboutReturns.ProofStateLemmas.{living-at}

-- ---- lists

pub cons-as-list : {X : Type 0} (o : Option X) (xs : List X) → cons_option o xs ≡ option_to_list o ++ xs
cons-as-list None xs = refl
cons-as-list (Some x) xs = refl

pub without-twice : (n : ℕ) (ps : List (ℕ × ℕ)) → without n (without n ps) ≡ without n ps
without-twice n [] = refl
without-twice n (p ∷ ps) = by (not (p.0 == n)) refl (without-twice n ps)
  where
    by :
        (b : Bool) → not (p.0 == n) ≡ b → without n (without n ps) ≡ without n ps
        → without n (cond b (p ∷ without n ps) (without n ps)) ≡ cond b (p ∷ without n ps) (without n ps)
    by true is rest = cond-true (not (p.0 == n)) (p ∷ without n (without n ps)) (without n (without n ps)) is ∙ ap (λ (qs : List (ℕ × ℕ)). p ∷ qs) rest
    by false is rest = rest

-- ---- room

pub room-to-die : (s : ProofState) (d : Demand) (deaths : ℕ) → HasRoom s d (suc deaths) → HasRoom s no_demand 1
room-to-die s d deaths room = room-for-less s no_demand d 1 (suc deaths) (less-nothing d) (omega arith) room

-- what the next result brings, and then the others
pub less-next : (o : Option Interned) (xs : List Interned) → IsLess (plus (total (option_to_list o)) (total xs)) (total (option_to_list o ++ xs))
less-next None xs = record { clauses = omega arith; tags = omega arith; lines = omega arith; parts = omega arith; splits = omega arith; names = omega arith }
less-next (Some x) xs = record { clauses = omega arith; tags = omega arith; lines = omega arith; parts = omega arith; splits = omega arith; names = omega arith }

-- the result of a clause that goes, where it has one
pub room-gone :
    (s : ProofState) (e : Demand) (o : Option Interned) (xs rest : List Interned) (deaths : ℕ)
    → xs ≡ option_to_list o ++ rest → HasRoom s (plus e (total xs)) deaths → HasRoom s (plus (total (option_to_list o)) (total rest)) deaths
room-gone s e o xs rest deaths taken room =
    room-for-less s (plus (total (option_to_list o)) (total rest)) (total (option_to_list o ++ rest)) deaths deaths (less-next o rest) (omega arith)
    (room-for-less s (total (option_to_list o ++ rest)) (plus e (total (option_to_list o ++ rest))) deaths deaths
    (less-second e (total (option_to_list o ++ rest))) (omega arith)
    (subst (λ ys. HasRoom s (plus e (total ys)) deaths) taken room))

pub room-of-one : (s : ProofState) (o : Option Interned) (d : Demand) (deaths : ℕ) → HasRoom s (plus (total (option_to_list o)) d) deaths → HasRoom s (total (option_to_list o)) 0
room-of-one s o d deaths room = room-for-less s (total (option_to_list o)) (plus (total (option_to_list o)) d) 0 deaths (less-first (total (option_to_list o)) d) (omega arith) room

pub room-of-some : (s : ProofState) (x : Interned) (d : Demand) (deaths : ℕ) → HasRoom s (plus (total (x ∷ [])) d) deaths → HasRoom s (plus x.demand d) deaths
room-of-some s x d deaths room =
    room-for-less s (plus x.demand d) (plus (total (x ∷ [])) d) deaths deaths
    (record { clauses = omega arith; tags = omega arith; lines = omega arith; parts = omega arith; splits = omega arith; names = omega arith }) (omega arith) room

pub room-of-lone : (s : ProofState) (x : Interned) → HasRoom s (total (x ∷ [])) 0 → HasRoom s x.demand 0
room-of-lone s x room = room-for-less s x.demand (total (x ∷ [])) 0 0 (less-first x.demand no_demand) (omega arith) room

-- ---- there are no fewer parts

results-longer : (split : Bool) (results : List (List Line)) (r : PoolRecord) → length r.parts ≤ length (fold (result_comes split) r results).parts
results-longer split [] r = omega arith
results-longer split (lines ∷ lss) r =
    let first = result-longer split r lines in
    let rest = results-longer split lss (result_comes split r lines) in
    omega (arith, first, rest)

pub counts-longer : (options : Options) (keys : List Key) (results : List (List Line)) (r : PoolRecord) → length r.parts ≤ length (counts options keys results r).parts
counts-longer options keys results r =
    by-if (λ (s : PoolRecord). length r.parts ≤ length s.parts) (nat_le options.inferences (length (r.counted ++ keys)))
    (spends options.split (find refutes results) counted) (fold (result_comes options.split) counted results)
    (by (find refutes results)) (results-longer options.split results counted)
  where
    counted : PoolRecord
    counted = record r { counted = r.counted ++ keys }

    by : (o : Option (List Line)) → length r.parts ≤ length (spends options.split o counted).parts
    by None = omega arith
    by (Some lines) = result-longer options.split counted lines

removed-longer : (options : Options) (m : Removal) (r : PoolRecord) → length r.parts ≤ length (removed options m r).parts
removed-longer options m r = by m.fate
  where
    by : (fate : Fate) → length r.parts ≤ length (replaced options m.victim fate (dies m.victim m.justifiers r)).parts
    by (Kept lines results) = counts-longer options (Replaced m.victim ∷ []) (lines ∷ []) (dies m.victim m.justifiers r)
    by (Dropped redundancy) = omega arith
    by Heavy = omega arith

-- ---- what died is noted

pub notes-none : (r : PoolRecord) (notes : List Note) → NotesDeaths r r notes notes
notes-none r notes = record { deaths = []; died = sym (append-nil r.deaths); noted = sym (append-nil notes) }

pub notes-then : (r s t : PoolRecord) (before mid now : List Note) → NotesDeaths r s before mid → NotesDeaths s t mid now → NotesDeaths r t before now
notes-then r s t before mid now first second = record {
  deaths = first.deaths ++ second.deaths;
  died = second.died ∙ ap (λ (ds : List Death). ds ++ second.deaths) first.died ∙ append_assoc r.deaths first.deaths second.deaths;
  noted =
      second.noted ∙ ap (λ (ns : List Note). ns ++ map (λ (d : Death). Died d.victim) second.deaths) first.noted
      ∙ append_assoc before (map (λ (d : Death). Died d.victim) first.deaths) (map (λ (d : Death). Died d.victim) second.deaths)
      ∙ ap (λ (ns : List Note). before ++ ns) (sym (map-append (λ (d : Death). Died d.victim) first.deaths second.deaths));
}

-- a clause that dies, and what takes its place
pub notes-one :
    (options : Options) (victim : ℕ) (justifiers : List ℕ) (fate : Fate) (r : PoolRecord) (before mid now : List Note)
    → mid ≡ before ++ Died victim ∷ [] → now ≡ mid → NotesDeaths r (replaced options victim fate (dies victim justifiers r)) before now
notes-one options victim justifiers fate r before mid now noted kept = record {
  deaths = record { victim = victim; event = r.events; justifiers = justifiers } ∷ [];
  died = (replaced-keeps options victim fate (dies victim justifiers r)).deaths;
  noted = kept ∙ noted;
}

-- ---- removals, one after another

pub record AreProposedSoFar
    (bank : Bank) (options : Options) (event : ℕ) (before : ProofState) (keys_before : List Key) (removals : List Removal) (results : List Interned)
    (now : ProofState) (keys : List Key) (rest : List Removal) (left : List Interned) : Type 0 where
  pub came :
      (table : Table) (r : PoolRecord)
      → event ≡ r.events → AreInterned bank table options.split (length r.parts) (lines_of_removals removals) results
      → IsCountedStateOf bank table before keys_before r
      → (s : PoolRecord) × IsCountedStateOf bank table now keys s
      × AreInterned bank table options.split (length s.parts) (lines_of_removals rest) left × (s.events ≡ r.events)
      × (fold (proposed options) s rest ≡ fold (proposed options) r removals) × NotesDeaths r s before.notes.items now.notes.items
  pub room : HasRoom before (total results) (length removals) → HasRoom now (total left) (length rest)

module _ (bank : Bank) (options : Options) (event : ℕ) (before : ProofState) (keys_before : List Key) (removals : List Removal) (results : List Interned) where
  pub proposals-begin :
      (its : List Removal) (left : List Interned) → its ≡ removals → left ≡ results
      → AreProposedSoFar bank options event before keys_before removals results before keys_before its left
  proposals-begin its left same alike =
      subst (λ ms. AreProposedSoFar bank options event before keys_before removals results before keys_before ms left) (sym same)
      (subst (λ xs. AreProposedSoFar bank options event before keys_before removals results before keys_before removals xs) (sym alike)
      (record { came = λ table r moment interned is. (r, is, interned, refl, refl, notes-none r before.notes.items); room = λ enough. enough }))

  -- whether a removal takes effect
  pub effect-is :
      (table : Table) (now : ProofState) (s : PoolRecord) (m : Removal) → IsProofStateOf bank table now s
      → (is_none now.ended && (is_living_at now.register.clauses m.victim && list_all (is_living_at now.register.clauses) m.justifiers)) ≡ takes_effect s m
  effect-is table now s m is =
      ap₂ (λ (a b : Bool). a && (b && list_all (is_living_at now.register.clauses) m.justifiers)) (ap is_none is.ended) (living-at bank table now s m.victim is)
      ∙ ap (λ b. is_none s.ended && (lives s m.victim && b)) (all m.justifiers)
    where
      all : (ns : List ℕ) → list_all (is_living_at now.register.clauses) ns ≡ list_all (lives s) ns
      all [] = refl
      all (n ∷ ns) = ap₂ (λ (a b : Bool). a && b) (living-at bank table now s n is) (all ns)

  -- the results come from those that are left
  module _ (m : Removal) (rest : List Removal) (left after : List Interned) (x : Option Interned)
      (next : (bank : Bank) (table : Table) (split : Bool) (count : ℕ) (lss : List (List Line))
      → AreInterned bank table split count (option_to_list (lines_of_fate m.fate) ++ lss) left
      → IsResultOf bank table split count m.fate x × AreInterned bank table split count lss after)
      (taken : left ≡ option_to_list x ++ after) where
    pub taken-result :
        (table : Table) (count : ℕ) → AreInterned bank table options.split count (lines_of_removals (m ∷ rest)) left
        → IsResultOf bank table options.split count m.fate x × AreInterned bank table options.split count (lines_of_removals rest) after
    taken-result table count are =
        next bank table options.split count (lines_of_removals rest)
        (subst (λ lss. AreInterned bank table options.split count lss left) (cons-as-list (lines_of_fate m.fate) (lines_of_removals rest)) are)

    pub room-taken : (now : ProofState) (deaths : ℕ) → HasRoom now (total left) deaths → HasRoom now (plus (total (option_to_list x)) (total after)) deaths
    room-taken now deaths enough =
        room-for-less now (plus (total (option_to_list x)) (total after)) (total (option_to_list x ++ after)) deaths deaths (less-next x after) (omega arith)
        (subst (λ xs. HasRoom now (total xs) deaths) taken enough)

    -- a removal that takes effect
    module _ (now mid later : ProofState) (keys more : List Key)
        (effect : (is_none now.ended && (is_living_at now.register.clauses m.victim && list_all (is_living_at now.register.clauses) m.justifiers)) ≡ true)
        (died : (bank : Bank) (table : Table) (r : PoolRecord) (justifiers : List ℕ) (pairs : List (ℕ × ℕ)) → event ≡ r.events
        → without m.victim now.queue.pairs ≡ without m.victim pairs → IsProofStateOf bank table (with_queue pairs now) r
        → IsProofStateOf bank table mid (dies m.victim justifiers r)) where
      -- the state after the death
      pub state-died : (table : Table) (s : PoolRecord) → event ≡ s.events → IsCountedStateOf bank table now keys s → IsCountedStateOf bank table mid keys (dies m.victim m.justifiers s)
      state-died table s moment is = record { proof = died bank table s m.justifiers now.queue.pairs moment refl is.proof; keys = is.keys }

      pub one-removed :
          ((table : Table) (r : PoolRecord)
          → IsResultOf bank table options.split (length r.parts) m.fate x → IsCountedStateOf bank table mid keys r
          → IsCountedStateOf bank table later more (replaced options m.victim m.fate r))
          → mid.notes.items ≡ now.notes.items ++ Died m.victim ∷ [] → later.notes.items ≡ mid.notes.items
          → ((d : Demand) (deaths : ℕ) → HasRoom now d (suc deaths) → HasRoom mid d deaths)
          → ((d : Demand) (deaths : ℕ) → HasRoom mid (plus (total (option_to_list x)) d) deaths → HasRoom later d deaths)
          → AreProposedSoFar bank options event before keys_before removals results now keys (m ∷ rest) left
          → AreProposedSoFar bank options event before keys_before removals results later more rest after
      one-removed replaces noted kept room_died room_replaced so_far = record {
        came = λ table r moment interned is.
            let was = so_far.came table r moment interned is in
            let s : PoolRecord = was.0 in
            let results_left = taken-result table (length (was.0).parts) was.2 in
            let is_effect : takes_effect s m ≡ true = sym (effect-is table now s m was.1.proof) ∙ effect in (
              removed options m s,
              replaces table (dies m.victim m.justifiers s) results_left.0 (state-died table s (moment ∙ sym was.3) was.1),
              all-more-met bank table options.split (length s.parts) (length (removed options m s).parts) (lines_of_removals rest) after
                  (removed-longer options m s) results_left.1,
              (replaced-keeps options m.victim m.fate (dies m.victim m.justifiers s)).events ∙ was.3,
              ap (λ (t : PoolRecord). fold (proposed options) t rest) (sym (cond-true (takes_effect s m) (removed options m s) s is_effect)) ∙ was.4,
              notes-then r s (removed options m s) before.notes.items now.notes.items later.notes.items was.5
                  (notes-one options m.victim m.justifiers m.fate s now.notes.items mid.notes.items later.notes.items noted kept),
            );
        room = λ enough.
            room_replaced (total after) (length rest)
            (room_died (plus (total (option_to_list x)) (total after)) (length rest) (room-taken now (suc (length rest)) (so_far.room enough)));
      }

    -- one that doesn't
    pub one-left-out :
        (now : ProofState) (keys : List Key)
        → (is_none now.ended && (is_living_at now.register.clauses m.victim && list_all (is_living_at now.register.clauses) m.justifiers)) ≡ false
        → AreProposedSoFar bank options event before keys_before removals results now keys (m ∷ rest) left
        → AreProposedSoFar bank options event before keys_before removals results now keys rest after
    one-left-out now keys no_effect so_far = record {
      came = λ table r moment interned is.
          let was = so_far.came table r moment interned is in
          let s : PoolRecord = was.0 in (
            s,
            was.1,
            (taken-result table (length (was.0).parts) was.2).1,
            was.3,
            ap (λ (t : PoolRecord). fold (proposed options) t rest)
                (sym (cond-false (takes_effect s m) (removed options m s) s (sym (effect-is table now s m was.1.proof) ∙ no_effect)))
                ∙ was.4,
            was.5,
          );
      room = λ enough.
          room-for-less now (total after) (plus (total (option_to_list x)) (total after)) (length rest) (suc (length rest))
          (less-second (total (option_to_list x)) (total after)) (omega arith) (room-taken now (suc (length rest)) (so_far.room enough));
    }

  -- some record of which the fields are, where the results are those of a table
  pub some-proposal :
      (now : ProofState) (keys : List Key) (rest : List Removal) (left : List Interned)
      → AreArrivals bank before options.split (lines_of_removals removals) results
      → AreProposedSoFar bank options event before keys_before removals results now keys rest left
      → (table : Table) × (s : PoolRecord) × IsCountedStateOf bank table now keys s
      × AreInterned bank table options.split (length s.parts) (lines_of_removals rest) left × (event ≡ s.events)
  some-proposal now keys rest left arrivals so_far =
      let r : PoolRecord = record arrivals.1 { counted = keys_before; events = event } in
      let is : IsProofStateOf bank arrivals.0 before r = recounted bank arrivals.0 before arrivals.1 keys_before arrivals.1.set_aside event arrivals.3 in
      let was = so_far.came arrivals.0 r refl arrivals.2 (record { proof = is; keys = refl }) in
      (arrivals.0, was.0, was.1, was.2, sym was.3)

-- ---- the given clause

pub gone-queue : (victim number : ℕ) (pairs queue : List (ℕ × ℕ)) → victim ≡ number → queue ≡ without number pairs → without victim queue ≡ without victim pairs
gone-queue victim number pairs queue same is =
    ap (without victim) (is ∙ ap (λ n. without n pairs) (sym same)) ∙ without-twice victim pairs

pub notes-counted :
    (options : Options) (keys : List Key) (results : List (List Line)) (r : PoolRecord) (before now : List Note)
    → now ≡ before → NotesDeaths r (counts options keys results r) before now
notes-counted options keys results r before now same = record {
  deaths = [];
  died = (counts-keeps options keys results r).deaths ∙ sym (append-nil r.deaths);
  noted = same ∙ sym (append-nil before);
}

-- the results of a removal that is alone
pub lone-result :
    (bank : Bank) (table : Table) (split : Bool) (count : ℕ) (m : Removal) (left after : List Interned) (x : Option Interned)
    → ((bank : Bank) (table : Table) (split : Bool) (count : ℕ) (lss : List (List Line))
    → AreInterned bank table split count (option_to_list (lines_of_fate m.fate) ++ lss) left
    → IsResultOf bank table split count m.fate x × AreInterned bank table split count lss after)
    → AreInterned bank table split count (lines_of_removals (m ∷ [])) left → IsResultOf bank table split count m.fate x
lone-result bank table split count m left after x next are =
    (next bank table split count [] (subst (λ lss. AreInterned bank table split count lss left) (cons-as-list (lines_of_fate m.fate) []) are)).0
