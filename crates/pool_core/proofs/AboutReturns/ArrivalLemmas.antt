-- What was counted comes, clause by clause; and what that keeps of a record.
use Rattle.std.proofs.Common.{◌≡◌, ℕ, ◌+◌, ◌≤◌, Bool, true, false, not, ◌&&◌, ◌||◌, List, [], ◌∷◌, ◌++◌, length, append-nil, append_assoc, refl, ap, ap₂, sym, ◌∙◌, subst, arith}
use Rattle.std.specs.Prelude.{Option, None, Some, nat_le, cond, fold, find, is_none, if◌then◌else◌}
use Rattle.std.proofs.lemmas.Bool.{and_parts, true≢false}
use Rattle.std.proofs.lemmas.Option.{none-some}
use Rattle.fol_base.specs.Clause.{TreeClause}
use Rattle.kernel_steps.specs.declared.key.Key.{Key}
use Rattle.kernel_steps.specs.declared.step.Line.{Line}
use Rattle.term_bank.specs.declared.bank.Bank.{Bank}
use Rattle.term_bank.specs.declared.table.Table.{Table}
use Rattle.pool_history.specs.Record.{PoolRecord}
use Rattle.pool_history.specs.Lines.{result_of}
use Rattle.pool_history.specs.Registering.{has_none}
use Rattle.std.specs.List.{cons_option}
use Rattle.fol_base.specs.declared.clause.Clause.{Clause}
use Rattle.pool_history.specs.Counting.{refutes, result_comes, spends, counts, keys_of, lines_of_fate, lines_of_entries}
use Rattle.std.proofs.lemmas.List.{length-append, length-map}
use Rattle.kernel_steps.specs.declared.key.Key.TheVariants.{Replaced}
use Rattle.pool_core.specs.Placing.{IsFormOf, IsInterned, IsComing, AreInterned, IsArrival, AreArrivals, IsCountedStateOf, HasRoom, comes_if, spent_if}
use Rattle.pool_history.specs.declared.batch.Entry.{Entry}
use Rattle.pool_history.specs.declared.batch.Fate.{Fate}
use Rattle.pool_history.specs.declared.batch.Fate.TheVariants.{Kept, Dropped, Heavy}
use Rattle.pool_history.specs.Returning.{replaced}
use Rattle.pool_core.specs.declared.interning.Interned.{Interned}
use Rattle.pool_core.specs.State.{IsProofStateOf}
use Rattle.pool_history.specs.declared.options.Options.{Options}
use Rattle.pool_history.specs.declared.outcome.Outcome.{Outcome}
use Rattle.pool_history.specs.declared.outcome.Outcome.TheVariants.{Refuted, Spent}
use Rattle.pool_core.specs.declared.pool.ProofState.{ProofState}
use Rattle.pool_history.proofs.AboutRecords.FrameLemmas.{Registers, by-if, result-registers, results-register}
use Rattle.pool_core.specs.Demanded.{demand_of, no_demand, plus, total}
use Rattle.pool_core.specs.declared.demand.Demand.{Demand}
use Rattle.pool_core.specs.declared.form.Form.{Form}
use Rattle.pool_core.proofs.AboutReturns.FormLemmas.{refutes-is, result-empty, result-ended}
use Rattle.pool_core.proofs.AboutReturns.GrownLemmas.{result-longer}
use Rattle.pool_core.proofs.AboutReturns.InternedLemmas.{all-more-met}

-- ---- a result that refutes

refutes-none : (lines : List Line) → result_of lines ≡ None → refutes lines ≡ false
refutes-none [] none = refl
refutes-none (l ∷ []) none = absurd (none-some _ (sym none))
refutes-none (l ∷ m ∷ ls) none = refutes-none (m ∷ ls) none

refuted-then : (split : Bool) (r : PoolRecord) (lines : List Line) → r.ended ≡ None → refutes lines ≡ true → (result_comes split r lines).ended ≡ Some Refuted
refuted-then split r lines open_yet is = by (result_of lines) refl
  where
    by : (o : Option TreeClause) → result_of lines ≡ o → (result_comes split r lines).ended ≡ Some Refuted
    by None led = absurd (true≢false (sym is ∙ refutes-none lines led))
    by (Some c) led =
        let parts = and_parts (has_none c.literals) (has_none c.names) (sym (refutes-is lines c led) ∙ is) in
        ap (λ (s : PoolRecord). s.ended) (result-empty split r lines c open_yet led parts.0 parts.1)

-- ---- what was counted

module _ (split : Bool) where
  ended-comes : (b : Bool) (r : PoolRecord) (lines : List Line) → is_none r.ended ≡ false → comes_if split b r lines ≡ r
  ended-comes b r lines ended = by (not b || refutes lines)
    where
      by : (b : Bool) → (if b then result_comes split r lines else r) ≡ r
      by true = result-ended split r lines ended
      by false = refl

  ended-all : (b : Bool) (results : List (List Line)) (r : PoolRecord) → is_none r.ended ≡ false → fold (comes_if split b) r results ≡ r
  ended-all b [] r ended = refl
  ended-all b (lines ∷ lss) r ended =
      ap (λ s. fold (comes_if split b) s lss) (ended-comes b r lines ended) ∙ ended-all b lss r ended

  spends-are : (results : List (List Line)) (r : PoolRecord) → r.ended ≡ None → spends split (find refutes results) r ≡ spent_if true (fold (comes_if split true) r results)
  spends-are [] r open_yet = sym (ap (λ (o : Option Outcome). if true && is_none o then record r { ended = Some (Spent (length r.counted)) } else r) open_yet)
  spends-are (lines ∷ lss) r open_yet = by (refutes lines) refl (spends-are lss r open_yet)
    where
      by :
          (b : Bool) → refutes lines ≡ b → spends split (find refutes lss) r ≡ spent_if true (fold (comes_if split true) r lss)
          → spends split (cond b (Some lines) (find refutes lss)) r ≡ spent_if true (fold (comes_if split true) (if false || b then result_comes split r lines else r) lss)
      by true is rest =
          let ended : is_none (result_comes split r lines).ended ≡ false = ap (λ (o : Option Outcome). is_none o) (refuted-then split r lines open_yet is) in
          let u : PoolRecord = result_comes split r lines in
          sym (ap (spent_if true) (ended-all true lss u ended)
          ∙ ap (λ b. if true && b then record u { ended = Some (Spent (length u.counted)) } else u) ended)
      by false is rest = rest

abbrev pub with_counted : List Key → PoolRecord → PoolRecord
with_counted keys r = record r { counted = r.counted ++ keys }

pub counts-are :
    (options : Options) (keys : List Key) (results : List (List Line)) (r : PoolRecord) (reached : Bool)
    → r.ended ≡ None → nat_le options.inferences (length (r.counted ++ keys)) ≡ reached
    → counts options keys results r ≡ spent_if reached (fold (comes_if options.split reached) (with_counted keys r) results)
counts-are options keys results r reached open_yet is =
    ap (λ (b : Bool). if b then spends options.split (find refutes results) (with_counted keys r) else fold (result_comes options.split) (with_counted keys r) results) is
    ∙ by reached
  where
    by :
        (b : Bool)
        → (if b then spends options.split (find refutes results) (with_counted keys r) else fold (result_comes options.split) (with_counted keys r) results)
        ≡ spent_if b (fold (comes_if options.split b) (with_counted keys r) results)
    by true = spends-are options.split results (with_counted keys r) open_yet
    by false = refl

-- ---- what stays

counted-same : (r s : PoolRecord) → Registers r s → s.counted ≡ r.counted
counted-same r s is = ap (λ (t : PoolRecord). t.counted) is.same

pub counts-counted : (options : Options) (keys : List Key) (results : List (List Line)) (r : PoolRecord) → (counts options keys results r).counted ≡ r.counted ++ keys
counts-counted options keys results r =
    by-if (λ (s : PoolRecord). s.counted ≡ r.counted ++ keys) (nat_le options.inferences (length (r.counted ++ keys)))
    (spends options.split (find refutes results) (with_counted keys r)) (fold (result_comes options.split) (with_counted keys r) results)
    (by (find refutes results))
    (counted-same (with_counted keys r) _ (results-register options.split results (with_counted keys r)))
  where
    by : (o : Option (List Line)) → (spends options.split o (with_counted keys r)).counted ≡ r.counted ++ keys
    by None = refl
    by (Some lines) = counted-same (with_counted keys r) _ (result-registers options.split (with_counted keys r) lines)

pub comes-counted : (split b : Bool) (r : PoolRecord) (lines : List Line) → (comes_if split b r lines).counted ≡ r.counted
comes-counted split b r lines =
    by-if (λ (s : PoolRecord). s.counted ≡ r.counted) (not b || refutes lines) (result_comes split r lines) r
    (counted-same r (result_comes split r lines) (result-registers split r lines)) refl

pub all-come-counted : (split b : Bool) (results : List (List Line)) (r : PoolRecord) → (fold (comes_if split b) r results).counted ≡ r.counted
all-come-counted split b [] r = refl
all-come-counted split b (lines ∷ lss) r = all-come-counted split b lss (comes_if split b r lines) ∙ comes-counted split b r lines

-- there are no fewer parts
pub comes-longer : (split b : Bool) (r : PoolRecord) (lines : List Line) → length r.parts ≤ length (comes_if split b r lines).parts
comes-longer split b r lines =
    by-if (λ (s : PoolRecord). length r.parts ≤ length s.parts) (not b || refutes lines) (result_comes split r lines) r (result-longer split r lines) (omega arith)

-- the fields don't tell of the keys and of the number of events
pub recounted :
    (bank : Bank) (table : Table) (s : ProofState) (r : PoolRecord) (counted set_aside : List Key) (events : ℕ)
    → IsProofStateOf bank table s r → IsProofStateOf bank table s (record r { counted = counted; set_aside = set_aside; events = events })
recounted bank table s r counted set_aside events is = record {
  registered = is.registered;
  of_table = is.of_table;
  registrations = λ n z there. let was = is.registrations n z there in record { position = was.position; death = was.death; active = was.active };
  queue = is.queue;
  steps = is.steps;
  ended = is.ended;
  splits = is.splits;
  tags = is.tags;
  asserting = is.asserting;
  of_registered = let told = is.of_registered in
      record { positions = told.positions; active = told.active; given = told.given; placed = told.placed; victims = told.victims };
  no_empty = is.no_empty;
}

-- ---- a fate without a result

pub not-kept : (fate : Fate) → ((lines : List Line) (results : List Clause) → fate ≡ Kept lines results → ⊥) → lines_of_fate fate ≡ None
not-kept (Kept lines results) none = absurd (none lines results refl)
not-kept (Dropped redundancy) none = refl
not-kept Heavy none = refl

pub replaced-other : (options : Options) (victim : ℕ) (fate : Fate) (r : PoolRecord) → lines_of_fate fate ≡ None → replaced options victim fate r ≡ r
replaced-other options victim (Kept lines results) r none = absurd (none-some lines (sym none))
replaced-other options victim (Dropped redundancy) r none = refl
replaced-other options victim Heavy r none = refl

-- ---- room

-- for less than there is room for
pub record IsLess (d e : Demand) : Type 0 where
  pub clauses : d.clauses ≤ e.clauses
  pub tags : d.tags ≤ e.tags
  pub lines : d.lines ≤ e.lines
  pub parts : d.parts ≤ e.parts
  pub splits : d.splits ≤ e.splits
  pub names : d.names ≤ e.names

pub room-for-less : (s : ProofState) (d e : Demand) (few many : ℕ) → IsLess d e → few ≤ many → HasRoom s e many → HasRoom s d few
room-for-less s d e few many less fewer room = record {
  places = record {
    register = let enough = room.places.register in let l = less.clauses in omega (arith, enough, l);
    queue = let enough = room.places.queue in let l = less.clauses in omega (arith, enough, l);
    index = let enough = room.places.index in let l = less.tags in omega (arith, enough, l);
  };
  steps = let enough = room.steps in let l = less.lines in omega (arith, enough, l);
  parts = record {
    parts = let enough = room.parts.parts in let l = less.parts in omega (arith, enough, l);
    components = let enough = room.parts.components in let l = less.parts in omega (arith, enough, l);
    definitions = let enough = room.parts.definitions in let l = less.parts in omega (arith, enough, l);
  };
  names = record {
    clauses = let enough = room.names.clauses in let l = less.splits in omega (arith, enough, l);
    literals = let enough = room.names.literals in let l = less.names in omega (arith, enough, l);
    lines = let enough = room.names.lines in let l = less.splits in omega (arith, enough, l);
  };
  notes = let enough = room.notes in omega (arith, enough, fewer);
}

-- the first of two, the second, and two of three
pub less-first : (d e : Demand) → IsLess d (plus d e)
less-first d e = record { clauses = omega arith; tags = omega arith; lines = omega arith; parts = omega arith; splits = omega arith; names = omega arith }

pub less-second : (d e : Demand) → IsLess e (plus d e)
less-second d e = record { clauses = omega arith; tags = omega arith; lines = omega arith; parts = omega arith; splits = omega arith; names = omega arith }

pub less-nested : (d e f : Demand) → IsLess (plus d (plus e f)) (plus (plus d e) f)
less-nested d e f = record { clauses = omega arith; tags = omega arith; lines = omega arith; parts = omega arith; splits = omega arith; names = omega arith }

pub less-alone : (d : Demand) → IsLess (plus d no_demand) d
less-alone d = record { clauses = omega arith; tags = omega arith; lines = omega arith; parts = omega arith; splits = omega arith; names = omega arith }

pub less-nothing : (d : Demand) → IsLess no_demand d
less-nothing d = record { clauses = omega arith; tags = omega arith; lines = omega arith; parts = omega arith; splits = omega arith; names = omega arith }

pub nothing-left : {X : Type 0} (xs : List X) → length xs ≡ 0 → xs ≡ []
nothing-left [] none = refl
nothing-left (x ∷ xs) none = absurd (omega (arith, none))

-- ---- entries, one after another

-- The entries that are left, and their results, lead from the fields to the end; the keys of the others are counted.
pub record AreCountedSoFar
    (bank : Bank) (split reached : Bool) (before : ProofState) (keys_before : List Key) (entries : List Entry) (results : List Interned)
    (now : ProofState) (keys : List Key) (rest : List Entry) (left : List Interned) : Type 0 where
  pub came :
      (table : Table) (r : PoolRecord)
      → AreInterned bank table split (length r.parts) (lines_of_entries entries) results → IsProofStateOf bank table before r
      → (s : PoolRecord) × IsProofStateOf bank table now s × AreInterned bank table split (length s.parts) (lines_of_entries rest) left
      × (fold (comes_if split reached) s (lines_of_entries rest) ≡ fold (comes_if split reached) r (lines_of_entries entries))
  pub room : (d : Demand) (deaths : ℕ) → HasRoom before (plus (total results) d) deaths → HasRoom now (plus (total left) d) deaths
  pub counted : keys ++ keys_of rest ≡ keys_before ++ keys_of entries
  pub notes : now.notes.items ≡ before.notes.items

module _ (bank : Bank) (split reached : Bool) (before : ProofState) (keys_before : List Key) (entries : List Entry) (results : List Interned) where
  -- an entry whose result comes
  pub one-kept :
      (now next : ProofState) (keys more : List Key) (e : Entry) (rest : List Entry) (left after : List Interned) (x : Interned) (lines : List Line) (rs : List Clause)
      → e.fate ≡ Kept lines rs → left ≡ x ∷ after → more ≡ keys ++ e.key ∷ []
      → ((table : Table) (split : Bool) (r : PoolRecord)
      → IsInterned bank table split (length r.parts) lines x → IsProofStateOf bank table now r → IsProofStateOf bank table next (comes_if split reached r lines))
      → ((d : Demand) (deaths : ℕ) → HasRoom now (plus x.demand d) deaths → HasRoom next d deaths)
      → next.notes.items ≡ now.notes.items
      → AreCountedSoFar bank split reached before keys_before entries results now keys (e ∷ rest) left
      → AreCountedSoFar bank split reached before keys_before entries results next more rest after
  one-kept now next keys more e rest left after x lines rs fate taken key arrived room notes so_far = record {
    came = λ table r interned is.
        let was = so_far.came table r interned is in
        let both : AreInterned bank table split (length (was.0).parts) (lines ∷ lines_of_entries rest) (x ∷ after) =
        subst (AreInterned bank table split (length (was.0).parts) (lines ∷ lines_of_entries rest)) taken
        (subst (λ lss. AreInterned bank table split (length (was.0).parts) lss left) with_lines was.2) in (
          comes_if split reached was.0 lines,
          arrived table split was.0 both.0 was.1,
          all-more-met bank table split (length (was.0).parts) (length (comes_if split reached was.0 lines).parts) (lines_of_entries rest) after
              (comes-longer split reached was.0 lines) both.1,
          ap (fold (comes_if split reached) was.0) (sym with_lines) ∙ was.3,
        );
    room = λ d deaths enough.
        room (plus (total after) d) deaths
        (room-for-less now (plus x.demand (plus (total after) d)) (plus (total (x ∷ after)) d) deaths deaths (less-nested x.demand (total after) d) (omega arith)
        (subst (λ xs. HasRoom now (plus (total xs) d) deaths) taken (so_far.room d deaths enough)));
    counted = ap (λ (ks : List Key). ks ++ keys_of rest) key ∙ append_assoc keys (e.key ∷ []) (keys_of rest) ∙ so_far.counted;
    notes = notes ∙ so_far.notes;
  }
    where
      with_lines : lines_of_entries (e ∷ rest) ≡ lines ∷ lines_of_entries rest
      with_lines = ap (λ (f : Fate). cons_option (lines_of_fate f) (lines_of_entries rest)) fate

  -- one without a result
  pub one-other :
      (now : ProofState) (keys more : List Key) (e : Entry) (rest : List Entry) (left : List Interned)
      → lines_of_fate e.fate ≡ None → more ≡ keys ++ e.key ∷ []
      → AreCountedSoFar bank split reached before keys_before entries results now keys (e ∷ rest) left
      → AreCountedSoFar bank split reached before keys_before entries results now more rest left
  one-other now keys more e rest left none key so_far = record {
    came = λ table r interned is.
        let was = so_far.came table r interned is in (
          was.0,
          was.1,
          subst (λ lss. AreInterned bank table split (length (was.0).parts) lss left) without_lines was.2,
          ap (fold (comes_if split reached) was.0) (sym without_lines) ∙ was.3,
        );
    room = so_far.room;
    counted = ap (λ (ks : List Key). ks ++ keys_of rest) key ∙ append_assoc keys (e.key ∷ []) (keys_of rest) ∙ so_far.counted;
    notes = so_far.notes;
  }
    where
      without_lines : lines_of_entries (e ∷ rest) ≡ lines_of_entries rest
      without_lines = ap (λ o. cons_option o (lines_of_entries rest)) none

  pub so-far-begins :
      (its : List Entry) (left : List Interned) → its ≡ entries → left ≡ results
      → AreCountedSoFar bank split reached before keys_before entries results before keys_before its left
  so-far-begins its left same alike =
      subst (λ es. AreCountedSoFar bank split reached before keys_before entries results before keys_before es left) (sym same)
      (subst (λ xs. AreCountedSoFar bank split reached before keys_before entries results before keys_before entries xs) (sym alike)
      (record { came = λ table r interned is. (r, is, interned, refl); room = λ d deaths enough. enough; counted = refl; notes = refl }))

  module _ (now : ProofState) (keys : List Key) (e : Entry) (rest : List Entry) (left : List Interned) (lines : List Line) (rs : List Clause) (fate : e.fate ≡ Kept lines rs)
      (so_far : AreCountedSoFar bank split reached before keys_before entries results now keys (e ∷ rest) left)
      (arrivals : AreArrivals bank before split (lines_of_entries entries) results) where
    its-lines : lines_of_entries (e ∷ rest) ≡ lines ∷ lines_of_entries rest
    its-lines = ap (λ (f : Fate). cons_option (lines_of_fate f) (lines_of_entries rest)) fate

    -- there is a result
    pub one-left : length left ≡ 0 → ⊥
    one-left none =
        let was = so_far.came arrivals.0 arrivals.1 arrivals.2 arrivals.3 in
        no-result arrivals.0 (length (was.0).parts) left none (subst (λ lss. AreInterned bank arrivals.0 split (length (was.0).parts) lss left) its-lines was.2)
      where
        no-result : (table : Table) (count : ℕ) (xs : List Interned) → length xs ≡ 0 → AreInterned bank table split count (lines ∷ lines_of_entries rest) xs → ⊥
        no-result table count [] none are = are
        no-result table count (x ∷ xs) none are = absurd (omega (arith, none))

    pub next-arrival : (x : Interned) (after : List Interned) → left ≡ x ∷ after → IsArrival bank now lines x
    next-arrival x after taken =
        let was = so_far.came arrivals.0 arrivals.1 arrivals.2 arrivals.3 in
        let both : AreInterned bank arrivals.0 split (length (was.0).parts) (lines ∷ lines_of_entries rest) (x ∷ after) =
        subst (AreInterned bank arrivals.0 split (length (was.0).parts) (lines ∷ lines_of_entries rest)) taken
        (subst (λ lss. AreInterned bank arrivals.0 split (length (was.0).parts) lss left) its-lines was.2) in
        (arrivals.0, split, was.0, both.0, was.1)

    pub room-for-next : (x : Interned) (after : List Interned) → left ≡ x ∷ after → HasRoom before (total results) 0 → HasRoom now x.demand 0
    room-for-next x after taken enough =
        room-for-less now x.demand (plus (total (x ∷ after)) no_demand) 0 0
        (record { clauses = omega arith; tags = omega arith; lines = omega arith; parts = omega arith; splits = omega arith; names = omega arith }) (omega arith)
        (subst (λ xs. HasRoom now (plus (total xs) no_demand) 0) taken
        (so_far.room no_demand 0
        (room-for-less before (plus (total results) no_demand) (total results) 0 0
        (record { clauses = omega arith; tags = omega arith; lines = omega arith; parts = omega arith; splits = omega arith; names = omega arith }) (omega arith) enough)))

  -- all entries were counted
  pub all-counted :
      (now next : ProofState) (keys : List Key) (rest : List Entry) (left : List Interned) (options : Options) (count : ℕ)
      → split ≡ options.split → before.ended ≡ None → rest ≡ [] → count ≡ length keys
      → reached ≡ nat_le options.inferences (length keys_before + length entries)
      → ((table : Table) (r : PoolRecord) → count ≡ length r.counted → IsProofStateOf bank table now r → IsProofStateOf bank table next (spent_if reached r))
      → AreCountedSoFar bank split reached before keys_before entries results now keys rest left
      → (table : Table) (r : PoolRecord) → AreInterned bank table split (length r.parts) (lines_of_entries entries) results
      → IsCountedStateOf bank table before keys_before r → IsCountedStateOf bank table next keys (counts options (keys_of entries) (lines_of_entries entries) r)
  all-counted now next keys rest left options count split_is open_yet none many limit spent so_far table r interned is = record {
    proof =
        subst (IsProofStateOf bank table next)
        (ap (spent_if reached) was_end ∙ ap (λ b. spent_if reached (fold (comes_if b reached) started (lines_of_entries entries))) split_is
        ∙ sym (counts-are options (keys_of entries) (lines_of_entries entries) r reached open_too reached_too))
        (spent table was.0 (many ∙ ap length (all_keys ∙ sym was_keys)) was.1);
    keys = all_keys ∙ sym (counts-counted options (keys_of entries) (lines_of_entries entries) r);
  }
    where
      open_too : r.ended ≡ None
      open_too = sym is.proof.ended ∙ open_yet

      started : PoolRecord
      started = with_counted (keys_of entries) r

      was : (s : PoolRecord) × IsProofStateOf bank table now s × AreInterned bank table split (length s.parts) (lines_of_entries rest) left
          × (fold (comes_if split reached) s (lines_of_entries rest) ≡ fold (comes_if split reached) started (lines_of_entries entries))
      was = so_far.came table started interned (recounted bank table before r started.counted r.set_aside r.events is.proof)

      was_end : was.0 ≡ fold (comes_if split reached) started (lines_of_entries entries)
      was_end = ap (λ es. fold (comes_if split reached) was.0 (lines_of_entries es)) (sym none) ∙ was.3

      was_keys : (was.0).counted ≡ r.counted ++ keys_of entries
      was_keys = ap (λ (s : PoolRecord). s.counted) was_end ∙ all-come-counted split reached (lines_of_entries entries) started

      all_keys : keys ≡ r.counted ++ keys_of entries
      all_keys = sym (append-nil keys) ∙ ap (λ es. keys ++ keys_of es) (sym none) ∙ so_far.counted ∙ ap (λ ks. ks ++ keys_of entries) is.keys

      reached_too : nat_le options.inferences (length (r.counted ++ keys_of entries)) ≡ reached
      reached_too =
          ap (nat_le options.inferences)
          (length-append r.counted (keys_of entries) ∙ ap₂ (λ (m n : ℕ). m + n) (ap length (sym is.keys)) (length-map entries (λ (e : Entry). e.key)))
          ∙ sym limit

-- ---- a clause that died

-- its result is counted as one entry
pub one-replaced :
    (bank : Bank) (table : Table) (options : Options) (victim : ℕ) (lines : List Line) (results : List Clause) (reached : Bool) (count : ℕ)
    (before mid next : ProofState) (keys_before keys : List Key) (x : Interned) (r : PoolRecord)
    → before.ended ≡ None → keys ≡ keys_before ++ Replaced victim ∷ [] → count ≡ length keys
    → reached ≡ nat_le options.inferences count
    → IsInterned bank table options.split (length r.parts) lines x
    → ((r : PoolRecord) → IsInterned bank table options.split (length r.parts) lines x → IsProofStateOf bank table before r
    → IsProofStateOf bank table mid (comes_if options.split reached r lines))
    → ((r : PoolRecord) → count ≡ length r.counted → IsProofStateOf bank table mid r → IsProofStateOf bank table next (spent_if reached r))
    → IsCountedStateOf bank table before keys_before r
    → IsCountedStateOf bank table next keys (replaced options victim (Kept lines results) r)
one-replaced bank table options victim lines results reached count before mid next keys_before keys x r open_yet one many limit interned arrived spent is = record {
  proof =
      subst (IsProofStateOf bank table next)
      (sym (counts-are options (Replaced victim ∷ []) (lines ∷ []) r reached (sym is.proof.ended ∙ open_yet)
      (ap (nat_le options.inferences) (ap length (sym all_keys) ∙ sym many) ∙ sym limit)))
      (spent (comes_if options.split reached started lines) (many ∙ ap length (all_keys ∙ sym (comes-counted options.split reached started lines)))
      (arrived started interned (recounted bank table before r started.counted r.set_aside r.events is.proof)));
  keys = all_keys ∙ sym (counts-counted options (Replaced victim ∷ []) (lines ∷ []) r);
}
  where
    started : PoolRecord
    started = with_counted (Replaced victim ∷ []) r

    all_keys : keys ≡ r.counted ++ Replaced victim ∷ []
    all_keys = one ∙ ap (λ (ks : List Key). ks ++ Replaced victim ∷ []) is.keys

-- ---- a result in its form

pub coming-of :
    (bank : Bank) (table : Table) (split : Bool) (s : ProofState) (r : PoolRecord) (lines : List Line) (x : Interned) (form : Form)
    → x.form ≡ form → IsInterned bank table split (length r.parts) lines x → IsProofStateOf bank table s r → IsComing bank table split s lines form r
coming-of bank table split s r lines x form same is state = record {
  clause = is.clause;
  lead = is.lead;
  form = subst (IsFormOf bank table split is.clause) same is.form;
  state = state;
}

pub form-demand :
    (bank : Bank) (table : Table) (split : Bool) (count : ℕ) (lines : List Line) (x : Interned) (form : Form)
    → x.form ≡ form → IsInterned bank table split count lines x → x.demand ≡ demand_of (length lines) form
form-demand bank table split count lines x form same is = is.counted ∙ ap (demand_of (length lines)) same
