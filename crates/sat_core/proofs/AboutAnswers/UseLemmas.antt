-- Each chain of a log without what its last one doesn't need is cited by a later one.
use Rattle.std.proofs.Common.{◌≡◌, ℕ, zero, suc, ◌+◌, ◌-◌, ◌<◌, ◌≤◌, Bool, true, false, ◌&&◌, ◌||◌, cond, List, [], ◌∷◌, ◌++◌, length, map, get_or, replicate, set, refl, ap, sym, ◌∙◌, subst, arith, ◌⊎◌, inl, inr, ⊎_elim}
use Rattle.std.specs.Prelude.{nat_lt}
use Rattle.std.specs.List.{list_any}
use Rattle.std.proofs.lemmas.Bool.{cases_lt, cases_eq, or_left, or_right, and_from, le-ltb, ltb-true, eq-eqb, eqb-true, both_ways}
use Rattle.std.proofs.lemmas.List.{length_push, get_or-set_other, get_or_append_left, get_or_push, get_or_read, get_or-replicate, get_or_past}
use Rattle.sat_core.specs.declared.answer.Link.{Link}
use Rattle.sat_core.specs.declared.answer.Chain.{Chain}
use Rattle.sat_core.specs.declared.clauses.Clauses.{Clauses}
use Rattle.sat_core.specs.Known.{log_of}
use Rattle.sat_core.specs.Trimming.{chain_at, is_cited, cites, is_trimmed_from, is_trimmed, IsUsed, AreNeeded, new_number, new_link}
use Rattle.sat_core.proofs.AboutAnswers.TrimLemmas.{chains_length, chain_of, AreNeededFrom}

-- ---- what is needed is used

pub record AreUsed (inputs : ℕ) (log : List Chain) (needed : List Bool) : Type 0 where
  pub used : (k : ℕ) → k + 1 < length log → get_or needed k false ≡ true → IsUsed inputs log needed k

pub all_false : (n : ℕ) (needed : List Bool) → needed ≡ replicate n false → length needed ≡ n → (k : ℕ) → get_or needed k false ≡ false
all_false n needed is count k =
    ⊎_elim (λ (w : k < n). ap (λ (bs : List Bool). get_or bs k false) is ∙ get_or-replicate n k false false w)
    (λ (w : n ≤ k). get_or_past needed k false (omega (arith, w, count)))
    (cases_lt k n)

-- nothing is marked but the last
pub used_begun :
    (inputs : ℕ) (log : List Chain) (needed : List Bool) (n : ℕ)
    → n ≡ length log → ((k : ℕ) → get_or needed k false ≡ false) → AreUsed inputs log (set needed (n - 1) true)
used_begun inputs log needed n is unmarked = record {
  used = λ k within there. absurd (both_ways (get_or needed k false) (unmarked k) (sym (get_or-set_other needed (n - 1) k true false (λ e. omega (arith, e, within, is))) ∙ there));
}

pub used_none :
    (inputs : ℕ) (log : List Chain) (needed : List Bool) (n : ℕ) → n ≡ length log → n ≡ 0 → AreUsed inputs log needed
used_none inputs log needed n is none = record { used = λ k within. absurd (omega (arith, within, is, none)) }

-- a needed chain marks what it cites
pub used_marked :
    (inputs : ℕ) (log : List Chain) (needed needed' : List Bool) (i : ℕ)
    → i < length log → get_or needed i false ≡ true → AreUsed inputs log needed
    → ((k : ℕ) → get_or needed' k false ≡ (get_or needed k false || (nat_lt k i && cites inputs k (chain_at log i))))
    → AreUsed inputs log needed'
used_marked inputs log needed needed' i within is_needed are marks = record {
  used = λ k below there. either k (get_or needed k false) refl below (sym (marks k) ∙ there);
}
  where
    kept : (k : ℕ) → get_or needed k false ≡ true → get_or needed' k false ≡ true
    kept k h = marks k ∙ or_left (get_or needed k false) (nat_lt k i && cites inputs k (chain_at log i)) h

    both : (a b : Bool) → (a && b) ≡ true → (a ≡ true) × (b ≡ true)
    both true b h = (refl, h)
    both false b h = cc

    either :
        (k : ℕ) (b : Bool) → get_or needed k false ≡ b → k + 1 < length log
        → (get_or needed k false || (nat_lt k i && cites inputs k (chain_at log i))) ≡ true → IsUsed inputs log needed' k
    either k true was below h =
        let used = are.used k below was in
        record { by = used.by; behind = used.behind; within = used.within; is_needed = kept used.by used.is_needed; cited = used.cited }
    either k false was below h =
        let now = both (nat_lt k i) (cites inputs k (chain_at log i)) (sym (ap (λ (b : Bool). b || (nat_lt k i && cites inputs k (chain_at log i))) was) ∙ h) in
        record { by = i; behind = ltb-true k i now.0; within = within; is_needed = kept i is_needed; cited = now.1 }

pub needed_all :
    (inputs : ℕ) (log : List Chain) (needed : List Bool) (index : ℕ)
    → index ≡ 0 → AreNeededFrom inputs log needed index → AreUsed inputs log needed → AreNeeded inputs log needed
needed_all inputs log needed index e are uses = record {
  count = are.count;
  last = are.last;
  closed = λ k i below within is cited. are.closed k i below (omega (arith, e)) within is cited;
  used = uses.used;
}

-- ---- a chain with new numbers

either_way : (a b c d : Bool) → (a ≡ true → c ≡ true) → (b ≡ true → d ≡ true) → (a || b) ≡ true → (c || d) ≡ true
either_way true b c d f g h = or_left c d (f refl)
either_way false b c d f g h = or_right c d (g h)

-- a number of chain k is made that of chain q
cited_anew :
    (inputs k q n : ℕ) (numbers : List ℕ) → get_or numbers k 0 ≡ inputs + q
    → is_cited inputs k n ≡ true → is_cited inputs q (new_number inputs numbers n) ≡ true
cited_anew inputs k q n numbers number h =
    let e : n ≡ inputs + k = eqb-true n (inputs + k) h in
    let same : n - inputs ≡ k = omega (arith, e) in
    eq-eqb (new_number inputs numbers n) (inputs + q)
    (ap (λ (b : Bool). cond b n (get_or numbers (n - inputs) 0)) (le-ltb n inputs (omega (arith, e)))
    ∙ ap (λ (j : ℕ). get_or numbers j 0) same ∙ number)

links_cite_anew :
    (inputs k q : ℕ) (numbers : List ℕ) (links : List Link) → get_or numbers k 0 ≡ inputs + q
    → list_any (λ (l : Link). is_cited inputs k l.number) links ≡ true
    → list_any (λ (l : Link). is_cited inputs q l.number) (map (new_link inputs numbers) links) ≡ true
links_cite_anew inputs k q numbers [] number h = h
links_cite_anew inputs k q numbers (l ∷ links) number h =
    either_way (is_cited inputs k l.number) (list_any (λ (m : Link). is_cited inputs k m.number) links)
    (is_cited inputs q (new_number inputs numbers l.number)) (list_any (λ (m : Link). is_cited inputs q m.number) (map (new_link inputs numbers) links))
    (cited_anew inputs k q l.number numbers number) (links_cite_anew inputs k q numbers links number) h

cites_anew :
    (inputs k q : ℕ) (numbers : List ℕ) (old new : Chain)
    → new.start ≡ new_number inputs numbers old.start → new.links ≡ map (new_link inputs numbers) old.links
    → get_or numbers k 0 ≡ inputs + q → cites inputs k old ≡ true → cites inputs q new ≡ true
cites_anew inputs k q numbers old new start links number h =
    ap (λ (n : ℕ). is_cited inputs q n || list_any (λ (l : Link). is_cited inputs q l.number) new.links) start
    ∙ ap (λ (ls : List Link). is_cited inputs q (new_number inputs numbers old.start) || list_any (λ (l : Link). is_cited inputs q l.number) ls) links
    ∙ either_way (is_cited inputs k old.start) (list_any (λ (l : Link). is_cited inputs k l.number) old.links)
    (is_cited inputs q (new_number inputs numbers old.start)) (list_any (λ (l : Link). is_cited inputs q l.number) (map (new_link inputs numbers) old.links))
    (cited_anew inputs k q old.start numbers number) (links_cite_anew inputs k q numbers old.links number) h

-- ---- the log so far

-- a chain behind chain q of the log cites the clause of a number
pub record IsCitedBehind (inputs number q : ℕ) (log : List Chain) : Type 0 where
  pub by : ℕ
  pub behind : q < by
  pub within : by < length log
  pub cited : cites inputs number (chain_at log by) ≡ true

-- chain q of the new log is one of the old log that is cited by a needed one that is still to come
pub record IsAwaited (inputs : ℕ) (old : List Chain) (needed : List Bool) (index : ℕ) (numbers : List ℕ) (q : ℕ) : Type 0 where
  pub from : ℕ
  pub before : from < index
  pub number : get_or numbers from 0 ≡ inputs + q
  pub by : ℕ
  pub ahead : index ≤ by
  pub within : by < length old
  pub is_needed : get_or needed by false ≡ true
  pub cited : cites inputs from (chain_at old by) ≡ true

-- each new chain is cited, or will be, or is the last
pub record IsLean (inputs : ℕ) (old : List Chain) (needed : List Bool) (index : ℕ) (numbers : List ℕ) (log : List Chain) : Type 0 where
  pub count : length numbers ≡ index
  pub chains :
      (q : ℕ) → q < length log
      → IsCitedBehind inputs q q log ⊎ (IsAwaited inputs old needed index numbers q ⊎ ((index ≡ length old) × (q + 1 ≡ length log)))

pub lean_none :
    (inputs : ℕ) (old : List Chain) (needed : List Bool) (numbers : List ℕ) (log : List Chain) → numbers ≡ [] → log ≡ [] → IsLean inputs old needed 0 numbers log
lean_none inputs old needed numbers log no_numbers no_log = record {
  count = ap length no_numbers;
  chains = λ q w. let none = ap length no_log in absurd (omega (arith, w, none));
}

-- one that is awaited, and not by the next
awaited_still :
    (inputs : ℕ) (old : List Chain) (needed : List Bool) (index m : ℕ) (numbers numbers' : List ℕ) (q : ℕ)
    → length numbers ≡ index → numbers' ≡ numbers ++ m ∷ [] → (a : IsAwaited inputs old needed index numbers q) → (a.by ≡ index → ⊥)
    → IsAwaited inputs old needed (index + 1) numbers' q
awaited_still inputs old needed index m numbers numbers' q count more a other =
    let before = a.before in
    record {
      from = a.from;
      before = omega (arith, before);
      number =
          ap (λ (ns : List ℕ). get_or ns a.from 0) more ∙ get_or_append_left numbers (m ∷ []) 0 a.from (omega (arith, before, count)) ∙ a.number;
      by = a.by;
      ahead = further a.by a.ahead other;
      within = a.within;
      is_needed = a.is_needed;
      cited = a.cited;
    }
  where
    further : (j : ℕ) → index ≤ j → (j ≡ index → ⊥) → index + 1 ≤ j
    further j from e = ⊎_elim (λ (h : index < j). omega (arith, h)) (λ (h : j ≤ index). absurd (e (omega (arith, h, from)))) (cases_lt index j)

pub lean_passed :
    (inputs : ℕ) (old : List Chain) (needed : List Bool) (index m : ℕ) (numbers numbers' : List ℕ) (log : List Chain)
    → IsLean inputs old needed index numbers log → index < length old → numbers' ≡ numbers ++ m ∷ [] → get_or needed index false ≡ false
    → IsLean inputs old needed (index + 1) numbers' log
lean_passed inputs old needed index m numbers numbers' log is within more absent = record {
  count = ap length more ∙ length_push numbers m ∙ ap (λ (n : ℕ). n + 1) is.count;
  chains = λ q w. step q (is.chains q w);
}
  where
    step :
        (q : ℕ) → IsCitedBehind inputs q q log ⊎ (IsAwaited inputs old needed index numbers q ⊎ ((index ≡ length old) × (q + 1 ≡ length log)))
        → IsCitedBehind inputs q q log ⊎ (IsAwaited inputs old needed (index + 1) numbers' q ⊎ ((index + 1 ≡ length old) × (q + 1 ≡ length log)))
    step q (inl cited) = inl cited
    step q (inr (inl a)) =
        inr (inl (awaited_still inputs old needed index m numbers numbers' q is.count more a
        (λ (e : a.by ≡ index). both_ways (get_or needed a.by false) (ap (λ (n : ℕ). get_or needed n false) e ∙ absent) a.is_needed)))
    step q (inr (inr last)) = let end = last.0 in absurd (omega (arith, end, within))

pub lean_more :
    (inputs : ℕ) (old : List Chain) (needed : List Bool) (index m : ℕ) (numbers numbers' : List ℕ) (log : List Chain) (chain : Chain)
    → AreNeeded inputs old needed → index < length old → get_or needed index false ≡ true
    → IsLean inputs old needed index numbers log
    → numbers' ≡ numbers ++ m ∷ [] → m ≡ inputs + length log
    → chain.start ≡ new_number inputs numbers' (chain_at old index).start
    → chain.links ≡ map (new_link inputs numbers') (chain_at old index).links
    → IsLean inputs old needed (index + 1) numbers' (log ++ chain ∷ [])
lean_more inputs old needed index m numbers numbers' log chain are within there is more number start links = record {
  count = ap length more ∙ length_push numbers m ∙ ap (λ (n : ℕ). n + 1) is.count;
  chains = λ q w. step q (cases_lt q (length log)) (let n = longer in omega (arith, w, n));
}
  where
    longer : length (log ++ chain ∷ []) ≡ length log + 1
    longer = length_push log chain

    Chains : ℕ → Type 0
    Chains q =
        IsCitedBehind inputs q q (log ++ chain ∷ [])
        ⊎ (IsAwaited inputs old needed (index + 1) numbers' q ⊎ ((index + 1 ≡ length old) × (q + 1 ≡ length (log ++ chain ∷ []))))

    awaited : (q : ℕ) → q < length log → (a : IsAwaited inputs old needed index numbers q) → (a.by ≡ index) ⊎ (a.by ≡ index → ⊥) → Chains q
    awaited q w a (inl e) =
        let before = a.before in
        let count = is.count in
        inl (record {
          by = length log;
          behind = w;
          within = let n = longer in omega (arith, n);
          cited =
              ap (cites inputs q) (get_or_push log chain (chain_at [] 0) (length log) refl)
              ∙ cites_anew inputs a.from q numbers' (chain_at old index) chain start links
              (ap (λ (ns : List ℕ). get_or ns a.from 0) more ∙ get_or_append_left numbers (m ∷ []) 0 a.from (omega (arith, before, count)) ∙ a.number)
              (ap (λ (n : ℕ). cites inputs a.from (chain_at old n)) (sym e) ∙ a.cited);
        })
    awaited q w a (inr e) = inr (inl (awaited_still inputs old needed index m numbers numbers' q is.count more a e))

    earlier :
        (q : ℕ) → q < length log
        → IsCitedBehind inputs q q log ⊎ (IsAwaited inputs old needed index numbers q ⊎ ((index ≡ length old) × (q + 1 ≡ length log)))
        → Chains q
    earlier q w (inl c) =
        let before = c.within in
        inl (record {
          by = c.by;
          behind = c.behind;
          within = let n = longer in omega (arith, before, n);
          cited = ap (cites inputs q) (get_or_append_left log (chain ∷ []) (chain_at [] 0) c.by before) ∙ c.cited;
        })
    earlier q w (inr (inl a)) = awaited q w a (cases_eq a.by index)
    earlier q w (inr (inr last)) = let end = last.0 in absurd (omega (arith, end, within))

    newest : (q : ℕ) → q ≡ length log → (index + 1 < length old) ⊎ (length old ≤ index + 1) → Chains q
    newest q e (inl further) =
        let used = are.used index further there in
        let behind = used.behind in
        inr (inl (record {
          from = index;
          before = omega arith;
          number = ap (λ (ns : List ℕ). get_or ns index 0) more ∙ get_or_push numbers m 0 index is.count ∙ number ∙ ap (λ (n : ℕ). inputs + n) (sym e);
          by = used.by;
          ahead = omega (arith, behind);
          within = used.within;
          is_needed = used.is_needed;
          cited = used.cited;
        }))
    newest q e (inr end) = let n = longer in inr (inr (omega (arith, end, within), omega (arith, e, n)))

    step : (q : ℕ) → (q < length log) ⊎ (length log ≤ q) → q < length log + 1 → Chains q
    step q (inl w) below = earlier q w (is.chains q w)
    step q (inr w) below = newest q (omega (arith, w, below)) (cases_lt (index + 1) (length old))

-- as the code has the chain
pub lean_at :
    (c : Clauses) (needed : List Bool) (index m s : ℕ) (numbers numbers' ns : List ℕ) (log log' : List Chain) (ls : List Link) (chain : Chain)
    → length c.starts.items ≡ length c.links → AreNeeded (length c.inputs.now) (log_of c) needed → index < length needed → get_or needed index false ≡ true
    → IsLean (length c.inputs.now) (log_of c) needed index numbers log
    → numbers' ≡ numbers ++ m ∷ [] → m ≡ length c.inputs.now + length log → ns ≡ numbers'
    → s ≡ get_or c.starts.items index s → ls ≡ get_or c.links index []
    → chain.start ≡ new_number (length c.inputs.now) ns s → chain.links ≡ map (new_link (length c.inputs.now) ns) ls
    → log' ≡ log ++ chain ∷ []
    → IsLean (length c.inputs.now) (log_of c) needed (index + 1) numbers' log'
lean_at c needed index m s numbers numbers' ns log log' ls chain lined are within there is more number same read read_links start links longer =
    subst (λ (log : List Chain). IsLean (length c.inputs.now) (log_of c) needed (index + 1) numbers' log) (sym longer)
    (lean_more (length c.inputs.now) (log_of c) needed index m numbers numbers' log chain are below there is more number
    (start ∙ ap (λ (xs : List ℕ). new_number (length c.inputs.now) xs s) same
    ∙ ap (new_number (length c.inputs.now) numbers') (get_or_read c.starts.items index s starts_within read 0 ∙ sym (ap (λ (x : Chain). x.start) at)))
    (links ∙ ap (λ (xs : List ℕ). map (new_link (length c.inputs.now) xs) ls) same
    ∙ ap (map (new_link (length c.inputs.now) numbers')) (read_links ∙ sym (ap (λ (x : Chain). x.links) at))))
  where
    starts_within : index < length c.starts.items
    starts_within = let n = chains_length c.starts.items c.links lined in omega (arith, n, within, are.count)

    below : index < length (log_of c)
    below = omega (arith, within, are.count)

    at : chain_at (log_of c) index ≡ record { start = get_or c.starts.items index 0; links = get_or c.links index [] }
    at = chain_of c.starts.items c.links index lined starts_within

-- ---- the whole log

any_at : (inputs number : ℕ) (log : List Chain) (b : ℕ) → b < length log → cites inputs number (chain_at log b) ≡ true → list_any (cites inputs number) log ≡ true
any_at inputs number [] b w h = absurd (omega (arith, w))
any_at inputs number (c ∷ log) zero w h = or_left (cites inputs number c) (list_any (cites inputs number) log) h
any_at inputs number (c ∷ log) (suc b) w h =
    or_right (cites inputs number c) (list_any (cites inputs number) log) (any_at inputs number log b (omega (arith, w)) h)

-- without the first chain
cited_in_rest : (inputs number q : ℕ) (c : Chain) (log : List Chain) (by : ℕ) → suc q < by → by < suc (length log) → cites inputs number (chain_at (c ∷ log) by) ≡ true → IsCitedBehind inputs number q log
cited_in_rest inputs number q c log zero behind within h = absurd (omega (arith, behind))
cited_in_rest inputs number q c log (suc by) behind within h = record { by = by; behind = omega (arith, behind); within = omega (arith, within); cited = h }

cited_by_rest : (inputs number : ℕ) (c : Chain) (log : List Chain) (by : ℕ) → 0 < by → by < suc (length log) → cites inputs number (chain_at (c ∷ log) by) ≡ true → list_any (cites inputs number) log ≡ true
cited_by_rest inputs number c log zero behind within h = absurd (omega (arith, behind))
cited_by_rest inputs number c log (suc by) behind within h = any_at inputs number log by (omega (arith, within)) h

trimmed_from :
    (inputs k : ℕ) (log : List Chain) → ((q number : ℕ) → number ≡ k + q → q + 1 < length log → IsCitedBehind inputs number q log)
    → is_trimmed_from inputs k log ≡ true
trimmed_from inputs k [] cited = refl
trimmed_from inputs k (c ∷ []) cited = refl
trimmed_from inputs k (c ∷ d ∷ log) cited =
    let first = cited 0 k (omega arith) (omega arith) in
    and_from (list_any (cites inputs k) (d ∷ log)) (is_trimmed_from inputs (k + 1) (d ∷ log))
    (cited_by_rest inputs k c (d ∷ log) first.by first.behind first.within first.cited)
    (trimmed_from inputs (k + 1) (d ∷ log)
    (λ q number e w.
    let rest = cited (suc q) number (omega (arith, e)) (omega (arith, w)) in
    cited_in_rest inputs number q c (d ∷ log) rest.by rest.behind rest.within rest.cited))

pub lean_all :
    (inputs : ℕ) (old : List Chain) (needed : List Bool) (index : ℕ) (numbers : List ℕ) (log : List Chain)
    → index ≡ length old → IsLean inputs old needed index numbers log → is_trimmed inputs log ≡ true
lean_all inputs old needed index numbers log all is =
    trimmed_from inputs 0 log
    (λ q number e w.
    subst (λ (n : ℕ). IsCitedBehind inputs n q log) (same q number e) (done q w (is.chains q (omega (arith, w)))))
  where
    same : (q number : ℕ) → number ≡ 0 + q → q ≡ number
    same q number e = omega (arith, e)

    done :
        (q : ℕ) → q + 1 < length log
        → IsCitedBehind inputs q q log ⊎ (IsAwaited inputs old needed index numbers q ⊎ ((index ≡ length old) × (q + 1 ≡ length log)))
        → IsCitedBehind inputs q q log
    done q w (inl cited) = cited
    done q w (inr (inl a)) = let ahead = a.ahead in let within = a.within in absurd (omega (arith, ahead, within, all))
    done q w (inr (inr last)) = let end = last.1 in absurd (omega (arith, end, w))
