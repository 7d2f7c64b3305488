-- A log without the chains that its last one doesn't need.
use Rattle.std.proofs.Common.{◌≡◌, ℕ, zero, suc, ◌+◌, ◌-◌, ◌<◌, ◌≤◌, Bool, true, false, ◌&&◌, ◌||◌, cond, List, [], ◌∷◌, ◌++◌, length, map, take, get_or, set, Option, Some, None, refl, ap, sym, ◌∙◌, subst, arith, ◌⊎◌, inl, inr, ⊎_elim}
use Rattle.std.specs.Prelude.{slice_get, option_and_then, option_map, nat_lt, ◌==◌}
use Rattle.std.specs.List.{list_any}
use Rattle.std.proofs.lemmas.Bool.{cases_lt, cases_eq, or_left, or_right, and_from, lt-ltb, le-ltb, ltb-true, eq-eqb, eqb-true, ne_eqb, both_ways}
use Rattle.std.proofs.lemmas.List.{append_assoc, append-nil, length_push, length-set, get_or-set_same, get_or-set_other, get_or_append_left, get_or_push, get_or_read, take_all, map_more}
use Rattle.std.proofs.lemmas.List.Folds.{list_any_more}
use Rattle.std.proofs.Math.Bool.{or-false}
use Rattle.std.proofs.lemmas.Option.{option_and_then_some, same_Some, slice_get-get_or}
use Rattle.plain_types.specs.Names.{can_resolve, resolvent}
use Rattle.sat_core.specs.declared.answer.Link.{Link}
use Rattle.sat_core.specs.declared.answer.Chain.{Chain}
use Rattle.sat_core.specs.declared.clauses.Clauses.{Clauses}
use Rattle.sat_core.specs.Clause.{PropClause}
use Rattle.sat_core.specs.Resolution.{link_clause, links_clause, chain_clause, log_clauses, ends_empty}
use Rattle.sat_core.specs.Answer.{IsRightLog}
use Rattle.sat_core.specs.State.{clause_at, Derives, AreDerived}
use Rattle.sat_core.specs.Known.{known, chains_of, log_of, IsKnown}
use Rattle.sat_core.specs.Trimming.{chain_at, is_cited, cites, AreNeeded, new_number, new_link}
use Rattle.sat_core.proofs.AboutConflicts.LogLemmas.{log_clauses_push, ends_empty_push, learned}

-- ---- chains by their starts and links

pub chains_push :
    (starts : List ℕ) (links : List (List Link)) (start : ℕ) (ls : List Link) → length starts ≡ length links
    → chains_of (starts ++ start ∷ []) (links ++ ls ∷ []) ≡ chains_of starts links ++ record { start = start; links = ls } ∷ []
chains_push [] [] start ls h = refl
chains_push [] (l ∷ links) start ls h = absurd (omega (arith, h))
chains_push (s ∷ starts) [] start ls h = absurd (omega (arith, h))
chains_push (s ∷ starts) (l ∷ links) start ls h =
    ap (λ (cs : List Chain). record { start = s; links = l } ∷ cs) (chains_push starts links start ls (omega (arith, h)))

pub chains_length : (starts : List ℕ) (links : List (List Link)) → length starts ≡ length links → length (chains_of starts links) ≡ length starts
chains_length [] links h = refl
chains_length (s ∷ starts) [] h = absurd (omega (arith, h))
chains_length (s ∷ starts) (l ∷ links) h = ap suc (chains_length starts links (omega (arith, h)))

pub chain_of :
    (starts : List ℕ) (links : List (List Link)) (i : ℕ) → length starts ≡ length links → i < length starts
    → chain_at (chains_of starts links) i ≡ record { start = get_or starts i 0; links = get_or links i [] }
chain_of [] links i h within = absurd (omega (arith, within))
chain_of (s ∷ starts) [] i h within = absurd (omega (arith, h))
chain_of (s ∷ starts) (l ∷ links) zero h within = refl
chain_of (s ∷ starts) (l ∷ links) (suc i) h within = chain_of starts links i (omega (arith, h)) (omega (arith, within))

-- one more clause and its chain
pub known_more :
    (c c' : Clauses) (start : ℕ) (links : List Link) (clause : PropClause)
    → IsKnown c → Derives (known c) (record { start = start; links = links }) clause
    → c'.inputs.now ≡ c.inputs.now → c'.learned ≡ c.learned ++ clause ∷ [] → c'.starts.items ≡ c.starts.items ++ start ∷ [] → c'.links ≡ c.links ++ links ∷ []
    → IsKnown c'
known_more c c' start links clause is derives same_inputs more_learned more_starts more_links = record {
  derived =
      subst (λ (ins : List PropClause). AreDerived ins c'.learned (log_of c')) (sym same_inputs)
      (subst (λ (ls : List PropClause). AreDerived c.inputs.now ls (log_of c')) (sym more_learned)
      (subst (λ (log : List Chain). AreDerived c.inputs.now (c.learned ++ clause ∷ []) log) (sym longer)
      (learned c.inputs.now c.learned (log_of c) (record { start = start; links = links }) clause is.derived derives)));
  lined = ap length more_starts ∙ length_push c.starts.items start ∙ ap (λ (n : ℕ). n + 1) is.lined ∙ sym (length_push c.links links) ∙ sym (ap length more_links);
}
  where
    longer : log_of c' ≡ log_of c ++ record { start = start; links = links } ∷ []
    longer =
        ap (λ (ss : List ℕ). chains_of ss c'.links) more_starts ∙ ap (chains_of (c.starts.items ++ start ∷ [])) more_links
        ∙ chains_push c.starts.items c.links start links is.lined

-- ---- marks

-- a number before the index is marked
pub marked :
    (needed : List Bool) (inputs index number k : ℕ) → inputs ≤ number → number - inputs < index → index ≤ length needed
    → get_or (set needed (number - inputs) true) k false ≡ (get_or needed k false || (nat_lt k index && is_cited inputs k number))
marked needed inputs index number k from before within =
    ⊎_elim
    (λ (e : k ≡ number - inputs).
    ap (λ (n : ℕ). get_or (set needed (number - inputs) true) n false) e
    ∙ get_or-set_same needed (number - inputs) true false (omega (arith, before, within))
    ∙ sym (or_right (get_or needed k false) (nat_lt k index && is_cited inputs k number)
    (and_from (nat_lt k index) (is_cited inputs k number) (lt-ltb k index (omega (arith, e, before))) (eq-eqb number (inputs + k) (omega (arith, e, from))))))
    (λ (e : k ≡ number - inputs → ⊥).
    get_or-set_other needed (number - inputs) k true false e
    ∙ none (get_or needed k false) (nat_lt k index) (is_cited inputs k number) (ne_eqb number (inputs + k) (λ (s : number ≡ inputs + k). e (omega (arith, s)))))
    (cases_eq k (number - inputs))
  where
    none : (a b c : Bool) → c ≡ false → a ≡ (a || (b && c))
    none true b c f = refl
    none false true c f = sym f
    none false false c f = refl

-- and no other
pub unmarked :
    (needed : List Bool) (inputs index number k : ℕ) → (inputs ≤ number → number - inputs < index → ⊥)
    → get_or needed k false ≡ (get_or needed k false || (nat_lt k index && is_cited inputs k number))
unmarked needed inputs index number k not_before = none (get_or needed k false) (nat_lt k index) (is_cited inputs k number) absent
  where
    absent : nat_lt k index ≡ true → is_cited inputs k number ≡ true → ⊥
    absent below is =
        let p = ltb-true k index below in
        let q : number ≡ inputs + k = eqb-true number (inputs + k) is in
        not_before (omega (arith, q)) (omega (arith, p, q))

    none : (a b c : Bool) → (b ≡ true → c ≡ true → ⊥) → a ≡ (a || (b && c))
    none true b c f = refl
    none false true true f = absurd (f refl refl)
    none false true false f = refl
    none false false c f = refl

-- what the start and the first links cite
abbrev pub cited_so_far : ℕ → ℕ → ℕ → List Link → Bool
cited_so_far inputs k start links = is_cited inputs k start || list_any (λ (l : Link). is_cited inputs k l.number) links

pub marked_first :
    (old new : Bool) (inputs index k start : ℕ) (starts : List ℕ) (links : List Link) → index < length starts → start ≡ get_or starts index start
    → new ≡ (old || (nat_lt k index && is_cited inputs k start))
    → new ≡ (old || (nat_lt k index && cited_so_far inputs k (get_or starts index 0) (take 0 links)))
marked_first old new inputs index k start starts links within read now =
    now
    ∙ ap (λ (b : Bool). old || (nat_lt k index && b))
    (ap (is_cited inputs k) (get_or_read starts index start within read 0) ∙ sym (or-false (is_cited inputs k (get_or starts index 0))))

pub marked_all :
    (old new : Bool) (inputs index k n : ℕ) (starts : List ℕ) (links : List (List Link)) (ls : List Link)
    → length starts ≡ length links → index < length starts → ls ≡ get_or links index [] → length ls ≤ n
    → new ≡ (old || (nat_lt k index && cited_so_far inputs k (get_or starts index 0) (take n ls)))
    → new ≡ (old || (nat_lt k index && cites inputs k (chain_at (chains_of starts links) index)))
marked_all old new inputs index k n starts links ls lined within read all now =
    now
    ∙ ap (λ (xs : List Link). old || (nat_lt k index && cited_so_far inputs k (get_or starts index 0) xs)) (take_all n ls all ∙ read)
    ∙ ap (λ (c : Chain). old || (nat_lt k index && cites inputs k c)) (sym (chain_of starts links index lined within))

pub marked_more :
    (old mid new : Bool) (inputs index k start : ℕ) (links : List Link) (i : ℕ) (l : Link)
    → i < length links → l ≡ get_or links i l
    → mid ≡ (old || (nat_lt k index && cited_so_far inputs k start (take i links)))
    → new ≡ (mid || (nat_lt k index && is_cited inputs k l.number))
    → new ≡ (old || (nat_lt k index && cited_so_far inputs k start (take (i + 1) links)))
marked_more old mid new inputs index k start links i l within read before now =
    now ∙ ap (λ (b : Bool). b || (nat_lt k index && is_cited inputs k l.number)) before
    ∙ joined old (nat_lt k index) (is_cited inputs k start) (list_any (λ (l : Link). is_cited inputs k l.number) (take i links)) (is_cited inputs k l.number)
    ∙ ap (λ (b : Bool). old || (nat_lt k index && (is_cited inputs k start || b)))
    (ap (λ (x : Link). list_any (λ (l : Link). is_cited inputs k l.number) (take i links) || is_cited inputs k x.number) read
    ∙ sym (list_any_more (λ (l : Link). is_cited inputs k l.number) links i l within))
  where
    joined : (a l s t x : Bool) → ((a || (l && (s || t))) || (l && x)) ≡ (a || (l && (s || (t || x))))
    joined true l s t x = refl
    joined false false s t x = refl
    joined false true true t x = refl
    joined false true false t x = refl

-- ---- what is needed

-- the last chain is needed, and what the needed ones from an index on cite
pub record AreNeededFrom (inputs : ℕ) (log : List Chain) (needed : List Bool) (index : ℕ) : Type 0 where
  pub count : length needed ≡ length log
  pub last : (k : ℕ) → k + 1 ≡ length log → get_or needed k false ≡ true
  pub closed :
      (k i : ℕ) → k < i → index ≤ i → i < length log → get_or needed i false ≡ true → cites inputs k (chain_at log i) ≡ true
      → get_or needed k false ≡ true

pub needed_begun :
    (inputs : ℕ) (log : List Chain) (needed : List Bool) (n : ℕ)
    → n ≡ length log → length needed ≡ n → AreNeededFrom inputs log (set needed (n - 1) true) n
needed_begun inputs log needed n is count = record {
  count = length-set needed (n - 1) true ∙ count ∙ is;
  last = λ k h. ap (λ (j : ℕ). get_or (set needed j true) k false) (at k h) ∙ get_or-set_same needed k true false (omega (arith, h, is, count));
  closed = λ k i below from within. absurd (omega (arith, from, within, is));
}
  where
    at : (k : ℕ) → k + 1 ≡ length log → n - 1 ≡ k
    at k h = omega (arith, h, is)

pub needed_none : (inputs : ℕ) (log : List Chain) (needed : List Bool) (n : ℕ) → n ≡ length log → n ≡ 0 → length needed ≡ n → AreNeededFrom inputs log needed n
needed_none inputs log needed n is none count = record {
  count = count ∙ is;
  last = λ k h. absurd (omega (arith, h, is, none));
  closed = λ k i below from within. absurd (omega (arith, from, within, is));
}

-- a chain that isn't needed
pub needed_passed :
    (inputs : ℕ) (log : List Chain) (needed : List Bool) (i index : ℕ) → index ≡ i + 1
    → AreNeededFrom inputs log needed index → get_or needed i false ≡ false → AreNeededFrom inputs log needed i
needed_passed inputs log needed i index step are absent = record {
  count = are.count;
  last = are.last;
  closed = λ k j below from within is cited.
      ⊎_elim (λ (e : j ≡ i). absurd (both_ways (get_or needed j false) (ap (λ (n : ℕ). get_or needed n false) e ∙ absent) is))
      (λ (e : j ≡ i → ⊥). are.closed k j below (above j from e) within is cited)
      (cases_eq j i);
}
  where
    above : (j : ℕ) → i ≤ j → (j ≡ i → ⊥) → index ≤ j
    above j from e = ⊎_elim (λ (h : i < j). omega (arith, h, step)) (λ (h : j ≤ i). absurd (e (omega (arith, h, from)))) (cases_lt i j)

-- one that is
pub needed_marked :
    (inputs : ℕ) (log : List Chain) (needed needed' : List Bool) (i index : ℕ) → index ≡ i + 1
    → AreNeededFrom inputs log needed index → length needed' ≡ length needed
    → ((k : ℕ) → get_or needed' k false ≡ (get_or needed k false || (nat_lt k i && cites inputs k (chain_at log i))))
    → AreNeededFrom inputs log needed' i
needed_marked inputs log needed needed' i index step are count marks = record {
  count = count ∙ are.count;
  last = λ k h. kept k (are.last k h);
  closed = λ k j below from within is cited.
      ⊎_elim
      (λ (e : j ≡ i).
      marks k ∙ or_right (get_or needed k false) (nat_lt k i && cites inputs k (chain_at log i))
      (and_from (nat_lt k i) (cites inputs k (chain_at log i)) (lt-ltb k i (omega (arith, below, e)))
      (ap (λ (n : ℕ). cites inputs k (chain_at log n)) (sym e) ∙ cited)))
      (λ (e : j ≡ i → ⊥). kept k (are.closed k j below (above j from e) within (later j from is) cited))
      (cases_eq j i);
}
  where
    kept : (k : ℕ) → get_or needed k false ≡ true → get_or needed' k false ≡ true
    kept k h = marks k ∙ or_left (get_or needed k false) (nat_lt k i && cites inputs k (chain_at log i)) h

    above : (j : ℕ) → i ≤ j → (j ≡ i → ⊥) → index ≤ j
    above j from e = ⊎_elim (λ (h : i < j). omega (arith, h, step)) (λ (h : j ≤ i). absurd (e (omega (arith, h, from)))) (cases_lt i j)

    no : (a b c : Bool) → b ≡ false → (a || (b && c)) ≡ a
    no true b c f = refl
    no false b c f = ap (λ (x : Bool). x && c) f

    later : (j : ℕ) → i ≤ j → get_or needed' j false ≡ true → get_or needed j false ≡ true
    later j from is = sym (marks j ∙ no (get_or needed j false) (nat_lt j i) (cites inputs j (chain_at log i)) (le-ltb j i from)) ∙ is

-- ---- new numbers

pub new_links_more :
    (inputs : ℕ) (numbers : List ℕ) (links links' ls : List Link) (i n : ℕ) (l : Link)
    → i < length ls → l ≡ get_or ls i l → links ≡ map (new_link inputs numbers) (take i ls) → n ≡ new_number inputs numbers l.number
    → links' ≡ links ++ record { pivot = l.pivot; number = n } ∷ [] → links' ≡ map (new_link inputs numbers) (take (i + 1) ls)
new_links_more inputs numbers links links' ls i n l within read before number more =
    more ∙ ap (λ (m : ℕ). links ++ record { pivot = l.pivot; number = m } ∷ []) number
    ∙ ap (λ (xs : List Link). xs ++ new_link inputs numbers l ∷ []) before
    ∙ ap (λ (x : Link). map (new_link inputs numbers) (take i ls) ++ new_link inputs numbers x ∷ []) read
    ∙ sym (map_more (new_link inputs numbers) ls i l within)

-- what is known at a number of the chain is known at its new number
renumbered_links :
    (known known' : List PropClause) (inputs : ℕ) (numbers : List ℕ) (c e : PropClause) (links : List Link)
    → ((l : Link) (d : PropClause) → list_any (λ (m : Link). m.number == l.number) links ≡ true → slice_get known l.number ≡ Some d → slice_get known' (new_number inputs numbers l.number) ≡ Some d)
    → links_clause known c links ≡ Some e → links_clause known' c (map (new_link inputs numbers) links) ≡ Some e
renumbered_links known known' inputs numbers c e [] finds h = h
renumbered_links known known' inputs numbers c e (l ∷ links) finds h =
    option_and_then_some (λ (x : PropClause). links_clause known x links) (link_clause known c l) e h
    (λ x first rest.
    ap (λ (o : Option PropClause). option_and_then (λ (x : PropClause). links_clause known' x (map (new_link inputs numbers) links)) o)
    (option_and_then_some (λ (d : PropClause). cond (can_resolve l.pivot c d) (Some (resolvent l.pivot c d)) None) (slice_get known l.number) x first
    (λ d at made.
    ap (λ (o : Option PropClause). option_and_then (λ (d : PropClause). cond (can_resolve l.pivot c d) (Some (resolvent l.pivot c d)) None) o)
    (finds l d (or_left (l.number == l.number) (list_any (λ (m : Link). m.number == l.number) links) (eq-eqb l.number l.number refl)) at)
    ∙ made))
    ∙ renumbered_links known known' inputs numbers x e links
    (λ k d among at. finds k d (or_right (l.number == k.number) (list_any (λ (m : Link). m.number == k.number) links) among) at) rest)

renumbered_chain :
    (known known' : List PropClause) (inputs : ℕ) (numbers : List ℕ) (e : PropClause) (chain chain' : Chain)
    → ((n : ℕ) (d : PropClause) → ((chain.start == n) || list_any (λ (m : Link). m.number == n) chain.links) ≡ true → slice_get known n ≡ Some d → slice_get known' (new_number inputs numbers n) ≡ Some d)
    → chain'.start ≡ new_number inputs numbers chain.start → chain'.links ≡ map (new_link inputs numbers) chain.links
    → chain_clause known chain ≡ Some e → chain_clause known' chain' ≡ Some e
renumbered_chain known known' inputs numbers e chain chain' finds start links h =
    option_and_then_some (λ (c : PropClause). links_clause known c chain.links) (slice_get known chain.start) e h
    (λ c at made.
    ap (λ (o : Option PropClause). option_and_then (λ (c : PropClause). links_clause known' c chain'.links) o)
    (ap (slice_get known') start ∙ finds chain.start c (or_left (chain.start == chain.start) (list_any (λ (m : Link). m.number == chain.start) chain.links) (eq-eqb chain.start chain.start refl)) at)
    ∙ ap (links_clause known' c) links
    ∙ renumbered_links known known' inputs numbers c e chain.links
    (λ l d among at. finds l.number d (or_right (chain.start == l.number) (list_any (λ (m : Link). m.number == l.number) chain.links) among) at) made)

-- ---- the log so far

pub made_length : (known made : List PropClause) (log : List Chain) → log_clauses known log ≡ Some made → length made ≡ length log
made_length known made [] h = ap length (sym (same_Some [] made h))
made_length known made (chain ∷ log) h =
    option_and_then_some
    (λ (c : PropClause). option_map (λ (more : List PropClause). c ∷ more) (log_clauses (known ++ c ∷ []) log)) (chain_clause known chain) made h
    (λ c at rest. after c (log_clauses (known ++ c ∷ []) log) (λ more e. made_length (known ++ c ∷ []) more log e) rest)
  where
    after :
        (c : PropClause) (o : Option (List PropClause)) → ((more : List PropClause) → o ≡ Some more → length more ≡ length log)
        → option_map (λ (more : List PropClause). c ∷ more) o ≡ Some made → length made ≡ suc (length log)
    after c None f e = cc
    after c (Some more) f e = ap length (sym (same_Some (c ∷ more) made e)) ∙ ap suc (f more refl)

-- each chain derives its clause from those before it
pub made_at :
    (known made : List PropClause) (log : List Chain) (i : ℕ) → log_clauses known log ≡ Some made → i < length log
    → chain_clause (known ++ take i made) (chain_at log i) ≡ Some (clause_at made i)
made_at known made [] i h within = absurd (omega (arith, within))
made_at known made (chain ∷ log) i h within =
    option_and_then_some
    (λ (c : PropClause). option_map (λ (more : List PropClause). c ∷ more) (log_clauses (known ++ c ∷ []) log)) (chain_clause known chain) made h
    (λ c at rest. after c at (log_clauses (known ++ c ∷ []) log) (λ more e j w. made_at (known ++ c ∷ []) more log j e w) i within rest)
  where
    after :
        (c : PropClause) → chain_clause known chain ≡ Some c → (o : Option (List PropClause))
        → ((more : List PropClause) → o ≡ Some more → (j : ℕ) → j < length log → chain_clause ((known ++ c ∷ []) ++ take j more) (chain_at log j) ≡ Some (clause_at more j))
        → (i : ℕ) → i < suc (length log) → option_map (λ (more : List PropClause). c ∷ more) o ≡ Some made
        → chain_clause (known ++ take i made) (chain_at (chain ∷ log) i) ≡ Some (clause_at made i)
    after c at None f i w e = cc
    after c at (Some more) f zero w e =
        ap (λ (cs : List PropClause). chain_clause cs chain) (append-nil known) ∙ at
        ∙ ap (λ (cs : List PropClause). Some (clause_at cs 0)) (same_Some (c ∷ more) made e)
    after c at (Some more) f (suc i) w e =
        ap (λ (cs : List PropClause). chain_clause (known ++ take (suc i) cs) (chain_at log i)) (sym (same_Some (c ∷ more) made e))
        ∙ ap (λ (cs : List PropClause). chain_clause cs (chain_at log i)) (sym (append_assoc known (c ∷ []) (take i more)))
        ∙ f more refl i (omega (arith, w))
        ∙ ap (λ (cs : List PropClause). Some (clause_at cs (suc i))) (same_Some (c ∷ more) made e)

-- The chains before an index that are needed, with new numbers: their clauses are those of the old log.
pub record IsTrimmed (inputs : List PropClause) (made : List PropClause) (needed : List Bool) (index : ℕ) (numbers : List ℕ) (log : List Chain) : Type 0 where
  pub count : length numbers ≡ index
  pub clauses : List PropClause
  pub lawful : log_clauses inputs log ≡ Some clauses
  pub found :
      (k : ℕ) → k < index → get_or needed k false ≡ true → slice_get (inputs ++ clauses) (get_or numbers k 0) ≡ Some (clause_at made k)
  pub ends : (k : ℕ) → k + 1 ≡ index → get_or needed k false ≡ true → clause_at made k ≡ [] → ends_empty clauses ≡ true

pub trimmed_none :
    (inputs made : List PropClause) (needed : List Bool) (numbers : List ℕ) (log : List Chain) → numbers ≡ [] → log ≡ [] → IsTrimmed inputs made needed 0 numbers log
trimmed_none inputs made needed numbers log no_numbers no_log = record {
  count = ap length no_numbers;
  clauses = [];
  lawful = ap (λ (cs : List Chain). log_clauses inputs cs) no_log;
  found = λ k h. absurd (omega (arith, h));
  ends = λ k h. absurd (omega (arith, h));
}

found_more :
    (inputs made clauses clauses' : List PropClause) (needed : List Bool) (index m : ℕ) (numbers numbers' : List ℕ)
    → length numbers ≡ index → numbers' ≡ numbers ++ m ∷ []
    → ((n : ℕ) (d : PropClause) → slice_get (inputs ++ clauses) n ≡ Some d → slice_get (inputs ++ clauses') n ≡ Some d)
    → ((k : ℕ) → k < index → get_or needed k false ≡ true → slice_get (inputs ++ clauses) (get_or numbers k 0) ≡ Some (clause_at made k))
    → (k : ℕ) → k < index → get_or needed k false ≡ true → slice_get (inputs ++ clauses') (get_or numbers' k 0) ≡ Some (clause_at made k)
found_more inputs made clauses clauses' needed index m numbers numbers' count more grows found k h is =
    ap (slice_get (inputs ++ clauses'))
    (ap (λ (ns : List ℕ). get_or ns k 0) more ∙ get_or_append_left numbers (m ∷ []) 0 k (omega (arith, h, count)))
    ∙ grows (get_or numbers k 0) (clause_at made k) (found k h is)

pub trimmed_passed :
    (inputs made : List PropClause) (needed : List Bool) (index m : ℕ) (numbers numbers' : List ℕ) (log : List Chain)
    → IsTrimmed inputs made needed index numbers log → numbers' ≡ numbers ++ m ∷ [] → get_or needed index false ≡ false
    → IsTrimmed inputs made needed (index + 1) numbers' log
trimmed_passed inputs made needed index m numbers numbers' log is more absent = record {
  count = ap length more ∙ length_push numbers m ∙ ap (λ (n : ℕ). n + 1) is.count;
  clauses = is.clauses;
  lawful = is.lawful;
  found = λ k h there.
      found_more inputs made is.clauses is.clauses needed index m numbers numbers' is.count more (λ n d at. at) is.found k (below k h there) there;
  ends = λ k h there. absurd (both_ways (get_or needed k false) (ap (λ (n : ℕ). get_or needed n false) (same k h) ∙ absent) there);
}
  where
    same : (k : ℕ) → k + 1 ≡ index + 1 → k ≡ index
    same k h = omega (arith, h)

    below : (k : ℕ) → k < index + 1 → get_or needed k false ≡ true → k < index
    below k h there =
        ⊎_elim (λ (e : k ≡ index). absurd (both_ways (get_or needed k false) (ap (λ (n : ℕ). get_or needed n false) e ∙ absent) there))
        (λ (e : k ≡ index → ⊥). ⊎_elim (λ (x : k < index). x) (λ (x : index ≤ k). absurd (e (omega (arith, x, h)))) (cases_lt k index))
        (cases_eq k index)

slice_get_longer : (xs ys : List PropClause) (n : ℕ) (d : PropClause) → slice_get xs n ≡ Some d → slice_get (xs ++ ys) n ≡ Some d
slice_get_longer [] ys n d h = cc
slice_get_longer (x ∷ xs) ys zero d h = h
slice_get_longer (x ∷ xs) ys (suc n) d h = slice_get_longer xs ys n d h

slice_get_behind : (xs ys : List PropClause) (n k : ℕ) → n ≡ length xs + k → slice_get (xs ++ ys) n ≡ slice_get ys k
slice_get_behind [] ys n k e = ap (slice_get ys) (omega (arith, e))
slice_get_behind (x ∷ xs) ys zero k e = absurd (omega (arith, e))
slice_get_behind (x ∷ xs) ys (suc n) k e = slice_get_behind xs ys n k (omega (arith, e))

slice_get_before : (xs ys zs : List PropClause) (n : ℕ) (d : PropClause) → n < length xs → slice_get (xs ++ ys) n ≡ Some d → slice_get (xs ++ zs) n ≡ Some d
slice_get_before [] ys zs n d w h = absurd (omega (arith, w))
slice_get_before (x ∷ xs) ys zs zero d w h = h
slice_get_before (x ∷ xs) ys zs (suc n) d w h = slice_get_before xs ys zs n d (omega (arith, w)) h

slice_get_take : (xs : List PropClause) (i k : ℕ) (d : PropClause) → slice_get (take i xs) k ≡ Some d → (k < i) × (clause_at xs k ≡ d)
slice_get_take xs zero k d h = cc
slice_get_take [] (suc i) k d h = cc
slice_get_take (x ∷ xs) (suc i) zero d h = (omega arith, same_Some x d h)
slice_get_take (x ∷ xs) (suc i) (suc k) d h = let rest = slice_get_take xs i k d h in let w = rest.0 in (omega (arith, w), rest.1)

-- what a needed chain cites is found at its new number
finds :
    (inputs made clauses : List PropClause) (needed : List Bool) (index : ℕ) (numbers : List ℕ) (chain : Chain)
    → ((k : ℕ) → k < index → cites (length inputs) k chain ≡ true → get_or needed k false ≡ true)
    → ((k : ℕ) → k < index → get_or needed k false ≡ true → slice_get (inputs ++ clauses) (get_or numbers k 0) ≡ Some (clause_at made k))
    → (n : ℕ) (d : PropClause) → ((chain.start == n) || list_any (λ (m : Link). m.number == n) chain.links) ≡ true
    → slice_get (inputs ++ take index made) n ≡ Some d → slice_get (inputs ++ clauses) (new_number (length inputs) numbers n) ≡ Some d
finds inputs made clauses needed index numbers chain closed found n d cited at =
    ⊎_elim
    (λ (w : n < length inputs).
    ap (λ (b : Bool). slice_get (inputs ++ clauses) (cond b n (get_or numbers (n - length inputs) 0))) (lt-ltb n (length inputs) w)
    ∙ slice_get_before inputs (take index made) clauses n d w at)
    (λ (w : length inputs ≤ n).
    let k = n - length inputs in
    let e : n ≡ length inputs + k = omega (arith, w) in
    let there = slice_get_take made index k d (sym (slice_get_behind inputs (take index made) n k e) ∙ at) in
    ap (λ (b : Bool). slice_get (inputs ++ clauses) (cond b n (get_or numbers k 0))) (le-ltb n (length inputs) w)
    ∙ found k there.0 (closed k there.0
    (ap (λ (m : ℕ). (chain.start == m) || list_any (λ (l : Link). l.number == m) chain.links) (sym e) ∙ cited))
    ∙ ap (λ (c : PropClause). Some c) there.1)
    (cases_lt n (length inputs))

pub trimmed_more :
    (inputs made : List PropClause) (old : List Chain) (needed : List Bool) (index m : ℕ) (numbers numbers' : List ℕ) (log : List Chain) (chain : Chain)
    → log_clauses inputs old ≡ Some made → AreNeeded (length inputs) old needed → index < length old → get_or needed index false ≡ true
    → IsTrimmed inputs made needed index numbers log
    → numbers' ≡ numbers ++ m ∷ [] → m ≡ length inputs + length log
    → chain.start ≡ new_number (length inputs) numbers' (chain_at old index).start
    → chain.links ≡ map (new_link (length inputs) numbers') (chain_at old index).links
    → IsTrimmed inputs made needed (index + 1) numbers' (log ++ chain ∷ [])
trimmed_more inputs made old needed index m numbers numbers' log chain lawful are within there is more number start links = record {
  count = ap length more ∙ length_push numbers m ∙ ap (λ (n : ℕ). n + 1) is.count;
  clauses = is.clauses ++ clause_at made index ∷ [];
  lawful = log_clauses_push inputs is.clauses log chain (clause_at made index) is.lawful
      (renumbered_chain (inputs ++ take index made) (inputs ++ is.clauses) (length inputs) numbers' (clause_at made index) (chain_at old index) chain
      (finds inputs made is.clauses needed index numbers' (chain_at old index)
      (λ k h cited. are.closed k index h within there cited)
      (found_more inputs made is.clauses is.clauses needed index m numbers numbers' is.count more (λ n d at. at) is.found))
      start links (made_at inputs made old index lawful within));
  found = λ k h at. found k at (cases_eq k index) h;
  ends = λ k h at empty. ap (λ (c : PropClause). ends_empty (is.clauses ++ c ∷ [])) (ap (clause_at made) (same k h) ∙ empty) ∙ ends_empty_push is.clauses;
}
  where
    same : (k : ℕ) → k + 1 ≡ index + 1 → index ≡ k
    same k h = omega (arith, h)

    grows : (n : ℕ) (d : PropClause) → slice_get (inputs ++ is.clauses) n ≡ Some d → slice_get (inputs ++ (is.clauses ++ clause_at made index ∷ [])) n ≡ Some d
    grows n d h =
        ap (λ (cs : List PropClause). slice_get cs n) (sym (append_assoc inputs is.clauses (clause_at made index ∷ [])))
        ∙ slice_get_longer (inputs ++ is.clauses) (clause_at made index ∷ []) n d h

    found :
        (k : ℕ) → get_or needed k false ≡ true → (k ≡ index) ⊎ (k ≡ index → ⊥) → k < index + 1
        → slice_get (inputs ++ (is.clauses ++ clause_at made index ∷ [])) (get_or numbers' k 0) ≡ Some (clause_at made k)
    found k at (inl e) h =
        let n = made_length inputs is.clauses log is.lawful in
        ap (slice_get (inputs ++ (is.clauses ++ clause_at made index ∷ [])))
        (ap (λ (ns : List ℕ). get_or ns k 0) more ∙ get_or_push numbers m 0 k (is.count ∙ sym e) ∙ number)
        ∙ slice_get_behind inputs (is.clauses ++ clause_at made index ∷ []) (length inputs + length log) (length log) refl
        ∙ slice_get-get_or (is.clauses ++ clause_at made index ∷ []) (length log) [] (let p = length_push is.clauses (clause_at made index) in omega (arith, p, n))
        ∙ ap (λ (c : PropClause). Some c) (get_or_push is.clauses (clause_at made index) [] (length log) n ∙ ap (clause_at made) (sym e))
    found k at (inr e) h =
        found_more inputs made is.clauses (is.clauses ++ clause_at made index ∷ []) needed index m numbers numbers' is.count more grows is.found k
        (⊎_elim (λ (x : k < index). x) (λ (x : index ≤ k). absurd (e (omega (arith, x, h)))) (cases_lt k index)) at

-- as the code has the chain
pub trimmed_at :
    (c : Clauses) (right : IsRightLog c.inputs.now (log_of c)) (needed : List Bool) (index m s : ℕ) (numbers numbers' ns : List ℕ) (log log' : List Chain) (ls : List Link) (chain : Chain)
    → length c.starts.items ≡ length c.links → AreNeeded (length c.inputs.now) (log_of c) needed → index < length needed → get_or needed index false ≡ true
    → IsTrimmed c.inputs.now right.made needed index numbers log
    → numbers' ≡ numbers ++ m ∷ [] → m ≡ length c.inputs.now + length log → ns ≡ numbers'
    → s ≡ get_or c.starts.items index s → ls ≡ get_or c.links index []
    → chain.start ≡ new_number (length c.inputs.now) ns s → chain.links ≡ map (new_link (length c.inputs.now) ns) ls
    → log' ≡ log ++ chain ∷ []
    → IsTrimmed c.inputs.now right.made needed (index + 1) numbers' log'
trimmed_at c right needed index m s numbers numbers' ns log log' ls chain lined are within there is more number same read read_links start links longer =
    subst (λ (log : List Chain). IsTrimmed c.inputs.now right.made needed (index + 1) numbers' log) (sym longer)
    (trimmed_more c.inputs.now right.made (log_of c) needed index m numbers numbers' log chain right.lawful are below there is more number
    (start ∙ ap (λ (xs : List ℕ). new_number (length c.inputs.now) xs s) same
    ∙ ap (new_number (length c.inputs.now) numbers') (get_or_read c.starts.items index s starts_within read 0 ∙ sym (ap (λ (x : Chain). x.start) at)))
    (links ∙ ap (λ (xs : List ℕ). map (new_link (length c.inputs.now) xs) ls) same
    ∙ ap (map (new_link (length c.inputs.now) numbers')) (read_links ∙ sym (ap (λ (x : Chain). x.links) at))))
  where
    starts_within : index < length c.starts.items
    starts_within = let n = chains_length c.starts.items c.links lined in omega (arith, n, within, are.count)

    below : index < length (log_of c)
    below = omega (arith, within, are.count)

    at : chain_at (log_of c) index ≡ record { start = get_or c.starts.items index 0; links = get_or c.links index [] }
    at = chain_of c.starts.items c.links index lined starts_within

-- a list that ends empty has a last clause, which is empty
pub ends_empty-last : (cs : List PropClause) → ends_empty cs ≡ true → (n : ℕ) × (length cs ≡ n + 1) × (clause_at cs n ≡ [])
ends_empty-last [] h = cc
ends_empty-last ([] ∷ []) h = (0, refl, refl)
ends_empty-last ((l ∷ ls) ∷ []) h = cc
ends_empty-last (c ∷ d ∷ ds) h = let rest = ends_empty-last (d ∷ ds) h in let n = rest.1 in (suc rest.0, omega (arith, n), rest.2)

pub trimmed_all :
    (inputs : List PropClause) (old : List Chain) (right : IsRightLog inputs old) (needed : List Bool) (index : ℕ) (numbers : List ℕ) (log : List Chain)
    → AreNeeded (length inputs) old needed → index ≡ length old → IsTrimmed inputs right.made needed index numbers log → IsRightLog inputs log
trimmed_all inputs old right needed index numbers log are all is =
    let last = ends_empty-last right.made right.empty in
    let n = made_length inputs right.made old right.lawful in
    let same = last.1 in
    record {
      made = is.clauses;
      lawful = is.lawful;
      empty = is.ends last.0 (omega (arith, all, n, same)) (are.last last.0 (omega (arith, n, same))) last.2;
    }
