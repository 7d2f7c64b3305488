-- Each step of a turn keeps the rule of the lock.
use Rattle.std.proofs.Common.{◌≡◌, ◌≢◌, ℕ, ◌-◌, ◌<◌, ◌≤◌, eqb, List, [], ◌∷◌, length, get_or, set, Option, Some, None, sym, refl, ap, ◌∙◌, subst, ⊎_elim, arith}
use Rattle.std.specs.List.{Contains}
use Rattle.std.proofs.lemmas.List.Elements.{Contains-append_cases, Contains-append_left, Contains-append_right}
use Rattle.std.proofs.lemmas.List.{set-get_or}
use Rattle.std.proofs.lemmas.Option.{same_Some, none-some}
use Rattle.std.proofs.lemmas.Bool.{cases_lt}
use mathlib.Core.Option.{Option as Opt, none, some}
use mathlib.Core.Logic.{dite}
use mathlib.Core.List.{IsPrefix}
use native.Mathlib.Decide.{ℕ_discrete}
use lib.ListN.{get_elem?}
use prog.Atomic.{either}
use Rattle.atomic_table.specs.Table.{State, Me, keeps, takes, gives, step, stepped, Allows, homes_after, carried_after, rest}
use Rattle.atomic_table.proofs.Lists.{at_set, set_else, exchanged}
use Rattle.turn_lock.specs.declared.view.View.{View}
use Rattle.turn_lock.specs.History.{AddsOwnKeys, OwnsKeys, AreAdded, added_places}
use Rattle.turn_lock.specs.Rule.{Made, IsLive, IsKnown, IsHome, IsHeldBy, IsOwned, Turns}
use Rattle.turn_lock.specs.Steps.{holding, raised, released, planning, Seizes, Raises, Releases, Plans, Looks}
use Rattle.turn_lock.proofs.Views.{still_owned, owner_lives}
use Rattle.turn_lock.proofs.Lists.{prefix_itself, keys_seen, range_has, prefix_trans, prefix_length, set_there, same_at, single, distinct_append, range_distinct, added_bounds, others_keys, own_keys, own_keys_none, shares_set}

module _ {S E O : Type 0} (history_of : S → List E) (origin_of : S → O) (key_of : E → ℕ) where
  abbrev V : Type 0
  V = View E O

  abbrev St : Type 0
  St = State (Option S) V

  abbrev M : Type 0
  M = Me (Option S) V

  abbrev Rule : Made E O → St → Type 0
  Rule = Turns history_of origin_of key_of

  abbrev Knows : ℕ → ℕ → List E → Made E O → ℕ → V → Type 0
  Knows = IsKnown key_of

  abbrev Live : List E → Made E O → V → Type 0
  Live = IsLive key_of

  abbrev Home : List E → O → List (Opt (Option S)) → Type 0
  Home = IsHome history_of origin_of

  abbrev HeldBy : ℕ → List E → List V → Type 0
  HeldBy = IsHeldBy

  owned_below : (gate holder : ℕ) (log : List E) (made : Made E O) (j k : ℕ) (v : V) → Knows gate holder log made j v → Contains v.own k → k < length log
  owned_below gate holder log made j k v known has =
      let live = known.live (owner_lives key_of gate holder log made j k v known has) in
      let a = (live.added k has).1 in let b = prefix_length v.seen log live.begins in omega (arith, a, b)

  owned_keys : (gate holder : ℕ) (log : List E) (made : Made E O) (j : ℕ) (v : V) → Knows gate holder log made j v → OwnsKeys key_of log v.own
  owned_keys gate holder log made j v known = dite (ℕ_discrete v.shares 0)
      (λ none_left. subst (OwnsKeys key_of log) (sym (known.spent none_left)) (own_keys_none key_of log))
      (λ some_left. (known.live (omega (arith, some_left))).keys)

  -- one view is changed, and with it the words, the slot and the counted history
  moved : (made : Made E O) (s : St) (r : Rule made s) (ws : List ℕ) (hs : List (Opt (Option S))) (id : ℕ) (v w : V) (gate holder : ℕ) (log : List E) → get_elem? s.views id ≡ some v
      → ws ≡ gate ∷ length log ∷ [] → (gate ≡ 0 → Home log made.origin hs) → (gate ≢ 0 → HeldBy holder log (set s.views id w))
      → Knows gate holder log made id w
      → ((j : ℕ) (x : V) → j ≢ id → get_elem? s.views j ≡ some x → Knows gate holder log made j x)
      → ((j k : ℕ) (x : V) → j ≢ id → get_elem? s.views j ≡ some x → Contains x.own k → Contains w.own k → ⊥)
      → w.shares ≡ v.shares → IsPrefix made.history log → ((k : ℕ) → length made.history ≤ k → k < length log → IsOwned k (set s.views id w))
      → Rule made record { words = ws; homes = hs; views = set s.views id w }
  moved made s r ws hs id v w gate holder log at words home closed me others apart shares begun owned = record {
    gate = gate;
    holder = holder;
    log = log;
    begun = begun;
    owned = owned;
    words = words;
    home = home;
    closed = closed;
    each = λ j x e. ⊎_elim
        (λ (t : (j ≡ id) × (w ≡ x)). subst (λ (z : ℕ × V). Knows gate holder log made z.0 z.1) (λ i. (sym t.0 i, t.1 i)) me)
        (λ (t : (j ≢ id) × (get_elem? s.views j ≡ some x)). others j x t.0 t.1) (at_set s.views id j w x e);
    apart = λ i j k x y e f has also. ⊎_elim
        (λ (t : (i ≡ id) × (w ≡ x)). ⊎_elim
        (λ (u : (j ≡ id) × (w ≡ y)). t.0 ∙ sym u.0)
        (λ (u : (j ≢ id) × (get_elem? s.views j ≡ some y)). absurd (apart j k y u.0 u.1 also (subst (λ (z : V). Contains z.own k) (sym t.1) has)))
        (at_set s.views id j w y f))
        (λ (t : (i ≢ id) × (get_elem? s.views i ≡ some x)). ⊎_elim
        (λ (u : (j ≡ id) × (w ≡ y)). absurd (apart i k x t.0 t.1 has (subst (λ (z : V). Contains z.own k) (sym u.1) also)))
        (λ (u : (j ≢ id) × (get_elem? s.views j ≡ some y)). r.apart i j k x y t.1 u.1 has also)
        (at_set s.views id j w y f))
        (at_set s.views id i w x e);
    whole = let t = shares_set s.views id v w at in let u = r.whole in omega (arith, t, u, shares);
  }

  -- no word changes, and no slot
  unmoved : (made : Made E O) (s : St) (r : Rule made s) (i id : ℕ) (cs : List (ℕ × Option S)) (v w : V) → get_elem? s.views id ≡ some v
      → ((gate holder : ℕ) (log : List E) → Knows gate holder log made id v → Knows gate holder log made id w) → w.own ≡ v.own → w.shares ≡ v.shares → w.held ≡ v.held
      → Rule made (stepped s i (get_or s.words i 0) id cs w keeps)
  unmoved made s r i id cs v w at me own shares held = moved made s r (set s.words i (get_or s.words i 0)) s.homes id v w r.gate r.holder r.log at
      (set-get_or s.words i 0 ∙ r.words) r.home
      (λ shut. let h = r.closed shut in dite (ℕ_discrete r.holder id)
      (λ e. let same = same_at s.views id v h.0 at (subst (λ (z : ℕ). get_elem? s.views z ≡ some h.0) e h.1) in
      subst (λ (z : ℕ). HeldBy z r.log (set s.views id w)) (sym e) (w, set_there s.views id v w at, held ∙ ap (λ (z : V). z.held) same ∙ h.2))
      (λ ne. (h.0, set_else s.views id r.holder w ne ∙ h.1, h.2)))
      (me r.gate r.holder r.log (r.each id v at))
      (λ j x ne e. r.each j x e)
      (λ j k x ne e has also. ne (r.apart j id k x v e at has (subst (λ (l : List ℕ). Contains l k) own also)))
      shares
      r.begun
      (λ k from below. still_owned s.views id v w at (λ n has. subst (λ (l : List ℕ). Contains l n) (sym own) has) k (r.owned k from below))

  word_0 : (ws : List ℕ) (a b : ℕ) → ws ≡ a ∷ b ∷ [] → get_or ws 0 0 ≡ a
  word_0 ws a b e = ap (λ (l : List ℕ). get_or l 0 0) e

  word_1 : (ws : List ℕ) (a b : ℕ) → ws ≡ a ∷ b ∷ [] → get_or ws 1 0 ≡ b
  word_1 ws a b e = ap (λ (l : List ℕ). get_or l 1 0) e

  planned_known : (n id gate holder : ℕ) (v : V) (made : Made E O) (log : List E) → Knows gate holder log made id v → Knows gate holder log made id (planning v n)
  planned_known n id gate holder v made log k = record {
    holds = k.holds;
    live = λ alive. let l = k.live alive in record { begins = l.begins; shorter = l.shorter; started = l.started; added = l.added; keys = l.keys; once = l.once; start = l.start; origin = l.origin; other_start = l.other_start; other_origin = l.other_origin };
    spent = k.spent;
  }

  pub plans : (made : Made E O) (slots id : ℕ) (me : M) (n : ℕ) → Allows (Rule made) slots id me 0 (λ x. either (eqb x n) n x) (Plans (step slots 0 n n none) me)
  plans made slots id me n s r _ at _ =
      let w : V = planning me.0 n in
      let x : ℕ = get_or s.words 0 0 in
      let kept : Rule made (stepped s 0 x id me.1 w keeps) = unmoved made s r 0 id me.1 me.0 w at (λ gate holder log. planned_known n id gate holder me.0 made log) refl refl refl in (
        w,
        keeps,
        tt,
        exchanged x n n (λ z. Rule made (stepped s 0 z id me.1 w keeps)) (λ e. subst (λ z. Rule made (stepped s 0 z id me.1 w keeps)) e kept) (λ _. kept),
        refl,
      )

  -- the gate was open, and is now held by the seat `me`: what the others know stays
  closed_known : (gate holder me j : ℕ) (v : V) (made : Made E O) (log : List E) → gate ≡ 0 → Knows gate holder log made j v → Knows 1 me log made j v
  closed_known gate holder me j v made log shut k = record {
    holds = λ h e. absurd ((k.holds h e).0 shut);
    live = k.live;
    spent = k.spent;
  }

  held_known : (id holder : ℕ) (v : V) (made : Made E O) (log : List E) → 0 < v.shares → Knows 0 holder log made id v → Knows 1 id log made id (holding v log)
  held_known id holder v made log alive k = let l = k.live alive in record {
    holds = λ h e. ((λ z. omega (arith, z)), refl, sym (same_Some log h e), alive);
    live = λ _. record { begins = l.begins; shorter = l.shorter; started = l.started; added = l.added; keys = l.keys; once = l.once; start = l.start; origin = l.origin; other_start = l.other_start; other_origin = l.other_origin };
    spent = k.spent;
  }

  pub seizes : (made : Made E O) (slots id : ℕ) (me : M) → me.1 ≡ [] → 0 < me.0.shares → Allows (Rule made) slots id me 0 (λ x. either (eqb x 0) 1 x) (Seizes history_of origin_of key_of (step slots 0 0 1 none) me)
  seizes made slots id me empty alive s r _ at _ = let x : ℕ = get_or s.words 0 0 in dite (ℕ_discrete x 0)
      (λ free. let gate : r.gate ≡ 0 = sym (word_0 s.words r.gate (length r.log) r.words) ∙ free in
      let home = r.home gate in
      let known : Knows 0 r.holder r.log made id me.0 = subst (λ (z : ℕ). Knows z r.holder r.log made id me.0) gate (r.each id me.0 at) in
      let live = known.live alive in
      let w : V = holding me.0 r.log in
      let same : history_of home.0 ≡ r.log = home.2 in
      let ends : Rule made (stepped s 0 1 id me.1 w (takes 0 (Some home.0))) = moved made s r (set s.words 0 1) (set s.homes 0 none) id me.0 w 1 id r.log at
      (ap (λ (l : List ℕ). set l 0 1) r.words) (λ z. absurd (omega (arith, z))) (λ _. (w, set_there s.views id me.0 w at, refl))
      (held_known id r.holder me.0 made r.log alive known)
      (λ j v _ e. closed_known r.gate r.holder id j v made r.log gate (r.each j v e))
      (λ j k v ne e has also. ne (r.apart j id k v me.0 e at has also)) refl r.begun
      (λ k from below. still_owned s.views id me.0 w at (λ n has. has) k (r.owned k from below)) in (
        w,
        takes 0 (Some home.0),
        ap (λ (l : List (Opt (Option S))). get_elem? l 0) home.1,
        subst (λ (z : ℕ). Rule made (stepped s 0 (either (eqb z 0) 1 z) id me.1 w (takes 0 (Some home.0)))) (sym free) ends,
        (
          (λ _. (
            home.0,
            (λ i. (holding me.0 (sym same i), (0, Some home.0) ∷ empty i)),
            subst (IsPrefix me.0.seen) (sym same) live.begins,
            live.origin ∙ ap (λ (o : O). Some o) (sym home.3),
            subst (λ (l : List E). IsPrefix l me.0.seen) (sym live.start) live.started,
            subst (λ (l : List E). AreAdded l me.0.seen me.0.own) (sym live.start) live.added,
            subst (λ (l : List E). OwnsKeys key_of l me.0.own) (sym same) live.keys,
          )),
          (λ shut. absurd (shut free)),
        ),
      ))
      (λ shut. (
        me.0,
        keeps,
        tt,
        exchanged x 0 1 (λ z. Rule made (stepped s 0 z id me.1 me.0 keeps)) (λ free. absurd (shut free)) (λ _. unmoved made s r 0 id me.1 me.0 me.0 at (λ _ _ _ k. k) refl refl refl),
        ((λ free. absurd (shut free)), λ _. refl),
      ))

  raised_known : (id gate holder : ℕ) (v : V) (made : Made E O) (old new : List E) → gate ≢ 0 → 0 < v.shares → Knows gate holder old made id v → id ≡ holder
      → IsPrefix old new → AddsOwnKeys key_of old v.own new → Knows gate holder new made id (raised v old new)
  raised_known id gate holder v made old new shut alive k is pre adds = let l = k.live alive in let le = prefix_length old new pre in let le' = prefix_length v.seen old l.begins in
      let from = prefix_length made.history v.seen l.started in
      let below : (n : ℕ) → Contains v.own n → n < length old = λ n has. let b = (l.added n has).1 in omega (arith, b, le') in record {
        holds = λ h e. (shut, is, sym (same_Some new h e), alive);
        live = λ _. record {
          begins = prefix_itself new;
          shorter = prefix_trans v.shorter v.seen new l.shorter (prefix_trans v.seen old new l.begins pre);
          started = prefix_trans made.history v.seen new l.started (prefix_trans v.seen old new l.begins pre);
          added = λ n has. ⊎_elim
              (λ h. let b = below n h in ((l.added n h).0, omega (arith, b, le)))
              (λ h. let b = added_bounds old new n le h in let c = b.0 in (omega (arith, c, from, le'), b.1))
              (Contains-append_cases v.own (added_places old new) n has);
          keys = own_keys key_of old new v.own pre adds l.keys below;
          once = distinct_append v.own (added_places old new) l.once (range_distinct (length old) (length new - length old))
              (λ n h h'. let b = below n h in let b' = (added_bounds old new n le h').0 in omega (arith, b, b'));
          start = l.start;
          origin = l.origin;
          other_start = l.other_start;
          other_origin = l.other_origin;
        };
        spent = λ none_left. absurd (omega (arith, none_left, alive));
      }

  -- another raises the history
  grown_known : (j gate holder : ℕ) (v mine : V) (made : Made E O) (old new : List E) → j ≢ holder → Knows gate holder old made j v → IsPrefix old new → AddsOwnKeys key_of old mine.own new → OwnsKeys key_of old mine.own
      → ((n : ℕ) → Contains mine.own n → Contains v.own n → ⊥) → Knows gate holder new made j v
  grown_known j gate holder v mine made old new other k pre adds keys apart = record {
    holds = λ h e. absurd (other (k.holds h e).1);
    live = λ alive. let l = k.live alive in record {
      begins = prefix_trans v.seen old new l.begins pre;
      shorter = l.shorter;
      started = l.started;
      added = l.added;
      keys = others_keys key_of old new mine.own v.own pre adds keys l.keys (λ n has. owned_below gate holder old made j n v k has) apart;
      once = l.once;
      start = l.start;
      origin = l.origin;
      other_start = l.other_start;
      other_origin = l.other_origin;
    };
    spent = k.spent;
  }

  pub raises : (made : Made E O) (slots id : ℕ) (me : M) (x : S) (old : List E) (new : ℕ) → me.1 ≡ (0, Some x) ∷ [] → me.0.held ≡ Some old → IsPrefix old (history_of x) → AddsOwnKeys key_of old me.0.own (history_of x)
      → new ≡ length (history_of x) → Allows (Rule made) slots id me 1 (λ _. new) (λ _. Raises history_of key_of (step slots 1 new 0 none) me new)
  raises made slots id me x old new carries holds pre adds long s r _ at _ =
      let known = r.each id me.0 at in let h = known.holds old holds in let log : List E = history_of x in
      let known' : Knows r.gate r.holder old made id me.0 = subst (λ (l : List E). Knows r.gate r.holder l made id me.0) (sym h.2) known in
      let w : V = raised me.0 old log in
      let mine = raised_known id r.gate r.holder me.0 made old log h.0 h.3 known' h.1 pre adds in (
        w,
        keeps,
        tt,
        moved made s r (set s.words 1 new) s.homes id me.0 w r.gate r.holder log at
            (ap (λ (l : List ℕ). set l 1 new) r.words ∙ ap (λ (n : ℕ). r.gate ∷ n ∷ []) long) (λ free. absurd (h.0 free))
            (λ _. (w, subst (λ (z : ℕ). get_elem? (set s.views id w) z ≡ some w) h.1 (set_there s.views id me.0 w at), refl))
            mine
            (λ j v ne e. grown_known j r.gate r.holder v me.0 made old log (λ is. ne (is ∙ sym h.1)) (subst (λ (l : List E). Knows r.gate r.holder l made j v) (sym h.2) (r.each j v e)) pre adds
            (owned_keys r.gate r.holder old made id me.0 known') (λ n a b. ne (r.apart j id n v me.0 e at b a)))
            (λ j n v ne e has also. ⊎_elim
            (λ a. ne (r.apart j id n v me.0 e at has a))
            (λ a. let b = (added_bounds old log n (prefix_length old log pre) a).0 in let c = owned_below r.gate r.holder r.log made j n v (r.each j v e) has in
            let d : length old ≡ length r.log = ap length h.2 in omega (arith, b, c, d))
            (Contains-append_cases me.0.own (added_places old log) n also))
            refl
            (prefix_trans made.history old log (subst (IsPrefix made.history) (sym h.2) r.begun) pre)
            (λ n from below. ⊎_elim
            (λ (l : n < length old). still_owned s.views id me.0 w at (Contains-append_left me.0.own (added_places old log)) n
            (r.owned n from (let d : length old ≡ length r.log = ap length h.2 in omega (arith, l, d))))
            (λ (l : length old ≤ n). (
              id,
              w,
              set_there s.views id me.0 w at,
              Contains-append_right me.0.own (added_places old log) n (range_has (length old) (length log - length old) n l (omega (arith, below))),
            ))
            (cases_lt n (length old))),
        λ y old' carries' holds'. (
          same_raise y old' (same_state y (sym carries ∙ carries')) (same_Some old old' (sym holds ∙ holds')),
          let live = mine.live h.3 in subst (λ (l : List E). AreAdded l log w.own) (sym live.start) live.added,
          (mine.live h.3).keys,
        ),
      )
    where
      same_state : (y : S) → ◌≡◌ {A = List (ℕ × Option S)} ((0, Some x) ∷ []) ((0, Some y) ∷ []) → x ≡ y
      same_state y e = same_Some x y (ap (λ (l : List (ℕ × Option S)). (get_or l 0 (0, None)).1) e)

      same_raise : (y : S) (old' : List E) → x ≡ y → old ≡ old' → ◌≡◌ {A = M} (raised me.0 old (history_of x), me.1) (raised me.0 old' (history_of y), me.1)
      same_raise y old' e f i = (raised me.0 (f i) (history_of (e i)), me.1)

  released_known : (id gate holder : ℕ) (v : V) (made : Made E O) (log : List E) → Knows gate holder log made id v → Knows 0 holder log made id (released v)
  released_known id gate holder v made log k = record {
    holds = λ h e. absurd (none-some h e);
    live = λ alive. let l = k.live alive in record { begins = l.begins; shorter = l.shorter; started = l.started; added = l.added; keys = l.keys; once = l.once; start = l.start; origin = l.origin; other_start = l.other_start; other_origin = l.other_origin };
    spent = k.spent;
  }

  -- the gate is opened by another
  opened_known : (j gate holder : ℕ) (v : V) (made : Made E O) (log : List E) → j ≢ holder → Knows gate holder log made j v → Knows 0 holder log made j v
  opened_known j gate holder v made log other k = record {
    holds = λ h e. absurd (other (k.holds h e).1);
    live = k.live;
    spent = k.spent;
  }

  pub releases : (made : Made E O) (slots id : ℕ) (me : M) (x : S) → slots ≡ 1 → me.1 ≡ (0, Some x) ∷ [] → me.0.held ≡ Some (history_of x) → me.0.origin ≡ Some (origin_of x)
      → Allows (Rule made) slots id me 0 (λ _. 0) (λ _. Releases (step slots 0 0 0 none) me 0)
  releases made slots id me x one carries holds origin s r wide at _ =
      let known = r.each id me.0 at in let h = known.holds (history_of x) holds in let w : V = released me.0 in
      let live = known.live h.3 in
      let homes : homes_after s.homes me.1 gives ≡ some (Some x) ∷ [] = ap (λ (l : List (ℕ × Option S)). homes_after s.homes l gives) carries ∙ single s.homes (some (Some x)) (wide ∙ one) in (
        w,
        gives,
        tt,
        moved made s r (set s.words 0 0) (homes_after s.homes me.1 gives) id me.0 w 0 r.holder r.log at
            (ap (λ (l : List ℕ). set l 0 0) r.words) (λ _. (x, homes, h.2, same_Some (origin_of x) made.origin (sym origin ∙ live.origin))) (λ shut. absurd (shut refl))
            (released_known id r.gate r.holder me.0 made r.log known)
            (λ j v ne e. opened_known j r.gate r.holder v made r.log (λ is. ne (is ∙ sym h.1)) (r.each j v e))
            (λ j n v ne e has also. ne (r.apart j id n v me.0 e at has also))
            refl
            r.begun
            (λ n from below. still_owned s.views id me.0 w at (λ _ has. has) n (r.owned n from below)),
        λ i. (w, carried_after (carries i) gives),
      )

  abbrev One : S → List (ℕ × Option S)
  One x = (0, Some x) ∷ []

  -- the seat has the state in its slot
  pub filled : (m m' : M) (x : S) → m.1 ≡ (0, None) ∷ [] → m' ≡ (m.0, (0, Some x) ∷ rest m.1) → m' ≡ (m.0, One x)
  filled m m' x is e = e ∙ (λ i. (m.0, (0, Some x) ∷ rest (is i)))

  pub raises_at : (made : Made E O) (slots id : ℕ) (m : M) (v : V) (x : S) (old : List E) (new : ℕ) → m ≡ (v, One x) → v.held ≡ Some old → IsPrefix old (history_of x) → AddsOwnKeys key_of old v.own (history_of x)
      → new ≡ length (history_of x) → Allows (Rule made) slots id m 1 (λ _. new) (λ _. Raises history_of key_of (step slots 1 new 0 none) m new)
  raises_at made slots id m v x old new is holds pre adds long =
      subst (λ (m : M). Allows (Rule made) slots id m 1 (λ _. new) (λ _. Raises history_of key_of (step slots 1 new 0 none) m new)) (sym is) (raises made slots id (v, One x) x old new refl holds pre adds long)

  pub raised_at : (slots : ℕ) (m m' : M) (v : V) (x : S) (old : List E) (new : ℕ) → m ≡ (v, One x) → v.held ≡ Some old → Raises history_of key_of (step slots 1 new 0 none) m new m' → (m' ≡ (raised v old (history_of x), One x)) × AreAdded m'.0.start m'.0.seen m'.0.own × OwnsKeys key_of m'.0.seen m'.0.own
  raised_at slots m m' v x old new is holds told = subst (λ (m : M). Raises history_of key_of (step slots 1 new 0 none) m new m') is told x old refl holds

  pub releases_at : (made : Made E O) (slots id : ℕ) (m : M) (v : V) (x : S) → slots ≡ 1 → m ≡ (v, One x) → v.held ≡ Some (history_of x) → v.origin ≡ Some (origin_of x)
      → Allows (Rule made) slots id m 0 (λ _. 0) (λ _. Releases (step slots 0 0 0 none) m 0)
  releases_at made slots id m v x one is holds origin =
      subst (λ (m : M). Allows (Rule made) slots id m 0 (λ _. 0) (λ _. Releases (step slots 0 0 0 none) m 0)) (sym is) (releases made slots id (v, One x) x one refl holds origin)

  pub looks : (made : Made E O) (slots id : ℕ) (me : M) → 0 < me.0.shares → Allows (Rule made) slots id me 1 (λ x. x) (Looks key_of (step slots 1 0 0 none) me)
  looks made slots id me alive s r _ at _ = let live = (r.each id me.0 at).live alive in let le = prefix_length me.0.seen r.log live.begins in let n = word_1 s.words r.gate (length r.log) r.words in (
    me.0,
    keeps,
    tt,
    unmoved made s r 1 id me.1 me.0 me.0 at (λ _ _ _ k. k) refl refl refl,
    (
      refl,
      record {
        counted = omega (arith, le, n);
        added = subst (λ (l : List E). AreAdded l me.0.seen me.0.own) (sym live.start) live.added;
        once = live.once;
        keys = keys_seen key_of me.0.seen r.log me.0.own live.begins live.keys (λ k has. (live.added k has).1);
        shorter = live.shorter;
        start = live.other_start ∙ sym live.start;
        origin = live.other_origin ∙ sym live.origin;
      },
    ),
  )
