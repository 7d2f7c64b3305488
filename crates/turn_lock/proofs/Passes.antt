-- Splits, joins, the beginning and the end of a lock keep its rule.
use Rattle.std.proofs.Common.{◌≡◌, ◌≢◌, ℕ, zero, suc, ◌+◌, ◌<◌, ◌⊎◌, List, [], ◌∷◌, ◌++◌, length, set, Option, Some, None, sym, refl, ap, ◌∙◌, subst, inl, inr, ⊎_elim, arith}
use Rattle.std.specs.List.{Contains}
use Rattle.std.proofs.lemmas.List.Elements.{Contains-append_cases, Contains-append_left, Contains-append_right}
use Rattle.std.proofs.lemmas.Option.{same_Some, none-some}
use mathlib.Core.Option.{Option as Opt, some, some-injective, some-ne-none}
use mathlib.Core.Logic.{dite}
use mathlib.Core.List.{IsPrefix}
use native.Mathlib.Decide.{ℕ_discrete}
use lib.ListN.{get_elem?}
use Rattle.atomic_table.specs.Table.{State, Me, opening, Splits, Joins, Final, Seen}
use Rattle.atomic_table.proofs.Lists.{at_set, set_else, at_longer, at_snoc}
use Rattle.turn_lock.specs.declared.view.View.{View}
use Rattle.turn_lock.specs.History.{OwnsKeys, OwnsAdded}
use Rattle.turn_lock.specs.Rule.{Made, IsLive, IsKnown, IsHome, IsHeldBy, Turns}
use Rattle.turn_lock.specs.Steps.{first_view, kept_part, given_part, joined, spent_view}
use Rattle.turn_lock.proofs.Views.{same_seat, still_held, still_owned_at, still_owned, owner_lives}
use Rattle.turn_lock.proofs.Lists.{prefix_itself, prefix_longer, prefix_length, set_there, same_at, contains_none, distinct_none, distinct_append, longer_prefix, both_lists, own_keys_none, both_keys, shares_set, shares_snoc, shares_two}

only_one : {A : Type 0} (a : A) (i : ℕ) (b : A) → get_elem? (a ∷ []) i ≡ some b → a ≡ b
only_one a zero b e = some-injective a b e
only_one a (suc i) b e = absurd (some-ne-none b (sym e))

module _ {S E O : Type 0} (history_of : S → List E) (origin_of : S → O) (key_of : E → ℕ) where
  abbrev V : Type 0
  V = View E O

  abbrev St : Type 0
  St = State (Option S) V

  abbrev M : Type 0
  M = Me (Option S) V

  abbrev Rule : Made E O → St → Type 0
  Rule = Turns history_of origin_of key_of

  abbrev Knows : ℕ → ℕ → List E → Made E O → ℕ → V → Type 0
  Knows = IsKnown key_of

  abbrev Live : List E → Made E O → V → Type 0
  Live = IsLive key_of

  abbrev Home : List E → O → List (Opt (Option S)) → Type 0
  Home = IsHome history_of origin_of

  abbrev HeldBy : ℕ → List E → List V → Type 0
  HeldBy = IsHeldBy

  kept_known : (id gate holder : ℕ) (v : V) (made : Made E O) (log : List E) → v.held ≡ None → v.planned < v.shares → Knows gate holder log made id v → Knows gate holder log made id (kept_part v)
  kept_known id gate holder v made log free less k = let l = k.live (omega (arith, less)) in record {
    holds = λ h e. absurd (none-some h (sym free ∙ e));
    live = λ _. record { begins = l.begins; shorter = l.shorter; started = l.started; added = l.added; keys = l.keys; once = l.once; start = l.start; origin = l.origin; other_start = l.other_start; other_origin = l.other_origin };
    spent = λ none_left. absurd (omega (arith, none_left, less));
  }

  given_known : (id gate holder : ℕ) (v : V) (made : Made E O) (log : List E) → 0 < v.planned → Live log made v → (j : ℕ) → Knows gate holder log made j (given_part v)
  given_known id gate holder v made log plenty l j = record {
    holds = λ h e. absurd (none-some h e);
    live = λ _. record { begins = l.begins; shorter = l.shorter; started = l.started; added = λ n has. absurd (contains_none n has); keys = own_keys_none key_of log; once = distinct_none; start = l.start; origin = l.origin; other_start = l.other_start; other_origin = l.other_origin };
    spent = λ _. refl;
  }

  -- a new view comes, which owns nothing and does not hold the gate
  arrived : (made : Made E O) (s : St) (r : Rule made s) (id : ℕ) (v w new : V) → get_elem? s.views id ≡ some v → v.held ≡ None
      → Knows r.gate r.holder r.log made id w → w.own ≡ v.own → ((j : ℕ) → Knows r.gate r.holder r.log made j new) → new.own ≡ [] → w.shares + new.shares ≡ v.shares
      → Rule made record { words = s.words; homes = s.homes; views = set s.views id w ++ new ∷ [] }
  arrived made s r id v w new at free me own fresh nothing shares =
      let vs : List V = set s.views id w in
      let each : (j : ℕ) (x : V) → get_elem? vs j ≡ some x → Knows r.gate r.holder r.log made j x = λ j x e. ⊎_elim
      (λ (t : (j ≡ id) × (w ≡ x)). subst (λ (z : ℕ × V). Knows r.gate r.holder r.log made z.0 z.1) (λ i. (sym t.0 i, t.1 i)) me)
      (λ (t : (j ≢ id) × (get_elem? s.views j ≡ some x)). r.each j x t.1) (at_set s.views id j w x e) in
      let owner : (j k : ℕ) (x : V) → get_elem? vs j ≡ some x → Contains x.own k → (y : V) × (get_elem? s.views j ≡ some y) × Contains y.own k = λ j k x e has. ⊎_elim
      (λ (t : (j ≡ id) × (w ≡ x)). (v, subst (λ (z : ℕ). get_elem? s.views z ≡ some v) (sym t.0) at, subst (λ (l : List ℕ). Contains l k) (sym (ap (λ (z : V). z.own) t.1) ∙ own) has))
      (λ (t : (j ≢ id) × (get_elem? s.views j ≡ some x)). (x, t.1, has)) (at_set s.views id j w x e) in
      let none_owned : (k : ℕ) (x : V) → new ≡ x → Contains x.own k → ⊥ = λ k x e has. contains_none k (subst (λ (l : List ℕ). Contains l k) (sym (ap (λ (z : V). z.own) e) ∙ nothing) has) in record {
        gate = r.gate;
        holder = r.holder;
        log = r.log;
        words = r.words;
        home = r.home;
        begun = r.begun;
        owned = λ k from below. let o = still_owned s.views id v w at (λ n has. subst (λ (l : List ℕ). Contains l n) (sym own) has) k (r.owned k from below) in (o.0, o.1, at_longer vs (new ∷ []) o.0 o.1 o.2, o.3);
        closed = λ shut. let h = still_held r.holder r.log s.views id v w at free (r.closed shut) in (h.0, at_longer vs (new ∷ []) r.holder h.0 h.1, h.2);
        each = λ j x e. ⊎_elim (each j x) (λ (t : new ≡ x). subst (λ (z : V). Knows r.gate r.holder r.log made j z) t (fresh j)) (at_snoc vs new x j e);
        apart = λ i j k x y e f has also. ⊎_elim
            (λ (t : get_elem? vs i ≡ some x). ⊎_elim
            (λ (u : get_elem? vs j ≡ some y). let a = owner i k x t has in let b = owner j k y u also in r.apart i j k a.0 b.0 a.1 b.1 a.2 b.2)
            (λ (u : new ≡ y). absurd (none_owned k y u also))
            (at_snoc vs new y j f))
            (λ (t : new ≡ x). absurd (none_owned k x t has))
            (at_snoc vs new x i e);
        whole = let a = shares_set s.views id v w at in let b = shares_snoc vs new in let c = r.whole in omega (arith, a, b, c, shares);
      }

  pub splits : (made : Made E O) (id : ℕ) (v : V) → v.held ≡ None → 0 < v.planned → v.planned < v.shares → Splits (Rule made) id v (kept_part v) (given_part v)
  splits made id v free plenty less s r at = let known = r.each id v at in
      arrived made s r id v (kept_part v) (given_part v) at free (kept_known id r.gate r.holder v made r.log free less known) refl
      (given_known id r.gate r.holder v made r.log plenty (known.live (omega (arith, less)))) refl (omega (arith, less))

  joined_known : (id other gate holder : ℕ) (v w : V) (made : Made E O) (log : List E) → v.held ≡ None → 0 < v.shares → 0 < w.shares → Knows gate holder log made id v → Knows gate holder log made other w
      → ((k : ℕ) → Contains v.own k → Contains w.own k → ⊥) → Knows gate holder log made id (joined v w)
  joined_known id other gate holder v w made log free alive alive' k k' apart = let l = k.live alive in let l' = k'.live alive' in
      let both = both_lists v.seen w.seen log l.begins l'.begins in record {
        holds = λ h e. absurd (none-some h (sym free ∙ e));
        live = λ _. record {
          begins = longer_prefix v.seen w.seen log l.begins l'.begins;
          shorter = both.0;
          started = prefix_longer made.history v.seen w.seen l.started l'.started;
          added = λ n has. ⊎_elim
              (λ a. let b = l.added n a in let d = b.1 in let c = both.1 in (b.0, omega (arith, d, c)))
              (λ a. let b = l'.added n a in let d = b.1 in let c = both.2 in (b.0, omega (arith, d, c)))
              (Contains-append_cases v.own w.own n has);
          keys = both_keys key_of log v.own w.own l.keys l'.keys;
          once = distinct_append v.own w.own l.once l'.once apart;
          start = l.start;
          origin = l.origin;
          other_start = l'.start;
          other_origin = l'.origin;
        };
        spent = λ none_left. absurd (omega (arith, none_left, alive));
      }

  spent_known : (j gate holder : ℕ) (made : Made E O) (log : List E) → Knows gate holder log made j spent_view
  spent_known j gate holder made log = record {
    holds = λ h e. absurd (none-some h e);
    live = λ alive. absurd (omega (arith, alive));
    spent = λ _. refl;
  }

  pub joins : (made : Made E O) (id : ℕ) (v : V) (other : ℕ) (w : V) → v.held ≡ None → w.held ≡ None → 0 < v.shares → 0 < w.shares → Joins (Rule made) id v other w (joined v w) spent_view
  joins made id v other w free free' alive alive' s r at ne there =
      let both : V = joined v w in
      let vs : List V = set s.views id both in
      let at' : get_elem? s.views other ≡ some w = sym (set_else s.views id other both ne) ∙ there in
      let me : Knows r.gate r.holder r.log made id both = joined_known id other r.gate r.holder v w made r.log free alive alive' (r.each id v at) (r.each other w at')
      (λ k a b. ne (sym (r.apart id other k v w at at' a b))) in
      let owner : (j k : ℕ) (x : V) → get_elem? (set vs other spent_view) j ≡ some x → Contains x.own k → (y : V) × (i : ℕ) × (get_elem? s.views i ≡ some y) × Contains y.own k × ((i ≡ j) ⊎ ((i ≡ other) × (j ≡ id))) × (j ≢ other) = λ j k x e has. ⊎_elim
      (λ (t : (j ≡ other) × (spent_view ≡ x)). absurd (contains_none k (subst (λ (z : V). Contains z.own k) (sym t.1) has)))
      (λ (t : (j ≢ other) × (get_elem? vs j ≡ some x)). ⊎_elim
      (λ (u : (j ≡ id) × (both ≡ x)). ⊎_elim
      (λ h. (v, id, at, h, inl (sym u.0), t.0))
      (λ h. (w, other, at', h, inr (refl, u.0), t.0))
      (Contains-append_cases v.own w.own k (subst (λ (z : V). Contains z.own k) (sym u.1) has)))
      (λ (u : (j ≢ id) × (get_elem? s.views j ≡ some x)). (x, j, u.1, has, inl refl, t.0))
      (at_set s.views id j both x t.1))
      (at_set vs other j spent_view x e) in record {
        gate = r.gate;
        holder = r.holder;
        log = r.log;
        words = r.words;
        home = r.home;
        begun = r.begun;
        owned = λ k from below. let o = r.owned k from below in dite (ℕ_discrete o.0 other)
            (λ is. (
              id,
              both,
              set_else vs other id spent_view (λ e. ne (sym e)) ∙ set_there s.views id v both at,
              Contains-append_right v.own w.own k (subst (λ (z : V). Contains z.own k) (same_at s.views other o.1 w (subst (λ (z : ℕ). get_elem? s.views z ≡ some o.1) is o.2) at') o.3),
            ))
            (λ not. let p = still_owned_at s.views id v both at (Contains-append_left v.own w.own) k o in
            (o.0, p.0, set_else vs other o.0 spent_view not ∙ p.1, p.2));
        closed = λ shut. still_held r.holder r.log vs other w spent_view there free' (still_held r.holder r.log s.views id v both at free (r.closed shut));
        each = λ j x e. ⊎_elim
            (λ (t : (j ≡ other) × (spent_view ≡ x)). subst (λ (z : V). Knows r.gate r.holder r.log made j z) t.1 (spent_known j r.gate r.holder made r.log))
            (λ (t : (j ≢ other) × (get_elem? vs j ≡ some x)). ⊎_elim
            (λ (u : (j ≡ id) × (both ≡ x)). subst (λ (z : ℕ × V). Knows r.gate r.holder r.log made z.0 z.1) (λ i. (sym u.0 i, u.1 i)) me)
            (λ (u : (j ≢ id) × (get_elem? s.views j ≡ some x)). r.each j x u.1)
            (at_set s.views id j both x t.1))
            (at_set vs other j spent_view x e);
        apart = λ i j k x y e f has also. let a = owner i k x e has in let b = owner j k y f also in
            same_seat id other i j a.1 b.1 a.4 b.4 a.5 b.5 (r.apart a.1 b.1 k a.0 b.0 a.2 b.2 a.3 b.3);
        whole = let a = shares_set s.views id v both at in let b = shares_set vs other w spent_view there in let c = r.whole in omega (arith, a, b, c);
      }

  pub opens : (x : S) (n : ℕ) → n ≡ length (history_of x) → Rule record { history = history_of x; origin = origin_of x } (opening (0 ∷ n ∷ []) (Some x ∷ []) (first_view (history_of x) (origin_of x)))
  opens x n long = let log : List E = history_of x in let made : Made E O = record { history = log; origin = origin_of x } in let v : V = first_view log (origin_of x) in record {
    gate = 0;
    holder = 0;
    log = log;
    begun = prefix_itself log;
    owned = λ k from below. absurd (omega (arith, from, below));
    words = ap (λ (z : ℕ). 0 ∷ z ∷ []) long;
    home = λ _. (x, refl, refl, refl);
    closed = λ shut. absurd (shut refl);
    each = λ j w e. subst (Knows 0 0 log made j) (only_one v j w e) record {
      holds = λ h t. absurd (none-some h t);
      live = λ _. record { begins = prefix_itself log; shorter = (log, refl); started = prefix_itself log; added = λ k has. absurd (contains_none k has); keys = own_keys_none key_of log; once = distinct_none; start = refl; origin = refl; other_start = refl; other_origin = refl };
      spent = λ _. refl;
    };
    apart = λ i j k v' w' e f has also. absurd (contains_none k (subst (λ (z : V). Contains z.own k) (sym (only_one v i v' e)) has));
    whole = refl;
  }

  -- what a pass with all shares knows of the state that the lock had in the end
  abbrev pub IsLast : V → S → Type 0
  IsLast v x = IsPrefix v.seen (history_of x) × (v.origin ≡ Some (origin_of x)) × OwnsAdded v.start (history_of x) v.own × OwnsKeys key_of (history_of x) v.own

  -- with all shares a pass owns all places that were added since the lock was made
  owns_added : (made : Made E O) (s : St) (r : Rule made s) (id : ℕ) (v : V) → get_elem? s.views id ≡ some v → v.shares ≡ 1024 → OwnsAdded made.history r.log v.own
  owns_added made s r id v at all = let live = (r.each id v at).live (omega (arith, all)) in record {
    begins = r.begun;
    added = λ k has. let a = live.added k has in let b = a.1 in let c = prefix_length v.seen r.log live.begins in (a.0, omega (arith, b, c));
    once = live.once;
    all = λ k from below. let o = r.owned k from below in dite (ℕ_discrete o.0 id)
        (λ e. subst (λ (z : V). Contains z.own k) (same_at s.views id o.1 v (subst (λ (z : ℕ). get_elem? s.views z ≡ some o.1) e o.2) at) o.3)
        (λ ne. absurd (let t = shares_two s.views o.0 id o.1 v ne o.2 at in let u = r.whole in
        let z = owner_lives key_of r.gate r.holder r.log made o.0 k o.1 (r.each o.0 o.1 o.2) o.3 in omega (arith, t, u, z, all)));
  }

  -- with all shares there is no other pass, so the state is at home
  pub closes : (made : Made E O) (id : ℕ) (v : V) (ws : List ℕ) (xs : List (Option S)) (taken : Option S) → Final (Seen (Rule made) id v) ws xs → get_elem? xs 0 ≡ some taken → v.held ≡ None → v.shares ≡ 1024
      → (x : S) × (taken ≡ Some x) × IsLast v x
  closes made id v ws xs taken final got free all =
      let s : St = final.0 in let r : Rule made s = final.1.0 in let at : get_elem? s.views id ≡ some v = final.1.1 in
      let gate : r.gate ≡ 0 = dite (ℕ_discrete r.gate 0) (λ e. e) (λ shut. absurd (let h = r.closed shut in let k = (r.each r.holder h.0 h.1).holds r.log h.2 in dite (ℕ_discrete r.holder id)
      (λ e. none-some r.log (sym free ∙ ap (λ (z : V). z.held) (same_at s.views id v h.0 at (subst (λ (z : ℕ). get_elem? s.views z ≡ some h.0) e h.1)) ∙ h.2))
      (λ ne. let t = shares_two s.views r.holder id h.0 v ne h.1 at in let u = r.whole in let z = k.3 in omega (arith, t, u, z, all)))) in
      let home = r.home gate in let live = (r.each id v at).live (omega (arith, all)) in (
        home.0,
        same_at xs 0 taken (Some home.0) got (final.4 0 (Some home.0) (ap (λ (l : List (Opt (Option S))). get_elem? l 0) home.1)),
        (
          subst (IsPrefix v.seen) (sym home.2) live.begins,
          live.origin ∙ ap (λ (o : O). Some o) (sym home.3),
          subst (λ (l : List E). OwnsAdded v.start l v.own) (sym home.2) (subst (λ (l : List E). OwnsAdded l r.log v.own) (sym live.start) (owns_added made s r id v at all)),
          subst (λ (l : List E). OwnsKeys key_of l v.own) (sym home.2) live.keys,
        ),
      )

  pub closes_as : (v : V) (taken : Option S) (y : S) → (x : S) × (taken ≡ Some x) × IsLast v x → taken ≡ Some y → IsLast v y
  closes_as v taken y t e = subst (IsLast v) (same_Some t.0 y (sym t.1 ∙ e)) t.2
