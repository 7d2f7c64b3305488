-- The told clauses by their places, after one is put behind the others and after one is taken away.
use Rattle.std.proofs.Common.{◌≡◌, ◌⊎◌, ℕ, ◌<◌, ◌==◌, not, List, [], ◌∷◌, ◌++◌, length, Option, Some, None, refl, ap, ap₂, sym, ◌∙◌, subst, ⊎_elim, false}
use Rattle.std.specs.Prelude.{filter, slice_get, slice_set, option_map, Contains}
use Rattle.std.proofs.lemmas.Bool.{cases_Bool, cond-true, cond-false, eq-eqb, eqb-true, false_from_ne_true, true≢false}
use Rattle.std.proofs.lemmas.Option.{same_Some, none-some, slice_get_within}
use Rattle.std.proofs.lemmas.List.Elements.{All-contains}
use Rattle.fol_base.proofs.WorkedExamples.TestLemmas.{option_map-some}
use Rattle.bank_clause.specs.Clause.{AreMembersOf, IsMemberOf}
use Rattle.bank_clause.specs.declared.member.Member.{Member}
use Rattle.term_bank.specs.declared.bank.Bank.{Bank}
use Rattle.partners.specs.Partners.{AreOfBank, HasAlso, HasNoMore, Placed, placed_numbered}
use Rattle.subsume.specs.Editing.{HasNoNumber}
use Rattle.given_work.specs.Store.{ArePlaced, IsAt, members_in}
use Rattle.given_work.specs.declared.store.Store.{Store}
use Rattle.given_work.proofs.AboutIndexes.Slots.{at-living, before-emptied, emptied-living, filter-all, living-at, put-living, slice_get-push_cases, slice_get-push_last, slice_get-push_left, slice_get-set_other, slice_get-set_same}

pub option_map-none : {X Y : Type 0} (f : X → Y) (o : Option X) → option_map f o ≡ None → o ≡ None
option_map-none f None h = refl
option_map-none f (Some x) h = absurd (none-some (f x) (sym h))

-- ---- by numbers

abbrev pub finds : Store → ℕ → Option Placed
finds store n = placed_numbered n store.partners.members

abbrev pub placed_at : ℕ → Member → Placed
placed_at i m = record { position = i; member = m }

placed-is : (p : Placed) (i : ℕ) (m : Member) → i ≡ p.position → m ≡ p.member → placed_at i m ≡ p
placed-is p i m place member = ap₂ placed_at place member

other-number : (a b : ℕ) → (a ≡ b → ⊥) → (a == b) ≡ false
other-number a b differ = false_from_ne_true (a == b) (λ e. differ (eqb-true a b e))

-- the clause at a place is found by its number
pub found-placed :
    (store : Store) (i : ℕ) (m : Member) → ArePlaced store → slice_get store.slots.items i ≡ Some (Some m)
    → finds store m.number ≡ Some (placed_at i m)
found-placed store i m placed at = (placed m.number (placed_at i m)).1 (record { there = at; numbered = refl })

pub placed-there : (store : Store) (n : ℕ) (p : Placed) → ArePlaced store → finds store n ≡ Some p → IsAt store.slots.items n p
placed-there store n p placed found = (placed n p).0 found

-- the clause that is found by a number, and none
pub member-there :
    (store : Store) (n : ℕ) (m : Member) → ArePlaced store → option_map (λ (p : Placed). p.member) (finds store n) ≡ Some m
    → Contains (members_in store.slots.items) m × (m.number ≡ n)
member-there store n m placed h =
    option_map-some (λ (p : Placed). p.member) (finds store n) m h λ p found is.
    let at = (placed n p).0 found in (
      subst (λ (k : Member). Contains (members_in store.slots.items) k) is (at-living store.slots.items p.position p.member at.there),
      ap (λ (k : Member). k.number) (sym is) ∙ at.numbered,
    )

pub no-member :
    (store : Store) (n : ℕ) → ArePlaced store → option_map (λ (p : Placed). p.member) (finds store n) ≡ None
    → (m : Member) → Contains (members_in store.slots.items) m → m.number ≡ n → ⊥
no-member store n placed h m there same =
    let at = living-at store.slots.items m there in
    none-some (placed_at at.0 m)
    (sym (option_map-none (λ (p : Placed). p.member) (finds store n) h) ∙ ap (finds store) (sym same) ∙ found-placed store at.0 m placed at.1)

-- a number that no clause has isn't found
pub none-found : (store : Store) (n : ℕ) → ArePlaced store → HasNoNumber n (members_in store.slots.items) → finds store n ≡ None
none-found store n placed new = by (finds store n) refl
  where
    by : (o : Option Placed) → finds store n ≡ o → finds store n ≡ None
    by None is = is
    by (Some p) is =
        let at = (placed n p).0 is in
        absurd
        (All-contains (λ (m : Member). m.number ≡ n → ⊥) (members_in store.slots.items) p.member new
        (at-living store.slots.items p.position p.member at.there) at.numbered)

-- the partners are of the bank, if the clauses are
pub partners-of-bank :
    (bank : Bank) (store : Store) → ArePlaced store → AreMembersOf bank (members_in store.slots.items) → AreOfBank bank store.partners
partners-of-bank bank store placed of_bank n p found =
    All-contains (IsMemberOf bank) (members_in store.slots.items) p.member of_bank
    (at-living store.slots.items p.position p.member ((placed n p).0 found).there)

-- ---- one clause more

pub members-put :
    (slots now : List (Option Member)) (m : Member) → now ≡ slots ++ Some m ∷ [] → members_in now ≡ members_in slots ++ m ∷ []
members-put slots now m is = ap members_in is ∙ put-living slots m

pub store-put :
    (before now : Store) (m : Member)
    → ArePlaced before → HasNoNumber m.number (members_in before.slots.items) → now.slots.items ≡ before.slots.items ++ Some m ∷ []
    → HasAlso (placed_at (length before.slots.items) m) before.partners now.partners
    → ArePlaced now
store-put before now m placed new slots also n p =
    ⊎_elim
    (λ same.
    let found : finds now n ≡ Some last = also.members n ∙ cond-true (m.number == n) (Some last) (finds before n) same in (
      (λ e. subst (IsAt now.slots.items n) (same_Some last p (sym found ∙ e)) (record { there = at-last; numbered = eqb-true m.number n same })),
      (λ at.
          ⊎_elim
          (λ earlier. absurd (differs p.member (at-living before.slots.items p.position p.member earlier) (at.numbered ∙ sym (eqb-true m.number n same))))
          (λ here. found ∙ ap Some (placed-is p (length before.slots.items) m (sym here.0) (same_Some m p.member here.1)))
          (pushed at)),
    ))
    (λ other.
    let found : finds now n ≡ finds before n = also.members n ∙ cond-false (m.number == n) (Some last) (finds before n) other in (
      (λ e.
          let at = (placed n p).0 (sym found ∙ e) in
          record {
            there = ap (λ (ss : List (Option Member)). slice_get ss p.position) slots ∙ slice_get-push_left before.slots.items (Some m) (Some p.member) p.position at.there;
            numbered = at.numbered;
          }),
      (λ at.
          ⊎_elim
          (λ earlier. found ∙ (placed n p).1 (record { there = earlier; numbered = at.numbered }))
          (λ here.
          absurd
          (true≢false
          (sym (eq-eqb m.number n (ap (λ (k : Member). k.number) (same_Some m p.member here.1) ∙ at.numbered)) ∙ other)))
          (pushed at)),
    ))
    (cases_Bool (m.number == n))
  where
    last : Placed
    last = placed_at (length before.slots.items) m

    at-last : slice_get now.slots.items (length before.slots.items) ≡ Some (Some m)
    at-last = ap (λ (ss : List (Option Member)). slice_get ss (length before.slots.items)) slots ∙ slice_get-push_last before.slots.items (Some m)

    differs : (k : Member) → Contains (members_in before.slots.items) k → k.number ≡ m.number → ⊥
    differs k there = All-contains (λ (l : Member). l.number ≡ m.number → ⊥) (members_in before.slots.items) k new there

    pushed : IsAt now.slots.items n p → (slice_get before.slots.items p.position ≡ Some (Some p.member)) ⊎ ((p.position ≡ length before.slots.items) × (Some m ≡ Some p.member))
    pushed at =
        slice_get-push_cases before.slots.items (Some m) p.position (Some p.member)
        (ap (λ (ss : List (Option Member)). slice_get ss p.position) (sym slots) ∙ at.there)

-- ---- one clause less

module _ (before now : Store) (k : ℕ) (placed : ArePlaced before) where
  module _ (gone : Placed) (found : finds before k ≡ Some gone) where
    gone-there : IsAt before.slots.items k gone
    gone-there = (placed k gone).0 found

    pub place-inside : gone.position < length before.slots.items
    place-inside = slice_get_within before.slots.items gone.position (Some gone.member) gone-there.there

    -- a clause of that number stands at that place alone
    only : (p : Placed) (n : ℕ) → IsAt before.slots.items n p → n ≡ k → gone ≡ p
    only p n at same = same_Some gone p (sym found ∙ (placed k p).1 (record { there = at.there; numbered = at.numbered ∙ same }))

    module _ (slots : now.slots.items ≡ slice_set before.slots.items gone.position None) where
      pub members-taken : members_in now.slots.items ≡ filter (λ (m : Member). not (m.number == k)) (members_in before.slots.items)
      members-taken =
          ap members_in slots
          ∙ emptied-living (λ (m : Member). not (m.number == k)) before.slots.items gone.position gone.member gone-there.there
          (ap not (eq-eqb gone.member.number k gone-there.numbered))
          (λ j s at differ.
          ap not
          (other-number s.number k
          (λ e.
          differ (ap (λ (p : Placed). p.position) (sym (only (placed_at j s) k (record { there = at; numbered = e }) refl))))))

      pub store-taken : HasNoMore k before.partners now.partners → ArePlaced now
      store-taken fewer n p =
          ⊎_elim
          (λ same.
          let none : finds now n ≡ None = fewer.members n ∙ cond-true (k == n) None (finds before n) same in (
            (λ e. absurd (none-some p (sym none ∙ e))),
            (λ at. absurd (emptied p n (was p n at) at (sym (eqb-true k n same)))),
          ))
          (λ other.
          let kept : finds now n ≡ finds before n = fewer.members n ∙ cond-false (k == n) None (finds before n) other in (
            (λ e.
                let at = (placed n p).0 (sym kept ∙ e) in
                record {
                  there =
                      ap (λ (ss : List (Option Member)). slice_get ss p.position) slots
                      ∙ slice_get-set_other before.slots.items gone.position p.position None
                      (λ same.
                      true≢false
                      (sym
                      (eq-eqb k n
                      (sym gone-there.numbered
                      ∙ ap (λ (m : Member). m.number)
                      (same_Some gone.member p.member
                      (same_Some (Some gone.member) (Some p.member)
                      (sym gone-there.there ∙ ap (slice_get before.slots.items) (sym same) ∙ at.there)))
                      ∙ at.numbered))
                      ∙ other))
                      ∙ at.there;
                  numbered = at.numbered;
                }),
            (λ at. kept ∙ (placed n p).1 (was p n at)),
          ))
          (cases_Bool (k == n))
        where
          was : (p : Placed) (n : ℕ) → IsAt now.slots.items n p → IsAt before.slots.items n p
          was p n at = record {
            there =
                before-emptied before.slots.items gone.position p.position p.member
                (ap (λ (ss : List (Option Member)). slice_get ss p.position) (sym slots) ∙ at.there) place-inside;
            numbered = at.numbered;
          }

          emptied : (p : Placed) (n : ℕ) → IsAt before.slots.items n p → IsAt now.slots.items n p → n ≡ k → ⊥
          emptied p n old at same =
              none-some p.member
              (same_Some None (Some p.member)
              (sym (slice_get-set_same before.slots.items gone.position None place-inside)
              ∙ ap (slice_get (slice_set before.slots.items gone.position None)) (ap (λ (q : Placed). q.position) (only p n old same))
              ∙ ap (λ (ss : List (Option Member)). slice_get ss p.position) (sym slots)
              ∙ at.there))

  -- no clause has the number: nothing goes
  module _ (absent : finds before k ≡ None) (slots : now.slots.items ≡ before.slots.items) where
    pub members-same : members_in now.slots.items ≡ filter (λ (m : Member). not (m.number == k)) (members_in before.slots.items)
    members-same =
        ap members_in slots
        ∙ sym
        (filter-all (λ (m : Member). not (m.number == k)) (members_in before.slots.items)
        λ m there.
        let at = living-at before.slots.items m there in
        ap not
        (other-number m.number k
        (λ same.
        none-some (placed_at at.0 m) (sym absent ∙ (placed k (placed_at at.0 m)).1 (record { there = at.1; numbered = same })))))

    pub store-same : HasNoMore k before.partners now.partners → ArePlaced now
    store-same fewer n p = (
      (λ e. subst (λ (ss : List (Option Member)). IsAt ss n p) (sym slots) ((placed n p).0 (sym (still n) ∙ e))),
      (λ at. still n ∙ (placed n p).1 (subst (λ (ss : List (Option Member)). IsAt ss n p) slots at)),
    )
      where
        still : (n : ℕ) → finds now n ≡ finds before n
        still n =
            ⊎_elim
            (λ same. fewer.members n ∙ cond-true (k == n) None (finds before n) same ∙ sym absent ∙ ap (finds before) (eqb-true k n same))
            (λ other. fewer.members n ∙ cond-false (k == n) None (finds before n) other)
            (cases_Bool (k == n))
