-- Sets that have the elements of a list, or some of them: as the list grows by one, and as one goes.
use Rattle.std.proofs.Common.{◌≡◌, ℕ, Bool, true, not, ◌==◌, cond, Option, None, Some, List, [], ◌∷◌, ◌++◌, refl, ap, sym, ◌∙◌, subst, ⊎_elim}
use Rattle.std.specs.Prelude.{filter, Contains, ◌↔◌, All, IsPermutation}
use Rattle.std.proofs.lemmas.Bool.{cond-true, cond-false, cases_Bool, eq-eqb, eqb-true, true≢false}
use Rattle.std.proofs.lemmas.Option.{same_Some, none-some}
use Rattle.std.proofs.lemmas.List.Elements.{All-contains, Contains-append_left, Contains-push, Contains-push_cases}
use Rattle.std.proofs.lemmas.List.Sorted.{Contains-permutation, IsPermutation-sym}
use Rattle.given_work.proofs.AboutIndexes.Slots.{Contains-cons_cases, Contains-here, Contains-later, Contains-filter, Contains-filtered, Contains-none}

module _ {M C : Type 0} (number : M → ℕ) (clause : M → C) (same : (a b : M) → number a ≡ number b → clause a ≡ clause b → a ≡ b) (U : M → Type 0) where
  abbrev pub others : ℕ → M → Bool
  others k m = not (number m == k)

  is-other : (k : ℕ) (m : M) → (number m ≡ k → ⊥) → others k m ≡ true
  is-other k m differ = ⊎_elim (λ e. absurd (differ (eqb-true (number m) k e))) (λ e. ap not e) (cases_Bool (number m == k))

  other-differs : (k : ℕ) (m : M) → others k m ≡ true → number m ≡ k → ⊥
  other-differs k m is e = true≢false (sym is ∙ ap not (eq-eqb (number m) k e))

  -- ---- a look-up

  abbrev pub FindsThose : List M → (ℕ → Option C) → Type 0
  FindsThose ms find = (m : M) → (find (number m) ≡ Some (clause m)) ↔ (Contains ms m × U m)

  pub finds-none : (find : ℕ → Option C) → ((n : ℕ) → find n ≡ None) → FindsThose [] find
  finds-none find none m = ((λ e. absurd (none-some (clause m) (sym (none (number m)) ∙ e))), (λ h. absurd (Contains-none m h.0)))

  pub finds-put :
      (ms : List M) (x : M) (find find' : ℕ → Option C)
      → FindsThose ms find → U x → ((m : M) → Contains ms m → number m ≡ number x → ⊥)
      → ((n : ℕ) → find' n ≡ cond (number x == n) (Some (clause x)) (find n))
      → FindsThose (ms ++ x ∷ []) find'
  finds-put ms x find find' finds unit new is m =
      ⊎_elim
      (λ equal.
      let found : find' (number m) ≡ Some (clause x) = is (number m) ∙ cond-true (number x == number m) (Some (clause x)) (find (number m)) equal in
      let numbers : number x ≡ number m = eqb-true (number x) (number m) equal in (
        (λ e.
            let one : x ≡ m = same x m numbers (same_Some (clause x) (clause m) (sym found ∙ e)) in
            (subst (λ y. Contains (ms ++ x ∷ []) y) one (Contains-push ms x), subst U one unit)),
        (λ h.
            ⊎_elim
            (λ before. absurd (new m before (sym numbers)))
            (λ last. found ∙ ap (λ y. Some (clause y)) last)
            (Contains-push_cases ms x m h.0)),
      ))
      (λ other.
      let found : find' (number m) ≡ find (number m) = is (number m) ∙ cond-false (number x == number m) (Some (clause x)) (find (number m)) other in (
        (λ e. let h = (finds m).0 (sym found ∙ e) in (Contains-append_left ms (x ∷ []) m h.0, h.1)),
        (λ h.
            ⊎_elim
            (λ before. found ∙ (finds m).1 (before, h.1))
            (λ last. absurd (true≢false (sym (eq-eqb (number x) (number m) (ap number last)) ∙ other)))
            (Contains-push_cases ms x m h.0)),
      ))
      (cases_Bool (number x == number m))

  pub finds-skip : (ms : List M) (x : M) (find : ℕ → Option C) → FindsThose ms find → (U x → ⊥) → FindsThose (ms ++ x ∷ []) find
  finds-skip ms x find finds none m = (
    (λ e. let h = (finds m).0 e in (Contains-append_left ms (x ∷ []) m h.0, h.1)),
    (λ h.
        ⊎_elim
        (λ before. (finds m).1 (before, h.1))
        (λ last. absurd (none (subst U (sym last) h.1)))
        (Contains-push_cases ms x m h.0)),
  )

  pub finds-take :
      (ms : List M) (k : ℕ) (find find' : ℕ → Option C)
      → FindsThose ms find → ((n : ℕ) → find' n ≡ cond (k == n) None (find n))
      → FindsThose (filter (others k) ms) find'
  finds-take ms k find find' finds is m =
      ⊎_elim
      (λ equal.
      let none : find' (number m) ≡ None = is (number m) ∙ cond-true (k == number m) None (find (number m)) equal in (
        (λ e. absurd (none-some (clause m) (sym none ∙ e))),
        (λ h. absurd (other-differs k m (Contains-filtered (others k) ms m h.0).1 (sym (eqb-true k (number m) equal)))),
      ))
      (λ other.
      let found : find' (number m) ≡ find (number m) = is (number m) ∙ cond-false (k == number m) None (find (number m)) other in (
        (λ e.
            let h = (finds m).0 (sym found ∙ e) in
            (Contains-filter (others k) ms m h.0 (is-other k m (λ e. true≢false (sym (eq-eqb k (number m) (sym e)) ∙ other))), h.1)),
        (λ h. found ∙ (finds m).1 ((Contains-filtered (others k) ms m h.0).0, h.1)),
      ))
      (cases_Bool (k == number m))

  -- no element has a number that is new, so none is found
  pub finds-new :
      (ms : List M) (find : ℕ → Option C) (n : ℕ)
      → FindsThose ms find → ((c : C) → (m : M) × (number m ≡ n) × (clause m ≡ c))
      → ((m : M) → Contains ms m → number m ≡ n → ⊥) → find n ≡ None
  finds-new ms find n finds made new = by (find n) refl
    where
      by : (o : Option C) → find n ≡ o → o ≡ None
      by None e = refl
      by (Some c) e =
          let m = made c in
          absurd (new m.0 ((finds m.0).0 (ap find m.1 ∙ e ∙ ap Some (sym m.2))).0 m.1)

  -- ---- all, in any order

  abbrev pub HasSame : List M → List M → Type 0
  HasSame ms ss = (m : M) → Contains ss m ↔ Contains ms m

  pub same-put : (ms ss ss' : List M) (x : M) → HasSame ms ss → IsPermutation (x ∷ ss) ss' → HasSame (ms ++ x ∷ []) ss'
  same-put ms ss ss' x has moved m = (
    (λ h.
        ⊎_elim
        (λ first. subst (λ y. Contains (ms ++ x ∷ []) y) first (Contains-push ms x))
        (λ later. Contains-append_left ms (x ∷ []) m ((has m).0 later))
        (Contains-cons_cases x m ss (Contains-permutation ss' (x ∷ ss) m (IsPermutation-sym (x ∷ ss) ss' moved) h))),
    (λ h.
        Contains-permutation (x ∷ ss) ss' m moved
        (⊎_elim
        (λ before. Contains-later x m ss ((has m).1 before))
        (λ last. subst (λ y. Contains (x ∷ ss) y) last (Contains-here x ss))
        (Contains-push_cases ms x m h))),
  )

  pub same-take :
      (ms ss ss' : List M) (k : ℕ) (y : M)
      → HasSame ms ss → IsPermutation ss (y ∷ ss') → number y ≡ k → All (λ m. number m ≡ k → ⊥) ss' → HasSame (filter (others k) ms) ss'
  same-take ms ss ss' k y has moved named gone m = (
    (λ h.
        let before = (has m).0 (Contains-permutation (y ∷ ss') ss m (IsPermutation-sym ss (y ∷ ss') moved) (Contains-later y m ss' h)) in
        Contains-filter (others k) ms m before (is-other k m (All-contains (λ m. number m ≡ k → ⊥) ss' m gone h))),
    (λ h.
        let there = Contains-filtered (others k) ms m h in
        ⊎_elim
        (λ first. absurd (other-differs k m there.1 (ap number (sym first) ∙ named)))
        (λ later. later)
        (Contains-cons_cases y m ss' (Contains-permutation ss (y ∷ ss') m moved ((has m).1 there.0)))),
  )

  pub same-absent : (ms ss : List M) (k : ℕ) → HasSame ms ss → All (λ m. number m ≡ k → ⊥) ss → HasSame (filter (others k) ms) ss
  same-absent ms ss k has none m = (
    (λ h. Contains-filter (others k) ms m ((has m).0 h) (is-other k m (All-contains (λ m. number m ≡ k → ⊥) ss m none h))),
    (λ h. (has m).1 (Contains-filtered (others k) ms m h).0),
  )
