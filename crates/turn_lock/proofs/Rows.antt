-- Worked rows of the definitions, over entries that are their own keys.
use Rattle.std.proofs.Common.{◌≡◌, ℕ, zero, suc, ◌<◌, ◌⊎◌, List, [], ◌∷◌, Some, get_or, slice_get, refl, ap, sym, ◌∙◌, subst, inl, inr, ⊎_elim, arith}
use Rattle.std.specs.List.{Contains}
use Rattle.std.proofs.lemmas.Bool.{cases_eq}
use Rattle.std.proofs.lemmas.Option.{same_Some, none-some}
use Rattle.turn_lock.specs.History.{added_places, AreApart, OwnsAdded, OwnsKeys, AreKeysApart, AddsOwnKeys}
use Rattle.turn_lock.proofs.Lists.{one_place}

abbrev two : List ℕ
two = 7 ∷ 8 ∷ []

abbrev four : List ℕ
four = 7 ∷ 8 ∷ 9 ∷ 9 ∷ []

none_added : added_places two two ≡ []
none_added = refl

one_of_two : (a b k : ℕ) → Contains (a ∷ b ∷ []) k → (a ≡ k) ⊎ (b ≡ k)
one_of_two a b k c = at c.0 c.1 c.2
  where
    at : (i : ℕ) → i < 2 → get_or (a ∷ b ∷ []) i k ≡ k → (a ≡ k) ⊎ (b ≡ k)
    at zero l e = inl e
    at (suc zero) l e = inr e
    at (suc (suc i)) l e = absurd (omega (arith, l))

-- in any order
pub owns_both_added : OwnsAdded two four (3 ∷ 2 ∷ [])
owns_both_added = record {
  begins = (9 ∷ 9 ∷ [], refl);
  added = λ k has. ⊎_elim (λ e. (omega (arith, e), omega (arith, e))) (λ e. (omega (arith, e), omega (arith, e))) (one_of_two 3 2 k has);
  once = differ;
  all = λ k from below. ⊎_elim
      (λ (e : k ≡ 2). (1, omega arith, sym e))
      (λ other. (0, omega arith, omega (arith, from, below, other)))
      (cases_eq k 2);
}
  where
    differ : (i j d : ℕ) → i < j → j < 2 → get_or (3 ∷ 2 ∷ []) i d ≡ get_or (3 ∷ 2 ∷ []) j d → ⊥
    differ zero zero d l m e = omega (arith, l)
    differ zero (suc zero) d l m e = omega (arith, e)
    differ zero (suc (suc j)) d l m e = omega (arith, m)
    differ (suc i) j d l m e = omega (arith, l, m)

pub owns_one_added : OwnsAdded two four (2 ∷ []) → ⊥
owns_one_added owns = let place = owns.all 3 (omega arith) (omega arith) in omega (arith, one_place 2 3 place)

-- place 0 stood already
pub owns_an_old : OwnsAdded two four (0 ∷ 2 ∷ 3 ∷ []) → ⊥
owns_an_old owns = let old = owns.added 0 (0, omega arith, refl) in omega (arith, old.0)

-- the history ends before place 4
pub owns_one_beyond : OwnsAdded two four (2 ∷ 3 ∷ 4 ∷ []) → ⊥
owns_one_beyond owns = let beyond = owns.added 4 (2, omega arith, refl) in omega (arith, beyond.1)

pub owns_one_twice : OwnsAdded two four (2 ∷ 3 ∷ 3 ∷ []) → ⊥
owns_one_twice owns = owns.once 1 2 0 (omega arith) (omega arith) refl

pub begins_otherwise : OwnsAdded (1 ∷ 8 ∷ []) four (2 ∷ 3 ∷ []) → ⊥
begins_otherwise owns = let first : 1 ≡ 7 = ap (λ (l : List ℕ). get_or l 0 0) owns.begins.1 in omega (arith, first)

pub apart : AreApart (0 ∷ 2 ∷ []) (1 ∷ 3 ∷ [])
apart k has also = ⊎_elim
    (λ (e : 0 ≡ k). ⊎_elim (λ (f : 1 ≡ k). omega (arith, e, f)) (λ (f : 3 ≡ k). omega (arith, e, f)) (one_of_two 1 3 k also))
    (λ (e : 2 ≡ k). ⊎_elim (λ (f : 1 ≡ k). omega (arith, e, f)) (λ (f : 3 ≡ k). omega (arith, e, f)) (one_of_two 1 3 k also))
    (one_of_two 0 2 k has)

-- both have the 2
pub not_apart : AreApart (0 ∷ 2 ∷ []) (1 ∷ 2 ∷ []) → ⊥
not_apart apart = apart 2 (1, omega arith, refl) (1, omega arith, refl)

-- both fives are owned, and nobody else's entry is a 5
pub keys_owned : OwnsKeys (λ n. n) (5 ∷ 6 ∷ 5 ∷ []) (0 ∷ 2 ∷ [])
keys_owned i zero a b has at_i at_j same = (0, omega arith, refl)
keys_owned i (suc zero) a b has at_i at_j same =
    let six = same_Some 6 b at_j in
    ⊎_elim
    (λ e. let five = same_Some 5 a (subst (λ (k : ℕ). slice_get (5 ∷ 6 ∷ 5 ∷ []) k ≡ Some a) (sym e) at_i) in absurd (omega (arith, five, six, same)))
    (λ e. let five = same_Some 5 a (subst (λ (k : ℕ). slice_get (5 ∷ 6 ∷ 5 ∷ []) k ≡ Some a) (sym e) at_i) in absurd (omega (arith, five, six, same)))
    (one_of_two 0 2 i has)
keys_owned i (suc (suc zero)) a b has at_i at_j same = (1, omega arith, refl)
keys_owned i (suc (suc (suc j))) a b has at_i at_j same = absurd (none-some b at_j)

pub keys_apart : AreKeysApart (λ n. n) (5 ∷ 6 ∷ 5 ∷ []) (0 ∷ 2 ∷ []) (1 ∷ [])
keys_apart i j a b has also at_i at_j same =
    let six = same_Some 6 b (subst (λ (k : ℕ). slice_get (5 ∷ 6 ∷ 5 ∷ []) k ≡ Some b) (sym (one_place 1 j also)) at_j) in
    ⊎_elim
    (λ e. let five = same_Some 5 a (subst (λ (k : ℕ). slice_get (5 ∷ 6 ∷ 5 ∷ []) k ≡ Some a) (sym e) at_i) in omega (arith, five, six, same))
    (λ e. let five = same_Some 5 a (subst (λ (k : ℕ). slice_get (5 ∷ 6 ∷ 5 ∷ []) k ≡ Some a) (sym e) at_i) in omega (arith, five, six, same))
    (one_of_two 0 2 i has)

-- both have the 5
pub keys_not_apart : AreKeysApart (λ n. n) (5 ∷ 6 ∷ 5 ∷ []) (0 ∷ []) (2 ∷ []) → ⊥
keys_not_apart apart = apart 0 2 5 5 (0, omega arith, refl) (0, omega arith, refl) refl refl refl

-- whoever owns the first 5 owns the other 5 too
pub keys_not_owned : OwnsKeys (λ n. n) (5 ∷ 6 ∷ 5 ∷ []) (0 ∷ []) → ⊥
keys_not_owned owns = let place = owns 0 2 5 5 (0, omega arith, refl) refl refl refl in omega (arith, one_place 0 2 place)

pub adds_own_keys : AddsOwnKeys (λ n. n) (5 ∷ 6 ∷ []) (0 ∷ []) (5 ∷ 6 ∷ 5 ∷ 7 ∷ [])
adds_own_keys zero b l is = absurd (omega arith)
adds_own_keys (suc zero) b l is = absurd (omega arith)
adds_own_keys (suc (suc zero)) b l is = inr (0, 5, (0, omega arith, refl), refl, same_Some 5 b is)
adds_own_keys (suc (suc (suc zero))) b l is = inl (λ i a at same. new i a at (same ∙ sym (same_Some 7 b is)))
  where
    new : (i a : ℕ) → slice_get (5 ∷ 6 ∷ []) i ≡ Some a → a ≡ 7 → ⊥
    new zero a at same = let n = same_Some 5 a at in omega (arith, n, same)
    new (suc zero) a at same = let n = same_Some 6 a at in omega (arith, n, same)
    new (suc (suc i)) a at same = none-some a at
adds_own_keys (suc (suc (suc (suc j)))) b l is = absurd (none-some b is)

-- 6 is another's key
pub adds_others_key : AddsOwnKeys (λ n. n) (5 ∷ 6 ∷ []) (0 ∷ []) (5 ∷ 6 ∷ 6 ∷ []) → ⊥
adds_others_key adds = ⊎_elim
    (λ fresh. fresh 1 6 refl refl)
    (λ owned. owner owned.0 owned.1 (one_place 0 owned.0 owned.2) owned.3 owned.4)
    (adds 2 6 (omega arith) refl)
  where
    owner : (i a : ℕ) → 0 ≡ i → slice_get (5 ∷ 6 ∷ []) i ≡ Some a → a ≡ 6 → ⊥
    owner i a e at same = let n = same_Some 5 a (subst (λ (k : ℕ). slice_get (5 ∷ 6 ∷ []) k ≡ Some a) (sym e) at) in omega (arith, n, same)
