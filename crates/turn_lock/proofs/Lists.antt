-- Lemmas on lists: beginnings, entries at places, lists of places, shares.
use Rattle.std.proofs.Common.{◌≡◌, ◌≢◌, ℕ, zero, suc, ◌+◌, ◌-◌, ◌<◌, ◌≤◌, cond, leb, Bool, true, false, List, [], ◌∷◌, ◌++◌, length, get_or, drop, set, slice_get, Option, Some, None, IsSome, unwrap_or, sym, refl, ap, ◌∙◌, subst, ⊎_elim, arith, append_assoc, length-append, le-leb, true≢false}
use Rattle.std.specs.List.{Contains, range_with_len}
use Rattle.std.proofs.lemmas.List.{append-nil, get_or_append_left, get_or-append-add}
use Rattle.std.proofs.lemmas.List.Elements.{All-append, Contains-append_left, Contains-append_right, Contains-append_cases, Contains-get_or}
use Rattle.std.proofs.lemmas.List.FromFn.{length-range_with_len, get_or-range_with_len}
use Rattle.std.proofs.lemmas.List.Kept.{AllPairs-cons}
use Rattle.std.proofs.lemmas.Option.{slice_get_within, none-some}
use Rattle.std.proofs.lemmas.Bool.{cases_lt, lt-leb}
use mathlib.Core.Option.{some, some-injective, some-ne-none}
use mathlib.Core.List.{IsPrefix}
use lib.ListN.{get_elem?}
use Rattle.turn_lock.specs.declared.view.View.{View}
use Rattle.turn_lock.specs.History.{OwnsKeys, AddsOwnKeys, AreKeysApart, IsDistinct, added_places, longer, shorter}
use Rattle.turn_lock.specs.Rule.{all_shares}

module _ {A : Type 0} where
  pub prefix_itself : (l : List A) → IsPrefix l l
  prefix_itself l = ([], append-nil l)

  pub prefix_trans : (a b c : List A) → IsPrefix a b → IsPrefix b c → IsPrefix a c
  prefix_trans a b c p q = (p.0 ++ q.0, sym (append_assoc a p.0 q.0) ∙ ap (λ m. m ++ q.0) p.1 ∙ q.1)

  pub prefix_length : (a b : List A) → IsPrefix a b → length a ≤ length b
  prefix_length a b p = let n = length-append a p.0 in let e : length (a ++ p.0) ≡ length b = ap length p.1 in omega (arith, n, e)

  cut : (x y : A) (xs ys : List A) → x ∷ xs ≡ y ∷ ys → (x ≡ y) × (xs ≡ ys)
  cut x y xs ys e = (ap (λ (l : List A). get_or l 0 x) e, ap (λ (l : List A). drop 1 l) e)

  -- of two beginnings of one list, the shorter begins the longer
  pub prefixes : (a b c : List A) → IsPrefix a c → IsPrefix b c → length a ≤ length b → IsPrefix a b
  prefixes [] b c p q le = (b, refl)
  prefixes (x ∷ xs) [] c p q le = absurd (omega arith)
  prefixes (x ∷ xs) (y ∷ ys) [] p q le = absurd (let n : suc (length (xs ++ p.0)) ≡ 0 = ap length p.1 in omega arith)
  prefixes (x ∷ xs) (y ∷ ys) (z ∷ zs) p q le =
      let p' = cut x z (xs ++ p.0) zs p.1 in let q' = cut y z (ys ++ q.0) zs q.1 in
      let r = prefixes xs ys zs (p.0, p'.1) (q.0, q'.1) (omega arith) in
      (r.0, λ i. (p'.0 ∙ sym q'.0) i ∷ r.1 i)

  pub get_longer : (xs t : List A) (i : ℕ) (a : A) → slice_get xs i ≡ Some a → slice_get (xs ++ t) i ≡ Some a
  get_longer [] t i a e = absurd (none-some a e)
  get_longer (x ∷ xs) t zero a e = e
  get_longer (x ∷ xs) t (suc i) a e = get_longer xs t i a e

  pub get_shorter : (xs t : List A) (i : ℕ) (a : A) → i < length xs → slice_get (xs ++ t) i ≡ Some a → slice_get xs i ≡ Some a
  get_shorter [] t i a l e = absurd (omega arith)
  get_shorter (x ∷ xs) t zero a l e = e
  get_shorter (x ∷ xs) t (suc i) a l e = get_shorter xs t i a (omega arith) e

  pub get_prefix : (a b : List A) (i : ℕ) (x : A) → IsPrefix a b → i < length a → slice_get b i ≡ Some x → slice_get a i ≡ Some x
  get_prefix a b i x p l e = get_shorter a p.0 i x l (subst (λ (m : List A). slice_get m i ≡ Some x) (sym p.1) e)

  pub set_there : (l : List A) (i : ℕ) (a b : A) → get_elem? l i ≡ some a → get_elem? (set l i b) i ≡ some b
  set_there [] i a b e = absurd (some-ne-none a (sym e))
  set_there (x ∷ xs) zero a b e = refl
  set_there (x ∷ xs) (suc i) a b e = set_there xs i a b e

  pub same_at : (l : List A) (i : ℕ) (a b : A) → get_elem? l i ≡ some a → get_elem? l i ≡ some b → a ≡ b
  same_at l i a b e f = some-injective a b (sym e ∙ f)

  pub single : (l : List A) (a : A) → length l ≡ 1 → set l 0 a ≡ a ∷ []
  single [] a e = absurd (omega arith)
  single (x ∷ []) a e = refl
  single (x ∷ y ∷ l) a e = absurd (omega arith)

pub contains_none : (k : ℕ) → Contains [] k → ⊥
contains_none k c = omega (arith, c.1)

pub one_place : (a k : ℕ) → Contains (a ∷ []) k → a ≡ k
one_place a k c = let first : c.0 ≡ 0 = omega (arith, c.1) in ap (λ (n : ℕ). get_or (a ∷ []) n k) (sym first) ∙ c.2

pub range_bounds : (a n k : ℕ) → Contains (range_with_len a n) k → (a ≤ k) × (k < a + n)
range_bounds a n k c =
    let long = length-range_with_len a n in
    let at = get_or-range_with_len a n c.0 k (omega (arith, c.1, long)) in
    (omega (arith, at, c.2), omega (arith, at, c.1, c.2, long))

pub range_has : (a n k : ℕ) → a ≤ k → k < a + n → Contains (range_with_len a n) k
range_has a n k le lt =
    let long = length-range_with_len a n in
    (k - a, omega (arith, long), get_or-range_with_len a n (k - a) k (omega arith) ∙ omega arith)

pub range_distinct : (a n : ℕ) → IsDistinct (range_with_len a n)
range_distinct a n i j d less within same =
    let long = length-range_with_len a n in
    let first = get_or-range_with_len a n i d (omega (arith, long)) in
    let second = get_or-range_with_len a n j d (omega (arith, long)) in
    omega (arith, first, second, same)

pub distinct_none : IsDistinct []
distinct_none i j d less within = absurd (omega arith)

pub distinct_append : (xs ys : List ℕ) → IsDistinct xs → IsDistinct ys → ((k : ℕ) → Contains xs k → Contains ys k → ⊥) → IsDistinct (xs ++ ys)
distinct_append [] ys p q apart = q
distinct_append (x ∷ xs) ys p q apart = AllPairs-cons (λ i j. i ≢ j) x (xs ++ ys)
    (All-append (λ k. x ≢ k) xs ys (λ k d lt. p 0 (suc k) d (omega arith) (omega arith))
    (λ k d lt same. apart x (0, omega arith, refl) (subst (Contains ys) (sym same) (Contains-get_or ys k d lt))))
    (distinct_append xs ys (λ i j d less within. p (suc i) (suc j) d (omega arith) (omega arith)) q (λ k c. apart k (Contains-append_right (x ∷ []) xs k c)))

-- a list with each place once has two parts that are apart
pub distinct_parts : (xs ys : List ℕ) → IsDistinct (xs ++ ys) → (k : ℕ) → Contains xs k → Contains ys k → ⊥
distinct_parts xs ys once k c e = once c.0 (length xs + e.0) k (omega (arith, c.1)) (omega (arith, e.1, length-append xs ys))
    (get_or_append_left xs ys k c.0 c.1 ∙ c.2 ∙ sym (get_or-append-add xs ys e.0 k ∙ e.2))

module _ {E : Type 0} where
  pub longer_prefix : (a b c : List E) → IsPrefix a c → IsPrefix b c → IsPrefix (longer a b) c
  longer_prefix a b c p q = elim (leb (length b) (length a)) as (λ t. IsPrefix (cond t a b) c) [ true ↦ p | false ↦ q ]

  pub prefix_longer : (a b c : List E) → IsPrefix a b → IsPrefix a c → IsPrefix a (longer b c)
  prefix_longer a b c p q = elim (leb (length c) (length b)) as (λ t. IsPrefix a (cond t b c)) [ true ↦ p | false ↦ q ]

  -- of two beginnings of one list, the shorter begins the longer, which is at least as long as each
  pub both_lists : (a b c : List E) → IsPrefix a c → IsPrefix b c → IsPrefix (shorter a b) (longer a b) × (length a ≤ length (longer a b)) × (length b ≤ length (longer a b))
  both_lists a b c p q = ⊎_elim
      (λ (l : length a < length b). subst
      (λ (t : Bool). IsPrefix (cond t b a) (cond t a b) × (length a ≤ length (cond t a b)) × (length b ≤ length (cond t a b)))
      (sym (lt-leb (length b) (length a) l)) (prefixes a b c p q (omega (arith, l)), omega (arith, l), omega arith))
      (λ (l : length b ≤ length a). subst
      (λ (t : Bool). IsPrefix (cond t b a) (cond t a b) × (length a ≤ length (cond t a b)) × (length b ≤ length (cond t a b)))
      (sym (le-leb (length b) (length a) l)) (prefixes b a c q p l, omega arith, omega (arith, l)))
      (cases_lt (length a) (length b))

  pub added_bounds : (old new : List E) (k : ℕ) → length old ≤ length new → Contains (added_places old new) k → (length old ≤ k) × (k < length new)
  added_bounds old new k le c = let r = range_bounds (length old) (length new - length old) k c in (r.0, omega (arith, r.1))

  module _ (key : E → ℕ) where
    -- what a pass owns stays so where another pass adds
    pub others_keys : (log new : List E) (own other : List ℕ) → IsPrefix log new → AddsOwnKeys key log own new → OwnsKeys key log own
        → OwnsKeys key log other → ((k : ℕ) → Contains other k → k < length log) → ((k : ℕ) → Contains own k → Contains other k → ⊥) → OwnsKeys key new other
    others_keys log new own other pre adds mine theirs below apart i j a b has at_i at_j same =
        let at_i' = get_prefix log new i a pre (below i has) at_i in ⊎_elim
        (λ (l : j < length log). theirs i j a b has at_i' (get_prefix log new j b pre l at_j) same)
        (λ (l : length log ≤ j). ⊎_elim
        (λ fresh. absurd (fresh i a at_i' (sym same)))
        (λ owned. absurd (apart i (mine owned.0 i owned.1 a owned.2 owned.3 at_i' (sym same ∙ sym owned.4)) has))
        (adds j b l at_j))
        (cases_lt j (length log))

    pub own_keys : (log new : List E) (own : List ℕ) → IsPrefix log new → AddsOwnKeys key log own new → OwnsKeys key log own → ((k : ℕ) → Contains own k → k < length log) → OwnsKeys key new (own ++ added_places log new)
    own_keys log new own pre adds mine below i j a b has at_i at_j same = let added = added_places log new in ⊎_elim
        (λ (l : j < length log). let at_j' = get_prefix log new j b pre l at_j in Contains-append_left own added j (⊎_elim
        (λ (h : Contains own i). mine i j a b h (get_prefix log new i a pre (below i h) at_i) at_j' same)
        (λ (h : Contains added i). ⊎_elim
        (λ fresh. absurd (fresh j b at_j' same))
        (λ owned. mine owned.0 j owned.1 b owned.2 owned.3 at_j' (same ∙ sym owned.4))
        (adds i a (added_bounds log new i (prefix_length log new pre) h).0 at_i))
        (Contains-append_cases own added i has)))
        (λ (l : length log ≤ j). let inside = slice_get_within new j b at_j in
        Contains-append_right own added j (range_has (length log) (length new - length log) j l (omega arith)))
        (cases_lt j (length log))

    -- the keys in a beginning of the history
    pub keys_seen : (seen log : List E) (own : List ℕ) → IsPrefix seen log → OwnsKeys key log own → ((k : ℕ) → Contains own k → k < length seen) → OwnsKeys key seen own
    keys_seen seen log own pre owns below i j a b has at_i at_j same = owns i j a b has
        (subst (λ (m : List E). slice_get m i ≡ Some a) pre.1 (get_longer seen pre.0 i a at_i))
        (subst (λ (m : List E). slice_get m j ≡ Some b) pre.1 (get_longer seen pre.0 j b at_j)) same

    -- two that own their keys, and no place both, have no key in common
    pub keys_apart : (a b : List E) (own other : List ℕ) → OwnsKeys key a own → OwnsKeys key b other → ((k : ℕ) → Contains own k → Contains other k → ⊥) → AreKeysApart key (longer a b) own other
    keys_apart a b own other mine theirs apart i j x y has also = elim (leb (length b) (length a)) as (λ t. slice_get (cond t a b) i ≡ Some x → slice_get (cond t a b) j ≡ Some y → key x ≢ key y) [
      | true ↦ λ at_i at_j same. apart j (mine i j x y has at_i at_j (sym same)) also
      | false ↦ λ at_i at_j same. apart i has (theirs j i y x also at_j at_i same)
    ]

  pub own_keys_none : (key : E → ℕ) (log : List E) → OwnsKeys key log []
  own_keys_none key log i j a b has at_i at_j same = absurd (contains_none i has)

  pub both_keys : (key : E → ℕ) (log : List E) (own other : List ℕ) → OwnsKeys key log own → OwnsKeys key log other → OwnsKeys key log (own ++ other)
  both_keys key log own other p q i j a b has at_i at_j same = ⊎_elim
      (λ h. Contains-append_left own other j (p i j a b h at_i at_j same))
      (λ h. Contains-append_right own other j (q i j a b h at_i at_j same))
      (Contains-append_cases own other i has)

module _ {E O : Type 0} where
  pub shares_set : (vs : List (View E O)) (i : ℕ) (v w : View E O) → get_elem? vs i ≡ some v → all_shares (set vs i w) + v.shares ≡ all_shares vs + w.shares
  shares_set [] i v w e = absurd (some-ne-none v (sym e))
  shares_set (x ∷ xs) zero v w e = let same : x.shares ≡ v.shares = ap (λ (z : View E O). z.shares) (some-injective x v e) in omega arith
  shares_set (x ∷ xs) (suc i) v w e = let r = shares_set xs i v w e in omega (arith, r)

  pub shares_snoc : (vs : List (View E O)) (w : View E O) → all_shares (vs ++ w ∷ []) ≡ all_shares vs + w.shares
  shares_snoc [] w = omega arith
  shares_snoc (x ∷ xs) w = let r = shares_snoc xs w in omega (arith, r)

  pub shares_at : (vs : List (View E O)) (i : ℕ) (v : View E O) → get_elem? vs i ≡ some v → v.shares ≤ all_shares vs
  shares_at [] i v e = absurd (some-ne-none v (sym e))
  shares_at (x ∷ xs) zero v e = let same : x.shares ≡ v.shares = ap (λ (z : View E O). z.shares) (some-injective x v e) in omega arith
  shares_at (x ∷ xs) (suc i) v e = let r = shares_at xs i v e in omega (arith, r)

  pub shares_two : (vs : List (View E O)) (i j : ℕ) (v w : View E O) → i ≢ j → get_elem? vs i ≡ some v → get_elem? vs j ≡ some w → v.shares + w.shares ≤ all_shares vs
  shares_two [] i j v w ne e f = absurd (some-ne-none v (sym e))
  shares_two (x ∷ xs) zero zero v w ne e f = absurd (ne refl)
  shares_two (x ∷ xs) zero (suc j) v w ne e f =
      let same : x.shares ≡ v.shares = ap (λ (z : View E O). z.shares) (some-injective x v e) in let r = shares_at xs j w f in omega (arith, r)
  shares_two (x ∷ xs) (suc i) zero v w ne e f =
      let same : x.shares ≡ w.shares = ap (λ (z : View E O). z.shares) (some-injective x w f) in let r = shares_at xs i v e in omega (arith, r)
  shares_two (x ∷ xs) (suc i) (suc j) v w ne e f = let r = shares_two xs i j v w (λ h. ne (ap suc h)) e f in omega (arith, r)

pub some_held : {A : Type 0} (o : Option (List A)) → IsSome o → o ≡ Some (unwrap_or o [])
some_held None h = absurd (true≢false (sym h))
some_held (Some x) h = refl
