-- Numbers chained by their keys: the newest below a number, and one more number.
use Rattle.std.proofs.Common.{◌≡◌, ℕ, zero, suc, ◌+◌, ◌<◌, ◌≤◌, Bool, true, false, List, [], ◌∷◌, ◌++◌, length, get_or, nat_eq, ◌⊎◌, inl, inr, ⊎_elim, if◌then◌else◌, refl, ap, sym, ◌∙◌, subst, arith}
use Rattle.std.specs.Prelude.{Some, cond}
use Rattle.std.specs.Option.{unwrap_or}
use Rattle.std.proofs.lemmas.Bool.{eqb-true, cases_lt}
use Rattle.std.proofs.lemmas.List.{get_or_append_left, length-append}
use Rattle.list_lemmas.proofs.Places.{last-item}
use Rattle.indexmap.specs.IndexMap.{get}
use Rattle.clause_register.specs.Chained.{newest_below, IsChained}
use Rattle.clause_register.specs.declared.chains.Chains.{Chains}

-- ---- the last number of a key

pub newest-under : (key : ℕ) (keys : List ℕ) (n : ℕ) → newest_below key keys n ≤ n
newest-under key keys zero = omega arith
newest-under key keys (suc n) = by (nat_eq (get_or keys n 0) key) (newest-under key keys n)
  where
    by : (b : Bool) → newest_below key keys n ≤ n → (if b then suc n else newest_below key keys n) ≤ suc n
    by true less = omega arith
    by false less = omega arith

-- it has the key
pub newest-key : (key : ℕ) (keys : List ℕ) (n i : ℕ) → newest_below key keys n ≡ suc i → get_or keys i 0 ≡ key
newest-key key keys zero i e = absurd (omega arith)
newest-key key keys (suc n) i e = by (nat_eq (get_or keys n 0) key) refl (newest-key key keys n i) e
  where
    by : (b : Bool) → nat_eq (get_or keys n 0) key ≡ b → (newest_below key keys n ≡ suc i → get_or keys i 0 ≡ key)
        → (if b then suc n else newest_below key keys n) ≡ suc i → get_or keys i 0 ≡ key
    by true same rest found =
        let place : n ≡ i = omega arith in
        ap (λ k. get_or keys k 0) (sym place) ∙ eqb-true (get_or keys n 0) key same
    by false other rest found = rest found

-- none after it has
pub newest-last : (key : ℕ) (keys : List ℕ) (n m : ℕ) → newest_below key keys n ≤ m → m < n → nat_eq (get_or keys m 0) key ≡ false
newest-last key keys zero m above below = absurd (omega arith)
newest-last key keys (suc n) m above below = by (nat_eq (get_or keys n 0) key) refl (newest-last key keys n m) above
  where
    by : (b : Bool) → nat_eq (get_or keys n 0) key ≡ b → (newest_below key keys n ≤ m → m < n → nat_eq (get_or keys m 0) key ≡ false)
        → (if b then suc n else newest_below key keys n) ≤ m → nat_eq (get_or keys m 0) key ≡ false
    by true same rest over = absurd (omega (arith, over, below))
    by false other rest over =
        ⊎_elim (λ (less : m < n). rest over less)
        (λ (more : n ≤ m).
        let place : n ≡ m = omega (arith, more, below) in
        ap (λ k. nat_eq (get_or keys k 0) key) (sym place) ∙ other)
        (cases_lt m n)

newest-append : (key : ℕ) (keys more_keys : List ℕ) (n : ℕ) → n ≤ length keys → newest_below key (keys ++ more_keys) n ≡ newest_below key keys n
newest-append key keys more_keys zero below = refl
newest-append key keys more_keys (suc n) below =
    let same : get_or (keys ++ more_keys) n 0 ≡ get_or keys n 0 = get_or_append_left keys more_keys 0 n (omega arith) in
    let rest : newest_below key (keys ++ more_keys) n ≡ newest_below key keys n = newest-append key keys more_keys n (omega arith) in
    λ j. if nat_eq (same j) key then suc n else rest j

-- ---- one more number

pub chain-push :
    (chains after : Chains) (keys : List ℕ) (key : ℕ) → IsChained chains keys
    → after.older.items ≡ chains.older.items ++ unwrap_or (get nat_eq chains.newest key) 0 ∷ []
    → ((h : ℕ) → get nat_eq after.newest h ≡ cond (nat_eq key h) (Some (length chains.older.items + 1)) (get nat_eq chains.newest h))
    → IsChained after (keys ++ key ∷ [])
chain-push chains after keys key chained pushed put = record {
  count =
      let more : length after.older.items ≡ length chains.older.items + 1 = ap length pushed ∙ length-append chains.older.items (unwrap_or (get nat_eq chains.newest key) 0 ∷ []) in
      let was = chained.count in
      omega (arith, more, was, longer);
  links = λ n below. subst (λ os. get_or os n 0 ≡ newest_below (get_or all n 0) all n) (sym pushed) (link n below (cases_lt n (length keys)));
  newest = λ h.
      ap (λ o. unwrap_or o 0) (put h) ∙ by h (nat_eq key h)
      ∙ ap (λ k. if nat_eq k h then suc (length keys) else newest_below h all (length keys)) (sym (last-item keys key 0))
      ∙ ap (newest_below h all) (sym longer);
}
  where
    all : List ℕ
    all = keys ++ key ∷ []

    longer : length all ≡ suc (length keys)
    longer = (let l = length-append keys (key ∷ []) in omega arith)

    by : (h : ℕ) (b : Bool)
        → unwrap_or (cond b (Some (length chains.older.items + 1)) (get nat_eq chains.newest h)) 0 ≡ (if b then suc (length keys) else newest_below h all (length keys))
    by h true = (let was = chained.count in omega (arith, was))
    by h false = chained.newest h ∙ sym (newest-append h keys (key ∷ []) (length keys) (omega arith))

    link : (n : ℕ) → n < length all → (n < length keys) ⊎ (length keys ≤ n)
        → get_or (chains.older.items ++ unwrap_or (get nat_eq chains.newest key) 0 ∷ []) n 0 ≡ newest_below (get_or all n 0) all n
    link n below (inl less) =
        let same : get_or all n 0 ≡ get_or keys n 0 = get_or_append_left keys (key ∷ []) 0 n less in
        let was = chained.count in
        get_or_append_left chains.older.items (unwrap_or (get nat_eq chains.newest key) 0 ∷ []) 0 n (omega (arith, was, less)) ∙ chained.links n less
        ∙ sym (newest-append (get_or keys n 0) keys (key ∷ []) n (omega (arith, less))) ∙ ap (λ k. newest_below k all n) (sym same)
    link n below (inr more) =
        let place : n ≡ length keys = omega (arith, longer, below, more) in
        subst (λ k. get_or (chains.older.items ++ unwrap_or (get nat_eq chains.newest key) 0 ∷ []) k 0 ≡ newest_below (get_or all k 0) all k) (sym place)
        (ap (λ k. get_or (chains.older.items ++ unwrap_or (get nat_eq chains.newest key) 0 ∷ []) k 0) (sym chained.count)
        ∙ last-item chains.older.items (unwrap_or (get nat_eq chains.newest key) 0) 0
        ∙ chained.newest key ∙ sym (newest-append key keys (key ∷ []) (length keys) (omega arith))
        ∙ ap (λ k. newest_below k all (length keys)) (sym (last-item keys key 0)))
