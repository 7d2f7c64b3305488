-- The counts of bound variables, and how they are kept.
use Rattle.std.proofs.Common.{◌≡◌, ℕ, ◌+◌, ◌-◌, ◌≤◌, Bool, true, false, ◌||◌, cond, List, [], ◌∷◌, ◌++◌, length, take, drop, None, Some, refl, ap, sym, ◌∙◌, arith}
use Rattle.std.specs.Prelude.{count_by, nat_lt, bytes_eq}
use Rattle.std.specs.List.{list_any}
use Rattle.std.specs.Map.{count_at}
use Rattle.std.specs.HashMap.{HashMap, get, Updates}
use Rattle.std.specs.declared.hash.DefaultHasher.{DefaultHasher}
use Rattle.std.specs.declared.hash.BuildHasherDefault.{BuildHasherDefault}
use Rattle.std.proofs.lemmas.List.{take-append-drop, drop_all, drop-append-le}
use Rattle.std.proofs.lemmas.List.Sums.{sum_by-cons, sum_by_push}
use Rattle.std.proofs.lemmas.Map.{count_at-update}
use Rattle.std.proofs.lemmas.Bool.{lt-ltb}
use Rattle.std.specs.Option.{unwrap_or}
use Rattle.std.proofs.lemmas.List.Folds.{list_any-append}
use Rattle.std.proofs.lemmas.Slice.Eq.{bytes_eq-Decides}
use Rattle.tptp_reader.specs.declared.source.Name.{Name}
use Rattle.tptp_reader.specs.declared.bound.TheConstants.{SCANNED}
use Rattle.tptp_reader.specs.Bound.{bytes_of, same_name, IsCounted}

abbrev Counts : Type 0
Counts = HashMap Name ℕ (BuildHasherDefault DefaultHasher)

-- ---- whether and how often

any-counted : {X : Type 0} (p : X → Bool) (xs : List X) → list_any p xs ≡ nat_lt 0 (count_by p xs)
any-counted p [] = refl
any-counted p (x ∷ xs) = by (p x) (any-counted p xs) ∙ sym (ap (nat_lt 0) (sum_by-cons (λ y. cond (p y) 1 0) x xs))
  where
    by : (t : Bool) → list_any p xs ≡ nat_lt 0 (count_by p xs) → (t || list_any p xs) ≡ nat_lt 0 (cond t 1 0 + count_by p xs)
    by true h = sym (lt-ltb 0 (1 + count_by p xs) (omega arith))
    by false h = h ∙ ap (nat_lt 0) none
      where
        none : count_by p xs ≡ 0 + count_by p xs
        none = omega arith

pub any-split : {X : Type 0} (p : X → Bool) (k : ℕ) (xs : List X) → (list_any p (take k xs) || list_any p (drop k xs)) ≡ list_any p xs
any-split p k xs = sym (list_any-append p (take k xs) (drop k xs)) ∙ ap (list_any p) (take-append-drop k xs)

-- ---- one name more or less

same-sym : (m n : Name) → same_name m n ≡ same_name n m
same-sym m n = by (same_name m n) (same_name n m) refl refl
  where
    by : (s t : Bool) → same_name m n ≡ s → same_name n m ≡ t → s ≡ t
    by true true h g = refl
    by false false h g = refl
    by true false h g = absurd (let e : false ≡ true = sym g ∙ (bytes_eq-Decides (bytes_of n) (bytes_of m)).1 (sym ((bytes_eq-Decides (bytes_of m) (bytes_of n)).0 h)) in cc)
    by false true h g = absurd (let e : false ≡ true = sym h ∙ (bytes_eq-Decides (bytes_of m) (bytes_of n)).1 (sym ((bytes_eq-Decides (bytes_of n) (bytes_of m)).0 g)) in cc)

-- the counts of the same name are the same
same-count : (m n : Name) (xs : List Name) → same_name m n ≡ true → count_by (same_name m) xs ≡ count_by (same_name n) xs
same-count m n xs h = ap (λ (x : List ℕ). count_by (λ (y : Name). bytes_eq x (bytes_of y)) xs) ((bytes_eq-Decides (bytes_of m) (bytes_of n)).0 h)

same-refl : (n : Name) → same_name n n ≡ true
same-refl n = (bytes_eq-Decides (bytes_of n) (bytes_of n)).1 refl

-- what is behind, with one name more
behind-push :
    (names : List Name) (n x : Name) → SCANNED ≤ length names
    → count_by (same_name x) (drop SCANNED (names ++ n ∷ [])) ≡ count_by (same_name x) (drop SCANNED names) + cond (same_name x n) 1 0
behind-push names n x h =
    ap (count_by (same_name x)) (drop-append-le SCANNED names (n ∷ []) h) ∙ sum_by_push (λ y. cond (same_name x y) 1 0) (drop SCANNED names) n

-- a count after it was changed
count-after :
    (old new : Counts) (n x : Name) (w : ℕ) → Updates same_name old new n (Some w)
    → count_at (get same_name new) x ≡ cond (same_name n x) w (count_at (get same_name old) x)
count-after old new n x w u = ap (λ o. unwrap_or o 0) (u.0 x) ∙ count_at-update same_name (get same_name old) n w x

pub counted-push :
    (names : List Name) (n : Name) (old new : Counts) (w : ℕ) → SCANNED ≤ length names
    → IsCounted names old → w ≡ count_at (get same_name old) n + 1 → Updates same_name old new n (Some w) → IsCounted (names ++ n ∷ []) new
counted-push names n old new w l c e u x = count-after old new n x w u ∙ by (same_name n x) refl ∙ sym (behind-push names n x l)
  where
    by :
        (t : Bool) → same_name n x ≡ t
        → cond t w (count_at (get same_name old) x) ≡ count_by (same_name x) (drop SCANNED names) + cond (same_name x n) 1 0
    by true h =
        let one : cond {A = ℕ} (same_name x n) 1 0 ≡ 1 = ap (λ b. cond {A = ℕ} b 1 0) (same-sym x n ∙ h) in
        omega (arith, e, c n, same-count n x (drop SCANNED names) h, one)
    by false h =
        let none : cond {A = ℕ} (same_name x n) 1 0 ≡ 0 = ap (λ b. cond {A = ℕ} b 1 0) (same-sym x n ∙ h) in
        omega (arith, c x, none)

pub counted-pop :
    (names rest : List Name) (n : Name) (old new : Counts) (w : ℕ) → SCANNED ≤ length rest → names ≡ rest ++ n ∷ []
    → IsCounted names old → w ≡ count_at (get same_name old) n - 1 → Updates same_name old new n (Some w) → IsCounted rest new
counted-pop names rest n old new w l a c e u x = count-after old new n x w u ∙ by (same_name n x) refl
  where
    was : (y : Name) → count_at (get same_name old) y ≡ count_by (same_name y) (drop SCANNED rest) + cond (same_name y n) 1 0
    was y = c y ∙ ap (λ ns. count_by (same_name y) (drop SCANNED ns)) a ∙ behind-push rest n y l

    by : (t : Bool) → same_name n x ≡ t → cond t w (count_at (get same_name old) x) ≡ count_by (same_name x) (drop SCANNED rest)
    by true h =
        let one : cond {A = ℕ} (same_name n n) 1 0 ≡ 1 = ap (λ b. cond {A = ℕ} b 1 0) (same-refl n) in
        omega (arith, e, was n, one, same-count n x (drop SCANNED rest) h)
    by false h =
        let none : cond {A = ℕ} (same_name x n) 1 0 ≡ 0 = ap (λ b. cond {A = ℕ} b 1 0) (same-sym x n ∙ h) in
        omega (arith, was x, none)

-- the innermost name is counted
pub counted-last :
    (names rest : List Name) (n : Name) (old : Counts) → SCANNED ≤ length rest → names ≡ rest ++ n ∷ []
    → IsCounted names old → 1 ≤ count_at (get same_name old) n
counted-last names rest n old l a c =
    let one : cond {A = ℕ} (same_name n n) 1 0 ≡ 1 = ap (λ b. cond {A = ℕ} b 1 0) (same-refl n) in
    omega (arith, c n ∙ ap (λ ns. count_by (same_name n) (drop SCANNED ns)) a ∙ behind-push rest n n l, one)

pub absent-not :
    (names rest : List Name) (n : Name) (old : Counts) → SCANNED ≤ length rest → names ≡ rest ++ n ∷ []
    → IsCounted names old → get same_name old n ≡ None → ⊥
absent-not names rest n old l a c h =
    let none : count_at (get same_name old) n ≡ 0 = ap (λ o. unwrap_or o 0) h in absurd (omega (arith, counted-last names rest n old l a c, none))

-- as long as none stand behind, nothing is counted
pub counted-short :
    (names others : List Name) (counts : Counts) → length names ≤ SCANNED → length others ≤ SCANNED
    → IsCounted names counts → IsCounted others counts
counted-short names others counts h g c x =
    c x ∙ ap (count_by (same_name x)) (drop_all SCANNED names h ∙ sym (drop_all SCANNED others g))

-- ---- what the table tells

pub none-behind : (names : List Name) (n : Name) → length names ≤ SCANNED → false ≡ list_any (same_name n) (drop SCANNED names)
none-behind names n h = sym (ap (list_any (same_name n)) (drop_all SCANNED names h))

pub some-behind :
    (names : List Name) (counts : Counts) (n : Name) (count : ℕ)
    → IsCounted names counts → count ≡ count_at (get same_name counts) n → nat_lt 0 count ≡ list_any (same_name n) (drop SCANNED names)
some-behind names counts n count c e = ap (nat_lt 0) (e ∙ c n) ∙ sym (any-counted (same_name n) (drop SCANNED names))
