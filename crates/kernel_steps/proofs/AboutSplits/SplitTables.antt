-- Numbers that were met, in sets and tables by their hashes.
use Rattle.std.proofs.Common.{◌≡◌, ℕ, suc, ◌+◌, ◌<◌, Bool, true, false, not, ◌&&◌, ◌||◌, ◌==◌, cond, nat_eq, List, [], ◌∷◌, ◌++◌, length, map, take, drop, get_or, Option, Some, None, refl, ap, ap₂, sym, ◌∙◌, ⊎_elim}
use Rattle.std.proofs.Math.Path.{fun_ext}
use Rattle.std.specs.Prelude.{option_map, unwrap_or}
use Rattle.std.specs.Option.{is_some}
use Rattle.std.specs.List.{list_any, list_all}
use Rattle.std.specs.HashMap.{HashMap, get, hash_map_len, Updates}
use Rattle.std.specs.declared.hash.FoldHasher.{FoldHasher}
use Rattle.std.specs.declared.hash.BuildHasherDefault.{BuildHasherDefault}
use Rattle.std.proofs.lemmas.Bool.{cond-true, cond-false, cases_Bool, cases_eq, eq-eqb, ne_eqb, eqb-true, or_left, or_right}
use Rattle.std.proofs.lemmas.List.{drop_more, take_more, length_push}
use Rattle.std.proofs.lemmas.List.Folds.{list_any-append}
use Rattle.fol_base.specs.Tree.{variable}
use Rattle.fol_base.specs.Canonical.{distinct, place_of, renaming}
use Rattle.fol_base.proofs.AboutCanonical.NumberingLemmas.{place_of-push}
use Rattle.kernel_steps.specs.Split.{has_number, share_number, share_no_numbers, renamed}
use Rattle.kernel_steps.proofs.AboutSplits.SplitLemmas.{distinct-new, distinct-old, has_number-distinct}

pub eqb-comm : (a b : ℕ) → (a == b) ≡ (b == a)
eqb-comm a b =
    ⊎_elim
    (λ e. eq-eqb a b e ∙ sym (eq-eqb b a (sym e)))
    (λ ne. ne_eqb a b ne ∙ sym (ne_eqb b a (λ e. ne (sym e))))
    (cases_eq a b)

-- ---- tests of lists

list_any-ext : (p q : ℕ → Bool) → ((n : ℕ) → p n ≡ q n) → (ns : List ℕ) → list_any p ns ≡ list_any q ns
list_any-ext p q same [] = refl
list_any-ext p q same (n ∷ ns) = ap₂ ◌||◌ (same n) (list_any-ext p q same ns)

pub list_any-none : (p : ℕ → Bool) → ((n : ℕ) → p n ≡ false) → (ns : List ℕ) → list_any p ns ≡ false
list_any-none p none [] = refl
list_any-none p none (n ∷ ns) = ap (λ b. b || list_any p ns) (none n) ∙ list_any-none p none ns

list_any-or : (p q : ℕ → Bool) (ns : List ℕ) → list_any (λ n. p n || q n) ns ≡ (list_any p ns || list_any q ns)
list_any-or p q [] = refl
list_any-or p q (n ∷ ns) = ap (λ b. (p n || q n) || b) (list_any-or p q ns) ∙ regroup (p n) (q n) (list_any p ns) (list_any q ns)
  where
    regroup : (a b c d : Bool) → ((a || b) || (c || d)) ≡ ((a || c) || (b || d))
    regroup true b c d = refl
    regroup false true true d = refl
    regroup false true false d = refl
    regroup false false c d = refl

-- a number of one list is in another where a number of that is in the first
shared-comm : (ns ms : List ℕ) → list_any (λ m. has_number m ns) ms ≡ share_number ns ms
shared-comm [] ms = list_any-none (λ m. false) (λ m. refl) ms
shared-comm (n ∷ ns) ms =
    list_any-or (λ m. m == n) (λ m. has_number m ns) ms
    ∙ ap₂ ◌||◌ (list_any-ext (λ m. m == n) (λ m. n == m) (λ m. eqb-comm m n) ms) (shared-comm ns ms)

-- one number more was met
pub met-more :
    (ks : List ℕ) (i : ℕ)
    → i < length ks → (start old new : ℕ → Bool)
    → ((n : ℕ) → old n ≡ (has_number n (take i ks) || start n)) → ((n : ℕ) → new n ≡ cond (nat_eq (get_or ks i 0) n) true (old n))
    → (n : ℕ) → new n ≡ (has_number n (take (i + 1) ks) || start n)
met-more ks i within start old new so_far adds n =
    let k : ℕ = get_or ks i 0 in
    adds n
    ∙ ap₂ (λ a b. cond a true b) (eqb-comm k n) (so_far n)
    ∙ regroup (n == k) (has_number n (take i ks)) (start n)
    ∙ ap (λ b. b || start n)
    (sym (ap (has_number n) (take_more ks i 0 within) ∙ list_any-append (λ j. n == j) (take i ks) (k ∷ [])))
  where
    regroup : (a b c : Bool) → cond a true (b || c) ≡ ((b || (a || false)) || c)
    regroup true true c = refl
    regroup true false c = refl
    regroup false true c = refl
    regroup false false c = refl

-- ---- lists that share no numbers, from the front

-- none of the numbers passes a test
abbrev pub none_passes : (ℕ → Bool) → List (List ℕ) → Bool
none_passes met nss = list_all (λ ns. not (list_any met ns)) nss

pub none_passes-no : (met : ℕ → Bool) → ((n : ℕ) → met n ≡ false) → (nss : List (List ℕ)) → none_passes met nss ≡ true
none_passes-no met none [] = refl
none_passes-no met none (ns ∷ nss) =
    ap (λ b. not b && none_passes met nss) (list_any-none met none ns) ∙ none_passes-no met none nss

-- the numbers of a list, met before or now
none_passes-more :
    (met more : ℕ → Bool) (ns : List ℕ)
    → ((n : ℕ) → more n ≡ (has_number n ns || met n)) → (nss : List (List ℕ))
    → none_passes more nss ≡ (list_all (λ ms. not (share_number ns ms)) nss && none_passes met nss)
none_passes-more met more ns adds [] = refl
none_passes-more met more ns adds (ms ∷ nss) =
    ap₂ (λ a b. not a && b)
    (list_any-ext more (λ n. has_number n ns || met n) adds ms
    ∙ list_any-or (λ n. has_number n ns) met ms
    ∙ ap (λ b. b || list_any met ms) (shared-comm ns ms))
    (none_passes-more met more ns adds nss)
    ∙ regroup (share_number ns ms) (list_any met ms) (list_all (λ ks. not (share_number ns ks)) nss) (none_passes met nss)
  where
    regroup : (a b c d : Bool) → (not (a || b) && (c && d)) ≡ ((not a && c) && (not b && d))
    regroup true b c d = refl
    regroup false true true d = refl
    regroup false true false d = refl
    regroup false false c d = refl

module _
    {X : Type 0} (f : X → List ℕ) (xs : List X) (i : ℕ) (x : X) (met : ℕ → Bool) (within : i < length xs) (read : x ≡ get_or xs i x) where
  rest-read : map f (drop i xs) ≡ f x ∷ map f (drop (i + 1) xs)
  rest-read = ap (map f) (drop_more xs i x within ∙ ap (λ y. y ∷ drop (i + 1) xs) (sym read))

  -- a list with a number that was met
  pub apart-met :
      list_any met (f x) ≡ true → (none_passes met (map f (drop i xs)) && share_no_numbers (map f (drop i xs))) ≡ false
  apart-met h =
      ap (λ nss. none_passes met nss && share_no_numbers nss) rest-read
      ∙ ap (λ b. (not b && none_passes met (map f (drop (i + 1) xs))) && share_no_numbers (f x ∷ map f (drop (i + 1) xs))) h

  -- one without, whose numbers are then met too
  pub apart-next :
      (more : ℕ → Bool)
      → list_any met (f x) ≡ false → ((n : ℕ) → more n ≡ (has_number n (f x) || met n))
      → (none_passes met (map f (drop i xs)) && share_no_numbers (map f (drop i xs)))
      ≡ (none_passes more (map f (drop (i + 1) xs)) && share_no_numbers (map f (drop (i + 1) xs)))
  apart-next more h adds =
      let rest = map f (drop (i + 1) xs) in
      ap (λ nss. none_passes met nss && share_no_numbers nss) rest-read
      ∙ ap (λ b. (not b && none_passes met rest) && share_no_numbers (f x ∷ rest)) h
      ∙ regroup (none_passes met rest) (list_all (λ ms. not (share_number (f x) ms)) rest) (share_no_numbers rest)
      ∙ ap (λ b. b && share_no_numbers rest) (sym (none_passes-more met more (f x) adds rest))
    where
      regroup : (a b c : Bool) → (a && (b && c)) ≡ ((b && a) && c)
      regroup true true c = refl
      regroup true false c = refl
      regroup false true c = refl
      regroup false false c = refl

-- ---- numbers of joined lists

pub has-left : (n : ℕ) (xs ys : List ℕ) → has_number n xs ≡ true → has_number n (xs ++ ys) ≡ true
has-left n xs ys there = list_any-append (λ k. n == k) xs ys ∙ or_left (has_number n xs) (has_number n ys) there

pub has-right : (n : ℕ) (xs ys : List ℕ) → has_number n ys ≡ true → has_number n (xs ++ ys) ≡ true
has-right n xs ys there = list_any-append (λ k. n == k) xs ys ∙ or_right (has_number n xs) (has_number n ys) there

-- ---- places of the different numbers

pub placed-listed : (n : ℕ) (ks : List ℕ) → is_some (place_of n ks) ≡ has_number n ks
placed-listed n [] = refl
placed-listed n (k ∷ ks) = by (n == k) (place_of n ks) (placed-listed n ks)
  where
    by : (b : Bool) (o : Option ℕ) → is_some o ≡ has_number n ks → is_some (cond b (Some 0) (option_map suc o)) ≡ (b || has_number n ks)
    by true o rest = refl
    by false None rest = rest
    by false (Some k) rest = rest

place_of-other : (n k : ℕ) (ks : List ℕ) → (n == k) ≡ false → place_of n (ks ++ k ∷ []) ≡ place_of n ks
place_of-other n k [] h = cond-false (n == k) (Some 0) None h
place_of-other n k (j ∷ js) h = ap (λ o. cond (n == j) (Some 0) (option_map suc o)) (place_of-other n k js h)

abbrev Table : Type 0
Table = HashMap ℕ ℕ (BuildHasherDefault FoldHasher)

-- a table has the places of the different numbers of a list
pub record HasPlaces (numbers : List ℕ) (places : Table) : Type 0 where
  pub count : hash_map_len places ≡ length (distinct numbers)
  pub each : (n : ℕ) → get nat_eq places n ≡ place_of n (distinct numbers)

module _ (ks : List ℕ) (i : ℕ) (places : Table) (within : i < length ks) (has : HasPlaces (take i ks) places) where
  one_more : take (i + 1) ks ≡ take i ks ++ get_or ks i 0 ∷ []
  one_more = take_more ks i 0 within

  listed : has_number (get_or ks i 0) (take i ks) ≡ is_some (get nat_eq places (get_or ks i 0))
  listed =
      sym (has_number-distinct (get_or ks i 0) (take i ks))
      ∙ sym (placed-listed (get_or ks i 0) (distinct (take i ks)))
      ∙ ap is_some (sym (has.each (get_or ks i 0)))

  -- a number that the table has
  pub places-old : is_some (get nat_eq places (get_or ks i 0)) ≡ true → HasPlaces (take (i + 1) ks) places
  places-old there =
      let same : distinct (take (i + 1) ks) ≡ distinct (take i ks) =
      ap distinct one_more ∙ distinct-old (take i ks) (get_or ks i 0) (listed ∙ there) in
      record { count = has.count ∙ ap length (sym same); each = λ n. has.each n ∙ ap (place_of n) (sym same) }

  -- one that is put into it
  pub places-new :
      (more : Table) (next : ℕ)
      → is_some (get nat_eq places (get_or ks i 0)) ≡ false → next ≡ hash_map_len places
      → hash_map_len more ≡ hash_map_len places + 1 → Updates nat_eq places more (get_or ks i 0) (Some next)
      → HasPlaces (take (i + 1) ks) more
  places-new more next new is_count longer updates =
      let k : ℕ = get_or ks i 0 in
      let order : List ℕ = distinct (take i ks) in
      let pushed : distinct (take (i + 1) ks) ≡ order ++ k ∷ [] = ap distinct one_more ∙ distinct-new (take i ks) k (listed ∙ new) in
      record {
        count = longer ∙ ap (λ m. m + 1) has.count ∙ sym (length_push order k) ∙ ap length (sym pushed);
        each = λ n.
            updates.0 n
            ∙ ⊎_elim
            (λ here.
            let is : k ≡ n = eqb-true k n here in
            cond-true (k == n) (Some next) (get nat_eq places n) here
            ∙ ap Some (is_count ∙ has.count)
            ∙ sym (place_of-push k order (ap is_some (sym (has.each k)) ∙ new))
            ∙ ap (λ m. place_of m (order ++ k ∷ [])) is)
            (λ other.
            cond-false (k == n) (Some next) (get nat_eq places n) other
            ∙ has.each n
            ∙ sym (place_of-other n k order (eqb-comm n k ∙ other)))
            (cases_Bool (k == n))
            ∙ ap (place_of n) (sym pushed);
      }

-- a table of places renames as the places do
pub renamed-places :
    (numbers : List ℕ) (places : Table)
    → ((n : ℕ) → get nat_eq places n ≡ place_of n (distinct numbers)) → renamed places ≡ renaming (distinct numbers)
renamed-places numbers places each = fun_ext (λ v. ap (λ o. variable (unwrap_or o v)) (each v))
