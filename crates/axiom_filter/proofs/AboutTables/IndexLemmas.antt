-- An index that is filled row by row.
use Rattle.std.proofs.Common.{◌≡◌, ℕ, zero, suc, ◌+◌, ◌-◌, ◌<◌, ◌≤◌, Bool, true, false, ◌||◌, ◌==◌, List, [], ◌∷◌, ◌++◌, length, take, get_or, set, cond, refl, ap, sym, ◌∙◌, subst, eqb-true, eq-eqb, get_or-set_same, get_or-set_other, zero-add, inl, inr, arith}
use Rattle.std.specs.Prelude.{All, Some, None, slice_get}
use Rattle.std.proofs.lemmas.List.{take_more, take_all, append-nil, length-take-le, length-set, get_or_past, get_or_default, get_or_read}
use Rattle.std.proofs.lemmas.Bool.{cases_lt}
use Rattle.std.proofs.lemmas.List.Elements.{All-nil, All-cons, All-head, All-tail, All-weaker}
use Rattle.axiom_filter.specs.Places.{places_from}
use Rattle.axiom_filter.specs.Tables.{has_number, row_of, rows_with, ends_with_number, AreBelow, AreRowsBelow}
use Rattle.axiom_filter.proofs.AboutTables.SpreadLemmas.{or-false, has-append}

-- ---- places

pub places-end :
    {X : Type 0} (first : ℕ) (test : X → Bool) (xs : List X) (x : X)
    → places_from first test (xs ++ x ∷ []) ≡ places_from first test xs ++ cond (test x) ((first + length xs) ∷ []) []
places-end first test [] x = by (test x)
  where
    same : first ≡ first + 0
    same = omega arith

    by : (b : Bool) → cond b (first ∷ []) [] ≡ cond b ((first + 0) ∷ []) []
    by true = ap (λ n. n ∷ []) same
    by false = refl
places-end first test (y ∷ xs) x =
    let rest = places-end (suc first) test xs x in
    let moved : suc first + length xs ≡ first + suc (length xs) = omega arith in
    let end : places_from (suc first) test (xs ++ x ∷ []) ≡ places_from (suc first) test xs ++ cond (test x) ((first + suc (length xs)) ∷ []) [] =
    rest ∙ ap (λ n. places_from (suc first) test xs ++ cond (test x) (n ∷ []) []) moved in
    by (test y) end
  where
    by :
        (b : Bool) → places_from (suc first) test (xs ++ x ∷ []) ≡ places_from (suc first) test xs ++ cond (test x) ((first + suc (length xs)) ∷ []) []
        → cond b (first ∷ places_from (suc first) test (xs ++ x ∷ [])) (places_from (suc first) test (xs ++ x ∷ []))
        ≡ cond b (first ∷ places_from (suc first) test xs) (places_from (suc first) test xs) ++ cond (test x) ((first + suc (length xs)) ∷ []) []
    by true e = ap (λ ns. first ∷ ns) e
    by false e = e

-- they are below the end
pub places-below : {X : Type 0} (first : ℕ) (test : X → Bool) (xs : List X) → All (λ n. n < first + length xs) (places_from first test xs)
places-below first test [] = All-nil (λ n. n < first + 0)
places-below first test (x ∷ xs) =
    let P : ℕ → Type 0 = λ n. n < first + suc (length xs) in
    let Q : ℕ → Type 0 = λ n. n < suc first + length xs in
    let weaker : (n : ℕ) → Q n → P n = λ n h. omega arith in
    let rest : All P (places_from (suc first) test xs) = All-weaker Q P weaker (places_from (suc first) test xs) (places-below (suc first) test xs) in
    let here : P first = omega arith in
    by (test x) rest here
  where
    by :
        (b : Bool) → All (λ n. n < first + suc (length xs)) (places_from (suc first) test xs) → first < first + suc (length xs)
        → All (λ n. n < first + suc (length xs)) (cond b (first ∷ places_from (suc first) test xs) (places_from (suc first) test xs))
    by true rest here = All-cons (λ n. n < first + suc (length xs)) first (places_from (suc first) test xs) here rest
    by false rest here = rest

-- the step of a loop that lists the places of what passes
places-next :
    {X : Type 0} (test : X → Bool) (xs : List X) (i : ℕ) (d : X)
    → i < length xs → places_from 0 test (take (i + 1) xs) ≡ places_from 0 test (take i xs) ++ cond (test (get_or xs i d)) (i ∷ []) []
places-next test xs i d l =
    let so_far : 0 + length (take i xs) ≡ i = omega (arith, length-take-le i xs (omega (arith, l))) in
    ap (places_from 0 test) (take_more xs i d l) ∙ places-end 0 test (take i xs) (get_or xs i d)
    ∙ ap (λ n. places_from 0 test (take i xs) ++ cond (test (get_or xs i d)) (n ∷ []) []) so_far

pub place-listed :
    {X : Type 0} (test : X → Bool) (xs : List X) (i : ℕ) (d : X) (places more : List ℕ)
    → i < length xs → test (get_or xs i d) ≡ true → more ≡ places ++ i ∷ [] → places ≡ places_from 0 test (take i xs)
    → more ≡ places_from 0 test (take (i + 1) xs)
place-listed test xs i d places more l t m h =
    m ∙ ap (λ ns. ns ++ i ∷ []) h ∙ ap (λ b. places_from 0 test (take i xs) ++ cond b (i ∷ []) []) (sym t) ∙ sym (places-next test xs i d l)

pub place-skipped :
    {X : Type 0} (test : X → Bool) (xs : List X) (i : ℕ) (d : X) (places more : List ℕ)
    → i < length xs → test (get_or xs i d) ≡ false → more ≡ places → places ≡ places_from 0 test (take i xs)
    → more ≡ places_from 0 test (take (i + 1) xs)
place-skipped test xs i d places more l t m h =
    m ∙ h ∙ sym (append-nil (places_from 0 test (take i xs)))
    ∙ ap (λ b. places_from 0 test (take i xs) ++ cond b (i ∷ []) []) (sym t) ∙ sym (places-next test xs i d l)

-- ---- the end of a list

pub ends-with-end : (ns : List ℕ) (n : ℕ) → ends_with_number (ns ++ n ∷ []) n ≡ true
ends-with-end [] n = eq-eqb n n refl
ends-with-end (m ∷ []) n = eq-eqb n n refl
ends-with-end (m ∷ (k ∷ ms)) n = ends-with-end (k ∷ ms) n

pub not-equal : (m n : ℕ) → m < n → (m == n) ≡ false
not-equal m n h = by (m == n) refl
  where
    by : (b : Bool) → (m == n) ≡ b → b ≡ false
    by true e = absurd (omega (arith, h, eqb-true m n e))
    by false e = refl

pub not-equal-above : (m n : ℕ) → n < m → (m == n) ≡ false
not-equal-above m n h = by (m == n) refl
  where
    by : (b : Bool) → (m == n) ≡ b → b ≡ false
    by true e = absurd (omega (arith, h, eqb-true m n e))
    by false e = refl

pub ends-below : (ns : List ℕ) (n : ℕ) → AreBelow n ns → ends_with_number ns n ≡ false
ends-below [] n h = refl
ends-below (m ∷ []) n h = not-equal m n (All-head (λ k. k < n) m [] h)
ends-below (m ∷ (k ∷ ms)) n h = ends-below (k ∷ ms) n (All-tail (λ j. j < n) m (k ∷ ms) h)

-- the last element
pub last-some : (ns : List ℕ) (n x : ℕ) → slice_get ns (length ns - 1) ≡ Some x → (x == n) ≡ ends_with_number ns n
last-some [] n x h = cc
last-some (m ∷ []) n x h = let same : m ≡ x = cc in ap (λ k. k == n) (sym same)
last-some (m ∷ (k ∷ ms)) n x h =
    let here : suc (length ms) - 1 ≡ length ms = omega arith in
    let above : suc (length ms) ≡ suc (suc (length ms)) - 1 = omega arith in
    last-some (k ∷ ms) n x (ap (slice_get (k ∷ ms)) here ∙ ap (slice_get (m ∷ (k ∷ ms))) above ∙ h)

pub last-none : (ns : List ℕ) (n : ℕ) → slice_get ns (length ns - 1) ≡ None → false ≡ ends_with_number ns n
last-none [] n h = refl
last-none (m ∷ []) n h = cc
last-none (m ∷ (k ∷ ms)) n h =
    let here : suc (length ms) - 1 ≡ length ms = omega arith in
    let above : suc (length ms) ≡ suc (suc (length ms)) - 1 = omega arith in
    last-none (k ∷ ms) n (ap (slice_get (k ∷ ms)) here ∙ ap (slice_get (m ∷ (k ∷ ms))) above ∙ h)

-- ---- a formula is entered

-- the lists of a row's numbers have one place more
pub record Entered (place : ℕ) (row : List ℕ) (old new : List (List ℕ)) : Type 0 where
  pub count : length new ≡ length old
  pub lists : (n : ℕ) → n < length old → row_of new n ≡ row_of old n ++ cond (has_number n row) (place ∷ []) []

pub entered-none : (place : ℕ) (old : List (List ℕ)) → Entered place [] old old
entered-none place old = record { count = refl; lists = λ n h. sym (append-nil (row_of old n)) }

has-end : (n y : ℕ) (row : List ℕ) → has_number n (row ++ y ∷ []) ≡ (has_number n row || (n == y))
has-end n y row = has-append n row (y ∷ []) ∙ ap (λ t. has_number n row || t) (or-false (n == y))

-- a number whose list ends with the place has come before
pub entered-again :
    (place y : ℕ) (row : List ℕ) (old cur : List (List ℕ))
    → ((n : ℕ) → ends_with_number (row_of old n) place ≡ false) → y < length old
    → Entered place row old cur → ends_with_number (row_of cur y) place ≡ true → Entered place (row ++ y ∷ []) old cur
entered-again place y row old cur new l is ends = record { count = is.count; lists = λ n h. by n h (n == y) refl }
  where
    here : (b : Bool) → has_number y row ≡ b → b ≡ true
    here true e = refl
    here false e =
        let same : row_of cur y ≡ row_of old y = is.lists y l ∙ ap (λ t. row_of old y ++ cond t (place ∷ []) []) e ∙ append-nil (row_of old y) in
        sym (new y) ∙ ap (λ ns. ends_with_number ns place) (sym same) ∙ ends

    by : (n : ℕ) → n < length old → (b : Bool) → (n == y) ≡ b → row_of cur n ≡ row_of old n ++ cond (has_number n (row ++ y ∷ [])) (place ∷ []) []
    by n h true e =
        let same : n ≡ y = eqb-true n y e in
        let had : has_number n row ≡ true = ap (λ k. has_number k row) same ∙ here (has_number y row) refl in
        let has : has_number n row ≡ has_number n (row ++ y ∷ []) = had ∙ sym (has-end n y row ∙ ap (λ t. t || (n == y)) had) in
        is.lists n h ∙ ap (λ t. row_of old n ++ cond t (place ∷ []) []) has
    by n h false e =
        let has : has_number n row ≡ has_number n (row ++ y ∷ []) =
        sym (or-false (has_number n row)) ∙ ap (λ t. has_number n row || t) (sym e) ∙ sym (has-end n y row) in
        is.lists n h ∙ ap (λ t. row_of old n ++ cond t (place ∷ []) []) has

-- a number that comes for the first time
pub entered-first :
    (place y : ℕ) (row : List ℕ) (old cur : List (List ℕ))
    → y < length old
    → Entered place row old cur → ends_with_number (row_of cur y) place ≡ false
    → Entered place (row ++ y ∷ []) old (set cur y (row_of cur y ++ place ∷ []))
entered-first place y row old cur l is ends =
    record { count = length-set cur y (row_of cur y ++ place ∷ []) ∙ is.count; lists = λ n h. by n h (n == y) refl }
  where
    here : (b : Bool) → has_number y row ≡ b → b ≡ false
    here true e =
        let same : row_of cur y ≡ row_of old y ++ place ∷ [] = is.lists y l ∙ ap (λ t. row_of old y ++ cond t (place ∷ []) []) e in
        sym (ends-with-end (row_of old y) place) ∙ ap (λ ns. ends_with_number ns place) (sym same) ∙ ends
    here false e = refl

    inside : y < length cur
    inside = omega (arith, l, is.count)

    other : (n : ℕ) → (n == y) ≡ false → n ≡ y → ⊥
    other n e s = grind arith

    by :
        (n : ℕ) → n < length old → (b : Bool) → (n == y) ≡ b
        → row_of (set cur y (row_of cur y ++ place ∷ [])) n ≡ row_of old n ++ cond (has_number n (row ++ y ∷ [])) (place ∷ []) []
    by n h true e =
        let same : n ≡ y = eqb-true n y e in
        let had : has_number y row ≡ false = here (has_number y row) refl in
        let has : has_number n (row ++ y ∷ []) ≡ true = has-end n y row ∙ ap (λ k. has_number k row || (n == y)) same ∙ ap (λ t. t || (n == y)) had ∙ e in
        let before : row_of cur y ≡ row_of old y = is.lists y l ∙ ap (λ t. row_of old y ++ cond t (place ∷ []) []) had ∙ append-nil (row_of old y) in
        ap (row_of (set cur y (row_of cur y ++ place ∷ []))) same
        ∙ get_or-set_same cur y (row_of cur y ++ place ∷ []) [] inside
        ∙ ap (λ ns. ns ++ place ∷ []) (before ∙ ap (row_of old) (sym same))
        ∙ ap (λ t. row_of old n ++ cond t (place ∷ []) []) (sym has)
    by n h false e =
        let has : has_number n row ≡ has_number n (row ++ y ∷ []) =
        sym (or-false (has_number n row)) ∙ ap (λ t. has_number n row || t) (sym e) ∙ sym (has-end n y row) in
        get_or-set_other cur y n (row_of cur y ++ place ∷ []) [] (other n e)
        ∙ is.lists n h ∙ ap (λ t. row_of old n ++ cond t (place ∷ []) []) has

pub entered-more :
    (place i y : ℕ) (row : List ℕ) (old new : List (List ℕ))
    → i < length row → y ≡ get_or row i 0 → Entered place (take i row ++ y ∷ []) old new → Entered place (take (i + 1) row) old new
entered-more place i y row old new l e is =
    subst (λ ns. Entered place ns old new) (ap (λ x. take i row ++ x ∷ []) e ∙ sym (take_more row i 0 l)) is

-- ---- an index of rows

-- each number has the places of the rows so far that have it
pub record IsIndex (symbols : ℕ) (rows : List (List ℕ)) (index : List (List ℕ)) : Type 0 where
  pub count : length index ≡ symbols
  pub lists : (n : ℕ) → n < symbols → row_of index n ≡ rows_with n rows

-- the place of the next row ends no list
pub index-is-before : (symbols : ℕ) (rows index : List (List ℕ)) → IsIndex symbols rows index → (n : ℕ) → ends_with_number (row_of index n) (length rows) ≡ false
index-is-before symbols rows index is n = elim (cases_lt n symbols) [
  | inl h ↦ ap (λ ns. ends_with_number ns (length rows)) (is.lists n h) ∙ ends-below (rows_with n rows) (length rows) (subst (λ k. AreBelow k (rows_with n rows)) (zero-add (length rows)) (places-below 0 (has_number n) rows))
  | inr h ↦ ap (λ ns. ends_with_number ns (length rows)) (get_or_past index n [] (omega (arith, h, is.count)))
]

pub index-none : (symbols : ℕ) (index : List (List ℕ)) → length index ≡ symbols → ((n : ℕ) → row_of index n ≡ []) → IsIndex symbols [] index
index-none symbols index l e = record { count = l; lists = λ n h. e n }

pub index-more :
    (symbols : ℕ) (rows : List (List ℕ)) (row : List ℕ) (old new : List (List ℕ))
    → IsIndex symbols rows old → length new ≡ length old
    → ((n : ℕ) → n < length old → row_of new n ≡ row_of old n ++ cond (has_number n row) (length rows ∷ []) [])
    → IsIndex symbols (rows ++ row ∷ []) new
index-more symbols rows row old new is count lists =
    record {
      count = count ∙ is.count;
      lists = λ n h.
          lists n (omega (arith, h, is.count))
          ∙ ap (λ ns. ns ++ cond (has_number n row) (length rows ∷ []) []) (is.lists n h)
          ∙ ap (λ k. rows_with n rows ++ cond (has_number n row) (k ∷ []) []) (sym (zero-add (length rows)))
          ∙ sym (places-end 0 (has_number n) rows row);
    }

-- the step of the loop over the rows
pub index-step :
    (symbols i : ℕ) (rows : List (List ℕ)) (row : List ℕ) (old new : List (List ℕ))
    → i < length rows → row ≡ get_or rows i []
    → IsIndex symbols (take i rows) old → length new ≡ length old
    → ((n : ℕ) → n < length old → row_of new n ≡ row_of old n ++ cond (has_number n row) (i ∷ []) [])
    → IsIndex symbols (take (i + 1) rows) new
index-step symbols i rows row old new l e is count lists =
    let so_far : length (take i rows) ≡ i = length-take-le i rows (omega (arith, l)) in
    subst (λ rs. IsIndex symbols rs new) (ap (λ r. take i rows ++ r ∷ []) e ∙ sym (take_more rows i [] l))
    (index-more symbols (take i rows) row old new is count (λ n h. lists n h ∙ ap (λ k. row_of old n ++ cond (has_number n row) (k ∷ []) []) (sym so_far)))

pub index-before :
    (symbols i : ℕ) (rows index : List (List ℕ))
    → i < length rows → IsIndex symbols (take i rows) index → (n : ℕ) → ends_with_number (row_of index n) i ≡ false
index-before symbols i rows index l is n =
    ap (ends_with_number (row_of index n)) (sym (length-take-le i rows (omega (arith, l)))) ∙ index-is-before symbols (take i rows) index is n

-- ---- the loops

pub empty-push :
    (lists : List (List ℕ)) (list : List ℕ) (n : ℕ) → ((k : ℕ) → row_of lists k ≡ []) → list ≡ [] → row_of (lists ++ list ∷ []) n ≡ []
empty-push [] list zero h e = e
empty-push [] list (suc n) h e = refl
empty-push (first ∷ lists) list zero h e = h 0
empty-push (first ∷ lists) list (suc n) h e = empty-push lists list n (λ k. h (suc k)) e

-- a list of the row gets the place
pub enter-pushed :
    (place i : ℕ) (row : List ℕ) (old cur new : List (List ℕ)) (d slice pushed : List ℕ) (ends : Bool)
    → i < length row → get_or row i 0 < length old
    → slice ≡ get_or cur (get_or row i 0) d → ends ≡ ends_with_number slice place → ends ≡ false
    → pushed ≡ get_or cur (get_or row i 0) d ++ place ∷ [] → new ≡ set cur (get_or row i 0) pushed
    → Entered place (take i row) old cur → Entered place (take (i + 1) row) old new
enter-pushed place i row old cur new d slice pushed ends l inside s e f p n is =
    let read : get_or cur (get_or row i 0) d ≡ row_of cur (get_or row i 0) = get_or_default cur (get_or row i 0) d [] (omega (arith, inside, is.count)) in
    entered-more place i (get_or row i 0) row old new l refl
    (subst (λ ls. Entered place (take i row ++ get_or row i 0 ∷ []) old ls)
    (ap (λ ns. set cur (get_or row i 0) (ns ++ place ∷ [])) (sym read) ∙ ap (set cur (get_or row i 0)) (sym p) ∙ sym n)
    (entered-first place (get_or row i 0) (take i row) old cur inside is
    (ap (λ ns. ends_with_number ns place) (sym read ∙ sym s) ∙ sym e ∙ f)))

-- a list of the row has it
pub enter-kept :
    (place i : ℕ) (row : List ℕ) (old cur new : List (List ℕ)) (d slice : List ℕ) (ends : Bool)
    → ((n : ℕ) → ends_with_number (row_of old n) place ≡ false)
    → i < length row → get_or row i 0 < length old
    → slice ≡ get_or cur (get_or row i 0) d → ends ≡ ends_with_number slice place → ends ≡ true
    → new ≡ cur
    → Entered place (take i row) old cur → Entered place (take (i + 1) row) old new
enter-kept place i row old cur new d slice ends before l inside s e f n is =
    let read : get_or cur (get_or row i 0) d ≡ row_of cur (get_or row i 0) = get_or_default cur (get_or row i 0) d [] (omega (arith, inside, is.count)) in
    entered-more place i (get_or row i 0) row old new l refl
    (subst (λ ls. Entered place (take i row ++ get_or row i 0 ∷ []) old ls) (sym n)
    (entered-again place (get_or row i 0) (take i row) old cur before inside is
    (ap (λ ns. ends_with_number ns place) (sym read ∙ sym s) ∙ sym e ∙ f)))

pub enter-done :
    (place i : ℕ) (row : List ℕ) (old new : List (List ℕ)) → length row ≤ i → Entered place (take i row) old new → Entered place row old new
enter-done place i row old new l is = subst (λ ns. Entered place ns old new) (take_all i row l) is

pub index-done : (symbols i : ℕ) (rows index : List (List ℕ)) → length rows ≤ i → IsIndex symbols (take i rows) index → IsIndex symbols rows index
index-done symbols i rows index l is = subst (λ rs. IsIndex symbols rs index) (take_all i rows l) is

-- a row of a table
pub row-below :
    (bound : ℕ) (rows : List (List ℕ)) (i : ℕ) (row slice : List ℕ)
    → AreRowsBelow bound rows → i < length rows → row ≡ get_or rows i row → slice ≡ row → AreBelow bound slice
row-below bound rows i row slice h l r s = subst (AreBelow bound) (sym (s ∙ r)) (h i row l)

-- the step of the loop over the rows, by what was lent
pub index-entered :
    (symbols i : ℕ) (rows : List (List ℕ)) (row slice : List ℕ) (old lent new : List (List ℕ))
    → i < length rows → row ≡ get_or rows i row → slice ≡ row → lent ≡ old → length new ≡ length lent
    → ((n : ℕ) → n < length lent → row_of new n ≡ row_of lent n ++ cond (has_number n slice) (i ∷ []) [])
    → IsIndex symbols (take i rows) old → IsIndex symbols (take (i + 1) rows) new
index-entered symbols i rows row slice old lent new l r s e count lists is =
    index-step symbols i rows slice lent new l (s ∙ get_or_read rows i row l r []) (subst (IsIndex symbols (take i rows)) (sym e) is) count lists
