-- The levels over numbers are those over symbols.
use Rattle.std.proofs.Common.{◌≡◌, ℕ, zero, suc, ◌+◌, ◌-◌, ◌*◌, ◌^◌, ◌<◌, ◌≤◌, min, Bool, true, false, ◌&&◌, ◌||◌, ◌==◌, nat_le, List, [], ◌∷◌, ◌++◌, length, map, get_or, cond, filter, count_by, refl, ap, sym, ◌∙◌, subst, zero-add, leb-true, le-leb, eqb-true, eq-eqb, inl, inr, ◌⊎◌, arith}
use Rattle.std.specs.List.{list_any, list_all}
use Rattle.std.proofs.Math.Nat.{mul-le-mul_left}
use Rattle.std.proofs.lemmas.Bool.{cases_lt, and_parts}
use Rattle.std.proofs.lemmas.List.{get_or-map, map-append}
use Rattle.std.proofs.lemmas.List.Elements.{All-nil, All-cons, All-head, All-tail, All-append, All-filter, All-from_get_or}
use Rattle.std.proofs.lemmas.List.Folds.{list_any-append}
use Rattle.std.proofs.lemmas.List.Sums.{sum_by-cons, count_by-le-length}
use Rattle.tptp_tree.specs.declared.problem.Annotated.{Annotated}
use Rattle.signature.specs.declared.symbol.Symbol.{Symbol}
use Rattle.signature.specs.Symbol.{same_symbol, has_symbol}
use Rattle.signature.specs.SymbolLaws.{same_symbol-refl, same_symbol-true}
use Rattle.signature.specs.Occurrences.{annotated_symbols}
use Rattle.axiom_filter.specs.Places.{places_from}
use Rattle.axiom_filter.specs.Selection.{is_goal, occurs, occurrence_count, triggers, is_triggered, symbols_of, reached, is_taken}
use Rattle.axiom_filter.specs.Tables.{has_number, row_of, neighbours, rows_with, rare_enough, least_length, AreBelow, AreRowsBelow}
use Rattle.axiom_filter.specs.Walk.{reached_numbers, taken_numbers}
use Rattle.axiom_filter.proofs.AboutTables.SpreadLemmas.{has-append}
use Rattle.axiom_filter.proofs.AboutTables.IndexLemmas.{IsIndex, places-below, not-equal, not-equal-above}
use Rattle.axiom_filter.proofs.AboutTables.MemberLemmas.{bool-same, or-left, any-more, any-agree, any-flat, itself-number, neighbours-grow}
use Rattle.axiom_filter.proofs.AboutSelections.NumberingLemmas.{symbol_at, Stands, Fits, AreDifferent, has-stands, row-fits, fits-length, fits-below, passing-stand, passing-neighbours}

-- ---- places

-- a place is among those that pass where its element passes
pub has-place :
    {X : Type 0} (first : ℕ) (test : X → Bool) (xs : List X) (i : ℕ) (d : X)
    → i < length xs → has_number (first + i) (places_from first test xs) ≡ test (get_or xs i d)
has-place first test [] i d l = absurd (omega arith)
has-place {X} first test (x ∷ xs) zero d l = by (test x) (earlier (suc first) xs (omega arith))
  where
    same : (first + 0 == first) ≡ true
    same = eq-eqb (first + 0) first (omega arith)

    earlier : (k : ℕ) (ys : List X) → first + 0 < k → has_number (first + 0) (places_from k test ys) ≡ false
    earlier k [] h = refl
    earlier k (y ∷ ys) h = late (test y) (earlier (suc k) ys (omega arith))
      where
        other : (first + 0 == k) ≡ false
        other = not-equal (first + 0) k h

        late : (b : Bool) → has_number (first + 0) (places_from (suc k) test ys) ≡ false
            → has_number (first + 0) (cond b (k ∷ places_from (suc k) test ys) (places_from (suc k) test ys)) ≡ false
        late true e = ap (λ t. t || has_number (first + 0) (places_from (suc k) test ys)) other ∙ e
        late false e = e

    by : (b : Bool) → has_number (first + 0) (places_from (suc first) test xs) ≡ false
        → has_number (first + 0) (cond b (first ∷ places_from (suc first) test xs) (places_from (suc first) test xs)) ≡ b
    by true e = or-left _ _ same
    by false e = e
has-place first test (x ∷ xs) (suc i) d l =
    let moved : suc first + i ≡ first + suc i = omega arith in
    let rest : has_number (first + suc i) (places_from (suc first) test xs) ≡ test (get_or xs i d) =
    ap (λ k. has_number k (places_from (suc first) test xs)) (sym moved) ∙ has-place (suc first) test xs i d (omega arith) in
    by (test x) rest
  where
    other : (first + suc i == first) ≡ false
    other = not-equal-above (first + suc i) first (omega arith)

    by : (b : Bool) → has_number (first + suc i) (places_from (suc first) test xs) ≡ test (get_or xs i d)
        → has_number (first + suc i) (cond b (first ∷ places_from (suc first) test xs) (places_from (suc first) test xs)) ≡ test (get_or xs i d)
    by true e = ap (λ t. t || has_number (first + suc i) (places_from (suc first) test xs)) other ∙ e
    by false e = e

pub has-filter : (n : ℕ) (p : ℕ → Bool) (ns : List ℕ) → has_number n (filter p ns) ≡ (p n && has_number n ns)
has-filter n p [] = by (p n)
  where
    by : (b : Bool) → false ≡ (b && false)
    by true = refl
    by false = refl
has-filter n p (m ∷ ns) = by (p m) refl (has-filter n p ns)
  where
    at : (b c : Bool) → p m ≡ c → (n == m) ≡ b → b ≡ true → p n ≡ c
    at b c e f t = ap p (eqb-true n m (f ∙ t)) ∙ e

    passed : (b q r : Bool) → (b ≡ true → q ≡ true) → (b || (q && r)) ≡ (q && (b || r))
    passed true q r f = ap (λ t. t && true) (sym (f refl))
    passed false q r f = refl

    failed : (b q r : Bool) → (b ≡ true → q ≡ false) → (q && r) ≡ (q && (b || r))
    failed true q r f = ap (λ t. t && r) (f refl) ∙ sym (ap (λ t. t && true) (f refl))
    failed false q r f = refl

    by : (c : Bool) → p m ≡ c → has_number n (filter p ns) ≡ (p n && has_number n ns)
        → has_number n (cond c (m ∷ filter p ns) (filter p ns)) ≡ (p n && ((n == m) || has_number n ns))
    by true e h = ap (λ t. (n == m) || t) h ∙ passed (n == m) (p n) (has_number n ns) (at (n == m) true e refl)
    by false e h = h ∙ failed (n == m) (p n) (has_number n ns) (at (n == m) false e refl)

-- ---- counts

length-places : {X : Type 0} (first : ℕ) (test : X → Bool) (xs : List X) → length (places_from first test xs) ≡ count_by test xs
length-places first test [] = refl
length-places first test (x ∷ xs) = by (test x) refl (length-places (suc first) test xs)
  where
    by :
        (b : Bool) → test x ≡ b → length (places_from (suc first) test xs) ≡ count_by test xs
        → length (cond b (first ∷ places_from (suc first) test xs) (places_from (suc first) test xs)) ≡ count_by test (x ∷ xs)
    by true e h = omega (arith, h, sum_by-cons (λ y. cond (test y) 1 0) x xs, ap {B = ℕ} (λ b. cond b 1 0) e)
    by false e h = omega (arith, h, sum_by-cons (λ y. cond (test y) 1 0) x xs, ap {B = ℕ} (λ b. cond b 1 0) e)

count-fits :
    (final : List Symbol) (rows : List (List ℕ)) (fs : List Annotated) (n : ℕ) → AreDifferent final → n < length final → Fits final rows fs
    → count_by (has_number n) rows ≡ occurrence_count fs (symbol_at final n)
count-fits final [] [] n d l h = refl
count-fits final [] (a ∷ fs) n d l h = absurd h
count-fits final (row ∷ rows) [] n d l h = absurd h
count-fits final (row ∷ rows) (a ∷ fs) n d l h =
    let here : has_number n row ≡ occurs (symbol_at final n) a =
    has-stands final n row d l (h.0).below ∙ ap (has_symbol (symbol_at final n)) (h.0).symbols in
    let there : count_by (has_number n) rows ≡ occurrence_count fs (symbol_at final n) = count-fits final rows fs n d l h.1 in
    let left : count_by (has_number n) (row ∷ rows) ≡ cond (has_number n row) 1 0 + count_by (has_number n) rows =
    sum_by-cons (λ r. cond (has_number n r) 1 0) row rows in
    let right : occurrence_count (a ∷ fs) (symbol_at final n) ≡ cond (occurs (symbol_at final n) a) 1 0 + occurrence_count fs (symbol_at final n) =
    sum_by-cons (λ b. cond (occurs (symbol_at final n) b) 1 0) a fs in
    omega (arith, left, right, there, ap {B = ℕ} (λ b. cond b 1 0) here)

-- ---- what the walk knows

-- the tables of a problem: rows that stand for the symbols of the formulas, and an index of them
pub record AreTables (tolerance : ℕ) (fs : List Annotated) (final : List Symbol) (rows index triggered : List (List ℕ)) : Type 0 where
  pub different : AreDifferent final
  pub fits : Fits final rows fs
  pub few : length fs < 2 ^ 64
  pub index_is : IsIndex (length final) rows index
  pub triggered_is : triggered ≡ map (rare_enough tolerance (map (least_length index) rows)) index

index-length :
    (tolerance : ℕ) (fs : List Annotated) (final : List Symbol) (rows index triggered : List (List ℕ)) (n : ℕ)
    → AreTables tolerance fs final rows index triggered → n < length final → length (row_of index n) ≡ occurrence_count fs (symbol_at final n)
index-length tolerance fs final rows index triggered n t l =
    ap length ((t.index_is).lists n l) ∙ length-places 0 (has_number n) rows ∙ count-fits final rows fs n t.different l t.fits

-- ---- the rarest symbol

least-test :
    (amount tolerance x y : ℕ) → (nat_le amount (tolerance * x) && nat_le amount (tolerance * y)) ≡ nat_le amount (tolerance * min x y)
least-test amount tolerance x y = bool-same _ _ forth back
  where
    forth : (nat_le amount (tolerance * x) && nat_le amount (tolerance * y)) ≡ true → nat_le amount (tolerance * min x y) ≡ true
    forth h =
        let parts : (nat_le amount (tolerance * x) ≡ true) × (nat_le amount (tolerance * y) ≡ true) = and_parts _ _ h in
        by (cases_lt x y) parts.0 parts.1
      where
        by : (x < y) ⊎ (y ≤ x) → nat_le amount (tolerance * x) ≡ true → nat_le amount (tolerance * y) ≡ true → nat_le amount (tolerance * min x y) ≡ true
        by (inl i) a b = let least : min x y ≡ x = omega arith in ap (λ k. nat_le amount (tolerance * k)) least ∙ a
        by (inr i) a b = let least : min x y ≡ y = omega arith in ap (λ k. nat_le amount (tolerance * k)) least ∙ b

    back : nat_le amount (tolerance * min x y) ≡ true → (nat_le amount (tolerance * x) && nat_le amount (tolerance * y)) ≡ true
    back h =
        let low : min x y ≤ x = omega arith in
        let other : min x y ≤ y = omega arith in
        let is : amount ≤ tolerance * min x y = leb-true amount (tolerance * min x y) h in
        let a : amount ≤ tolerance * x = omega (arith, is, mul-le-mul_left tolerance low) in
        let b : amount ≤ tolerance * y = omega (arith, is, mul-le-mul_left tolerance other) in
        ap (λ t. t && nat_le amount (tolerance * y)) (le-leb amount (tolerance * x) a) ∙ le-leb amount (tolerance * y) b

-- all symbols of a row are tested by the rarest
all-least :
    (amount tolerance : ℕ) (index : List (List ℕ)) (row : List ℕ)
    → (list_all (λ m. nat_le amount (tolerance * length (row_of index m))) row && nat_le amount (tolerance * (2 ^ 64 - 1))) ≡ nat_le amount (tolerance * least_length index row)
all-least amount tolerance index [] = refl
all-least amount tolerance index (m ∷ row) =
    and-chain (nat_le amount (tolerance * length (row_of index m))) (list_all (λ k. nat_le amount (tolerance * length (row_of index k))) row) (nat_le amount (tolerance * (2 ^ 64 - 1)))
    ∙ ap (λ t. nat_le amount (tolerance * length (row_of index m)) && t) (all-least amount tolerance index row)
    ∙ least-test amount tolerance (length (row_of index m)) (least_length index row)
  where
    and-chain : (a b c : Bool) → ((a && b) && c) ≡ (a && (b && c))
    and-chain true b c = refl
    and-chain false b c = refl

all-agree :
    (final : List Symbol) (p : Symbol → Bool) (q : ℕ → Bool) (row : List ℕ) → ((m : ℕ) → m < length final → q m ≡ p (symbol_at final m))
    → AreBelow (length final) row → list_all q row ≡ list_all p (map (symbol_at final) row)
all-agree final p q [] same h = refl
all-agree final p q (m ∷ row) same h =
    ap (λ t. t && list_all q row) (same m (All-head (λ k. k < length final) m row h))
    ∙ ap (λ t. p (symbol_at final m) && t) (all-agree final p q row same (All-tail (λ k. k < length final) m row h))

-- a test of all elements holds of one that is there
all-holds : (p : Symbol → Bool) (ss : List Symbol) (s : Symbol) → has_symbol s ss ≡ true → list_all p ss ≡ true → p s ≡ true
all-holds p [] s m h = cc
all-holds p (t ∷ ss) s m h =
    let parts : (p t ≡ true) × (list_all p ss ≡ true) = and_parts _ _ h in
    by (same_symbol s t) refl m parts.0 (λ k. all-holds p ss s k parts.1)
  where
    by : (b : Bool) → same_symbol s t ≡ b → (b || has_symbol s ss) ≡ true → p t ≡ true → (has_symbol s ss ≡ true → p s ≡ true) → p s ≡ true
    by true e k a later = ap p (same_symbol-true s t e) ∙ a
    by false e k a later = later k

-- ---- triggers

-- the table of triggers says which formulas a symbol triggers
pub triggered-is :
    (tolerance : ℕ) (fs : List Annotated) (final : List Symbol) (rows index triggered : List (List ℕ)) (n f : ℕ) (d : Annotated)
    → AreTables tolerance fs final rows index triggered → n < length final → f < length fs
    → has_number f (row_of triggered n) ≡ triggers tolerance fs (symbol_at final n) (get_or fs f d)
triggered-is tolerance fs final rows index triggered n f d t l k =
    ap (λ ts. has_number f (row_of ts n)) t.triggered_is
    ∙ ap (has_number f) (get_or-map (rare_enough tolerance rarest) index n [] [] (omega (arith, l, (t.index_is).count)))
    ∙ has-filter f (λ place. nat_le (100 * length (row_of index n)) (tolerance * get_or rarest place 0)) (row_of index n)
    ∙ ap (λ b. nat_le amount (tolerance * get_or rarest f 0) && b) listed
    ∙ ap (λ m. nat_le amount (tolerance * m) && occurs s a) (get_or-map (least_length index) rows f [] 0 inside)
    ∙ ap (λ b. b && occurs s a) (sym (all-least amount tolerance index (row_of rows f)))
    ∙ ap (λ b. (b && top) && occurs s a) all_is
    ∙ turned (list_all rare (annotated_symbols a)) top (occurs s a) capped
  where
    rarest : List ℕ
    rarest = map (least_length index) rows

    s : Symbol
    s = symbol_at final n

    a : Annotated
    a = get_or fs f d

    amount : ℕ
    amount = 100 * length (row_of index n)

    top : Bool
    top = nat_le amount (tolerance * (2 ^ 64 - 1))

    rare : Symbol → Bool
    rare r = nat_le (100 * occurrence_count fs s) (tolerance * occurrence_count fs r)

    inside : f < length rows
    inside = omega (arith, k, fits-length final rows fs t.fits)

    stands : Stands final (row_of rows f) (annotated_symbols a)
    stands = row-fits final rows fs f d t.fits k

    count_of : (m : ℕ) → m < length final → length (row_of index m) ≡ occurrence_count fs (symbol_at final m)
    count_of m h = index-length tolerance fs final rows index triggered m t h

    listed : has_number f (row_of index n) ≡ occurs s a
    listed =
        ap (has_number f) ((t.index_is).lists n l)
        ∙ ap (λ k. has_number k (rows_with n rows)) (sym (zero-add f)) ∙ has-place 0 (has_number n) rows f [] inside
        ∙ has-stands final n (row_of rows f) t.different l stands.below
        ∙ ap (has_symbol s) stands.symbols

    rare_is : (m : ℕ) → m < length final → nat_le amount (tolerance * length (row_of index m)) ≡ rare (symbol_at final m)
    rare_is m h = ap (λ c. nat_le (100 * c) (tolerance * length (row_of index m))) (count_of n l) ∙ ap (λ c. nat_le (100 * occurrence_count fs s) (tolerance * c)) (count_of m h)

    all_is : list_all (λ m. nat_le amount (tolerance * length (row_of index m))) (row_of rows f) ≡ list_all rare (annotated_symbols a)
    all_is = all-agree final rare (λ m. nat_le amount (tolerance * length (row_of index m))) (row_of rows f) rare_is stands.below ∙ ap (list_all rare) stands.symbols

    -- where the symbol occurs and is rare, the cap of the least length is no bound
    capped : occurs s a ≡ true → list_all rare (annotated_symbols a) ≡ true → top ≡ true
    capped o r =
        let own : 100 * occurrence_count fs s ≤ tolerance * occurrence_count fs s = leb-true _ _ (all-holds rare (annotated_symbols a) s o r) in
        let most : occurrence_count fs s ≤ 2 ^ 64 - 1 = omega (arith, count_by-le-length (occurs s) fs, t.few) in
        let bound : 100 * occurrence_count fs s ≤ tolerance * (2 ^ 64 - 1) = omega (arith, own, mul-le-mul_left tolerance most) in
        le-leb amount (tolerance * (2 ^ 64 - 1)) (subst (λ c. 100 * c ≤ tolerance * (2 ^ 64 - 1)) (sym (count_of n l)) bound)

    turned : (r u o : Bool) → (o ≡ true → r ≡ true → u ≡ true) → ((r && u) && o) ≡ (o && r)
    turned true u true h = ap (λ x. x && true) (h refl refl)
    turned true true false h = refl
    turned true false false h = refl
    turned false u true h = refl
    turned false u false h = refl

-- ---- bounds

member-below : (bound n : ℕ) (ns : List ℕ) → AreBelow bound ns → has_number n ns ≡ true → n < bound
member-below bound n [] h m = cc
member-below bound n (k ∷ ns) h m = by (n == k) refl m (λ t. member-below bound n ns (All-tail (λ j. j < bound) k ns h) t)
  where
    by : (b : Bool) → (n == k) ≡ b → (b || has_number n ns) ≡ true → (has_number n ns ≡ true → n < bound) → n < bound
    by true e t later = omega (arith, eqb-true n k e, All-head (λ j. j < bound) k ns h)
    by false e t later = later t

row-of-below : (bound : ℕ) (table : List (List ℕ)) (n : ℕ) → AreRowsBelow bound table → AreBelow bound (row_of table n)
row-of-below bound [] n h = All-nil (λ k. k < bound)
row-of-below bound (row ∷ table) zero h = All-head (AreBelow bound) row table h
row-of-below bound (row ∷ table) (suc n) h = row-of-below bound table n (All-tail (AreBelow bound) row table h)

neighbours-below : (bound : ℕ) (table : List (List ℕ)) (from : List ℕ) → AreRowsBelow bound table → AreBelow bound (neighbours table from)
neighbours-below bound table [] h = All-nil (λ k. k < bound)
neighbours-below bound table (x ∷ from) h =
    All-append (λ k. k < bound) (row_of table x) (neighbours table from) (row-of-below bound table x h) (neighbours-below bound table from h)

-- the lists of an index have places of rows
pub index-below : (symbols : ℕ) (rows index : List (List ℕ)) → IsIndex symbols rows index → AreRowsBelow (length rows) index
index-below symbols rows index is =
    All-from_get_or (AreBelow (length rows)) index [] (λ n h.
    subst (AreBelow (length rows)) (sym (is.lists n (omega (arith, h, is.count))))
    (subst (λ k. AreBelow k (rows_with n rows)) (zero-add (length rows)) (places-below 0 (has_number n) rows)))

pub triggered-below : (bound tolerance : ℕ) (rarest : List ℕ) (index : List (List ℕ)) → AreRowsBelow bound index → AreRowsBelow bound (map (rare_enough tolerance rarest) index)
triggered-below bound tolerance rarest [] h = All-nil (AreBelow bound)
triggered-below bound tolerance rarest (list ∷ index) h =
    All-cons (AreBelow bound) (rare_enough tolerance rarest list) (map (rare_enough tolerance rarest) index)
    (All-filter (λ place. nat_le (100 * length list) (tolerance * get_or rarest place 0)) (λ k. k < bound) list (All-head (AreBelow bound) list index h))
    (triggered-below bound tolerance rarest index (All-tail (AreBelow bound) list index h))

-- ---- levels

any-map : {X Y : Type 0} (p : Y → Bool) (f : X → Y) (xs : List X) → list_any p (map f xs) ≡ list_any (λ x. p (f x)) xs
any-map p f [] = refl
any-map p f (x ∷ xs) = ap (λ t. p (f x) || t) (any-map p f xs)

-- the numbers that are reached stand for the symbols that are reached
pub record Agree (final : List Symbol) (numbers : List ℕ) (symbols : List Symbol) : Type 0 where
  pub below : AreBelow (length final) numbers
  pub members : (s : Symbol) → has_symbol s (map (symbol_at final) numbers) ≡ has_symbol s symbols

any-members :
    (p : Symbol → Bool) (ss ts : List Symbol) → ((s : Symbol) → has_symbol s ss ≡ has_symbol s ts) → list_any p ss ≡ list_any p ts
any-members p ss ts same =
    bool-same (list_any p ss) (list_any p ts)
    (any-more same_symbol same_symbol-refl same_symbol-true p ss ts (λ s h. sym (same s) ∙ h))
    (any-more same_symbol same_symbol-refl same_symbol-true p ts ss (λ s h. same s ∙ h))

-- what the reached numbers trigger
triggered-agree :
    (tolerance : ℕ) (fs : List Annotated) (final : List Symbol) (rows index triggered : List (List ℕ)) (numbers : List ℕ) (symbols : List Symbol) (f : ℕ) (d : Annotated)
    → AreTables tolerance fs final rows index triggered → Agree final numbers symbols → f < length fs
    → has_number f (neighbours triggered numbers) ≡ is_triggered tolerance fs symbols (get_or fs f d)
triggered-agree tolerance fs final rows index triggered numbers symbols f d t g l =
    let p : Symbol → Bool = λ s. triggers tolerance fs s (get_or fs f d) in
    any-flat (λ m. f == m) (row_of triggered) numbers
    ∙ any-agree (λ n. n < length final) (λ n. has_number f (row_of triggered n)) (λ n. p (symbol_at final n)) numbers
    (λ n h. triggered-is tolerance fs final rows index triggered n f d t h l) g.below
    ∙ sym (any-map p (symbol_at final) numbers)
    ∙ any-members p (map (symbol_at final) numbers) symbols g.members

has-place-at : (test : Annotated → Bool) (fs : List Annotated) (i : ℕ) (d : Annotated) → i < length fs → has_number i (places_from 0 test fs) ≡ test (get_or fs i d)
has-place-at test fs i d l = ap (λ k. has_number k (places_from 0 test fs)) (sym (zero-add i)) ∙ has-place 0 test fs i d l

place-below : (test : Annotated → Bool) (fs : List Annotated) (i : ℕ) → has_number i (places_from 0 test fs) ≡ true → i < length fs
place-below test fs i h =
    member-below (length fs) i (places_from 0 test fs) (subst (λ k. AreBelow k (places_from 0 test fs)) (zero-add (length fs)) (places-below 0 test fs)) h

-- the numbers of some formulas' symbols, by a list of their places in whatever order
passing-agree :
    (final : List Symbol) (rows : List (List ℕ)) (fs : List Annotated) (p : Annotated → Bool) (places : List ℕ) (d : Annotated)
    → Fits final rows fs → AreBelow (length fs) places
    → ((i : ℕ) → i < length fs → has_number i places ≡ p (get_or fs i d))
    → Agree final (neighbours rows places) (symbols_of (filter p fs))
passing-agree final rows fs p places d h below same =
    record {
      below = neighbours-below (length final) rows places (fits-below final rows fs h);
      members = λ s. any-map (same_symbol s) (symbol_at final) (neighbours rows places) ∙ moved s ∙ sym (any-map (same_symbol s) (symbol_at final) (neighbours rows in_order)) ∙ ap (has_symbol s) ordered;
    }
  where
    in_order : List ℕ
    in_order = places_from 0 p fs

    ordered : map (symbol_at final) (neighbours rows in_order) ≡ symbols_of (filter p fs)
    ordered = ap (map (symbol_at final)) (passing-neighbours p rows [] fs (fits-length final rows fs h)) ∙ (passing-stand final p rows fs h).symbols

    forth : (i : ℕ) → has_number i places ≡ true → has_number i in_order ≡ true
    forth i e = let l : i < length fs = member-below (length fs) i places below e in has-place-at p fs i d l ∙ sym (same i l) ∙ e

    back : (i : ℕ) → has_number i in_order ≡ true → has_number i places ≡ true
    back i e = let l : i < length fs = place-below p fs i e in same i l ∙ sym (has-place-at p fs i d l) ∙ e

    moved : (s : Symbol) → list_any (λ n. same_symbol s (symbol_at final n)) (neighbours rows places) ≡ list_any (λ n. same_symbol s (symbol_at final n)) (neighbours rows in_order)
    moved s =
        bool-same _ _
        (any-more (λ a b. a == b) itself-number (λ a b e. eqb-true a b e) (λ n. same_symbol s (symbol_at final n)) (neighbours rows places) (neighbours rows in_order)
        (λ n. neighbours-grow n rows places in_order forth))
        (any-more (λ a b. a == b) itself-number (λ a b e. eqb-true a b e) (λ n. same_symbol s (symbol_at final n)) (neighbours rows in_order) (neighbours rows places)
        (λ n. neighbours-grow n rows in_order places back))

-- longer lists agree where their parts do
agree-append :
    (final : List Symbol) (ns ms : List ℕ) (ss ts : List Symbol) → Agree final ns ss → Agree final ms ts → Agree final (ns ++ ms) (ss ++ ts)
agree-append final ns ms ss ts f g =
    record {
      below = All-append (λ k. k < length final) ns ms f.below g.below;
      members = λ s.
          ap (has_symbol s) (map-append (symbol_at final) ns ms)
          ∙ list_any-append (same_symbol s) (map (symbol_at final) ns) (map (symbol_at final) ms)
          ∙ ap (λ t. t || has_symbol s (map (symbol_at final) ms)) (f.members s)
          ∙ ap (λ t. has_symbol s ss || t) (g.members s)
          ∙ sym (list_any-append (same_symbol s) ss ts);
    }

tables-below :
    (tolerance : ℕ) (fs : List Annotated) (final : List Symbol) (rows index triggered : List (List ℕ)) (from : List ℕ)
    → AreTables tolerance fs final rows index triggered → AreBelow (length fs) (neighbours triggered from)
tables-below tolerance fs final rows index triggered from t =
    neighbours-below (length fs) triggered from
    (subst (AreRowsBelow (length fs)) (sym t.triggered_is)
    (triggered-below (length fs) tolerance (map (least_length index) rows) index
    (subst (λ k. AreRowsBelow k index) (fits-length final rows fs t.fits) (index-below (length final) rows index t.index_is))))

levels-agree :
    (tolerance : ℕ) (fs : List Annotated) (final : List Symbol) (rows index triggered : List (List ℕ)) (d : Annotated) (level : ℕ)
    → AreTables tolerance fs final rows index triggered
    → Agree final (reached_numbers rows triggered (places_from 0 is_goal fs) level) (reached tolerance fs level)
levels-agree tolerance fs final rows index triggered d zero t =
    passing-agree final rows fs is_goal (places_from 0 is_goal fs) d t.fits
    (subst (λ k. AreBelow k (places_from 0 is_goal fs)) (zero-add (length fs)) (places-below 0 is_goal fs))
    (λ i l. has-place-at is_goal fs i d l)
levels-agree tolerance fs final rows index triggered d (suc level) t =
    let before : Agree final (reached_numbers rows triggered (places_from 0 is_goal fs) level) (reached tolerance fs level) =
    levels-agree tolerance fs final rows index triggered d level t in
    agree-append final _ _ _ _ before
    (passing-agree final rows fs (is_triggered tolerance fs (reached tolerance fs level)) (neighbours triggered (reached_numbers rows triggered (places_from 0 is_goal fs) level)) d t.fits
    (tables-below tolerance fs final rows index triggered _ t)
    (λ i l. triggered-agree tolerance fs final rows index triggered _ _ i d t before l))

-- the walk takes what the selection takes
pub taken-agree :
    (tolerance : ℕ) (fs : List Annotated) (final : List Symbol) (rows index triggered : List (List ℕ)) (d : Annotated) (level f : ℕ)
    → AreTables tolerance fs final rows index triggered → f < length fs
    → has_number f (taken_numbers rows triggered (places_from 0 is_goal fs) level) ≡ is_taken tolerance fs level (get_or fs f d)
taken-agree tolerance fs final rows index triggered d zero f t l = refl
taken-agree tolerance fs final rows index triggered d (suc level) f t l =
    let goals = places_from 0 is_goal fs in
    has-append f (taken_numbers rows triggered goals level) (neighbours triggered (reached_numbers rows triggered goals level))
    ∙ ap (λ b. b || has_number f (neighbours triggered (reached_numbers rows triggered goals level))) (taken-agree tolerance fs final rows index triggered d level f t l)
    ∙ ap (λ b. is_taken tolerance fs level (get_or fs f d) || b)
    (triggered-agree tolerance fs final rows index triggered (reached_numbers rows triggered goals level) (reached tolerance fs level) f d t
    (levels-agree tolerance fs final rows index triggered d level t) l)
