-- Literals without partners, and the literal that is placed first.
use Rattle.std.proofs.Common.{◌≡◌, ◌⊎◌, ℕ, zero, suc, ◌+◌, ◌-◌, ◌<◌, ◌≤◌, Bool, true, false, ◌==◌, cond, Option, None, Some, List, [], ◌∷◌, ◌++◌, length, map, take, drop, get_or, replicate, refl, ap, sym, ◌∙◌, inl, inr, ⊎_elim, subst, arith}
use Rattle.std.specs.Prelude.{not, slice_get, sum_by, IsTrue, All, IsPermutation}
use Rattle.std.specs.List.{list_all, list_any, swap}
use Rattle.std.specs.List.Sorted.{apply_swaps, SwapsInRange}
use Rattle.std.proofs.lemmas.Bool.{and_parts, and_from, or_cases, or_parts, not-true, eq-eqb, eqb-true, true≢false, cases_Bool, cond-true, cond-false}
use Rattle.std.proofs.lemmas.List.Sums.{sum_by-cons}
use Rattle.std.proofs.lemmas.List.Elements.{All-head, All-tail, All-cons}
use Rattle.std.proofs.lemmas.List.Sorted.{IsPermutation-map, IsPermutation-middle, IsPermutation-sym, All-permutation, sum_by-IsPermutation}
use Rattle.indexmap.proofs.ReorderLemmas.{map-swap}
use Rattle.fol_base.specs.Instance.{Substitution}
use Rattle.fol_base.specs.Clause.{TreeLiteral, literal_instance}
use Rattle.fol_base.specs.Sides.{exchanged}
use Rattle.fol_base.specs.Order.{equivalent_literals}
use Rattle.fol_base.specs.Kind.{is_literal, PutsFunctionTerms}
use Rattle.fol_base.specs.Lent.{lent_of}
use Rattle.fol_base.specs.declared.literal_ref.LiteralRef.{LiteralRef}
use Rattle.fol_base.specs.Subsumption.{stand_at, is_there, all_different, is_among}
use Rattle.fol_base.proofs.AboutOrders.OrderLemmas.{equivalent_literals-decided}
use Rattle.fol_base.proofs.WorkedExamples.TestLemmas.{list_all-item}
use Rattle.unifier.specs.Matching.{HasPairs}
use Rattle.unifier.proofs.AboutMatching.MatchLemmas.{Pairs}
use Rattle.subsume.specs.Kinds.{AreLiterals, TurnsInto, are_alike}
use Rattle.subsume.specs.Choosing.{AreNoPartners, HasNoPartner, IsNoPartner}
use Rattle.subsume.specs.Placing.{IsFoundFor, Places, is_free}
use Rattle.subsume.specs.Target.{IsMapped, Maps}
use Rattle.subsume.proofs.AboutSearch.PlacingLemmas.{alike-needed, below-item, there-within, within}
use Rattle.list_lemmas.proofs.Lists.{length-mapped}
use Rattle.list_lemmas.proofs.Numbers.{below-or-same}

-- ---- either order of the sides

pub stands :
    (σ : Substitution) (l m : TreeLiteral) → IsTrue (equivalent_literals (literal_instance σ l) m)
    → TurnsInto σ l m ⊎ TurnsInto σ l (exchanged m)
stands σ l m h =
    ⊎_elim
    (λ e. inl (record { left = e.0; right = e.1 }))
    (λ e. inr (record { left = e.0; right = e.1 }))
    ((equivalent_literals-decided (literal_instance σ l) m).0 h).1

-- ---- a literal without partners

-- the literal that an instance is
pub record Standing (σ : Substitution) (l : TreeLiteral) (ds : List TreeLiteral) (places : List ℕ) (i : ℕ) : Type 0 where
  pub place : ℕ
  pub other : TreeLiteral
  pub among : slice_get places i ≡ Some place
  pub there : slice_get ds place ≡ Some other
  pub same : equivalent_literals (literal_instance σ l) other ≡ true

pub standing :
    (σ : Substitution) (ls ds : List TreeLiteral) (places : List ℕ) (i : ℕ) (l : TreeLiteral)
    → slice_get ls i ≡ Some l → stand_at σ ls places ds ≡ true → Standing σ l ds places i
standing σ [] ds places i l at h = absurd cc
standing σ (k ∷ ls) ds [] i l at h = absurd (true≢false (sym h))
standing σ (k ∷ ls) ds (p ∷ places) zero l at h =
    let same : k ≡ l = cc in
    let parts = and_parts (is_there (literal_instance σ k) (slice_get ds p)) (stand_at σ ls places ds) h in
    found (slice_get ds p) refl (subst (λ m. is_there (literal_instance σ m) (slice_get ds p) ≡ true) same parts.0)
  where
    found :
        (o : Option TreeLiteral) → slice_get ds p ≡ o → is_there (literal_instance σ l) o ≡ true → Standing σ l ds (p ∷ places) zero
    found None e t = absurd (true≢false (sym t))
    found (Some m) e t = record { place = p; other = m; among = refl; there = e; same = t }
standing σ (k ∷ ls) ds (p ∷ places) (suc i) l at h =
    let later = standing σ ls ds places i l at (and_parts (is_there (literal_instance σ k) (slice_get ds p)) (stand_at σ ls places ds) h).1 in
    record { place = later.place; other = later.other; among = later.among; there = later.there; same = later.same }

-- what is an instance of a literal is alike
pub alike-there :
    (p : ℕ → Bool) (σ : Substitution) (ls ds : List TreeLiteral) (i k : ℕ) (l m : TreeLiteral)
    → PutsFunctionTerms p σ → AreLiterals p ls → AreLiterals p ds → slice_get ls i ≡ Some l → slice_get ds k ≡ Some m
    → equivalent_literals (literal_instance σ l) m ≡ true → are_alike l m ≡ true
alike-there p σ ls ds i k l m puts wl wd at there same =
    alike-needed p σ l m puts (list_all-item (is_literal p) ls i l at wl) (list_all-item (is_literal p) ds k m there wd) same

pub no-partners-none :
    (ls ds : List TreeLiteral) (i : ℕ) (l : TreeLiteral)
    → slice_get ls i ≡ Some l → AreNoPartners [] l ds → IsFoundFor ls ds (IsMapped ls ds) None
no-partners-none ls ds i l at none = λ p wl wd σ puts mapped.
    let s = standing σ ls ds mapped.places i l at mapped.mapped in
    below-item (IsNoPartner [] l) ds s.place s.other s.there none σ tt
    (alike-there p σ ls ds i s.place l s.other puts wl wd at s.there s.same) s.same

-- or none that is free
pub no-free-partner-none :
    (ls ds : List TreeLiteral) (used : List Bool) (so_far : Pairs) (i : ℕ) (l : TreeLiteral)
    → slice_get ls i ≡ Some l → HasNoPartner so_far used l ds (length ds) → IsFoundFor ls ds (Places used ls ds so_far) None
no-free-partner-none ls ds used so_far i l at none = λ p wl wd σ puts does.
    let placed = does.1 in
    let s = standing σ ls ds does.0 i l at placed.mapped in
    none s.place s.other (within ds s.place s.other s.there) s.there (list_all-item (is_free used) does.0 i s.place s.among placed.free) σ placed.has_pairs
    (alike-there p σ ls ds i s.place l s.other puts wl wd at s.there s.same) s.same

-- one target more has been looked at: it is taken, or no partner
pub no-partner-more :
    (so_far : Pairs) (used : List Bool) (l : TreeLiteral) (ds : List TreeLiteral) (at : ℕ) (m : TreeLiteral)
    → slice_get ds at ≡ Some m → (is_free used at ≡ true → IsNoPartner so_far l m)
    → HasNoPartner so_far used l ds at → HasNoPartner so_far used l ds (at + 1)
no-partner-more so_far used l ds at m there here before = λ k n below stands free.
    ⊎_elim
    (λ e. before k n e stands free)
    (λ e.
    let same : Some m ≡ Some n = sym there ∙ ap (slice_get ds) (sym e) ∙ stands in
    let one : m ≡ n = cc in
    subst (IsNoPartner so_far l) one (here (subst (λ j. is_free used j ≡ true) e free)))
    (below-or-same k at below)

pub no-partner-taken :
    (so_far : Pairs) (used : List Bool) (l : TreeLiteral) (ds : List TreeLiteral) (at : ℕ)
    → (is_free used at ≡ true → ⊥) → HasNoPartner so_far used l ds at → HasNoPartner so_far used l ds (at + 1)
no-partner-taken so_far used l ds at taken before = λ k n below stands free.
    ⊎_elim
    (λ e. before k n e stands free)
    (λ e. absurd (taken (subst (λ j. is_free used j ≡ true) e free)))
    (below-or-same k at below)

-- ---- different places in another order

abbrev pub one_of : ℕ → ℕ → ℕ
one_of n k = cond (n == k) 1 0

abbrev pub times : ℕ → List ℕ → ℕ
times n ks = sum_by (one_of n) ks

absent-times : (n : ℕ) (ks : List ℕ) → list_any (λ i. n == i) ks ≡ false → times n ks ≡ 0
absent-times n [] h = refl
absent-times n (k ∷ ks) h =
    let parts = or_parts (n == k) (list_any (λ i. n == i) ks) h in
    omega (arith, sum_by-cons (one_of n) k ks, cond-false {A = ℕ} (n == k) 1 0 parts.0, absent-times n ks parts.1)

there-times : (n : ℕ) (ks : List ℕ) → list_any (λ i. n == i) ks ≡ true → 1 ≤ times n ks
there-times n [] h = absurd (true≢false (sym h))
there-times n (k ∷ ks) h =
    ⊎_elim
    (λ e. omega (arith, sum_by-cons (one_of n) k ks, cond-true {A = ℕ} (n == k) 1 0 e))
    (λ e. omega (arith, sum_by-cons (one_of n) k ks, there-times n ks e))
    (or_cases (n == k) (list_any (λ i. n == i) ks) h)

pub different-times : (ks : List ℕ) → all_different ks ≡ true → (n : ℕ) → times n ks ≤ 1
different-times [] h n = omega arith
different-times (k ∷ ks) h n =
    let parts = and_parts (not (list_any (λ i. k == i) ks)) (all_different ks) h in
    let absent : list_any (λ i. k == i) ks ≡ false = not-true (list_any (λ i. k == i) ks) parts.0 in
    ⊎_elim
    (λ e.
    let gone : times n ks ≡ 0 = absent-times n ks (subst (λ m. list_any (λ i. m == i) ks ≡ false) (sym (eqb-true n k e)) absent) in
    omega (arith, sum_by-cons (one_of n) k ks, cond-true {A = ℕ} (n == k) 1 0 e, gone))
    (λ e. omega (arith, sum_by-cons (one_of n) k ks, cond-false {A = ℕ} (n == k) 1 0 e, different-times ks parts.1 n))
    (cases_Bool (n == k))

times-different : (ks : List ℕ) → ((n : ℕ) → times n ks ≤ 1) → all_different ks ≡ true
times-different [] h = refl
times-different (k ∷ ks) h =
    and_from (not (list_any (λ i. k == i) ks)) (all_different ks)
    (⊎_elim
    (λ e.
    let twice : ⊥ =
    absurd (omega (arith, h k, sum_by-cons (one_of k) k ks, cond-true {A = ℕ} (k == k) 1 0 (eq-eqb k k refl), there-times k ks e)) in
    absurd twice)
    (λ e. ap not e)
    (cases_Bool (list_any (λ i. k == i) ks)))
    (times-different ks (λ n. omega (arith, h n, sum_by-cons (one_of n) k ks)))

pub different-permutation : (ks js : List ℕ) → IsPermutation ks js → all_different ks ≡ true → all_different js ≡ true
different-permutation ks js p h =
    times-different js (λ n. omega (arith, different-times ks h n, sum_by-IsPermutation (one_of n) ks js p))

-- ---- literals with their places

abbrev Placing : Type 0
Placing = TreeLiteral × ℕ

abbrev literal : Placing → TreeLiteral
literal p = p.0

abbrev place : Placing → ℕ
place p = p.1

abbrev Stands : Substitution → List TreeLiteral → Placing → Type 0
Stands σ ds p = is_there (literal_instance σ p.0) (slice_get ds p.1) ≡ true

record Zipped (σ : Substitution) (ds : List TreeLiteral) (ls : List TreeLiteral) (places : List ℕ) : Type 0 where
  pairs : List Placing
  literals : map literal pairs ≡ ls
  places_are : map place pairs ≡ places
  stand : All (Stands σ ds) pairs

zipped : (σ : Substitution) (ls : List TreeLiteral) (places : List ℕ) (ds : List TreeLiteral) → stand_at σ ls places ds ≡ true → Zipped σ ds ls places
zipped σ [] [] ds h = record { pairs = []; literals = refl; places_are = refl; stand = λ k d lt. absurd (omega arith) }
zipped σ [] (k ∷ places) ds h = absurd (true≢false (sym h))
zipped σ (l ∷ ls) [] ds h = absurd (true≢false (sym h))
zipped σ (l ∷ ls) (k ∷ places) ds h =
    let parts = and_parts (is_there (literal_instance σ l) (slice_get ds k)) (stand_at σ ls places ds) h in
    let rest = zipped σ ls places ds parts.1 in
    let first : Placing = (l, k) in
    record {
      pairs = first ∷ rest.pairs;
      literals = ap (λ xs. l ∷ xs) rest.literals;
      places_are = ap (λ xs. k ∷ xs) rest.places_are;
      stand = All-cons (Stands σ ds) first rest.pairs parts.0 rest.stand;
    }

unzipped : (σ : Substitution) (ds : List TreeLiteral) (ps : List Placing) → All (Stands σ ds) ps → stand_at σ (map literal ps) (map place ps) ds ≡ true
unzipped σ ds [] h = refl
unzipped σ ds (p ∷ ps) h =
    and_from (is_there (literal_instance σ p.0) (slice_get ds p.1)) (stand_at σ (map literal ps) (map place ps) ds)
    (All-head (Stands σ ds) p ps h) (unzipped σ ds ps (All-tail (Stands σ ds) p ps h))

swaps-mapped : {X Y : Type 0} (f : X → Y) (xs : List X) (moves : List (ℕ × ℕ)) → map f (apply_swaps xs moves) ≡ apply_swaps (map f xs) moves
swaps-mapped f xs [] = refl
swaps-mapped f xs (m ∷ ms) = map-swap f (apply_swaps xs ms) m.0 m.1 ∙ ap (λ ys. swap ys m.0 m.1) (swaps-mapped f xs ms)

-- what holds of each element holds in another order
all-of : {X : Type 0} (p : X → Bool) (xs : List X) → list_all p xs ≡ true → All (λ x. p x ≡ true) xs
all-of p [] h = λ k d lt. absurd (omega arith)
all-of p (x ∷ xs) h =
    let parts = and_parts (p x) (list_all p xs) h in
    All-cons (λ y. p y ≡ true) x xs parts.0 (all-of p xs parts.1)

of-all : {X : Type 0} (p : X → Bool) (xs : List X) → All (λ x. p x ≡ true) xs → list_all p xs ≡ true
of-all p [] h = refl
of-all p (x ∷ xs) h = and_from (p x) (list_all p xs) (All-head (λ y. p y ≡ true) x xs h) (of-all p xs (All-tail (λ y. p y ≡ true) x xs h))

list_all-permutation : {X : Type 0} (p : X → Bool) (xs ys : List X) → IsPermutation xs ys → list_all p xs ≡ true → list_all p ys ≡ true
list_all-permutation p xs ys perm h = of-all p ys (All-permutation (λ y. p y ≡ true) xs ys perm (all-of p xs h))

pub literals-permutation : (p : ℕ → Bool) (ls os : List TreeLiteral) → IsPermutation ls os → AreLiterals p ls → AreLiterals p os
literals-permutation p ls os perm h = list_all-permutation (is_literal p) ls os perm h

-- what is placed is placed in each order
placed-permutation :
    (σ : Substitution) (ls os ds : List TreeLiteral) (used : List Bool) (so_far : Pairs)
    → IsPermutation ls os → Places used ls ds so_far σ → Places used os ds so_far σ
placed-permutation σ ls os ds used so_far p does =
    let placed = does.1 in
    let z = zipped σ ls does.0 ds placed.mapped in
    let moved : List Placing = apply_swaps z.pairs p.moves in
    let below = subst (λ n. SwapsInRange n p.moves) (ap length (sym z.literals) ∙ length-mapped literal z.pairs) p.below in
    let perm : IsPermutation z.pairs moved = record { moves = p.moves; below = below; is = refl } in
    let literals : map literal moved ≡ os = swaps-mapped literal z.pairs p.moves ∙ ap (λ xs. apply_swaps xs p.moves) z.literals ∙ sym p.is in
    let places : IsPermutation does.0 (map place moved) =
    subst (λ ks. IsPermutation ks (map place moved)) z.places_are (IsPermutation-map place z.pairs moved perm) in (
      map place moved,
      record {
        has_pairs = placed.has_pairs;
        different = different-permutation does.0 (map place moved) places placed.different;
        free = list_all-permutation (is_free used) does.0 (map place moved) places placed.free;
        mapped = subst (λ xs. stand_at σ xs (map place moved) ds ≡ true) literals (unzipped σ ds moved (All-permutation (Stands σ ds) z.pairs moved perm z.stand));
      },
    )

-- a search in another order
pub found-in-order :
    (ls os ds : List TreeLiteral) (used : List Bool) (so_far : Pairs) (found : Option Pairs)
    → IsPermutation ls os → IsFoundFor os ds (Places used os ds so_far) found → IsFoundFor ls ds (Places used ls ds so_far) found
found-in-order ls os ds used so_far None perm h = λ p wl wd σ puts does.
    h p (literals-permutation p ls os perm wl) wd σ puts (placed-permutation σ ls os ds used so_far perm does)
found-in-order ls os ds used so_far (Some pairs) perm h = λ σ has.
    placed-permutation σ os ls ds used so_far (IsPermutation-sym ls os perm) (h σ has)

-- the literal of an index before the others
pub taken-out :
    (xs rest : List LiteralRef) (i : ℕ) (x : LiteralRef) → i < length xs → x ≡ get_or xs i x → rest ≡ take i xs ++ drop (i + 1) xs
    → IsPermutation (map lent_of xs) (lent_of x ∷ map lent_of rest)
taken-out xs rest i x less is e =
    subst (λ ys. IsPermutation (map lent_of xs) (lent_of x ∷ map lent_of ys)) (sym e)
    (subst (λ ys. IsPermutation (map lent_of ys) (lent_of x ∷ map lent_of (take i xs ++ drop (i + 1) xs))) (sym (split xs i x less is))
    (IsPermutation-map lent_of (take i xs ++ x ∷ drop (i + 1) xs) (x ∷ take i xs ++ drop (i + 1) xs)
    (IsPermutation-middle (take i xs) x (drop (i + 1) xs))))
  where
    next : (i : ℕ) → suc (i + 1) ≡ suc i + 1
    next i = omega arith

    split : (xs : List LiteralRef) (i : ℕ) (x : LiteralRef) → i < length xs → x ≡ get_or xs i x → xs ≡ take i xs ++ x ∷ drop (i + 1) xs
    split [] i x h e = absurd (omega arith)
    split (y ∷ ys) zero x h e = ap (λ z. z ∷ ys) (sym e)
    split (y ∷ ys) (suc i) x h e =
        ap (λ zs. y ∷ zs) (split ys i x (omega arith) e) ∙ ap (λ n. y ∷ take i ys ++ x ∷ drop n (y ∷ ys)) (next i)

-- ---- the start of a search

pub found-asserted :
    (needed given : List ℕ) (ls ds : List TreeLiteral) (found : Option Pairs)
    → IsTrue (is_among needed given) → IsFoundFor ls ds (IsMapped ls ds) found → IsFoundFor ls ds (Maps needed ls given ds) found
found-asserted needed given ls ds None asserted h = λ p wl wd σ puts maps. h p wl wd σ puts maps.literals
found-asserted needed given ls ds (Some pairs) asserted h = λ σ has. record { asserted = asserted; literals = h σ has }

-- where no literal was mapped before
free-start : (n k : ℕ) → k < n → is_free (replicate n false) k ≡ true
free-start zero k h = absurd (omega arith)
free-start (suc n) zero h = refl
free-start (suc n) (suc k) h = free-start n k (omega arith)

all-free-start :
    (σ : Substitution) (ls : List TreeLiteral) (places : List ℕ) (ds : List TreeLiteral)
    → stand_at σ ls places ds ≡ true → list_all (is_free (replicate (length ds) false)) places ≡ true
all-free-start σ [] [] ds h = refl
all-free-start σ [] (k ∷ places) ds h = absurd (true≢false (sym h))
all-free-start σ (l ∷ ls) [] ds h = absurd (true≢false (sym h))
all-free-start σ (l ∷ ls) (k ∷ places) ds h =
    let parts = and_parts (is_there (literal_instance σ l) (slice_get ds k)) (stand_at σ ls places ds) h in
    and_from (is_free (replicate (length ds) false) k) (list_all (is_free (replicate (length ds) false)) places)
    (free-start (length ds) k (there-within (literal_instance σ l) ds k parts.0)) (all-free-start σ ls places ds parts.1)

started :
    (n len : ℕ) (items used : List Bool) → items ≡ [] → len ≡ 0 → used ≡ take n items ++ replicate (n - len) false → used ≡ replicate n false
started n len items used e l h =
    h ∙ ap (λ xs. take n xs ++ replicate (n - len) false) e ∙ ap (λ xs. xs ++ replicate (n - len) false) (none n) ∙ ap (λ k. replicate k false) less
  where
    none : (k : ℕ) → take {A = Bool} k [] ≡ []
    none zero = refl
    none (suc k) = refl

    less : n - len ≡ n
    less = omega (arith, l)

pub start-found :
    (ls ds : List TreeLiteral) (n len : ℕ) (items used : List Bool) (so_far : Pairs) (found : Option Pairs)
    → items ≡ [] → len ≡ 0 → used ≡ take n items ++ replicate (n - len) false → n ≡ length ds → so_far ≡ []
    → IsFoundFor ls ds (Places used ls ds so_far) found → IsFoundFor ls ds (IsMapped ls ds) found
start-found ls ds n len items used so_far None e l u c none h = λ p wl wd σ puts mapped.
    let marks : used ≡ replicate (length ds) false = started n len items used e l u ∙ ap (λ k. replicate k false) c in
    h p wl wd σ puts (
      mapped.places,
      record {
        has_pairs = subst (λ ps. HasPairs ps σ) (sym none) tt;
        different = mapped.different;
        free = subst (λ us. list_all (is_free us) mapped.places ≡ true) (sym marks) (all-free-start σ ls mapped.places ds mapped.mapped);
        mapped = mapped.mapped;
      },
    )
start-found ls ds n len items used so_far (Some pairs) e l u c none h = λ σ has.
    let does = h σ has in
    record { places = does.0; different = does.1.different; mapped = does.1.mapped }
