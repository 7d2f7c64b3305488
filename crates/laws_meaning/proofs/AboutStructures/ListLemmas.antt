-- What holds of each item of a list; the tests of lists of numbers.
use Rattle.std.proofs.Common.{◌≡◌, ℕ, zero, suc, ◌+◌, ◌<◌, ◌≤◌, ◌==◌, Bool, true, false, not, ◌&&◌, ◌||◌, List, [], ◌∷◌, ◌++◌, filter, if◌then◌else◌, refl, ap, sym, ◌∙◌, subst, arith, ⊎_elim}
use Rattle.std.specs.List.{AllByRecursion, list_any, list_all}
use Rattle.std.proofs.lemmas.Bool.{and_parts, and_from, or_left, or_right, or_cases, eqb-true, eq-eqb, true≢false, false_from_ne_true}
use Rattle.fol_base.specs.Canonical.{numbers_from}

-- ---- each item

pub each-parts :
    {X : Type 0} (P : X → Type 0) (xs ys : List X) → AllByRecursion P (xs ++ ys) → AllByRecursion P xs × AllByRecursion P ys
each-parts P [] ys h = (tt, h)
each-parts P (x ∷ xs) ys h = let rest = each-parts P xs ys h.1 in ((h.0, rest.0), rest.1)

pub each-joined :
    {X : Type 0} (P : X → Type 0) (xs ys : List X) → AllByRecursion P xs → AllByRecursion P ys → AllByRecursion P (xs ++ ys)
each-joined P [] ys h k = k
each-joined P (x ∷ xs) ys h k = (h.0, each-joined P xs ys h.1 k)

pub each-weaker :
    {X : Type 0} (P Q : X → Type 0) → ((x : X) → P x → Q x) → (xs : List X) → AllByRecursion P xs → AllByRecursion Q xs
each-weaker P Q w [] h = tt
each-weaker P Q w (x ∷ xs) h = (w x h.0, each-weaker P Q w xs h.1)

pub each-always : {X : Type 0} (P : X → Type 0) → ((x : X) → P x) → (xs : List X) → AllByRecursion P xs
each-always P w [] = tt
each-always P w (x ∷ xs) = (w x, each-always P w xs)

-- what holds of each filtered item, and of each other one, holds of each
pub each-unfiltered :
    {X : Type 0} (R Q : X → Type 0) (p : X → Bool) → ((x : X) → p x ≡ false → R x → Q x)
    → (xs : List X) → AllByRecursion R xs → AllByRecursion Q (filter p xs) → AllByRecursion Q xs
each-unfiltered R Q p w [] r h = tt
each-unfiltered R Q p w (x ∷ xs) r h = by (p x) refl (each-unfiltered R Q p w xs r.1) h
  where
    by :
        (b : Bool) → p x ≡ b → (AllByRecursion Q (filter p xs) → AllByRecursion Q xs)
        → AllByRecursion Q (if b then x ∷ filter p xs else filter p xs) → AllByRecursion Q (x ∷ xs)
    by true e rest g = (g.0, rest g.1)
    by false e rest g = (w x e r.0, rest g)

pub each-filtered : {X : Type 0} (P : X → Type 0) (p : X → Bool) (xs : List X) → AllByRecursion P xs → AllByRecursion P (filter p xs)
each-filtered P p [] h = tt
each-filtered P p (x ∷ xs) h = by (p x) (each-filtered P p xs h.1)
  where
    by : (b : Bool) → AllByRecursion P (filter p xs) → AllByRecursion P (if b then x ∷ filter p xs else filter p xs)
    by true rest = (h.0, rest)
    by false rest = rest

-- ---- tests

pub all-agree : {X : Type 0} (p q : X → Bool) → ((x : X) → p x ≡ q x) → (xs : List X) → list_all p xs ≡ list_all q xs
all-agree p q e xs = ap (λ r. list_all r xs) (λ i. λ x. e x i)

pub any-agree : {X : Type 0} (p q : X → Bool) → ((x : X) → p x ≡ q x) → (xs : List X) → list_any p xs ≡ list_any q xs
any-agree p q e xs = ap (λ r. list_any r xs) (λ i. λ x. e x i)

pub not-all : {X : Type 0} (p : X → Bool) (xs : List X) → not (list_all p xs) ≡ list_any (λ x. not (p x)) xs
not-all p [] = refl
not-all p (x ∷ xs) = by (p x) (not-all p xs)
  where
    by :
        (b : Bool) → not (list_all p xs) ≡ list_any (λ y. not (p y)) xs
        → not (b && list_all p xs) ≡ (not b || list_any (λ y. not (p y)) xs)
    by true rest = rest
    by false rest = refl

pub not-any : {X : Type 0} (p : X → Bool) (xs : List X) → not (list_any p xs) ≡ list_all (λ x. not (p x)) xs
not-any p [] = refl
not-any p (x ∷ xs) = by (p x) (not-any p xs)
  where
    by :
        (b : Bool) → not (list_any p xs) ≡ list_all (λ y. not (p y)) xs
        → not (b || list_any p xs) ≡ (not b && list_all (λ y. not (p y)) xs)
    by true rest = refl
    by false rest = rest

pub all-each : {X : Type 0} (p : X → Bool) (xs : List X) → list_all p xs ≡ true → AllByRecursion (λ x. p x ≡ true) xs
all-each p [] h = tt
all-each p (x ∷ xs) h = let parts = and_parts (p x) (list_all p xs) h in (parts.0, all-each p xs parts.1)

pub each-all : {X : Type 0} (p : X → Bool) (xs : List X) → AllByRecursion (λ x. p x ≡ true) xs → list_all p xs ≡ true
each-all p [] h = refl
each-all p (x ∷ xs) h = and_from (p x) (list_all p xs) h.0 (each-all p xs h.1)

-- ---- numbers

-- whether a number is listed
abbrev pub is_listed : List ℕ → ℕ → Bool
is_listed vs v = list_any (λ w. v == w) vs

pub numbers-between : (first n : ℕ) → AllByRecursion (λ a. (first ≤ a) × (a < first + n)) (numbers_from first n)
numbers-between first zero = tt
numbers-between first (suc n) = (
  (omega arith, omega arith),
  each-weaker (λ a. (suc first ≤ a) × (a < suc first + n)) (λ a. (first ≤ a) × (a < first + suc n)) (λ a h. (omega (arith, h.0), omega (arith, h.1)))
      (numbers_from (suc first) n) (numbers-between (suc first) n),
)

pub numbers-below : (n : ℕ) → AllByRecursion (λ a. a < n) (numbers_from 0 n)
numbers-below n =
    each-weaker (λ a. (0 ≤ a) × (a < 0 + n)) (λ a. a < n) (λ a h. omega (arith, h.1)) (numbers_from 0 n) (numbers-between 0 n)

numbers-listed-from : (first n a : ℕ) → first ≤ a → a < first + n → is_listed (numbers_from first n) a ≡ true
numbers-listed-from first zero a l h = absurd (omega (arith, l, h))
numbers-listed-from first (suc n) a l h = by (a == first) refl (λ more. numbers-listed-from (suc first) n a more (omega (arith, h)))
  where
    apart : (a ≡ first → ⊥) → suc first ≤ a
    apart d = omega (arith, l, d)

    by :
        (b : Bool) → (a == first) ≡ b → (suc first ≤ a → is_listed (numbers_from (suc first) n) a ≡ true)
        → (b || is_listed (numbers_from (suc first) n) a) ≡ true
    by true e rest = refl
    by false e rest = rest (apart (λ same. true≢false (sym (eq-eqb a first same) ∙ e)))

pub numbers-listed : (n a : ℕ) → a < n → is_listed (numbers_from 0 n) a ≡ true
numbers-listed n a h = numbers-listed-from 0 n a (omega arith) (omega (arith, h))

-- what holds of each listed number
pub each-listed : (P : ℕ → Type 0) (vs : List ℕ) (v : ℕ) → AllByRecursion P vs → is_listed vs v ≡ true → P v
each-listed P [] v h l = absurd (true≢false (sym l))
each-listed P (w ∷ vs) v h l =
    ⊎_elim (λ e. subst P (sym (eqb-true v w e)) h.0) (λ e. each-listed P vs v h.1 e) (or_cases (v == w) (is_listed vs v) l)

pub listed-itself : (vs : List ℕ) → AllByRecursion (λ v. is_listed vs v ≡ true) vs
listed-itself [] = tt
listed-itself (w ∷ vs) = (
  or_left (w == w) (is_listed vs w) (eq-eqb w w refl),
  each-weaker (λ v. is_listed vs v ≡ true) (λ v. is_listed (w ∷ vs) v ≡ true) (λ v h. or_right (v == w) (is_listed vs v) h) vs (listed-itself vs),
)

pub listed-filtered : (p : ℕ → Bool) (vs : List ℕ) (v : ℕ) → p v ≡ true → is_listed vs v ≡ true → is_listed (filter p vs) v ≡ true
listed-filtered p [] v e l = l
listed-filtered p (w ∷ vs) v e l = by (p w) refl (listed-filtered p vs v e)
  where
    by :
        (b : Bool) → p w ≡ b → (is_listed vs v ≡ true → is_listed (filter p vs) v ≡ true)
        → is_listed (if b then w ∷ filter p vs else filter p vs) v ≡ true
    by true k rest =
        ⊎_elim
        (λ same. or_left (v == w) (is_listed (filter p vs) v) same)
        (λ later. or_right (v == w) (is_listed (filter p vs) v) (rest later))
        (or_cases (v == w) (is_listed vs v) l)
    by false k rest =
        ⊎_elim
        (λ same. absurd (true≢false (sym e ∙ ap p (eqb-true v w same) ∙ k)))
        (λ later. rest later)
        (or_cases (v == w) (is_listed vs v) l)

pub passing : (q : ℕ → Bool) (ws : List ℕ) → AllByRecursion (λ w. q w ≡ true) (filter q ws)
passing q [] = tt
passing q (w ∷ ws) = by (q w) refl (passing q ws)
  where
    by :
        (b : Bool) → q w ≡ b → AllByRecursion (λ u. q u ≡ true) (filter q ws)
        → AllByRecursion (λ u. q u ≡ true) (if b then w ∷ filter q ws else filter q ws)
    by true k rest = (k, rest)
    by false k rest = rest

pub unlisted-filtered : (p : ℕ → Bool) (vs : List ℕ) (v : ℕ) → p v ≡ false → is_listed (filter p vs) v ≡ false
unlisted-filtered p vs v e =
    false_from_ne_true (is_listed (filter p vs) v)
    (λ l. true≢false (sym (each-listed (λ w. p w ≡ true) (filter p vs) v (passing p vs) l) ∙ e))
