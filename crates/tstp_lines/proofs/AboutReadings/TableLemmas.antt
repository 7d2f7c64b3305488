-- Tables of names, and the places of what is in a list.
use Rattle.std.proofs.Common.{◌≡◌, ℕ, suc, ◌+◌, Bool, true, false, not, ◌||◌, List, [], ◌∷◌, ◌++◌, length, map, fold, cond, refl, ap, sym, ◌∙◌, arith}
use Rattle.std.specs.Prelude.{bytes_eq, position, Some, None, nat_lt, IsFalse, IfOk, Result, if◌then◌else◌}
use Rattle.std.specs.Global.{Vec}
use Rattle.std.specs.List.{list_any, position_or_len}
use Rattle.std.specs.declared.result.Result.TheVariants.{Ok, Err}
use Rattle.tstp_lines.specs.Tables.{texts_of}
use Rattle.list_lemmas.proofs.Tests.{position-past, any-kept, position-kept}
use Rattle.list_lemmas.proofs.Lists.{length-mapped}

-- ---- places

place-mapped : {X Y : Type 0} (h : X → Y) (p : Y → Bool) (xs : List X) → position_or_len (λ x. p (h x)) xs ≡ position_or_len p (map h xs)
place-mapped h p [] = refl
place-mapped h p (x ∷ xs) = ap (λ n. cond (not (p (h x))) (1 + n) 0) (place-mapped h p xs)

any-mapped : {X Y : Type 0} (h : X → Y) (p : Y → Bool) (xs : List X) → list_any (λ x. p (h x)) xs ≡ list_any p (map h xs)
any-mapped h p [] = refl
any-mapped h p (x ∷ xs) = ap (λ b. p (h x) || b) (any-mapped h p xs)

pub map-appended : {X Y : Type 0} (h : X → Y) (xs ys : List X) → map h (xs ++ ys) ≡ map h xs ++ map h ys
map-appended h [] ys = refl
map-appended h (x ∷ xs) ys = ap (λ zs. h x ∷ zs) (map-appended h xs ys)

-- one that is new comes last
pub last-place :
    {X : Type 0} (p : X → Bool) (x : X) (known : List X) → p x ≡ true → list_any p known ≡ false → position_or_len p (known ++ x ∷ []) ≡ length known
last-place p x [] h f = ap (λ b. cond (not b) 1 0) h
last-place p x (k ∷ known) h f = by (p k) f (last-place p x known h)
  where
    by :
        (b : Bool) → (b || list_any p known) ≡ false → (list_any p known ≡ false → position_or_len p (known ++ x ∷ []) ≡ length known)
        → cond (not b) (1 + position_or_len p (known ++ x ∷ [])) 0 ≡ suc (length known)
    by true g r = cc
    by false g r = omega (arith, r g)

any-last : {X : Type 0} (p : X → Bool) (x : X) (known : List X) → p x ≡ true → list_any p (known ++ x ∷ []) ≡ true
any-last p x [] h = ap (λ b. b || false) h
any-last p x (k ∷ known) h = ap (λ b. p k || b) (any-last p x known h) ∙ or-true (p k)
  where
    or-true : (b : Bool) → (b || true) ≡ true
    or-true true = refl
    or-true false = refl

-- ---- what is met comes at the end, unless it is there

abbrev pub with_new : {X : Type 0} → (X → X → Bool) → List X → X → List X
with_new eq known x = if list_any (eq x) known then known else known ++ x ∷ []

place-with : {X : Type 0} (eq : X → X → Bool) (p : X → Bool) (known : List X) (x : X) → list_any p known ≡ true → position_or_len p (with_new eq known x) ≡ position_or_len p known
place-with eq p known x h = by (list_any (eq x) known)
  where
    by : (b : Bool) → position_or_len p (if b then known else known ++ x ∷ []) ≡ position_or_len p known
    by true = refl
    by false = position-kept p known (x ∷ []) h

any-with : {X : Type 0} (eq : X → X → Bool) (p : X → Bool) (known : List X) (x : X) → list_any p known ≡ true → list_any p (with_new eq known x) ≡ true
any-with eq p known x h = by (list_any (eq x) known)
  where
    by : (b : Bool) → list_any p (if b then known else known ++ x ∷ []) ≡ true
    by true = h
    by false = any-kept p known (x ∷ []) h

pub place-stays :
    {X : Type 0} (eq : X → X → Bool) (p : X → Bool) (known xs : List X)
    → list_any p known ≡ true → position_or_len p (fold (with_new eq) known xs) ≡ position_or_len p known
place-stays eq p known [] h = refl
place-stays eq p known (x ∷ xs) h = place-stays eq p (with_new eq known x) xs (any-with eq p known x h) ∙ place-with eq p known x h

pub any-stays : {X : Type 0} (eq : X → X → Bool) (p : X → Bool) (known xs : List X) → list_any p known ≡ true → list_any p (fold (with_new eq) known xs) ≡ true
any-stays eq p known [] h = h
any-stays eq p known (x ∷ xs) h = any-stays eq p (with_new eq known x) xs (any-with eq p known x h)

-- what was met is there
pub any-met : {X : Type 0} (eq : X → X → Bool) (known : List X) (x : X) → eq x x ≡ true → list_any (eq x) (with_new eq known x) ≡ true
any-met eq known x h = by (list_any (eq x) known) refl
  where
    by : (b : Bool) → list_any (eq x) known ≡ b → list_any (eq x) (if b then known else known ++ x ∷ []) ≡ true
    by true e = e
    by false e = any-last (eq x) x known h

pub met-known : {X : Type 0} (eq : X → X → Bool) (known : List X) (x : X) → true ≡ list_any (eq x) known → known ≡ with_new eq known x
met-known eq known x h = ap (λ b. if b then known else known ++ x ∷ []) h

pub met-new : {X : Type 0} (eq : X → X → Bool) (known new : List X) (x : X) → false ≡ list_any (eq x) known → new ≡ known ++ x ∷ [] → new ≡ with_new eq known x
met-new eq known new x h n = n ∙ ap (λ b. if b then known else known ++ x ∷ []) h

pub number-new :
    {X : Type 0} (eq : X → X → Bool) (known new : List X) (x : X) (number : ℕ)
    → eq x x ≡ true → false ≡ list_any (eq x) known → new ≡ known ++ x ∷ [] → number ≡ length known → number ≡ position_or_len (eq x) new
number-new eq known new x number r h n e = e ∙ sym (last-place (eq x) x known r (sym h)) ∙ ap (position_or_len (eq x)) (sym n)

-- the same of what a call answers
pub added-number :
    {X E : Type 0} (eq : X → X → Bool) (r : Result ℕ E) (known new : List X) (x y z : X)
    → x ≡ y → y ≡ z → eq z z ≡ true → false ≡ list_any (eq y) known
    → IfOk r (λ _. new ≡ known ++ x ∷ []) → IfOk r (λ number. number ≡ length known) → IfOk r (λ number. number ≡ position_or_len (eq z) new)
added-number eq (Ok number) known new x y z e f s h added n =
    number-new eq known new z number s (h ∙ ap (λ k. list_any (eq k) known) f) (added ∙ ap (λ k. known ++ k ∷ []) (e ∙ f)) n
added-number eq (Err fault) known new x y z e f s h added n = tt

-- ---- the vectors of a table

-- the place of a text among vectors
pub place-of-text :
    (q : List ℕ) (vs : List (Vec ℕ)) (names : List (List ℕ)) → texts_of vs ≡ names → position (λ (v : Vec ℕ). bytes_eq q v.items) vs ≡ position (bytes_eq q) names
place-of-text q vs names e =
    ap (λ n. cond (nat_lt n (length vs)) (Some n) None) (place-mapped (λ (v : Vec ℕ). v.items) (bytes_eq q) vs)
    ∙ ap (λ l. cond (nat_lt (position_or_len (bytes_eq q) (texts_of vs)) l) (Some (position_or_len (bytes_eq q) (texts_of vs))) None)
    (sym (length-mapped (λ (v : Vec ℕ). v.items) vs))
    ∙ ap (position (bytes_eq q)) e

no-text : (v : Vec ℕ) (vs : List (Vec ℕ)) (names : List (List ℕ)) → texts_of vs ≡ names → list_any (bytes_eq v.items) names ≡ false → list_any (λ (w : Vec ℕ). bytes_eq v.items w.items) vs ≡ false
no-text v vs names e f = any-mapped (λ (w : Vec ℕ). w.items) (bytes_eq v.items) vs ∙ ap (list_any (bytes_eq v.items)) e ∙ f

-- a new one at the end
pub text-added :
    (v : Vec ℕ) (vs new : List (Vec ℕ)) (names : List (List ℕ)) (text : List ℕ)
    → texts_of vs ≡ names → v.items ≡ text → IsFalse (list_any (bytes_eq text) names)
    → new ≡ (if list_any (λ (w : Vec ℕ). bytes_eq v.items w.items) vs then vs else vs ++ v ∷ [])
    → texts_of new ≡ names ++ text ∷ []
text-added v vs new names text e t f n =
    ap texts_of (n ∙ ap (λ b. if b then vs else vs ++ v ∷ []) (no-text v vs names e (ap (λ u. list_any (bytes_eq u) names) t ∙ f)))
    ∙ map-appended (λ (w : Vec ℕ). w.items) vs (v ∷ [])
    ∙ ap (λ xs. xs ++ v.items ∷ []) e
    ∙ ap (λ u. names ++ u ∷ []) t

pub text-found :
    (q : List ℕ) (vs : List (Vec ℕ)) (names : List (List ℕ)) → texts_of vs ≡ names → list_any (λ (v : Vec ℕ). bytes_eq q v.items) vs ≡ list_any (bytes_eq q) names
text-found q vs names e = any-mapped (λ (v : Vec ℕ). v.items) (bytes_eq q) vs ∙ ap (list_any (bytes_eq q)) e

pub text-numbered :
    (v : Vec ℕ) (vs : List (Vec ℕ)) (names : List (List ℕ)) (text : List ℕ) (place : ℕ)
    → texts_of vs ≡ names → v.items ≡ text → IsFalse (list_any (bytes_eq text) names)
    → place ≡ position_or_len (λ (w : Vec ℕ). bytes_eq v.items w.items) vs
    → place ≡ length names
text-numbered v vs names text place e t f p =
    p ∙ position-past _ vs (no-text v vs names e (ap (λ u. list_any (bytes_eq u) names) t ∙ f))
    ∙ sym (length-mapped (λ (w : Vec ℕ). w.items) vs) ∙ ap length e
