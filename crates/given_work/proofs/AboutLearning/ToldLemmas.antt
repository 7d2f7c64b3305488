-- Lists of told numbers, as changes change them.
use Rattle.std.proofs.Common.{◌≡◌, ◌≢◌, ℕ, suc, ◌+◌, ◌<◌, Bool, true, false, not, ◌&&◌, ◌||◌, ◌==◌, List, [], ◌∷◌, ◌++◌, map, length, get_or, append-nil, append_assoc, refl, ap, sym, ◌∙◌, subst, ⊎_elim, arith}
use Rattle.std.specs.Prelude.{cond, fold, filter, AllPairs}
use Rattle.std.specs.List.{list_all}
use Rattle.std.proofs.Math.Seq.{get_or-append_seam}
use Rattle.std.proofs.lemmas.Bool.{true≢false, and_parts, or_cases, eqb-true}
use Rattle.std.proofs.lemmas.List.{length-append, get_or_append_left}
use Rattle.std.proofs.lemmas.List.Sums.{fold-append}
use Rattle.fol_base.specs.Clause.{TreeClause}
use Rattle.kernel_steps.specs.Split.{has_number}
use Rattle.pool_history.specs.Record.{Death, has_died}
use Rattle.pool_history.specs.News.{TreeChange, activated, died}

-- ---- filters

pub filter-twice : (p q : ℕ → Bool) (xs : List ℕ) → filter p (filter q xs) ≡ filter (λ n. q n && p n) xs
filter-twice p q [] = refl
filter-twice p q (x ∷ xs) = by (q x) (filter-twice p q xs)
  where
    by : (b : Bool) → filter p (filter q xs) ≡ filter (λ n. q n && p n) xs → filter p (cond b (x ∷ filter q xs) (filter q xs)) ≡ cond (b && p x) (x ∷ filter (λ n. q n && p n) xs) (filter (λ n. q n && p n) xs)
    by true rest = ap (λ ys. cond (p x) (x ∷ ys) ys) rest
    by false rest = rest

pub filter-every : (p : ℕ → Bool) (xs : List ℕ) → list_all p xs ≡ true → filter p xs ≡ xs
filter-every p [] every = refl
filter-every p (x ∷ xs) every =
    let parts = and_parts (p x) (list_all p xs) every in
    ap (λ b. cond b (x ∷ filter p xs) (filter p xs)) parts.0 ∙ ap (λ ys. x ∷ ys) (filter-every p xs parts.1)

pub neither : (a b : Bool) → not (a || b) ≡ (not a && not b)
neither true b = refl
neither false b = refl

-- ---- changes

abbrev pub told_by : List ℕ → TreeChange → List ℕ
told_by ns (activated n c) = ns ++ n ∷ []
told_by ns (died n) = filter (λ m. not (m == n)) ns

abbrev pub told_all : List ℕ → List TreeChange → List ℕ
told_all ns changes = fold told_by ns changes

-- no number is activated that is told already
abbrev pub IsNewNumber : List ℕ → TreeChange → Type 0
IsNewNumber ns (activated n c) = has_number n ns ≡ false
IsNewNumber ns (died n) = Unit {0}

abbrev pub AreNewNumbers : List ℕ → List TreeChange → Type 0
AreNewNumbers ns [] = Unit {0}
AreNewNumbers ns (c ∷ cs) = IsNewNumber ns c × AreNewNumbers (told_by ns c) cs

pub new-append : (cs ds : List TreeChange) (ns : List ℕ) → AreNewNumbers ns cs → AreNewNumbers (told_all ns cs) ds → AreNewNumbers ns (cs ++ ds)
new-append [] ds ns first second = second
new-append (c ∷ cs) ds ns first second = (first.0, new-append cs ds (told_by ns c) first.1 second)

-- ---- activations

pub told-activated : (clause : ℕ → TreeClause) (ns ms : List ℕ) → told_all ms (map (λ n. activated n (clause n)) ns) ≡ ms ++ ns
told-activated clause [] ms = sym (append-nil ms)
told-activated clause (n ∷ ns) ms = told-activated clause ns (ms ++ n ∷ []) ∙ append_assoc ms (n ∷ []) ns

index-of : (n : ℕ) (ms : List ℕ) → has_number n ms ≡ true → (i : ℕ) × (i < length ms) × (get_or ms i 0 ≡ n)
index-of n [] there = absurd (true≢false (sym there))
index-of n (m ∷ ms) there =
    ⊎_elim
    (λ here. (0, omega arith, sym (eqb-true n m here)))
    (λ later. let at = index-of n ms later in (suc at.0, (let within = at.1 in omega (arith, within)), at.2))
    (or_cases (n == m) (has_number n ms) there)

absent : (ms : List ℕ) (n : ℕ) (ns : List ℕ) → AllPairs (λ k l. k ≢ l) (ms ++ n ∷ ns) → has_number n ms ≡ false
absent ms n ns differ = by (has_number n ms) refl
  where
    by : (b : Bool) → has_number n ms ≡ b → b ≡ false
    by false is = refl
    by true is =
        let at = index-of n ms is in
        let within : at.0 < length ms = at.1 in
        let count : length (ms ++ n ∷ ns) ≡ length ms + length (n ∷ ns) = length-append ms (n ∷ ns) in
        absurd
        (differ at.0 (length ms) 0 within (omega (arith, count))
        (get_or_append_left ms (n ∷ ns) 0 at.0 within ∙ at.2 ∙ sym (get_or-append_seam ms n ns 0)))

pub new-activated :
    (clause : ℕ → TreeClause) (ns ms : List ℕ) → AllPairs (λ k l. k ≢ l) (ms ++ ns) → AreNewNumbers ms (map (λ n. activated n (clause n)) ns)
new-activated clause [] ms differ = tt
new-activated clause (n ∷ ns) ms differ = (
  absent ms n ns differ,
  new-activated clause ns (ms ++ n ∷ []) (subst (AllPairs (λ k l. k ≢ l)) (sym (append_assoc ms (n ∷ []) ns)) differ),
)

-- ---- deaths

pub told-died : (ds : List Death) (ms : List ℕ) → told_all ms (map (λ (d : Death). died d.victim) ds) ≡ filter (λ n. not (has_died ds n)) ms
told-died [] ms = sym (filter-every (λ n. true) ms (every ms))
  where
    every : (xs : List ℕ) → list_all (λ n. true) xs ≡ true
    every [] = refl
    every (x ∷ xs) = every xs
told-died (d ∷ ds) ms =
    told-died ds (filter (λ m. not (m == d.victim)) ms)
    ∙ filter-twice (λ n. not (has_died ds n)) (λ m. not (m == d.victim)) ms
    ∙ ap (λ (p : ℕ → Bool). filter p ms) (λ i n. sym (neither (n == d.victim) (has_died ds n)) i)

pub new-died : (ds : List Death) (ms : List ℕ) → AreNewNumbers ms (map (λ (d : Death). died d.victim) ds)
new-died [] ms = tt
new-died (d ∷ ds) ms = (tt, new-died ds (filter (λ m. not (m == d.victim)) ms))

-- ---- both

-- clauses are activated that didn't die, and then some die
pub told-both :
    (clause : ℕ → TreeClause) (places new : List ℕ) (dead ds : List Death)
    → list_all (λ n. not (has_died dead n)) new ≡ true
    → told_all (filter (λ n. not (has_died dead n)) places) (map (λ n. activated n (clause n)) new ++ map (λ (d : Death). died d.victim) ds)
    ≡ filter (λ n. not (has_died ds n)) (filter (λ n. not (has_died dead n)) places ++ new)
told-both clause places new dead ds living =
    fold-append told_by (filter (λ n. not (has_died dead n)) places) (map (λ n. activated n (clause n)) new) (map (λ (d : Death). died d.victim) ds)
    ∙ ap (λ ms. told_all ms (map (λ (d : Death). died d.victim) ds)) (told-activated clause new (filter (λ n. not (has_died dead n)) places))
    ∙ told-died ds (filter (λ n. not (has_died dead n)) places ++ new)

pub new-both :
    (clause : ℕ → TreeClause) (ms new : List ℕ) (ds : List Death)
    → AllPairs (λ k l. k ≢ l) (ms ++ new)
    → AreNewNumbers ms (map (λ n. activated n (clause n)) new ++ map (λ (d : Death). died d.victim) ds)
new-both clause ms new ds differ =
    new-append (map (λ n. activated n (clause n)) new) (map (λ (d : Death). died d.victim) ds) ms (new-activated clause new ms differ)
    (new-died ds (told_all ms (map (λ n. activated n (clause n)) new)))
