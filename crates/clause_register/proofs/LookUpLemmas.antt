-- A walk down the chain of a hash finds the living copy of a clause exactly where there is one.
use Rattle.std.proofs.Common.{◌≡◌, ℕ, zero, suc, ◌<◌, ◌≤◌, true, false, List, [], ◌∷◌, length, get_or, nat_eq, ⊎_elim, refl, ap, sym, ◌∙◌, subst, true≢false, arith}
use Rattle.std.specs.Prelude.{None, Some, is_none, position, slice_get}
use Rattle.std.specs.Option.{unwrap_or}
use Rattle.std.proofs.Math.ListN.{set}
use Rattle.std.proofs.lemmas.Bool.{eq-eqb, and_parts, false_from_ne_true, cases_lt}
use Rattle.std.proofs.lemmas.List.{length-map}
use Rattle.std.proofs.lemmas.Option.{none-some, same_Some, slice_get_within}
use Rattle.indexmap.specs.IndexMap.{get}
use Rattle.bank_clause.specs.Clause.{equal_by_numbers}
use Rattle.bank_clause.specs.declared.clause.BankClause.{BankClause}
use Rattle.bank_clause.proofs.HashLemmas.{hashes-alike}
use Rattle.bank_clause.specs.ClauseHash.{clause_hash}
use Rattle.clause_register.specs.Chained.{newest_below, IsChained}
use Rattle.clause_register.specs.Register.{is_living_copy}
use Rattle.clause_register.specs.RegisterLiving.{hashes, IsOnlyCopy}
use Rattle.clause_register.specs.declared.chains.Chains.{Chains}
use Rattle.clause_register.specs.declared.register.Registration.{Registration}
use Rattle.clause_register.proofs.ChainLemmas.{newest-under, newest-key, newest-last}
use Rattle.clause_register.proofs.PlaceLemmas.{no-place}
use Rattle.clause_register.proofs.RegisterLemmas.{same-copies}

-- ---- the hashes of clauses

pub hash-at : (ss : List Registration) (n : ℕ) (s : Registration) → slice_get ss n ≡ Some s → get_or (hashes ss) n 0 ≡ clause_hash s.clause
hash-at [] n s there = absurd (none-some s there)
hash-at (z ∷ ss) zero s there = ap (λ (y : Registration). clause_hash y.clause) (same_Some z s there)
hash-at (z ∷ ss) (suc n) s there = hash-at ss n s there

-- a registration that is set, with the same clause
pub hashes-set :
    (ss : List Registration) (n : ℕ) (s t : Registration) → slice_get ss n ≡ Some s → t.clause ≡ s.clause → hashes ss ≡ hashes (set ss n t)
hashes-set [] n s t there same = refl
hashes-set (z ∷ ss) zero s t there same =
    ap (λ (k : ℕ). k ∷ hashes ss) (ap (λ (y : Registration). clause_hash y.clause) (same_Some z s there) ∙ ap clause_hash (sym same))
hashes-set (z ∷ ss) (suc n) s t there same = ap (λ (ks : List ℕ). clause_hash z.clause ∷ ks) (hashes-set ss n s t there same)

-- a clause of another hash is no copy
other-hash : (c : BankClause) (hash : ℕ) (s : Registration) → clause_hash c ≡ hash → nat_eq (clause_hash s.clause) hash ≡ false → is_living_copy c s ≡ false
other-hash c hash s is other =
    false_from_ne_true (is_living_copy c s) (λ copy.
    let parts = and_parts (is_none s.death) (equal_by_numbers c s.clause) copy in
    true≢false (sym (eq-eqb (clause_hash s.clause) hash (sym (hashes-alike c s.clause parts.1) ∙ is)) ∙ other))

-- ---- the walk

-- The walk has come to the number before `next`, and no clause from there on is a living copy.
pub record Looks (c : BankClause) (hash : ℕ) (ss : List Registration) (next : ℕ) : Type 0 where
  pub under : next ≤ length ss
  pub above : (m : ℕ) (s : Registration) → next ≤ m → slice_get ss m ≡ Some s → is_living_copy c s ≡ false
  pub hashed : (i : ℕ) → next ≡ suc i → get_or (hashes ss) i 0 ≡ hash

looks-below :
    (c : BankClause) (hash : ℕ) (ss : List Registration) (n next : ℕ) → clause_hash c ≡ hash → n ≤ length ss → next ≡ newest_below hash (hashes ss) n
    → ((m : ℕ) (s : Registration) → n ≤ m → slice_get ss m ≡ Some s → is_living_copy c s ≡ false) → Looks c hash ss next
looks-below c hash ss n next is below e so_far =
    let less : newest_below hash (hashes ss) n ≤ n = newest-under hash (hashes ss) n in
    record {
      under = omega (arith, e, less, below);
      above = λ m s from at.
          ⊎_elim
          (λ (before : m < n).
          other-hash c hash s is
          (ap (λ k. nat_eq k hash) (sym (hash-at ss m s at)) ∙ newest-last hash (hashes ss) n m (subst (λ k. k ≤ m) e from) before))
          (λ (after : n ≤ m). so_far m s after at)
          (cases_lt m n);
      hashed = λ i is_next. newest-key hash (hashes ss) n i (sym e ∙ is_next);
    }

module _ (c : BankClause) (hash : ℕ) (ss : List Registration) (is : clause_hash c ≡ hash) where
  pub looks-first : (chains : Chains) (next : ℕ) → IsChained chains (hashes ss) → next ≡ unwrap_or (get nat_eq chains.newest hash) 0 → Looks c hash ss next
  looks-first chains next chained e =
      looks-below c hash ss (length ss) next is (omega arith)
      (e ∙ chained.newest hash ∙ ap (newest_below hash (hashes ss)) (length-map ss (λ (s : Registration). clause_hash s.clause)))
      (λ m s from at. let within = slice_get_within ss m s at in absurd (omega (arith, from, within)))

  pub looks-on :
      (chains : Chains) (i next : ℕ) (s : Registration) → IsChained chains (hashes ss) → Looks c hash ss (suc i) → slice_get ss i ≡ Some s
      → is_living_copy c s ≡ false → next ≡ get_or chains.older.items i 0 → Looks c hash ss next
  looks-on chains i next s chained looks there other e =
      let under = looks.under in
      let same = length-map ss (λ (z : Registration). clause_hash z.clause) in
      looks-below c hash ss i next is (omega (arith, under))
      (e ∙ chained.links i (omega (arith, under, same)) ∙ ap (λ k. newest_below k (hashes ss) i) (looks.hashed i refl))
      (λ m z from at.
      ⊎_elim
      (λ (before : m < suc i).
      let place : i ≡ m = omega (arith, from, before) in
      let one : s ≡ z = same_Some s z (sym there ∙ ap (slice_get ss) place ∙ at) in
      ap (is_living_copy c) (sym one) ∙ other)
      (λ (after : suc i ≤ m). looks.above m z after at)
      (cases_lt m (suc i)))

  pub looks-falls : (chains : Chains) (i next : ℕ) → IsChained chains (hashes ss) → Looks c hash ss (suc i) → next ≡ get_or chains.older.items i 0 → next ≤ i
  looks-falls chains i next chained looks e =
      let under = looks.under in
      let same = length-map ss (λ (z : Registration). clause_hash z.clause) in
      let is : next ≡ newest_below (get_or (hashes ss) i 0) (hashes ss) i = e ∙ chained.links i (omega (arith, under, same)) in
      let less = newest-under (get_or (hashes ss) i 0) (hashes ss) i in
      omega (arith, is, less)

  pub looks-none : (next : ℕ) → Looks c hash ss next → next ≡ 0 → None ≡ position (is_living_copy c) ss
  looks-none next looks e = sym (no-place (is_living_copy c) ss (λ m s at. looks.above m s (omega (arith, e)) at))

-- a living copy is the one
pub copy-found :
    (c : BankClause) (ss : List Registration) (n : ℕ) (s : Registration) → IsOnlyCopy ss → slice_get ss n ≡ Some s → is_living_copy c s ≡ true
    → Some n ≡ position (is_living_copy c) ss
copy-found c ss n s only there copy =
    let parts = and_parts (is_none s.death) (equal_by_numbers c s.clause) copy in
    sym (ap (λ p. position p ss) (same-copies c s.clause parts.1) ∙ only n s there parts.0)
