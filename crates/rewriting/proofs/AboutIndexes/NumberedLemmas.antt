-- Clauses by their numbers: in a map whose values have a clause each, and in the list of members that contracts see.
use Rattle.std.proofs.Common.{◌≡◌, ℕ, Bool, true, false, List, [], ◌∷◌, map, refl, ap, ap₂, sym, ◌∙◌, subst, ⊎_elim, Bor}
use Rattle.std.specs.Prelude.{Option, None, Some, option_map, option_copied, cond, nat_eq, if◌then◌else◌, ◌==◌}
use Rattle.std.specs.Map.{lookup}
use Rattle.std.proofs.lemmas.Bool.{cases_Bool, cond-true, cond-false, eq-eqb, eqb-true, true≢false}
use Rattle.std.proofs.lemmas.Option.{none-some, same_Some}
use Rattle.term_bank.specs.declared.bank.Bank.{Bank}
use Rattle.bank_clause.specs.declared.member.Member.{Member}
use Rattle.bank_clause.specs.Clause.{IsClauseOf}
use Rattle.bank_clause.specs.declared.clause.BankClause.{BankClause}
use Rattle.rewriting.specs.Units.{clause_numbered, AreClausesOf}

pub from-map : {X Y : Type 0} (f : X → Y) (o : Option X) (y : Y) → option_map f o ≡ Some y → (x : X) × (o ≡ Some x) × (f x ≡ y)
from-map f None y h = absurd (none-some y h)
from-map f (Some x) y h = (x, refl, same_Some (f x) y h)

-- ---- the list of a map

module _ {V : Type 0} (clause_in : V → BankClause) where
  abbrev pub member_in : ℕ × V → Member
  member_in e = record { number = e.0; clause = clause_in e.1 }

  step :
      (b : Bool) (v : V) (x : Option BankClause) (o : Option V)
      → x ≡ option_map clause_in o → (if b then Some (clause_in v) else x) ≡ option_map clause_in (cond b (Some v) o)
  step true v x o h = refl
  step false v x o h = h

  step-none : (b : Bool) (x : Option BankClause) (o : Option V) → x ≡ option_map clause_in o → (if b then None else x) ≡ option_map clause_in (cond b None o)
  step-none true x o h = refl
  step-none false x o h = h

  pub numbered : (n : ℕ) (es : List (ℕ × V)) → clause_numbered n (map member_in es) ≡ option_map clause_in (lookup (nat_eq n) es)
  numbered n [] = refl
  numbered n (e ∷ es) = step (nat_eq n e.0) e.1 (clause_numbered n (map member_in es)) (lookup (nat_eq n) es) (numbered n es)

  pub lent-clause :
      (n : ℕ) (es : List (ℕ × V)) (o : Option (Bor V)) → option_copied o ≡ lookup (nat_eq n) es
      → option_map (λ (v : Bor V). clause_in v.now) o ≡ clause_numbered n (map member_in es)
  lent-clause n es None h = ap (option_map clause_in) h ∙ sym (numbered n es)
  lent-clause n es (Some v) h = ap (option_map clause_in) h ∙ sym (numbered n es)

  pub put-numbered :
      (number key : ℕ) (es fs : List (ℕ × V)) (v : V) (clause : BankClause)
      → key ≡ number → clause_in v ≡ clause → ((n : ℕ) → lookup (nat_eq n) fs ≡ cond (nat_eq key n) (Some v) (lookup (nat_eq n) es))
      → (n : ℕ) → clause_numbered n (map member_in fs) ≡ (if number == n then Some clause else clause_numbered n (map member_in es))
  put-numbered number key es fs v clause same is put n =
      numbered n fs
      ∙ ap (option_map clause_in) (put n)
      ∙ sym (step (nat_eq key n) v (clause_numbered n (map member_in es)) (lookup (nat_eq n) es) (numbered n es))
      ∙ ap₂ (λ (k : ℕ) (d : BankClause). if k == n then Some d else clause_numbered n (map member_in es)) same is

  pub taken-numbered :
      (number key : ℕ) (es fs : List (ℕ × V))
      → key ≡ number → ((n : ℕ) → lookup (nat_eq n) fs ≡ cond (nat_eq key n) None (lookup (nat_eq n) es))
      → (n : ℕ) → clause_numbered n (map member_in fs) ≡ (if number == n then None else clause_numbered n (map member_in es))
  taken-numbered number key es fs same taken n =
      numbered n fs
      ∙ ap (option_map clause_in) (taken n)
      ∙ sym (step-none (nat_eq key n) (clause_numbered n (map member_in es)) (lookup (nat_eq n) es) (numbered n es))
      ∙ ap (λ (k : ℕ). if k == n then None else clause_numbered n (map member_in es)) same

  pub found-numbered :
      (number key : ℕ) (es : List (ℕ × V)) (o : Option V) → key ≡ number → o ≡ lookup (nat_eq key) es
      → clause_numbered number (map member_in es) ≡ option_map clause_in o
  found-numbered number key es o same is =
      numbered number es ∙ ap (λ k. option_map clause_in (lookup (nat_eq k) es)) (sym same) ∙ ap (option_map clause_in) (sym is)

  -- ---- what is known of each value, at its number

  -- the map stays, and has no value at the number
  pub absent-kept :
      (At Then : ℕ → V → Type 0) (number : ℕ) (es fs : List (ℕ × V))
      → fs ≡ es → ((n : ℕ) (v : V) → (n ≡ number → ⊥) → At n v → Then n v) → clause_numbered number (map member_in es) ≡ None
      → ((n : ℕ) (v : V) → lookup (nat_eq n) es ≡ Some v → At n v)
      → (n : ℕ) (v : V) → lookup (nat_eq n) fs ≡ Some v → Then n v
  absent-kept At Then number es fs same keeps absent at n v there =
      let in_es : lookup (nat_eq n) es ≡ Some v = ap (lookup (nat_eq n)) (sym same) ∙ there in
      keeps n v
      (λ equal.
      none-some (clause_in v)
      (sym absent ∙ ap (λ k. clause_numbered k (map member_in es)) (sym equal) ∙ numbered n es ∙ ap (option_map clause_in) in_es))
      (at n v in_es)

-- one more
pub put-known :
    {V : Type 0} (At Then : ℕ → V → Type 0) (number key : ℕ) (es fs : List (ℕ × V)) (u : V)
    → key ≡ number → ((n : ℕ) → lookup (nat_eq n) fs ≡ cond (nat_eq key n) (Some u) (lookup (nat_eq n) es))
    → ((n : ℕ) (v : V) → (n ≡ number → ⊥) → At n v → Then n v) → Then number u
    → ((n : ℕ) (v : V) → lookup (nat_eq n) es ≡ Some v → At n v)
    → (n : ℕ) (v : V) → lookup (nat_eq n) fs ≡ Some v → Then n v
put-known At Then number key es fs u same put keeps made at n v there =
    ⊎_elim
    (λ yes.
    let is : u ≡ v = same_Some u v (sym (cond-true (nat_eq key n) (Some u) (lookup (nat_eq n) es) yes) ∙ sym (put n) ∙ there) in
    subst (Then n) is (subst (λ k. Then k u) (sym same ∙ eqb-true key n yes) made))
    (λ no_it.
    keeps n v
    (λ equal. true≢false (sym (eq-eqb key n (same ∙ sym equal)) ∙ no_it))
    (at n v (sym (cond-false (nat_eq key n) (Some u) (lookup (nat_eq n) es) no_it) ∙ sym (put n) ∙ there)))
    (cases_Bool (nat_eq key n))

-- one fewer
pub taken-known :
    {V : Type 0} (At Then : ℕ → V → Type 0) (number key : ℕ) (es fs : List (ℕ × V))
    → key ≡ number → ((n : ℕ) → lookup (nat_eq n) fs ≡ cond (nat_eq key n) None (lookup (nat_eq n) es))
    → ((n : ℕ) (v : V) → (n ≡ number → ⊥) → At n v → Then n v)
    → ((n : ℕ) (v : V) → lookup (nat_eq n) es ≡ Some v → At n v)
    → (n : ℕ) (v : V) → lookup (nat_eq n) fs ≡ Some v → Then n v
taken-known At Then number key es fs same taken keeps at n v there =
    ⊎_elim
    (λ yes. absurd (none-some v (sym (cond-true (nat_eq key n) None (lookup (nat_eq n) es) yes) ∙ sym (taken n) ∙ there)))
    (λ no_it.
    keeps n v
    (λ equal. true≢false (sym (eq-eqb key n (same ∙ sym equal)) ∙ no_it))
    (at n v (sym (cond-false (nat_eq key n) None (lookup (nat_eq n) es) no_it) ∙ sym (taken n) ∙ there)))
    (cases_Bool (nat_eq key n))

-- ---- the clauses' bank

pub put-of-bank :
    (bank : Bank) (old new : List Member) (number : ℕ) (clause : BankClause)
    → ((n : ℕ) → clause_numbered n new ≡ (if number == n then Some clause else clause_numbered n old)) → IsClauseOf bank clause
    → AreClausesOf bank old → AreClausesOf bank new
put-of-bank bank old new number clause put of_bank all n c there =
    ⊎_elim
    (λ yes.
    subst (λ d. IsClauseOf bank d)
    (same_Some clause c (sym (cond-true (number == n) (Some clause) (clause_numbered n old) yes) ∙ sym (put n) ∙ there)) of_bank)
    (λ no_it. all n c (sym (cond-false (number == n) (Some clause) (clause_numbered n old) no_it) ∙ sym (put n) ∙ there))
    (cases_Bool (number == n))

pub taken-of-bank :
    (bank : Bank) (old new : List Member) (number : ℕ)
    → ((n : ℕ) → clause_numbered n new ≡ (if number == n then None else clause_numbered n old))
    → AreClausesOf bank old → AreClausesOf bank new
taken-of-bank bank old new number taken all n c there =
    ⊎_elim
    (λ yes. absurd (none-some c (sym (cond-true (number == n) None (clause_numbered n old) yes) ∙ sym (taken n) ∙ there)))
    (λ no_it. all n c (sym (cond-false (number == n) None (clause_numbered n old) no_it) ∙ sym (taken n) ∙ there))
    (cases_Bool (number == n))
