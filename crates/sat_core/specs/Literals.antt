-- Literals as numbers.
use Rattle.std.proofs.Common.{zero, suc, Bool, cond, refl, ap, arith, ⊎_elim}
use Rattle.std.proofs.lemmas.Bool.{cases_eq, eq-eqb, ne_eqb}
use Rattle.std.specs.Prelude.{◌≡◌, ℕ, ◌+◌, ◌*◌, ◌/◌, ◌%◌, ◌<◌, ◌==◌, if◌then◌else◌}
use Rattle.plain_types.specs.declared.sequence.NameLit.{NameLit}

-- a number of its own for each literal
abbrev pub code_of : NameLit → ℕ
code_of l = 2 * l.name + (if l.positive then 1 else 0)

-- the literal of a number
abbrev pub literal_at : ℕ → NameLit
literal_at n = record { positive = n % 2 == 1; name = n / 2 }

-- the number of a number's literal
pub code_literal : (n : ℕ) → code_of (literal_at n) ≡ n
code_literal n =
    ⊎_elim (λ (e : n % 2 ≡ 1). let c : ◌≡◌ {A = ℕ} (cond (n % 2 == 1) 1 0) 1 = ap (λ (b : Bool). cond {A = ℕ} b 1 0) (eq-eqb (n % 2) 1 e) in omega (arith, c, e))
    (λ (e : n % 2 ≡ 1 → ⊥). let c : ◌≡◌ {A = ℕ} (cond (n % 2 == 1) 1 0) 0 = ap (λ (b : Bool). cond {A = ℕ} b 1 0) (ne_eqb (n % 2) 1 e) in let z : n % 2 ≡ 0 = even e in omega (arith, c, z))
    (cases_eq (n % 2) 1)
  where
    even : (n % 2 ≡ 1 → ⊥) → n % 2 ≡ 0
    even h = ⊎_elim (λ (e : n % 2 ≡ 0). e) (λ (e : n % 2 ≡ 0 → ⊥). absurd (h (other (n % 2) e (omega arith)))) (cases_eq (n % 2) 0)
      where
        other : (m : ℕ) → (m ≡ 0 → ⊥) → m < 2 → m ≡ 1
        other zero h w = absurd (h refl)
        other (suc zero) h w = refl
        other (suc (suc m)) h w = absurd (omega (arith, w))
