-- How many pairs a queue has after one was taken out.
use Rattle.std.proofs.Common.{◌≡◌, ◌≢◌, ℕ, zero, suc, ◌+◌, ◌<◌, Bool, true, false, not, ◌==◌, List, [], ◌∷◌, length, get_or, Contains, refl, ap, sym, ◌∙◌, arith}
use Rattle.std.specs.Prelude.{cond}
use Rattle.std.proofs.lemmas.Bool.{eqb-true, eq-eqb, true≢false}
use Rattle.clause_queue.specs.Pairs.{without, numbers, IsAbsent, IsRising}
use Rattle.clause_queue.proofs.Numbers.{absent_from}
use Rattle.clause_queue.proofs.PairsLemmas.{all-weaker, without_absent}

taken-at : (n : ℕ) (ps : List (ℕ × ℕ)) → IsRising ps → (k : ℕ) → k < length (numbers ps) → get_or (numbers ps) k n ≡ n → length ps ≡ length (without n ps) + 1
taken-at n [] rise k below at = absurd (omega (arith, below))
taken-at n (q ∷ qs) rise k below at = by (λ k below at. taken-at n qs rise.1 k below at) (q.0 == n) refl
  where
    later :
        ((k : ℕ) → k < length (numbers qs) → get_or (numbers qs) k n ≡ n → length qs ≡ length (without n qs) + 1)
        → (q.0 == n) ≡ false → (k : ℕ) → k < length (numbers (q ∷ qs)) → get_or (numbers (q ∷ qs)) k n ≡ n → length qs ≡ length (without n qs) + 1
    later rest other zero below at = absurd (true≢false (sym (eq-eqb q.0 n at) ∙ other))
    later rest other (suc k) below at = rest k (omega (arith, below)) at

    by :
        ((k : ℕ) → k < length (numbers qs) → get_or (numbers qs) k n ≡ n → length qs ≡ length (without n qs) + 1)
        → (b : Bool) → (q.0 == n) ≡ b → suc (length qs) ≡ length (cond (not (q.0 == n)) (q ∷ without n qs) (without n qs)) + 1
    by rest true same =
        let is : q.0 ≡ n = eqb-true q.0 n same in
        let absent : IsAbsent n qs = all-weaker (λ r. q.0 < r.0) (λ r. r.0 ≢ n) (λ r h e. omega (arith, h, is, e)) qs rise.0 in
        let gone : length (cond (not (q.0 == n)) (q ∷ without n qs) (without n qs)) ≡ length qs =
        ap (λ b. length (cond (not b) (q ∷ without n qs) (without n qs))) same ∙ ap length (without_absent n qs absent) in
        omega (arith, gone)
    by rest false other =
        let kept : length (cond (not (q.0 == n)) (q ∷ without n qs) (without n qs)) ≡ suc (length (without n qs)) =
        ap (λ b. length (cond (not b) (q ∷ without n qs) (without n qs))) other in
        let less = later rest other k below at in
        omega (arith, kept, less)

pub one-taken : (n : ℕ) (ps : List (ℕ × ℕ)) → IsRising ps → Contains (numbers ps) n → length ps ≡ length (without n ps) + 1
one-taken n ps rise has = taken-at n ps rise has.0 has.1 has.2

pub none-taken : (n : ℕ) (ps : List (ℕ × ℕ)) → (Contains (numbers ps) n → ⊥) → length ps ≡ length (without n ps)
none-taken n ps lacks = sym (ap length (without_absent n ps (absent_from n ps lacks)))
