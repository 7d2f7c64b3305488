-- A pair that is taken out and put back.
use Rattle.std.proofs.Common.{◌≡◌, ◌≢◌, ℕ, zero, suc, ◌<◌, List, [], ◌∷◌, length, get_or, refl, ap, sym, ◌∙◌, subst, arith}
use Rattle.std.specs.Prelude.{not, if◌then◌else◌, nat_lt}
use Rattle.std.specs.List.{AllByRecursion}
use Rattle.std.proofs.lemmas.Bool.{eq-eqb, ne_eqb, cond-true, lt-ltb}
use Rattle.clause_queue.specs.Pairs.{with_pair, without, IsAbsent, IsRising}
use Rattle.clause_queue.specs.QueueLaws.{PutBackRestores}
use Rattle.clause_queue.proofs.PairsLemmas.{all-weaker, without_absent, with_pair-append_right}

-- a pair below all others stands first
first-put : (p : ℕ × ℕ) (qs : List (ℕ × ℕ)) → AllByRecursion (λ q. p.0 < q.0) qs → with_pair p qs ≡ p ∷ qs
first-put p [] below = refl
first-put p (q ∷ qs) below = cond-true (nat_lt p.0 q.0) (p ∷ q ∷ qs) (q ∷ with_pair p qs) (lt-ltb p.0 q.0 below.0)

all-at : (P : ℕ × ℕ → Type 0) (qs : List (ℕ × ℕ)) (i : ℕ) (d : ℕ × ℕ) → AllByRecursion P qs → i < length qs → P (get_or qs i d)
all-at P [] i d all below = absurd (omega (arith, below))
all-at P (q ∷ qs) zero d all below = all.0
all-at P (q ∷ qs) (suc i) d all below = all-at P qs i d all.1 (omega (arith, below))

put-back : (p : ℕ × ℕ) (ps : List (ℕ × ℕ)) → IsRising ps → (i : ℕ) → i < length ps → get_or ps i p ≡ p → with_pair p (without p.0 ps) ≡ ps
put-back p [] rising i below is = absurd (omega (arith, below))
put-back p (q ∷ qs) rising zero below is =
    let same : q.0 ≡ p.0 = ap (λ x. x.0) is in
    let above : AllByRecursion (λ r. p.0 < r.0) qs = all-weaker (λ r. q.0 < r.0) (λ r. p.0 < r.0) (λ r h. omega (arith, h, same)) qs rising.0 in
    let absent : IsAbsent p.0 qs = all-weaker (λ r. p.0 < r.0) (λ r. r.0 ≢ p.0) (λ r h e. omega (arith, h, e)) qs above in
    let rest : without p.0 (q ∷ qs) ≡ qs =
    ap (λ b. if not b then q ∷ without p.0 qs else without p.0 qs) (eq-eqb q.0 p.0 same) ∙ without_absent p.0 qs absent in
    ap (with_pair p) rest ∙ first-put p qs above ∙ ap (λ x. x ∷ qs) (sym is)
put-back p (q ∷ qs) rising (suc i) below is =
    let lower : q.0 < p.0 = subst (λ x. q.0 < x.0) is (all-at (λ r. q.0 < r.0) qs i p rising.0 (omega (arith, below))) in
    let kept : without p.0 (q ∷ qs) ≡ q ∷ without p.0 qs =
    ap (λ b. if not b then q ∷ without p.0 qs else without p.0 qs) (ne_eqb q.0 p.0 (λ e. omega (arith, lower, e))) in
    ap (with_pair p) kept
    ∙ with_pair-append_right p (q ∷ []) (without p.0 qs) (omega (arith, lower), tt)
    ∙ ap (λ rs. q ∷ rs) (put-back p qs rising.1 i (omega (arith, below)) is)

pub put_back_restores : PutBackRestores
put_back_restores p ps rising has = put-back p ps rising has.0 has.1 (item ps has.0 has.1 has.2)
  where
    item : (qs : List (ℕ × ℕ)) (i : ℕ) → i < length qs → get_or qs i p ≡ p → get_or qs i p ≡ p
    item qs i below e = e
