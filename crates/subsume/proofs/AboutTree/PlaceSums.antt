-- What instances of literals at different places of a clause have in all is no more than what the clause has.
use Rattle.std.proofs.Common.{◌≡◌, ℕ, ◌≤◌, true, false, List, [], ◌∷◌, Option, None, Some, refl, ap, sym, arith}
use Rattle.std.specs.Prelude.{slice_get, sum_by}
use Rattle.std.proofs.lemmas.Bool.{and_parts, true≢false}
use Rattle.std.proofs.lemmas.List.Sums.{sum_by-cons}
use Rattle.fol_base.specs.Instance.{Substitution}
use Rattle.fol_base.specs.Clause.{TreeLiteral, literal_instance}
use Rattle.fol_base.specs.Order.{equivalent_literals}
use Rattle.fol_base.specs.Subsumption.{stand_at, is_there, all_different}
use Rattle.fol_base.proofs.AboutClauses.PlaceSums.{total, places-total}

-- ---- literals at places

abbrev at_place : (TreeLiteral → ℕ) → Option TreeLiteral → ℕ
at_place w None = 0
at_place w (Some m) = w m

-- A number that no instance has less of, and that doesn't look at the order of sides.
pub record IsMonotone (w : TreeLiteral → ℕ) : Type 0 where
  pub grows : (σ : Substitution) (l : TreeLiteral) → w l ≤ w (literal_instance σ l)
  pub agrees : (l m : TreeLiteral) → equivalent_literals l m ≡ true → w l ≡ w m

one_there :
    (w : TreeLiteral → ℕ) → IsMonotone w → (σ : Substitution) (l : TreeLiteral) (o : Option TreeLiteral)
    → is_there (literal_instance σ l) o ≡ true → w l ≤ at_place w o
one_there w m σ l None h = absurd (true≢false (sym h))
one_there w m σ l (Some d) h = omega (arith, m.grows σ l, m.agrees (literal_instance σ l) d h)

sum-placed :
    (w : TreeLiteral → ℕ) → IsMonotone w → (σ : Substitution) (ls : List TreeLiteral) (places : List ℕ) (ds : List TreeLiteral)
    → stand_at σ ls places ds ≡ true → sum_by w ls ≤ sum_by (λ k. at_place w (slice_get ds k)) places
sum-placed w m σ [] [] ds h = omega arith
sum-placed w m σ [] (k ∷ places) ds h = absurd (true≢false (sym h))
sum-placed w m σ (l ∷ ls) [] ds h = absurd (true≢false (sym h))
sum-placed w m σ (l ∷ ls) (k ∷ places) ds h =
    let parts = and_parts (is_there (literal_instance σ l) (slice_get ds k)) (stand_at σ ls places ds) h in
    omega (
      arith,
      one_there w m σ l (slice_get ds k) parts.0,
      sum-placed w m σ ls places ds parts.1,
      sum_by-cons w l ls,
      sum_by-cons (λ (i : ℕ). at_place w (slice_get ds i)) k places,
    )

sum-total : (w : TreeLiteral → ℕ) (ds : List TreeLiteral) → total (λ k. at_place w (slice_get ds k)) ds ≡ sum_by w ds
sum-total w [] = refl
sum-total w (d ∷ ds) = omega (arith, sum-total w ds, sum_by-cons w d ds)

-- a clause has no more of it than each clause in which instances of its literals stand at different places
pub sum-subsumed :
    (w : TreeLiteral → ℕ) → IsMonotone w → (σ : Substitution) (ls : List TreeLiteral) (places : List ℕ) (ds : List TreeLiteral)
    → all_different places ≡ true → stand_at σ ls places ds ≡ true → sum_by w ls ≤ sum_by w ds
sum-subsumed w m σ ls places ds different h =
    omega (
      arith,
      sum-placed w m σ ls places ds h,
      places-total (λ k. at_place w (slice_get ds k)) ds places (λ i e. ap (at_place w) e) different,
      sum-total w ds,
    )
