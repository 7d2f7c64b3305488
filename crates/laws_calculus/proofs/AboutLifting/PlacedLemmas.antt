-- Literals that stand at different places of a clause, as subsumption has them.
use Rattle.std.proofs.Common.{◌≡◌, ℕ, ◌≤◌, Bool, true, false, ◌||◌, ◌==◌, List, [], ◌∷◌, Option, None, Some, map, refl, ap, sym, ◌∙◌, inl, ⊎_elim, arith, if◌then◌else◌}
use Rattle.std.specs.Prelude.{not, slice_get, sum_by}
use Rattle.std.specs.List.{cons_option, list_any}
use Rattle.std.proofs.lemmas.Bool.{and_parts, and_from, or_cases, or_parts, not-true, true≢false}
use Rattle.std.proofs.lemmas.List.Sums.{sum_by-cons}
use Rattle.fol_base.specs.Instance.{Substitution}
use Rattle.fol_base.specs.Clause.{TreeLiteral, literal_instance}
use Rattle.fol_base.specs.Multiset.{times}
use Rattle.fol_base.specs.Order.{equivalent_literals, literal_greater}
use Rattle.fol_base.specs.Interpretation.{Interpretation, Assignment, literal_true_under, literals_true_under}
use Rattle.fol_base.specs.Subsumption.{stand_at, is_there, all_different}
use Rattle.fol_base.proofs.AboutClauses.CountLemmas.{times-cons}
use Rattle.fol_base.proofs.AboutOrders.OrderLemmas.{literals_equivalence, equivalent_literals-decided}
use Rattle.fol_base.proofs.AboutClauses.InferenceLemmas.{literal_in_instance, equivalent_literals-instance}
use Rattle.fol_base.proofs.AboutClauses.PlaceSums.{later, total, places-total}
use Rattle.kbo_order.proofs.AboutMultisets.MultisetLemmas.{Fits-times}
use Rattle.kbo_order.proofs.AboutLaws.StrictOrderLemmas.{literals_ordered}
use Rattle.kernel_steps.specs.Split.{literals_at}
use Rattle.kernel_steps.proofs.AboutCalls.ItemLemmas.{list_any-item}
use Rattle.kernel_steps.proofs.AboutSoundness.RuleTruth.{equivalent-truth}

-- ---- literals at places

-- each literal of the first list is the same as the one at its place of the second, sides in either order
abbrev pub Placed : List TreeLiteral → List ℕ → List TreeLiteral → Type 0
Placed [] [] ds = Unit {0}
Placed [] (k ∷ places) ds = ⊥
Placed (l ∷ ls) [] ds = ⊥
Placed (l ∷ ls) (k ∷ places) ds = ((m : TreeLiteral) × (slice_get ds k ≡ Some m) × (equivalent_literals l m ≡ true)) × Placed ls places ds

there : (l : TreeLiteral) (o : Option TreeLiteral) → is_there l o ≡ true → (m : TreeLiteral) × (o ≡ Some m) × (equivalent_literals l m ≡ true)
there l None h = absurd (true≢false (sym h))
there l (Some m) h = (m, refl, h)

pub placed :
    (σ : Substitution) (ls : List TreeLiteral) (places : List ℕ) (ds : List TreeLiteral)
    → stand_at σ ls places ds ≡ true → Placed (map (literal_instance σ) ls) places ds
placed σ [] [] ds h = tt
placed σ [] (k ∷ places) ds h = absurd (true≢false (sym h))
placed σ (l ∷ ls) [] ds h = absurd (true≢false (sym h))
placed σ (l ∷ ls) (k ∷ places) ds h =
    let parts = and_parts (is_there (literal_instance σ l) (slice_get ds k)) (stand_at σ ls places ds) h in
    (there (literal_instance σ l) (slice_get ds k) parts.0, placed σ ls places ds parts.1)

-- ---- the literals that are taken from places

-- a place more, if there is a literal
abbrev pub and_place : Option TreeLiteral → ℕ → List ℕ → List ℕ
and_place None k places = places
and_place (Some m) k places = k ∷ places

-- the places at which there is a literal
abbrev pub places_in : List TreeLiteral → List ℕ → List ℕ
places_in ds [] = []
places_in ds (k ∷ places) = and_place (slice_get ds k) k (places_in ds places)

one_more_placed :
    (ds : List TreeLiteral) (k : ℕ) (o : Option TreeLiteral) (ls : List TreeLiteral) (places : List ℕ)
    → slice_get ds k ≡ o → Placed ls places ds → Placed (cons_option o ls) (and_place o k places) ds
one_more_placed ds k None ls places at rest = rest
one_more_placed ds k (Some m) ls places at rest = ((m, at, (equivalent_literals-decided m m).1 (refl, inl (refl, refl))), rest)

pub placed-there : (ds : List TreeLiteral) (places : List ℕ) → Placed (literals_at ds places) (places_in ds places) ds
placed-there ds [] = tt
placed-there ds (k ∷ places) =
    one_more_placed ds k (slice_get ds k) (literals_at ds places) (places_in ds places) refl (placed-there ds places)

-- those places are different, where all are
one_more_absent :
    (i k : ℕ) (o : Option TreeLiteral) (places : List ℕ)
    → (i == k) ≡ false → list_any (λ j. i == j) places ≡ false → list_any (λ j. i == j) (and_place o k places) ≡ false
one_more_absent i k None places here later = later
one_more_absent i k (Some m) places here later = ap (λ (b : Bool). b || list_any (λ j. i == j) places) here ∙ later

absent_in :
    (i : ℕ) (ds : List TreeLiteral) (places : List ℕ)
    → list_any (λ j. i == j) places ≡ false → list_any (λ j. i == j) (places_in ds places) ≡ false
absent_in i ds [] h = h
absent_in i ds (k ∷ places) h =
    let parts = or_parts (i == k) (list_any (λ j. i == j) places) h in
    one_more_absent i k (slice_get ds k) (places_in ds places) parts.0 (absent_in i ds places parts.1)

one_more_different :
    (k : ℕ) (o : Option TreeLiteral) (places : List ℕ)
    → list_any (λ j. k == j) places ≡ false → all_different places ≡ true → all_different (and_place o k places) ≡ true
one_more_different k None places absent different = different
one_more_different k (Some m) places absent different =
    and_from (not (list_any (λ j. k == j) places)) (all_different places) (ap not absent) different

pub places_in-different :
    (ds : List TreeLiteral) (places : List ℕ) → all_different places ≡ true → all_different (places_in ds places) ≡ true
places_in-different ds [] different = different
places_in-different ds (k ∷ places) different =
    let parts = and_parts (not (list_any (λ j. k == j) places)) (all_different places) different in
    one_more_different k (slice_get ds k) (places_in ds places)
    (absent_in k ds places (not-true (list_any (λ j. k == j) places) parts.0)) (places_in-different ds places parts.1)

-- ---- instances and truth

pub placed-instance :
    (τ : Substitution) (ls : List TreeLiteral) (places : List ℕ) (ds : List TreeLiteral)
    → Placed ls places ds → Placed (map (literal_instance τ) ls) places (map (literal_instance τ) ds)
placed-instance τ [] [] ds h = tt
placed-instance τ [] (k ∷ places) ds h = absurd h
placed-instance τ (l ∷ ls) [] ds h = absurd h
placed-instance τ (l ∷ ls) (k ∷ places) ds h =
    let at = h.0 in (
      (
        literal_instance τ at.0,
        literal_in_instance τ ds k at.0 at.1,
        equivalent_literals-instance τ l at.0 at.2,
      ),
      placed-instance τ ls places ds h.1,
    )

pub placed-true :
    (i : Interpretation) (ρ : Assignment) (ls : List TreeLiteral) (places : List ℕ) (ds : List TreeLiteral)
    → Placed ls places ds → literals_true_under i ρ ls ≡ true → literals_true_under i ρ ds ≡ true
placed-true i ρ [] places ds h holds = absurd (true≢false (sym holds))
placed-true i ρ (l ∷ ls) [] ds h holds = absurd h
placed-true i ρ (l ∷ ls) (k ∷ places) ds h holds =
    let at = h.0 in
    ⊎_elim
    (λ here.
    list_any-item (literal_true_under i ρ) ds k at.0 at.1
    (equivalent-truth i ρ at.0 l (literals_equivalence.symm at.0 l ∙ at.2) here))
    (λ later. placed-true i ρ ls places ds h.1 later)
    (or_cases (literal_true_under i ρ l) (literals_true_under i ρ ls) holds)

-- how often a literal stands at a place: once or not at all
abbrev hits : TreeLiteral → Option TreeLiteral → ℕ
hits z None = 0
hits z (Some m) = if equivalent_literals z m then 1 else 0

abbrev weight : TreeLiteral → List TreeLiteral → ℕ → ℕ
weight z ds k = hits z (slice_get ds k)

times-total : (z : TreeLiteral) (ds : List TreeLiteral) → times equivalent_literals z ds ≡ total (weight z ds) ds
times-total z [] = refl
times-total z (d ∷ ds) = omega (arith, times-cons equivalent_literals z d ds, times-total z ds)

placed-sum :
    (z : TreeLiteral) (ls : List TreeLiteral) (places : List ℕ) (ds : List TreeLiteral)
    → Placed ls places ds → times equivalent_literals z ls ≡ sum_by (weight z ds) places
placed-sum z [] [] ds h = refl
placed-sum z [] (k ∷ places) ds h = absurd h
placed-sum z (l ∷ ls) [] ds h = absurd h
placed-sum z (l ∷ ls) (k ∷ places) ds h =
    let at = h.0 in
    let here : (if equivalent_literals z l then 1 else 0) ≡ weight z ds k =
    Fits-times equivalent_literals literal_greater literals_ordered z l at.0 at.2 ∙ sym (ap (hits z) at.1) in
    omega (arith, placed-sum z ls places ds h.1, times-cons equivalent_literals z l ls, sum_by-cons (weight z ds) k places, here)

-- literals at different places are a part of the clause
pub placed-part :
    (ls : List TreeLiteral) (places : List ℕ) (ds : List TreeLiteral)
    → all_different places ≡ true → Placed ls places ds
    → (z : TreeLiteral) → times equivalent_literals z ls ≤ times equivalent_literals z ds
placed-part ls places ds different h z =
    omega (
      arith,
      placed-sum z ls places ds h,
      places-total (weight z ds) ds places (λ i e. nothing z ds i e) different,
      times-total z ds,
    )
  where
    nothing : (z : TreeLiteral) (ds : List TreeLiteral) (i : ℕ) → slice_get ds i ≡ None → weight z ds i ≡ 0
    nothing z ds i e = ap (hits z) e
