-- From the calls of factoring to the lemmas.
use Rattle.std.proofs.Common.{◌≡◌, ℕ, ◌+◌, ◌-◌, ◌^◌, ◌<◌, ◌≤◌, min, false, Option, None, Some, List, refl, ap, ap₂, sym, ◌∙◌, arith}
use Rattle.std.specs.Prelude.{slice_get}
use Rattle.std.specs.Option.{is_some}
use Rattle.std.proofs.lemmas.Bool.{true≢false}
use Rattle.std.proofs.lemmas.Option.{same_Some}
use Rattle.plain_types.specs.Capped.{capped}
use Rattle.fol_base.specs.Tree.{variable, tree_size}
use Rattle.fol_base.specs.Instance.{Substitution, instance}
use Rattle.fol_base.specs.Clause.{TreeLiteral, literal_size, literal_instance}
use Rattle.fol_base.specs.Sides.{side_of, other_side_of}
use Rattle.fol_base.specs.declared.clause.Side.{Side}
use Rattle.fol_base.specs.declared.limits.TheConstants.{MOST_SYMBOLS, SIZE_LIMIT}
use Rattle.fol_base.proofs.AboutClauses.InferenceLemmas.{side_of-instance, other_side_of-instance}
use Rattle.eq_rules.proofs.AboutConclusions.SideLemmas.{sides-size}
use Rattle.eq_rules.proofs.AboutConclusions.WideLemmas.{itself}

-- the literal that is lent is the one that is there
pub lent_there :
    (lent ls : List TreeLiteral) (i : ℕ) (l k : TreeLiteral)
    → lent ≡ ls → slice_get lent i ≡ Some l → slice_get ls i ≡ Some k → l ≡ k
lent_there lent ls i l k same at there = same_Some l k (sym at ∙ ap (λ ms. slice_get ms i) same ∙ there)

pub unbound_size : (l : TreeLiteral) → literal_size (literal_instance variable l) ≡ literal_size l
unbound_size l = ap₂ (λ t u. tree_size t + tree_size u) (itself l.left) (itself l.right)

pub sides_size :
    (σ : Substitution) (s : Side) (l : TreeLiteral)
    → literal_size (literal_instance σ l) ≡ tree_size (instance σ (side_of s l)) + tree_size (instance σ (other_side_of s l))
sides_size σ s l =
    sides-size s (literal_instance σ l) ∙ ap₂ (λ t u. tree_size t + tree_size u) (side_of-instance σ s l) (other_side_of-instance σ s l)

pub total_size : (size n : ℕ) → size ≡ capped n → size < SIZE_LIMIT → n ≡ size
total_size size n is h = omega (arith, is, h)

-- the conclusion's size as it is told
pub told_size :
    (sum goes_in comes_in total size goes comes : ℕ)
    → sum + goes_in ≡ total + comes_in → total ≡ size → goes_in ≤ size → comes_in ≤ size → size ≤ MOST_SYMBOLS
    → goes ≡ min goes_in (2 ^ 64 - 1) → comes ≡ min comes_in (2 ^ 64 - 1)
    → (goes ≤ size) × (size - goes + comes ≡ sum) × (comes ≤ MOST_SYMBOLS)
told_size sum goes_in comes_in total size goes comes whole is goes_low comes_low small goes_is comes_is =
    let g : goes ≡ goes_in = omega (arith, goes_low, small, goes_is) in
    let k : comes ≡ comes_in = omega (arith, comes_low, small, comes_is) in
    (omega (arith, g, goes_low), omega (arith, g, k, whole, is, goes_low), omega (arith, k, comes_low, small))

pub none_there : {X : Type 0} (o : Option X) → is_some o ≡ false → o ≡ None
none_there None h = refl
none_there (Some x) h = absurd (true≢false h)
