-- Counting what an index tells clauses apart by.
use mathlib.Core.Bool.{beq}
use Rattle.std.proofs.Common.{◌≡◌, ◌⊎◌, ℕ, zero, suc, ◌+◌, ◌*◌, ◌/◌, ◌%◌, ◌<◌, ◌≤◌, inl, inr, ⊎_elim, Bool, true, false, List, [], ◌∷◌, ◌++◌, map, take, get_or, min, length, Some, refl, ap, ◌∙◌, arith}
use Rattle.std.specs.Prelude.{if◌then◌else◌, slice_get, slice_index, sum_by}
use Rattle.std.proofs.lemmas.List.Sums.{sum_by-cons}
use Rattle.fol_base.specs.Tree.{Tree, trees_of}
use Rattle.fol_base.specs.Term.{tree_of}
use Rattle.fol_base.specs.declared.term.Term.{Term}
use Rattle.fol_base.proofs.ListLemmas.{map-take_more_item}
use Rattle.fol_base.specs.Clause.{TreeLiteral, literal_size}
use Rattle.fol_base.proofs.AboutTerms.TreeLemmas.{tree_size-positive}
use Rattle.subsume.specs.declared.vector.TheConstants.{MEASURES, MOST}
use Rattle.subsume.specs.Features.{by_sign, measured, literal_measure, slot, AreFeaturesOf, trees_weight, tree_weight, tree_measure, trees_measure, for_symbol, for_variable}

-- counting on from a number that was counted up to a limit
pub saturated :
    (counts : Bool) (most old mid new a x more : ℕ)
    → mid ≡ min (old + (if counts then a else 0)) most → new ≡ min (mid + (if counts then x else 0)) most → more ≡ a + x
    → new ≡ min (old + (if counts then more else 0)) most
saturated true most old mid new a x more h k e = omega arith
saturated false most old mid new a x more h k e = omega arith

weight-push :
    (weight : ℕ → ℕ) (each : ℕ) (ts : List Tree) (t : Tree)
    → trees_weight weight each (trees_of (ts ++ t ∷ [])) ≡ trees_weight weight each (trees_of ts) + tree_weight weight each t
weight-push weight each [] t = omega arith
weight-push weight each (s ∷ ts) t = omega (arith, weight-push weight each ts t)

-- one term more of a slice
pub measure-take_more :
    (k : ℕ) (xs : List Term) (i : ℕ) (x : Term) → i < length xs → x ≡ get_or xs i x
    → trees_measure k (trees_of (map tree_of (take (i + 1) xs)))
    ≡ trees_measure k (trees_of (map tree_of (take i xs))) + tree_measure k (tree_of x)
measure-take_more k xs i x h r =
    ap (λ us. trees_measure k (trees_of us)) (map-take_more_item tree_of xs i x h r)
    ∙ weight-push (for_symbol k) (for_variable k) (map tree_of (take i xs)) (tree_of x)

-- one element more of a list
pub sum-take_more :
    {X : Type 0} (w : X → ℕ) (xs : List X) (i : ℕ) (x : X) → slice_get xs i ≡ Some x
    → sum_by w (take (i + 1) xs) ≡ sum_by w (take i xs) + w x
sum-take_more w [] i x h = absurd cc
sum-take_more w (y ∷ ys) zero x h =
    let same : y ≡ x = cc in
    omega (arith, sum_by-cons w y [], ap w same)
sum-take_more w (y ∷ ys) (suc i) x h =
    let later : sum_by w (take (suc i + 1) (y ∷ ys)) ≡ sum_by w (y ∷ take (i + 1) ys) =
    ap (λ n. sum_by w (take n (y ∷ ys))) (next i) in
    omega (arith, later, sum_by-cons w y (take i ys), sum_by-cons w y (take (i + 1) ys), sum-take_more w ys i x h)
  where
    next : (i : ℕ) → suc i + 1 ≡ suc (i + 1)
    next i = omega arith

-- features of one literal more
pub features-more :
    (ls : List TreeLiteral) (i : ℕ) (l : TreeLiteral) (before after : List ℕ)
    → slice_get ls i ≡ Some l → AreFeaturesOf (take i ls) before
    → ((positive : Bool) (k : ℕ) → k < MEASURES → slice_index before (slot positive k) ≤ MOST
    → slice_index after (slot positive k)
    ≡ min (slice_index before (slot positive k) + (if beq l.positive positive then literal_measure k l else 0)) MOST)
    → AreFeaturesOf (take (i + 1) ls) after
features-more ls i l before after at known added = λ positive k h.
    let old = known positive k h in
    let more = sum-take_more (by_sign positive (literal_measure k)) ls i l at in
    omega (arith, old, more, added positive k h (omega (arith, old)))

pub slot-below : (positive : Bool) (k : ℕ) → k < MEASURES → slot positive k < 2 * MEASURES
slot-below true k h = omega (arith, h)
slot-below false k h = omega (arith, h)

-- each place is that of a measure over the literals of a sign
pub slot-of : (i : ℕ) → (i ≡ slot true (i / 2)) ⊎ (i ≡ slot false (i / 2))
slot-of i = ⊎_elim (λ e. inl (omega (arith, e))) (λ e. inr (omega (arith, e))) (parity (i % 2) (omega arith))
  where
    parity : (n : ℕ) → n < 2 → (n ≡ 0) ⊎ (n ≡ 1)
    parity zero h = inl refl
    parity (suc zero) h = inr refl
    parity (suc (suc n)) h = absurd (omega arith)

-- a measure over one literal more
pub measured-more :
    (positive : Bool) (w : TreeLiteral → ℕ) (ls : List TreeLiteral) (i : ℕ) (l : TreeLiteral) → slice_get ls i ≡ Some l
    → measured positive w (take (i + 1) ls) ≡ measured positive w (take i ls) + (if beq l.positive positive then w l else 0)
measured-more positive w ls i l h = sum-take_more (by_sign positive w) ls i l h

-- and over a part of the literals
pub measured-part : (positive : Bool) (w : TreeLiteral → ℕ) (ls : List TreeLiteral) → measured positive w ls ≤ sum_by w ls
measured-part positive w [] = omega arith
measured-part positive w (l ∷ ls) =
    omega (arith, sum_by-cons (by_sign positive w) l ls, sum_by-cons w l ls, measured-part positive w ls, part (beq l.positive positive) (w l))
  where
    part : (b : Bool) (n : ℕ) → (if b then n else 0) ≤ n
    part true n = omega arith
    part false n = omega arith

pub counted-few : (ls : List TreeLiteral) → sum_by (λ (l : TreeLiteral). 1) ls ≤ sum_by literal_size ls
counted-few [] = omega arith
counted-few (l ∷ ls) =
    omega (arith, sum_by-cons (λ (k : TreeLiteral). 1) l ls, sum_by-cons literal_size l ls, counted-few ls, tree_size-positive l.left)

pub counting-step :
    (positive : Bool) (w : TreeLiteral → ℕ) (ls : List TreeLiteral) (i : ℕ) (l : TreeLiteral) (before after most : ℕ)
    → slice_get ls i ≡ Some l → before ≡ min (measured positive w (take i ls)) most
    → after ≡ min (before + (if beq l.positive positive then w l else 0)) most
    → after ≡ min (measured positive w (take (i + 1) ls)) most
counting-step positive w ls i l before after most there known added = omega (arith, known, added, measured-more positive w ls i l there)

pub counting-yes :
    (counts : Bool) (before after n added most : ℕ) → counts ≡ true → added ≡ min n most → after ≡ min (before + added) most
    → after ≡ min (before + (if counts then n else 0)) most
counting-yes true before after n added most yes_ a h = omega (arith, a, h)
counting-yes false before after n added most yes_ a h = absurd cc

pub counting-no :
    (counts : Bool) (before after n most : ℕ) → counts ≡ false → before ≤ most → after ≡ before → after ≡ min (before + (if counts then n else 0)) most
counting-no true before after n most no_ fits h = absurd cc
counting-no false before after n most no_ fits h = omega (arith, fits, h)

-- four elements, pushed one after another
pub four-pushed :
    {X : Type 0} (none one two three four : List X) (a b c d : X)
    → none ≡ [] → one ≡ none ++ a ∷ [] → two ≡ one ++ b ∷ [] → three ≡ two ++ c ∷ [] → four ≡ three ++ d ∷ []
    → four ≡ a ∷ b ∷ c ∷ d ∷ []
four-pushed none one two three four a b c d n o t h f =
    f ∙ ap (λ xs. xs ++ d ∷ []) (h ∙ ap (λ xs. xs ++ c ∷ []) (t ∙ ap (λ xs. xs ++ b ∷ []) (o ∙ ap (λ xs. xs ++ a ∷ []) n)))
