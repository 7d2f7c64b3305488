-- Steps of loops over lists of which the items are lent one by one.
use Rattle.std.proofs.Common.{◌≡◌, ℕ, zero, suc, ◌+◌, ◌-◌, ◌<◌, ◌≤◌, min, nat_le, List, [], ◌∷◌, ◌++◌, map, take, drop, Some, inl, inr, refl, ap, sym, ◌∙◌, arith}
use Rattle.std.specs.Prelude.{slice_get, sum_by}
use Rattle.std.proofs.lemmas.Bool.{cases_lt, le-leb, lt-leb}
use Rattle.std.proofs.lemmas.Option.{slice_get_within, get_or_from_slice_get}
use Rattle.std.proofs.lemmas.List.{map-append, append_assoc}
use Rattle.std.proofs.lemmas.List.Sums.{sum_by_push}
use Rattle.fol_base.specs.Tree.{tree_size}
use Rattle.fol_base.specs.Instance.{Substitution, instance}
use Rattle.fol_base.specs.Clause.{TreeLiteral, literal_size, literal_instance}
use Rattle.fol_base.specs.Ground.{literals_instance}
use Rattle.fol_base.proofs.ListLemmas.{take_more_item}

-- the front grows by the item that is there
pub take_more_there : {X : Type 0} (xs : List X) (i : ℕ) (x : X) → slice_get xs i ≡ Some x → take (i + 1) xs ≡ take i xs ++ x ∷ []
take_more_there xs i x at = take_more_item xs i x (slice_get_within xs i x at) (sym (get_or_from_slice_get xs i x x at))

slice_get-drop : {X : Type 0} (xs : List X) (n k m : ℕ) → m ≡ n + k → slice_get (drop n xs) k ≡ slice_get xs m
slice_get-drop xs zero k m e = let same : k ≡ m = omega arith in ap (slice_get xs) same
slice_get-drop [] (suc n) k m e = refl
slice_get-drop (x ∷ xs) (suc n) k zero e = absurd (omega arith)
slice_get-drop (x ∷ xs) (suc n) k (suc m) e = slice_get-drop xs n k m (omega arith)

-- so does a part that begins before it
pub part_more :
    {X : Type 0} (xs : List X) (start i : ℕ) (x : X)
    → slice_get xs i ≡ Some x → start ≤ i → take (i + 1 - start) (drop start xs) ≡ take (i - start) (drop start xs) ++ x ∷ []
part_more xs start i x at rising =
    let longer : i + 1 - start ≡ i - start + 1 = omega arith in
    let here : i ≡ start + (i - start) = omega arith in
    ap (λ n. take n (drop start xs)) longer
    ∙ take_more_there (drop start xs) (i - start) x (slice_get-drop xs start (i - start) i here ∙ at)

-- what is made of its items, as they are pushed one after another
pub pushed_more :
    {X Y Z : Type 0} (f : X → Y) (h : Z → Y) (zs : List Z) (before made more : List X) (start i : ℕ) (new : X) (z : Z)
    → slice_get zs i ≡ Some z → start ≤ i → more ≡ made ++ new ∷ [] → f new ≡ h z
    → map f made ≡ map f before ++ map h (take (i - start) (drop start zs))
    → map f more ≡ map f before ++ map h (take (i + 1 - start) (drop start zs))
pushed_more f h zs before made more start i new z at rising more_is new_is so_far =
    ap (map f) more_is
    ∙ map-append f made (new ∷ [])
    ∙ ap (λ ys. ys ++ f new ∷ []) so_far
    ∙ ap (λ y. (map f before ++ map h (take (i - start) (drop start zs))) ++ y ∷ []) new_is
    ∙ append_assoc (map f before) (map h (take (i - start) (drop start zs))) (h z ∷ [])
    ∙ ap (λ ys. map f before ++ ys)
    (sym (map-append h (take (i - start) (drop start zs)) (z ∷ [])) ∙ ap (map h) (sym (part_more zs start i z at rising)))

-- ---- sizes that stop at a greatest number

-- the size of one more literal's instance
pub sizes_more :
    (σ : Substitution) (ls : List TreeLiteral) (i : ℕ) (l : TreeLiteral)
    → slice_get ls i ≡ Some l
    → sum_by literal_size (literals_instance σ (take (i + 1) ls))
    ≡ sum_by literal_size (literals_instance σ (take i ls)) + (tree_size (instance σ l.left) + tree_size (instance σ l.right))
sizes_more σ ls i l at =
    ap (λ ks. sum_by literal_size (literals_instance σ ks)) (take_more_there ls i l at)
    ∙ ap (sum_by literal_size) (map-append (literal_instance σ) (take i ls) (l ∷ []))
    ∙ sum_by_push literal_size (literals_instance σ (take i ls)) (literal_instance σ l)

-- a sum carried on by two items, one after another
pub stopped_by_two :
    (sum left right whole total half made some other most : ℕ)
    → total ≡ min sum most → some ≡ min left most → half ≡ min (total + some) most
    → other ≡ min right most → made ≡ min (half + other) most
    → whole ≡ sum + (left + right) → made ≡ min whole most
stopped_by_two sum left right whole total half made some other most a b c d e f = omega arith

-- a limit below the greatest number is kept or not as it is without stopping
pub stopped_within : (size most limit : ℕ) → limit < most → nat_le (min size most) limit ≡ nat_le size limit
stopped_within size most limit below =
    elim (cases_lt limit size) [
      | inl above ↦
          (let stopped : limit < min size most = omega arith in
          lt-leb (min size most) limit stopped ∙ sym (lt-leb size limit above))
      | inr within ↦
          (let stopped : min size most ≤ limit = omega arith in
          le-leb (min size most) limit stopped ∙ sym (le-leb size limit within))
    ]
