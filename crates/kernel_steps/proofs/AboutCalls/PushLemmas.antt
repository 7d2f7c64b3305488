-- Lists that are pushed part by part: a list with one item exchanged, and one without an item.
use Rattle.std.proofs.Common.{◌≡◌, ℕ, ◌+◌, ◌-◌, ◌<◌, List, [], ◌∷◌, ◌++◌, length, map, take, drop, ap, sym, ◌∙◌}
use Rattle.std.specs.Prelude.{slice_set, remove}
use Rattle.std.proofs.lemmas.List.{map-append, append_assoc}
use Rattle.fol_base.proofs.ListLemmas.{set-parts, remove-parts, rest_after}

-- the front, the new item and the rest, where the others are made of the items of another list
pub set-pushed_by :
    {X Y Z : Type 0} (f : X → Y) (h : Z → Y) (zs : List Z) (made front more whole : List X) (i : ℕ) (new : X)
    → i < length zs → made ≡ [] → map f front ≡ map f made ++ map h (take i zs) → more ≡ front ++ new ∷ []
    → map f whole ≡ map f more ++ map h (take (length zs - (i + 1)) (drop (i + 1) zs))
    → map f whole ≡ slice_set (map h zs) i (f new)
set-pushed_by f h zs made front more whole i new within none first second third =
    third
    ∙ ap (λ us. us ++ map h (take (length zs - (i + 1)) (drop (i + 1) zs)))
    (ap (map f) second ∙ map-append f front (new ∷ [])
    ∙ ap (λ us. us ++ f new ∷ []) (first ∙ ap (λ m. map f m ++ map h (take i zs)) none))
    ∙ ap (λ ys. map h (take i zs) ++ f new ∷ [] ++ map h ys) (rest_after zs i)
    ∙ sym (set-parts h zs i (f new) within)

-- the front and the rest
pub remove-pushed_by :
    {X Y Z : Type 0} (f : X → Y) (h : Z → Y) (zs : List Z) (made front whole : List X) (i : ℕ)
    → i < length zs → map f front ≡ map f made ++ map h (take i zs)
    → map f whole ≡ map f front ++ map h (take (length zs - (i + 1)) (drop (i + 1) zs))
    → map f whole ≡ map f made ++ remove (map h zs) i
remove-pushed_by f h zs made front whole i within first second =
    second
    ∙ ap (λ us. us ++ map h (take (length zs - (i + 1)) (drop (i + 1) zs))) first
    ∙ ap (λ ys. map f made ++ map h (take i zs) ++ map h ys) (rest_after zs i)
    ∙ append_assoc (map f made) (map h (take i zs)) (map h (drop (i + 1) zs))
    ∙ ap (λ us. map f made ++ us) (sym (remove-parts h zs i within))
