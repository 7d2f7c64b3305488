-- Two lists that are related at each place.
use Rattle.std.proofs.Common.{List, [], ◌∷◌, ◌++◌}
use Rattle.herbrand_list.specs.Nodes.{AllPairs}

pub pairs-weaker :
    {X Y : Type 0} (R S : X → Y → Type 0) → ((x : X) (y : Y) → R x y → S x y) → (xs : List X) (ys : List Y) → AllPairs R xs ys → AllPairs S xs ys
pairs-weaker R S weaker [] [] all = tt
pairs-weaker R S weaker [] (y ∷ ys) all = absurd all
pairs-weaker R S weaker (x ∷ xs) [] all = absurd all
pairs-weaker R S weaker (x ∷ xs) (y ∷ ys) all = (weaker x y all.0, pairs-weaker R S weaker xs ys all.1)

pub pairs-last :
    {X Y : Type 0} (R : X → Y → Type 0) (xs : List X) (ys : List Y) (x : X) (y : Y) → AllPairs R xs ys → R x y → AllPairs R (xs ++ x ∷ []) (ys ++ y ∷ [])
pairs-last R [] [] x y all last = (last, tt)
pairs-last R [] (w ∷ ys) x y all last = absurd all
pairs-last R (w ∷ xs) [] x y all last = absurd all
pairs-last R (v ∷ xs) (w ∷ ys) x y all last = (all.0, pairs-last R xs ys x y all.1 last)
