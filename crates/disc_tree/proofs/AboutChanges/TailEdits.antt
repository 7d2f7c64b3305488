-- What an edit of a tail does to its rows.
use Rattle.std.proofs.Common.{◌≡◌, ℕ, ◌≤◌, List, [], ◌∷◌, ◌++◌, length, get_or, append-nil, refl, ap, sym, subst, ◌∙◌, ⊎_elim, inl, inr}
use Rattle.std.specs.Prelude.{remove}
use Rattle.fol_base.specs.Tree.{Tree}
use Rattle.disc_tree.specs.declared.label.Label.{Label}
use Rattle.disc_tree.specs.declared.node.Branch.{Branch}
use Rattle.disc_tree.specs.Children.{child_of, children_of}
use Rattle.disc_tree.specs.Entries.{IsIn, IsWith}
use Rattle.disc_tree.specs.Rows.{Row, Child, below, rows, IsSound, all_at, IsTaken, IsNone, IsEntryTaken, IsNoEntry}

all-at-append : (p : List Label) (xs ys : List (Tree × ℕ)) → all_at p (xs ++ ys) ≡ all_at p xs ++ all_at p ys
all-at-append p [] ys = refl
all-at-append p (x ∷ xs) ys = ap (λ rs. (p, x) ∷ rs) (all-at-append p xs ys)

pub tail-with :
    (p : List Label) (x : Tree × ℕ) (xs ys : List (Tree × ℕ)) → IsWith x xs ys → IsWith (p, x) (all_at p xs) (all_at p ys)
tail-with p x xs ys w = record {
  front = all_at p w.front;
  back = all_at p w.back;
  without = ap (all_at p) w.without ∙ all-at-append p w.front w.back;
  with_it = ap (all_at p) w.with_it ∙ all-at-append p w.front (x ∷ w.back);
}

pub tail-taken :
    (p q : List Label) (vs : List ℕ) (n : ℕ) (xs ys : List (Tree × ℕ))
    → p ≡ q → IsEntryTaken vs n xs ys → IsTaken q vs n (all_at p xs) (all_at p ys)
tail-taken p q vs n xs ys same h =
    (h.0, h.1, subst (λ z. IsWith (z, h.0) (all_at p ys) (all_at p xs)) same (tail-with p h.0 ys xs h.2))

in-tail : (p q : List Label) (x : Tree × ℕ) (xs : List (Tree × ℕ)) → IsIn (q, x) (all_at p xs) → IsIn x xs
in-tail p q x [] h = absurd h
in-tail p q x (y ∷ xs) h =
    ⊎_elim (λ e. inl (ap (λ (r : Row). r.1) e)) (λ later. inr (in-tail p q x xs later)) h

path-of-tail : (p q : List Label) (x : Tree × ℕ) (xs : List (Tree × ℕ)) → IsIn (q, x) (all_at p xs) → q ≡ p
path-of-tail p q x [] h = absurd h
path-of-tail p q x (y ∷ xs) h =
    ⊎_elim (λ e. ap (λ (r : Row). r.0) e) (λ later. path-of-tail p q x xs later) h

pub none-on-tail :
    (p q : List Label) (vs : List ℕ) (n : ℕ) (xs : List (Tree × ℕ)) → IsNoEntry vs n xs → IsNone q vs n (all_at p xs)
none-on-tail p q vs n xs none x h named = none x (in-tail p q x xs h) named

pub none-beside-tail :
    (p q : List Label) (vs : List ℕ) (n : ℕ) (xs : List (Tree × ℕ)) → (p ≡ q → ⊥) → IsNone q vs n (all_at p xs)
none-beside-tail p q vs n xs other x h named = other (sym (path-of-tail p q x xs h))

pub tail-empty : (p : List Label) (xs : List (Tree × ℕ)) → all_at p xs ≡ [] → xs ≡ []
tail-empty p [] h = refl
tail-empty p (x ∷ xs) h = absurd cc

-- ---- a tail as a node

pub ended-tail : (xs : List (Tree × ℕ)) → rows (xs, []) ≡ all_at [] xs
ended-tail [] = refl
ended-tail (x ∷ xs) = ap (λ rs. ([], x) ∷ rs) (ended-tail xs)

below-tail : (l : Label) (p : List Label) (xs : List (Tree × ℕ)) → below l (all_at p xs) ≡ all_at (l ∷ p) xs
below-tail l p [] = refl
below-tail l p (x ∷ xs) = ap (λ rs. (l ∷ p, x) ∷ rs) (below-tail l p xs)

pub one-label-more : (l : Label) (p : List Label) (xs : List (Tree × ℕ)) → rows ([], (l, all_at p xs) ∷ []) ≡ all_at (l ∷ p) xs
one-label-more l p xs = append-nil (below l (all_at p xs)) ∙ below-tail l p xs

pub no-labels : (p : List Label) → length p ≡ 0 → p ≡ []
no-labels [] h = refl
no-labels (l ∷ p) h = absurd cc

pub first-label : (p : List Label) (l : Label) → (length p ≡ 0 → ⊥) → l ≡ get_or p 0 l → p ≡ l ∷ remove p 0
first-label [] l h e = absurd (h refl)
first-label (k ∷ p) l h e = ap (λ j. j ∷ p) (sym e)

-- a tail without labels has its entries at the node
pub tail-ended :
    (bs : List Branch) (p : List Label) (xs ys : List (Tree × ℕ))
    → bs ≡ [] → p ≡ [] → ys ≡ xs → rows (ys, children_of bs) ≡ all_at p xs
tail-ended bs p xs ys b h e =
    ap (λ zs. rows (ys, children_of zs)) b ∙ ap (λ zs. rows (zs, [])) e ∙ ended-tail xs ∙ ap (λ q. all_at q xs) (sym h)

-- otherwise the node has one child, with the first of them
pub tail-opened :
    (bs old : List Branch) (b : Branch) (l : Label) (p more : List Label) (xs ys : List (Tree × ℕ))
    → old ≡ [] → bs ≡ old ++ b ∷ [] → child_of b ≡ (l, all_at more xs) → p ≡ l ∷ more → ys ≡ []
    → rows (ys, children_of bs) ≡ all_at p xs
tail-opened bs old b l p more xs ys o e child h none =
    ap (λ zs. rows (zs, children_of bs)) none
    ∙ ap (λ cs. rows ([], children_of cs)) (e ∙ ap (λ cs. cs ++ b ∷ []) o)
    ∙ ap (λ (c : Child). rows ([], c ∷ [])) child ∙ one-label-more l more xs ∙ ap (λ q. all_at q xs) (sym h)

pub opened-sound :
    (bs old : List Branch) (b : Branch) (l : Label) (rs : List Row)
    → old ≡ [] → bs ≡ old ++ b ∷ [] → child_of b ≡ (l, rs) → 1 ≤ length rs → IsSound (children_of bs)
opened-sound bs old b l rs o e child some =
    subst (λ cs. IsSound (children_of cs)) (sym (e ∙ ap (λ cs. cs ++ b ∷ []) o))
    (subst (λ (c : Child). IsSound (c ∷ [])) (sym child) (record { rise = (tt, tt); none_is_empty = (some, tt) }))
