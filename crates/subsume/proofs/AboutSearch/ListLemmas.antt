-- Steps of loops over lists.
use Rattle.std.proofs.Common.{◌≡◌, ℕ, ◌+◌, ◌<◌, ◌≤◌, Bool, true, false, ◌&&◌, ◌||◌, List, [], length, drop, get_or, ap, sym, ◌∙◌}
use Rattle.std.specs.List.{list_any, list_all}
use Rattle.list_lemmas.proofs.Places.{drop-item, drop-all}

-- ---- a search for an element that passes

pub any-found :
    {X : Type 0} (p : X → Bool) (xs : List X) (i : ℕ) (x : X) (whole : Bool)
    → i < length xs → x ≡ get_or xs i x → list_any p (drop i xs) ≡ whole → p x ≡ true → true ≡ whole
any-found p xs i x whole h e k t =
    sym (ap (λ b. b || list_any p (drop (i + 1) xs)) t) ∙ sym (ap (list_any p) (drop-item xs i x h e)) ∙ k

pub any-on :
    {X : Type 0} (p : X → Bool) (xs : List X) (i : ℕ) (x : X) (whole : Bool)
    → i < length xs → x ≡ get_or xs i x → list_any p (drop i xs) ≡ whole → p x ≡ false → list_any p (drop (i + 1) xs) ≡ whole
any-on p xs i x whole h e k f =
    sym (ap (λ b. b || list_any p (drop (i + 1) xs)) f) ∙ sym (ap (list_any p) (drop-item xs i x h e)) ∙ k

pub any-none : {X : Type 0} (p : X → Bool) (xs : List X) (i : ℕ) (whole : Bool) → length xs ≤ i → list_any p (drop i xs) ≡ whole → false ≡ whole
any-none p xs i whole h k = sym (ap (list_any p) (drop-all xs i h)) ∙ k

-- ---- a search for one that doesn't

pub all-failed :
    {X : Type 0} (p : X → Bool) (xs : List X) (i : ℕ) (x : X) (whole : Bool)
    → i < length xs → x ≡ get_or xs i x → list_all p (drop i xs) ≡ whole → p x ≡ false → false ≡ whole
all-failed p xs i x whole h e k f =
    sym (ap (λ b. b && list_all p (drop (i + 1) xs)) f) ∙ sym (ap (list_all p) (drop-item xs i x h e)) ∙ k

pub all-on :
    {X : Type 0} (p : X → Bool) (xs : List X) (i : ℕ) (x : X) (whole : Bool)
    → i < length xs → x ≡ get_or xs i x → list_all p (drop i xs) ≡ whole → p x ≡ true → list_all p (drop (i + 1) xs) ≡ whole
all-on p xs i x whole h e k t =
    sym (ap (λ b. b && list_all p (drop (i + 1) xs)) t) ∙ sym (ap (list_all p) (drop-item xs i x h e)) ∙ k

pub all-passed : {X : Type 0} (p : X → Bool) (xs : List X) (i : ℕ) (whole : Bool) → length xs ≤ i → list_all p (drop i xs) ≡ whole → true ≡ whole
all-passed p xs i whole h k = sym (ap (list_all p) (drop-all xs i h)) ∙ k
