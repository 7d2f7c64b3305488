-- Products of lists of clauses.
use Rattle.std.proofs.Common.{◌≡◌, List, [], ◌∷◌, ◌++◌, map, refl, ap, sym, ◌∙◌, append-nil, append_assoc}
use Rattle.std.proofs.lemmas.List.{map-append}
use Rattle.std.proofs.lemmas.Grind.{flat_map-append}
use Rattle.signature.specs.Clausal.{Literals, all_pairs}
use Rattle.skolem.specs.Matrix.{MatrixTree, MatrixTrees, no_matrices, matrix_then, matrices_of}
use Rattle.clausal_form.specs.Written.{written, all_written, product_written}

pub pairs-append : (a b cs : List Literals) → all_pairs (a ++ b) cs ≡ all_pairs a cs ++ all_pairs b cs
pairs-append a b cs = flat_map-append (λ c. map (λ d. c ++ d) cs) a b

map-same : {X Y : Type 0} (f g : X → Y) (xs : List X) → ((x : X) → f x ≡ g x) → map f xs ≡ map g xs
map-same f g [] h = refl
map-same f g (x ∷ xs) h = ap (λ y. y ∷ map f xs) (h x) ∙ ap (λ ys. g x ∷ ys) (map-same f g xs h)

map-twice : {X Y Z : Type 0} (f : Y → Z) (g : X → Y) (xs : List X) → map f (map g xs) ≡ map (λ x. f (g x)) xs
map-twice f g [] = refl
map-twice f g (x ∷ xs) = ap (λ ys. f (g x) ∷ ys) (map-twice f g xs)

-- the product with one clause before each
pairs-before : (c : Literals) (b cs : List Literals) → all_pairs (map (λ d. c ++ d) b) cs ≡ map (λ d. c ++ d) (all_pairs b cs)
pairs-before c [] cs = refl
pairs-before c (d ∷ b) cs =
    ap (λ xs. xs ++ all_pairs (map (λ e. c ++ e) b) cs)
    (map-same (λ e. (c ++ d) ++ e) (λ e. c ++ (d ++ e)) cs (λ e. append_assoc c d e)
    ∙ sym (map-twice (λ e. c ++ e) (λ e. d ++ e) cs))
    ∙ ap (λ xs. map (λ e. c ++ e) (map (λ e. d ++ e) cs) ++ xs) (pairs-before c b cs)
    ∙ sym (map-append (λ e. c ++ e) (map (λ e. d ++ e) cs) (all_pairs b cs))

pub pairs-assoc : (a b cs : List Literals) → all_pairs (all_pairs a b) cs ≡ all_pairs a (all_pairs b cs)
pairs-assoc [] b cs = refl
pairs-assoc (c ∷ a) b cs =
    pairs-append (map (λ d. c ++ d) b) (all_pairs a b) cs
    ∙ ap (λ xs. xs ++ all_pairs (all_pairs a b) cs) (pairs-before c b cs)
    ∙ ap (λ xs. map (λ d. c ++ d) (all_pairs b cs) ++ xs) (pairs-assoc a b cs)

map-itself : {X : Type 0} (f : X → X) (xs : List X) → ((x : X) → f x ≡ x) → map f xs ≡ xs
map-itself f [] h = refl
map-itself f (x ∷ xs) h = ap (λ y. y ∷ map f xs) (h x) ∙ ap (λ ys. x ∷ ys) (map-itself f xs h)

-- the empty clause alone is a unit of products
pub unit-pairs : (cs : List Literals) → all_pairs ([] ∷ []) cs ≡ cs
unit-pairs cs = append-nil (map (λ d. [] ++ d) cs) ∙ map-itself (λ d. [] ++ d) cs (λ d. refl)

pub pairs-unit : (cs : List Literals) → all_pairs cs ([] ∷ []) ≡ cs
pairs-unit [] = refl
pairs-unit (c ∷ cs) = ap (λ d. d ∷ all_pairs cs ([] ∷ [])) (append-nil c) ∙ ap (λ ds. c ∷ ds) (pairs-unit cs)

-- ---- lists of matrices

pub product-written-split :
    (cs ds : List Literals) (ms : MatrixTrees) → product_written (all_pairs cs ds) ms ≡ all_pairs cs (product_written ds ms)
product-written-split cs ds no_matrices = refl
product-written-split cs ds (matrix_then m ms) =
    ap (λ xs. product_written xs ms) (pairs-assoc cs ds (written m)) ∙ product-written-split cs (all_pairs ds (written m)) ms

-- the first of several matrices
pub product-written-first :
    (m : MatrixTree) (ms : MatrixTrees)
    → product_written ([] ∷ []) (matrix_then m ms) ≡ all_pairs (written m) (product_written ([] ∷ []) ms)
product-written-first m ms =
    ap (λ xs. product_written xs ms) (unit-pairs (written m) ∙ sym (pairs-unit (written m)))
    ∙ product-written-split (written m) ([] ∷ []) ms

-- one more matrix
pub product-written-last :
    (cs : List Literals) (ms : List MatrixTree) (m : MatrixTree)
    → product_written cs (matrices_of (ms ++ m ∷ [])) ≡ all_pairs (product_written cs (matrices_of ms)) (written m)
product-written-last cs [] m = refl
product-written-last cs (n ∷ ms) m = product-written-last (all_pairs cs (written n)) ms m

pub all-written-last :
    (ms : List MatrixTree) (m : MatrixTree) → all_written (matrices_of (ms ++ m ∷ [])) ≡ all_written (matrices_of ms) ++ written m
all-written-last [] m = append-nil (written m)
all-written-last (n ∷ ms) m =
    ap (λ xs. written n ++ xs) (all-written-last ms m) ∙ sym (append_assoc (written n) (all_written (matrices_of ms)) (written m))

pub single-written :
    (old new : List MatrixTree) (m : MatrixTree) → old ≡ [] → new ≡ old ++ m ∷ [] → product_written ([] ∷ []) (matrices_of new) ≡ written m
single-written old new m h k =
    ap (λ ms. product_written ([] ∷ []) (matrices_of ms)) (k ∙ ap (λ ms. ms ++ m ∷ []) h) ∙ unit-pairs (written m)

pub single-listed :
    (old new : List MatrixTree) (m : MatrixTree) → old ≡ [] → new ≡ old ++ m ∷ [] → all_written (matrices_of new) ≡ written m
single-listed old new m h k = ap (λ ms. all_written (matrices_of ms)) (k ∙ ap (λ ms. ms ++ m ∷ []) h) ∙ append-nil (written m)

pub listed-then :
    (before after : List MatrixTree) (m n : MatrixTree)
    → all_written (matrices_of before) ≡ written m → after ≡ before ++ n ∷ []
    → all_written (matrices_of after) ≡ written m ++ written n
listed-then before after m n h k =
    ap (λ ms. all_written (matrices_of ms)) k ∙ all-written-last before n ∙ ap (λ cs. cs ++ written n) h

pub factors-then :
    (before after : List MatrixTree) (m n : MatrixTree)
    → product_written ([] ∷ []) (matrices_of before) ≡ written m → after ≡ before ++ n ∷ []
    → product_written ([] ∷ []) (matrices_of after) ≡ all_pairs (written m) (written n)
factors-then before after m n h k =
    ap (λ ms. product_written ([] ∷ []) (matrices_of ms)) k ∙ product-written-last ([] ∷ []) before n ∙ ap (λ cs. all_pairs cs (written n)) h
