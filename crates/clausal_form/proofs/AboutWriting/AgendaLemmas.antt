-- What is left of a matrix while its clauses are written.
use Rattle.std.proofs.Common.{◌≡◌, ℕ, zero, suc, ◌+◌, ◌<◌, ◌≤◌, List, [], ◌∷◌, ◌++◌, map, length, drop, get_or, refl, ap, sym, ◌∙◌, append-nil, append_assoc, arith}
use Rattle.std.proofs.lemmas.List.{map-append}
use denote.Ref.{Bor}
use Rattle.fol_base.specs.Clause.{TreeLiteral, TreeClause}
use Rattle.signature.specs.Clausal.{Literals, all_pairs, canonical_literals}
use Rattle.skolem.specs.Matrix.{MatrixTree, falsity, literal, matrix_size, MatrixTrees, matrices_size, matrices_of}
use Rattle.skolem.specs.Shape.{matrix_tree}
use Rattle.skolem.specs.declared.matrix.Matrix.{Matrix}
use Rattle.clausal_form.specs.Written.{written, all_written, product_written}
use Rattle.clausal_form.specs.Agenda.{lent_literal, products_before, agenda_clauses, agenda_size, canonical_after, placed}
use Rattle.clausal_form.proofs.AboutNaming.PairLemmas.{pairs-append, pairs-assoc, unit-pairs, product-written-first}
use Rattle.list_lemmas.proofs.Places.{drop-item, drop-all}

-- ---- the agenda's last matrix

pub products-last :
    (cs : List Literals) (ms : List (Bor Matrix)) (m : Bor Matrix)
    → products_before cs (ms ++ m ∷ []) ≡ all_pairs (written (matrix_tree m.now)) (products_before cs ms)
products-last cs [] m = refl
products-last cs (n ∷ ms) m = products-last (all_pairs (written (matrix_tree n.now)) cs) ms m

pub size-last : (ms : List (Bor Matrix)) (m : Bor Matrix) → agenda_size (ms ++ m ∷ []) ≡ agenda_size ms + matrix_size (matrix_tree m.now)
size-last [] m = omega arith
size-last (n ∷ ms) m = omega (arith, size-last ms m)

pub taken-last :
    {Y : Type 0} (f : Literals → Y) (made new : List Y) (all rest : List (Bor Matrix)) (m : Bor Matrix)
    → all ≡ rest ++ m ∷ []
    → new ≡ made ++ map f (all_pairs (written (matrix_tree m.now)) (agenda_clauses rest))
    → new ≡ made ++ map f (agenda_clauses all)
taken-last f made new all rest m h k =
    k ∙ ap (λ cs. made ++ map f cs) (sym (products-last ([] ∷ []) rest m) ∙ ap agenda_clauses (sym h))

nothing-left : (ms : List (Bor Matrix)) → length ms ≡ 0 → agenda_clauses ms ≡ [] ∷ []
nothing-left [] h = refl
nothing-left (m ∷ ms) h = absurd (omega (arith, h))

pub clause-left :
    (ls : Literals) (made new : List TreeClause) (ms : List (Bor Matrix))
    → length ms ≡ 0 → new ≡ made ++ canonical_literals ls ∷ [] → new ≡ made ++ map (canonical_after ls) (agenda_clauses ms)
clause-left ls made new ms h k =
    k ∙ ap (λ c. made ++ canonical_literals c ∷ []) (sym (append-nil ls))
    ∙ ap (λ cs. made ++ map (canonical_after ls) cs) (sym (nothing-left ms h))

pub place-left :
    (place : ℕ) (made new : List ℕ) (ms : List (Bor Matrix))
    → length ms ≡ 0 → new ≡ made ++ place ∷ [] → new ≡ made ++ map (placed place) (agenda_clauses ms)
place-left place made new ms h k = k ∙ ap (λ cs. made ++ map (placed place) cs) (sym (nothing-left ms h))

-- ---- one matrix

pub false-left :
    {Y : Type 0} (f : Literals → Y) (m : MatrixTree) (made new : List Y) (cs : List Literals)
    → m ≡ falsity → new ≡ made ++ map f cs → new ≡ made ++ map f (all_pairs (written m) cs)
false-left f m made new cs e h =
    h ∙ ap (λ ds. made ++ map f ds) (sym (unit-pairs cs)) ∙ ap (λ t. made ++ map f (all_pairs (written t) cs)) (sym e)

literal-before : (ls : Literals) (l : TreeLiteral) (cs : List Literals) → map (canonical_after (ls ++ l ∷ [])) cs ≡ map (canonical_after ls) (all_pairs ((l ∷ []) ∷ []) cs)
literal-before ls l [] = refl
literal-before ls l (c ∷ cs) =
    ap (λ d. canonical_literals d ∷ map (canonical_after (ls ++ l ∷ [])) cs) (append_assoc ls (l ∷ []) c)
    ∙ ap (λ ds. canonical_literals (ls ++ l ∷ c) ∷ ds) (literal-before ls l cs)

place-before : (place : ℕ) (l : TreeLiteral) (cs : List Literals) → map (placed place) cs ≡ map (placed place) (all_pairs ((l ∷ []) ∷ []) cs)
place-before place l [] = refl
place-before place l (c ∷ cs) = ap (λ ds. place ∷ ds) (place-before place l cs)

pub literal-left :
    (ls all : Literals) (l : TreeLiteral) (m : MatrixTree) (made new : List TreeClause) (cs : List Literals)
    → m ≡ literal l → all ≡ ls ++ l ∷ [] → new ≡ made ++ map (canonical_after all) cs → new ≡ made ++ map (canonical_after ls) (all_pairs (written m) cs)
literal-left ls all l m made new cs e h k =
    k ∙ ap (λ ks. made ++ map (canonical_after ks) cs) h ∙ ap (λ ds. made ++ ds) (literal-before ls l cs)
    ∙ ap (λ t. made ++ map (canonical_after ls) (all_pairs (written t) cs)) (sym e)

pub literal-place :
    (place : ℕ) (l : TreeLiteral) (m : MatrixTree) (made new : List ℕ) (cs : List Literals)
    → m ≡ literal l → new ≡ made ++ map (placed place) cs → new ≡ made ++ map (placed place) (all_pairs (written m) cs)
literal-place place l m made new cs e k =
    k ∙ ap (λ ds. made ++ ds) (place-before place l cs) ∙ ap (λ t. made ++ map (placed place) (all_pairs (written t) cs)) (sym e)

-- the literals with one more, lent
pub lent-last :
    (old new : List (Bor TreeLiteral)) (r : Bor TreeLiteral) (l : TreeLiteral) → new ≡ old ++ r ∷ [] → lent_literal r ≡ l → map lent_literal new ≡ map lent_literal old ++ l ∷ []
lent-last old new r l h e = ap (map lent_literal) h ∙ map-append lent_literal old (r ∷ []) ∙ ap (λ k. map lent_literal old ++ k ∷ []) e

-- ---- sizes

pub popped-size :
    (all rest : List (Bor Matrix)) (m : Bor Matrix) → all ≡ rest ++ m ∷ [] → agenda_size all ≡ agenda_size rest + matrix_size (matrix_tree m.now)
popped-size all rest m h = ap agenda_size h ∙ size-last rest m

pub member-size :
    (ms : List Matrix) (i : ℕ) (m : Matrix) → i < length ms → m ≡ get_or ms i m
    → matrix_size (matrix_tree m) ≤ matrices_size (matrices_of (map matrix_tree ms))
member-size [] i m h e = absurd (omega (arith, h))
member-size (n ∷ ms) zero m h e = omega (arith, ap (λ k. matrix_size (matrix_tree k)) e)
member-size (n ∷ ms) (suc i) m h e = omega (arith, member-size ms i m (omega (arith, h)) e)

-- ---- one of several matrices after another

pub each-then :
    {Y : Type 0} (f : Literals → Y) (ms : List Matrix) (i : ℕ) (m : Matrix) (made new all : List Y) (cs : List Literals)
    → i < length ms → m ≡ get_or ms i m
    → new ≡ made ++ map f (all_pairs (written (matrix_tree m)) cs)
    → made ++ map f (all_pairs (all_written (matrices_of (map matrix_tree (drop i ms)))) cs) ≡ all
    → new ++ map f (all_pairs (all_written (matrices_of (map matrix_tree (drop (i + 1) ms)))) cs) ≡ all
each-then f ms i m made new all cs h e k a =
    let here : List Literals = all_pairs (written (matrix_tree m)) cs in
    let rest : List Literals = all_pairs (all_written (matrices_of (map matrix_tree (drop (i + 1) ms)))) cs in
    ap (λ ys. ys ++ map f rest) k
    ∙ append_assoc made (map f here) (map f rest)
    ∙ ap (λ ys. made ++ ys) (sym (map-append f here rest))
    ∙ ap (λ ds. made ++ map f ds) (sym (pairs-append (written (matrix_tree m)) (all_written (matrices_of (map matrix_tree (drop (i + 1) ms)))) cs))
    ∙ ap (λ ns. made ++ map f (all_pairs (all_written (matrices_of (map matrix_tree ns))) cs)) (sym (drop-item ms i m h e))
    ∙ a

pub each-done :
    {Y : Type 0} (f : Literals → Y) (ms : List Matrix) (i : ℕ) (made all : List Y) (cs : List Literals)
    → length ms ≤ i
    → made ++ map f (all_pairs (all_written (matrices_of (map matrix_tree (drop i ms)))) cs) ≡ all → made ≡ all
each-done f ms i made all cs h a =
    sym (append-nil made)
    ∙ ap (λ ns. made ++ map f (all_pairs (all_written (matrices_of (map matrix_tree ns))) cs)) (sym (drop-all ms i h))
    ∙ a

-- ---- members put before the agenda

pub pushed-clauses :
    (ms : List Matrix) (i j : ℕ) (m : Bor Matrix) (old new : List (Bor Matrix)) (cs : List Literals)
    → j ≡ i + 1 → i < length ms → m.now ≡ get_or ms i m.now → new ≡ old ++ m ∷ []
    → agenda_clauses old ≡ all_pairs (product_written ([] ∷ []) (matrices_of (map matrix_tree (drop j ms)))) cs
    → agenda_clauses new ≡ all_pairs (product_written ([] ∷ []) (matrices_of (map matrix_tree (drop i ms)))) cs
pushed-clauses ms i j m old new cs e h g n a =
    let rest : List Literals = product_written ([] ∷ []) (matrices_of (map matrix_tree (drop (i + 1) ms))) in
    ap agenda_clauses n ∙ products-last ([] ∷ []) old m
    ∙ ap (λ ds. all_pairs (written (matrix_tree m.now)) ds) (a ∙ ap (λ k. all_pairs (product_written ([] ∷ []) (matrices_of (map matrix_tree (drop k ms)))) cs) e)
    ∙ sym (pairs-assoc (written (matrix_tree m.now)) rest cs)
    ∙ ap (λ ds. all_pairs ds cs) (sym (product-written-first (matrix_tree m.now) (matrices_of (map matrix_tree (drop (i + 1) ms)))))
    ∙ ap (λ ns. all_pairs (product_written ([] ∷ []) (matrices_of (map matrix_tree ns))) cs) (sym (drop-item ms i m.now h g))

pub pushed-size :
    (ms : List Matrix) (i j : ℕ) (m : Bor Matrix) (old new : List (Bor Matrix)) (size : ℕ)
    → j ≡ i + 1 → i < length ms → m.now ≡ get_or ms i m.now → new ≡ old ++ m ∷ []
    → agenda_size old ≡ size + matrices_size (matrices_of (map matrix_tree (drop j ms)))
    → agenda_size new ≡ size + matrices_size (matrices_of (map matrix_tree (drop i ms)))
pushed-size ms i j m old new size e h g n a =
    let rest : MatrixTrees = matrices_of (map matrix_tree (drop (i + 1) ms)) in
    let whole : matrices_size (matrices_of (map matrix_tree (drop i ms))) ≡ matrix_size (matrix_tree m.now) + matrices_size rest =
    ap (λ ns. matrices_size (matrices_of (map matrix_tree ns))) (drop-item ms i m.now h g) in
    let before : agenda_size old ≡ size + matrices_size rest =
    a ∙ ap (λ k. size + matrices_size (matrices_of (map matrix_tree (drop k ms)))) e in
    let after : agenda_size new ≡ agenda_size old + matrix_size (matrix_tree m.now) = ap agenda_size n ∙ size-last old m in
    omega (arith, whole, before, after)

-- nothing is pushed yet
pub pushed-none :
    (ms : List Matrix) (i : ℕ) (old : List (Bor Matrix)) → length ms ≤ i
    → agenda_clauses old ≡ all_pairs (product_written ([] ∷ []) (matrices_of (map matrix_tree (drop i ms)))) (agenda_clauses old)
pushed-none ms i old h =
    sym (unit-pairs (agenda_clauses old))
    ∙ ap (λ ns. all_pairs (product_written ([] ∷ []) (matrices_of (map matrix_tree ns))) (agenda_clauses old)) (sym (drop-all ms i h))

pub size-none : (ms : List Matrix) (i size : ℕ) → length ms ≤ i → size ≡ size + matrices_size (matrices_of (map matrix_tree (drop i ms)))
size-none ms i size h = omega (arith, ap (λ ns. matrices_size (matrices_of (map matrix_tree ns))) (drop-all ms i h))
