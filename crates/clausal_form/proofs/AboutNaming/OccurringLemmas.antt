-- The variables of a matrix's clauses.
use Rattle.std.proofs.Common.{◌≡◌, ℕ, ◌-◌, ◌^◌, ◌≤◌, ◌==◌, Bool, true, false, ◌&&◌, ◌||◌, List, [], ◌∷◌, ◌++◌, map, refl, ap, sym, ◌∙◌, append-nil, append_assoc}
use Rattle.std.specs.Prelude.{flat_map, filter, if◌then◌else◌}
use Rattle.std.specs.List.{list_any}
use Rattle.fol_base.specs.Clause.{literal_variables}
use Rattle.fol_base.specs.Canonical.{numbers_from}
use Rattle.signature.specs.Clausal.{Literals, all_pairs, made_in_order}
use Rattle.skolem.specs.Matrix.{MatrixTree, truth, falsity, literal, conjunction, disjunction, MatrixTrees, no_matrices, matrix_then}
use Rattle.skolem.specs.Heavy.{has_clauses, some_have_clauses, all_have_clauses}
use Rattle.skolem.specs.Outline.{AreSame}
use Rattle.skolem.proofs.AboutFormulas.OutlineLemmas.{same-order as order-of-same}
use Rattle.clausal_form.specs.Written.{written, all_written, product_written}
use Rattle.clausal_form.specs.Occurring.{clauses_variables, matrix_variables, matrices_variables}
use Rattle.clausal_form.proofs.AboutNaming.PairLemmas.{product-written-first}
use Rattle.list_lemmas.proofs.Tests.{any-joined}

abbrev pub is_some : List Literals → Bool
is_some [] = false
is_some (c ∷ cs) = true

pub some-append : (a b : List Literals) → is_some (a ++ b) ≡ (is_some a || is_some b)
some-append [] b = refl
some-append (c ∷ a) b = refl

some-before : (c : Literals) (b : List Literals) → is_some (map (λ d. c ++ d) b) ≡ is_some b
some-before c [] = refl
some-before c (d ∷ b) = refl

or-idle : (t u : Bool) → (t || (u && t)) ≡ t
or-idle true u = refl
or-idle false true = refl
or-idle false false = refl

pub some-pairs : (a b : List Literals) → is_some (all_pairs a b) ≡ (is_some a && is_some b)
some-pairs [] b = refl
some-pairs (c ∷ a) b =
    some-append (map (λ d. c ++ d) b) (all_pairs a b) ∙ ap (λ t. t || is_some (all_pairs a b)) (some-before c b)
    ∙ ap (λ t. is_some b || t) (some-pairs a b) ∙ or-idle (is_some b) (is_some a)

abbrev pub any_in : (ℕ → Bool) → List Literals → Bool
any_in p cs = list_any p (clauses_variables cs)

pub any-lists : (p : ℕ → Bool) (a b : List Literals) → any_in p (a ++ b) ≡ (any_in p a || any_in p b)
any-lists p [] b = refl
any-lists p (c ∷ a) b =
    any-joined p (flat_map literal_variables c) (clauses_variables (a ++ b))
    ∙ ap (λ t. list_any p (flat_map literal_variables c) || t) (any-lists p a b)
    ∙ or-turn (list_any p (flat_map literal_variables c)) (any_in p a) (any_in p b)
    ∙ ap (λ t. t || any_in p b) (sym (any-joined p (flat_map literal_variables c) (clauses_variables a)))
  where
    or-turn : (t u v : Bool) → (t || (u || v)) ≡ ((t || u) || v)
    or-turn true u v = refl
    or-turn false u v = refl

variables-append : (c d : Literals) → flat_map literal_variables (c ++ d) ≡ flat_map literal_variables c ++ flat_map literal_variables d
variables-append [] d = refl
variables-append (l ∷ c) d =
    ap (λ xs. literal_variables l ++ xs) (variables-append c d)
    ∙ sym (append_assoc (literal_variables l) (flat_map literal_variables c) (flat_map literal_variables d))

any-before :
    (p : ℕ → Bool) (c : Literals) (b : List Literals)
    → any_in p (map (λ d. c ++ d) b) ≡ (is_some b && (list_any p (flat_map literal_variables c) || any_in p b))
any-before p c [] = refl
any-before p c (d ∷ b) =
    any-joined p (flat_map literal_variables (c ++ d)) (clauses_variables (map (λ e. c ++ e) b))
    ∙ ap (λ xs. list_any p xs || any_in p (map (λ e. c ++ e) b)) (variables-append c d)
    ∙ ap (λ t. t || any_in p (map (λ e. c ++ e) b)) (any-joined p (flat_map literal_variables c) (flat_map literal_variables d))
    ∙ ap (λ t. (list_any p (flat_map literal_variables c) || list_any p (flat_map literal_variables d)) || t) (any-before p c b)
    ∙ by (list_any p (flat_map literal_variables c)) (list_any p (flat_map literal_variables d)) b
    ∙ ap (λ t. list_any p (flat_map literal_variables c) || t) (sym (any-joined p (flat_map literal_variables d) (clauses_variables b)))
  where
    by : (t u : Bool) (b : List Literals) → ((t || u) || (is_some b && (t || any_in p b))) ≡ (t || (u || any_in p b))
    by true u b = refl
    by false true b = refl
    by false false [] = refl
    by false false (d ∷ b) = refl

pub any-pairs :
    (p : ℕ → Bool) (a b : List Literals)
    → any_in p (all_pairs a b) ≡ ((is_some a && is_some b) && (any_in p a || any_in p b))
any-pairs p [] b = refl
any-pairs p (c ∷ a) b =
    any-lists p (map (λ d. c ++ d) b) (all_pairs a b)
    ∙ ap (λ t. t || any_in p (all_pairs a b)) (any-before p c b)
    ∙ ap (λ t. (is_some b && (list_any p (flat_map literal_variables c) || any_in p b)) || t) (any-pairs p a b)
    ∙ by (is_some b) (list_any p (flat_map literal_variables c)) (any_in p b) a
    ∙ ap (λ t. is_some b && (t || any_in p b)) (sym (any-joined p (flat_map literal_variables c) (clauses_variables a)))
  where
    by :
        (t u v : Bool) (a : List Literals)
        → ((t && (u || v)) || ((is_some a && t) && (any_in p a || v))) ≡ (t && ((u || any_in p a) || v))
    by false u v [] = refl
    by false u v (d ∷ a) = refl
    by true true v a = refl
    by true false true a = or-true (any_in p a)
      where
        or-true : (t : Bool) → true ≡ (t || true)
        or-true true = refl
        or-true false = refl
    by true false false [] = refl
    by true false false (d ∷ a) = refl

-- ---- matrices

mutual
  some-written : (m : MatrixTree) → is_some (written m) ≡ has_clauses m
  some-written truth = refl
  some-written falsity = refl
  some-written (literal l) = refl
  some-written (conjunction ms) = some-listed ms
  some-written (disjunction made ms) = some-product ms

  some-listed : (ms : MatrixTrees) → is_some (all_written ms) ≡ some_have_clauses ms
  some-listed no_matrices = refl
  some-listed (matrix_then m ms) =
      some-append (written m) (all_written ms) ∙ ap (λ t. t || is_some (all_written ms)) (some-written m) ∙ ap (λ t. has_clauses m || t) (some-listed ms)

  some-product : (ms : MatrixTrees) → is_some (product_written ([] ∷ []) ms) ≡ all_have_clauses ms
  some-product no_matrices = refl
  some-product (matrix_then m ms) =
      ap is_some (product-written-first m ms) ∙ some-pairs (written m) (product_written ([] ∷ []) ms)
      ∙ ap (λ t. t && is_some (product_written ([] ∷ []) ms)) (some-written m) ∙ ap (λ t. has_clauses m && t) (some-product ms)

abbrev pub Same : List ℕ → List ℕ → Type 0
Same xs ys = (p : ℕ → Bool) → list_any p xs ≡ list_any p ys

any-if : (p : ℕ → Bool) (t : Bool) (xs : List ℕ) → list_any p (if t then xs else []) ≡ (t && list_any p xs)
any-if p true xs = refl
any-if p false xs = refl

mutual
  same-variables : (m : MatrixTree) → Same (clauses_variables (written m)) (matrix_variables m)
  same-variables truth p = refl
  same-variables falsity p = refl
  same-variables (literal l) p = ap (list_any p) (append-nil (literal_variables l ++ []) ∙ append-nil (literal_variables l))
  same-variables (conjunction ms) p = same-listed ms p
  same-variables (disjunction made ms) p = same-product ms p ∙ sym (any-if p (all_have_clauses ms) (matrices_variables ms))

  same-listed : (ms : MatrixTrees) → Same (clauses_variables (all_written ms)) (matrices_variables ms)
  same-listed no_matrices p = refl
  same-listed (matrix_then m ms) p =
      any-lists p (written m) (all_written ms) ∙ ap (λ t. t || any_in p (all_written ms)) (same-variables m p)
      ∙ ap (λ t. list_any p (matrix_variables m) || t) (same-listed ms p) ∙ sym (any-joined p (matrix_variables m) (matrices_variables ms))

  same-product : (ms : MatrixTrees) (p : ℕ → Bool) → any_in p (product_written ([] ∷ []) ms) ≡ (all_have_clauses ms && list_any p (matrices_variables ms))
  same-product no_matrices p = refl
  same-product (matrix_then m ms) p =
      ap (any_in p) (product-written-first m ms) ∙ any-pairs p (written m) (product_written ([] ∷ []) ms)
      ∙ ap (λ t. (t && is_some (product_written ([] ∷ []) ms)) && (any_in p (written m) || any_in p (product_written ([] ∷ []) ms))) (some-written m)
      ∙ ap (λ t. (has_clauses m && t) && (any_in p (written m) || any_in p (product_written ([] ∷ []) ms))) (some-product ms)
      ∙ ap (λ t. (has_clauses m && all_have_clauses ms) && (t || any_in p (product_written ([] ∷ []) ms))) (same-variables m p)
      ∙ ap (λ t. (has_clauses m && all_have_clauses ms) && (list_any p (matrix_variables m) || t)) (same-product ms p)
      ∙ by (has_clauses m) (all_have_clauses ms) (list_any p (matrix_variables m)) (list_any p (matrices_variables ms))
      ∙ ap (λ t. (has_clauses m && all_have_clauses ms) && t) (sym (any-joined p (matrix_variables m) (matrices_variables ms)))
    where
      by : (t u v w : Bool) → ((t && u) && (v || (u && w))) ≡ ((t && u) && (v || w))
      by true true v w = refl
      by true false v w = refl
      by false u v w = refl

-- the same variables in order
pub same-order : (n : ℕ) (xs ys : List ℕ) → Same xs ys → made_in_order n xs ≡ made_in_order n ys
same-order n xs ys h = filtered (numbers_from 0 n)
  where
    filtered : (vs : List ℕ) → filter (λ v. list_any (λ w. v == w) xs) vs ≡ filter (λ v. list_any (λ w. v == w) ys) vs
    filtered [] = refl
    filtered (v ∷ vs) =
        ap (λ t. if t then v ∷ filter (λ v. list_any (λ w. v == w) xs) vs else filter (λ v. list_any (λ w. v == w) xs) vs) (h (λ w. v == w))
        ∙ ap (λ us. if list_any (λ w. v == w) ys then v ∷ us else us) (filtered vs)

-- from a list that has the same variables below the limit, such as one whose repetitions were dropped
pub arguments-made :
    (n : ℕ) (m : MatrixTree) (old new found : List ℕ)
    → n ≤ 2 ^ 32 - 1 → old ≡ [] → AreSame new (old ++ matrix_variables m) → found ≡ made_in_order n new → found ≡ made_in_order n (clauses_variables (written m))
arguments-made n m old new found l o h k =
    k
    ∙ order-of-same n new (old ++ matrix_variables m) l h
    ∙ ap (λ xs. made_in_order n (xs ++ matrix_variables m)) o
    ∙ sym (same-order n _ _ (same-variables m))
