-- The symbols that a walk over a problem meets.
use Rattle.std.proofs.Common.{◌≡◌, ℕ, zero, suc, ◌+◌, ◌<◌, ◌≤◌, List, [], ◌∷◌, ◌++◌, length, map, drop, get_or, refl, ap, sym, ◌∙◌, arith}
use Rattle.std.specs.Prelude.{fold, flat_map}
use Rattle.tptp_tree.specs.Term.{TermTree, variable, application, term_size, terms_size, terms_of}
use Rattle.tptp_tree.specs.Formula.{formulas_of}
use Rattle.tptp_tree.specs.Shape.{term_of, formula_of}
use Rattle.tptp_tree.specs.declared.term.TreeTerm.{TreeTerm}
use Rattle.tptp_tree.specs.declared.formula.Formula.{Formula}
use Rattle.tptp_tree.specs.declared.problem.Annotated.{Annotated}
use Rattle.signature.specs.declared.symbol.Symbol.{Symbol}
use Rattle.signature.specs.Symbol.{with_symbol}
use Rattle.signature.specs.Occurrences.{terms_count, term_symbols, terms_symbols, formula_symbols, formulas_symbols, annotated_symbols}
use Rattle.tptp_tree.specs.ProblemSize.{occurrences, all_occurrences, total_occurrences}
use Rattle.list_lemmas.proofs.Places.{drop-item, drop-all}

pub folded : (known first rest : List Symbol) → fold with_symbol known (first ++ rest) ≡ fold with_symbol (fold with_symbol known first) rest
folded known [] rest = refl
folded known (s ∷ first) rest = folded (with_symbol known s) first rest

pub count_length : (ts : List TreeTerm) → terms_count (terms_of (map term_of ts)) ≡ length ts
count_length [] = refl
count_length (t ∷ ts) = omega (arith, count_length ts)

size-positive : (t : TermTree) → 1 ≤ term_size t
size-positive (variable x) = omega arith
size-positive (application f ts) = omega arith

pub count-size : (ts : List TreeTerm) → length ts ≤ terms_size (terms_of (map term_of ts))
count-size [] = omega arith
count-size (t ∷ ts) = omega (arith, size-positive (term_of t), count-size ts)

drop-suc : {X : Type 0} (x : X) (xs : List X) (i : ℕ) → drop (i + 1) xs ≡ drop (suc i + 1) (x ∷ xs)
drop-suc x xs i = ap (λ k. drop k (x ∷ xs)) step
  where
    step : suc (i + 1) ≡ suc i + 1
    step = omega arith

-- one more term is walked over
pub terms-step :
    (known : List Symbol) (ts : List TreeTerm) (i : ℕ) (t : TreeTerm)
    → i < length ts → t ≡ get_or ts i t
    → fold with_symbol (fold with_symbol known (term_symbols (term_of t))) (terms_symbols (terms_of (map term_of (drop (i + 1) ts))))
    ≡ fold with_symbol known (terms_symbols (terms_of (map term_of (drop i ts))))
terms-step known ts i t h e =
    sym (folded known (term_symbols (term_of t)) (terms_symbols (terms_of (map term_of (drop (i + 1) ts)))))
    ∙ ap (λ us. fold with_symbol known (terms_symbols (terms_of (map term_of us)))) (sym (drop-item ts i t h e))

pub terms-end :
    (known : List Symbol) (ts : List TreeTerm) (i : ℕ)
    → length ts ≤ i → fold with_symbol known (terms_symbols (terms_of (map term_of (drop i ts)))) ≡ known
terms-end known ts i h = ap (λ us. fold with_symbol known (terms_symbols (terms_of (map term_of us)))) (drop-all ts i h)

pub formulas-step :
    (known : List Symbol) (fs : List Formula) (i : ℕ) (f : Formula)
    → i < length fs → f ≡ get_or fs i f
    → fold with_symbol (fold with_symbol known (formula_symbols (formula_of f))) (formulas_symbols (formulas_of (map formula_of (drop (i + 1) fs))))
    ≡ fold with_symbol known (formulas_symbols (formulas_of (map formula_of (drop i fs))))
formulas-step known fs i f h e =
    sym (folded known (formula_symbols (formula_of f)) (formulas_symbols (formulas_of (map formula_of (drop (i + 1) fs)))))
    ∙ ap (λ gs. fold with_symbol known (formulas_symbols (formulas_of (map formula_of gs)))) (sym (drop-item fs i f h e))

pub formulas-end :
    (known : List Symbol) (fs : List Formula) (i : ℕ)
    → length fs ≤ i → fold with_symbol known (formulas_symbols (formulas_of (map formula_of (drop i fs)))) ≡ known
formulas-end known fs i h = ap (λ gs. fold with_symbol known (formulas_symbols (formulas_of (map formula_of gs)))) (drop-all fs i h)

pub annotated-step :
    (known : List Symbol) (fs : List Annotated) (i : ℕ) (f : Annotated)
    → i < length fs → f ≡ get_or fs i f
    → fold with_symbol (fold with_symbol known (annotated_symbols f)) (flat_map annotated_symbols (drop (i + 1) fs))
    ≡ fold with_symbol known (flat_map annotated_symbols (drop i fs))
annotated-step known fs i f h e =
    sym (folded known (annotated_symbols f) (flat_map annotated_symbols (drop (i + 1) fs)))
    ∙ ap (λ gs. fold with_symbol known (flat_map annotated_symbols gs)) (sym (drop-item fs i f h e))

pub annotated-end :
    (known : List Symbol) (fs : List Annotated) (i : ℕ)
    → length fs ≤ i → fold with_symbol known (flat_map annotated_symbols (drop i fs)) ≡ known
annotated-end known fs i h = ap (λ gs. fold with_symbol known (flat_map annotated_symbols gs)) (drop-all fs i h)

-- ---- sizes

pub formula-item :
    (fs : List Formula) (i : ℕ) (f : Formula)
    → i < length fs → f ≡ get_or fs i f → occurrences (formula_of f) ≤ all_occurrences (formulas_of (map formula_of fs))
formula-item fs i f h e = omega (arith, among fs i f h, ap (λ g. occurrences (formula_of g)) e)
  where
    among : (gs : List Formula) (j : ℕ) (d : Formula) → j < length gs → occurrences (formula_of (get_or gs j d)) ≤ all_occurrences (formulas_of (map formula_of gs))
    among [] j d k = absurd (omega arith)
    among (g ∷ gs) zero d k = omega arith
    among (g ∷ gs) (suc j) d k = omega (arith, among gs j d (omega arith))

pub annotated-item :
    (fs : List Annotated) (i : ℕ) (f : Annotated)
    → i < length fs → f ≡ get_or fs i f → occurrences (formula_of f.formula) ≤ total_occurrences fs
annotated-item fs i f h e = omega (arith, among fs i f h, ap (λ (g : Annotated). occurrences (formula_of g.formula)) e)
  where
    among : (gs : List Annotated) (j : ℕ) (d : Annotated) → j < length gs → occurrences (formula_of (get_or gs j d).formula) ≤ total_occurrences gs
    among [] j d k = absurd (omega arith)
    among (g ∷ gs) zero d k = omega arith
    among (g ∷ gs) (suc j) d k = omega (arith, among gs j d (omega arith))
