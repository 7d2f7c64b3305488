-- A member of a list is no larger than the list.
use Rattle.std.proofs.Common.{◌≡◌, ℕ, zero, suc, ◌<◌, ◌≤◌, List, [], ◌∷◌, length, map, get_or, ap, arith}
use Rattle.tptp_tree.specs.Term.{term_size, terms_size, terms_of}
use Rattle.tptp_tree.specs.Formula.{formula_size, formulas_size, formulas_of}
use Rattle.tptp_tree.specs.Shape.{term_of, formula_of}
use Rattle.tptp_tree.specs.declared.term.TreeTerm.{TreeTerm}
use Rattle.tptp_tree.specs.declared.formula.Formula.{Formula}

pub term-item : (ts : List TreeTerm) (i : ℕ) (d : TreeTerm) → i < length ts → term_size (term_of (get_or ts i d)) ≤ terms_size (terms_of (map term_of ts))
term-item [] i d h = absurd (omega arith)
term-item (t ∷ ts) zero d h = omega arith
term-item (t ∷ ts) (suc i) d h = omega (arith, term-item ts i d (omega arith))

pub term-item-is :
    (ts : List TreeTerm) (i : ℕ) (t : TreeTerm)
    → i < length ts → t ≡ get_or ts i t → term_size (term_of t) ≤ terms_size (terms_of (map term_of ts))
term-item-is ts i t h e = omega (arith, term-item ts i t h, ap (λ u. term_size (term_of u)) e)

pub formula-item :
    (fs : List Formula) (i : ℕ) (d : Formula)
    → i < length fs → formula_size (formula_of (get_or fs i d)) ≤ formulas_size (formulas_of (map formula_of fs))
formula-item [] i d h = absurd (omega arith)
formula-item (f ∷ fs) zero d h = omega arith
formula-item (f ∷ fs) (suc i) d h = omega (arith, formula-item fs i d (omega arith))

pub formula-item-is :
    (fs : List Formula) (i : ℕ) (f : Formula)
    → i < length fs → f ≡ get_or fs i f → formula_size (formula_of f) ≤ formulas_size (formulas_of (map formula_of fs))
formula-item-is fs i f h e = omega (arith, formula-item fs i f h, ap (λ g. formula_size (formula_of g)) e)
