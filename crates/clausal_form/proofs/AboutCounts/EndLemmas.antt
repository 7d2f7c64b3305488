-- Naming that ends early: the clauses that define names stay, so the largest of them is at most that of all.
use Rattle.std.proofs.Common.{◌≡◌, ℕ, ◌<◌, ◌≤◌, List, ◌∷◌, length, map, refl, ap, sym, subst, ◌∙◌, arith}
use Rattle.fol_base.specs.declared.limits.TheConstants.{MOST_SYMBOLS}
use Rattle.signature.specs.Clausal.{SymbolNumbers, Made, Worked, Literals, product}
use Rattle.skolem.specs.Matrix.{conjunction, MatrixTrees, matrices_of}
use Rattle.skolem.specs.MatrixClauses.{matrix_clauses, listed_matrices, product_of_matrices}
use Rattle.skolem.specs.Outline.{ClauseOutline}
use Rattle.skolem.specs.Shape.{matrix_tree}
use Rattle.skolem.specs.declared.matrix.Matrix.{Matrix}
use Rattle.clausal_form.specs.Measure.{ClauseMeasure, largest}
use Rattle.clausal_form.specs.Naming.{IsMeasured, IsEnd, defining_clauses, naming_made, naming_numbers}
use Rattle.clausal_form.specs.Occurring.{clauses_variables}
use Rattle.clausal_form.specs.declared.naming.Naming.{Naming}
use Rattle.clausal_form.specs.declared.naming.NamingEnd.{NamingEnd}
use Rattle.clausal_form.specs.declared.naming.NamingEnd.TheVariants.{NoMemory, TooHeavy}
use Rattle.clausal_form.proofs.AboutCounts.OutlineLemmas.{Tells, tells, tells-product, tells-products}
use Rattle.clausal_form.proofs.AboutNaming.NamingLemmas.{IsListing}

pub end-later : (end : NamingEnd) (ds es : List Literals) → largest ds ≤ largest es → IsEnd end ds → IsEnd end es
end-later NoMemory ds es l h = tt
end-later TooHeavy ds es l h = omega (arith, l, h)

pub end-over : (end : NamingEnd) (ds : List Literals) → end ≡ TooHeavy → IsEnd end ds → MOST_SYMBOLS < largest ds
end-over end ds e h = subst (λ t. IsEnd t ds) e h

-- ---- what stays

listed-keep : (n : SymbolNumbers) (xs : MatrixTrees) (m : Made) → largest m.defining ≤ largest (listed_matrices n xs m).made.defining
listed-keep n xs m = omega (arith, (tells n (conjunction xs) m).defining)

abbrev outline_so : List Literals → ClauseOutline
outline_so cs = record { clauses = length cs; largest = largest cs; defining = 0; variables = clauses_variables cs }

tells-so : (cs : List Literals) → Tells (outline_so cs) cs
tells-so cs = record { clauses = refl; largest = refl; variables = λ p. refl }

product-keeps :
    (n : SymbolNumbers) (began : ℕ) (cs ds : List Literals) (m : Made) → largest m.defining ≤ largest (product n began cs ds m).made.defining
product-keeps n began cs ds m =
    omega (
      arith,
      (tells-product n began (largest m.defining) (outline_so cs) (outline_so ds) cs ds m (tells-so cs) (tells-so ds) (omega arith)).defining,
    )

products-keep :
    (n : SymbolNumbers) (began : ℕ) (cs : List Literals) (xs : MatrixTrees) (m : Made)
    → largest m.defining ≤ largest (product_of_matrices n began cs xs m).made.defining
products-keep n began cs xs m =
    omega (arith, (tells-products n began xs m cs (outline_so cs) (largest m.defining) (tells-so cs) (omega arith)).defining)

-- ---- lists and products of matrices

-- the work on a list ended in its first matrix
pub listing-ended :
    (first : ℕ) (ms rest : List Matrix) (m : Matrix) (old : Naming) (before : List Literals) (all : Worked) (end : NamingEnd)
    → ms ≡ m ∷ rest → old.first ≡ first
    → IsListing (naming_numbers first) ms old before all
    → IsEnd end (matrix_clauses (naming_numbers old.first) (matrix_tree m) (naming_made old)).made.defining
    → IsEnd end all.made.defining
listing-ended first ms rest m old before all end e f l h =
    subst (λ (m : Made). IsEnd end m.defining)
    (ap (λ ns. (listed_matrices n (matrices_of (map matrix_tree ns)) (naming_made old)).made) (sym e) ∙ l.made)
    (end-later end one.made.defining (listed_matrices n (matrices_of (map matrix_tree rest)) one.made).made.defining
    (listed-keep n (matrices_of (map matrix_tree rest)) one.made)
    (subst (λ k. IsEnd end (matrix_clauses (naming_numbers k) (matrix_tree m) (naming_made old)).made.defining) f h))
  where
    n : SymbolNumbers
    n = naming_numbers first

    one : Worked
    one = matrix_clauses n (matrix_tree m) (naming_made old)

-- the work on a product ended in its first matrix
pub product-ended :
    (first began : ℕ) (ms rest : List Matrix) (m : Matrix) (old : Naming) (before : List Literals) (all : Worked) (end : NamingEnd)
    → ms ≡ m ∷ rest → old.first ≡ first
    → product_of_matrices (naming_numbers first) began before (matrices_of (map matrix_tree ms)) (naming_made old) ≡ all
    → IsEnd end (matrix_clauses (naming_numbers old.first) (matrix_tree m) (naming_made old)).made.defining
    → IsEnd end all.made.defining
product-ended first began ms rest m old before all end e f l h =
    subst (λ (w : Worked). IsEnd end w.made.defining)
    (ap (λ ns. product_of_matrices n began before (matrices_of (map matrix_tree ns)) (naming_made old)) (sym e) ∙ l)
    (end-later end one.made.defining (product_of_matrices n began two.clauses left two.made).made.defining
    (omega (arith, product-keeps n began before one.clauses one.made, products-keep n began two.clauses left two.made))
    (subst (λ k. IsEnd end (matrix_clauses (naming_numbers k) (matrix_tree m) (naming_made old)).made.defining) f h))
  where
    n : SymbolNumbers
    n = naming_numbers first

    left : MatrixTrees
    left = matrices_of (map matrix_tree rest)

    one : Worked
    one = matrix_clauses n (matrix_tree m) (naming_made old)

    two : Worked
    two = product n began before one.clauses one.made

-- the largest clause that defines a name is over the limit, and the matrices that are left are still to come
pub over-ended :
    (n : SymbolNumbers) (began : ℕ) (rest : List Matrix) (new : Naming) (after : List Literals) (all : Worked)
    → IsMeasured new.measure (defining_clauses new) → MOST_SYMBOLS < new.measure.largest
    → product_of_matrices n began after (matrices_of (map matrix_tree rest)) (naming_made new) ≡ all
    → MOST_SYMBOLS < largest all.made.defining
over-ended n began rest new after all h k l =
    omega (
      arith,
      k,
      ap (λ (a : ClauseMeasure). a.largest) h,
      products-keep n began after (matrices_of (map matrix_tree rest)) (naming_made new),
      ap (λ (w : Worked). largest w.made.defining) l,
    )
