-- The clauses of a formula of a problem, from its own matrix and the names alone.
use Rattle.std.proofs.Common.{◌≡◌, ℕ, Bool, true, false, not, List, [], ◌∷◌, ◌++◌, length, refl, ap, ◌∙◌}
use Rattle.std.specs.Prelude.{if◌then◌else◌, nat_lt}
use Rattle.tptp_tree.specs.Entries.{is_conjecture}
use Rattle.tptp_tree.specs.declared.problem.Annotated.{Annotated}
use Rattle.signature.specs.declared.symbol.Symbol.{Symbol}
use Rattle.signature.specs.Occurrences.{formula_symbols}
use Rattle.signature.specs.Environment.{closed}
use Rattle.signature.specs.Clausal.{SymbolNumbers, Made, Worked, Literals, all_pairs, is_large, named, product, truth_value, clauses_of, begun, annotated_clauses}
use Rattle.skolem.specs.Matrix.{MatrixTree, truth, falsity, literal, conjunction, disjunction, MatrixTrees, no_matrices, matrix_then}
use Rattle.skolem.specs.Skolemized.{Skolemized, AreKnown}
use Rattle.skolem.specs.MatrixClauses.{matrix_clauses, listed_matrices, product_of_matrices}
use Rattle.skolem.specs.ProblemLaws.{made_after, AreAllSymbols}
use Rattle.skolem.proofs.AboutFormulas.ProblemLemmas.{clauses_in_problem_are_those_of_matrix}
use Rattle.clausal_form.specs.Naming.{naming_numbers}
use Rattle.clausal_form.specs.Formula.{form_by_itself}

-- the variables and Skolem symbols of the one, the names of the other
abbrev with_names : Made → Made → Made
with_names m o =
    record { variables = m.variables; skolem_arities = m.skolem_arities; naming_arities = o.naming_arities; defining = o.defining }

abbrev worked_with : Made → Worked → Worked
worked_with m w = record { clauses = w.clauses; made = with_names m w.made }

abbrev own : SymbolNumbers → SymbolNumbers
own n = naming_numbers n.first_naming

abbrev product_by : SymbolNumbers → ℕ → List Literals → List Literals → Bool → Bool → Made → Worked
product_by n began first second large longer m =
    if not large then record { clauses = all_pairs first second; made = m }
    else if longer then
    (let w : Worked = named n began second m in record { clauses = all_pairs first w.clauses; made = w.made })
    else (let w : Worked = named n began first m in record { clauses = all_pairs w.clauses second; made = w.made })

product-frame :
    (n : SymbolNumbers) (began : ℕ) (first second : List Literals) (m o : Made)
    → product n began first second (with_names m o) ≡ worked_with m (product (own n) began first second o)
product-frame n began first second m o = by (is_large first second) (nat_lt (length first) (length second))
  where
    by : (t u : Bool) → product_by n began first second t u (with_names m o) ≡ worked_with m (product_by (own n) began first second t u o)
    by false u = refl
    by true true = refl
    by true false = refl

truth-frame : (sign : Bool) (m o : Made) → truth_value sign (with_names m o) ≡ worked_with m (truth_value sign o)
truth-frame true m o = refl
truth-frame false m o = refl

abbrev after : Worked → Worked → Worked
after w v = record { clauses = w.clauses ++ v.clauses; made = v.made }

mutual
  matrix-frame :
      (n : SymbolNumbers) (x : MatrixTree) (m o : Made) → matrix_clauses n x (with_names m o) ≡ worked_with m (matrix_clauses (own n) x o)
  matrix-frame n truth m o = truth-frame true m o
  matrix-frame n falsity m o = truth-frame false m o
  matrix-frame n (literal l) m o = refl
  matrix-frame n (conjunction xs) m o = listed-frame n xs m o
  matrix-frame n (disjunction began xs) m o = products-frame n began ([] ∷ []) xs m o

  listed-frame :
      (n : SymbolNumbers) (xs : MatrixTrees) (m o : Made) → listed_matrices n xs (with_names m o) ≡ worked_with m (listed_matrices (own n) xs o)
  listed-frame n no_matrices m o = truth-frame true m o
  listed-frame n (matrix_then x xs) m o =
      let w : Worked = matrix_clauses (own n) x o in
      ap (λ (v : Worked). after v (listed_matrices n xs v.made)) (matrix-frame n x m o)
      ∙ ap (after w) (listed-frame n xs m w.made)

  products-frame :
      (n : SymbolNumbers) (began : ℕ) (cs : List Literals) (xs : MatrixTrees) (m o : Made)
      → product_of_matrices n began cs xs (with_names m o) ≡ worked_with m (product_of_matrices (own n) began cs xs o)
  products-frame n began cs no_matrices m o = refl
  products-frame n began cs (matrix_then x xs) m o =
      let w : Worked = matrix_clauses (own n) x o in
      let p : Worked = product (own n) began cs w.clauses w.made in
      ap (λ (v : Worked). let t : Worked = product n began cs v.clauses v.made in product_of_matrices n began t.clauses xs t.made)
      (matrix-frame n x m o)
      ∙ ap (λ (t : Worked). product_of_matrices n began t.clauses xs t.made) (product-frame n began cs w.clauses m w.made)
      ∙ products-frame n began p.clauses xs m p.made

-- what a formula adds: the clauses of its matrix with those that define its names, its Skolem symbols and its names
abbrev pub formula_made : Made → Made
formula_made m = record { variables = 0; skolem_arities = []; naming_arities = m.naming_arities; defining = [] }

pub record IsAdded (n : SymbolNumbers) (a : Annotated) (m : Made) (w : Worked) (arities : List ℕ) : Type 0 where
  pub clauses : (annotated_clauses n a m).clauses ≡ w.clauses ++ w.made.defining
  pub skolem : (annotated_clauses n a m).made.skolem_arities ≡ m.skolem_arities ++ arities
  pub naming : (annotated_clauses n a m).made.naming_arities ≡ w.made.naming_arities

pub added-by-matrix :
    (n : SymbolNumbers) (others : List Symbol) (a : Annotated) (m : Made)
    → AreKnown n.symbols (formula_symbols (closed a)) → AreAllSymbols n others m
    → IsAdded n a m (matrix_clauses (naming_numbers n.first_naming) (form_by_itself (n.symbols ++ others) a).matrix (formula_made m))
    (form_by_itself (n.symbols ++ others) a).made.skolem_arities
added-by-matrix n others a m k l =
    record {
      clauses = ap (λ (w : Worked). w.clauses ++ w.made.defining) whole;
      skolem = ap (λ (w : Worked). w.made.skolem_arities) whole;
      naming = ap (λ (w : Worked). w.made.naming_arities) whole;
    }
  where
    s : Skolemized
    s = form_by_itself (n.symbols ++ others) a

    whole : clauses_of n (closed a) (not (is_conjecture a.role)) [] (begun m) ≡ worked_with (made_after m s.made) (matrix_clauses (own n) s.matrix (formula_made m))
    whole =
        clauses_in_problem_are_those_of_matrix n others (closed a) (not (is_conjecture a.role)) m k l
        ∙ matrix-frame n s.matrix (made_after m s.made) (formula_made m)
