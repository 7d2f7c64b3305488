-- The definitions of a problem, on small files.
use Rattle.std.specs.Prelude.{ℕ, true, List, [], ◌∷◌, None, Some, codes, bytes_eq, if◌then◌else◌}
use Rattle.outside.specs.Library.{Holdings}
use Rattle.tptp_tree.specs.declared.role.Role.TheVariants.{Plain}
use Rattle.tptp_tree.specs.Term.{no_terms}
use Rattle.tptp_tree.specs.Formula.{predicate}
use Rattle.tptp_tree.specs.Entries.{AnnotatedTree}
use Rattle.tptp_reader.specs.declared.cause.ReadCause.TheVariants.{SelectionMissing}
use Rattle.tptp_problem.specs.Formulas.{Placed}
use Rattle.tptp_problem.specs.Problem.{IsProblem, IsProblemFault}
use Rattle.tptp_problem.specs.Spelled.{SpellsProblem}

-- a library of two files
abbrev pub holding : List ℕ → List ℕ → List ℕ → List ℕ → Holdings
holding name bytes other others file =
    if bytes_eq name file then Some bytes else (if bytes_eq other file then Some others else None)

-- a clause of one positive literal without arguments
abbrev pub clause_named : List ℕ → List ℕ → AnnotatedTree
clause_named name symbol = record { name = name; role = Plain; is_clause = true; formula = predicate symbol no_terms }

abbrev pub two_clauses : List ℕ
two_clauses = codes "cnf(b,plain,q).cnf(c,plain,r)."

abbrev pub included : Holdings
included = holding (codes "d/a") (codes "include(f,[c]).cnf(a,plain,p).") (codes "d/f") two_clauses

-- The included file lies beside the first one; only the formula that is listed is taken, where the include stands.
abbrev pub SelectedFormula : Type 0
SelectedFormula =
    SpellsProblem (Some included) (codes "d/a") None
    (record { tree = clause_named (codes "c") (codes "r"); file = codes "d/f" }
    ∷ record { tree = clause_named (codes "a") (codes "p"); file = codes "d/a" } ∷ [])

-- With a root the included file lies there, and without a list all is taken.
abbrev pub WholeFile : Type 0
WholeFile =
    SpellsProblem (Some (holding (codes "a") (codes "include(f).") (codes "r/f") two_clauses))
    (codes "a") (Some (codes "r"))
    (record { tree = clause_named (codes "b") (codes "q"); file = codes "r/f" }
    ∷ record { tree = clause_named (codes "c") (codes "r"); file = codes "r/f" } ∷ [])

-- a library of three files, each included by the one before
abbrev pub nested : Holdings
nested file =
    if bytes_eq (codes "d/g") file then Some two_clauses
    else holding (codes "d/a") (codes "include('e/f').") (codes "d/e/f") (codes "include(g,[b]).cnf(a,plain,p).") file

-- The file of an include within an included file lies beside the first one too, and not beside the one that names it.
abbrev pub NestedInclude : Type 0
NestedInclude =
    SpellsProblem (Some nested) (codes "d/a") None
    (record { tree = clause_named (codes "b") (codes "q"); file = codes "d/g" }
    ∷ record { tree = clause_named (codes "a") (codes "p"); file = codes "d/e/f" } ∷ [])

-- such a clause in its file
abbrev pub placed_clause : List ℕ → List ℕ → List ℕ → ℕ → Placed
placed_clause name symbol file place = record { tree = clause_named name symbol; file = file; place = place }

-- a problem of one clause, which begins after a blank
abbrev pub OneClause : Type 0
OneClause =
    IsProblem (Some (holding (codes "a") (codes " cnf(a,plain,p).") [] [])) (codes "a") None
    (placed_clause (codes "a") (codes "p") (codes "a") 1 ∷ [])

-- The formula that an include lists, each formula with its place in its own file.
abbrev pub SelectedProblem : Type 0
SelectedProblem =
    IsProblem (Some included) (codes "d/a") None
    (placed_clause (codes "c") (codes "r") (codes "d/f") 15 ∷ placed_clause (codes "a") (codes "p") (codes "d/a") 15 ∷ [])

-- No formula of the included file has the name that is listed; the fault stands at that name.
abbrev pub MissingName : Type 0
MissingName =
    IsProblemFault (Some (holding (codes "a") (codes "include(f,[d]).") (codes "f") two_clauses)) 0 (codes "a") None SelectionMissing (codes "a") 11
