-- The values of the worked examples.
use Rattle.std.specs.Prelude.{ℕ, List, [], ◌∷◌, false, true, Some, None, codes, Result}
use Rattle.literal_selection.specs.declared.choice.Selection.TheVariants.{Negative}
use Rattle.pool_history.specs.declared.options.Options.{Options}
use Rattle.outside.specs.Examples.{script_gives}
use Rattle.outside.specs.declared.fault.SinkFault.{SinkFault}
use Rattle.tptp_tree.specs.Formula.{predicate, negation}
use Rattle.tptp_tree.specs.Term.{no_terms, term_then}
use Rattle.tptp_tree.specs.declared.formula.Formula.TheVariants.{Pred}
use Rattle.tptp_tree.specs.declared.problem.Annotated.{Annotated}
use Rattle.tptp_tree.specs.declared.role.Role.{Role}
use Rattle.tptp_tree.specs.declared.role.Role.TheVariants.{Axiom, Conjecture}
use Rattle.fol_base.specs.Clause.{TreeClause}
use Rattle.signature.specs.Examples.{a, fof_axiom}
use Rattle.signature.specs.Form.{ClausalForm, clausal_form}
use Rattle.laws_meaning.specs.Examples.{hiding_alone}
use Rattle.command_reports.specs.Outside.{Outside}
use Rattle.commands.specs.Run.{Taken, AreWrites, DeliversInPieces}
use Rattle.command_words.specs.declared.command.AxiomSelection.{AxiomSelection}
use Rattle.command_words.specs.declared.command.ProveOptions.{ProveOptions}

-- a pool that may count n inferences, selects negative literals, and splits clauses
abbrev pub pool_counting : ℕ → Options
pool_counting n = record { select = Negative; split = true; inferences = n }

-- works on a pool of all clauses
abbrev pub all_axioms : Options → ProveOptions
all_axioms pool = record { pool = pool; axioms = None }

abbrev pub counting : ℕ → ProveOptions
counting n = all_axioms (pool_counting n)

-- a selection by a tolerance and a depth
abbrev pub selecting : ℕ → ℕ → AxiomSelection
selecting tolerance depth = record { tolerance = tolerance; depth = depth }

-- a proof that begins with what it keeps
abbrev pub counting_selected : ℕ → ℕ → ℕ → ProveOptions
counting_selected n tolerance depth = record { pool = pool_counting n; axioms = Some (selecting tolerance depth) }

-- `! [X] : ( p(X) | ? [X] : r(X,X) )` with these clauses in place of its own
abbrev pub hiding_with : List TreeClause → ClausalForm
hiding_with clauses = record { symbols = (clausal_form hiding_alone).symbols; clauses = clauses; origins = [] }

-- the proposition p in this role
abbrev pub formula_in : Role → Annotated
formula_in role = record { name = codes "a"; role = role; clause = false; formula = Pred (codes "p") []; file = codes "r"; place = 0 }

-- p(a) and ~q(a), axioms without variables
abbrev pub ground_axioms : List Annotated
ground_axioms =
    fof_axiom (predicate (codes "p") (term_then a no_terms)) ∷ fof_axiom (negation (predicate (codes "q") (term_then a no_terms))) ∷ []

-- the problem that p follows from p
abbrev pub made_formulas : List Annotated
made_formulas = formula_in Axiom ∷ formula_in Conjecture ∷ []

-- a library that holds no file, with its count of faults before a run and after it
abbrev pub holding_nothing : ℕ → ℕ → Outside
holding_nothing before after =
    record { told = Some (λ name. None); faults_before = before; faults_after = after; found_after = 0; failed_after = None }

-- by these answers of a sink a text that is due with this status is delivered, by writes that are handed these bytes in turn
abbrev pub AreWritesBy : List (Result ℕ SinkFault) → ℕ → List ℕ → Result (Unit {0}) SinkFault → List (List ℕ) → List (Result ℕ SinkFault) → Type 0
AreWritesBy answers due text result handed left =
    AreWrites script_gives (record { answers = answers; handed = [] }) (record { answers = left; handed = handed }) due text result

-- by these answers of a sink a text is delivered in pieces with this result, by writes that are handed these bytes in turn; and some
-- answers are left
abbrev pub DeliversInPiecesBy : List (Result ℕ SinkFault) → List ℕ → Result (Unit {0}) SinkFault → List (List ℕ) → List (Result ℕ SinkFault) → Type 0
DeliversInPiecesBy answers text result handed left =
    DeliversInPieces script_gives (record { answers = answers; handed = [] }) text result (record { answers = left; handed = handed })

-- a sink that took this text, and didn't fail
abbrev pub taking : List ℕ → Taken
taking text = record { bytes_before = Some []; bytes_after = Some text; faults_before = 3; faults_after = 3 }

-- the words of `prove r1.p`
abbrev pub proving_row : List (List ℕ)
proving_row = codes "prove" ∷ codes "r1.p" ∷ []
