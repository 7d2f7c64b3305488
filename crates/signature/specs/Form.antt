-- The clausal form of a problem and its signature.
use Rattle.std.specs.Prelude.{ℕ, ◌≤◌, ◌<◌, ◌^◌, ◌+◌, Bool, true, false, not, ◌&&◌, ◌==◌, List, [], ◌∷◌, ◌++◌, length, codes, IsFalse, if◌then◌else◌}
use Rattle.std.specs.List.{list_any}
use Rattle.std.specs.Fmt.{decimal}
use Rattle.tptp_tree.specs.Formula.{implies, implied, equivalent, different, nor, nand, FormulaTree, truth, falsity, predicate, equation, negation, conjunction, disjunction, connected, quantified, FormulaTrees, no_formulas, formula_then}
use Rattle.tptp_tree.specs.Entries.{is_conjecture}
use Rattle.tptp_tree.specs.declared.problem.Annotated.{Annotated}
use Rattle.fol_base.specs.Clause.{TreeClause}
use Rattle.signature.specs.declared.symbol.Symbol.{Symbol}
use Rattle.signature.specs.declared.symbol.SymbolKind.{SymbolKind}
use Rattle.signature.specs.Symbol.{is_predicate_kind, is_named, predicate_symbol, function_symbol}
use Rattle.signature.specs.Occurrences.{problem_symbols}
use Rattle.signature.specs.Environment.{closed}
use Rattle.signature.specs.Prefix.{fresh_prefix_of}
use Rattle.signature.specs.Clausal.{SymbolNumbers, Made, Formed, makes_variables, formed}

-- ---- Skolem symbols

-- the number of Skolem symbols that the work on a formula with a sign makes
abbrev mutual
  pub skolem_count : FormulaTree → Bool → ℕ
  skolem_count truth sign = 0
  skolem_count falsity sign = 0
  skolem_count (predicate p ts) sign = 0
  skolem_count (equation positive s t) sign = 0
  skolem_count (negation f) sign = skolem_count f (not sign)
  skolem_count (conjunction fs) sign = all_skolem_count fs sign
  skolem_count (disjunction fs) sign = all_skolem_count fs sign
  skolem_count (connected implies f g) sign = skolem_count f (not sign) + skolem_count g sign
  skolem_count (connected implied f g) sign = skolem_count f sign + skolem_count g (not sign)
  skolem_count (connected nor f g) sign = skolem_count f (not sign) + skolem_count g (not sign)
  skolem_count (connected nand f g) sign = skolem_count f (not sign) + skolem_count g (not sign)
  skolem_count (connected equivalent f g) sign =
      (skolem_count f true + skolem_count f false) + (skolem_count g true + skolem_count g false)
  skolem_count (connected different f g) sign =
      (skolem_count f true + skolem_count f false) + (skolem_count g true + skolem_count g false)
  skolem_count (quantified q xs f) sign = (if makes_variables q sign then 0 else length xs) + skolem_count f sign

  pub all_skolem_count : FormulaTrees → Bool → ℕ
  all_skolem_count no_formulas sign = 0
  all_skolem_count (formula_then f fs) sign = skolem_count f sign + all_skolem_count fs sign

-- The number of Skolem symbols that the clausal form of a problem makes. The conjecture counts as negated.
abbrev pub problem_skolem_count : List Annotated → ℕ
problem_skolem_count [] = 0
problem_skolem_count (a ∷ fs) = skolem_count (closed a) (not (is_conjecture a.role)) + problem_skolem_count fs

-- ---- the form

-- The numbers of a problem's symbols: `$true` and those that it spells, then its Skolem symbols, then its
-- naming symbols.
abbrev pub symbol_numbers : List Annotated → SymbolNumbers
symbol_numbers fs =
    let symbols : List Symbol = problem_symbols fs in
    record { symbols = symbols; first_skolem = length symbols; first_naming = length symbols + problem_skolem_count fs }

-- the state before the first formula of a problem
abbrev pub nothing_made : Made
nothing_made = record { variables = 0; skolem_arities = []; naming_arities = []; defining = [] }

-- the clauses of a problem's formulas, with the origin of each, and the symbols that were made
abbrev pub problem_form : List Annotated → Formed
problem_form fs = formed (symbol_numbers fs) 0 fs nothing_made

-- ---- the signature

-- a symbol that is named by a prefix and its number
abbrev pub numbered_symbol : SymbolKind → List ℕ → ℕ → ℕ → Symbol
numbered_symbol kind prefix number arity = record { kind = kind; name = prefix ++ decimal number; arity = arity }

-- no symbol's name is the prefix followed by a number from that one on
abbrev pub AreUnused : List Symbol → List ℕ → ℕ → Type 0
AreUnused known prefix next = (k : ℕ) → next ≤ k → k < 2 ^ 32 → IsFalse (list_any (is_named (prefix ++ decimal k)) known)

-- symbols that are named by a prefix and their numbers, from that number on
abbrev pub numbered_symbols : (List ℕ → ℕ → Symbol) → List ℕ → ℕ → List ℕ → List Symbol
numbered_symbols make prefix number [] = []
numbered_symbols make prefix number (arity ∷ arities) =
    make (prefix ++ decimal number) arity ∷ numbered_symbols make prefix (number + 1) arities

-- whether a symbol is a function symbol without arguments
abbrev pub is_constant : Symbol → Bool
is_constant s = not (is_predicate_kind s.kind) && s.arity == 0

-- the spare constant, if there is no other constant
abbrev pub spare_constant : List ℕ → List Symbol → List Symbol
spare_constant prefix symbols = if list_any is_constant symbols then [] else function_symbol (prefix ++ decimal 0) 0 ∷ []

-- the problem's symbols with the Skolem symbols
abbrev pub with_skolem : List Symbol → Made → List Symbol
with_skolem symbols m = symbols ++ numbered_symbols function_symbol (fresh_prefix_of symbols (codes "sk")) 0 m.skolem_arities

-- the problem's symbols with the Skolem symbols and the naming symbols
abbrev pub with_naming : List Symbol → Made → List Symbol
with_naming symbols m =
    with_skolem symbols m ++ numbered_symbols predicate_symbol (fresh_prefix_of symbols (codes "nm")) 0 m.naming_arities

-- the signature of the clausal form: these symbols, and the spare constant if it is needed
abbrev pub form_symbols : List Symbol → Made → List Symbol
form_symbols symbols m = with_naming symbols m ++ spare_constant (fresh_prefix_of symbols (codes "hc")) (with_naming symbols m)

-- The clausal form: its signature, its clauses, each canonical, and for each clause the place of its formula.
pub record ClausalForm : Type 0 where
  pub symbols : List Symbol
  pub clauses : List TreeClause
  pub origins : List ℕ

-- The clausal form of a problem. Its signature has the problem's symbols, the Skolem symbols, the naming
-- symbols, and a spare constant if no other constant is there.
abbrev pub clausal_form : List Annotated → ClausalForm
clausal_form fs =
    let f : Formed = problem_form fs in
    record { symbols = form_symbols (problem_symbols fs) f.made; clauses = f.clauses; origins = f.origins }
