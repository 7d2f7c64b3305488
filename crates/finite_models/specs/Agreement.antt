-- Entries that are those of an interpretation's table, and what flat clauses then say.
use Rattle.std.specs.Prelude.{◌≡◌, ℕ, ◌<◌, ◌≤◌, ◌==◌, ◌↔◌, nat_lt, true, false, List, ◌∷◌, length, map, IsTrue}
use Rattle.std.specs.List.{AllByRecursion}
use Rattle.fol_base.specs.Clause.{TreeClause}
use Rattle.fol_base.specs.WellFormed.{SymbolUse, are_literals_of}
use Rattle.fol_base.specs.Interpretation.{Interpretation, IsInterpretation, symbol_value, HoldsIn}
use Rattle.sat_core.specs.Clause.{Valuation}
use Rattle.signature.specs.declared.symbol.Symbol.{Symbol}
use Rattle.signature.specs.Symbol.{IsSignature}
use Rattle.kernel_steps.specs.Symbols.{clause_symbols_pass}
use Rattle.clausal_form.specs.FormFunctions.{is_predicate_in}
use Rattle.clausal_form.specs.FormLaws.{use_of}
use Rattle.finite_models.specs.declared.entry_names.EntryNames.{EntryNames}
use Rattle.finite_models.specs.Model.{has_arity_in}
use Rattle.finite_models.specs.Found.{row_of}
use Rattle.finite_models.specs.Flattening.{Entries, flat_clause, flat_clause_true}
use Rattle.finite_models.specs.EntryNames.{entries_of, AreEntryNames}
use Rattle.finite_models.specs.Translation.{symbols_true}
use Rattle.finite_models.specs.Table.{table_cells}

-- the entries that there are, are those of an interpretation's table
pub record Agrees (u : SymbolUse) (count : ℕ) (entries : Entries) (i : Interpretation) : Type 0 where
  pub functions :
      (f v : ℕ) (vs : List ℕ)
      → (f == 0) ≡ false → nat_lt f count ≡ true → u.is_predicate f ≡ false → length vs ≡ u.arity f
      → AllByRecursion (λ w. w < i.size) vs → v < i.size
      → entries f (v ∷ vs) ≡ (symbol_value i f vs == v)
  pub predicates :
      (f : ℕ) (vs : List ℕ)
      → (f == 0) ≡ false → nat_lt f count ≡ true → u.is_predicate f ≡ true → length vs ≡ u.arity f
      → AllByRecursion (λ w. w < i.size) vs
      → entries f vs ≡ (symbol_value i f vs == 1)

-- ---- laws

-- A clause holds in an interpretation exactly where its flat clause is true, with the entries of the interpretation, for all values below the
-- size in its slots.
abbrev pub FlatClausesTellTruth : Type 0
FlatClausesTellTruth =
    (symbols : List Symbol) (entries : Entries) (i : Interpretation) (c : TreeClause)
    → IsInterpretation (is_predicate_in symbols) i → Agrees (use_of symbols) (length symbols) entries i
    → IsTrue (are_literals_of (use_of symbols) c.literals) → IsTrue (clause_symbols_pass (has_arity_in symbols) c)
    → IsTrue (flat_clause_true i.size entries (flat_clause c)) ↔ HoldsIn i c

-- the table that is read off a valuation
abbrev pub table_of : List Symbol → EntryNames → Valuation → Interpretation
table_of symbols n valuation = record { size = n.size; rows = map row_of (table_cells symbols n valuation) }

-- Where a valuation gives each function one value at each list of arguments, its entries are those of the table that is read off it.
abbrev pub TablesHaveTheEntries : Type 0
TablesHaveTheEntries =
    (symbols : List Symbol) (n : EntryNames) (valuation : Valuation) → 1 ≤ n.size → IsTrue (symbols_true symbols n valuation)
    → IsInterpretation (is_predicate_in symbols) (table_of symbols n valuation)
    × Agrees (use_of symbols) (length symbols) (entries_of valuation n) (table_of symbols n valuation)

-- And the entries of every interpretation are those of some valuation that does so.
abbrev pub InterpretationsHaveValuations : Type 0
InterpretationsHaveValuations =
    (symbols : List Symbol) (n : EntryNames) (i : Interpretation)
    → IsSignature symbols → AreEntryNames symbols n → n.size ≡ i.size → IsInterpretation (is_predicate_in symbols) i
    → (valuation : Valuation) × IsTrue (symbols_true symbols n valuation) × Agrees (use_of symbols) (length symbols) (entries_of valuation n) i
