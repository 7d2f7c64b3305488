-- What the propositional clauses of a size say of a valuation (McCune 1994; Claessen, Sörensson 2003).
use Rattle.std.specs.Prelude.{◌≡◌, ℕ, ◌+◌, ◌*◌, ◌^◌, ◌<◌, Bool, true, not, ◌&&◌, ◌||◌, List, ◌++◌, length, slice_index_or, IsTrue, if◌then◌else◌}
use Rattle.std.specs.List.{list_any, list_all}
use Rattle.fol_base.specs.Canonical.{numbers_from}
use Rattle.sat_core.specs.Clause.{PropClause, Valuation, names_below, clauses_true, literal_true}
use Rattle.signature.specs.declared.symbol.Symbol.{Symbol}
use Rattle.signature.specs.Symbol.{is_predicate_kind}
use Rattle.clausal_form.specs.FormFunctions.{is_predicate_in}
use Rattle.clausal_form.specs.FormLaws.{arity_in}
use Rattle.finite_models.specs.declared.flat.FlatClause.{FlatClause}
use Rattle.finite_models.specs.declared.entry_names.EntryNames.{EntryNames}
use Rattle.finite_models.specs.declared.flat.FlatLiteral.{FlatLiteral}
use Rattle.finite_models.specs.declared.instances.Instance.{Instance}
use Rattle.finite_models.specs.declared.instances.Instance.TheVariants.{Truth, Name}
use Rattle.finite_models.specs.Digits.{digits}
use Rattle.finite_models.specs.Flattening.{Entries, flat_true, flat_clause_true}
use Rattle.finite_models.specs.EntryNames.{entries_of, flat_fits}

-- Clauses are added that are all true exactly where a condition holds, and have no name from the bound on.
pub record Adds (bound : ℕ) (old new : List PropClause) (condition : Valuation → Bool) : Type 0 where
  pub added : List PropClause
  pub appended : new ≡ old ++ added
  pub truth : (valuation : Valuation) → clauses_true valuation added ≡ condition valuation
  pub below : IsTrue (names_below bound added)

-- ---- functions

-- The name of the entry with a value, at the arguments that have a number below `rows`; the function's names begin at `first`.
abbrev pub value_name : ℕ → ℕ → ℕ → ℕ → ℕ
value_name first rows number value = first + (value * rows + number)

-- some value
abbrev pub has_value : ℕ → ℕ → ℕ → ℕ → Valuation → Bool
has_value size first rows number valuation = list_any (λ v. valuation (value_name first rows number v)) (numbers_from 0 size)

-- not this value and a lower one
abbrev pub has_no_lower : ℕ → ℕ → ℕ → ℕ → Valuation → Bool
has_no_lower first rows number v valuation =
    list_all (λ w. not (valuation (value_name first rows number w)) || not (valuation (value_name first rows number v))) (numbers_from 0 v)

-- not two values
abbrev pub has_no_two : ℕ → ℕ → ℕ → ℕ → Valuation → Bool
has_no_two size first rows number valuation = list_all (λ v. has_no_lower first rows number v valuation) (numbers_from 0 size)

abbrev pub is_function : ℕ → ℕ → ℕ → Valuation → Bool
is_function size first rows valuation =
    list_all (λ number. has_value size first rows number valuation && has_no_two size first rows number valuation) (numbers_from 0 rows)

-- The entries of a symbol whose names begin at `first` are those of a table. A predicate may hold anywhere.
abbrev pub one_symbol_true : ℕ → ℕ → Symbol → Valuation → Bool
one_symbol_true size first s valuation =
    if is_predicate_kind s.kind then true else is_function size first (size ^ s.arity) valuation

-- the same for the symbol with a number
abbrev pub symbol_true : List Symbol → EntryNames → Valuation → ℕ → Bool
symbol_true symbols n valuation f =
    if is_predicate_in symbols f then true
    else is_function n.size (slice_index_or n.firsts.items f 0) (n.size ^ arity_in symbols f) valuation

-- ---- the whole

abbrev pub symbols_true : List Symbol → EntryNames → Valuation → Bool
symbols_true symbols n valuation = list_all (symbol_true symbols n valuation) (numbers_from 0 (length symbols))

abbrev pub flat_clauses_true : List FlatClause → EntryNames → Valuation → Bool
flat_clauses_true cs n valuation = list_all (flat_clause_true n.size (entries_of valuation n)) cs

-- each literal of a flat clause has a name, whatever values below the size the slots have
abbrev pub ClauseFits : EntryNames → FlatClause → Type 0
ClauseFits n c = (number : ℕ) → number < n.size ^ c.slots → IsTrue (list_all (flat_fits n (digits n.size c.slots number)) c.literals)

-- What a flat literal is under values: true or false whatever the entries are, or a propositional literal.
abbrev pub IsUnder : EntryNames → List ℕ → FlatLiteral → Instance → Type 0
IsUnder n values l (Truth truth) = (entries : Entries) → flat_true entries values l ≡ truth
IsUnder n values l (Name name) =
    ((valuation : Valuation) → flat_true (entries_of valuation n) values l ≡ literal_true valuation name) × (name.name < n.count)
