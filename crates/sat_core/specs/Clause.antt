-- Propositional clauses and their truth. Membership and resolution are those of signed names (`plain_types`).
use mathlib.Core.Bool.{beq}
use Rattle.std.specs.Prelude.{ℕ, Bool, false, nat_lt, List, slice_index_or}
use Rattle.std.specs.List.{list_any, list_all}
use Rattle.plain_types.specs.declared.sequence.NameLit.{NameLit}

-- A disjunction of signed names. It is read as a set: neither order nor repetition counts.
abbrev pub PropClause : Type 0
PropClause = List NameLit

-- each name is below the bound
abbrev pub is_below : ℕ → NameLit → Bool
is_below bound l = nat_lt l.name bound

abbrev pub names_below : ℕ → List PropClause → Bool
names_below bound clauses = list_all (λ (c : PropClause). list_all (is_below bound) c) clauses

-- ---- truth

-- a truth value for each name
abbrev pub Valuation : Type 0
Valuation = ℕ → Bool

abbrev pub literal_true : Valuation → NameLit → Bool
literal_true valuation l = beq (valuation l.name) l.positive

-- a clause is true where one of its literals is
abbrev pub clause_true : Valuation → PropClause → Bool
clause_true valuation c = list_any (literal_true valuation) c

-- a list of clauses is true where each of them is
abbrev pub clauses_true : Valuation → List PropClause → Bool
clauses_true valuation clauses = list_all (clause_true valuation) clauses

-- the values of a list; a name that the list doesn't have is false
abbrev pub valuation_of : List Bool → Valuation
valuation_of truths name = slice_index_or truths name false
