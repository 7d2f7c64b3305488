-- The parts of a clause that is split, in the bank and without their tags. Only private functions cite this.
use Rattle.std.specs.Prelude.{◌≡◌, ◌≤◌, ℕ, true, false, List, [], ◌∷◌, map, All}
use Rattle.std.specs.List.{AllByRecursion}
use Rattle.fol_base.specs.Clause.{TreeLiteral, TreeClause, clause_size}
use Rattle.fol_base.specs.Canonical.{IsCanonical}
use Rattle.fol_base.specs.declared.limits.TheConstants.{MOST_SYMBOLS}
use Rattle.fol_base.specs.Literal.{clause_of}
use Rattle.fol_base.specs.declared.clause.Clause.{Clause}
use Rattle.kernel_steps.specs.Derivation.{under_names}
use Rattle.kernel_steps.specs.Split.{canonical_literals, literals_at as at_places}
use Rattle.term_bank.specs.Literal.{AreLiteralsOf, literals_at}
use Rattle.term_bank.specs.declared.bank.Bank.{Bank}
use Rattle.term_bank.specs.declared.table.Table.{Table}
use Rattle.bank_clause.specs.Clause.{IsKnown}
use Rattle.bank_clause.specs.ClauseHash.{literals_hash}
use Rattle.split_parts.specs.PartKeys.{key_part}
use Rattle.split_parts.specs.Tags.{has_part}
use Rattle.pool_history.specs.Registering.{has_none}
use Rattle.split_parts.specs.declared.key.PartKey.{PartKey}
use Rattle.pool_core.specs.declared.parts.InternedPart.{InternedPart}
use Rattle.pool_core.specs.declared.parts.InternedParts.{InternedParts}

-- a part as it is handed in: with a literal, canonical, without names and no larger than a kept clause may be
pub record IsFitPart (c : Clause) : Type 0 where
  pub some : has_none (clause_of c).literals ≡ false
  pub canonical : IsCanonical (clause_of c)
  pub no_names : c.names ≡ []
  pub small : clause_size (clause_of c) ≤ MOST_SYMBOLS

-- The clause has these literals. It is of the bank and has the references of the table, and its hash is that of its literals.
pub record IsUnasserted (bank : Bank) (table : Table) (ls : List TreeLiteral) (x : InternedPart) : Type 0 where
  pub some : has_none ls ≡ false
  pub same : literals_at x.clause.literals ≡ ls
  pub hashed : x.hash ≡ literals_hash x.clause.literals
  pub of_bank : AreLiteralsOf bank x.clause.literals
  pub known : All (IsKnown table) x.clause.literals

-- and so does the key
pub record IsInternedPart (bank : Bank) (table : Table) (ls : List TreeLiteral) (key : PartKey) (x : InternedPart) : Type 0 where
  pub keyed : key_part key ≡ ls
  pub clause : IsUnasserted bank table ls x

-- one key and one clause for each part
abbrev pub AreInternedParts : Bank → Table → List (List TreeLiteral) → List PartKey → List InternedPart → Type 0
AreInternedParts bank table [] [] [] = Unit {0}
AreInternedParts bank table (ls ∷ lss) (key ∷ keys) (x ∷ xs) = IsInternedPart bank table ls key x × AreInternedParts bank table lss keys xs
AreInternedParts bank table [] (key ∷ keys) xs = ⊥
AreInternedParts bank table [] [] (x ∷ xs) = ⊥
AreInternedParts bank table (ls ∷ lss) [] xs = ⊥
AreInternedParts bank table (ls ∷ lss) (key ∷ keys) [] = ⊥

abbrev pub literals_of_parts : List Clause → List (List TreeLiteral)
literals_of_parts parts = map (λ (c : Clause). (clause_of c).literals) parts

abbrev pub AreParts : Bank → Table → List (List TreeLiteral) → InternedParts → Type 0
AreParts bank table lss made = AreInternedParts bank table lss made.keys.items made.clauses.items

-- one clause for each part
abbrev pub AreUnasserted : Bank → Table → List (List TreeLiteral) → List InternedPart → Type 0
AreUnasserted bank table [] [] = Unit {0}
AreUnasserted bank table (ls ∷ lss) (x ∷ xs) = IsUnasserted bank table ls x × AreUnasserted bank table lss xs
AreUnasserted bank table [] (x ∷ xs) = ⊥
AreUnasserted bank table (ls ∷ lss) [] = ⊥

-- the parts were met
abbrev pub AreMet : List (List TreeLiteral) → List (List TreeLiteral) → Type 0
AreMet parts lss = AllByRecursion (λ ls. has_part ls parts ≡ true) lss

-- the clauses of the literals at some places, in canonical form and without names
abbrev pub parts_at : List TreeLiteral → List (List ℕ) → List TreeClause
parts_at ls parts = map (λ places. under_names (canonical_literals (at_places ls places)) []) parts
