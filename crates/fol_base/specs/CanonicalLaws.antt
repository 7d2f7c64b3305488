-- Laws of canonical forms.
use Rattle.std.specs.Prelude.{◌≡◌, ◌↔◌}
use Rattle.fol_base.specs.Clause.{TreeClause, clause_size}
use Rattle.fol_base.specs.Canonical.{canonical_clause, IsCanonical}

-- a clause is canonical exactly where it is its own canonical form
abbrev pub CanonicalIsOwnForm : Type 0
CanonicalIsOwnForm = (c : TreeClause) → IsCanonical c ↔ (canonical_clause c ≡ c)

-- the canonical form of a clause is canonical
abbrev pub CanonicalFormsAreCanonical : Type 0
CanonicalFormsAreCanonical = (c : TreeClause) → IsCanonical (canonical_clause c)

-- the canonical form of a clause has the clause's size
abbrev pub CanonicalFormsKeepSizes : Type 0
CanonicalFormsKeepSizes = (c : TreeClause) → clause_size (canonical_clause c) ≡ clause_size c
