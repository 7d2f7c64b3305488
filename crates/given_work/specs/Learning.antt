-- What changes do to the list of told clauses.
use Rattle.std.specs.Prelude.{not, ◌==◌, List, [], ◌∷◌, ◌++◌, filter, fold}
use Rattle.bank_clause.specs.declared.member.Member.{Member}
use Rattle.subsume.specs.Editing.{HasNoNumber}
use Rattle.pool_history.specs.declared.ticket.Change.{Change}
use Rattle.pool_history.specs.declared.ticket.Change.TheVariants.{Activated, Died}

-- a clause that is activated has the last position, and one that has died isn't told
abbrev pub learns : List Member → Change → List Member
learns ms (Activated m) = ms ++ m ∷ []
learns ms (Died n) = filter (λ (m : Member). not (m.number == n)) ms

abbrev pub learned : List Member → List Change → List Member
learned ms changes = fold learns ms changes

-- no clause is activated that is told already
abbrev pub IsNew : List Member → Change → Type 0
IsNew ms (Activated m) = HasNoNumber m.number ms
IsNew ms (Died n) = Unit {0}

abbrev pub AreNews : List Member → List Change → Type 0
AreNews ms [] = Unit {0}
AreNews ms (c ∷ cs) = IsNew ms c × AreNews (learns ms c) cs
