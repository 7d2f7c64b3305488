-- What reductions remember.
use Rattle.std.specs.Prelude.{ℕ, List, Option}
use Rattle.bank_clause.specs.declared.member.Member.{Member}
use Rattle.rewriting.specs.Units.{usable}
use Rattle.rewriting.specs.NormalTerms.{RemembersNormal}
use Rattle.demodulate.specs.declared.memory.Memory.{Memory}

-- no remembered term has a redex of the units, but for the one that is left out, that may rewrite a clause with these assertions
abbrev pub Remembers : List Member → Option ℕ → Memory → Type 0
Remembers equations out m = RemembersNormal (usable equations out m.asserted.items) m.normal
