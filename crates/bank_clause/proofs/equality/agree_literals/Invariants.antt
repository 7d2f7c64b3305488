use Rattle.std.proofs.Common.{◌≡◌, take}
use Rattle.term_bank.specs.Literal.{literals_at}
use Rattle.bank_clause.proofs.equality.agree_literals.Given as goal

abbrev pub invariant-loop-index : goal.invariant-loop-index
invariant-loop-index l = literals_at (take l.index l.first) ≡ literals_at (take l.index l.second)
