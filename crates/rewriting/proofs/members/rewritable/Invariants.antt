use Rattle.std.proofs.Common.{take}
use Rattle.std.specs.Prelude.{All}
use Rattle.fol_base.specs.WellFormed.{SymbolUse}
use Rattle.rewriting.specs.Rewritable.{IsRewrittenBy}
use Rattle.bank_clause.specs.Members.{IsMemberOfUse}
use Rattle.rewriting.proofs.AboutRedexes.RewritableLemmas.{AreListed}
use Rattle.rewriting.proofs.members.rewritable.Given as goal

abbrev pub invariant-loop-member : goal.invariant-loop-member
invariant-loop-member l =
    (usage : SymbolUse) → IsMemberOfUse usage l.unit → All (IsMemberOfUse usage) l.clauses
    → AreListed (IsRewrittenBy usage.is_predicate l.unit) (take l.member-index l.member-items) l.found.items
