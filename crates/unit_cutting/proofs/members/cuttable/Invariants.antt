use Rattle.std.proofs.Common.{take}
use Rattle.std.specs.Prelude.{All}
use Rattle.fol_base.specs.WellFormed.{SymbolUse}
use Rattle.bank_clause.specs.Members.{IsMemberOfUse}
use Rattle.rewriting.proofs.AboutRedexes.RewritableLemmas.{AreListed}
use Rattle.unit_cutting.specs.Cuttable.{IsCutBy}
use Rattle.unit_cutting.proofs.members.cuttable.Given as goal

abbrev pub invariant-loop-member : goal.invariant-loop-member
invariant-loop-member l =
    (usage : SymbolUse) → IsMemberOfUse usage l.unit → All (IsMemberOfUse usage) l.clauses
    → AreListed (IsCutBy usage.is_predicate l.unit) (take l.member-index l.member-items) l.found.items
