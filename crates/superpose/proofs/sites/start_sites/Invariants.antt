use Rattle.std.proofs.Common.{◌≡◌, None}
use Rattle.std.specs.Prelude.{filter}
use Rattle.fol_base.specs.Selection.{SelectionMode, chosen}
use Rattle.bank_clause.specs.Clause.{clause_at}
use Rattle.superpose.specs.Sites.{all_sides, can_start}
use Rattle.superpose.proofs.sites.start_sites.Given as goal

abbrev pub invariant-loop-literal : goal.invariant-loop-literal
invariant-loop-literal l =
    (mode : SelectionMode) → chosen mode (clause_at l.member.clause).literals ≡ None
    → l.from.items ≡ filter (can_start mode (clause_at l.member.clause).literals) (all_sides l.literal)
