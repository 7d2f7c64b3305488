use Rattle.std.proofs.Common.{◌≡◌}
use Rattle.std.specs.Prelude.{flat_map}
use Rattle.fol_base.specs.Selection.{SelectionMode, chosen}
use Rattle.bank_clause.specs.Clause.{clause_at}
use Rattle.superpose.specs.Sites.{all_sides, entered_places}
use Rattle.superpose.proofs.sites.enter_sites.Given as goal

abbrev pub invariant-loop-literal : goal.invariant-loop-literal
invariant-loop-literal l =
    (mode : SelectionMode) → l.choice ≡ chosen mode (clause_at l.member.clause).literals
    → l.into.items ≡ flat_map (entered_places mode (clause_at l.member.clause).literals) (all_sides l.literal)
