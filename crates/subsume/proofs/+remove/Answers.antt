use Rattle.std.proofs.Common.{◌≤◌, ◌<◌}
use Rattle.bank_clause.specs.declared.member.Member.{Member}
use Rattle.subsume.specs.Tree.{IsBoundedBy, member_feature}
use Rattle.subsume.proofs.AboutTree.EditLemmas.{all-removed, removed-low, removed-high}
use Rattle.subsume.proofs.+remove.Goals as goal

pub editing::remove_beside-returns-then-value-division-clause-sound : goal.editing::remove_beside-returns-then-value-division-clause-sound
editing::remove_beside-returns-then-value-division-clause-sound t c =
    let D = c.args.division.now in
    record {
      inside = c.requires.inside;
      low =
          all-removed (λ (m : Member). member_feature D.positive D.measure m ≤ D.most) c.args.number D.low.0 c.remove.new.self.0 c.remove.result
          c.remove.ensures.removed c.remove.ensures.unchanged c.requires.low;
      high = c.requires.high;
      bound = c.requires.bound;
    }

pub editing::remove_beside-returns-then-value-division-clause-removed : goal.editing::remove_beside-returns-then-value-division-clause-removed
editing::remove_beside-returns-then-value-division-clause-removed t c = λ e.
    removed-low c.args.number c.args.division.now.low.0 c.args.division.now.high.0 c.remove.new.self.0 (c.remove.ensures.removed e)

pub editing::remove_beside-returns-else-value-division-clause-sound : goal.editing::remove_beside-returns-else-value-division-clause-sound
editing::remove_beside-returns-else-value-division-clause-sound t c =
    let D = c.args.division.now in
    record {
      inside = c.requires.inside;
      low = c.requires.low;
      high =
          all-removed (λ (m : Member). D.most < member_feature D.positive D.measure m) c.args.number D.high.0 c.remove-else-value-division.new.self.0
          c.remove-else-value-division.result c.remove-else-value-division.ensures.removed c.remove-else-value-division.ensures.unchanged c.requires.high;
      bound =
          all-removed (IsBoundedBy D.bound.values) c.args.number D.high.0 c.remove-else-value-division.new.self.0
          c.remove-else-value-division.result c.remove-else-value-division.ensures.removed c.remove-else-value-division.ensures.unchanged c.requires.bound;
    }

pub editing::remove_beside-returns-else-value-division-clause-removed : goal.editing::remove_beside-returns-else-value-division-clause-removed
editing::remove_beside-returns-else-value-division-clause-removed t c = λ e.
    removed-high c.args.number c.args.division.now.low.0 c.args.division.now.high.0 c.remove-else-value-division.new.self.0
    (c.remove-else-value-division.ensures.removed e)
