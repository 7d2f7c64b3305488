use Rattle.std.proofs.Common.{◌++◌, List, sym, subst}
use Rattle.bank_clause.specs.declared.member.Member.{Member}
use Rattle.subsume.specs.Editing.{HasNone, IsNumbered}
use Rattle.subsume.specs.Longer.{HasOne, IsLonger}
use Rattle.subsume.proofs.AboutTree.EditLemmas.{all-removed, removed-high, removed-low}
use Rattle.subsume.proofs.AboutTree.PartedLemmas.{none-of-both}
use Rattle.subsume.proofs.parted.PartedMembers.remove.Goals as goal

pub invariant_of-self : goal.invariant_of-self
invariant_of-self c = record {
  units =
      all-removed HasOne c.args.number c.self.inside.units.0 c.remove.new.self.0 c.remove.result c.remove.ensures.removed c.remove.ensures.unchanged
      c.self.invariant.units;
  longer = c.self.invariant.longer;
}

pub returns-then-remove-clause-removed : goal.returns-then-remove-clause-removed
returns-then-remove-clause-removed c = λ e.
    subst (λ (ms : List Member). IsNumbered c.args.number ms (c.remove.new.self.0 ++ c.self.inside.longer.0)) c.self.view_is
    (removed-low c.args.number c.self.inside.units.0 c.self.inside.longer.0 c.remove.new.self.0 (c.remove.ensures.removed c.if-remove.true))

pub invariant_of-self-2 : goal.invariant_of-self-2
invariant_of-self-2 c = record {
  units =
      all-removed HasOne c.args.number c.self.inside.units.0 c.remove.new.self.0 c.remove.result c.remove.ensures.removed c.remove.ensures.unchanged
      c.self.invariant.units;
  longer =
      all-removed IsLonger c.args.number c.self.inside.longer.0 c.remove-2.new.self.0 c.remove-2.result c.remove-2.ensures.removed c.remove-2.ensures.unchanged
      c.self.invariant.longer;
}

pub returns-clause-removed : goal.returns-clause-removed
returns-clause-removed c = λ e.
    subst (λ (ms : List Member). IsNumbered c.args.number ms (c.remove.new.self.0 ++ c.remove-2.new.self.0)) c.self.view_is
    (subst (λ (units : List Member). IsNumbered c.args.number (c.self.inside.units.0 ++ c.self.inside.longer.0) (units ++ c.remove-2.new.self.0))
    (sym (c.remove.ensures.unchanged c.if-remove.false))
    (removed-high c.args.number c.self.inside.units.0 c.self.inside.longer.0 c.remove-2.new.self.0 (c.remove-2.ensures.removed e)))
