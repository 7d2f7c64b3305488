use Rattle.std.proofs.Common.{sym, subst}
use Rattle.subsume.specs.Editing.{HasNoNumber}
use Rattle.subsume.proofs.AboutTree.MembersLemmas.{known-taken, taken-gone, unknown-number, unfound-number}
use Rattle.subsume.proofs.subsumers.Subsumers.remove.Goals as goal

pub invariant_of-self-in-Some : goal.invariant_of-self-in-Some
invariant_of-self-in-Some c =
    known-taken c.args.number c.self.inside.members c.remove.new.self c.self.inside.known.entries c.swap_remove.new.self.entries c.in-Some.features
    c.remove.result c.self.invariant (sym c.in-Some.ensures.value) c.in-Some.ensures.updates.2 c.remove.ensures.removed c.remove.ensures.unchanged c.remove.ensures.absent

pub returns-in-None-clause-absent : goal.returns-in-None-clause-absent
returns-in-None-clause-absent c = λ e.
    subst (HasNoNumber c.args.number) c.self.view_is
    (unknown-number c.args.number c.self.inside.members c.self.inside.known.entries (sym c.in-None.ensures.value) c.self.invariant.found)

pub returns-in-Some-clause-absent : goal.returns-in-Some-clause-absent
returns-in-Some-clause-absent c = λ e.
    subst (HasNoNumber c.args.number) c.self.view_is
    (unfound-number c.args.number c.self.inside.members c.self.inside.known.entries c.in-Some.features (sym c.in-Some.ensures.value)
    (c.remove.ensures.absent e) c.self.invariant.found)

pub returns-in-None-clause-gone : goal.returns-in-None-clause-gone
returns-in-None-clause-gone c =
    unknown-number c.args.number c.self.inside.members c.self.inside.known.entries (sym c.in-None.ensures.value) c.self.invariant.found

pub returns-in-Some-clause-gone : goal.returns-in-Some-clause-gone
returns-in-Some-clause-gone c =
    taken-gone c.args.number c.self.inside.members c.remove.new.self c.self.inside.known.entries c.in-Some.features c.remove.result
    c.self.invariant (sym c.in-Some.ensures.value) c.remove.ensures.removed c.remove.ensures.unchanged c.remove.ensures.absent
