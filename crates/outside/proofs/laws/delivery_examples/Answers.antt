use Rattle.std.proofs.Common.{refl, lit<, inl, inr}
use Rattle.outside.specs.Sink.{none_left, takes, fails}
use Rattle.outside.proofs.Scripted.{first_handed}
use Rattle.outside.proofs.laws.delivery_examples.Goals as goal

pub returns-clause-whole : goal.returns-clause-whole
returns-clause-whole c = takes (lit< tt) (refl, refl) (takes (lit< tt) (refl, refl) none_left)

pub returns-clause-cut_off : goal.returns-clause-cut_off
returns-clause-cut_off c = takes (lit< tt) (refl, refl) (fails (lit< tt) (refl, refl))

pub returns-clause-empty : goal.returns-clause-empty
returns-clause-empty c = none_left

pub returns-clause-in_parts : goal.returns-clause-in_parts
returns-clause-in_parts c result delivers = elim (first_handed delivers) [ inl e ↦ absurd (cc) | inr h ↦ absurd (let e = h.1 in cc) ]
