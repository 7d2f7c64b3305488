use Rattle.std.proofs.Common.{◌≡◌, List, ◌∙◌, sym, ap, length, arith}
use Rattle.std.specs.Prelude.{option_map}
use Rattle.std.specs.Option.{is_some}
use Rattle.fol_base.specs.Clause.{TreeLiteral}
use Rattle.fol_base.specs.Term.{tree_of}
use Rattle.rewriting.specs.Units.{clause_numbered}
use Rattle.rewriting.proofs.AboutIndexes.NumberedLemmas.{found-numbered, taken-known, taken-numbered, taken-of-bank}
use Rattle.unit_cutting.specs.Indexed.{IsIndexedAt}
use Rattle.unit_cutting.proofs.IndexedLemmas.{clause_of_member, fewer-keeps, kept-others}
use Rattle.unit_cutting.proofs.index.UnitIndex.remove.Goals as goal

pub lend-literals-requires : goal.lend-literals-requires
lend-literals-requires c =
    c.requires c.args.number c.in-Some.unit.clause
    (rw (← c.self.view_is)
    (found-numbered clause_of_member c.args.number c.from.result c.self.inside.units.entries c.swap_remove.result c.from.ensures c.swap_remove.ensures.value
    ∙ ap (option_map clause_of_member) c.in-Some.is))

pub literal-requires : goal.literal-requires
literal-requires c =
    let at = c.self.invariant c.from.result c.in-Some.unit (sym c.swap_remove.ensures.value ∙ c.in-Some.is) in
    let one = ap (λ (ls : List TreeLiteral). length ls) (c.lend-literals.ensures ∙ at.alone) in
    omega (arith, one)

pub invariant_of-self : goal.invariant_of-self
invariant_of-self c =
    taken-known (IsIndexedAt c.self.inside.lefts) (IsIndexedAt c.self.inside.lefts) c.args.number c.from.result c.self.inside.units.entries
    c.swap_remove.new.self.entries c.from.ensures c.swap_remove.ensures.updates.0 (λ n m other at. at) c.self.invariant

pub invariant_of-self-in-Some : goal.invariant_of-self-in-Some
invariant_of-self-in-Some c =
    taken-known (IsIndexedAt c.self.inside.lefts) (IsIndexedAt c.remove.new.self) c.args.number c.from.result c.self.inside.units.entries
    c.swap_remove.new.self.entries c.from.ensures c.swap_remove.ensures.updates.0
    (kept-others c.args.number c.self.inside.lefts c.remove.new.self
    (fewer-keeps (tree_of c.literal.result.left.now) c.from-in-Some.result c.args.number c.remove.result c.self.inside.lefts c.remove.new.self
    c.from-in-Some.ensures c.remove.ensures.removed c.remove.ensures.unchanged))
    c.self.invariant

pub returns-in-None-clause-there : goal.returns-in-None-clause-there
returns-in-None-clause-there c =
    let o = c.swap_remove.result in
    let there : clause_numbered c.args.number c.args.self.now ≡ option_map clause_of_member o =
    rw (← c.self.view_is)
    (found-numbered clause_of_member c.args.number c.from.result c.self.inside.units.entries o c.from.ensures c.swap_remove.ensures.value) in
    sym (ap is_some (there ∙ ap (option_map clause_of_member) c.in-None.is))

pub returns-in-None-clause-removed : goal.returns-in-None-clause-removed
returns-in-None-clause-removed c =
    rw (← c.self.view_is)
    (taken-numbered clause_of_member c.args.number c.from.result c.self.inside.units.entries c.swap_remove.new.self.entries c.from.ensures
    c.swap_remove.ensures.updates.0)

pub returns-in-Some-clause-there : goal.returns-in-Some-clause-there
returns-in-Some-clause-there c =
    let o = c.swap_remove.result in
    let there : clause_numbered c.args.number c.args.self.now ≡ option_map clause_of_member o =
    rw (← c.self.view_is)
    (found-numbered clause_of_member c.args.number c.from.result c.self.inside.units.entries o c.from.ensures c.swap_remove.ensures.value) in
    sym (ap is_some (there ∙ ap (option_map clause_of_member) c.in-Some.is))

pub returns-in-Some-clause-removed : goal.returns-in-Some-clause-removed
returns-in-Some-clause-removed c =
    rw (← c.self.view_is)
    (taken-numbered clause_of_member c.args.number c.from.result c.self.inside.units.entries c.swap_remove.new.self.entries c.from.ensures
    c.swap_remove.ensures.updates.0)

pub returns-in-None-clause-of_bank : goal.returns-in-None-clause-of_bank
returns-in-None-clause-of_bank c =
    taken-of-bank c.args.bank.now c.args.self.now _ c.args.number (returns-in-None-clause-removed c) c.requires

pub returns-in-Some-clause-of_bank : goal.returns-in-Some-clause-of_bank
returns-in-Some-clause-of_bank c =
    taken-of-bank c.args.bank.now c.args.self.now _ c.args.number (returns-in-Some-clause-removed c) c.requires
