use Rattle.std.proofs.Common.{arith, sym, Some, ◌∙◌, ap}
use Rattle.std.specs.Prelude.{nat_eq, cond}
use Rattle.std.specs.Map.{lookup}
use Rattle.fol_base.specs.Lent.{lent_of}
use Rattle.rewriting.specs.declared.units.Unit.{Unit}
use Rattle.rewriting.proofs.AboutSearches.TryLemmas.{alone-lent}
use Rattle.rewriting.proofs.AboutIndexes.NumberedLemmas.{put-numbered, put-of-bank}
use Rattle.rewriting.proofs.AboutIndexes.UnitLemmas.{absent-kept, clause_of_unit, made-unit, put-unit}
use Rattle.list_lemmas.proofs.Results.{on-ok-at}
use Rattle.rewriting.proofs.units.Units.insert.Goals as goal

pub invariant_of-self : goal.invariant_of-self
invariant_of-self c = λ n u there. c.self.invariant n u (ap (lookup (nat_eq n)) (sym c.reserve.ensures.entries) ∙ there)

pub invariant_of-self-in_err-by : goal.invariant_of-self-in_err-by
invariant_of-self-in_err-by c = λ n u there. c.self.invariant n u (ap (lookup (nat_eq n)) (sym c.reserve.ensures.entries) ∙ there)

pub invariant_of-self-in_err-descent : goal.invariant_of-self-in_err-descent
invariant_of-self-in_err-descent c = λ n u there. c.self.invariant n u (ap (lookup (nat_eq n)) (sym c.reserve.ensures.entries) ∙ there)

pub invariant_of-self-in_err-put_sides : goal.invariant_of-self-in_err-put_sides
invariant_of-self-in_err-put_sides c =
    absent-kept c.args.member.now.number c.self.inside.sides c.put_sides.new.sides c.self.inside.clauses.entries c.reserve.new.self.entries
    c.reserve.ensures.entries c.put_sides.ensures.kept (rw c.self.view_is c.requires.number) c.self.invariant

pub invariant_of-self-2 : goal.invariant_of-self-2
invariant_of-self-2 c =
    let unit : Unit = record { clause = c.in_ok-clause.clause; by = c.in_ok-by.by; descent = c.in_ok-descent.descent } in
    let equation = alone-lent c.lend-literals.result _ (lent_of c.literal-equation.result) c.requires.unit.equation c.lend-literals.ensures c.requires.unit.alone c.literal-equation.ensures in
    let made =
    made-unit c.put_sides.new.sides c.args.member.now.number c.args.member.now.clause c.in_ok-clause.clause c.in_ok-by.by c.in_ok-descent.descent
    (lent_of c.literal-equation.result) c.requires.unit (omega arith) c.in_ok-clause.ensures equation c.in_ok-by.ensures c.in_ok-descent.ensures c.in_ok-put_sides.ensures.put in
    let updates = on-ok-at c.insert.result c.unwrap.result c.unwrap.ensures c.insert.ensures.updates in
    put-unit c.args.member.now.number c.from.result c.self.inside.sides c.put_sides.new.sides c.self.inside.clauses.entries c.insert.new.self.entries unit
    c.from.ensures (λ n. updates.0 n ∙ ap (λ es. cond (nat_eq c.from.result n) (Some unit) (lookup (nat_eq n) es)) c.reserve.ensures.entries)
    c.put_sides.ensures.kept made c.self.invariant

pub returns-clause-ok : goal.returns-clause-ok
returns-clause-ok c =
    let unit : Unit = record { clause = c.in_ok-clause.clause; by = c.in_ok-by.by; descent = c.in_ok-descent.descent } in
    let updates = on-ok-at c.insert.result c.unwrap.result c.unwrap.ensures c.insert.ensures.updates in
    rw (← c.self.view_is)
    (put-numbered clause_of_unit c.args.member.now.number c.from.result c.self.inside.clauses.entries c.insert.new.self.entries unit c.args.member.now.clause
    c.from.ensures c.in_ok-clause.ensures
    (λ n. updates.0 n ∙ ap (λ es. cond (nat_eq c.from.result n) (Some unit) (lookup (nat_eq n) es)) c.reserve.ensures.entries))

pub returns-clause-of_bank : goal.returns-clause-of_bank
returns-clause-of_bank c = λ all.
    put-of-bank c.args.bank.now c.args.self.now _ c.args.member.now.number c.args.member.now.clause (returns-clause-ok c) c.requires.member all
