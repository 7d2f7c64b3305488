use Rattle.std.proofs.Common.{refl, sym, Some, ◌∙◌, ap, subst, arith}
use Rattle.std.specs.Prelude.{nat_eq, cond}
use Rattle.std.specs.Map.{lookup}
use Rattle.fol_base.specs.Lent.{lent_of}
use Rattle.fol_base.specs.Term.{tree_of}
use Rattle.bank_clause.specs.Clause.{clause_at}
use Rattle.bank_clause.specs.declared.member.Member.{Member}
use Rattle.disc_tree.proofs.AboutPaths.EntryLemmas.{in-with}
use Rattle.rewriting.proofs.AboutIndexes.NumberedLemmas.{put-known, put-numbered, put-of-bank}
use Rattle.unit_cutting.specs.Indexed.{IsIndexedAt}
use Rattle.unit_cutting.proofs.IndexedLemmas.{alone-lent, clause_of_member, kept-others, made-unit, more-keeps}
use Rattle.list_lemmas.proofs.Results.{on-ok-at}
use Rattle.unit_cutting.proofs.index.UnitIndex.insert.Goals as goal

pub invariant_of-self : goal.invariant_of-self
invariant_of-self c = λ n m there. c.self.invariant n m (ap (lookup (nat_eq n)) (sym c.reserve.ensures.entries) ∙ there)

pub invariant_of-self-in_err-insert : goal.invariant_of-self-in_err-insert
invariant_of-self-in_err-insert c =
    λ n m there.
    subst (λ lefts. IsIndexedAt lefts n m) (sym c.in_err-insert.ensures.err)
    (c.self.invariant n m (ap (lookup (nat_eq n)) (sym c.reserve.ensures.entries) ∙ there))

pub invariant_of-self-2 : goal.invariant_of-self-2
invariant_of-self-2 c =
    let n = c.args.member.now.number in
    let t = tree_of c.literal.result.left.now in
    let unit : Member = record { number = n; clause = c.in_ok-clause.clause } in
    let updates = on-ok-at c.insert-2.result c.unwrap.result c.unwrap.ensures c.insert-2.ensures.updates in
    let alone = alone-lent (clause_at c.args.member.now.clause).literals c.lend-literals.result (lent_of c.literal.result) c.requires.one c.lend-literals.ensures c.literal.ensures in
    put-known (IsIndexedAt c.self.inside.lefts) (IsIndexedAt c.insert.new.self) n c.from-2.result c.self.inside.units.entries c.insert-2.new.self.entries
    unit c.from-2.ensures
    (λ k. updates.0 k ∙ ap (λ es. cond (nat_eq c.from-2.result k) (Some unit) (lookup (nat_eq k) es)) c.reserve.ensures.entries)
    (kept-others n c.self.inside.lefts c.insert.new.self
    (more-keeps (t, c.from.result) n c.self.inside.lefts c.insert.new.self c.in_ok-insert.ensures.ok))
    (made-unit c.insert.new.self n c.from.result c.args.member.now.clause c.in_ok-clause.clause (lent_of c.literal.result) t (omega arith) alone c.in_ok-clause.ensures
    refl c.from.ensures (in-with (t, c.from.result) c.self.inside.lefts c.insert.new.self c.in_ok-insert.ensures.ok))
    c.self.invariant

pub returns-clause-ok : goal.returns-clause-ok
returns-clause-ok c =
    let unit : Member = record { number = c.args.member.now.number; clause = c.in_ok-clause.clause } in
    let updates = on-ok-at c.insert-2.result c.unwrap.result c.unwrap.ensures c.insert-2.ensures.updates in
    rw (← c.self.view_is)
    (put-numbered clause_of_member c.args.member.now.number c.from-2.result c.self.inside.units.entries c.insert-2.new.self.entries unit
    c.args.member.now.clause c.from-2.ensures c.in_ok-clause.ensures
    (λ n. updates.0 n ∙ ap (λ es. cond (nat_eq c.from-2.result n) (Some unit) (lookup (nat_eq n) es)) c.reserve.ensures.entries))

pub returns-clause-of_bank : goal.returns-clause-of_bank
returns-clause-of_bank c = λ all.
    put-of-bank c.args.bank.now c.args.self.now _ c.args.member.now.number c.args.member.now.clause (returns-clause-ok c) c.requires.member all
