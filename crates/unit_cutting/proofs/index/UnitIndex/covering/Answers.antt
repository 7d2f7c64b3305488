use Rattle.std.proofs.Common.{◌≡◌, true, false, Some, Bor, sym, ap, ◌∙◌, subst}
use Rattle.std.specs.Prelude.{option_map}
use Rattle.fol_base.specs.Lent.{lent_of}
use Rattle.bank_clause.specs.Clause.{clause_at}
use Rattle.bank_clause.specs.declared.member.Member.{Member}
use Rattle.unit_cutting.specs.Subsuming.{CoversOrNot}
use Rattle.unit_cutting.proofs.SubsumerLemmas.{covers-at, covers-not-at, left-out, no-unit}
use Rattle.unit_cutting.proofs.index.UnitIndex.covering.Goals as goal

pub returns-in_default : goal.returns-in_default
returns-in_default c =
    no-unit c.args.self.now c.args.left_out c.args.names.now (lent_of c.args.literal) c.args.number
    (sym c.unit.ensures.clause ∙ ap (option_map (λ (b : Bor Member). b.now.clause)) c.in_default.is)

pub returns-then-not-is_kept : goal.returns-then-not-is_kept
returns-then-not-is_kept c =
    left-out c.args.self.now c.args.left_out c.args.names.now (lent_of c.args.literal) c.args.number c.in-Some.unit.now
    (sym (ap (option_map (λ (b : Bor Member). b.now.clause)) c.in-Some.is) ∙ c.unit.ensures.clause)
    (sym c.is_kept.ensures ∙ c.if-not-is_kept.true)

pub returns-then-branch : goal.returns-then-branch
returns-then-branch c =
    covers-at c.args.self.now c.args.left_out c.args.names.now (lent_of c.args.literal) c.args.number c.in-Some.unit.now
    (sym (ap (option_map (λ (b : Bor Member). b.now.clause)) c.in-Some.is) ∙ c.unit.ensures.clause)
    (rw c.in-Some.is at c.unit.ensures.number)
    (sym c.is_kept.ensures ∙ c.if-not-is_kept.false)
    (subst (CoversOrNot (clause_at c.in-Some.unit.now.clause) c.args.names.now (lent_of c.args.literal)) c.if-branch.true c.in_ok-covers.ensures)

pub returns-else-branch : goal.returns-else-branch
returns-else-branch c =
    covers-not-at c.args.self.now c.args.left_out c.args.names.now (lent_of c.args.literal) c.args.number c.in-Some.unit.now
    (sym (ap (option_map (λ (b : Bor Member). b.now.clause)) c.in-Some.is) ∙ c.unit.ensures.clause)
    (subst (CoversOrNot (clause_at c.in-Some.unit.now.clause) c.args.names.now (lent_of c.args.literal)) c.if-branch.false c.in_ok-covers.ensures)
