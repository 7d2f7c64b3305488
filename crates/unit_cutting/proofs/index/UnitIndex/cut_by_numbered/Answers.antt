use Rattle.std.proofs.Common.{◌≡◌, ◌<◌, ◌^◌, sym, ap, ◌∙◌, Bor, arith}
use Rattle.std.specs.Prelude.{option_map}
use Rattle.std.proofs.lemmas.Result.{IfOk-weaker}
use Rattle.bank_clause.specs.declared.member.Member.{Member}
use Rattle.rewriting.specs.Units.{is_kept}
use Rattle.unit_cutting.proofs.CutLemmas.{by-unit}
use Rattle.unit_cutting.proofs.index.UnitIndex.cut_by_numbered.Goals as goal

pub returns-clause-ok : goal.returns-clause-ok
returns-clause-ok c =
    let number : c.in-Some.unit.now.number ≡ c.args.number = rw c.in-Some.is at c.unit.ensures.number in
    let low : c.args.number < 2 ^ 32 = rw c.in-Some.is at c.unit.ensures.low in
    IfOk-weaker c.cut_by.result _ _
    (by-unit c.args.self.now c.args.left_out c.args.positive c.args.number c.in-Some.unit.now c.args.reduced.now c.cut_by.new.reduced
    (sym (ap (option_map (λ (b : Bor Member). b.now.clause)) c.in-Some.is) ∙ c.unit.ensures.clause)
    number
    (ap (is_kept c.args.left_out) number ∙ sym c.is_kept.ensures ∙ c.if-not-is_kept.false)
    (omega (arith, number, low)))
    c.cut_by.ensures.step
