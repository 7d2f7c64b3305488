use Rattle.std.proofs.Common.{sym, subst}
use Rattle.fol_base.specs.Lent.{lent_of}
use Rattle.fol_base.specs.Literal.{clause_of}
use Rattle.bank_clause.specs.Clause.{clause_at}
use Rattle.unit_cutting.specs.Cutting.{last_index}
use Rattle.unit_cutting.specs.Removing.{IsTrivialAt}
use Rattle.unit_cutting.proofs.AboutCuts.CutAnswers.{trivial-after}
use Rattle.unit_cutting.proofs.cut_lines.cut_lines.Goals.{then-literal, else-literal}
use Rattle.unit_cutting.proofs.cut_lines.cut_lines.Goals as goal

pub trivial_line-requires : goal.trivial_line-requires
trivial_line-requires c =
    let d = clause_of c.in_ok-first.first.clause in
    let j = c.args.cut.now.index in
    let trivial =
    trivial-after (clause_at c.args.unit.now.clause) (clause_of c.args.clause.now) c.args.cut.now c.requires.cut c.args.unit.now.number c.args.number
    c.in_ok-first.first c.in_ok-first.ensures.made (lent_of c.literal.result) c.literal.ensures in
    elim c.if-literal.branch [
      | then-literal w ↦
          subst (λ i. IsTrivialAt d i) (sym w.index-is) (subst (λ b. IsTrivialAt d (last_index b j)) w.if-literal.true trivial)
      | else-literal w ↦
          subst (λ i. IsTrivialAt d i) (sym w.index-is) (subst (λ b. IsTrivialAt d (last_index b j)) w.if-literal.false trivial)
    ]
