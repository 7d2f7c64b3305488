use Rattle.std.proofs.Common.{true, false, map, sym, ◌∙◌}
use Rattle.tptp_source.specs.Shape.{tree_of}
use Rattle.tstp_checker.specs.Lines.{setting_in, taken_in}
use Rattle.tstp_checker.proofs.AboutVerdicts.ClauseLineLemmas.{clausify-none, clausify-so, verdict-as}
use Rattle.tstp_checker.proofs.lines.Lines.clausify_line.Goals as goal

pub returns-in_default-clause-verdict : goal.returns-in_default-clause-verdict
returns-in_default-clause-verdict c = λ t l.
    clausify-none (setting_in c.args.self.now) (taken_in c.args.self.now) t (map tree_of c.args.items.now) c.args.parents.now c.args.parts l
    (sym c.in_default.is ∙ c.in_ok-read.ensures)

pub returns-then-not-is_clausified-clause-verdict : goal.returns-then-not-is_clausified-clause-verdict
returns-then-not-is_clausified-clause-verdict c = λ t l.
    clausify-so (setting_in c.args.self.now) (taken_in c.args.self.now) t (map tree_of c.args.items.now) c.args.parents.now c.args.parts c.in-Some.number false l
    (sym c.in-Some.is ∙ c.in_ok-read.ensures) c.if-not-is_clausified.ensures

pub returns-clause-verdict : goal.returns-clause-verdict
returns-clause-verdict c = λ t l.
    verdict-as _ _ _
    (clausify-so (setting_in c.args.self.now) (taken_in c.args.self.now) t (map tree_of c.args.items.now) c.args.parents.now c.args.parts c.in-Some.number true l
    (sym c.in-Some.is ∙ c.in_ok-read.ensures) c.if-not-is_clausified.ensures)
    c.line_by.ensures.verdict
