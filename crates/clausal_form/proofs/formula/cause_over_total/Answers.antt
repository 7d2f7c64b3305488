use Rattle.std.proofs.Common.{arith}
use Rattle.formula_nnf.specs.Shape.{nnf_tree}
use Rattle.skolem.specs.Skolemized.{skolemized_form}
use Rattle.clausal_form.proofs.AboutCounts.PassingLemmas.{outline-passes, total-passes}
use Rattle.clausal_form.proofs.formula.cause_over_total.Goals as goal

pub returns-then-branch-gt-MOST_SYMBOLS : goal.returns-then-branch-gt-MOST_SYMBOLS
returns-then-branch-gt-MOST_SYMBOLS c =
    outline-passes (skolemized_form c.args.signature.now (nnf_tree c.args.form.now)).matrix c.in_ok-largest_clause.field-0
    c.in_ok-largest_clause.ensures (omega (arith, c.if-branch-gt-MOST_SYMBOLS.true))

pub returns : goal.returns
returns c =
    total-passes c.args.signature.now (nnf_tree c.args.form.now) c.in_ok-largest_clause.field-0 c.in_ok-largest_clause.ensures
    (omega (arith, c.if-branch-gt-MOST_SYMBOLS.false)) c.requires.over
