use Rattle.std.proofs.Common.{arith}
use Rattle.formula_nnf.specs.Shape.{nnf_tree}
use Rattle.skolem.proofs.AboutFormulas.OutlineLemmas.{ended-told}
use Rattle.skolem.proofs.outline.largest_clause.Goals as goal

pub returns-in-Err-TooHeavy : goal.returns-in-Err-TooHeavy
returns-in-Err-TooHeavy c =
    ended-told c.args.signature.now (nnf_tree c.args.form.now) c.new-progress.result c.in-Err-TooHeavy.field-0 _ c.new-progress.ensures.bindings
    c.new-progress.ensures.made (omega arith) c.in-Err-TooHeavy.field-0-is c.in-Err-TooHeavy.ensures.ended
