use Rattle.std.proofs.Common.{arith}
use Rattle.skolem.specs.Shape.{matrix_tree}
use Rattle.clausal_form.proofs.AboutForms.ResultLemmas.{ok-then}
use Rattle.clausal_form.proofs.AboutNaming.OccurringLemmas.{arguments-made}
use Rattle.clausal_form.proofs.arguments.name_arguments.Goals as goal

pub returns : goal.returns
returns c =
    ok-then c.made_in_order.result
    (λ _ h. arguments-made c.args.made (matrix_tree c.args.matrix.now) _ _ _ (omega (arith, c.ranges.made.fits)) c.new-found.ensures
    c.in_ok-push_matrix_variables.ensures.added h)
    c.made_in_order.ensures.found
