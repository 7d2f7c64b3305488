use Rattle.std.proofs.Common.{arith}
use Rattle.clausal_form.proofs.AboutWriting.AgendaLemmas.{member-size}
use Rattle.clausal_form.proofs.arguments.+push_matrix_variables.Goals as goal

pub push_listed_variables-push_matrix_variables-requires : goal.push_listed_variables-push_matrix_variables-requires
push_listed_variables-push_matrix_variables-requires t c =
    (omega (arith, member-size _ _ _ c.loop-member-test.true c.member-item.is, c.decreases), tt)

pub push_product_variables-push_matrix_variables-requires : goal.push_product_variables-push_matrix_variables-requires
push_product_variables-push_matrix_variables-requires t c =
    (omega (arith, member-size _ _ _ c.loop-member-test.true c.member-item.is, c.decreases), tt)
