use Rattle.std.proofs.Common.{ap, sym, ◌∙◌}
use Rattle.tptp_tree.specs.Shape.{term_of}
use Rattle.typed_problem.specs.SortFaults.{term_sort}
use Rattle.sort_checks.specs.Lent.{declared_among}
use Rattle.sort_checks.proofs.PushLemmas.{sort-told}
use Rattle.sort_checks.proofs.terms.sort_of.Goals as goal

pub returns-in-App : goal.returns-in-App
returns-in-App c =
    c.result_of.ensures
    ∙ sort-told (declared_among c.args.table.now) c.args.scope.now c.as_slice-in-App.result.now c.in-App.name c.len.result c.in-App.arguments c.function.result
    c.as_slice-in-App.ensures c.len.ensures c.function.ensures
    ∙ ap (term_sort (declared_among c.args.table.now) c.args.scope.now) (sym (ap term_of c.in-App.is))
