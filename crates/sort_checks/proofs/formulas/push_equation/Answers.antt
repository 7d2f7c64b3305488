use Rattle.std.proofs.Common.{◌≡◌, Some, ap, sym, ◌∙◌}
use Rattle.std.proofs.lemmas.Result.{on_ok_weaker}
use Rattle.tptp_tree.specs.Shape.{term_of}
use Rattle.typed_problem.specs.SortFaults.{term_sort}
use Rattle.sort_checks.specs.Lent.{sort_lent, declared_among}
use Rattle.sort_checks.specs.Wanted.{sort_wanted}
use Rattle.sort_checks.proofs.PushLemmas.{equation-pushed}
use Rattle.sort_checks.proofs.formulas.push_equation.Goals as goal
use Rattle.sort_checks.proofs.formulas.push_equation.Goals.{in-None, in-Some}

pub returns : goal.returns
returns c =
    let wants : sort_wanted c.match-sort_of.wanted ≡ Some (term_sort (declared_among c.args.table.now) c.args.scope.now (term_of c.args.left.now)) =
    elim c.match-sort_of.branch [
      | in-None w ↦ ap sort_wanted w.wanted-is ∙ ap (λ o. Some (sort_lent o)) (sym w.in-None.is) ∙ ap (λ s. Some s) c.sort_of.ensures
      | in-Some w ↦ ap sort_wanted w.wanted-is ∙ ap (λ o. Some (sort_lent o)) (sym w.in-Some.is) ∙ ap (λ s. Some s) c.sort_of.ensures
    ] in
    on_ok_weaker c.push_term-2.result
    (equation-pushed (declared_among c.args.table.now) c.args.scope.now (term_of c.args.left.now) (term_of c.args.right.now) (sort_wanted c.match-sort_of.wanted)
    c.args.causes.now.items c.push_term.new.causes.items c.push_term-2.new.causes.items wants c.in_ok-push_term.ensures)
    c.push_term-2.ensures
