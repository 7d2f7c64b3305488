use Rattle.std.proofs.Common.{ap, ◌∙◌}
use Rattle.tptp_token.specs.Spelling.{is_one_of}
use Rattle.typed_problem.specs.Declarations.{declared_sorts}
use Rattle.sort_checks.specs.Lent.{bodies_of, declared_among}
use Rattle.sort_checks.proofs.TableLemmas.{sorts-told}
use Rattle.sort_checks.proofs.table.Table.is_sort.Goals as goal

pub returns : goal.returns
returns c =
    c.contains.ensures ∙ sorts-told (bodies_of c.self.inside.entries.now) c.self.inside.sorts (record { bytes = c.args.word }) c.self.invariant.sorts
    ∙ ap (λ bs. is_one_of (declared_sorts (declared_among bs)) c.args.word.now) c.self.view_is
