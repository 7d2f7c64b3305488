use Rattle.std.proofs.Common.{ap, ◌∙◌}
use Rattle.typed_problem.specs.Declarations.{declared_as, only_symbol}
use Rattle.sort_checks.specs.Lent.{declared_among}
use Rattle.sort_checks.proofs.LookupLemmas.{symbol-told, all-taken}
use Rattle.sort_checks.proofs.table.Table.symbol.Goals as goal

pub returns-in_err-earlier : goal.returns-in_err-earlier
returns-in_err-earlier c =
    rw c.from_residual.ensures
    (ap only_symbol
    (c.in_err-earlier.ensures
    ∙ ap (λ bs. declared_as (declared_among bs) c.args.word.now) (all-taken c.self.inside.entries.now c.args.self.now c.self.view_is)))

pub returns : goal.returns
returns c =
    symbol-told (declared_as (declared_among c.args.self.now) c.args.word.now) c.earlier.result c.in_ok-earlier.field-0
    (c.earlier.ensures
    ∙ ap (λ bs. declared_as (declared_among bs) c.args.word.now) (all-taken c.self.inside.entries.now c.args.self.now c.self.view_is))
    c.in_ok-earlier.was
