use Rattle.std.proofs.Common.{◌≡◌, take, option_map, ap, sym, ◌∙◌, arith}
use Rattle.tptp_reader.specs.declared.source.Name.{Name}
use Rattle.typed_problem.specs.Declarations.{declared_as}
use Rattle.sort_checks.specs.Lent.{declaration_lent, body_lent, declared_among, declaration_of_body}
use Rattle.sort_checks.proofs.LookupLemmas.{first-within, earlier-told, later-untold, none-untold}
use Rattle.sort_checks.proofs.table.Table.earlier.Goals as goal

pub returns-in_err-first : goal.returns-in_err-first
returns-in_err-first c =
    let word : Name = record { bytes = c.args.word } in
    rw c.from_residual.ensures
    (none-untold c.self.inside.entries.now c.args.index c.args.word.now (sym (c.self.invariant.first word) ∙ sym c.in_err-first.ensures.value)
    ∙ ap (λ bs. declared_as (declared_among (take c.args.index bs)) c.args.word.now) c.self.view_is)

pub bounds-self-inside-first : goal.bounds-self-inside-first
bounds-self-inside-first c =
    let word : Name = record { bytes = c.args.word } in
    first-within c.self.inside.entries.now c.in_ok-first.field-0.now c.args.word.now (sym (c.self.invariant.first word) ∙ sym c.in_ok-first.ensures.value)

pub offset_bounds-self-inside-first : goal.offset_bounds-self-inside-first
offset_bounds-self-inside-first c =
    let word : Name = record { bytes = c.args.word } in record {
      fits =
          omega (
            arith,
            first-within c.self.inside.entries.now c.in_ok-first.field-0.now c.args.word.now
                (sym (c.self.invariant.first word) ∙ sym c.in_ok-first.ensures.value),
            c.self.told,
          );
    }

pub returns-then-first-index : goal.returns-then-first-index
returns-then-first-index c =
    let word : Name = record { bytes = c.args.word } in
    let told : option_map declaration_lent c.declaration_in.result ≡ declaration_of_body (body_lent c.index-self-first.result.body) = cc in
    earlier-told c.self.inside.entries.now c.in_ok-first.field-0.now c.args.index c.args.word.now c.index-self-first.result c.declaration_in.result
    (sym (c.self.invariant.first word) ∙ sym c.in_ok-first.ensures.value) c.if-first-index.true c.index-self-first.is told
    ∙ ap (λ bs. declared_as (declared_among (take c.args.index bs)) c.args.word.now) c.self.view_is

pub returns-else-first-index : goal.returns-else-first-index
returns-else-first-index c =
    let word : Name = record { bytes = c.args.word } in
    later-untold c.self.inside.entries.now c.in_ok-first.field-0.now c.args.index c.args.word.now
    (sym (c.self.invariant.first word) ∙ sym c.in_ok-first.ensures.value) c.if-first-index.false
    ∙ ap (λ bs. declared_as (declared_among (take c.args.index bs)) c.args.word.now) c.self.view_is
