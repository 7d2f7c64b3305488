use Rattle.std.proofs.Common.{◌∙◌, ap}
use Rattle.std.specs.Prelude.{is_some}
use Rattle.tstp_lines.proofs.AboutReadings.TableLemmas.{place-of-text, text-found}
use Rattle.tstp_lines.proofs.names.NameTable.number.Goals as goal

pub returns-in_err-place-clause-value : goal.returns-in_err-place-clause-value
returns-in_err-place-clause-value c =
    c.from_residual.ensures ∙ c.in_err-place.ensures.index ∙ place-of-text c.args.name.now c.self.inside.names.keys _ c.self.view_is

pub returns-clause-value : goal.returns-clause-value
returns-clause-value c = c.in_ok-place.ensures.index ∙ place-of-text c.args.name.now c.self.inside.names.keys _ c.self.view_is

pub returns-in_err-place-clause-found : goal.returns-in_err-place-clause-found
returns-in_err-place-clause-found c =
    ap is_some c.from_residual.ensures ∙ c.in_err-place.ensures.found
    ∙ text-found c.args.name.now c.self.inside.names.keys _ c.self.view_is

pub returns-clause-found : goal.returns-clause-found
returns-clause-found c = c.in_ok-place.ensures.found ∙ text-found c.args.name.now c.self.inside.names.keys _ c.self.view_is
