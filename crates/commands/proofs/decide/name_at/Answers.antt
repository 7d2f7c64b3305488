use Rattle.std.proofs.Common.{ap, sym, ◌∙◌}
use Rattle.tptp_tree.specs.declared.problem.Annotated.{Annotated}
use Rattle.commands.proofs.AboutGround.DecideLemmas.{name-read}
use Rattle.commands.proofs.decide.name_at.Goals as goal

pub returns : goal.returns
returns c =
    name-read c.args.formulas.now c.args.places.now c.args.number c.index-formulas-place.result c.as_slice.result.now c.requires.place
    c.index-formulas-place.is (c.as_slice.ensures ∙ ap (λ (a : Annotated). a.name) (sym c.index-formulas-place.is))
