use Rattle.std.proofs.Common.{◌≡◌, true, false, sym, ◌∙◌}
use Rattle.tptp_source.proofs.AboutParts.PartTerms.{no_bare_name}
use Rattle.tptp_source.proofs.part.bare_name.Goals as goal

pub returns-else-is_empty : goal.returns-else-is_empty
returns-else-is_empty c =
    no_bare_name c.args.name c.args.arguments.now (λ e. let t : true ≡ false = sym (c.is_empty.ensures.1 e) ∙ c.if-is_empty.false in cc)
