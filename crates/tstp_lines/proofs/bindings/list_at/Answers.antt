use Rattle.std.proofs.Common.{◌∙◌, ap, sym}
use Rattle.std.specs.Prelude.{Some}
use Rattle.tptp_source.specs.Shape.{tree_of}
use Rattle.tstp_lines.specs.Bindings.{list_at}
use Rattle.tstp_lines.proofs.AboutReadings.BindingLemmas.{listed-generals}
use Rattle.tstp_lines.proofs.bindings.list_at.Goals as goal

pub returns-in-Listed : goal.returns-in-Listed
returns-in-Listed c =
    ap (λ gs. Some gs) (c.as_slice.ensures ∙ sym (listed-generals c.in-Listed.terms)) ∙ sym (ap (λ u. list_at (tree_of u)) c.in-Listed.is)
