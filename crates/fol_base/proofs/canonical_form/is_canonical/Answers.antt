use Rattle.std.proofs.Common.{ap, sym, ◌∙◌}
use Rattle.std.specs.Option.{is_some}
use Rattle.fol_base.specs.Literal.{clause_of}
use Rattle.fol_base.proofs.AboutCanonical.CanonicalLemmas.{counted-canonical}
use Rattle.fol_base.proofs.canonical_form.is_canonical.Goals as goal

pub returns : goal.returns
returns c =
    let law = counted-canonical (clause_of c.args.clause.now) in
    let tested = c.is_some.ensures ∙ ap is_some c.count_in_clause.ensures in
    (λ h. law.0 (sym tested ∙ h), λ h. tested ∙ law.1 h)
