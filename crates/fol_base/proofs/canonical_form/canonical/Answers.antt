use Rattle.std.proofs.Common.{◌∙◌}
use Rattle.fol_base.specs.Literal.{clause_of}
use Rattle.fol_base.proofs.AboutCanonical.CanonicalLemmas.{canonical_walked, renaming_walked}
use Rattle.fol_base.proofs.canonical_form.canonical.Goals as goal

pub returns-clause-form : goal.returns-clause-form
returns-clause-form c =
    c.in_ok-made.ensures.form
    ∙ canonical_walked (clause_of c.args.clause.now) c.new-numbering.result c.numbered_clause.new.numbering c.new-numbering.ensures
    c.in_ok-made.ensures.met

pub returns-clause-renaming : goal.returns-clause-renaming
returns-clause-renaming c =
    c.in_ok-renaming.ensures
    ∙ renaming_walked (clause_of c.args.clause.now) c.new-numbering.result c.numbered_clause.new.numbering c.new-numbering.ensures
    c.in_ok-made.ensures.met
