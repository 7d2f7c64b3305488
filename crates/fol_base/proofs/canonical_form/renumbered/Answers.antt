use Rattle.fol_base.specs.Literal.{clause_of}
use Rattle.fol_base.proofs.AboutCanonical.CanonicalLemmas.{canonical_result}
use Rattle.fol_base.proofs.canonical_form.renumbered.Goals as goal

pub returns : goal.returns
returns c =
    canonical_result (clause_of c.args.clause.now) c.new.result c.numbered_clause.new.numbering c.new.ensures c.numbered_clause.result
    c.numbered_clause.ensures.met c.numbered_clause.ensures.form
