use Rattle.fol_base.specs.Term.{tree_of}
use Rattle.partners.proofs.IndexLemmas.{taken-keeps}
use Rattle.partners.proofs.index.take_site.Goals as goal

pub returns-in-Some : goal.returns-in-Some
returns-in-Some g c =
    taken-keeps c.args.number c.args.index c.site_number.result (tree_of c.in-Some.term.now) c.remove.result c.args.tree.now c.remove.new.self
    c.requires c.site_number.ensures c.remove.ensures.removed c.remove.ensures.unchanged
