use Rattle.rewriting.proofs.AboutIndexes.IndexLemmas.{taken-keeps}
use Rattle.fol_base.specs.Term.{tree_of}
use Rattle.rewriting.proofs.index.take_side.Goals as goal

pub returns : goal.returns
returns c =
    taken-keeps c.args.number c.args.side (tree_of c.side.result.now) c.side_number.result c.remove.result c.args.sides.now c.remove.new.self
    c.side_number.ensures c.remove.ensures.removed c.remove.ensures.unchanged
