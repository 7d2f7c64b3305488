use Rattle.rewriting.proofs.index.take_sides.Goals as goal

pub returns : goal.returns
returns c = λ t n s other there. c.take_side-2.ensures t n s other (c.take_side.ensures t n s other there)
