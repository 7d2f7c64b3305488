use Rattle.fol_base.specs.Term.{tree_of}
use Rattle.disc_tree.proofs.AboutPaths.EntryLemmas.{in-with}
use Rattle.rewriting.proofs.AboutIndexes.IndexLemmas.{in-more}
use Rattle.rewriting.proofs.index.put_side.Goals as goal

pub returns-clause-put : goal.returns-clause-put
returns-clause-put c = λ is.
    let x = in-with (tree_of c.side.result.now, c.side_number.result) c.args.sides.now c.insert.new.self c.in_ok-insert.ensures.ok in
    rw (← c.side_number.ensures) (rw (← c.side.ensures) x)

pub returns-clause-kept : goal.returns-clause-kept
returns-clause-kept c = λ y there.
    in-more (tree_of c.side.result.now, c.side_number.result) y c.args.sides.now c.insert.new.self c.in_ok-insert.ensures.ok there
