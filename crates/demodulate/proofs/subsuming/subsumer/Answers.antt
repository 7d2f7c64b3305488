use Rattle.fol_base.specs.Literal.{clause_of}
use Rattle.demodulate.proofs.SubsumingLemmas.{by-rest, by-unit}
use Rattle.demodulate.proofs.subsuming.subsumer.Goals as goal

pub returns-in-Some : goal.returns-in-Some
returns-in-Some c =
    let by = c.args.by.now in
    by-unit by.equations.now by.units.now by.members.now by.left_out (clause_of c.args.clause.now) c.in-Some.number (rw c.in-Some.is at c.in_ok-unit.ensures)

pub returns : goal.returns
returns c =
    let by = c.args.by.now in
    by-rest by.equations.now by.units.now by.members.now by.left_out (clause_of c.args.clause.now) c.in_ok-longer.longer
    (rw c.in_default.is at c.in_ok-unit.ensures) c.in_ok-longer.ensures
