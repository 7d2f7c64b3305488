use Rattle.std.specs.Prelude.{Ok, Err}
use Rattle.std.proofs.lemmas.List.Sorted.{searched}
use Rattle.pool_writer.proofs.AboutRetracing.RisingLemmas.{not-falling, found-place, missed-place}
use Rattle.pool_writer.proofs.retrace.place_among.Goals as goal

pub returns-in-Ok : goal.returns-in-Ok
returns-in-Ok c =
    found-place c.args.numbers.now c.args.number c.in-Ok.place c.requires
    (searched c.args.numbers.now c.args.number (Ok c.in-Ok.place) c.in-Ok.ensures.position (not-falling c.args.numbers.now c.requires))

pub returns-in-Err : goal.returns-in-Err
returns-in-Err c =
    missed-place c.args.numbers.now c.args.number c.in-Err.place
    (searched c.args.numbers.now c.args.number (Err c.in-Err.place) c.in-Err.ensures.position (not-falling c.args.numbers.now c.requires))
