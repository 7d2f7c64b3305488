use Rattle.std.proofs.Common.{get_or, refl, arith}
use Rattle.finite_models.specs.Flattening.{value_in}
use Rattle.finite_models.proofs.AboutTables.NameLemmas.{place-next}
use Rattle.finite_models.proofs.entry_names.EntryNames.name.Goals as goal

pub overflow_mul-place : goal.overflow_mul-place
overflow_mul-place c =
    let next = place-next c.args.self.now.size c.args.values.now c.args.slots.now c.loop-slot.slot-index c.loop-slot.place
    (value_in c.args.values.now (get_or c.args.slots.now c.loop-slot.slot-index 0)) c.requires.size c.loop-slot-test.true refl c.loop-slot.invariant in
    omega (arith, next.1, c.requires.fits)

pub overflow_add-place : goal.overflow_add-place
overflow_add-place c =
    let next = place-next c.args.self.now.size c.args.values.now c.args.slots.now c.loop-slot.slot-index c.loop-slot.place
    (value_in c.args.values.now (get_or c.args.slots.now c.loop-slot.slot-index 0)) c.requires.size c.loop-slot-test.true refl c.loop-slot.invariant in
    omega (arith, next.1, c.requires.fits, c.value_in.ensures)

pub loop-slot-preserved : goal.loop-slot-preserved
loop-slot-preserved c =
    let next = place-next c.args.self.now.size c.args.values.now c.args.slots.now c.loop-slot.slot-index c.loop-slot.place
    (value_in c.args.values.now (get_or c.args.slots.now c.loop-slot.slot-index 0)) c.requires.size c.loop-slot-test.true refl c.loop-slot.invariant in
    omega (arith, next.0, c.value_in.ensures)
