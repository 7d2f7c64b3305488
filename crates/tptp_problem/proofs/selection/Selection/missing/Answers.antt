use Rattle.std.proofs.Common.{map, refl}
use Rattle.tptp_problem.proofs.AboutFiles.NameSetLemmas.{missing-here, missing-next}
use Rattle.tptp_problem.proofs.selection.Selection.missing.Goals as goal

pub returns-then-has_name : goal.returns-then-has_name
returns-then-has_name g c =
    missing-here g.E.Entry.language c.args.self.now.names.now (map g.E.Entry.placed c.args.formulas.now) c.loop-index.index c.name-item.result
    c.in_ok-absent.absent c.take_out.new.set (record { bytes = c.as_slice.result }) c.has_name.result c.loop-index-test.true c.name-item.is
    c.as_slice.ensures c.in_ok-absent.ensures c.take_out.ensures (c.has_name.ensures.found (record { bytes = c.as_slice.result }) refl)
    c.loop-index.invariant c.if-has_name.true

pub loop-index-preserved : goal.loop-index-preserved
loop-index-preserved g c =
    missing-next g.E.Entry.language c.args.self.now.names.now (map g.E.Entry.placed c.args.formulas.now) c.loop-index.index c.name-item.result
    c.in_ok-absent.absent c.take_out.new.set (record { bytes = c.as_slice.result }) c.has_name.result c.loop-index-test.true c.name-item.is
    c.as_slice.ensures c.in_ok-absent.ensures c.take_out.ensures (c.has_name.ensures.found (record { bytes = c.as_slice.result }) refl)
    c.loop-index.invariant c.if-has_name.false
