use Rattle.std.proofs.Common.{map, arith}
use Rattle.tptp_problem.specs.NameSets.{names_among}
use Rattle.tptp_problem.proofs.AboutFiles.NameSetLemmas.{without-none, without-next, without-all, name-among, names-length}
use Rattle.tptp_problem.proofs.name_set.take_out.Goals as goal

pub loop-formula-init : goal.loop-formula-init
loop-formula-init g c = without-none c.args.set.now

pub loop-formula-preserved : goal.loop-formula-preserved
loop-formula-preserved g c =
    without-next (names_among g.E.Entry.language (map g.E.Entry.placed c.args.formulas.now)) c.loop-formula.formula-index c.args.set.now
    c.loop-formula.set c.remove.new.self (record { bytes = c.name.result })
    (g.E.Entry.language.name (g.E.Entry.placed c.formula-item.result).tree)
    (omega (arith, c.loop-formula-test.true, names-length g.E.Entry.language g.E.Entry.placed c.args.formulas.now)) c.name.ensures
    (name-among g.E.Entry.language g.E.Entry.placed c.args.formulas.now c.loop-formula.formula-index c.formula-item.result
    c.loop-formula-test.true c.formula-item.is)
    c.loop-formula.invariant c.remove.ensures.updates.0

pub returns : goal.returns
returns g c =
    without-all (names_among g.E.Entry.language (map g.E.Entry.placed c.args.formulas.now)) c.loop-formula.formula-index c.args.set.now
    c.loop-formula.set
    (omega (arith, c.loop-formula-test.false, names-length g.E.Entry.language g.E.Entry.placed c.args.formulas.now)) c.loop-formula.invariant
