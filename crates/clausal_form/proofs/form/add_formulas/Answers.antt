use Rattle.clausal_form.proofs.AboutWriting.LoopLemmas.{under-begin, under-known, under-unused, under-then, under-refused}
use Rattle.clausal_form.proofs.form.add_formulas.Goals as goal

pub loop-place-init : goal.loop-place-init
loop-place-init c = under-begin c.args.formulas.now c.args.prefix.now c.args.form.now c.requires.begun c.requires.empty

pub add_formula-requires-clause-known : goal.add_formula-requires-clause-known
add_formula-requires-clause-known c =
    under-known c.args.formulas.now c.args.prefix.now c.loop-place.place _ c.loop-place.form c.loop-place-test.true c.index-formulas-place.is c.loop-place.invariant

pub add_formula-requires-clause-unused : goal.add_formula-requires-clause-unused
add_formula-requires-clause-unused c =
    under-unused c.args.formulas.now c.args.prefix.now c.loop-place.place c.loop-place.form c.requires.prefix c.loop-place.invariant

pub loop-place-preserved : goal.loop-place-preserved
loop-place-preserved c =
    under-then c.args.formulas.now c.args.prefix.now c.loop-place.place _ c.loop-place.form _ c.loop-place-test.true c.index-formulas-place.is
    c.in_default.ensures.step c.loop-place.invariant

pub returns-in-Err-clause-refused : goal.returns-in-Err-clause-refused
returns-in-Err-clause-refused c =
    under-refused c.args.formulas.now c.args.prefix.now c.loop-place.place _ c.loop-place.form c.in-Err.fault c.loop-place-test.true c.index-formulas-place.is
    c.in-Err.ensures.refused c.loop-place.invariant
