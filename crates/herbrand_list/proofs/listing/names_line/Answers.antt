use Rattle.std.proofs.Common.{ap, sym, arith, ◌∙◌}
use Rattle.herbrand_list.specs.GroundList.{speaks_of_names}
use Rattle.herbrand_list.proofs.AboutListing.ListLemmas.{step-read, none-more, names-found, names-none}
use Rattle.herbrand_list.proofs.listing.names_line.Goals as goal

pub loop-index-init : goal.loop-index-init
loop-index-init c k low = absurd (omega (arith, low))

pub loop-index-preserved : goal.loop-index-preserved
loop-index-preserved c =
    none-more c.args.lines.now c.loop-index.index c.loop-index.invariant
    (ap speaks_of_names (step-read c.args.lines.now c.loop-index.index c.index-lines-index.result c.loop-index-test.true)
    ∙ sym c.speaks_of_names.ensures ∙ c.if-speaks_of_names.false)

pub returns-then-speaks_of_names : goal.returns-then-speaks_of_names
returns-then-speaks_of_names c =
    names-found c.args.lines.now c.loop-index.index c.loop-index-test.true c.loop-index.invariant
    (ap speaks_of_names (step-read c.args.lines.now c.loop-index.index c.index-lines-index.result c.loop-index-test.true)
    ∙ sym c.speaks_of_names.ensures ∙ c.if-speaks_of_names.true)

pub returns : goal.returns
returns c = names-none c.args.lines.now c.loop-index.index c.loop-index-test.false c.loop-index.invariant
