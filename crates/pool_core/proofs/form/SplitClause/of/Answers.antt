use Rattle.std.proofs.Common.{ap, ◌∙◌, arith}
use Rattle.fol_base.specs.Literal.{clause_of}
use Rattle.fol_base.specs.Subsumption.{assertions}
use Rattle.pool_core.proofs.AboutSplits.MadeLemmas.{split-made}
use Rattle.pool_core.proofs.form.SplitClause.of.Goals as goal

pub returns-clause-made : goal.returns-clause-made
returns-clause-made g c = λ split given.
    split-made c.args.bank.now c.of.new.table split (clause_of c.args.clause.now) c.args.results.now
    (record { places = c.in_ok-places.places; parts = c.in_ok-parts.parts; asserted = c.in_ok-asserted.asserted; definitions = c.in_ok-definitions.definitions })
    given c.requires.several c.in_ok-places.ensures c.in_ok-parts.ensures.made c.in_ok-parts.ensures.tags c.in_ok-parts.ensures.room
    (c.in_ok-asserted.ensures.tags ∙ ap assertions c.as_slice.ensures)
    c.in_ok-asserted.ensures.names c.in_ok-asserted.ensures.room c.in_ok-definitions.ensures.items
    (omega (arith, c.in_ok-definitions.ensures.len, c.in_ok-definitions.ensures.capacity))
