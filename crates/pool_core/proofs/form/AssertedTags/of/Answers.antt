use Rattle.std.proofs.Common.{map, ap, ◌∙◌}
use Rattle.std.proofs.lemmas.List.{take_all}
use Rattle.plain_types.specs.declared.sequence.NameLit.{NameLit}
use Rattle.pool_core.proofs.AboutSplits.AssertedLemmas.{asserted-names}
use Rattle.pool_core.proofs.form.AssertedTags.of.Goals as goal

pub returns-clause-tags : goal.returns-clause-tags
returns-clause-tags c =
    c.loop-name.invariant ∙ ap (map (λ (n : NameLit). n.name)) (take_all c.loop-name.name-index c.args.names.now c.loop-name-test.false)
    ∙ asserted-names c.args.names.now c.requires
