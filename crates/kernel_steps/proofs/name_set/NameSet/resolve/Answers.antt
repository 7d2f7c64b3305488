use Rattle.std.proofs.Common.{ap, sym, ◌∙◌}
use Rattle.plain_types.specs.Names.{has_name, without}
use Rattle.kernel_steps.specs.Names.{with_names}
use Rattle.kernel_steps.proofs.AboutNames.NameSetLemmas.{resolvent-made}
use Rattle.kernel_steps.proofs.name_set.NameSet.resolve.Goals as goal

pub returns : goal.returns
returns c =
    resolvent-made c.args.pivot c.args.self.now c.args.others.now c.remove.new.self c.put_others.new.self c.has.ensures.sorted
    (sym c.if-not-has.false ∙ c.has.ensures.value)
    (sym c.if-not-has_name.false ∙ c.has_name.ensures ∙ ap (λ n. has_name n c.args.others.now) c.opposite.ensures)
    c.remove.ensures
    (c.in_ok-put_others.ensures ∙ ap (λ n. with_names (without n c.args.others.now) c.remove.new.self) c.opposite-2.ensures)
