use Rattle.std.proofs.Common.{refl, ap, ◌∙◌, ◌++◌}
use Rattle.std.specs.Option.{option_to_list}
use Rattle.skolem.proofs.AboutBindings.BindingsLemmas.{chained-pop, present}
use Rattle.list_lemmas.proofs.Results.{ok-unless, when-ok}
use Rattle.skolem.proofs.bindings.Bindings.pop.Goals as goal

pub unwrap-requires : goal.unwrap-requires
unwrap-requires c =
    ok-unless c.insert.result _ c.insert.ensures.absent
    (present c.self.inside.entries.items c.pop.new.self.items c.self.inside.innermost.entries (record { text = c.unwrap-binding.result.binding.name })
    c.unwrap-binding.result c.self.invariant refl
    (c.pop.ensures.items ∙ ap (λ o. c.pop.new.self.items ++ option_to_list o) c.unwrap-binding.ensures))

pub invariant_of-self : goal.invariant_of-self
invariant_of-self c =
    chained-pop c.self.inside.entries.items c.pop.new.self.items c.self.inside.innermost.entries _ (record { text = c.unwrap-binding.result.binding.name })
    c.unwrap-binding.result c.self.invariant refl
    (c.pop.ensures.items ∙ ap (λ o. c.pop.new.self.items ++ option_to_list o) c.unwrap-binding.ensures)
    (when-ok c.insert.result c.unwrap.result _ c.unwrap.ensures c.insert.ensures.updates).0
