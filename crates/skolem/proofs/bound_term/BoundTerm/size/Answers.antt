use Rattle.std.proofs.Common.{ℕ, Vec, Global, length, ap, ◌∙◌}
use Rattle.skolem.specs.BoundTerm.{bound_tree}
use Rattle.skolem.proofs.AboutBindings.BoundTermLemmas.{size-of-applied}
use Rattle.skolem.proofs.bound_term.BoundTerm.size.Goals as goal

pub returns-in-Skolem : goal.returns-in-Skolem
returns-in-Skolem c =
    size-of-applied c.in-Skolem.symbol c.in-Skolem.arguments.value.items _ _ (bound_tree c.args.self.now)
    (ap length (c.as_slice.ensures.value ∙ ap (λ (v : Vec ℕ Global). v.items) c.deref.ensures)) c.saturating_add.ensures (ap bound_tree c.in-Skolem.is)
