use Rattle.std.proofs.Common.{ℕ, Vec, Global, ◌++◌, ap, ◌∙◌}
use Rattle.skolem.specs.BoundTerm.{bound_tree}
use Rattle.skolem.proofs.AboutBindings.BoundTermLemmas.{arguments-added}
use Rattle.skolem.proofs.bound_term.BoundTerm.push_variables.Goals as goal

pub returns-in_ok-extend_from_slice-in-Skolem-clause-added : goal.returns-in_ok-extend_from_slice-in-Skolem-clause-added
returns-in_ok-extend_from_slice-in-Skolem-clause-added c =
    arguments-added c.args.found.now.items _ c.in-Skolem.arguments.value.items c.in-Skolem.symbol (bound_tree c.args.self.now)
    (c.in_ok-extend_from_slice-in-Skolem.ensures.items
    ∙ ap (λ vs. c.args.found.now.items ++ vs) (c.as_slice.ensures.value ∙ ap (λ (v : Vec ℕ Global). v.items) c.deref.ensures))
    (ap bound_tree c.in-Skolem.is)
