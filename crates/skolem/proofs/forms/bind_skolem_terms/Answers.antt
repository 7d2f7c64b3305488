use Rattle.std.proofs.Common.{ℕ, Vec, Global, ◌∙◌, ap}
use Rattle.signature.specs.Environment.{free_names}
use Rattle.skolem.specs.Skolemized.{numbers_after}
use Rattle.skolem.specs.Progress.{scope_of_progress, skolem_steps}
use Rattle.skolem.proofs.AboutFormulas.FormLemmas.{terms-bound}
use Rattle.list_lemmas.proofs.Results.{ok-then}
use Rattle.skolem.proofs.forms.bind_skolem_terms.Goals as goal

pub returns-clause-scope : goal.returns-clause-scope
returns-clause-scope c =
    ok-then c.bind_applied.result _ _
    (λ u h. terms-bound (numbers_after c.args.signature.now) (free_names c.args.body.now) c.args.names.now c.args.progress.now c.arguments.new.self
    c.bind_applied.new.progress c.in_ok-variables.field-0.variables.items
    c.in_ok-variables.ensures.found c.in_ok-variables.ensures.bindings c.in_ok-variables.ensures.variables c.in_ok-variables.ensures.arities
    (h
    ∙ ap (λ (v : Vec ℕ Global). skolem_steps (numbers_after c.args.signature.now) v.items c.args.names.now (scope_of_progress c.arguments.new.self))
    c.in_ok-arguments.ensures.ok))
    c.bind_applied.ensures.scope
