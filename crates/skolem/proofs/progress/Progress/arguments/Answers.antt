use Rattle.std.proofs.Common.{◌≡◌, ◌==◌, ◌∙◌, true, ap, sym, subst}
use Rattle.std.specs.Prelude.{nat_lt}
use Rattle.std.specs.List.{list_any, list_all}
use Rattle.skolem.specs.Bindings.{Covers}
use Rattle.skolem.specs.Progress.{environment_of, made_of}
use Rattle.skolem.proofs.AboutBindings.CoverLemmas.{made-covers}
use Rattle.skolem.proofs.AboutBindings.OccurringLemmas.{arguments-found}
use Rattle.skolem.proofs.AboutBindings.PlaceLemmas.{closed-all, whole-walk}
use Rattle.skolem.proofs.progress.Progress.arguments.Goals.{then-are_made, else-are_made}
use Rattle.skolem.proofs.progress.Progress.arguments.Goals as goal

pub push_occurring_under-requires : goal.push_occurring_under-requires
push_occurring_under-requires c = record { inner = closed-all _ _ c.len-outer.ensures }

pub returns-clause-found : goal.returns-clause-found
returns-clause-found c =
    arguments-found c.args.names.now c.args.body.now (environment_of c.args.self.now.bindings) (made_of c.args.self.now) _ _
    (λ v. c.in_ok-occurring.ensures.found v ∙ ap (list_any (λ w. v == w)) (whole-walk _ _ _ _ _ _ c.len-outer.ensures
    c.in_ok-push_occurring_under.ensures.bindings c.new-places.ensures.items c.in_ok-push_occurring_under.ensures.found)) c.in_ok-variables.ensures.found

pub returns-clause-covers : goal.returns-clause-covers
returns-clause-covers c =
    elim c.if-are_made.branch [
      | then-are_made w ↦
          let yes : c.are_below-are_made.result ≡ true = w.if-are_made.true in
          let all : list_all (λ v. nat_lt v c.args.self.now.variables) c.in_ok-occurring.occurring.variables.items ≡ true =
          ap (list_all (λ v. nat_lt v c.args.self.now.variables)) (sym c.as_slice.ensures.value) ∙ sym c.are_below-are_made.ensures ∙ yes in
          subst (λ p. Covers c.args.self.now.bindings p c.in_ok-variables.variables.items) (sym w.result-is)
          (made-covers c.args.self.now.bindings c.in_ok-occurring.occurring.covers c.args.self.now.variables c.in_ok-occurring.occurring.variables.items
          c.in_ok-variables.variables.items all c.in_ok-variables.ensures.found
          (subst (λ bs. Covers bs c.in_ok-occurring.occurring.covers c.in_ok-occurring.occurring.variables.items)
          c.in_ok-push_occurring_under.ensures.bindings c.in_ok-occurring.ensures.covers))
      | else-are_made w ↦
          subst (λ p. Covers c.args.self.now.bindings p c.in_ok-variables.variables.items) (sym w.result-is) tt
    ]
