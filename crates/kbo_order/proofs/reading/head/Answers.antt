use Rattle.std.proofs.Common.{ap, sym, ◌∙◌}
use Rattle.fol_base.specs.Term.{tree_of}
use Rattle.kbo_order.proofs.AboutReading.ReadingLemmas.{instance-itself, seen-bound}
use Rattle.kbo_order.proofs.reading.head.Goals as goal
use Rattle.kbo_order.proofs.reading.head.Goals.{in-Some, in-None}

pub returns-after-term-2-clause-same : goal.returns-after-term-2-clause-same
returns-after-term-2-clause-same g c =
    let σ = g.S.LendsTerms.meaning c.args.bind.now in
    let put_in = seen-bound c.args.is_bound σ c.args.term.now c.in-Var.number c.in-Var.is c.if-is_bound.false in
    elim c.match-term-2.branch [
      | in-Some w ↦ instance-itself (tree_of c.match-term-2.bound.now) ∙ ap (λ p. tree_of p.now) w.bound-is ∙ w.in-Some.ensures ∙ sym put_in
      | in-None w ↦
          instance-itself (tree_of c.match-term-2.bound.now) ∙ ap (λ p. tree_of p.now) w.bound-is ∙ ap tree_of c.in-Var.is ∙ w.in-None.ensures ∙ sym put_in
    ]
