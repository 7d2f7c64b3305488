use Rattle.std.proofs.Common.{◌≡◌, ℕ, List, [], ◌∷◌, ◌++◌, length, ap, sym, ◌∙◌, subst, arith}
use Rattle.fol_base.specs.Clause.{TreeClause}
use Rattle.fol_base.specs.Literal.{clause_of}
use Rattle.kernel_steps.specs.declared.step.Line.{Line}
use Rattle.pool_history.specs.Counting.{result_comes}
use Rattle.pool_core.specs.Demanded.{no_demand, plus}
use Rattle.pool_core.specs.Placing.{IsFitResult, IsInterned}
use Rattle.pool_core.specs.Started.{with_input}
use Rattle.pool_core.specs.State.{IsProofStateOf}
use Rattle.pool_core.proofs.AboutBeginnings.InputLemmas.{input_line, input-comes, input-ended, input-fit}
use Rattle.pool_core.proofs.AboutClaims.StateLemmas.{kept-proof}
use Rattle.pool_core.proofs.AboutReturns.ArrivalLemmas.{less-alone, room-for-less}
use Rattle.pool_core.proofs.AboutReturns.InternedLemmas.{fit-same, more-met}
use Rattle.pool_core.proofs.pool.ProofState.take_input.Goals as goal

pub returns-then-is_some-clause-comes : goal.returns-then-is_some-clause-comes
returns-then-is_some-clause-comes g c = λ r is.
    input-ended c.args.bank.now c.args.table.now c.args.self.now c.args.split r c.args.number (clause_of c.args.input.now) (sym c.is_some.ensures ∙ c.if-is_some.true) is

pub of-requires-clause-fit : goal.of-requires-clause-fit
of-requires-clause-fit g c =
    let line : Line = input_line c.args.number c.in_ok-copy.field-0 in
    let one : c.push.new.self ≡ line ∷ [] = c.in_ok-push.ensures.ok ∙ ap (λ (ls : List Line). ls ++ line ∷ []) c.new-lines.ensures in
    let fit : IsFitResult c.args.split 0 c.as_slice.result.now c.as_slice-2.result.now =
    fit-same c.args.split 0 c.as_slice.result.now (line ∷ []) c.as_slice-2.result.now c.in_ok-parts.parts.items (c.as_slice.ensures ∙ one) c.as_slice-2.ensures.value
    (input-fit c.args.split c.args.number c.args.input.now c.in_ok-copy.field-0 c.in_ok-parts.parts.items (c.requires.formed).0 c.in_ok-copy.ensures c.requires.names
    c.requires.canonical c.requires.small (c.requires.formed).1 c.in_ok-parts.ensures) in
    (c.args.split, 0, fit)

pub arrive-requires-clause-arrival : goal.arrive-requires-clause-arrival
arrive-requires-clause-arrival g c =
    let line : Line = input_line c.args.number c.in_ok-copy.field-0 in
    let one : c.push.new.self ≡ line ∷ [] = c.in_ok-push.ensures.ok ∙ ap (λ (ls : List Line). ls ++ line ∷ []) c.new-lines.ensures in
    let fit : IsFitResult c.args.split 0 c.as_slice.result.now c.as_slice-2.result.now =
    fit-same c.args.split 0 c.as_slice.result.now (line ∷ []) c.as_slice-2.result.now c.in_ok-parts.parts.items (c.as_slice.ensures ∙ one) c.as_slice-2.ensures.value
    (input-fit c.args.split c.args.number c.args.input.now c.in_ok-copy.field-0 c.in_ok-parts.parts.items (c.requires.formed).0 c.in_ok-copy.ensures c.requires.names
    c.requires.canonical c.requires.small (c.requires.formed).1 c.in_ok-parts.ensures) in
    let made : (count : ℕ) → IsInterned c.args.bank.now c.of.new.table c.args.split count c.push.new.self c.in_ok-interned.interned = λ count.
    more-met c.args.bank.now c.of.new.table c.args.split 0 count c.push.new.self c.in_ok-interned.interned (omega arith)
    (subst (λ (ls : List Line). IsInterned c.args.bank.now c.of.new.table c.args.split 0 ls c.in_ok-interned.interned) c.as_slice.ensures
    (c.in_ok-interned.ensures.made c.args.split 0 fit)) in (
      c.of.new.table,
      c.args.split,
      (c.requires.state).0,
      made (length ((c.requires.state).0).parts),
      kept-proof c.args.bank.now c.args.table.now c.of.new.table c.args.self.now c.reserve.new.self (c.requires.state).0 c.in_ok-interned.ensures.knows
          c.reserve.ensures.clauses c.reserve.ensures.pairs c.reserve.ensures.steps c.reserve.ensures.ended c.reserve.ensures.splits c.reserve.ensures.asserting (c.requires.state).1,
    )

pub returns-clause-comes : goal.returns-clause-comes
returns-clause-comes g c = λ r is.
    let line : Line = input_line c.args.number c.in_ok-copy.field-0 in
    let one : c.push.new.self ≡ line ∷ [] = c.in_ok-push.ensures.ok ∙ ap (λ (ls : List Line). ls ++ line ∷ []) c.new-lines.ensures in
    let fit : IsFitResult c.args.split 0 c.as_slice.result.now c.as_slice-2.result.now =
    fit-same c.args.split 0 c.as_slice.result.now (line ∷ []) c.as_slice-2.result.now c.in_ok-parts.parts.items (c.as_slice.ensures ∙ one) c.as_slice-2.ensures.value
    (input-fit c.args.split c.args.number c.args.input.now c.in_ok-copy.field-0 c.in_ok-parts.parts.items (c.requires.formed).0 c.in_ok-copy.ensures c.requires.names
    c.requires.canonical c.requires.small (c.requires.formed).1 c.in_ok-parts.ensures) in
    let made : (count : ℕ) → IsInterned c.args.bank.now c.of.new.table c.args.split count c.push.new.self c.in_ok-interned.interned = λ count.
    more-met c.args.bank.now c.of.new.table c.args.split 0 count c.push.new.self c.in_ok-interned.interned (omega arith)
    (subst (λ (ls : List Line). IsInterned c.args.bank.now c.of.new.table c.args.split 0 ls c.in_ok-interned.interned) c.as_slice.ensures
    (c.in_ok-interned.ensures.made c.args.split 0 fit)) in
    subst (λ (d : TreeClause). IsProofStateOf c.args.bank.now c.of.new.table c.arrive.new.self (with_input c.args.split c.args.number d r)) c.in_ok-copy.ensures
    (subst (IsProofStateOf c.args.bank.now c.of.new.table c.arrive.new.self)
    (ap (result_comes c.args.split r) one
    ∙ input-comes c.args.split c.args.number c.in_ok-copy.field-0 r (ap (λ (d : TreeClause). d.names) c.in_ok-copy.ensures ∙ c.requires.names))
    (c.arrive.ensures.arrived c.of.new.table c.args.split r (made (length r.parts))
    (kept-proof c.args.bank.now c.args.table.now c.of.new.table c.args.self.now c.reserve.new.self r c.in_ok-interned.ensures.knows
    c.reserve.ensures.clauses c.reserve.ensures.pairs c.reserve.ensures.steps c.reserve.ensures.ended c.reserve.ensures.splits c.reserve.ensures.asserting is)))

pub returns-clause-nodes : goal.returns-clause-nodes
returns-clause-nodes g c = λ nodes.
    (c.arrive.ensures.room no_demand 0
    (room-for-less c.reserve.new.self (plus c.in_ok-interned.interned.demand no_demand) c.in_ok-interned.interned.demand 0 0
    (less-alone c.in_ok-interned.interned.demand) (omega arith) c.in_ok-reserve.ensures.room)).places.queue
