use Rattle.std.proofs.Common.{List, map, refl, sym, ◌∙◌, subst, arith}
use Rattle.fol_base.specs.Literal.{clause_of}
use Rattle.fol_base.specs.declared.clause.Clause.{Clause}
use Rattle.pool_history.specs.Inputs.{AreInputs}
use Rattle.pool_history.specs.Record.{nothing_registered}
use Rattle.pool_history.specs.Registering.{with_inputs}
use Rattle.pool_core.specs.State.{IsProofStateOf}
use Rattle.pool_core.proofs.AboutBeginnings.BegunLemmas.{begun}
use Rattle.pool_core.proofs.pool.Pool.new.Goals as goal

pub invariant_of-result : goal.invariant_of-result
invariant_of-result g c =
    begun _ c.args.bank.now c.in_ok-proof.ensures.table
    (subst (λ (cs : List Clause). IsProofStateOf c.args.bank.now c.of_inputs.new.table c.in_ok-proof.proof (with_inputs c.args.options.split 0 (map clause_of cs) nothing_registered))
    (c.as_slice.ensures ∙ sym c.of.ensures) c.in_ok-proof.ensures.come)
    c.new.ensures.items c.new-2.ensures.empty c.new-5.ensures c.new-6.ensures.items refl refl refl c.in_ok-proof.ensures.nodes
    (omega (arith, c.new-3.result.events.ok.1))
    (omega (arith, c.new-4.result.ok.1))
    c.new-3.ensures c.in_ok-proof.ensures.notes c.new-4.ensures.items
    (subst (λ (cs : List Clause). AreInputs (map clause_of cs)) (sym c.of.ensures) c.requires.inputs)
    c.requires.limit
