use Rattle.std.proofs.Common.{◌≡◌, ◌≤◌, [], map, take, sym, ◌∙◌, subst}
use Rattle.fol_base.specs.Canonical.{IsCanonical}
use Rattle.fol_base.specs.Clause.{TreeClause, clause_size}
use Rattle.fol_base.specs.Literal.{clause_of}
use Rattle.fol_base.specs.declared.limits.TheConstants.{MOST_SYMBOLS}
use Rattle.pool_history.specs.Record.{nothing_registered}
use Rattle.pool_history.specs.Registering.{with_inputs}
use Rattle.pool_core.specs.State.{IsProofStateOf}
use Rattle.pool_core.proofs.AboutBeginnings.StartLemmas.{input-at, input-formed, inputs-more}
use Rattle.pool_core.proofs.pool.ProofState.of_inputs.Goals as goal

pub take_input-requires-clause-canonical : goal.take_input-requires-clause-canonical
take_input-requires-clause-canonical g c =
    input-at IsCanonical c.args.inputs.now c.loop-number.number c.index-inputs-number.result c.requires.inputs.canonical
    c.loop-number-test.true c.index-inputs-number.is

pub take_input-requires-clause-names : goal.take_input-requires-clause-names
take_input-requires-clause-names g c =
    input-at (λ (d : TreeClause). d.names ≡ []) c.args.inputs.now c.loop-number.number c.index-inputs-number.result c.requires.inputs.no_names
    c.loop-number-test.true c.index-inputs-number.is

pub take_input-requires-clause-small : goal.take_input-requires-clause-small
take_input-requires-clause-small g c =
    input-at (λ (d : TreeClause). clause_size d ≤ MOST_SYMBOLS) c.args.inputs.now c.loop-number.number c.index-inputs-number.result
    c.requires.inputs.small c.loop-number-test.true c.index-inputs-number.is

pub take_input-requires-clause-formed : goal.take_input-requires-clause-formed
take_input-requires-clause-formed g c =
    let formed = c.requires.inputs.well_formed in
    (formed.usage, input-formed formed.usage c.args.inputs.now c.loop-number.number c.index-inputs-number.result formed.used c.loop-number-test.true c.index-inputs-number.is)

pub loop-number-init : goal.loop-number-init
loop-number-init g c = record {
  table = c.requires.table;
  come = c.in_ok-state.ensures.empty c.args.bank.now c.args.table.now;
  notes = c.in_ok-state.ensures.notes;
  nodes = c.in_ok-state.ensures.nodes;
}

pub loop-number-preserved : goal.loop-number-preserved
loop-number-preserved g c = record {
  table = c.in_ok-take_input.ensures.table;
  come =
      subst (IsProofStateOf c.args.bank.now c.take_input.new.table c.take_input.new.self)
      (sym (inputs-more c.args.split c.args.inputs.now c.loop-number.number c.index-inputs-number.result c.loop-number-test.true c.index-inputs-number.is))
      (c.in_ok-take_input.ensures.comes (with_inputs c.args.split 0 (map clause_of (take c.loop-number.number c.args.inputs.now)) nothing_registered)
      c.loop-number.invariant.come);
  notes = c.in_ok-take_input.ensures.notes ∙ c.loop-number.invariant.notes;
  nodes = c.in_ok-take_input.ensures.nodes c.loop-number.invariant.nodes;
}
