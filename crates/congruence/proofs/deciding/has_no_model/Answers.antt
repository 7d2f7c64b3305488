use Rattle.std.proofs.Common.{◌≡◌, List, Bool, false, length, subst}
use Rattle.std.proofs.lemmas.Bool.{true≢false}
use Rattle.sat_core.specs.Answer.{IsRightAnswer}
use Rattle.sat_core.specs.Clause.{clauses_true, valuation_of}
use Rattle.sat_core.specs.declared.answer.Answer.{Answer}
use Rattle.congruence.specs.Models.{KeepEquality}
use Rattle.congruence.proofs.AboutModels.EndLemmas.{extended-none, extended-twice, fewer-models, refuted-by-log, model-kept, told-by-model}
use Rattle.congruence.proofs.deciding.has_no_model.Goals as goal

pub models-init : goal.models-init
models-init c = extended-none c.args.nodes.now c.args.atoms.now c.args.clauses c.requires.below

pub solve-requires : goal.solve-requires
solve-requires c = c.models.invariant.below

pub returns-in-Refuted-clause-refuted : goal.returns-in-Refuted-clause-refuted
returns-in-Refuted-clause-refuted c =
    refuted-by-log c.args.nodes.now c.args.atoms.now c.args.clauses c.models.clauses c.in-Refuted.field-0 c.models.invariant
    (subst (λ (a : Answer). IsRightAnswer (length c.args.atoms.now) c.models.clauses a) c.in-Refuted.is c.in_ok-solve.ensures.right)

pub returns-in-Refuted-clause-model : goal.returns-in-Refuted-clause-model
returns-in-Refuted-clause-model c e = absurd (true≢false e)

pub add_conflicts-requires-clause-below : goal.add_conflicts-requires-clause-below
add_conflicts-requires-clause-below c = c.models.invariant.below

pub returns-then-not-branch-clause-refuted : goal.returns-then-not-branch-clause-refuted
returns-then-not-branch-clause-refuted c =
    told-by-model c.args.nodes.now c.args.atoms.now c.args.clauses
    (model-kept c.args.nodes.now c.args.atoms.now c.args.clauses c.models.clauses (length c.args.atoms.now) c.in-Model.truths c.requires.below
    c.models.invariant
    (subst (λ (a : Answer). IsRightAnswer (length c.args.atoms.now) c.models.clauses a) c.in-Model.is c.in_ok-solve.ensures.right)
    (subst (λ (ts : List Bool). KeepEquality c.args.nodes.now c.args.atoms.now (valuation_of ts)) c.as_slice.ensures
    (c.in_ok-add_conflicts-in-Model.ensures.none c.if-not-branch.true)))

pub returns-then-not-branch-clause-model : goal.returns-then-not-branch-clause-model
returns-then-not-branch-clause-model c e =
    model-kept c.args.nodes.now c.args.atoms.now c.args.clauses c.models.clauses (length c.args.atoms.now) c.in-Model.truths c.requires.below
    c.models.invariant
    (subst (λ (a : Answer). IsRightAnswer (length c.args.atoms.now) c.models.clauses a) c.in-Model.is c.in_ok-solve.ensures.right)
    (subst (λ (ts : List Bool). KeepEquality c.args.nodes.now c.args.atoms.now (valuation_of ts)) c.as_slice.ensures
    (c.in_ok-add_conflicts-in-Model.ensures.none c.if-not-branch.true))

pub models-preserved : goal.models-preserved
models-preserved c =
    extended-twice c.args.nodes.now c.args.atoms.now c.args.clauses c.models.clauses c.add_conflicts.new.clauses c.models.invariant
    c.add_conflicts.ensures.extended

pub models-smaller : goal.models-smaller
models-smaller c =
    fewer-models c.args.nodes.now c.args.atoms.now c.models.clauses c.add_conflicts.new.clauses (length c.args.atoms.now) c.in-Model.truths
    (subst (λ (a : Answer). IsRightAnswer (length c.args.atoms.now) c.models.clauses a) c.in-Model.is c.in_ok-solve.ensures.right)
    c.add_conflicts.ensures.extended
    (subst (λ (ts : List Bool). clauses_true (valuation_of ts) c.add_conflicts.new.clauses ≡ false) c.as_slice.ensures
    (c.in_ok-add_conflicts-in-Model.ensures.broken c.if-not-branch.false))
