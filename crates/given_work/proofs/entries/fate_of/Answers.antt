use Rattle.std.proofs.Common.{ℕ, Option, refl, sym, ◌∙◌, subst}
use Rattle.literal_selection.specs.Mode.{mode_of}
use Rattle.demodulate.specs.Simplified.{IsSimplified}
use Rattle.fol_base.specs.Literal.{clause_of}
use Rattle.pool_history.specs.declared.batch.Fate.TheVariants.{Dropped}
use Rattle.given_work.specs.Dropped.{outcome_by}
use Rattle.given_work.proofs.AboutBatches.DroppedLemmas.{cause-right, dropped-fate}
use Rattle.given_work.proofs.AboutBatches.EntryLemmas.{conclusion-small, conclusion-sorted, outcome-right}
use Rattle.given_work.proofs.entries.fate_of.Goals as goal

pub simplify-requires-clause-canonical : goal.simplify-requires-clause-canonical
simplify-requires-clause-canonical c = c.requires.concluded.concluded.numbered

pub simplify-requires-clause-names : goal.simplify-requires-clause-names
simplify-requires-clause-names c =
    let t = c.requires.concluded in
    let by = c.args.by.now in
    conclusion-sorted t.usage t.mode t.clauses t.job by.equations.now by.units.now by.members.now t.sets t.key c.args.step c.args.clause t.concluded

pub simplify-requires-clause-size : goal.simplify-requires-clause-size
simplify-requires-clause-size c =
    let t = c.requires.concluded in
    let by = c.args.by.now in
    conclusion-small t.usage t.mode t.clauses t.job by.equations.now by.units.now by.members.now t.sets t.key c.args.step c.args.clause t.concluded

pub returns-in-Some-clause-fate : goal.returns-in-Some-clause-fate
returns-in-Some-clause-fate c = λ usage options clauses j key sets splits it.
    let by = c.args.by.now in
    outcome-right usage (mode_of options.select) clauses j by.equations.now by.units.now by.members.now sets key c.args.step c.args.clause it options c.args.split splits refl
    (outcome_by c.in-Some.cause)
    (cause-right by.equations.now by.units.now by.members.now c.args.dropped.now (clause_of c.args.clause) c.in-Some.cause c.requires.dropped
    (sym c.cause.ensures ∙ c.in-Some.is))
    (Dropped c.in-Some.cause) (dropped-fate c.args.split c.args.step c.args.clause c.in-Some.cause)

pub returns-in_ok-fate-in-None-clause-fate : goal.returns-in_ok-fate-in-None-clause-fate
returns-in_ok-fate-in-None-clause-fate c = λ usage options clauses j key sets splits it.
    let by = c.args.by.now in
    outcome-right usage (mode_of options.select) clauses j by.equations.now by.units.now by.members.now sets key c.args.step c.args.clause it options c.args.split splits refl
    c.in_ok-outcome-in-None.outcome
    (subst (λ (o : Option ℕ). IsSimplified by.equations.now by.units.now by.members.now o (clause_of c.args.clause) c.in_ok-outcome-in-None.outcome)
    c.requires.all c.in_ok-outcome-in-None.ensures.outcome)
    c.in_ok-fate-in-None.fate c.in_ok-fate-in-None.ensures.fate

pub returns-in_ok-fate-in-None-clause-dropped : goal.returns-in_ok-fate-in-None-clause-dropped
returns-in_ok-fate-in-None-clause-dropped c =
    let by = c.args.by.now in
    c.in_ok-fate-in-None.ensures.dropped by.equations.now by.units.now by.members.now c.requires.dropped
    (subst (λ (o : Option ℕ). IsSimplified by.equations.now by.units.now by.members.now o (clause_of c.args.clause) c.in_ok-outcome-in-None.outcome)
    c.requires.all c.in_ok-outcome-in-None.ensures.outcome)
