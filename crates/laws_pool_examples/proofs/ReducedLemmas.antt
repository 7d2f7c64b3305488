-- What is kept of an inference is reduced: the batch is right for its job, by the history's lawfulness.
use Rattle.std.proofs.Common.{◌∷◌}
use Rattle.std.proofs.lemmas.List.Elements.{All-contains}
use Rattle.pool_history.specs.Batches.{IsRightFate}
use Rattle.pool_history.specs.Replay.{replay, start}
use Rattle.pool_history.specs.Record.{clauses_of}
use Rattle.pool_history.specs.declared.batch.Entry.{Entry}
use Rattle.pool_history.specs.declared.batch.Fate.TheVariants.{Kept}
use Rattle.pool_history.specs.declared.batch.Work.TheVariants.{Met}
use Rattle.pool_history.specs.declared.event.Event.TheVariants.{Return}
use Rattle.pool_history.proofs.AboutClaims.HistoryLemmas.{lawful-append}
use Rattle.laws_pool_examples.specs.Reduced.{KeptAreReduced}
use Rattle.laws_pool_examples.proofs.WorkedExamples.ReturnExamples.{said_of}

pub kept_are_reduced : KeptAreReduced
kept_are_reduced is_predicate origin history later job entries removals j key lines results lawful out there =
    let allowed =
    (lawful-append is_predicate origin.options history (Return (record { job = job; work = Met entries removals }) ∷ later) (start origin) lawful).1.0 in
    let taken = said_of (replay origin history) job _ j out allowed in
    let right =
    All-contains (λ (e : Entry). IsRightFate is_predicate origin.options (clauses_of (replay origin history)) j e.key e.fate) entries
    (record { key = key; fate = Kept lines results }) taken.2.right_entries there in
    record { result = right.result; reduced = right.irreducible; given = right.given }
