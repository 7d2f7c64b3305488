use Rattle.std.proofs.Common.{◌≡◌, take, option_map, [], ap, ◌∙◌}
use Rattle.typed_problem.specs.SortFaults.{body_causes, first_fault}
use Rattle.sort_checks.specs.Lent.{body_lent, declared_among}
use Rattle.sort_checks.specs.Tables.{place_told}
use Rattle.sort_checks.proofs.FaultLemmas.{fault-told, none-left, found-left}
use Rattle.sort_checks.proofs.faults.sort_fault.Goals as goal

pub returns-in-Some-clause-fault : goal.returns-in-Some-clause-fault
returns-in-Some-clause-fault c =
    let entry = c.index-entries-index.result in
    let table = c.in_ok-table.table in
    let causes = c.in_ok-causes.causes.items in
    let caused : causes ≡ body_causes (declared_among table) (declared_among (take c.loop-index.index table)) (body_lent entry.body) =
    c.in_ok-causes.ensures in
    let told : option_map place_told c.first_cause.result ≡ first_fault [] causes entry.places.now =
    c.first_cause.ensures ∙ ap (λ cs. first_fault [] cs entry.places.now) c.as_slice.ensures.value in
    λ es h.
    found-left es c.args.entries.now c.loop-index.index entry (place_told (c.in-Some.cause, c.in-Some.place)) h c.loop-index-test.true c.index-entries-index.is
    (fault-told c.args.entries.now c.loop-index.index entry table causes c.first_cause.result c.in_ok-table.ensures caused told
    ∙ ap (option_map place_told) c.in-Some.is)
    (c.loop-index.invariant es h)

pub loop-index-preserved : goal.loop-index-preserved
loop-index-preserved c =
    let entry = c.index-entries-index.result in
    let table = c.in_ok-table.table in
    let causes = c.in_ok-causes.causes.items in
    let caused : causes ≡ body_causes (declared_among table) (declared_among (take c.loop-index.index table)) (body_lent entry.body) =
    c.in_ok-causes.ensures in
    let told : option_map place_told c.first_cause.result ≡ first_fault [] causes entry.places.now =
    c.first_cause.ensures ∙ ap (λ cs. first_fault [] cs entry.places.now) c.as_slice.ensures.value in
    λ es h.
    none-left es c.args.entries.now c.loop-index.index entry h c.loop-index-test.true c.index-entries-index.is
    (fault-told c.args.entries.now c.loop-index.index entry table causes c.first_cause.result c.in_ok-table.ensures caused told
    ∙ ap (option_map place_told) c.in_default.is)
    (c.loop-index.invariant es h)
