use Rattle.std.proofs.Common.{◌≡◌, ℕ, ◌+◌, ◌-◌, ◌<◌, length, get_or, drop, subst, arith}
use Rattle.std.proofs.lemmas.List.{get_or_default}
use Rattle.sort_checks.specs.declared.lent.LentEntry.{LentEntry}
use Rattle.sort_checks.specs.Lent.{body_lent, bodies_of}
use Rattle.sort_checks.specs.Tables.{HasSorts}
use Rattle.sort_checks.proofs.TableLemmas.{body-dropped, sorts-step}
use Rattle.sort_checks.proofs.table.sort_words.Goals as goal

pub loop-index-preserved : goal.loop-index-preserved
loop-index-preserved c =
    let entries = c.args.entries.now in
    let place : ℕ = c.loop-index.index - 1 in
    let below : place < length entries = omega (arith, c.loop-index.auto.index, c.loop-index-test.true) in
    let entry : LentEntry = get_or entries place c.index-entries-index.result in
    let back : c.loop-index.index ≡ place + 1 = omega (arith, c.loop-index-test.true) in
    sorts-step (bodies_of entries) place (body_lent entry.body) c.loop-index.sorts c.insert_sort.new.sorts
    (body-dropped (λ (e : LentEntry). body_lent e.body) entries place entry below
    (get_or_default entries place c.index-entries-index.result entry below))
    c.in_ok-insert_sort.ensures
    (subst (λ k. HasSorts (drop k (bodies_of entries)) c.loop-index.sorts) back c.loop-index.invariant)
