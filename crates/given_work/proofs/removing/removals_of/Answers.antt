use Rattle.std.proofs.Common.{[], List, ℕ, take, get_or, sym, ◌∙◌, subst, arith}
use Rattle.std.proofs.lemmas.List.{take_all, take_more}
use Rattle.pool_history.specs.declared.batch.Removal.{Removal}
use Rattle.given_work.specs.Removing.{AreRemovalsAmong, AreRemovalsOf}
use Rattle.given_work.specs.Store.{members_in}
use Rattle.given_work.proofs.AboutBatches.RemovalLemmas.{none-removed, removal-more, removals-all}
use Rattle.given_work.proofs.removing.removals_of.Goals as goal

pub loop-candidate-init : goal.loop-candidate-init
loop-candidate-init c =
    subst (λ (rs : List Removal). AreRemovalsAmong c.args.known.now.split (members_in c.args.known.now.store.now.slots.items) c.args.given.now [] rs) (sym c.new-removals.ensures.items)
    (none-removed c.args.known.now.split (members_in c.args.known.now.store.now.slots.items) c.args.given.now)

pub loop-candidate-preserved : goal.loop-candidate-preserved
loop-candidate-preserved c =
    let ms = members_in c.args.known.now.store.now.slots.items in
    let items = c.as_slice-candidate-items.result.now in
    let i = c.loop-candidate.candidate-index in
    let x = get_or items i 0 in
    subst (λ (ns : List ℕ). AreRemovalsAmong c.args.known.now.split ms c.args.given.now ns c.consider.new.removals.items) (sym (take_more items i 0 c.loop-candidate-test.true))
    (removal-more c.args.known.now.split ms c.args.known.now.sets.now c.args.given.now (take i items) x c.loop-candidate.removals.items c.consider.new.removals.items
    c.requires.kept.kept c.requires.kept.numbered c.requires.given c.in_ok-consider.ensures c.loop-candidate.invariant)

pub returns : goal.returns
returns c =
    let ms = members_in c.args.known.now.store.now.slots.items in
    let items = c.as_slice-candidate-items.result.now in
    subst (λ (rs : List Removal). AreRemovalsOf c.args.known.now.split ms c.args.given.now rs) (sym c.from_vec.ensures)
    (removals-all c.args.known.now.split ms c.args.given.now c.in_ok-candidates.candidates c.loop-candidate.removals.items c.in_ok-candidates.ensures
    (subst (λ (ns : List ℕ). AreRemovalsAmong c.args.known.now.split ms c.args.given.now ns c.loop-candidate.removals.items)
    (take_all c.loop-candidate.candidate-index items (omega arith) ∙ c.as_slice-candidate-items.ensures) c.loop-candidate.invariant))
