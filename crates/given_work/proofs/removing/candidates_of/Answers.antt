use Rattle.std.proofs.Common.{◌≡◌, ◌++◌, List, ℕ, ap, sym, ◌∙◌, subst}
use Rattle.std.specs.Prelude.{Contains}
use Rattle.std.proofs.lemmas.List.Elements.{All-contains}
use Rattle.bank_clause.specs.Clause.{IsMemberOf, clause_at}
use Rattle.given_work.specs.Occurring.{numbers_by_unit}
use Rattle.given_work.specs.Store.{members_in}
use Rattle.given_work.proofs.AboutBatches.RemovalLemmas.{has-simplified}
use Rattle.given_work.proofs.AboutIndexes.TellingLemmas.{sets-of-bank}
use Rattle.given_work.proofs.removing.candidates_of.Goals as goal

pub backward-requires-clause-set : goal.backward-requires-clause-set
backward-requires-clause-set c =
    (sets-of-bank c.args.known.now.bank.now (members_in c.args.known.now.store.now.slots.items) c.args.known.now.sets.now c.requires.kept.of_bank c.requires.kept.kept).members

pub backward-requires-clause-by : goal.backward-requires-clause-by
backward-requires-clause-by c =
    All-contains (IsMemberOf c.args.known.now.bank.now) (members_in c.args.known.now.store.now.slots.items) c.args.given.now c.requires.kept.of_bank c.requires.given

pub push_by_unit-requires : goal.push_by_unit-requires
push_by_unit-requires c =
    All-contains (IsMemberOf c.args.known.now.bank.now) (members_in c.args.known.now.store.now.slots.items) c.args.given.now c.requires.kept.of_bank c.requires.given

pub returns : goal.returns
returns c =
    let ms = members_in c.args.known.now.store.now.slots.items in
    let es = c.args.known.now.store.now.terms in
    let by_unit : List ℕ = numbers_by_unit es (clause_at c.args.given.now.clause).literals in
    let all : c.from_vec.result ≡ c.in_ok-subsumed.subsumed ++ by_unit =
    c.from_vec.ensures ∙ c.in_ok-push_by_unit.ensures ∙ ap (λ (ns : List ℕ). ns ++ by_unit) c.into_vec-found.ensures in
    has-simplified ms c.args.known.now.sets.now es c.args.given.now c.in_ok-subsumed.subsumed c.in_order.result c.requires.kept.kept c.requires.kept.numbered
    c.requires.kept.listed c.requires.given c.in_ok-subsumed.ensures
    (λ n there. (c.in_order.ensures.same n).1 (subst (λ (ns : List ℕ). Contains ns n) (sym all) there))
