use Rattle.std.proofs.Common.{◌≡◌, ℕ, suc, ◌+◌, List, length, refl, ap, sym, subst, arith}
use Rattle.std.specs.Vec.Iter.{into_iter_items}
use Rattle.pool_core.specs.State.{HasPlaces}
use Rattle.pool_core.specs.declared.parts.InternedPart.{InternedPart}
use Rattle.pool_core.proofs.AboutReturns.ArrivalLemmas.{nothing-left}
use Rattle.pool_core.proofs.AboutReturns.WholeComingLemmas.{ArePartsSoFar, all-parts-came, fewer-places, next-part, one-part-came, parts-begin, rest-then, tag-left}
use Rattle.pool_core.proofs.pool.ProofState.register_parts.Goals as goal

pub loop-part-init : goal.loop-part-init
loop-part-init c =
    let same : into_iter_items c.into_iter-part-iterator.result ≡ c.args.parts.items = c.into_iter-part-iterator.ensures.into_iter_gives.0 in
    record {
      so_far =
          parts-begin c.args.bank.now c.args.self.now c.args.parts.items c.args.tags.items (into_iter_items c.into_iter-part-iterator.result)
          (into_iter_items c.into_iter-tags.result) same c.into_iter-tags.ensures.rest;
      room = λ clauses assertions enough.
          subst (λ (xs : List InternedPart). HasPlaces c.args.self.now (length xs + clauses) (length xs + assertions)) (sym same) enough;
      rest = refl;
    }

pub unreachable-requires : goal.unreachable-requires
unreachable-requires c =
    let told = c.requires.told in
    tag-left c.args.bank.now c.args.self.now c.args.parts.items c.args.tags.items c.loop-part.self c.in-Some.part (into_iter_items c.next.new.self)
    (into_iter_items c.loop-part.tags)
    (subst (λ (xs : List InternedPart). ArePartsSoFar c.args.bank.now c.args.self.now c.args.parts.items c.args.tags.items c.loop-part.self xs (into_iter_items c.loop-part.tags))
    c.in-Some.ensures.steps.0 c.loop-part.invariant.so_far)
    told.0 told.1 told.2 told.3 told.4 told.5 told.6
    (omega (arith, c.in_default.ensures.cases.0, c.loop-part.tags.rest.ok.0))

pub part_comes-requires-clause-told : goal.part_comes-requires-clause-told
part_comes-requires-clause-told c =
    let told = c.requires.told in
    let found =
    next-part c.args.bank.now c.args.self.now c.args.parts.items c.args.tags.items c.loop-part.self c.in-Some.part (into_iter_items c.next.new.self)
    (into_iter_items c.loop-part.tags)
    (subst (λ (xs : List InternedPart). ArePartsSoFar c.args.bank.now c.args.self.now c.args.parts.items c.args.tags.items c.loop-part.self xs (into_iter_items c.loop-part.tags))
    c.in-Some.ensures.steps.0 c.loop-part.invariant.so_far)
    told.0 told.1 told.2 c.in-Some-next.tag (into_iter_items c.next-in-loop-part.new.self) told.3 told.4 told.5 told.6 c.in-Some-next.ensures.items in
    (told.0, found.0, found.1, found.3, found.4, found.5, found.6)

pub part_comes-requires-clause-room : goal.part_comes-requires-clause-room
part_comes-requires-clause-room c =
    let left : length (into_iter_items c.loop-part.part-iterator) ≡ suc (length (into_iter_items c.next.new.self)) = ap length c.in-Some.ensures.steps.0 in
    let room = c.loop-part.invariant.room 0 0 (fewer-places c.args.self.now (length c.args.parts.items) (length c.args.parts.items) (length c.args.parts.items + 0) (length c.args.parts.items + 0) (omega arith) (omega arith) c.requires.room) in
    fewer-places c.loop-part.self (length (into_iter_items c.loop-part.part-iterator) + 0) (length (into_iter_items c.loop-part.part-iterator) + 0) 1 1
    (omega (arith, left)) (omega (arith, left)) room

pub loop-part-preserved : goal.loop-part-preserved
loop-part-preserved c =
    let left : length (into_iter_items c.loop-part.part-iterator) ≡ suc (length (into_iter_items c.next.new.self)) = ap length c.in-Some.ensures.steps.0 in
    record {
      so_far =
          one-part-came c.args.bank.now c.args.self.now c.args.parts.items c.args.tags.items c.loop-part.self c.in-Some.part (into_iter_items c.next.new.self)
          (into_iter_items c.loop-part.tags)
          (subst (λ (xs : List InternedPart). ArePartsSoFar c.args.bank.now c.args.self.now c.args.parts.items c.args.tags.items c.loop-part.self xs (into_iter_items c.loop-part.tags))
          c.in-Some.ensures.steps.0 c.loop-part.invariant.so_far)
          c.part_comes.new.self c.in-Some-next.tag (into_iter_items c.next-in-loop-part.new.self) c.in-Some-next.ensures.items c.part_comes.ensures.registered;
      room = λ clauses assertions enough.
          let rest : ℕ = length (into_iter_items c.next.new.self) in
          let many : ℕ = length (into_iter_items c.loop-part.part-iterator) in
          c.part_comes.ensures.room (rest + clauses) (rest + assertions)
          (fewer-places c.loop-part.self (many + clauses) (many + assertions) (suc (rest + clauses)) (suc (rest + assertions)) (omega (arith, left)) (omega (arith, left))
          (c.loop-part.invariant.room clauses assertions enough));
      rest = rest-then c.args.self.now c.loop-part.self c.part_comes.new.self c.loop-part.invariant.rest c.part_comes.ensures.rest;
    }

pub returns-clause-registered : goal.returns-clause-registered
returns-clause-registered c = λ table r lss are met tags is.
    all-parts-came c.args.bank.now c.args.self.now c.args.parts.items c.args.tags.items c.loop-part.self (into_iter_items c.loop-part.part-iterator) (into_iter_items c.loop-part.tags)
    (nothing-left (into_iter_items c.loop-part.part-iterator) (omega (arith, c.in-None.ensures.steps.0, c.loop-part.part-iterator.rest.ok.0)))
    c.loop-part.invariant.so_far table r lss are met tags is

pub returns-clause-room : goal.returns-clause-room
returns-clause-room c = λ clauses assertions enough.
    let many : ℕ = length (into_iter_items c.loop-part.part-iterator) in
    fewer-places c.loop-part.self (many + clauses) (many + assertions) clauses assertions (omega arith) (omega arith) (c.loop-part.invariant.room clauses assertions enough)

pub returns-clause-rest : goal.returns-clause-rest
returns-clause-rest c = c.loop-part.invariant.rest
