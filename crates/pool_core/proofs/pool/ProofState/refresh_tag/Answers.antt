use Rattle.std.proofs.Common.{◌≡◌, ℕ, suc, ◌-◌, ◌<◌, List, length, get_or, refl, ap, sym, ◌∙◌, subst, arith}
use Rattle.std.specs.Prelude.{slice_get}
use Rattle.pool_core.specs.Asserting.{tags_in}
use Rattle.pool_core.specs.Placing.{with_queue}
use Rattle.clause_register.specs.Chained.{newest_below}
use Rattle.pool_core.specs.Waking.{AreLookedAt, AssertsNoneFrom, looked_at}
use Rattle.pool_core.specs.declared.tag_index.Assertion.{Assertion}
use Rattle.pool_core.specs.declared.pool.ProofState.{ProofState}
use Rattle.pool_history.proofs.AboutRecords.ItemLemmas.{item-at}
use Rattle.pool_core.proofs.AboutWaking.AwakeLemmas.{asserts-there}
use Rattle.pool_core.proofs.AboutWaking.RefreshLemmas.{nodes-stay, rest-stays}
use Rattle.pool_core.proofs.AboutWaking.TagLemmas.{IsLink, looks-begin, link-begin, link-within, link-falls, link-on, looks-on, looks-end}
use Rattle.pool_core.proofs.pool.ProofState.refresh_tag.Goals as goal

pub loop-next-init : goal.loop-next-init
loop-next-init c = record {
  came = λ bank table awake r is. (awake, is, looks-begin r c.args.self.now.asserting.entries c.args.tag awake c.newest_of-next.result c.newest_of-next.ensures);
  link = link-begin (c.requires.told).3 c.args.self.now.asserting.entries c.args.tag c.newest_of-next.result c.newest_of-next.ensures;
  nodes = refl;
  rest = refl;
}

pub number_at-number-requires : goal.number_at-number-requires
number_at-number-requires c =
    let within = link-within (c.requires.told).3 c.args.self.now.asserting.entries c.args.tag c.loop-next.next c.loop-next.invariant.link in
    let same = ap (λ (s : ProofState). length s.asserting.entries) c.loop-next.invariant.rest in
    omega (arith, within, same, c.loop-next-test.true)

pub refresh-requires-clause-told : goal.refresh-requires-clause-told
refresh-requires-clause-told c =
    let told = c.requires.told in
    let came = c.loop-next.invariant.came told.0 told.1 told.2 told.3 told.4 in
    (told.0, told.1, came.0, told.3, came.1)

pub refresh-requires-clause-there : goal.refresh-requires-clause-there
refresh-requires-clause-there c =
    let told = c.requires.told in
    let came = c.loop-next.invariant.came told.0 told.1 told.2 told.3 told.4 in
    let same = ap (λ (s : ProofState). length s.asserting.entries) c.loop-next.invariant.rest in
    let within = link-within told.3 c.args.self.now.asserting.entries c.args.tag c.loop-next.next c.loop-next.invariant.link in
    let item = item-at c.loop-next.self.asserting.entries (c.loop-next.next - 1) (omega (arith, within, same, c.loop-next-test.true)) in
    subst (λ (n : ℕ). n < length c.loop-next.self.register.clauses) (sym (c.number_at-number.ensures item.0 item.1))
    (asserts-there told.0 told.1 (with_queue _ c.loop-next.self) told.3 came.1.proof (c.loop-next.next - 1) item.0 item.1)

pub refresh-requires-clause-nodes : goal.refresh-requires-clause-nodes
refresh-requires-clause-nodes c =
    nodes-stay c.args.self.now c.loop-next.self c.loop-next.invariant.rest c.loop-next.invariant.nodes c.requires.nodes

pub older_than-next-requires : goal.older_than-next-requires
older_than-next-requires c =
    let within = link-within (c.requires.told).3 c.args.self.now.asserting.entries c.args.tag c.loop-next.next c.loop-next.invariant.link in
    let same = ap (λ (s : ProofState). length s.asserting.entries) c.loop-next.invariant.rest in
    let kept = ap (λ (s : ProofState). length s.asserting.entries) c.refresh.ensures.rest in
    omega (arith, within, same, kept, c.loop-next-test.true)

pub loop-next-smaller : goal.loop-next-smaller
loop-next-smaller c =
    let falls =
    link-falls (c.requires.told).3 c.refresh.new.self.asserting.entries c.args.tag (c.loop-next.next - 1) c.older_than-next.result c.older_than-next.ensures in
    omega (arith, falls, c.loop-next-test.true)

pub loop-next-preserved : goal.loop-next-preserved
loop-next-preserved c =
    let inv = c.loop-next.invariant in
    let told = c.requires.told in
    let more : c.loop-next.next ≡ suc (c.loop-next.next - 1) = omega (arith, c.loop-next-test.true) in
    let same : c.loop-next.self.asserting.entries ≡ c.args.self.now.asserting.entries = ap (λ (s : ProofState). s.asserting.entries) inv.rest in
    let kept : c.refresh.new.self.asserting.entries ≡ c.args.self.now.asserting.entries = ap (λ (s : ProofState). s.asserting.entries) c.refresh.ensures.rest ∙ same in
    let within = link-within told.3 c.args.self.now.asserting.entries c.args.tag c.loop-next.next inv.link in
    let place : ℕ = c.loop-next.next - 1 in
    let item = item-at c.args.self.now.asserting.entries place (omega (arith, within, c.loop-next-test.true)) in
    let number : c.number_at-number.result ≡ item.0.number =
    c.number_at-number.ensures item.0 (ap (λ es. slice_get es place) same ∙ item.1) in
    let older = subst (λ (es : List Assertion). c.older_than-next.result ≡ newest_below (get_or (tags_in es) place 0) (tags_in es) place) kept c.older_than-next.ensures in
    let link = subst (IsLink c.args.tag c.args.self.now.asserting.entries) more inv.link in
    record {
      came = λ bank table awake r is.
          let was = inv.came bank table awake r is in (
            looked_at r c.number_at-number.result was.0,
            c.refresh.ensures.refreshed bank table was.0 r was.1,
            looks-on r c.args.self.now.asserting.entries c.args.tag awake was.0 place c.older_than-next.result c.number_at-number.result item.0 link item.1 number older
                (subst (λ k. AreLookedAt r awake was.0 (AssertsNoneFrom k c.args.self.now.asserting.entries c.args.tag)) more was.2),
          );
      link = link-on told.3 c.args.self.now.asserting.entries c.args.tag place c.older_than-next.result link (omega (arith, within, c.loop-next-test.true)) older;
      nodes = c.refresh.ensures.nodes ∙ inv.nodes;
      rest = rest-stays c.args.self.now c.loop-next.self c.refresh.new.self inv.rest c.refresh.ensures.rest;
    }

pub returns-clause-refreshed : goal.returns-clause-refreshed
returns-clause-refreshed c = λ bank table awake r is.
    let was = c.loop-next.invariant.came bank table awake r is in
    (was.0, was.1, looks-end r c.args.self.now.asserting.entries c.args.tag awake was.0 c.loop-next.next c.loop-next-test.false was.2)
