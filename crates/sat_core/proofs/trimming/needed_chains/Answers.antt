use Rattle.std.proofs.Common.{arith, false, rules, sym, ◌∙◌}
use Rattle.std.proofs.lemmas.List.{get_or_read}
use Rattle.sat_core.proofs.AboutAnswers.TrimLemmas.{chains_length, needed_begun, needed_none, needed_marked}
use Rattle.sat_core.proofs.AboutAnswers.UseLemmas.{all_false, used_begun, used_none, used_marked, needed_all}
use Rattle.sat_core.proofs.trimming.needed_chains.Goals as goal
use Rattle.sat_core.proofs.trimming.needed_chains.Goals.{then-count-gt0, else-count-gt0}

pub loop-index-init : goal.loop-index-init
loop-index-init c =
    let n = chains_length c.args.clauses.now.starts.items c.args.clauses.now.links c.requires.lined in
    elim c.if-count-gt0.branch [
      | then-count-gt0 w ↦ rw w.needed-is (record {
        bound = omega (arith, c.len-count.ensures);
        needed = needed_begun _ _ c.in_ok-needed.needed.items c.len-count.result (omega (arith, n, c.len-count.ensures)) (omega (arith, c.in_ok-needed.ensures.len));
        used = used_begun _ _ c.in_ok-needed.needed.items c.len-count.result (omega (arith, n, c.len-count.ensures)) (all_false c.len-count.result c.in_ok-needed.needed.items (c.in_ok-needed.ensures.items_if_clones_equal (λ y h. search rules)) (omega (arith, c.in_ok-needed.ensures.len)));
      })
      | else-count-gt0 w ↦ rw w.needed-is (record {
        bound = omega (arith, c.len-count.ensures);
        needed = needed_none _ _ c.in_ok-needed.needed.items c.len-count.result (omega (arith, n, c.len-count.ensures)) (omega (arith, w.if-count-gt0.false)) (omega (arith, c.in_ok-needed.ensures.len));
        used = used_none _ _ c.in_ok-needed.needed.items c.len-count.result (omega (arith, n, c.len-count.ensures)) (omega (arith, w.if-count-gt0.false));
      })
    ]

pub loop-index-preserved-then-index : goal.loop-index-preserved-then-index
loop-index-preserved-then-index c =
    let n = chains_length c.args.clauses.now.starts.items c.args.clauses.now.links c.requires.lined in
    record {
      bound = omega (arith, c.loop-index.invariant.bound);
      needed = needed_marked _ _ c.loop-index.needed.items _ _ _ (omega arith) c.loop-index.invariant.needed c.mark_cited.ensures.length c.mark_cited.ensures.marks;
      used =
          used_marked _ _ c.loop-index.needed.items _ _ (omega (arith, n, c.loop-index.invariant.bound))
          (sym (get_or_read c.loop-index.needed.items _ c.index.result.now (omega (arith, n, c.loop-index.invariant.bound, c.loop-index.invariant.needed.count)) c.index.ensures false) ∙ c.if-index.true)
          c.loop-index.invariant.used c.mark_cited.ensures.marks;
    }

pub index-requires : goal.index-requires
index-requires c =
    let n = chains_length c.args.clauses.now.starts.items c.args.clauses.now.links c.requires.lined in
    omega (arith, n, c.loop-index.invariant.bound, c.loop-index.invariant.needed.count)

pub mark_cited-requires-clause-needed : goal.mark_cited-requires-clause-needed
mark_cited-requires-clause-needed c =
    let n = chains_length c.args.clauses.now.starts.items c.args.clauses.now.links c.requires.lined in
    omega (arith, n, c.loop-index.invariant.bound, c.loop-index.invariant.needed.count)

pub returns : goal.returns
returns c = needed_all _ _ _ _ (omega arith) c.loop-index.invariant.needed c.loop-index.invariant.used
