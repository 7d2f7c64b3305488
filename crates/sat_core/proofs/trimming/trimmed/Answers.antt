use Rattle.std.proofs.Common.{ℕ, arith, false, map, ap, sym, ◌∙◌}
use Rattle.std.proofs.lemmas.List.{get_or_read}
use Rattle.sat_core.specs.Known.{log_of}
use Rattle.sat_core.specs.Trimming.{new_number, new_link}
use Rattle.sat_core.proofs.AboutAnswers.TrimLemmas.{chains_length, trimmed_at, trimmed_passed, trimmed_all}
use Rattle.sat_core.proofs.AboutAnswers.UseLemmas.{lean_at, lean_passed, lean_all}
use Rattle.sat_core.proofs.trimming.trimmed.Goals as goal
use Rattle.sat_core.proofs.trimming.trimmed.Goals.{then-index+in_ok-renumbered+in_ok-push-2, else-index}

pub index-requires-then-index : goal.index-requires-then-index
index-requires-then-index c =
    let n = chains_length c.args.clauses.now.starts.items c.args.clauses.now.links c.requires.lined in
    omega (arith, n, c.in_ok-needed.ensures.count)

pub get-links-requires : goal.get-links-requires
get-links-requires c =
    let n = chains_length c.args.clauses.now.starts.items c.args.clauses.now.links c.requires.lined in
    omega (arith, n, c.in_ok-needed.ensures.count, c.requires.lined)

pub loop-index-preserved : goal.loop-index-preserved
loop-index-preserved c = record {
  found = λ right.
      elim c.if-index.branch [
        | then-index+in_ok-renumbered+in_ok-push-2 w ↦ rw w.log-is
            (trimmed_at c.args.clauses.now right c.in_ok-needed.needed.items c.loop-index.index _ _ c.loop-index.numbers.items _ _ c.loop-index.log.items _ _ _
            c.requires.lined c.in_ok-needed.ensures (omega arith)
            (sym (get_or_read c.in_ok-needed.needed.items c.loop-index.index c.index.result.now (omega arith) c.index.ensures false) ∙ w.if-index.true)
            (c.loop-index.invariant.found right) c.in_ok-push.ensures.items (omega (arith, c.len-in-loop-index.ensures, c.len-inputs.ensures.length)) w.as_slice.ensures.value
            w.index-then-index.ensures w.get-links.ensures (w.in_ok-renumbered.ensures.start
            ∙ ap (λ (n : ℕ). new_number n w.as_slice.result.now w.index-then-index.result.now) c.len-inputs.ensures.length)
            (w.in_ok-renumbered.ensures.links
            ∙ ap (λ (n : ℕ). map (new_link n w.as_slice.result.now) w.get-links.result.now) c.len-inputs.ensures.length) w.in_ok-push-2.ensures.items)
        | else-index w ↦ rw w.log-is
            (trimmed_passed _ right.made c.in_ok-needed.needed.items c.loop-index.index _ c.loop-index.numbers.items _ c.loop-index.log.items
            (c.loop-index.invariant.found right) c.in_ok-push.ensures.items
            (sym (get_or_read c.in_ok-needed.needed.items c.loop-index.index c.index.result.now (omega arith) c.index.ensures false) ∙ w.if-index.false))
      ];
  lean =
      elim c.if-index.branch [
        | then-index+in_ok-renumbered+in_ok-push-2 w ↦ rw w.log-is
            (lean_at c.args.clauses.now c.in_ok-needed.needed.items c.loop-index.index _ _ c.loop-index.numbers.items _ _ c.loop-index.log.items _ _ _
            c.requires.lined c.in_ok-needed.ensures (omega arith)
            (sym (get_or_read c.in_ok-needed.needed.items c.loop-index.index c.index.result.now (omega arith) c.index.ensures false) ∙ w.if-index.true)
            c.loop-index.invariant.lean c.in_ok-push.ensures.items (omega (arith, c.len-in-loop-index.ensures, c.len-inputs.ensures.length)) w.as_slice.ensures.value
            w.index-then-index.ensures w.get-links.ensures (w.in_ok-renumbered.ensures.start
            ∙ ap (λ (n : ℕ). new_number n w.as_slice.result.now w.index-then-index.result.now) c.len-inputs.ensures.length)
            (w.in_ok-renumbered.ensures.links
            ∙ ap (λ (n : ℕ). map (new_link n w.as_slice.result.now) w.get-links.result.now) c.len-inputs.ensures.length) w.in_ok-push-2.ensures.items)
        | else-index w ↦ rw w.log-is
            (lean_passed _ _ c.in_ok-needed.needed.items c.loop-index.index _ c.loop-index.numbers.items _ c.loop-index.log.items
            c.loop-index.invariant.lean (omega (arith, c.in_ok-needed.ensures.count)) c.in_ok-push.ensures.items
            (sym (get_or_read c.in_ok-needed.needed.items c.loop-index.index c.index.result.now (omega arith) c.index.ensures false) ∙ w.if-index.false))
      ];
}

pub returns-clause-right : goal.returns-clause-right
returns-clause-right c =
    rw c.from_vec.ensures
    (trimmed_all _ _ c.requires.log c.in_ok-needed.needed.items c.loop-index.index _ _ c.in_ok-needed.ensures (omega (arith, c.in_ok-needed.ensures.count)) (c.loop-index.invariant.found c.requires.log))

pub returns-clause-trimmed : goal.returns-clause-trimmed
returns-clause-trimmed c =
    rw c.from_vec.ensures
    (lean_all _ (log_of c.args.clauses.now) c.in_ok-needed.needed.items c.loop-index.index _ _ (omega (arith, c.in_ok-needed.ensures.count)) c.loop-index.invariant.lean)
