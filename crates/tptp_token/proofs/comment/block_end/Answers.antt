use Rattle.std.proofs.Common.{◌≡◌, ◌+◌, ◌-◌, ◌==◌, Some, suc, get_or, drop, sym, ap, ◌∙◌, arith, eq-eqb, ne_eqb}
use Rattle.std.proofs.lemmas.Bool.{and_left, and_right}
use Rattle.tptp_token.specs.Pieces.{block_end}
use Rattle.tptp_token.proofs.AboutTexts.PieceLemmas.{later, later-none, block-found, block-later, block-last}
use Rattle.tptp_token.proofs.comment.block_end.Goals as goal
use Rattle.tptp_token.proofs.comment.block_end.Goals.{else-bytes-at-eq42-via-then-bytes-at-eq42+else-bytes-at-eq47, else-bytes-at-eq42-via-else-bytes-at-eq42}

pub loop-at-init : goal.loop-at-init
loop-at-init c = later-none (block_end c.args.bytes.now)

pub returns-then-bytes-at-eq47-clause-found : goal.returns-then-bytes-at-eq47-clause-found
returns-then-bytes-at-eq47-clause-found c =
    let k : suc (c.loop-at.at - 1) ≡ c.loop-at.at = omega arith in
    let found =
    block-found c.args.bytes.now (c.loop-at.at - 1) (omega (arith, k)) (eq-eqb _ 42 c.if-bytes-at-eq42.true)
    (eq-eqb _ 47 (ap (λ i. get_or c.args.bytes.now i 0) k ∙ c.if-bytes-at-eq47.true)) in
    let same : c.loop-at.at + 1 ≡ 2 + (c.loop-at.at - 1) = omega arith in
    ap Some same ∙ ap (later (c.loop-at.at - 1)) (sym found) ∙ sym c.loop-at.invariant

pub loop-at-preserved : goal.loop-at-preserved
loop-at-preserved c =
    let k : suc (c.loop-at.at - 1) ≡ c.loop-at.at = omega arith in
    let k2 : suc (c.loop-at.at - 1) ≡ c.loop-at.at + 1 - 1 = omega arith in
    let kept =
    block-later c.args.bytes.now (c.loop-at.at - 1) (block_end c.args.bytes.now) (omega (arith, k))
    (elim c.else-bytes-at-eq42.branch [
      | else-bytes-at-eq42-via-then-bytes-at-eq42+else-bytes-at-eq47 w ↦
          and_right (get_or c.args.bytes.now (c.loop-at.at - 1) 0 == 42) _
          (ap (λ i. get_or c.args.bytes.now i 0 == 47) k ∙ ne_eqb _ 47 w.if-bytes-at-eq47.false)
      | else-bytes-at-eq42-via-else-bytes-at-eq42 w ↦
          and_left (get_or c.args.bytes.now (c.loop-at.at - 1) 0 == 42) _ (ne_eqb _ 42 w.if-bytes-at-eq42.false)
    ]) c.loop-at.invariant in
    kept ∙ ap (λ i. later i (block_end (drop i c.args.bytes.now))) k2

pub returns-clause-found : goal.returns-clause-found
returns-clause-found c =
    sym (c.loop-at.invariant ∙ ap (later (c.loop-at.at - 1)) (block-last c.args.bytes.now (c.loop-at.at - 1) (omega arith)))
