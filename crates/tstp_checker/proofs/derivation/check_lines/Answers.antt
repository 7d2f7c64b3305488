use Rattle.std.proofs.Common.{◌≤◌, ◌∙◌, length, subst, arith, ap}
use Rattle.tptp_token.specs.declared.token.Lexed.{Lexed}
use Rattle.tptp_token.specs.declared.limits.TheConstants.{MOST_TEXT_BYTES}
use Rattle.tstp_checker.specs.Lines.{setting_in, taken_in}
use Rattle.tstp_checker.specs.Checking.{IsTakenAt}
use Rattle.tstp_checker.proofs.AboutDerivations.CheckLemmas.{text-tokens-few, one-more, ended-accepted, ended-refused, fault-told, always}
use Rattle.tstp_checker.proofs.AboutDerivations.TakenLemmas.{named-length}
use Rattle.list_lemmas.proofs.Results.{err-passed}
use Rattle.tstp_checker.proofs.derivation.check_lines.Goals as goal

pub returns-in_err-next-clause-refused : goal.returns-in_err-next-clause-refused
returns-in_err-next-clause-refused c =
    let before = c.loop-next.lines in
    let many = ap (λ (x : Lexed). length x.tokens) c.requires.lexed in
    err-passed _ _ _ c.from_residual.ensures.1
    (fault-told c.args.text.now (setting_in c.args.lines.now) (setting_in before) c.loop-next.next (taken_in before) _ c.requires.form
    c.loop-next.invariant.setting (omega (arith, many, c.loop-next-test.true, c.len.ensures)) c.loop-next.invariant.taken c.in_err-next.ensures.refused)

pub loop-next-preserved : goal.loop-next-preserved
loop-next-preserved c =
    let before = c.loop-next.lines in
    let after = c.take_line.new.lines in
    let inv = c.loop-next.invariant in
    record {
      ready = c.in_ok-next.ensures.ready;
      setting = c.take_line.ensures.setting ∙ inv.setting;
      taken =
          one-more c.args.text.now (setting_in c.args.lines.now) c.loop-next.next c.in_ok-next.next (taken_in before) (taken_in after) inv.taken
          (subst (λ s. IsTakenAt c.args.text.now s c.loop-next.next (taken_in before) c.in_ok-next.next (taken_in after)) inv.setting
          c.in_ok-next.ensures.taken);
    }

pub ending-requires : goal.ending-requires
ending-requires c = record {
  few =
      omega
      (arith, c.loop-next.invariant.taken.few, c.loop-next.invariant.taken.within, text-tokens-few c.args.text.now, c.requires.small);
}

pub returns-clause-accepted : goal.returns-clause-accepted
returns-clause-accepted c =
    let left : length c.args.lexed.now.tokens ≤ c.loop-next.next = omega (arith, c.loop-next-test.false, c.len.ensures) in
    ended-accepted c.args.text.now c.args.lexed.now (setting_in c.args.lines.now) c.loop-next.next c.loop-next.lines.taken c.ending.result
    c.requires.lexed c.requires.form left c.loop-next.invariant.taken c.ending.ensures.accepted

pub returns-clause-few : goal.returns-clause-few
returns-clause-few c =
    let taken = c.loop-next.lines.taken in
    let few : length taken.lines ≤ MOST_TEXT_BYTES =
    omega (
      arith,
      named-length taken.names taken.lines,
      c.loop-next.invariant.taken.few,
      c.loop-next.invariant.taken.within,
      text-tokens-few c.args.text.now,
      c.requires.small,
    ) in
    always c.ending.result (λ _. length taken.lines ≤ MOST_TEXT_BYTES) (λ _. few)

pub returns-clause-refused : goal.returns-clause-refused
returns-clause-refused c =
    let left : length c.args.lexed.now.tokens ≤ c.loop-next.next = omega (arith, c.loop-next-test.false, c.len.ensures) in
    ended-refused c.args.text.now c.args.lexed.now (setting_in c.args.lines.now) c.loop-next.next (taken_in c.loop-next.lines) c.ending.result
    c.requires.lexed c.requires.form left c.loop-next.invariant.taken c.ending.ensures.refused
