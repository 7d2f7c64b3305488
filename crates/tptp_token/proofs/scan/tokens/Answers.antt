use Rattle.std.proofs.Common.{◌≡◌, ◌-◌, length, sym, ap, ◌∙◌, arith}
use Rattle.tptp_token.specs.Lexing.{lexed_from}
use Rattle.tptp_token.proofs.AboutTexts.PieceLemmas.{after, start, token-next, space-next, bad-last, unclosed-last, end-last}
use Rattle.tptp_token.proofs.AboutLexemes.WordLemmas.{length-suffix}
use Rattle.list_lemmas.proofs.Places.{take-rest}
use Rattle.tptp_token.proofs.scan.tokens.Goals as goal

pub loop-first-init : goal.loop-first-init
loop-first-init c =
    let none : 0 ≡ length c.args.bytes.now - length c.args.bytes.now = omega arith in
    record {
      within = omega arith;
      whole =
          start c.args.bytes.now ∙ ap (λ ts. after ts (lexed_from 0 0 c.args.bytes.now)) (sym c.new-tokens.ensures)
          ∙ ap (λ p. after c.new-tokens.result (lexed_from p 0 c.args.bytes.now)) none;
    }

pub loop-first-preserved-in-Token : goal.loop-first-preserved-in-Token
loop-first-preserved-in-Token c =
    let long = length-suffix c.loop-first.rest.now c.in-Token.length in
    let size = ap length c.in-Some.ensures.cases.0 in
    record {
      within = omega (arith, long, c.loop-first.invariant.within);
      whole =
          token-next _ _ _ _ _ _ _ _ _ c.in-Token.kind c.in-Token.length c.loop-first.invariant.whole c.in-Some.ensures.cases.0
          c.in-Token.ensures.piece c.in-Token.ensures.within.0 c.in-Token.ensures.within.1 c.in_ok-push-in-Token.ensures.ok
          (take-rest c.loop-first.rest.now c.in-Token.length)
          (omega (arith, long, size, c.loop-first.invariant.within, c.in-Token.ensures.within.1));
    }

pub loop-first-preserved : goal.loop-first-preserved
loop-first-preserved c =
    let long = length-suffix c.loop-first.rest.now c.in-Space.length in
    let size = ap length c.in-Some.ensures.cases.0 in
    record {
      within = omega (arith, long, c.loop-first.invariant.within);
      whole =
          space-next _ _ _ _ _ _ _ _ c.in-Space.length c.loop-first.invariant.whole c.in-Some.ensures.cases.0
          c.in-Space.ensures.piece c.in-Space.ensures.within.0 c.in-Space.ensures.within.1
          (take-rest c.loop-first.rest.now c.in-Space.length)
          (omega (arith, long, size, c.loop-first.invariant.within, c.in-Space.ensures.within.1));
    }

pub returns-in-Bad : goal.returns-in-Bad
returns-in-Bad c =
    bad-last _ _ _ _ _ _ _ c.loop-first.invariant.whole c.in-Some.ensures.cases.0 c.in-Bad.ensures.piece

pub returns-in-Unclosed : goal.returns-in-Unclosed
returns-in-Unclosed c =
    unclosed-last _ _ _ _ _ _ c.loop-first.invariant.whole c.in-Some.ensures.cases.0 c.in-Unclosed.ensures.piece

pub returns : goal.returns
returns c = end-last _ _ _ _ c.loop-first.invariant.whole c.in_default.ensures.cases
