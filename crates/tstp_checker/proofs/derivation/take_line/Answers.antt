use Rattle.std.proofs.Common.{ap, length, arith}
use Rattle.tptp_token.specs.declared.token.Lexed.{Lexed}
use Rattle.tstp_checker.proofs.AboutDerivations.CheckLemmas.{text-tokens-few}
use Rattle.tstp_checker.proofs.derivation.take_line.Goals as goal

-- a text has at most one token for each byte, so the lines are few enough

pub overflow_cast-number : goal.overflow_cast-number
overflow_cast-number c = omega (arith, text-tokens-few c.args.text.now, ap (λ (x : Lexed). length x.tokens) c.requires.lexed)

pub overflow_add-number : goal.overflow_add-number
overflow_add-number c = omega (arith, text-tokens-few c.args.text.now, ap (λ (x : Lexed). length x.tokens) c.requires.lexed)
