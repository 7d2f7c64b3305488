use Rattle.std.proofs.Common.{sym, arith}
use Rattle.signature.proofs.SignatureLemmas.{signature-inserted, number-new}
use Rattle.signature.proofs.signature.Signature.add.Goals as goal

pub invariant_of-self-2 : goal.invariant_of-self-2
invariant_of-self-2 c =
    signature-inserted _ _ _ c.args.symbol (sym c.self.view_is) c.in_ok-place.ensures.keys c.self.invariant c.requires.new (omega (arith, c.if-len-from.false, c.len.ensures.value, c.from.ensures))

pub returns-clause-number : goal.returns-clause-number
returns-clause-number c = number-new _ _ c.args.symbol _ (sym c.self.view_is) c.in_ok-place.ensures.index c.requires.new
