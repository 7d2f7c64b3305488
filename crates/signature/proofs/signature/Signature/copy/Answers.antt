use Rattle.std.proofs.Common.{sym, subst}
use Rattle.signature.specs.Symbol.{IsSignature}
use Rattle.signature.proofs.SignatureLemmas.{copy-begins}
use Rattle.signature.proofs.signature.Signature.copy.Goals as goal

pub loop-symbol-init : goal.loop-symbol-init
loop-symbol-init c =
    copy-begins _ _ c.in_ok-symbols.ensures.empty (subst IsSignature (sym c.as_slice-symbol-items.ensures.keys) c.self.invariant)
