use Rattle.std.proofs.Common.{sym, subst}
use Rattle.signature.specs.Symbol.{IsSignature}
use Rattle.signature.proofs.SignatureLemmas.{signature-fewer}
use Rattle.signature.proofs.signature.Signature.truncate.Goals as goal

pub invariant_of-self : goal.invariant_of-self
invariant_of-self c = subst IsSignature (sym c.truncate.ensures.keys) (signature-fewer _ _ c.requires c.self.invariant)
