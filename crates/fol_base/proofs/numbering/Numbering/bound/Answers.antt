use Rattle.std.proofs.Common.{◌∷◌, [], take, get_or, ap, ◌∙◌, arith}
use Rattle.std.proofs.lemmas.List.{take_more}
use Rattle.fol_base.specs.Canonical.{bound_of}
use Rattle.fol_base.proofs.AboutTerms.VariableLemmas.{bound_of-append}
use Rattle.fol_base.proofs.numbering.Numbering.bound.Goals as goal

pub loop-variable-preserved : goal.loop-variable-preserved
loop-variable-preserved c =
    let read = c.deref-variable-items.result.now in
    let i = c.loop-variable.variable-index in
    let more = ap bound_of (take_more read i 0 c.loop-variable-test.true) ∙ bound_of-append (take i read) (get_or read i 0 ∷ []) in
    (omega (arith, more), omega (arith, c.type_inv.variable-items i))
