use Rattle.std.proofs.Common.{◌≡◌, drop}
use Rattle.tptp_tree.specs.Codes.{text_terms}
use Rattle.tptp_tree.specs.Equality.{same_terms}
use Rattle.tptp_tree.proofs.equality.same_names.Given as goal

abbrev pub invariant-loop-index : goal.invariant-loop-index
invariant-loop-index l =
    same_terms (text_terms (drop l.index l.left)) (text_terms (drop l.index l.right)) ≡ same_terms (text_terms l.left) (text_terms l.right)
