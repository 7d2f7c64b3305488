use Rattle.std.proofs.Common.{sym, ◌∙◌, arith}
use Rattle.std.specs.Prelude.{◌≡◌}
use Rattle.fol_base.specs.Term.{tree_of}
use Rattle.fol_base.specs.Tree.{tree_size}
use Rattle.rewriting.proofs.AboutSearches.DescentLemmas.{balanced-from}
use Rattle.rewriting.proofs.descent.are_balanced.Goals as goal

pub returns : goal.returns
returns c = λ same.
    let level : tree_size (tree_of c.args.one.now) ≡ tree_size (tree_of c.args.other.now) =
    omega (arith, c.size.ensures, c.size-2.ensures, c.requires.size, c.requires.other_size, c.if-size.false) in
    balanced-from (tree_of c.args.one.now) (tree_of c.args.other.now) c.in_ok-left.left.items c.in_ok-right.right.items level c.in_ok-left.ensures
    c.in_ok-right.ensures (sym c.as_slice.ensures.value ∙ c.are_same.ensures same ∙ c.as_slice-2.ensures.value)
