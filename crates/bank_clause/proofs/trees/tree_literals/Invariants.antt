use Rattle.std.proofs.Common.{◌≡◌, ◌≤◌, length, map, take}
use Rattle.std.specs.Prelude.{vec_capacity}
use Rattle.fol_base.specs.Literal.{literal_of}
use Rattle.term_bank.specs.Literal.{literals_at}
use Rattle.bank_clause.proofs.trees.tree_literals.Given as goal

abbrev pub invariant-loop-literal : goal.invariant-loop-literal
invariant-loop-literal l =
    (map literal_of l.made.items ≡ literals_at (take l.literal-index l.literals)) × (length l.literals ≤ vec_capacity l.made)
