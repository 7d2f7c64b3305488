-- The hash of a part, over its literals from left to right.
use Rattle.std.specs.Prelude.{ℕ, ◌+◌, ◌%◌, ◌^◌, Bool, List, [], ◌∷◌, if◌then◌else◌}
use Rattle.fol_base.specs.Clause.{TreeLiteral}
use Rattle.term_bank.specs.Hash.{tree_hash}

-- a hash after a sign
abbrev pub signed : ℕ → Bool → ℕ
signed hash positive = if positive then hash else (hash + 1) % 2 ^ 64

-- and after a literal: its sign and its sides
abbrev pub literal_hash : ℕ → TreeLiteral → ℕ
literal_hash hash l = tree_hash (tree_hash (signed hash l.positive) l.left) l.right

abbrev pub part_hash : ℕ → List TreeLiteral → ℕ
part_hash hash [] = hash
part_hash hash (l ∷ ls) = part_hash (literal_hash hash l) ls
