-- How a term is hashed: its symbols and variables from left to right, variables as even numbers and symbols as odd ones.
use Rattle.std.specs.Prelude.{ℕ, ◌+◌, ◌*◌, ◌/◌, ◌%◌, ◌^◌, bit_xor}
use Rattle.fol_base.specs.Tree.{Tree, variable, application, Trees, no_trees, tree_then}

-- a step of a linear congruential generator
abbrev pub congruential : ℕ → ℕ → ℕ
congruential hash value = ((hash * 6364136223846793005) % 2 ^ 64 + value) % 2 ^ 64

-- Its upper half goes into its lower one: a polynomial modulo 2^64 would have one value on the two Thue-Morse words of 2^11 letters.
abbrev pub mixed : ℕ → ℕ → ℕ
mixed hash value = bit_xor (congruential hash value) (congruential hash value / 2 ^ 32)

abbrev mutual
  pub tree_hash : ℕ → Tree → ℕ
  tree_hash hash (variable v) = mixed hash (2 * v)
  tree_hash hash (application f ts) = trees_hash (mixed hash (2 * f + 1)) ts

  pub trees_hash : ℕ → Trees → ℕ
  trees_hash hash no_trees = hash
  trees_hash hash (tree_then t ts) = trees_hash (tree_hash hash t) ts
