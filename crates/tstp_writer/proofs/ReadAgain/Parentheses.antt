-- Parentheses are a level at most.
use Rattle.std.proofs.Common.{ℕ, suc, ◌≤◌, Bool, true, false, arith}
use Rattle.tptp_tree.specs.Levels.{with_parentheses}

pub parentheses-one : (b : Bool) (n : ℕ) → with_parentheses b n ≤ suc n
parentheses-one true n = omega arith
parentheses-one false n = omega arith

pub parentheses-some : (b : Bool) (n : ℕ) → n ≤ with_parentheses b n
parentheses-some true n = omega arith
parentheses-some false n = omega arith
