-- Laws of the words on banks: what callers may use without a look into a table.
use Rattle.std.specs.Prelude.{◌≡◌, ℕ, ◌*◌, ◌^◌, ◌≤◌, true, false, List, ◌++◌, [], ◌∷◌, Some, is_some, Contains}
use Rattle.std.specs.List.{All}
use Rattle.fol_base.specs.Tree.{Tree}
use Rattle.term_bank.specs.Bank.{IsOf, IsDefault, number, tree_at}
use Rattle.term_bank.specs.Entry.{interned}
use Rattle.term_bank.specs.Literal.{IsLiteralOf, IsDefaultLiteral}
use Rattle.term_bank.specs.Table.{entries, number_in}
use Rattle.term_bank.specs.Interning.{trees_in, InternsAll, InternsFirst}
use Rattle.term_bank.specs.declared.reference.TermRef.{TermRef}
use Rattle.term_bank.specs.declared.literal.BankLit.{BankLit}
use Rattle.term_bank.specs.declared.rows.TheConstants.{ROWS}
use Rattle.term_bank.specs.declared.bank.Bank.{Bank}
use Rattle.term_bank.specs.declared.table.Table.{Table}

-- a default reference is of no bank
abbrev pub LacksDefaults : Type 0
LacksDefaults = (bank : Bank) (r : TermRef) → IsDefault r → ¬ IsOf bank r

-- and its number is past those that `TermRef::number` tells of references of a bank
abbrev pub LacksPlaces : Type 0
LacksPlaces = (r : TermRef) → IsDefault r → ROWS * 2 ^ 32 ≤ number r

-- a default literal is negative, and of no bank
abbrev pub DefaultsAreNegative : Type 0
DefaultsAreNegative = (l : BankLit) → IsDefaultLiteral l → l.positive ≡ false

abbrev pub LacksDefaultLiterals : Type 0
LacksDefaultLiterals = (bank : Bank) (l : BankLit) → IsDefaultLiteral l → ¬ IsLiteralOf bank l

-- a table keeps its numbers when a tree is interned
abbrev pub KeepsNumbers : Type 0
KeepsNumbers =
    (old new : Table) (t u : Tree) (n m : ℕ) → entries new ≡ interned (entries old) t n
    → number_in old u ≡ Some m → number_in new u ≡ Some m

-- and when several trees are
abbrev pub KeepsAllNumbers : Type 0
KeepsAllNumbers =
    (trees : List Tree) (known learned : Table) (u : Tree) (m : ℕ)
    → InternsAll trees known learned → number_in known u ≡ Some m → number_in learned u ≡ Some m

-- and where only some first ones were, as where memory ran out on the way
abbrev pub KeepsNumbersOnTheWay : Type 0
KeepsNumbersOnTheWay =
    (trees : List Tree) (known learned : Table) (u : Tree) (m : ℕ)
    → InternsFirst trees known learned → number_in known u ≡ Some m → number_in learned u ≡ Some m

-- references that one table has for equal trees have equal numbers
abbrev pub NumbersOnce : Type 0
NumbersOnce =
    (table : Table) (r s : TermRef) → number_in table (tree_at r) ≡ Some (number r) → number_in table (tree_at s) ≡ Some (number s)
    → tree_at r ≡ tree_at s → number r ≡ number s

-- a tree that is interned is a list of one
abbrev pub InternsOne : Type 0
InternsOne =
    (known learned : Table) (t : Tree) (n : ℕ) → entries learned ≡ interned (entries known) t n
    → InternsAll (t ∷ []) known learned

-- no tree at all is interned where the entries stay
abbrev pub InternsNone : Type 0
InternsNone = (known learned : Table) → entries learned ≡ entries known → InternsAll [] known learned

-- interning a list of trees and then a further one is interning both as one list
abbrev pub InternsOnward : Type 0
InternsOnward =
    (trees further : List Tree) (first second third : Table)
    → InternsAll trees first second → InternsAll further second third → InternsAll (trees ++ further) first third

-- interning a list of trees and then some first ones of a further one is interning some first ones of both as one list
abbrev pub InternsPartlyOnward : Type 0
InternsPartlyOnward =
    (trees further : List Tree) (first second third : Table)
    → InternsAll trees first second → InternsFirst further second third → InternsFirst (trees ++ further) first third

-- some first ones of a list are some first ones of a longer list
abbrev pub InternsFirstOfMore : Type 0
InternsFirstOfMore =
    (trees further : List Tree) (first second : Table) → InternsFirst trees first second → InternsFirst (trees ++ further) first second

-- the table learns none but these trees
abbrev pub LearnsOnlyThese : Type 0
LearnsOnlyThese =
    (trees : List Tree) (known learned : Table) (all : InternsAll trees known learned)
    → All (Contains trees) (trees_in all.more)

-- interning the same trees again changes nothing
abbrev pub InternedAgain : Type 0
InternedAgain =
    (trees : List Tree) (first second third : Table)
    → InternsAll trees first second → InternsAll trees second third → entries third ≡ entries second

-- the table has a number for each of the trees afterwards
abbrev pub NumbersThese : Type 0
NumbersThese =
    (trees : List Tree) (known learned : Table)
    → InternsAll trees known learned → All (λ t. is_some (number_in learned t) ≡ true) trees

-- where some first ones were interned, interning all of them does what it would have done at once
abbrev pub InternsAfterFirst : Type 0
InternsAfterFirst =
    (trees : List Tree) (first second third : Table)
    → InternsFirst trees first second → InternsAll trees second third → InternsAll trees first third
