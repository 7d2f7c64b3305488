-- What a tree holds: a list of entries, each a term and a number.
use Rattle.std.specs.Prelude.{◌≡◌, ◌⊎◌, ◌==◌, ℕ, Bool, List, [], ◌∷◌, ◌++◌, if◌then◌else◌, Option, None, Some, length, take}
use Rattle.fol_base.specs.Tree.{Tree}

-- the numbers of the entries whose term passes the test, in the list's order
abbrev pub numbers_where : (Tree → Bool) → List (Tree × ℕ) → List ℕ
numbers_where test [] = []
numbers_where test (e ∷ es) = if test e.0 then e.1 ∷ numbers_where test es else numbers_where test es

abbrev pub IsIn : {X : Type 0} → X → List X → Type 0
IsIn x [] = ⊥
IsIn x (y ∷ ys) = (x ≡ y) ⊎ IsIn x ys

-- each element stays
abbrev pub KeepsAll : {X : Type 0} → List X → List X → Type 0
KeepsAll {X} old new = (x : X) → IsIn x old → IsIn x new

-- more is fewer with one element put in at some place
pub record IsWith {X : Type 0} (x : X) (fewer : List X) (more : List X) : Type 0 where
  pub front : List X
  pub back : List X
  pub without : fewer ≡ front ++ back
  pub with_it : more ≡ front ++ x ∷ back

-- what a list has after another one with which it begins
abbrev pub without_front : List ℕ → List ℕ → Option (List ℕ)
without_front [] ys = Some ys
without_front (x ∷ xs) [] = None
without_front (x ∷ xs) (y ∷ ys) = if x == y then without_front xs ys else None

-- a list begins with what it had
abbrev pub IsBeginning : List ℕ → List ℕ → Type 0
IsBeginning old new = take (length old) new ≡ old
