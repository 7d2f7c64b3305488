-- A node as the list of its rows, each the rest of a path and the entry at its end.
use Rattle.std.specs.Prelude.{◌≡◌, ℕ, ◌+◌, ◌≤◌, ◌<◌, Bool, true, false, List, [], ◌∷◌, ◌++◌, length, ⊤, if◌then◌else◌, take, drop, get_or}
use Rattle.fol_base.specs.Tree.{Tree, tree_variables}
use Rattle.disc_tree.specs.declared.label.Label.{Label}
use Rattle.disc_tree.specs.Path.{comes_before, same_label, fits, path}
use Rattle.disc_tree.specs.Entries.{IsIn, IsWith}

abbrev pub Row : Type 0
Row = List Label × (Tree × ℕ)

-- a child: its label and its rows
abbrev pub Child : Type 0
Child = Label × List Row

-- the entries at the node itself
abbrev pub here : List (Tree × ℕ) → List Row
here [] = []
here (e ∷ es) = ([], e) ∷ here es

-- entries that have the same path
abbrev pub all_at : List Label → List (Tree × ℕ) → List Row
all_at p [] = []
all_at p (e ∷ es) = (p, e) ∷ all_at p es

-- the rows of a child, after its label
abbrev pub below : Label → List Row → List Row
below l [] = []
below l (r ∷ rs) = (l ∷ r.0, r.1) ∷ below l rs

abbrev pub all_below : List Child → List Row
all_below [] = []
all_below (c ∷ cs) = below c.0 c.1 ++ all_below cs

-- the rows of a node with these entries and children
abbrev pub rows : List (Tree × ℕ) × List Child → List Row
rows v = here v.0 ++ all_below v.1

-- the rows of the child with a label
abbrev pub rows_at : Label → List Child → List Row
rows_at l [] = []
rows_at l (c ∷ cs) = if same_label c.0 l then c.1 else rows_at l cs

-- the labels of all rows, and one for each row
abbrev pub weight : List Row → ℕ
weight [] = 0
weight (r ∷ rs) = 1 + length r.0 + weight rs

-- the label comes before each child's
abbrev pub IsBefore : Label → List Child → Type 0
IsBefore l [] = ⊤
IsBefore l (c ∷ cs) = (comes_before l c.0 ≡ true) × IsBefore l cs

-- each child's label comes before this one
abbrev pub AreBefore : List Child → Label → Type 0
AreBefore [] l = ⊤
AreBefore (c ∷ cs) l = (comes_before c.0 l ≡ true) × AreBefore cs l

-- no child's label comes before this one
abbrev pub AreNotBefore : List Child → Label → Type 0
AreNotBefore [] l = ⊤
AreNotBefore (c ∷ cs) l = (comes_before c.0 l ≡ false) × AreNotBefore cs l

abbrev pub Rise : List Child → Type 0
Rise [] = ⊤
Rise (c ∷ cs) = IsBefore c.0 cs × Rise cs

abbrev pub NoneIsEmpty : List Child → Type 0
NoneIsEmpty [] = ⊤
NoneIsEmpty (c ∷ cs) = (1 ≤ length c.1) × NoneIsEmpty cs

-- the labels of the children rise, and no branch is empty
pub record IsSound (cs : List Child) : Type 0 where
  pub rise : Rise cs
  pub none_is_empty : NoneIsEmpty cs

-- the child at place i has the label
pub record IsAt (l : Label) (cs : List Child) (i : ℕ) : Type 0 where
  pub front : List Child
  pub back : List Child
  pub child_rows : List Row
  pub in_range : i < length cs
  pub parts : cs ≡ front ++ (l, child_rows) ∷ back
  pub place : length front ≡ i

-- the child at place i
abbrev pub IsChildAt : Label → List Row → List Child → ℕ → Type 0
IsChildAt l rs cs i = let c : Child = (l, rs) in (d : Child) → get_or cs i d ≡ c

-- a child with the label would go at place i
pub record IsGap (l : Label) (cs : List Child) (i : ℕ) : Type 0 where
  pub in_range : i ≤ length cs
  pub smaller : AreBefore (take i cs) l
  pub greater : IsBefore l (drop i cs)

-- the numbers of the rows whose path fits what is left to read
abbrev pub found_in : Bool → Bool → ℕ → List Tree → List Row → List ℕ
found_in entry_varies query_varies k ts [] = []
found_in entry_varies query_varies k ts (r ∷ rs) =
    if fits entry_varies query_varies k ts r.0
    then r.1.1 ∷ found_in entry_varies query_varies k ts rs
    else found_in entry_varies query_varies k ts rs

abbrev pub number_of : Tree × ℕ → ℕ
number_of e = e.1

-- the entries' numbers
abbrev pub numbers_of : List (Tree × ℕ) → List ℕ
numbers_of [] = []
numbers_of (e ∷ es) = e.1 ∷ numbers_of es

-- the entry has these variables and this number
abbrev pub IsNamed : List ℕ → ℕ → Tree × ℕ → Type 0
IsNamed vs n e = (tree_variables e.0 ≡ vs) × (e.1 ≡ n)

-- one row with the path, the variables and the number is gone
abbrev pub IsTaken : List Label → List ℕ → ℕ → List Row → List Row → Type 0
IsTaken p vs n old new = (e : Tree × ℕ) × IsNamed vs n e × IsWith (p, e) new old

-- no row has the path, the variables and the number
abbrev pub IsNone : List Label → List ℕ → ℕ → List Row → Type 0
IsNone p vs n old = (e : Tree × ℕ) → IsIn (p, e) old → IsNamed vs n e → ⊥

-- one entry with the variables and the number is gone
abbrev pub IsEntryTaken : List ℕ → ℕ → List (Tree × ℕ) → List (Tree × ℕ) → Type 0
IsEntryTaken vs n old new = (e : Tree × ℕ) × IsNamed vs n e × IsWith e new old

-- no entry has the variables and the number
abbrev pub IsNoEntry : List ℕ → ℕ → List (Tree × ℕ) → Type 0
IsNoEntry vs n old = (e : Tree × ℕ) → IsIn e old → IsNamed vs n e → ⊥

-- the entries of the rows
abbrev pub entries_of : List Row → List (Tree × ℕ)
entries_of [] = []
entries_of (r ∷ rs) = r.1 ∷ entries_of rs

-- each row's path is its entry's
abbrev pub HavePaths : List Row → Type 0
HavePaths [] = ⊤
HavePaths (r ∷ rs) = (r.0 ≡ path r.1.0) × HavePaths rs
