-- Lists of signed names in the order in which clauses have them, and resolution on names (Robinson 1965).
use Rattle.std.specs.Prelude.{◌≡◌, ℕ, ◌+◌, ◌*◌, Bool, true, not, ◌&&◌, ◌||◌, ◌==◌, nat_lt, List, [], ◌∷◌, Option, None, Some, if◌then◌else◌, IsTrue}
use Rattle.plain_types.specs.declared.sequence.NameLit.{NameLit}
use Rattle.plain_types.specs.Names.{same_name, has_name, can_resolve, resolvent}

-- names rise by number, and of one name the negative one comes before the positive one
abbrev pub name_before : NameLit → NameLit → Bool
name_before n m = nat_lt n.name m.name || ((n.name == m.name) && (not n.positive && m.positive))

-- a name put at its place in a sorted list, unless it is there
abbrev pub with_name : NameLit → List NameLit → List NameLit
with_name n [] = n ∷ []
with_name n (m ∷ ms) =
    if same_name n m then m ∷ ms else (if name_before n m then n ∷ m ∷ ms else m ∷ with_name n ms)

-- several names, one after another
abbrev pub with_names : List NameLit → List NameLit → List NameLit
with_names [] sorted = sorted
with_names (n ∷ ns) sorted = with_names ns (with_name n sorted)

-- the names of a list, sorted, each once
abbrev pub sorted_names : List NameLit → List NameLit
sorted_names ns = with_names ns []

-- resolution on each pivot in turn with the next list. Each pivot has to be there at its step, and its opposite in the list; and there
-- are as many lists as pivots.
abbrev pub chained_from : List NameLit → List NameLit → List (List NameLit) → Option (List NameLit)
chained_from names [] [] = Some names
chained_from names [] (ms ∷ mss) = None
chained_from names (pivot ∷ pivots) [] = None
chained_from names (pivot ∷ pivots) (ms ∷ mss) =
    if can_resolve pivot names ms then chained_from (sorted_names (resolvent pivot names ms)) pivots mss else None

-- the names that are left of the first list after resolution with the others, on one pivot each
abbrev pub chained : List (List NameLit) → List NameLit → Option (List NameLit)
chained [] pivots = None
chained (ns ∷ nss) pivots = chained_from (sorted_names ns) pivots nss

-- ---- law

-- each name comes before the next
abbrev pub are_sorted : List NameLit → Bool
are_sorted [] = true
are_sorted (n ∷ []) = true
are_sorted (n ∷ m ∷ ms) = name_before n m && are_sorted (m ∷ ms)

-- the names of a list, sorted, are its names, each before the next
abbrev pub SortedNames : Type 0
SortedNames = (ns : List NameLit) → IsTrue (are_sorted (sorted_names ns)) × ((n : NameLit) → has_name n (sorted_names ns) ≡ has_name n ns)

-- ---- definitions for private functions alone

-- a number that rises with the names
abbrev pub name_rank : NameLit → ℕ
name_rank n = 2 * n.name + (if n.positive then 1 else 0)
