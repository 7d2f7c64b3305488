-- Signed names, and sets of them as lists: neither order nor repetition counts (the clauses of propositional logic).
use mathlib.Core.Bool.{beq}
use Rattle.std.specs.Prelude.{ℕ, Bool, true, false, not, ◌&&◌, ◌==◌, List, ◌++◌, filter}
use Rattle.std.specs.List.{list_any}
use Rattle.plain_types.specs.declared.sequence.NameLit.{NameLit}

-- a name under a sign
abbrev pub signed : Bool → ℕ → NameLit
signed positive name = record { positive = positive; name = name }

-- the name itself as a literal
abbrev pub positive_of : ℕ → NameLit
positive_of name = record { positive = true; name = name }

-- the negation of a name
abbrev pub negative_of : ℕ → NameLit
negative_of name = record { positive = false; name = name }

-- equal signs and equal names
abbrev pub same_name : NameLit → NameLit → Bool
same_name n m = beq n.positive m.positive && (n.name == m.name)

-- the name with the other sign
abbrev pub opposite : NameLit → NameLit
opposite n = record { positive = not n.positive; name = n.name }

-- whether the signed name stands in the list
abbrev pub has_name : NameLit → List NameLit → Bool
has_name n ns = list_any (same_name n) ns

-- the list without that signed name
abbrev pub without : NameLit → List NameLit → List NameLit
without n ns = filter (λ m. not (same_name n m)) ns

-- the pivot stands in the first list, and its opposite in the second
abbrev pub can_resolve : NameLit → List NameLit → List NameLit → Bool
can_resolve pivot ns ms = has_name pivot ns && has_name (opposite pivot) ms

-- the first list without the pivot, together with the second without its opposite (Robinson 1965)
abbrev pub resolvent : NameLit → List NameLit → List NameLit → List NameLit
resolvent pivot ns ms = without pivot ns ++ without (opposite pivot) ms
