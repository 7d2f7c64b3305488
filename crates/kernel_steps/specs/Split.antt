-- Splitting of a clause into parts that share no variables (Voronkov 2014, with the names of ground literals and their complements
-- as one).
use Rattle.std.specs.Prelude.{ℕ, zero, suc, Bool, true, false, not, ◌&&◌, ◌==◌, nat_lt, List, [], ◌∷◌, ◌++◌, length, flat_map, map, filter_map, slice_get, nat_eq, unwrap_or, Option, None, Some}
use Rattle.std.specs.List.{list_any, list_all}
use Rattle.std.specs.HashMap.{HashMap, get}
use Rattle.std.specs.declared.hash.FoldHasher.{FoldHasher}
use Rattle.std.specs.declared.hash.BuildHasherDefault.{BuildHasherDefault}
use Rattle.plain_types.specs.declared.sequence.NameLit.{NameLit}
use Rattle.plain_types.specs.Names.{opposite}
use Rattle.fol_base.specs.Tree.{variable}
use Rattle.fol_base.specs.Instance.{Substitution}
use Rattle.fol_base.specs.Clause.{TreeLiteral, literals_eq, literal_variables}
use Rattle.fol_base.specs.Canonical.{canonical_clause}
use Rattle.kernel_steps.specs.Parents.{Parent}

-- the number stands in the list
abbrev pub has_number : ℕ → List ℕ → Bool
has_number n ks = list_any (λ k. n == k) ks

-- the numbers rise, each greater than the one before it, and the first is greater than k
abbrev pub rises_from : ℕ → List ℕ → Bool
rises_from k [] = true
rises_from k (j ∷ js) = nat_lt k j && rises_from j js

-- each number is less than those after it
abbrev pub is_rising : List ℕ → Bool
is_rising [] = true
is_rising (n ∷ ns) = rises_from n ns

-- a part of a clause: the places of its literals, rising, at least one
abbrev pub is_part : List ℕ → Bool
is_part [] = false
is_part (k ∷ ks) = rises_from k ks

-- each number below n stands in the list
abbrev pub has_all_below : ℕ → List ℕ → Bool
has_all_below zero ks = true
has_all_below (suc n) ks = has_number n ks && has_all_below n ks

-- The parts share out the places below n: n places stand in all parts together, and each place below n is one of them, so each stands once.
abbrev pub share_out : ℕ → List (List ℕ) → Bool
share_out n parts = (length (flat_map (λ ks. ks) parts) == n) && has_all_below n (flat_map (λ ks. ks) parts)

-- the literals at these places
abbrev pub literals_at : List TreeLiteral → List ℕ → List TreeLiteral
literals_at ls places = filter_map (slice_get ls) places

-- some variable occurs in both lists of literals
abbrev pub share_variable : List TreeLiteral → List TreeLiteral → Bool
share_variable ls ks = list_any (λ v. has_number v (flat_map literal_variables ks)) (flat_map literal_variables ls)

-- no variable occurs in two of the lists of literals
abbrev pub share_no_variables : List (List TreeLiteral) → Bool
share_no_variables [] = true
share_no_variables (ls ∷ lss) = list_all (λ ks. not (share_variable ls ks)) lss && share_no_variables lss

-- the literals with their variables renumbered 0, 1, 2, .. by first occurrence
abbrev pub canonical_literals : List TreeLiteral → List TreeLiteral
canonical_literals ls = (canonical_clause (record { literals = ls; names = [] })).literals

-- a parent defines literals where its line introduces a name and has these literals, up to their variables' numbers
abbrev pub defines : Parent → List TreeLiteral → Bool
defines p ls = p.introduces && literals_eq (canonical_literals ls) p.clause.literals

-- a definition that is looked up: one that isn't there defines nothing
abbrev pub there_defines : Option Parent → List TreeLiteral → Bool
there_defines None ls = false
there_defines (Some p) ls = defines p ls

-- there are as many definitions as parts, and each defines its part
abbrev pub are_defined : List (Option Parent) → List (List TreeLiteral) → Bool
are_defined [] [] = true
are_defined [] (ls ∷ lss) = false
are_defined (o ∷ os) [] = false
are_defined (o ∷ os) (ls ∷ lss) = there_defines o ls && are_defined os lss

-- there is a part, the parts share out the literals and no variable is in two of them, and each has its definition
abbrev pub can_split : List TreeLiteral → List (Option Parent) → List (List ℕ) → Bool
can_split ls os parts =
    not (length parts == 0)
    && (list_all is_part parts
    && (share_out (length ls) parts
    && (share_no_variables (map (literals_at ls) parts) && are_defined os (map (literals_at ls) parts))))

-- the literals fall into these parts, and the definitions, in order, define the parts
abbrev pub is_split : List TreeLiteral → List Parent → List (List ℕ) → Bool
is_split ls definitions parts = can_split ls (map Some definitions) parts

-- ---- definitions for the private functions of splitting alone

-- the opposites of the names of those that are there
abbrev pub opposites : List (Option Parent) → List NameLit
opposites [] = []
opposites (None ∷ os) = opposites os
opposites (Some p ∷ os) = map opposite p.clause.names ++ opposites os

-- no number is in two lists
abbrev pub share_number : List ℕ → List ℕ → Bool
share_number ns ms = list_any (λ n. has_number n ms) ns

abbrev pub share_no_numbers : List (List ℕ) → Bool
share_no_numbers [] = true
share_no_numbers (ns ∷ nss) = list_all (λ ms. not (share_number ns ms)) nss && share_no_numbers nss

-- a variable becomes its place in a table; one that isn't there stands for itself
abbrev pub renamed : HashMap ℕ ℕ (BuildHasherDefault FoldHasher) → Substitution
renamed places v = variable (unwrap_or (get nat_eq places v) v)
