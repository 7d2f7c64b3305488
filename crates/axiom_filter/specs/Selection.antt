-- Axiom selection by symbols (the SInE method; Hoder and Voronkov, Sine Qua Non for Large Theory Reasoning, 2011): an axiom is taken where
-- one of its rarest symbols has been reached from the goals.
use Rattle.std.specs.Prelude.{ℕ, zero, suc, ◌*◌, Bool, true, false, not, ◌&&◌, ◌||◌, ◌==◌, nat_le, List, ◌++◌, length, filter, flat_map, count_by}
use Rattle.std.specs.List.{list_any, list_all}
use Rattle.tptp_tree.specs.declared.problem.Annotated.{Annotated}
use Rattle.tptp_tree.specs.declared.role.Role.{Role}
use Rattle.tptp_tree.specs.declared.role.Role.TheVariants.{Conjecture, NegatedConjecture}
use Rattle.signature.specs.declared.symbol.Symbol.{Symbol}
use Rattle.signature.specs.Symbol.{has_symbol}
use Rattle.signature.specs.Occurrences.{annotated_symbols}
use Rattle.axiom_filter.specs.Places.{places_from}

abbrev pub is_goal_role : Role → Bool
is_goal_role Conjecture = true
is_goal_role NegatedConjecture = true
is_goal_role _ = false

abbrev pub is_goal : Annotated → Bool
is_goal a = is_goal_role a.role

-- `$true` and `$false` are no symbols
abbrev pub occurs : Symbol → Annotated → Bool
occurs s a = has_symbol s (annotated_symbols a)

abbrev pub has_no_symbols : Annotated → Bool
has_no_symbols a = length (annotated_symbols a) == 0

-- in how many formulas a symbol occurs
abbrev pub occurrence_count : List Annotated → Symbol → ℕ
occurrence_count fs s = count_by (occurs s) fs

-- A symbol of a formula triggers it where no symbol of the formula is rarer, but for the tolerance, which is in hundredths.
abbrev pub triggers : ℕ → List Annotated → Symbol → Annotated → Bool
triggers tolerance fs s a =
    occurs s a
    && list_all (λ r. nat_le (100 * occurrence_count fs s) (tolerance * occurrence_count fs r)) (annotated_symbols a)

abbrev pub is_triggered : ℕ → List Annotated → List Symbol → Annotated → Bool
is_triggered tolerance fs symbols a = list_any (λ s. triggers tolerance fs s a) symbols

abbrev pub symbols_of : List Annotated → List Symbol
symbols_of fs = flat_map annotated_symbols fs

-- the symbols that are reached at a level: the goals' at level 0; at the next level also those of the formulas that are taken there
abbrev pub reached : ℕ → List Annotated → ℕ → List Symbol
reached tolerance fs zero = symbols_of (filter is_goal fs)
reached tolerance fs (suc level) =
    let before = reached tolerance fs level in
    before ++ symbols_of (filter (is_triggered tolerance fs before) fs)

-- taken at one of the levels from 1 to that one: at level k + 1 a formula is taken that a symbol triggers which is reached at level k
abbrev pub is_taken : ℕ → List Annotated → ℕ → Annotated → Bool
is_taken tolerance fs zero a = false
is_taken tolerance fs (suc level) a =
    is_taken tolerance fs level a || is_triggered tolerance fs (reached tolerance fs level) a

-- kept are the goals, the formulas without symbols and those that are taken; without a goal all are kept
abbrev pub is_kept : ℕ → ℕ → List Annotated → Annotated → Bool
is_kept tolerance depth fs a =
    not (list_any is_goal fs) || (is_goal a || (has_no_symbols a || is_taken tolerance fs depth a))

-- the places of the formulas that are kept, rising
abbrev pub kept_places : ℕ → ℕ → List Annotated → List ℕ
kept_places tolerance depth fs = places_from 0 (is_kept tolerance depth fs) fs
