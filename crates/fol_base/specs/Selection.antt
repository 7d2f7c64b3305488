-- The chosen literal of a clause, and the literals that are eligible for an inference (Bachmair and Ganzinger 1994).
use Rattle.std.specs.Prelude.{ℕ, suc, max, Bool, false, not, ◌&&◌, ◌==◌, if◌then◌else◌, List, [], ◌∷◌, remove, slice_get, Option, None, Some, option_map}
use Rattle.std.specs.List.{list_all}
use Rattle.fol_base.specs.Instance.{Substitution}
use Rattle.fol_base.specs.Clause.{TreeLiteral, literal_size}
use Rattle.fol_base.specs.Ground.{literals_instance}
use Rattle.fol_base.specs.Order.{literal_greater, equivalent_literals}

-- which literal of a clause is chosen: none, or a negative one
pub data SelectionMode : Type 0 where
  select_nothing : SelectionMode
  select_negative : SelectionMode

-- the greatest size of a negative literal, 0 where there is none
abbrev pub greatest_negative_size : List TreeLiteral → ℕ
greatest_negative_size [] = 0
greatest_negative_size (l ∷ ls) =
    if l.positive then greatest_negative_size ls else max (literal_size l) (greatest_negative_size ls)

-- the index of the first element that passes a test
abbrev pub first_index : {X : Type 0} → (X → Bool) → List X → Option ℕ
first_index test [] = None
first_index test (x ∷ xs) = if test x then Some 0 else option_map suc (first_index test xs)

-- the first negative literal of greatest size
abbrev pub chosen : SelectionMode → List TreeLiteral → Option ℕ
chosen select_nothing ls = None
chosen select_negative ls = first_index (λ l. not l.positive && (literal_size l == greatest_negative_size ls)) ls

-- no literal is greater than this one, nor equal to it where strictness is asked
abbrev pub is_maximal : Bool → TreeLiteral → List TreeLiteral → Bool
is_maximal strict l ls = list_all (λ m. not (literal_greater m l) && not (strict && equivalent_literals m l)) ls

-- the literal of that index, against the list without it; false past the end
abbrev pub is_maximal_at : Bool → Option TreeLiteral → List TreeLiteral → Bool
is_maximal_at strict None others = false
is_maximal_at strict (Some l) others = is_maximal strict l others

-- the chosen literal alone, or, where none is chosen, a maximal one
abbrev pub eligible : List TreeLiteral → ℕ → Option ℕ → Bool → Bool
eligible ls i (Some c) strict = i == c
eligible ls i None strict = is_maximal_at strict (slice_get ls i) (remove ls i)

-- in an instance the choice is the one made before instantiation
abbrev pub eligible_in_instance : SelectionMode → List TreeLiteral → Substitution → ℕ → Bool → Bool
eligible_in_instance mode ls σ i strict = eligible (literals_instance σ ls) i (chosen mode ls) strict
