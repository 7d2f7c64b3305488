-- The sites of a clause: the sides from which a superposition can start, and the places into which one can go, as far as the clause alone
-- tells it, before any unifier.
use Rattle.std.specs.Prelude.{◌≡◌, ℕ, suc, Bool, true, false, ◌&&◌, not, List, [], ◌∷◌, ◌++◌, map, flat_map, filter, length, slice_get, Contains, Option, None, Some, IsTrue, if◌then◌else◌}
use Rattle.std.specs.Option.{is_some}
use Rattle.fol_base.specs.Tree.{Tree, variable, application, Trees, no_trees, tree_then, is_truth}
use Rattle.fol_base.specs.Clause.{TreeLiteral, TreeClause}
use Rattle.fol_base.specs.Canonical.{numbers_from}
use Rattle.fol_base.specs.Selection.{SelectionMode, chosen, eligible}
use Rattle.fol_base.specs.Sides.{side_of, other_side_of}
use Rattle.fol_base.specs.WellFormed.{SymbolUse, are_literals_of}
use Rattle.fol_base.specs.declared.clause.Side.{Side}
use Rattle.fol_base.specs.declared.clause.Side.TheVariants.{Left, Right}
use Rattle.kernel_steps.specs.Inference.{NamedSuperposition, other_side_not_above}
use Rattle.literal_selection.specs.Mode.{mode_of}
use Rattle.eq_rules.specs.declared.concluding.LiteralSide.{LiteralSide}
use Rattle.superpose.specs.Settled.{AreSettled}
use Rattle.superpose.specs.declared.sites.LiteralPlace.{LiteralPlace}
use Rattle.superpose.specs.declared.sites.Sites.{Sites}

-- ---- sides and places

abbrev pub both_sides : ℕ → List LiteralSide
both_sides i = record { literal = i; side = Left } ∷ record { literal = i; side = Right } ∷ []

-- the sides of that many literals
abbrev pub all_sides : ℕ → List LiteralSide
all_sides n = flat_map both_sides (numbers_from 0 n)

-- the places of a tree at which no variable stands, a term before its arguments
abbrev mutual
  pub places : Tree → List (List ℕ)
  places (variable v) = []
  places (application f ts) = [] ∷ places_from 0 ts

  pub places_from : ℕ → Trees → List (List ℕ)
  places_from i no_trees = []
  places_from i (tree_then t ts) = map (λ p. i ∷ p) (places t) ++ places_from (suc i) ts

-- the places below the root
abbrev pub inner_places : Tree → List (List ℕ)
inner_places (variable v) = []
inner_places (application f ts) = places_from 0 ts

-- a place of a term that stands at a path of a side, as a place of the side
abbrev pub below_path : LiteralSide → List ℕ → List ℕ → LiteralPlace
below_path s path place = record { at = s; place = path ++ place }

-- ---- what a clause tells

-- the side isn't `$true`, and the other side isn't greater than or equal to it
abbrev pub is_usable : Side → TreeLiteral → Bool
is_usable s l = not (is_truth (side_of s l)) && other_side_not_above variable s l

abbrev pub literal_starts : Side → Option TreeLiteral → Bool
literal_starts s None = false
literal_starts s (Some l) = l.positive && is_usable s l

-- nothing is chosen, and the side is one of a positive literal that is strictly eligible
abbrev pub can_start : SelectionMode → List TreeLiteral → LiteralSide → Bool
can_start mode ls s =
    not (is_some (chosen mode ls)) && (literal_starts s.side (slice_get ls s.literal) && eligible ls s.literal None true)

abbrev pub literal_enters : List TreeLiteral → Option ℕ → LiteralSide → Option TreeLiteral → Bool
literal_enters ls choice s None = false
literal_enters ls choice s (Some l) =
    is_usable s.side l && (not (l.positive && is_some choice) && eligible ls s.literal choice l.positive)

-- the side is one of an eligible literal: of a positive one only where nothing is chosen, and then strictly
abbrev pub can_enter : SelectionMode → List TreeLiteral → LiteralSide → Bool
can_enter mode ls s = literal_enters ls (chosen mode ls) s (slice_get ls s.literal)

-- ---- the sites

abbrev pub start_sites : SelectionMode → List TreeLiteral → List LiteralSide
start_sites mode ls = filter (can_start mode ls) (all_sides (length ls))

-- the side is a positive atom: the other one is `$true`
abbrev pub is_positive_atom : Side → TreeLiteral → Bool
is_positive_atom s l = l.positive && is_truth (other_side_of s l)

-- The places of a side into which something can go: all but the root of a positive atom. Only an atom's side is of its kind, and then both
-- other sides are `$true`.
abbrev pub open_places : Side → TreeLiteral → List (List ℕ)
open_places s l = if is_positive_atom s l then inner_places (side_of s l) else places (side_of s l)

abbrev pub side_places : Side → Option TreeLiteral → List (List ℕ)
side_places s None = []
side_places s (Some l) = open_places s l

abbrev pub entered_places : SelectionMode → List TreeLiteral → LiteralSide → List LiteralPlace
entered_places mode ls s =
    if can_enter mode ls s
    then map (below_path s []) (side_places s.side (slice_get ls s.literal))
    else []

abbrev pub enter_sites : SelectionMode → List TreeLiteral → List LiteralPlace
enter_sites mode ls = flat_map (entered_places mode ls) (all_sides (length ls))

-- the sites of a clause for a mode, with its chosen literal, and which sides are in order under every substitution
pub record AreSitesOf (c : TreeClause) (sites : Sites) : Type 0 where
  pub choice : sites.choice ≡ chosen (mode_of sites.mode) c.literals
  pub from : sites.from.items ≡ start_sites (mode_of sites.mode) c.literals
  pub into : sites.into.items ≡ enter_sites (mode_of sites.mode) c.literals
  pub settled : AreSettled c.literals sites.choice sites.settled.items

-- ---- law

-- Each superposition of well-formed clauses starts from a site of the first one and goes into one of the second.
abbrev pub SuperpositionsHaveSites : Type 0
SuperpositionsHaveSites =
    (usage : SymbolUse) (mode : SelectionMode) (first second : TreeClause) (s : LiteralSide) (t : LiteralPlace) (conclusion : TreeClause)
    → IsTrue (are_literals_of usage first.literals) → IsTrue (are_literals_of usage second.literals)
    → NamedSuperposition usage.is_predicate mode first s.literal s.side second t.at.literal t.at.side t.place conclusion
    → Contains (start_sites mode first.literals) s × Contains (enter_sites mode second.literals) t

-- No site stands twice: those of a clause have different names.
abbrev pub SitesDiffer : Type 0
SitesDiffer =
    (mode : SelectionMode) (ls : List TreeLiteral)
    → ((i j : ℕ) (s : LiteralSide) → slice_get (start_sites mode ls) i ≡ Some s → slice_get (start_sites mode ls) j ≡ Some s → i ≡ j)
    × ((i j : ℕ) (t : LiteralPlace) → slice_get (enter_sites mode ls) i ≡ Some t → slice_get (enter_sites mode ls) j ≡ Some t → i ≡ j)
