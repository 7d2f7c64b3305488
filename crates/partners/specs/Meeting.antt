-- The superpositions between a clause and the members of a set that come before it.
use Rattle.std.specs.Prelude.{◌≡◌, ◌⊎◌, ℕ, ◌==◌, ◌&&◌, ◌||◌, ◌/◌, ◌%◌, ◌<◌, Bool, true, false, List, [], ◌∷◌, ◌++◌, length, take, flat_map, slice_get, Contains, Option, Some, option_map, option_and_then, IsTrue}
use Rattle.std.specs.Option.{is_some, option_to_list}
use Rattle.std.specs.List.Sorted.{IsStrictlyIncreasing}
use Rattle.fol_base.specs.Tree.{Tree}
use Rattle.fol_base.specs.Clause.{TreeLiteral, TreeClause}
use Rattle.fol_base.specs.Compatible.{compatible}
use Rattle.fol_base.specs.Selection.{SelectionMode}
use Rattle.fol_base.specs.WellFormed.{SymbolUse, are_literals_of}
use Rattle.literal_selection.specs.Mode.{mode_of}
use Rattle.kernel_steps.specs.declared.key.Key.{Key}
use Rattle.kernel_steps.specs.declared.key.Key.TheVariants.{Para}
use Rattle.bank_clause.specs.Clause.{clause_at}
use Rattle.bank_clause.specs.declared.member.Member.{Member}
use Rattle.eq_rules.specs.Inferences.{AreInferences, AreSomeInferences, is_enough}
use Rattle.eq_rules.specs.declared.concluding.LiteralSide.{LiteralSide}
use Rattle.eq_rules.specs.declared.inference.Inference.{Inference}
use Rattle.superpose.specs.Pairing.{AreTried}
use Rattle.superpose.specs.Sites.{enter_sites, start_sites}
use Rattle.superpose.specs.Superposing.{para_key}
use Rattle.superpose.specs.declared.sites.LiteralPlace.{LiteralPlace}
use Rattle.partners.specs.Index.{site_number}
use Rattle.partners.specs.Partners.{PartnerSet, Placed, literals_of, partner_before, placed_numbered}
use Rattle.partners.specs.SiteTerms.{place_term, start_term}
use Rattle.partners.specs.declared.index.TheConstants.{MOST_SITES}

-- ---- what is added

-- the number is that of a member whose position is below the bound
abbrev pub is_partner : ℕ → PartnerSet → ℕ → Bool
is_partner bound set n = is_some (partner_before bound set n)

-- superpositions between the clause with a number and such members, both ways
abbrev pub is_meeting : ℕ → PartnerSet → ℕ → Key → Bool
is_meeting bound set given (Para first i s second j z place) =
    ((first == given) && is_partner bound set second) || ((second == given) && is_partner bound set first)
is_meeting bound set given _ = false

-- the clause and its partners are looked up by their numbers, and are well-formed under a use of the symbols
pub record AreLookedUp (usage : SymbolUse) (clauses : ℕ → Option TreeClause) (bound : ℕ) (set : PartnerSet) (given : Member) : Type 0 where
  pub given_there : clauses given.number ≡ Some (clause_at given.clause)
  pub given_formed : IsTrue (are_literals_of usage (literals_of given))
  pub partners_there : (n : ℕ) (m : Member) → partner_before bound set n ≡ Some m → clauses n ≡ Some (clause_at m.clause)
  pub partners_formed : (n : ℕ) (m : Member) → partner_before bound set n ≡ Some m → IsTrue (are_literals_of usage (literals_of m))

-- the list grew by exactly the superpositions between the clause and its partners, each once, wherever they are looked up
abbrev pub AddsMeetings : ℕ → PartnerSet → Member → List Inference → List Inference → Type 0
AddsMeetings bound set given before now =
    (usage : SymbolUse) (clauses : ℕ → Option TreeClause) → AreLookedUp usage clauses bound set given
    → (more : List Inference) × (now ≡ before ++ more)
    × AreInferences usage.is_predicate (mode_of set.mode) clauses (is_meeting bound set given.number) more

-- by some of them, each once
abbrev pub AddsSomeMeetings : ℕ → PartnerSet → Member → List Inference → List Inference → Type 0
AddsSomeMeetings bound set given before now =
    (usage : SymbolUse) (clauses : ℕ → Option TreeClause) → AreLookedUp usage clauses bound set given
    → (more : List Inference) × (now ≡ before ++ more)
    × AreSomeInferences usage.is_predicate (mode_of set.mode) clauses (is_meeting bound set given.number) more

-- by all of them, or by some with which it has enough
abbrev pub AddsMeetingsUpTo : Option ℕ → ℕ → PartnerSet → Member → List Inference → List Inference → Type 0
AddsMeetingsUpTo most bound set given before now =
    AddsMeetings bound set given before now ⊎ (IsTrue (is_enough most (length now)) × AddsSomeMeetings bound set given before now)

-- ---- what is tried

-- the list grew by the inferences of these names
abbrev pub AddsNamed : ℕ → PartnerSet → Member → List Key → List Inference → List Inference → Type 0
AddsNamed bound set given keys before now =
    (usage : SymbolUse) (clauses : ℕ → Option TreeClause) → AreLookedUp usage clauses bound set given
    → (more : List Inference) × (now ≡ before ++ more) × AreTried usage.is_predicate (mode_of set.mode) clauses keys more

-- numbers of sites of one kind, among them each one whose term may unify with a term
abbrev pub HasCandidates :
    {S : Type 0} → (SelectionMode → List TreeLiteral → List S) → (List TreeLiteral → S → Option Tree) → PartnerSet → Tree → List ℕ → Type 0
HasCandidates {S} sites term_in set query numbers =
    (n : ℕ) (p : Placed) (i : ℕ) (site : S) (t : Tree)
    → placed_numbered n set.members ≡ Some p → slice_get (sites (mode_of set.mode) (literals_of p.member)) i ≡ Some site
    → term_in (literals_of p.member) site ≡ Some t → compatible t query ≡ true → (i < MOST_SITES) × Contains numbers (site_number n i)

-- in order, each once
pub record AreCandidates
    {S : Type 0} (sites : SelectionMode → List TreeLiteral → List S) (term_in : List TreeLiteral → S → Option Tree)
    (set : PartnerSet) (query : Tree) (numbers : List ℕ) : Type 0 where
  pub rise : IsStrictlyIncreasing numbers
  pub all : HasCandidates sites term_in set query numbers

-- the name of the superposition from a side of the clause into the place that a number stands for
abbrev pub name_into : ℕ → PartnerSet → ℕ → LiteralSide → ℕ → Option Key
name_into bound set given s entry =
    option_and_then
    (λ (m : Member). option_map (para_key given s m.number) (slice_get (enter_sites (mode_of set.mode) (literals_of m)) (entry % MOST_SITES)))
    (partner_before bound set (entry / MOST_SITES))

-- the name of the superposition from the side that a number stands for into a place of the clause
abbrev pub name_from : ℕ → PartnerSet → ℕ → LiteralPlace → ℕ → Option Key
name_from bound set given t entry =
    option_and_then
    (λ (m : Member).
    option_map (λ (s : LiteralSide). para_key m.number s given t)
    (slice_get (start_sites (mode_of set.mode) (literals_of m)) (entry % MOST_SITES)))
    (partner_before bound set (entry / MOST_SITES))

-- the names of the numbers that stand for one
abbrev pub names : (ℕ → Option Key) → List ℕ → List Key
names name entries = flat_map (λ n. option_to_list (name n)) entries

-- the list grew by the superpositions from a side of the clause into the places of its partners, or into some of them
pub record MeetsPlaces (whole : Bool) (bound : ℕ) (set : PartnerSet) (given : Member) (s : LiteralSide) (before now : List Inference) : Type 0 where
  pub entries : List ℕ
  pub rise : IsStrictlyIncreasing entries
  pub all : whole ≡ true → (query : Tree) → start_term (literals_of given) s ≡ Some query → HasCandidates enter_sites place_term set query entries
  pub adds : AddsNamed bound set given (names (name_into bound set given.number s) entries) before now

-- the list grew by the superpositions from sides of its partners into a place of the clause, or from some of them
pub record MeetsStarts (whole : Bool) (bound : ℕ) (set : PartnerSet) (given : Member) (t : LiteralPlace) (before now : List Inference) : Type 0 where
  pub entries : List ℕ
  pub rise : IsStrictlyIncreasing entries
  pub all : whole ≡ true → (query : Tree) → place_term (literals_of given) t ≡ Some query → HasCandidates start_sites start_term set query entries
  pub adds : AddsNamed bound set given (names (name_from bound set given.number t) entries) before now

-- from all sides of a list
abbrev pub MeetsAllPlaces : Bool → ℕ → PartnerSet → Member → List LiteralSide → List Inference → List Inference → Type 0
MeetsAllPlaces whole bound set given [] before now = now ≡ before
MeetsAllPlaces whole bound set given (s ∷ ss) before now =
    (middle : List Inference) × MeetsPlaces whole bound set given s before middle × MeetsAllPlaces whole bound set given ss middle now

-- into all places of a list
abbrev pub MeetsAllStarts : Bool → ℕ → PartnerSet → Member → List LiteralPlace → List Inference → List Inference → Type 0
MeetsAllStarts whole bound set given [] before now = now ≡ before
MeetsAllStarts whole bound set given (t ∷ ts) before now =
    (middle : List Inference) × MeetsStarts whole bound set given t before middle × MeetsAllStarts whole bound set given ts middle now

-- ---- until there are enough

abbrev pub MeetsPlacesUpTo : Option ℕ → ℕ → PartnerSet → Member → LiteralSide → List Inference → List Inference → Type 0
MeetsPlacesUpTo most bound set given s before now =
    MeetsPlaces true bound set given s before now ⊎ (IsTrue (is_enough most (length now)) × MeetsPlaces false bound set given s before now)

abbrev pub MeetsStartsUpTo : Option ℕ → ℕ → PartnerSet → Member → LiteralPlace → List Inference → List Inference → Type 0
MeetsStartsUpTo most bound set given t before now =
    MeetsStarts true bound set given t before now ⊎ (IsTrue (is_enough most (length now)) × MeetsStarts false bound set given t before now)

-- or from the first sides of a list alone
abbrev pub MeetsAllPlacesUpTo : Option ℕ → ℕ → PartnerSet → Member → List LiteralSide → List Inference → List Inference → Type 0
MeetsAllPlacesUpTo most bound set given ss before now =
    MeetsAllPlaces true bound set given ss before now
    ⊎ (IsTrue (is_enough most (length now)) × ((k : ℕ) × MeetsAllPlaces false bound set given (take k ss) before now))

abbrev pub MeetsAllStartsUpTo : Option ℕ → ℕ → PartnerSet → Member → List LiteralPlace → List Inference → List Inference → Type 0
MeetsAllStartsUpTo most bound set given ts before now =
    MeetsAllStarts true bound set given ts before now
    ⊎ (IsTrue (is_enough most (length now)) × ((k : ℕ) × MeetsAllStarts false bound set given (take k ts) before now))
