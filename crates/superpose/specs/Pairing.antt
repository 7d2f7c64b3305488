-- All superpositions of one clause into another.
use Rattle.std.specs.Prelude.{◌≡◌, ◌⊎◌, ℕ, Bool, true, false, not, ◌&&◌, ◌==◌, List, [], ◌∷◌, ◌++◌, length, take, map, flat_map, Option, None, Some, IsTrue, if◌then◌else◌}
use Rattle.fol_base.specs.Clause.{TreeClause}
use Rattle.fol_base.specs.Selection.{SelectionMode}
use Rattle.fol_base.specs.WellFormed.{SymbolUse, are_literals_of}
use Rattle.kernel_steps.specs.declared.key.Key.{Key}
use Rattle.kernel_steps.specs.declared.key.Key.TheVariants.{Para}
use Rattle.bank_clause.specs.Clause.{clause_at}
use Rattle.bank_clause.specs.declared.member.Member.{Member}
use Rattle.eq_rules.specs.Inferences.{AreInferences, AreSomeInferences, alone, is_enough}
use Rattle.eq_rules.specs.Trying.{IsTried}
use Rattle.eq_rules.specs.declared.inference.Made.{Made}
use Rattle.eq_rules.specs.declared.inference.Inference.{Inference}
use Rattle.superpose.specs.Sites.{start_sites, enter_sites}
use Rattle.superpose.specs.Superposing.{para_key}
use Rattle.eq_rules.specs.declared.concluding.LiteralSide.{LiteralSide}
use Rattle.superpose.specs.declared.sites.LiteralPlace.{LiteralPlace}

-- ---- names that are tried one after another

-- the entry of a name that has an inference
abbrev pub entry_of : Key → Option Made → List Inference
entry_of key None = []
entry_of key (Some made) = record { key = key; result = made } ∷ []

-- the list has the inferences of these names, in order
abbrev pub AreTried : (ℕ → Bool) → SelectionMode → (ℕ → Option TreeClause) → List Key → List Inference → Type 0
AreTried is_predicate mode clauses [] found = found ≡ []
AreTried is_predicate mode clauses (key ∷ keys) found =
    (made : Option Made) × (rest : List Inference) × (found ≡ entry_of key made ++ rest) × IsTried is_predicate mode clauses key made
    × AreTried is_predicate mode clauses keys rest

-- the names from sides of one clause into places of another
abbrev pub keys_from : ℕ → LiteralSide → ℕ → List LiteralPlace → List Key
keys_from first s second into = map (para_key first s second) into

abbrev pub keys_between : ℕ → List LiteralSide → ℕ → List LiteralPlace → List Key
keys_between first from second into = flat_map (λ s. keys_from first s second into) from

-- the list grew by the inferences of these names, wherever the two clauses are looked up
abbrev pub AddsTried : SelectionMode → Member → Member → List Key → List Inference → List Inference → Type 0
AddsTried mode m n keys before now =
    (usage : SymbolUse) (clauses : ℕ → Option TreeClause)
    → IsTrue (are_literals_of usage (clause_at m.clause).literals) → IsTrue (are_literals_of usage (clause_at n.clause).literals)
    → clauses m.number ≡ Some (clause_at m.clause) → clauses n.number ≡ Some (clause_at n.clause)
    → (more : List Inference) × (now ≡ before ++ more) × AreTried usage.is_predicate mode clauses keys more

-- the list grew by the inferences of these names, or of some first ones of them, with which it has enough
abbrev pub TriesUpTo : Option ℕ → SelectionMode → Member → Member → List Key → List Inference → List Inference → Type 0
TriesUpTo most mode m n keys before now =
    AddsTried mode m n keys before now
    ⊎ (IsTrue (is_enough most (length now))
    × ((tried : List Key) × (rest : List Key) × (keys ≡ tried ++ rest) × AddsTried mode m n tried before now))

-- all names from sites of the first into sites of the second
abbrev pub pair_keys : SelectionMode → Member → Member → List Key
pair_keys mode m n =
    keys_between m.number (start_sites mode (clause_at m.clause).literals) n.number (enter_sites mode (clause_at n.clause).literals)

-- the list begins with the one before
abbrev pub Begins : List Inference → List Inference → Type 0
Begins before now = take (length before) now ≡ before

-- ---- lists of inferences

-- superpositions of one clause into another, by their numbers
abbrev pub is_from_into : ℕ → ℕ → Key → Bool
is_from_into a b (Para first i s second j z place) = (first == a) && (second == b)
is_from_into a b _ = false

-- the list grew by exactly the superpositions of one clause into another, each once, wherever the two are looked up
abbrev pub AddsSuperpositions : SelectionMode → Member → Member → List Inference → List Inference → Type 0
AddsSuperpositions mode m n before now =
    (usage : SymbolUse) (clauses : ℕ → Option TreeClause)
    → IsTrue (are_literals_of usage (clause_at m.clause).literals) → IsTrue (are_literals_of usage (clause_at n.clause).literals)
    → clauses m.number ≡ Some (clause_at m.clause) → clauses n.number ≡ Some (clause_at n.clause)
    → (more : List Inference) × (now ≡ before ++ more) × AreInferences usage.is_predicate mode clauses (is_from_into m.number n.number) more

-- by some of them, each once
abbrev pub AddsSomeSuperpositions : SelectionMode → Member → Member → List Inference → List Inference → Type 0
AddsSomeSuperpositions mode m n before now =
    (usage : SymbolUse) (clauses : ℕ → Option TreeClause)
    → IsTrue (are_literals_of usage (clause_at m.clause).literals) → IsTrue (are_literals_of usage (clause_at n.clause).literals)
    → clauses m.number ≡ Some (clause_at m.clause) → clauses n.number ≡ Some (clause_at n.clause)
    → (more : List Inference) × (now ≡ before ++ more) × AreSomeInferences usage.is_predicate mode clauses (is_from_into m.number n.number) more

-- by all of them, or by some with which it has enough
abbrev pub AddsSuperpositionsUpTo : Option ℕ → SelectionMode → Member → Member → List Inference → List Inference → Type 0
AddsSuperpositionsUpTo most mode m n before now =
    AddsSuperpositions mode m n before now ⊎ (IsTrue (is_enough most (length now)) × AddsSomeSuperpositions mode m n before now)

-- the clauses of two members, by their numbers
abbrev pub two : Member → Member → ℕ → Option TreeClause
two m n k = if k == m.number then Some (clause_at m.clause) else alone n k

-- superpositions of different clauses
abbrev pub is_between : Key → Bool
is_between (Para first i s second j z place) = not (first == second)
is_between _ = false

abbrev pub is_superposition : Key → Bool
is_superposition (Para first i s second j z place) = true
is_superposition _ = false

-- of two members alone, under each use of the symbols under which both clauses are well-formed
abbrev pub AreInferencesBetween : SelectionMode → Member → Member → (Key → Bool) → List Inference → Type 0
AreInferencesBetween mode m n passes found =
    (usage : SymbolUse) → IsTrue (are_literals_of usage (clause_at m.clause).literals) → IsTrue (are_literals_of usage (clause_at n.clause).literals)
    → AreInferences usage.is_predicate mode (two m n) passes found
