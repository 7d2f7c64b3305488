-- The way back, from the clauses to the formula: where clauses are true near an assignment, and which variables they have.
use Rattle.std.proofs.Common.{◌≡◌, ℕ, ◌+◌, ◌<◌, ◌≤◌, Bool, true, List, [], ◌∷◌, ◌++◌, length, map, flat_map, ◌⊎◌, inl, sym, ◌∙◌, arith}
use Rattle.std.specs.List.{AllByRecursion}
use Rattle.fol_base.specs.Tree.{tree_variables}
use Rattle.fol_base.specs.Clause.{literal_variables}
use Rattle.fol_base.specs.Interpretation.{Assignment}
use Rattle.signature.specs.Environment.{Environment, term_in_force}
use Rattle.signature.specs.Clausal.{SymbolNumbers, Made, Worked, Literals, Work, all_pairs}
use Rattle.signature.specs.Truth.{Values}
use Rattle.laws_meaning.proofs.AboutStructures.ListLemmas.{each-joined, each-weaker}
use Rattle.laws_meaning.proofs.AboutStructures.Structures.{Structure, all_hold, value-same}
use Rattle.laws_meaning.proofs.AboutStructures.Search.{HasSize}
use Rattle.laws_meaning.proofs.AboutWork.Extending.{InForce}

-- ---- truth

-- true under all values of the variables
abbrev pub AllHold : ℕ → Structure → List Literals → Type 0
AllHold size s cs = (τ : Assignment) → HasSize size τ → all_hold s τ cs ≡ true

-- two assignments have the same values below a number
abbrev pub Near : ℕ → Assignment → Assignment → Type 0
Near b τ ρ = (v : ℕ) → v < b → τ v ≡ ρ v

-- true whatever values the variables from a number on have
abbrev pub HoldNear : ℕ → Structure → ℕ → Assignment → List Literals → Type 0
HoldNear size s b ρ cs = (τ : Assignment) → HasSize size τ → Near b τ ρ → all_hold s τ cs ≡ true

-- ---- variables

-- a number below b, or from another on
abbrev pub IsSpread : ℕ → ℕ → ℕ → Type 0
IsSpread b low v = (v < b) ⊎ (low ≤ v)

abbrev pub SpreadTo : ℕ → ℕ → ℕ → ℕ → Type 0
SpreadTo b low n v = IsSpread b low v × (v < n)

-- each variable of the terms in force for names
abbrev pub EachForced : (ℕ → Type 0) → Environment → List (List ℕ) → Type 0
EachForced P env names = AllByRecursion (λ x. AllByRecursion P (tree_variables (term_in_force env x))) names

-- each variable of clauses
abbrev pub EachIn : (ℕ → Type 0) → Literals → Type 0
EachIn P c = AllByRecursion (λ l. AllByRecursion P (literal_variables l)) c

abbrev pub EachVariable : (ℕ → Type 0) → List Literals → Type 0
EachVariable P cs = AllByRecursion (EachIn P) cs

pub forced-weaker :
    (P Q : ℕ → Type 0) → ((v : ℕ) → P v → Q v) → (env : Environment) (names : List (List ℕ)) → EachForced P env names → EachForced Q env names
forced-weaker P Q w env names h =
    each-weaker (λ x. AllByRecursion P (tree_variables (term_in_force env x))) (λ x. AllByRecursion Q (tree_variables (term_in_force env x)))
    (λ x k. each-weaker P Q w (tree_variables (term_in_force env x)) k) names h

pub variables-weaker : (P Q : ℕ → Type 0) → ((v : ℕ) → P v → Q v) → (cs : List Literals) → EachVariable P cs → EachVariable Q cs
variables-weaker P Q w cs h =
    each-weaker (EachIn P) (EachIn Q)
    (λ c k. each-weaker (λ l. AllByRecursion P (literal_variables l)) (λ l. AllByRecursion Q (literal_variables l)) (λ l g. each-weaker P Q w (literal_variables l) g) c k)
    cs h

before-each : (P : ℕ → Type 0) (c : Literals) (ds : List Literals) → EachIn P c → EachVariable P ds → EachVariable P (map (λ d. c ++ d) ds)
before-each P c [] h k = tt
before-each P c (d ∷ ds) h k = (each-joined (λ l. AllByRecursion P (literal_variables l)) c d h k.0, before-each P c ds h k.1)

pub pairs-each : (P : ℕ → Type 0) (cs ds : List Literals) → EachVariable P cs → EachVariable P ds → EachVariable P (all_pairs cs ds)
pairs-each P [] ds h k = tt
pairs-each P (c ∷ cs) ds h k =
    each-joined (EachIn P) (map (λ d. c ++ d) ds) (all_pairs cs ds) (before-each P c ds h.0 k) (pairs-each P cs ds h.1 k)

-- the variables of all clauses in one list
pub flat-each : (P : ℕ → Type 0) (cs : List Literals) → EachVariable P cs → AllByRecursion P (flat_map (λ c. flat_map literal_variables c) cs)
flat-each P [] h = tt
flat-each P (c ∷ cs) h =
    each-joined P (flat_map literal_variables c) (flat_map (λ d. flat_map literal_variables d) cs) (clause c h.0) (flat-each P cs h.1)
  where
    clause : (d : Literals) → EachIn P d → AllByRecursion P (flat_map literal_variables d)
    clause [] k = tt
    clause (l ∷ d) k = each-joined P (literal_variables l) (flat_map literal_variables d) k.0 (clause d k.1)

-- ---- what is in force stays so near an assignment

pub force-near :
    (s : Structure) (b : ℕ) (env : Environment) (names : List (List ℕ)) (ρ τ : Assignment) (V : Values)
    → EachForced (λ v. v < b) env names → Near b τ ρ → InForce s env names ρ V → InForce s env names τ V
force-near s b env [] ρ τ V k e h = tt
force-near s b env (x ∷ names) ρ τ V k e h = (
  h.0
      ∙ value-same s ρ τ (term_in_force env x) (each-weaker (λ v. v < b) (λ v. ρ v ≡ τ v) (λ v l. sym (e v l)) (tree_variables (term_in_force env x)) k.0),
  force-near s b env names ρ τ V k.1 e h.1,
)

-- ---- works

pub record Ranged (b low : ℕ) (m : Made) (w : Worked) : Type 0 where
  pub variables : m.variables ≤ w.made.variables
  pub each : EachVariable (SpreadTo b low w.made.variables) w.clauses

-- where the clauses and the definitions of names are true, the test holds
pub record Returned (size : ℕ) (s : Structure) (env : Environment) (names : List (List ℕ)) (test : Values → Bool) (m : Made) (w : Worked) : Type 0 where
  pub defining : AllHold size s m.defining
  pub returns :
      (ρ : Assignment) → HasSize size ρ → (V : Values) → InForce s env names ρ V → HoldNear size s m.variables ρ w.clauses → test V ≡ true

pub record Back (n : SymbolNumbers) (size : ℕ) (s : Structure) (count : ℕ) (env : Environment) (names : List (List ℕ)) (test : Values → Bool) (work : Work) : Type 0 where
  pub counted : (m : Made) → length (work m).made.skolem_arities ≡ length m.skolem_arities + count
  pub ranged :
      (b low : ℕ) (m : Made) → low ≤ m.variables → EachForced (SpreadTo b low m.variables) env names → Ranged b low m (work m)
  pub returned :
      (m : Made) → n.first_skolem + (length m.skolem_arities + count) ≤ n.first_naming → EachForced (λ v. v < m.variables) env names
      → AllHold size s (work m).made.defining → Returned size s env names test m (work m)

-- what is below a number is spread to it
pub spread-below : (low n : ℕ) (env : Environment) (names : List (List ℕ)) → EachForced (λ v. v < n) env names → EachForced (SpreadTo n low n) env names
spread-below low n env names h = forced-weaker (λ v. v < n) (SpreadTo n low n) (λ v l. (inl l, l)) env names h

pub spread-later :
    (b low n k : ℕ) (env : Environment) (names : List (List ℕ)) → n ≤ k → EachForced (SpreadTo b low n) env names → EachForced (SpreadTo b low k) env names
spread-later b low n k env names l h = forced-weaker (SpreadTo b low n) (SpreadTo b low k) (λ v g. (g.0, omega (arith, g.1, l))) env names h
