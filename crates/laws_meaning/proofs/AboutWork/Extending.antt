-- Structures that are extended as symbols are made: those of the symbols made so far stay as they are.
use Rattle.std.proofs.Common.{◌≡◌, ℕ, ◌+◌, ◌<◌, ◌≤◌, ◌==◌, Bool, true, List, [], ◌∷◌, length, if◌then◌else◌, ◌⊎◌, inl, inr, refl, ap, sym, ◌∙◌, arith}
use Rattle.std.specs.List.{AllByRecursion}
use Rattle.std.proofs.lemmas.Bool.{ne_eqb, eq-eqb}
use Rattle.fol_base.specs.Tree.{Tree, tree_variables}
use Rattle.fol_base.specs.Interpretation.{Interpretation, Assignment, symbol_value}
use Rattle.signature.specs.Environment.{Environment, term_in_force}
use Rattle.signature.specs.Clausal.{SymbolNumbers, Made, Worked, Literals, Work}
use Rattle.signature.specs.Truth.{Values, value_in_force}
use Rattle.laws_meaning.proofs.AboutStructures.ListLemmas.{each-weaker}
use Rattle.laws_meaning.proofs.AboutStructures.Structures.{Structure, value, all_hold, value-same}
use Rattle.laws_meaning.proofs.AboutStructures.Search.{HasSize}

-- ---- symbols that were made

-- a symbol of the problem, or one that was made so far
abbrev pub IsOld : SymbolNumbers → Made → ℕ → Type 0
IsOld n m g =
    (g < n.first_skolem + length m.skolem_arities) ⊎ ((n.first_naming ≤ g) × (g < n.first_naming + length m.naming_arities))

pub record Agree (n : SymbolNumbers) (m : Made) (s u : Structure) : Type 0 where
  pub at : (g : ℕ) → IsOld n m g → s g ≡ u g

pub record Grows (m later : Made) : Type 0 where
  pub variables : m.variables ≤ later.variables
  pub skolem : length m.skolem_arities ≤ length later.skolem_arities
  pub naming : length m.naming_arities ≤ length later.naming_arities

pub grows-itself : (m : Made) → Grows m m
grows-itself m = record { variables = omega arith; skolem = omega arith; naming = omega arith }

pub grows-further : (m k l : Made) → Grows m k → Grows k l → Grows m l
grows-further m k l g h =
    record {
      variables = omega (arith, g.variables, h.variables);
      skolem = omega (arith, g.skolem, h.skolem);
      naming = omega (arith, g.naming, h.naming);
    }

pub agree-itself : (n : SymbolNumbers) (m : Made) (s : Structure) → Agree n m s s
agree-itself n m s = record { at = λ g old. refl }

old-later : (n : SymbolNumbers) (m later : Made) (g : ℕ) → Grows m later → IsOld n m g → IsOld n later g
old-later n m later g h (inl k) = inl (omega (arith, k, h.skolem))
old-later n m later g h (inr k) = inr (k.0, omega (arith, k.1, h.naming))

pub agree-before : (n : SymbolNumbers) (m later : Made) (s u : Structure) → Grows m later → Agree n later s u → Agree n m s u
agree-before n m later s u h a = record { at = λ g old. a.at g (old-later n m later g h old) }

pub agree-back : (n : SymbolNumbers) (m : Made) (s u : Structure) → Agree n m s u → Agree n m u s
agree-back n m s u a = record { at = λ g old. sym (a.at g old) }

pub agree-further :
    (n : SymbolNumbers) (m later : Made) (s u v : Structure) → Grows m later → Agree n m s u → Agree n later u v → Agree n m s v
agree-further n m later s u v h a b = record { at = λ g old. a.at g old ∙ b.at g (old-later n m later g h old) }

-- ---- one symbol more

abbrev pub with_symbol : Structure → ℕ → (List ℕ → ℕ) → Structure
with_symbol s f given g = if g == f then given else s g

pub symbol-itself : (s : Structure) (f : ℕ) (given : List ℕ → ℕ) → with_symbol s f given f ≡ given
symbol-itself s f given = ap (λ (b : Bool). if b then given else s f) (eq-eqb f f refl)

pub symbol-other : (s : Structure) (f : ℕ) (given : List ℕ → ℕ) (g : ℕ) → (g ≡ f → ⊥) → with_symbol s f given g ≡ s g
symbol-other s f given g other = ap (λ (b : Bool). if b then given else s g) (ne_eqb g f other)

-- ---- what stays as the symbols made so far stay

pub record KeptTerm (n : SymbolNumbers) (m : Made) (t : Tree) : Type 0 where
  pub below : AllByRecursion (λ v. v < m.variables) (tree_variables t)
  pub kept : (s u : Structure) → Agree n m s u → (ρ : Assignment) → value s ρ t ≡ value u ρ t

pub record KeptClauses (n : SymbolNumbers) (m : Made) (cs : List Literals) : Type 0 where
  pub kept : (s u : Structure) → Agree n m s u → (ρ : Assignment) → all_hold s ρ cs ≡ all_hold u ρ cs

pub term-later : (n : SymbolNumbers) (m later : Made) (t : Tree) → Grows m later → KeptTerm n m t → KeptTerm n later t
term-later n m later t h k =
    record {
      below = each-weaker (λ v. v < m.variables) (λ v. v < later.variables) (λ v l. omega (arith, l, h.variables)) (tree_variables t) k.below;
      kept = λ s u a ρ. k.kept s u (agree-before n m later s u h a) ρ;
    }

pub clauses-later : (n : SymbolNumbers) (m later : Made) (cs : List Literals) → Grows m later → KeptClauses n m cs → KeptClauses n later cs
clauses-later n m later cs h k = record { kept = λ s u a ρ. k.kept s u (agree-before n m later s u h a) ρ }

-- the terms in force for names
abbrev pub KeptForce : SymbolNumbers → Made → Environment → List (List ℕ) → Type 0
KeptForce n m env names = AllByRecursion (λ x. KeptTerm n m (term_in_force env x)) names

pub force-later :
    (n : SymbolNumbers) (m later : Made) (env : Environment) (names : List (List ℕ)) → Grows m later → KeptForce n m env names
    → KeptForce n later env names
force-later n m later env names h =
    each-weaker (λ x. KeptTerm n m (term_in_force env x)) (λ x. KeptTerm n later (term_in_force env x))
    (λ x. term-later n m later (term_in_force env x) h) names

-- ---- a structure that is ready for the work

pub record Base (n : SymbolNumbers) (i : Interpretation) : Type 0 where
  pub some : 1 ≤ i.size
  pub first : 1 ≤ n.first_skolem
  pub known : n.first_skolem ≡ length n.symbols

-- It has the interpretation's values at the problem's symbols, values below the size at the Skolem symbols, truth values at the naming
-- symbols; what defines names is true in it.
pub record Ready (n : SymbolNumbers) (i : Interpretation) (m : Made) (s : Structure) : Type 0 where
  pub base : (g : ℕ) → g < n.first_skolem → s g ≡ symbol_value i g
  pub skolem : (g : ℕ) → n.first_skolem ≤ g → g < n.first_naming → (vs : List ℕ) → s g vs < i.size
  pub naming : (g : ℕ) → n.first_naming ≤ g → (vs : List ℕ) → s g vs < 2
  pub fits : n.first_skolem + length m.skolem_arities ≤ n.first_naming
  pub defining : (ρ : Assignment) → HasSize i.size ρ → all_hold s ρ m.defining ≡ true
  pub kept : KeptClauses n m m.defining

-- What the work on a formula with that many Skolem symbols comes to: where the meaning holds under values of the variables, the
-- clauses are true in an extended structure.
pub record Outcome (n : SymbolNumbers) (i : Interpretation) (m : Made) (s : Structure) (Means : Assignment → Type 0) (count : ℕ) (w : Worked) : Type 0 where
  pub structure : Structure
  pub agree : Agree n m s structure
  pub ready : Ready n i w.made structure
  pub grows : Grows m w.made
  pub counted : length w.made.skolem_arities ≡ length m.skolem_arities + count
  pub kept : KeptClauses n w.made w.clauses
  pub holds : (ρ : Assignment) → HasSize i.size ρ → Means ρ → all_hold structure ρ w.clauses ≡ true

pub outcome-weaker :
    (n : SymbolNumbers) (i : Interpretation) (m : Made) (s : Structure) (Means Stronger : Assignment → Type 0) (count : ℕ) (w : Worked)
    → ((ρ : Assignment) → HasSize i.size ρ → Stronger ρ → Means ρ) → Outcome n i m s Means count w → Outcome n i m s Stronger count w
outcome-weaker n i m s Means Stronger count w h o =
    record {
      structure = o.structure;
      agree = o.agree;
      ready = o.ready;
      grows = o.grows;
      counted = o.counted;
      kept = o.kept;
      holds = λ ρ has k. o.holds ρ has (h ρ has k);
    }

-- ---- the meaning of a formula

-- the values of names are those of the terms in force
abbrev pub InForce : Structure → Environment → List (List ℕ) → Assignment → Values → Type 0
InForce s env names ρ V = AllByRecursion (λ x. value_in_force V x ≡ value s ρ (term_in_force env x)) names

-- a test of values holds for those of the terms in force
pub record Meant (s : Structure) (env : Environment) (names : List (List ℕ)) (test : Values → Bool) (ρ : Assignment) : Type 0 where
  pub values : Values
  pub in_force : InForce s env names ρ values
  pub passes : test values ≡ true

pub force-agree :
    (n : SymbolNumbers) (m : Made) (s u : Structure) (env : Environment) (names : List (List ℕ)) (ρ : Assignment) (V : Values)
    → KeptForce n m env names → Agree n m s u → InForce s env names ρ V → InForce u env names ρ V
force-agree n m s u env [] ρ V k a h = tt
force-agree n m s u env (x ∷ names) ρ V k a h = (h.0 ∙ k.0.kept s u a ρ, force-agree n m s u env names ρ V k.1 a h.1)

pub meant-agree :
    (n : SymbolNumbers) (m : Made) (s u : Structure) (env : Environment) (names : List (List ℕ)) (test : Values → Bool) (ρ : Assignment)
    → KeptForce n m env names → Agree n m s u → Meant s env names test ρ → Meant u env names test ρ
meant-agree n m s u env names test ρ k a h =
    record { values = h.values; in_force = force-agree n m s u env names ρ h.values k a h.in_force; passes = h.passes }

-- a meaning that depends on the variables below a number alone
pub record Local (b : ℕ) (Means : Assignment → Type 0) : Type 0 where
  pub moves : (ρ τ : Assignment) → ((v : ℕ) → v < b → ρ v ≡ τ v) → Means ρ → Means τ

force-local :
    (n : SymbolNumbers) (m : Made) (s : Structure) (env : Environment) (names : List (List ℕ)) (ρ τ : Assignment) (V : Values)
    → KeptForce n m env names → ((v : ℕ) → v < m.variables → ρ v ≡ τ v) → InForce s env names ρ V → InForce s env names τ V
force-local n m s env [] ρ τ V k e h = tt
force-local n m s env (x ∷ names) ρ τ V k e h = (
  h.0
      ∙ value-same s ρ τ (term_in_force env x)
      (each-weaker (λ v. v < m.variables) (λ v. ρ v ≡ τ v) e (tree_variables (term_in_force env x)) k.0.below),
  force-local n m s env names ρ τ V k.1 e h.1,
)

pub meant-local :
    (n : SymbolNumbers) (m : Made) (s : Structure) (env : Environment) (names : List (List ℕ)) (test : Values → Bool)
    → KeptForce n m env names → Local m.variables (Meant s env names test)
meant-local n m s env names test k =
    record {
      moves = λ ρ τ e h.
          record { values = h.values; in_force = force-local n m s env names ρ τ h.values k e h.in_force; passes = h.passes };
    }

-- ---- works

-- a work that comes to an outcome from each structure that is ready
pub record Sound (n : SymbolNumbers) (i : Interpretation) (count : ℕ) (env : Environment) (names : List (List ℕ)) (test : Values → Bool) (work : Work) : Type 0 where
  pub from :
      (m : Made) (s : Structure) → Ready n i m s → n.first_skolem + (length m.skolem_arities + count) ≤ n.first_naming
      → KeptForce n m env names → Outcome n i m s (Meant s env names test) count (work m)

pub sound-weaker :
    (n : SymbolNumbers) (i : Interpretation) (count : ℕ) (env : Environment) (names : List (List ℕ)) (test stronger : Values → Bool) (work : Work)
    → ((V : Values) → stronger V ≡ true → test V ≡ true) → Sound n i count env names test work → Sound n i count env names stronger work
sound-weaker n i count env names test stronger work h w =
    record {
      from = λ m s ready fits k.
          outcome-weaker n i m s (Meant s env names test) (Meant s env names stronger) count (work m)
          (λ ρ has p. record { values = p.values; in_force = p.in_force; passes = h p.values p.passes })
          (w.from m s ready fits k);
    }
