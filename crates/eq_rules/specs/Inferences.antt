-- Inferences of clauses by their names, each with what becomes of it: which are made, which are set aside for their size, and lists of
-- exactly those of some names (Bachmair and Ganzinger 1994).
use Rattle.std.specs.Prelude.{◌≡◌, ◌⊎◌, ℕ, Bool, true, false, ◌==◌, nat_le, List, [], ◌++◌, length, All, Contains, slice_get, Option, None, Some, IsTrue, if◌then◌else◌}
use Rattle.fol_base.specs.Tree.{Tree, trees_of, trees_variables}
use Rattle.fol_base.specs.Clause.{TreeClause, clause_variables}
use Rattle.fol_base.specs.Kind.{is_function_term}
use Rattle.fol_base.specs.Literal.{clause_of}
use Rattle.fol_base.specs.Selection.{SelectionMode}
use Rattle.fol_base.specs.WellFormed.{SymbolUse, are_literals_of}
use Rattle.kernel_steps.specs.Named.{IsInference}
use Rattle.kernel_steps.specs.Sized.{IsSizedInference}
use Rattle.kernel_steps.specs.Lines.{clause_parents, key_of, is_small_term}
use Rattle.kernel_steps.specs.Conclusion.{verdict, concludes}
use Rattle.kernel_steps.specs.Soundness.{binds_each}
use Rattle.kernel_steps.specs.Symbols.{symbols_pass, clause_symbols_pass}
use Rattle.kernel_steps.specs.declared.key.Key.{Key}
use Rattle.kernel_steps.specs.declared.key.Key.TheVariants.{Para, Refl, Factor, Replaced}
use Rattle.kernel_steps.specs.declared.step.Step.{Step}
use Rattle.kernel_steps.specs.declared.step.Step.TheVariants as step
use Rattle.bank_clause.specs.Clause.{clause_at}
use Rattle.bank_clause.specs.declared.member.Member.{Member}
use Rattle.eq_rules.specs.Renumbered.{AreNumberedInOrder}
use Rattle.eq_rules.specs.declared.inference.Made.{Made}
use Rattle.eq_rules.specs.declared.inference.Made.TheVariants.{Conclusion, Heavy}
use Rattle.eq_rules.specs.declared.inference.Inference.{Inference}

-- ---- steps

-- the terms that it puts in, one premise after another
abbrev pub bindings_of : Step → List Tree
bindings_of (step.Para first second from from_side into into_side place first_bind second_bind) = first_bind ++ second_bind
bindings_of (step.Refl parent literal bind) = bind
bindings_of (step.Factor parent becomes becomes_side other other_side bind) = bind
bindings_of _ = []

-- the premises of the inference of that name
abbrev pub IsPremise : (ℕ → Option TreeClause) → Key → TreeClause → Type 0
IsPremise clauses (Para first from from_side second into into_side place) c = (clauses first ≡ Some c) ⊎ (clauses second ≡ Some c)
IsPremise clauses (Refl clause literal) c = clauses clause ≡ Some c
IsPremise clauses (Factor clause becomes becomes_side other other_side) c = clauses clause ≡ Some c
IsPremise clauses (Replaced clause) c = ⊥

-- ---- what becomes of an inference

-- A conclusion and its step: it is the conclusion of the inference of that name, which isn't heavy; the step makes that inference, and
-- the kernel's verdict on it is the conclusion. The variables are numbered by first occurrence in the conclusion, and then in what the
-- step puts in. These are small function terms with no symbols but the premises': each test of symbols that the premises pass, they pass.
pub record IsConcluded
    (is_predicate : ℕ → Bool) (mode : SelectionMode) (clauses : ℕ → Option TreeClause) (key : Key) (by : Step) (c : TreeClause) : Type 0 where
  pub inferred : IsSizedInference is_predicate mode clauses key c false
  pub of_key : key_of by ≡ Some key
  pub right_step : verdict by (clause_parents clauses) ≡ concludes c
  pub numbered : AreNumberedInOrder (clause_variables c)
  pub bindings_numbered : AreNumberedInOrder (clause_variables c ++ trees_variables (trees_of (bindings_of by)))
  pub terms : IsTrue (binds_each (is_function_term is_predicate) by)
  pub small : IsTrue (binds_each is_small_term by)
  pub symbols :
      (test : ℕ → ℕ → Bool) → ((d : TreeClause) → IsPremise clauses key d → IsTrue (clause_symbols_pass test d))
      → IsTrue (binds_each (symbols_pass test) by)

abbrev pub IsMade : (ℕ → Bool) → SelectionMode → (ℕ → Option TreeClause) → Key → Made → Type 0
IsMade is_predicate mode clauses key (Conclusion by clause) = IsConcluded is_predicate mode clauses key by (clause_of clause)
IsMade is_predicate mode clauses key Heavy = (c : TreeClause) × IsSizedInference is_predicate mode clauses key c true

-- ---- lists of inferences

-- Exactly the inferences whose names pass a test, each once.
pub record AreInferences
    (is_predicate : ℕ → Bool) (mode : SelectionMode) (clauses : ℕ → Option TreeClause) (passes : Key → Bool) (found : List Inference) : Type 0 where
  pub made : All (λ (e : Inference). IsTrue (passes e.key) × IsMade is_predicate mode clauses e.key e.result) found
  pub complete :
      (key : Key) (c : TreeClause) → IsTrue (passes key) → IsInference is_predicate mode clauses key c
      → (e : Inference) × Contains found e × (e.key ≡ key)
  pub once :
      (m n : ℕ) (d e : Inference) → slice_get found m ≡ Some d → slice_get found n ≡ Some e → d.key ≡ e.key → m ≡ n

-- Inferences whose names pass a test, each once, and perhaps not all of them.
pub record AreSomeInferences
    (is_predicate : ℕ → Bool) (mode : SelectionMode) (clauses : ℕ → Option TreeClause) (passes : Key → Bool) (found : List Inference) : Type 0 where
  pub made : All (λ (e : Inference). IsTrue (passes e.key) × IsMade is_predicate mode clauses e.key e.result) found
  pub once :
      (m n : ℕ) (d e : Inference) → slice_get found m ≡ Some d → slice_get found n ≡ Some e → d.key ≡ e.key → m ≡ n

-- a count is enough, where a number is asked for
abbrev pub is_enough : Option ℕ → ℕ → Bool
is_enough None count = false
is_enough (Some most) count = nat_le most count

-- the clause of a member, by its number
abbrev pub alone : Member → ℕ → Option TreeClause
alone m n = if n == m.number then Some (clause_at m.clause) else None

-- of a member alone, under each use of the symbols under which its clause is well-formed
abbrev pub AreInferencesOf : SelectionMode → Member → (Key → Bool) → List Inference → Type 0
AreInferencesOf mode m passes found =
    (usage : SymbolUse) → IsTrue (are_literals_of usage (clause_at m.clause).literals)
    → AreInferences usage.is_predicate mode (alone m) passes found

abbrev pub AreSomeInferencesOf : SelectionMode → Member → (Key → Bool) → List Inference → Type 0
AreSomeInferencesOf mode m passes found =
    (usage : SymbolUse) → IsTrue (are_literals_of usage (clause_at m.clause).literals)
    → AreSomeInferences usage.is_predicate mode (alone m) passes found

-- all of them, or some that are enough
abbrev pub AreInferencesUpTo : Option ℕ → SelectionMode → Member → (Key → Bool) → List Inference → Type 0
AreInferencesUpTo most mode m passes found =
    AreInferencesOf mode m passes found ⊎ (IsTrue (is_enough most (length found)) × AreSomeInferencesOf mode m passes found)

abbrev pub is_resolution : Key → Bool
is_resolution (Refl clause literal) = true
is_resolution _ = false

abbrev pub is_factoring : Key → Bool
is_factoring (Factor clause becomes becomes_side other other_side) = true
is_factoring _ = false
