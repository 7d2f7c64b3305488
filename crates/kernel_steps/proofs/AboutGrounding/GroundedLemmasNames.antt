-- Lists of names, and the choices of ground instances for the positive ones.
use Rattle.std.proofs.Common.{◌≡◌, ℕ, inl, inr, Bool, true, false, ◌&&◌, ◌||◌, List, [], ◌∷◌, ◌++◌, refl, ap, sym, ◌∙◌, ⊎_elim}
use Rattle.std.specs.Prelude.{not, if◌then◌else◌}
use Rattle.std.specs.List.{list_any}
use Rattle.std.proofs.lemmas.Bool.{and_from, or_cases, or_left, or_right, false≢true, not_from_false}
use Rattle.std.proofs.lemmas.List.Folds.{list_any-append}
use Rattle.plain_types.specs.declared.sequence.NameLit.{NameLit}
use Rattle.plain_types.specs.Names.{same_name, opposite, has_name, without, resolvent, positive_of, negative_of}
use Rattle.plain_types.proofs.NameLemmas.{same_name-refl, same_name-true, has_name-without}
use Rattle.fol_base.specs.Clause.{TreeClause}
use Rattle.fol_base.specs.Ground.{GroundClause}
use Rattle.fol_base.specs.Symbols.{FunctionSymbols}
use Rattle.fol_base.specs.Interpretation.{Interpretation, literal_true_under, no_values, clause_true}
use Rattle.kernel_steps.specs.Names.{sorted_names}
use Rattle.kernel_steps.proofs.AboutNames.NameTruth.{has_name-sorted_names}
use Rattle.kernel_steps.specs.Soundness.{IsUsable, IsChoice, chosen_literals}

-- ---- names in lists

-- a test that a name of the list passes
pub list_any-name :
    (p : NameLit → Bool) (n : NameLit) (ns : List NameLit) → has_name n ns ≡ true → p n ≡ true → list_any p ns ≡ true
list_any-name p n [] has passes = absurd (false≢true has)
list_any-name p n (m ∷ ms) has passes =
    ⊎_elim
    (λ here. or_left (p m) (list_any p ms) (ap p (sym (same_name-true n m here)) ∙ passes))
    (λ later. or_right (p m) (list_any p ms) (list_any-name p n ms later passes))
    (or_cases (same_name n m) (has_name n ms) has)

-- a test that some name passes
pub name_that_passes :
    (p : NameLit → Bool) (ns : List NameLit)
    → list_any p ns ≡ true → (n : NameLit) × (has_name n ns ≡ true) × (p n ≡ true)
name_that_passes p [] some = absurd (false≢true some)
name_that_passes p (m ∷ ms) some =
    ⊎_elim
    (λ here. (m, or_left (same_name m m) (has_name m ms) (same_name-refl m), here))
    (λ later. let it = name_that_passes p ms later in (it.0, or_right (same_name it.0 m) (has_name it.0 ms) it.1, it.2))
    (or_cases (p m) (list_any p ms) some)

-- the names of one list are among those of another
abbrev pub AreAmong : List NameLit → List NameLit → Type 0
AreAmong ns ms = (n : NameLit) → has_name n ns ≡ true → has_name n ms ≡ true

pub AreAmong-itself : (ns : List NameLit) → AreAmong ns ns
AreAmong-itself ns n has = has

pub AreAmong-front : (ns ms : List NameLit) → AreAmong ns (ns ++ ms)
AreAmong-front ns ms n has = list_any-append (same_name n) ns ms ∙ or_left (has_name n ns) (has_name n ms) has

pub AreAmong-back : (ns ms : List NameLit) → AreAmong ms (ns ++ ms)
AreAmong-back ns ms n has = list_any-append (same_name n) ns ms ∙ or_right (has_name n ns) (has_name n ms) has

-- ---- sorted names

pub AreAmong-sorted : (ns : List NameLit) → AreAmong ns (sorted_names ns)
AreAmong-sorted ns n has = has_name-sorted_names n ns ∙ has

-- ---- resolvents

without-keeps :
    (n : NameLit) (ns : List NameLit) (k : NameLit)
    → has_name k ns ≡ true → same_name n k ≡ false → has_name k (without n ns) ≡ true
without-keeps n ns k has other =
    has_name-without n k ns
    ∙ and_from (has_name k ns) (not (same_name n k)) has (not_from_false (same_name n k) other)

-- all names but the pivot stay, and all but its opposite
pub resolvent-first :
    (pivot : NameLit) (ns ms : List NameLit) (k : NameLit)
    → has_name k ns ≡ true → same_name pivot k ≡ false → has_name k (sorted_names (resolvent pivot ns ms)) ≡ true
resolvent-first pivot ns ms k has other =
    AreAmong-sorted (resolvent pivot ns ms) k
    (AreAmong-front (without pivot ns) (without (opposite pivot) ms) k (without-keeps pivot ns k has other))

pub resolvent-second :
    (pivot : NameLit) (ns ms : List NameLit) (k : NameLit)
    → has_name k ms ≡ true → same_name (opposite pivot) k ≡ false → has_name k (sorted_names (resolvent pivot ns ms)) ≡ true
resolvent-second pivot ns ms k has other =
    AreAmong-sorted (resolvent pivot ns ms) k
    (AreAmong-back (without pivot ns) (without (opposite pivot) ms) k (without-keeps (opposite pivot) ms k has other))

-- ---- choices

-- whether what is chosen for a name is true
abbrev pub chosen_name_true : Interpretation → (ℕ → GroundClause) → NameLit → Bool
chosen_name_true i choice n = n.positive && clause_true i (choice n.name)

-- whether what is chosen for one of the names is
abbrev pub chosen_true : Interpretation → (ℕ → GroundClause) → List NameLit → Bool
chosen_true i choice ns = list_any (chosen_name_true i choice) ns

pub chosen_literals-truth :
    (i : Interpretation) (choice : ℕ → GroundClause) (ns : List NameLit)
    → clause_true i (chosen_literals choice ns) ≡ chosen_true i choice ns
chosen_literals-truth i choice [] = refl
chosen_literals-truth i choice (n ∷ ns) =
    one n.positive (choice n.name) (chosen_literals choice ns)
    ∙ ap (λ b. chosen_name_true i choice n || b) (chosen_literals-truth i choice ns)
  where
    one :
        (positive : Bool) (g rest : GroundClause)
        → clause_true i (if positive then g ++ rest else rest) ≡ ((positive && clause_true i g) || clause_true i rest)
    one true g rest = list_any-append (literal_true_under i no_values) g rest
    one false g rest = refl

pub chosen_true-among :
    (i : Interpretation) (choice : ℕ → GroundClause) (ns ms : List NameLit)
    → AreAmong ns ms → chosen_true i choice ns ≡ true → chosen_true i choice ms ≡ true
chosen_true-among i choice ns ms among some =
    let it = name_that_passes (chosen_name_true i choice) ns some in
    list_any-name (chosen_name_true i choice) it.0 ms (among it.0 it.1) it.2

pub IsChoice-among :
    {is_predicate : ℕ → Bool} (functions : FunctionSymbols is_predicate) (bodies : ℕ → TreeClause) (ns ms : List NameLit)
    (choice : ℕ → GroundClause)
    → AreAmong ns ms → IsChoice functions bodies ms choice → IsChoice functions bodies ns choice
IsChoice-among functions bodies ns ms choice among is_choice n has = is_choice n (among (positive_of n) has)

-- what is usable for some names is so for more
pub IsUsable-among :
    (form : List TreeClause) (bodies : ℕ → TreeClause) (ns ms : List NameLit)
    → ((n : ℕ) → has_name (negative_of n) ns ≡ true → has_name (negative_of n) ms ≡ true)
    → (c : TreeClause) → IsUsable form bodies ns c → IsUsable form bodies ms c
IsUsable-among form bodies ns ms among c (inl there) = inl there
IsUsable-among form bodies ns ms among c (inr it) = inr (it.0, among it.0 it.1, it.2)
