-- Tests of sorted lists of names, and the soundness of resolution on names.
use Rattle.std.proofs.Common.{◌≡◌, Bool, true, false, ◌||◌, List, [], ◌∷◌, Some, refl, ap, sym, ◌∙◌, ⊎_elim}
use mathlib.Core.Bool.{beq}
use Rattle.std.specs.Prelude.{not, if◌then◌else◌}
use Rattle.std.specs.List.{list_any, list_all}
use Rattle.std.proofs.lemmas.Bool.{and_parts, or_cases, or_left, or_right, cases_Bool, true≢false}
use Rattle.std.proofs.lemmas.Option.{none-some, same_Some}
use Rattle.std.proofs.lemmas.List.Folds.{list_any-append}
use Rattle.fol_base.proofs.WorkedExamples.TestLemmas.{if_some}
use Rattle.plain_types.specs.declared.sequence.NameLit.{NameLit}
use Rattle.plain_types.specs.Names.{same_name, opposite, has_name, without, can_resolve, resolvent}
use Rattle.plain_types.proofs.NameLemmas.{same_name-true}
use Rattle.kernel_steps.specs.Names.{name_before, with_name, with_names, sorted_names, chained_from}
use Rattle.kernel_steps.specs.Soundness.{NameTruth, names_true, ChainIsSound}

-- ---- sorted lists have the names of the list

or-swap : (a b c : Bool) → (a || (b || c)) ≡ (b || (a || c))
or-swap true true c = refl
or-swap true false c = refl
or-swap false true c = refl
or-swap false false c = refl

or-same : (a b : Bool) → (a || b) ≡ (a || (a || b))
or-same true b = refl
or-same false b = refl

with_name-cases :
    (p : NameLit → Bool) (n m : NameLit) (ms rest : List NameLit) (same before : Bool)
    → (same ≡ true → n ≡ m) → list_any p rest ≡ (p n || list_any p ms)
    → list_any p (if same then m ∷ ms else (if before then n ∷ m ∷ ms else m ∷ rest)) ≡ (p n || (p m || list_any p ms))
with_name-cases p n m ms rest true before is later =
    or-same (p m) (list_any p ms) ∙ ap (λ k. p k || (p m || list_any p ms)) (sym (is refl))
with_name-cases p n m ms rest false true is later = refl
with_name-cases p n m ms rest false false is later = ap (λ b. p m || b) later ∙ or-swap (p m) (p n) (list_any p ms)

pub list_any-with_name : (p : NameLit → Bool) (n : NameLit) (ms : List NameLit) → list_any p (with_name n ms) ≡ (p n || list_any p ms)
list_any-with_name p n [] = refl
list_any-with_name p n (m ∷ ms) =
    with_name-cases p n m ms (with_name n ms) (same_name n m) (name_before n m) (same_name-true n m) (list_any-with_name p n ms)

pub list_any-with_names :
    (p : NameLit → Bool) (ns sorted : List NameLit) → list_any p (with_names ns sorted) ≡ (list_any p ns || list_any p sorted)
list_any-with_names p [] sorted = refl
list_any-with_names p (n ∷ ns) sorted =
    list_any-with_names p ns (with_name n sorted)
    ∙ ap (λ b. list_any p ns || b) (list_any-with_name p n sorted)
    ∙ regroup (list_any p ns) (p n) (list_any p sorted)
  where
    regroup : (a b c : Bool) → (a || (b || c)) ≡ ((b || a) || c)
    regroup true true c = refl
    regroup true false c = refl
    regroup false true c = refl
    regroup false false c = refl

-- a sorted list passes a test where the list does
pub list_any-sorted_names : (p : NameLit → Bool) (ns : List NameLit) → list_any p (sorted_names ns) ≡ list_any p ns
list_any-sorted_names p ns = list_any-with_names p ns [] ∙ or-false (list_any p ns)
  where
    or-false : (a : Bool) → (a || false) ≡ a
    or-false true = refl
    or-false false = refl

pub has_name-sorted_names : (m : NameLit) (ns : List NameLit) → has_name m (sorted_names ns) ≡ has_name m ns
has_name-sorted_names m ns = list_any-sorted_names (same_name m) ns

-- ---- truth

abbrev pub name_true : NameTruth → NameLit → Bool
name_true truth n = beq n.positive (truth n.name)

-- a name and its opposite are not both true
pub opposite-true : (truth : NameTruth) (n : NameLit) → name_true truth (opposite n) ≡ not (name_true truth n)
opposite-true truth n = cases n.positive (truth n.name)
  where
    cases : (a b : Bool) → beq (not a) b ≡ not (beq a b)
    cases true true = refl
    cases true false = refl
    cases false true = refl
    cases false false = refl

-- a list without a name that is false is true where the list is
without-cases :
    (truth : NameTruth) (n m : NameLit) (ns rest : List NameLit) (same : Bool)
    → (same ≡ true → n ≡ m) → name_true truth n ≡ false → (name_true truth m || names_true truth ns) ≡ true
    → (names_true truth ns ≡ true → names_true truth rest ≡ true)
    → names_true truth (if not same then m ∷ rest else rest) ≡ true
without-cases truth n m ns rest true is fails holds later_true =
    later_true
    (⊎_elim (λ here. absurd (true≢false (sym here ∙ ap (name_true truth) (sym (is refl)) ∙ fails))) (λ later. later)
    (or_cases (name_true truth m) (names_true truth ns) holds))
without-cases truth n m ns rest false is fails holds later_true =
    ⊎_elim
    (λ here. or_left (name_true truth m) (names_true truth rest) here)
    (λ later. or_right (name_true truth m) (names_true truth rest) (later_true later))
    (or_cases (name_true truth m) (names_true truth ns) holds)

without-true :
    (truth : NameTruth) (n : NameLit) (ns : List NameLit)
    → name_true truth n ≡ false → names_true truth ns ≡ true → names_true truth (without n ns) ≡ true
without-true truth n [] fails holds = holds
without-true truth n (m ∷ ns) fails holds =
    without-cases truth n m ns (without n ns) (same_name n m) (same_name-true n m) fails holds (without-true truth n ns fails)

-- a resolvent is true where both lists are
pub resolvent-true :
    (truth : NameTruth) (pivot : NameLit) (ns ms : List NameLit)
    → names_true truth ns ≡ true → names_true truth ms ≡ true → names_true truth (resolvent pivot ns ms) ≡ true
resolvent-true truth pivot ns ms first second =
    list_any-append (name_true truth) (without pivot ns) (without (opposite pivot) ms)
    ∙ ⊎_elim
    (λ holds.
    or_right (names_true truth (without pivot ns)) (names_true truth (without (opposite pivot) ms))
    (without-true truth (opposite pivot) ms (opposite-true truth pivot ∙ ap not holds) second))
    (λ fails.
    or_left (names_true truth (without pivot ns)) (names_true truth (without (opposite pivot) ms)) (without-true truth pivot ns fails first))
    (cases_Bool (name_true truth pivot))

chained_from-true :
    (truth : NameTruth) (names pivots : List NameLit) (nss : List (List NameLit)) (made : List NameLit)
    → chained_from names pivots nss ≡ Some made → names_true truth names ≡ true → list_all (names_true truth) nss ≡ true
    → names_true truth made ≡ true
chained_from-true truth names [] [] made step first others = ap (names_true truth) (sym (same_Some names made step)) ∙ first
chained_from-true truth names [] (ms ∷ mss) made step first others = absurd (none-some made step)
chained_from-true truth names (pivot ∷ pivots) [] made step first others = absurd (none-some made step)
chained_from-true truth names (pivot ∷ pivots) (ms ∷ mss) made step first others =
    let rest = if_some (can_resolve pivot names ms) (chained_from (sorted_names (resolvent pivot names ms)) pivots mss) made step in
    let both = and_parts (names_true truth ms) (list_all (names_true truth) mss) others in
    chained_from-true truth (sorted_names (resolvent pivot names ms)) pivots mss made rest.1
    (list_any-sorted_names (name_true truth) (resolvent pivot names ms) ∙ resolvent-true truth pivot names ms first both.0) both.1

pub chain_is_sound : ChainIsSound
chain_is_sound truth [] pivots made step all = absurd (none-some made step)
chain_is_sound truth (ns ∷ nss) pivots made step all =
    let both = and_parts (names_true truth ns) (list_all (names_true truth) nss) all in
    chained_from-true truth (sorted_names ns) pivots nss made step (list_any-sorted_names (name_true truth) ns ∙ both.0) both.1
