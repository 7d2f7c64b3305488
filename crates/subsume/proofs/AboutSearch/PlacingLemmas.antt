-- The search for different literals: what a match adds, what a target that is taken adds, and why nothing else comes into question.
use mathlib.Core.Bool.{beq}
use Rattle.std.proofs.Common.{◌≡◌, ◌↔◌, ◌⊎◌, ℕ, zero, suc, ◌+◌, ◌<◌, Bool, true, false, ◌&&◌, ◌||◌, ◌==◌, Option, None, Some, List, [], ◌∷◌, length, get_or, refl, ap, sym, ◌∙◌, inl, inr, ⊎_elim, subst, arith}
use Rattle.std.specs.Prelude.{not, slice_get, slice_set, slice_index_or, is_some, IsTrue, All, MatchOption, ⊤}
use Rattle.std.specs.List.{list_all, list_any}
use Rattle.std.proofs.lemmas.List.Elements.{All-head, All-tail}
use Rattle.std.proofs.lemmas.Bool.{and_parts, and_from, or_cases, or_left, or_right, not-true, eq-eqb, eqb-true, true≢false, cases_Bool}
use Rattle.fol_base.specs.Tree.{Tree, true_tree, is_truth}
use Rattle.fol_base.specs.Instance.{Substitution, instance}
use Rattle.fol_base.specs.Clause.{TreeLiteral, literal_instance}
use Rattle.fol_base.specs.Sides.{exchanged}
use Rattle.fol_base.specs.Order.{equivalent_literals}
use Rattle.fol_base.specs.Kind.{is_function_term, is_predicate_term, is_literal, PutsFunctionTerms}
use Rattle.fol_base.specs.Subsumption.{stand_at, is_there, all_different}
use Rattle.fol_base.proofs.AboutTerms.TreeLemmas.{tree_eq-true}
use Rattle.fol_base.proofs.WorkedExamples.TestLemmas.{list_all-item}
use Rattle.fol_base.proofs.AboutTerms.KindLemmas.{puts_no_truth, function_term-no_truth}
use Rattle.fol_base.proofs.AboutClauses.InferenceLemmas.{is_truth-instance, no_truth-instance}
use Rattle.fol_base.proofs.AboutOrders.OrderLemmas.{SameLiteral, equivalent_literals-decided}
use Rattle.unifier.specs.Matching.{HasPairs}
use Rattle.unifier.specs.Laws.{are_of_one_kind}
use Rattle.unifier.proofs.AboutMatching.MatchLemmas.{Pairs}
use Rattle.subsume.specs.Kinds.{AreLiterals, TurnsInto, are_alike}
use Rattle.subsume.specs.Placing.{is_free, IsPlaced, Places, IsFoundFor}
use Rattle.list_lemmas.proofs.Bools.{beq-says, beq-from}
use Rattle.list_lemmas.proofs.Numbers.{below-or-same}

-- ---- kinds

pub record Alike (l m : TreeLiteral) : Type 0 where
  pub sign : l.positive ≡ m.positive
  pub kind : is_truth l.right ≡ is_truth m.right

pub alike-says : (l m : TreeLiteral) → are_alike l m ≡ true → Alike l m
alike-says l m h =
    let parts = and_parts (beq l.positive m.positive) (beq (is_truth l.right) (is_truth m.right)) h in
    record { sign = beq-says _ _ parts.0; kind = beq-says _ _ parts.1 }

truth-is : (t : Tree) → is_truth t ≡ true → t ≡ true_tree
truth-is t h = tree_eq-true t true_tree h

-- the sides of a literal: both are function terms, or the left one is a predicate term or `$true` and the right one `$true`
abbrev FunctionSides : (ℕ → Bool) → TreeLiteral → Type 0
FunctionSides p l = (is_function_term p l.left ≡ true) × (is_function_term p l.right ≡ true)

abbrev AtomSides : (ℕ → Bool) → TreeLiteral → Type 0
AtomSides p l = ((is_predicate_term p l.left || is_truth l.left) ≡ true) × (is_truth l.right ≡ true)

kinds : (p : ℕ → Bool) (l : TreeLiteral) → is_literal p l ≡ true → FunctionSides p l ⊎ AtomSides p l
kinds p l h =
    ⊎_elim
    (λ e. inl (and_parts (is_function_term p l.left) (is_function_term p l.right) e))
    (λ e. inr (and_parts (is_predicate_term p l.left || is_truth l.left) (is_truth l.right) e))
    (or_cases (is_function_term p l.left && is_function_term p l.right) ((is_predicate_term p l.left || is_truth l.left) && is_truth l.right) h)

no_mix : (p : ℕ → Bool) (t u : Tree) → is_function_term p t ≡ true → is_truth u ≡ true → is_truth t ≡ is_truth u → ⊥
no_mix p t u f h e = true≢false (sym h ∙ sym e ∙ function_term-no_truth p t f)

functions-alike : (p : ℕ → Bool) (s t : Tree) → is_function_term p s ≡ true → is_function_term p t ≡ true → are_of_one_kind p s t ≡ true
functions-alike p s t h k = or_left _ _ (and_from (is_function_term p s) (is_function_term p t) h k)

atoms-alike :
    (p : ℕ → Bool) (s t : Tree)
    → (is_predicate_term p s || is_truth s) ≡ true → (is_predicate_term p t || is_truth t) ≡ true → are_of_one_kind p s t ≡ true
atoms-alike p s t h k = or_right _ _ (and_from (is_predicate_term p s || is_truth s) (is_predicate_term p t || is_truth t) h k)

truth-side : (p : ℕ → Bool) (t : Tree) → is_truth t ≡ true → (is_predicate_term p t || is_truth t) ≡ true
truth-side p t h = or_right (is_predicate_term p t) (is_truth t) h

-- of two literals that are alike, each side of the one is of one kind with each side of the other
pub record OneKind (p : ℕ → Bool) (l m : TreeLiteral) : Type 0 where
  pub left : are_of_one_kind p l.left m.left ≡ true
  pub right : are_of_one_kind p l.right m.right ≡ true
  pub left_right : are_of_one_kind p l.left m.right ≡ true
  pub right_left : are_of_one_kind p l.right m.left ≡ true

pub one_kind :
    (p : ℕ → Bool) (l m : TreeLiteral) → is_literal p l ≡ true → is_literal p m ≡ true → are_alike l m ≡ true → OneKind p l m
one_kind p l m h k e =
    ⊎_elim
    (λ fl.
    ⊎_elim
    (λ fm. record {
      left = functions-alike p l.left m.left fl.0 fm.0;
      right = functions-alike p l.right m.right fl.1 fm.1;
      left_right = functions-alike p l.left m.right fl.0 fm.1;
      right_left = functions-alike p l.right m.left fl.1 fm.0;
    })
    (λ am. absurd (no_mix p l.right m.right fl.1 am.1 (alike-says l m e).kind))
    (kinds p m k))
    (λ al.
    ⊎_elim
    (λ fm. absurd (no_mix p m.right l.right fm.1 al.1 (sym (alike-says l m e).kind)))
    (λ am. record {
      left = atoms-alike p l.left m.left al.0 am.0;
      right = atoms-alike p l.right m.right (truth-side p l.right al.1) (truth-side p m.right am.1);
      left_right = atoms-alike p l.left m.right al.0 (truth-side p m.right am.1);
      right_left = atoms-alike p l.right m.left (truth-side p l.right al.1) am.0;
    })
    (kinds p m k))
    (kinds p l h)

-- where a literal's right side is no `$true`, neither is its left one
left-no_truth : (p : ℕ → Bool) (l : TreeLiteral) → is_literal p l ≡ true → is_truth l.right ≡ false → is_truth l.left ≡ false
left-no_truth p l h e =
    ⊎_elim (λ f. function_term-no_truth p l.left f.0) (λ a. absurd (true≢false (sym a.1 ∙ e))) (kinds p l h)

-- an instance by function terms keeps `$true` and what isn't
truth-kept : (p : ℕ → Bool) (σ : Substitution) → PutsFunctionTerms p σ → (t : Tree) → is_truth (instance σ t) ≡ is_truth t
truth-kept p σ puts t =
    ⊎_elim
    (λ e. is_truth-instance σ t e ∙ sym e)
    (λ e. no_truth-instance σ (puts_no_truth p σ puts) t e ∙ sym e)
    (cases_Bool (is_truth t))

-- a literal whose instance by function terms another one is, sides in either order, is alike
pub alike-needed :
    (p : ℕ → Bool) (σ : Substitution) (l m : TreeLiteral)
    → PutsFunctionTerms p σ → is_literal p l ≡ true → is_literal p m ≡ true
    → equivalent_literals (literal_instance σ l) m ≡ true → are_alike l m ≡ true
alike-needed p σ l m puts hl hm h =
    let same : SameLiteral (literal_instance σ l) m = (equivalent_literals-decided (literal_instance σ l) m).0 h in
    and_from (beq l.positive m.positive) (beq (is_truth l.right) (is_truth m.right)) (beq-from _ _ same.0)
    (beq-from _ _ (⊎_elim (λ e. straight e.1) (λ e. crossed e.0 e.1) same.1))
  where
    straight : instance σ l.right ≡ m.right → is_truth l.right ≡ is_truth m.right
    straight e = sym (truth-kept p σ puts l.right) ∙ ap is_truth e

    crossed : instance σ l.left ≡ m.right → instance σ l.right ≡ m.left → is_truth l.right ≡ is_truth m.right
    crossed e d =
        let left : is_truth l.left ≡ is_truth m.right = sym (truth-kept p σ puts l.left) ∙ ap is_truth e in
        let right : is_truth l.right ≡ is_truth m.left = sym (truth-kept p σ puts l.right) ∙ ap is_truth d in
        ⊎_elim
        (λ t. ⊎_elim (λ u. t ∙ sym u) (λ u. absurd (true≢false (sym t ∙ right ∙ left-no_truth p m hm u))) (cases_Bool (is_truth m.right)))
        (λ t. ⊎_elim (λ u. absurd (true≢false (sym u ∙ sym left ∙ left-no_truth p l hl t))) (λ u. t ∙ sym u) (cases_Bool (is_truth m.right)))
        (cases_Bool (is_truth l.right))

-- ---- a match of the sides, and then the rest

pub sides-then :
    (rest ds : List TreeLiteral) (used : List Bool) (so_far pairs : Pairs) (l m : TreeLiteral) (found : Option Pairs)
    → ((σ : Substitution) → HasPairs pairs σ ↔ (HasPairs so_far σ × TurnsInto σ l m))
    → IsFoundFor rest ds (Places used rest ds pairs) found
    → IsFoundFor (l ∷ rest) ds (λ σ. TurnsInto σ l m × Places used rest ds so_far σ) found
sides-then rest ds used so_far pairs l m None exact h = λ p wl wd σ puts does.
    let placed = does.1.1 in
    h p (and_parts (is_literal p l) (list_all (is_literal p) rest) wl).1 wd σ puts (
      does.1.0,
      record {
        has_pairs = (exact σ).1 (placed.has_pairs, does.0);
        different = placed.different;
        free = placed.free;
        mapped = placed.mapped;
      },
    )
sides-then rest ds used so_far pairs l m (Some ps) exact h = λ σ has.
    let does = h σ has in
    let placed = does.1 in
    let both = (exact σ).0 placed.has_pairs in (
      both.1,
      (
        does.0,
        record { has_pairs = both.0; different = placed.different; free = placed.free; mapped = placed.mapped },
      ),
    )

-- ---- either order of the sides

turned : (σ : Substitution) (l m : TreeLiteral) → l.positive ≡ m.positive → TurnsInto σ l m → equivalent_literals (literal_instance σ l) m ≡ true
turned σ l m sign t = (equivalent_literals-decided (literal_instance σ l) m).1 (sign, inl (t.left, t.right))

turned-crossed :
    (σ : Substitution) (l m : TreeLiteral) → l.positive ≡ m.positive → TurnsInto σ l (exchanged m)
    → equivalent_literals (literal_instance σ l) m ≡ true
turned-crossed σ l m sign t = (equivalent_literals-decided (literal_instance σ l) m).1 (sign, inr (t.left, t.right))

-- of an atom the other order gives nothing more
pub atom-straight :
    (σ : Substitution) (l m : TreeLiteral) → are_alike l m ≡ true → is_truth m.right ≡ true
    → equivalent_literals (literal_instance σ l) m ≡ true → TurnsInto σ l m
atom-straight σ l m alike truth h =
    ⊎_elim
    (λ e. record { left = e.0; right = e.1 })
    (λ e.
    let right : instance σ l.right ≡ true_tree =
    truth-is (instance σ l.right) (is_truth-instance σ l.right ((alike-says l m alike).kind ∙ truth)) in
    let target : m.right ≡ true_tree = truth-is m.right truth in
    record { left = e.0 ∙ target ∙ sym right ∙ e.1; right = right ∙ sym target })
    ((equivalent_literals-decided (literal_instance σ l) m).0 h).1

pub onto-first :
    (ls ds : List TreeLiteral) (l m : TreeLiteral) (Q : Substitution → Type 0) (found : Option Pairs)
    → are_alike l m ≡ true → (is_some found ≡ true) ⊎ (is_truth m.right ≡ true)
    → IsFoundFor ls ds (λ σ. TurnsInto σ l m × Q σ) found
    → IsFoundFor ls ds (λ σ. IsTrue (equivalent_literals (literal_instance σ l) m) × Q σ) found
onto-first ls ds l m Q None alike ends h = λ p wl wd σ puts does.
    ⊎_elim (λ e. true≢false (sym e)) (λ truth. h p wl wd σ puts (atom-straight σ l m alike truth does.0, does.1)) ends
onto-first ls ds l m Q (Some ps) alike ends h = λ σ has.
    let does = h σ has in (turned σ l m (alike-says l m alike).sign does.0, does.1)

pub onto-second :
    (ls ds : List TreeLiteral) (l m : TreeLiteral) (Q : Substitution → Type 0) (first found : Option Pairs)
    → are_alike l m ≡ true → is_some first ≡ false
    → IsFoundFor ls ds (λ σ. TurnsInto σ l m × Q σ) first
    → IsFoundFor ls ds (λ σ. TurnsInto σ l (exchanged m) × Q σ) found
    → IsFoundFor ls ds (λ σ. IsTrue (equivalent_literals (literal_instance σ l) m) × Q σ) found
onto-second ls ds l m Q (Some ps) found alike none h k = absurd (true≢false none)
onto-second ls ds l m Q None None alike none h k = λ p wl wd σ puts does.
    ⊎_elim
    (λ e. h p wl wd σ puts (record { left = e.0; right = e.1 }, does.1))
    (λ e. k p wl wd σ puts (record { left = e.0; right = e.1 }, does.1))
    ((equivalent_literals-decided (literal_instance σ l) m).0 does.0).1
onto-second ls ds l m Q None (Some ps) alike none h k = λ σ has.
    let does = k σ has in (turned-crossed σ l m (alike-says l m alike).sign does.0, does.1)

-- ---- marks

free-set : (used : List Bool) (i k : ℕ) → is_free (slice_set used i true) k ≡ true → is_free used k ≡ true
free-set [] i k h = h
free-set (b ∷ bs) zero zero h = absurd (true≢false (sym h))
free-set (b ∷ bs) zero (suc k) h = h
free-set (b ∷ bs) (suc i) zero h = h
free-set (b ∷ bs) (suc i) (suc k) h = free-set bs i k h

taken-set : (used : List Bool) (i : ℕ) → is_free (slice_set used i true) i ≡ true → ⊥
taken-set [] i h = true≢false (sym h)
taken-set (b ∷ bs) zero h = true≢false (sym h)
taken-set (b ∷ bs) (suc i) h = taken-set bs i h

pub free-kept : (used : List Bool) (i k : ℕ) → (i ≡ k → ⊥) → is_free used k ≡ true → is_free (slice_set used i true) k ≡ true
free-kept [] i k ne h = h
free-kept (b ∷ bs) zero zero ne h = absurd (ne refl)
free-kept (b ∷ bs) zero (suc k) ne h = h
free-kept (b ∷ bs) (suc i) zero ne h = h
free-kept (b ∷ bs) (suc i) (suc k) ne h = free-kept bs i k (λ e. ne (ap suc e)) h

pub set-back :
    (used : List Bool) (i : ℕ) → i < length used → get_or used i false ≡ false → slice_set (slice_set used i true) i false ≡ used
set-back [] i h e = absurd (omega arith)
set-back (b ∷ bs) zero h e = ap (λ x. x ∷ bs) (sym e)
set-back (b ∷ bs) (suc i) h e = ap (λ xs. b ∷ xs) (set-back bs i (omega arith) e)

all-free : (used : List Bool) (i : ℕ) (ks : List ℕ) → list_all (is_free (slice_set used i true)) ks ≡ true → list_all (is_free used) ks ≡ true
all-free used i [] h = refl
all-free used i (k ∷ ks) h =
    let parts = and_parts (is_free (slice_set used i true) k) (list_all (is_free (slice_set used i true)) ks) h in
    and_from (is_free used k) (list_all (is_free used) ks) (free-set used i k parts.0) (all-free used i ks parts.1)

others : (used : List Bool) (i : ℕ) (ks : List ℕ) → list_all (is_free (slice_set used i true)) ks ≡ true → list_any (λ k. i == k) ks ≡ false
others used i [] h = refl
others used i (k ∷ ks) h =
    let parts = and_parts (is_free (slice_set used i true) k) (list_all (is_free (slice_set used i true)) ks) h in
    ⊎_elim
    (λ e. absurd (taken-set used i (subst (λ j. is_free (slice_set used i true) j ≡ true) (sym (eqb-true i k e)) parts.0)))
    (λ e. ap (λ b. b || list_any (λ j. i == j) ks) e ∙ others used i ks parts.1)
    (cases_Bool (i == k))

all-kept :
    (used : List Bool) (i : ℕ) (ks : List ℕ)
    → list_any (λ k. i == k) ks ≡ false → list_all (is_free used) ks ≡ true → list_all (is_free (slice_set used i true)) ks ≡ true
all-kept used i [] ne h = refl
all-kept used i (k ∷ ks) ne h =
    let parts = and_parts (is_free used k) (list_all (is_free used) ks) h in
    ⊎_elim
    (λ e. absurd (true≢false (sym (ap (λ b. b || list_any (λ j. i == j) ks) e) ∙ ne)))
    (λ e.
    and_from (is_free (slice_set used i true) k) (list_all (is_free (slice_set used i true)) ks)
    (free-kept used i k (λ d. true≢false (sym (eq-eqb i k d) ∙ e)) parts.0)
    (all-kept used i ks (sym (ap (λ b. b || list_any (λ j. i == j) ks) e) ∙ ne) parts.1))
    (cases_Bool (i == k))

-- ---- a target more

pub place-target :
    (rest ds : List TreeLiteral) (k : ℕ) (used : List Bool) (so_far : Pairs) (l m : TreeLiteral) (found : Option Pairs)
    → slice_get ds k ≡ Some m → is_free used k ≡ true → is_some found ≡ true
    → IsFoundFor (l ∷ rest) ds (λ σ. IsTrue (equivalent_literals (literal_instance σ l) m) × Places (slice_set used k true) rest ds so_far σ) found
    → IsFoundFor (l ∷ rest) ds (Places used (l ∷ rest) ds so_far) found
place-target rest ds k used so_far l m None there free some h = absurd (true≢false (sym some))
place-target rest ds k used so_far l m (Some ps) there free some h = λ σ has.
    let does = h σ has in
    let placed = does.1.1 in (
      k ∷ does.1.0,
      record {
        has_pairs = placed.has_pairs;
        different =
            and_from (not (list_any (λ j. k == j) does.1.0)) (all_different does.1.0)
            (ap not (others used k does.1.0 placed.free)) placed.different;
        free = and_from (is_free used k) (list_all (is_free used) does.1.0) free (all-free used k does.1.0 placed.free);
        mapped =
            and_from (is_there (literal_instance σ l) (slice_get ds k)) (stand_at σ rest does.1.0 ds)
            (ap (is_there (literal_instance σ l)) there ∙ does.0) placed.mapped;
      },
    )

-- what stands first at a place
record FirstPlaced (used : List Bool) (l m : TreeLiteral) (rest ds : List TreeLiteral) (so_far : Pairs) (σ : Substitution) (k : ℕ) (places : List ℕ) : Type 0 where
  same : equivalent_literals (literal_instance σ l) m ≡ true
  free : is_free used k ≡ true
  after : IsPlaced (slice_set used k true) rest ds so_far σ places

first-placed :
    (rest ds : List TreeLiteral) (k : ℕ) (used : List Bool) (so_far : Pairs) (l m : TreeLiteral) (σ : Substitution) (places : List ℕ)
    → slice_get ds k ≡ Some m → IsPlaced used (l ∷ rest) ds so_far σ (k ∷ places)
    → FirstPlaced used l m rest ds so_far σ k places
first-placed rest ds k used so_far l m σ places there placed =
    let stands = and_parts (is_there (literal_instance σ l) (slice_get ds k)) (stand_at σ rest places ds) placed.mapped in
    let different = and_parts (not (list_any (λ j. k == j) places)) (all_different places) placed.different in
    let free = and_parts (is_free used k) (list_all (is_free used) places) placed.free in
    record {
      same = sym (ap (is_there (literal_instance σ l)) there) ∙ stands.0;
      free = free.0;
      after = record {
        has_pairs = placed.has_pairs;
        different = different.1;
        free = all-kept used k places (not-true (list_any (λ j. k == j) places) different.0) free.1;
        mapped = stands.1;
      };
    }

-- a pattern stands at no target up to an index
abbrev pub StandsAtNone : TreeLiteral → List TreeLiteral → List TreeLiteral → List Bool → Pairs → ℕ → Type 0
StandsAtNone l rest ds used so_far bound =
    (p : ℕ → Bool) → AreLiterals p (l ∷ rest) → AreLiterals p ds → (σ : Substitution) → PutsFunctionTerms p σ
    → (k : ℕ) (places : List ℕ) → k < bound → IsPlaced used (l ∷ rest) ds so_far σ (k ∷ places) → ⊥

one-more :
    (l : TreeLiteral) (rest ds : List TreeLiteral) (at : ℕ) (used : List Bool) (so_far : Pairs)
    → StandsAtNone l rest ds used so_far at
    → ((p : ℕ → Bool) → AreLiterals p (l ∷ rest) → AreLiterals p ds → (σ : Substitution) → PutsFunctionTerms p σ
    → (places : List ℕ) → IsPlaced used (l ∷ rest) ds so_far σ (at ∷ places) → ⊥)
    → StandsAtNone l rest ds used so_far (at + 1)
one-more l rest ds at used so_far before here = λ p wl wd σ puts k places below placed.
    ⊎_elim
    (λ e. before p wl wd σ puts k places e placed)
    (λ e. here p wl wd σ puts places (subst (λ j. IsPlaced used (l ∷ rest) ds so_far σ (j ∷ places)) e placed))
    (below-or-same k at below)

-- nor at the next one: the search there found nothing
pub none-found :
    (rest ds : List TreeLiteral) (at : ℕ) (used : List Bool) (so_far : Pairs) (l m : TreeLiteral) (found : Option Pairs)
    → slice_get ds at ≡ Some m → is_some found ≡ false
    → IsFoundFor (l ∷ rest) ds (λ σ. IsTrue (equivalent_literals (literal_instance σ l) m) × Places (slice_set used at true) rest ds so_far σ) found
    → StandsAtNone l rest ds used so_far at → StandsAtNone l rest ds used so_far (at + 1)
none-found rest ds at used so_far l m (Some ps) there none h before = absurd (true≢false none)
none-found rest ds at used so_far l m None there none h before =
    one-more l rest ds at used so_far before
    (λ p wl wd σ puts places placed.
    let first = first-placed rest ds at used so_far l m σ places there placed in
    h p wl wd σ puts (first.same, (places, first.after)))

-- or it isn't alike
pub none-alike :
    (rest ds : List TreeLiteral) (at : ℕ) (used : List Bool) (so_far : Pairs) (l m : TreeLiteral)
    → slice_get ds at ≡ Some m → are_alike l m ≡ false
    → StandsAtNone l rest ds used so_far at → StandsAtNone l rest ds used so_far (at + 1)
none-alike rest ds at used so_far l m there unlike before =
    one-more l rest ds at used so_far before
    (λ p wl wd σ puts places placed.
    let first = first-placed rest ds at used so_far l m σ places there placed in
    true≢false
    (sym (alike-needed p σ l m puts (and_parts (is_literal p l) (list_all (is_literal p) rest) wl).0
    (list_all-item (is_literal p) ds at m there wd) first.same) ∙ unlike))

-- or it is taken
pub none-free :
    (rest ds : List TreeLiteral) (at : ℕ) (used : List Bool) (so_far : Pairs) (l m : TreeLiteral)
    → slice_get ds at ≡ Some m → is_free used at ≡ false
    → StandsAtNone l rest ds used so_far at → StandsAtNone l rest ds used so_far (at + 1)
none-free rest ds at used so_far l m there taken before =
    one-more l rest ds at used so_far before
    (λ p wl wd σ puts places placed.
    let first = first-placed rest ds at used so_far l m σ places there placed in
    true≢false (sym first.free ∙ taken))

-- so it stands nowhere
pub within : {X : Type 0} (xs : List X) (k : ℕ) (x : X) → slice_get xs k ≡ Some x → k < length xs
within [] k x h = absurd cc
within (y ∷ ys) zero x h = omega arith
within (y ∷ ys) (suc k) x h = omega (arith, within ys k x h)

pub there-within : (l : TreeLiteral) (ds : List TreeLiteral) (k : ℕ) → is_there l (slice_get ds k) ≡ true → k < length ds
there-within l [] k h = absurd (true≢false (sym h))
there-within l (d ∷ ds) zero h = omega arith
there-within l (d ∷ ds) (suc k) h = omega (arith, there-within l ds k h)

pub nowhere :
    (rest ds : List TreeLiteral) (at : ℕ) (used : List Bool) (so_far : Pairs) (l : TreeLiteral)
    → at ≡ length ds → StandsAtNone l rest ds used so_far at
    → IsFoundFor (l ∷ rest) ds (Places used (l ∷ rest) ds so_far) None
nowhere rest ds at used so_far l all none = λ p wl wd σ puts does.
    by p wl wd σ puts does.0 does.1
  where
    by :
        (p : ℕ → Bool) → AreLiterals p (l ∷ rest) → AreLiterals p ds → (σ : Substitution) → PutsFunctionTerms p σ
        → (places : List ℕ) → IsPlaced used (l ∷ rest) ds so_far σ places → ⊥
    by p wl wd σ puts [] placed = true≢false (sym placed.mapped)
    by p wl wd σ puts (k ∷ ks) placed =
        let stands = and_parts (is_there (literal_instance σ l) (slice_get ds k)) (stand_at σ rest ks ds) placed.mapped in
        none p wl wd σ puts k ks (omega (arith, there-within (literal_instance σ l) ds k stands.0)) placed

pub below-item : {X : Type 0} (P : X → Type 0) (xs : List X) (i : ℕ) (x : X) → slice_get xs i ≡ Some x → All P xs → P x
below-item P [] i x there all = absurd cc
below-item P (y ∷ ys) zero x there all = let same : y ≡ x = cc in subst P same (All-head P y ys all)
below-item P (y ∷ ys) (suc i) x there all = below-item P ys i x there (All-tail P y ys all)

marked : (used : List Bool) (i : ℕ) → i < length used → slice_index_or used i true ≡ get_or used i false
marked [] i h = absurd (omega arith)
marked (b ∷ bs) zero h = refl
marked (b ∷ bs) (suc i) h = marked bs i (omega arith)

pub free-unmarked : (used : List Bool) (i : ℕ) → i < length used → get_or used i false ≡ false → is_free used i ≡ true
free-unmarked used i h e = ap not (marked used i h ∙ e)

pub taken-marked : (used : List Bool) (i : ℕ) → i < length used → get_or used i false ≡ true → is_free used i ≡ false
taken-marked used i h e = ap not (marked used i h ∙ e)

-- what a search that found nothing says of the marks
pub marks-kept : (found : Option Pairs) (after before : List Bool) → is_some found ≡ false → MatchOption found (after ≡ before) (λ _. ⊤) → after ≡ before
marks-kept None after before none h = h
marks-kept (Some ps) after before none h = absurd (true≢false none)
