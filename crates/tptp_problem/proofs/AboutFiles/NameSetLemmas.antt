-- Sets of names, and the names that are missing.
use Rattle.std.proofs.Common.{◌≡◌, ◌≤◌, ◌<◌, ℕ, zero, suc, ◌+◌, Bool, true, false, ◌||◌, ◌&&◌, not, cond, Some, List, [], ◌∷◌, ◌++◌, length, take, drop, get_or, map, refl, ap, ap₂, sym, ◌∙◌, subst, arith, bytes_eq}
use Rattle.std.specs.Prelude.{if◌then◌else◌}
use Rattle.std.specs.HashSet.{HashSet, contains}
use Rattle.std.specs.declared.hash.DefaultHasher.{DefaultHasher}
use Rattle.std.specs.declared.hash.BuildHasherDefault.{BuildHasherDefault}
use Rattle.std.proofs.lemmas.List.{take_more, take_all, drop_more, length-map}
use Rattle.std.specs.List.{list_any}
use Rattle.std.proofs.lemmas.List.Folds.{list_any-append}
use Rattle.std.proofs.lemmas.Slice.Eq.{bytes_eq-Decides}
use Rattle.tptp_token.specs.Spelling.{is_one_of}
use Rattle.tptp_reader.specs.declared.source.Name.{Name}
use Rattle.tptp_reader.specs.Bound.{bytes_of, same_name}
use Rattle.tptp_problem.specs.Languages.{PlacedTree, Language, is_named, missing_from}
use Rattle.tptp_problem.specs.NameSets.{HasNames, names_among}
use Rattle.list_lemmas.proofs.Bools.{or-false, and-true, and-false, or-first}
use Rattle.list_lemmas.proofs.Lists.{bytes-turned}

abbrev Names : Type 0
Names = HashSet Name (BuildHasherDefault DefaultHasher)

or-right : (b : Bool) → (b || true) ≡ true
or-right true = refl
or-right false = refl

one-more : (names : List (List ℕ)) (a x : List ℕ) → is_one_of (names ++ a ∷ []) x ≡ (is_one_of names x || bytes_eq a x)
one-more names a x =
    list_any-append (bytes_eq x) names (a ∷ [])
    ∙ ap (λ b. is_one_of names x || b) (or-false (bytes_eq x a) ∙ bytes-turned x a)

-- ---- sets

pub has-none : (set : Names) → set.keys ≡ [] → HasNames [] set
has-none set e n = ap (list_any (same_name n)) e

has-more :
    (names : List (List ℕ)) (old new : Names) (a : Name)
    → HasNames names old → ((q : Name) → contains same_name new q ≡ cond (same_name a q) true (contains same_name old q))
    → HasNames (names ++ bytes_of a ∷ []) new
has-more names old new a h u q = u q ∙ by (same_name a q) refl ∙ sym (one-more names (bytes_of a) (bytes_of q))
  where
    by : (t : Bool) → same_name a q ≡ t → cond t true (contains same_name old q) ≡ (is_one_of names (bytes_of q) || bytes_eq (bytes_of a) (bytes_of q))
    by true e = sym (ap (λ b. is_one_of names (bytes_of q) || b) e ∙ or-right (is_one_of names (bytes_of q)))
    by false e = h q ∙ sym (ap (λ b. is_one_of names (bytes_of q) || b) e ∙ or-false (is_one_of names (bytes_of q)))

-- one name more of a list
pub has-next :
    (names : List (List ℕ)) (i : ℕ) (old new : Names) (a : Name) (x : List ℕ)
    → i < length names → bytes_of a ≡ x → x ≡ get_or names i x → HasNames (take i names) old
    → ((q : Name) → contains same_name new q ≡ cond (same_name a q) true (contains same_name old q)) → HasNames (take (i + 1) names) new
has-next names i old new a x l e g h u =
    subst (λ ns. HasNames ns new) (ap (λ y. take i names ++ y ∷ []) (e ∙ g) ∙ sym (take_more names i x l)) (has-more (take i names) old new a h u)

pub has-all : (names : List (List ℕ)) (i : ℕ) (set : Names) → length names ≤ i → HasNames (take i names) set → HasNames names set
has-all names i set l h = subst (λ ns. HasNames ns set) (take_all i names l) h

-- the name of one formula of a list
pub name-among :
    {Tree Cause A : Type 0} (language : Language Tree Cause) (says : A → PlacedTree Tree) (fs : List A) (i : ℕ) (a : A)
    → i < length fs → a ≡ get_or fs i a → language.name (says a).tree ≡ get_or (names_among language (map says fs)) i (language.name (says a).tree)
name-among language says [] i a l e = refl
name-among language says (f ∷ fs) zero a l e = ap (λ b. language.name (says b).tree) e
name-among language says (f ∷ fs) (suc i) a l e = name-among language says fs i a (omega (arith, l)) e

pub names-length :
    {Tree Cause A : Type 0} (language : Language Tree Cause) (says : A → PlacedTree Tree) (fs : List A)
    → length (names_among language (map says fs)) ≡ length fs
names-length language says fs = length-map (map says fs) (λ f. language.name f.tree) ∙ length-map fs says

-- ---- names that are taken out

-- the set is the other one without these names
abbrev pub IsWithout : List (List ℕ) → Names → Names → Type 0
IsWithout names start set = (n : Name) → contains same_name set n ≡ (contains same_name start n && not (is_one_of names (bytes_of n)))

pub without-none : (set : Names) → IsWithout [] set set
without-none set n = sym (and-true (contains same_name set n))

without-more :
    (names : List (List ℕ)) (start old new : Names) (a : Name)
    → IsWithout names start old → ((q : Name) → contains same_name new q ≡ cond (same_name a q) false (contains same_name old q))
    → IsWithout (names ++ bytes_of a ∷ []) start new
without-more names start old new a h u q =
    u q ∙ by (same_name a q) refl ∙ sym (ap (λ b. contains same_name start q && not b) (one-more names (bytes_of a) (bytes_of q)))
  where
    by :
        (t : Bool) → same_name a q ≡ t
        → cond t false (contains same_name old q)
        ≡ (contains same_name start q && not (is_one_of names (bytes_of q) || bytes_eq (bytes_of a) (bytes_of q)))
    by true e =
        sym (ap (λ b. contains same_name start q && not (is_one_of names (bytes_of q) || b)) e
        ∙ ap (λ b. contains same_name start q && not b) (or-right (is_one_of names (bytes_of q))) ∙ and-false (contains same_name start q))
    by false e =
        h q
        ∙ sym (ap (λ b. contains same_name start q && not (is_one_of names (bytes_of q) || b)) e
        ∙ ap (λ b. contains same_name start q && not b) (or-false (is_one_of names (bytes_of q))))

-- one name more of a list
pub without-next :
    (names : List (List ℕ)) (i : ℕ) (start old new : Names) (a : Name) (x : List ℕ)
    → i < length names → bytes_of a ≡ x → x ≡ get_or names i x → IsWithout (take i names) start old
    → ((q : Name) → contains same_name new q ≡ cond (same_name a q) false (contains same_name old q)) → IsWithout (take (i + 1) names) start new
without-next names i start old new a x l e g h u =
    subst (λ ns. IsWithout ns start new) (ap (λ y. take i names ++ y ∷ []) (e ∙ g) ∙ sym (take_more names i x l))
    (without-more (take i names) start old new a h u)

pub without-all : (names : List (List ℕ)) (i : ℕ) (start set : Names) → length names ≤ i → IsWithout (take i names) start set → IsWithout names start set
without-all names i start set l h = subst (λ ns. IsWithout ns start set) (take_all i names l) h

-- ---- missing names

one-of-at : (names : List (List ℕ)) (i : ℕ) (x : List ℕ) → i < length names → x ≡ get_or names i x → is_one_of names x ≡ true
one-of-at [] i x l e = absurd (omega (arith, l))
one-of-at (n ∷ ns) zero x l e = or-first (bytes_eq x n) (is_one_of ns x) ((bytes_eq-Decides x n).1 e)
one-of-at (n ∷ ns) (suc i) x l e = ap (λ b. bytes_eq x n || b) (one-of-at ns i x (omega (arith, l)) e) ∙ or-right (bytes_eq x n)

named-by : (b : Bool) → true ≡ not b → b ≡ false
named-by false h = refl
named-by true h = h

named-unless : (b : Bool) → false ≡ not b → b ≡ true
named-unless true h = refl
named-unless false h = h

pub named-among :
    {Tree Cause : Type 0} (language : Language Tree Cause) (fs : List (PlacedTree Tree)) (x : List ℕ)
    → is_one_of (names_among language fs) x ≡ is_named language fs x
named-among language [] x = refl
named-among language (f ∷ fs) x = ap₂ (λ a b. a || b) (bytes-turned x (language.name f.tree)) (named-among language fs x)

module _ {Tree Cause : Type 0} (language : Language Tree Cause) where
  -- A listed name is left in the set where no formula has it.
  left-is :
      (names : List (List ℕ)) (fs : List (PlacedTree Tree)) (i : ℕ) (x : List ℕ) (set absent : Names) (n : Name) (b : Bool)
      → i < length names → x ≡ get_or names i x → bytes_of n ≡ x → HasNames names set → IsWithout (names_among language fs) set absent
      → b ≡ contains same_name absent n → b ≡ not (is_named language fs x)
  left-is names fs i x set absent n b l g e h w k =
      k ∙ w n
      ∙ ap (λ t. t && not (is_one_of (names_among language fs) (bytes_of n))) (h n ∙ ap (is_one_of names) e ∙ one-of-at names i x l g)
      ∙ ap (λ y. not (is_one_of (names_among language fs) y)) e ∙ ap not (named-among language fs x)

  missing-at :
      (names : List (List ℕ)) (fs : List (PlacedTree Tree)) (i : ℕ) (x : List ℕ) → i < length names → x ≡ get_or names i x
      → missing_from language i (drop i names) fs ≡ (if is_named language fs x then missing_from language (i + 1) (drop (i + 1) names) fs else Some i)
  missing-at names fs i x l e =
      ap (λ ns. missing_from language i ns fs) (drop_more names i x l)
      ∙ ap (λ y. if is_named language fs y then missing_from language (i + 1) (drop (i + 1) names) fs else Some i) (sym e)

  pub missing-here :
      (names : List (List ℕ)) (fs : List (PlacedTree Tree)) (i : ℕ) (x : List ℕ) (set absent : Names) (n : Name) (b : Bool)
      → i < length names → x ≡ get_or names i x → bytes_of n ≡ x → HasNames names set → IsWithout (names_among language fs) set absent
      → b ≡ contains same_name absent n → missing_from language 0 names fs ≡ missing_from language i (drop i names) fs
      → b ≡ true → Some i ≡ missing_from language 0 names fs
  missing-here names fs i x set absent n b l g e h w k m t =
      sym (m ∙ missing-at names fs i x l g
      ∙ ap (λ c. if c then missing_from language (i + 1) (drop (i + 1) names) fs else Some i)
      (named-by (is_named language fs x) (sym t ∙ left-is names fs i x set absent n b l g e h w k)))

  pub missing-next :
      (names : List (List ℕ)) (fs : List (PlacedTree Tree)) (i : ℕ) (x : List ℕ) (set absent : Names) (n : Name) (b : Bool)
      → i < length names → x ≡ get_or names i x → bytes_of n ≡ x → HasNames names set → IsWithout (names_among language fs) set absent
      → b ≡ contains same_name absent n → missing_from language 0 names fs ≡ missing_from language i (drop i names) fs
      → b ≡ false → missing_from language 0 names fs ≡ missing_from language (i + 1) (drop (i + 1) names) fs
  missing-next names fs i x set absent n b l g e h w k m t =
      m ∙ missing-at names fs i x l g
      ∙ ap (λ c. if c then missing_from language (i + 1) (drop (i + 1) names) fs else Some i)
      (named-unless (is_named language fs x) (sym t ∙ left-is names fs i x set absent n b l g e h w k))
