-- The table of the words that a problem declares.
use Rattle.std.proofs.Common.{◌≡◌, ℕ, zero, suc, ◌+◌, ◌<◌, ◌≤◌, Bool, true, false, not, ◌&&◌, ◌||◌, List, [], ◌∷◌, ◌++◌, length, map, take, drop, get_or, if◌then◌else◌, refl, ap, sym, ◌∙◌, arith}
use Rattle.std.specs.Prelude.{None, Some, bytes_eq, slice_get}
use Rattle.std.specs.HashMap.{get}
use Rattle.std.specs.HashSet.{contains}
use Rattle.std.specs.List.{list_any}
use Rattle.std.specs.Map.{lookup}
use Rattle.std.proofs.lemmas.List.Folds.{list_any-append}
use Rattle.list_lemmas.proofs.Bools.{and-true, and-false, or-false}
use Rattle.list_lemmas.proofs.Lists.{bytes-same, bytes-turned}
use Rattle.tptp_token.specs.Spelling.{is_one_of}
use Rattle.tptp_reader.specs.declared.source.Name.{Name}
use Rattle.tptp_reader.specs.Bound.{bytes_of, same_name}
use Rattle.typed_tree.specs.Sorts.{DeclarationTree}
use Rattle.typed_tree.specs.TypedEntries.{BodyTree, declaration_tree, formula_tree}
use Rattle.typed_problem.specs.Declarations.{is_sort_word, with_declaration, declared_as, sorts_from, declared_sorts}
use Rattle.sort_checks.specs.Lent.{declared_among}
use Rattle.sort_checks.specs.Tables.{WordTable, WordSet, declares, first_from, makes_sort, is_made_sort, HasFirst, HasSorts}

-- ---- sorts

abbrev pub sort_made : List DeclarationTree → List ℕ → Bool
sort_made [] w = false
sort_made (d ∷ ds) w = (bytes_eq d.word w && is_sort_word (Some d.declared)) || sort_made ds w

made-among : (bs : List BodyTree) (w : List ℕ) → is_made_sort bs w ≡ sort_made (declared_among bs) w
made-among [] w = refl
made-among (declaration_tree d ∷ bs) w = ap (λ b. (bytes_eq d.word w && is_sort_word (Some d.declared)) || b) (made-among bs w)
made-among (formula_tree role f ∷ bs) w = made-among bs w

one-more : (ws : List (List ℕ)) (w x : List ℕ) → is_one_of (ws ++ w ∷ []) x ≡ (is_one_of ws x || bytes_eq w x)
one-more ws w x = list_any-append (bytes_eq x) ws (w ∷ []) ∙ ap (λ b. is_one_of ws x || b) (or-false (bytes_eq x w) ∙ bytes-turned x w)

or-joined : (a b c : Bool) → ((a || b) || c) ≡ (a || (b || c))
or-joined true b c = refl
or-joined false b c = refl

pub sorts-made : (known : List (List ℕ)) (ds : List DeclarationTree) (w : List ℕ) → is_one_of (sorts_from known ds) w ≡ (is_one_of known w || sort_made ds w)
sorts-made known [] w = sym (or-false (is_one_of known w))
sorts-made known (d ∷ ds) w = by (is_sort_word (Some d.declared)) (is_one_of known d.word) refl (λ more. sorts-made more ds w)
  where
    -- a sort that is known already
    again : (b : Bool) → bytes_eq d.word w ≡ b → is_one_of known d.word ≡ true → (is_one_of known w || sort_made ds w) ≡ (is_one_of known w || ((b && true) || sort_made ds w))
    again true e k = ap (λ a. a || sort_made ds w) there ∙ sym (ap (λ a. a || (true || sort_made ds w)) there)
      where
        there : is_one_of known w ≡ true
        there = ap (is_one_of known) (sym (bytes-same d.word w e)) ∙ k
    again false e k = refl

    by :
        (s m : Bool) → is_one_of known d.word ≡ m
        → ((more : List (List ℕ)) → is_one_of (sorts_from more ds) w ≡ (is_one_of more w || sort_made ds w))
        → is_one_of (sorts_from (if s && not m then known ++ d.word ∷ [] else known) ds) w ≡ (is_one_of known w || ((bytes_eq d.word w && s) || sort_made ds w))
    by true true k r = r known ∙ again (bytes_eq d.word w) refl k
    by true false k r =
        r (known ++ d.word ∷ []) ∙ ap (λ b. b || sort_made ds w) (one-more known d.word w)
        ∙ or-joined (is_one_of known w) (bytes_eq d.word w) (sort_made ds w)
        ∙ ap (λ b. is_one_of known w || (b || sort_made ds w)) (sym (and-true (bytes_eq d.word w)))
    by false m k r = r known ∙ ap (λ b. is_one_of known w || (b || sort_made ds w)) (sym (and-false (bytes_eq d.word w)))

pub sorts-told : (bs : List BodyTree) (set : WordSet) (n : Name) → HasSorts bs set → contains same_name set n ≡ is_one_of (declared_sorts (declared_among bs)) (bytes_of n)
sorts-told bs set n h = h n ∙ made-among bs (bytes_of n) ∙ sym (sorts-made [] (declared_among bs) (bytes_of n))

-- ---- the first declaration of a word

pub none-declares : (bs : List BodyTree) (index i : ℕ) (w : List ℕ) → first_from index bs w ≡ None → declared_as (declared_among (take i bs)) w ≡ None
none-declares bs index zero w h = refl
none-declares [] index (suc i) w h = refl
none-declares (declaration_tree d ∷ bs) index (suc i) w h = by (bytes_eq d.word w) h (none-declares bs (suc index) i w)
  where
    by :
        (b : Bool) → (if b then Some index else first_from (suc index) bs w) ≡ None
        → (first_from (suc index) bs w ≡ None → declared_as (declared_among (take i bs)) w ≡ None)
        → (if b then Some d.declared else declared_as (declared_among (take i bs)) w) ≡ None
    by true e r = cc
    by false e r = r e
none-declares (formula_tree role f ∷ bs) index (suc i) w h = none-declares bs (suc index) i w h

-- the body at that place declares the word, and no earlier one does
pub record IsFirst (bs : List BodyTree) (index k : ℕ) (w : List ℕ) : Type 0 where
  pub place : ℕ
  pub declaration : DeclarationTree
  pub place_is : k ≡ index + place
  pub there : slice_get bs place ≡ Some (declaration_tree declaration)
  pub before : (i : ℕ) → i ≤ place → declared_as (declared_among (take i bs)) w ≡ None
  pub behind : (i : ℕ) → place < i → declared_as (declared_among (take i bs)) w ≡ Some declaration.declared

-- one body that doesn't declare the word comes before
passed : (b : BodyTree) (bs : List BodyTree) (index k : ℕ) (w : List ℕ) → declares w b ≡ false → IsFirst bs (suc index) k w → IsFirst (b ∷ bs) index k w
passed b bs index k w h f = record {
  place = suc f.place;
  declaration = f.declaration;
  place_is = f.place_is ∙ (let e : suc index + f.place ≡ index + suc f.place = omega arith in e);
  there = f.there;
  before = before;
  behind = behind;
}
  where
    skipped : (c : BodyTree) (ds : List DeclarationTree) → declares w c ≡ false → declared_as (with_declaration c ds) w ≡ declared_as ds w
    skipped (declaration_tree d) ds e = ap (λ (a : Bool). if a then Some d.declared else declared_as ds w) e
    skipped (formula_tree role g) ds e = refl

    before : (i : ℕ) → i ≤ suc f.place → declared_as (declared_among (take i (b ∷ bs))) w ≡ None
    before zero l = refl
    before (suc i) l = skipped b (declared_among (take i bs)) h ∙ f.before i (omega (arith, l))

    behind : (i : ℕ) → suc f.place < i → declared_as (declared_among (take i (b ∷ bs))) w ≡ Some f.declaration.declared
    behind zero l = absurd (omega (arith, l))
    behind (suc i) l = skipped b (declared_among (take i bs)) h ∙ f.behind i (omega (arith, l))

pub first-declares : (bs : List BodyTree) (index k : ℕ) (w : List ℕ) → first_from index bs w ≡ Some k → IsFirst bs index k w
first-declares [] index k w h = cc
first-declares (formula_tree role f ∷ bs) index k w h = passed (formula_tree role f) bs index k w refl (first-declares bs (suc index) k w h)
first-declares (declaration_tree d ∷ bs) index k w h = by (bytes_eq d.word w) refl h (first-declares bs (suc index) k w)
  where
    behind : bytes_eq d.word w ≡ true → (i : ℕ) → 0 < i → declared_as (declared_among (take i (declaration_tree d ∷ bs))) w ≡ Some d.declared
    behind e zero l = absurd (omega (arith, l))
    behind e (suc i) l = ap (λ (a : Bool). if a then Some d.declared else declared_as (declared_among (take i bs)) w) e

    before : (i : ℕ) → i ≤ 0 → declared_as (declared_among (take i (declaration_tree d ∷ bs))) w ≡ None
    before zero l = refl
    before (suc i) l = absurd (omega (arith, l))

    same : Some index ≡ Some k → k ≡ index
    same e = cc

    by :
        (b : Bool) → bytes_eq d.word w ≡ b → (if b then Some index else first_from (suc index) bs w) ≡ Some k
        → (first_from (suc index) bs w ≡ Some k → IsFirst bs (suc index) k w) → IsFirst (declaration_tree d ∷ bs) index k w
    by true e g r = record {
      place = 0;
      declaration = d;
      place_is = same g ∙ (let z : index ≡ index + 0 = omega arith in z);
      there = refl;
      before = before;
      behind = behind e;
    }
    by false e g r = passed (declaration_tree d) bs index k w e (r g)

-- ---- loops from the last entry to the first

pub body-dropped : {X : Type 0} (f : X → BodyTree) (es : List X) (i : ℕ) (e : X) → i < length es → e ≡ get_or es i e → drop i (map f es) ≡ f e ∷ drop (i + 1) (map f es)
body-dropped f [] i e l g = absurd (omega (arith, l))
body-dropped f (x ∷ es) zero e l g = ap (λ y. f y ∷ map f es) (sym g)
body-dropped f (x ∷ es) (suc i) e l g =
    body-dropped f es i e (omega (arith, l)) g ∙ ap (λ k. f e ∷ drop k (f x ∷ map f es)) (let z : suc (i + 1) ≡ suc i + 1 = omega arith in z)

pub first-none : (index : ℕ) (table : WordTable) → table.entries ≡ [] → HasFirst index [] table
first-none index table e n = ap (lookup (same_name n)) e

pub first-step :
    (bs : List BodyTree) (i : ℕ) (b : BodyTree) (old new : WordTable) → drop i bs ≡ b ∷ drop (i + 1) bs
    → ((n : Name) → get same_name new n ≡ (if declares (bytes_of n) b then Some i else get same_name old n))
    → HasFirst (i + 1) (drop (i + 1) bs) old → HasFirst i (drop i bs) new
first-step bs i b old new e u h n =
    u n ∙ ap (λ o. if declares (bytes_of n) b then Some i else o) (h n ∙ ap (λ k. first_from k (drop (i + 1) bs) (bytes_of n)) (let z : i + 1 ≡ suc i = omega arith in z))
    ∙ sym (ap (λ cs. first_from i cs (bytes_of n)) e)

pub sorts-none : (set : WordSet) → set.keys ≡ [] → HasSorts [] set
sorts-none set e n = ap (list_any (same_name n)) e

pub sorts-step :
    (bs : List BodyTree) (i : ℕ) (b : BodyTree) (old new : WordSet) → drop i bs ≡ b ∷ drop (i + 1) bs
    → ((n : Name) → contains same_name new n ≡ (makes_sort (bytes_of n) b || contains same_name old n))
    → HasSorts (drop (i + 1) bs) old → HasSorts (drop i bs) new
sorts-step bs i b old new e u h n =
    u n ∙ ap (λ c. makes_sort (bytes_of n) b || c) (h n) ∙ sym (ap (λ cs. is_made_sort cs (bytes_of n)) e)
