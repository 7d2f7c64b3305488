-- The items of a rule's row.
use Rattle.std.proofs.Common.{◌≡◌, ℕ, ◌+◌, ◌<◌, ◌≤◌, Bool, true, false, ◌&&◌, ◌||◌, ◌==◌, cond, List, [], ◌∷◌, ◌++◌, length, map, drop, get_or, refl, ap, sym, ◌∙◌, append-nil, arith}
use Rattle.std.specs.Prelude.{codes, Option, None, Some, option_map, option_and_then, is_some, IfOk, Result, if◌then◌else◌}
use Rattle.std.specs.declared.result.Result.TheVariants.{Ok, Err}
use Rattle.kernel_steps.specs.Parents.{all_there}
use Rattle.tptp_source.specs.Items.{all_numbers}
use Rattle.tptp_source.specs.TermSources.{items_in}
use Rattle.std.specs.Borrow.{Bor}
use Rattle.std.proofs.lemmas.Bool.{eqb-true}
use Rattle.std.specs.List.{list_any}
use Rattle.tptp_source.specs.General.{GeneralTree, word, listed, trees_of}
use Rattle.tptp_source.specs.Shape.{tree_of}
use Rattle.tptp_source.specs.declared.term.GeneralTerm.{GeneralTerm}
use Rattle.clausal_form.specs.DerivationItems.{arguments, has_word, plain_word, is_plain, is_one_word, have_words, items_with, row_arguments, list_in, numbers_in}
use Rattle.tstp_lines.specs.Items.{item_word, terms_lent}
use Rattle.tstp_lines.specs.declared.items.ItemWord.{ItemWord}
use Rattle.tstp_lines.proofs.AboutReadings.BindingLemmas.{listed-generals}
use Rattle.tstp_lines.proofs.AboutReadings.TableLemmas.{map-appended}
use Rattle.list_lemmas.proofs.Places.{drop-item, drop-all}
use Rattle.list_lemmas.proofs.Lists.{push-joined}

-- ---- items of a row, from one on

abbrev pub row_left : List (List ℕ) → List GeneralTerm → ℕ → List GeneralTree
row_left words ts i = items_with words (map tree_of (drop i ts))

pub row-then :
    (words : List (List ℕ)) (ts : List GeneralTerm) (i : ℕ) (t : GeneralTerm) (b : Bool)
    → i < length ts → t ≡ get_or ts i t → b ≡ list_any (λ w. has_word w (tree_of t)) words
    → row_left words ts i ≡ cond b (tree_of t ∷ row_left words ts (i + 1)) (row_left words ts (i + 1))
row-then words ts i t b h e o =
    ap (λ us. items_with words (map tree_of us)) (drop-item ts i t h e)
    ∙ ap (λ x. cond x (tree_of t ∷ row_left words ts (i + 1)) (row_left words ts (i + 1))) (sym o)

pub row-end : (words : List (List ℕ)) (ts : List GeneralTerm) (i : ℕ) → length ts ≤ i → row_left words ts i ≡ []
row-end words ts i h = ap (λ us. items_with words (map tree_of us)) (drop-all ts i h)

-- ---- whether they have just the words

abbrev pub Asked : List ItemWord → List (List ℕ) → List GeneralTerm → ℕ → Bool → Type 0
Asked left words ts i all = have_words (map item_word left) (row_left words ts i) ≡ all

pub asked-skip :
    (left : List ItemWord) (words : List (List ℕ)) (ts : List GeneralTerm) (i : ℕ) (t : GeneralTerm) (all : Bool)
    → i < length ts → t ≡ get_or ts i t → false ≡ list_any (λ w. has_word w (tree_of t)) words
    → Asked left words ts i all → Asked left words ts (i + 1) all
asked-skip left words ts i t all h e o w = ap (have_words (map item_word left)) (sym (row-then words ts i t false h e o)) ∙ w

pub asked-next :
    (w : ItemWord) (v : List ℕ) (l left : List ItemWord) (words : List (List ℕ)) (ts : List GeneralTerm) (i : ℕ) (t : GeneralTerm) (b all : Bool)
    → i < length ts → t ≡ get_or ts i t → true ≡ list_any (λ u. has_word u (tree_of t)) words
    → l ≡ w ∷ left → v ≡ item_word w → b ≡ has_word v (tree_of t)
    → Asked l words ts i all → (b && have_words (map item_word left) (row_left words ts (i + 1))) ≡ all
asked-next w v l left words ts i t b all h e o r p f a =
    ap (λ x. x && have_words (map item_word left) (row_left words ts (i + 1))) (f ∙ ap (λ u. has_word u (tree_of t)) p)
    ∙ ap (have_words (map item_word (w ∷ left))) (sym (row-then words ts i t true h e o))
    ∙ ap (λ k. have_words (map item_word k) (row_left words ts i)) (sym r) ∙ a

pub asked-none :
    (left : List ItemWord) (words : List (List ℕ)) (ts : List GeneralTerm) (i : ℕ) (t : GeneralTerm) (all : Bool)
    → length left ≡ 0 → i < length ts → t ≡ get_or ts i t → true ≡ list_any (λ v. has_word v (tree_of t)) words
    → Asked left words ts i all → false ≡ all
asked-none [] words ts i t all n h e o a = ap (have_words []) (sym (row-then words ts i t true h e o)) ∙ a
asked-none (w ∷ left) words ts i t all n h e o a = absurd (omega (arith, n))

pub asked-end :
    (left : List ItemWord) (words : List (List ℕ)) (ts : List GeneralTerm) (i : ℕ) (b all : Bool)
    → length ts ≤ i → b ≡ (length left == 0) → Asked left words ts i all → b ≡ all
asked-end [] words ts i b all h d a = d ∙ ap (have_words []) (sym (row-end words ts i h)) ∙ a
asked-end (w ∷ left) words ts i true all h d a = absurd (omega (arith, eqb-true (length (w ∷ left)) 0 (sym d)))
asked-end (w ∷ left) words ts i false all h d a = ap (have_words (map item_word (w ∷ left))) (sym (row-end words ts i h)) ∙ a

-- ---- the arguments of items

pub argument-added :
    (words : List (List ℕ)) (ts : List GeneralTerm) (i : ℕ) (t : GeneralTerm) (made new : List (Bor (List GeneralTerm))) (x : Bor (List GeneralTerm))
    (all : List (List GeneralTree))
    → i < length ts → t ≡ get_or ts i t → true ≡ list_any (λ v. has_word v (tree_of t)) words
    → terms_lent x ≡ arguments (tree_of t) → new ≡ made ++ x ∷ []
    → map terms_lent made ++ map arguments (row_left words ts i) ≡ all
    → map terms_lent new ++ map arguments (row_left words ts (i + 1)) ≡ all
argument-added words ts i t made new x all h e o f a w =
    ap (λ ys. map terms_lent ys ++ map arguments (row_left words ts (i + 1))) a
    ∙ ap (λ zs. zs ++ map arguments (row_left words ts (i + 1))) (map-appended terms_lent made (x ∷ []))
    ∙ push-joined (map terms_lent made) (terms_lent x) (map arguments (row_left words ts (i + 1)))
    ∙ ap (λ z. map terms_lent made ++ z ∷ map arguments (row_left words ts (i + 1))) f
    ∙ ap (λ us. map terms_lent made ++ map arguments us) (sym (row-then words ts i t true h e o)) ∙ w

pub argument-skipped :
    (words : List (List ℕ)) (ts : List GeneralTerm) (i : ℕ) (t : GeneralTerm) (made : List (Bor (List GeneralTerm)))
    (all : List (List GeneralTree))
    → i < length ts → t ≡ get_or ts i t → false ≡ list_any (λ v. has_word v (tree_of t)) words
    → map terms_lent made ++ map arguments (row_left words ts i) ≡ all
    → map terms_lent made ++ map arguments (row_left words ts (i + 1)) ≡ all
argument-skipped words ts i t made all h e o w =
    ap (λ us. map terms_lent made ++ map arguments us) (sym (row-then words ts i t false h e o)) ∙ w

pub arguments-end :
    (words : List (List ℕ)) (ts : List GeneralTerm) (i : ℕ) (made : List (Bor (List GeneralTerm))) (all : List (List GeneralTree))
    → length ts ≤ i → map terms_lent made ++ map arguments (row_left words ts i) ≡ all → map terms_lent made ≡ all
arguments-end words ts i made all h w =
    sym (append-nil (map terms_lent made)) ∙ ap (λ us. map terms_lent made ++ map arguments us) (sym (row-end words ts i h)) ∙ w

-- ---- words

pub not-plain : (w v : List ℕ) (ts : List GeneralTree) → (ts ≡ [] → false ≡ true) → false ≡ is_plain w (word v (trees_of ts))
not-plain w v [] h = let f : false ≡ true = h refl in cc
not-plain w v (t ∷ ts) h = refl

-- ---- the row

abbrev pub Row : Type 0
Row = Option (List (List GeneralTree))

both-asked : (c h : Bool) (x n : Row) → (if c && h then x else n) ≡ (if c then (if h then x else n) else n)
both-asked true h x n = refl
both-asked false h x n = refl

pub row-is :
    (status : List ℕ) (W : List (List ℕ)) (t : GeneralTree) (ts : List GeneralTree)
    → row_arguments status W (t ∷ ts)
    ≡ (if has_word (codes "status") t && is_one_word status (arguments t)
    then (if have_words W (items_with (codes "status" ∷ W) ts) then Some (map arguments (items_with W (t ∷ ts))) else None)
    else None)
row-is status W t ts = by (has_word (codes "status") t) refl
  where
    c : Bool
    c = is_one_word status (arguments t)

    others : List GeneralTree
    others = items_with (codes "status" ∷ W) ts

    h : Bool
    h = have_words W others

    l : Bool
    l = list_any (λ w. has_word w t) W

    x : Row
    x = Some (map arguments (items_with W (t ∷ ts)))

    asked : Bool → Row
    asked b = if (b && c) && have_words (codes "status" ∷ W) (if b || l then t ∷ others else others) then x else None

    by : (b : Bool) → has_word (codes "status") t ≡ b → asked (has_word (codes "status") t) ≡ (if has_word (codes "status") t && c then (if h then x else None) else None)
    by true e =
        ap asked e ∙ ap (λ (b : Bool). if c && (b && h) then x else (let n : Row = None in n)) e ∙ both-asked c h x None
        ∙ sym (ap (λ (b : Bool). if b && c then (if h then x else None) else (let n : Row = None in n)) e)
    by false e = ap asked e ∙ sym (ap (λ (b : Bool). if b && c then (if h then x else None) else (let n : Row = None in n)) e)

-- whether a word has no arguments
pub word-plain :
    (v : List ℕ) (ts : List GeneralTree) (b : Bool) → (b ≡ true → ts ≡ []) → (ts ≡ [] → b ≡ true) → b ≡ is_some (plain_word (word v (trees_of ts)))
word-plain v [] true f g = refl
word-plain v [] false f g = g refl
word-plain v (t ∷ ts) true f g = absurd (omega (arith, ap length (f refl)))
word-plain v (t ∷ ts) false f g = refl

pub row-nothing : (status : List ℕ) (W : List (List ℕ)) (ts : List GeneralTree) → ts ≡ [] → None ≡ row_arguments status W ts
row-nothing status W ts e = sym (ap (row_arguments status W) e)

pub no-items : (ts : List GeneralTerm) → length ts ≡ 0 → map tree_of ts ≡ []
no-items [] e = refl
no-items (t ∷ ts) e = absurd (omega (arith, e))

pub row-not-status :
    (status : List ℕ) (W : List (List ℕ)) (t : GeneralTree) (ts items : List GeneralTree)
    → items ≡ t ∷ ts → false ≡ (has_word (codes "status") t && is_one_word status (arguments t)) → None ≡ row_arguments status W items
row-not-status status W t ts items e f =
    ap (λ (b : Bool). if b then (if have_words W (items_with (codes "status" ∷ W) ts) then Some (map arguments (items_with W (t ∷ ts))) else None) else None) f
    ∙ sym (row-is status W t ts) ∙ sym (ap (row_arguments status W) e)

pub row-not-words :
    (status : List ℕ) (W : List (List ℕ)) (t : GeneralTree) (ts items : List GeneralTree)
    → items ≡ t ∷ ts → true ≡ (has_word (codes "status") t && is_one_word status (arguments t))
    → false ≡ have_words W (items_with (codes "status" ∷ W) ts) → None ≡ row_arguments status W items
row-not-words status W t ts items e f g =
    ap (λ (b : Bool). if b then Some (map arguments (items_with W (t ∷ ts))) else None) g
    ∙ ap (λ (b : Bool). if b then (if have_words W (items_with (codes "status" ∷ W) ts) then Some (map arguments (items_with W (t ∷ ts))) else None) else None) f
    ∙ sym (row-is status W t ts) ∙ sym (ap (row_arguments status W) e)

pub row-there :
    (status : List ℕ) (W : List (List ℕ)) (t : GeneralTree) (ts items : List GeneralTree) (row : List (List GeneralTree))
    → items ≡ t ∷ ts → true ≡ (has_word (codes "status") t && is_one_word status (arguments t))
    → true ≡ have_words W (items_with (codes "status" ∷ W) ts) → row ≡ map arguments (items_with W items) → Some row ≡ row_arguments status W items
row-there status W t ts items row e f g r =
    ap (λ us. Some us) (r ∙ ap (λ us. map arguments (items_with W us)) e)
    ∙ ap (λ (b : Bool). if b then Some (map arguments (items_with W (t ∷ ts))) else None) g
    ∙ ap (λ (b : Bool). if b then (if have_words W (items_with (codes "status" ∷ W) ts) then Some (map arguments (items_with W (t ∷ ts))) else None) else None) f
    ∙ sym (row-is status W t ts) ∙ sym (ap (row_arguments status W) e)

-- ---- lists of what items say, each of which says something

abbrev pub joined : {X : Type 0} → List X → Option (List X) → Option (List X)
joined made None = None
joined made (Some xs) = Some (made ++ xs)

abbrev pub all_left : {X : Type 0} → (GeneralTree → Option X) → List GeneralTerm → ℕ → Option (List X)
all_left item ts i = all_there (map item (map tree_of (drop i ts)))

pub all-more :
    {X : Type 0} (item : GeneralTree → Option X) (ts : List GeneralTerm) (i : ℕ) (t : GeneralTerm) (x : X) (made new : List X) (all : Option (List X))
    → i < length ts → t ≡ get_or ts i t → Some x ≡ item (tree_of t) → new ≡ made ++ x ∷ []
    → joined made (all_left item ts i) ≡ all → joined new (all_left item ts (i + 1)) ≡ all
all-more {X = X} item ts i t x made new all h e o a w =
    ap (λ ys. joined ys (all_left item ts (i + 1))) a ∙ by (all_left item ts (i + 1))
    ∙ ap (λ p. joined made (option_and_then (λ y. option_map (λ ys. y ∷ ys) (all_left item ts (i + 1))) p)) o
    ∙ ap (λ us. joined made (all_there (map item (map tree_of us)))) (sym (drop-item ts i t h e)) ∙ w
  where
    by : (o : Option (List X)) → joined (made ++ x ∷ []) o ≡ joined made (option_map (λ ys. x ∷ ys) o)
    by None = refl
    by (Some ys) = ap (λ zs. Some zs) (push-joined made x ys)

pub all-none :
    {X : Type 0} (item : GeneralTree → Option X) (ts : List GeneralTerm) (i : ℕ) (t : GeneralTerm) (made : List X) (all : Option (List X))
    → i < length ts → t ≡ get_or ts i t → None ≡ item (tree_of t) → joined made (all_left item ts i) ≡ all → None ≡ all
all-none item ts i t made all h e o w =
    ap (λ p. joined made (option_and_then (λ y. option_map (λ ys. y ∷ ys) (all_left item ts (i + 1))) p)) o
    ∙ ap (λ us. joined made (all_there (map item (map tree_of us)))) (sym (drop-item ts i t h e)) ∙ w

pub all-end :
    {X : Type 0} (item : GeneralTree → Option X) (ts : List GeneralTerm) (i : ℕ) (made : List X) (all : Option (List X))
    → length ts ≤ i → joined made (all_left item ts i) ≡ all → Some made ≡ all
all-end item ts i made all h w =
    ap (λ ys. Some ys) (sym (append-nil made)) ∙ ap (λ us. joined made (all_there (map item (map tree_of us)))) (sym (drop-all ts i h)) ∙ w

all-begin : {X : Type 0} (o : Option (List X)) → joined [] o ≡ o
all-begin None = refl
all-begin (Some xs) = refl

pub all-starts :
    {X : Type 0} (item : GeneralTree → Option X) (ts : List GeneralTerm) (made : List X)
    → made ≡ [] → joined made (all_left item ts 0) ≡ all_left item ts 0
all-starts item ts made e = ap (λ ys. joined ys (all_left item ts 0)) e ∙ all-begin (all_left item ts 0)

abbrev length_there : Option (List GeneralTree) → ℕ
length_there None = 0
length_there (Some ts) = 1

-- the list that is the only argument
pub list-whole :
    {X : Type 0} (item : GeneralTree → Option X) (ts : List GeneralTree) (o : Option GeneralTree)
    → Some ts ≡ option_and_then items_in o → all_there (map item ts) ≡ option_and_then (list_in item) o
list-whole item ts None e = absurd (omega (arith, ap length_there e))
list-whole item ts (Some t) e = ap (option_and_then (λ us. all_there (map item us))) e

pub list-read :
    {X E : Type 0} (r : Result (Option (List X)) E) (item : GeneralTree → Option X) (ts : List GeneralTree) (o : Option GeneralTree)
    → Some ts ≡ option_and_then items_in o → IfOk r (λ xs. xs ≡ all_there (map item ts)) → IfOk r (λ xs. xs ≡ option_and_then (list_in item) o)
list-read (Ok xs) item ts o e h = h ∙ list-whole item ts o e
list-read (Err fault) item ts o e h = tt

pub numbers-read :
    {E : Type 0} (r : Result (Option (List ℕ)) E) (t : GeneralTerm) (ts : List GeneralTree)
    → tree_of t ≡ listed (trees_of ts) → IfOk r (λ ns. ns ≡ all_numbers ts) → IfOk r (λ ns. ns ≡ numbers_in (tree_of t))
numbers-read (Ok ns) t ts e h = h ∙ ap all_numbers (sym (listed-generals ts)) ∙ ap numbers_in (sym e)
numbers-read (Err fault) t ts e h = tt
