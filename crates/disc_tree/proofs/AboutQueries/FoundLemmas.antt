-- What a query finds among the rows of a node.
use Rattle.std.proofs.Common.{◌≡◌, ℕ, suc, ◌+◌, ◌<◌, Bool, true, false, ◌&&◌, ◌||◌, List, [], ◌∷◌, ◌++◌, length, append-nil, refl, ap, ap₂, sym, subst, ◌∙◌, arith, ⊎_elim, if◌then◌else◌, take, IfOk, Result, Ok, Err}
use Rattle.std.proofs.lemmas.Bool.{cases_Bool, cond-true, cond-false}
use Rattle.std.proofs.lemmas.List.{take_more}
use Rattle.fol_base.specs.Tree.{Tree, variable, application, Trees, trees_of, list_of}
use Rattle.fol_base.proofs.AboutTerms.TreeLemmas.{list_of-trees_of}
use Rattle.fol_base.specs.Compatible.{compatible_by}
use Rattle.disc_tree.specs.declared.label.Label.{Label}
use Rattle.disc_tree.specs.declared.label.Label.TheVariants.{Star, Symbol}
use Rattle.disc_tree.specs.Path.{head, arity, fits, same_label}
use Rattle.disc_tree.specs.Entries.{IsBeginning, numbers_where}
use Rattle.disc_tree.specs.Rows.{Row, Child, here, below, all_below, rows, rows_at, found_in, numbers_of, IsBefore, Rise, IsChildAt, entries_of, HavePaths}
use Rattle.disc_tree.proofs.AboutPaths.LabelLemmas.{same-label-is, after-not-same}
use Rattle.disc_tree.proofs.AboutPaths.SlotLemmas.{is_before-weaker}
use Rattle.disc_tree.proofs.AboutPaths.PathLemmas.{fits-path}
use Rattle.disc_tree.proofs.AboutPaths.ChildLemmas.{all_below-append}

-- ---- one step of a scan

found-true :
    (e q : Bool) (k : ℕ) (ts : List Tree) (r : Row) (rs : List Row)
    → fits e q k ts r.0 ≡ true → found_in e q k ts (r ∷ rs) ≡ r.1.1 ∷ found_in e q k ts rs
found-true e q k ts r rs h = cond-true (fits e q k ts r.0) (r.1.1 ∷ found_in e q k ts rs) (found_in e q k ts rs) h

found-false :
    (e q : Bool) (k : ℕ) (ts : List Tree) (r : Row) (rs : List Row)
    → fits e q k ts r.0 ≡ false → found_in e q k ts (r ∷ rs) ≡ found_in e q k ts rs
found-false e q k ts r rs h = cond-false (fits e q k ts r.0) (r.1.1 ∷ found_in e q k ts rs) (found_in e q k ts rs) h

pub found-append :
    (e q : Bool) (k : ℕ) (ts : List Tree) (rs ss : List Row)
    → found_in e q k ts (rs ++ ss) ≡ found_in e q k ts rs ++ found_in e q k ts ss
found-append e q k ts [] ss = refl
found-append e q k ts (r ∷ rs) ss =
    ⊎_elim
    (λ t.
    found-true e q k ts r (rs ++ ss) t ∙ ap (λ ns. r.1.1 ∷ ns) (found-append e q k ts rs ss)
    ∙ ap (λ ns. ns ++ found_in e q k ts ss) (sym (found-true e q k ts r rs t)))
    (λ f.
    found-false e q k ts r (rs ++ ss) f ∙ found-append e q k ts rs ss
    ∙ ap (λ ns. ns ++ found_in e q k ts ss) (sym (found-false e q k ts r rs f)))
    (cases_Bool (fits e q k ts r.0))

-- a child in which what is left is read on, where its label fits by the test
pub found-below :
    (e q : Bool) (k : ℕ) (ts : List Tree) (k' : ℕ) (ts' : List Tree) (b : Bool) (l : Label) (rs : List Row)
    → ((p : List Label) → fits e q k ts (l ∷ p) ≡ (b && fits e q k' ts' p))
    → found_in e q k ts (below l rs) ≡ (if b then found_in e q k' ts' rs else [])
found-below e q k ts k' ts' true l [] h = refl
found-below e q k ts k' ts' false l [] h = refl
found-below e q k ts k' ts' true l (r ∷ rs) h =
    ⊎_elim
    (λ t.
    found-true e q k ts (l ∷ r.0, r.1) (below l rs) (h r.0 ∙ t)
    ∙ ap (λ ns. r.1.1 ∷ ns) (found-below e q k ts k' ts' true l rs h) ∙ sym (found-true e q k' ts' r rs t))
    (λ f.
    found-false e q k ts (l ∷ r.0, r.1) (below l rs) (h r.0 ∙ f)
    ∙ found-below e q k ts k' ts' true l rs h ∙ sym (found-false e q k' ts' r rs f))
    (cases_Bool (fits e q k' ts' r.0))
found-below e q k ts k' ts' false l (r ∷ rs) h =
    found-false e q k ts (l ∷ r.0, r.1) (below l rs) (h r.0) ∙ found-below e q k ts k' ts' false l rs h

-- ---- the entries at the node itself

found-here-end : (e q : Bool) (xs : List (Tree × ℕ)) → found_in e q 0 [] (here xs) ≡ numbers_of xs
found-here-end e q [] = refl
found-here-end e q (x ∷ xs) = found-true e q 0 [] ([], x) (here xs) refl ∙ ap (λ ns. x.1 ∷ ns) (found-here-end e q xs)

found-here-more : (e q : Bool) (t : Tree) (ts : List Tree) (xs : List (Tree × ℕ)) → found_in e q 0 (t ∷ ts) (here xs) ≡ []
found-here-more e q t ts [] = refl
found-here-more e q t ts (x ∷ xs) = found-false e q 0 (t ∷ ts) ([], x) (here xs) refl ∙ found-here-more e q t ts xs

found-here-passing : (e q : Bool) (k : ℕ) (ts : List Tree) (xs : List (Tree × ℕ)) → found_in e q (suc k) ts (here xs) ≡ []
found-here-passing e q k ts [] = refl
found-here-passing e q k ts (x ∷ xs) = found-false e q (suc k) ts ([], x) (here xs) refl ∙ found-here-passing e q k ts xs

found-below-end : (e q : Bool) (cs : List Child) → found_in e q 0 [] (all_below cs) ≡ []
found-below-end e q [] = refl
found-below-end e q (c ∷ cs) =
    found-append e q 0 [] (below c.0 c.1) (all_below cs)
    ∙ ap₂ ◌++◌ (found-below e q 0 [] 0 [] false c.0 c.1 (λ p. refl)) (found-below-end e q cs)

-- where nothing is left, the node's own entries are found
pub found-at-end :
    (e q : Bool) (xs : List (Tree × ℕ)) (cs : List Child) → found_in e q 0 [] (rows (xs, cs)) ≡ numbers_of xs
found-at-end e q xs cs =
    found-append e q 0 [] (here xs) (all_below cs) ∙ ap₂ ◌++◌ (found-here-end e q xs) (found-below-end e q cs)
    ∙ append-nil (numbers_of xs)

-- ---- terms that are passed over

found-passing-child :
    (e q : Bool) (k : ℕ) (ts : List Tree) (l : Label) (rs : List Row)
    → found_in e q (suc k) ts (below l rs) ≡ found_in e q (arity l + k) ts rs
found-passing-child e q k ts Star rs =
    found-below e q (suc k) ts k ts true Star rs (λ p. refl) ∙ ap (λ n. found_in e q n ts rs) (zero-plus k)
  where
    zero-plus : (n : ℕ) → n ≡ 0 + n
    zero-plus n = omega arith
found-passing-child e q k ts (Symbol f n) rs = found-below e q (suc k) ts (n + k) ts true (Symbol f n) rs (λ p. refl)

pub found-passing-one :
    (e q : Bool) (k : ℕ) (ts : List Tree) (c : Child) (cs : List Child)
    → found_in e q (suc k) ts (all_below (c ∷ cs)) ≡ found_in e q (arity c.0 + k) ts c.1 ++ found_in e q (suc k) ts (all_below cs)
found-passing-one e q k ts c cs =
    found-append e q (suc k) ts (below c.0 c.1) (all_below cs)
    ∙ ap (λ ns. ns ++ found_in e q (suc k) ts (all_below cs)) (found-passing-child e q k ts c.0 c.1)

pub found-passing :
    (e q : Bool) (k : ℕ) (ts : List Tree) (xs : List (Tree × ℕ)) (cs : List Child)
    → found_in e q (suc k) ts (rows (xs, cs)) ≡ found_in e q (suc k) ts (all_below cs)
found-passing e q k ts xs cs =
    found-append e q (suc k) ts (here xs) (all_below cs)
    ∙ ap (λ ns. ns ++ found_in e q (suc k) ts (all_below cs)) (found-here-passing e q k ts xs)

-- a variable of the query that stands for terms passes over one
found-variable-child :
    (e : Bool) (w : ℕ) (ts : List Tree) (l : Label) (rs : List Row)
    → found_in e true 0 (variable w ∷ ts) (below l rs) ≡ found_in e true 1 ts (below l rs)
found-variable-child e w ts Star rs =
    found-below e true 0 (variable w ∷ ts) 0 ts true Star rs (λ p. ap (λ b. b && fits e true 0 ts p) (or_true e))
    ∙ sym (found-below e true 1 ts 0 ts true Star rs (λ p. refl))
  where
    or_true : (b : Bool) → (b || true) ≡ true
    or_true true = refl
    or_true false = refl
found-variable-child e w ts (Symbol f n) rs =
    found-below e true 0 (variable w ∷ ts) n ts true (Symbol f n) rs (λ p. refl)
    ∙ sym (found-below e true 1 ts n ts true (Symbol f n) rs (λ p. ap (λ m. fits e true m ts p) (plus-zero n)))
  where
    plus-zero : (n : ℕ) → n + 0 ≡ n
    plus-zero n = omega arith

found-variable-below :
    (e : Bool) (w : ℕ) (ts : List Tree) (cs : List Child)
    → found_in e true 0 (variable w ∷ ts) (all_below cs) ≡ found_in e true 1 ts (all_below cs)
found-variable-below e w ts [] = refl
found-variable-below e w ts (c ∷ cs) =
    found-append e true 0 (variable w ∷ ts) (below c.0 c.1) (all_below cs)
    ∙ ap₂ ◌++◌ (found-variable-child e w ts c.0 c.1) (found-variable-below e w ts cs)
    ∙ sym (found-append e true 1 ts (below c.0 c.1) (all_below cs))

pub found-variable :
    (e : Bool) (w : ℕ) (ts : List Tree) (xs : List (Tree × ℕ)) (cs : List Child)
    → found_in e true 0 (variable w ∷ ts) (rows (xs, cs)) ≡ found_in e true 1 ts (rows (xs, cs))
found-variable e w ts xs cs =
    found-append e true 0 (variable w ∷ ts) (here xs) (all_below cs)
    ∙ ap₂ ◌++◌ (found-here-more e true (variable w) ts xs ∙ sym (found-here-passing e true 0 ts xs)) (found-variable-below e w ts cs)
    ∙ sym (found-append e true 1 ts (here xs) (all_below cs))

-- ---- a head that is looked up: the star's child first, and then the symbol's

abbrev nothing : List ℕ
nothing = []

if-none : (b : Bool) → (if b then nothing else nothing) ≡ nothing
if-none true = refl
if-none false = refl

-- behind its label no child has the symbol
none-behind :
    (e q : Bool) (g : ℕ) (us : Trees) (ts : List Tree) (cs : List Child)
    → IsBefore (Symbol g (length (list_of us))) cs → found_in e q 0 (application g us ∷ ts) (all_below cs) ≡ []
none-behind e q g us ts [] b = refl
none-behind e q g us ts ((Star, rs) ∷ cs) b = cc
none-behind e q g us ts ((Symbol f n, rs) ∷ cs) b =
    found-append e q 0 (application g us ∷ ts) (below (Symbol f n) rs) (all_below cs)
    ∙ ap₂ ◌++◌
    (found-below e q 0 (application g us ∷ ts) 0 (list_of us ++ ts) false (Symbol f n) rs
    (λ p. ap (λ t. t && fits e q 0 (list_of us ++ ts) p) (after-not-same (Symbol f n) (Symbol g (length (list_of us))) b.0)))
    (none-behind e q g us ts cs b.1)

symbol-read :
    (e q : Bool) (g : ℕ) (us : Trees) (ts : List Tree) (cs : List Child)
    → IsBefore Star cs → Rise cs
    → found_in e q 0 (application g us ∷ ts) (all_below cs)
    ≡ found_in e q 0 (list_of us ++ ts) (rows_at (Symbol g (length (list_of us))) cs)
symbol-read e q g us ts [] b r = refl
symbol-read e q g us ts ((Star, rs) ∷ cs) b r = cc
symbol-read e q g us ts ((Symbol f n, rs) ∷ cs) b r =
    ⊎_elim
    (λ same.
    found-append e q 0 (application g us ∷ ts) (below (Symbol f n) rs) (all_below cs)
    ∙ ap₂ ◌++◌
    (found-below e q 0 (application g us ∷ ts) 0 (list_of us ++ ts) true (Symbol f n) rs
    (λ p. ap (λ t. t && fits e q 0 (list_of us ++ ts) p) same))
    (none-behind e q g us ts cs (subst (λ l. IsBefore l cs) (same-label-is (Symbol f n) (Symbol g (length (list_of us))) same) r.0))
    ∙ append-nil (found_in e q 0 (list_of us ++ ts) rs)
    ∙ ap (λ ss. found_in e q 0 (list_of us ++ ts) ss)
    (sym (cond-true (same_label (Symbol f n) (Symbol g (length (list_of us)))) rs (rows_at (Symbol g (length (list_of us))) cs) same)))
    (λ other.
    found-append e q 0 (application g us ∷ ts) (below (Symbol f n) rs) (all_below cs)
    ∙ ap₂ ◌++◌
    (found-below e q 0 (application g us ∷ ts) 0 (list_of us ++ ts) false (Symbol f n) rs
    (λ p. ap (λ t. t && fits e q 0 (list_of us ++ ts) p) other))
    (symbol-read e q g us ts cs b.1 r.1)
    ∙ ap (λ ss. found_in e q 0 (list_of us ++ ts) ss)
    (sym (cond-false (same_label (Symbol f n) (Symbol g (length (list_of us)))) rs (rows_at (Symbol g (length (list_of us))) cs) other)))
    (cases_Bool (same_label (Symbol f n) (Symbol g (length (list_of us)))))

pub no-star : (cs : List Child) → IsBefore Star cs → rows_at Star cs ≡ []
no-star [] b = refl
no-star ((Star, rs) ∷ cs) b = cc
no-star ((Symbol f n, rs) ∷ cs) b = no-star cs b.1

pub below-symbols : (f n : ℕ) (rs : List Row) (cs : List Child) → Rise ((Symbol f n, rs) ∷ cs) → IsBefore Star ((Symbol f n, rs) ∷ cs)
below-symbols f n rs cs r = (refl, is_before-weaker Star (Symbol f n) cs refl r.0)

application-read-below :
    (e q : Bool) (g : ℕ) (us : Trees) (ts : List Tree) (cs : List Child)
    → Rise cs
    → found_in e q 0 (application g us ∷ ts) (all_below cs)
    ≡ (if e then found_in e q 0 ts (rows_at Star cs) else [])
    ++ found_in e q 0 (list_of us ++ ts) (rows_at (Symbol g (length (list_of us))) cs)
application-read-below e q g us ts [] r = ap (λ ns. ns ++ []) (sym (if-none e))
application-read-below e q g us ts ((Star, rs) ∷ cs) r =
    found-append e q 0 (application g us ∷ ts) (below Star rs) (all_below cs)
    ∙ ap₂ ◌++◌ (found-below e q 0 (application g us ∷ ts) 0 ts e Star rs (λ p. refl)) (symbol-read e q g us ts cs r.0 r.1)
application-read-below e q g us ts ((Symbol f n, rs) ∷ cs) r =
    let all : List Child = (Symbol f n, rs) ∷ cs in
    symbol-read e q g us ts all (below-symbols f n rs cs r) r
    ∙ ap (λ ns. ns ++ found_in e q 0 (list_of us ++ ts) (rows_at (Symbol g (length (list_of us))) all))
    (sym (ap (λ ss. if e then found_in e q 0 ts ss else []) (no-star all (below-symbols f n rs cs r)) ∙ if-none e))

-- a term with a symbol: the star's child without it, and the symbol's child with its arguments
pub application-read :
    (e q : Bool) (g : ℕ) (us : Trees) (ts : List Tree) (xs : List (Tree × ℕ)) (cs : List Child)
    → Rise cs
    → found_in e q 0 (application g us ∷ ts) (rows (xs, cs))
    ≡ (if e then found_in e q 0 ts (rows_at Star cs) else [])
    ++ found_in e q 0 (list_of us ++ ts) (rows_at (Symbol g (length (list_of us))) cs)
application-read e q g us ts xs cs r =
    found-append e q 0 (application g us ∷ ts) (here xs) (all_below cs)
    ∙ ap (λ ns. ns ++ found_in e q 0 (application g us ∷ ts) (all_below cs)) (found-here-more e q (application g us) ts xs)
    ∙ application-read-below e q g us ts cs r

no-symbol :
    (e : Bool) (w : ℕ) (ts : List Tree) (cs : List Child)
    → IsBefore Star cs → found_in e false 0 (variable w ∷ ts) (all_below cs) ≡ []
no-symbol e w ts [] b = refl
no-symbol e w ts ((Star, rs) ∷ cs) b = cc
no-symbol e w ts ((Symbol f n, rs) ∷ cs) b =
    found-append e false 0 (variable w ∷ ts) (below (Symbol f n) rs) (all_below cs)
    ∙ ap₂ ◌++◌ (found-below e false 0 (variable w ∷ ts) n ts false (Symbol f n) rs (λ p. refl)) (no-symbol e w ts cs b.1)

variable-read-below :
    (e : Bool) (w : ℕ) (ts : List Tree) (cs : List Child)
    → Rise cs
    → found_in e false 0 (variable w ∷ ts) (all_below cs) ≡ (if e then found_in e false 0 ts (rows_at Star cs) else [])
variable-read-below e w ts [] r = sym (if-none e)
variable-read-below e w ts ((Star, rs) ∷ cs) r =
    found-append e false 0 (variable w ∷ ts) (below Star rs) (all_below cs)
    ∙ ap₂ ◌++◌
    (found-below e false 0 (variable w ∷ ts) 0 ts e Star rs (λ p. ap (λ b. b && fits e false 0 ts p) (or_false e)))
    (no-symbol e w ts cs r.0)
    ∙ append-nil (if e then found_in e false 0 ts rs else [])
  where
    or_false : (b : Bool) → (b || false) ≡ b
    or_false true = refl
    or_false false = refl
variable-read-below e w ts ((Symbol f n, rs) ∷ cs) r =
    let all : List Child = (Symbol f n, rs) ∷ cs in
    no-symbol e w ts all (below-symbols f n rs cs r)
    ∙ sym (ap (λ ss. if e then found_in e false 0 ts ss else []) (no-star all (below-symbols f n rs cs r)) ∙ if-none e)

-- a variable that stands for itself alone: the star's child
pub variable-read :
    (e : Bool) (w : ℕ) (ts : List Tree) (xs : List (Tree × ℕ)) (cs : List Child)
    → Rise cs
    → found_in e false 0 (variable w ∷ ts) (rows (xs, cs)) ≡ (if e then found_in e false 0 ts (rows_at Star cs) else [])
variable-read e w ts xs cs r =
    found-append e false 0 (variable w ∷ ts) (here xs) (all_below cs)
    ∙ ap (λ ns. ns ++ found_in e false 0 (variable w ∷ ts) (all_below cs)) (found-here-more e false (variable w) ts xs)
    ∙ variable-read-below e w ts cs r

neither-read : (w : ℕ) (ts : List Tree) (cs : List Child) → found_in false false 0 (variable w ∷ ts) (all_below cs) ≡ []
neither-read w ts [] = refl
neither-read w ts ((Star, rs) ∷ cs) =
    found-append false false 0 (variable w ∷ ts) (below Star rs) (all_below cs)
    ∙ ap₂ ◌++◌ (found-below false false 0 (variable w ∷ ts) 0 ts false Star rs (λ p. refl)) (neither-read w ts cs)
neither-read w ts ((Symbol f n, rs) ∷ cs) =
    found-append false false 0 (variable w ∷ ts) (below (Symbol f n) rs) (all_below cs)
    ∙ ap₂ ◌++◌ (found-below false false 0 (variable w ∷ ts) n ts false (Symbol f n) rs (λ p. refl)) (neither-read w ts cs)

-- ---- the steps of a query

pub if_ok-map : {X E A B : Type 0} (r : Result X E) → (A → B) → IfOk r (λ _. A) → IfOk r (λ _. B)
if_ok-map (Ok x) f h = f h
if_ok-map (Err e) f h = tt

-- where nothing is passed over and nothing is left
pub end-step :
    (e q : Bool) (k : ℕ) (ts : List Tree) (xs : List (Tree × ℕ)) (cs : List Child)
    → k ≡ 0 → ts ≡ [] → found_in e q k ts (rows (xs, cs)) ≡ numbers_of xs
end-step e q k ts xs cs h t =
    ap (λ n. found_in e q n ts (rows (xs, cs))) h ∙ ap (λ us. found_in e q 0 us (rows (xs, cs))) t ∙ found-at-end e q xs cs

-- a variable that stands for terms
pub variable-step :
    (e q : Bool) (k w : ℕ) (ts ms after : List Tree) (t : Tree) (xs : List (Tree × ℕ)) (cs : List Child)
    → k ≡ 0 → ts ≡ t ∷ ms → after ≡ ms → t ≡ variable w → q ≡ true
    → found_in e q k ts (rows (xs, cs)) ≡ found_in e q 1 after (rows (xs, cs))
variable-step e false k w ts ms after t xs cs h i a v q = absurd cc
variable-step e true k w ts ms after t xs cs h i a v q =
    ap (λ n. found_in e true n ts (rows (xs, cs))) h ∙ ap (λ us. found_in e true 0 us (rows (xs, cs))) (i ∙ ap (λ u. u ∷ ms) v)
    ∙ found-variable e w ms xs cs ∙ ap (λ us. found_in e true 1 us (rows (xs, cs))) (sym a)

-- a variable that doesn't
pub star-step :
    (e q : Bool) (k w : ℕ) (ts ms after : List Tree) (t : Tree) (xs : List (Tree × ℕ)) (cs : List Child)
    → k ≡ 0 → ts ≡ t ∷ ms → after ≡ ms → t ≡ variable w → q ≡ false → (e ≡ true → Rise cs)
    → found_in e q k ts (rows (xs, cs)) ≡ (if e then found_in e q 0 after (rows_at Star cs) else [])
star-step e true k w ts ms after t xs cs h i a v q r = absurd cc
star-step true false k w ts ms after t xs cs h i a v q r =
    ap (λ n. found_in true false n ts (rows (xs, cs))) h ∙ ap (λ us. found_in true false 0 us (rows (xs, cs))) (i ∙ ap (λ u. u ∷ ms) v)
    ∙ variable-read true w ms xs cs (r refl) ∙ ap (λ us. found_in true false 0 us (rows_at Star cs)) (sym a)
star-step false false k w ts ms after t xs cs h i a v q r =
    ap (λ n. found_in false false n ts (rows (xs, cs))) h ∙ ap (λ us. found_in false false 0 us (rows (xs, cs))) (i ∙ ap (λ u. u ∷ ms) v)
    ∙ found-append false false 0 (variable w ∷ ms) (here xs) (all_below cs)
    ∙ ap₂ ◌++◌ (found-here-more false false (variable w) ms xs) (neither-read w ms cs)

-- a term with a symbol
pub application-step :
    (e q : Bool) (k g : ℕ) (ts ms after next us : List Tree) (t : Tree) (l : Label) (xs : List (Tree × ℕ)) (cs : List Child)
    → k ≡ 0 → ts ≡ t ∷ ms → after ≡ ms → t ≡ application g (trees_of us) → next ≡ us ++ after → l ≡ head t → Rise cs
    → found_in e q k ts (rows (xs, cs))
    ≡ (if e then found_in e q 0 after (rows_at Star cs) else []) ++ found_in e q 0 next (rows_at l cs)
application-step e q k g ts ms after next us t l xs cs h i a v n m r =
    ap (λ j. found_in e q j ts (rows (xs, cs))) h
    ∙ ap (λ zs. found_in e q 0 zs (rows (xs, cs))) (i ∙ ap (λ u. u ∷ ms) v ∙ ap (λ zs. application g (trees_of us) ∷ zs) (sym a))
    ∙ application-read e q g (trees_of us) after xs cs r
    ∙ ap (λ ns. (if e then found_in e q 0 after (rows_at Star cs) else []) ++ ns)
    (ap (λ zs. found_in e q 0 zs (rows_at (Symbol g (length (list_of (trees_of us)))) cs)) (ap (λ zs. zs ++ after) (list_of-trees_of us) ∙ sym n)
    ∙ ap (λ j. found_in e q 0 next (rows_at j cs)) (sym (m ∙ ap head v)))

-- one more child, where terms are passed over
pub children-more :
    (e q : Bool) (k : ℕ) (ts : List Tree) (cs : List Child) (i : ℕ) (l : Label) (rs : List Row)
    → i < length cs → IsChildAt l rs cs i
    → found_in e q (suc k) ts (all_below (take (i + 1) cs))
    ≡ found_in e q (suc k) ts (all_below (take i cs)) ++ found_in e q (arity l + k) ts rs
children-more e q k ts cs i l rs h at_i =
    ap (λ ds. found_in e q (suc k) ts (all_below ds))
    (take_more cs i (l, rs) h ∙ ap (λ c. take i cs ++ c ∷ []) (at_i (l, rs)))
    ∙ ap (found_in e q (suc k) ts) (all_below-append (take i cs) ((l, rs) ∷ []))
    ∙ found-append e q (suc k) ts (all_below (take i cs)) (all_below ((l, rs) ∷ []))
    ∙ ap (λ ns. found_in e q (suc k) ts (all_below (take i cs)) ++ ns)
    (found-passing-one e q k ts (l, rs) [] ∙ append-nil (found_in e q (arity l + k) ts rs))

-- ---- the answer of a query

pub found-compatible :
    (e q : Bool) (u : Tree) (rs : List Row)
    → HavePaths rs → found_in e q 0 (u ∷ []) rs ≡ numbers_where (λ t. compatible_by e q t u) (entries_of rs)
found-compatible e q u [] h = refl
found-compatible e q u (r ∷ rs) h =
    let test : fits e q 0 (u ∷ []) r.0 ≡ compatible_by e q r.1.0 u = ap (fits e q 0 (u ∷ [])) h.0 ∙ fits-path e q r.1.0 u in
    ap (λ b. if b then r.1.1 ∷ found_in e q 0 (u ∷ []) rs else found_in e q 0 (u ∷ []) rs) test
    ∙ ap (λ ns. if compatible_by e q r.1.0 u then r.1.1 ∷ ns else ns) (found-compatible e q u rs h.1)

-- ---- numbers of entries

pub numbers-append : (xs ys : List (Tree × ℕ)) → numbers_of (xs ++ ys) ≡ numbers_of xs ++ numbers_of ys
numbers-append [] ys = refl
numbers-append (x ∷ xs) ys = ap (λ ns. x.1 ∷ ns) (numbers-append xs ys)

-- ---- the list that is lent

pub begins-more : (xs ys : List ℕ) → IsBeginning xs (xs ++ ys)
begins-more [] ys = refl
begins-more (x ∷ xs) ys = ap (λ (zs : List ℕ). x ∷ zs) (begins-more xs ys)

pub begins-trans : (xs ys zs : List ℕ) → IsBeginning xs ys → IsBeginning ys zs → IsBeginning xs zs
begins-trans [] ys zs h k = refl
begins-trans (x ∷ xs) [] zs h k = absurd cc
begins-trans (x ∷ xs) (y ∷ ys) [] h k = absurd cc
begins-trans (x ∷ xs) (y ∷ ys) (z ∷ zs) h k =
    let first : z ≡ x = cc in
    let front : take (length xs) ys ≡ xs = cc in
    let more : take (length ys) zs ≡ ys = cc in
    ap₂ (λ (n : ℕ) (ns : List ℕ). n ∷ ns) first (begins-trans xs ys zs front more)
