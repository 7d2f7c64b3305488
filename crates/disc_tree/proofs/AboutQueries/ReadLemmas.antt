-- What a test of generalisations is asked among the rows of a node and of a tail.
use Rattle.std.proofs.Common.{◌≡◌, ℕ, true, false, ◌&&◌, ◌==◌, List, [], ◌∷◌, ◌++◌, length, append-nil, append_assoc, refl, ap, ap₂, sym, subst, ◌∙◌, ⊎_elim, Option, None, Some}
use Rattle.std.proofs.lemmas.Bool.{cases_Bool, cond-true, cond-false, and_from}
use Rattle.fol_base.specs.Tree.{Tree, variable, application, Trees, no_trees, tree_then, trees_of, list_of}
use Rattle.fol_base.proofs.AboutTerms.TreeLemmas.{list_of-trees_of}
use Rattle.fol_base.specs.Compatible.{compatible_by, all_compatible_by}
use Rattle.disc_tree.specs.declared.label.Label.{Label}
use Rattle.disc_tree.specs.declared.label.Label.TheVariants.{Star, Symbol}
use Rattle.disc_tree.specs.Path.{head, arguments, fits, same_label, path, paths}
use Rattle.disc_tree.specs.Rows.{Row, Child, here, below, all_below, all_at, rows, rows_at, IsBefore, Rise, entries_of, HavePaths}
use Rattle.disc_tree.specs.Generalisations.{Match, generalisations, stood_for, all_stood_for}
use Rattle.disc_tree.specs.Reading.{read_along, with_match, matches_in, matches_of}
use Rattle.disc_tree.proofs.AboutPaths.LabelLemmas.{same-label-is, after-not-same}
use Rattle.disc_tree.proofs.AboutPaths.PathLemmas.{fits-path, compatible-lengths}
use Rattle.disc_tree.proofs.AboutQueries.FoundLemmas.{no-star, below-symbols}
use Rattle.list_lemmas.proofs.Bools.{and-first, and-second}

-- ---- parts of a list of rows

with-append : (o : Option (List Tree)) (e : Tree × ℕ) (ms ns : List Match) → with_match o e (ms ++ ns) ≡ with_match o e ms ++ ns
with-append None e ms ns = refl
with-append (Some stars) e ms ns = refl

matches-append :
    (before ts : List Tree) (rs ss : List Row) → matches_in before ts (rs ++ ss) ≡ matches_in before ts rs ++ matches_in before ts ss
matches-append before ts [] ss = refl
matches-append before ts (r ∷ rs) ss =
    ap (with_match (read_along before ts r.0) r.1) (matches-append before ts rs ss)
    ∙ with-append (read_along before ts r.0) r.1 (matches_in before ts rs) (matches_in before ts ss)

-- a child behind whose label the paths are read on
matches-below :
    (before ts before' ts' : List Tree) (l : Label) (rs : List Row)
    → ((p : List Label) → read_along before ts (l ∷ p) ≡ read_along before' ts' p)
    → matches_in before ts (below l rs) ≡ matches_in before' ts' rs
matches-below before ts before' ts' l [] h = refl
matches-below before ts before' ts' l (r ∷ rs) h =
    ap₂ (λ o ms. with_match o r.1 ms) (h r.0) (matches-below before ts before' ts' l rs h)

-- one whose label isn't read
matches-beside :
    (before ts : List Tree) (l : Label) (rs : List Row)
    → ((p : List Label) → read_along before ts (l ∷ p) ≡ None)
    → matches_in before ts (below l rs) ≡ []
matches-beside before ts l [] h = refl
matches-beside before ts l (r ∷ rs) h = ap₂ (λ o ms. with_match o r.1 ms) (h r.0) (matches-beside before ts l rs h)

-- ---- the entries at a node

matches-here-end : (before : List Tree) (xs : List (Tree × ℕ)) → matches_in before [] (here xs) ≡ matches_of before xs
matches-here-end before [] = refl
matches-here-end before (x ∷ xs) = ap (λ (ms : List Match). (x, before) ∷ ms) (matches-here-end before xs)

matches-here-more : (before : List Tree) (t : Tree) (ts : List Tree) (xs : List (Tree × ℕ)) → matches_in before (t ∷ ts) (here xs) ≡ []
matches-here-more before t ts [] = refl
matches-here-more before t ts (x ∷ xs) = matches-here-more before t ts xs

matches-below-end : (before : List Tree) (cs : List Child) → matches_in before [] (all_below cs) ≡ []
matches-below-end before [] = refl
matches-below-end before (c ∷ cs) =
    matches-append before [] (below c.0 c.1) (all_below cs)
    ∙ ap₂ ◌++◌ (matches-beside before [] c.0 c.1 (λ p. refl)) (matches-below-end before cs)

-- where nothing is left, the node's own entries
pub matches-at-end :
    (before ts : List Tree) (xs : List (Tree × ℕ)) (cs : List Child) → ts ≡ [] → matches_in before ts (rows (xs, cs)) ≡ matches_of before xs
matches-at-end before ts xs cs none =
    ap (λ us. matches_in before us (rows (xs, cs))) none
    ∙ matches-append before [] (here xs) (all_below cs) ∙ ap₂ ◌++◌ (matches-here-end before xs) (matches-below-end before cs)
    ∙ append-nil (matches_of before xs)

-- ---- the children with a symbol

same-read :
    (before ts : List Tree) (t : Tree) (f n : ℕ) (p : List Label)
    → same_label (Symbol f n) (head t) ≡ true → read_along before (t ∷ ts) (Symbol f n ∷ p) ≡ read_along before (arguments t ++ ts) p
same-read before ts t f n p same =
    let none : Option (List Tree) = None in
    cond-true (same_label (Symbol f n) (head t)) (read_along before (arguments t ++ ts) p) none same

other-read :
    (before ts : List Tree) (t : Tree) (f n : ℕ) (p : List Label)
    → same_label (Symbol f n) (head t) ≡ false → read_along before (t ∷ ts) (Symbol f n ∷ p) ≡ None
other-read before ts t f n p other =
    let none : Option (List Tree) = None in
    cond-false (same_label (Symbol f n) (head t)) (read_along before (arguments t ++ ts) p) none other

none-behind :
    (before ts : List Tree) (t : Tree) (cs : List Child) → IsBefore (head t) cs → matches_in before (t ∷ ts) (all_below cs) ≡ []
none-behind before ts t [] b = refl
none-behind before ts (variable v) ((Star, rs) ∷ cs) b = cc
none-behind before ts (application g us) ((Star, rs) ∷ cs) b = cc
none-behind before ts t ((Symbol f n, rs) ∷ cs) b =
    matches-append before (t ∷ ts) (below (Symbol f n) rs) (all_below cs)
    ∙ ap₂ ◌++◌
    (matches-beside before (t ∷ ts) (Symbol f n) rs
    (λ p. other-read before ts t f n p (after-not-same (Symbol f n) (head t) b.0)))
    (none-behind before ts t cs b.1)

symbols-read :
    (before ts : List Tree) (t : Tree) (cs : List Child)
    → IsBefore Star cs → Rise cs
    → matches_in before (t ∷ ts) (all_below cs) ≡ matches_in before (arguments t ++ ts) (rows_at (head t) cs)
symbols-read before ts t [] b r = refl
symbols-read before ts t ((Star, rs) ∷ cs) b r = cc
symbols-read before ts t ((Symbol f n, rs) ∷ cs) b r =
    ⊎_elim
    (λ same.
    matches-append before (t ∷ ts) (below (Symbol f n) rs) (all_below cs)
    ∙ ap₂ ◌++◌
    (matches-below before (t ∷ ts) before (arguments t ++ ts) (Symbol f n) rs (λ p. same-read before ts t f n p same))
    (none-behind before ts t cs (subst (λ l. IsBefore l cs) (same-label-is (Symbol f n) (head t) same) r.0))
    ∙ append-nil (matches_in before (arguments t ++ ts) rs)
    ∙ ap (matches_in before (arguments t ++ ts)) (sym (cond-true (same_label (Symbol f n) (head t)) rs (rows_at (head t) cs) same)))
    (λ other.
    matches-append before (t ∷ ts) (below (Symbol f n) rs) (all_below cs)
    ∙ ap₂ ◌++◌
    (matches-beside before (t ∷ ts) (Symbol f n) rs (λ p. other-read before ts t f n p other))
    (symbols-read before ts t cs b.1 r.1)
    ∙ ap (matches_in before (arguments t ++ ts)) (sym (cond-false (same_label (Symbol f n) (head t)) rs (rows_at (head t) cs) other)))
    (cases_Bool (same_label (Symbol f n) (head t)))

-- ---- a term at a node: the star's child without it, and the symbol's child with its arguments

children-read :
    (before ts us : List Tree) (g : ℕ) (cs : List Child)
    → Rise cs
    → matches_in before (application g (trees_of us) ∷ ts) (all_below cs)
    ≡ matches_in (before ++ application g (trees_of us) ∷ []) ts (rows_at Star cs)
    ++ matches_in before (us ++ ts) (rows_at (head (application g (trees_of us))) cs)
children-read before ts us g [] r = refl
children-read before ts us g ((Star, rs) ∷ cs) r =
    let t : Tree = application g (trees_of us) in
    matches-append before (t ∷ ts) (below Star rs) (all_below cs)
    ∙ ap₂ ◌++◌ (matches-below before (t ∷ ts) (before ++ t ∷ []) ts Star rs (λ p. refl))
    (symbols-read before ts t cs r.0 r.1 ∙ ap (λ zs. matches_in before (zs ++ ts) (rows_at (head t) cs)) (list_of-trees_of us))
children-read before ts us g ((Symbol f n, rs) ∷ cs) r =
    let t : Tree = application g (trees_of us) in
    let all : List Child = (Symbol f n, rs) ∷ cs in
    symbols-read before ts t all (below-symbols f n rs cs r) r
    ∙ ap (λ zs. matches_in before (zs ++ ts) (rows_at (head t) all)) (list_of-trees_of us)
    ∙ ap (λ ms. ms ++ matches_in before (us ++ ts) (rows_at (head t) all))
    (sym (ap (matches_in (before ++ t ∷ []) ts) (no-star all (below-symbols f n rs cs r))))

variable-children-read :
    (before ts : List Tree) (w : ℕ) (cs : List Child)
    → Rise cs → matches_in before (variable w ∷ ts) (all_below cs) ≡ matches_in (before ++ variable w ∷ []) ts (rows_at Star cs)
variable-children-read before ts w [] r = refl
variable-children-read before ts w ((Star, rs) ∷ cs) r =
    let t : Tree = variable w in
    matches-append before (t ∷ ts) (below Star rs) (all_below cs)
    ∙ ap₂ ◌++◌ (matches-below before (t ∷ ts) (before ++ t ∷ []) ts Star rs (λ p. refl))
    (symbols-read before ts t cs r.0 r.1 ∙ ap (matches_in before ts) (no-star cs r.0))
    ∙ append-nil (matches_in (before ++ t ∷ []) ts rs)
variable-children-read before ts w ((Symbol f n, rs) ∷ cs) r =
    let t : Tree = variable w in
    let all : List Child = (Symbol f n, rs) ∷ cs in
    symbols-read before ts t all (below-symbols f n rs cs r) r
    ∙ ap (matches_in before ts) (no-star all (below-symbols f n rs cs r))
    ∙ sym (ap (matches_in (before ++ t ∷ []) ts) (no-star all (below-symbols f n rs cs r)))

without-entries :
    (before ts : List Tree) (t : Tree) (xs : List (Tree × ℕ)) (cs : List Child)
    → matches_in before (t ∷ ts) (rows (xs, cs)) ≡ matches_in before (t ∷ ts) (all_below cs)
without-entries before ts t xs cs =
    matches-append before (t ∷ ts) (here xs) (all_below cs)
    ∙ ap (λ ms. ms ++ matches_in before (t ∷ ts) (all_below cs)) (matches-here-more before t ts xs)

pub matches-variable :
    (w : ℕ) (before ts ms after : List Tree) (t : Tree) (xs : List (Tree × ℕ)) (cs : List Child)
    → ts ≡ t ∷ ms → after ≡ ms → t ≡ variable w → Rise cs
    → matches_in before ts (rows (xs, cs)) ≡ matches_in (before ++ t ∷ []) after (rows_at Star cs)
matches-variable w before ts ms after t xs cs i a v r =
    ap (λ us. matches_in before us (rows (xs, cs))) (i ∙ ap₂ ◌∷◌ v (sym a))
    ∙ without-entries before after (variable w) xs cs ∙ variable-children-read before after w cs r
    ∙ ap (λ u. matches_in (before ++ u ∷ []) after (rows_at Star cs)) (sym v)

pub matches-application :
    (g : ℕ) (before ts ms after next us : List Tree) (t : Tree) (l : Label) (xs : List (Tree × ℕ)) (cs : List Child)
    → ts ≡ t ∷ ms → after ≡ ms → t ≡ application g (trees_of us) → next ≡ us ++ after → l ≡ head t → Rise cs
    → matches_in before ts (rows (xs, cs))
    ≡ matches_in (before ++ t ∷ []) after (rows_at Star cs) ++ matches_in before next (rows_at l cs)
matches-application g before ts ms after next us t l xs cs i a v n m r =
    let u : Tree = application g (trees_of us) in
    ap (λ zs. matches_in before zs (rows (xs, cs))) (i ∙ ap₂ ◌∷◌ v (sym a))
    ∙ without-entries before after u xs cs ∙ children-read before after us g cs r
    ∙ ap₂ ◌++◌ (ap (λ z. matches_in (before ++ z ∷ []) after (rows_at Star cs)) (sym v))
    (ap₂ (λ zs j. matches_in before zs (rows_at j cs)) (sym n) (sym (m ∙ ap head v)))

-- ---- a tail

pub tail-read :
    (before ts before' ts' : List Tree) (p p' : List Label) (xs : List (Tree × ℕ))
    → read_along before ts p ≡ read_along before' ts' p'
    → matches_in before ts (all_at p xs) ≡ matches_in before' ts' (all_at p' xs)
tail-read before ts before' ts' p p' [] h = refl
tail-read before ts before' ts' p p' (x ∷ xs) h = ap₂ (λ o ms. with_match o x ms) h (tail-read before ts before' ts' p p' xs h)

pub tail-unread :
    (before ts : List Tree) (p : List Label) (xs : List (Tree × ℕ)) → read_along before ts p ≡ None → matches_in before ts (all_at p xs) ≡ []
tail-unread before ts p [] h = refl
tail-unread before ts p (x ∷ xs) h = ap₂ (λ o ms. with_match o x ms) h (tail-unread before ts p xs h)

pub tail-at-end :
    (before ts : List Tree) (p : List Label) (xs : List (Tree × ℕ))
    → ts ≡ [] → p ≡ [] → matches_in before ts (all_at p xs) ≡ matches_of before xs
tail-at-end before ts p xs h k =
    ap₂ (λ us q. matches_in before us (all_at q xs)) h k ∙ all xs
  where
    all : (es : List (Tree × ℕ)) → matches_in before [] (all_at [] es) ≡ matches_of before es
    all [] = refl
    all (e ∷ es) = ap (λ (ms : List Match). (e, before) ∷ ms) (all es)

pub symbol-along :
    (f n : ℕ) (before ts ms after next us : List Tree) (t : Tree) (l : Label) (labels others : List Label)
    → ts ≡ t ∷ ms → after ≡ ms → us ≡ arguments t → next ≡ us ++ after
    → labels ≡ l ∷ others → l ≡ Symbol f n → same_label l (head t) ≡ true
    → read_along before ts labels ≡ read_along before next others
symbol-along f n before ts ms after next us t l labels others i a v m is symbol same =
    ap₂ (λ zs q. read_along before zs q) (i ∙ ap (λ zs. t ∷ zs) (sym a)) (is ∙ ap (λ j. j ∷ others) symbol)
    ∙ same-read before after t f n others (ap (λ j. same_label j (head t)) (sym symbol) ∙ same)
    ∙ ap (λ zs. read_along before zs others) (sym (m ∙ ap (λ zs. zs ++ after) v))

pub symbol-unread :
    (f n : ℕ) (before ts ms : List Tree) (t : Tree) (l : Label) (labels others : List Label)
    → ts ≡ t ∷ ms → labels ≡ l ∷ others → l ≡ Symbol f n → same_label l (head t) ≡ false
    → read_along before ts labels ≡ None
symbol-unread f n before ts ms t l labels others i is symbol other =
    ap₂ (λ zs q. read_along before zs q) i (is ∙ ap (λ j. j ∷ others) symbol)
    ∙ other-read before ms t f n others (ap (λ j. same_label j (head t)) (sym symbol) ∙ other)

pub star-along :
    (before ts ms after : List Tree) (t : Tree) (l : Label) (labels others : List Label)
    → ts ≡ t ∷ ms → after ≡ ms → labels ≡ l ∷ others → l ≡ Star
    → read_along before ts labels ≡ read_along (before ++ t ∷ []) after others
star-along before ts ms after t l labels others i a is star =
    ap₂ (λ zs q. read_along before zs q) (i ∙ ap (λ zs. t ∷ zs) (sym a)) (is ∙ ap (λ j. j ∷ others) star)

-- ---- the answer of a query

same-lengths : (ts vs : Trees) → all_compatible_by true false ts vs ≡ true → (length (list_of ts) == length (list_of vs)) ≡ true
same-lengths ts vs all =
    ⊎_elim (λ same. same)
    (λ other. let wrong : true ≡ false = sym all ∙ compatible-lengths true false ts vs other in absurd cc)
    (cases_Bool (length (list_of ts) == length (list_of vs)))

mutual
  path-read :
      (t u : Tree) (before us : List Tree) (p : List Label)
      → compatible_by true false t u ≡ true
      → read_along before (u ∷ us) (path t ++ p) ≡ read_along (before ++ stood_for t u) us p
  path-read (variable v) u before us p h = refl
  path-read (application f ts) (variable w) before us p h = absurd cc
  path-read (application f ts) (application g vs) before us p h =
      let all : all_compatible_by true false ts vs ≡ true = and-second (f == g) (all_compatible_by true false ts vs) h in
      let lengths : (length (list_of ts) == length (list_of vs)) ≡ true = same-lengths ts vs all in
      same-read before us (application g vs) f (length (list_of ts)) (paths ts ++ p)
      (and_from (f == g) (length (list_of ts) == length (list_of vs)) (and-first (f == g) (all_compatible_by true false ts vs) h) lengths)
      ∙ paths-read ts vs before us p all

  paths-read :
      (ts vs : Trees) (before us : List Tree) (p : List Label)
      → all_compatible_by true false ts vs ≡ true
      → read_along before (list_of vs ++ us) (paths ts ++ p) ≡ read_along (before ++ all_stood_for ts vs) us p
  paths-read no_trees no_trees before us p h = ap (λ zs. read_along zs us p) (sym (append-nil before))
  paths-read no_trees (tree_then v vs) before us p h = absurd cc
  paths-read (tree_then t ts) no_trees before us p h = absurd cc
  paths-read (tree_then t ts) (tree_then v vs) before us p h =
      ap (λ q. read_along before (v ∷ (list_of vs ++ us)) q) (append_assoc (path t) (paths ts) p)
      ∙ path-read t v before (list_of vs ++ us) (paths ts ++ p)
      (and-first (compatible_by true false t v) (all_compatible_by true false ts vs) h)
      ∙ paths-read ts vs (before ++ stood_for t v) us p
      (and-second (compatible_by true false t v) (all_compatible_by true false ts vs) h)
      ∙ ap (λ zs. read_along zs us p) (append_assoc before (stood_for t v) (all_stood_for ts vs))

-- what can be read along terms fits them
not-fitting : (before ts : List Tree) (p : List Label) → fits true false 0 ts p ≡ false → read_along before ts p ≡ None
not-fitting before [] [] h = absurd cc
not-fitting before [] (l ∷ p) h = refl
not-fitting before (t ∷ ts) [] h = refl
not-fitting before (variable w ∷ ts) (Star ∷ p) h = not-fitting (before ++ variable w ∷ []) ts p h
not-fitting before (variable w ∷ ts) (Symbol f n ∷ p) h = refl
not-fitting before (application g us ∷ ts) (Star ∷ p) h = not-fitting (before ++ application g us ∷ []) ts p h
not-fitting before (application g us ∷ ts) (Symbol f n ∷ p) h =
    let t : Tree = application g us in
    ⊎_elim
    (λ same.
    same-read before ts t f n p same
    ∙ not-fitting before (list_of us ++ ts) p
    (ap (λ b. b && fits true false 0 (list_of us ++ ts) p) (sym same) ∙ h))
    (λ other. other-read before ts t f n p other)
    (cases_Bool (same_label (Symbol f n) (head t)))

pub matches-answer :
    (u : Tree) (rs : List Row) → HavePaths rs → matches_in [] (u ∷ []) rs ≡ generalisations u (entries_of rs)
matches-answer u [] h = refl
matches-answer u (r ∷ rs) h =
    let t : Tree = r.1.0 in
    let found : List Match = generalisations u (entries_of rs) in
    let here : List Match = (r.1, stood_for t u) ∷ found in
    let rest : List Match = matches_in [] (u ∷ []) rs in
    ⊎_elim
    (λ fit.
    ap (λ o. with_match o r.1 rest) (ap (λ q. read_along [] (u ∷ []) q) (h.0 ∙ sym (append-nil (path t))) ∙ path-read t u [] [] [] fit)
    ∙ ap (λ (ms : List Match). (r.1, stood_for t u) ∷ ms) (matches-answer u rs h.1)
    ∙ sym (cond-true (compatible_by true false t u) here found fit))
    (λ other.
    ap (λ o. with_match o r.1 rest)
    (not-fitting [] (u ∷ []) r.0 (ap (fits true false 0 (u ∷ [])) h.0 ∙ fits-path true false t u ∙ other))
    ∙ matches-answer u rs h.1
    ∙ sym (cond-false (compatible_by true false t u) here found other))
    (cases_Bool (compatible_by true false t u))

-- ---- entries at one path

pub matches-of-append :
    (before : List Tree) (xs ys : List (Tree × ℕ)) → matches_of before (xs ++ ys) ≡ matches_of before xs ++ matches_of before ys
matches-of-append before [] ys = refl
matches-of-append before (x ∷ xs) ys = ap (λ (ms : List Match). (x, before) ∷ ms) (matches-of-append before xs ys)
