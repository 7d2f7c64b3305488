-- The entries of a tree, from the rows of its root.
use Rattle.std.proofs.Common.{◌≡◌, ℕ, suc, List, [], ◌∷◌, ◌++◌, length, append-nil, append_assoc, refl, ap, ap₂, sym, subst, ◌∙◌, ⊎_elim, inl, inr}
use Rattle.fol_base.specs.Tree.{Tree, variable, application, Trees, no_trees, tree_then, list_of, tree_variables, trees_variables}
use Rattle.disc_tree.specs.declared.label.Label.{Label}
use Rattle.disc_tree.specs.Path.{path, paths, path_of_all}
use Rattle.disc_tree.specs.Entries.{IsIn, IsWith}
use Rattle.disc_tree.specs.Rows.{Row, IsTaken, IsNone, entries_of, HavePaths}

-- ---- a path and its variables make the term

abbrev Read : Type 0 → Type 0 → Type 0 → Type 0
Read A B C = A × B × C

suc-same : (m n : ℕ) → suc m ≡ suc n → m ≡ n
suc-same m n h = cc

mutual
  read-tree :
      (t u : Tree) (p q : List Label) (vs ws : List ℕ)
      → path t ++ p ≡ path u ++ q → tree_variables t ++ vs ≡ tree_variables u ++ ws → Read (t ≡ u) (p ≡ q) (vs ≡ ws)
  read-tree (variable v) (variable w) p q vs ws h k =
      let same : v ≡ w = cc in
      let paths_same : p ≡ q = cc in
      let variables_same : vs ≡ ws = cc in
      (ap variable same, paths_same, variables_same)
  read-tree (variable v) (application g us) p q vs ws h k = absurd cc
  read-tree (application f ts) (variable w) p q vs ws h k = absurd cc
  read-tree (application f ts) (application g us) p q vs ws h k =
      let same : f ≡ g = cc in
      let lengths : length (list_of ts) ≡ length (list_of us) = cc in
      let others : paths ts ++ p ≡ paths us ++ q = cc in
      let read : Read (ts ≡ us) (p ≡ q) (vs ≡ ws) = read-trees ts us p q vs ws lengths others k in
      (ap₂ application same read.0, read.1, read.2)

  read-trees :
      (ts us : Trees) (p q : List Label) (vs ws : List ℕ)
      → length (list_of ts) ≡ length (list_of us) → paths ts ++ p ≡ paths us ++ q → trees_variables ts ++ vs ≡ trees_variables us ++ ws
      → Read (ts ≡ us) (p ≡ q) (vs ≡ ws)
  read-trees no_trees no_trees p q vs ws n h k = (refl, h, k)
  read-trees no_trees (tree_then u us) p q vs ws n h k = absurd cc
  read-trees (tree_then t ts) no_trees p q vs ws n h k = absurd cc
  read-trees (tree_then t ts) (tree_then u us) p q vs ws n h k =
      let first : Read (t ≡ u) (paths ts ++ p ≡ paths us ++ q) (trees_variables ts ++ vs ≡ trees_variables us ++ ws) =
      read-tree t u (paths ts ++ p) (paths us ++ q) (trees_variables ts ++ vs) (trees_variables us ++ ws)
      (sym (append_assoc (path t) (paths ts) p) ∙ h ∙ append_assoc (path u) (paths us) q)
      (sym (append_assoc (tree_variables t) (trees_variables ts) vs) ∙ k ∙ append_assoc (tree_variables u) (trees_variables us) ws) in
      let others : Read (ts ≡ us) (p ≡ q) (vs ≡ ws) =
      read-trees ts us p q vs ws (suc-same (length (list_of ts)) (length (list_of us)) n) first.1 first.2 in
      (ap₂ tree_then first.0 others.0, others.1, others.2)

pub same-tree : (t u : Tree) → path t ≡ path u → tree_variables t ≡ tree_variables u → t ≡ u
same-tree t u h k =
    (read-tree t u [] [] [] [] (ap (λ p. p ++ []) h) (ap (λ vs. vs ++ []) k)).0

-- ---- rows and entries

entries-append : (rs ss : List Row) → entries_of (rs ++ ss) ≡ entries_of rs ++ entries_of ss
entries-append [] ss = refl
entries-append (r ∷ rs) ss = ap (λ es. r.1 ∷ es) (entries-append rs ss)

pub entries-with : (r : Row) (rs ss : List Row) → IsWith r rs ss → IsWith r.1 (entries_of rs) (entries_of ss)
entries-with r rs ss w = record {
  front = entries_of w.front;
  back = entries_of w.back;
  without = ap entries_of w.without ∙ entries-append w.front w.back;
  with_it = ap entries_of w.with_it ∙ entries-append w.front (r ∷ w.back);
}

have-paths-front : (rs ss : List Row) → HavePaths (rs ++ ss) → HavePaths rs
have-paths-front [] ss h = tt
have-paths-front (r ∷ rs) ss h = (h.0, have-paths-front rs ss h.1)

have-paths-back : (rs ss : List Row) → HavePaths (rs ++ ss) → HavePaths ss
have-paths-back [] ss h = h
have-paths-back (r ∷ rs) ss h = have-paths-back rs ss h.1

have-paths-append : (rs ss : List Row) → HavePaths rs → HavePaths ss → HavePaths (rs ++ ss)
have-paths-append [] ss h k = k
have-paths-append (r ∷ rs) ss h k = (h.0, have-paths-append rs ss h.1 k)

pub have-paths-more : (r : Row) (rs ss : List Row) → r.0 ≡ path r.1.0 → IsWith r rs ss → HavePaths rs → HavePaths ss
have-paths-more r rs ss e w h =
    let parts : HavePaths (w.front ++ w.back) = subst HavePaths w.without h in
    subst HavePaths (sym w.with_it)
    (have-paths-append w.front (r ∷ w.back) (have-paths-front w.front w.back parts) (e, have-paths-back w.front w.back parts))

pub have-paths-fewer : (r : Row) (rs ss : List Row) → IsWith r rs ss → HavePaths ss → HavePaths rs
have-paths-fewer r rs ss w h =
    let parts : HavePaths (w.front ++ r ∷ w.back) = subst HavePaths w.with_it h in
    let later : HavePaths (r ∷ w.back) = have-paths-back w.front (r ∷ w.back) parts in
    subst HavePaths (sym w.without) (have-paths-append w.front w.back (have-paths-front w.front (r ∷ w.back) parts) later.1)

pub has-path : (r : Row) (rs ss : List Row) → IsWith r rs ss → HavePaths ss → r.0 ≡ path r.1.0
has-path r rs ss w h =
    let later : HavePaths (r ∷ w.back) = have-paths-back w.front (r ∷ w.back) (subst HavePaths w.with_it h) in
    later.0

pub in-with : {X : Type 0} (x : X) (xs ys : List X) → IsWith x xs ys → IsIn x ys
in-with x xs ys w = subst (IsIn x) (sym w.with_it) (inside w.front)
  where
    inside : (front : List _) → IsIn x (front ++ x ∷ w.back)
    inside [] = inl refl
    inside (f ∷ front) = inr (inside front)

in-rows : (e : Tree × ℕ) (rs : List Row) → HavePaths rs → IsIn e (entries_of rs) → IsIn (path e.0, e) rs
in-rows e [] h is_in = absurd is_in
in-rows e (r ∷ rs) h is_in =
    ⊎_elim
    (λ same.
    let row : (path e.0, e) ≡ r =
    ap (λ (x : Tree × ℕ). let s : Row = (path x.0, x) in s) same ∙ ap (λ p. let s : Row = (p, r.1) in s) (sym h.0) in
    inl row)
    (λ later. inr (in-rows e rs h.1 later)) is_in

-- ---- what the calls of the tree do

whole-path : (t : Tree) → path_of_all (t ∷ []) ≡ path t
whole-path t = append-nil (path t)

pub row-path : (t : Tree) (ts : List Tree) → ts ≡ t ∷ [] → path_of_all ts ≡ path t
row-path t ts h = ap path_of_all h ∙ whole-path t

-- the row that was taken is the term's
pub taken-entry :
    (t : Tree) (n : ℕ) (ts : List Tree) (old new : List Row)
    → ts ≡ t ∷ [] → HavePaths old → IsTaken (path_of_all ts) (tree_variables t) n old new → IsWith (path t, (t, n)) new old
taken-entry t n ts old new h paths_ok taken =
    let e : Tree × ℕ = taken.0 in
    let p : path_of_all ts ≡ path e.0 = has-path (path_of_all ts, e) new old taken.2 paths_ok in
    let tree : e.0 ≡ t = same-tree e.0 t (sym p ∙ row-path t ts h) taken.1.0 in
    let entry : e ≡ (t, n) = ap₂ (λ a b. let x : Tree × ℕ = (a, b) in x) tree taken.1.1 in
    let row : (path_of_all ts, e) ≡ (path t, (t, n)) =
    ap₂ (λ a b. let r : Row = (a, b) in r) (row-path t ts h) entry in
    subst (λ r. IsWith r new old) row taken.2

-- where no row was there, the entry wasn't
pub none-there :
    (t : Tree) (n : ℕ) (ts : List Tree) (old : List Row)
    → ts ≡ t ∷ [] → HavePaths old → IsNone (path_of_all ts) (tree_variables t) n old → IsIn (t, n) (entries_of old) → ⊥
none-there t n ts old h paths_ok none is_in =
    none (t, n) (subst (λ p. IsIn (p, (t, n)) old) (sym (row-path t ts h)) (in-rows (t, n) old paths_ok is_in)) (refl, refl)
