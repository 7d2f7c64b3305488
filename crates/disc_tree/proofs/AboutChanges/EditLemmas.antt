-- What an edit of a node does to its rows.
use Rattle.std.proofs.Common.{◌≡◌, ◌⊎◌, ℕ, ◌<◌, ◌≤◌, true, false, List, [], ◌∷◌, ◌++◌, length, take, drop, get_or, refl, ap, sym, subst, ◌∙◌, arith, ⊎_elim, inl, inr}
use Rattle.std.specs.Prelude.{slice_set, insert, remove}
use Rattle.std.proofs.lemmas.List.{take-append-drop}
use Rattle.fol_base.specs.Tree.{Tree, variable, application, trees_of, list_of, trees_size}
use Rattle.fol_base.proofs.AboutTerms.TreeLemmas.{trees_size-append, trees_of-list_of}
use Rattle.disc_tree.specs.declared.label.Label.{Label}
use Rattle.disc_tree.specs.declared.node.Below.{Below}
use Rattle.disc_tree.specs.declared.node.Branch.{Branch}
use Rattle.disc_tree.specs.Path.{comes_before, head, arguments, path_of_all}
use Rattle.disc_tree.specs.Entries.{IsIn, IsWith}
use Rattle.disc_tree.specs.Rows.{Row, Child, here, below, all_below, rows, IsBefore, AreBefore, Rise, NoneIsEmpty, IsSound, IsAt, IsGap, IsNone, IsNoEntry}
use Rattle.disc_tree.specs.Children.{child_of, children_of, rows_below}
use Rattle.disc_tree.proofs.AboutPaths.SlotLemmas.{child-get, children-length}
use Rattle.disc_tree.proofs.AboutPaths.PathLemmas.{path-front}
use Rattle.disc_tree.proofs.AboutPaths.LabelLemmas.{before-irreflexive}
use Rattle.disc_tree.proofs.AboutPaths.ChildLemmas.{with-left, with-right, with-below, all_below-append, set-part, remove-part, children-set, children-insert, children-remove, rise-exchanged, none_is_empty-exchanged, rise-inserted, none_is_empty-inserted, rise-removed, none_is_empty-removed, is_before-part, at-child}

-- ---- the rows after an edit

pub with-some : {X : Type 0} (x : X) (xs ys : List X) → IsWith x xs ys → 1 ≤ length ys
with-some x xs ys w = subst (λ zs. 1 ≤ length zs) (sym w.with_it) (some w.front)
  where
    some : (front : List _) → 1 ≤ length (front ++ x ∷ w.back)
    some [] = omega arith
    some (f ∷ front) = omega arith

with-exchanged :
    (xs : List (Tree × ℕ)) (l : Label) (r : Row) (rs ss : List Row) (front back : List Child)
    → IsWith r rs ss
    → IsWith (l ∷ r.0, r.1) (rows (xs, front ++ (l, rs) ∷ back)) (rows (xs, front ++ (l, ss) ∷ back))
with-exchanged xs l r rs ss front back w =
    with-left (l ∷ r.0, r.1) (here xs) (all_below (front ++ (l, rs) ∷ back)) (all_below (front ++ (l, ss) ∷ back))
    (subst (λ zs. IsWith (l ∷ r.0, r.1) zs (all_below (front ++ (l, ss) ∷ back))) (sym (all_below-append front ((l, rs) ∷ back)))
    (subst (λ zs. IsWith (l ∷ r.0, r.1) (all_below front ++ (below l rs ++ all_below back)) zs) (sym (all_below-append front ((l, ss) ∷ back)))
    (with-left (l ∷ r.0, r.1) (all_below front) (below l rs ++ all_below back) (below l ss ++ all_below back)
    (with-right (l ∷ r.0, r.1) (all_below back) (below l rs) (below l ss) (with-below l r rs ss w)))))

-- a child at a slot, exchanged for one with the same label
pub branch-set :
    (l : Label) (bs : List Branch) (i : ℕ) (b : Branch) (ss : List Row)
    → (a : IsAt l (children_of bs) i) → child_of b ≡ (l, ss)
    → children_of (slice_set bs i b) ≡ a.front ++ (l, ss) ∷ a.back
branch-set l bs i b ss a e =
    children-set bs i b ∙ ap (λ cs. slice_set cs i (child_of b)) a.parts
    ∙ set-part a.front (l, a.child_rows) (child_of b) a.back i a.place ∙ ap (λ c. a.front ++ c ∷ a.back) e

pub sound-exchanged :
    (l : Label) (cs : List Child) (i : ℕ) (ss : List Row) (a : IsAt l cs i)
    → IsSound cs → 1 ≤ length ss → IsSound (a.front ++ (l, ss) ∷ a.back)
sound-exchanged l cs i ss a s h = record {
  rise = rise-exchanged l a.child_rows ss a.front a.back (subst Rise a.parts s.rise);
  none_is_empty = none_is_empty-exchanged l a.child_rows ss a.front a.back h (subst NoneIsEmpty a.parts s.none_is_empty);
}

pub rows-exchanged :
    (xs : List (Tree × ℕ)) (l : Label) (cs : List Child) (i : ℕ) (r : Row) (ss : List Row) (a : IsAt l cs i)
    → IsWith r a.child_rows ss → IsWith (l ∷ r.0, r.1) (rows (xs, cs)) (rows (xs, a.front ++ (l, ss) ∷ a.back))
rows-exchanged xs l cs i r ss a w =
    subst (λ ds. IsWith (l ∷ r.0, r.1) (rows (xs, ds)) (rows (xs, a.front ++ (l, ss) ∷ a.back))) (sym a.parts)
    (with-exchanged xs l r a.child_rows ss a.front a.back w)

-- a new child with one row, in a gap
pub sound-inserted :
    (l : Label) (bs : List Branch) (i : ℕ) (b : Branch) (r : Row)
    → child_of b ≡ (l, r ∷ []) → IsGap l (children_of bs) i → IsSound (children_of bs) → IsSound (children_of (insert bs i b))
sound-inserted l bs i b r e g s =
    subst IsSound (sym (children-insert bs i b ∙ ap (insert (children_of bs) i) e)) (record {
      rise = rise-inserted l (r ∷ []) (children_of bs) i g.smaller g.greater s.rise;
      none_is_empty = none_is_empty-inserted l (r ∷ []) (children_of bs) i (omega arith) s.none_is_empty;
    })

pub rows-inserted :
    (xs : List (Tree × ℕ)) (l : Label) (bs : List Branch) (i : ℕ) (b : Branch) (r : Row)
    → child_of b ≡ (l, r ∷ [])
    → IsWith (l ∷ r.0, r.1) (rows (xs, children_of bs)) (rows (xs, children_of (insert bs i b)))
rows-inserted xs l bs i b r e =
    let cs : List Child = children_of bs in
    with-left (l ∷ r.0, r.1) (here xs) (all_below cs) (all_below (children_of (insert bs i b))) (record {
      front = all_below (take i cs);
      back = all_below (drop i cs);
      without = ap all_below (sym (take-append-drop i cs)) ∙ all_below-append (take i cs) (drop i cs);
      with_it = ap all_below (children-insert bs i b ∙ ap (insert cs i) e) ∙ all_below-append (take i cs) ((l, r ∷ []) ∷ drop i cs);
    })

here-append : (xs ys : List (Tree × ℕ)) → here (xs ++ ys) ≡ here xs ++ here ys
here-append [] ys = refl
here-append (x ∷ xs) ys = ap (λ zs. ([], x) ∷ zs) (here-append xs ys)

-- ---- a node's child edited in its place

abbrev Content : Type 0
Content = List (Tree × ℕ) × List Child

-- the child that is read at a slot has the label, and the rows of the slot
pub at-branch :
    (l : Label) (bs : List Branch) (i : ℕ) (b : Branch) (a : IsAt l (children_of bs) i)
    → b ≡ get_or bs i b → child_of b ≡ (l, a.child_rows)
at-branch l bs i b a e =
    at-child l (children_of bs) i (child_of b) a (child-get bs i b (omega (arith, a.in_range, children-length bs)) e)

abbrev exchanged : Branch → Below → Branch
exchanged b n = record { label = b.label; below = n }

children-edited :
    (l : Label) (bs : List Branch) (i : ℕ) (b : Branch) (n : Below) (a : IsAt l (children_of bs) i)
    → b ≡ get_or bs i b → children_of (slice_set bs i (exchanged b n)) ≡ a.front ++ (l, rows_below n) ∷ a.back
children-edited l bs i b n a e =
    branch-set l bs i (exchanged b n) (rows_below n) a
    (ap (λ (c : Child). let d : Child = (c.0, rows_below n) in d) (at-branch l bs i b a e))

pub sound-edited :
    (l : Label) (bs : List Branch) (i : ℕ) (b : Branch) (n : Below) (a : IsAt l (children_of bs) i)
    → b ≡ get_or bs i b → IsSound (children_of bs) → 1 ≤ length (rows_below n) → IsSound (children_of (slice_set bs i (exchanged b n)))
sound-edited l bs i b n a e s h =
    subst IsSound (sym (children-edited l bs i b n a e)) (sound-exchanged l (children_of bs) i (rows_below n) a s h)

-- a child whose rows stay the same
pub children-kept :
    (l : Label) (bs : List Branch) (i : ℕ) (b : Branch) (n : Below) (a : IsAt l (children_of bs) i)
    → b ≡ get_or bs i b → rows_below n ≡ rows_below b.below → children_of (slice_set bs i (exchanged b n)) ≡ children_of bs
children-kept l bs i b n a e h =
    children-edited l bs i b n a e
    ∙ ap (λ rs. a.front ++ (l, rs) ∷ a.back) (h ∙ ap (λ (c : Child). c.1) (at-branch l bs i b a e)) ∙ sym a.parts

pub rows-with-more :
    (xs : List (Tree × ℕ)) (l : Label) (bs : List Branch) (i : ℕ) (b : Branch) (n : Below) (r : Row) (a : IsAt l (children_of bs) i)
    → b ≡ get_or bs i b → IsWith r (rows_below b.below) (rows_below n)
    → IsWith (l ∷ r.0, r.1) (rows (xs, children_of bs)) (rows (xs, children_of (slice_set bs i (exchanged b n))))
rows-with-more xs l bs i b n r a e w =
    subst (λ cs. IsWith (l ∷ r.0, r.1) (rows (xs, children_of bs)) (rows (xs, cs))) (sym (children-edited l bs i b n a e))
    (subst (λ cs. IsWith (l ∷ r.0, r.1) (rows (xs, cs)) (rows (xs, a.front ++ (l, rows_below n) ∷ a.back))) (sym a.parts)
    (with-exchanged xs l r a.child_rows (rows_below n) a.front a.back
    (subst (λ rs. IsWith r rs (rows_below n)) (ap (λ (c : Child). c.1) (at-branch l bs i b a e)) w)))

rows-with-fewer-parts :
    (xs : List (Tree × ℕ)) (l : Label) (bs : List Branch) (i : ℕ) (b : Branch) (n : Below) (r : Row) (a : IsAt l (children_of bs) i)
    → b ≡ get_or bs i b → IsWith r (rows_below n) (rows_below b.below)
    → IsWith (l ∷ r.0, r.1) (rows (xs, a.front ++ (l, rows_below n) ∷ a.back)) (rows (xs, children_of bs))
rows-with-fewer-parts xs l bs i b n r a e w =
    subst (λ cs. IsWith (l ∷ r.0, r.1) (rows (xs, a.front ++ (l, rows_below n) ∷ a.back)) (rows (xs, cs))) (sym a.parts)
    (with-exchanged xs l r (rows_below n) a.child_rows a.front a.back
    (subst (λ rs. IsWith r (rows_below n) rs) (ap (λ (c : Child). c.1) (at-branch l bs i b a e)) w))

pub rows-with-fewer :
    (xs : List (Tree × ℕ)) (l : Label) (bs : List Branch) (i : ℕ) (b : Branch) (n : Below) (r : Row) (a : IsAt l (children_of bs) i)
    → b ≡ get_or bs i b → IsWith r (rows_below n) (rows_below b.below)
    → IsWith (l ∷ r.0, r.1) (rows (xs, children_of (slice_set bs i (exchanged b n)))) (rows (xs, children_of bs))
rows-with-fewer xs l bs i b n r a e w =
    subst (λ cs. IsWith (l ∷ r.0, r.1) (rows (xs, cs)) (rows (xs, children_of bs))) (sym (children-edited l bs i b n a e))
    (rows-with-fewer-parts xs l bs i b n r a e w)

-- ---- an empty child cut off

children-pruned :
    (l : Label) (bs : List Branch) (i : ℕ) (b : Branch) (n : Below) (a : IsAt l (children_of bs) i)
    → b ≡ get_or bs i b → children_of (remove (slice_set bs i (exchanged b n)) i) ≡ a.front ++ a.back
children-pruned l bs i b n a e =
    children-remove (slice_set bs i (exchanged b n)) i ∙ ap (λ cs. remove cs i) (children-edited l bs i b n a e)
    ∙ remove-part a.front (l, rows_below n) a.back i a.place

pub sound-pruned :
    (l : Label) (bs : List Branch) (i : ℕ) (b : Branch) (n : Below) (a : IsAt l (children_of bs) i)
    → b ≡ get_or bs i b → IsSound (children_of bs) → IsSound (children_of (remove (slice_set bs i (exchanged b n)) i))
sound-pruned l bs i b n a e s =
    subst IsSound (sym (children-pruned l bs i b n a e)) (record {
      rise = rise-removed (l, a.child_rows) a.front a.back (subst Rise a.parts s.rise);
      none_is_empty = none_is_empty-removed (l, a.child_rows) a.front a.back (subst NoneIsEmpty a.parts s.none_is_empty);
    })

rows-pruned :
    (xs : List (Tree × ℕ)) (l : Label) (rs : List Row) (front back : List Child)
    → rs ≡ [] → rows (xs, front ++ (l, rs) ∷ back) ≡ rows (xs, front ++ back)
rows-pruned xs l rs front back e =
    ap (λ ss. here xs ++ ss)
    (all_below-append front ((l, rs) ∷ back) ∙ ap (λ ss. all_below front ++ (below l ss ++ all_below back)) e
    ∙ sym (all_below-append front back))

pub rows-with-branch :
    (xs : List (Tree × ℕ)) (l : Label) (bs : List Branch) (i : ℕ) (b : Branch) (n : Below) (r : Row) (a : IsAt l (children_of bs) i)
    → b ≡ get_or bs i b → IsWith r (rows_below n) (rows_below b.below) → rows_below n ≡ []
    → IsWith (l ∷ r.0, r.1) (rows (xs, children_of (remove (slice_set bs i (exchanged b n)) i))) (rows (xs, children_of bs))
rows-with-branch xs l bs i b n r a e w h =
    subst (λ rs. IsWith (l ∷ r.0, r.1) rs (rows (xs, children_of bs)))
    (rows-pruned xs l (rows_below n) a.front a.back h ∙ ap (λ cs. rows (xs, cs)) (sym (children-pruned l bs i b n a e)))
    (rows-with-fewer-parts xs l bs i b n r a e w)

-- an entry of the node's own taken out
pub rows-with-entry :
    (xs ys : List (Tree × ℕ)) (cs : List Child) (x : Tree × ℕ)
    → IsWith x ys xs → IsWith ([], x) (rows (ys, cs)) (rows (xs, cs))
rows-with-entry xs ys cs x w =
    with-right ([], x) (all_below cs) (here ys) (here xs) (record {
      front = here w.front;
      back = here w.back;
      without = ap here w.without ∙ here-append w.front w.back;
      with_it = ap here w.with_it ∙ here-append w.front (x ∷ w.back);
    })

-- ---- what isn't there

pub is_in-append : {X : Type 0} (x : X) (xs ys : List X) → IsIn x (xs ++ ys) → IsIn x xs ⊎ IsIn x ys
is_in-append x [] ys h = inr h
is_in-append x (z ∷ xs) ys h =
    ⊎_elim (λ e. inl (inl e)) (λ later. ⊎_elim (λ l. inl (inr l)) (λ r. inr r) (is_in-append x xs ys later)) h

pub not-here : (l : Label) (p : List Label) (x : Tree × ℕ) (xs : List (Tree × ℕ)) → IsIn (l ∷ p, x) (here xs) → ⊥
not-here l p x [] h = h
not-here l p x (y ∷ xs) h =
    ⊎_elim (λ e. let wrong : l ∷ p ≡ [] = ap (λ (r : Row). r.0) e in absurd cc) (λ later. not-here l p x xs later) h

abbrev first_label : Label → List Label → Label
first_label d [] = d
first_label d (l ∷ p) = l

abbrev other_labels : List Label → List Label
other_labels [] = []
other_labels (l ∷ p) = p

pub in-below-label : (k l : Label) (p : List Label) (x : Tree × ℕ) (rs : List Row) → IsIn (l ∷ p, x) (below k rs) → l ≡ k
in-below-label k l p x [] h = absurd h
in-below-label k l p x (r ∷ rs) h =
    ⊎_elim (λ e. ap (λ (q : Row). first_label k q.0) e) (λ later. in-below-label k l p x rs later) h

pub in-below-row : (k l : Label) (p : List Label) (x : Tree × ℕ) (rs : List Row) → IsIn (l ∷ p, x) (below k rs) → IsIn (p, x) rs
in-below-row k l p x [] h = absurd h
in-below-row k l p x (r ∷ rs) h =
    ⊎_elim
    (λ e. inl (ap (λ (q : Row). let s : Row = (other_labels q.0, q.1) in s) e))
    (λ later. inr (in-below-row k l p x rs later)) h

pub not-behind : (l : Label) (p : List Label) (x : Tree × ℕ) (cs : List Child) → IsBefore l cs → IsIn (l ∷ p, x) (all_below cs) → ⊥
not-behind l p x [] b h = h
not-behind l p x (c ∷ cs) b h =
    ⊎_elim
    (λ first.
    let same : comes_before l c.0 ≡ comes_before l l = ap (comes_before l) (sym (in-below-label c.0 l p x c.1 first)) in
    let wrong : true ≡ false = sym b.0 ∙ same ∙ before-irreflexive l in absurd cc)
    (λ later. not-behind l p x cs b.1 later) (is_in-append (l ∷ p, x) (below c.0 c.1) (all_below cs) h)

not-in-front : (l : Label) (p : List Label) (x : Tree × ℕ) (cs : List Child) → AreBefore cs l → IsIn (l ∷ p, x) (all_below cs) → ⊥
not-in-front l p x [] b h = h
not-in-front l p x (c ∷ cs) b h =
    ⊎_elim
    (λ first.
    let same : comes_before c.0 l ≡ comes_before l l =
    ap (λ k. comes_before k l) (sym (in-below-label c.0 l p x c.1 first)) in
    let wrong : true ≡ false = sym b.0 ∙ same ∙ before-irreflexive l in absurd cc)
    (λ later. not-in-front l p x cs b.1 later) (is_in-append (l ∷ p, x) (below c.0 c.1) (all_below cs) h)

front-of : (c : Child) (front back : List Child) → Rise (front ++ c ∷ back) → AreBefore front c.0
front-of c [] back r = tt
front-of c (d ∷ front) back r = (is_before-part d.0 c front back r.0, front-of c front back r.1)

back-of : (c : Child) (front back : List Child) → Rise (front ++ c ∷ back) → IsBefore c.0 back
back-of c [] back r = r.0
back-of c (d ∷ front) back r = back-of c front back r.1

-- a label with a gap is no row's first
pub none-in-gap :
    (xs : List (Tree × ℕ)) (l : Label) (p : List Label) (cs : List Child) (i : ℕ) (vs : List ℕ) (n : ℕ)
    → IsGap l cs i → IsNone (l ∷ p) vs n (rows (xs, cs))
none-in-gap xs l p cs i vs n g x h named =
    ⊎_elim (not-here l p x xs)
    (λ below.
    let parts : IsIn (l ∷ p, x) (all_below (take i cs) ++ all_below (drop i cs)) =
    subst (IsIn (l ∷ p, x)) (ap all_below (sym (take-append-drop i cs)) ∙ all_below-append (take i cs) (drop i cs)) below in
    ⊎_elim (not-in-front l p x (take i cs) g.smaller) (not-behind l p x (drop i cs) g.greater)
    (is_in-append (l ∷ p, x) (all_below (take i cs)) (all_below (drop i cs)) parts))
    (is_in-append (l ∷ p, x) (here xs) (all_below cs) h)

-- what the child at the slot doesn't have, the node doesn't have
pub none-in-child :
    (xs : List (Tree × ℕ)) (l : Label) (p : List Label) (bs : List Branch) (i : ℕ) (b : Branch) (vs : List ℕ) (n : ℕ)
    (a : IsAt l (children_of bs) i)
    → b ≡ get_or bs i b → Rise (children_of bs) → IsNone p vs n (rows_below b.below) → IsNone (l ∷ p) vs n (rows (xs, children_of bs))
none-in-child xs l p bs i b vs n a e r none x h named =
    let rise : Rise (a.front ++ (l, a.child_rows) ∷ a.back) = subst Rise a.parts r in
    ⊎_elim (not-here l p x xs)
    (λ in_children.
    let parts : IsIn (l ∷ p, x) (all_below a.front ++ (below l a.child_rows ++ all_below a.back)) =
    subst (IsIn (l ∷ p, x)) (ap all_below a.parts ∙ all_below-append a.front ((l, a.child_rows) ∷ a.back)) in_children in
    ⊎_elim (not-in-front l p x a.front (front-of (l, a.child_rows) a.front a.back rise))
    (λ later.
    ⊎_elim
    (λ here_.
    none x (subst (IsIn (p, x)) (sym (ap (λ (c : Child). c.1) (at-branch l bs i b a e))) (in-below-row l l p x a.child_rows here_)) named)
    (not-behind l p x a.back (back-of (l, a.child_rows) a.front a.back rise))
    (is_in-append (l ∷ p, x) (below l a.child_rows) (all_below a.back) later))
    (is_in-append (l ∷ p, x) (all_below a.front) (below l a.child_rows ++ all_below a.back) parts))
    (is_in-append (l ∷ p, x) (here xs) (all_below (children_of bs)) h)

-- what is not among the node's own entries doesn't end at the node
not-below-end : (x : Tree × ℕ) (k : Label) (rs : List Row) → IsIn ([], x) (below k rs) → ⊥
not-below-end x k [] h = h
not-below-end x k (r ∷ rs) h =
    ⊎_elim (λ e. let wrong : [] ≡ k ∷ r.0 = ap (λ (q : Row). q.0) e in absurd cc) (λ later. not-below-end x k rs later) h

not-all-below-end : (x : Tree × ℕ) (cs : List Child) → IsIn ([], x) (all_below cs) → ⊥
not-all-below-end x [] h = h
not-all-below-end x (c ∷ cs) h =
    ⊎_elim (not-below-end x c.0 c.1) (not-all-below-end x cs) (is_in-append ([], x) (below c.0 c.1) (all_below cs) h)

in-here : (x : Tree × ℕ) (xs : List (Tree × ℕ)) → IsIn ([], x) (here xs) → IsIn x xs
in-here x [] h = absurd h
in-here x (y ∷ xs) h = ⊎_elim (λ e. inl (ap (λ (r : Row). r.1) e)) (λ later. inr (in-here x xs later)) h

pub none-at-end :
    (xs : List (Tree × ℕ)) (cs : List Child) (vs : List ℕ) (n : ℕ) → IsNoEntry vs n xs → IsNone [] vs n (rows (xs, cs))
none-at-end xs cs vs n none x h named =
    ⊎_elim (λ own. none x (in-here x xs own) named) (not-all-below-end x cs) (is_in-append ([], x) (here xs) (all_below cs) h)

-- ---- an empty node

pub rows-empty : (xs : List (Tree × ℕ)) (cs : List Child) → NoneIsEmpty cs → rows (xs, cs) ≡ [] → (xs ≡ []) × (length cs ≡ 0)
rows-empty [] [] n h = (refl, refl)
rows-empty (x ∷ xs) cs n h = absurd cc
rows-empty [] ((l, []) ∷ cs) n h = absurd (omega (arith, n.0))
rows-empty [] ((l, r ∷ rs) ∷ cs) n h = absurd cc

pub rows-of-none : (xs : List (Tree × ℕ)) (cs : List Child) → xs ≡ [] → length cs ≡ 0 → rows (xs, cs) ≡ []
rows-of-none [] [] h k = refl
rows-of-none (x ∷ xs) cs h k = absurd cc
rows-of-none [] (c ∷ cs) h k = absurd cc

-- ---- a step down the path of what is left

pub path-step :
    (whole ms after next args : List Tree) (t : Tree) (l : Label)
    → whole ≡ t ∷ ms → after ≡ ms → next ≡ args ++ after → args ≡ arguments t → l ≡ head t
    → path_of_all whole ≡ l ∷ path_of_all next
path-step whole ms after next args t l w m n g h =
    ap path_of_all w ∙ path-front t ms ∙ ap (λ k. k ∷ path_of_all (arguments t ++ ms)) (sym h)
    ∙ ap (λ ts. l ∷ path_of_all ts) (sym (n ∙ ap (λ ys. ys ++ after) g ∙ ap (λ zs. arguments t ++ zs) m))

pub work-falls :
    (whole ms after next args : List Tree) (t : Tree)
    → whole ≡ t ∷ ms → after ≡ ms → next ≡ args ++ after → args ≡ arguments t
    → trees_size (trees_of next) < trees_size (trees_of whole)
work-falls whole ms after next args t w m n g =
    let next_is : next ≡ arguments t ++ ms = n ∙ ap (λ ys. ys ++ after) g ∙ ap (λ zs. arguments t ++ zs) m in
    rw (next_is, w) (falls t)
  where
    falls : (u : Tree) → trees_size (trees_of (arguments u ++ ms)) < trees_size (trees_of (u ∷ ms))
    falls (variable v) = omega arith
    falls (application f us) =
        omega (arith, trees_size-append (list_of us) ms, ap trees_size (trees_of-list_of us))
