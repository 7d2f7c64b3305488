-- Lists with one element more, and the children of a node: exchanged, put in, taken out, and read at a slot.
use Rattle.std.proofs.Common.{◌≡◌, ℕ, zero, suc, ◌<◌, ◌≤◌, true, List, [], ◌∷◌, ◌++◌, length, take, drop, get_or, append_assoc, refl, ap, sym, subst, ◌∙◌, arith}
use Rattle.std.specs.Prelude.{slice_set, insert, remove}
use Rattle.std.proofs.lemmas.Bool.{cond-true, cond-false}
use Rattle.fol_base.specs.Tree.{Tree}
use Rattle.disc_tree.specs.declared.label.Label.{Label}
use Rattle.disc_tree.specs.declared.node.Branch.{Branch}
use Rattle.disc_tree.specs.Path.{comes_before, same_label}
use Rattle.disc_tree.specs.Entries.{IsWith}
use Rattle.disc_tree.specs.Rows.{Row, Child, here, below, all_below, rows, rows_at, weight, IsBefore, AreBefore, Rise, NoneIsEmpty, IsAt}
use Rattle.disc_tree.specs.Children.{child_of, children_of}
use Rattle.disc_tree.specs.Falls.{weight-append, weight-below}
use Rattle.disc_tree.proofs.AboutPaths.LabelLemmas.{before-not-same, after-not-same, same-label-refl}

-- ---- lists with one more

pub with-left : {X : Type 0} (x : X) (cs xs ys : List X) → IsWith x xs ys → IsWith x (cs ++ xs) (cs ++ ys)
with-left x cs xs ys w = record {
  front = cs ++ w.front;
  back = w.back;
  without = ap (λ zs. cs ++ zs) w.without ∙ sym (append_assoc cs w.front w.back);
  with_it = ap (λ zs. cs ++ zs) w.with_it ∙ sym (append_assoc cs w.front (x ∷ w.back));
}

pub with-right : {X : Type 0} (x : X) (cs xs ys : List X) → IsWith x xs ys → IsWith x (xs ++ cs) (ys ++ cs)
with-right x cs xs ys w = record {
  front = w.front;
  back = w.back ++ cs;
  without = ap (λ zs. zs ++ cs) w.without ∙ append_assoc w.front w.back cs;
  with_it = ap (λ zs. zs ++ cs) w.with_it ∙ append_assoc w.front (x ∷ w.back) cs;
}

below-append : (l : Label) (rs ss : List Row) → below l (rs ++ ss) ≡ below l rs ++ below l ss
below-append l [] ss = refl
below-append l (r ∷ rs) ss = ap (λ zs. (l ∷ r.0, r.1) ∷ zs) (below-append l rs ss)

pub with-below : (l : Label) (r : Row) (xs ys : List Row) → IsWith r xs ys → IsWith (l ∷ r.0, r.1) (below l xs) (below l ys)
with-below l r xs ys w = record {
  front = below l w.front;
  back = below l w.back;
  without = ap (below l) w.without ∙ below-append l w.front w.back;
  with_it = ap (below l) w.with_it ∙ below-append l w.front (r ∷ w.back);
}

pub all_below-append : (cs ds : List Child) → all_below (cs ++ ds) ≡ all_below cs ++ all_below ds
all_below-append [] ds = refl
all_below-append (c ∷ cs) ds =
    ap (λ zs. below c.0 c.1 ++ zs) (all_below-append cs ds) ∙ sym (append_assoc (below c.0 c.1) (all_below cs) (all_below ds))

-- ---- one child exchanged

pub set-part : {X : Type 0} (front : List X) (x y : X) (back : List X) (i : ℕ) → length front ≡ i → slice_set (front ++ x ∷ back) i y ≡ front ++ y ∷ back
set-part [] x y back zero h = refl
set-part [] x y back (suc i) h = cc
set-part (f ∷ front) x y back zero h = cc
set-part (f ∷ front) x y back (suc i) h = ap (λ zs. f ∷ zs) (set-part front x y back i (omega arith))

get-part : {X : Type 0} (front : List X) (x d : X) (back : List X) (i : ℕ) → length front ≡ i → get_or (front ++ x ∷ back) i d ≡ x
get-part [] x d back zero h = refl
get-part [] x d back (suc i) h = cc
get-part (f ∷ front) x d back zero h = cc
get-part (f ∷ front) x d back (suc i) h = get-part front x d back i (omega arith)

pub remove-part : {X : Type 0} (front : List X) (x : X) (back : List X) (i : ℕ) → length front ≡ i → remove (front ++ x ∷ back) i ≡ front ++ back
remove-part [] x back zero h = refl
remove-part [] x back (suc i) h = cc
remove-part (f ∷ front) x back zero h = cc
remove-part (f ∷ front) x back (suc i) h = ap (λ zs. f ∷ zs) (remove-part front x back i (omega arith))

pub children-set : (bs : List Branch) (i : ℕ) (b : Branch) → children_of (slice_set bs i b) ≡ slice_set (children_of bs) i (child_of b)
children-set [] i b = refl
children-set (d ∷ bs) zero b = refl
children-set (d ∷ bs) (suc i) b = ap (λ zs. child_of d ∷ zs) (children-set bs i b)

pub children-insert : (bs : List Branch) (i : ℕ) (b : Branch) → children_of (insert bs i b) ≡ insert (children_of bs) i (child_of b)
children-insert [] zero b = refl
children-insert [] (suc i) b = refl
children-insert (d ∷ bs) zero b = refl
children-insert (d ∷ bs) (suc i) b = ap (λ zs. child_of d ∷ zs) (children-insert bs i b)

pub children-remove : (bs : List Branch) (i : ℕ) → children_of (remove bs i) ≡ remove (children_of bs) i
children-remove [] zero = refl
children-remove [] (suc i) = refl
children-remove (d ∷ bs) zero = refl
children-remove (d ∷ bs) (suc i) = ap (λ zs. child_of d ∷ zs) (children-remove bs i)

-- ---- order and emptiness

is_before-exchanged :
    (k l : Label) (rs ss : List Row) (front back : List Child)
    → IsBefore k (front ++ (l, rs) ∷ back) → IsBefore k (front ++ (l, ss) ∷ back)
is_before-exchanged k l rs ss [] back b = b
is_before-exchanged k l rs ss (c ∷ front) back b = (b.0, is_before-exchanged k l rs ss front back b.1)

pub rise-exchanged :
    (l : Label) (rs ss : List Row) (front back : List Child) → Rise (front ++ (l, rs) ∷ back) → Rise (front ++ (l, ss) ∷ back)
rise-exchanged l rs ss [] back r = r
rise-exchanged l rs ss (c ∷ front) back r = (is_before-exchanged c.0 l rs ss front back r.0, rise-exchanged l rs ss front back r.1)

pub none_is_empty-exchanged :
    (l : Label) (rs ss : List Row) (front back : List Child)
    → 1 ≤ length ss → NoneIsEmpty (front ++ (l, rs) ∷ back) → NoneIsEmpty (front ++ (l, ss) ∷ back)
none_is_empty-exchanged l rs ss [] back h n = (h, n.1)
none_is_empty-exchanged l rs ss (c ∷ front) back h n = (n.0, none_is_empty-exchanged l rs ss front back h n.1)

is_before-inserted :
    (k l : Label) (rs : List Row) (cs : List Child) (i : ℕ)
    → comes_before k l ≡ true → IsBefore k cs → IsBefore k (take i cs ++ (l, rs) ∷ drop i cs)
is_before-inserted k l rs [] zero h b = (h, tt)
is_before-inserted k l rs [] (suc i) h b = (h, tt)
is_before-inserted k l rs (c ∷ cs) zero h b = (h, b)
is_before-inserted k l rs (c ∷ cs) (suc i) h b = (b.0, is_before-inserted k l rs cs i h b.1)

pub rise-inserted :
    (l : Label) (rs : List Row) (cs : List Child) (i : ℕ)
    → AreBefore (take i cs) l → IsBefore l (drop i cs) → Rise cs → Rise (take i cs ++ (l, rs) ∷ drop i cs)
rise-inserted l rs [] zero a b r = (tt, tt)
rise-inserted l rs [] (suc i) a b r = (tt, tt)
rise-inserted l rs (c ∷ cs) zero a b r = (b, r)
rise-inserted l rs (c ∷ cs) (suc i) a b r = (is_before-inserted c.0 l rs cs i a.0 r.0, rise-inserted l rs cs i a.1 b r.1)

pub none_is_empty-inserted :
    (l : Label) (rs : List Row) (cs : List Child) (i : ℕ)
    → 1 ≤ length rs → NoneIsEmpty cs → NoneIsEmpty (take i cs ++ (l, rs) ∷ drop i cs)
none_is_empty-inserted l rs [] zero h n = (h, tt)
none_is_empty-inserted l rs [] (suc i) h n = (h, tt)
none_is_empty-inserted l rs (c ∷ cs) zero h n = (h, n)
none_is_empty-inserted l rs (c ∷ cs) (suc i) h n = (n.0, none_is_empty-inserted l rs cs i h n.1)

is_before-removed : (k : Label) (c : Child) (front back : List Child) → IsBefore k (front ++ c ∷ back) → IsBefore k (front ++ back)
is_before-removed k c [] back b = b.1
is_before-removed k c (d ∷ front) back b = (b.0, is_before-removed k c front back b.1)

pub rise-removed : (c : Child) (front back : List Child) → Rise (front ++ c ∷ back) → Rise (front ++ back)
rise-removed c [] back r = r.1
rise-removed c (d ∷ front) back r = (is_before-removed d.0 c front back r.0, rise-removed c front back r.1)

pub none_is_empty-removed : (c : Child) (front back : List Child) → NoneIsEmpty (front ++ c ∷ back) → NoneIsEmpty (front ++ back)
none_is_empty-removed c [] back n = n.1
none_is_empty-removed c (d ∷ front) back n = (n.0, none_is_empty-removed c front back n.1)

-- ---- the child at a slot

pub is_before-part : (k : Label) (c : Child) (front back : List Child) → IsBefore k (front ++ c ∷ back) → comes_before k c.0 ≡ true
is_before-part k c [] back b = b.0
is_before-part k c (d ∷ front) back b = is_before-part k c front back b.1

rows_at-part :
    (l : Label) (rs : List Row) (front back : List Child) → Rise (front ++ (l, rs) ∷ back) → rows_at l (front ++ (l, rs) ∷ back) ≡ rs
rows_at-part l rs [] back r = cond-true (same_label l l) rs (rows_at l back) (same-label-refl l)
rows_at-part l rs (c ∷ front) back r =
    cond-false (same_label c.0 l) c.1 (rows_at l (front ++ (l, rs) ∷ back))
    (before-not-same c.0 l (is_before-part c.0 (l, rs) front back r.0))
    ∙ rows_at-part l rs front back r.1

-- what is read at a slot is the child with the label
pub at-child : (l : Label) (cs : List Child) (i : ℕ) (c : Child) (a : IsAt l cs i) → c ≡ get_or cs i c → c ≡ (l, a.child_rows)
at-child l cs i c a e = e ∙ ap (λ ds. get_or ds i c) a.parts ∙ get-part a.front (l, a.child_rows) c a.back i a.place

pub at-rows :
    (l : Label) (cs : List Child) (i : ℕ) (c : Child) → Rise cs → IsAt l cs i → c ≡ get_or cs i c → c.1 ≡ rows_at l cs
at-rows l cs i c r a e =
    ap (λ (x : Child). x.1) (at-child l cs i c a e)
    ∙ sym (ap (rows_at l) a.parts ∙ rows_at-part l a.child_rows a.front a.back (subst Rise a.parts r))

gap-rows-from : (l : Label) (cs : List Child) → IsBefore l cs → rows_at l cs ≡ []
gap-rows-from l [] b = refl
gap-rows-from l (c ∷ cs) b =
    cond-false (same_label c.0 l) c.1 (rows_at l cs) (after-not-same c.0 l b.0) ∙ gap-rows-from l cs b.1

pub gap-rows :
    (l : Label) (cs : List Child) (i : ℕ) → AreBefore (take i cs) l → IsBefore l (drop i cs) → rows_at l cs ≡ []
gap-rows l [] i a b = refl
gap-rows l (c ∷ cs) zero a b = gap-rows-from l (c ∷ cs) b
gap-rows l (c ∷ cs) (suc i) a b =
    cond-false (same_label c.0 l) c.1 (rows_at l cs) (before-not-same c.0 l a.0) ∙ gap-rows l cs i a.1 b

-- a child weighs less than its node
lighter : (cs : List Child) (i : ℕ) (c : Child) → NoneIsEmpty cs → i < length cs → c ≡ get_or cs i c → weight c.1 < weight (all_below cs)
lighter [] i c n h e = absurd (omega arith)
lighter (d ∷ cs) zero c n h e =
    let same : weight c.1 ≡ weight d.1 = ap (λ (x : Child). weight x.1) e in
    omega (arith, same, n.0, weight-below d.0 d.1, weight-append (below d.0 d.1) (all_below cs))
lighter (d ∷ cs) (suc i) c n h e =
    omega (arith, lighter cs i c n.1 (omega arith) e, weight-append (below d.0 d.1) (all_below cs))

pub child-lighter :
    (xs : List (Tree × ℕ)) (cs : List Child) (i : ℕ) (c : Child)
    → NoneIsEmpty cs → i < length cs → c ≡ get_or cs i c → weight c.1 < weight (rows (xs, cs))
child-lighter xs cs i c n h e = omega (arith, lighter cs i c n h e, weight-append (here xs) (all_below cs))
