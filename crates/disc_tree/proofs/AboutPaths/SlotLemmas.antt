-- What a search by halving finds among children whose labels rise.
use Rattle.std.proofs.Common.{◌≡◌, ℕ, zero, suc, ◌+◌, ◌<◌, ◌≤◌, true, false, List, [], ◌∷◌, length, take, drop, get_or, refl, ap, sym, subst, ◌∙◌, arith, ⊎_elim}
use Rattle.std.proofs.lemmas.Bool.{cases_Bool}
use Rattle.disc_tree.specs.declared.label.Label.{Label}
use Rattle.disc_tree.specs.Path.{comes_before}
use Rattle.disc_tree.specs.declared.node.Branch.{Branch}
use Rattle.disc_tree.specs.Rows.{Child, IsBefore, AreBefore, AreNotBefore, Rise, NoneIsEmpty, IsAt}
use Rattle.disc_tree.specs.Children.{child_of, children_of}
use Rattle.disc_tree.proofs.AboutPaths.LabelLemmas.{before-trans, before-total}

is_before-get : (l : Label) (cs : List Child) (i : ℕ) (c : Child) → i < length cs → c ≡ get_or cs i c → IsBefore l cs → comes_before l c.0 ≡ true
is_before-get l [] i c h e b = absurd (omega arith)
is_before-get l (d ∷ cs) zero c h e b = ap (λ (x : Child). comes_before l x.0) e ∙ b.0
is_before-get l (d ∷ cs) (suc i) c h e b = is_before-get l cs i c (omega arith) e b.1

-- a label that comes before one comes before all that this one comes before
pub is_before-weaker : (k l : Label) (cs : List Child) → comes_before k l ≡ true → IsBefore l cs → IsBefore k cs
is_before-weaker k l [] h b = tt
is_before-weaker k l (c ∷ cs) h b = (before-trans k l c.0 h b.0, is_before-weaker k l cs h b.1)

-- all up to a child that comes before the label come before it
pub front-before :
    (l : Label) (cs : List Child) (i : ℕ) (c : Child)
    → Rise cs → i < length cs → c ≡ get_or cs i c → comes_before c.0 l ≡ true → AreBefore (take (i + 1) cs) l
front-before l [] i c r h e b = absurd (omega arith)
front-before l (d ∷ cs) zero c r h e b = (ap (λ (x : Child). comes_before x.0 l) (sym e) ∙ b, tt)
front-before l (d ∷ cs) (suc i) c r h e b =
    subst (λ k. AreBefore (take k (d ∷ cs)) l) {x = suc (i + 1)} (omega arith)
    (before-trans d.0 c.0 l (is_before-get d.0 cs i c (omega arith) e r.0) b, front-before l cs i c r.1 (omega arith) e b)

not-before-later : (a b l : Label) → comes_before a b ≡ true → comes_before a l ≡ false → comes_before b l ≡ false
not-before-later a b l h k =
    ⊎_elim (λ t. let wrong : true ≡ false = sym (before-trans a b l h t) ∙ k in absurd cc) (λ f. f) (cases_Bool (comes_before b l))

all-not-before : (a l : Label) (cs : List Child) → IsBefore a cs → comes_before a l ≡ false → AreNotBefore cs l
all-not-before a l [] b k = tt
all-not-before a l (c ∷ cs) b k = (not-before-later a c.0 l b.0 k, all-not-before a l cs b.1 k)

-- none from a child on that doesn't come before the label comes before it
pub back-not-before :
    (l : Label) (cs : List Child) (i : ℕ) (c : Child)
    → Rise cs → i < length cs → c ≡ get_or cs i c → comes_before c.0 l ≡ false → AreNotBefore (drop i cs) l
back-not-before l [] i c r h e b = absurd (omega arith)
back-not-before l (d ∷ cs) zero c r h e b =
    let same : comes_before d.0 l ≡ false = ap (λ (x : Child). comes_before x.0 l) (sym e) ∙ b in
    (same, all-not-before d.0 l cs r.0 same)
back-not-before l (d ∷ cs) (suc i) c r h e b = back-not-before l cs i c r.1 (omega arith) e b

-- the child at the place where the halves meet has the label, where the label doesn't come before it
pub at-slot :
    (l : Label) (cs : List Child) (i : ℕ) (c : Child)
    → i < length cs → c ≡ get_or cs i c → AreNotBefore (drop i cs) l → comes_before l c.0 ≡ false → IsAt l cs i
at-slot l [] i c h e n b = absurd (omega arith)
at-slot l (d ∷ cs) zero c h e n b =
    let is : d.0 ≡ l = before-total d.0 l n.0 (ap (λ (x : Child). comes_before l x.0) (sym e) ∙ b) in
    record { front = []; back = cs; child_rows = d.1; in_range = h; parts = ap (λ k. let x : Child = (k, d.1) in x ∷ cs) is; place = refl }
at-slot l (d ∷ cs) (suc i) c h e n b =
    let later : IsAt l cs i = at-slot l cs i c (omega arith) e n b in
    record {
      front = d ∷ later.front;
      back = later.back;
      child_rows = later.child_rows;
      in_range = h;
      parts = ap (λ ds. d ∷ ds) later.parts;
      place = ap suc later.place;
    }

-- otherwise the label comes before all from there on
pub gap-before :
    (l : Label) (cs : List Child) (i : ℕ) (c : Child)
    → Rise cs → i < length cs → c ≡ get_or cs i c → comes_before l c.0 ≡ true → IsBefore l (drop i cs)
gap-before l [] i c r h e b = absurd (omega arith)
gap-before l (d ∷ cs) zero c r h e b =
    let first : comes_before l d.0 ≡ true = ap (λ (x : Child). comes_before l x.0) (sym e) ∙ b in
    (first, is_before-weaker l d.0 cs first r.0)
gap-before l (d ∷ cs) (suc i) c r h e b = gap-before l cs i c r.1 (omega arith) e b

pub gap-at-end : (l : Label) (cs : List Child) (i : ℕ) → length cs ≤ i → IsBefore l (drop i cs)
gap-at-end l [] zero h = tt
gap-at-end l [] (suc i) h = tt
gap-at-end l (c ∷ cs) zero h = absurd (omega arith)
gap-at-end l (c ∷ cs) (suc i) h = gap-at-end l cs i (omega arith)

pub child-get : (bs : List Branch) (i : ℕ) (b : Branch) → i < length bs → b ≡ get_or bs i b → child_of b ≡ get_or (children_of bs) i (child_of b)
child-get [] i b h e = absurd (omega arith)
child-get (d ∷ bs) zero b h e = ap child_of e
child-get (d ∷ bs) (suc i) b h e = child-get bs i b (omega arith) e

pub children-length : (bs : List Branch) → length (children_of bs) ≡ length bs
children-length [] = refl
children-length (b ∷ bs) = ap suc (children-length bs)

-- a child has rows, where no branch is empty
pub some-rows-at : (cs : List Child) (i : ℕ) (c : Child) → NoneIsEmpty cs → i < length cs → c ≡ get_or cs i c → 1 ≤ length c.1
some-rows-at [] i c n h e = absurd (omega arith)
some-rows-at (d ∷ cs) zero c n h e = subst (λ (x : Child). 1 ≤ length x.1) (sym e) n.0
some-rows-at (d ∷ cs) (suc i) c n h e = some-rows-at cs i c n.1 (omega arith) e
