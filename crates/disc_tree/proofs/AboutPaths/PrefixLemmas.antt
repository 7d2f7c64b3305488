-- How many nodes a search along a query without variables can visit.
use Rattle.std.proofs.Common.{◌≡◌, ℕ, ◌+◌, ◌*◌, ◌≤◌, Bool, true, false, ◌||◌, List, [], ◌∷◌, ◌++◌, length, refl, ap, ap₂, sym, subst, ◌∙◌, arith, ⊎_elim, inl, inr, if◌then◌else◌}
use Rattle.std.proofs.lemmas.Bool.{cases_Bool, cond-true, cond-false}
use Rattle.fol_base.specs.Tree.{Tree, application, Trees, trees_of, list_of}
use Rattle.fol_base.proofs.AboutTerms.TreeLemmas.{list_of-trees_of}
use Rattle.fol_base.specs.Ground.{is_ground, are_ground}
use Rattle.disc_tree.specs.declared.label.Label.{Label}
use Rattle.disc_tree.specs.declared.label.Label.TheVariants.{Star, Symbol}
use Rattle.disc_tree.specs.Path.{head, path, same_label}
use Rattle.disc_tree.specs.Entries.{IsIn}
use Rattle.disc_tree.specs.Rows.{Row, Child, here, below, all_below, rows, rows_at, entries_of, HavePaths}
use Rattle.disc_tree.specs.Prefixes.{can_read, behind, prefixes, all_prefixes, readable, same_path, has_path, different, compatible_prefixes, AreGround, IsCompatible, HasCompatible, StaysWithin, FollowsWithin}
use Rattle.disc_tree.proofs.AboutPaths.LabelLemmas.{same-label-is, same-label-refl}
use Rattle.list_lemmas.proofs.Bools.{both-true, and-first, and-second}

-- ---- members

pub in-left : {X : Type 0} (x : X) (xs ys : List X) → IsIn x xs → IsIn x (xs ++ ys)
in-left x [] ys h = absurd h
in-left x (z ∷ xs) ys h = ⊎_elim (λ e. inl e) (λ k. inr (in-left x xs ys k)) h

pub in-right : {X : Type 0} (x : X) (xs ys : List X) → IsIn x ys → IsIn x (xs ++ ys)
in-right x [] ys h = h
in-right x (z ∷ xs) ys h = inr (in-right x xs ys h)

-- ---- the prefixes that begin with a label, without it

abbrev pub tails : Label → List (List Label) → List (List Label)
tails l [] = []
tails l ([] ∷ ps) = tails l ps
tails l ((k ∷ p) ∷ ps) = if same_label k l then p ∷ tails l ps else tails l ps

tails-more : (l : Label) (q : List Label) (ps : List (List Label)) (p : List Label) → IsIn p (tails l ps) → IsIn p (tails l (q ∷ ps))
tails-more l [] ps p h = h
tails-more l (k ∷ q) ps p h =
    ⊎_elim
    (λ same. subst (λ zs. IsIn p zs) (sym (cond-true (same_label k l) (q ∷ tails l ps) (tails l ps) same)) (inr h))
    (λ other. subst (λ zs. IsIn p zs) (sym (cond-false (same_label k l) (q ∷ tails l ps) (tails l ps) other)) h)
    (cases_Bool (same_label k l))

pub in-tails : (l : Label) (p : List Label) (ps : List (List Label)) → IsIn (l ∷ p) ps → IsIn p (tails l ps)
in-tails l p [] h = absurd h
in-tails l p (q ∷ ps) h =
    ⊎_elim
    (λ e.
    subst (λ z. IsIn p (tails l (z ∷ ps))) e
    (subst (λ zs. IsIn p zs) (sym (cond-true (same_label l l) (p ∷ tails l ps) (tails l ps) (same-label-refl l))) (inl refl)))
    (λ k. tails-more l q ps p (in-tails l p ps k))
    h

-- no prefix begins with both-true a star and a symbol
tails-one :
    (f n : ℕ) (k : Label) (p : List Label) (ps : List (List Label))
    → length (tails Star ((k ∷ p) ∷ ps)) + length (tails (Symbol f n) ((k ∷ p) ∷ ps))
    ≤ 1 + length (tails Star ps) + length (tails (Symbol f n) ps)
tails-one f n Star p ps = omega arith
tails-one f n (Symbol g m) p ps =
    let left : List (List Label) = tails (Symbol f n) ps in
    ⊎_elim (λ same. omega (arith, ap length (cond-true (same_label (Symbol g m) (Symbol f n)) (p ∷ left) left same)))
    (λ other. omega (arith, ap length (cond-false (same_label (Symbol g m) (Symbol f n)) (p ∷ left) left other)))
    (cases_Bool (same_label (Symbol g m) (Symbol f n)))

tails-fit : (f n : ℕ) (ps : List (List Label)) → length (tails Star ps) + length (tails (Symbol f n) ps) ≤ length ps
tails-fit f n [] = omega arith
tails-fit f n ([] ∷ ps) = omega (arith, tails-fit f n ps)
tails-fit f n ((k ∷ p) ∷ ps) = omega (arith, tails-one f n k p ps, tails-fit f n ps)

-- and the empty one begins with neither
pub tails-fit-more :
    (f n : ℕ) (ps : List (List Label)) → IsIn [] ps → 1 + length (tails Star ps) + length (tails (Symbol f n) ps) ≤ length ps
tails-fit-more f n [] h = absurd h
tails-fit-more f n ([] ∷ ps) h = omega (arith, tails-fit f n ps)
tails-fit-more f n ((k ∷ p) ∷ ps) h =
    ⊎_elim (λ e. absurd cc) (λ later. omega (arith, tails-one f n k p ps, tails-fit-more f n ps later)) h

-- ---- rows of children

below-in : (l : Label) (r : Row) (rs : List Row) → IsIn r rs → IsIn (l ∷ r.0, r.1) (below l rs)
below-in l r [] h = absurd h
below-in l r (s ∷ rs) h = ⊎_elim (λ e. inl (ap (λ (x : Row). (l ∷ x.0, x.1)) e)) (λ k. inr (below-in l r rs k)) h

child-in : (l : Label) (r : Row) (cs : List Child) → IsIn r (rows_at l cs) → IsIn (l ∷ r.0, r.1) (all_below cs)
child-in l r [] h = absurd h
child-in l r (c ∷ cs) h =
    ⊎_elim
    (λ same.
    in-left (l ∷ r.0, r.1) (below c.0 c.1) (all_below cs)
    (subst (λ k. IsIn (l ∷ r.0, r.1) (below k c.1)) (sym (same-label-is c.0 l same))
    (below-in l r c.1 (subst (λ rs. IsIn r rs) (cond-true (same_label c.0 l) c.1 (rows_at l cs) same) h))))
    (λ other.
    in-right (l ∷ r.0, r.1) (below c.0 c.1) (all_below cs)
    (child-in l r cs (subst (λ rs. IsIn r rs) (cond-false (same_label c.0 l) c.1 (rows_at l cs) other) h)))
    (cases_Bool (same_label c.0 l))

-- a compatible prefix of a child's rows, behind the child's label
compatible-child :
    (ts us : List Tree) (l : Label) (xs : List (Tree × ℕ)) (cs : List Child) (p : List Label)
    → (can_read us p ≡ true → can_read ts (l ∷ p) ≡ true)
    → IsCompatible us (rows_at l cs) p → IsCompatible ts (rows (xs, cs)) (l ∷ p)
compatible-child ts us l xs cs p read c = record {
  row = (l ∷ c.row.0, c.row.1);
  more = c.more;
  is_in = in-right (l ∷ c.row.0, c.row.1) (here xs) (all_below cs) (child-in l c.row cs c.is_in);
  begins = ap (λ q. l ∷ q) c.begins;
  is_read = read c.is_read;
}

tails-compatible :
    (ts us : List Tree) (l : Label) (xs : List (Tree × ℕ)) (cs : List Child) (ps : List (List Label))
    → ((p : List Label) → can_read us p ≡ true → can_read ts (l ∷ p) ≡ true)
    → HasCompatible ts (rows (xs, cs)) ps → HasCompatible us (rows_at l cs) (tails l ps)
tails-compatible ts us l xs cs ps read has p c = in-tails l p ps (has (l ∷ p) (compatible-child ts us l xs cs p (read p) c))

-- ---- one node

-- a child that is there has the empty prefix
pub follows-child :
    (ts : List Tree) (rs child : List Row) (before read after : ℕ)
    → 1 ≤ length child → child ≡ rs → read ≡ before + 1 → StaysWithin ts child read after → FollowsWithin ts rs before after
follows-child ts rs [] before read after some same step within ps has = absurd (omega (arith, some))
follows-child ts rs (r ∷ child) before read after some same step within ps has =
    omega (arith, step, within ps (all [] empty) all)
  where
    all : HasCompatible ts (r ∷ child) ps
    all = subst (λ ss. HasCompatible ts ss ps) (sym same) has

    empty : IsCompatible ts (r ∷ child) []
    empty = record { row = r; more = r.0; is_in = inl refl; begins = refl; is_read = refl }

node-read :
    (g : ℕ) (us : Trees) (ms : List Tree) (p : List Label)
    → can_read (list_of us ++ ms) p ≡ true → can_read (application g us ∷ ms) (Symbol g (length (list_of us)) ∷ p) ≡ true
node-read g us ms p h =
    both-true (same_label (Symbol g (length (list_of us))) (Symbol g (length (list_of us)))) (can_read (list_of us ++ ms) p)
    (same-label-refl (Symbol g (length (list_of us)))) h

-- two look-ups at a node: the star's child, and the symbol's
node-steps :
    (g : ℕ) (us : Trees) (ms : List Tree) (xs : List (Tree × ℕ)) (cs : List Child) (before between after : ℕ)
    → FollowsWithin ms (rows_at Star cs) before between
    → FollowsWithin (list_of us ++ ms) (rows_at (Symbol g (length (list_of us))) cs) between after
    → StaysWithin (application g us ∷ ms) (rows (xs, cs)) before after
node-steps g us ms xs cs before between after star symbol ps empty has =
    let l : Label = Symbol g (length (list_of us)) in
    omega (
      arith,
      star (tails Star ps) (tails-compatible (application g us ∷ ms) ms Star xs cs ps (λ p h. h) has),
      symbol (tails l ps) (tails-compatible (application g us ∷ ms) (list_of us ++ ms) l xs cs ps (node-read g us ms) has),
      tails-fit-more g (length (list_of us)) ps empty,
    )

-- where the second look-up isn't made
star-steps :
    (g : ℕ) (us : Trees) (ms : List Tree) (xs : List (Tree × ℕ)) (cs : List Child) (before after : ℕ)
    → FollowsWithin ms (rows_at Star cs) before after → StaysWithin (application g us ∷ ms) (rows (xs, cs)) before after
star-steps g us ms xs cs before after star ps empty has =
    omega (
      arith,
      star (tails Star ps) (tails-compatible (application g us ∷ ms) ms Star xs cs ps (λ p h. h) has),
      tails-fit-more g (length (list_of us)) ps empty,
    )

-- ---- terms without variables

pub all-ground : (us : List Tree) → are_ground (trees_of us) ≡ true → AreGround us
all-ground [] h = tt
all-ground (u ∷ us) h =
    (and-first (is_ground u) (are_ground (trees_of us)) h, all-ground us (and-second (is_ground u) (are_ground (trees_of us)) h))

pub ground-append : (us ts : List Tree) → AreGround us → AreGround ts → AreGround (us ++ ts)
ground-append [] ts g h = h
ground-append (u ∷ us) ts g h = (g.0, ground-append us ts g.1 h)

-- ---- a node where the next term has a symbol

pub application-is :
    (g : ℕ) (us ts ms after : List Tree) (t : Tree)
    → ts ≡ t ∷ ms → after ≡ ms → t ≡ application g (trees_of us) → ts ≡ application g (trees_of us) ∷ after
application-is g us ts ms after t i a v = i ∙ ap (λ u. u ∷ ms) v ∙ ap (λ zs. application g (trees_of us) ∷ zs) (sym a)

pub stays-star :
    (g : ℕ) (us ts after : List Tree) (xs : List (Tree × ℕ)) (cs : List Child) (before end : ℕ)
    → ts ≡ application g (trees_of us) ∷ after
    → (AreGround after → FollowsWithin after (rows_at Star cs) before end) → AreGround ts → StaysWithin ts (rows (xs, cs)) before end
stays-star g us ts after xs cs before end is star ground =
    subst (λ zs. StaysWithin zs (rows (xs, cs)) before end) (sym is)
    (star-steps g (trees_of us) after xs cs before end (star (subst (λ zs. AreGround zs) is ground).1))

pub stays-application :
    (g : ℕ) (us ts after next : List Tree) (l : Label) (xs : List (Tree × ℕ)) (cs : List Child) (before between end : ℕ)
    → ts ≡ application g (trees_of us) ∷ after → next ≡ us ++ after → l ≡ head (application g (trees_of us))
    → (AreGround after → FollowsWithin after (rows_at Star cs) before between)
    → (AreGround next → FollowsWithin next (rows_at l cs) between end) → AreGround ts → StaysWithin ts (rows (xs, cs)) before end
stays-application g us ts after next l xs cs before between end is next_is label_is star symbol ground =
    let k : Label = head (application g (trees_of us)) in
    let terms : AreGround (application g (trees_of us) ∷ after) = subst (λ zs. AreGround zs) is ground in
    let next_ground : AreGround next =
    subst (λ zs. AreGround zs) (sym next_is) (ground-append us after (all-ground us terms.0) terms.1) in
    subst (λ zs. StaysWithin zs (rows (xs, cs)) before end) (sym is)
    (node-steps g (trees_of us) after xs cs before between end (star terms.1)
    (subst (λ zs. FollowsWithin (zs ++ after) (rows_at k cs) between end) (sym (list_of-trees_of us))
    (subst (λ zs. FollowsWithin zs (rows_at k cs) between end) next_is
    (subst (λ j. FollowsWithin next (rows_at j cs) between end) label_is (symbol next_ground)))))

-- ---- the number of different prefixes

in-behind : (l : Label) (p : List Label) (ps : List (List Label)) → IsIn p ps → IsIn (l ∷ p) (behind l ps)
in-behind l p [] h = absurd h
in-behind l p (q ∷ ps) h = ⊎_elim (λ e. inl (ap (λ z. l ∷ z) e)) (λ k. inr (in-behind l p ps k)) h

in-prefixes : (p more : List Label) → IsIn p (prefixes (p ++ more))
in-prefixes [] [] = inl refl
in-prefixes [] (l ∷ more) = inl refl
in-prefixes (l ∷ p) more = inr (in-behind l p (prefixes (p ++ more)) (in-prefixes p more))

in-all-prefixes :
    (r : Row) (rs : List Row) (p more : List Label)
    → IsIn r rs → HavePaths rs → r.0 ≡ p ++ more → IsIn p (all_prefixes (entries_of rs))
in-all-prefixes r [] p more h paths b = absurd h
in-all-prefixes r (s ∷ rs) p more h paths b =
    ⊎_elim
    (λ e.
    in-left p (prefixes (path s.1.0)) (all_prefixes (entries_of rs))
    (subst (λ q. IsIn p (prefixes q)) (sym b ∙ ap (λ (x : Row). x.0) e ∙ paths.0) (in-prefixes p more)))
    (λ k. in-right p (prefixes (path s.1.0)) (all_prefixes (entries_of rs)) (in-all-prefixes r rs p more k paths.1 b))
    h

in-readable : (ts : List Tree) (p : List Label) (ps : List (List Label)) → can_read ts p ≡ true → IsIn p ps → IsIn p (readable ts ps)
in-readable ts p [] read h = absurd h
in-readable ts p (q ∷ ps) read h =
    ⊎_elim
    (λ e.
    subst (λ zs. IsIn p zs)
    (sym (cond-true (can_read ts q) (q ∷ readable ts ps) (readable ts ps) (ap (can_read ts) (sym e) ∙ read)))
    (inl e))
    (λ k. if-more (can_read ts q) (in-readable ts p ps read k))
    h
  where
    if-more : (b : Bool) → IsIn p (readable ts ps) → IsIn p (if b then q ∷ readable ts ps else readable ts ps)
    if-more true k = inr k
    if-more false k = k

pub same-path-is : (p q : List Label) → same_path p q ≡ true → p ≡ q
same-path-is [] [] h = refl
same-path-is [] (l ∷ q) h = cc
same-path-is (k ∷ p) [] h = cc
same-path-is (k ∷ p) (l ∷ q) h =
    ap₂ ◌∷◌ (same-label-is k l (and-first (same_label k l) (same_path p q) h))
    (same-path-is p q (and-second (same_label k l) (same_path p q) h))

has-path-in : (p : List Label) (qs : List (List Label)) → has_path p qs ≡ true → IsIn p qs
has-path-in p [] h = cc
has-path-in p (q ∷ qs) h =
    ⊎_elim (λ same. inl (same-path-is p q same))
    (λ other. inr (has-path-in p qs (sym (ap (λ b. b || has_path p qs) other) ∙ h)))
    (cases_Bool (same_path p q))

in-different : (p : List Label) (ps : List (List Label)) → IsIn p ps → IsIn p (different ps)
in-different p [] h = absurd h
in-different p (q ∷ ps) h =
    ⊎_elim
    (λ again.
    subst (λ zs. IsIn p zs) (sym (cond-true (has_path q ps) (different ps) (q ∷ different ps) again))
    (⊎_elim (λ e. subst (λ z. IsIn z (different ps)) (sym e) (in-different q ps (has-path-in q ps again))) (λ k. in-different p ps k) h))
    (λ first.
    subst (λ zs. IsIn p zs) (sym (cond-false (has_path q ps) (different ps) (q ∷ different ps) first))
    (⊎_elim (λ e. inl e) (λ k. inr (in-different p ps k)) h))
    (cases_Bool (has_path q ps))

-- the steps of a whole query
pub stays-counted :
    (u : Tree) (rs : List Row) (before after : ℕ)
    → HavePaths rs → StaysWithin (u ∷ []) rs before after → after ≤ before + 2 * compatible_prefixes u (entries_of rs)
stays-counted u rs before after paths within =
    let read : List (List Label) = readable (u ∷ []) (all_prefixes (entries_of rs)) in
    within (different ([] ∷ read)) (in-different [] ([] ∷ read) (inl refl))
    (λ p c.
    in-different p ([] ∷ read)
    (inr
    (in-readable (u ∷ []) p (all_prefixes (entries_of rs)) c.is_read
    (in-all-prefixes c.row rs p c.more c.is_in paths c.begins))))
