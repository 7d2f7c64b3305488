-- How many nodes a search along a query without variables visits at least.
use Rattle.std.proofs.Common.{◌≡◌, ◌⊎◌, ℕ, ◌+◌, ◌≤◌, Bool, true, false, ◌&&◌, ◌||◌, List, [], ◌∷◌, ◌++◌, length, refl, ap, ap₂, sym, subst, ◌∙◌, arith, ⊎_elim, inl, inr}
use Rattle.std.proofs.lemmas.Bool.{cases_Bool, cond-true, cond-false}
use Rattle.fol_base.specs.Tree.{Tree, application, Trees, trees_of, list_of}
use Rattle.fol_base.proofs.AboutTerms.TreeLemmas.{list_of-trees_of}
use Rattle.disc_tree.specs.declared.label.Label.{Label}
use Rattle.disc_tree.specs.declared.label.Label.TheVariants.{Star, Symbol}
use Rattle.disc_tree.specs.Path.{head, path, same_label}
use Rattle.disc_tree.specs.Entries.{IsIn}
use Rattle.disc_tree.specs.Rows.{Row, Child, here, below, all_below, rows, rows_at, Rise, IsBefore, entries_of, HavePaths}
use Rattle.disc_tree.specs.Prefixes.{can_read, behind, prefixes, all_prefixes, readable, same_path, has_path, different, compatible_prefixes, AreGround, IsCompatible, AreDifferent, AreCompatible, VisitsEach, FollowsEach}
use Rattle.disc_tree.proofs.AboutPaths.LabelLemmas.{same-label-is, same-label-refl}
use Rattle.disc_tree.proofs.AboutChanges.EditLemmas.{is_in-append, not-here, in-below-label, in-below-row, not-behind}
use Rattle.disc_tree.proofs.AboutPaths.PrefixLemmas.{tails, all-ground, ground-append}
use Rattle.list_lemmas.proofs.Bools.{and-first, and-second}

-- ---- the prefixes that begin with a label, without it

pub tails-in : (l : Label) (p : List Label) (ps : List (List Label)) → IsIn p (tails l ps) → IsIn (l ∷ p) ps
tails-in l p [] h = absurd h
tails-in l p ([] ∷ ps) h = inr (tails-in l p ps h)
tails-in l p ((k ∷ q) ∷ ps) h =
    ⊎_elim
    (λ same.
    ⊎_elim (λ e. inl (ap₂ ◌∷◌ (sym (same-label-is k l same)) e)) (λ later. inr (tails-in l p ps later))
    (subst (λ zs. IsIn p zs) (cond-true (same_label k l) (q ∷ tails l ps) (tails l ps) same) h))
    (λ other. inr (tails-in l p ps (subst (λ zs. IsIn p zs) (cond-false (same_label k l) (q ∷ tails l ps) (tails l ps) other) h)))
    (cases_Bool (same_label k l))

pub tails-different : (l : Label) (ps : List (List Label)) → AreDifferent ps → AreDifferent (tails l ps)
tails-different l [] d = tt
tails-different l ([] ∷ ps) d = tails-different l ps d.1
tails-different l ((k ∷ q) ∷ ps) d =
    ⊎_elim
    (λ same.
    subst AreDifferent (sym (cond-true (same_label k l) (q ∷ tails l ps) (tails l ps) same))
    (λ again. d.0 (subst (λ j. IsIn (j ∷ q) ps) (sym (same-label-is k l same)) (tails-in l q ps again)), tails-different l ps d.1))
    (λ other.
    subst AreDifferent (sym (cond-false (same_label k l) (q ∷ tails l ps) (tails l ps) other)) (tails-different l ps d.1))
    (cases_Bool (same_label k l))

pub tails-longer :
    (l k : Label) (p : List Label) (ps : List (List Label))
    → same_label k l ≡ true → length (tails l ((k ∷ p) ∷ ps)) ≡ 1 + length (tails l ps)
tails-longer l k p ps same =
    let longer : length (tails l ((k ∷ p) ∷ ps)) ≡ length (p ∷ tails l ps) =
    ap length (cond-true (same_label k l) (p ∷ tails l ps) (tails l ps) same) in omega (arith, longer)

tails-no-shorter : (l k : Label) (p : List Label) (ps : List (List Label)) → length (tails l ps) ≤ length (tails l ((k ∷ p) ∷ ps))
tails-no-shorter l k p ps =
    ⊎_elim (λ same. omega (arith, tails-longer l k p ps same))
    (λ other. omega (arith, ap length (cond-false (same_label k l) (p ∷ tails l ps) (tails l ps) other)))
    (cases_Bool (same_label k l))

-- each path that isn't empty begins with a star or the label
abbrev Begin : Label → List (List Label) → Type 0
Begin l ps = (k : Label) (p : List Label) → IsIn (k ∷ p) ps → (same_label k Star ≡ true) ⊎ (same_label k l ≡ true)

tails-one-more :
    (l k : Label) (p : List Label) (ps : List (List Label))
    → (same_label k Star ≡ true) ⊎ (same_label k l ≡ true)
    → 1 + length (tails Star ps) + length (tails l ps) ≤ length (tails Star ((k ∷ p) ∷ ps)) + length (tails l ((k ∷ p) ∷ ps))
tails-one-more l k p ps begins =
    ⊎_elim (λ star. omega (arith, tails-longer Star k p ps star, tails-no-shorter l k p ps))
    (λ label. omega (arith, tails-longer l k p ps label, tails-no-shorter Star k p ps)) begins

tails-cover :
    (l : Label) (ps : List (List Label))
    → Begin l ps → (IsIn [] ps → ⊥) → length ps ≤ length (tails Star ps) + length (tails l ps)
tails-cover l [] begin none = omega arith
tails-cover l ([] ∷ ps) begin none = absurd (none (inl refl))
tails-cover l ((k ∷ p) ∷ ps) begin none =
    omega (
      arith,
      tails-one-more l k p ps (begin k p (inl refl)),
      tails-cover l ps (λ j q later. begin j q (inr later)) (λ later. none (inr later)),
    )

-- and the empty one stands there once at most
tails-cover-more :
    (l : Label) (ps : List (List Label))
    → AreDifferent ps → Begin l ps → length ps ≤ 1 + length (tails Star ps) + length (tails l ps)
tails-cover-more l [] d begin = omega arith
tails-cover-more l ([] ∷ ps) d begin = omega (arith, tails-cover l ps (λ j q later. begin j q (inr later)) d.0)
tails-cover-more l ((k ∷ p) ∷ ps) d begin =
    omega (
      arith,
      tails-one-more l k p ps (begin k p (inl refl)),
      tails-cover-more l ps d.1 (λ j q later. begin j q (inr later)),
    )

-- ---- rows of children

in-child-below :
    (l : Label) (p : List Label) (x : Tree × ℕ) (cs : List Child)
    → Rise cs → IsIn (l ∷ p, x) (all_below cs) → IsIn (p, x) (rows_at l cs)
in-child-below l p x [] r h = absurd h
in-child-below l p x (c ∷ cs) r h =
    ⊎_elim
    (λ same.
    subst (λ rs. IsIn (p, x) rs) (sym (cond-true (same_label c.0 l) c.1 (rows_at l cs) same))
    (⊎_elim (λ first. in-below-row c.0 l p x c.1 first)
    (λ later. absurd (not-behind l p x cs (subst (λ k. IsBefore k cs) (same-label-is c.0 l same) r.0) later)) parts))
    (λ other.
    subst (λ rs. IsIn (p, x) rs) (sym (cond-false (same_label c.0 l) c.1 (rows_at l cs) other))
    (⊎_elim
    (λ first.
    let is : l ≡ c.0 = in-below-label c.0 l p x c.1 first in
    let wrong : true ≡ false = sym (same-label-refl l) ∙ ap (λ k. same_label k l) is ∙ other in absurd cc)
    (λ later. in-child-below l p x cs r.1 later) parts))
    (cases_Bool (same_label c.0 l))
  where
    parts : IsIn (l ∷ p, x) (below c.0 c.1) ⊎ IsIn (l ∷ p, x) (all_below cs)
    parts = is_in-append (l ∷ p, x) (below c.0 c.1) (all_below cs) h

in-child :
    (l : Label) (p : List Label) (x : Tree × ℕ) (xs : List (Tree × ℕ)) (cs : List Child)
    → Rise cs → IsIn (l ∷ p, x) (rows (xs, cs)) → IsIn (p, x) (rows_at l cs)
in-child l p x xs cs r h =
    ⊎_elim (λ own. absurd (not-here l p x xs own)) (λ later. in-child-below l p x cs r later)
    (is_in-append (l ∷ p, x) (here xs) (all_below cs) h)

-- a compatible prefix behind a child's label is one of the child's rows
compatible-below :
    (ts us : List Tree) (l : Label) (xs : List (Tree × ℕ)) (cs : List Child) (p : List Label)
    → Rise cs → (can_read ts (l ∷ p) ≡ true → can_read us p ≡ true)
    → IsCompatible ts (rows (xs, cs)) (l ∷ p) → IsCompatible us (rows_at l cs) p
compatible-below ts us l xs cs p rise read c = record {
  row = (p ++ c.more, c.row.1);
  more = c.more;
  is_in = in-child l (p ++ c.more) c.row.1 xs cs rise (subst (λ q. IsIn (q, c.row.1) (rows (xs, cs))) c.begins c.is_in);
  begins = refl;
  is_read = read c.is_read;
}

-- the paths of a list are empty or compatible
abbrev AreVisited : List Tree → List Row → List (List Label) → Type 0
AreVisited ts rs ps = (p : List Label) → IsIn p ps → (p ≡ []) ⊎ IsCompatible ts rs p

tails-are :
    (ts us : List Tree) (l : Label) (xs : List (Tree × ℕ)) (cs : List Child) (ps : List (List Label))
    → Rise cs → ((p : List Label) → can_read ts (l ∷ p) ≡ true → can_read us p ≡ true)
    → AreVisited ts (rows (xs, cs)) ps → AreCompatible us (rows_at l cs) (tails l ps)
tails-are ts us l xs cs ps rise read all p h =
    ⊎_elim (λ e. absurd cc) (λ c. compatible-below ts us l xs cs p rise (read p) c) (all (l ∷ p) (tails-in l p ps h))

-- ---- one node

-- a child that is there, and one that isn't
pub follows-each :
    (ts : List Tree) (rs child : List Row) (before read after : ℕ)
    → child ≡ rs → read ≡ before + 1 → VisitsEach ts child read after → FollowsEach ts rs before after
follows-each ts rs child before read after same step visits ps d all =
    omega (arith, step, visits ps d (λ p h. inr (subst (λ ss. IsCompatible ts ss p) (sym same) (all p h))))

pub follows-none : (ts : List Tree) (rs : List Row) (before after : ℕ) → rs ≡ [] → after ≡ before + 1 → FollowsEach ts rs before after
follows-none ts rs before after none step [] d all = omega (arith, step)
follows-none ts rs before after none step (p ∷ ps) d all =
    let c : IsCompatible ts rs p = all p (inl refl) in
    absurd (subst (λ ss. IsIn c.row ss) none c.is_in)

read-symbol :
    (g : ℕ) (us : Trees) (ms : List Tree) (p : List Label)
    → can_read (application g us ∷ ms) (Symbol g (length (list_of us)) ∷ p) ≡ true → can_read (list_of us ++ ms) p ≡ true
read-symbol g us ms p h =
    and-second (same_label (Symbol g (length (list_of us))) (Symbol g (length (list_of us)))) (can_read (list_of us ++ ms) p) h

read-first :
    (g : ℕ) (us : Trees) (ms : List Tree) (k : Label) (p : List Label)
    → can_read (application g us ∷ ms) (k ∷ p) ≡ true
    → (same_label k Star ≡ true) ⊎ (same_label k (Symbol g (length (list_of us))) ≡ true)
read-first g us ms Star p h = inl refl
read-first g us ms (Symbol f n) p h =
    inr (and-first (same_label (Symbol f n) (Symbol g (length (list_of us)))) (can_read (list_of us ++ ms) p) h)

node-visits :
    (g : ℕ) (us : Trees) (ms : List Tree) (xs : List (Tree × ℕ)) (cs : List Child) (before between after : ℕ)
    → Rise cs → FollowsEach ms (rows_at Star cs) before between
    → FollowsEach (list_of us ++ ms) (rows_at (Symbol g (length (list_of us))) cs) between after
    → VisitsEach (application g us ∷ ms) (rows (xs, cs)) before after
node-visits g us ms xs cs before between after rise star symbol ps d all =
    let l : Label = Symbol g (length (list_of us)) in
    omega (
      arith,
      star (tails Star ps) (tails-different Star ps d) (tails-are (application g us ∷ ms) ms Star xs cs ps rise (λ p h. h) all),
      symbol (tails l ps) (tails-different l ps d)
          (tails-are (application g us ∷ ms) (list_of us ++ ms) l xs cs ps rise (read-symbol g us ms) all),
      tails-cover-more l ps d
          (λ k p h. ⊎_elim (λ e. absurd cc) (λ c. read-first g us ms k p c.is_read) (all (k ∷ p) h)),
    )

pub visits-application :
    (g : ℕ) (us ts after next : List Tree) (l : Label) (xs : List (Tree × ℕ)) (cs : List Child) (before between end : ℕ)
    → ts ≡ application g (trees_of us) ∷ after → next ≡ us ++ after → l ≡ head (application g (trees_of us)) → Rise cs
    → (AreGround after → FollowsEach after (rows_at Star cs) before between)
    → (AreGround next → FollowsEach next (rows_at l cs) between end) → AreGround ts → VisitsEach ts (rows (xs, cs)) before end
visits-application g us ts after next l xs cs before between end is next_is label_is rise star symbol ground =
    let k : Label = head (application g (trees_of us)) in
    let terms : AreGround (application g (trees_of us) ∷ after) = subst (λ zs. AreGround zs) is ground in
    let next_ground : AreGround next =
    subst (λ zs. AreGround zs) (sym next_is) (ground-append us after (all-ground us terms.0) terms.1) in
    subst (λ zs. VisitsEach zs (rows (xs, cs)) before end) (sym is)
    (node-visits g (trees_of us) after xs cs before between end rise (star terms.1)
    (subst (λ zs. FollowsEach (zs ++ after) (rows_at k cs) between end) (sym (list_of-trees_of us))
    (subst (λ zs. FollowsEach zs (rows_at k cs) between end) next_is
    (subst (λ j. FollowsEach next (rows_at j cs) between end) label_is (symbol next_ground)))))

-- where nothing is left, one read
pub read-nothing : (p : List Label) → can_read [] p ≡ true → p ≡ []
read-nothing [] h = refl
read-nothing (l ∷ p) h = cc

pub visits-end : (ts : List Tree) (rs : List Row) (before after : ℕ) → ts ≡ [] → after ≡ before + 1 → VisitsEach ts rs before after
visits-end ts rs before after none step [] d all = omega (arith, step)
visits-end ts rs before after none step (p ∷ []) d all = omega (arith, step)
visits-end ts rs before after none step (p ∷ q ∷ ps) d all =
    absurd (d.0 (inl (is p (inl refl) ∙ sym (is q (inr (inl refl))))))
  where
    is : (o : List Label) → IsIn o (p ∷ q ∷ ps) → o ≡ []
    is o h = ⊎_elim (λ e. e) (λ c. read-nothing o (ap (λ us. can_read us o) (sym none) ∙ c.is_read)) (all o h)

-- ---- the number of different prefixes

behind-label : (k l : Label) (p : List Label) (ps : List (List Label)) → IsIn (l ∷ p) (behind k ps) → l ≡ k
behind-label k l p [] h = absurd h
behind-label k l p (q ∷ ps) h = ⊎_elim (λ e. cc) (λ later. behind-label k l p ps later) h

behind-rest : (k l : Label) (p : List Label) (ps : List (List Label)) → IsIn (l ∷ p) (behind k ps) → IsIn p ps
behind-rest k l p [] h = absurd h
behind-rest k l p (q ∷ ps) h =
    ⊎_elim
    (λ e. let same : p ≡ q = cc in inl same)
    (λ later. inr (behind-rest k l p ps later))
    h

prefix-more : (p q : List Label) → IsIn p (prefixes q) → (more : List Label) × (q ≡ p ++ more)
prefix-more [] q h = (q, refl)
prefix-more (l ∷ p) [] h = ⊎_elim (λ e. absurd cc) (λ none. absurd none) h
prefix-more (l ∷ p) (k ∷ q) h =
    ⊎_elim (λ e. absurd cc)
    (λ later.
    let rest : (more : List Label) × (q ≡ p ++ more) = prefix-more p q (behind-rest k l p (prefixes q) later) in
    (rest.0, ap₂ ◌∷◌ (sym (behind-label k l p (prefixes q) later)) rest.1))
    h

compatible-prefix :
    (ts : List Tree) (p : List Label) (rs : List Row)
    → HavePaths rs → can_read ts p ≡ true → IsIn p (all_prefixes (entries_of rs)) → IsCompatible ts rs p
compatible-prefix ts p [] paths read h = absurd h
compatible-prefix ts p (r ∷ rs) paths read h =
    ⊎_elim
    (λ first.
    let rest : (more : List Label) × (path r.1.0 ≡ p ++ more) = prefix-more p (path r.1.0) first in
    record { row = r; more = rest.0; is_in = inl refl; begins = paths.0 ∙ rest.1; is_read = read })
    (λ later.
    let c : IsCompatible ts rs p = compatible-prefix ts p rs paths.1 read later in
    record { row = c.row; more = c.more; is_in = inr c.is_in; begins = c.begins; is_read = c.is_read })
    (is_in-append p (prefixes (path r.1.0)) (all_prefixes (entries_of rs)) h)

readable-in : (ts : List Tree) (p : List Label) (ps : List (List Label)) → IsIn p (readable ts ps) → (can_read ts p ≡ true) × IsIn p ps
readable-in ts p [] h = absurd h
readable-in ts p (q ∷ ps) h =
    ⊎_elim
    (λ read.
    ⊎_elim (λ e. (ap (can_read ts) e ∙ read, inl e)) (λ later. deeper (readable-in ts p ps later))
    (subst (λ zs. IsIn p zs) (cond-true (can_read ts q) (q ∷ readable ts ps) (readable ts ps) read) h))
    (λ other.
    deeper
    (readable-in ts p ps (subst (λ zs. IsIn p zs) (cond-false (can_read ts q) (q ∷ readable ts ps) (readable ts ps) other) h)))
    (cases_Bool (can_read ts q))
  where
    deeper : (can_read ts p ≡ true) × IsIn p ps → (can_read ts p ≡ true) × IsIn p (q ∷ ps)
    deeper both = (both.0, inr both.1)

same-path-refl : (p : List Label) → same_path p p ≡ true
same-path-refl [] = refl
same-path-refl (l ∷ p) = ap₂ ◌&&◌ (same-label-refl l) (same-path-refl p)

in-has-path : (p : List Label) (ps : List (List Label)) → IsIn p ps → has_path p ps ≡ true
in-has-path p [] h = absurd h
in-has-path p (q ∷ ps) h =
    ⊎_elim
    (λ e. let same : same_path p q ≡ true = ap (same_path p) (sym e) ∙ same-path-refl p in cc)
    (λ later. let has : has_path p ps ≡ true = in-has-path p ps later in or-right (same_path p q) (has_path p ps) has)
    h
  where
    or-right : (a b : Bool) → b ≡ true → (a || b) ≡ true
    or-right true b k = refl
    or-right false b k = k

different-in : (p : List Label) (ps : List (List Label)) → IsIn p (different ps) → IsIn p ps
different-in p [] h = h
different-in p (q ∷ ps) h =
    ⊎_elim
    (λ again.
    inr (different-in p ps (subst (λ zs. IsIn p zs) (cond-true (has_path q ps) (different ps) (q ∷ different ps) again) h)))
    (λ first.
    ⊎_elim (λ e. inl e) (λ later. inr (different-in p ps later))
    (subst (λ zs. IsIn p zs) (cond-false (has_path q ps) (different ps) (q ∷ different ps) first) h))
    (cases_Bool (has_path q ps))

different-once : (ps : List (List Label)) → AreDifferent (different ps)
different-once [] = tt
different-once (q ∷ ps) =
    ⊎_elim
    (λ again. subst AreDifferent (sym (cond-true (has_path q ps) (different ps) (q ∷ different ps) again)) (different-once ps))
    (λ first.
    subst AreDifferent (sym (cond-false (has_path q ps) (different ps) (q ∷ different ps) first))
    (λ later. let wrong : true ≡ false = sym (in-has-path q ps (different-in q ps later)) ∙ first in absurd cc, different-once ps))
    (cases_Bool (has_path q ps))

-- the steps of a whole query
pub visits-counted :
    (u : Tree) (rs : List Row) (before after : ℕ)
    → HavePaths rs → VisitsEach (u ∷ []) rs before after → before + compatible_prefixes u (entries_of rs) ≤ after
visits-counted u rs before after paths visits =
    let all : List (List Label) = all_prefixes (entries_of rs) in
    visits (different ([] ∷ readable (u ∷ []) all)) (different-once ([] ∷ readable (u ∷ []) all))
    (λ p h.
    ⊎_elim (λ e. inl e)
    (λ later.
    let read : (can_read (u ∷ []) p ≡ true) × IsIn p all = readable-in (u ∷ []) p all later in
    inr (compatible-prefix (u ∷ []) p rs paths read.0 read.1))
    (different-in p ([] ∷ readable (u ∷ []) all) h))
