-- A tail read along a query: which entries are found, and how many reads that takes.
use Rattle.std.proofs.Common.{◌≡◌, ◌⊎◌, ℕ, suc, ◌+◌, ◌≤◌, Bool, true, false, ◌&&◌, List, [], ◌∷◌, ◌++◌, length, refl, ap, sym, subst, ◌∙◌, arith, ⊎_elim, inl, inr}
use Rattle.std.proofs.lemmas.Bool.{cases_Bool, cond-true, cond-false}
use Rattle.fol_base.specs.Tree.{Tree, application, trees_of, list_of}
use Rattle.fol_base.proofs.AboutTerms.TreeLemmas.{list_of-trees_of}
use Rattle.disc_tree.specs.declared.label.Label.{Label}
use Rattle.disc_tree.specs.declared.label.Label.TheVariants.{Star, Symbol}
use Rattle.disc_tree.specs.declared.node.Below.{Below}
use Rattle.disc_tree.specs.declared.node.Below.TheVariants.{Single}
use Rattle.disc_tree.specs.declared.tail.Tail.{Tail}
use Rattle.disc_tree.specs.Children.{rows_below}
use Rattle.disc_tree.specs.Path.{head, arguments, fits, same_label}
use Rattle.disc_tree.specs.Entries.{IsIn}
use Rattle.disc_tree.specs.Rows.{Row, all_at, found_in, numbers_of}
use Rattle.disc_tree.specs.Prefixes.{can_read, reads, AreGround, IsCompatible, HasCompatible, AreDifferent, StaysWithin, VisitsEach}
use Rattle.disc_tree.proofs.AboutPaths.LabelLemmas.{same-label-refl}
use Rattle.disc_tree.proofs.AboutPaths.PrefixLemmas.{tails, in-tails, tails-fit-more, all-ground, ground-append}
use Rattle.disc_tree.proofs.AboutQueries.VisitLemmas.{tails-in, tails-different, tails-longer, read-nothing}
use Rattle.list_lemmas.proofs.Bools.{both-true, and-first, and-second}

-- ---- a symbol of the query against the same label

pub symbol-fits :
    (e q : Bool) (k g f n : ℕ) (ts ms after next us : List Tree) (t : Tree) (l : Label) (labels others : List Label)
    → k ≡ 0 → ts ≡ t ∷ ms → after ≡ ms → t ≡ application g (trees_of us) → next ≡ us ++ after
    → labels ≡ l ∷ others → l ≡ Symbol f n → same_label l (head t) ≡ true
    → fits e q 0 next others ≡ fits e q k ts labels
symbol-fits e q k g f n ts ms after next us t l labels others h i a v m is symbol same =
    let zs : List Tree = list_of (trees_of us) ++ ms in
    let next_is : next ≡ zs = m ∙ ap (λ ys. us ++ ys) a ∙ ap (λ ys. ys ++ ms) (sym (list_of-trees_of us)) in
    let test : same_label (Symbol f n) (head (application g (trees_of us))) ≡ true =
    ap (λ j. same_label j (head (application g (trees_of us)))) (sym symbol) ∙ ap (λ u. same_label l (head u)) (sym v) ∙ same in
    ap (λ ys. fits e q 0 ys others) next_is
    ∙ ap (λ b. b && fits e q 0 zs others) (sym test)
    ∙ sym
    (ap (λ j. fits e q j ts labels) h ∙ ap (λ ys. fits e q 0 ys labels) (i ∙ ap (λ u. u ∷ ms) v)
    ∙ ap (λ p. fits e q 0 (application g (trees_of us) ∷ ms) p) (is ∙ ap (λ j. j ∷ others) symbol))

pub symbol-reads :
    (g f n : ℕ) (ts ms after next us : List Tree) (t : Tree) (l : Label) (labels others : List Label)
    → ts ≡ t ∷ ms → after ≡ ms → t ≡ application g (trees_of us) → next ≡ us ++ after
    → labels ≡ l ∷ others → l ≡ Symbol f n → same_label l (head t) ≡ true
    → reads ts labels ≡ suc (reads next others)
symbol-reads g f n ts ms after next us t l labels others i a v m is symbol same =
    let zs : List Tree = list_of (trees_of us) ++ ms in
    let next_is : next ≡ zs = m ∙ ap (λ ys. us ++ ys) a ∙ ap (λ ys. ys ++ ms) (sym (list_of-trees_of us)) in
    let test : same_label (Symbol f n) (head (application g (trees_of us))) ≡ true =
    ap (λ j. same_label j (head (application g (trees_of us)))) (sym symbol) ∙ ap (λ u. same_label l (head u)) (sym v) ∙ same in
    ap (λ ys. reads ys labels) (i ∙ ap (λ u. u ∷ ms) v)
    ∙ ap (λ p. reads (application g (trees_of us) ∷ ms) p) (is ∙ ap (λ j. j ∷ others) symbol)
    ∙ cond-true (same_label (Symbol f n) (head (application g (trees_of us)))) (suc (reads zs others)) 1 test
    ∙ ap (λ ys. suc (reads ys others)) (sym next_is)

pub symbol-ground :
    (g : ℕ) (ts ms after next us : List Tree) (t : Tree)
    → ts ≡ t ∷ ms → after ≡ ms → t ≡ application g (trees_of us) → next ≡ us ++ after → AreGround ts → AreGround next
symbol-ground g ts ms after next us t i a v m ground =
    let terms : AreGround (application g (trees_of us) ∷ ms) = subst (λ zs. AreGround zs) (i ∙ ap (λ u. u ∷ ms) v) ground in
    subst (λ zs. AreGround zs) (sym (m ∙ ap (λ ys. us ++ ys) a)) (ground-append us ms (all-ground us terms.0) terms.1)

-- ---- what is found on a tail

pub all-found :
    (e q : Bool) (k : ℕ) (ts : List Tree) (p : List Label) (xs : List (Tree × ℕ))
    → fits e q k ts p ≡ true → found_in e q k ts (all_at p xs) ≡ numbers_of xs
all-found e q k ts p [] h = refl
all-found e q k ts p (x ∷ xs) h =
    cond-true (fits e q k ts p) (x.1 ∷ found_in e q k ts (all_at p xs)) (found_in e q k ts (all_at p xs)) h
    ∙ ap (λ ns. x.1 ∷ ns) (all-found e q k ts p xs h)

pub none-found :
    (e q : Bool) (k : ℕ) (ts : List Tree) (p : List Label) (xs : List (Tree × ℕ))
    → fits e q k ts p ≡ false → found_in e q k ts (all_at p xs) ≡ []
none-found e q k ts p [] h = refl
none-found e q k ts p (x ∷ xs) h =
    cond-false (fits e q k ts p) (x.1 ∷ found_in e q k ts (all_at p xs)) (found_in e q k ts (all_at p xs)) h
    ∙ none-found e q k ts p xs h

-- ---- how many reads a tail takes

pub in-all-at : (p : List Label) (r : Row) (xs : List (Tree × ℕ)) → IsIn r (all_at p xs) → r.0 ≡ p
in-all-at p r [] h = absurd h
in-all-at p r (x ∷ xs) h = ⊎_elim (λ e. ap (λ (s : Row). s.0) e) (λ later. in-all-at p r xs later) h

-- the paths of a tail without their first label
behind-first :
    (l : Label) (p q more : List Label) (xs : List (Tree × ℕ)) (r : Row)
    → IsIn r (all_at p xs) → (s : Row) × IsIn s (all_at (l ∷ p) xs) × (s.0 ≡ l ∷ p)
behind-first l p q more [] r h = absurd h
behind-first l p q more (x ∷ xs) r h = ((l ∷ p, x), inl refl, refl)

after-first :
    (l : Label) (p : List Label) (xs : List (Tree × ℕ)) (r : Row)
    → IsIn r (all_at (l ∷ p) xs) → (s : Row) × IsIn s (all_at p xs) × (s.0 ≡ p)
after-first l p [] r h = absurd h
after-first l p (x ∷ xs) r h = ((p, x), inl refl, refl)

compatible-behind :
    (ts us : List Tree) (l : Label) (p q : List Label) (xs : List (Tree × ℕ))
    → (can_read us q ≡ true → can_read ts (l ∷ q) ≡ true)
    → IsCompatible us (all_at p xs) q → IsCompatible ts (all_at (l ∷ p) xs) (l ∷ q)
compatible-behind ts us l p q xs read c =
    let found : (s : Row) × IsIn s (all_at (l ∷ p) xs) × (s.0 ≡ l ∷ p) = behind-first l p q c.more xs c.row c.is_in in
    record {
      row = found.0;
      more = c.more;
      is_in = found.1;
      begins = found.2 ∙ ap (λ z. l ∷ z) (sym (in-all-at p c.row xs c.is_in) ∙ c.begins);
      is_read = read c.is_read;
    }

empty-compatible :
    (ts : List Tree) (p : List Label) (xs : List (Tree × ℕ)) → 1 ≤ length xs → IsCompatible ts (all_at p xs) []
empty-compatible ts p [] some = absurd (omega (arith, some))
empty-compatible ts p (x ∷ xs) some = record { row = (p, x); more = p; is_in = inl refl; begins = refl; is_read = refl }

-- where a label is read, the rest of the tail is read too
has-behind :
    (ts us : List Tree) (l : Label) (p : List Label) (xs : List (Tree × ℕ)) (ps : List (List Label))
    → ((q : List Label) → can_read us q ≡ true → can_read ts (l ∷ q) ≡ true)
    → HasCompatible ts (all_at (l ∷ p) xs) ps → HasCompatible us (all_at p xs) (tails l ps)
has-behind ts us l p xs ps read has q c =
    in-tails l q ps (has (l ∷ q) (compatible-behind ts us l p q xs (read q) c))

pub reads-most :
    (ts : List Tree) (p : List Label) (xs : List (Tree × ℕ)) (ps : List (List Label))
    → 1 ≤ length xs → IsIn [] ps → HasCompatible ts (all_at p xs) ps → reads ts p ≤ length ps
reads-most ts [] xs ps some empty has = has-one ps empty
  where
    has-one : (qs : List (List Label)) → IsIn [] qs → 1 ≤ length qs
    has-one [] h = absurd h
    has-one (q ∷ qs) h = omega arith
reads-most [] (l ∷ p) xs ps some empty has = has-one ps empty
  where
    has-one : (qs : List (List Label)) → IsIn [] qs → 1 ≤ length qs
    has-one [] h = absurd h
    has-one (q ∷ qs) h = omega arith
reads-most (t ∷ ts) (Star ∷ p) xs ps some empty has =
    let later : HasCompatible ts (all_at p xs) (tails Star ps) = has-behind (t ∷ ts) ts Star p xs ps (λ q h. h) has in
    omega (
      arith,
      reads-most ts p xs (tails Star ps) some (later [] (empty-compatible ts p xs some)) later,
      tails-fit-more 0 0 ps empty,
    )
reads-most (t ∷ ts) (Symbol f n ∷ p) xs ps some empty has =
    ⊎_elim
    (λ same.
    let us : List Tree = arguments t ++ ts in
    let later : HasCompatible us (all_at p xs) (tails (Symbol f n) ps) =
    has-behind (t ∷ ts) us (Symbol f n) p xs ps (λ q h. both-true (same_label (Symbol f n) (head t)) (can_read us q) same h) has in
    omega (
      arith,
      cond-true (same_label (Symbol f n) (head t)) (suc (reads us p)) 1 same,
      reads-most us p xs (tails (Symbol f n) ps) some (later [] (empty-compatible us p xs some)) later,
      tails-fit-more f n ps empty,
    ))
    (λ other.
    omega (
      arith,
      cond-false (same_label (Symbol f n) (head t)) (suc (reads (arguments t ++ ts) p)) 1 other,
      tails-fit-more f n ps empty,
    ))
    (cases_Bool (same_label (Symbol f n) (head t)))

-- each path of a list that isn't empty begins with the label
abbrev BeginWith : Label → List (List Label) → Type 0
BeginWith l ps = (k : Label) (p : List Label) → IsIn (k ∷ p) ps → same_label k l ≡ true

tails-cover-one :
    (l : Label) (ps : List (List Label)) → BeginWith l ps → (IsIn [] ps → ⊥) → length ps ≤ length (tails l ps)
tails-cover-one l [] begin none = omega arith
tails-cover-one l ([] ∷ ps) begin none = absurd (none (inl refl))
tails-cover-one l ((k ∷ p) ∷ ps) begin none =
    omega (
      arith,
      tails-longer l k p ps (begin k p (inl refl)),
      tails-cover-one l ps (λ j q later. begin j q (inr later)) (λ later. none (inr later)),
    )

tails-cover-one-more :
    (l : Label) (ps : List (List Label)) → AreDifferent ps → BeginWith l ps → length ps ≤ 1 + length (tails l ps)
tails-cover-one-more l [] d begin = omega arith
tails-cover-one-more l ([] ∷ ps) d begin = omega (arith, tails-cover-one l ps (λ j q later. begin j q (inr later)) d.0)
tails-cover-one-more l ((k ∷ p) ∷ ps) d begin =
    omega (
      arith,
      tails-longer l k p ps (begin k p (inl refl)),
      tails-cover-one-more l ps d.1 (λ j q later. begin j q (inr later)),
    )

-- a list in which each path is the empty one
only-empty : (ps : List (List Label)) → AreDifferent ps → ((p : List Label) → IsIn p ps → p ≡ []) → length ps ≤ 1
only-empty [] d all = omega arith
only-empty (p ∷ []) d all = omega arith
only-empty (p ∷ q ∷ ps) d all = absurd (d.0 (inl (all p (inl refl) ∙ sym (all q (inr (inl refl))))))

-- the paths of a list are empty or compatible
abbrev AreVisited : List Tree → List Row → List (List Label) → Type 0
AreVisited ts rs ps = (p : List Label) → IsIn p ps → (p ≡ []) ⊎ IsCompatible ts rs p

begins-tail :
    (ts : List Tree) (l k : Label) (p q : List Label) (xs : List (Tree × ℕ)) (c : IsCompatible ts (all_at (l ∷ p) xs) (k ∷ q))
    → l ∷ p ≡ k ∷ (q ++ c.more)
begins-tail ts l k p q xs c = sym (in-all-at (l ∷ p) c.row xs c.is_in) ∙ c.begins

begins-with :
    (ts : List Tree) (l k : Label) (p q : List Label) (xs : List (Tree × ℕ)) → IsCompatible ts (all_at (l ∷ p) xs) (k ∷ q) → l ≡ k
begins-with ts l k p q xs c =
    let whole : l ∷ p ≡ k ∷ (q ++ c.more) = begins-tail ts l k p q xs c in cc

compatible-after :
    (ts us : List Tree) (l : Label) (p q : List Label) (xs : List (Tree × ℕ))
    → (can_read ts (l ∷ q) ≡ true → can_read us q ≡ true)
    → IsCompatible ts (all_at (l ∷ p) xs) (l ∷ q) → IsCompatible us (all_at p xs) q
compatible-after ts us l p q xs read c =
    let found : (s : Row) × IsIn s (all_at p xs) × (s.0 ≡ p) = after-first l p xs c.row c.is_in in
    let whole : l ∷ p ≡ l ∷ (q ++ c.more) = begins-tail ts l l p q xs c in
    let others : p ≡ q ++ c.more = cc in
    record { row = found.0; more = c.more; is_in = found.1; begins = found.2 ∙ others; is_read = read c.is_read }

visited-behind :
    (ts us : List Tree) (l : Label) (p : List Label) (xs : List (Tree × ℕ)) (ps : List (List Label))
    → ((q : List Label) → can_read ts (l ∷ q) ≡ true → can_read us q ≡ true)
    → AreVisited ts (all_at (l ∷ p) xs) ps → AreVisited us (all_at p xs) (tails l ps)
visited-behind ts us l p xs ps read all q h =
    ⊎_elim (λ e. absurd cc) (λ c. inr (compatible-after ts us l p q xs (read q) c)) (all (l ∷ q) (tails-in l q ps h))

begin-with :
    (ts : List Tree) (l : Label) (p : List Label) (xs : List (Tree × ℕ)) (ps : List (List Label))
    → AreVisited ts (all_at (l ∷ p) xs) ps → BeginWith l ps
begin-with ts l p xs ps all k q h =
    ⊎_elim (λ e. absurd cc)
    (λ c. subst (λ j. same_label j l ≡ true) (begins-with ts l k p q xs c) (same-label-refl l))
    (all (k ∷ q) h)

empty-at-end : (ts : List Tree) (p : List Label) (xs : List (Tree × ℕ)) → IsCompatible ts (all_at [] xs) p → p ≡ []
empty-at-end ts [] xs c = refl
empty-at-end ts (k ∷ q) xs c =
    let wrong : [] ≡ k ∷ (q ++ c.more) = sym (in-all-at [] c.row xs c.is_in) ∙ c.begins in absurd cc

empty-beside :
    (t : Tree) (ts : List Tree) (f n : ℕ) (p q : List Label) (xs : List (Tree × ℕ))
    → same_label (Symbol f n) (head t) ≡ false → IsCompatible (t ∷ ts) (all_at (Symbol f n ∷ p) xs) q → q ≡ []
empty-beside t ts f n p [] xs other c = refl
empty-beside t ts f n p (k ∷ q) xs other c =
    let read : can_read (t ∷ ts) (Symbol f n ∷ q) ≡ true =
    subst (λ j. can_read (t ∷ ts) (j ∷ q) ≡ true) (sym (begins-with (t ∷ ts) (Symbol f n) k p q xs c)) c.is_read in
    let wrong : true ≡ false =
    sym (and-first (same_label (Symbol f n) (head t)) (can_read (arguments t ++ ts) q) read) ∙ other in absurd cc

pub reads-least :
    (ts : List Tree) (p : List Label) (xs : List (Tree × ℕ)) (ps : List (List Label))
    → AreDifferent ps → AreVisited ts (all_at p xs) ps → length ps ≤ reads ts p
reads-least ts [] xs ps d all =
    only-empty ps d (λ q h. ⊎_elim (λ e. e) (λ c. empty-at-end ts q xs c) (all q h))
reads-least [] (l ∷ p) xs ps d all =
    only-empty ps d (λ q h. ⊎_elim (λ e. e) (λ c. read-nothing q c.is_read) (all q h))
reads-least (t ∷ ts) (Star ∷ p) xs ps d all =
    omega (
      arith,
      tails-cover-one-more Star ps d (begin-with (t ∷ ts) Star p xs ps all),
      reads-least ts p xs (tails Star ps) (tails-different Star ps d)
          (visited-behind (t ∷ ts) ts Star p xs ps (λ q h. h) all),
    )
reads-least (t ∷ ts) (Symbol f n ∷ p) xs ps d all =
    ⊎_elim
    (λ same.
    let us : List Tree = arguments t ++ ts in
    omega (
      arith,
      cond-true (same_label (Symbol f n) (head t)) (suc (reads us p)) 1 same,
      tails-cover-one-more (Symbol f n) ps d (begin-with (t ∷ ts) (Symbol f n) p xs ps all),
      reads-least us p xs (tails (Symbol f n) ps) (tails-different (Symbol f n) ps d)
          (visited-behind (t ∷ ts) us (Symbol f n) p xs ps
          (λ q h. and-second (same_label (Symbol f n) (head t)) (can_read us q) h) all),
    ))
    (λ other.
    omega (
      arith,
      cond-false (same_label (Symbol f n) (head t)) (suc (reads (arguments t ++ ts) p)) 1 other,
      only-empty ps d (λ q h. ⊎_elim (λ e. e) (λ c. empty-beside t ts f n p q xs other c) (all q h)),
    ))
    (cases_Bool (same_label (Symbol f n) (head t)))

-- ---- the two bounds: a step each for the labels that are read and their end, and one for the entries

pub all-at-length : (p : List Label) (xs : List (Tree × ℕ)) → length (all_at p xs) ≡ length xs
all-at-length p [] = refl
all-at-length p (x ∷ xs) = ap suc (all-at-length p xs)

pub tail-stays :
    (ts : List Tree) (p : List Label) (xs : List (Tree × ℕ)) (before after : ℕ)
    → 1 ≤ length (all_at p xs) → after ≤ before + 1 + reads ts p → StaysWithin ts (all_at p xs) before after
tail-stays ts p xs before after some h ps empty has =
    omega (arith, h, has-one ps empty, reads-most ts p xs ps (omega (arith, some, all-at-length p xs)) empty has)
  where
    has-one : (qs : List (List Label)) → IsIn [] qs → 1 ≤ length qs
    has-one [] h = absurd h
    has-one (q ∷ qs) h = omega arith

pub tail-visits :
    (ts : List Tree) (p : List Label) (xs : List (Tree × ℕ)) (before after : ℕ)
    → before + reads ts p ≤ after → VisitsEach ts (all_at p xs) before after
tail-visits ts p xs before after h ps d all = omega (arith, h, reads-least ts p xs ps d all)

pub stays-below :
    (d : Below) (t : Tail) (p : List Label) (ts : List Tree) (before after : ℕ)
    → d ≡ Single t → p ≡ t.labels.items → 1 ≤ length (rows_below d) → after ≤ before + 1 + reads ts p → StaysWithin ts (rows_below d) before after
stays-below d t p ts before after is same some h =
    subst (λ (x : Below). StaysWithin ts (rows_below x) before after) (sym is)
    (tail-stays ts t.labels.items t.entries before after (subst (λ (x : Below). 1 ≤ length (rows_below x)) is some)
    (subst (λ (q : List Label). after ≤ before + 1 + reads ts q) same h))

pub visits-below :
    (d : Below) (t : Tail) (p : List Label) (ts : List Tree) (before after : ℕ)
    → d ≡ Single t → p ≡ t.labels.items → before + reads ts p ≤ after → VisitsEach ts (rows_below d) before after
visits-below d t p ts before after is same h =
    subst (λ (x : Below). VisitsEach ts (rows_below x) before after) (sym is)
    (tail-visits ts t.labels.items t.entries before after (subst (λ (q : List Label). before + reads ts q ≤ after) same h))
