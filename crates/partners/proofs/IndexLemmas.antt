-- Entries of the trees of sites.
use Rattle.std.proofs.Common.{◌≡◌, ℕ, ◌+◌, ◌/◌, ◌%◌, ◌<◌, ◌≤◌, length, below_more, Bool, true, false, List, [], ◌∷◌, ◌++◌, Some, refl, ap, sym, ◌∙◌, subst, inl, inr, ◌⊎◌, ⊎_elim, arith}
use Rattle.std.specs.Prelude.{if◌then◌else◌, slice_get, Option}
use Rattle.std.proofs.lemmas.Bool.{true≢false}
use Rattle.std.proofs.lemmas.Option.{same_Some, slice_get_within}
use Rattle.fol_base.specs.Tree.{Tree}
use Rattle.fol_base.specs.Clause.{TreeLiteral}
use Rattle.disc_tree.specs.Entries.{IsIn, IsWith, numbers_where, KeepsAll}
use Rattle.disc_tree.proofs.AboutPaths.EntryLemmas.{in-with}
use Rattle.superpose.proofs.AboutLists.ListLemmas.{In}
use Rattle.partners.specs.declared.index.TheConstants.{MOST_SITES}
use Rattle.partners.specs.Index.{AreIndexed, KeepsOthers, site_number}

-- ---- numbers of sites

pub site_number-member : (n m i j : ℕ) → i < MOST_SITES → j < MOST_SITES → site_number n i ≡ site_number m j → n ≡ m
site_number-member n m i j low other h = omega arith

pub member-site_number : (n i : ℕ) → i < MOST_SITES → site_number n i / MOST_SITES ≡ n
member-site_number n i low = omega arith

pub index-site_number : (n i : ℕ) → i < MOST_SITES → site_number n i % MOST_SITES ≡ i
index-site_number n i low = omega arith

-- the member and the index tell the number
pub same-site_number : (c d : ℕ) → c / MOST_SITES ≡ d / MOST_SITES → c % MOST_SITES ≡ d % MOST_SITES → c ≡ d
same-site_number c d h k = omega arith

-- ---- an entry more, or fewer

with-one : {X : Type 0} (x y : X) (front back : List X) → IsIn y (front ++ back) → IsIn y (front ++ x ∷ back)
with-one x y [] back h = inr h
with-one x y (f ∷ front) back h = ⊎_elim (λ e. inl e) (λ later. inr (with-one x y front back later)) h

without-one : {X : Type 0} (x y : X) (front back : List X) → IsIn y (front ++ x ∷ back) → (y ≡ x) ⊎ IsIn y (front ++ back)
without-one x y [] back h = h
without-one x y (f ∷ front) back h =
    ⊎_elim
    (λ e. inr (inl e))
    (λ later. ⊎_elim (λ e. inl e) (λ rest. inr (inr rest)) (without-one x y front back later))
    h

pub put-listed : (u t : Tree) (k n : ℕ) (old new : List (Tree × ℕ)) → u ≡ t → k ≡ n → IsWith (u, k) old new → IsIn (t, n) new
put-listed u t k n old new same is w =
    subst (λ m. IsIn (t, m) new) is (subst (λ (v : Tree). IsIn (v, k) new) same (in-with (u, k) old new w))

pub put-keeps : (x : Tree × ℕ) (old new : List (Tree × ℕ)) → IsWith x old new → KeepsAll old new
put-keeps x old new w = λ y there.
    subst (IsIn y) (sym w.with_it) (with-one x y w.front w.back (subst (IsIn y) w.without there))

-- an entry of a member taken away, or none
pub taken-keeps :
    (number index k : ℕ) (u : Tree) (removed : Bool) (old new : List (Tree × ℕ))
    → index < MOST_SITES → k ≡ site_number number index
    → (removed ≡ true → IsWith (u, k) new old) → (removed ≡ false → new ≡ old)
    → KeepsOthers number old new
taken-keeps number index k u true old new low is with_it same t n i other small there =
    let w : IsWith (u, k) new old = with_it refl in
    ⊎_elim
    (λ e. absurd (other (site_number-member n number i index small low (ap (λ (p : Tree × ℕ). p.1) e ∙ is))))
    (λ rest. subst (IsIn (t, site_number n i)) (sym w.without) rest)
    (without-one (u, k) (t, site_number n i) w.front w.back (subst (IsIn (t, site_number n i)) w.with_it there))
taken-keeps number index k u false old new low is with_it same t n i other small there =
    subst (IsIn (t, site_number n i)) (sym (same refl)) there

pub all-others : (number : ℕ) (old new : List (Tree × ℕ)) → KeepsAll old new → KeepsOthers number old new
all-others number old new h t n i other small there = h (t, site_number n i) there

pub others-then :
    (number : ℕ) (old middle new : List (Tree × ℕ)) → KeepsOthers number old middle → KeepsOthers number middle new → KeepsOthers number old new
others-then number old middle new h k t n i other small there = k t n i other small (h t n i other small there)

-- ---- site after site

-- the sites with an index below a bound are there
abbrev pub AreIndexedBelow :
    {S : Type 0} → (List TreeLiteral → S → Option Tree) → List TreeLiteral → ℕ → List S → ℕ → List (Tree × ℕ) → Type 0
AreIndexedBelow {S} term_in ls number sites bound entries =
    (i : ℕ) → i < bound → (site : S) (t : Tree) → slice_get sites i ≡ Some site → term_in ls site ≡ Some t → IsIn (t, site_number number i) entries

pub one-indexed :
    {S : Type 0} (term_in : List TreeLiteral → S → Option Tree) (ls : List TreeLiteral) (number : ℕ) (sites : List S) (index : ℕ) (site : S)
    (old new : List (Tree × ℕ))
    → slice_get sites index ≡ Some site → KeepsAll old new
    → ((t : Tree) → term_in ls site ≡ Some t → IsIn (t, site_number number index) new)
    → AreIndexedBelow term_in ls number sites index old → AreIndexedBelow term_in ls number sites (index + 1) new
one-indexed {S} term_in ls number sites index site old new at kept put below =
    below_more (λ i. (z : S) (t : Tree) → slice_get sites i ≡ Some z → term_in ls z ≡ Some t → IsIn (t, site_number number i) new) index
    (λ i low z t there term. kept (t, site_number number i) (below i low z t there term))
    (λ z t there term. put t (ap (term_in ls) (same_Some site z (sym at ∙ there)) ∙ term))

pub all-indexed :
    {S : Type 0} (term_in : List TreeLiteral → S → Option Tree) (ls : List TreeLiteral) (number : ℕ) (sites : List S) (bound : ℕ)
    (entries : List (Tree × ℕ))
    → length sites ≤ bound → AreIndexedBelow term_in ls number sites bound entries → AreIndexed term_in ls number sites entries
all-indexed {S} term_in ls number sites bound entries high below i site t there term =
    below i (let low = slice_get_within sites i site there in omega (arith, low)) site t there term

-- ---- what a query answers

found-first :
    (test : Tree → Bool) (e : Tree × ℕ) (es : List (Tree × ℕ)) (t : Tree) (k : ℕ) (b : Bool)
    → test e.0 ≡ b → ((t, k) ≡ e) ⊎ IsIn (t, k) es → test t ≡ true → (IsIn (t, k) es → In k (numbers_where test es))
    → In k (if test e.0 then e.1 ∷ numbers_where test es else numbers_where test es)
found-first test e es t k true is h pass below =
    rw is (⊎_elim (λ same. inl (ap (λ (p : Tree × ℕ). p.1) same)) (λ later. inr (below later)) h)
found-first test e es t k false is h pass below =
    rw is
    (⊎_elim
    (λ same. absurd (true≢false (sym pass ∙ ap (λ (p : Tree × ℕ). test p.0) same ∙ is)))
    (λ later. below later)
    h)

-- the number of each entry that passes the test
pub in-found : (test : Tree → Bool) (es : List (Tree × ℕ)) (t : Tree) (k : ℕ) → IsIn (t, k) es → test t ≡ true → In k (numbers_where test es)
in-found test [] t k h pass = absurd h
in-found test (e ∷ es) t k h pass =
    found-first test e es t k (test e.0) refl h pass (λ later. in-found test es t k later pass)
