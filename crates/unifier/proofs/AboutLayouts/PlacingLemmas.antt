-- Classes in an order in which parts come first.
use Rattle.std.proofs.Common.{◌≡◌, ℕ, zero, suc, ◌+◌, ◌<◌, ◌≤◌, Bool, true, false, Option, None, Some, List, [], ◌∷◌, ◌++◌, length, get_or, set, replicate, refl, ap, sym, ◌∙◌, subst, ⊎_elim, arith}
use Rattle.std.specs.Prelude.{MatchBool, All}
use Rattle.std.proofs.lemmas.List.Elements.{All-append, All-nil, All-from_recursion, All-pop}
use Rattle.unifier.specs.declared.placing.Visit.{Visit}
use Rattle.std.proofs.lemmas.Bool.{cases_lt}
use Rattle.std.specs.Option.{is_some}
use Rattle.std.proofs.lemmas.List.{length-append, get_or_default}
use Rattle.unifier.specs.declared.cells.Cell.{Cell}
use Rattle.unifier.specs.declared.cells.Cell.TheVariants.{Variable, Application, NoTrees, TreeThen}
use Rattle.unifier.specs.declared.classes.Classes.{Classes}
use Rattle.unifier.specs.declared.placing.Placing.{Placing}
use Rattle.unifier.specs.declared.placing.Sweep.TheVariants.{Stuck}
use Rattle.unifier.specs.declared.placing.Visit.TheVariants.{Placed, Waiting, Kept}
use Rattle.unifier.specs.Cells.{cell_at, AreOrdered, IsAfterParts}
use Rattle.unifier.specs.Classes.{parent, schema, AreClasses}
use Rattle.unifier.specs.Placing.{place, IsPlacedAs, Waits, HasPlace, IsPlacing, waiting, IsPlaced, PartsInside, parts_of, AddsParts, VisitDone, SweepDone, IsOrdering}
use Rattle.unifier.proofs.AboutLayouts.LayoutLemmas.{ordered-push, cell_at-front, cell_at-last}
use Rattle.unifier.proofs.AboutClasses.ClassLemmas.{set-read, length-put, eq_or}

-- ---- places to look up

parts-inside : (n : ℕ) (c : Classes) (p : Placing) (s : ℕ) (x : Cell) → AreClasses n c → length p.places.items ≡ n → s < n → IsAfterParts s x → PartsInside c p x
parts-inside n c p s (Variable w) h len less after = tt
parts-inside n c p s (Application f l) h len less after = (omega (arith, h.parents, after), omega (arith, after, h.down l (omega (arith, after))))
parts-inside n c p s NoTrees h len less after = tt
parts-inside n c p s (TreeThen a b) h len less after = (
  (omega (arith, h.parents, after.0), omega (arith, after.0, h.down a (omega (arith, after.0)))),
  (omega (arith, h.parents, after.1), omega (arith, after.1, h.down b (omega (arith, after.1)))),
)

pub schema-parts :
    (cells : List Cell) (c : Classes) (p : Placing) (i s : ℕ)
    → AreClasses (length cells) c → AreOrdered cells → IsPlacing cells c p → i < length cells → s ≡ schema c i
    → PartsInside c p (cell_at cells s)
schema-parts cells c p i s h ordered placing inside e =
    let P : ℕ → Type 0 = λ k. k < length cells in
    let s_in : s < length cells = subst P (sym e) (h.inside i inside) in
    parts-inside (length cells) c p s (cell_at cells s) h placing.places s_in (ordered s s_in)

-- ---- one more place

waiting-set : (os : List (Option ℕ)) (i k : ℕ) → i < length os → get_or os i None ≡ None → waiting (set os i (Some k)) < waiting os
waiting-set [] i k h none = absurd (omega arith)
waiting-set (None ∷ os) zero k h none = omega arith
waiting-set (Some m ∷ os) zero k h none = cc
waiting-set (None ∷ os) (suc i) k h none = omega (arith, waiting-set os i k (omega arith) none)
waiting-set (Some m ∷ os) (suc i) k h none = waiting-set os i k (omega arith) none

placed-kept : (c : Classes) (old new : Placing) → ((m k : ℕ) → place old m ≡ Some k → place new m ≡ Some k) → (x q : Cell) → IsPlacedAs c old x q → IsPlacedAs c new x q
placed-kept c old new keep (Variable w) q h = h
placed-kept c old new keep (Application f l) q h = (h.0, keep (parent c l) h.0 h.1, h.2)
placed-kept c old new keep NoTrees q h = h
placed-kept c old new keep (TreeThen a b) q h = (h.0, h.1, keep (parent c a) h.0 h.2, keep (parent c b) h.1 h.3, h.4)

node-after :
    (cells : List Cell) (c : Classes) (p : Placing) (x q : Cell)
    → IsPlacing cells c p → PartsInside c p x → IsPlacedAs c p x q → IsAfterParts (length p.cells.items) q
node-after cells c p (Variable w) q h inside is = subst (IsAfterParts (length p.cells.items)) (sym is) tt
node-after cells c p (Application f l) q h inside is =
    subst (IsAfterParts (length p.cells.items)) (sym is.2) (h.placed (parent c l) is.0 (omega (arith, inside.1, h.places)) is.1).inside
node-after cells c p NoTrees q h inside is = subst (IsAfterParts (length p.cells.items)) (sym is) tt
node-after cells c p (TreeThen a b) q h inside is =
    subst (IsAfterParts (length p.cells.items)) (sym is.4) (
      (h.placed (parent c a) is.0 (omega (arith, inside.0.1, h.places)) is.2).inside,
      (h.placed (parent c b) is.1 (omega (arith, inside.1.1, h.places)) is.3).inside,
    )

pub record NextPlace (cells : List Cell) (c : Classes) (old : Placing) (new : Placing) (i : ℕ) (node : Cell) : Type 0 where
  pub before : IsPlacing cells c old
  pub inside : i < length cells
  pub smallest : parent c i ≡ i
  pub none : place old i ≡ None
  pub parts : PartsInside c old (cell_at cells (schema c i))
  pub is : IsPlacedAs c old (cell_at cells (schema c i)) node
  pub new_cells : new.cells.items ≡ old.cells.items ++ node ∷ []
  pub new_places : new.places.items ≡ set old.places.items i (Some (length old.cells.items))

next-kept :
    (cells : List Cell) (c : Classes) (old new : Placing) (i : ℕ) (node : Cell)
    → NextPlace cells c old new i node → (m k : ℕ) → place old m ≡ Some k → place new m ≡ Some k
next-kept cells c old new i node h m k found =
    let P : Option ℕ → Type 0 = λ o. o ≡ Some k in
    set-read P old.places.items new.places.items i (Some (length old.cells.items)) m None h.new_places (omega (arith, h.inside, h.before.places))
    (λ e. let wrong : None ≡ Some k = sym (ap (place old) e ∙ h.none) ∙ found in absurd cc)
    (λ _. found)

next-here :
    (cells : List Cell) (c : Classes) (old new : Placing) (i : ℕ) (node : Cell)
    → NextPlace cells c old new i node → place new i ≡ Some (length old.cells.items)
next-here cells c old new i node h =
    let P : Option ℕ → Type 0 = λ o. o ≡ Some (length old.cells.items) in
    set-read P old.places.items new.places.items i (Some (length old.cells.items)) i None h.new_places (omega (arith, h.inside, h.before.places))
    (λ e. refl) (λ differs. absurd (differs refl))

length-one : (cs : List Cell) (q : Cell) → length (cs ++ q ∷ []) ≡ length cs + 1
length-one cs q = length-append cs (q ∷ [])

pub placing-next :
    (cells : List Cell) (c : Classes) (old new : Placing) (i : ℕ) (node : Cell)
    → NextPlace cells c old new i node → IsPlacing cells c new
placing-next cells c old new i node h =
    let cs : List Cell = old.cells.items in
    let n : ℕ = length cs in
    let keep = next-kept cells c old new i node h in
    let longer : length new.cells.items ≡ n + 1 = ap length h.new_cells ∙ length-one cs node in
    record {
      places = length-put old.places.items new.places.items i (Some n) h.new_places ∙ h.before.places;
      ordered = subst AreOrdered (sym h.new_cells) (ordered-push cs node h.before.ordered (node-after cells c old (cell_at cells (schema c i)) node h.before h.parts h.is));
      placed = λ j k less found.
          let P : Option ℕ → Type 0 = λ o. o ≡ Some k → HasPlace cells c new j k in
          set-read P old.places.items new.places.items i (Some n) j None h.new_places (omega (arith, h.inside, h.before.places))
          (λ e same.
          let k_is : n ≡ k = cc in
          record {
            smallest = ap (parent c) e ∙ h.smallest ∙ sym e;
            inside = omega (arith, longer, k_is);
            as_schema =
                let Q : ℕ → ℕ → Type 0 = λ a b. IsPlacedAs c new (cell_at cells (schema c a)) (cell_at new.cells.items b) in
                let here : Q i n =
                subst (IsPlacedAs c new (cell_at cells (schema c i))) (sym (ap (λ ds. cell_at ds n) h.new_cells ∙ cell_at-last cs node))
                (placed-kept c old new keep (cell_at cells (schema c i)) node h.is) in
                subst (λ a. Q a k) (sym e) (subst (Q i) k_is here);
          })
          (λ differs is.
          let there = h.before.placed j k less is in
          record {
            smallest = there.smallest;
            inside = omega (arith, longer, there.inside);
            as_schema =
                subst (IsPlacedAs c new (cell_at cells (schema c j))) (sym (ap (λ ds. cell_at ds k) h.new_cells ∙ cell_at-front cs (node ∷ []) k there.inside))
                (placed-kept c old new keep (cell_at cells (schema c j)) (cell_at cs k) there.as_schema);
          })
          found;
      origin = λ k less.
          ⊎_elim
          (λ before. let there = h.before.origin k before in (there.0, there.1, keep there.0 k there.2))
          (λ ge. let last : n ≡ k = omega (arith, longer) in (i, h.inside, next-here cells c old new i node h ∙ ap Some last))
          (cases_lt k n);
    }

pub visit-placed :
    (cells : List Cell) (c : Classes) (old new : Placing) (i : ℕ) (node : Cell)
    → NextPlace cells c old new i node → VisitDone cells c old new i Placed
visit-placed cells c old new i node h = (
  (length old.cells.items, next-here cells c old new i node h),
  (λ j differs.
      let P : Option ℕ → Type 0 = λ o. o ≡ place old j in
      set-read P old.places.items new.places.items i (Some (length old.cells.items)) j None h.new_places (omega (arith, h.inside, h.before.places))
      (λ e. absurd (differs e)) (λ _. refl)),
  (let P : List (Option ℕ) → Type 0 = λ os. waiting os < waiting old.places.items in
      subst P (sym h.new_places) (waiting-set old.places.items i (length old.cells.items) (omega (arith, h.inside, h.before.places)) h.none)),
)

-- ---- a sweep

-- how far a sweep has come
pub record SweepSoFar (cells : List Cell) (c : Classes) (old : Placing) (new : Placing) (i : ℕ) (placed : Bool) (waits : Bool) : Type 0 where
  pub placing : IsPlacing cells c new
  pub no_more : waiting new.places.items ≤ waiting old.places.items
  pub stuck :
      MatchBool placed (waiting new.places.items < waiting old.places.items)
      ((j : ℕ) → j < i → parent c j ≡ j → place new j ≡ None → Waits c new (cell_at cells (schema c j)))
  pub left :
      MatchBool waits ((j : ℕ) × (j < i) × (parent c j ≡ j) × (place new j ≡ None)) ((j : ℕ) → j < i → parent c j ≡ j → IsPlaced new j)

pub sweep-starts : (cells : List Cell) (c : Classes) (p : Placing) → IsPlacing cells c p → SweepSoFar cells c p p 0 false false
sweep-starts cells c p h = record {
  placing = h;
  no_more = omega arith;
  stuck = λ j less. absurd (omega arith);
  left = λ j less. absurd (omega arith);
}

left-placed :
    (cells : List Cell) (c : Classes) (old new : Placing) (i : ℕ) (waits : Bool)
    → VisitDone cells c old new i Placed
    → MatchBool waits ((j : ℕ) × (j < i) × (parent c j ≡ j) × (place old j ≡ None)) ((j : ℕ) → j < i → parent c j ≡ j → IsPlaced old j)
    → MatchBool waits ((j : ℕ) × (j < i + 1) × (parent c j ≡ j) × (place new j ≡ None)) ((j : ℕ) → j < i + 1 → parent c j ≡ j → IsPlaced new j)
left-placed cells c old new i true done h = (h.0, omega (arith, h.1), h.2, done.1 h.0 (λ e. omega (arith, h.1)) ∙ h.3)
left-placed cells c old new i false done h = λ j less smallest.
    ⊎_elim
    (λ e. subst (IsPlaced new) (sym e) done.0)
    (λ differs. let there = h j (omega arith) smallest in (there.0, done.1 j differs ∙ there.1))
    (eq_or j i)

pub sweep-placed :
    (cells : List Cell) (c : Classes) (old mid new : Placing) (i : ℕ) (placed waits : Bool)
    → SweepSoFar cells c old mid i placed waits → IsPlacing cells c new → VisitDone cells c mid new i Placed
    → SweepSoFar cells c old new (i + 1) true waits
sweep-placed cells c old mid new i placed waits h placing done = record {
  placing = placing;
  no_more = omega (arith, h.no_more, done.2);
  stuck = omega (arith, h.no_more, done.2);
  left = left-placed cells c mid new i waits done h.left;
}

stuck-kept :
    (cells : List Cell) (c : Classes) (old new : Placing) (i : ℕ) (placed : Bool)
    → (parent c i ≡ i → place new i ≡ None → Waits c new (cell_at cells (schema c i)))
    → MatchBool placed (waiting new.places.items < waiting old.places.items)
    ((j : ℕ) → j < i → parent c j ≡ j → place new j ≡ None → Waits c new (cell_at cells (schema c j)))
    → MatchBool placed (waiting new.places.items < waiting old.places.items)
    ((j : ℕ) → j < i + 1 → parent c j ≡ j → place new j ≡ None → Waits c new (cell_at cells (schema c j)))
stuck-kept cells c old new i true here h = h
stuck-kept cells c old new i false here h = λ j less smallest none.
    ⊎_elim
    (λ e.
    let P : ℕ → Type 0 = λ k. parent c k ≡ k → place new k ≡ None → Waits c new (cell_at cells (schema c k)) in
    subst P (sym e) here smallest none)
    (λ differs. h j (omega arith) smallest none)
    (eq_or j i)

sweep-on :
    (cells : List Cell) (c : Classes) (old mid new : Placing) (i : ℕ) (placed waits : Bool)
    → new ≡ mid → SweepSoFar cells c old mid i placed waits → SweepSoFar cells c old new i placed waits
sweep-on cells c old mid new i placed waits e h = let P : Placing → Type 0 = λ p. SweepSoFar cells c old p i placed waits in subst P (sym e) h

pub sweep-waits :
    (cells : List Cell) (c : Classes) (old mid new : Placing) (i : ℕ) (placed waits : Bool)
    → SweepSoFar cells c old mid i placed waits → VisitDone cells c mid new i Waiting → SweepSoFar cells c old new (i + 1) placed true
sweep-waits cells c old mid new i placed waits h done =
    let P : Placing → Type 0 = λ p. SweepSoFar cells c old p (i + 1) placed true in
    subst P (sym done.0)
    (record {
      placing = h.placing;
      no_more = h.no_more;
      stuck = stuck-kept cells c old mid i placed (λ _ _. done.3) h.stuck;
      left = (i, omega arith, done.1, done.2);
    })

left-kept :
    (c : Classes) (p : Placing) (i : ℕ) (waits : Bool)
    → (parent c i ≡ i → IsPlaced p i)
    → MatchBool waits ((j : ℕ) × (j < i) × (parent c j ≡ j) × (place p j ≡ None)) ((j : ℕ) → j < i → parent c j ≡ j → IsPlaced p j)
    → MatchBool waits ((j : ℕ) × (j < i + 1) × (parent c j ≡ j) × (place p j ≡ None)) ((j : ℕ) → j < i + 1 → parent c j ≡ j → IsPlaced p j)
left-kept c p i true here h = (h.0, omega (arith, h.1), h.2, h.3)
left-kept c p i false here h = λ j less smallest.
    ⊎_elim
    (λ e. let P : ℕ → Type 0 = λ k. parent c k ≡ k → IsPlaced p k in subst P (sym e) here smallest)
    (λ differs. h j (omega arith) smallest)
    (eq_or j i)

pub sweep-kept :
    (cells : List Cell) (c : Classes) (old mid new : Placing) (i : ℕ) (placed waits : Bool)
    → SweepSoFar cells c old mid i placed waits → VisitDone cells c mid new i Kept → SweepSoFar cells c old new (i + 1) placed waits
sweep-kept cells c old mid new i placed waits h done =
    let P : Placing → Type 0 = λ p. SweepSoFar cells c old p (i + 1) placed waits in
    subst P (sym done.0)
    (record {
      placing = h.placing;
      no_more = h.no_more;
      stuck = stuck-kept cells c old mid i placed (λ smallest none. let there = done.1 smallest in let wrong : None ≡ Some there.0 = sym none ∙ there.1 in absurd cc) h.stuck;
      left = left-kept c mid i waits done.1 h.left;
    })

-- ---- as the code has them

-- a place that was read
pub place-read : (p : Placing) (i : ℕ) (o : Option ℕ) → i < length p.places.items → o ≡ get_or p.places.items i o → place p i ≡ o
place-read p i o h e = get_or_default p.places.items i None o h ∙ sym e

pub read-some : (p : Placing) (i : ℕ) (o : Option ℕ) → place p i ≡ o → is_some o ≡ true → IsPlaced p i
read-some p i None e h = cc
read-some p i (Some k) e h = (k, e)

pub read-none : (p : Placing) (i : ℕ) (o : Option ℕ) → place p i ≡ o → is_some o ≡ false → place p i ≡ None
read-none p i None e h = e
read-none p i (Some k) e h = cc

pub visit-from :
    (cells : List Cell) (c : Classes) (old new : Placing) (i s k : ℕ) (x node : Cell)
    → AreClasses (length cells) c → AreOrdered cells → IsPlacing cells c old → i < length cells → parent c i ≡ i → place old i ≡ None
    → s ≡ schema c i → x ≡ cell_at cells s → IsPlacedAs c old x node
    → k ≡ length old.cells.items → new.cells.items ≡ old.cells.items ++ node ∷ [] → new.places.items ≡ set old.places.items i (Some k)
    → NextPlace cells c old new i node
visit-from cells c old new i s k x node h ordered placing inside smallest none s_is x_is is k_is new_cells new_places = record {
  before = placing;
  inside = inside;
  smallest = smallest;
  none = none;
  parts = schema-parts cells c old i (schema c i) h ordered placing inside refl;
  is = subst (λ y. IsPlacedAs c old y node) (x_is ∙ ap (cell_at cells) s_is) is;
  new_cells = new_cells;
  new_places = new_places ∙ ap (λ m. set old.places.items i (Some m)) k_is;
}

-- no places yet
none-replicate : (n i : ℕ) → get_or (replicate n (let o : Option ℕ = None in o)) i None ≡ None
none-replicate zero i = refl
none-replicate (suc n) zero = refl
none-replicate (suc n) (suc i) = none-replicate n i

pub placing-starts :
    (cells : List Cell) (c : Classes) (p : Placing) (n : ℕ)
    → p.cells.items ≡ [] → n ≡ length cells → p.places.items ≡ replicate n None → length p.places.items ≡ n → IsPlacing cells c p
placing-starts cells c p n no_cells n_is no_places len = record {
  places = len ∙ n_is;
  ordered = λ i less. let P : List Cell → Type 0 = λ cs. i < length cs in absurd (omega (arith, subst P no_cells less));
  placed = λ i k less found.
      let wrong : None ≡ Some k = sym (ap (λ os. get_or os i None) no_places ∙ none-replicate n i) ∙ found in absurd cc;
  origin = λ k less. let P : List Cell → Type 0 = λ cs. k < length cs in absurd (omega (arith, subst P no_cells less));
}

pub stuck-at-last :
    (cells : List Cell) (c : Classes) (old new : Placing)
    → IsPlacing cells c new → SweepDone cells c old new Stuck → IsOrdering cells c None
stuck-at-last cells c old new h done = (new, h, done.0, done.1)

-- ---- the walk to the parts

pub record IsWalk (cells : List Cell) (c : Classes) (old : Placing) (now : Placing) (due : List ℕ) (entered : List Bool) : Type 0 where
  pub placing : IsPlacing cells c now
  pub falls : waiting now.places.items ≤ waiting old.places.items
  pub below : All (λ i. i < length cells) due
  pub marks : length entered ≡ length cells

-- a visit leaves no more classes waiting
visit-falls :
    (cells : List Cell) (c : Classes) (old new : Placing) (i : ℕ) (v : Visit)
    → VisitDone cells c old new i v → waiting new.places.items ≤ waiting old.places.items
visit-falls cells c old new i Placed h = omega (arith, h.2)
visit-falls cells c old new i Waiting h = let P : Placing → Type 0 = λ p. waiting new.places.items ≤ waiting p.places.items in subst P h.0 (omega arith)
visit-falls cells c old new i Kept h = let P : Placing → Type 0 = λ p. waiting new.places.items ≤ waiting p.places.items in subst P h.0 (omega arith)

pub walk-visits :
    (cells : List Cell) (c : Classes) (old now new : Placing) (i : ℕ) (v : Visit) (due rest : List ℕ) (entered : List Bool)
    → IsWalk cells c old now due entered → due ≡ rest ++ i ∷ [] → IsPlacing cells c new → VisitDone cells c now new i v
    → IsWalk cells c old new rest entered × (i < length cells)
walk-visits cells c old now new i v due rest entered h e placing done =
    let both = All-pop (λ j. j < length cells) due rest (Some i) e h.below in (
      record { placing = placing; falls = omega (arith, h.falls, visit-falls cells c now new i v done); below = both.0; marks = h.marks },
      both.1,
    )

parts-of-below : (n : ℕ) (c : Classes) (x : Cell) → AreClasses n c → IsAfterParts n x → All (λ i. i < n) (parts_of c x)
parts-of-below n c (Variable w) h below = All-nil (λ i. i < n)
parts-of-below n c (Application f l) h below =
    All-from_recursion (λ i. i < n) (parent c l ∷ []) (omega (arith, h.down l below, below), tt)
parts-of-below n c NoTrees h below = All-nil (λ i. i < n)
parts-of-below n c (TreeThen a b) h below =
    All-from_recursion (λ i. i < n) (parent c a ∷ parent c b ∷ [])
    (omega (arith, h.down a below.0, below.0), (omega (arith, h.down b below.1, below.1), tt))

pub below-push : (n : ℕ) (xs new : List ℕ) (i : ℕ) → All (λ j. j < n) xs → i < n → new ≡ xs ++ i ∷ [] → All (λ j. j < n) new
below-push n xs new i h inside e =
    let P : ℕ → Type 0 = λ j. j < n in
    subst (All P) (sym e) (All-append P xs (i ∷ []) h (All-from_recursion P (i ∷ []) (inside, tt)))

pub below-last : (n : ℕ) (xs rest : List ℕ) (i : ℕ) → All (λ j. j < n) xs → xs ≡ rest ++ i ∷ [] → i < n
below-last n xs rest i h e = (All-pop (λ j. j < n) xs rest (Some i) e h).1

after-below : (n s : ℕ) (x : Cell) → s < n → IsAfterParts s x → IsAfterParts n x
after-below n s (Variable w) inside after = tt
after-below n s (Application f l) inside after = omega (arith, after)
after-below n s NoTrees inside after = tt
after-below n s (TreeThen a b) inside after = (omega (arith, after.0), omega (arith, after.1))

pub schema-below :
    (cells : List Cell) (c : Classes) (i s : ℕ)
    → AreClasses (length cells) c → AreOrdered cells → i < length cells → s ≡ schema c i → IsAfterParts (length cells) (cell_at cells s)
schema-below cells c i s h ordered inside e =
    let P : ℕ → Type 0 = λ k. k < length cells in
    let s_in : s < length cells = subst P (sym e) (h.inside i inside) in
    after-below (length cells) s (cell_at cells s) s_in (ordered s s_in)

pub walk-enters :
    (cells : List Cell) (c : Classes) (old now : Placing) (i s : ℕ) (rest again due : List ℕ) (entered marked : List Bool)
    → AreClasses (length cells) c → AreOrdered cells → IsWalk cells c old now rest entered → i < length cells → s ≡ schema c i
    → again ≡ rest ++ i ∷ [] → AddsParts c (cell_at cells s) again due → length marked ≡ length entered → IsWalk cells c old now due marked
walk-enters cells c old now i s rest again due entered marked classes ordered h inside s_is e e₂ marks =
    let P : ℕ → Type 0 = λ j. j < length cells in
    record {
      placing = h.placing;
      falls = h.falls;
      below =
          subst (All P) (sym e₂)
          (All-append P again (parts_of c (cell_at cells s)) (below-push (length cells) rest again i h.below inside e)
          (parts-of-below (length cells) c (cell_at cells s) classes (schema-below cells c i s classes ordered inside s_is)));
      marks = marks ∙ h.marks;
    }
