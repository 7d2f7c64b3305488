-- Classes of cells, as they are joined.
use Rattle.std.proofs.Common.{◌≡◌, ◌⊎◌, inl, inr, ℕ, zero, suc, ◌+◌, ◌-◌, ◌<◌, ◌≤◌, Bool, true, false, List, [], ◌∷◌, ◌++◌, length, get_or, set, refl, ap, sym, ◌∙◌, subst, ⊎_elim, arith}
use Rattle.std.specs.Prelude.{MatchBool}
use Rattle.std.proofs.lemmas.Bool.{cases_lt}
use Rattle.std.proofs.lemmas.Grind.{get_or_default_zero}
use Rattle.std.proofs.lemmas.List.{length-set, set-get_or, get_or-set_same, get_or-set_other, length-append}
use Rattle.std.proofs.Math.ListN.{get_or-append}
use Rattle.std.proofs.Math.Seq.{get_or-append_seam}
use Rattle.unifier.specs.declared.cells.Cell.{Cell}
use Rattle.unifier.specs.declared.cells.Relation.TheVariants.{Clash, Parts}
use Rattle.unifier.specs.declared.classes.Classes.{Classes}
use Rattle.unifier.specs.Cells.{Value, cell_at, relate}
use Rattle.unifier.specs.Classes.{parent, schema, total, AreClasses, IsConstantOn, Follows, IsRefuted, IsFlat, IsClosedAt, IsOnTheWay, HasFound, IsLinked, PartsAgree}

pub when-true : (test : Bool) (A B : Type 0) → MatchBool test A B → test ≡ true → A
when-true true A B h e = h
when-true false A B h e = cc

pub when-false : (test : Bool) (A B : Type 0) → MatchBool test A B → test ≡ false → B
when-false true A B h e = cc
when-false false A B h e = h

-- ---- lists of numbers

pub eq_or : (i j : ℕ) → (i ≡ j) ⊎ (i ≡ j → ⊥)
eq_or i j =
    ⊎_elim
    (λ less. inr (λ e. omega arith))
    (λ ge. ⊎_elim (λ less. inr (λ e. omega arith)) (λ le. inl (omega arith)) (cases_lt j i))
    (cases_lt i j)

-- an item of a list in which one was exchanged
pub set-read :
    {X : Type 0} (P : X → Type 0) (xs new : List X) (i : ℕ) (y : X) (j : ℕ) (d : X)
    → new ≡ set xs i y → i < length xs → (j ≡ i → P y) → ((j ≡ i → ⊥) → P (get_or xs j d)) → P (get_or new j d)
set-read P xs new i y j d e h same other =
    subst (λ ys. P (get_or ys j d)) (sym e)
    (⊎_elim
    (λ is. subst P (sym (ap (λ k. get_or (set xs i y) k d) is ∙ get_or-set_same xs i y d h)) (same is))
    (λ differs. subst P (sym (get_or-set_other xs i j y d differs)) (other differs))
    (eq_or j i))

pub others-stay :
    (xs new : List ℕ) (i y j : ℕ)
    → new ≡ set xs i y → i < length xs → (j ≡ i → ⊥) → get_or new j 0 ≡ get_or xs j 0
others-stay xs new i y j e h differs =
    set-read (λ v. v ≡ get_or xs j 0) xs new i y j 0 e h (λ same. absurd (differs same)) (λ _. refl)

total-set : (xs : List ℕ) (i y : ℕ) → i < length xs → total (set xs i y) + get_or xs i 0 ≡ total xs + y
total-set [] i y h = absurd (omega arith)
total-set (x ∷ xs) zero y h = omega arith
total-set (x ∷ xs) (suc i) y h = omega (arith, total-set xs i y (omega arith))

pub total-put : (xs new : List ℕ) (i y : ℕ) → new ≡ set xs i y → i < length xs → total new + get_or xs i 0 ≡ total xs + y
total-put xs new i y e h = ap (λ ys. total ys + get_or xs i 0) e ∙ total-set xs i y h

pub length-put : {X : Type 0} (xs new : List X) (i : ℕ) (y : X) → new ≡ set xs i y → length new ≡ length xs
length-put xs new i y e = ap length e ∙ length-set xs i y

-- the numbers from 0 on
abbrev pub IsIdentity : List ℕ → ℕ → Type 0
IsIdentity xs n = (length xs ≡ n) × ((j : ℕ) → j < n → get_or xs j 0 ≡ j)

pub identity-push : (xs new : List ℕ) (n : ℕ) → IsIdentity xs n → new ≡ xs ++ n ∷ [] → IsIdentity new (n + 1)
identity-push xs new n h e = (
  ap length e ∙ omega (arith, length-append xs (n ∷ []), h.0),
  λ j less.
      ap (λ ys. get_or ys j 0) e
      ∙ ⊎_elim
      (λ front. get_or-append xs (n ∷ []) 0 j (omega (arith, h.0)) ∙ h.1 j front)
      (λ back.
      let last : j ≡ length xs = omega (arith, h.0) in
      ap (λ k. get_or (xs ++ n ∷ []) k 0) last ∙ get_or-append_seam xs n [] 0 ∙ sym h.0 ∙ sym last)
      (cases_lt j n),
)

pub discrete-classes : (n : ℕ) (c : Classes) → IsIdentity c.parents.items n → IsIdentity c.schemas.items n → AreClasses n c
discrete-classes n c p s = record {
  parents = p.0;
  schemas = s.0;
  down = λ i h. omega (arith, p.1 i h);
  inside = λ i h. omega (arith, s.1 i h);
}

-- ---- a class below a smaller one

pub linked :
    (n : ℕ) (old new : Classes) (low high s : ℕ)
    → AreClasses n old → low < high → high < n → parent old high ≡ high
    → new.parents.items ≡ set old.parents.items high low → new.schemas.items ≡ set old.schemas.items low s
    → (s ≡ schema old low) ⊎ (s ≡ schema old high) → IsLinked n old new low high
linked n old new low high s h less inside smallest pe se which =
    let ps : List ℕ = old.parents.items in
    let ss : List ℕ = old.schemas.items in
    let in_ps : high < length ps = omega (arith, h.parents) in
    let in_ss : low < length ss = omega (arith, h.schemas) in
    let low_in : low < n = omega arith in
    let P : ℕ → Type 0 = λ v. v < n in
    let s_in : s < n = ⊎_elim (λ e. subst P (sym e) (h.inside low low_in)) (λ e. subst P (sym e) (h.inside high inside)) which in
    let at_high : parent new high ≡ low = set-read (λ v. v ≡ low) ps new.parents.items high low high 0 pe in_ps (λ e. refl) (λ differs. absurd (differs refl)) in
    record {
      classes = record {
        parents = length-put ps new.parents.items high low pe ∙ h.parents;
        schemas = length-put ss new.schemas.items low s se ∙ h.schemas;
        down = λ i i_in.
            let Q : ℕ → Type 0 = λ v. v ≤ i in
            set-read Q ps new.parents.items high low i 0 pe in_ps (λ e. omega arith) (λ _. h.down i i_in);
        inside = λ i i_in. set-read P ss new.schemas.items low s i 0 se in_ss (λ e. s_in) (λ _. h.inside i i_in);
      };
      sound = λ f constant same i i_in.
          let Q : ℕ → Type 0 = λ v. f v ≡ f i in (
            set-read Q ps new.parents.items high low i 0 pe in_ps (λ e. same ∙ ap f (sym e)) (λ _. (constant i i_in).0),
            set-read Q ss new.schemas.items low s i 0 se in_ss
                (λ e.
                ⊎_elim
                (λ is. ap f is ∙ (constant low low_in).1 ∙ ap f (sym e))
                (λ is. ap f is ∙ (constant high inside).1 ∙ sym same ∙ ap f (sym e))
                which)
                (λ _. (constant i i_in).1),
          );
      falls = omega (arith, total-put ps new.parents.items high low pe in_ps, smallest);
      kept = λ f agrees i i_in.
          ⊎_elim
          (λ e. ap (λ k. f (parent old k)) e ∙ ap f smallest ∙ ap f (sym e))
          (λ differs. ap f (sym (others-stay ps new.parents.items high low i pe in_ps differs)) ∙ agrees i i_in)
          (eq_or i high);
      together = λ f agrees. ap f (sym at_high) ∙ agrees high inside;
    }

-- nothing changes where an item is put in its own place
pub set-itself : (xs : List ℕ) (i : ℕ) → xs ≡ set xs i (get_or xs i 0)
set-itself xs i = sym (set-get_or xs i 0)

-- a number that was read from a list
pub read : (xs : List ℕ) (i x : ℕ) → i < length xs → x ≡ get_or xs i x → x ≡ get_or xs i 0
read xs i x h e = e ∙ get_or_default_zero xs i x h

-- ---- the way up

pub one-up :
    (c : Classes) (cell at up : ℕ)
    → AreClasses (length c.parents.items) c → at < length c.parents.items → up ≡ parent c at
    → IsOnTheWay c cell at → IsOnTheWay c cell up
one-up c cell at up h inside e way = record {
  below = omega (arith, way.below, h.down at inside);
  same = λ f constant. ap f e ∙ constant at inside ∙ way.same f constant;
  flat = λ flat. ap (parent c) e ∙ flat at inside ∙ way.flat flat;
}

-- the smallest cells of two classes that have one value
pub found-meet :
    (n : ℕ) (c : Classes) (first second a b : ℕ) (f : ℕ → Value)
    → AreClasses n c → HasFound c first a → HasFound c second b → IsConstantOn n c f → f first ≡ f second → f a ≡ f b
found-meet n c first second a b f h one other constant same =
    let along : (j : ℕ) → j < length c.parents.items → f (parent c j) ≡ f j = λ j less. (constant j (omega (arith, h.parents))).0 in
    one.same f along ∙ same ∙ sym (other.same f along)

-- the schema of a cell's class
pub schema-same :
    (n : ℕ) (c : Classes) (cell root s : ℕ) (f : ℕ → Value)
    → AreClasses n c → HasFound c cell root → root < n → s ≡ schema c root → IsConstantOn n c f → f cell ≡ f s
schema-same n c cell root s f h found inside e constant =
    let along : (j : ℕ) → j < length c.parents.items → f (parent c j) ≡ f j = λ j less. (constant j (omega (arith, h.parents))).0 in
    sym (found.same f along) ∙ sym (constant root inside).1 ∙ ap f (sym e)

-- nothing is joined
pub follows-itself : (cells : List Cell) (c : Classes) → AreClasses (length cells) c → Follows cells c c
follows-itself cells c h = record { classes = h; sound = λ f congruent constant. constant; falls = omega arith }

pub follows-on : (cells : List Cell) (first second third : Classes) → Follows cells first second → Follows cells second third → Follows cells first third
follows-on cells first second third g h = record {
  classes = h.classes;
  sound = λ f congruent constant. h.sound f congruent (g.sound f congruent constant);
  falls = omega (arith, g.falls, h.falls);
}

-- what is refuted later was refuted before
pub refuted-before : (cells : List Cell) (old new : Classes) → Follows cells old new → IsRefuted cells new → IsRefuted cells old
refuted-before cells old new g h = record {
  first = h.first;
  second = h.second;
  first_inside = h.first_inside;
  second_inside = h.second_inside;
  clash = h.clash;
  forced = λ f congruent constant. h.forced f congruent (g.sound f congruent constant);
}

pub fell : (X : Type 0) (r : Bool) (old new : Classes) → MatchBool r (total new.parents.items < total old.parents.items) ((new ≡ old) × X) → total new.parents.items ≤ total old.parents.items
fell X true old new h = omega arith
fell X false old new h = let P : Classes → Type 0 = λ c. total new.parents.items ≤ total c.parents.items in subst P h.0 (omega arith)

-- two joins, one after the other, of the parts of a cell and of its class's schema
pub both-joined :
    (cells : List Cell) (old mid new : Classes) (cell root s a c b d : ℕ) (X Y : Type 0) (r q : Bool)
    → AreClasses (length cells) old → HasFound old cell root → cell < length cells → s ≡ schema old root
    → Parts a c b d ≡ relate (cell_at cells cell) (cell_at cells s)
    → ((f : ℕ → Value) → IsConstantOn (length cells) old f → f a ≡ f c → IsConstantOn (length cells) mid f)
    → ((f : ℕ → Value) → IsConstantOn (length cells) mid f → f b ≡ f d → IsConstantOn (length cells) new f)
    → AreClasses (length cells) new
    → MatchBool r (total mid.parents.items < total old.parents.items) ((mid ≡ old) × X)
    → MatchBool q (total new.parents.items < total mid.parents.items) ((new ≡ mid) × Y)
    → Follows cells old new
both-joined cells old mid new cell root s a c b d X Y r q h found inside e parts first second classes mid_falls new_falls =
    let root_in : root < length cells = omega (arith, found.below) in
    let P : ℕ → Type 0 = λ k. k < length cells in
    let s_in : s < length cells = subst P (sym e) (h.inside root root_in) in
    record {
      classes = classes;
      sound = λ f congruent constant.
          let agree : PartsAgree f (Parts a c b d) =
          subst (PartsAgree f) (sym parts)
          (congruent cell s inside s_in (schema-same (length cells) old cell root s f h found root_in e constant)) in
          second f (first f constant agree.0) agree.1;
      falls = omega (arith, fell X r old mid mid_falls, fell Y q mid new new_falls);
    }

pub step-refuted :
    (cells : List Cell) (old : Classes) (cell root s : ℕ)
    → AreClasses (length cells) old → HasFound old cell root → cell < length cells → s ≡ schema old root
    → Clash ≡ relate (cell_at cells cell) (cell_at cells s) → IsRefuted cells old
step-refuted cells old cell root s h found inside e clash =
    let root_in : root < length cells = omega (arith, found.below) in
    let P : ℕ → Type 0 = λ k. k < length cells in
    record {
      first = cell;
      second = s;
      first_inside = inside;
      second_inside = subst P (sym e) (h.inside root root_in);
      clash = sym clash;
      forced = λ f congruent constant. schema-same (length cells) old cell root s f h found root_in e constant;
    }

-- ---- a round

-- how far a round has come down
abbrev pub RoundSoFar : List Cell → Classes → Classes → ℕ → Bool → Type 0
RoundSoFar cells old new from joined =
    MatchBool joined (total new.parents.items < total old.parents.items)
    ((new ≡ old) × (IsFlat (length cells) old → (i : ℕ) → from ≤ i → i < length cells → IsClosedAt cells old i))

pub round-joined :
    (cells : List Cell) (old mid new : Classes) (from next : ℕ) (joined : Bool)
    → RoundSoFar cells old mid from joined → total new.parents.items < total mid.parents.items → RoundSoFar cells old new next true
round-joined cells old mid new from next true h less = omega arith
round-joined cells old mid new from next false h less =
    let P : Classes → Type 0 = λ c. total new.parents.items < total c.parents.items in
    subst P h.0 less

pub round-unchanged :
    (cells : List Cell) (old mid new : Classes) (from : ℕ) (joined : Bool)
    → 0 < from → RoundSoFar cells old mid from joined
    → (new ≡ mid) × (IsFlat (length cells) mid → IsClosedAt cells mid (from - 1)) → RoundSoFar cells old new (from - 1) joined
round-unchanged cells old mid new from true pos h step =
    let P : Classes → Type 0 = λ c. total c.parents.items < total old.parents.items in
    subst P (sym step.0) h
round-unchanged cells old mid new from false pos h step = (
  step.0 ∙ h.0,
  λ flat i le inside.
      ⊎_elim
      (λ less. h.1 flat i (omega arith) inside)
      (λ ge.
      let here : from - 1 ≡ i = omega arith in
      let P : Classes → Type 0 = λ c. IsFlat (length cells) c → IsClosedAt cells c (from - 1) in
      subst (IsClosedAt cells old) here (subst P h.0 step.1 flat))
      (cases_lt (from - 1) i),
)
