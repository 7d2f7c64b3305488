-- Classes that are flattened, get their schemas, and are closed.
use Rattle.std.proofs.Common.{◌≡◌, ◌⊎◌, inl, inr, ℕ, ◌+◌, ◌<◌, ◌≤◌, Bool, true, false, List, length, get_or, set, refl, ap, sym, ◌∙◌, subst, ⊎_elim, arith}
use Rattle.std.specs.Prelude.{MatchBool}
use Rattle.std.proofs.lemmas.Bool.{cases_lt}
use Rattle.std.proofs.lemmas.List.{get_or-set_same}
use Rattle.unifier.specs.declared.cells.Cell.{Cell}
use Rattle.unifier.specs.declared.classes.Classes.{Classes}
use Rattle.unifier.specs.Cells.{Value, cell_at, is_variable}
use Rattle.unifier.specs.Classes.{parent, schema, total, AreClasses, IsConstantOn, Follows, IsRefuted, IsFlat, IsClosedAt, AreSettled, AreClosed, FollowsFrom, CannotFollow, IsFlattened, AgreesWithParents, KeepsJoined}
use Rattle.unifier.proofs.AboutClasses.ClassLemmas.{eq_or, set-read, others-stay, total-put, length-put, fell}

-- ---- a cell below its parent's parent

pub record IsLifted (n : ℕ) (old : Classes) (new : Classes) : Type 0 where
  pub classes : AreClasses n new
  pub sound : (f : ℕ → Value) → IsConstantOn n old f → IsConstantOn n new f
  pub falls : total new.parents.items ≤ total old.parents.items
  pub kept : KeepsJoined n old new

pub lifted :
    (n : ℕ) (old new : Classes) (i up top : ℕ)
    → AreClasses n old → i < n → up ≡ parent old i → top ≡ parent old up
    → new.parents.items ≡ set old.parents.items i top → new.schemas.items ≡ old.schemas.items → IsLifted n old new
lifted n old new i up top h inside up_is top_is pe se =
    let ps : List ℕ = old.parents.items in
    let in_ps : i < length ps = omega (arith, h.parents) in
    let up_le : up ≤ i = omega (arith, h.down i inside) in
    let top_le : top ≤ up = omega (arith, h.down up (omega arith)) in
    let at_i : parent new i ≡ top = set-read (λ v. v ≡ top) ps new.parents.items i top i 0 pe in_ps (λ e. refl) (λ differs. absurd (differs refl)) in
    let step : (f : ℕ → Value) → AgreesWithParents n new f → f up ≡ f i = λ f agrees.
    ⊎_elim
    (λ e. ap f e)
    (λ differs.
    sym (agrees up (omega arith))
    ∙ ap f (others-stay ps new.parents.items i top up pe in_ps differs ∙ sym top_is ∙ sym at_i)
    ∙ agrees i inside)
    (eq_or up i) in
    record {
      classes = record {
        parents = length-put ps new.parents.items i top pe ∙ h.parents;
        schemas = ap length se ∙ h.schemas;
        down = λ j less.
            let Q : ℕ → Type 0 = λ v. v ≤ j in
            set-read Q ps new.parents.items i top j 0 pe in_ps (λ e. omega arith) (λ _. h.down j less);
        inside = λ j less. let P : List ℕ → Type 0 = λ ss. get_or ss j 0 < n in subst P (sym se) (h.inside j less);
      };
      sound = λ f before j less.
          let Q : ℕ → Type 0 = λ v. f v ≡ f j in (
            set-read Q ps new.parents.items i top j 0 pe in_ps
                (λ e. ap f top_is ∙ (before up (omega arith)).0 ∙ ap f up_is ∙ (before i inside).0 ∙ ap f (sym e))
                (λ _. (before j less).0),
            ap (λ ss. f (get_or ss j 0)) se ∙ (before j less).1,
          );
      falls = omega (arith, total-put ps new.parents.items i top pe in_ps, up_is);
      kept = λ f agrees j less.
          ⊎_elim
          (λ e. ap (λ k. f (parent old k)) e ∙ ap f (sym up_is) ∙ step f agrees ∙ ap f (sym e))
          (λ differs. ap f (sym (others-stay ps new.parents.items i top j pe in_ps differs)) ∙ agrees j less)
          (eq_or j i);
    }

-- ---- flattening

pub record IsFlattening (n : ℕ) (old : Classes) (new : Classes) (i : ℕ) : Type 0 where
  pub classes : AreClasses n new
  pub sound : (f : ℕ → Value) → IsConstantOn n old f → IsConstantOn n new f
  pub falls : total new.parents.items ≤ total old.parents.items
  pub so_far : (j : ℕ) → j < i → parent new (parent new j) ≡ parent new j

pub flattening-starts : (n : ℕ) (c : Classes) → AreClasses n c → IsFlattening n c c 0
flattening-starts n c h = record { classes = h; sound = λ f constant. constant; falls = omega arith; so_far = λ j less. absurd (omega arith) }

pub flattening-step :
    (n : ℕ) (old mid new : Classes) (i up top : ℕ)
    → IsFlattening n old mid i → i < n → up ≡ parent mid i → top ≡ parent mid up
    → new.parents.items ≡ set mid.parents.items i top → new.schemas.items ≡ mid.schemas.items → IsFlattening n old new (i + 1)
flattening-step n old mid new i up top h inside up_is top_is pe se =
    let ps : List ℕ = mid.parents.items in
    let in_ps : i < length ps = omega (arith, h.classes.parents) in
    let up_le : up ≤ i = omega (arith, h.classes.down i inside) in
    let top_le : top ≤ up = omega (arith, h.classes.down up (omega arith)) in
    let top_is_top : parent mid top ≡ top =
    ⊎_elim
    (λ less. ap (parent mid) top_is ∙ h.so_far up less ∙ sym top_is)
    (λ ge.
    let up_i : up ≡ i = omega arith in
    let top_i : top ≡ up = top_is ∙ ap (parent mid) up_i ∙ sym up_is in
    ap (parent mid) top_i ∙ sym top_is)
    (cases_lt up i) in
    let new_top : parent new top ≡ top =
    let Q : ℕ → Type 0 = λ v. v ≡ top in
    set-read Q ps new.parents.items i top top 0 pe in_ps (λ e. refl) (λ _. top_is_top) in
    let one : IsLifted n mid new = lifted n mid new i up top h.classes inside up_is top_is pe se in
    record {
      classes = one.classes;
      sound = λ f constant. one.sound f (h.sound f constant);
      falls = omega (arith, h.falls, one.falls);
      so_far = λ j less.
          let Q : ℕ → Type 0 = λ v. parent new v ≡ v in
          set-read Q ps new.parents.items i top j 0 pe in_ps
          (λ e. new_top)
          (λ differs.
          let before : j < i = omega arith in
          let Q₂ : ℕ → Type 0 = λ v. v ≡ parent mid j in
          let le : parent mid j ≤ j = h.classes.down j (omega arith) in
          set-read Q₂ ps new.parents.items i top (parent mid j) 0 pe in_ps
          (λ e. absurd (omega arith))
          (λ _. h.so_far j before));
    }

pub flattened : (n : ℕ) (old new : Classes) (i : ℕ) → n ≤ i → IsFlattening n old new i → IsFlattened n old new
flattened n old new i le h = record { classes = h.classes; sound = h.sound; falls = h.falls; flat = λ j less. h.so_far j (omega arith) }

-- ---- schemas

pub record AreChosen (cells : List Cell) (c : Classes) (i : ℕ) : Type 0 where
  pub classes : AreClasses (length cells) c
  pub flat : IsFlat (length cells) c
  pub own : (j : ℕ) → j < i → parent c (schema c j) ≡ parent c j
  pub telling : (j : ℕ) → j < i → is_variable (cell_at cells j) ≡ false → is_variable (cell_at cells (schema c (parent c j))) ≡ false

pub chosen-starts : (cells : List Cell) (c : Classes) → AreClasses (length cells) c → IsFlat (length cells) c → AreChosen cells c 0
chosen-starts cells c h flat = record { classes = h; flat = flat; own = λ j less. absurd (omega arith); telling = λ j less. absurd (omega arith) }

-- a schema is put in, at a cell of its class that is no further than i
put-schema :
    (cells : List Cell) (old new : Classes) (i at s : ℕ) (which : (i ≡ at) ⊎ (is_variable (cell_at cells s) ≡ false))
    → AreChosen cells old i → i < length cells → at ≤ i → s < length cells → parent old s ≡ parent old at
    → new.parents.items ≡ old.parents.items → new.schemas.items ≡ set old.schemas.items at s → AreChosen cells new i
put-schema cells old new i at s which h inside at_le s_in class pe se =
    let n : ℕ = length cells in
    let ss : List ℕ = old.schemas.items in
    let in_ss : at < length ss = omega (arith, h.classes.schemas) in
    let up : (j : ℕ) → parent new j ≡ parent old j = λ j. ap (λ ps. get_or ps j 0) pe in
    record {
      classes = record {
        parents = ap length pe ∙ h.classes.parents;
        schemas = length-put ss new.schemas.items at s se ∙ h.classes.schemas;
        down = λ j less. omega (arith, up j, h.classes.down j less);
        inside = λ j less.
            let Q : ℕ → Type 0 = λ v. v < n in
            set-read Q ss new.schemas.items at s j 0 se in_ss (λ e. s_in) (λ _. h.classes.inside j less);
      };
      flat = λ j less. up (parent new j) ∙ ap (parent old) (up j) ∙ h.flat j less ∙ sym (up j);
      own = λ j less.
          let Q : ℕ → Type 0 = λ v. parent new v ≡ parent new j in
          set-read Q ss new.schemas.items at s j 0 se in_ss
          (λ e. up s ∙ class ∙ ap (parent old) (sym e) ∙ sym (up j))
          (λ _. up (get_or ss j 0) ∙ h.own j less ∙ sym (up j));
      telling = λ j less tells.
          let Q : ℕ → Type 0 = λ v. is_variable (cell_at cells v) ≡ false in
          let le : parent old j ≤ j = h.classes.down j (omega arith) in
          let P : ℕ → Type 0 = λ k. Q (schema new k) in
          subst P (sym (up j))
          (set-read Q ss new.schemas.items at s (parent old j) 0 se in_ss
          (λ e. ⊎_elim (λ same. absurd (omega arith)) (λ is. is) which)
          (λ _. h.telling j less tells));
    }

one-more-chosen :
    (cells : List Cell) (c : Classes) (i : ℕ)
    → AreChosen cells c i → parent c (schema c i) ≡ parent c i
    → (is_variable (cell_at cells i) ≡ false → is_variable (cell_at cells (schema c (parent c i))) ≡ false) → AreChosen cells c (i + 1)
one-more-chosen cells c i h own telling = record {
  classes = h.classes;
  flat = h.flat;
  own = λ j less.
      ⊎_elim (λ before. h.own j before) (λ ge. let e : j ≡ i = omega arith in let P : ℕ → Type 0 = λ k. parent c (schema c k) ≡ parent c k in subst P (sym e) own) (cases_lt j i);
  telling = λ j less tells.
      ⊎_elim
      (λ before. h.telling j before tells)
      (λ ge.
      let e : j ≡ i = omega arith in
      let P : ℕ → Type 0 = λ k. is_variable (cell_at cells k) ≡ false → is_variable (cell_at cells (schema c (parent c k))) ≡ false in
      subst P (sym e) telling tells)
      (cases_lt j i);
}

read-back : (xs new : List ℕ) (i y : ℕ) → new ≡ set xs i y → i < length xs → get_or new i 0 ≡ y
read-back xs new i y e h = ap (λ ys. get_or ys i 0) e ∙ get_or-set_same xs i y 0 h

pub chosen-variable :
    (cells : List Cell) (old new : Classes) (i : ℕ)
    → AreChosen cells old i → i < length cells → is_variable (cell_at cells i) ≡ true
    → new.parents.items ≡ old.parents.items → new.schemas.items ≡ set old.schemas.items i i → AreChosen cells new (i + 1)
chosen-variable cells old new i h inside variable pe se =
    let mid : AreChosen cells new i = put-schema cells old new i i i (inl refl) h inside (omega arith) inside refl pe se in
    one-more-chosen cells new i mid
    (ap (parent new) (read-back old.schemas.items new.schemas.items i i se (omega (arith, h.classes.schemas))))
    (λ tells. let wrong : true ≡ false = sym variable ∙ tells in absurd cc)

pub chosen-other :
    (cells : List Cell) (old mid new : Classes) (i up : ℕ)
    → AreChosen cells old i → i < length cells → is_variable (cell_at cells i) ≡ false → up ≡ parent mid i
    → mid.parents.items ≡ old.parents.items → mid.schemas.items ≡ set old.schemas.items i i
    → new.parents.items ≡ mid.parents.items → new.schemas.items ≡ set mid.schemas.items up i → AreChosen cells new (i + 1)
chosen-other cells old mid new i up h inside tells up_is pe se pe₂ se₂ =
    let first : AreChosen cells mid i = put-schema cells old mid i i i (inl refl) h inside (omega arith) inside refl pe se in
    let up_le : up ≤ i = omega (arith, first.classes.down i inside) in
    let same_class : parent mid i ≡ parent mid up = sym (ap (parent mid) up_is ∙ first.flat i inside) in
    let second : AreChosen cells new i = put-schema cells mid new i up i (inr tells) first inside up_le inside same_class pe₂ se₂ in
    let ups : (j : ℕ) → parent new j ≡ parent mid j = λ j. ap (λ ps. get_or ps j 0) pe₂ in
    let own_mid : schema mid i ≡ i = read-back old.schemas.items mid.schemas.items i i se (omega (arith, h.classes.schemas)) in
    let Q : ℕ → Type 0 = λ v. parent new v ≡ parent new i in
    let in_ss : up < length mid.schemas.items = omega (arith, first.classes.schemas) in
    one-more-chosen cells new i second
    (set-read Q mid.schemas.items new.schemas.items up i i 0 se₂ in_ss (λ e. refl) (λ _. ap (parent new) own_mid))
    (λ _.
    ap (λ k. is_variable (cell_at cells (schema new k))) (ups i ∙ sym up_is)
    ∙ ap (λ k. is_variable (cell_at cells k)) (read-back mid.schemas.items new.schemas.items up i se₂ in_ss)
    ∙ tells)

pub chosen-settled : (cells : List Cell) (c : Classes) (i : ℕ) → length cells ≤ i → AreChosen cells c i → AreSettled cells c
chosen-settled cells c i le h = record {
  flat = h.flat;
  own = λ j less. h.own j (omega arith);
  telling = λ j less. h.telling j (omega arith);
}

-- flattened, and with schemas of their own
pub settled-follows :
    (cells : List Cell) (old mid new : Classes)
    → IsFlattened (length cells) old mid → AreClasses (length cells) new → new.parents.items ≡ mid.parents.items → AreSettled cells new
    → Follows cells old new
settled-follows cells old mid new h classes pe settled =
    let up : (j : ℕ) → parent new j ≡ parent mid j = λ j. ap (λ ps. get_or ps j 0) pe in
    record {
      classes = classes;
      sound = λ f congruent constant i inside.
          let before : IsConstantOn (length cells) mid f = h.sound f constant in
          let along : (j : ℕ) → j < length cells → f (parent new j) ≡ f j = λ j less. ap f (up j) ∙ (before j less).0 in (
            along i inside,
            sym (along (schema new i) (classes.inside i inside)) ∙ ap f (settled.own i inside) ∙ along i inside,
          );
      falls = omega (arith, h.falls, ap total pe);
    }

-- ---- closing

pub from-itself : (cells : List Cell) (first second : ℕ) (c : Classes) → AreClasses (length cells) c → FollowsFrom cells first second c c
from-itself cells first second c h = record { classes = h; sound = λ f congruent same constant. constant }

-- settled, then the two joined, then a round
pub from-on :
    (cells : List Cell) (first second : ℕ) (old mid settled joined new : Classes)
    → FollowsFrom cells first second old mid → Follows cells mid settled
    → ((f : ℕ → Value) → IsConstantOn (length cells) settled f → f first ≡ f second → IsConstantOn (length cells) joined f)
    → Follows cells joined new → FollowsFrom cells first second old new
from-on cells first second old mid settled joined new h g join r = record {
  classes = r.classes;
  sound = λ f congruent same constant.
      r.sound f congruent (join f (g.sound f congruent (h.sound f congruent same constant)) same);
}

-- the number that falls
pub closing-falls :
    (X : Type 0) (cells : List Cell) (mid settled joined new : Classes) (r : Bool)
    → Follows cells mid settled
    → MatchBool r (total joined.parents.items < total settled.parents.items) ((joined ≡ settled) × X)
    → total new.parents.items < total joined.parents.items
    → total new.parents.items < total mid.parents.items
closing-falls X cells mid settled joined new r h join less = omega (arith, h.falls, fell X r settled joined join)

pub closing-falls-joined :
    (X : Type 0) (cells : List Cell) (mid settled joined new : Classes) (r : Bool)
    → Follows cells mid settled
    → MatchBool r (total joined.parents.items < total settled.parents.items) ((joined ≡ settled) × X)
    → r ≡ true → total new.parents.items ≤ total joined.parents.items
    → total new.parents.items < total mid.parents.items
closing-falls-joined X cells mid settled joined new true h join e le = omega (arith, h.falls)
closing-falls-joined X cells mid settled joined new false h join e le = cc

-- a round that changes nothing, after a join that changes nothing, shows that the classes are closed
pub closed-at-last :
    (cells : List Cell) (first second : ℕ) (old mid settled joined new : Classes) (r : Bool)
    → FollowsFrom cells first second old mid → Follows cells mid settled → AreSettled cells settled
    → ((f : ℕ → Value) → IsConstantOn (length cells) settled f → f first ≡ f second → IsConstantOn (length cells) joined f)
    → MatchBool r (total joined.parents.items < total settled.parents.items)
    ((joined ≡ settled) × (IsFlat (length cells) settled → parent settled first ≡ parent settled second))
    → Follows cells joined new
    → (new ≡ joined) × (IsFlat (length cells) joined → (i : ℕ) → i < length cells → IsClosedAt cells joined i)
    → r ≡ false → AreClosed cells first second old new
closed-at-last cells first second old mid settled joined new true h g is_settled join done third round e = cc
closed-at-last cells first second old mid settled joined new false h g is_settled join done third round e =
    let P : Classes → Type 0 = λ c. AreSettled cells c in
    let Q : Classes → Type 0 = λ c. (i : ℕ) → i < length cells → IsClosedAt cells c i in
    let R : Classes → Type 0 = λ c. parent c first ≡ parent c second in
    let joined_settled : AreSettled cells joined = subst P (sym done.0) is_settled in
    record {
      follows = from-on cells first second old mid settled joined new h g join third;
      settled = subst P (sym round.0) joined_settled;
      closed = subst Q (sym round.0) (round.1 joined_settled.flat);
      same = subst R (sym (round.0 ∙ done.0)) (done.1 is_settled.flat);
    }

pub refuted-at-last :
    (cells : List Cell) (first second : ℕ) (old mid settled joined : Classes)
    → FollowsFrom cells first second old mid → Follows cells mid settled
    → ((f : ℕ → Value) → IsConstantOn (length cells) settled f → f first ≡ f second → IsConstantOn (length cells) joined f)
    → IsRefuted cells joined → CannotFollow cells first second old
refuted-at-last cells first second old mid settled joined h g join r = record {
  one = r.first;
  other = r.second;
  one_inside = r.first_inside;
  other_inside = r.second_inside;
  clash = r.clash;
  forced = λ f congruent same constant. r.forced f congruent (join f (g.sound f congruent (h.sound f congruent same constant)) same);
}

-- what follows, or can't, from joined classes does from those before
pub closed-before :
    (cells : List Cell) (first second : ℕ) (old mid new : Classes)
    → FollowsFrom cells first second old mid → AreClosed cells first second mid new → AreClosed cells first second old new
closed-before cells first second old mid new h k = record {
  follows = record {
    classes = k.follows.classes;
    sound = λ f congruent same constant. k.follows.sound f congruent same (h.sound f congruent same constant);
  };
  settled = k.settled;
  closed = k.closed;
  same = k.same;
}

pub cannot-before :
    (cells : List Cell) (first second : ℕ) (old mid : Classes)
    → FollowsFrom cells first second old mid → CannotFollow cells first second mid → CannotFollow cells first second old
cannot-before cells first second old mid h r = record {
  one = r.one;
  other = r.other;
  one_inside = r.one_inside;
  other_inside = r.other_inside;
  clash = r.clash;
  forced = λ f congruent same constant. r.forced f congruent same (h.sound f congruent same constant);
}
