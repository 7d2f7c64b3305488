-- Classes as they are joined from a list of pairs that are due.
use Rattle.std.proofs.Common.{◌≡◌, ℕ, ◌+◌, ◌*◌, ◌<◌, ◌≤◌, Bool, true, false, ◌==◌, cond, Some, List, [], ◌∷◌, ◌++◌, length, set, refl, ap, sym, ◌∙◌, subst, arith}
use Rattle.std.specs.Prelude.{All}
use Rattle.std.proofs.lemmas.List.{length-append}
use Rattle.std.proofs.lemmas.List.Elements.{All-append, All-from_recursion, All-pop}
use Rattle.unifier.specs.declared.cells.Cell.{Cell}
use Rattle.unifier.specs.declared.cells.Cell.TheVariants.{Variable, Application, NoTrees, TreeThen}
use Rattle.unifier.specs.declared.cells.Relation.{Relation}
use Rattle.unifier.specs.declared.cells.Relation.TheVariants.{Same, Clash, Parts}
use Rattle.unifier.specs.declared.classes.Classes.{Classes}
use Rattle.unifier.specs.Cells.{Value, cell_at, relate, IsAfterParts, AreOrdered}
use Rattle.unifier.specs.Classes.{parent, schema, total, AreClasses, IsConstantOn, IsCongruent, PartsAgree, FollowsFrom, CannotFollow, IsLinked, AgreesWithParents, KeepsJoined, AreTogether}
use Rattle.unifier.specs.Joining.{IsOnShorterWay, IsShortened, ArePartsBelow, HasFallen, IsMerged}
use Rattle.unifier.proofs.AboutClasses.ClosingLemmas.{IsLifted, lifted}
use Rattle.unifier.proofs.AboutClasses.ClassLemmas.{set-read}

-- ---- the way up

pub way-starts : (n : ℕ) (c : Classes) (cell : ℕ) → AreClasses n c → IsOnShorterWay n c c cell cell
way-starts n c cell h = record {
  classes = h;
  sound = λ f constant. constant;
  falls = omega arith;
  below = omega arith;
  same = λ f constant. refl;
  others = λ i smallest. smallest;
  kept = λ f agrees. agrees;
  together = λ f agrees. refl;
}

pub way-on :
    (n : ℕ) (old mid new : Classes) (cell at up top : ℕ)
    → IsOnShorterWay n old mid cell at → at < n → (up ≡ at → ⊥) → up ≡ parent mid at → top ≡ parent mid up
    → new.parents.items ≡ set mid.parents.items at top → new.schemas.items ≡ mid.schemas.items → IsOnShorterWay n old new cell top
way-on n old mid new cell at up top h inside differs up_is top_is pe se =
    let one : IsLifted n mid new = lifted n mid new at up top h.classes inside up_is top_is pe se in
    let in_ps : at < length mid.parents.items = omega (arith, h.classes.parents) in
    let up_le : up ≤ at = omega (arith, h.classes.down at inside) in
    record {
      classes = one.classes;
      sound = λ f constant. one.sound f (h.sound f constant);
      falls = omega (arith, h.falls, one.falls);
      below = omega (arith, h.below, h.classes.down up (omega arith));
      same = λ f constant.
          let before : IsConstantOn n mid f = h.sound f constant in
          ap f top_is ∙ (before up (omega arith)).0 ∙ ap f up_is ∙ (before at inside).0 ∙ h.same f constant;
      others = λ i smallest.
          let Q : ℕ → Type 0 = λ v. v ≡ i in
          let before : parent mid i ≡ i = h.others i smallest in
          set-read Q mid.parents.items new.parents.items at top i 0 pe in_ps
          (λ e. absurd (differs (up_is ∙ ap (parent mid) (sym e) ∙ before ∙ e)))
          (λ _. before);
      kept = λ f agrees. h.kept f (one.kept f agrees);
      together = λ f agrees.
          let before : AgreesWithParents n mid f = one.kept f agrees in
          ap f top_is ∙ before up (omega arith) ∙ ap f up_is ∙ before at inside ∙ h.together f before;
    }

-- ---- two classes

-- two ways up, one after the other
pub record AreFound (n : ℕ) (old : Classes) (new : Classes) (first : ℕ) (second : ℕ) (one : ℕ) (other : ℕ) : Type 0 where
  pub classes : AreClasses n new
  pub sound : (f : ℕ → Value) → IsConstantOn n old f → IsConstantOn n new f
  pub falls : total new.parents.items ≤ total old.parents.items
  pub one_inside : one < n
  pub other_inside : other < n
  pub one_smallest : parent new one ≡ one
  pub other_smallest : parent new other ≡ other
  pub meet : (f : ℕ → Value) → IsConstantOn n old f → f first ≡ f second → f one ≡ f other
  pub kept : KeepsJoined n old new
  pub with_first : AreTogether n new one first
  pub with_second : AreTogether n new other second

pub both-found :
    (n : ℕ) (old mid new : Classes) (first second one other : ℕ)
    → first < n → second < n → IsShortened n old mid first one → IsShortened n mid new second other → AreFound n old new first second one other
both-found n old mid new first second one other first_in second_in h k = record {
  classes = k.way.classes;
  sound = λ f constant. k.way.sound f (h.way.sound f constant);
  falls = omega (arith, h.way.falls, k.way.falls);
  one_inside = omega (arith, h.way.below);
  other_inside = omega (arith, k.way.below);
  one_smallest = k.way.others one h.smallest;
  other_smallest = k.smallest;
  meet = λ f constant same. h.way.same f constant ∙ same ∙ sym (k.way.same f (h.way.sound f constant));
  kept = λ f agrees. h.way.kept f (k.way.kept f agrees);
  with_first = λ f agrees. h.way.together f (k.way.kept f agrees);
  with_second = λ f agrees. k.way.together f agrees;
}

pub same-class :
    (cells : List Cell) (old new : Classes) (first second one other : ℕ)
    → AreFound (length cells) old new first second one other → one ≡ other → IsMerged cells old new first second Same
same-class cells old new first second one other h is = record {
  classes = h.classes;
  sound = λ f constant same. h.sound f constant;
  falls = h.falls;
  inside = tt;
  forced = λ f congruent constant same. tt;
  refuted = λ e. cc;
  kept = h.kept;
  together = λ f agrees. sym (h.with_first f agrees) ∙ ap f is ∙ h.with_second f agrees;
}

parts-below : (n i j : ℕ) (x y : Cell) → i < n → j < n → IsAfterParts i x → IsAfterParts j y → ArePartsBelow n (relate x y)
parts-below n i j (Variable w) y i_in j_in ax ay = tt
parts-below n i j (Application f l) (Variable w) i_in j_in ax ay = tt
parts-below n i j (Application f l) (Application g m) i_in j_in ax ay = either (f == g)
  where
    either : (test : Bool) → ArePartsBelow n (cond test (Parts l m l m) Clash)
    either true = (omega arith, omega arith, omega arith, omega arith)
    either false = tt
parts-below n i j (Application f l) NoTrees i_in j_in ax ay = tt
parts-below n i j (Application f l) (TreeThen c d) i_in j_in ax ay = tt
parts-below n i j NoTrees (Variable w) i_in j_in ax ay = tt
parts-below n i j NoTrees (Application g m) i_in j_in ax ay = tt
parts-below n i j NoTrees NoTrees i_in j_in ax ay = tt
parts-below n i j NoTrees (TreeThen c d) i_in j_in ax ay = tt
parts-below n i j (TreeThen a b) (Variable w) i_in j_in ax ay = tt
parts-below n i j (TreeThen a b) (Application g m) i_in j_in ax ay = tt
parts-below n i j (TreeThen a b) NoTrees i_in j_in ax ay = tt
parts-below n i j (TreeThen a b) (TreeThen c d) i_in j_in ax ay =
    (omega (arith, ax.0), omega (arith, ay.0), omega (arith, ax.1), omega (arith, ay.1))

fallen : (old new : Classes) (r : Relation) → total new.parents.items < total old.parents.items → HasFallen old new r
fallen old new Same h = omega arith
fallen old new Clash h = omega arith
fallen old new (Parts a c b d) h = h

pub classes-merged :
    (cells : List Cell) (old mid new : Classes) (first second one other s t low high : ℕ) (told : Relation)
    → AreOrdered cells → AreFound (length cells) old mid first second one other
    → s ≡ schema mid one → t ≡ schema mid other → told ≡ relate (cell_at cells s) (cell_at cells t)
    → IsLinked (length cells) mid new low high → ((f : ℕ → Value) → f one ≡ f other → f low ≡ f high)
    → ((f : ℕ → Value) → f low ≡ f high → f one ≡ f other) → IsMerged cells old new first second told
classes-merged cells old mid new first second one other s t low high told ordered h s_is t_is is linked ends back =
    let n : ℕ = length cells in
    let P : ℕ → Type 0 = λ k. k < n in
    let s_in : s < n = subst P (sym s_is) (h.classes.inside one h.one_inside) in
    let t_in : t < n = subst P (sym t_is) (h.classes.inside other h.other_inside) in
    let schemas : (f : ℕ → Value) → IsConstantOn n old f → f first ≡ f second → f s ≡ f t = λ f constant same.
    let after : IsConstantOn n mid f = h.sound f constant in
    ap f s_is ∙ (after one h.one_inside).1 ∙ h.meet f constant same ∙ sym (after other h.other_inside).1 ∙ ap f (sym t_is) in
    record {
      classes = linked.classes;
      sound = λ f constant same. linked.sound f (h.sound f constant) (ends f (h.meet f constant same));
      falls = fallen old new told (omega (arith, h.falls, linked.falls));
      inside = subst (ArePartsBelow n) (sym is) (parts-below n s t (cell_at cells s) (cell_at cells t) s_in t_in (ordered s s_in) (ordered t t_in));
      forced = λ f congruent constant same. subst (PartsAgree f) (sym is) (congruent s t s_in t_in (schemas f constant same));
      refuted = λ clash. record { one = s; other = t; one_inside = s_in; other_inside = t_in; clash = sym is ∙ clash; forced = schemas };
      kept = λ f agrees. h.kept f (linked.kept f agrees);
      together = λ f agrees.
          let before : AgreesWithParents n mid f = linked.kept f agrees in
          sym (h.with_first f before) ∙ back f (linked.together f agrees) ∙ h.with_second f before;
    }

-- ---- pairs that are due

-- the cells of the pair must have one value, where the two do
pub record IsDue (cells : List Cell) (first : ℕ) (second : ℕ) (old : Classes) (pair : ℕ × ℕ) : Type 0 where
  pub one_inside : pair.0 < length cells
  pub other_inside : pair.1 < length cells
  pub forced :
      (f : ℕ → Value) → IsCongruent cells f → f first ≡ f second → IsConstantOn (length cells) old f → f pair.0 ≡ f pair.1

-- the cells of all pairs have one value
abbrev AllAgree : (ℕ → Value) → List (ℕ × ℕ) → Type 0
AllAgree f due = All (λ (pair : ℕ × ℕ). f pair.0 ≡ f pair.1) due

pub record AreDue (cells : List Cell) (first : ℕ) (second : ℕ) (old : Classes) (new : Classes) (due : List (ℕ × ℕ)) : Type 0 where
  pub follows : FollowsFrom cells first second old new
  pub all : All (IsDue cells first second old) due
  pub joined : (f : ℕ → Value) → AgreesWithParents (length cells) new f → AllAgree f due → f first ≡ f second

one-due : (cells : List Cell) (first second : ℕ) (old : Classes) (pair : ℕ × ℕ) → IsDue cells first second old pair → All (IsDue cells first second old) (pair ∷ [])
one-due cells first second old pair h = All-from_recursion (IsDue cells first second old) (pair ∷ []) (h, tt)

pub due-starts :
    (cells : List Cell) (first second : ℕ) (c : Classes) (due : List (ℕ × ℕ))
    → AreClasses (length cells) c → first < length cells → second < length cells → due ≡ (first, second) ∷ []
    → AreDue cells first second c c due
due-starts cells first second c due h first_in second_in e = record {
  follows = record { classes = h; sound = λ f congruent same constant. constant };
  all =
      subst (All (IsDue cells first second c)) (sym e)
      (one-due cells first second c (first, second)
      (record { one_inside = first_in; other_inside = second_in; forced = λ f congruent same constant. same }));
  joined = λ f agrees all. (All-pop (λ (pair : ℕ × ℕ). f pair.0 ≡ f pair.1) due [] (Some (first, second)) e all).1;
}

-- the last pair is taken
pub record IsTaken (cells : List Cell) (first : ℕ) (second : ℕ) (old : Classes) (now : Classes) (rest : List (ℕ × ℕ)) (pair : ℕ × ℕ) : Type 0 where
  pub follows : FollowsFrom cells first second old now
  pub all : All (IsDue cells first second old) rest
  pub is_due : IsDue cells first second old pair
  pub joined :
      (f : ℕ → Value) → AgreesWithParents (length cells) now f → AllAgree f rest → f pair.0 ≡ f pair.1 → f first ≡ f second

pub due-taken :
    (cells : List Cell) (first second : ℕ) (old now : Classes) (due rest : List (ℕ × ℕ)) (pair : ℕ × ℕ)
    → AreDue cells first second old now due → due ≡ rest ++ pair ∷ [] → IsTaken cells first second old now rest pair
due-taken cells first second old now due rest pair h e =
    let both = All-pop (IsDue cells first second old) due rest (Some pair) e h.all in
    record {
      follows = h.follows;
      all = both.0;
      is_due = both.1;
      joined = λ f agrees all same.
          let Q : ℕ × ℕ → Type 0 = λ p. f p.0 ≡ f p.1 in
          h.joined f agrees (subst (All Q) (sym e) (All-append Q rest (pair ∷ []) all (All-from_recursion Q (pair ∷ []) (same, tt))));
    }

merged-follows :
    (cells : List Cell) (first second : ℕ) (old now new : Classes) (rest : List (ℕ × ℕ)) (pair : ℕ × ℕ) (told : Relation)
    → IsTaken cells first second old now rest pair → IsMerged cells now new pair.0 pair.1 told → FollowsFrom cells first second old new
merged-follows cells first second old now new rest pair told h m = record {
  classes = m.classes;
  sound = λ f congruent same constant.
      m.sound f (h.follows.sound f congruent same constant) (h.is_due.forced f congruent same constant);
}

pub due-same :
    (cells : List Cell) (first second : ℕ) (old now new : Classes) (rest : List (ℕ × ℕ)) (pair : ℕ × ℕ) (told : Relation)
    → IsTaken cells first second old now rest pair → IsMerged cells now new pair.0 pair.1 told → AreDue cells first second old new rest
due-same cells first second old now new rest pair told h m =
    record {
      follows = merged-follows cells first second old now new rest pair told h m;
      all = h.all;
      joined = λ f agrees all. h.joined f (m.kept f agrees) all (m.together f agrees);
    }

pub due-parts :
    (cells : List Cell) (first second : ℕ) (old now new : Classes) (rest one two : List (ℕ × ℕ)) (pair : ℕ × ℕ) (a c b d : ℕ)
    → IsTaken cells first second old now rest pair → IsMerged cells now new pair.0 pair.1 (Parts a c b d)
    → one ≡ rest ++ (a, c) ∷ [] → two ≡ one ++ (b, d) ∷ [] → AreDue cells first second old new two
due-parts cells first second old now new rest one two pair a c b d h m e e₂ =
    let P : ℕ × ℕ → Type 0 = IsDue cells first second old in
    let agree : (f : ℕ → Value) → IsCongruent cells f → f first ≡ f second → IsConstantOn (length cells) old f → (f a ≡ f c) × (f b ≡ f d) = λ f congruent same constant.
    m.forced f congruent (h.follows.sound f congruent same constant) (h.is_due.forced f congruent same constant) in
    let firsts : P (a, c) = record { one_inside = m.inside.0; other_inside = m.inside.1; forced = λ f congruent same constant. (agree f congruent same constant).0 } in
    let rests : P (b, d) = record { one_inside = m.inside.2; other_inside = m.inside.3; forced = λ f congruent same constant. (agree f congruent same constant).1 } in
    let with_first : All P one = subst (All P) (sym e) (All-append P rest ((a, c) ∷ []) h.all (one-due cells first second old (a, c) firsts)) in
    record {
      follows = merged-follows cells first second old now new rest pair (Parts a c b d) h m;
      all = subst (All P) (sym e₂) (All-append P one ((b, d) ∷ []) with_first (one-due cells first second old (b, d) rests));
      joined = λ f agrees all.
          let Q : ℕ × ℕ → Type 0 = λ p. f p.0 ≡ f p.1 in
          h.joined f (m.kept f agrees)
          (All-pop Q one rest (Some (a, c)) e (All-pop Q two one (Some (b, d)) e₂ all).0).0
          (m.together f agrees);
    }

pub due-clash :
    (cells : List Cell) (first second : ℕ) (old now new : Classes) (rest : List (ℕ × ℕ)) (pair : ℕ × ℕ) (told : Relation)
    → IsTaken cells first second old now rest pair → IsMerged cells now new pair.0 pair.1 told → told ≡ Clash → CannotFollow cells first second old
due-clash cells first second old now new rest pair told h m is =
    let r = m.refuted is in
    record {
      one = r.one;
      other = r.other;
      one_inside = r.one_inside;
      other_inside = r.other_inside;
      clash = r.clash;
      forced = λ f congruent same constant.
          r.forced f (h.follows.sound f congruent same constant) (h.is_due.forced f congruent same constant);
    }

-- ---- as the code has it

pub found-by :
    (n k m : ℕ) (old mid new : Classes) (first second one other : ℕ)
    → AreClasses n old → k ≡ length old.parents.items → m ≡ length mid.parents.items → first < n → second < n
    → IsShortened k old mid first one → IsShortened m mid new second other → AreFound n old new first second one other
found-by n k m old mid new first second one other h k_is m_is first_in second_in g l =
    let way : IsShortened n old mid first one = subst (λ j. IsShortened j old mid first one) (k_is ∙ h.parents) g in
    both-found n old mid new first second one other first_in second_in way
    (subst (λ j. IsShortened j mid new second other) (m_is ∙ way.way.classes.parents) l)

-- ---- the number that falls

abbrev Pairs : Type 0
Pairs = List (ℕ × ℕ)

one-more : (rest due : Pairs) (pair : ℕ × ℕ) → due ≡ rest ++ pair ∷ [] → length due ≡ length rest + 1
one-more rest due pair e = ap length e ∙ length-append rest (pair ∷ [])

pub same-falls :
    (old new : Classes) (due rest : Pairs) (pair : ℕ × ℕ)
    → total new.parents.items ≤ total old.parents.items → due ≡ rest ++ pair ∷ []
    → 3 * total new.parents.items + length rest < 3 * total old.parents.items + length due
same-falls old new due rest pair h e = omega (arith, h, one-more rest due pair e)

pub parts-fall :
    (old new : Classes) (due rest one two : Pairs) (pair first second : ℕ × ℕ)
    → total new.parents.items < total old.parents.items → due ≡ rest ++ pair ∷ [] → one ≡ rest ++ first ∷ [] → two ≡ one ++ second ∷ []
    → 3 * total new.parents.items + length two < 3 * total old.parents.items + length due
parts-fall old new due rest one two pair first second h e e₂ e₃ =
    omega (arith, h, one-more rest due pair e, one-more rest one first e₂, one-more one two second e₃)
