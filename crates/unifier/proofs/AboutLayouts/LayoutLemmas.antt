-- Layouts, as cells are added.
use Rattle.std.proofs.Common.{◌≡◌, ℕ, suc, ◌+◌, ◌-◌, ◌<◌, ◌≤◌, drop-cons, Bool, true, false, ◌&&◌, ◌==◌, Option, None, Some, List, [], ◌∷◌, ◌++◌, length, map, drop, get_or, refl, ap, ap₂, sym, ◌∙◌, subst, ⊎_elim, arith, eq-eqb, append_assoc}
use Rattle.std.specs.Prelude.{Result, Ok, Err, IfOk, All, nat_lt}
use Rattle.std.proofs.lemmas.Bool.{cases_lt, cond-true, cond-false, cases_Bool, eqb-true, true≢false}
use Rattle.std.proofs.Math.ListN.{get_or-append}
use Rattle.std.proofs.Math.Seq.{get_or-append_seam}
use Rattle.std.proofs.lemmas.List.{length-append, append-nil}
use Rattle.fol_base.specs.Tree.{Tree, variable, application, Trees, no_trees, tree_then, trees_of}
use Rattle.fol_base.specs.Term.{tree_of}
use Rattle.fol_base.specs.declared.term.Term.{Term}
use Rattle.fol_base.specs.Instance.{Substitution, instance}
use Rattle.fol_base.specs.declared.clause.Side.{Side}
use Rattle.unifier.specs.declared.cells.Cell.{Cell}
use Rattle.unifier.specs.declared.cells.Cell.TheVariants.{Variable, Application, NoTrees, TreeThen}
use Rattle.unifier.specs.declared.layout.Place.{Place}
use Rattle.unifier.specs.declared.layout.Layout.{Layout}
use Rattle.unifier.specs.Cells.{Value, tree, trees, as_tree, as_trees, cell_at, value_of, is_list, is_variable, IsAfterParts, AreOrdered, HasKinds, AreKinded, IsValuation}
use Rattle.unifier.specs.SolvedForm.{code_of, of_side}
use Rattle.unifier.specs.Layout.{cell_of, all_pass, AreRising, IsLayout, Grows, IsWithVariable, TermLaidOut, TermsLaidOut, IsPushed}
use Rattle.unifier.proofs.AboutLayouts.PlaceLemmas.{cell_of-front, cell_of-back, not-found, all_pass-push, rising-push}
use Rattle.list_lemmas.proofs.Numbers.{not-less, below-or-same}

-- ---- cells

pub length-push : (cs : List Cell) (c : Cell) → length (cs ++ c ∷ []) ≡ length cs + 1
length-push cs c = length-append cs (c ∷ [])

pub cell_at-front : (cs more : List Cell) (i : ℕ) → i < length cs → cell_at (cs ++ more) i ≡ cell_at cs i
cell_at-front cs more i h = get_or-append cs more (Variable 0) i h

pub cell_at-last : (cs : List Cell) (c : Cell) → cell_at (cs ++ c ∷ []) (length cs) ≡ c
cell_at-last cs c = get_or-append_seam cs c [] (Variable 0)

pub last_or_front : (cs : List Cell) (c : Cell) (i : ℕ) (P : Type 0) → i < length (cs ++ c ∷ []) → (i < length cs → P) → (i ≡ length cs → P) → P
last_or_front cs c i P h front last = ⊎_elim front last (below-or-same i (length cs) (omega (arith, h, length-push cs c)))

-- what holds of the cells and of one more holds of all
pub at-push :
    (P : ℕ → Cell → Type 0) (cs : List Cell) (c : Cell)
    → ((i : ℕ) → i < length cs → P i (cell_at cs i)) → P (length cs) c
    → (i : ℕ) → i < length (cs ++ c ∷ []) → P i (cell_at (cs ++ c ∷ []) i)
at-push P cs c all here i h =
    last_or_front cs c i (P i (cell_at (cs ++ c ∷ []) i)) h
    (λ less. subst (P i) (sym (cell_at-front cs (c ∷ []) i less)) (all i less))
    (λ same.
    let Q : ℕ → Type 0 = λ k. P k (cell_at (cs ++ c ∷ []) k) in
    subst Q (sym same) (subst (P (length cs)) (sym (cell_at-last cs c)) here))

pub ordered-push : (cs : List Cell) (c : Cell) → AreOrdered cs → IsAfterParts (length cs) c → AreOrdered (cs ++ c ∷ [])
ordered-push cs c = at-push IsAfterParts cs c

kinds-grow : (cs more : List Cell) (c : Cell) (i : ℕ) → i ≤ length cs → IsAfterParts i c → HasKinds cs c → HasKinds (cs ++ more) c
kinds-grow cs more (Variable w) i le after h = tt
kinds-grow cs more (Application f l) i le after h = ap is_list (cell_at-front cs more l (omega (arith, after))) ∙ h
kinds-grow cs more NoTrees i le after h = tt
kinds-grow cs more (TreeThen a b) i le after h =
    (ap is_list (cell_at-front cs more a (omega (arith, after.0))) ∙ h.0, ap is_list (cell_at-front cs more b (omega (arith, after.1))) ∙ h.1)

pub kinded-push :
    (cs : List Cell) (c : Cell)
    → AreOrdered cs → AreKinded cs → IsAfterParts (length cs) c → HasKinds cs c → AreKinded (cs ++ c ∷ [])
kinded-push cs c ordered kinded after here =
    at-push (λ i d. HasKinds (cs ++ c ∷ []) d) cs c
    (λ i less. kinds-grow cs (c ∷ []) (cell_at cs i) i (omega arith) (ordered i less) (kinded i less))
    (kinds-grow cs (c ∷ []) c (length cs) (omega arith) after here)

pub valuation-front : (θ : Substitution) (cs more : List Cell) (val : ℕ → Value) → IsValuation θ (cs ++ more) val → IsValuation θ cs val
valuation-front θ cs more val h i less =
    h i (omega (arith, length-append cs more)) ∙ ap (value_of θ val) (cell_at-front cs more i less)

pub valuation-last : (θ : Substitution) (cs : List Cell) (c : Cell) (val : ℕ → Value) → IsValuation θ (cs ++ c ∷ []) val → val (length cs) ≡ value_of θ val c
valuation-last θ cs c val h =
    h (length cs) (omega (arith, length-push cs c)) ∙ ap (value_of θ val) (cell_at-last cs c)

-- ---- places

grows-on : (first second third : Layout) → Grows first second → Grows second third → Grows first third
grows-on first second third g h =
    (g.0 ++ h.0, h.1 ∙ ap (λ cs. cs ++ h.0) g.1 ∙ append_assoc first.cells.items g.0 h.0)

grows-itself : (l : Layout) → Grows l l
grows-itself l = ([], sym (append-nil l.cells.items))

known-longer : (n m : ℕ) (ps : List Place) → n ≤ m → All (λ (p : Place). p.cell < n) ps → All (λ (p : Place). p.cell < m) ps
known-longer n m ps le h k d less = omega (arith, h k d less)

known-push : (n : ℕ) (ps : List Place) (p : Place) → All (λ (q : Place). q.cell < n) ps → p.cell < n → All (λ (q : Place). q.cell < n) (ps ++ p ∷ [])
known-push n ps p h here k d less =
    let P : Place → Type 0 = λ q. q.cell < n in
    ⊎_elim
    (λ front. subst P (sym (get_or-append ps (p ∷ []) d k front)) (h k d front))
    (λ ge.
    let last : k ≡ length ps = omega (arith, length-append ps (p ∷ [])) in
    let Q : ℕ → Type 0 = λ j. P (get_or (ps ++ p ∷ []) j d) in
    subst Q (sym last) (subst P (sym (get_or-append_seam ps p [] d)) here))
    (cases_lt k (length ps))

-- ---- a cell that is no variable

pub layout-push :
    (old new : Layout) (c : Cell)
    → IsLayout old → IsAfterParts (length old.cells.items) c → HasKinds old.cells.items c → is_variable c ≡ false
    → new.cells.items ≡ old.cells.items ++ c ∷ [] → new.places.items ≡ old.places.items → IsLayout new
layout-push old new c h after kinds no_variable e same =
    let cs : List Cell = old.cells.items in
    record {
      ordered = subst AreOrdered (sym e) (ordered-push cs c h.ordered after);
      kinded = subst AreKinded (sym e) (kinded-push cs c h.ordered h.kinded after kinds);
      filled = let P : List Cell → Type 0 = λ ds. 0 < length ds in subst P (sym e) (omega (arith, length-push cs c));
      empty = ap (λ ds. cell_at ds 0) e ∙ cell_at-front cs (c ∷ []) 0 h.filled ∙ h.empty;
      placed = λ i w less is.
          ap (cell_of w) same
          ∙ last_or_front cs c i (cell_of w old.places.items ≡ Some i)
          (let P : List Cell → Type 0 = λ ds. i < length ds in subst P e less)
          (λ front. h.placed i w front (sym (cell_at-front cs (c ∷ []) i front) ∙ ap (λ ds. cell_at ds i) (sym e) ∙ is))
          (λ last.
          let c_is : c ≡ Variable w = sym (cell_at-last cs c) ∙ ap (cell_at (cs ++ c ∷ [])) (sym last) ∙ ap (λ ds. cell_at ds i) (sym e) ∙ is in
          absurd (true≢false (sym (ap is_variable c_is) ∙ no_variable)));
      places = λ w i found.
          let there = h.places w i (ap (cell_of w) (sym same) ∙ found) in (
            let P : List Cell → Type 0 = λ ds. i < length ds in subst P (sym e) (omega (arith, there.0, length-push cs c)),
            ap (λ ds. cell_at ds i) e ∙ cell_at-front cs (c ∷ []) i there.0 ∙ there.1,
          );
      known =
          let longer : length cs ≤ length new.cells.items = omega (arith, ap length e, length-push cs c) in
          let P : List Place → Type 0 = λ ps. All (λ (p : Place). p.cell < length new.cells.items) ps in
          subst P (sym same) (known-longer (length cs) (length new.cells.items) old.places.items longer h.known);
      rising = subst AreRising (sym same) h.rising;
    }

-- ---- a variable

pub layout-variable :
    (old new : Layout) (w : ℕ) (p : Place)
    → IsLayout old → all_pass (λ v. nat_lt v w) old.places.items ≡ true → p.code ≡ w → p.cell ≡ length old.cells.items
    → new.cells.items ≡ old.cells.items ++ Variable w ∷ [] → new.places.items ≡ old.places.items ++ p ∷ [] → IsLayout new
layout-variable old new w p h below code cell e places_e =
    let none : cell_of w old.places.items ≡ None =
    not-found (λ v. nat_lt v w) w old.places.items (cell_of w old.places.items) below (not-less w w (omega arith)) refl in
    let cs : List Cell = old.cells.items in
    let c : Cell = Variable w in
    let ps : List Place = old.places.items in
    record {
      ordered = subst AreOrdered (sym e) (ordered-push cs c h.ordered tt);
      kinded = subst AreKinded (sym e) (kinded-push cs c h.ordered h.kinded tt tt);
      filled = let P : List Cell → Type 0 = λ ds. 0 < length ds in subst P (sym e) (omega (arith, length-push cs c));
      empty = ap (λ ds. cell_at ds 0) e ∙ cell_at-front cs (c ∷ []) 0 h.filled ∙ h.empty;
      placed = λ i v less is.
          ap (cell_of v) places_e
          ∙ last_or_front cs c i (cell_of v (ps ++ p ∷ []) ≡ Some i)
          (let P : List Cell → Type 0 = λ ds. i < length ds in subst P e less)
          (λ front.
          cell_of-front v i ps (p ∷ [])
          (h.placed i v front (sym (cell_at-front cs (c ∷ []) i front) ∙ ap (λ ds. cell_at ds i) (sym e) ∙ is)))
          (λ last.
          let c_is : Variable w ≡ Variable v = sym (cell_at-last cs c) ∙ ap (cell_at (cs ++ c ∷ [])) (sym last) ∙ ap (λ ds. cell_at ds i) (sym e) ∙ is in
          let v_is : w ≡ v = cc in
          cell_of-back v ps (p ∷ []) (ap (λ u. cell_of u ps) (sym v_is) ∙ none)
          ∙ cond-true (v == p.code) (Some p.cell) None (eq-eqb v p.code (sym v_is ∙ sym code))
          ∙ ap Some (cell ∙ sym last));
      places = λ v i found. look v i (cell_of v ps) refl (sym (ap (cell_of v) places_e) ∙ found);
      known =
          let len : length new.cells.items ≡ length cs + 1 = ap length e ∙ length-push cs c in
          let longer : length cs ≤ length new.cells.items = omega (arith, len) in
          let P : List Place → Type 0 = λ qs. All (λ (q : Place). q.cell < length new.cells.items) qs in
          subst P (sym places_e)
          (known-push (length new.cells.items) ps p (known-longer (length cs) (length new.cells.items) ps longer h.known) (omega (arith, len, cell)));
      rising =
          let under : all_pass (λ v. nat_lt v p.code) ps ≡ true = subst (λ u. all_pass (λ v. nat_lt v u) ps ≡ true) (sym code) below in
          subst AreRising (sym places_e) (rising-push ps p h.rising under);
    }
  where
    look :
        (v i : ℕ) (o : Option ℕ) → cell_of v old.places.items ≡ o → cell_of v (old.places.items ++ p ∷ []) ≡ Some i
        → (i < length new.cells.items) × (cell_at new.cells.items i ≡ Variable v)
    look v i (Some j) is found =
        let same : Some j ≡ Some i = sym (cell_of-front v j old.places.items (p ∷ []) is) ∙ found in
        let j_is : j ≡ i = cc in
        let there = h.places v i (is ∙ same) in (
          let P : List Cell → Type 0 = λ ds. i < length ds in subst P (sym e) (omega (arith, there.0, length-push old.cells.items (Variable w))),
          ap (λ ds. cell_at ds i) e ∙ cell_at-front old.cells.items (Variable w ∷ []) i there.0 ∙ there.1,
        )
    look v i None is found =
        let late : cell_of v (p ∷ []) ≡ Some i = sym (cell_of-back v old.places.items (p ∷ []) is) ∙ found in
        ⊎_elim
        (λ same.
        let here : Some p.cell ≡ Some i = sym (cond-true (v == p.code) (Some p.cell) None same) ∙ late in
        let cell_is : p.cell ≡ i = cc in
        let i_is : i ≡ length old.cells.items = sym cell_is ∙ cell in
        let v_is : v ≡ w = eqb-true v p.code same ∙ code in (
          let P : List Cell → Type 0 = λ ds. i < length ds in subst P (sym e) (omega (arith, i_is, length-push old.cells.items (Variable w))),
          ap (λ ds. cell_at ds i) e
              ∙ ap (cell_at (old.cells.items ++ Variable w ∷ [])) i_is
              ∙ cell_at-last old.cells.items (Variable w)
              ∙ ap Variable (sym v_is),
        ))
        (λ other. let wrong : None ≡ Some i = sym (cond-false (v == p.code) (Some p.cell) None other) ∙ late in absurd cc)
        (cases_Bool (v == p.code))

-- as the code has it
pub with-variable :
    (old new : Layout) (w : ℕ) (p : Place)
    → IsLayout old → all_pass (λ v. nat_lt v w) old.places.items ≡ true → p.code ≡ w → p.cell ≡ length old.cells.items
    → new.cells.items ≡ old.cells.items ++ Variable w ∷ [] → new.places.items ≡ old.places.items ++ p ∷ []
    → IsWithVariable old new w
with-variable old new w p h below code cell e places_e = record {
  layout = layout-variable old new w p h below code cell e places_e;
  also = λ test. ap (all_pass test) places_e ∙ all_pass-push test old.places.items p ∙ ap (λ v. all_pass test old.places.items && test v) code;
}

-- ---- terms

valuation-before :
    (θ : Substitution) (old new : Layout) (val : ℕ → Value)
    → Grows old new → IsValuation θ new.cells.items val → IsValuation θ old.cells.items val
valuation-before θ old new val g h =
    valuation-front θ old.cells.items g.0 val (let P : List Cell → Type 0 = λ cs. IsValuation θ cs val in subst P g.1 h)

pub variable-laid_out :
    (l : Layout) (apart : Bool) (side : Side) (v w k : ℕ)
    → IsLayout l → w ≡ code_of apart side v → cell_of w l.places.items ≡ Some k → TermLaidOut l l apart side (variable v) k
variable-laid_out l apart side v w k h code found =
    let there = h.places w k found in
    record {
      layout = h;
      grows = grows-itself l;
      inside = there.0;
      kind = ap is_list there.1;
      denotes = λ θ val valuation. valuation k there.0 ∙ ap (value_of θ val) there.1 ∙ ap (λ u. tree (θ u)) code;
      places = refl;
    }

pushed-inside : (mid new : Layout) (c : Cell) (k : ℕ) → IsPushed mid new c k → k < length new.cells.items
pushed-inside mid new c k h =
    let P : List Cell → Type 0 = λ cs. k < length cs in
    subst P (sym h.cells) (omega (arith, h.number, length-push mid.cells.items c))

pushed-cell : (mid new : Layout) (c : Cell) (k : ℕ) → IsPushed mid new c k → cell_at new.cells.items k ≡ c
pushed-cell mid new c k h =
    ap (λ cs. cell_at cs k) h.cells ∙ ap (cell_at (mid.cells.items ++ c ∷ [])) h.number ∙ cell_at-last mid.cells.items c

pub application-laid_out :
    (old mid new : Layout) (apart : Bool) (side : Side) (f l k : ℕ) (ts : Trees)
    → TermsLaidOut old mid apart side ts l → IsPushed mid new (Application f l) k
    → TermLaidOut old new apart side (application f ts) k
application-laid_out old mid new apart side f l k ts list pushed =
    let step : Grows mid new = (Application f l ∷ [], pushed.cells) in
    record {
      layout = pushed.layout;
      grows = grows-on old mid new list.grows step;
      inside = pushed-inside mid new (Application f l) k pushed;
      kind = ap is_list (pushed-cell mid new (Application f l) k pushed);
      denotes = λ θ val valuation.
          valuation k (pushed-inside mid new (Application f l) k pushed)
          ∙ ap (value_of θ val) (pushed-cell mid new (Application f l) k pushed)
          ∙ ap (λ u. tree (application f (as_trees u))) (list.denotes θ val (valuation-before θ mid new val step valuation));
      places = pushed.places ∙ list.places;
    }

-- as the code has it
pub application-answer :
    {E : Type 0} (r : Result ℕ E) (old mid new : Layout) (apart : Bool) (side : Side) (f l : ℕ) (t : Tree) (ts us : List Tree)
    → t ≡ application f (trees_of us) → ts ≡ us → TermsLaidOut old mid apart side (trees_of ts) l
    → IfOk r (IsPushed mid new (Application f l)) → IfOk r (TermLaidOut old new apart side t)
application-answer (Err e) old mid new apart side f l t ts us is same list pushed = tt
application-answer (Ok k) old mid new apart side f l t ts us is same list pushed =
    let P : Tree → Type 0 = λ u. TermLaidOut old new apart side u k in
    subst P (ap (λ vs. application f (trees_of vs)) same ∙ sym is)
    (application-laid_out old mid new apart side f l k (trees_of ts) list pushed)

pub no-terms-laid_out : (l : Layout) (apart : Bool) (side : Side) → IsLayout l → TermsLaidOut l l apart side no_trees 0
no-terms-laid_out l apart side h = record {
  layout = h;
  grows = grows-itself l;
  inside = h.filled;
  kind = ap is_list h.empty;
  denotes = λ θ val valuation. valuation 0 h.filled ∙ ap (value_of θ val) h.empty;
  places = refl;
}

pub more-terms-laid_out :
    (old first_old mid new : Layout) (apart : Bool) (side : Side) (t : Tree) (ts : Trees) (rest first k : ℕ)
    → TermsLaidOut old first_old apart side ts rest → TermLaidOut first_old mid apart side t first
    → IsPushed mid new (TreeThen first rest) k → TermsLaidOut old new apart side (tree_then t ts) k
more-terms-laid_out old first_old mid new apart side t ts rest first k list one pushed =
    let step : Grows mid new = (TreeThen first rest ∷ [], pushed.cells) in
    let steps : Grows first_old new = grows-on first_old mid new one.grows step in
    record {
      layout = pushed.layout;
      grows = grows-on old first_old new list.grows steps;
      inside = pushed-inside mid new (TreeThen first rest) k pushed;
      kind = ap is_list (pushed-cell mid new (TreeThen first rest) k pushed);
      denotes = λ θ val valuation.
          valuation k (pushed-inside mid new (TreeThen first rest) k pushed)
          ∙ ap (value_of θ val) (pushed-cell mid new (TreeThen first rest) k pushed)
          ∙ ap₂ (λ u v. trees (tree_then (as_tree u) (as_trees v)))
          (one.denotes θ val (valuation-before θ mid new val step valuation))
          (list.denotes θ val (valuation-before θ first_old new val steps valuation));
      places = pushed.places ∙ one.places ∙ list.places;
    }

-- what a cell of a smaller layout is in the larger one
grown-inside : (old new : Layout) (i : ℕ) → Grows old new → i < length old.cells.items → i < length new.cells.items
grown-inside old new i g h =
    let P : List Cell → Type 0 = λ cs. i < length cs in
    subst P (sym g.1) (omega (arith, length-append old.cells.items g.0))

grown-kind : (old new : Layout) (i : ℕ) → Grows old new → i < length old.cells.items → is_list (cell_at new.cells.items i) ≡ is_list (cell_at old.cells.items i)
grown-kind old new i g h = ap (λ cs. is_list (cell_at cs i)) g.1 ∙ ap is_list (cell_at-front old.cells.items g.0 i h)

pub list-parts :
    (old first_old mid : Layout) (apart : Bool) (side : Side) (t : Tree) (ts : Trees) (rest first : ℕ)
    → TermsLaidOut old first_old apart side ts rest → TermLaidOut first_old mid apart side t first
    → IsAfterParts (length mid.cells.items) (TreeThen first rest) × HasKinds mid.cells.items (TreeThen first rest)
list-parts old first_old mid apart side t ts rest first list one = (
  (one.inside, grown-inside first_old mid rest one.grows list.inside),
  (one.kind, grown-kind first_old mid rest one.grows list.inside ∙ list.kind),
)

pub first-kept :
    (layout mid new : Layout) (apart : Bool) (t : Tree) (k : ℕ) (side : Side)
    → TermLaidOut layout mid apart side t k → Grows mid new → (k < length new.cells.items) × (is_list (cell_at new.cells.items k) ≡ false)
first-kept layout mid new apart t k side h g =
    (grown-inside mid new k g h.inside, grown-kind mid new k g h.inside ∙ h.kind)

pub denotes-kept :
    (layout mid new : Layout) (apart : Bool) (t : Tree) (k : ℕ) (side : Side) (θ : Substitution) (val : ℕ → Value)
    → TermLaidOut layout mid apart side t k → Grows mid new → IsValuation θ new.cells.items val
    → val k ≡ tree (instance (of_side apart side θ) t)
denotes-kept layout mid new apart t k side θ val h g valuation = h.denotes θ val (valuation-before θ mid new val g valuation)

-- a list from the item before it on
pub drop-before :
    (terms : List Term) (i : ℕ) (x : Term)
    → 0 < i → i ≤ length terms → x ≡ get_or terms (i - 1) x
    → trees_of (map tree_of (drop (i - 1) terms)) ≡ tree_then (tree_of x) (trees_of (map tree_of (drop i terms)))
drop-before terms i x pos le is =
    let less : i - 1 < length terms = omega arith in
    let next : suc (i - 1) ≡ i = omega arith in
    ap (λ us. trees_of (map tree_of us)) (drop-cons terms (i - 1) x less)
    ∙ ap₂ (λ (y : Term) (n : ℕ). tree_then (tree_of y) (trees_of (map tree_of (drop n terms)))) (sym is) next
