-- Laying out what variables are equal to, cell by cell and place by place.
use Rattle.std.proofs.Common.{◌≡◌, ◌⊎◌, inl, inr, ℕ, ◌+◌, ◌<◌, Bool, true, false, ◌==◌, Option, None, Some, List, [], ◌∷◌, ◌++◌, length, map, take, get_or, refl, ap, ap₂, sym, ◌∙◌, subst, ⊎_elim, arith, eq-eqb, append_assoc}
use Rattle.std.specs.Prelude.{IfSome, is_some}
use Rattle.std.specs.List.{list_all}
use Rattle.std.proofs.lemmas.Bool.{and_parts, and_from, cond-true, cond-false, cases_Bool, eqb-true}
use Rattle.std.proofs.lemmas.List.{length-append, append-nil, map-append, take_more}
use Rattle.std.proofs.lemmas.List.Folds.{list_all-append}
use Rattle.fol_base.proofs.ListLemmas.{take_more_item}
use Rattle.fol_base.specs.Tree.{Tree, variable, application, Trees, no_trees, tree_then, tree_variables, trees_variables}
use Rattle.fol_base.specs.Instance.{Substitution}
use Rattle.fol_base.specs.declared.clause.Side.{Side}
use Rattle.unifier.specs.declared.cells.Cell.{Cell}
use Rattle.unifier.specs.declared.cells.Cell.TheVariants.{Variable, Application, NoTrees, TreeThen}
use Rattle.unifier.specs.declared.layout.Place.{Place}
use Rattle.unifier.specs.declared.layout.Layout.{Layout}
use Rattle.unifier.specs.declared.equation.Equation.{Equation}
use Rattle.unifier.specs.declared.equation.Equations.{Equations}
use Rattle.unifier.specs.Cells.{Value, tree, trees, as_tree, as_trees, cell_at, value_of, is_list, is_variable, IsAfterParts, AreOrdered, HasKinds, AreKinded, IsValuation}
use Rattle.unifier.specs.SolvedForm.{code_of}
use Rattle.unifier.specs.Layout.{cell_of, has_place, all_pass}
use Rattle.unifier.specs.Equations.{Item, ItemPasses, item_under, bound_in}
use Rattle.unifier.specs.Agreeing.{ItemsPass}
use Rattle.unifier.specs.Resolving.{PlacesAgree, IsResolving, GrowsBoth, IsCellAdded, IsPlaceAdded, IsVariableResolved, IsTermResolved, AreTermsResolved, AreResolved}
use Rattle.unifier.proofs.AboutEquations.EquationLemmas.{all-push}
use Rattle.unifier.proofs.AboutLayouts.PlaceLemmas.{cell_of-front, cell_of-back, all_pass-push}
use Rattle.unifier.proofs.AboutLayouts.LayoutLemmas.{length-push, last_or_front, cell_at-front, cell_at-last, ordered-push, kinded-push, valuation-front, valuation-last}

-- ---- growth

pub both-itself : (l : Layout) → GrowsBoth l l
both-itself l = ([], [], sym (append-nil l.cells.items), sym (append-nil l.places.items))

pub both-on : (first second third : Layout) → GrowsBoth first second → GrowsBoth second third → GrowsBoth first third
both-on first second third g h = (
  g.0 ++ h.0,
  g.1 ++ h.1,
  h.2 ∙ ap (λ cs. cs ++ h.0) g.2 ∙ append_assoc first.cells.items g.0 h.0,
  h.3 ∙ ap (λ ps. ps ++ h.1) g.3 ∙ append_assoc first.places.items g.1 h.1,
)

cell-grows : (old new : Layout) (c : Cell) (k : ℕ) → IsCellAdded old new c k → GrowsBoth old new
cell-grows old new c k h = (c ∷ [], [], h.cells, h.places ∙ sym (append-nil old.places.items))

valuation-old :
    (θ : Substitution) (old new : Layout) (val : ℕ → Value) → GrowsBoth old new → IsValuation θ new.cells.items val → IsValuation θ old.cells.items val
valuation-old θ old new val g h =
    valuation-front θ old.cells.items g.0 val (let P : List Cell → Type 0 = λ cs. IsValuation θ cs val in subst P g.2 h)

agree-old :
    (f : Substitution) (old new : Layout) (val : ℕ → Value) → GrowsBoth old new → PlacesAgree f val new.places.items → PlacesAgree f val old.places.items
agree-old f old new val g h w k found = h w k (ap (cell_of w) g.3 ∙ cell_of-front w k old.places.items g.1 found)

inside-on : (old new : Layout) (i : ℕ) → GrowsBoth old new → i < length old.cells.items → i < length new.cells.items
inside-on old new i g h =
    let P : List Cell → Type 0 = λ cs. i < length cs in
    subst P (sym g.2) (omega (arith, length-append old.cells.items g.0))

kind-on :
    (old new : Layout) (i : ℕ) (kind : Bool)
    → GrowsBoth old new → i < length old.cells.items → is_list (cell_at old.cells.items i) ≡ kind → is_list (cell_at new.cells.items i) ≡ kind
kind-on old new i kind g h is = ap (λ cs. is_list (cell_at cs i)) g.2 ∙ ap is_list (cell_at-front old.cells.items g.0 i h) ∙ is

all-further : (p q : ℕ → Bool) (xs : List ℕ) → ((x : ℕ) → p x ≡ true → q x ≡ true) → list_all p xs ≡ true → list_all q xs ≡ true
all-further p q [] h all = refl
all-further p q (x ∷ xs) h all =
    let both = and_parts (p x) (list_all p xs) all in
    and_from (q x) (list_all q xs) (h x both.0) (all-further p q xs h both.1)

still-placed : (old new : Layout) (w : ℕ) → GrowsBoth old new → has_place old.places.items w ≡ true → has_place new.places.items w ≡ true
still-placed old new w g h = by (cell_of w old.places.items) refl h
  where
    by : (o : Option ℕ) → cell_of w old.places.items ≡ o → is_some o ≡ true → has_place new.places.items w ≡ true
    by None e some = cc
    by (Some k) e some = ap is_some (ap (cell_of w) g.3 ∙ cell_of-front w k old.places.items g.1 e)

pub still-all-placed :
    (old new : Layout) (ws : List ℕ) → GrowsBoth old new → list_all (has_place old.places.items) ws ≡ true → list_all (has_place new.places.items) ws ≡ true
still-all-placed old new ws g h =
    all-further (has_place old.places.items) (has_place new.places.items) ws (λ w placed. still-placed old new w g placed) h

still-passes :
    (apart : Bool) (old new : Layout) (a : Item)
    → GrowsBoth old new → ItemPasses apart (has_place old.places.items) a → ItemPasses apart (has_place new.places.items) a
still-passes apart old new a g h =
    all-further (λ v. has_place old.places.items (code_of apart a.0 v)) (λ v. has_place new.places.items (code_of apart a.0 v)) (tree_variables a.1)
    (λ v placed. still-placed old new (code_of apart a.0 v) g placed) h

still-all-pass :
    (apart : Bool) (old new : Layout) (side : Side) (ts : Trees)
    → GrowsBoth old new → ItemsPass apart (has_place old.places.items) side ts → ItemsPass apart (has_place new.places.items) side ts
still-all-pass apart old new side ts g h =
    all-further (λ v. has_place old.places.items (code_of apart side v)) (λ v. has_place new.places.items (code_of apart side v)) (trees_variables ts)
    (λ v placed. still-placed old new (code_of apart side v) g placed) h

-- ---- a cell that is no variable

pub cell-resolving :
    (apart : Bool) (es : Equations) (old new : Layout) (c : Cell) (k : ℕ)
    → IsResolving apart es old → IsAfterParts (length old.cells.items) c → HasKinds old.cells.items c → is_variable c ≡ false
    → IsCellAdded old new c k → IsResolving apart es new
cell-resolving apart es old new c k h after kinds no_variable added =
    let cs : List Cell = old.cells.items in
    let g : GrowsBoth old new = cell-grows old new c k added in
    record {
      ordered = subst AreOrdered (sym added.cells) (ordered-push cs c h.ordered after);
      kinded = subst AreKinded (sym added.cells) (kinded-push cs c h.ordered h.kinded after kinds);
      terms = λ w i found.
          let there = h.terms w i (ap (cell_of w) (sym added.places) ∙ found) in
          (inside-on old new i g there.0, kind-on old new i false g there.0 there.1);
      own = λ i w less is.
          ap (cell_of w) added.places
          ∙ last_or_front cs c i (cell_of w old.places.items ≡ Some i)
          (let P : List Cell → Type 0 = λ ds. i < length ds in subst P added.cells less)
          (λ front. h.own i w front (sym (cell_at-front cs (c ∷ []) i front) ∙ ap (λ ds. cell_at ds i) (sym added.cells) ∙ is))
          (λ last.
          let c_is : c ≡ Variable w = sym (cell_at-last cs c) ∙ ap (cell_at (cs ++ c ∷ [])) (sym last) ∙ ap (λ ds. cell_at ds i) (sym added.cells) ∙ is in
          let wrong : true ≡ false = sym (ap is_variable c_is) ∙ no_variable in cc);
      solves = λ f θ val valuation agree w i a found bound.
          h.solves f θ val (valuation-old θ old new val g valuation) (agree-old f old new val g agree) w i a (ap (cell_of w) (sym added.places) ∙ found) bound;
      closed = λ w i a found bound. still-passes apart old new a g (h.closed w i a (ap (cell_of w) (sym added.places) ∙ found) bound);
      general = λ θ val solves valuation w i found.
          h.general θ val solves (valuation-old θ old new val g valuation) w i (ap (cell_of w) (sym added.places) ∙ found);
    }

-- ---- a place

placed-either :
    (ps : List Place) (p : Place) (v k : ℕ)
    → cell_of v (ps ++ p ∷ []) ≡ Some k → (cell_of v ps ≡ Some k) ⊎ ((v ≡ p.code) × (p.cell ≡ k))
placed-either ps p v k found = by (cell_of v ps) refl
  where
    by : (o : Option ℕ) → cell_of v ps ≡ o → (cell_of v ps ≡ Some k) ⊎ ((v ≡ p.code) × (p.cell ≡ k))
    by (Some j) is = inl (is ∙ sym (cell_of-front v j ps (p ∷ []) is) ∙ found)
    by None is =
        let late : cell_of v (p ∷ []) ≡ Some k = sym (cell_of-back v ps (p ∷ []) is) ∙ found in
        ⊎_elim
        (λ same.
        let here : Some p.cell ≡ Some k = sym (cond-true (v == p.code) (Some p.cell) None same) ∙ late in
        let cell_is : p.cell ≡ k = cc in
        inr (eqb-true v p.code same, cell_is))
        (λ other. let wrong : None ≡ Some k = sym (cond-false (v == p.code) (Some p.cell) None other) ∙ late in absurd cc)
        (cases_Bool (v == p.code))

place-found : (ps : List Place) (p : Place) (v : ℕ) → cell_of v ps ≡ None → v ≡ p.code → cell_of v (ps ++ p ∷ []) ≡ Some p.cell
place-found ps p v none is = cell_of-back v ps (p ∷ []) none ∙ cond-true (v == p.code) (Some p.cell) None (eq-eqb v p.code is)

place-passes :
    (test : ℕ → Bool) (ps qs : List Place) (p : Place)
    → qs ≡ ps ++ p ∷ [] → all_pass test ps ≡ true → test p.code ≡ true → all_pass test qs ≡ true
place-passes test ps qs p is all here = ap (all_pass test) is ∙ all_pass-push test ps p ∙ and_from (all_pass test ps) (test p.code) all here

-- ---- a variable that has its place

pub already-resolved :
    (apart : Bool) (es : Equations) (l : Layout) (w k : ℕ)
    → IsResolving apart es l → cell_of w l.places.items ≡ Some k → IsVariableResolved apart es l l w k
already-resolved apart es l w k h found =
    record { resolving = h; grows = both-itself l; found = found; pass = λ test e passes all. all }

-- ---- a variable without an equation

module _ (apart : Bool) (es : Equations) (old mid new : Layout) (w k : ℕ) (h : IsResolving apart es old)
    (none : cell_of w old.places.items ≡ None) (unbound : bound_in es w ≡ None)
    (cell : IsCellAdded old mid (Variable w) k) (place : IsPlaceAdded mid new w k) where
  free-place : Place
  free-place = record { code = w; cell = k }

  free-cells : new.cells.items ≡ old.cells.items ++ Variable w ∷ []
  free-cells = place.cells ∙ cell.cells

  free-places : new.places.items ≡ old.places.items ++ free-place ∷ []
  unfolding free-place
  free-places = place.places ∙ ap (λ ps. ps ++ free-place ∷ []) cell.places

  free-grows : GrowsBoth old new
  free-grows = (Variable w ∷ [], free-place ∷ [], free-cells, free-places)

  free-either : (v j : ℕ) → cell_of v new.places.items ≡ Some j → (cell_of v old.places.items ≡ Some j) ⊎ ((v ≡ w) × (k ≡ j))
  unfolding free-place
  free-either v j found = placed-either old.places.items free-place v j (sym (ap (cell_of v) free-places) ∙ found)

  free-resolving : IsResolving apart es new
  unfolding free-place free-grows
  free-resolving =
      let cs : List Cell = old.cells.items in
      let ps : List Place = old.places.items in
      let c : Cell = Variable w in
      record {
        ordered = subst AreOrdered (sym free-cells) (ordered-push cs c h.ordered tt);
        kinded = subst AreKinded (sym free-cells) (kinded-push cs c h.ordered h.kinded tt tt);
        terms = λ v j found.
            ⊎_elim
            (λ before. let there = h.terms v j before in (inside-on old new j free-grows there.0, kind-on old new j false free-grows there.0 there.1))
            (λ here. (
              let P : List Cell → Type 0 = λ ds. j < length ds in subst P (sym free-cells) (omega (arith, here.1, cell.number, length-push cs c)),
              ap (λ ds. is_list (cell_at ds j)) free-cells
                  ∙ ap (λ i. is_list (cell_at (cs ++ c ∷ []) i)) (sym here.1 ∙ cell.number)
                  ∙ ap is_list (cell_at-last cs c),
            ))
            (free-either v j found);
        own = λ i v less is.
            ap (cell_of v) free-places
            ∙ last_or_front cs c i (cell_of v (ps ++ free-place ∷ []) ≡ Some i)
            (let P : List Cell → Type 0 = λ ds. i < length ds in subst P free-cells less)
            (λ front.
            cell_of-front v i ps (free-place ∷ []) (h.own i v front (sym (cell_at-front cs (c ∷ []) i front) ∙ ap (λ ds. cell_at ds i) (sym free-cells) ∙ is)))
            (λ last.
            let c_is : Variable w ≡ Variable v = sym (cell_at-last cs c) ∙ ap (cell_at (cs ++ c ∷ [])) (sym last) ∙ ap (λ ds. cell_at ds i) (sym free-cells) ∙ is in
            let v_is : w ≡ v = cc in
            place-found ps free-place v (ap (λ u. cell_of u ps) (sym v_is) ∙ none) (sym v_is) ∙ ap Some (cell.number ∙ sym last));
        solves = λ f θ val valuation agree v j a found bound.
            ⊎_elim
            (λ before. h.solves f θ val (valuation-old θ old new val free-grows valuation) (agree-old f old new val free-grows agree) v j a before bound)
            (λ here. let wrong : None ≡ Some a = sym unbound ∙ ap (bound_in es) (sym here.0) ∙ bound in absurd cc)
            (free-either v j found);
        closed = λ v j a found bound.
            ⊎_elim
            (λ before. still-passes apart old new a free-grows (h.closed v j a before bound))
            (λ here. let wrong : None ≡ Some a = sym unbound ∙ ap (bound_in es) (sym here.0) ∙ bound in absurd cc)
            (free-either v j found);
        general = λ θ val solves valuation v j found.
            ⊎_elim
            (λ before. h.general θ val solves (valuation-old θ old new val free-grows valuation) v j before)
            (λ here.
            let P : List Cell → Type 0 = λ ds. IsValuation θ ds val in
            ap val (sym here.1 ∙ cell.number) ∙ valuation-last θ cs c val (subst P free-cells valuation) ∙ ap (λ u. tree (θ u)) (sym here.0))
            (free-either v j found);
      }

  pub free-resolved : IsVariableResolved apart es old new w k
  unfolding free-place
  free-resolved = record {
    resolving = free-resolving;
    grows = free-grows;
    found = ap (cell_of w) free-places ∙ place-found old.places.items free-place w none refl;
    pass = λ test e passes all. place-passes test old.places.items new.places.items free-place free-places all passes;
  }

-- ---- a variable with an equation

module _ (apart : Bool) (es : Equations) (old mid new : Layout) (w k : ℕ) (a : Item) (h : IsTermResolved apart es old mid a k)
    (bound : bound_in es w ≡ Some a) (none : cell_of w mid.places.items ≡ None) (place : IsPlaceAdded mid new w k) where
  bound-place : Place
  bound-place = record { code = w; cell = k }

  bound-places : new.places.items ≡ mid.places.items ++ bound-place ∷ []
  unfolding bound-place
  bound-places = place.places

  bound-grows : GrowsBoth mid new
  bound-grows = ([], bound-place ∷ [], place.cells ∙ sym (append-nil mid.cells.items), bound-places)

  bound-either : (v j : ℕ) → cell_of v new.places.items ≡ Some j → (cell_of v mid.places.items ≡ Some j) ⊎ ((v ≡ w) × (k ≡ j))
  unfolding bound-place
  bound-either v j found = placed-either mid.places.items bound-place v j (sym (ap (cell_of v) bound-places) ∙ found)

  bound-denotes :
      (f θ : Substitution) (val : ℕ → Value) → IsValuation θ new.cells.items val → PlacesAgree f val new.places.items → val k ≡ tree (item_under apart f a)
  bound-denotes f θ val valuation agree =
      h.denotes f θ val (valuation-old θ mid new val bound-grows valuation) (agree-old f mid new val bound-grows agree)

  bound-resolving : IsResolving apart es new
  bound-resolving = record {
    ordered = subst AreOrdered (sym place.cells) h.resolving.ordered;
    kinded = subst AreKinded (sym place.cells) h.resolving.kinded;
    terms = λ v j found.
        ⊎_elim
        (λ before.
        let there = h.resolving.terms v j before in
        (inside-on mid new j bound-grows there.0, kind-on mid new j false bound-grows there.0 there.1))
        (λ here.
        let P : ℕ → Type 0 = λ i. (i < length new.cells.items) × (is_list (cell_at new.cells.items i) ≡ false) in
        subst P here.1 (inside-on mid new k bound-grows h.inside, kind-on mid new k false bound-grows h.inside h.kind))
        (bound-either v j found);
    own = λ i v less is.
        ap (cell_of v) bound-places
        ∙ cell_of-front v i mid.places.items (bound-place ∷ [])
        (h.resolving.own i v (let P : List Cell → Type 0 = λ ds. i < length ds in subst P place.cells less) (ap (λ ds. cell_at ds i) (sym place.cells) ∙ is));
    solves = λ f θ val valuation agree v j b found is_bound.
        ⊎_elim
        (λ before.
        h.resolving.solves f θ val (valuation-old θ mid new val bound-grows valuation) (agree-old f mid new val bound-grows agree) v j b before is_bound)
        (λ here.
        let items : Some a ≡ Some b = sym bound ∙ ap (bound_in es) (sym here.0) ∙ is_bound in
        let item_is : a ≡ b = cc in
        let both : tree (f v) ≡ tree (item_under apart f b) =
        sym (agree v j found) ∙ ap val (sym here.1) ∙ bound-denotes f θ val valuation agree ∙ ap (λ x. tree (item_under apart f x)) item_is in
        cc)
        (bound-either v j found);
    closed = λ v j b found is_bound.
        ⊎_elim
        (λ before. still-passes apart mid new b bound-grows (h.resolving.closed v j b before is_bound))
        (λ here.
        let items : Some a ≡ Some b = sym bound ∙ ap (bound_in es) (sym here.0) ∙ is_bound in
        let item_is : a ≡ b = cc in
        still-passes apart mid new b bound-grows (let P : Item → Type 0 = λ x. ItemPasses apart (has_place mid.places.items) x in subst P item_is h.placed))
        (bound-either v j found);
    general = λ θ val solves valuation v j found.
        let before_all : PlacesAgree θ val mid.places.items = h.resolving.general θ val solves (valuation-old θ mid new val bound-grows valuation) in
        ⊎_elim
        (λ before. before_all v j before)
        (λ here.
        ap val (sym here.1)
        ∙ h.denotes θ θ val (valuation-old θ mid new val bound-grows valuation) before_all
        ∙ ap tree (sym (solves w a bound))
        ∙ ap (λ u. tree (θ u)) (sym here.0))
        (bound-either v j found);
  }

  pub bound-resolved : IsVariableResolved apart es old new w k
  unfolding bound-place
  bound-resolved = record {
    resolving = bound-resolving;
    grows = both-on old mid new h.grows bound-grows;
    found = ap (cell_of w) bound-places ∙ place-found mid.places.items bound-place w none refl;
    pass = λ test e passes all.
        place-passes test mid.places.items new.places.items bound-place bound-places (h.pass test e (e.0 w a bound).1 all) passes;
  }

-- ---- terms

variable-at :
    (apart : Bool) (es : Equations) (old new : Layout) (side : Side) (v w k : ℕ)
    → w ≡ code_of apart side v → IsVariableResolved apart es old new w k → IsTermResolved apart es old new (side, variable v) k
variable-at apart es old new side v w k is h =
    let there = h.resolving.terms w k h.found in
    record {
      resolving = h.resolving;
      grows = h.grows;
      inside = there.0;
      kind = there.1;
      denotes = λ f θ val valuation agree. agree w k h.found ∙ ap (λ u. tree (f u)) is;
      placed =
          and_from (has_place new.places.items (code_of apart side v)) true
          (ap is_some (ap (λ u. cell_of u new.places.items) (sym is) ∙ h.found)) refl;
      pass = λ test e passes all. h.pass test e (ap test is ∙ (and_parts (test (code_of apart side v)) true passes).0) all;
    }

pub variable-resolved :
    (apart : Bool) (es : Equations) (old new : Layout) (side : Side) (t : Tree) (v w k : ℕ)
    → t ≡ variable v → w ≡ code_of apart side v → IsVariableResolved apart es old new w k → IsTermResolved apart es old new (side, t) k
variable-resolved apart es old new side t v w k t_is is h =
    let P : Tree → Type 0 = λ u. IsTermResolved apart es old new (side, u) k in
    subst P (sym t_is) (variable-at apart es old new side v w k is h)

added-inside : (old new : Layout) (c : Cell) (k : ℕ) → IsCellAdded old new c k → k < length new.cells.items
added-inside old new c k h =
    let P : List Cell → Type 0 = λ cs. k < length cs in
    subst P (sym h.cells) (omega (arith, h.number, length-push old.cells.items c))

added-cell : (old new : Layout) (c : Cell) (k : ℕ) → IsCellAdded old new c k → cell_at new.cells.items k ≡ c
added-cell old new c k h =
    ap (λ cs. cell_at cs k) h.cells ∙ ap (cell_at (old.cells.items ++ c ∷ [])) h.number ∙ cell_at-last old.cells.items c

application-at :
    (apart : Bool) (es : Equations) (old mid new : Layout) (side : Side) (f l k : ℕ) (ts : Trees)
    → AreTermsResolved apart es old mid side ts l → IsCellAdded mid new (Application f l) k
    → IsTermResolved apart es old new (side, application f ts) k
application-at apart es old mid new side f l k ts list added =
    let c : Cell = Application f l in
    let g : GrowsBoth mid new = cell-grows mid new c k added in
    record {
      resolving = cell-resolving apart es mid new c k list.resolving list.inside list.kind refl added;
      grows = both-on old mid new list.grows g;
      inside = added-inside mid new c k added;
      kind = ap is_list (added-cell mid new c k added);
      denotes = λ h θ val valuation agree.
          valuation k (added-inside mid new c k added)
          ∙ ap (value_of θ val) (added-cell mid new c k added)
          ∙ ap (λ u. tree (application f (as_trees u))) (list.denotes h θ val (valuation-old θ mid new val g valuation) (agree-old h mid new val g agree));
      placed = still-all-pass apart mid new side ts g list.placed;
      pass = λ test e passes all. ap (all_pass test) added.places ∙ list.pass test e passes all;
    }

pub application-resolved :
    (apart : Bool) (es : Equations) (old mid new : Layout) (side : Side) (t : Tree) (f l k : ℕ) (ts : Trees)
    → t ≡ application f ts → AreTermsResolved apart es old mid side ts l → IsCellAdded mid new (Application f l) k
    → IsTermResolved apart es old new (side, t) k
application-resolved apart es old mid new side t f l k ts t_is list added =
    let P : Tree → Type 0 = λ u. IsTermResolved apart es old new (side, u) k in
    subst P (sym t_is) (application-at apart es old mid new side f l k ts list added)

pub no-terms-resolved :
    (apart : Bool) (es : Equations) (old new : Layout) (side : Side) (k : ℕ)
    → IsResolving apart es old → IsCellAdded old new NoTrees k → AreTermsResolved apart es old new side no_trees k
no-terms-resolved apart es old new side k h added = record {
  resolving = cell-resolving apart es old new NoTrees k h tt tt refl added;
  grows = cell-grows old new NoTrees k added;
  inside = added-inside old new NoTrees k added;
  kind = ap is_list (added-cell old new NoTrees k added);
  denotes = λ f θ val valuation agree. valuation k (added-inside old new NoTrees k added) ∙ ap (value_of θ val) (added-cell old new NoTrees k added);
  placed = refl;
  pass = λ test e passes all. ap (all_pass test) added.places ∙ all;
}

passing-both :
    (apart : Bool) (test : ℕ → Bool) (side : Side) (x : Tree) (xs : Trees)
    → ItemsPass apart test side (tree_then x xs) → ItemPasses apart test (side, x) × ItemsPass apart test side xs
passing-both apart test side x xs k =
    let p : ℕ → Bool = λ v. test (code_of apart side v) in
    let both = and_parts (list_all p (tree_variables x)) (list_all p (trees_variables xs)) (sym (list_all-append p (tree_variables x) (trees_variables xs)) ∙ k) in
    (both.0, both.1)

passing-more :
    (apart : Bool) (test : ℕ → Bool) (side : Side) (x : Tree) (xs : Trees)
    → ItemPasses apart test (side, x) → ItemsPass apart test side xs → ItemsPass apart test side (tree_then x xs)
passing-more apart test side x xs first rest =
    let p : ℕ → Bool = λ v. test (code_of apart side v) in
    list_all-append p (tree_variables x) (trees_variables xs)
    ∙ and_from (list_all p (tree_variables x)) (list_all p (trees_variables xs)) first rest

pub more-terms-resolved :
    (apart : Bool) (es : Equations) (old middle mid new : Layout) (side : Side) (t : Tree) (ts : Trees) (rest first k : ℕ)
    → AreTermsResolved apart es old middle side ts rest → IsTermResolved apart es middle mid (side, t) first
    → IsCellAdded mid new (TreeThen first rest) k → AreTermsResolved apart es old new side (tree_then t ts) k
more-terms-resolved apart es old middle mid new side t ts rest first k list one added =
    let c : Cell = TreeThen first rest in
    let g : GrowsBoth mid new = cell-grows mid new c k added in
    let g_all : GrowsBoth middle new = both-on middle mid new one.grows g in
    record {
      resolving =
          cell-resolving apart es mid new c k one.resolving (one.inside, inside-on middle mid rest one.grows list.inside)
          (one.kind, kind-on middle mid rest true one.grows list.inside list.kind) refl added;
      grows = both-on old middle new list.grows g_all;
      inside = added-inside mid new c k added;
      kind = ap is_list (added-cell mid new c k added);
      denotes = λ f θ val valuation agree.
          valuation k (added-inside mid new c k added)
          ∙ ap (value_of θ val) (added-cell mid new c k added)
          ∙ ap₂ (λ u v. trees (tree_then (as_tree u) (as_trees v)))
          (one.denotes f θ val (valuation-old θ mid new val g valuation) (agree-old f mid new val g agree))
          (list.denotes f θ val (valuation-old θ middle new val g_all valuation) (agree-old f middle new val g_all agree));
      placed =
          passing-more apart (has_place new.places.items) side t ts (still-passes apart mid new (side, t) g one.placed)
          (still-all-pass apart middle new side ts g_all list.placed);
      pass = λ test e passes all.
          let both = passing-both apart test side t ts passes in
          ap (all_pass test) added.places ∙ one.pass test e both.0 (list.pass test e both.1 all);
    }

-- ---- several variables

pub nothing-resolved : (apart : Bool) (es : Equations) (l : Layout) → IsResolving apart es l → AreResolved apart es l l []
nothing-resolved apart es l h = record { resolving = h; grows = both-itself l; placed = refl; pass = λ test e passes all. all }

pub more-resolved :
    (apart : Bool) (es : Equations) (old mid new : Layout) (ws : List ℕ) (w k : ℕ)
    → AreResolved apart es old mid ws → IsVariableResolved apart es mid new w k → AreResolved apart es old new (ws ++ w ∷ [])
more-resolved apart es old mid new ws w k before one = record {
  resolving = one.resolving;
  grows = both-on old mid new before.grows one.grows;
  placed =
      all-push (has_place new.places.items) ws w
      ∙ and_from (list_all (has_place new.places.items) ws) (has_place new.places.items w) (still-all-placed mid new ws one.grows before.placed)
      (ap is_some one.found);
  pass = λ test e passes all.
      let both = and_parts (list_all test ws) (test w) (sym (all-push test ws w) ∙ passes) in
      one.pass test e both.1 (before.pass test e both.0 all);
}

-- as the code has it
more-resolved-if :
    (apart : Bool) (es : Equations) (old mid new : Layout) (ws : List ℕ) (w : ℕ) (o : Option ℕ)
    → AreResolved apart es old mid ws → IfSome o (IsVariableResolved apart es mid new w) → is_some o ≡ true → AreResolved apart es old new (ws ++ w ∷ [])
more-resolved-if apart es old mid new ws w None before one some = cc
more-resolved-if apart es old mid new ws w (Some k) before one some = more-resolved apart es old mid new ws w k before one

pub more-noted-resolved :
    (apart : Bool) (es : Equations) (old mid new : Layout) (vs : List ℕ) (i : ℕ) (o : Option ℕ)
    → i < length vs → AreResolved apart es old mid (take i vs) → IfSome o (IsVariableResolved apart es mid new (get_or vs i 0)) → is_some o ≡ true
    → AreResolved apart es old new (take (i + 1) vs)
more-noted-resolved apart es old mid new vs i o less before one some =
    subst (AreResolved apart es old new) (sym (take_more vs i 0 less)) (more-resolved-if apart es old mid new (take i vs) (get_or vs i 0) o before one some)

pub more-equations-resolved :
    (apart : Bool) (es : Equations) (old mid new : Layout) (ds : List Equation) (i : ℕ) (e : Equation) (o : Option ℕ)
    → i < length ds → e ≡ get_or ds i e → AreResolved apart es old mid (map (λ (d : Equation). d.code) (take i ds))
    → IfSome o (IsVariableResolved apart es mid new e.code) → is_some o ≡ true
    → AreResolved apart es old new (map (λ (d : Equation). d.code) (take (i + 1) ds))
more-equations-resolved apart es old mid new ds i e o less is before one some =
    let code : Equation → ℕ = λ d. d.code in
    subst (AreResolved apart es old new) (sym (ap (map code) (take_more_item ds i e less is) ∙ map-append code (take i ds) (e ∷ [])))
    (more-resolved-if apart es old mid new (map code (take i ds)) e.code o before one some)
