-- The walk finds exactly the matchers that have the pairs handed in.
use Rattle.std.proofs.Common.{◌≡◌, ◌↔◌, ℕ, zero, suc, ◌+◌, ◌<◌, ◌≤◌, get_or, Bool, true, false, ◌&&◌, ◌||◌, ◌==◌, cond, Option, None, Some, List, [], ◌∷◌, ◌++◌, length, map, take, append-nil, append_assoc, refl, ap, ap₂, sym, ◌∙◌, subst, ⊎_elim, arith, eq-eqb}
use Rattle.std.specs.Prelude.{nat_lt, option_and_then, unwrap_or, if◌then◌else◌}
use Rattle.std.specs.List.{list_any, list_all}
use Rattle.std.proofs.lemmas.List.{map-append, length-take}
use Rattle.std.proofs.lemmas.List.Folds.{list_all-append, list_all-map}
use Rattle.std.proofs.lemmas.Bool.{and_parts, and_from, cond-true, cond-false, cases_Bool, eqb-true, true≢false}
use Rattle.fol_base.specs.Tree.{Tree, variable, application, Trees, no_trees, tree_then, trees_of, tree_eq, tree_variables, trees_variables, VariablesBelow}
use Rattle.fol_base.specs.Instance.{Substitution, instance, instances, substitution}
use Rattle.fol_base.specs.Canonical.{terms_from}
use Rattle.fol_base.proofs.AboutCanonical.CanonicalLemmas.{terms_from-at}
use Rattle.fol_base.proofs.AboutTerms.TreeLemmas.{tree_eq-refl, tree_eq-true, and_left, and_right}
use Rattle.unifier.specs.Matching.{variables_of, term_for, by_pairs, are_below, NoVariableTwice, HasPairs, with_further, IsMatched, IsExtended, NoMatcher}
use Rattle.fol_base.specs.Term.{tree_of}
use Rattle.unifier.specs.declared.matched.Pair.{Pair}
use Rattle.unifier.specs.Walk.{pair_of, met, walk, walk_all}
use Rattle.unifier.proofs.AboutLayouts.PlaceLemmas.{ltb-is}
use Rattle.unifier.proofs.AboutLayouts.BoundLemmas.{below-pass}
use Rattle.list_lemmas.proofs.Numbers.{less-says, differs-turned}

abbrev pub Pairs : Type 0
Pairs = List (ℕ × Tree)

abbrev Has : Substitution → ℕ × Tree → Type 0
Has σ p = σ p.0 ≡ p.1

-- ---- lists of pairs

all-append : (σ : Substitution) (ps qs : Pairs) → HasPairs ps σ → HasPairs qs σ → HasPairs (ps ++ qs) σ
all-append σ [] qs h k = k
all-append σ (p ∷ ps) qs h k = (h.0, all-append σ ps qs h.1 k)

all-front : (σ : Substitution) (ps qs : Pairs) → HasPairs (ps ++ qs) σ → HasPairs ps σ
all-front σ [] qs h = tt
all-front σ (p ∷ ps) qs h = (h.0, all-front σ ps qs h.1)

pub all-back : (σ : Substitution) (ps qs : Pairs) → HasPairs (ps ++ qs) σ → HasPairs qs σ
all-back σ [] qs h = h
all-back σ (p ∷ ps) qs h = all-back σ ps qs h.1

-- what a substitution with the pairs puts in
has-term : (σ : Substitution) (v : ℕ) (t : Tree) (ps : Pairs) → term_for v ps ≡ Some t → HasPairs ps σ → σ v ≡ t
has-term σ v t [] e h = cc
has-term σ v t (p ∷ ps) e h =
    ⊎_elim
    (λ same.
    let found : Some p.1 ≡ Some t = sym (cond-true (v == p.0) (Some p.1) (term_for v ps) same) ∙ e in
    let is_t : p.1 ≡ t = cc in
    ap σ (eqb-true v p.0 same) ∙ h.0 ∙ is_t)
    (λ other. has-term σ v t ps (sym (cond-false (v == p.0) (Some p.1) (term_for v ps) other) ∙ e) h.1)
    (cases_Bool (v == p.0))

abbrev has_pair : List ℕ → ℕ → Bool
has_pair vs w = list_any (λ v. w == v) vs

absent-listed : (v : ℕ) (ps : Pairs) → term_for v ps ≡ None → has_pair (variables_of ps) v ≡ false
absent-listed v [] e = refl
absent-listed v (p ∷ ps) e =
    ⊎_elim
    (λ same. let wrong : Some p.1 ≡ None = sym (cond-true (v == p.0) (Some p.1) (term_for v ps) same) ∙ e in absurd cc)
    (λ other.
    ap (λ b. b || has_pair (variables_of ps) v) other
    ∙ absent-listed v ps (sym (cond-false (v == p.0) (Some p.1) (term_for v ps) other) ∙ e))
    (cases_Bool (v == p.0))

there-listed : (v : ℕ) (t : Tree) (ps : Pairs) → term_for v ps ≡ Some t → has_pair (variables_of ps) v ≡ true
there-listed v t [] e = cc
there-listed v t (p ∷ ps) e =
    ⊎_elim
    (λ same. ap (λ b. b || has_pair (variables_of ps) v) same)
    (λ other.
    ap (λ b. b || has_pair (variables_of ps) v) other
    ∙ there-listed v t ps (sym (cond-false (v == p.0) (Some p.1) (term_for v ps) other) ∙ e))
    (cases_Bool (v == p.0))

pub variables-append : (ps qs : Pairs) → variables_of (ps ++ qs) ≡ variables_of ps ++ variables_of qs
variables-append [] qs = refl
variables-append (p ∷ ps) qs = ap (λ vs. p.0 ∷ vs) (variables-append ps qs)

with_further-append : (vs xs ys : List ℕ) → with_further vs (xs ++ ys) ≡ with_further (with_further vs xs) ys
with_further-append vs [] ys = refl
with_further-append vs (x ∷ xs) ys = with_further-append (cond (has_pair vs x) vs (vs ++ x ∷ [])) xs ys

-- a pair of a variable that has none leaves no variable twice
term_for-push : (v w : ℕ) (u : Tree) (ps : Pairs) → (v == w) ≡ false → term_for v ps ≡ None → term_for v (ps ++ (w, u) ∷ []) ≡ None
term_for-push v w u [] n e = cond-false (v == w) (Some u) None n
term_for-push v w u (p ∷ ps) n e =
    ⊎_elim
    (λ same. let wrong : Some p.1 ≡ None = sym (cond-true (v == p.0) (Some p.1) (term_for v ps) same) ∙ e in absurd cc)
    (λ other.
    cond-false (v == p.0) (Some p.1) (term_for v (ps ++ (w, u) ∷ [])) other
    ∙ term_for-push v w u ps n (sym (cond-false (v == p.0) (Some p.1) (term_for v ps) other) ∙ e))
    (cases_Bool (v == p.0))

pub NoVariableTwice-push :
    (v : ℕ) (u : Tree) (ps : Pairs) → NoVariableTwice ps → term_for v ps ≡ None → NoVariableTwice (ps ++ (v, u) ∷ [])
NoVariableTwice-push v u [] h e = (refl, tt)
NoVariableTwice-push v u (p ∷ ps) h e =
    ⊎_elim
    (λ same. let wrong : Some p.1 ≡ None = sym (cond-true (v == p.0) (Some p.1) (term_for v ps) same) ∙ e in absurd cc)
    (λ other. (
      term_for-push p.0 v u ps (differs-turned v p.0 other) h.0,
      NoVariableTwice-push v u ps h.1 (sym (cond-false (v == p.0) (Some p.1) (term_for v ps) other) ∙ e),
    ))
    (cases_Bool (v == p.0))

-- ---- what is found

-- as for one pattern, for a list
pub record AreMatched (so_far : Pairs) (patterns : Trees) (targets : Trees) (found : Pairs) : Type 0 where
  pub further : Pairs
  pub extends : found ≡ so_far ++ further
  pub covers : variables_of found ≡ with_further (variables_of so_far) (trees_variables patterns)
  pub exact : (σ : Substitution) → HasPairs found σ ↔ (HasPairs so_far σ × (instances σ patterns ≡ targets))

met-found : (ps : Pairs) (v : ℕ) (u : Tree) (qs : Pairs) (o : Option Tree) → term_for v ps ≡ o → met o ps v u ≡ Some qs → IsMatched ps (variable v) u qs
met-found ps v u qs None e m =
    let is : ps ++ (v, u) ∷ [] ≡ qs = cc in
    let made : IsMatched ps (variable v) u (ps ++ (v, u) ∷ []) = record {
      further = (v, u) ∷ [];
      extends = refl;
      covers =
          variables-append ps ((v, u) ∷ [])
          ∙ sym (cond-false (has_pair (variables_of ps) v) (variables_of ps) (variables_of ps ++ v ∷ []) (absent-listed v ps e));
      exact = λ σ. (
        (λ h. (all-front σ ps ((v, u) ∷ []) h, (all-back σ ps ((v, u) ∷ []) h).0)),
        (λ h. all-append σ ps ((v, u) ∷ []) h.0 (h.1, tt)),
      );
    } in
    subst (IsMatched ps (variable v) u) is made
met-found ps v u qs (Some t) e m =
    ⊎_elim
    (λ same.
    let same_list : Some ps ≡ Some qs = sym (cond-true (tree_eq t u) (Some ps) None same) ∙ m in
    let is : ps ≡ qs = cc in
    let made : IsMatched ps (variable v) u ps = record {
      further = [];
      extends = sym (append-nil ps);
      covers = sym (cond-true (has_pair (variables_of ps) v) (variables_of ps) (variables_of ps ++ v ∷ []) (there-listed v t ps e));
      exact = λ σ. ((λ h. (h, has-term σ v t ps e h ∙ tree_eq-true t u same)), (λ h. h.0));
    } in
    subst (IsMatched ps (variable v) u) is made)
    (λ other. let wrong : None ≡ Some qs = sym (cond-false (tree_eq t u) (Some ps) None other) ∙ m in absurd cc)
    (cases_Bool (tree_eq t u))

met-none : (ps : Pairs) (v : ℕ) (u : Tree) (o : Option Tree) → term_for v ps ≡ o → met o ps v u ≡ None → NoMatcher ps (variable v) u
met-none ps v u None e m = cc
met-none ps v u (Some t) e m =
    ⊎_elim
    (λ same. let wrong : Some ps ≡ None = sym (cond-true (tree_eq t u) (Some ps) None same) ∙ m in absurd cc)
    (λ other σ h k.
    let is : t ≡ u = sym (has-term σ v t ps e h) ∙ k in
    let P : Tree → Type 0 = λ w. tree_eq t w ≡ true in
    absurd (true≢false (sym (subst P is (tree_eq-refl t)) ∙ other)))
    (cases_Bool (tree_eq t u))

-- the first of two lists, then the rest with what was found
joined :
    (ps qs rs : Pairs) (t u : Tree) (ts us : Trees)
    → IsMatched ps t u qs → AreMatched qs ts us rs → AreMatched ps (tree_then t ts) (tree_then u us) rs
joined ps qs rs t u ts us first rest = record {
  further = first.further ++ rest.further;
  extends = rest.extends ∙ ap (λ l. l ++ rest.further) first.extends ∙ append_assoc ps first.further rest.further;
  covers =
      rest.covers
      ∙ ap (λ vs. with_further vs (trees_variables ts)) first.covers
      ∙ sym (with_further-append (variables_of ps) (tree_variables t) (trees_variables ts));
  exact = λ σ. (
    (λ h.
        let later = (rest.exact σ).0 h in
        let earlier = (first.exact σ).0 later.0 in
        (earlier.0, ap₂ tree_then earlier.1 later.1)),
    (λ h.
        let both : tree_then (instance σ t) (instances σ ts) ≡ tree_then u us = h.1 in
        let here : instance σ t ≡ u = cc in
        let there : instances σ ts ≡ us = cc in
        (rest.exact σ).1 ((first.exact σ).1 (h.0, here), there)),
  );
}

then_found :
    (ps qs : Pairs) (t u : Tree) (ts us : Trees) (o : Option Pairs)
    → ((rs : Pairs) → o ≡ Some rs → IsMatched ps t u rs)
    → ((rs : Pairs) → walk_all rs ts us ≡ Some qs → AreMatched rs ts us qs)
    → option_and_then {T = Pairs} {U = Pairs} (λ found. walk_all found ts us) o ≡ Some qs
    → AreMatched ps (tree_then t ts) (tree_then u us) qs
then_found ps qs t u ts us None first rest e = cc
then_found ps qs t u ts us (Some rs) first rest e = joined ps rs qs t u ts us (first rs refl) (rest rs e)

then_none :
    (ps : Pairs) (t u : Tree) (ts us : Trees) (o : Option Pairs)
    → (o ≡ None → NoMatcher ps t u)
    → ((rs : Pairs) → o ≡ Some rs → IsMatched ps t u rs)
    → ((rs : Pairs) → walk_all rs ts us ≡ None → (σ : Substitution) → HasPairs rs σ → instances σ ts ≡ us → ⊥)
    → option_and_then {T = Pairs} {U = Pairs} (λ found. walk_all found ts us) o ≡ None
    → (σ : Substitution) → HasPairs ps σ → instances σ (tree_then t ts) ≡ tree_then u us → ⊥
then_none ps t u ts us None none first rest e σ h i =
    let both : tree_then (instance σ t) (instances σ ts) ≡ tree_then u us = i in
    let here : instance σ t ≡ u = cc in
    none refl σ h here
then_none ps t u ts us (Some rs) none first rest e σ h i =
    let both : tree_then (instance σ t) (instances σ ts) ≡ tree_then u us = i in
    let here : instance σ t ≡ u = cc in
    let there : instances σ ts ≡ us = cc in
    rest rs e σ (((first rs refl).exact σ).1 (h, here)) there

mutual
  pub walk-found : (ps : Pairs) (t u : Tree) (qs : Pairs) → walk ps t u ≡ Some qs → IsMatched ps t u qs
  walk-found ps (variable v) u qs e = met-found ps v u qs (term_for v ps) refl e
  walk-found ps (application f ts) (variable w) qs e = cc
  walk-found ps (application f ts) (application g us) qs e =
      ⊎_elim
      (λ same.
      let all = walk_all-found ps ts us qs (sym (cond-true (f == g) (walk_all ps ts us) None same) ∙ e) in
      record {
        further = all.further;
        extends = all.extends;
        covers = all.covers;
        exact = λ σ. (
          (λ h. let both = (all.exact σ).0 h in (both.0, ap₂ application (eqb-true f g same) both.1)),
          (λ h.
              let one : application f (instances σ ts) ≡ application g us = h.1 in
              let arguments : instances σ ts ≡ us = cc in
              (all.exact σ).1 (h.0, arguments)),
        );
      })
      (λ other. let wrong : None ≡ Some qs = sym (cond-false (f == g) (walk_all ps ts us) None other) ∙ e in absurd cc)
      (cases_Bool (f == g))

  walk_all-found : (ps : Pairs) (ts us : Trees) (qs : Pairs) → walk_all ps ts us ≡ Some qs → AreMatched ps ts us qs
  walk_all-found ps no_trees no_trees qs e =
      let is : ps ≡ qs = cc in
      let made : AreMatched ps no_trees no_trees ps = record {
        further = [];
        extends = sym (append-nil ps);
        covers = refl;
        exact = λ σ. ((λ h. (h, refl)), (λ h. h.0));
      } in
      subst (AreMatched ps no_trees no_trees) is made
  walk_all-found ps no_trees (tree_then u us) qs e = cc
  walk_all-found ps (tree_then t ts) no_trees qs e = cc
  walk_all-found ps (tree_then t ts) (tree_then u us) qs e =
      then_found ps qs t u ts us (walk ps t u) (λ rs k. walk-found ps t u rs k) (λ rs k. walk_all-found rs ts us qs k) e

mutual
  pub walk-none : (ps : Pairs) (t u : Tree) → walk ps t u ≡ None → NoMatcher ps t u
  walk-none ps (variable v) u e = met-none ps v u (term_for v ps) refl e
  walk-none ps (application f ts) (variable w) e = λ σ h k. let wrong : application f (instances σ ts) ≡ variable w = k in cc
  walk-none ps (application f ts) (application g us) e =
      ⊎_elim
      (λ same σ h k.
      let one : application f (instances σ ts) ≡ application g us = k in
      let arguments : instances σ ts ≡ us = cc in
      walk_all-none ps ts us (sym (cond-true (f == g) (walk_all ps ts us) None same) ∙ e) σ h arguments)
      (λ other σ h k.
      let one : application f (instances σ ts) ≡ application g us = k in
      let heads : f ≡ g = cc in
      absurd (true≢false (sym (eq-eqb f g heads) ∙ other)))
      (cases_Bool (f == g))

  walk_all-none :
      (ps : Pairs) (ts us : Trees)
      → walk_all ps ts us ≡ None → (σ : Substitution) → HasPairs ps σ → instances σ ts ≡ us → ⊥
  walk_all-none ps no_trees no_trees e = cc
  walk_all-none ps no_trees (tree_then u us) e = λ σ h k. let wrong : no_trees ≡ tree_then u us = k in cc
  walk_all-none ps (tree_then t ts) no_trees e = λ σ h k. let wrong : tree_then (instance σ t) (instances σ ts) ≡ no_trees = k in cc
  walk_all-none ps (tree_then t ts) (tree_then u us) e =
      then_none ps t u ts us (walk ps t u) (λ k. walk-none ps t u k) (λ rs k. walk-found ps t u rs k) (λ rs k. walk_all-none rs ts us k) e

-- ---- as the code has them

-- a further pair is pushed
pub NoVariableTwice-pushed :
    (items new : List Pair) (p : Pair)
    → new ≡ items ++ p ∷ [] → NoVariableTwice (map pair_of items) → term_for p.variable (map pair_of items) ≡ None
    → NoVariableTwice (map pair_of new)
NoVariableTwice-pushed items new p e h k =
    subst NoVariableTwice (sym (ap (map pair_of) e ∙ map-append pair_of items (p ∷ [])))
    (NoVariableTwice-push p.variable (tree_of p.term.now) (map pair_of items) h k)

-- pairs are cut off
absent-front : (v n : ℕ) (ps : Pairs) → term_for v ps ≡ None → term_for v (take n ps) ≡ None
absent-front v zero ps h = refl
absent-front v (suc n) [] h = refl
absent-front v (suc n) (p ∷ ps) h =
    ⊎_elim
    (λ same. let wrong : Some p.1 ≡ None = sym (cond-true (v == p.0) (Some p.1) (term_for v ps) same) ∙ h in absurd cc)
    (λ other.
    cond-false (v == p.0) (Some p.1) (term_for v (take n ps)) other
    ∙ absent-front v n ps (sym (cond-false (v == p.0) (Some p.1) (term_for v ps) other) ∙ h))
    (cases_Bool (v == p.0))

NoVariableTwice-front : (n : ℕ) (ps : Pairs) → NoVariableTwice ps → NoVariableTwice (take n ps)
NoVariableTwice-front zero ps h = tt
NoVariableTwice-front (suc n) [] h = tt
NoVariableTwice-front (suc n) (p ∷ ps) h = (absent-front p.0 n ps h.0, NoVariableTwice-front n ps h.1)

map-front : (n : ℕ) (items : List Pair) → map pair_of (take n items) ≡ take n (map pair_of items)
map-front zero items = refl
map-front (suc n) [] = refl
map-front (suc n) (p ∷ items) = ap (λ (ps : Pairs). pair_of p ∷ ps) (map-front n items)

pub cut-pairs : (n : ℕ) (items new : List Pair) (ps : Pairs) → new ≡ take n items → map pair_of items ≡ ps → map pair_of new ≡ take n ps
cut-pairs n items new ps e h = ap (map pair_of) e ∙ map-front n items ∙ ap (take n) h

pub NoVariableTwice-cut :
    (n : ℕ) (items new : List Pair) → new ≡ take n items → NoVariableTwice (map pair_of items) → NoVariableTwice (map pair_of new)
NoVariableTwice-cut n items new e h =
    subst NoVariableTwice (sym (cut-pairs n items new (map pair_of items) e refl)) (NoVariableTwice-front n (map pair_of items) h)

nothing :
    (ts us : Trees) (o : Option Pairs)
    → ((rs : Pairs) → walk_all rs ts us ≡ None)
    → option_and_then {T = Pairs} {U = Pairs} (λ found. walk_all found ts us) o ≡ None
nothing ts us None h = refl
nothing ts us (Some rs) h = h rs

-- lists of different lengths don't match
pub walk_all-lengths :
    (ps : Pairs) (ts us : List Tree) → (length ts ≡ length us → ⊥) → walk_all ps (trees_of ts) (trees_of us) ≡ None
walk_all-lengths ps [] [] h = absurd (h refl)
walk_all-lengths ps [] (u ∷ us) h = refl
walk_all-lengths ps (t ∷ ts) [] h = refl
walk_all-lengths ps (t ∷ ts) (u ∷ us) h =
    nothing (trees_of ts) (trees_of us) (walk ps t u) (λ rs. walk_all-lengths rs ts us (λ e. h (ap suc e)))

-- the walk's answer, from a copy of the pairs handed in
pub answer-found :
    (ps so_far qs : Pairs) (t u : Tree) (fits : Bool)
    → ps ≡ so_far → walk ps t u ≡ (if fits then Some qs else None) → fits ≡ true → IsMatched so_far t u qs
answer-found ps so_far qs t u true e w h = subst (λ (rs : Pairs). IsMatched rs t u qs) e (walk-found ps t u qs w)
answer-found ps so_far qs t u false e w h = absurd (true≢false (sym h))

pub answer-none :
    (ps so_far qs : Pairs) (t u : Tree) (fits : Bool)
    → ps ≡ so_far → walk ps t u ≡ (if fits then Some qs else None) → fits ≡ false → NoMatcher so_far t u
answer-none ps so_far qs t u false e w h = subst (λ (rs : Pairs). NoMatcher rs t u) e (walk-none ps t u w)
answer-none ps so_far qs t u true e w h = absurd (true≢false h)

-- so `extend` answers
pub extended :
    (ps qs : Pairs) (t u : Tree) (fits : Bool) → walk ps t u ≡ (if fits then Some qs else None) → fits ≡ true → IsExtended ps t u qs true
extended ps qs t u fits w h = answer-found ps ps qs t u fits refl w h

pub not-extended :
    (ps qs cut : Pairs) (t u : Tree) (fits : Bool)
    → walk ps t u ≡ (if fits then Some qs else None) → fits ≡ false → cut ≡ ps → IsExtended ps t u cut false
not-extended ps qs cut t u fits w h same = (answer-none ps ps qs t u fits refl w h, same)

-- and `match_onto`, from a copy of the pairs handed in
pub extended-found :
    (ps so_far qs : Pairs) (t u : Tree) (fits : Bool) → ps ≡ so_far → IsExtended ps t u qs fits → fits ≡ true → IsMatched so_far t u qs
extended-found ps so_far qs t u true e h yes_ = subst (λ (rs : Pairs). IsMatched rs t u qs) e h
extended-found ps so_far qs t u false e h yes_ = absurd (true≢false (sym yes_))

pub extended-none :
    (ps so_far qs : Pairs) (t u : Tree) (fits : Bool) → ps ≡ so_far → IsExtended ps t u qs fits → fits ≡ false → NoMatcher so_far t u
extended-none ps so_far qs t u false e h no_ = subst (λ (rs : Pairs). NoMatcher rs t u) e h.0
extended-none ps so_far qs t u true e h no_ = absurd (true≢false no_)

-- pairs that begin with others, which begin with others
pub begins-again : (ps qs rs : Pairs) → take (length ps) qs ≡ ps → take (length qs) rs ≡ qs → take (length ps) rs ≡ ps
begins-again ps qs rs h k =
    let longer : length ps ≤ length qs = shorter (length ps) qs ps h in
    let front : take (length ps) (take (length qs) rs) ≡ take (length ps) rs = take-take (length ps) (length qs) rs longer in
    sym front ∙ ap (take (length ps)) k ∙ h
  where
    shorter : (n : ℕ) (xs ys : Pairs) → take n xs ≡ ys → length ys ≤ length xs
    shorter n xs ys e = omega (arith, sym (ap length e), length-take n xs)

    take-take : (n m : ℕ) (xs : Pairs) → n ≤ m → take n (take m xs) ≡ take n xs
    take-take zero m xs less = refl
    take-take (suc n) zero xs less = absurd (omega arith)
    take-take (suc n) (suc m) [] less = refl
    take-take (suc n) (suc m) (x ∷ xs) less = ap (λ (ys : Pairs). x ∷ ys) (take-take n m xs (omega arith))

-- ---- counts above the variables

further-pass :
    (test : ℕ → Bool) (vs ws : List ℕ)
    → list_all test vs ≡ true → list_all test ws ≡ true → list_all test (with_further vs ws) ≡ true
further-pass test vs [] h k = h
further-pass test vs (w ∷ ws) h k =
    let both = and_parts (test w) (list_all test ws) k in
    further-pass test (if has_pair vs w then vs else vs ++ w ∷ []) ws (either (has_pair vs w) both.0) both.1
  where
    either : (known : Bool) → test w ≡ true → list_all test (if known then vs else vs ++ w ∷ []) ≡ true
    either true here = h
    either false here =
        list_all-append test vs (w ∷ []) ∙ and_from (list_all test vs) (test w && true) h (and_from (test w) true here refl)

matched-below :
    (n : ℕ) (so_far found : Pairs) (t u : Tree)
    → IsMatched so_far t u found → VariablesBelow n t → are_below n so_far ≡ true → are_below n found ≡ true
matched-below n so_far found t u h below all =
    let test : ℕ → Bool = λ v. nat_lt v n in
    let number : ℕ × Tree → ℕ = λ (p : ℕ × Tree). p.0 in
    sym (list_all-map test number found)
    ∙ ap (list_all test) h.covers
    ∙ further-pass test (variables_of so_far) (tree_variables t) (list_all-map test number so_far ∙ all)
    (below-pass test n t (λ v less. ltb-is v n less) below)

pub answer-below :
    (ps so_far qs : Pairs) (t u : Tree) (fits : Bool)
    → ps ≡ so_far → walk ps t u ≡ (if fits then Some qs else None) → fits ≡ true
    → (n : ℕ) → VariablesBelow n t → are_below n so_far ≡ true → are_below n qs ≡ true
answer-below ps so_far qs t u fits e w h n below all =
    matched-below n so_far qs t u (answer-found ps so_far qs t u fits e w h) below all

-- ---- the substitution of the pairs

unwrapped : (v : ℕ) (o : Option Tree) (t : Tree) → o ≡ Some t → unwrap_or o (variable v) ≡ t
unwrapped v None t e = cc
unwrapped v (Some u) t e = cc

pub listed-at :
    (terms : List Tree) (count v : ℕ) (σ : Substitution) → terms ≡ terms_from 0 count σ → v < count → substitution terms v ≡ σ v
listed-at terms count v σ h less =
    let plus : 0 + v ≡ v = omega arith in
    ap (λ (ts : List Tree). get_or ts v (variable v)) h ∙ terms_from-at 0 count v σ (variable v) less ∙ ap σ plus

below : (n : ℕ) (ps : Pairs) (v : ℕ) (t : Tree) → are_below n ps ≡ true → term_for v ps ≡ Some t → v < n
below n [] v t h e = cc
below n (p ∷ ps) v t h e =
    ⊎_elim
    (λ same.
    let P : ℕ → Type 0 = λ u. u < n in
    subst P (sym (eqb-true v p.0 same)) (less-says p.0 n (and_left (nat_lt p.0 n) (are_below n ps) h)))
    (λ other.
    below n ps v t (and_right (nat_lt p.0 n) (are_below n ps) h) (sym (cond-false (v == p.0) (Some p.1) (term_for v ps) other) ∙ e))
    (cases_Bool (v == p.0))

-- each pair is its variable's, where no variable has two
own-terms :
    (ps : Pairs) (σ : Substitution)
    → NoVariableTwice ps → ((v : ℕ) (t : Tree) → term_for v ps ≡ Some t → σ v ≡ t) → HasPairs ps σ
own-terms [] σ n h = tt
own-terms (p ∷ ps) σ n h = (
  h p.0 p.1 (cond-true (p.0 == p.0) (Some p.1) (term_for p.0 ps) (eq-eqb p.0 p.0 refl)),
  own-terms ps σ n.1
      (λ v t e.
      ⊎_elim
      (λ same.
      let wrong : None ≡ Some t = sym (ap (λ w. term_for w ps) (eqb-true v p.0 same) ∙ n.0) ∙ e in
      absurd cc)
      (λ other. h v t (cond-false (v == p.0) (Some p.1) (term_for v ps) other ∙ e))
      (cases_Bool (v == p.0))),
)

pub HasPairs-own : (ps : Pairs) → NoVariableTwice ps → HasPairs ps (by_pairs ps)
HasPairs-own ps twice = own-terms ps (by_pairs ps) twice (λ v t found. unwrapped v (term_for v ps) t found)

pub HasPairs-subst :
    (n : ℕ) (ps : Pairs) (terms : List Tree)
    → NoVariableTwice ps → are_below n ps ≡ true → terms ≡ terms_from 0 n (by_pairs ps) → HasPairs ps (substitution terms)
HasPairs-subst n ps terms twice less e =
    own-terms ps (substitution terms) twice
    (λ v t found.
    listed-at terms n v (by_pairs ps) e (below n ps v t less found)
    ∙ unwrapped v (term_for v ps) t found)
