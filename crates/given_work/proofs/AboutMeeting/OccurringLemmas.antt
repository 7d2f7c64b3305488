-- The terms of clauses in an index, and those that a unit's steps need.
use Rattle.std.proofs.Common.{◌≡◌, ◌⊎◌, ℕ, zero, suc, ◌+◌, ◌<◌, ◌≤◌, ◌==◌, not, cond, below_more, Bool, true, false, Some, List, [], ◌∷◌, ◌++◌, map, length, get_or, refl, ap, sym, ◌∙◌, subst, inl, inr, ⊎_elim, arith}
use Rattle.std.specs.Prelude.{slice_get, filter, option_map, Contains}
use Rattle.std.proofs.lemmas.Bool.{cases_Bool, cond-false, cond-true, eq-eqb, false_from_ne_true, true≢false}
use Rattle.std.proofs.lemmas.Option.{none-some, same_Some, option_and_then_some, slice_get-map, slice_get_read, slice_get_within}
use Rattle.std.proofs.lemmas.List.{length-map}
use Rattle.std.proofs.lemmas.List.Elements.{Contains-push_cases}
use Rattle.fol_base.specs.Tree.{Tree, variable, application, Trees, is_variable, list_of, tree_size, trees_of}
use Rattle.fol_base.specs.Term.{tree_of}
use Rattle.fol_base.specs.declared.term.Term.{Term}
use Rattle.fol_base.specs.Place.{subterm}
use Rattle.fol_base.specs.Clause.{TreeClause, TreeLiteral, literal_instance}
use Rattle.fol_base.specs.Compatible.{compatible_instance}
use Rattle.fol_base.specs.Instance.{Substitution, instance}
use Rattle.fol_base.specs.Order.{tree_greater}
use Rattle.fol_base.specs.Sides.{other_side_of, side_of}
use Rattle.fol_base.specs.declared.clause.Side.{Side}
use Rattle.fol_base.specs.declared.clause.Side.TheVariants.{Left, Right}
use Rattle.fol_base.proofs.AboutOrders.OrderLemmas.{SameLiteral, equivalent_literals-decided}
use Rattle.kernel_steps.specs.Derivation.{complement}
use Rattle.kernel_steps.specs.Inference.{CutsBy, RewritesBy}
use Rattle.fol_base.proofs.AboutOrders.TreeOrderLemmas.{tree_greater-itself, tree_greater-trans}
use Rattle.kbo_order.proofs.AboutLaws.StableLemmas.{trees_stable}
use Rattle.kbo_order.proofs.AboutReading.HeadLemmas.{low_head-not_greater, smaller-not_greater}
use Rattle.fol_base.proofs.AboutTerms.TreeLemmas.{list_of-trees_of, tree_size-positive}
use Rattle.kbo_order.proofs.AboutMultisets.MemberLemmas.{In, In-left, In-right}
use Rattle.bank_clause.specs.Clause.{clause_at}
use Rattle.bank_clause.specs.declared.member.Member.{Member}
use Rattle.disc_tree.specs.Entries.{IsIn, IsWith, KeepsAll}
use Rattle.disc_tree.proofs.AboutPaths.EntryLemmas.{in-with}
use Rattle.disc_tree.proofs.AboutQueries.UnifierLemmas.{instance-compatible}
use Rattle.superpose.proofs.AboutLists.ListLemmas.{In-contained}
use Rattle.partners.proofs.IndexLemmas.{in-found}
use Rattle.given_work.specs.Occurring.{ListsLiterals, ListsMembers, ListsSide, ListsTerm, ListsTerms, numbers_of_instances, numbers_with_instances}
use Rattle.unit_cutting.specs.Indexed.{KeepsOthers}
use Rattle.given_work.proofs.AboutIndexes.Slots.{Contains-filtered}

-- ---- one term

-- a variable has no others in it
pub variable-listed : (n : ℕ) (es : List (Tree × ℕ)) (v : ℕ) → ListsTerm n es (variable v)
variable-listed n es v [] u at other = absurd (true≢false (ap is_variable (same_Some (variable v) u at) ∙ other))
variable-listed n es v (k ∷ place) u at other = absurd (none-some u at)

-- the whole, and what is in its arguments
pub application-listed :
    (n : ℕ) (es : List (Tree × ℕ)) (f : ℕ) (ts : List Tree)
    → IsIn (application f (trees_of ts), n) es → ListsTerms n es ts → ListsTerm n es (application f (trees_of ts))
application-listed n es f ts whole inside [] u at other = subst (λ (t : Tree). IsIn (t, n) es) (same_Some (application f (trees_of ts)) u at) whole
application-listed n es f ts whole inside (k ∷ place) u at other =
    option_and_then_some (subterm place) (slice_get (list_of (trees_of ts)) k) u at λ a a_there u_there.
    inside k a (ap (λ us. slice_get us k) (sym (list_of-trees_of ts)) ∙ a_there) place u u_there other

pub term-kept : (n : ℕ) (old new : List (Tree × ℕ)) (t : Tree) → KeepsAll old new → ListsTerm n old t → ListsTerm n new t
term-kept n old new t kept lists place u at other = kept (u, n) (lists place u at other)

pub side-kept : (n : ℕ) (old new : List (Tree × ℕ)) (t : Tree) → KeepsAll old new → ListsSide n old t → ListsSide n new t
side-kept n old new t kept lists = record { whole = kept (t, n) lists.whole; within = term-kept n old new t kept lists.within }

pub application-side :
    (n : ℕ) (es : List (Tree × ℕ)) (t : Tree) (f : ℕ) (ts : Trees) → t ≡ application f ts → ListsTerm n es t → ListsSide n es t
application-side n es t f ts is lists = record { whole = lists [] t refl (ap is_variable is); within = lists }

-- ---- one after another

abbrev pub ListsBelow : ℕ → ℕ → List (Tree × ℕ) → List Tree → Type 0
ListsBelow bound n es ts = (i : ℕ) → i < bound → (t : Tree) → slice_get ts i ≡ Some t → ListsTerm n es t

pub terms-more :
    (n index : ℕ) (old new : List (Tree × ℕ)) (ts : List Tree) (t : Tree)
    → slice_get ts index ≡ Some t → KeepsAll old new → ListsTerm n new t → ListsBelow index n old ts → ListsBelow (index + 1) n new ts
terms-more n index old new ts t at kept lists below =
    below_more (λ i. (u : Tree) → slice_get ts i ≡ Some u → ListsTerm n new u) index
    (λ i low u there. term-kept n old new u kept (below i low u there))
    (λ u there. subst (ListsTerm n new) (same_Some t u (sym at ∙ there)) lists)

pub terms-all : (n bound : ℕ) (es : List (Tree × ℕ)) (xs : List Term) → length xs ≤ bound → ListsBelow bound n es (map tree_of xs) → ListsTerms n es (map tree_of xs)
terms-all n bound es xs high below i t there =
    below i (let low = slice_get_within (map tree_of xs) i t there in omega (arith, low, high, length-map xs tree_of)) t there

pub term-at : (xs : List Term) (i : ℕ) (x : Term) → i < length xs → x ≡ get_or xs i x → slice_get (map tree_of xs) i ≡ Some (tree_of x)
term-at xs i x within is = slice_get-map tree_of xs i ∙ ap (option_map tree_of) (slice_get_read xs (length xs) i x refl within is)

abbrev pub ListsLiteralsBelow : ℕ → ℕ → List (Tree × ℕ) → List TreeLiteral → Type 0
ListsLiteralsBelow bound n es ls = (i : ℕ) → i < bound → (l : TreeLiteral) → slice_get ls i ≡ Some l → (side : Side) → ListsSide n es (side_of side l)

by-sides : (n : ℕ) (es : List (Tree × ℕ)) (l : TreeLiteral) → ListsSide n es l.left → ListsSide n es l.right → (side : Side) → ListsSide n es (side_of side l)
by-sides n es l left right Left = left
by-sides n es l left right Right = right

pub literals-more :
    (n index : ℕ) (old new : List (Tree × ℕ)) (ls : List TreeLiteral) (l : TreeLiteral)
    → slice_get ls index ≡ Some l → KeepsAll old new → ListsSide n new l.left → ListsSide n new l.right
    → ListsLiteralsBelow index n old ls → ListsLiteralsBelow (index + 1) n new ls
literals-more n index old new ls l at kept left right below =
    below_more (λ i. (k : TreeLiteral) → slice_get ls i ≡ Some k → (side : Side) → ListsSide n new (side_of side k)) index
    (λ i low k there side. side-kept n old new (side_of side k) kept (below i low k there side))
    (λ k there. subst (λ (m : TreeLiteral). (side : Side) → ListsSide n new (side_of side m)) (same_Some l k (sym at ∙ there)) (by-sides n new l left right))

pub literals-all :
    (n bound : ℕ) (es : List (Tree × ℕ)) (ls : List TreeLiteral) → length ls ≤ bound → ListsLiteralsBelow bound n es ls → ListsLiterals n es ls
literals-all n bound es ls high below i l there = below i (let low = slice_get_within ls i l there in omega (arith, low, high)) l there

-- ---- entries

pub kept-then : (old middle new : List (Tree × ℕ)) → KeepsAll old middle → KeepsAll middle new → KeepsAll old new
kept-then old middle new h k e there = k e (h e there)

pub others-then : (n : ℕ) (old middle new : List (Tree × ℕ)) → KeepsOthers n old middle → KeepsOthers n middle new → KeepsOthers n old new
others-then n old middle new h k t m other there = k t m other (h t m other there)

without-one : {X : Type 0} (x y : X) (front back : List X) → IsIn y (front ++ x ∷ back) → (y ≡ x) ⊎ IsIn y (front ++ back)
without-one x y [] back h = h
without-one x y (f ∷ front) back h =
    ⊎_elim (λ e. inr (inl e)) (λ later. ⊎_elim (λ e. inl e) (λ rest. inr (inr rest)) (without-one x y front back later)) h

pub removed-others :
    (n k : ℕ) (u : Tree) (removed : Bool) (old new : List (Tree × ℕ))
    → k ≡ n → (removed ≡ true → IsWith (u, k) new old) → (removed ≡ false → new ≡ old) → KeepsOthers n old new
removed-others n k u true old new is with_it same t m other there =
    let w : IsWith (u, k) new old = with_it refl in
    ⊎_elim
    (λ e. absurd (other (ap (λ (p : Tree × ℕ). p.1) e ∙ is)))
    (λ rest. subst (IsIn (t, m)) (sym w.without) rest)
    (without-one (u, k) (t, m) w.front w.back (subst (IsIn (t, m)) w.with_it there))
removed-others n k u false old new is with_it same t m other there = subst (IsIn (t, m)) (sym (same refl)) there

pub put-in : (u : Tree) (k n : ℕ) (old new : List (Tree × ℕ)) → k ≡ n → IsWith (u, k) old new → IsIn (u, n) new
put-in u k n old new is w = subst (λ m. IsIn (u, m) new) is (in-with (u, k) old new w)

-- ---- clauses

pub members-listed-more :
    (ms : List Member) (m : Member) (old new : List (Tree × ℕ))
    → KeepsAll old new → ListsLiterals m.number new (clause_at m.clause).literals → ListsMembers old ms → ListsMembers new (ms ++ m ∷ [])
members-listed-more ms m old new kept lists all k there =
    ⊎_elim
    (λ earlier i l at side. side-kept k.number old new (side_of side l) kept (all k earlier i l at side))
    (λ last. subst (λ (x : Member). ListsLiterals x.number new (clause_at x.clause).literals) last lists)
    (Contains-push_cases ms m k there)

pub members-listed-less :
    (ms : List Member) (n : ℕ) (old new : List (Tree × ℕ))
    → KeepsOthers n old new → ListsMembers old ms → ListsMembers new (filter (λ (m : Member). not (m.number == n)) ms)
members-listed-less ms n old new kept all k there i l at side =
    let was = Contains-filtered (λ (m : Member). not (m.number == n)) ms k there in
    let lists = all k was.0 i l at side in
    let other : k.number ≡ n → ⊥ = λ e. true≢false (sym was.1 ∙ ap not (eq-eqb k.number n e)) in
    record {
      whole = kept (side_of side l) k.number other lists.whole;
      within = λ place u is inner. kept u k.number other (lists.within place u is inner);
    }

-- ---- what a unit needs

not-variable : (old new : Tree) → tree_greater old new ≡ true → is_variable old ≡ false
not-variable (application f ts) new h = refl
not-variable (variable v) new h =
    absurd
    (⊎_elim
    (λ (big : 1 < tree_size new). true≢false (sym h ∙ sym (smaller-not_greater (variable v) new big)))
    (λ (equal : 1 ≡ tree_size new). true≢false (sym h ∙ sym (low_head-not_greater (variable v) new equal refl)))
    (above-or (tree_size new) (tree_size-positive new)))
  where
    above-or : (n : ℕ) → 1 ≤ n → (1 < n) ⊎ (1 ≡ n)
    above-or zero h = absurd (omega arith)
    above-or (suc zero) h = inr refl
    above-or (suc (suc n)) h = inl (omega arith)

one-literal : (k l : TreeLiteral) → k ∷ [] ≡ l ∷ [] → k ≡ l
one-literal k l h = same_Some k l (ap (λ (ls : List TreeLiteral). slice_get ls 0) h)

-- by a side that is smaller than the other one nothing is rewritten
not-smaller :
    (side other old : Tree) (σ : Substitution) → instance σ side ≡ old → tree_greater old (instance σ other) ≡ true → tree_greater other side ≡ true → ⊥
not-smaller side other old σ matches above smaller =
    let back : tree_greater (instance σ other) old ≡ true = ap (tree_greater (instance σ other)) (sym matches) ∙ trees_stable σ other side smaller in
    true≢false (sym (tree_greater-trans old (instance σ other) old above back) ∙ tree_greater-itself old)

not-both : (s t : Tree) → tree_greater s t ≡ true → tree_greater t s ≡ true → ⊥
not-both s t one other = true≢false (sym (tree_greater-trans s t s one other) ∙ tree_greater-itself s)

module _ (es : List (Tree × ℕ)) (n : ℕ) (l : TreeLiteral) where
  abbrev of_left : List ℕ
  of_left = numbers_of_instances es l.left

  abbrev of_right : List ℕ
  of_right = numbers_of_instances es l.right

  pub by-left : tree_greater l.left l.right ≡ true → numbers_with_instances es l ≡ of_left
  by-left h = cond-true (tree_greater l.left l.right) of_left (cond (tree_greater l.right l.left) of_right (of_left ++ of_right)) h

  pub by-right : tree_greater l.left l.right ≡ false → tree_greater l.right l.left ≡ true → numbers_with_instances es l ≡ of_right
  by-right h k =
      cond-false (tree_greater l.left l.right) of_left (cond (tree_greater l.right l.left) of_right (of_left ++ of_right)) h
      ∙ cond-true (tree_greater l.right l.left) of_right (of_left ++ of_right) k

  pub by-both : tree_greater l.left l.right ≡ false → tree_greater l.right l.left ≡ false → numbers_with_instances es l ≡ of_left ++ of_right
  by-both h k =
      cond-false (tree_greater l.left l.right) of_left (cond (tree_greater l.right l.left) of_right (of_left ++ of_right)) h
      ∙ cond-false (tree_greater l.right l.left) of_right (of_left ++ of_right) k

  in-numbers : (ns : List ℕ) → numbers_with_instances es l ≡ ns → In n ns → Contains (numbers_with_instances es l) n
  in-numbers ns is there = subst (λ (ms : List ℕ). Contains ms n) (sym is) (In-contained n ns there)

  found-left : (t : Tree) → (tree_greater l.right l.left ≡ true → ⊥) → IsIn (t, n) es → compatible_instance t l.left ≡ true → Contains (numbers_with_instances es l) n
  found-left t not_smaller there pass =
      let here : In n of_left = in-found (λ u. compatible_instance u l.left) es t n there pass in
      ⊎_elim
      (λ yes. in-numbers of_left (by-left yes) here)
      (λ no_it. in-numbers (of_left ++ of_right) (by-both no_it (false_from_ne_true (tree_greater l.right l.left) not_smaller)) (In-left n of_left of_right here))
      (cases_Bool (tree_greater l.left l.right))

  found-right : (t : Tree) → (tree_greater l.left l.right ≡ true → ⊥) → IsIn (t, n) es → compatible_instance t l.right ≡ true → Contains (numbers_with_instances es l) n
  found-right t not_smaller there pass =
      let here : In n of_right = in-found (λ u. compatible_instance u l.right) es t n there pass in
      let first : tree_greater l.left l.right ≡ false = false_from_ne_true (tree_greater l.left l.right) not_smaller in
      ⊎_elim
      (λ yes. in-numbers of_right (by-right first yes) here)
      (λ no_it. in-numbers (of_left ++ of_right) (by-both first no_it) (In-right n of_left of_right here))
      (cases_Bool (tree_greater l.right l.left))

  found-by :
      (side : Side) (t : Tree) → (tree_greater (other_side_of side l) (side_of side l) ≡ true → ⊥) → IsIn (t, n) es
      → compatible_instance t (side_of side l) ≡ true → Contains (numbers_with_instances es l) n
  found-by Left t not_smaller there pass = found-left t not_smaller there pass
  found-by Right t not_smaller there pass = found-right t not_smaller there pass

  module _ (p : ℕ → Bool) (by c d : TreeClause) (alone : by.literals ≡ l ∷ []) (lists : ListsLiterals n es c.literals) where
    pub rewritten-found : RewritesBy p by c d → Contains (numbers_with_instances es l) n
    rewritten-found r =
        let same : r.equation ≡ l = one-literal r.equation l (sym r.is_unit ∙ alone) in
        let matches : instance r.matcher (side_of r.from_side l) ≡ r.old =
        ap (λ (e : TreeLiteral). instance r.matcher (side_of r.from_side e)) (sym same) ∙ r.matches in
        let above : tree_greater r.old (instance r.matcher (other_side_of r.from_side l)) ≡ true =
        ap (λ (e : TreeLiteral). tree_greater r.old (instance r.matcher (other_side_of r.from_side e))) (sym same) ∙ r.greater in
        found-by r.from_side r.old
        (not-smaller (side_of r.from_side l) (other_side_of r.from_side l) r.old r.matcher matches above)
        ((lists r.j r.literal r.literal_there r.into_side).within r.place r.old r.old_there
        (not-variable r.old (instance r.matcher (other_side_of r.from_side l)) above))
        (instance-compatible r.old (side_of r.from_side l) r.matcher matches)

    pub cut-found : CutsBy p by c d → Contains (numbers_with_instances es l) n
    cut-found r =
        let u : TreeLiteral = r.unit_literal in
        let same : u ≡ l = one-literal u l (sym r.is_unit ∙ alone) in
        let parts : SameLiteral (literal_instance r.matcher (complement u)) r.literal =
        (equivalent_literals-decided (literal_instance r.matcher (complement u)) r.literal).0 r.matches in
        let left_is = ap (λ (e : TreeLiteral). instance r.matcher e.left) (sym same) in
        let right_is = ap (λ (e : TreeLiteral). instance r.matcher e.right) (sym same) in
        ⊎_elim
        (λ straight. sides r Left Right (left_is ∙ straight.0) (right_is ∙ straight.1))
        (λ crossed. sides r Right Left (left_is ∙ crossed.0) (right_is ∙ crossed.1))
        parts.1
      where
        -- an instance of each side is a side of the literal, and one of them is asked for
        sides :
            (r : CutsBy p by c d) (one other : Side)
            → instance r.matcher l.left ≡ side_of one r.literal → instance r.matcher l.right ≡ side_of other r.literal
            → Contains (numbers_with_instances es l) n
        sides r one other left_is right_is =
            ⊎_elim
            (λ yes.
            found-right (side_of other r.literal) (λ h. not-both l.left l.right h yes) ((lists r.j r.literal r.literal_there other).whole)
            (instance-compatible (side_of other r.literal) l.right r.matcher right_is))
            (λ no_it.
            found-left (side_of one r.literal) (λ h. true≢false (sym h ∙ no_it)) ((lists r.j r.literal r.literal_there one).whole)
            (instance-compatible (side_of one r.literal) l.left r.matcher left_is))
            (cases_Bool (tree_greater l.right l.left))
