-- What a clause alone tells of a side holds under every substitution.
use Rattle.std.proofs.Common.{◌≡◌, ◌↔◌, ◌+◌, ◌≤◌, ◌==◌, ℕ, ◌++◌, ◌<◌, Bool, true, false, not, ◌&&◌, Option, None, Some, List, [], ◌∷◌, length, refl, ap, ap₂, sym, ◌∙◌, subst, ⊎_elim, arith, eq-eqb}
use Rattle.std.specs.Prelude.{slice_get}
use Rattle.std.proofs.lemmas.Bool.{true≢false, not_from_false, and_from, cases_lt, eqb-true, false_from_ne_true}
use Rattle.std.proofs.lemmas.List.{length-append}
use Rattle.std.proofs.lemmas.Option.{same_Some, slice_get_within}
use Rattle.fol_base.specs.Tree.{Tree, tree_eq}
use Rattle.fol_base.specs.Instance.{Substitution, instance}
use Rattle.fol_base.specs.Clause.{TreeLiteral, literal_instance}
use Rattle.fol_base.specs.Ground.{literals_instance}
use Rattle.fol_base.specs.Order.{tree_greater, literal_greater, equivalent_literals}
use Rattle.fol_base.specs.Selection.{eligible}
use Rattle.fol_base.specs.Sides.{side_of, other_side_of}
use Rattle.fol_base.specs.declared.clause.Side.{Side}
use Rattle.fol_base.specs.declared.clause.Side.TheVariants.{Left, Right}
use Rattle.fol_base.proofs.AboutTerms.TreeLemmas.{tree_eq-true}
use Rattle.kbo_order.proofs.AboutLaws.StableLemmas.{trees_stable, literals_stable}
use Rattle.kbo_order.proofs.AboutLaws.StrictOrderLemmas.{trees_ordered, literals_ordered}
use Rattle.kernel_steps.specs.Inference.{other_side_not_above}
use Rattle.eq_rules.proofs.AboutConclusions.OutsizeLemmas.{eligible-by}
use Rattle.eq_rules.specs.declared.concluding.LiteralSide.{LiteralSide}
use Rattle.superpose.specs.Settled.{AreSettled, AreSettledSides, IsGreatest, IsInOrder, IsSettled, Outdoes}
use Rattle.superpose.specs.Superposing.{one_literal, both_literals, others_coincide, starts_under, enters_under, allows}
use Rattle.superpose.specs.declared.settled.SettledSides.{SettledSides}
use Rattle.superpose.specs.declared.sites.LiteralPlace.{LiteralPlace}
use Rattle.list_lemmas.proofs.Places.{get-pushed}

-- ---- a smaller literal stays smaller

no-worse :
    (σ : Substitution) (l m : TreeLiteral) → literal_greater l m ≡ true → (strict : Bool)
    → (not (literal_greater (literal_instance σ m) (literal_instance σ l))
    && not (strict && equivalent_literals (literal_instance σ m) (literal_instance σ l)))
    ≡ true
no-worse σ l m h strict =
    let k : TreeLiteral = literal_instance σ l in
    let n : TreeLiteral = literal_instance σ m in
    let greater : literal_greater k n ≡ true = literals_stable σ l m h in
    let not_greater : literal_greater n k ≡ false =
    false_from_ne_true (literal_greater n k) (λ g.
    true≢false (sym (literals_ordered.is_transitive k n k greater g) ∙ literals_ordered.is_irreflexive k)) in
    let not_same : equivalent_literals n k ≡ false =
    false_from_ne_true (equivalent_literals n k) (λ e.
    true≢false (sym (literals_ordered.same_right n k k e greater) ∙ literals_ordered.is_irreflexive k)) in
    and_from (not (literal_greater n k)) (not (strict && equivalent_literals n k)) (not_from_false (literal_greater n k) not_greater)
    (neither strict (equivalent_literals n k) not_same)
  where
    neither : (a b : Bool) → b ≡ false → not (a && b) ≡ true
    neither true b e = ap not e
    neither false b e = refl

pub outdoes-eligible :
    (ls : List TreeLiteral) (choice : Option ℕ) (i : ℕ) (l : TreeLiteral) → slice_get ls i ≡ Some l → Outdoes ls choice i
    → (σ : Substitution) (strict : Bool) → eligible (literals_instance σ ls) i choice strict ≡ true
outdoes-eligible ls (Some c) i l there h σ strict = eq-eqb i c h
outdoes-eligible ls None i l there h σ strict =
    eligible-by σ ls i l strict there (λ j m at other. no-worse σ l m (h l j m there at other) strict)

-- ---- a smaller side stays smaller

pub side-stays :
    (σ : Substitution) (side : Side) (l : TreeLiteral)
    → tree_greater (side_of side l) (other_side_of side l) ≡ true → other_side_not_above σ side l ≡ true
side-stays σ side l h =
    let s : Tree = instance σ (side_of side l) in
    let t : Tree = instance σ (other_side_of side l) in
    let greater : tree_greater s t ≡ true = trees_stable σ (side_of side l) (other_side_of side l) h in
    and_from (not (tree_greater t s)) (not (tree_eq t s))
    (not_from_false (tree_greater t s)
    (false_from_ne_true (tree_greater t s) (λ g.
    true≢false (sym (trees_ordered.is_transitive s t s greater g) ∙ trees_ordered.is_irreflexive s))))
    (not_from_false (tree_eq t s)
    (false_from_ne_true (tree_eq t s) (λ e.
    true≢false (sym greater ∙ ap (tree_greater s) (tree_eq-true t s e) ∙ trees_ordered.is_irreflexive s))))

-- ---- so the order allows what starts from such a side, and what goes into one

pub starts-by :
    (ls : List TreeLiteral) (s : LiteralSide) (l : TreeLiteral) (σ : Substitution) → slice_get ls s.literal ≡ Some l
    → other_side_not_above σ s.side l ≡ true → eligible (literals_instance σ ls) s.literal None true ≡ true → starts_under ls s σ ≡ true
starts-by ls s l σ there beside is_eligible =
    let a : TreeLiteral → Bool = λ k. other_side_not_above σ s.side k in
    let e : Bool = eligible (literals_instance σ ls) s.literal None true in
    ap (one_literal (λ k. a k && e)) there ∙ and_from (a l) e beside is_eligible

pub settled-starts : (ls : List TreeLiteral) (s : LiteralSide) → IsSettled ls None s → (σ : Substitution) → starts_under ls s σ ≡ true
settled-starts ls s r σ =
    starts-by ls s r.literal σ r.there (side-stays σ s.side r.literal r.greater)
    (outdoes-eligible ls None s.literal r.literal r.there r.outdoes σ true)

pub settled-in-order :
    (ls : List TreeLiteral) (choice : Option ℕ) (s : LiteralSide) → IsSettled ls choice s → (σ : Substitution) → IsInOrder ls choice σ s
settled-in-order ls choice s r σ = record {
  literal = r.literal;
  there = r.there;
  beside = side-stays σ s.side r.literal r.greater;
  eligible_there = outdoes-eligible ls choice s.literal r.literal r.there r.outdoes σ r.literal.positive;
}

in-order-enters :
    (ls : List TreeLiteral) (s : LiteralSide) (ks : List TreeLiteral) (t : LiteralPlace) (choice : Option ℕ) (l m : TreeLiteral)
    → slice_get ls s.literal ≡ Some l → slice_get ks t.at.literal ≡ Some m
    → (σ τ : Substitution) → IsInOrder ks choice τ t.at → others_coincide s t σ τ l m ≡ false → enters_under ls s ks t choice σ τ ≡ true
in-order-enters ls s ks t choice l m l_there m_there σ τ r differ =
    let b : TreeLiteral → Bool = λ n. other_side_not_above τ t.at.side n in
    let f : TreeLiteral → Bool = λ n. eligible (literals_instance τ ks) t.at.literal choice n.positive in
    let d : TreeLiteral → TreeLiteral → Bool = λ k n. others_coincide s t σ τ k n in
    let same : r.literal ≡ m = same_Some r.literal m (sym r.there ∙ m_there) in
    ap₂ (both_literals (λ k n. not (d k n) && (b n && f n))) l_there m_there
    ∙ and_from (not (d l m)) (b m && f m) (not_from_false (d l m) differ)
    (and_from (b m) (f m) (subst (λ (n : TreeLiteral). b n ≡ true) same r.beside) (subst (λ (n : TreeLiteral). f n ≡ true) same r.eligible_there))

pub settled-enters :
    (ls : List TreeLiteral) (s : LiteralSide) (ks : List TreeLiteral) (t : LiteralPlace) (choice : Option ℕ) (l m : TreeLiteral)
    → slice_get ls s.literal ≡ Some l → slice_get ks t.at.literal ≡ Some m → IsSettled ks choice t.at
    → (σ τ : Substitution) → others_coincide s t σ τ l m ≡ false → enters_under ls s ks t choice σ τ ≡ true
settled-enters ls s ks t choice l m l_there m_there r σ τ differ =
    in-order-enters ls s ks t choice l m l_there m_there σ τ (settled-in-order ks choice t.at r τ) differ

pub in-order-allows :
    (ls : List TreeLiteral) (s : LiteralSide) (ks : List TreeLiteral) (t : LiteralPlace) (choice : Option ℕ) (l m : TreeLiteral)
    → slice_get ls s.literal ≡ Some l → slice_get ks t.at.literal ≡ Some m
    → (σ τ : Substitution) → starts_under ls s σ ≡ true → IsInOrder ks choice τ t.at
    → others_coincide s t σ τ l m ≡ false → allows ls s ks t choice σ τ ≡ true
in-order-allows ls s ks t choice l m l_there m_there σ τ starts enters differ =
    and_from (starts_under ls s σ) (enters_under ls s ks t choice σ τ)
    starts
    (in-order-enters ls s ks t choice l m l_there m_there σ τ enters differ)

-- ---- as the code asks it

pub no-choice : (ls : List TreeLiteral) (choice : Option ℕ) (s : LiteralSide) → choice ≡ None → IsSettled ls choice s → IsSettled ls None s
no-choice ls choice s none r = subst (λ (o : Option ℕ). IsSettled ls o s) none r

pub is-settled-no :
    (ls : List TreeLiteral) (choice : Option ℕ) (s : LiteralSide) (l : TreeLiteral) (b : Bool)
    → slice_get ls s.literal ≡ Some l → tree_greater (side_of s.side l) (other_side_of s.side l) ≡ false → b ≡ false
    → (b ≡ true) ↔ IsSettled ls choice s
is-settled-no ls choice s l b there fails no_ = (
  (λ yes_. absurd (true≢false (sym yes_ ∙ no_))),
  (λ r.
      let same : r.literal ≡ l = same_Some r.literal l (sym r.there ∙ there) in
      absurd (true≢false
      (sym r.greater ∙ ap (λ (k : TreeLiteral). tree_greater (side_of s.side k) (other_side_of s.side k)) same ∙ fails))),
)

pub is-settled-as :
    (ls : List TreeLiteral) (choice : Option ℕ) (s : LiteralSide) (l : TreeLiteral) (b : Bool)
    → slice_get ls s.literal ≡ Some l → tree_greater (side_of s.side l) (other_side_of s.side l) ≡ true
    → ((b ≡ true) ↔ Outdoes ls choice s.literal) → (b ≡ true) ↔ IsSettled ls choice s
is-settled-as ls choice s l b there greater outdoes = (
  (λ yes_. record { literal = l; there = there; greater = greater; outdoes = outdoes.0 yes_ }),
  (λ r. outdoes.1 r.outdoes),
)

-- ---- literals one after another

abbrev pub IsGreaterBelow : List TreeLiteral → ℕ → TreeLiteral → ℕ → Type 0
IsGreaterBelow ls i l n = (j : ℕ) (m : TreeLiteral) → j < n → slice_get ls j ≡ Some m → (j ≡ i → ⊥) → literal_greater l m ≡ true

pub greatest-none-yet : (ls : List TreeLiteral) (i : ℕ) (l : TreeLiteral) → IsGreaterBelow ls i l 0
greatest-none-yet ls i l j m less at other = absurd (omega (arith, less))

pub greatest-itself : (ls : List TreeLiteral) (i : ℕ) (l : TreeLiteral) (n : ℕ) → n ≡ i → IsGreaterBelow ls i l n → IsGreaterBelow ls i l (n + 1)
greatest-itself ls i l n same h j m less at other =
    ⊎_elim (λ before. h j m before at other) (λ ge. absurd (other (omega (arith, less, ge, same)))) (cases_lt j n)

pub greatest-more :
    (ls : List TreeLiteral) (i : ℕ) (l : TreeLiteral) (n : ℕ) (k : TreeLiteral)
    → slice_get ls n ≡ Some k → literal_greater l k ≡ true → IsGreaterBelow ls i l n → IsGreaterBelow ls i l (n + 1)
greatest-more ls i l n k k_there greater h j m less at other =
    ⊎_elim
    (λ before. h j m before at other)
    (λ ge.
    let same : n ≡ j = omega (arith, less, ge) in
    let is : k ≡ m = same_Some k m (sym k_there ∙ ap (λ q. slice_get ls q) same ∙ at) in
    subst (λ (q : TreeLiteral). literal_greater l q ≡ true) is greater)
    (cases_lt j n)

pub greatest-done :
    (ls : List TreeLiteral) (i : ℕ) (l : TreeLiteral) (n : ℕ) (b : Bool)
    → slice_get ls i ≡ Some l → length ls ≤ n → IsGreaterBelow ls i l n → b ≡ true → (b ≡ true) ↔ IsGreatest ls i
greatest-done ls i l n b there all h yes_ = (
  (λ _. λ k j m k_there at other.
      subst (λ (q : TreeLiteral). literal_greater q m ≡ true) (same_Some l k (sym there ∙ k_there))
      (h j m (omega (arith, slice_get_within ls j m at, all)) at other)),
  (λ _. yes_),
)

pub greatest-fails :
    (ls : List TreeLiteral) (i n : ℕ) (l m : TreeLiteral) (b : Bool)
    → slice_get ls i ≡ Some l → slice_get ls n ≡ Some m → (n ≡ i → ⊥) → literal_greater l m ≡ false → b ≡ false → (b ≡ true) ↔ IsGreatest ls i
greatest-fails ls i n l m b there at other fails no_ = (
  (λ yes_. absurd (true≢false (sym yes_ ∙ no_))),
  (λ h. absurd (true≢false (sym (h l n m there at other) ∙ fails))),
)

pub chosen-outdoes : (ls : List TreeLiteral) (i c : ℕ) (b : Bool) → b ≡ (i == c) → (b ≡ true) ↔ Outdoes ls (Some c) i
chosen-outdoes ls i c b is = ((λ yes_. eqb-true i c (sym is ∙ yes_)), (λ same. is ∙ eq-eqb i c same))

-- ---- sides of literals one after another

abbrev pub AreSettledBelow : List TreeLiteral → Option ℕ → List SettledSides → ℕ → Type 0
AreSettledBelow ls choice settled n =
    (length settled ≡ n) × ((i : ℕ) (sides : SettledSides) → slice_get settled i ≡ Some sides → AreSettledSides ls choice i sides)

pub settled-none-yet : (ls : List TreeLiteral) (choice : Option ℕ) (settled : List SettledSides) → settled ≡ [] → AreSettledBelow ls choice settled 0
settled-none-yet ls choice settled e = (
  ap length e,
  (λ i sides at. nothing i sides (sym (ap (λ (fs : List SettledSides). slice_get fs i) e) ∙ at)),
)
  where
    nothing : (i : ℕ) (sides : SettledSides) → slice_get [] i ≡ Some sides → AreSettledSides ls choice i sides
    nothing i sides at = absurd (cc)

pub settled-more :
    (ls : List TreeLiteral) (choice : Option ℕ) (before now : List SettledSides) (n : ℕ) (sides : SettledSides)
    → AreSettledBelow ls choice before n → now ≡ before ++ sides ∷ []
    → ((sides.left ≡ true) ↔ IsSettled ls choice (record { literal = n; side = Left }))
    → ((sides.right ≡ true) ↔ IsSettled ls choice (record { literal = n; side = Right }))
    → AreSettledBelow ls choice now (n + 1)
settled-more ls choice before now n sides h e left right = (
  ap length e ∙ omega (arith, length-append before (sides ∷ []), h.0),
  (λ i f at.
      ⊎_elim
      (λ earlier. h.1 i f earlier)
      (λ last.
      let here : AreSettledSides ls choice n sides = record { left = left; right = right } in
      let place : n ≡ i = sym h.0 ∙ sym last.0 in
      subst (λ (g : SettledSides). AreSettledSides ls choice i g) last.1
      (subst (λ (k : ℕ). AreSettledSides ls choice k sides) place here))
      (get-pushed before sides i f (ap (λ (fs : List SettledSides). slice_get fs i) (sym e) ∙ at))),
)

-- a side's flag says that it is in order
pub flag-says :
    (ls : List TreeLiteral) (choice : Option ℕ) (settled : List SettledSides) (s : LiteralSide) (sides : SettledSides)
    → AreSettled ls choice settled → slice_get settled s.literal ≡ Some sides
    → (s.side ≡ Left → sides.left ≡ true → IsSettled ls choice s) × (s.side ≡ Right → sides.right ≡ true → IsSettled ls choice s)
flag-says ls choice settled s sides all at =
    let both = all.each s.literal sides at in (
      (λ e yes_. subst (λ (z : Side). IsSettled ls choice (record { literal = s.literal; side = z })) (sym e) (both.left.0 yes_)),
      (λ e yes_. subst (λ (z : Side). IsSettled ls choice (record { literal = s.literal; side = z })) (sym e) (both.right.0 yes_)),
    )
