-- Searches of members: those of two lists, and what features exclude.
use Rattle.std.proofs.Common.{◌≡◌, ◌↔◌, ℕ, ◌<◌, ◌≤◌, Bool, true, false, Option, None, Some, List, [], ◌∷◌, ◌++◌, append_assoc, append-nil, refl, ap, sym, ◌∙◌, inl, inr, ⊎_elim, subst, arith}
use Rattle.std.specs.Prelude.{All, Contains, IsTrue, slice_index}
use Rattle.std.proofs.lemmas.Bool.{true≢false}
use Rattle.std.proofs.lemmas.List.Elements.{All-contains, All-head, All-tail, All-cons, Contains-append_cases, Contains-push, Contains-push_cases, Contains-append_left, Contains-append_right}
use Rattle.fol_base.specs.Clause.{TreeClause}
use Rattle.fol_base.specs.Subsumption.{Subsumes}
use Rattle.fol_base.specs.WellFormed.{SymbolUse}
use Rattle.bank_clause.specs.Clause.{clause_at}
use Rattle.bank_clause.specs.declared.member.Member.{Member}
use Rattle.subsume.specs.declared.vector.TheConstants.{MEASURES}
use Rattle.subsume.specs.Features.{slot, AreFeaturesOf}
use Rattle.subsume.specs.Searching.{IsLowest, IsSubsumedBy, AddsSubsumed, IsBelow, IsLowestBelow, IsSubsumer, AreNumbersWhere}
use Rattle.bank_clause.specs.Members.{IsMemberOfUse, SomeMember}
use Rattle.subsume.specs.Tree.{feature, member_feature, IsBoundedBy, IsEntry}
use Rattle.subsume.specs.Query.{IsQueryFor, IsLowering, IsLowestSubsumer}
use Rattle.subsume.specs.declared.lowest.Query.{Query}
use Rattle.subsume.specs.declared.entry.Entry.{Entry}
use Rattle.subsume.proofs.AboutTree.FeatureLemmas.{no_measure_greater}

-- ---- members of two lists

pub All-front : {X : Type 0} (P : X → Type 0) (xs ys : List X) → All P (xs ++ ys) → All P xs
All-front P [] ys h = λ k d lt. absurd (omega arith)
All-front P (x ∷ xs) ys h = All-cons P x xs (All-head P x (xs ++ ys) h) (All-front P xs ys (All-tail P x (xs ++ ys) h))

pub All-back : {X : Type 0} (P : X → Type 0) (xs ys : List X) → All P (xs ++ ys) → All P ys
All-back P [] ys h = h
All-back P (x ∷ xs) ys h = All-back P xs ys (All-tail P x (xs ++ ys) h)

some-left : (Does : Member → Type 0) (xs ys : List Member) (n : ℕ) → SomeMember Does xs n → SomeMember Does (xs ++ ys) n
some-left Does xs ys n s = record { member = s.member; there = Contains-append_left xs ys s.member s.there; does = s.does; number = s.number }

some-right : (Does : Member → Type 0) (xs ys : List Member) (n : ℕ) → SomeMember Does ys n → SomeMember Does (xs ++ ys) n
some-right Does xs ys n s = record { member = s.member; there = Contains-append_right xs ys s.member s.there; does = s.does; number = s.number }

below-both : (n k : ℕ) (bound : Option ℕ) → n < k → IsBelow k bound → IsBelow n bound
below-both n k None h b = tt
below-both n k (Some x) h b = omega arith

below-before :
    (Does : Member → Type 0) (ms : List Member) (before after : Option ℕ) → IsLowestBelow Does ms before after → (n : ℕ) → IsBelow n after → IsBelow n before
below-before Does ms before after l n b =
    ⊎_elim
    (λ e. subst (IsBelow n) e b)
    (λ s. below-both n s.0 before (subst (IsBelow n) s.1 b) s.3)
    l.from

pub lowest-append :
    (Does : Member → Type 0) (xs ys : List Member) (first second third : Option ℕ)
    → IsLowestBelow Does xs first second → IsLowestBelow Does ys second third → IsLowestBelow Does (xs ++ ys) first third
lowest-append Does xs ys first second third l k = record {
  from =
      ⊎_elim
      (λ e. ⊎_elim (λ d. inl (e ∙ d)) (λ s. inr (s.0, e ∙ s.1, some-left Does xs ys s.0 s.2, s.3)) l.from)
      (λ s. inr (s.0, s.1, some-right Does xs ys s.0 s.2, below-before Does xs first second l s.0 s.3))
      k.from;
  none_lower = λ m there does below.
      ⊎_elim
      (λ h. l.none_lower m h does (below-before Does ys second third k m.number below))
      (λ h. k.none_lower m h does below)
      (Contains-append_cases xs ys m there);
}

-- the empty list has no member
pub nobody : (m : Member) → Contains [] m → ⊥
nobody m there = All-contains (λ (x : Member). ⊥) [] m (λ i d lt. absurd (omega arith)) there

-- none of the members does it
pub lowest-stays : (Does : Member → Type 0) (ms : List Member) (bound : Option ℕ) → ((m : Member) → Contains ms m → Does m → ⊥) → IsLowestBelow Does ms bound bound
lowest-stays Does ms bound none = record { from = inl refl; none_lower = λ m there does below. none m there does }

-- a member that does it, below the bound
pub lowest-one : (Does : Member → Type 0) (m : Member) (bound : Option ℕ) → Does m → IsBelow m.number bound → IsLowestBelow Does (m ∷ []) bound (Some m.number)
lowest-one Does m bound does below = record {
  from = inr (m.number, refl, record { member = m; there = here m; does = does; number = refl }, below);
  none_lower = λ k there d b. let same : k ≡ m = only k m there in absurd (omega (arith, b, ap (λ (x : Member). x.number) same));
}
  where
    here : (m : Member) → Contains (m ∷ []) m
    here m = Contains-push [] m

    only : (k m : Member) → Contains (m ∷ []) k → k ≡ m
    only k m h = ⊎_elim (λ e. absurd (All-contains (λ (x : Member). ⊥) [] k (λ i d lt. absurd (omega arith)) e)) (λ e. sym e) (Contains-push_cases [] m k h)

-- ---- features

-- what a clause has more of, a clause that it subsumes has at least as much of
pub feature-grows :
    (p : ℕ → Bool) (c d : TreeClause) (positive : Bool) (k : ℕ) → Subsumes p c d → feature positive k c ≤ feature positive k d
feature-grows p c d positive k s = omega (arith, no_measure_greater p c d positive k s)

-- members that have more of a feature than the clause don't subsume it
pub more-stays :
    (usage : SymbolUse) (except : Option ℕ) (d : TreeClause) (positive : Bool) (k most : ℕ) (ms : List Member) (bound : Option ℕ)
    → All (λ m. most < member_feature positive k m) ms → feature positive k d ≤ most
    → IsLowestBelow (IsSubsumer usage except d) ms bound bound
more-stays usage except d positive k most ms bound more few =
    lowest-stays (IsSubsumer usage except d) ms bound
    (λ m there does.
    let above : most < member_feature positive k m = All-contains (λ (x : Member). most < member_feature positive k x) ms m more there in
    omega (arith, above, feature-grows usage.is_predicate (clause_at m.clause) d positive k does.subsumes))

-- ---- a member more

pub lowest-answered :
    (query : Query) (front : List Member) (m : Member) (bound lowest after : Option ℕ) (answer : Bool)
    → IsLowering query m lowest answer → (answer ≡ true → after ≡ Some m.number) → (answer ≡ false → after ≡ lowest)
    → IsLowestSubsumer query front bound lowest → IsLowestSubsumer query (front ++ m ∷ []) bound after
lowest-answered query front m bound lowest after true lowering yes_ no_ before = λ usage d q all.
    let Does = IsSubsumer usage query.except d in
    let both = (lowering usage d q (All-contains (IsMemberOfUse usage) (front ++ m ∷ []) m all (Contains-push front m))).0 refl in
    lowest-append Does front (m ∷ []) bound lowest after (before usage d q (All-front (IsMemberOfUse usage) front (m ∷ []) all))
    (subst (IsLowestBelow Does (m ∷ []) lowest) (sym (yes_ refl)) (lowest-one Does m lowest both.1 both.0))
lowest-answered query front m bound lowest after false lowering yes_ no_ before = λ usage d q all.
    let Does = IsSubsumer usage query.except d in
    let wf = All-contains (IsMemberOfUse usage) (front ++ m ∷ []) m all (Contains-push front m) in
    lowest-append Does front (m ∷ []) bound lowest after (before usage d q (All-front (IsMemberOfUse usage) front (m ∷ []) all))
    (subst (IsLowestBelow Does (m ∷ []) lowest) (sym (no_ refl)) (record {
      from = inl refl;
      none_lower = λ k there does below.
          let same : k ≡ m = alone k m there in
          true≢false (sym ((lowering usage d q wf).1 (subst (λ (x : Member). IsBelow x.number lowest) same below, subst Does same does)));
    }))
  where
    alone : (k m : Member) → Contains (m ∷ []) k → k ≡ m
    alone k m h = ⊎_elim (λ e. absurd (All-contains (λ (x : Member). ⊥) [] k (λ i d lt. absurd (omega arith)) e)) (λ e. sym e) (Contains-push_cases [] m k h)

-- a query's features exclude an entry
pub entry-excluded :
    (query : Query) (e : Entry) (bound : Option ℕ) (usage : SymbolUse) (d : TreeClause) (answer : Bool)
    → IsEntry e → IsQueryFor query usage d
    → (((positive : Bool) (k : ℕ) → k < MEASURES → slice_index e.features.values (slot positive k) ≤ slice_index query.features.values (slot positive k)) → answer ≡ true)
    → answer ≡ false → IsSubsumer usage query.except d e.member → ⊥
entry-excluded query e bound usage d answer entry q asked no_ s =
    true≢false
    (sym (asked (λ positive k h. omega (
      arith,
      entry positive k h,
      q.features positive k h,
      feature-grows usage.is_predicate (clause_at e.member.clause) d positive k s.subsumes,
    ))) ∙ no_)

-- ---- numbers of members

pub where-append :
    (Does : Member → Type 0) (xs ys : List Member) (ns ks : List ℕ)
    → AreNumbersWhere Does xs ns → AreNumbersWhere Does ys ks → AreNumbersWhere Does (xs ++ ys) (ns ++ ks)
where-append Does [] ys ns ks h k = subst (λ ms. AreNumbersWhere Does ys (ms ++ ks)) (sym h) k
where-append Does (x ∷ xs) ys ns ks h k =
    ⊎_elim
    (λ s. inl (s.0 ++ ks, s.1, ap (λ ms. ms ++ ks) s.2, where-append Does xs ys s.0 ks s.3 k))
    (λ s. inr (s.0, where-append Does xs ys ns ks s.1 k))
    h

pub where-none : (Does : Member → Type 0) (ms : List Member) → ((m : Member) → Contains ms m → Does m → ⊥) → AreNumbersWhere Does ms []
where-none Does [] none = refl
where-none Does (m ∷ ms) none =
    inr (none m (Contains-append_left (m ∷ []) ms m (Contains-push [] m)), where-none Does ms (λ k there. none k (Contains-append_right (m ∷ []) ms k there)))

pub adds-append :
    (by : Member) (xs ys : List Member) (first second third : List ℕ)
    → AddsSubsumed by xs first second → AddsSubsumed by ys second third → AddsSubsumed by (xs ++ ys) first third
adds-append by xs ys first second third l k = record {
  numbers = l.numbers ++ k.numbers;
  added = k.added ∙ ap (λ ns. ns ++ k.numbers) l.added ∙ append_assoc first l.numbers k.numbers;
  right = λ usage wf all.
      where-append (IsSubsumedBy usage by) xs ys l.numbers k.numbers
      (l.right usage wf (All-front (IsMemberOfUse usage) xs ys all)) (k.right usage wf (All-back (IsMemberOfUse usage) xs ys all));
}

pub adds-none :
    (by : Member) (ms : List Member) (found : List ℕ)
    → ((usage : SymbolUse) (m : Member) → Contains ms m → IsSubsumedBy usage by m → ⊥) → AddsSubsumed by ms found found
adds-none by ms found none = record {
  numbers = [];
  added = sym (append-nil found);
  right = λ usage wf all. where-none (IsSubsumedBy usage by) ms (none usage);
}

-- members that have less of a feature aren't subsumed
pub less-stays :
    (by : Member) (positive : Bool) (k most : ℕ) (ms : List Member) (found : List ℕ)
    → All (λ m. member_feature positive k m ≤ most) ms → most < member_feature positive k by → AddsSubsumed by ms found found
less-stays by positive k most ms found few more =
    adds-none by ms found
    (λ usage m there does.
    let above : member_feature positive k m ≤ most = All-contains (λ (x : Member). member_feature positive k x ≤ most) ms m few there in
    absurd (omega (arith, above, feature-grows usage.is_predicate (clause_at by.clause) (clause_at m.clause) positive k does.subsumed)))

-- nor are those that a bound excludes
pub bounded-stays :
    (by : Member) (mine values : List ℕ) (answer : Bool) (ms : List Member) (found : List ℕ)
    → AreFeaturesOf (clause_at by.clause).literals mine
    → (((positive : Bool) (k : ℕ) → k < MEASURES → slice_index mine (slot positive k) ≤ slice_index values (slot positive k)) → answer ≡ true)
    → answer ≡ false → All (IsBoundedBy values) ms → AddsSubsumed by ms found found
bounded-stays by mine values answer ms found known asked no_ bounded =
    adds-none by ms found
    (λ usage m there does.
    let below : IsBoundedBy values m = All-contains (IsBoundedBy values) ms m bounded there in
    true≢false
    (sym (asked (λ positive k h. omega (
      arith,
      below positive k h,
      known positive k h,
      feature-grows usage.is_predicate (clause_at by.clause) (clause_at m.clause) positive k does.subsumed,
    ))) ∙ no_))

pub adds-answered :
    (by : Member) (front : List Member) (m : Member) (first found after : List ℕ) (answer : Bool)
    → ((usage : SymbolUse) → IsMemberOfUse usage by → IsMemberOfUse usage m → IsTrue answer ↔ IsSubsumedBy usage by m)
    → (answer ≡ true → after ≡ found ++ m.number ∷ []) → (answer ≡ false → after ≡ found)
    → AddsSubsumed by front first found → AddsSubsumed by (front ++ m ∷ []) first after
adds-answered by front m first found after true exact yes_ no_ before =
    adds-append by front (m ∷ []) first found after before (record {
      numbers = m.number ∷ [];
      added = yes_ refl;
      right = λ usage wf all. inl ([], (exact usage wf (All-head (IsMemberOfUse usage) m [] all)).0 refl, refl, refl);
    })
adds-answered by front m first found after false exact yes_ no_ before =
    adds-append by front (m ∷ []) first found after before (record {
      numbers = [];
      added = no_ refl ∙ sym (append-nil found);
      right = λ usage wf all. inr (λ does. true≢false (sym ((exact usage wf (All-head (IsMemberOfUse usage) m [] all)).1 does)), refl);
    })

-- an entry's features exclude it
pub entry-unsubsumed :
    (by : Member) (mine : List ℕ) (e : Entry) (usage : SymbolUse) (answer : Bool)
    → AreFeaturesOf (clause_at by.clause).literals mine → IsEntry e
    → (((positive : Bool) (k : ℕ) → k < MEASURES → slice_index mine (slot positive k) ≤ slice_index e.features.values (slot positive k)) → answer ≡ true)
    → answer ≡ false → IsSubsumedBy usage by e.member → ⊥
entry-unsubsumed by mine e usage answer known entry asked no_ s =
    true≢false
    (sym (asked (λ positive k h. omega (
      arith,
      entry positive k h,
      known positive k h,
      feature-grows usage.is_predicate (clause_at by.clause) (clause_at e.member.clause) positive k s.subsumed,
    ))) ∙ no_)

-- the lowest of all
pub lowest-of-all : (Does : Member → Type 0) (ms : List Member) (found : Option ℕ) → IsLowestBelow Does ms None found → IsLowest Does ms found
lowest-of-all Does ms None l = λ m there does. l.none_lower m there does tt
lowest-of-all Does ms (Some n) l = (
  ⊎_elim (λ e. absurd cc) (λ s. let same : s.0 ≡ n = cc in subst (SomeMember Does ms) same s.2) l.from,
  λ m there does. not-below m.number n (l.none_lower m there does),
)
  where
    not-below : (k n : ℕ) → (k < n → ⊥) → n ≤ k
    not-below k n h = omega (arith, h)
