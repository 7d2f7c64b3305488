-- The removals of told clauses that a given one simplifies, as their numbers are gone through.
use Rattle.std.proofs.Common.{◌≡◌, ℕ, ◌<◌, ◌≤◌, ◌==◌, not, Bool, true, false, List, [], ◌∷◌, ◌++◌, append-nil, length, Option, Some, None, refl, ap, sym, ◌∙◌, subst, ⊎_elim, inl, inr, arith}
use Rattle.std.specs.Prelude.{All, Contains, option_to_list, slice_get, sum_by}
use Rattle.std.specs.List.{list_any}
use Rattle.std.proofs.lemmas.Bool.{cond-true, eq-eqb, eqb-true, true≢false, false_from_ne_true, or_cases, or_left, or_right, and_from}
use Rattle.std.proofs.lemmas.List.Sums.{sum_by-cons}
use Rattle.std.proofs.lemmas.List.Elements.{All-append, All-cons, All-nil, All-contains, Contains-append_left, Contains-append_right, Contains-push_cases}
use Rattle.std.proofs.lemmas.Option.{none-some, same_Some}
use Rattle.fol_base.specs.Tree.{Tree}
use Rattle.fol_base.specs.Clause.{TreeClause, TreeLiteral, literal_size}
use Rattle.fol_base.specs.Subsumption.{Subsumes}
use Rattle.fol_base.specs.WellFormed.{SymbolUse}
use Rattle.fol_base.proofs.WorkedExamples.TestLemmas.{if_some}
use Rattle.kernel_steps.specs.Inference.{CutsBy, RewritesBy}
use Rattle.kernel_steps.specs.declared.step.TheConstants.{CLAUSE_NUMBERS}
use Rattle.bank_clause.specs.Clause.{clause_at}
use Rattle.bank_clause.specs.declared.member.Member.{Member}
use Rattle.laws_calculus.specs.Lifting.{IsMember}
use Rattle.subsume.specs.Searching.{IsSubsumedBy}
use Rattle.bank_clause.specs.Members.{AreMembersOfUse, AreNumbersOf, IsMemberOfUse}
use Rattle.pool_history.specs.Record.{GivenJob}
use Rattle.pool_history.specs.Reduction.{Lookup}
use Rattle.pool_history.specs.Batches.{IsReducedBeside, Simplifies, is_told, is_told_beside}
use Rattle.pool_history.specs.Wholeness.{IsWhole}
use Rattle.pool_history.specs.declared.options.Options.{Options}
use Rattle.pool_history.specs.declared.batch.Removal.{Removal}
use Rattle.given_work.specs.Going.{GoesRightly, StaysOrGoes}
use Rattle.given_work.specs.Occurring.{ListsMembers, numbers_by_unit, numbers_with_instances}
use Rattle.given_work.specs.Removing.{AddsNone, AreRemovalsAmong, AreRemovalsOf, HasSimplified, IsConsidered, Removes}
use Rattle.given_work.specs.Sets.{AreSetsOf}
use Rattle.given_work.specs.Telling.{Tells, told_of}
use Rattle.given_work.specs.declared.sets.Sets.{Sets}
use Rattle.given_work.proofs.AboutBatches.GoingLemmas.{members-formed}
use Rattle.given_work.proofs.AboutMeeting.OccurringLemmas.{cut-found, rewritten-found}
use Rattle.given_work.proofs.AboutIndexes.Slots.{Contains-none}
use Rattle.given_work.proofs.AboutIndexes.TellingLemmas.{member-told, sets-told}

not-same : (a b : ℕ) → (a ≡ b → ⊥) → not (a == b) ≡ true
not-same a b differ = ap not (false_from_ne_true (a == b) (λ e. differ (eqb-true a b e)))

any-append : (p : Removal → Bool) (xs ys : List Removal) → list_any p xs ≡ true → list_any p (xs ++ ys) ≡ true
any-append p [] ys h = absurd (true≢false (sym h))
any-append p (x ∷ xs) ys h =
    ⊎_elim (λ here. or_left (p x) (list_any p (xs ++ ys)) here) (λ later. or_right (p x) (list_any p (xs ++ ys)) (any-append p xs ys later))
    (or_cases (p x) (list_any p xs) h)

any-last : (p : Removal → Bool) (xs : List Removal) (x : Removal) → p x ≡ true → list_any p (xs ++ x ∷ []) ≡ true
any-last p [] x h = or_left (p x) false h
any-last p (y ∷ ys) x h = or_right (p y) (list_any p (ys ++ x ∷ [])) (any-last p ys x h)

module _
    (usage : SymbolUse) (options : Options) (clauses : Lookup) (j : GivenJob) (ms : List Member)
    (tells : Tells usage clauses j ms) (given : Member) (there : Contains ms given) (same : j.number ≡ given.number) where
  abbrev p : ℕ → Bool
  p = usage.is_predicate

  beside : (m : Member) → Contains ms m → (k : ℕ) → (m.number ≡ k → ⊥) → is_told_beside j k m.number ≡ true
  beside m m_there k differ =
      let told = if_some (is_told j m.number) (clauses m.number) (clause_at m.clause) (member-told usage clauses j ms tells m m_there) in
      and_from (is_told j m.number) (not (m.number == k)) told.0 (not-same m.number k differ)

  -- a clause that is irreducible beside another one isn't simplified by it
  not-stays :
      (m : Member) → Contains ms m → (m.number ≡ given.number → ⊥)
      → IsReducedBeside p options clauses j m.number (clause_at m.clause)
      → Simplifies p options clauses j (clause_at given.clause) (clause_at m.clause) → ⊥
  not-stays m m_there differ irreducible simplifies =
      let told = if_some (is_told j given.number) (clauses given.number) (clause_at given.clause) (member-told usage clauses j ms tells given there) in
      let holds : IsMember (is_told_beside j m.number) clauses (clause_at given.clause) = (
        given.number,
        cond-true (is_told_beside j m.number given.number) (clauses given.number) None (beside given there m.number (λ e. differ (sym e))) ∙ told.1,
      ) in
      ⊎_elim
      (λ subsumes. irreducible.not_subsumed (record { clause = clause_at given.clause; holds = holds; does = subsumes }))
      (λ units.
      ⊎_elim
      (λ rewrites. irreducible.no_step rewrites.0 (inr (inr (inl (record { clause = clause_at given.clause; holds = holds; does = rewrites.1 })))))
      (λ cuts. irreducible.no_step cuts.0 (inr (inr (inr (record { clause = clause_at given.clause; holds = holds; does = cuts.1 })))))
      units)
      simplifies

  removes : (m : Member) → Contains ms m → (m.number ≡ given.number → ⊥) → (r : Removal) → GoesRightly p options clauses j m.number r → Removes p options clauses j r
  removes m m_there differ r goes = record {
    another =
        subst (λ k. is_told_beside j j.number k ≡ true) (sym goes.victim) (beside m m_there j.number (λ e. differ (e ∙ same)));
    right = goes.right;
  }

-- ---- one number more

pub none-removed : (split : Bool) (ms : List Member) (given : Member) → AreRemovalsAmong split ms given [] []
none-removed split ms given usage options clauses j tells splits same = (
  All-nil (Removes usage.is_predicate options clauses j),
  (λ m there listed differ simplifies. absurd (Contains-none m.number listed)),
)

module _
    (split : Bool) (ms : List Member) (sets : Sets) (given : Member) (seen : List ℕ) (n : ℕ) (before now : List Removal)
    (are : AreSetsOf ms sets) (numbered : All (λ (k : Member). k.number < CLAUSE_NUMBERS) ms) (given_there : Contains ms given)
    (was : AreRemovalsAmong split ms given seen before)
    (usage : SymbolUse) (options : Options) (clauses : Lookup) (j : GivenJob)
    (tells : Tells usage clauses j ms) (splits : options.split ≡ split) (same : j.number ≡ given.number) where
  abbrev Right : Removal → Type 0
  Right = Removes usage.is_predicate options clauses j

  abbrev Simplified : TreeClause → Type 0
  Simplified c = Simplifies usage.is_predicate options clauses j (clause_at given.clause) c

  abbrev Done : List ℕ → List Removal → Type 0
  Done ns rs =
      All Right rs
      × ((m : Member)
      → Contains ms m → Contains ns m.number → (m.number ≡ given.number → ⊥) → Simplified (clause_at m.clause)
      → list_any (λ (r : Removal). r.victim == m.number) rs ≡ true)

  old : Done seen before
  old = was usage options clauses j tells splits same

  none-more : AddsNone ms given.number n before now → Done (seen ++ n ∷ []) now
  none-more none = (
    subst (λ (rs : List Removal). All Right rs) (sym none.same) old.0,
    (λ m there listed differ simplifies.
        subst (λ (rs : List Removal). list_any (λ (r : Removal). r.victim == m.number) rs ≡ true) (sym none.same)
        (⊎_elim
        (λ earlier. old.1 m there earlier differ simplifies)
        (λ last. absurd (differ (sym last ∙ none.none m there (sym last))))
        (Contains-push_cases seen n m.number listed))),
  )

  module _ (v : Member) (there : Contains ms v) (number : v.number ≡ n) (another : n ≡ given.number → ⊥) where
    differs : v.number ≡ given.number → ⊥
    differs e = another (sym number ∙ e)

    told : told_of clauses j n ≡ Some (clause_at v.clause)
    told = ap (told_of clauses j) (sym number) ∙ member-told usage clauses j ms tells v there

    -- members with one number have one clause
    same-clause : (m : Member) → Contains ms m → n ≡ m.number → clause_at m.clause ≡ clause_at v.clause
    same-clause m m_there last =
        same_Some (clause_at m.clause) (clause_at v.clause)
        (sym (member-told usage clauses j ms tells m m_there) ∙ ap (told_of clauses j) (sym last) ∙ told)

    one-more :
        (gone : Option Removal) → now ≡ before ++ option_to_list gone
        → StaysOrGoes usage.is_predicate options clauses j n (clause_at v.clause) gone → Done (seen ++ n ∷ []) now
    one-more None added stays =
        let still : now ≡ before = added ∙ append-nil before in (
          subst (λ (rs : List Removal). All Right rs) (sym still) old.0,
          (λ m m_there listed differ simplifies.
              subst (λ (rs : List Removal). list_any (λ (r : Removal). r.victim == m.number) rs ≡ true) (sym still)
              (⊎_elim
              (λ earlier. old.1 m m_there earlier differ simplifies)
              (λ last.
              absurd
              (not-stays usage options clauses j ms tells given given_there same v there differs
              (subst (λ k. IsReducedBeside usage.is_predicate options clauses j k (clause_at v.clause)) (sym number) stays)
              (subst Simplified (same-clause m m_there last) simplifies)))
              (Contains-push_cases seen n m.number listed))),
        )
    one-more (Some r) added goes = (
      subst (λ (rs : List Removal). All Right rs) (sym added)
          (All-append Right before (r ∷ []) old.0
          (All-cons Right r []
          (removes usage options clauses j ms tells given given_there same v there differs r
          (subst (λ k. GoesRightly usage.is_predicate options clauses j k r) (sym number) goes))
          (All-nil Right))),
      (λ m m_there listed differ simplifies.
          subst (λ (rs : List Removal). list_any (λ (q : Removal). q.victim == m.number) rs ≡ true) (sym added)
          (⊎_elim
          (λ earlier. any-append (λ (q : Removal). q.victim == m.number) before (r ∷ []) (old.1 m m_there earlier differ simplifies))
          (λ last. any-last (λ (q : Removal). q.victim == m.number) before r (eq-eqb r.victim m.number (goes.victim ∙ last)))
          (Contains-push_cases seen n m.number listed))),
    )

  considered-more : IsConsidered split ms sets.equations sets.units sets.subsumers given.number n before now → Done (seen ++ n ∷ []) now
  considered-more considered =
      ⊎_elim none-more
      (λ one.
      one-more one.member one.there one.numbered one.another (one.adds).gone (one.adds).added
      ((one.adds).right usage options clauses j (sets-told usage clauses j ms tells sets are numbered) splits
      (told one.member one.there one.numbered one.another)))
      considered

pub removal-more :
    (split : Bool) (ms : List Member) (sets : Sets) (given : Member) (seen : List ℕ) (n : ℕ) (before now : List Removal)
    → AreSetsOf ms sets → All (λ (k : Member). k.number < CLAUSE_NUMBERS) ms → Contains ms given
    → IsConsidered split ms sets.equations sets.units sets.subsumers given.number n before now
    → AreRemovalsAmong split ms given seen before → AreRemovalsAmong split ms given (seen ++ n ∷ []) now
removal-more split ms sets given seen n before now are numbered given_there considered was usage options clauses j tells splits same =
    considered-more split ms sets given seen n before now are numbered given_there was usage options clauses j tells splits same considered

-- the members that it simplifies are among those of the list
pub removals-all :
    (split : Bool) (ms : List Member) (given : Member) (numbers : List ℕ) (removals : List Removal)
    → HasSimplified ms given numbers → AreRemovalsAmong split ms given numbers removals → AreRemovalsOf split ms given removals
removals-all split ms given numbers removals has among usage options clauses j tells splits same =
    let of_list = among usage options clauses j tells splits same in (
      of_list.0,
      (λ m there differ simplifies. of_list.1 m there (has usage options clauses j tells m there differ simplifies) differ simplifies),
    )

-- ---- the numbers of those that are simplified

pub by-unit : (es : List (Tree × ℕ)) (ls : List TreeLiteral) (l : TreeLiteral) → length ls ≡ 1 → slice_get ls 0 ≡ Some l → numbers_by_unit es ls ≡ numbers_with_instances es l
by-unit es [] l one at = absurd (none-some l at)
by-unit es (k ∷ []) l one at = ap (numbers_with_instances es) (same_Some k l at)
by-unit es (k ∷ m ∷ ls) l one at = absurd (omega (arith, one))

-- the first literal is no larger than all of them
pub first-small : (ls : List TreeLiteral) (l : TreeLiteral) → slice_get ls 0 ≡ Some l → literal_size l ≤ sum_by literal_size ls
first-small [] l at = absurd (none-some l at)
first-small (k ∷ ls) l at =
    let same = ap literal_size (same_Some k l at) in omega (arith, same, sum_by-cons literal_size k ls)

pub by-no-unit : (es : List (Tree × ℕ)) (ls : List TreeLiteral) → (length ls ≡ 1 → ⊥) → numbers_by_unit es ls ≡ []
by-no-unit es [] none = refl
by-no-unit es (l ∷ []) none = absurd (none refl)
by-no-unit es (l ∷ k ∷ ls) none = refl

pub has-simplified :
    (ms : List Member) (sets : Sets) (es : List (Tree × ℕ)) (given : Member) (subsumed numbers : List ℕ)
    → AreSetsOf ms sets → All (λ (k : Member). k.number < CLAUSE_NUMBERS) ms → ListsMembers es ms → Contains ms given
    → ((usage : SymbolUse) → IsMemberOfUse usage given → AreMembersOfUse usage sets.subsumers → AreNumbersOf (IsSubsumedBy usage given) sets.subsumers subsumed)
    → ((n : ℕ) → Contains (subsumed ++ numbers_by_unit es (clause_at given.clause).literals) n → Contains numbers n)
    → HasSimplified ms given numbers
has-simplified ms sets es given subsumed numbers are small listed given_there exact into usage options clauses j tells m there differ simplifies =
    ⊎_elim
    (λ subsumes. into m.number (Contains-append_left subsumed by_unit m.number (found subsumes)))
    (λ units. into m.number (Contains-append_right subsumed by_unit m.number (⊎_elim rewritten cut units)))
    simplifies
  where
    by_unit : List ℕ
    by_unit = numbers_by_unit es (clause_at given.clause).literals

    found : Subsumes usage.is_predicate (clause_at given.clause) (clause_at m.clause) → Contains subsumed m.number
    found subsumes =
        ((exact usage
        (All-contains (λ (k : Member). IsWhole usage tells.parts (clause_at k.clause)) ms given tells.whole given_there).formed
        (members-formed usage clauses j sets.equations sets.units sets.subsumers (sets-told usage clauses j ms tells sets are small))).exact m.number).1
        (record { member = m; there = (are.subsumers m).1 there; does = record { other = λ e. differ (sym e); subsumed = subsumes }; number = refl })

    rewritten : (d : TreeClause) × RewritesBy usage.is_predicate (clause_at given.clause) (clause_at m.clause) d → Contains by_unit m.number
    rewritten r =
        subst (λ (ls : List TreeLiteral). Contains (numbers_by_unit es ls) m.number) (sym (r.1).is_unit)
        (rewritten-found es m.number (r.1).equation usage.is_predicate (clause_at given.clause) (clause_at m.clause) r.0 (r.1).is_unit (listed m there) r.1)

    cut : (d : TreeClause) × CutsBy usage.is_predicate (clause_at given.clause) (clause_at m.clause) d → Contains by_unit m.number
    cut r =
        subst (λ (ls : List TreeLiteral). Contains (numbers_by_unit es ls) m.number) (sym (r.1).is_unit)
        (cut-found es m.number (r.1).unit_literal usage.is_predicate (clause_at given.clause) (clause_at m.clause) r.0 (r.1).is_unit (listed m there) r.1)
