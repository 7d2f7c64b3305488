-- The work on a given clause is right.
use Rattle.std.proofs.Common.{◌≡◌, ◌⊎◌, ℕ, suc, ◌<◌, ◌≤◌, ◌==◌, not, Bool, true, List, [], ◌∷◌, ◌++◌, append-nil, length, map, Some, None, refl, ap, ap₂, sym, ◌∙◌, subst, ⊎_elim, inl, inr}
use Rattle.std.specs.Prelude.{All, AllPairs, Contains, slice_get, take_while, option_map, IsTrue}
use Rattle.std.specs.List.{list_all, list_any}
use Rattle.std.proofs.lemmas.Bool.{cond-true, and_from, and_parts, eq-eqb, true≢false}
use Rattle.std.proofs.lemmas.Option.{same_Some}
use Rattle.std.proofs.lemmas.List.Elements.{All-nil, All-cons, All-head, All-tail, All-contains, Contains-append_left}
use Rattle.fol_base.specs.Clause.{TreeClause}
use Rattle.fol_base.specs.WellFormed.{SymbolUse}
use Rattle.fol_base.proofs.WorkedExamples.TestLemmas.{if_some, option_map-some}
use Rattle.kernel_steps.specs.Split.{has_number}
use Rattle.kernel_steps.specs.Named.{IsInference}
use Rattle.kernel_steps.specs.declared.key.Key.{Key}
use Rattle.kernel_steps.specs.declared.step.TheConstants.{CLAUSE_NUMBERS}
use Rattle.literal_selection.specs.Mode.{mode_of}
use Rattle.literal_selection.specs.declared.choice.Selection.{Selection}
use Rattle.bank_clause.specs.Clause.{clause_at}
use Rattle.bank_clause.specs.declared.member.Member.{Member}
use Rattle.partners.specs.Partners.{Placed, placed_numbered}
use Rattle.subsume.specs.Members.{numbers_of}
use Rattle.eq_rules.specs.Inferences.{AreInferences, AreSomeInferences, IsMade}
use Rattle.eq_rules.specs.declared.inference.Inference.{Inference}
use Rattle.pool_history.specs.Record.{GivenJob}
use Rattle.pool_history.specs.Counting.{keys_of}
use Rattle.pool_history.specs.Reduction.{Lookup}
use Rattle.pool_history.specs.Batches.{IsGoneFor, IsReducedBeside, IsRightFate, IsRightRemoval, IsRightWork, MeetsAll, RemovesAll, Simplifies, is_to_meet, is_told, is_told_beside, told_before}
use Rattle.pool_history.specs.declared.options.Options.{Options}
use Rattle.pool_history.specs.declared.batch.Entry.{Entry}
use Rattle.pool_history.specs.declared.batch.Fate.{Fate}
use Rattle.pool_history.specs.declared.batch.Fate.TheVariants.{Dropped, Heavy, Kept}
use Rattle.pool_history.specs.declared.batch.Removal.{Removal}
use Rattle.pool_history.specs.declared.batch.Work.{Work}
use Rattle.pool_history.specs.declared.batch.Work.TheVariants.{Gone}
use Rattle.given_work.specs.Going.{GoesRightly, IsRemovalOf, LeavesIrreducible}
use Rattle.given_work.specs.Meeting.{AreEntriesOf, AreFirstEntries, AreMetUpTo, AreSomeMetWith, IsMadeWith, before_place, is_met}
use Rattle.given_work.specs.Removing.{AreTold, Removes}
use Rattle.given_work.specs.Sets.{AreSetsOf}
use Rattle.given_work.specs.Store.{ArePlaced, IsAt, members_in}
use Rattle.given_work.specs.Telling.{AreToldSets, Tells, told_of}
use Rattle.given_work.specs.Working.{HasRemovals, IsMetBy, IsRightWorkOf}
use Rattle.given_work.specs.declared.sets.Sets.{Sets}
use Rattle.given_work.specs.declared.store.Store.{Store}
use Rattle.given_work.proofs.AboutBatches.Justifiers.{all-from}
use Rattle.given_work.proofs.AboutMeeting.KeyLemmas.{Contains-map, before-is, keys-differ, meets-met, met-meets, once-first, to_meet}
use Rattle.given_work.proofs.AboutMeeting.InferenceLemmas.{all-some}
use Rattle.given_work.proofs.AboutMeeting.MeetLemmas.{not-before}
use Rattle.given_work.proofs.AboutIndexes.Slots.{at-living, living-at}
use Rattle.given_work.proofs.AboutIndexes.StoreLemmas.{found-placed, placed_at}
use Rattle.given_work.proofs.AboutIndexes.TellingLemmas.{member-told, numbered-member, sets-told, told-member}

-- ---- the place of a clause

pub found-at :
    (store : Store) (n : ℕ) → ArePlaced store → has_number n (numbers_of (members_in store.slots.items)) ≡ true
    → (p : Placed) × (placed_numbered n store.partners.members ≡ Some p)
found-at store n placed there =
    let found = numbered-member (members_in store.slots.items) n there in
    let at = living-at store.slots.items found.0 found.1 in (
      placed_at at.0 found.0,
      ap (λ k. placed_numbered k store.partners.members) (sym found.2) ∙ found-placed store at.0 found.0 placed at.1,
    )

-- its position and its member tell where it stands
pub given-at :
    (store : Store) (n place : ℕ) (m : Member) → ArePlaced store
    → option_map (λ (p : Placed). p.position) (placed_numbered n store.partners.members) ≡ Some place
    → option_map (λ (p : Placed). p.member) (placed_numbered n store.partners.members) ≡ Some m
    → IsAt store.slots.items n (placed_at place m)
given-at store n place m placed position member =
    option_map-some (λ (p : Placed). p.position) (placed_numbered n store.partners.members) place position λ p found at_place.
    let at = (placed n p).0 found in
    let is : p.member ≡ m =
    same_Some p.member m (sym (ap (option_map (λ (q : Placed). q.member)) found) ∙ member) in
    record {
      there = ap (slice_get store.slots.items) (sym at_place) ∙ at.there ∙ ap (λ (k : Member). Some (Some k)) is;
      numbered = ap (λ (k : Member). k.number) (sym is) ∙ at.numbered;
    }

-- ---- inferences for some job

some-of-met :
    (left : ℕ) (mode : Selection) (ms : List Member) (g : ℕ) (ns : List ℕ) (found : List Inference)
    → AreMetUpTo left mode ms g ns found → AreSomeMetWith mode ms g ns found
some-of-met left mode ms g ns found met =
    ⊎_elim
    (λ all usage clauses j tells.
    all-some usage.is_predicate (mode_of mode) (told_of clauses j) (is_met g ns) found (all usage clauses j tells))
    (λ some. some.1) met

pub all-made :
    (left : ℕ) (mode : Selection) (ms : List Member) (sets : Sets) (g : ℕ) (ns : List ℕ) (found : List Inference)
    → AreTold ms → AreSetsOf ms sets → All (λ (m : Member). m.number < CLAUSE_NUMBERS) ms → AreMetUpTo left mode ms g ns found
    → All (IsMadeWith sets.equations sets.units sets.subsumers) found
all-made left mode ms sets g ns found told are numbered met =
    all-from (IsMadeWith sets.equations sets.units sets.subsumers) found λ e there. record {
      mode = mode_of mode;
      usage = told.usage;
      clauses = told.clauses;
      job = told.job;
      sets = sets-told told.usage told.clauses told.job ms told.tells sets are numbered;
      made =
          (All-contains
          (λ (d : Inference). IsTrue (is_met g ns d.key) × IsMade (told.usage).is_predicate (mode_of mode) (told_of told.clauses told.job) d.key d.result)
          found e (some-of-met left mode ms g ns found met told.usage told.clauses told.job told.tells).made there).1;
    }

-- ---- entries

entered-keys : (split : Bool) (es us ms : List Member) (done : List Inference) (entries : List Entry) → AreEntriesOf split es us ms done entries → keys_of entries ≡ map (λ (e : Inference). e.key) done
entered-keys split es us ms [] entries none = ap keys_of none
entered-keys split es us ms (d ∷ ds) entries some = ap keys_of some.2 ∙ ap₂ (λ (k : Key) (ks : List Key). k ∷ ks) (some.3).key (entered-keys split es us ms ds some.1 some.4)

entered-length : (split : Bool) (es us ms : List Member) (done : List Inference) (entries : List Entry) → AreEntriesOf split es us ms done entries → length entries ≡ length done
entered-length split es us ms [] entries none = ap (λ (xs : List Entry). length xs) none
entered-length split es us ms (d ∷ ds) entries some =
    ap (λ (xs : List Entry). length xs) some.2 ∙ ap suc (entered-length split es us ms ds some.1 some.4)

every : {X : Type 0} (q : X → Bool) (xs : List X) → ((x : X) → Contains xs x → q x ≡ true) → list_all q xs ≡ true
every {X = X} q xs each = by xs (all-from (λ (x : X). q x ≡ true) xs each)
  where
    by : (ys : List X) → All (λ (x : X). q x ≡ true) ys → list_all q ys ≡ true
    by [] all = refl
    by (y ∷ ys) all = and_from (q y) (list_all q ys) (All-head (λ (x : X). q x ≡ true) y ys all) (by ys (All-tail (λ (x : X). q x ≡ true) y ys all))

every-key : (q : Key → Bool) (done : List Inference) → All (λ (e : Inference). q e.key ≡ true) done → list_all q (map (λ (e : Inference). e.key) done) ≡ true
every-key q [] all = refl
every-key q (d ∷ ds) all =
    and_from (q d.key) (list_all q (map (λ (e : Inference). e.key) ds)) (All-head (λ (e : Inference). q e.key ≡ true) d ds all)
    (every-key q ds (All-tail (λ (e : Inference). q e.key ≡ true) d ds all))

module _ (usage : SymbolUse) (options : Options) (clauses : Lookup) (j : GivenJob) where
  abbrev p : ℕ → Bool
  p = usage.is_predicate

  abbrev Right : Entry → Type 0
  Right e = IsRightFate p options clauses j e.key e.fate

  abbrev Makes : Inference → Type 0
  Makes e = IsMade p (mode_of options.select) (told_of clauses j) e.key e.result

  fates-right :
      (split : Bool) (es us ms : List Member) (done : List Inference) (entries : List Entry)
      → AreToldSets usage clauses j es us ms → options.split ≡ split → AreEntriesOf split es us ms done entries → All Makes done → All Right entries
  fates-right split es us ms [] entries sets splits none made = subst (λ (xs : List Entry). All Right xs) (sym none) (All-nil Right)
  fates-right split es us ms (d ∷ ds) entries sets splits some made =
      subst (λ (xs : List Entry). All Right xs) (sym some.2)
      (All-cons Right some.0 some.1 ((some.3).right usage options clauses j sets splits (All-head Makes d ds made))
      (fates-right split es us ms ds some.1 sets splits some.4 (All-tail Makes d ds made)))

  -- ---- a clause that goes

  gone-for : (fate : Fate) → LeavesIrreducible p options clauses j j.number fate → IsGoneFor p options clauses j fate
  gone-for (Kept lines results) leaves = leaves
  gone-for (Dropped redundancy) leaves = leaves
  gone-for Heavy leaves = leaves

  goes-right : (n : ℕ) (m : Removal) → j.number ≡ n → GoesRightly p options clauses j n m → IsRightWork p options clauses j (Gone m)
  goes-right n m same goes = record {
    victim = goes.victim ∙ sym same;
    right = goes.right;
    irreducible = gone-for m.fate (subst (λ k. LeavesIrreducible p options clauses j k m.fate) (sym same) goes.leaves);
  }

  -- ---- a clause that stays

  module _
      (mode : Selection) (store : Store) (sets : Sets) (place : ℕ) (given : Member) (left : ℕ)
      (placed : ArePlaced store) (are : AreSetsOf (members_in store.slots.items) sets)
      (numbered : All (λ (m : Member). m.number < CLAUSE_NUMBERS) (members_in store.slots.items))
      (at : slice_get store.slots.items place ≡ Some (Some given))
      (tells : Tells usage clauses j (members_in store.slots.items))
      (same_mode : options.select ≡ mode) (split : Bool) (splits : options.split ≡ split) (same : j.number ≡ given.number) where
    abbrev all_members : List Member
    all_members = members_in store.slots.items

    abbrev lower : List ℕ
    lower = before_place store.slots.items place

    given-there : Contains all_members given
    given-there = at-living store.slots.items place given at

    told-sets : AreToldSets usage clauses j sets.equations sets.units sets.subsumers
    told-sets = sets-told usage clauses j all_members tells sets are numbered

    given-told : told_of clauses j given.number ≡ Some (clause_at given.clause)
    given-told = member-told usage clauses j all_members tells given given-there

    lower-is : told_before j ≡ lower
    lower-is =
        ap (λ k. take_while (λ n. not (n == k)) j.told) same
        ∙ ap (λ ns. take_while (λ n. not (n == given.number)) ns) (sym tells.numbers)
        ∙ before-is store.slots.items place given at (not-before store place given placed at)

    met-is-to : (key : Key) → is_met given.number lower key ≡ true → is_to_meet p options clauses j key ≡ true
    met-is-to key h =
        subst (λ k. to_meet k (told_before j) key ≡ true) (sym same)
        (subst (λ ns. to_meet given.number ns key ≡ true) (sym lower-is) (met-meets given.number lower key h))

    to-is-met :
        (key : Key) (c : TreeClause) → IsInference p (mode_of options.select) (told_of clauses j) key c
        → is_to_meet p options clauses j key ≡ true → is_met given.number lower key ≡ true
    to-is-met key c inferred h =
        meets-met p (mode_of options.select) (told_of clauses j) c given.number lower key inferred
        (subst (λ ns. to_meet given.number ns key ≡ true) lower-is (subst (λ k. to_meet k (told_before j) key ≡ true) same h))

    abbrev Finds : List Inference → Type 0
    Finds found = AreSomeInferences p (mode_of options.select) (told_of clauses j) (is_met given.number lower) found

    abbrev FindsAll : List Inference → Type 0
    FindsAll found = AreInferences p (mode_of options.select) (told_of clauses j) (is_met given.number lower) found

    module _ (found : List Inference) (finds : Finds found) (entries : List Entry)
        (first : AreFirstEntries split sets.equations sets.units sets.subsumers found left entries) where
      keys-are : keys_of entries ≡ map (λ (e : Inference). e.key) first.done
      keys-are = entered-keys split sets.equations sets.units sets.subsumers first.done entries first.entered

      each-done : (e : Inference) → Contains first.done e → (is_met given.number lower e.key ≡ true) × Makes e
      each-done e there =
          All-contains (λ (d : Inference). (is_met given.number lower d.key ≡ true) × Makes d) found e finds.made
          (subst (λ (xs : List Inference). Contains xs e) (sym first.all) (Contains-append_left first.done first.rest e there))

      differ : AllPairs (λ (k l : Key). k ≡ l → ⊥) (keys_of entries)
      differ =
          subst (λ (ks : List Key). AllPairs (λ (k l : Key). k ≡ l → ⊥) ks) (sym keys-are)
          (keys-differ first.done
          (once-first first.done first.rest
          (subst
          (λ (xs : List Inference). (m n : ℕ) (d e : Inference) → slice_get xs m ≡ Some d → slice_get xs n ≡ Some e → d.key ≡ e.key → m ≡ n)
          first.all finds.once)))

      all-to-meet : list_all (is_to_meet p options clauses j) (keys_of entries) ≡ true
      all-to-meet =
          ap (list_all (is_to_meet p options clauses j)) keys-are
          ∙ every-key (is_to_meet p options clauses j) first.done
          (all-from (λ (e : Inference). is_to_meet p options clauses j e.key ≡ true) first.done (λ e there. met-is-to e.key (each-done e there).0))

      all-right : All Right entries
      all-right =
          fates-right split sets.equations sets.units sets.subsumers first.done entries told-sets splits first.entered
          (all-from Makes first.done (λ e there. (each-done e there).1))

      -- where no inference is left over, there are as many entries as inferences
      as-many : first.rest ≡ [] → length entries ≡ length found
      as-many none =
          entered-length split sets.equations sets.units sets.subsumers first.done entries first.entered
          ∙ sym (ap (λ (xs : List Inference). length xs) (first.all ∙ ap (λ (r : List Inference). first.done ++ r) none ∙ append-nil first.done))

      meets-all : FindsAll found → first.rest ≡ [] → MeetsAll p options clauses j entries
      meets-all all none key c meets inferred =
          let e = all.complete key c (to-is-met key c inferred meets) inferred in
          let there : Contains first.done e.0 =
          subst (λ (xs : List Inference). Contains xs e.0) (first.all ∙ ap (λ (r : List Inference). first.done ++ r) none ∙ append-nil first.done) e.1 in
          subst (λ k. Contains (keys_of entries) k) e.2
          (subst (λ (ks : List Key). Contains ks (e.0).key) (sym keys-are) (Contains-map (λ (d : Inference). d.key) first.done e.0 there))

    module _ (removals : List Removal) where
      abbrev Removed : Type 0
      Removed =
          All (Removes p options clauses j) removals
          × ((m : Member)
          → Contains all_members m → (m.number ≡ given.number → ⊥)
          → Simplifies p options clauses j (clause_at given.clause) (clause_at m.clause)
          → list_any (λ (r : Removal). r.victim == m.number) removals ≡ true)

      removes-all : Removed → RemovesAll p options clauses j removals
      removes-all removed n by c beside there simplifies =
          let parts = if_some (is_told_beside j j.number n) (clauses n) c beside in
          let told = and_parts (is_told j n) (not (n == j.number)) parts.0 in
          let m = told-member usage clauses j all_members tells n c (both n c told.0 parts.1) in
          let is_given : by ≡ clause_at given.clause =
          same_Some by (clause_at given.clause) (sym there ∙ ap (told_of clauses j) same ∙ given-told) in
          subst (λ k. list_any (λ (r : Removal). r.victim == k) removals ≡ true) m.number
          (removed.1 m.member m.there (λ e. other n told.1 (sym m.number ∙ e ∙ sym same))
          (subst (λ d. Simplifies p options clauses j (clause_at given.clause) d) (sym m.clause)
          (subst (λ d. Simplifies p options clauses j d c) is_given simplifies)))
        where
          both : (n : ℕ) (c : TreeClause) → is_told j n ≡ true → clauses n ≡ Some c → told_of clauses j n ≡ Some c
          both n c told there = cond-true (is_told j n) (clauses n) None told ∙ there

          other : (n : ℕ) → not (n == j.number) ≡ true → n ≡ j.number → ⊥
          other n differs e = true≢false (sym differs ∙ ap not (eq-eqb n j.number e))

      right-removed :
          All (Removes p options clauses j) removals
          → (list_all (λ (m : Removal). is_told_beside j j.number m.victim) removals ≡ true) × All (IsRightRemoval p options clauses j) removals
      right-removed all = (
        every (λ (m : Removal). is_told_beside j j.number m.victim) removals (λ m there. (All-contains (Removes p options clauses j) removals m all there).another),
        all-from (IsRightRemoval p options clauses j) removals (λ m there. (All-contains (Removes p options clauses j) removals m all there).right),
      )

    meeting :
        IsReducedBeside p options clauses j given.number (clause_at given.clause)
        → (met : Work) → IsMetBy split mode sets all_members lower given left met → j.left ≡ left → IsRightWork p options clauses j met
    meeting irreducible met by same_left =
        subst (λ (w : Work). IsRightWork p options clauses j w) (sym by.is)
        (record {
          given_irreducible = record {
            clause = clause_at given.clause;
            there = ap (told_of clauses j) same ∙ given-told;
            infers = subst (λ k. IsReducedBeside p options clauses j k (clause_at given.clause)) (sym same) irreducible;
          };
          keys_differ = differ by.found finds by.entries by.entered;
          keys_met = all-to-meet by.found finds by.entries by.entered;
          right_entries = all-right by.found finds by.entries by.entered;
          others_removed = (right-removed by.removals removed).0;
          right_removals = (right-removed by.removals removed).1;
          whole = enough by.removed;
        })
      where
        finds : Finds by.found
        finds =
            subst
            (λ (m : Selection). AreSomeInferences p (mode_of m) (told_of clauses j) (is_met given.number lower) by.found)
            (sym same_mode) (some-of-met left mode all_members given.number lower by.found by.met usage clauses j tells)

        removed : All (Removes p options clauses j) by.removals
        removed =
            ⊎_elim
            (λ enough. subst (λ (rs : List Removal). All (Removes p options clauses j) rs) (sym enough.1) (All-nil (Removes p options clauses j)))
            (λ all. (all usage options clauses j tells splits same).0)
            by.removed

        enough : HasRemovals split all_members given left by.entries by.removals → (j.left ≤ length by.entries) ⊎ (MeetsAll p options clauses j by.entries × RemovesAll p options clauses j by.removals)
        enough (inl stopped) = inl (subst (λ n. n ≤ length by.entries) (sym same_left) stopped.0)
        enough (inr all) =
            ⊎_elim
            (λ stopped. inl (subst (λ n. n ≤ length by.entries) (sym same_left) stopped))
            (λ whole.
            ⊎_elim
            (λ found_all.
            inr (
              meets-all by.found finds by.entries by.entered
                  (subst
                  (λ (m : Selection). AreInferences p (mode_of m) (told_of clauses j) (is_met given.number lower) by.found)
                  (sym same_mode) (found_all usage clauses j tells))
                  whole,
              removes-all by.removals (all usage options clauses j tells splits same),
            ))
            (λ found_some.
            inl
            (subst (λ n. n ≤ length by.entries) (sym same_left)
            (subst (λ n. left ≤ n) (sym (as-many by.found finds by.entries by.entered whole)) found_some.0)))
            by.met)
            (by.entered).enough

-- ---- work

pub meeting-right :
    (split : Bool) (mode : Selection) (store : Store) (sets : Sets) (place : ℕ) (given : Member) (left : ℕ) (work : Work)
    → ArePlaced store → AreSetsOf (members_in store.slots.items) sets → All (λ (m : Member). m.number < CLAUSE_NUMBERS) (members_in store.slots.items)
    → slice_get store.slots.items place ≡ Some (Some given)
    → IsRemovalOf split sets.equations sets.units sets.subsumers given.number (clause_at given.clause) None
    → IsMetBy split mode sets (members_in store.slots.items) (before_place store.slots.items place) given left work
    → IsRightWorkOf split mode (members_in store.slots.items) given.number left work
meeting-right split mode store sets place given left work placed are numbered at stays by usage options clauses j tells same_mode splits same same_left =
    let told = sets-told usage clauses j (members_in store.slots.items) tells sets are numbered in
    let given_told =
    member-told usage clauses j (members_in store.slots.items) tells given (at-living store.slots.items place given at) in
    meeting usage options clauses j mode store sets place given left placed are numbered at tells same_mode split splits same
    (stays usage options clauses j told splits given_told) work by same_left

pub going-right :
    (split : Bool) (mode : Selection) (store : Store) (sets : Sets) (place : ℕ) (given : Member) (left : ℕ) (m : Removal)
    → AreSetsOf (members_in store.slots.items) sets → All (λ (k : Member). k.number < CLAUSE_NUMBERS) (members_in store.slots.items)
    → slice_get store.slots.items place ≡ Some (Some given)
    → IsRemovalOf split sets.equations sets.units sets.subsumers given.number (clause_at given.clause) (Some m)
    → IsRightWorkOf split mode (members_in store.slots.items) given.number left (Gone m)
going-right split mode store sets place given left m are numbered at goes usage options clauses j tells same_mode splits same same_left =
    let told = sets-told usage clauses j (members_in store.slots.items) tells sets are numbered in
    let given_told =
    member-told usage clauses j (members_in store.slots.items) tells given (at-living store.slots.items place given at) in
    goes-right usage options clauses j given.number m same (goes usage options clauses j told splits given_told)
