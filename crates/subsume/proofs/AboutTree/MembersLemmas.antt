-- Sets of members whose features are found by their numbers.
use Rattle.std.proofs.Common.{◌≡◌, ℕ, Bool, true, false, ◌||◌, ◌==◌, None, Some, Result, Ok, Err, List, [], ◌∷◌, refl, ap, sym, ◌∙◌, subst, ⊎_elim}
use Rattle.std.specs.Prelude.{not, nat_eq, All, IsTrue, IsOk, OnOk, IsPermutation}
use Rattle.std.specs.List.{list_any}
use Rattle.std.specs.Map.{lookup}
use Rattle.std.proofs.lemmas.Bool.{and_parts, and_from, or_parts, not-true, true≢false, cases_Bool, eqb-true, eq-eqb}
use Rattle.std.proofs.lemmas.List.Elements.{All-head, All-tail, All-cons}
use Rattle.std.proofs.lemmas.List.Sorted.{IsPermutation-map, All-permutation}
use Rattle.fol_base.specs.Subsumption.{all_different}
use Rattle.bank_clause.specs.Clause.{clause_at}
use Rattle.bank_clause.specs.declared.member.Member.{Member}
use Rattle.subsume.specs.declared.vector.Features.{Features}
use Rattle.subsume.specs.Features.{AreFeaturesOf}
use Rattle.subsume.specs.Editing.{HasNone, HasNoNumber, IsNumbered}
use Rattle.subsume.specs.Members.{AreKnown, IsKnownIn, numbers_of}
use Rattle.subsume.proofs.AboutSearch.ChoosingLemmas.{different-permutation}
use Rattle.subsume.proofs.AboutTree.EditLemmas.{none}

abbrev Known : Type 0
Known = List (ℕ × Features)

-- what is known of other numbers stays
abbrev KeepsOthers : ℕ → Known → Known → Type 0
KeepsOthers n old new = (q : ℕ) → nat_eq n q ≡ false → lookup (nat_eq q) new ≡ lookup (nat_eq q) old

abbrev Other : ℕ → Member → Type 0
Other n m = m.number ≡ n → ⊥

differs : (n k : ℕ) → (k ≡ n → ⊥) → nat_eq n k ≡ false
differs n k h = ⊎_elim (λ e. absurd (h (sym (eqb-true n k e)))) (λ e. e) (cases_Bool (nat_eq n k))

pub absent-number : (n : ℕ) (ms : List Member) → HasNoNumber n ms → list_any (λ i. n == i) (numbers_of ms) ≡ false
absent-number n [] h = refl
absent-number n (m ∷ ms) h =
    ap (λ b. b || list_any (λ i. n == i) (numbers_of ms)) (differs n m.number (All-head (Other n) m ms h))
    ∙ absent-number n ms (All-tail (Other n) m ms h)

pub no-number : (n : ℕ) (ms : List Member) → list_any (λ i. n == i) (numbers_of ms) ≡ false → HasNoNumber n ms
no-number n [] h = none (Other n)
no-number n (m ∷ ms) h =
    let parts = or_parts (n == m.number) (list_any (λ i. n == i) (numbers_of ms)) h in
    All-cons (Other n) m ms (λ e. true≢false (sym (eq-eqb n m.number (sym e)) ∙ parts.0)) (no-number n ms parts.1)

known-kept :
    (n : ℕ) (ms : List Member) (old new : Known) → KeepsOthers n old new → HasNoNumber n ms → All (IsKnownIn old) ms → All (IsKnownIn new) ms
known-kept n [] old new keeps others known = none (IsKnownIn new)
known-kept n (m ∷ ms) old new keeps others known =
    let here = All-head (IsKnownIn old) m ms known in
    All-cons (IsKnownIn new) m ms
    (here.0, keeps m.number (differs n m.number (All-head (Other n) m ms others)) ∙ here.1, here.2)
    (known-kept n ms old new keeps (All-tail (Other n) m ms others) (All-tail (IsKnownIn old) m ms known))

pub known-inserted :
    (ms new : List Member) (m : Member) (old known : Known) (f : Features)
    → AreKnown ms old → HasNoNumber m.number ms → IsPermutation (m ∷ ms) new
    → AreFeaturesOf (clause_at m.clause).literals f.values → lookup (nat_eq m.number) known ≡ Some f → KeepsOthers m.number old known
    → AreKnown new known
known-inserted ms new m old known f before others perm features there keeps = record {
  once =
      different-permutation (numbers_of (m ∷ ms)) (numbers_of new) (IsPermutation-map (λ (k : Member). k.number) (m ∷ ms) new perm)
      (and_from (not (list_any (λ i. m.number == i) (numbers_of ms))) (all_different (numbers_of ms)) (ap not (absent-number m.number ms others)) before.once);
  found =
      All-permutation (IsKnownIn known) (m ∷ ms) new perm
      (All-cons (IsKnownIn known) m ms (f, there, features) (known-kept m.number ms old known keeps others before.found));
}

-- once a number is taken out, it isn't there
pub number-gone : (n : ℕ) (ms new : List Member) → all_different (numbers_of ms) ≡ true → IsNumbered n ms new → HasNoNumber n new
number-gone n ms new once gone =
    let parts =
    and_parts (not (list_any (λ i. gone.member.number == i) (numbers_of new))) (all_different (numbers_of new))
    (different-permutation (numbers_of ms) (numbers_of (gone.member ∷ new)) (IsPermutation-map (λ (k : Member). k.number) ms (gone.member ∷ new) gone.gone) once) in
    no-number n new (subst (λ k. list_any (λ i. k == i) (numbers_of new) ≡ false) gone.named (not-true (list_any (λ i. gone.member.number == i) (numbers_of new)) parts.0))

pub known-removed :
    (n : ℕ) (ms new : List Member) (old known : Known) → AreKnown ms old → IsNumbered n ms new → KeepsOthers n old known → AreKnown new known
known-removed n ms new old known before gone keeps =
    let once =
    and_parts (not (list_any (λ i. gone.member.number == i) (numbers_of new))) (all_different (numbers_of new))
    (different-permutation (numbers_of ms) (numbers_of (gone.member ∷ new)) (IsPermutation-map (λ (k : Member). k.number) ms (gone.member ∷ new) gone.gone) before.once) in
    record {
      once = once.1;
      found =
          known-kept n new old known keeps (number-gone n ms new before.once gone)
          (All-tail (IsKnownIn old) gone.member new (All-permutation (IsKnownIn old) ms (gone.member ∷ new) gone.gone before.found));
    }

-- no member has a number of which nothing is known
pub unknown-number : (n : ℕ) (ms : List Member) (known : Known) → lookup (nat_eq n) known ≡ None → All (IsKnownIn known) ms → HasNoNumber n ms
unknown-number n [] known h all = none (Other n)
unknown-number n (m ∷ ms) known h all =
    let here = All-head (IsKnownIn known) m ms all in
    All-cons (Other n) m ms
    (λ e. let wrong : Some here.0 ≡ None = sym here.1 ∙ ap (λ k. lookup (nat_eq k) known) e ∙ h in absurd cc)
    (unknown-number n ms known h (All-tail (IsKnownIn known) m ms all))

-- nor one that no member with the known features has
pub unfound-number :
    (n : ℕ) (ms : List Member) (known : Known) (f : Features)
    → lookup (nat_eq n) known ≡ Some f → HasNone f.values n ms → All (IsKnownIn known) ms → HasNoNumber n ms
unfound-number n [] known f h absent all = none (Other n)
unfound-number n (m ∷ ms) known f h absent all =
    let here = All-head (IsKnownIn known) m ms all in
    let Lacks : Member → Type 0 = λ k. AreFeaturesOf (clause_at k.clause).literals f.values → k.number ≡ n → ⊥ in
    All-cons (Other n) m ms
    (λ e.
    let both : Some here.0 ≡ Some f = sym here.1 ∙ ap (λ k. lookup (nat_eq k) known) e ∙ h in
    let same : here.0 ≡ f = cc in
    All-head Lacks m ms absent (subst (λ (g : Features). AreFeaturesOf (clause_at m.clause).literals g.values) same here.2) e)
    (unfound-number n ms known f h (All-tail Lacks m ms absent) (All-tail (IsKnownIn known) m ms all))

pub known-unfound :
    (n : ℕ) (ms new : List Member) (old known : Known) (f : Features)
    → AreKnown ms old → new ≡ ms → lookup (nat_eq n) old ≡ Some f → HasNone f.values n ms → KeepsOthers n old known → AreKnown new known
known-unfound n ms new old known f before same there absent keeps =
    subst (λ ks. AreKnown ks known) (sym same) (record {
      once = before.once;
      found = known-kept n ms old known keeps (unfound-number n ms old f there absent before.found) before.found;
    })

pub known-taken :
    (n : ℕ) (ms new : List Member) (old known : Known) (f : Features) (answer : Bool)
    → AreKnown ms old → lookup (nat_eq n) old ≡ Some f → KeepsOthers n old known
    → (IsTrue answer → IsNumbered n ms new) → (answer ≡ false → new ≡ ms) → (answer ≡ false → HasNone f.values n ms) → AreKnown new known
known-taken n ms new old known f true before there keeps removed unchanged absent = known-removed n ms new old known before (removed refl) keeps
known-taken n ms new old known f false before there keeps removed unchanged absent =
    known-unfound n ms new old known f before (unchanged refl) there (absent refl) keeps

pub on-ok : {T E : Type 0} (r : Result T E) (P : Type 0) → IsOk r → OnOk r P → P
on-ok (Ok x) P ok h = h
on-ok (Err e) P ok h = absurd (true≢false (sym ok))

pub taken-gone :
    (n : ℕ) (ms new : List Member) (old : Known) (f : Features) (answer : Bool)
    → AreKnown ms old → lookup (nat_eq n) old ≡ Some f
    → (IsTrue answer → IsNumbered n ms new) → (answer ≡ false → new ≡ ms) → (answer ≡ false → HasNone f.values n ms) → HasNoNumber n new
taken-gone n ms new old f true before there removed unchanged absent = number-gone n ms new before.once (removed refl)
taken-gone n ms new old f false before there removed unchanged absent =
    subst (HasNoNumber n) (sym (unchanged refl)) (unfound-number n ms old f there (absent refl) before.found)
