-- Members that are put in, taken out and divided.
use Rattle.std.proofs.Common.{◌≡◌, ℕ, ◌<◌, ◌≤◌, Bool, true, false, List, [], ◌∷◌, ◌++◌, Result, Ok, Err, length, get_or, refl, ap, sym, ◌∙◌, subst, append_assoc, arith}
use Rattle.std.specs.Prelude.{All, IfOk, OnErr, IsTrue, IsPermutation, slice_index, max}
use Rattle.std.proofs.lemmas.List.{map-append}
use Rattle.std.proofs.lemmas.List.Elements.{All-head, All-tail, All-cons, All-weaker}
use Rattle.std.proofs.lemmas.List.Sorted.{IsPermutation-sym, IsPermutation-trans, IsPermutation-map, IsPermutation-append_left, IsPermutation-append_right, IsPermutation-middle, IsPermutation-to_front, All-permutation}
use Rattle.bank_clause.specs.declared.member.Member.{Member}
use Rattle.subsume.specs.declared.entry.Entry.{Entry}
use Rattle.subsume.specs.declared.editing.Cut.{Cut}
use Rattle.subsume.specs.declared.vector.TheConstants.{MEASURES}
use Rattle.subsume.specs.declared.tree.Division.{Division}
use Rattle.subsume.specs.Features.{slot}
use Rattle.subsume.specs.Tree.{IsBoundedBy, IsDivision, IsEntry, member_feature, members_of}
use Rattle.subsume.specs.Editing.{HasAtMost, HasMore, IsNumbered}

abbrev member : Entry → Member
member e = e.member

pub none : {X : Type 0} (P : X → Type 0) → All P []
none P k d h = absurd (omega arith)

-- what holds of each entry's member
pub all-members : (P : Member → Type 0) (es : List Entry) → All (λ (e : Entry). P e.member) es → All P (members_of es)
all-members P [] h = none P
all-members P (e ∷ es) h =
    All-cons P e.member (members_of es) (All-head (λ (x : Entry). P x.member) e es h)
    (all-members P es (All-tail (λ (x : Entry). P x.member) e es h))

-- ---- taking out

pub entry-taken :
    (es new : List Entry) (at number : ℕ) (e : Entry)
    → at < length es → e ≡ get_or es at e → ((d : Entry) → (get_or es at d).member.number ≡ number)
    → IsPermutation es (e ∷ new) → IsNumbered number (members_of es) (members_of new)
entry-taken es new at number e lt is named perm = record {
  member = e.member;
  named = ap (λ (x : Entry). x.member.number) is ∙ named e;
  gone = IsPermutation-map member es (e ∷ new) perm;
}

pub all-removed :
    (P : Member → Type 0) (number : ℕ) (old new : List Member) (answer : Bool)
    → (IsTrue answer → IsNumbered number old new) → (answer ≡ false → new ≡ old) → All P old → All P new
all-removed P number old new true yes_ no_ h =
    let one = yes_ refl in
    All-tail P one.member new (All-permutation P old (one.member ∷ new) one.gone h)
all-removed P number old new false yes_ no_ h = subst (All P) (sym (no_ refl)) h

pub removed-low :
    (number : ℕ) (low high new : List Member) → IsNumbered number low new → IsNumbered number (low ++ high) (new ++ high)
removed-low number low high new one = record {
  member = one.member;
  named = one.named;
  gone = IsPermutation-append_left high low (one.member ∷ new) one.gone;
}

pub removed-high :
    (number : ℕ) (low high new : List Member) → IsNumbered number high new → IsNumbered number (low ++ high) (low ++ new)
removed-high number low high new one = record {
  member = one.member;
  named = one.named;
  gone =
      IsPermutation-trans (low ++ high) (low ++ one.member ∷ new) (one.member ∷ (low ++ new))
      (IsPermutation-append_right low high (one.member ∷ new) one.gone) (IsPermutation-middle low one.member new);
}

-- ---- putting in

pub all-inserted :
    {T E : Type 0} (P : Member → Type 0) (r : Result T E) (m : Member) (old new : List Member)
    → IfOk r (λ _. IsPermutation (m ∷ old) new) → OnErr r (new ≡ old) → P m → All P old → All P new
all-inserted P (Ok x) m old new ok err here h = All-permutation P (m ∷ old) new ok (All-cons P m old here h)
all-inserted P (Err x) m old new ok err here h = subst (All P) (sym err) h

pub inserted-low : (m : Member) (low high new : List Member) → IsPermutation (m ∷ low) new → IsPermutation (m ∷ (low ++ high)) (new ++ high)
inserted-low m low high new p = IsPermutation-append_left high (m ∷ low) new p

pub inserted-high : (m : Member) (low high new : List Member) → IsPermutation (m ∷ high) new → IsPermutation (m ∷ (low ++ high)) (low ++ new)
inserted-high m low high new p =
    IsPermutation-trans (m ∷ (low ++ high)) (low ++ m ∷ high) (low ++ new)
    (IsPermutation-sym (low ++ m ∷ high) (m ∷ (low ++ high)) (IsPermutation-middle low m high)) (IsPermutation-append_right low (m ∷ high) new p)

pub entry-pushed : (es new : List Entry) (e : Entry) → new ≡ es ++ e ∷ [] → IsPermutation (e.member ∷ members_of es) (members_of new)
entry-pushed es new e h =
    subst (IsPermutation (e.member ∷ members_of es)) (sym (ap members_of h ∙ map-append member es (e ∷ [])))
    (IsPermutation-sym (members_of es ++ e.member ∷ []) (e.member ∷ members_of es) (IsPermutation-to_front (members_of es) e.member))

-- ---- dividing

pub low-side :
    (cut : Cut) (es : List Entry) → cut.measure < MEASURES → All IsEntry es → All (HasAtMost cut) es
    → All (λ m. member_feature cut.positive cut.measure m ≤ cut.most) (members_of es)
low-side cut [] inside known few = none (λ m. member_feature cut.positive cut.measure m ≤ cut.most)
low-side cut (e ∷ es) inside known few =
    let here : member_feature cut.positive cut.measure e.member ≤ cut.most =
    omega (arith, All-head IsEntry e es known cut.positive cut.measure inside, All-head (HasAtMost cut) e es few) in
    All-cons (λ m. member_feature cut.positive cut.measure m ≤ cut.most) e.member (members_of es) here
    (low-side cut es inside (All-tail IsEntry e es known) (All-tail (HasAtMost cut) e es few))

pub high-side :
    (cut : Cut) (es : List Entry) → cut.measure < MEASURES → All IsEntry es → All (HasMore cut) es
    → All (λ m. cut.most < member_feature cut.positive cut.measure m) (members_of es)
high-side cut [] inside known more = none (λ m. cut.most < member_feature cut.positive cut.measure m)
high-side cut (e ∷ es) inside known more =
    let here : cut.most < member_feature cut.positive cut.measure e.member =
    omega (arith, All-head IsEntry e es known cut.positive cut.measure inside, All-head (HasMore cut) e es more) in
    All-cons (λ m. cut.most < member_feature cut.positive cut.measure m) e.member (members_of es) here
    (high-side cut es inside (All-tail IsEntry e es known) (All-tail (HasMore cut) e es more))

pub sides-permuted :
    (es low high : List Entry) → IsPermutation es (low ++ high) → IsPermutation (members_of es) (members_of low ++ members_of high)
sides-permuted es low high p =
    subst (IsPermutation (members_of es)) (map-append member low high) (IsPermutation-map member es (low ++ high) p)

-- one entry more on a side
pub shared-low :
    {X : Type 0} (all left low high new : List X) (e : X) → new ≡ low ++ e ∷ []
    → IsPermutation all ((left ++ e ∷ []) ++ (low ++ high)) → IsPermutation all (left ++ (new ++ high))
shared-low all left low high new e h p =
    subst (λ xs. IsPermutation all (left ++ (xs ++ high))) (sym h)
    (IsPermutation-trans all ((left ++ e ∷ []) ++ (low ++ high)) (left ++ ((low ++ e ∷ []) ++ high)) p
    (subst (λ xs. IsPermutation xs (left ++ ((low ++ e ∷ []) ++ high))) (sym (append_assoc left (e ∷ []) (low ++ high)))
    (IsPermutation-append_right left (e ∷ (low ++ high)) ((low ++ e ∷ []) ++ high)
    (subst (IsPermutation (e ∷ (low ++ high))) (sym (append_assoc low (e ∷ []) high))
    (IsPermutation-sym (low ++ e ∷ high) (e ∷ (low ++ high)) (IsPermutation-middle low e high))))))

pub shared-high :
    {X : Type 0} (all left low high new : List X) (e : X) → new ≡ high ++ e ∷ []
    → IsPermutation all ((left ++ e ∷ []) ++ (low ++ high)) → IsPermutation all (left ++ (low ++ new))
shared-high all left low high new e h p =
    subst (λ xs. IsPermutation all (left ++ (low ++ xs))) (sym h)
    (IsPermutation-trans all ((left ++ e ∷ []) ++ (low ++ high)) (left ++ (low ++ (high ++ e ∷ []))) p
    (subst (λ xs. IsPermutation xs (left ++ (low ++ (high ++ e ∷ [])))) (sym (append_assoc left (e ∷ []) (low ++ high)))
    (IsPermutation-append_right left (e ∷ (low ++ high)) (low ++ (high ++ e ∷ []))
    (subst (IsPermutation (e ∷ (low ++ high))) (append_assoc low high (e ∷ []))
    (IsPermutation-sym ((low ++ high) ++ e ∷ []) (e ∷ (low ++ high)) (IsPermutation-to_front (low ++ high) e))))))

-- a division with both sides
pub division-made :
    (cut : Cut) (d : Division) (low high : List Entry)
    → cut.positive ≡ d.positive → cut.measure ≡ d.measure → cut.most ≡ d.most
    → d.low.0 ≡ members_of low → d.high.0 ≡ members_of high
    → cut.measure < MEASURES → All IsEntry low → All IsEntry high → All (HasAtMost cut) low → All (HasMore cut) high
    → All (IsBoundedBy d.bound.values) (members_of high) → IsDivision d
division-made cut d low high p m o l h inside known_low known_high few more bounded =
    let here : Cut = record { positive = d.positive; measure = d.measure; most = d.most } in
    let same : cut ≡ here = λ i. record { positive = p i; measure = m i; most = o i } in
    record {
      inside = subst (λ n. n < MEASURES) m inside;
      low =
          subst (All (λ k. member_feature d.positive d.measure k ≤ d.most)) (sym l)
          (subst (λ (c : Cut). All (λ k. member_feature c.positive c.measure k ≤ c.most) (members_of low)) same (low-side cut low inside known_low few));
      high =
          subst (All (λ k. d.most < member_feature d.positive d.measure k)) (sym h)
          (subst (λ (c : Cut). All (λ k. c.most < member_feature c.positive c.measure k) (members_of high)) same (high-side cut high inside known_high more));
      bound = subst (All (IsBoundedBy d.bound.values)) (sym h) bounded;
    }

-- ---- bounds

-- a bound that is raised
pub bound-raised :
    (values others new : List ℕ) (ms : List Member)
    → ((positive : Bool) (k : ℕ) → k < MEASURES
    → slice_index new (slot positive k) ≡ max (slice_index values (slot positive k)) (slice_index others (slot positive k)))
    → All (IsBoundedBy values) ms → All (IsBoundedBy new) ms
bound-raised values others new ms raised h =
    All-weaker (IsBoundedBy values) (IsBoundedBy new)
    (λ m below positive k inside. omega (arith, below positive k inside, raised positive k inside)) ms h

-- it bounds the entry by which it was raised
pub bound-entry :
    (values new : List ℕ) (e : Entry)
    → ((positive : Bool) (k : ℕ) → k < MEASURES
    → slice_index new (slot positive k) ≡ max (slice_index values (slot positive k)) (slice_index e.features.values (slot positive k)))
    → IsEntry e → IsBoundedBy new e.member
bound-entry values new e raised known positive k inside = omega (arith, known positive k inside, raised positive k inside)
