-- The names of candidates: each once, and each that an inference can have.
use Rattle.std.proofs.Common.{◌≡◌, ℕ, zero, suc, ◌<◌, ◌/◌, ◌%◌, true, Option, None, Some, List, [], ◌∷◌, length, get_or, refl, ap, ap₂, sym, ◌∙◌, subst, inl, inr, ⊎_elim, arith}
use Rattle.std.specs.Prelude.{slice_get, option_map, option_and_then, Contains}
use Rattle.std.specs.Option.{option_to_list}
use Rattle.std.specs.List.{AllPairs}
use Rattle.std.specs.List.Sorted.{IsStrictlyIncreasing}
use Rattle.std.proofs.lemmas.List.Kept.{AllPairs-from_increasing}
use Rattle.std.proofs.lemmas.Option.{none-some, same_Some}
use Rattle.fol_base.specs.Tree.{Tree}
use Rattle.fol_base.specs.Compatible.{compatible}
use Rattle.literal_selection.specs.Mode.{mode_of}
use Rattle.kernel_steps.specs.declared.key.Key.{Key}
use Rattle.bank_clause.specs.declared.member.Member.{Member}
use Rattle.eq_rules.specs.declared.concluding.LiteralSide.{LiteralSide}
use Rattle.superpose.specs.Sites.{enter_sites, start_sites}
use Rattle.superpose.specs.Superposing.{para_key}
use Rattle.superpose.specs.declared.sites.LiteralPlace.{LiteralPlace}
use Rattle.superpose.proofs.AboutLists.ListLemmas.{In, In-flat_map, In-flat_mapped, Once, Once-flat_map, Once-place}
use Rattle.superpose.proofs.AboutSites.SitesThere.{enters_once, starts_once}
use Rattle.partners.specs.Index.{site_number}
use Rattle.partners.specs.Meeting.{HasCandidates, name_from, name_into, names}
use Rattle.partners.specs.Partners.{PartnerSet, literals_of, partner_before}
use Rattle.partners.specs.SiteTerms.{place_term, start_term}
use Rattle.partners.specs.declared.index.TheConstants.{MOST_SITES}
use Rattle.partners.proofs.IndexLemmas.{index-site_number, member-site_number, same-site_number}
use Rattle.partners.proofs.NamedLemmas.{from-named, into-named, partner-is}

-- ---- lists

in-place : {X : Type 0} (xs : List X) (x : X) → In x xs → (i : ℕ) × (slice_get xs i ≡ Some x)
in-place [] x h = absurd h
in-place (y ∷ ys) x h =
    ⊎_elim
    (λ e. (0, ap Some (sym e)))
    (λ later. let found = in-place ys x later in (suc found.0, found.1))
    h

contained-in : {X : Type 0} (xs : List X) (k : ℕ) (x : X) → k < length xs → get_or xs k x ≡ x → In x xs
contained-in [] k x less is = absurd (omega (arith, less))
contained-in (y ∷ ys) zero x less is = inl (sym is)
contained-in (y ∷ ys) (suc k) x less is = inr (contained-in ys k x (omega (arith, less)) is)

in-index : (xs : List ℕ) (x : ℕ) → In x xs → (k : ℕ) × (k < length xs) × ((d : ℕ) → get_or xs k d ≡ x)
in-index [] x h = absurd h
in-index (y ∷ ys) x h =
    ⊎_elim
    (λ e. (0, omega arith, λ d. sym e))
    (λ later. let found = in-index ys x later in (suc found.0, (let l = found.1 in omega (arith, l)), found.2))
    h

pairs-once : (xs : List ℕ) → AllPairs (λ x y. x < y) xs → Once xs
pairs-once [] h = tt
pairs-once (x ∷ xs) h = (
  (λ there.
      let found = in-index xs x there in
      let l = found.1 in
      let less : x < get_or xs found.0 0 = h 0 (suc found.0) 0 (omega arith) (omega (arith, l)) in
      absurd (omega (arith, less, found.2 0))),
  pairs-once xs (λ i j d before low. h (suc i) (suc j) d (omega (arith, before)) (omega (arith, low))),
)

pub rising-once : (xs : List ℕ) → IsStrictlyIncreasing xs → Once xs
rising-once xs h = pairs-once xs (AllPairs-from_increasing xs h)

-- ---- names of numbers

in-option : (o : Option Key) (key : Key) → In key (option_to_list o) → o ≡ Some key
in-option None key h = absurd h
in-option (Some k) key h = ⊎_elim (λ e. ap Some (sym e)) (λ none. absurd none) h

option-once : (o : Option Key) → Once (option_to_list o)
option-once None = tt
option-once (Some k) = ((λ none. none), tt)

option-in : (o : Option Key) (key : Key) → o ≡ Some key → In key (option_to_list o)
option-in None key h = absurd (none-some key h)
option-in (Some k) key h = inl (sym (same_Some k key h))

pub names-once :
    (name : ℕ → Option Key) (entries : List ℕ)
    → ((c d : ℕ) (key : Key) → name c ≡ Some key → name d ≡ Some key → c ≡ d)
    → IsStrictlyIncreasing entries → Once (names name entries)
names-once name entries apart rise =
    Once-flat_map (λ n. option_to_list (name n)) entries (λ n. option-once (name n))
    (λ c d key here there. apart c d key (in-option (name c) key here) (in-option (name d) key there))
    (rising-once entries rise)

pub named-in : (name : ℕ → Option Key) (entries : List ℕ) (c : ℕ) (key : Key) → Contains entries c → name c ≡ Some key → In key (names name entries)
named-in name entries c key there is =
    In-flat_map (λ n. option_to_list (name n)) c key entries (contained-in entries there.0 c there.1 there.2) (option-in (name c) key is)

pub in-named : (name : ℕ → Option Key) (entries : List ℕ) (key : Key) → In key (names name entries) → (c : ℕ) × (name c ≡ Some key)
in-named name entries key there =
    let found = In-flat_mapped (λ n. option_to_list (name n)) key entries there in
    (found.0, in-option (name found.0) key found.2)

-- ---- what a name tells

pub same-key :
    (a b p q : ℕ) (s z : LiteralSide) (t u : LiteralPlace) → para_key a s b t ≡ para_key p z q u
    → (a ≡ p) × (s ≡ z) × (b ≡ q) × (t ≡ u)
same-key a b p q s z t u e =
    let numbers : a ≡ p = cc in
    let one : s.literal ≡ z.literal = cc in
    let two : s.side ≡ z.side = cc in
    let others : b ≡ q = cc in
    let three : t.at.literal ≡ u.at.literal = cc in
    let four : t.at.side ≡ u.at.side = cc in
    let five : t.place ≡ u.place = cc in (
      numbers,
      ap₂ (λ i w. let x : LiteralSide = record { literal = i; side = w } in x) one two,
      others,
      ap₂ (λ (x : LiteralSide) r. let y : LiteralPlace = record { at = x; place = r } in y)
          (ap₂ (λ i w. let x : LiteralSide = record { literal = i; side = w } in x) three four) five,
    )

module _ (bound : ℕ) (set : PartnerSet) (g : ℕ) where
  -- a name of a superposition from a side of the clause into a place of a partner
  pub record IsInto (s : LiteralSide) (c : ℕ) (key : Key) : Type 0 where
    pub partner : Member
    pub there : partner_before bound set (c / MOST_SITES) ≡ Some partner
    pub place : LiteralPlace
    pub at : slice_get (enter_sites (mode_of set.mode) (literals_of partner)) (c % MOST_SITES) ≡ Some place
    pub key_is : para_key g s partner.number place ≡ key

  pub into-is : (s : LiteralSide) (c : ℕ) (key : Key) → name_into bound set g s c ≡ Some key → IsInto s c key
  into-is s c key h = from (partner_before bound set (c / MOST_SITES)) refl h
    where
      at_place :
          (m : Member) → partner_before bound set (c / MOST_SITES) ≡ Some m
          → (o : Option LiteralPlace) → slice_get (enter_sites (mode_of set.mode) (literals_of m)) (c % MOST_SITES) ≡ o
          → option_map (para_key g s m.number) o ≡ Some key → IsInto s c key
      at_place m there None is e = absurd (none-some key e)
      at_place m there (Some t) is e = record { partner = m; there = there; place = t; at = is; key_is = same_Some (para_key g s m.number t) key e }

      from :
          (o : Option Member) → partner_before bound set (c / MOST_SITES) ≡ o
          → option_and_then
          (λ (m : Member). option_map (para_key g s m.number) (slice_get (enter_sites (mode_of set.mode) (literals_of m)) (c % MOST_SITES)))
          o ≡ Some key
          → IsInto s c key
      from None is e = absurd (none-some key e)
      from (Some m) is e = at_place m is (slice_get (enter_sites (mode_of set.mode) (literals_of m)) (c % MOST_SITES)) refl e

  -- of one from a side of a partner into a place of the clause
  pub record IsFrom (t : LiteralPlace) (c : ℕ) (key : Key) : Type 0 where
    pub partner : Member
    pub there : partner_before bound set (c / MOST_SITES) ≡ Some partner
    pub side : LiteralSide
    pub at : slice_get (start_sites (mode_of set.mode) (literals_of partner)) (c % MOST_SITES) ≡ Some side
    pub key_is : para_key partner.number side g t ≡ key

  pub from-is : (t : LiteralPlace) (c : ℕ) (key : Key) → name_from bound set g t c ≡ Some key → IsFrom t c key
  from-is t c key h = from (partner_before bound set (c / MOST_SITES)) refl h
    where
      at_side :
          (m : Member) → partner_before bound set (c / MOST_SITES) ≡ Some m
          → (o : Option LiteralSide) → slice_get (start_sites (mode_of set.mode) (literals_of m)) (c % MOST_SITES) ≡ o
          → option_map (λ (s : LiteralSide). para_key m.number s g t) o ≡ Some key → IsFrom t c key
      at_side m there None is e = absurd (none-some key e)
      at_side m there (Some s) is e = record { partner = m; there = there; side = s; at = is; key_is = same_Some (para_key m.number s g t) key e }

      from :
          (o : Option Member) → partner_before bound set (c / MOST_SITES) ≡ o
          → option_and_then
          (λ (m : Member).
          option_map (λ (s : LiteralSide). para_key m.number s g t)
          (slice_get (start_sites (mode_of set.mode) (literals_of m)) (c % MOST_SITES)))
          o ≡ Some key
          → IsFrom t c key
      from None is e = absurd (none-some key e)
      from (Some m) is e = at_side m is (slice_get (start_sites (mode_of set.mode) (literals_of m)) (c % MOST_SITES)) refl e

  -- numbers with one partner's number have one partner
  same-partner :
      (c d : ℕ) (m k : Member) → partner_before bound set (c / MOST_SITES) ≡ Some m → partner_before bound set (d / MOST_SITES) ≡ Some k
      → m.number ≡ k.number → (c / MOST_SITES ≡ d / MOST_SITES) × (m ≡ k)
  same-partner c d m k there other same =
      let numbers : c / MOST_SITES ≡ d / MOST_SITES =
      sym (partner-is bound set (c / MOST_SITES) m there).number ∙ same ∙ (partner-is bound set (d / MOST_SITES) k other).number in
      (numbers, same_Some m k (sym there ∙ ap (partner_before bound set) numbers ∙ other))

  pub into-apart :
      (s z : LiteralSide) (c d : ℕ) (key : Key) → IsInto s c key → IsInto z d key → (s ≡ z) × (c ≡ d)
  into-apart s z c d key one other =
      let parts = same-key g one.partner.number g other.partner.number s z one.place other.place (one.key_is ∙ sym other.key_is) in
      let same = same-partner c d one.partner other.partner one.there other.there parts.2 in
      let at : slice_get (enter_sites (mode_of set.mode) (literals_of one.partner)) (d % MOST_SITES) ≡ Some one.place =
      ap (λ (m : Member). slice_get (enter_sites (mode_of set.mode) (literals_of m)) (d % MOST_SITES)) same.1 ∙ other.at ∙ ap Some (sym parts.3) in (
        parts.1,
        same-site_number c d same.0
            (Once-place (enter_sites (mode_of set.mode) (literals_of one.partner)) (c % MOST_SITES) (d % MOST_SITES) one.place
            (enters_once (mode_of set.mode) (literals_of one.partner)) one.at at),
      )

  pub from-apart :
      (t u : LiteralPlace) (c d : ℕ) (key : Key) → IsFrom t c key → IsFrom u d key → (t ≡ u) × (c ≡ d)
  from-apart t u c d key one other =
      let parts = same-key one.partner.number g other.partner.number g one.side other.side t u (one.key_is ∙ sym other.key_is) in
      let same = same-partner c d one.partner other.partner one.there other.there parts.0 in
      let at : slice_get (start_sites (mode_of set.mode) (literals_of one.partner)) (d % MOST_SITES) ≡ Some one.side =
      ap (λ (m : Member). slice_get (start_sites (mode_of set.mode) (literals_of m)) (d % MOST_SITES)) same.1 ∙ other.at ∙ ap Some (sym parts.1) in (
        parts.3,
        same-site_number c d same.0
            (Once-place (start_sites (mode_of set.mode) (literals_of one.partner)) (c % MOST_SITES) (d % MOST_SITES) one.side
            (starts_once (mode_of set.mode) (literals_of one.partner)) one.at at),
      )

-- ---- what is needed

module _ (bound : ℕ) (set : PartnerSet) (g : Member) (n : ℕ) (m : Member) (there : partner_before bound set n ≡ Some m) where
  partner_at : (i : ℕ) → i < MOST_SITES → partner_before bound set (site_number n i / MOST_SITES) ≡ Some m
  partner_at i low = ap (partner_before bound set) (member-site_number n i low) ∙ there

  pub into-needed :
      (entries : List ℕ) (query : Tree) (s : LiteralSide) (t : LiteralPlace) (old : Tree)
      → HasCandidates enter_sites place_term set query entries
      → In t (enter_sites (mode_of set.mode) (literals_of m)) → place_term (literals_of m) t ≡ Some old → compatible old query ≡ true
      → In (para_key g.number s m.number t) (names (name_into bound set g.number s) entries)
  into-needed entries query s t old all t_in old_is pass =
      let p = partner-is bound set n m there in
      let place = in-place (enter_sites (mode_of set.mode) (literals_of m)) t t_in in
      let i : ℕ = place.0 in
      let listed =
      all n p.placed i t old p.there
      (subst (λ (x : Member). slice_get (enter_sites (mode_of set.mode) (literals_of x)) i ≡ Some t) (sym p.member) place.1)
      (subst (λ (x : Member). place_term (literals_of x) t ≡ Some old) (sym p.member) old_is) pass in
      let at : slice_get (enter_sites (mode_of set.mode) (literals_of m)) (site_number n i % MOST_SITES) ≡ Some t =
      ap (slice_get (enter_sites (mode_of set.mode) (literals_of m))) (index-site_number n i listed.0) ∙ place.1 in
      named-in (name_into bound set g.number s) entries (site_number n i) (para_key g.number s m.number t) listed.1
      (into-named bound set g (site_number n i) s m t (partner_at i listed.0) at)

  pub from-needed :
      (entries : List ℕ) (query : Tree) (t : LiteralPlace) (s : LiteralSide) (side : Tree)
      → HasCandidates start_sites start_term set query entries
      → In s (start_sites (mode_of set.mode) (literals_of m)) → start_term (literals_of m) s ≡ Some side → compatible side query ≡ true
      → In (para_key m.number s g.number t) (names (name_from bound set g.number t) entries)
  from-needed entries query t s side all s_in side_is pass =
      let p = partner-is bound set n m there in
      let place = in-place (start_sites (mode_of set.mode) (literals_of m)) s s_in in
      let i : ℕ = place.0 in
      let listed =
      all n p.placed i s side p.there
      (subst (λ (x : Member). slice_get (start_sites (mode_of set.mode) (literals_of x)) i ≡ Some s) (sym p.member) place.1)
      (subst (λ (x : Member). start_term (literals_of x) s ≡ Some side) (sym p.member) side_is) pass in
      let at : slice_get (start_sites (mode_of set.mode) (literals_of m)) (site_number n i % MOST_SITES) ≡ Some s =
      ap (slice_get (start_sites (mode_of set.mode) (literals_of m))) (index-site_number n i listed.0) ∙ place.1 in
      named-in (name_from bound set g.number t) entries (site_number n i) (para_key m.number s g.number t) listed.1
      (from-named bound set g (site_number n i) t m s (partner_at i listed.0) at)
