-- Inferences of names that are tried one after another, with the partners of a clause.
use Rattle.std.proofs.Common.{◌≡◌, ◌⊎◌, ℕ, Bool, true, false, inr, ◌+◌, ◌<◌, ◌/◌, ◌%◌, Option, None, Some, List, [], ◌∷◌, ◌++◌, length, take, get_or, append-nil, refl, ap, sym, ◌∙◌, subst, ⊎_elim}
use Rattle.std.specs.Prelude.{nat_lt, slice_get, option_map, option_and_then, ◌==◌}
use Rattle.std.specs.Option.{option_to_list}
use Rattle.std.proofs.lemmas.Bool.{true≢false, cases_Bool, cond-true, cond-false, eqb-true}
use Rattle.std.proofs.lemmas.Grind.{flat_map-append}
use Rattle.std.proofs.lemmas.List.{append_assoc, take_more}
use Rattle.std.proofs.lemmas.Option.{none-some, same_Some, slice_get-get_or, get_or_from_slice_get}
use Rattle.fol_base.specs.Clause.{TreeClause}
use Rattle.fol_base.specs.WellFormed.{SymbolUse}
use Rattle.fol_base.proofs.ListLemmas.{take_more_item}
use Rattle.fol_base.specs.declared.clause.Side.TheVariants.{Left}
use Rattle.literal_selection.specs.Mode.{mode_of}
use Rattle.kernel_steps.specs.declared.key.Key.{Key}
use Rattle.bank_clause.specs.declared.member.Member.{Member}
use Rattle.eq_rules.specs.Inferences.{is_enough}
use Rattle.eq_rules.specs.Trying.{IsTried}
use Rattle.eq_rules.specs.declared.inference.Inference.{Inference}
use Rattle.eq_rules.specs.declared.inference.Made.{Made}
use Rattle.eq_rules.specs.declared.concluding.LiteralSide.{LiteralSide}
use Rattle.superpose.specs.Pairing.{entry_of}
use Rattle.superpose.specs.Sites.{enter_sites, start_sites}
use Rattle.superpose.specs.Superposing.{IsSuperposition, para_key}
use Rattle.superpose.specs.declared.sites.LiteralPlace.{LiteralPlace}
use Rattle.superpose.proofs.AboutSites.TriedLemmas.{tried-append, tried-one}
use Rattle.partners.specs.Meeting.{AddsNamed, AreLookedUp, MeetsAllPlaces, MeetsAllPlacesUpTo, MeetsAllStarts, MeetsAllStartsUpTo, MeetsPlaces, MeetsPlacesUpTo, MeetsStarts, MeetsStartsUpTo, name_from, name_into, names}
use Rattle.partners.specs.Partners.{PartnerSet, Placed, before, literals_of, partner_before, placed_numbered}
use Rattle.partners.specs.declared.index.TheConstants.{MOST_SITES}

-- ---- one after another

pub named-nothing : (bound : ℕ) (set : PartnerSet) (g : Member) (found : List Inference) → AddsNamed bound set g [] found found
named-nothing bound set g found usage clauses looked = ([], sym (append-nil found), refl)

pub named-same : (bound : ℕ) (set : PartnerSet) (g : Member) (found now : List Inference) → now ≡ found → AddsNamed bound set g [] found now
named-same bound set g found now is usage clauses looked = ([], is ∙ sym (append-nil found), refl)

pub named-more :
    (bound : ℕ) (set : PartnerSet) (g : Member) (keys more : List Key) (initial middle now : List Inference)
    → AddsNamed bound set g keys initial middle → AddsNamed bound set g more middle now → AddsNamed bound set g (keys ++ more) initial now
named-more bound set g keys more initial middle now h k usage clauses looked =
    let one = h usage clauses looked in
    let two = k usage clauses looked in (
      one.0 ++ two.0,
      two.1 ∙ ap (λ es. es ++ two.0) one.1 ∙ append_assoc initial one.0 two.0,
      tried-append usage.is_predicate (mode_of set.mode) clauses keys more one.0 two.0 one.2 two.2,
    )

-- the name has been tried, wherever the clauses are looked up
abbrev pub IsTriedFor : ℕ → PartnerSet → Member → Key → Option Made → Type 0
IsTriedFor bound set g key made =
    (usage : SymbolUse) (clauses : ℕ → Option TreeClause) → AreLookedUp usage clauses bound set g
    → IsTried usage.is_predicate (mode_of set.mode) clauses key made

pub named-one :
    (bound : ℕ) (set : PartnerSet) (g : Member) (key : Key) (made : Option Made) (initial now : List Inference)
    → now ≡ initial ++ entry_of key made → IsTriedFor bound set g key made → AddsNamed bound set g (key ∷ []) initial now
named-one bound set g key made initial now is tried usage clauses looked = (
  entry_of key made,
  is,
  tried-one usage.is_predicate (mode_of set.mode) clauses key made (tried usage clauses looked),
)

-- one more number
pub named-next :
    (bound : ℕ) (set : PartnerSet) (g : Member) (name : ℕ → Option Key) (entries : List ℕ) (i : ℕ) (initial middle now : List Inference)
    → i < length entries
    → AddsNamed bound set g (names name (take i entries)) initial middle → AddsNamed bound set g (names name (get_or entries i 0 ∷ [])) middle now
    → AddsNamed bound set g (names name (take (i + 1) entries)) initial now
named-next bound set g name entries i initial middle now less h k =
    let c : ℕ = get_or entries i 0 in
    let more : names name (take (i + 1) entries) ≡ names name (take i entries) ++ names name (c ∷ []) =
    ap (names name) (take_more entries i 0 less) ∙ flat_map-append (λ n. option_to_list (name n)) (take i entries) (c ∷ []) in
    subst (λ (ks : List Key). AddsNamed bound set g ks initial now) (sym more)
    (named-more bound set g (names name (take i entries)) (names name (c ∷ [])) initial middle now h k)

-- ---- a partner by its number

pub placed-number : (n : ℕ) (ps : List Placed) (p : Placed) → placed_numbered n ps ≡ Some p → p.member.number ≡ n
placed-number n [] p h = absurd (none-some p h)
placed-number n (q ∷ ps) p h =
    ⊎_elim
    (λ yes.
    ap (λ (x : Placed). x.member.number)
    (sym (same_Some q p (sym (cond-true (n == q.member.number) (Some q) (placed_numbered n ps) yes) ∙ h)))
    ∙ sym (eqb-true n q.member.number yes))
    (λ no_it. placed-number n ps p (sym (cond-false (n == q.member.number) (Some q) (placed_numbered n ps) no_it) ∙ h))
    (cases_Bool (n == q.member.number))

pub record IsPartner (bound : ℕ) (set : PartnerSet) (n : ℕ) (m : Member) : Type 0 where
  pub placed : Placed
  pub there : placed_numbered n set.members ≡ Some placed
  pub member : placed.member ≡ m
  pub number : m.number ≡ n

pub partner-is : (bound : ℕ) (set : PartnerSet) (n : ℕ) (m : Member) → partner_before bound set n ≡ Some m → IsPartner bound set n m
partner-is bound set n m h = from (placed_numbered n set.members) refl h
  where
    from :
        (o : Option Placed) → placed_numbered n set.members ≡ o → option_and_then (before bound) o ≡ Some m → IsPartner bound set n m
    from None is e = absurd (none-some m e)
    from (Some p) is e =
        ⊎_elim
        (λ yes.
        let same : p.member ≡ m = same_Some p.member m (sym (cond-true (nat_lt p.position bound) (Some p.member) None yes) ∙ e) in
        record {
          placed = p;
          there = is;
          member = same;
          number = ap (λ (x : Member). x.number) (sym same) ∙ placed-number n set.members p is;
        })
        (λ no_it. absurd (none-some m (sym (cond-false (nat_lt p.position bound) (Some p.member) None no_it) ∙ e)))
        (cases_Bool (nat_lt p.position bound))

-- ---- one number

module _ (bound : ℕ) (set : PartnerSet) (g : Member) (c : ℕ) where
  pub into-named :
      (s : LiteralSide) (m : Member) (t : LiteralPlace)
      → partner_before bound set (c / MOST_SITES) ≡ Some m
      → slice_get (enter_sites (mode_of set.mode) (literals_of m)) (c % MOST_SITES) ≡ Some t
      → name_into bound set g.number s c ≡ Some (para_key g.number s m.number t)
  into-named s m t there at =
      ap
      (option_and_then
      (λ (x : Member). option_map (para_key g.number s x.number) (slice_get (enter_sites (mode_of set.mode) (literals_of x)) (c % MOST_SITES))))
      there
      ∙ ap (option_map (para_key g.number s m.number)) at

  pub from-named :
      (t : LiteralPlace) (m : Member) (s : LiteralSide)
      → partner_before bound set (c / MOST_SITES) ≡ Some m
      → slice_get (start_sites (mode_of set.mode) (literals_of m)) (c % MOST_SITES) ≡ Some s
      → name_from bound set g.number t c ≡ Some (para_key m.number s g.number t)
  from-named t m s there at =
      ap
      (option_and_then
      (λ (x : Member).
      option_map (λ (z : LiteralSide). para_key x.number z g.number t)
      (slice_get (start_sites (mode_of set.mode) (literals_of x)) (c % MOST_SITES))))
      there
      ∙ ap (option_map (λ (z : LiteralSide). para_key m.number z g.number t)) at

  -- the name is none
  pub into-none : (s : LiteralSide) → partner_before bound set (c / MOST_SITES) ≡ None → name_into bound set g.number s c ≡ None
  into-none s there =
      ap
      (option_and_then
      (λ (x : Member). option_map (para_key g.number s x.number) (slice_get (enter_sites (mode_of set.mode) (literals_of x)) (c % MOST_SITES))))
      there

  pub into-past :
      (s : LiteralSide) (m : Member)
      → partner_before bound set (c / MOST_SITES) ≡ Some m
      → slice_get (enter_sites (mode_of set.mode) (literals_of m)) (c % MOST_SITES) ≡ None → name_into bound set g.number s c ≡ None
  into-past s m there at =
      ap
      (option_and_then
      (λ (x : Member). option_map (para_key g.number s x.number) (slice_get (enter_sites (mode_of set.mode) (literals_of x)) (c % MOST_SITES))))
      there
      ∙ ap (option_map (para_key g.number s m.number)) at

  pub from-none : (t : LiteralPlace) → partner_before bound set (c / MOST_SITES) ≡ None → name_from bound set g.number t c ≡ None
  from-none t there =
      ap
      (option_and_then
      (λ (x : Member).
      option_map (λ (z : LiteralSide). para_key x.number z g.number t)
      (slice_get (start_sites (mode_of set.mode) (literals_of x)) (c % MOST_SITES))))
      there

  pub from-past :
      (t : LiteralPlace) (m : Member)
      → partner_before bound set (c / MOST_SITES) ≡ Some m
      → slice_get (start_sites (mode_of set.mode) (literals_of m)) (c % MOST_SITES) ≡ None → name_from bound set g.number t c ≡ None
  from-past t m there at =
      ap
      (option_and_then
      (λ (x : Member).
      option_map (λ (z : LiteralSide). para_key x.number z g.number t)
      (slice_get (start_sites (mode_of set.mode) (literals_of x)) (c % MOST_SITES))))
      there
      ∙ ap (option_map (λ (z : LiteralSide). para_key m.number z g.number t)) at

  -- what a number without a name adds
  pub named-none :
      (name : ℕ → Option Key) (found now : List Inference) → name c ≡ None → now ≡ found → AddsNamed bound set g (names name (c ∷ [])) found now
  named-none name found now none is =
      subst (λ (ks : List Key). AddsNamed bound set g ks found now) (sym (ap (λ (o : Option Key). option_to_list o ++ []) none))
      (named-same bound set g found now is)

  -- and what one with a name adds
  pub named-some :
      (name : ℕ → Option Key) (key : Key) (made : Option Made) (found now : List Inference) → name c ≡ Some key
      → now ≡ found ++ entry_of key made → IsTriedFor bound set g key made → AddsNamed bound set g (names name (c ∷ [])) found now
  named-some name key made found now some is tried =
      subst (λ (ks : List Key). AddsNamed bound set g ks found now) (sym (ap (λ (o : Option Key). option_to_list o ++ []) some))
      (named-one bound set g key made found now is tried)

  -- the superposition from the clause into a partner
  pub into-tried :
      (s : LiteralSide) (m : Member) (t : LiteralPlace) (made : Option Made)
      → partner_before bound set (c / MOST_SITES) ≡ Some m → IsSuperposition (mode_of set.mode) g s m t made
      → IsTriedFor bound set g (para_key g.number s m.number t) made
  into-tried s m t made there tried usage clauses looked =
      let n : ℕ = c / MOST_SITES in
      tried usage clauses looked.given_formed (looked.partners_formed n m there) looked.given_there
      (ap clauses (partner-is bound set n m there).number ∙ looked.partners_there n m there)

  -- and the other way
  pub from-tried :
      (t : LiteralPlace) (m : Member) (s : LiteralSide) (made : Option Made)
      → partner_before bound set (c / MOST_SITES) ≡ Some m → IsSuperposition (mode_of set.mode) m s g t made
      → IsTriedFor bound set g (para_key m.number s g.number t) made
  from-tried t m s made there tried usage clauses looked =
      let n : ℕ = c / MOST_SITES in
      tried usage clauses (looked.partners_formed n m there) looked.given_formed
      (ap clauses (partner-is bound set n m there).number ∙ looked.partners_there n m there) looked.given_there

-- ---- one more site

pub places-next :
    (whole : Bool) (bound : ℕ) (set : PartnerSet) (g : Member) (ss : List LiteralSide) (s : LiteralSide) (initial middle now : List Inference)
    → MeetsAllPlaces whole bound set g ss initial middle → MeetsPlaces whole bound set g s middle now → MeetsAllPlaces whole bound set g (ss ++ s ∷ []) initial now
places-next whole bound set g [] s initial middle now h k =
    (now, subst (λ (es : List Inference). MeetsPlaces whole bound set g s es now) h k, refl)
places-next whole bound set g (z ∷ ss) s initial middle now h k = (h.0, h.1, places-next whole bound set g ss s h.0 middle now h.2 k)

pub starts-next :
    (whole : Bool) (bound : ℕ) (set : PartnerSet) (g : Member) (ts : List LiteralPlace) (t : LiteralPlace) (initial middle now : List Inference)
    → MeetsAllStarts whole bound set g ts initial middle → MeetsStarts whole bound set g t middle now → MeetsAllStarts whole bound set g (ts ++ t ∷ []) initial now
starts-next whole bound set g [] t initial middle now h k =
    (now, subst (λ (es : List Inference). MeetsStarts whole bound set g t es now) h k, refl)
starts-next whole bound set g (z ∷ ts) t initial middle now h k = (h.0, h.1, starts-next whole bound set g ts t h.0 middle now h.2 k)

any_side : LiteralSide
any_side = record { literal = 0; side = Left }

any_place : LiteralPlace
any_place = record { at = any_side; place = [] }

-- one more site, which is that of the index
pub places-more :
    (whole : Bool) (bound : ℕ) (set : PartnerSet) (g : Member) (froms : List LiteralSide) (i : ℕ) (initial middle now : List Inference)
    → i < length froms → MeetsAllPlaces whole bound set g (take i froms) initial middle
    → ((s : LiteralSide) → slice_get froms i ≡ Some s → MeetsPlaces whole bound set g s middle now)
    → MeetsAllPlaces whole bound set g (take (i + 1) froms) initial now
places-more whole bound set g froms i initial middle now less h step =
    let s : LiteralSide = get_or froms i any_side in
    let at : slice_get froms i ≡ Some s = slice_get-get_or froms i any_side less in
    subst (λ (ss : List LiteralSide). MeetsAllPlaces whole bound set g ss initial now)
    (sym (take_more_item froms i s less (sym (get_or_from_slice_get froms i s s at))))
    (places-next whole bound set g (take i froms) s initial middle now h (step s at))

pub starts-more :
    (whole : Bool) (bound : ℕ) (set : PartnerSet) (g : Member) (intos : List LiteralPlace) (i : ℕ) (initial middle now : List Inference)
    → i < length intos → MeetsAllStarts whole bound set g (take i intos) initial middle
    → ((t : LiteralPlace) → slice_get intos i ≡ Some t → MeetsStarts whole bound set g t middle now)
    → MeetsAllStarts whole bound set g (take (i + 1) intos) initial now
starts-more whole bound set g intos i initial middle now less h step =
    let t : LiteralPlace = get_or intos i any_place in
    let at : slice_get intos i ≡ Some t = slice_get-get_or intos i any_place less in
    subst (λ (ts : List LiteralPlace). MeetsAllStarts whole bound set g ts initial now)
    (sym (take_more_item intos i t less (sym (get_or_from_slice_get intos i t t at))))
    (starts-next whole bound set g (take i intos) t initial middle now h (step t at))

-- ---- until there are enough

-- what is whole is also a part
places-part :
    (whole : Bool) (bound : ℕ) (set : PartnerSet) (g : Member) (s : LiteralSide) (initial now : List Inference)
    → MeetsPlaces whole bound set g s initial now → MeetsPlaces false bound set g s initial now
places-part whole bound set g s initial now h = record { entries = h.entries; rise = h.rise; all = λ e. absurd (true≢false (sym e)); adds = h.adds }

starts-part :
    (whole : Bool) (bound : ℕ) (set : PartnerSet) (g : Member) (t : LiteralPlace) (initial now : List Inference)
    → MeetsStarts whole bound set g t initial now → MeetsStarts false bound set g t initial now
starts-part whole bound set g t initial now h = record { entries = h.entries; rise = h.rise; all = λ e. absurd (true≢false (sym e)); adds = h.adds }

pub all_places-part :
    (whole : Bool) (bound : ℕ) (set : PartnerSet) (g : Member) (ss : List LiteralSide) (initial now : List Inference)
    → MeetsAllPlaces whole bound set g ss initial now → MeetsAllPlaces false bound set g ss initial now
all_places-part whole bound set g [] initial now h = h
all_places-part whole bound set g (s ∷ ss) initial now h =
    (h.0, places-part whole bound set g s initial h.0 h.1, all_places-part whole bound set g ss h.0 now h.2)

pub all_starts-part :
    (whole : Bool) (bound : ℕ) (set : PartnerSet) (g : Member) (ts : List LiteralPlace) (initial now : List Inference)
    → MeetsAllStarts whole bound set g ts initial now → MeetsAllStarts false bound set g ts initial now
all_starts-part whole bound set g [] initial now h = h
all_starts-part whole bound set g (t ∷ ts) initial now h =
    (h.0, starts-part whole bound set g t initial h.0 h.1, all_starts-part whole bound set g ts h.0 now h.2)

-- where there aren't enough, all is there
pub whole-where_few :
    {Whole Part : Type 0} (most : Option ℕ) (count : ℕ) → is_enough most count ≡ false → Whole ⊎ ((is_enough most count ≡ true) × Part) → Whole
whole-where_few most count few h = ⊎_elim (λ all. all) (λ some. absurd (true≢false (sym some.0 ∙ few))) h

-- the sides up to one are enough
pub places-enough :
    (most : Option ℕ) (bound : ℕ) (set : PartnerSet) (g : Member) (froms : List LiteralSide) (i : ℕ) (initial middle now : List Inference)
    → i < length froms → MeetsAllPlaces true bound set g (take i froms) initial middle
    → ((s : LiteralSide) → slice_get froms i ≡ Some s → MeetsPlacesUpTo most bound set g s middle now)
    → is_enough most (length now) ≡ true → MeetsAllPlacesUpTo most bound set g froms initial now
places-enough most bound set g froms i initial middle now less h step enough =
    inr (
      enough,
      (
        i + 1,
        places-more false bound set g froms i initial middle now less (all_places-part true bound set g (take i froms) initial middle h)
            (λ s at. ⊎_elim (λ all. places-part true bound set g s middle now all) (λ some. some.1) (step s at)),
      ),
    )

-- the places up to one are enough
pub starts-enough :
    (most : Option ℕ) (bound : ℕ) (set : PartnerSet) (g : Member) (intos : List LiteralPlace) (i : ℕ) (initial middle now : List Inference)
    → i < length intos → MeetsAllStarts true bound set g (take i intos) initial middle
    → ((t : LiteralPlace) → slice_get intos i ≡ Some t → MeetsStartsUpTo most bound set g t middle now)
    → is_enough most (length now) ≡ true → MeetsAllStartsUpTo most bound set g intos initial now
starts-enough most bound set g intos i initial middle now less h step enough =
    inr (
      enough,
      (
        i + 1,
        starts-more false bound set g intos i initial middle now less (all_starts-part true bound set g (take i intos) initial middle h)
            (λ t at. ⊎_elim (λ all. starts-part true bound set g t middle now all) (λ some. some.1) (step t at)),
      ),
    )
