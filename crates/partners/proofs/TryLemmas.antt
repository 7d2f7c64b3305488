-- What trying one candidate adds.
use Rattle.std.proofs.Common.{◌≡◌, ℕ, true, false, ◌+◌, ◌≤◌, ◌/◌, ◌%◌, Option, None, Some, List, [], ◌∷◌, ◌++◌, length, take, ap, ap₂, sym, ◌∙◌, subst, arith}
use Rattle.std.specs.Prelude.{slice_get}
use Rattle.std.specs.List.Sorted.{IsStrictlyIncreasing}
use Rattle.std.proofs.lemmas.Bool.{true≢false}
use Rattle.std.proofs.lemmas.List.{get_or-take, length-take}
use Rattle.std.proofs.lemmas.Option.{none-some, same_Some, slice_get_past}
use Rattle.fol_base.specs.Tree.{Tree}
use Rattle.literal_selection.specs.Mode.{mode_of}
use Rattle.literal_selection.specs.declared.choice.Selection.{Selection}
use Rattle.term_bank.specs.declared.bank.Bank.{Bank}
use Rattle.bank_clause.specs.Clause.{IsMemberOf}
use Rattle.bank_clause.specs.declared.member.Member.{Member}
use Rattle.eq_rules.specs.declared.concluding.LiteralSide.{LiteralSide}
use Rattle.eq_rules.specs.declared.inference.Inference.{Inference}
use Rattle.eq_rules.specs.declared.inference.Made.{Made}
use Rattle.superpose.specs.Pairing.{entry_of}
use Rattle.superpose.specs.Sites.{enter_sites, start_sites}
use Rattle.superpose.specs.Superposing.{IsSuperposition, para_key}
use Rattle.superpose.specs.declared.sites.LiteralPlace.{LiteralPlace}
use Rattle.superpose.specs.declared.sites.Sites.{Sites}
use Rattle.partners.specs.Meeting.{AddsNamed, AreCandidates, HasCandidates, MeetsPlaces, MeetsStarts, name_from, name_into, names}
use Rattle.partners.specs.Partners.{AreOfBank, AreSitesFor, PartnerSet, literals_of, partner_before}
use Rattle.partners.specs.SiteTerms.{place_term, start_term}
use Rattle.partners.specs.declared.index.TheConstants.{MOST_SITES}
use Rattle.partners.proofs.KnownLemmas.{from-sites, into-sites}
use Rattle.partners.proofs.NamedLemmas.{from-named, from-none, from-past, from-tried, into-named, into-none, into-past, into-tried, named-none, named-nothing, named-some, partner-is}

pub partner-of-bank : (bank : Bank) (bound : ℕ) (set : PartnerSet) (n : ℕ) (m : Member) → AreOfBank bank set → Some m ≡ partner_before bound set n → IsMemberOf bank m
partner-of-bank bank bound set n m all h =
    let p = partner-is bound set n m (sym h) in
    subst (λ (x : Member). IsMemberOf bank x) p.member (all n p.placed p.there)

module _ (bound : ℕ) (set : PartnerSet) (g : Member) (c n i : ℕ) (n_is : n ≡ c / MOST_SITES) (i_is : i ≡ c % MOST_SITES) where
  at_number : (o : Option Member) → partner_before bound set n ≡ o → partner_before bound set (c / MOST_SITES) ≡ o
  at_number o h = ap (partner_before bound set) (sym n_is) ∙ h

  -- ---- from the clause into a partner

  pub place-absent :
      (s : LiteralSide) (found now : List Inference) → partner_before bound set n ≡ None → now ≡ found
      → AddsNamed bound set g (names (name_into bound set g.number s) (c ∷ [])) found now
  place-absent s found now h is =
      named-none bound set g c (name_into bound set g.number s) found now (into-none bound set g c s (at_number None h)) is

  module _ (m : Member) (ms : Sites) (there : Some m ≡ partner_before bound set n) (are : AreSitesFor set.mode m ms) where
    partner_there : partner_before bound set (c / MOST_SITES) ≡ Some m
    partner_there = at_number (Some m) (sym there)

    into_at : (o : Option LiteralPlace) → slice_get ms.into.items i ≡ o → slice_get (enter_sites (mode_of set.mode) (literals_of m)) (c % MOST_SITES) ≡ o
    into_at o h = ap₂ (λ (ts : List LiteralPlace) k. slice_get ts k) (sym (into-sites set.mode m ms are)) (sym i_is) ∙ h

    from_at : (o : Option LiteralSide) → slice_get ms.from.items i ≡ o → slice_get (start_sites (mode_of set.mode) (literals_of m)) (c % MOST_SITES) ≡ o
    from_at o h = ap₂ (λ (ss : List LiteralSide) k. slice_get ss k) (sym (from-sites set.mode m ms are)) (sym i_is) ∙ h

    pub place-past :
        (s : LiteralSide) (found now : List Inference) → length ms.into.items ≤ i → now ≡ found
        → AddsNamed bound set g (names (name_into bound set g.number s) (c ∷ [])) found now
    place-past s found now past is =
        named-none bound set g c (name_into bound set g.number s) found now
        (into-past bound set g c s m partner_there (into_at None (slice_get_past ms.into.items i past))) is

    pub place-tried :
        (s : LiteralSide) (t : LiteralPlace) (made : Option Made) (mode : Selection) (found now : List Inference)
        → mode ≡ set.mode → slice_get ms.into.items i ≡ Some t → IsSuperposition (mode_of mode) g s m t made
        → now ≡ found ++ entry_of (para_key g.number s m.number t) made
        → AddsNamed bound set g (names (name_into bound set g.number s) (c ∷ [])) found now
    place-tried s t made mode found now mode_is at tried is =
        named-some bound set g c (name_into bound set g.number s) (para_key g.number s m.number t) made found now
        (into-named bound set g c s m t partner_there (into_at (Some t) at)) is
        (into-tried bound set g c s m t made partner_there (subst (λ k. IsSuperposition (mode_of k) g s m t made) mode_is tried))

    pub start-past :
        (t : LiteralPlace) (found now : List Inference) → length ms.from.items ≤ i → now ≡ found
        → AddsNamed bound set g (names (name_from bound set g.number t) (c ∷ [])) found now
    start-past t found now past is =
        named-none bound set g c (name_from bound set g.number t) found now
        (from-past bound set g c t m partner_there (from_at None (slice_get_past ms.from.items i past))) is

    pub start-tried :
        (t : LiteralPlace) (s : LiteralSide) (made : Option Made) (mode : Selection) (found now : List Inference)
        → mode ≡ set.mode → slice_get ms.from.items i ≡ Some s → IsSuperposition (mode_of mode) m s g t made
        → now ≡ found ++ entry_of (para_key m.number s g.number t) made
        → AddsNamed bound set g (names (name_from bound set g.number t) (c ∷ [])) found now
    start-tried t s made mode found now mode_is at tried is =
        named-some bound set g c (name_from bound set g.number t) (para_key m.number s g.number t) made found now
        (from-named bound set g c t m s partner_there (from_at (Some s) at)) is
        (from-tried bound set g c t m s made partner_there (subst (λ k. IsSuperposition (mode_of k) m s g t made) mode_is tried))

  -- ---- and the other way

  pub start-absent :
      (t : LiteralPlace) (found now : List Inference) → partner_before bound set n ≡ None → now ≡ found
      → AddsNamed bound set g (names (name_from bound set g.number t) (c ∷ [])) found now
  start-absent t found now h is =
      named-none bound set g c (name_from bound set g.number t) found now (from-none bound set g c t (at_number None h)) is

-- ---- a site without candidates, and one with them

pub places-none :
    (bound : ℕ) (set : PartnerSet) (g : Member) (s : LiteralSide) (found : List Inference) → start_term (literals_of g) s ≡ None
    → MeetsPlaces true bound set g s found found
places-none bound set g s found none = record {
  entries = [];
  rise = λ k less. absurd (omega (arith, less));
  all = λ w query is. absurd (none-some query (sym none ∙ is));
  adds = named-nothing bound set g found;
}

pub places-met :
    (bound : ℕ) (set : PartnerSet) (g : Member) (s : LiteralSide) (query : Tree) (entries : List ℕ) (found now : List Inference)
    → start_term (literals_of g) s ≡ Some query → AreCandidates enter_sites place_term set query entries
    → AddsNamed bound set g (names (name_into bound set g.number s) entries) found now → MeetsPlaces true bound set g s found now
places-met bound set g s query entries found now there are adds = record {
  entries = entries;
  rise = are.rise;
  all = λ w other is. subst (λ (t : Tree). HasCandidates enter_sites place_term set t entries) (same_Some query other (sym there ∙ is)) are.all;
  adds = adds;
}

pub starts-none :
    (bound : ℕ) (set : PartnerSet) (g : Member) (t : LiteralPlace) (found : List Inference) → place_term (literals_of g) t ≡ None
    → MeetsStarts true bound set g t found found
starts-none bound set g t found none = record {
  entries = [];
  rise = λ k less. absurd (omega (arith, less));
  all = λ w query is. absurd (none-some query (sym none ∙ is));
  adds = named-nothing bound set g found;
}

pub starts-met :
    (bound : ℕ) (set : PartnerSet) (g : Member) (t : LiteralPlace) (query : Tree) (entries : List ℕ) (found now : List Inference)
    → place_term (literals_of g) t ≡ Some query → AreCandidates start_sites start_term set query entries
    → AddsNamed bound set g (names (name_from bound set g.number t) entries) found now → MeetsStarts true bound set g t found now
starts-met bound set g t query entries found now there are adds = record {
  entries = entries;
  rise = are.rise;
  all = λ w other is. subst (λ (u : Tree). HasCandidates start_sites start_term set u entries) (same_Some query other (sym there ∙ is)) are.all;
  adds = adds;
}

-- ---- the candidates up to one are enough

rise-front : (n : ℕ) (xs : List ℕ) → IsStrictlyIncreasing xs → IsStrictlyIncreasing (take n xs)
rise-front n xs h k less =
    let long = length-take n xs in
    omega (arith, get_or-take n xs k 0 (omega (arith, less, long)), get_or-take n xs (k + 1) 0 (omega (arith, less, long)), h k (omega (arith, less, long)))

pub places-some :
    (bound : ℕ) (set : PartnerSet) (g : Member) (s : LiteralSide) (query : Tree) (entries : List ℕ) (k : ℕ) (found now : List Inference)
    → AreCandidates enter_sites place_term set query entries
    → AddsNamed bound set g (names (name_into bound set g.number s) (take k entries)) found now → MeetsPlaces false bound set g s found now
places-some bound set g s query entries k found now are adds = record {
  entries = take k entries;
  rise = rise-front k entries are.rise;
  all = λ w. absurd (true≢false (sym w));
  adds = adds;
}

pub starts-some :
    (bound : ℕ) (set : PartnerSet) (g : Member) (t : LiteralPlace) (query : Tree) (entries : List ℕ) (k : ℕ) (found now : List Inference)
    → AreCandidates start_sites start_term set query entries
    → AddsNamed bound set g (names (name_from bound set g.number t) (take k entries)) found now → MeetsStarts false bound set g t found now
starts-some bound set g t query entries k found now are adds = record {
  entries = take k entries;
  rise = rise-front k entries are.rise;
  all = λ w. absurd (true≢false (sym w));
  adds = adds;
}
