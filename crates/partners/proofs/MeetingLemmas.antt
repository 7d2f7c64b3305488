-- All superpositions between a clause and its partners, from those at each of its sites.
use Rattle.std.proofs.Common.{◌≡◌, ℕ, zero, suc, length, take, ◌/◌, Bool, true, false, ◌&&◌, Option, None, Some, List, [], ◌∷◌, ◌++◌, refl, ap, sym, ◌∙◌, subst, inl, inr, ⊎_elim}
use Rattle.std.specs.Prelude.{option_map, option_and_then, ◌==◌}
use Rattle.std.specs.Option.{is_some}
use Rattle.std.proofs.lemmas.Bool.{true≢false, and_from, and_parts, or_cases, or_left, or_right, eq-eqb, eqb-true}
use Rattle.std.proofs.lemmas.Option.{same_Some}
use Rattle.fol_base.specs.Tree.{Tree}
use Rattle.fol_base.specs.Place.{subterm}
use Rattle.fol_base.specs.Clause.{TreeLiteral, TreeClause}
use Rattle.fol_base.specs.Compatible.{compatible}
use Rattle.fol_base.specs.Selection.{SelectionMode}
use Rattle.fol_base.specs.Sides.{side_of}
use Rattle.fol_base.specs.WellFormed.{SymbolUse}
use Rattle.fol_base.specs.declared.clause.Side.{Side}
use Rattle.literal_selection.specs.Mode.{mode_of}
use Rattle.kernel_steps.specs.Inference.{NamedSuperposition}
use Rattle.kernel_steps.specs.Named.{IsInference}
use Rattle.kernel_steps.specs.declared.key.Key.{Key}
use Rattle.kernel_steps.specs.declared.key.Key.TheVariants.{Para, Refl, Factor, Replaced}
use Rattle.bank_clause.specs.Clause.{clause_at}
use Rattle.bank_clause.specs.declared.member.Member.{Member}
use Rattle.disc_tree.proofs.AboutQueries.UnifierLemmas.{unifiable-compatible}
use Rattle.eq_rules.specs.Inferences.{is_enough}
use Rattle.eq_rules.specs.declared.concluding.LiteralSide.{LiteralSide}
use Rattle.eq_rules.specs.declared.inference.Inference.{Inference}
use Rattle.superpose.specs.Sites.{enter_sites, start_sites}
use Rattle.superpose.specs.Superposing.{para_key}
use Rattle.superpose.specs.declared.sites.LiteralPlace.{LiteralPlace}
use Rattle.superpose.specs.declared.sites.Sites.{Sites}
use Rattle.superpose.proofs.AboutLists.ListLemmas.{In, In-either, In-left, In-right, Once, Once-append}
use Rattle.superpose.proofs.AboutSites.SitesThere.{enters_once, formed_in, start_in, starts_once}
use Rattle.superpose.proofs.AboutSites.TriedLemmas.{tried-all, tried-some}
use Rattle.partners.specs.Meeting.{AddsMeetings, AddsMeetingsUpTo, AddsNamed, AddsSomeMeetings, AreLookedUp, MeetsAllPlaces, MeetsAllPlacesUpTo, MeetsAllStarts, MeetsAllStartsUpTo, is_meeting, is_partner, name_from, name_into, names}
use Rattle.partners.specs.Partners.{AreSitesFor, PartnerSet, literals_of, partner_before}
use Rattle.partners.specs.SiteTerms.{place_term, start_term}
use Rattle.partners.specs.declared.index.TheConstants.{MOST_SITES}
use Rattle.partners.proofs.KnownLemmas.{from-sites, into-sites}
use Rattle.partners.proofs.NamedLemmas.{all_places-part, named-more, named-same, partner-is, whole-where_few}
use Rattle.partners.proofs.NameLemmas.{IsFrom, IsInto, from-apart, from-is, from-needed, in-named, into-apart, into-is, into-needed, names-once, same-key}

-- ---- names at one site after another

-- each once; each is one at some site; and, where all are there, each that is needed at a site
record AreNamesOf {X : Type 0} (whole : Bool) (Right Needed : X → Key → Type 0) (xs : List X) (keys : List Key) : Type 0 where
  once : Once keys
  right : (key : Key) → In key keys → (x : X) × In x xs × Right x key
  all : whole ≡ true → (x : X) (key : Key) → In x xs → Needed x key → In key keys

names-cons :
    {X : Type 0} (whole : Bool) (Right Needed : X → Key → Type 0) (x : X) (xs : List X) (first rest : List Key)
    → ((y z : X) (key : Key) → Right y key → Right z key → y ≡ z) → (In x xs → ⊥)
    → Once first → ((key : Key) → In key first → Right x key) → (whole ≡ true → (key : Key) → Needed x key → In key first)
    → AreNamesOf whole Right Needed xs rest → AreNamesOf whole Right Needed (x ∷ xs) (first ++ rest)
names-cons {X} whole Right Needed x xs first rest apart new once right all others = record {
  once =
      Once-append first rest once others.once
      (λ key here later.
      let found = others.right key later in
      new (subst (λ (y : X). In y xs) (sym (apart x found.0 key (right key here) found.2)) found.1));
  right = λ key there.
      ⊎_elim
      (λ here. (x, inl refl, right key here))
      (λ later. let found = others.right key later in (found.0, inr found.1, found.2))
      (In-either key first rest there);
  all = λ w y key there needed.
      ⊎_elim
      (λ same. In-left key first rest (all w key (subst (λ (z : X). Needed z key) same needed)))
      (λ later. In-right key first rest (others.all w y key later needed))
      there;
}

names-none : {X : Type 0} (whole : Bool) (Right Needed : X → Key → Type 0) → AreNamesOf {X = X} whole Right Needed [] []
names-none whole Right Needed = record { once = tt; right = λ key there. absurd there; all = λ w x key there needed. absurd there }

module _ (bound : ℕ) (set : PartnerSet) (g : Member) where
  -- ---- from the clause's sides

  abbrev Into : LiteralSide → Key → Type 0
  Into s key = (c : ℕ) × IsInto bound set g.number s c key

  -- a superposition into a place of a partner whose term may unify with the side
  record NeedsInto (s : LiteralSide) (key : Key) : Type 0 where
    number : ℕ
    partner : Member
    there : partner_before bound set number ≡ Some partner
    place : LiteralPlace
    place_in : In place (enter_sites (mode_of set.mode) (literals_of partner))
    old : Tree
    old_is : place_term (literals_of partner) place ≡ Some old
    query : Tree
    query_is : start_term (literals_of g) s ≡ Some query
    pass : compatible old query ≡ true
    key_is : para_key g.number s partner.number place ≡ key

  collect-into :
      (whole : Bool) (ss : List LiteralSide) (initial now : List Inference) → Once ss → MeetsAllPlaces whole bound set g ss initial now
      → (keys : List Key) × AddsNamed bound set g keys initial now × AreNamesOf whole Into NeedsInto ss keys
  collect-into whole [] initial now once h = ([], named-same bound set g initial now h, names-none whole Into NeedsInto)
  collect-into whole (s ∷ ss) initial now once h =
      let name : ℕ → Option Key = name_into bound set g.number s in
      let first : List Key = names name h.1.entries in
      let rest = collect-into whole ss h.0 now once.1 h.2 in (
        first ++ rest.0,
        named-more bound set g first rest.0 initial h.0 now h.1.adds rest.1,
        names-cons whole Into NeedsInto s ss first rest.0
            (λ y z key one other. (into-apart bound set g.number y z one.0 other.0 key one.1 other.1).0)
            once.0
            (names-once name h.1.entries
            (λ c d key one other. (into-apart bound set g.number s s c d key (into-is bound set g.number s c key one) (into-is bound set g.number s d key other)).1)
            h.1.rise)
            (λ key there. let found = in-named name h.1.entries key there in (found.0, into-is bound set g.number s found.0 key found.1))
            (λ w key needed.
            subst (λ (k : Key). In k first) needed.key_is
            (into-needed bound set g needed.number needed.partner needed.there h.1.entries needed.query s needed.place needed.old
            (h.1.all w needed.query needed.query_is) needed.place_in needed.old_is needed.pass))
            rest.2,
      )

  -- ---- into the clause's places

  abbrev From : LiteralPlace → Key → Type 0
  From t key = (c : ℕ) × IsFrom bound set g.number t c key

  -- a superposition from a side of a partner that may unify with the term at the place
  record NeedsFrom (t : LiteralPlace) (key : Key) : Type 0 where
    number : ℕ
    partner : Member
    there : partner_before bound set number ≡ Some partner
    side : LiteralSide
    side_in : In side (start_sites (mode_of set.mode) (literals_of partner))
    tree : Tree
    tree_is : start_term (literals_of partner) side ≡ Some tree
    query : Tree
    query_is : place_term (literals_of g) t ≡ Some query
    pass : compatible tree query ≡ true
    key_is : para_key partner.number side g.number t ≡ key

  collect-from :
      (whole : Bool) (ts : List LiteralPlace) (initial now : List Inference) → Once ts → MeetsAllStarts whole bound set g ts initial now
      → (keys : List Key) × AddsNamed bound set g keys initial now × AreNamesOf whole From NeedsFrom ts keys
  collect-from whole [] initial now once h = ([], named-same bound set g initial now h, names-none whole From NeedsFrom)
  collect-from whole (t ∷ ts) initial now once h =
      let name : ℕ → Option Key = name_from bound set g.number t in
      let first : List Key = names name h.1.entries in
      let rest = collect-from whole ts h.0 now once.1 h.2 in (
        first ++ rest.0,
        named-more bound set g first rest.0 initial h.0 now h.1.adds rest.1,
        names-cons whole From NeedsFrom t ts first rest.0
            (λ y z key one other. (from-apart bound set g.number y z one.0 other.0 key one.1 other.1).0)
            once.0
            (names-once name h.1.entries
            (λ c d key one other. (from-apart bound set g.number t t c d key (from-is bound set g.number t c key one) (from-is bound set g.number t d key other)).1)
            h.1.rise)
            (λ key there. let found = in-named name h.1.entries key there in (found.0, from-is bound set g.number t found.0 key found.1))
            (λ w key needed.
            subst (λ (k : Key). In k first) needed.key_is
            (from-needed bound set g needed.number needed.partner needed.there h.1.entries needed.query t needed.side needed.tree
            (h.1.all w needed.query needed.query_is) needed.side_in needed.tree_is needed.pass))
            rest.2,
      )

  -- ---- partners by their numbers

  partner-true : (n : ℕ) (m : Member) → partner_before bound set n ≡ Some m → is_partner bound set m.number ≡ true
  partner-true n m there = ap (λ k. is_some (partner_before bound set k)) (partner-is bound set n m there).number ∙ ap is_some there

  some-partner : (n : ℕ) → is_partner bound set n ≡ true → (m : Member) × (partner_before bound set n ≡ Some m)
  some-partner n h = from (partner_before bound set n) refl h
    where
      from : (o : Option Member) → partner_before bound set n ≡ o → is_some o ≡ true → (m : Member) × (partner_before bound set n ≡ Some m)
      from None is e = absurd (true≢false (sym e))
      from (Some m) is e = (m, is)

  into-meets : (s : LiteralSide) (key : Key) → Into s key → is_meeting bound set g.number key ≡ true
  into-meets s key it =
      let m : Member = it.1.partner in
      ap (is_meeting bound set g.number) (sym it.1.key_is)
      ∙ or_left ((g.number == g.number) && is_partner bound set m.number) ((m.number == g.number) && is_partner bound set g.number)
      (and_from (g.number == g.number) (is_partner bound set m.number) (eq-eqb g.number g.number refl) (partner-true (it.0 / MOST_SITES) m it.1.there))

  from-meets : (t : LiteralPlace) (key : Key) → From t key → is_meeting bound set g.number key ≡ true
  from-meets t key it =
      let m : Member = it.1.partner in
      ap (is_meeting bound set g.number) (sym it.1.key_is)
      ∙ or_right ((m.number == g.number) && is_partner bound set g.number) ((g.number == g.number) && is_partner bound set m.number)
      (and_from (g.number == g.number) (is_partner bound set m.number) (eq-eqb g.number g.number refl) (partner-true (it.0 / MOST_SITES) m it.1.there))

  -- ---- what an inference needs

  module _ (usage : SymbolUse) (clauses : ℕ → Option TreeClause) (looked : AreLookedUp usage clauses bound set g) where
    needs-into :
        (number : ℕ) (m : Member) (i j : ℕ) (s z : Side) (place : List ℕ) (c : TreeClause)
        → partner_before bound set number ≡ Some m
        → IsInference usage.is_predicate (mode_of set.mode) clauses (Para g.number i s number j z place) c
        → In (record { literal = i; side = s }) (start_sites (mode_of set.mode) (literals_of g))
        × NeedsInto (record { literal = i; side = s }) (Para g.number i s number j z place)
    needs-into number m i j s z place c there it =
        let mode : SelectionMode = mode_of set.mode in
        let p : ℕ → Bool = usage.is_predicate in
        let side : LiteralSide = record { literal = i; side = s } in
        let into : LiteralPlace = record { at = record { literal = j; side = z }; place = place } in
        let first : it.first_clause ≡ clause_at g.clause = same_Some it.first_clause (clause_at g.clause) (sym it.first_there ∙ looked.given_there) in
        let second : it.second_clause ≡ clause_at m.clause =
        same_Some it.second_clause (clause_at m.clause) (sym it.second_there ∙ looked.partners_there number m there) in
        let n : NamedSuperposition p mode (clause_at g.clause) i s (clause_at m.clause) j z place c =
        subst (λ (d : TreeClause). NamedSuperposition p mode (clause_at g.clause) i s d j z place c) second
        (subst (λ (d : TreeClause). NamedSuperposition p mode d i s it.second_clause j z place c) first it.infers) in (
          start_in p mode (clause_at g.clause) side (clause_at m.clause) into c n,
          record {
            number = number;
            partner = m;
            there = there;
            place = into;
            place_in =
                formed_in usage mode (clause_at g.clause) side (clause_at m.clause) into c looked.given_formed (looked.partners_formed number m there) n;
            old = n.old;
            old_is = ap (λ (o : Option TreeLiteral). option_and_then (subterm place) (option_map (side_of z) o)) n.into_there ∙ n.old_there;
            query = side_of s n.from;
            query_is = ap (option_map (side_of s)) n.from_there;
            pass = unifiable-compatible n.old (side_of s n.from) n.second_unifier n.first_unifier (sym n.most_general.unifies);
            key_is = ap (λ (k : ℕ). para_key g.number side k into) (partner-is bound set number m there).number;
          },
        )

    needs-from :
        (number : ℕ) (m : Member) (i j : ℕ) (s z : Side) (place : List ℕ) (c : TreeClause)
        → partner_before bound set number ≡ Some m
        → IsInference usage.is_predicate (mode_of set.mode) clauses (Para number i s g.number j z place) c
        → In (record { at = record { literal = j; side = z }; place = place }) (enter_sites (mode_of set.mode) (literals_of g))
        × NeedsFrom (record { at = record { literal = j; side = z }; place = place }) (Para number i s g.number j z place)
    needs-from number m i j s z place c there it =
        let mode : SelectionMode = mode_of set.mode in
        let p : ℕ → Bool = usage.is_predicate in
        let side : LiteralSide = record { literal = i; side = s } in
        let into : LiteralPlace = record { at = record { literal = j; side = z }; place = place } in
        let first : it.first_clause ≡ clause_at m.clause =
        same_Some it.first_clause (clause_at m.clause) (sym it.first_there ∙ looked.partners_there number m there) in
        let second : it.second_clause ≡ clause_at g.clause = same_Some it.second_clause (clause_at g.clause) (sym it.second_there ∙ looked.given_there) in
        let n : NamedSuperposition p mode (clause_at m.clause) i s (clause_at g.clause) j z place c =
        subst (λ (d : TreeClause). NamedSuperposition p mode (clause_at m.clause) i s d j z place c) second
        (subst (λ (d : TreeClause). NamedSuperposition p mode d i s it.second_clause j z place c) first it.infers) in (
          formed_in usage mode (clause_at m.clause) side (clause_at g.clause) into c (looked.partners_formed number m there) looked.given_formed n,
          record {
            number = number;
            partner = m;
            there = there;
            side = side;
            side_in = start_in p mode (clause_at m.clause) side (clause_at g.clause) into c n;
            tree = side_of s n.from;
            tree_is = ap (option_map (side_of s)) n.from_there;
            query = n.old;
            query_is = ap (λ (o : Option TreeLiteral). option_and_then (subterm place) (option_map (side_of z) o)) n.into_there ∙ n.old_there;
            pass = unifiable-compatible (side_of s n.from) n.old n.first_unifier n.second_unifier n.most_general.unifies;
            key_is = ap (λ (k : ℕ). para_key k side g.number into) (partner-is bound set number m there).number;
          },
        )

-- ---- all of them, or some

record AreNamesMet (whole : Bool) (bound : ℕ) (set : PartnerSet) (g : Member) (ss : List LiteralSide) (ts : List LiteralPlace) (initial now : List Inference) : Type 0 where
  one : List Key
  two : List Key
  adds : AddsNamed bound set g (one ++ two) initial now
  once : Once (one ++ two)
  pass : (key : Key) → In key (one ++ two) → is_meeting bound set g.number key ≡ true
  into_all : whole ≡ true → (s : LiteralSide) (key : Key) → In s ss → NeedsInto bound set g s key → In key one
  from_all : whole ≡ true → (t : LiteralPlace) (key : Key) → In t ts → NeedsFrom bound set g t key → In key two

names-met :
    (whole : Bool) (bound : ℕ) (set : PartnerSet) (g : Member) (ss : List LiteralSide) (ts : List LiteralPlace) (initial middle now : List Inference)
    → is_partner bound set g.number ≡ false → Once ss → Once ts
    → MeetsAllPlaces whole bound set g ss initial middle → MeetsAllStarts whole bound set g ts middle now
    → AreNamesMet whole bound set g ss ts initial now
names-met whole bound set g ss ts initial middle now another ss_once ts_once places starts =
    let first = collect-into bound set g whole ss initial middle ss_once places in
    let second = collect-from bound set g whole ts middle now ts_once starts in
    record {
      one = first.0;
      two = second.0;
      adds = named-more bound set g first.0 second.0 initial middle now first.1 second.1;
      once =
          Once-append first.0 second.0 first.2.once second.2.once
          (λ key here there.
          let a = first.2.right key here in
          let b = second.2.right key there in
          let parts =
          same-key g.number a.2.1.partner.number b.2.1.partner.number g.number a.0 b.2.1.side a.2.1.place b.0 (a.2.1.key_is ∙ sym b.2.1.key_is) in
          true≢false
          (sym (ap (is_partner bound set) parts.0 ∙ partner-true bound set g (b.2.0 / MOST_SITES) b.2.1.partner b.2.1.there) ∙ another));
      pass = λ key there.
          ⊎_elim
          (λ here. let found = first.2.right key here in into-meets bound set g found.0 key found.2)
          (λ here. let found = second.2.right key here in from-meets bound set g found.0 key found.2)
          (In-either key first.0 second.0 there);
      into_all = first.2.all;
      from_all = second.2.all;
    }

pub meets-some :
    (whole : Bool) (bound : ℕ) (set : PartnerSet) (g : Member) (ss : List LiteralSide) (ts : List LiteralPlace) (initial middle now : List Inference)
    → is_partner bound set g.number ≡ false → Once ss → Once ts
    → MeetsAllPlaces whole bound set g ss initial middle → MeetsAllStarts whole bound set g ts middle now
    → AddsSomeMeetings bound set g initial now
meets-some whole bound set g ss ts initial middle now another ss_once ts_once places starts usage clauses looked =
    let met = names-met whole bound set g ss ts initial middle now another ss_once ts_once places starts in
    let adds = met.adds usage clauses looked in (
      adds.0,
      adds.1,
      tried-some usage.is_predicate (mode_of set.mode) clauses (is_meeting bound set g.number) (met.one ++ met.two) adds.0 met.once met.pass adds.2,
    )

pub meets-all :
    (bound : ℕ) (set : PartnerSet) (g : Member) (sites : Sites) (initial middle now : List Inference)
    → AreSitesFor set.mode g sites → is_partner bound set g.number ≡ false
    → MeetsAllPlaces true bound set g sites.from.items initial middle → MeetsAllStarts true bound set g sites.into.items middle now
    → AddsMeetings bound set g initial now
meets-all bound set g sites initial middle now are another places starts usage clauses looked =
    let mode : SelectionMode = mode_of set.mode in
    let froms : List LiteralSide = start_sites mode (literals_of g) in
    let intos : List LiteralPlace = enter_sites mode (literals_of g) in
    let met =
    names-met true bound set g froms intos initial middle now another (starts_once mode (literals_of g)) (enters_once mode (literals_of g))
    (subst (λ (ss : List LiteralSide). MeetsAllPlaces true bound set g ss initial middle) (from-sites set.mode g sites are) places)
    (subst (λ (ts : List LiteralPlace). MeetsAllStarts true bound set g ts middle now) (into-sites set.mode g sites are) starts) in
    let adds = met.adds usage clauses looked in (
      adds.0,
      adds.1,
      tried-all usage.is_predicate mode clauses (is_meeting bound set g.number) (met.one ++ met.two) adds.0 met.once met.pass
          (back met.one met.two (met.into_all refl) (met.from_all refl)) adds.2,
    )
  where
    back :
        (one two : List Key)
        → ((s : LiteralSide) (key : Key) → In s (start_sites (mode_of set.mode) (literals_of g)) → NeedsInto bound set g s key → In key one)
        → ((t : LiteralPlace) (key : Key) → In t (enter_sites (mode_of set.mode) (literals_of g)) → NeedsFrom bound set g t key → In key two)
        → (key : Key) (c : TreeClause) → is_meeting bound set g.number key ≡ true
        → IsInference usage.is_predicate (mode_of set.mode) clauses key c → In key (one ++ two)
    back one two into_all from_all (Para first i s second j z place) c passes it =
        ⊎_elim
        (λ given_first.
        let both = and_parts (first == g.number) (is_partner bound set second) given_first in
        let is : first ≡ g.number = eqb-true first g.number both.0 in
        let found = some-partner bound set g second both.1 in
        let needs =
        needs-into bound set g usage clauses looked second found.0 i j s z place c found.1
        (subst (λ (k : ℕ). IsInference usage.is_predicate (mode_of set.mode) clauses (Para k i s second j z place) c) is it) in
        In-left (Para first i s second j z place) one two
        (subst (λ (k : ℕ). In (Para k i s second j z place) one) (sym is)
        (into_all (record { literal = i; side = s }) (Para g.number i s second j z place) needs.0 needs.1)))
        (λ given_second.
        let both = and_parts (second == g.number) (is_partner bound set first) given_second in
        let is : second ≡ g.number = eqb-true second g.number both.0 in
        let found = some-partner bound set g first both.1 in
        let needs =
        needs-from bound set g usage clauses looked first found.0 i j s z place c found.1
        (subst (λ (k : ℕ). IsInference usage.is_predicate (mode_of set.mode) clauses (Para first i s k j z place) c) is it) in
        In-right (Para first i s second j z place) one two
        (subst (λ (k : ℕ). In (Para first i s k j z place) two) (sym is)
        (from_all (record { at = record { literal = j; side = z }; place = place }) (Para first i s g.number j z place) needs.0 needs.1)))
        (or_cases ((first == g.number) && is_partner bound set second) ((second == g.number) && is_partner bound set first) passes)
    back one two into_all from_all (Refl q i) c passes it = absurd (true≢false (sym passes))
    back one two into_all from_all (Factor q i s j z) c passes it = absurd (true≢false (sym passes))
    back one two into_all from_all (Replaced q) c passes it = absurd (true≢false (sym passes))

-- ---- until there are enough

Once-take : {X : Type 0} (k : ℕ) (xs : List X) → Once xs → Once (take k xs)
Once-take zero [] h = tt
Once-take zero (x ∷ xs) h = tt
Once-take (suc k) [] h = tt
Once-take (suc k) (x ∷ xs) h = ((λ e. h.0 (In-take k x xs e)), Once-take k xs h.1)
  where
    In-take : {X : Type 0} (n : ℕ) (y : X) (ys : List X) → In y (take n ys) → In y ys
    In-take zero y [] e = e
    In-take zero y (z ∷ ys) e = absurd e
    In-take (suc n) y [] e = e
    In-take (suc n) y (z ∷ ys) e = ⊎_elim (λ here. inl here) (λ later. inr (In-take n y ys later)) e

module _
    (most : Option ℕ) (bound : ℕ) (set : PartnerSet) (g : Member) (sites : Sites) (are : AreSitesFor set.mode g sites)
    (another : is_partner bound set g.number ≡ false) where
  froms-once : (k : ℕ) → Once (take k sites.from.items)
  froms-once k =
      Once-take k sites.from.items
      (subst (λ (ss : List LiteralSide). Once ss) (sym (from-sites set.mode g sites are)) (starts_once (mode_of set.mode) (literals_of g)))

  intos-once : (k : ℕ) → Once (take k sites.into.items)
  intos-once k =
      Once-take k sites.into.items
      (subst (λ (ts : List LiteralPlace). Once ts) (sym (into-sites set.mode g sites are)) (enters_once (mode_of set.mode) (literals_of g)))

  -- those from the clause's sides are enough
  pub meets-from :
      (initial now : List Inference) → is_enough most (length now) ≡ true
      → MeetsAllPlacesUpTo most bound set g sites.from.items initial now → AddsMeetingsUpTo most bound set g initial now
  meets-from initial now enough h =
      inr (
        enough,
        ⊎_elim
            (λ all.
            meets-some true bound set g sites.from.items [] initial now now another
            (subst (λ (ss : List LiteralSide). Once ss) (sym (from-sites set.mode g sites are)) (starts_once (mode_of set.mode) (literals_of g))) tt all refl)
            (λ some. meets-some false bound set g (take some.1.0 sites.from.items) [] initial now now another (froms-once some.1.0) tt some.1.1 refl)
            h,
      )

  -- and those into its places
  pub meets-into :
      (initial middle now : List Inference) → is_enough most (length middle) ≡ false
      → MeetsAllPlacesUpTo most bound set g sites.from.items initial middle → MeetsAllStartsUpTo most bound set g sites.into.items middle now
      → AddsMeetingsUpTo most bound set g initial now
  meets-into initial middle now few h k =
      let places : MeetsAllPlaces true bound set g sites.from.items initial middle = whole-where_few most (length middle) few h in
      ⊎_elim
      (λ all. inl (meets-all bound set g sites initial middle now are another places all))
      (λ some.
      inr (
        some.0,
        meets-some false bound set g sites.from.items (take some.1.0 sites.into.items) initial middle now another
            (subst (λ (ss : List LiteralSide). Once ss) (sym (from-sites set.mode g sites are)) (starts_once (mode_of set.mode) (literals_of g)))
            (intos-once some.1.0) (all_places-part true bound set g sites.from.items initial middle places) some.1.1,
      ))
      k
