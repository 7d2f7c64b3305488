-- Members by their numbers: as the map has them, as contracts see them, and as the trees give them.
use Rattle.std.proofs.Common.{◌≡◌, ℕ, ◌≤◌, Bool, true, false, List, [], ◌∷◌, map, length, refl, ap, ap₂, sym, ◌∙◌, subst, ⊎_elim, arith}
use Rattle.std.specs.Prelude.{Option, None, Some, option_map, cond, nat_eq, if◌then◌else◌, ◌==◌, ◌↔◌, slice_get, Contains}
use Rattle.std.specs.List.Sorted.{IsStrictlyIncreasing}
use Rattle.std.specs.Map.{lookup}
use Rattle.std.proofs.lemmas.Bool.{cases_Bool, cond-true, cond-false, eq-eqb, eqb-true, true≢false}
use Rattle.std.proofs.lemmas.Option.{none-some, same_Some, slice_get_within}
use Rattle.fol_base.specs.Tree.{Tree}
use Rattle.fol_base.specs.Clause.{TreeLiteral}
use Rattle.fol_base.specs.Compatible.{compatible}
use Rattle.fol_base.specs.Selection.{SelectionMode}
use Rattle.literal_selection.specs.Mode.{mode_of}
use Rattle.literal_selection.specs.declared.choice.Selection.{Selection}
use Rattle.term_bank.specs.declared.bank.Bank.{Bank}
use Rattle.bank_clause.specs.Clause.{clause_at, IsMemberOf}
use Rattle.bank_clause.specs.declared.member.Member.{Member}
use Rattle.bank_clause.specs.declared.clause.BankClause.{BankClause}
use Rattle.disc_tree.specs.Entries.{IsIn, numbers_where}
use Rattle.superpose.specs.Sites.{AreSitesOf, enter_sites, start_sites}
use Rattle.superpose.specs.declared.sites.Sites.{Sites}
use Rattle.superpose.specs.declared.sites.Premise.{Premise}
use Rattle.superpose.proofs.AboutLists.ListLemmas.{In-contained}
use Rattle.partners.specs.Index.{AreIndexed, KeepsOthers, site_number}
use Rattle.partners.specs.Known.{AreAllIndexed, HaveFewSites, IsKnown, placed_of}
use Rattle.partners.specs.Meeting.{AreCandidates}
use Rattle.partners.specs.Partners.{AreOfBank, AreSitesFor, HasAlso, HasNoMore, PartnerSet, Placed, literals_of, placed_numbered}
use Rattle.partners.specs.declared.index.TheConstants.{MOST_SITES}
use Rattle.partners.specs.declared.partners.Partner.{Partner}
use Rattle.partners.proofs.IndexLemmas.{in-found}

-- ---- what contracts see

-- the member under a number, and what contracts see of it
abbrev pub placed_under : ℕ → Partner → Placed
placed_under n p = placed_of (n, p)

pub numbered : (n : ℕ) (es : List (ℕ × Partner)) → placed_numbered n (map placed_of es) ≡ option_map (placed_under n) (lookup (nat_eq n) es)
numbered n [] = refl
numbered n (e ∷ es) =
    ⊎_elim
    (λ yes.
    cond-true (nat_eq n e.0) (Some (placed_of e)) (placed_numbered n (map placed_of es)) yes
    ∙ ap (λ k. Some (placed_under k e.1)) (sym (eqb-true n e.0 yes))
    ∙ sym (ap (option_map (placed_under n)) (cond-true (nat_eq n e.0) (Some e.1) (lookup (nat_eq n) es) yes)))
    (λ no_it.
    cond-false (nat_eq n e.0) (Some (placed_of e)) (placed_numbered n (map placed_of es)) no_it
    ∙ numbered n es
    ∙ sym (ap (option_map (placed_under n)) (cond-false (nat_eq n e.0) (Some e.1) (lookup (nat_eq n) es) no_it)))
    (cases_Bool (nat_eq n e.0))

-- what the invariant says of each member
abbrev pub AreKnown : Selection → List (Tree × ℕ) → List (Tree × ℕ) → List (ℕ × Partner) → Type 0
AreKnown mode starts places es = (n : ℕ) (p : Partner) → lookup (nat_eq n) es ≡ Some p → IsKnown mode starts places n p

abbrev pub seen : Selection → List (ℕ × Partner) → PartnerSet
seen mode es = record { mode = mode; members = map placed_of es }

-- a member that contracts see is known
pub record IsSeen (mode : Selection) (starts places : List (Tree × ℕ)) (n : ℕ) (q : Placed) : Type 0 where
  pub partner : Partner
  pub known : IsKnown mode starts places n partner
  pub position : partner.position ≡ q.position
  pub member : partner.member ≡ q.member

pub known-seen :
    (mode : Selection) (starts places : List (Tree × ℕ)) (es : List (ℕ × Partner)) (n : ℕ) (q : Placed)
    → AreKnown mode starts places es → placed_numbered n (map placed_of es) ≡ Some q → IsSeen mode starts places n q
known-seen mode starts places es n q known there =
    from (lookup (nat_eq n) es) refl (sym (numbered n es) ∙ there)
  where
    from : (o : Option Partner) → lookup (nat_eq n) es ≡ o → option_map (placed_under n) o ≡ Some q → IsSeen mode starts places n q
    from None is e = absurd (none-some q e)
    from (Some p) is e =
        let k : IsKnown mode starts places n p = known n p is in
        let same : placed_under n p ≡ q = same_Some (placed_under n p) q e in
        record {
          partner = p;
          known = k;
          position = ap (λ (x : Placed). x.position) same;
          member = ap (λ i. let m : Member = record { number = i; clause = p.member.clause } in m) k.number ∙ ap (λ (x : Placed). x.member) same;
        }

-- ---- what is lent

-- the member of a premise
abbrev pub member_of : Premise → Member
member_of p = p.member.now

pub found-known :
    (mode : Selection) (starts places : List (Tree × ℕ)) (n : ℕ) (es : List (ℕ × Partner)) (p : Partner)
    → AreKnown mode starts places es → Some p ≡ lookup (nat_eq n) es
    → placed_numbered n (map placed_of es) ≡ Some (record { position = p.position; member = p.member })
found-known mode starts places n es p known is =
    numbered n es ∙ ap (option_map (placed_under n)) (sym is)
    ∙ ap (λ i. let q : Placed = record { position = p.position; member = record { number = i; clause = p.member.clause } } in Some q)
    (sym (known n p (sym is)).number)

pub absent-known :
    (n : ℕ) (es : List (ℕ × Partner)) → None ≡ lookup (nat_eq n) es → placed_numbered n (map placed_of es) ≡ None
absent-known n es is = numbered n es ∙ ap (option_map (placed_under n)) (sym is)

-- ---- candidates

pub candidates :
    {S : Type 0} (sites : SelectionMode → List TreeLiteral → List S) (term_in : List TreeLiteral → S → Option Tree) (field : Sites → List S)
    (mode : Selection) (starts places tree : List (Tree × ℕ)) (es : List (ℕ × Partner)) (query : Tree) (found numbers : List ℕ)
    → AreKnown mode starts places es
    → ((n : ℕ) (p : Partner) → IsKnown mode starts places n p → AreIndexed term_in (literals_of p.member) n (field p.sites) tree)
    → ((c : Member) (ss : Sites) → AreSitesFor mode c ss → field ss ≡ sites (mode_of mode) (literals_of c))
    → ((ss : Sites) → HaveFewSites ss → length (field ss) ≤ MOST_SITES)
    → found ≡ numbers_where (λ t. compatible t query) tree
    → IsStrictlyIncreasing numbers → ((n : ℕ) → Contains numbers n ↔ Contains found n)
    → AreCandidates sites term_in (seen mode es) query numbers
candidates {S} sites term_in field mode starts places tree es query found numbers known indexed are few is rise same = record {
  rise = rise;
  all = λ n q i site t there at term pass.
      let s : IsSeen mode starts places n q = known-seen mode starts places es n q known there in
      let k : IsKnown mode starts places n s.partner = s.known in
      let listed : field s.partner.sites ≡ sites (mode_of mode) (literals_of q.member) =
      are s.partner.member s.partner.sites k.sites ∙ ap (λ (m : Member). sites (mode_of mode) (literals_of m)) s.member in
      let here : slice_get (field s.partner.sites) i ≡ Some site = ap (λ ss. slice_get ss i) listed ∙ at in
      let term_here : term_in (literals_of s.partner.member) site ≡ Some t = ap (λ (m : Member). term_in (literals_of m) site) s.member ∙ term in
      let low = slice_get_within (field s.partner.sites) i site here in
      let entry : IsIn (t, site_number n i) tree = indexed n s.partner k i site t here term_here in (
        omega (arith, low, few s.partner.sites k.few),
        (same (site_number n i)).1
            (subst (λ (ns : List ℕ). Contains ns (site_number n i)) (sym is)
            (In-contained (site_number n i) (numbers_where (λ u. compatible u query) tree)
            (in-found (λ u. compatible u query) tree t (site_number n i) entry pass))),
      );
}

pub from-sites : (mode : Selection) (c : Member) (ss : Sites) → AreSitesFor mode c ss → ss.from.items ≡ start_sites (mode_of mode) (literals_of c)
from-sites mode c ss are = are.of_clause.from ∙ ap (λ k. start_sites (mode_of k) (literals_of c)) are.mode_is

pub into-sites : (mode : Selection) (c : Member) (ss : Sites) → AreSitesFor mode c ss → ss.into.items ≡ enter_sites (mode_of mode) (literals_of c)
into-sites mode c ss are = are.of_clause.into ∙ ap (λ k. enter_sites (mode_of k) (literals_of c)) are.mode_is

-- ---- a member more, or fewer

pub kept-known :
    (mode : Selection) (number : ℕ) (starts places starts_now places_now : List (Tree × ℕ)) (n : ℕ) (p : Partner)
    → KeepsOthers number starts starts_now → KeepsOthers number places places_now → (n ≡ number → ⊥)
    → IsKnown mode starts places n p → IsKnown mode starts_now places_now n p
kept-known mode number starts places starts_now places_now n p starts_kept places_kept other k = record {
  number = k.number;
  sites = k.sites;
  few = k.few;
  indexed = record {
    from = λ i s t at term.
        starts_kept t n i other (let low = slice_get_within p.sites.from.items i s at in omega (arith, low, k.few.from)) (k.indexed.from i s t at term);
    into = λ i s t at term.
        places_kept t n i other (let low = slice_get_within p.sites.into.items i s at in omega (arith, low, k.few.into)) (k.indexed.into i s t at term);
  };
}

-- the members of a map without the number are as they were
pub absent-kept :
    (mode : Selection) (number : ℕ) (starts places starts_now places_now : List (Tree × ℕ)) (es fs : List (ℕ × Partner))
    → fs ≡ es → KeepsOthers number starts starts_now → KeepsOthers number places places_now
    → placed_numbered number (map placed_of es) ≡ None → AreKnown mode starts places es → AreKnown mode starts_now places_now fs
absent-kept mode number starts places starts_now places_now es fs same starts_kept places_kept absent known n p there =
    let in_es : lookup (nat_eq n) es ≡ Some p = ap (lookup (nat_eq n)) (sym same) ∙ there in
    kept-known mode number starts places starts_now places_now n p starts_kept places_kept
    (λ equal.
    none-some (placed_under n p)
    (sym absent ∙ ap (λ k. placed_numbered k (map placed_of es)) (sym equal) ∙ numbered n es ∙ ap (option_map (placed_under n)) in_es))
    (known n p in_es)

-- the map with one more
pub put-known :
    (mode : Selection) (number : ℕ) (starts places starts_now places_now : List (Tree × ℕ)) (es fs : List (ℕ × Partner)) (q : Partner)
    → ((n : ℕ) → lookup (nat_eq n) fs ≡ cond (nat_eq number n) (Some q) (lookup (nat_eq n) es))
    → KeepsOthers number starts starts_now → KeepsOthers number places places_now → IsKnown mode starts_now places_now number q
    → AreKnown mode starts places es → AreKnown mode starts_now places_now fs
put-known mode number starts places starts_now places_now es fs q put starts_kept places_kept made known n p there =
    ⊎_elim
    (λ yes.
    let is : q ≡ p = same_Some q p (sym (cond-true (nat_eq number n) (Some q) (lookup (nat_eq n) es) yes) ∙ sym (put n) ∙ there) in
    subst (IsKnown mode starts_now places_now n) is (subst (λ k. IsKnown mode starts_now places_now k q) (eqb-true number n yes) made))
    (λ no_it.
    kept-known mode number starts places starts_now places_now n p starts_kept places_kept
    (λ equal. true≢false (sym (eq-eqb number n (sym equal)) ∙ no_it))
    (known n p (sym (cond-false (nat_eq number n) (Some q) (lookup (nat_eq n) es) no_it) ∙ sym (put n) ∙ there)))
    (cases_Bool (nat_eq number n))

-- a member that was put in is known
pub made-known :
    (mode : Selection) (starts places : List (Tree × ℕ)) (m : Member) (clause : BankClause) (position : ℕ) (sites : Sites) (ls : List TreeLiteral)
    → clause ≡ m.clause → AreSitesOf (clause_at m.clause) sites → sites.mode ≡ mode → HaveFewSites sites
    → ls ≡ (clause_at m.clause).literals → AreAllIndexed ls m.number sites starts places
    → IsKnown mode starts places m.number (record { position = position; member = record { number = m.number; clause = clause }; sites = sites })
made-known mode starts places m clause position sites ls same are mode_is few lent indexed = record {
  number = refl;
  sites = record { of_clause = subst (λ (c : BankClause). AreSitesOf (clause_at c) sites) (sym same) are; mode_is = mode_is };
  few = few;
  indexed =
      subst (λ (ks : List TreeLiteral). AreAllIndexed ks m.number sites starts places) (lent ∙ ap (λ (c : BankClause). (clause_at c).literals) (sym same))
      indexed;
}

step : (b : Bool) (q : Placed) (x : Option Placed) (o : Option Partner) (p : Partner) (n : ℕ)
    → (b ≡ true → placed_under n p ≡ q) → x ≡ option_map (placed_under n) o
    → option_map (placed_under n) (cond b (Some p) o) ≡ (if b then Some q else x)
step true q x o p n here h = ap Some (here refl)
step false q x o p n here h = sym h

pub put-seen :
    (mode : Selection) (number : ℕ) (es fs : List (ℕ × Partner)) (q : Partner) (m : Member) (position : ℕ)
    → m.number ≡ number → q.position ≡ position → q.member.clause ≡ m.clause
    → ((n : ℕ) → lookup (nat_eq n) fs ≡ cond (nat_eq number n) (Some q) (lookup (nat_eq n) es))
    → HasAlso (record { position = position; member = m }) (seen mode es) (seen mode fs)
put-seen mode number es fs q m position same at clause put = record {
  mode = refl;
  members = λ n.
      numbered n fs ∙ ap (option_map (placed_under n)) (put n)
      ∙ step (nat_eq number n) (record { position = position; member = m }) (placed_numbered n (map placed_of es)) (lookup (nat_eq n) es) q n
      (λ yes.
      let number_is : n ≡ m.number = sym (eqb-true number n yes) ∙ sym same in
      ap₂ (λ (i : ℕ) (c : BankClause). let x : Placed = record { position = q.position; member = record { number = i; clause = c } } in x) number_is clause
      ∙ ap (λ i. let x : Placed = record { position = i; member = m } in x) at)
      (numbered n es)
      ∙ ap (λ k. if k == n then Some (record { position = position; member = m }) else placed_numbered n (map placed_of es)) (sym same);
}

-- the map with one fewer
pub taken-known :
    (mode : Selection) (number : ℕ) (starts places starts_now places_now : List (Tree × ℕ)) (es fs : List (ℕ × Partner))
    → ((n : ℕ) → lookup (nat_eq n) fs ≡ cond (nat_eq number n) None (lookup (nat_eq n) es))
    → KeepsOthers number starts starts_now → KeepsOthers number places places_now
    → AreKnown mode starts places es → AreKnown mode starts_now places_now fs
taken-known mode number starts places starts_now places_now es fs taken starts_kept places_kept known n p there =
    ⊎_elim
    (λ yes. absurd (none-some p (sym (cond-true (nat_eq number n) None (lookup (nat_eq n) es) yes) ∙ sym (taken n) ∙ there)))
    (λ no_it.
    kept-known mode number starts places starts_now places_now n p starts_kept places_kept
    (λ equal. true≢false (sym (eq-eqb number n (sym equal)) ∙ no_it))
    (known n p (sym (cond-false (nat_eq number n) None (lookup (nat_eq n) es) no_it) ∙ sym (taken n) ∙ there)))
    (cases_Bool (nat_eq number n))

step-none : (b : Bool) (x : Option Placed) (o : Option Partner) (n : ℕ) → x ≡ option_map (placed_under n) o
    → option_map (placed_under n) (cond b None o) ≡ (if b then None else x)
step-none true x o n h = refl
step-none false x o n h = sym h

pub taken-seen :
    (mode : Selection) (number : ℕ) (es fs : List (ℕ × Partner))
    → ((n : ℕ) → lookup (nat_eq n) fs ≡ cond (nat_eq number n) None (lookup (nat_eq n) es))
    → HasNoMore number (seen mode es) (seen mode fs)
taken-seen mode number es fs taken = record {
  mode = refl;
  members = λ n.
      numbered n fs ∙ ap (option_map (placed_under n)) (taken n)
      ∙ step-none (nat_eq number n) (placed_numbered n (map placed_of es)) (lookup (nat_eq n) es) n (numbered n es);
}

-- ---- the members' bank

pub also-of-bank :
    (bank : Bank) (q : Placed) (old new : PartnerSet) → HasAlso q old new → IsMemberOf bank q.member → AreOfBank bank old → AreOfBank bank new
also-of-bank bank q old new also of_bank all n p there =
    ⊎_elim
    (λ yes.
    subst (λ (x : Placed). IsMemberOf bank x.member)
    (same_Some q p (sym (cond-true (q.member.number == n) (Some q) (placed_numbered n old.members) yes) ∙ sym (also.members n) ∙ there)) of_bank)
    (λ no_it.
    all n p (sym (cond-false (q.member.number == n) (Some q) (placed_numbered n old.members) no_it) ∙ sym (also.members n) ∙ there))
    (cases_Bool (q.member.number == n))

pub fewer-of-bank :
    (bank : Bank) (number : ℕ) (old new : PartnerSet) → HasNoMore number old new → AreOfBank bank old → AreOfBank bank new
fewer-of-bank bank number old new fewer all n p there =
    ⊎_elim
    (λ yes. absurd (none-some p (sym (cond-true (number == n) None (placed_numbered n old.members) yes) ∙ sym (fewer.members n) ∙ there)))
    (λ no_it. all n p (sym (cond-false (number == n) None (placed_numbered n old.members) no_it) ∙ sym (fewer.members n) ∙ there))
    (cases_Bool (number == n))
