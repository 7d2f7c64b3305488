-- From the search of a member to whether a unit rewrites it.
use Rattle.std.proofs.Common.{◌≡◌, ◌⊎◌, ℕ, Bool, true, false, not, ◌&&◌, ◌==◌, List, [], ◌∷◌, ◌++◌, refl, ap, sym, ◌∙◌, subst, inl, inr, ⊎_elim, ◌<◌, length, get_or, eqb}
use Rattle.std.specs.Prelude.{Option, None, Some, option_and_then, IsTrue, All, if◌then◌else◌, MatchOption, MatchBool, is_some, Contains}
use Rattle.std.proofs.lemmas.Bool.{true≢false, cases_Bool, cond-true, cond-false, eqb-true, eq-eqb, and_from, and_parts, false_from_ne_true}
use Rattle.std.proofs.lemmas.Option.{none-some, same_Some}
use Rattle.std.specs.List.{dedup}
use Rattle.std.specs.List.Sorted.{IsPermutation, IsSorted, IsStrictlyIncreasing}
use Rattle.std.specs.Ordering.{nat_cmp}
use Rattle.std.proofs.lemmas.List.Elements.{All-contains}
use Rattle.std.proofs.lemmas.List.Kept.{Contains-dedup_nat, Contains-from_dedup}
use Rattle.std.proofs.lemmas.List.Sorted.{IsPermutation-sym, Contains-permutation}
use Rattle.std.proofs.lemmas.Map.Keys.{IsStrictlyIncreasing-dedup}
use Rattle.fol_base.specs.Clause.{TreeLiteral, TreeClause}
use Rattle.fol_base.specs.WellFormed.{SymbolUse, are_literals_of}
use Rattle.fol_base.specs.Subsumption.{assertions, is_among}
use Rattle.kernel_steps.specs.Inference.{RewritesBy}
use Rattle.bank_clause.specs.Clause.{clause_at}
use Rattle.bank_clause.specs.declared.member.Member.{Member}
use Rattle.rewriting.specs.Units.{clause_numbered, is_kept, usable, usable_clause}
use Rattle.rewriting.specs.Redex.{AreNormal}
use Rattle.rewriting.specs.Searching.{IsFoundOf}
use Rattle.rewriting.specs.Laws.{AreWellFormed, MayRewrite}
use Rattle.rewriting.specs.Rewritable.{IsRewrittenBy}
use Rattle.bank_clause.specs.Members.{IsMemberOfUse, SomeMember, AreNumbersOf}
use Rattle.rewriting.specs.declared.searching.Found.{Found}
use Rattle.rewriting.proofs.AboutSearches.TryLemmas.{numbers-asserted}
use Rattle.rewriting.proofs.AboutRedexes.LawLemmas.{normal_clauses_stay, redexes_rewrite, redexes_give}
use Rattle.list_lemmas.proofs.Members.{contains-first, contains-none, first-or-later, contains-later}

-- the unit stands alone in the list
abbrev pub IsAlone : List Member → Member → Type 0
IsAlone ms unit = (n : ℕ) → clause_numbered n ms ≡ (if unit.number == n then Some unit.clause else None)

-- what may be used is the unit
record IsTheUnit (unit : Member) (out n : ℕ) (asserted : List ℕ) (d : TreeClause) : Type 0 where
  same_number : unit.number ≡ n
  same : clause_at unit.clause ≡ d
  another : out ≡ unit.number → ⊥
  among : is_among (assertions (clause_at unit.clause).names) asserted ≡ true

the-unit :
    (ms : List Member) (unit : Member) (out n : ℕ) (asserted : List ℕ) (d : TreeClause)
    → IsAlone ms unit → usable ms (Some out) asserted n ≡ Some d → IsTheUnit unit out n asserted d
the-unit ms unit out n asserted d alone there =
    ⊎_elim
    (λ yes.
    let at : usable_clause (Some out) asserted n unit.clause ≡ Some d =
    sym (ap (option_and_then (usable_clause (Some out) asserted n)) (alone n ∙ cond-true (unit.number == n) (Some unit.clause) None yes)) ∙ there in
    tests (eqb-true unit.number n yes)
    (is_kept (Some out) n && is_among (assertions (clause_at unit.clause).names) asserted) refl at)
    (λ no_it.
    absurd
    (none-some d
    (sym (ap (option_and_then (usable_clause (Some out) asserted n)) (alone n ∙ cond-false (unit.number == n) (Some unit.clause) None no_it)) ∙ there)))
    (cases_Bool (unit.number == n))
  where
    tests :
        unit.number ≡ n → (b : Bool) → (is_kept (Some out) n && is_among (assertions (clause_at unit.clause).names) asserted) ≡ b
        → (if b then Some (clause_at unit.clause) else None) ≡ Some d → IsTheUnit unit out n asserted d
    tests number false is h = absurd (none-some d h)
    tests number true is h =
        let both = and_parts (is_kept (Some out) n) (is_among (assertions (clause_at unit.clause).names) asserted) is in
        record {
          same_number = number;
          same = same_Some (clause_at unit.clause) d h;
          another = λ e. true≢false (sym both.0 ∙ ap not (eq-eqb n out (sym (e ∙ number))));
          among = both.1;
        }

usable-there :
    (ms : List Member) (unit : Member) (out : ℕ) (asserted : List ℕ)
    → IsAlone ms unit → (out ≡ unit.number → ⊥) → is_among (assertions (clause_at unit.clause).names) asserted ≡ true
    → usable ms (Some out) asserted unit.number ≡ Some (clause_at unit.clause)
usable-there ms unit out asserted alone another among =
    ap (option_and_then (usable_clause (Some out) asserted unit.number))
    (alone unit.number ∙ cond-true (unit.number == unit.number) (Some unit.clause) None (eq-eqb unit.number unit.number refl))
    ∙ cond-true (is_kept (Some out) unit.number && is_among (assertions (clause_at unit.clause).names) asserted) (Some (clause_at unit.clause)) None
    (and_from (is_kept (Some out) unit.number) _
    (ap not (false_from_ne_true (unit.number == out) (λ e. another (sym (eqb-true unit.number out e)))))
    among)

formed :
    (usage : SymbolUse) (ms : List Member) (unit m : Member) (asserted : List ℕ) → IsAlone ms unit → IsMemberOfUse usage unit → IsMemberOfUse usage m
    → AreWellFormed usage (usable ms (Some m.number) asserted) (clause_at m.clause)
formed usage ms unit m asserted alone of_unit of_member = (
  of_member,
  λ n d there.
      subst (λ (k : TreeClause). IsTrue (are_literals_of usage k.literals)) (the-unit ms unit m.number n asserted d alone there).same of_unit,
)

own-assertions : (m : Member) → assertions (clause_at m.clause).names ≡ m.clause.names
own-assertions m = numbers-asserted m.clause.names

pub found-rewritten :
    (usage : SymbolUse) (ms : List Member) (unit m : Member) (asserted : List ℕ) (f : Found)
    → IsAlone ms unit → asserted ≡ m.clause.names → IsMemberOfUse usage unit → IsMemberOfUse usage m
    → IsFoundOf (usable ms (Some m.number) asserted) (clause_at m.clause).literals f
    → IsRewrittenBy usage.is_predicate unit m
found-rewritten usage ms unit m asserted f alone own of_unit of_member found =
    let clauses : ℕ → Option TreeClause = usable ms (Some m.number) asserted in
    let may : MayRewrite clauses (assertions (clause_at m.clause).names) = λ n d there.
    let u = the-unit ms unit m.number n asserted d alone there in
    subst (λ (k : TreeClause). is_among (assertions k.names) (assertions (clause_at m.clause).names) ≡ true) u.same
    (ap (is_among (assertions (clause_at unit.clause).names)) (own-assertions m ∙ sym own) ∙ u.among) in
    let made = redexes_give clauses (clause_at m.clause) f found in
    let rewrites =
    redexes_rewrite usage clauses (clause_at m.clause) f found may (formed usage ms unit m asserted alone of_unit of_member) made.0 made.1 in
    let u = the-unit ms unit m.number f.rewrite.number asserted found.rewrite.unit alone found.rewrite.there in
    record {
      another = u.another;
      result = made.0;
      rewrites = subst (λ (k : TreeClause). RewritesBy usage.is_predicate k (clause_at m.clause) made.0) (sym u.same) rewrites;
    }

pub normal-stays :
    (usage : SymbolUse) (ms : List Member) (unit m : Member) (asserted : List ℕ)
    → IsAlone ms unit → asserted ≡ m.clause.names → IsMemberOfUse usage unit → IsMemberOfUse usage m
    → AreNormal (usable ms (Some m.number) asserted) (clause_at m.clause).literals
    → IsRewrittenBy usage.is_predicate unit m → ⊥
normal-stays usage ms unit m asserted alone own of_unit of_member normal r =
    normal_clauses_stay usage (usable ms (Some m.number) asserted) (clause_at m.clause) (formed usage ms unit m asserted alone of_unit of_member) normal
    unit.number (clause_at unit.clause) r.result
    (usable-there ms unit m.number asserted alone r.another
    (ap (is_among (assertions (clause_at unit.clause).names)) (own ∙ sym (own-assertions m)) ∙ r.rewrites.asserted))
    r.rewrites

-- ---- the list

-- the numbers of the members that satisfy the predicate, in their order
abbrev pub AreListed : (Member → Type 0) → List Member → List ℕ → Type 0
AreListed Holds [] [] = Unit {0}
AreListed Holds [] (n ∷ ns) = ⊥
AreListed Holds (m ∷ ms) [] = (Holds m → ⊥) × AreListed Holds ms []
AreListed Holds (m ∷ ms) (n ∷ ns) =
    ((Holds m → ⊥) × AreListed Holds ms (n ∷ ns)) ⊎ (Holds m × (n ≡ m.number) × AreListed Holds ms ns)

pub one-not :
    (Holds : Member → Type 0) (ms : List Member) (ns : List ℕ) (m : Member)
    → AreListed Holds ms ns → (Holds m → ⊥) → AreListed Holds (ms ++ m ∷ []) ns
one-not Holds [] [] m h refused = (refused, tt)
one-not Holds [] (n ∷ ns) m h refused = absurd h
one-not Holds (k ∷ ms) [] m h refused = (h.0, one-not Holds ms [] m h.1 refused)
one-not Holds (k ∷ ms) (n ∷ ns) m h refused =
    ⊎_elim
    (λ a. inl (a.0, one-not Holds ms (n ∷ ns) m a.1 refused))
    (λ b. inr (b.0, b.1, one-not Holds ms ns m b.2 refused))
    h

pub one-more :
    (Holds : Member → Type 0) (ms : List Member) (ns : List ℕ) (m : Member)
    → AreListed Holds ms ns → Holds m → AreListed Holds (ms ++ m ∷ []) (ns ++ m.number ∷ [])
one-more Holds [] [] m h held = inr (held, refl, tt)
one-more Holds [] (n ∷ ns) m h held = absurd h
one-more Holds (k ∷ ms) [] m h held = inl (h.0, one-more Holds ms [] m h.1 held)
one-more Holds (k ∷ ms) (n ∷ ns) m h held =
    ⊎_elim
    (λ a. inl (a.0, one-more Holds ms (n ∷ ns) m a.1 held))
    (λ b. inr (b.0, b.1, one-more Holds ms ns m b.2 held))
    h

-- ---- each once, rising

one-later : (Holds : Member → Type 0) (m : Member) (ms : List Member) (n : ℕ) → SomeMember Holds ms n → SomeMember Holds (m ∷ ms) n
one-later Holds m ms n s = record { member = s.member; there = contains-later m ms s.member s.there; does = s.does; number = s.number }

told : (Holds : Member → Type 0) (ms : List Member) (ns : List ℕ) → AreListed Holds ms ns → (n : ℕ) → Contains ns n → SomeMember Holds ms n
told Holds [] [] h n there = absurd (contains-none n there)
told Holds [] (k ∷ ns) h n there = absurd h
told Holds (m ∷ ms) [] h n there = absurd (contains-none n there)
told Holds (m ∷ ms) (k ∷ ns) h n there =
    ⊎_elim
    (λ a. one-later Holds m ms n (told Holds ms (k ∷ ns) a.1 n there))
    (λ b.
    ⊎_elim
    (λ e. record { member = m; there = contains-first m ms; does = b.0; number = sym b.1 ∙ e })
    (λ e. one-later Holds m ms n (told Holds ms ns b.2 n e))
    (first-or-later k ns n there))
    h

listed :
    (Holds : Member → Type 0) (ms : List Member) (ns : List ℕ)
    → AreListed Holds ms ns → (k : Member) → Contains ms k → Holds k → Contains ns k.number
listed Holds [] [] h k there holds = absurd (contains-none k there)
listed Holds [] (n ∷ ns) h k there holds = absurd h
listed Holds (m ∷ ms) [] h k there holds =
    ⊎_elim
    (λ e. absurd (h.0 (subst Holds (sym e) holds)))
    (λ e. listed Holds ms [] h.1 k e holds)
    (first-or-later m ms k there)
listed Holds (m ∷ ms) (n ∷ ns) h k there holds =
    ⊎_elim
    (λ a.
    ⊎_elim
    (λ e. absurd (a.0 (subst Holds (sym e) holds)))
    (λ e. listed Holds ms (n ∷ ns) a.1 k e holds)
    (first-or-later m ms k there))
    (λ b.
    ⊎_elim
    (λ e. subst (Contains (n ∷ ns)) (b.1 ∙ ap (λ (x : Member). x.number) e) (contains-first n ns))
    (λ e. contains-later n ns k.number (listed Holds ms ns b.2 k e holds))
    (first-or-later m ms k there))
    h

pub numbers-rising :
    (Holds : Member → Type 0) (ms : List Member) (ns sorted made : List ℕ)
    → AreListed Holds ms ns → IsPermutation ns sorted → IsSorted nat_cmp sorted → made ≡ dedup eqb sorted → AreNumbersOf Holds ms made
numbers-rising Holds ms ns sorted made h p s is = record {
  rise = subst IsStrictlyIncreasing (sym is) (IsStrictlyIncreasing-dedup sorted s);
  exact = λ n. (
    λ there.
        told Holds ms ns h n
        (Contains-permutation sorted ns n (IsPermutation-sym ns sorted p)
        (Contains-from_dedup eqb sorted n (subst (λ ks. Contains ks n) is there))),
    λ one.
        subst (λ ks. Contains ks n) (sym is)
        (Contains-dedup_nat sorted n
        (Contains-permutation ns sorted n p (subst (Contains ns) one.number (listed Holds ms ns h one.member one.there one.does)))),
  );
}

-- ---- from the calls

pub answer-is :
    (usage : SymbolUse) (ms : List Member) (unit m : Member) (asserted : List ℕ) (ls : List TreeLiteral) (o : Option Found) (answer : Bool)
    → IsAlone ms unit → asserted ≡ m.clause.names → ls ≡ (clause_at m.clause).literals
    → MatchOption o (AreNormal (usable ms (Some m.number) asserted) ls) (IsFoundOf (usable ms (Some m.number) asserted) ls)
    → answer ≡ is_some o → IsMemberOfUse usage unit → IsMemberOfUse usage m
    → MatchBool answer (IsRewrittenBy usage.is_predicate unit m) (IsRewrittenBy usage.is_predicate unit m → ⊥)
answer-is usage ms unit m asserted ls None answer alone own same found told of_unit of_member =
    subst (λ b. MatchBool b (IsRewrittenBy usage.is_predicate unit m) (IsRewrittenBy usage.is_predicate unit m → ⊥)) (sym told)
    (normal-stays usage ms unit m asserted alone own of_unit of_member (subst (λ ks. AreNormal (usable ms (Some m.number) asserted) ks) same found))
answer-is usage ms unit m asserted ls (Some f) answer alone own same found told of_unit of_member =
    subst (λ b. MatchBool b (IsRewrittenBy usage.is_predicate unit m) (IsRewrittenBy usage.is_predicate unit m → ⊥)) (sym told)
    (found-rewritten usage ms unit m asserted f alone own of_unit of_member
    (subst (λ ks. IsFoundOf (usable ms (Some m.number) asserted) ks f) same found))

pub one-told :
    (Holds : Member → Type 0) (ms : List Member) (old new : List ℕ) (m : Member) (answer : Bool)
    → AreListed Holds ms old → MatchBool answer (Holds m) (Holds m → ⊥) → new ≡ (if answer then old ++ m.number ∷ [] else old)
    → AreListed Holds (ms ++ m ∷ []) new
one-told Holds ms old new m true h told is = subst (λ ns. AreListed Holds (ms ++ m ∷ []) ns) (sym is) (one-more Holds ms old m h told)
one-told Holds ms old new m false h told is = subst (λ ns. AreListed Holds (ms ++ m ∷ []) ns) (sym is) (one-not Holds ms old m h told)

pub member-formed : (usage : SymbolUse) (ms read : List Member) (i : ℕ) (m : Member) → read ≡ ms → i < length read → m ≡ get_or read i m → All (IsMemberOfUse usage) ms → IsMemberOfUse usage m
member-formed usage ms read i m same less is all =
    All-contains (IsMemberOfUse usage) read m (subst (λ xs. All (IsMemberOfUse usage) xs) (sym same) all) (i, less, sym is)
