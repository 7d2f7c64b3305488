-- What a list of members tells of a job, and its sets with it.
use Rattle.std.proofs.Common.{◌≡◌, ℕ, ◌<◌, ◌==◌, true, List, [], ◌∷◌, Some, None, refl, ap, sym, ◌∙◌, subst, ⊎_elim}
use Rattle.std.specs.Prelude.{All, Contains, option_map}
use Rattle.std.proofs.lemmas.Bool.{cond-true, or_cases, or_left, or_right, eqb-true, eq-eqb, true≢false}
use Rattle.std.proofs.lemmas.List.Elements.{All-contains}
use Rattle.std.proofs.lemmas.Option.{same_Some}
use Rattle.fol_base.specs.Clause.{TreeClause}
use Rattle.fol_base.specs.WellFormed.{SymbolUse}
use Rattle.fol_base.proofs.WorkedExamples.TestLemmas.{if_some, option_map-some}
use Rattle.kernel_steps.specs.Split.{has_number}
use Rattle.kernel_steps.specs.declared.step.TheConstants.{CLAUSE_NUMBERS}
use Rattle.bank_clause.specs.Clause.{AreMembersOf, IsMemberOf, clause_at}
use Rattle.bank_clause.specs.declared.member.Member.{Member}
use Rattle.term_bank.specs.declared.bank.Bank.{Bank}
use Rattle.rewriting.specs.Units.{IsUnit, clause_numbered}
use Rattle.subsume.specs.Members.{numbers_of}
use Rattle.unit_cutting.specs.Indexed.{HasOneLiteral}
use Rattle.demodulate.specs.Usable.{HasAll, HasNumbered, IsMemberWith}
use Rattle.pool_history.specs.Record.{GivenJob}
use Rattle.pool_history.specs.Reduction.{Lookup}
use Rattle.pool_history.specs.Wholeness.{IsWhole}
use Rattle.pool_history.specs.Batches.{is_told}
use Rattle.given_work.specs.Sets.{AreSetsOf, FindsThose, HasMembers}
use Rattle.given_work.specs.Telling.{AreSetsOfBank, AreToldSets, Tells, told_of}
use Rattle.given_work.specs.declared.sets.Sets.{Sets}
use Rattle.given_work.proofs.AboutBatches.Justifiers.{all-from}
use Rattle.given_work.proofs.AboutIndexes.Slots.{Contains-cons_cases, Contains-here, Contains-later, Contains-none}

-- ---- members by their numbers

pub numbered-member : (ms : List Member) (n : ℕ) → has_number n (numbers_of ms) ≡ true → (m : Member) × Contains ms m × (m.number ≡ n)
numbered-member [] n h = absurd (true≢false (sym h))
numbered-member (m ∷ ms) n h =
    ⊎_elim
    (λ here. (m, Contains-here m ms, sym (eqb-true n m.number here)))
    (λ later. let found = numbered-member ms n later in (found.0, Contains-later m found.0 ms found.1, found.2))
    (or_cases (n == m.number) (has_number n (numbers_of ms)) h)

pub member-numbered : (ms : List Member) (m : Member) → Contains ms m → has_number m.number (numbers_of ms) ≡ true
member-numbered [] m h = absurd (Contains-none m h)
member-numbered (k ∷ ms) m h =
    ⊎_elim
    (λ here. or_left (m.number == k.number) (has_number m.number (numbers_of ms)) (eq-eqb m.number k.number (ap (λ (l : Member). l.number) (sym here))))
    (λ later. or_right (m.number == k.number) (has_number m.number (numbers_of ms)) (member-numbered ms m later))
    (Contains-cons_cases k m ms h)

-- ---- told clauses

module _ (usage : SymbolUse) (clauses : Lookup) (j : GivenJob) (ms : List Member) (tells : Tells usage clauses j ms) where
  pub member-told : (m : Member) → Contains ms m → told_of clauses j m.number ≡ Some (clause_at m.clause)
  member-told m there =
      cond-true (is_told j m.number) (clauses m.number) None (ap (has_number m.number) (sym tells.numbers) ∙ member-numbered ms m there)
      ∙ All-contains (λ (k : Member). clauses k.number ≡ Some (clause_at k.clause)) ms m tells.looked_up there

  pub told-member : (n : ℕ) (c : TreeClause) → told_of clauses j n ≡ Some c → IsMemberWith ms n c
  told-member n c h =
      let parts = if_some (is_told j n) (clauses n) c h in
      let found = numbered-member ms n (ap (has_number n) tells.numbers ∙ parts.0) in
      record {
        member = found.0;
        there = found.1;
        number = found.2;
        clause =
            same_Some (clause_at (found.0).clause) c
            (sym (All-contains (λ (k : Member). clauses k.number ≡ Some (clause_at k.clause)) ms found.0 tells.looked_up found.1)
            ∙ ap clauses found.2 ∙ parts.1);
      }

  pub whole-told : (n : ℕ) (c : TreeClause) → told_of clauses j n ≡ Some c → IsWhole usage tells.parts c
  whole-told n c h =
      let at = told-member n c h in
      subst (IsWhole usage tells.parts) at.clause (All-contains (λ (k : Member). IsWhole usage tells.parts (clause_at k.clause)) ms at.member tells.whole at.there)

  with-told : (m : Member) (n : ℕ) (c : TreeClause) → Contains ms m → m.number ≡ n → clause_at m.clause ≡ c → told_of clauses j n ≡ Some c
  with-told m n c there number clause = ap (told_of clauses j) (sym number) ∙ member-told m there ∙ ap Some clause

  those-told :
      (Fits : TreeClause → Type 0) (found : List Member) → FindsThose Fits ms found → HasNumbered Fits (told_of clauses j) found
  those-told Fits found finds n c = (
    (λ h.
        option_map-some clause_at (clause_numbered n found) c h λ u at is.
        let m : Member = record { number = n; clause = u } in
        let there = (finds m).0 at in
        (with-told m n c there.0 refl is, subst Fits is there.1)),
    (λ h.
        let at = told-member n c h.0 in
        let fits = (finds at.member).1 (at.there, subst Fits (sym at.clause) h.1) in
        ap (λ k. option_map clause_at (clause_numbered k found)) (sym at.number) ∙ ap (option_map clause_at) fits ∙ ap Some at.clause),
  )

  members-told : (ss : List Member) → HasMembers ms ss → HasAll (told_of clauses j) ss
  members-told ss has n c = (
    (λ at. with-told at.member n c ((has at.member).0 at.there) at.number at.clause),
    (λ h.
        let at = told-member n c h in
        record { member = at.member; there = (has at.member).1 at.there; number = at.number; clause = at.clause }),
  )

  pub sets-told :
      (sets : Sets) → AreSetsOf ms sets → All (λ (m : Member). m.number < CLAUSE_NUMBERS) ms
      → AreToldSets usage clauses j sets.equations sets.units sets.subsumers
  sets-told sets are numbered = record {
    parts = tells.parts;
    whole = whole-told;
    numbered = λ n c h.
        let at = told-member n c h in
        subst (λ k. k < CLAUSE_NUMBERS) at.number (All-contains (λ (m : Member). m.number < CLAUSE_NUMBERS) ms at.member numbered at.there);
    of_clauses = record { equations = those-told IsUnit sets.equations are.equations; units = those-told HasOneLiteral sets.units are.units };
    has_all = members-told sets.subsumers are.subsumers;
  }

-- ---- clauses of the bank

pub sets-of-bank :
    (bank : Bank) (ms : List Member) (sets : Sets) → AreMembersOf bank ms → AreSetsOf ms sets
    → AreSetsOfBank bank sets.equations sets.units sets.subsumers
sets-of-bank bank ms sets of_bank are = record {
  equations = λ n u found.
      let m : Member = record { number = n; clause = u } in
      All-contains (IsMemberOf bank) ms m of_bank ((are.equations m).0 found).0;
  units = λ n u found.
      let m : Member = record { number = n; clause = u } in
      All-contains (IsMemberOf bank) ms m of_bank ((are.units m).0 found).0;
  members = all-from (IsMemberOf bank) sets.subsumers λ m there. All-contains (IsMemberOf bank) ms m of_bank ((are.subsumers m).0 there);
}
