-- From what the searches of units and of the other members find to whether a clause is subsumed.
use Rattle.std.proofs.Common.{◌≡◌, ℕ, ◌==◌, true, not, List, Option, None, Some, length, refl, ap, sym, ◌∙◌, subst, ⊎_elim}
use Rattle.std.specs.Prelude.{IsTrue}
use Rattle.std.proofs.lemmas.Bool.{cases_Bool, eq-eqb, eqb-true, false_from_ne_true, not_from_false, true≢false}
use Rattle.std.proofs.lemmas.Option.{none-some, same_Some}
use Rattle.fol_base.specs.Clause.{TreeClause}
use Rattle.fol_base.specs.Subsumption.{Subsumes}
use Rattle.fol_base.specs.WellFormed.{SymbolUse, are_literals_of}
use Rattle.bank_clause.specs.Clause.{clause_at}
use Rattle.bank_clause.specs.Members.{AreMembersOfUse}
use Rattle.bank_clause.specs.declared.member.Member.{Member}
use Rattle.rewriting.specs.Units.{clause_numbered, is_kept}
use Rattle.rewriting.proofs.AboutIndexes.NumberedLemmas.{from-map}
use Rattle.subsume.specs.Longer.{IsLongerSubsumer, IsSomeOrNone}
use Rattle.unit_cutting.specs.Subsuming.{IsSubsumerAt, IsSubsumerOrNone}
use Rattle.demodulate.specs.Subsuming.{IsSubsumedBySome}
use Rattle.demodulate.specs.Usable.{AreFormed, AreOfClauses, HasAll, IsMemberWith}
use Rattle.demodulate.proofs.StepLemmas.{formed-unit, unit-among, without-from, without-parts}

-- ---- the clause that is left out

-- a number that isn't left out is kept
kept-from : (out : Option ℕ) (n : ℕ) → (out ≡ Some n → ⊥) → is_kept out n ≡ true
kept-from None n other = refl
kept-from (Some m) n other =
    not_from_false (n == m)
    (false_from_ne_true (n == m) (λ e. other (ap (λ k. let o : Option ℕ = Some k in o) (sym (eqb-true n m e)))))

-- and one that is kept isn't left out
kept-other : (out : Option ℕ) (n : ℕ) → is_kept out n ≡ true → out ≡ Some n → ⊥
kept-other None n may same = none-some n same
kept-other (Some m) n may same =
    true≢false (sym may ∙ ap not (eq-eqb n m (sym (same_Some m n same))))

-- ---- what is found

module _ (equations units members : List Member) (out : Option ℕ) (c : TreeClause) where
  -- a unit
  pub by-unit : (n : ℕ) → IsSubsumerAt units out c n → IsSubsumedBySome equations units members out c (Some n)
  by-unit n at usage clauses formed used are all = record {
    clause = clause_at at.unit;
    there = unit-among clauses equations units out are n at.unit at.there at.kept;
    infers = at.subsumes usage (formed-unit usage equations units c formed n at.unit at.there);
  }

  -- another member
  abbrev pub IsLongerOrNone : Option ℕ → Type 0
  IsLongerOrNone found =
      (usage : SymbolUse) → IsTrue (are_literals_of usage c.literals) → AreMembersOfUse usage members
      → IsSomeOrNone (IsLongerSubsumer usage out c) members found

  by-longer : (n : ℕ) → IsLongerOrNone (Some n) → IsSubsumedBySome equations units members out c (Some n)
  by-longer n found usage clauses formed used are all =
      let some = found usage formed.clause used in
      let d = clause_at some.member.clause in
      record {
        clause = d;
        there =
            without-from out clauses n d
            (ap (is_kept out) (sym some.number) ∙ kept-from out some.member.number some.does.subsumer.other)
            ((all n d).0 (record { member = some.member; there = some.there; number = some.number; clause = refl }));
        infers = some.does.subsumer.subsumes;
      }

  -- or none does
  no-unit :
      (usage : SymbolUse) (clauses : ℕ → Option TreeClause) → AreFormed usage equations units c → AreOfClauses clauses equations units
      → IsSubsumerOrNone units out c None
      → (n : ℕ) (d : TreeClause) → clauses n ≡ Some d → is_kept out n ≡ true → length d.literals ≡ 1 → Subsumes usage.is_predicate d c → ⊥
  no-unit usage clauses formed are none n d there kept one subsumes =
      let found = from-map clause_at (clause_numbered n units) d ((are.units n d).1 (there, one)) in
      none n found.0 found.1 kept usage (formed-unit usage equations units c formed n found.0 found.1)
      (subst (λ (e : TreeClause). Subsumes usage.is_predicate e c) (sym found.2) subsumes)

  no-longer :
      (usage : SymbolUse) (clauses : ℕ → Option TreeClause) → AreFormed usage equations units c → AreMembersOfUse usage members → HasAll clauses members
      → IsLongerOrNone None
      → (n : ℕ) (d : TreeClause) → clauses n ≡ Some d → is_kept out n ≡ true → (length d.literals ≡ 1 → ⊥) → Subsumes usage.is_predicate d c → ⊥
  no-longer usage clauses formed used all none n d there kept several subsumes =
      let m : IsMemberWith members n d = (all n d).1 there in
      none usage formed.clause used m.member m.there (record {
        longer = λ one. several (ap (λ (e : TreeClause). length e.literals) (sym m.clause) ∙ one);
        subsumer = record {
          other = λ left. kept-other out n kept (left ∙ ap (λ k. let o : Option ℕ = Some k in o) m.number);
          subsumes = subst (λ (e : TreeClause). Subsumes usage.is_predicate e c) (sym m.clause) subsumes;
        };
      })

  by-none : IsSubsumerOrNone units out c None → IsLongerOrNone None → IsSubsumedBySome equations units members out c None
  by-none no_units no_longer usage clauses formed used are all some =
      let n : ℕ = some.holds.number in
      let d : TreeClause = some.clause in
      let parts = without-parts out clauses n d some.holds.there in
      ⊎_elim
      (λ e. no-unit usage clauses formed are no_units n d parts.1 parts.0 (eqb-true (length d.literals) 1 e) some.does)
      (λ e.
      no-longer usage clauses formed used all no_longer n d parts.1 parts.0 (λ one. true≢false (sym (eq-eqb (length d.literals) 1 one) ∙ e)) some.does)
      (cases_Bool (length d.literals == 1))

  pub by-rest : (found : Option ℕ) → IsSubsumerOrNone units out c None → IsLongerOrNone found → IsSubsumedBySome equations units members out c found
  by-rest None no_units longer = by-none no_units longer
  by-rest (Some n) no_units longer = by-longer n longer
