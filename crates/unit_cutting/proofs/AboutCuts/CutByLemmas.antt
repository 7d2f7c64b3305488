-- A clause that is reduced by a cut.
use Rattle.std.proofs.Common.{◌≡◌, ℕ, ◌<◌, ◌≤◌, Bool, true, Option, Some, [], ◌∷◌, refl, ap, sym, ◌∙◌, subst, arith}
use Rattle.fol_base.specs.Clause.{TreeClause}
use Rattle.fol_base.specs.Canonical.{distinct}
use Rattle.fol_base.specs.Literal.{clause_of}
use Rattle.fol_base.specs.WellFormed.{SymbolUse}
use Rattle.kernel_steps.specs.Lines.{clauses_named}
use Rattle.kernel_steps.specs.declared.step.TheConstants.{CLAUSE_NUMBERS}
use Rattle.kernel_steps.specs.declared.step.Reduced.{Reduced}
use Rattle.bank_clause.specs.Clause.{clause_at}
use Rattle.bank_clause.specs.declared.member.Member.{Member}
use Rattle.reduced_clause.specs.Reduced.{IsReduced}
use Rattle.reduced_clause.specs.Extending.{AreLinesOfMove, IsExtended, last_number, noted}
use Rattle.reduced_clause.proofs.ExtendingLemmas.{steps_go_on}
use Rattle.subsume.specs.Target.{AreOfUse}
use Rattle.unit_cutting.specs.CutSteps.{AreCutOrNone, CutsTo, GoesOnByCut, IsCutStep, IsCutUnit}
use Rattle.unit_cutting.specs.Fit.{IsFit, LosesLiteral}
use Rattle.unit_cutting.specs.declared.cut_lines.CutLines.{CutLines}

pub went-on :
    (unit : Member) (old new : Reduced) (lines : CutLines) (number : ℕ) → number ≡ last_number old.lines
    → AreCutOrNone unit (clause_of old.clause) number (Some lines)
    → IsExtended old (Some unit.number) (lines.first ∷ lines.second ∷ []) new → IsCutStep unit old new true
went-on unit old new lines number last are extended = record {
  loses = λ fit. subst (LosesLiteral (clause_of old.clause)) (sym extended.clause) (are.loses fit);
  goes_on = goes;
}
  where
    goes :
        (usage : SymbolUse) (clauses : ℕ → Option TreeClause)
        → unit.number < CLAUSE_NUMBERS → clauses unit.number ≡ Some (clause_at unit.clause)
        → AreOfUse usage (clause_at unit.clause) (clause_of old.clause) → IsFit (clause_of old.clause)
        → GoesOnByCut usage.is_predicate clauses unit old new
    goes usage clauses low there wf fit =
        let past : CLAUSE_NUMBERS ≤ number = omega (arith, last) in
        let made = are.makes usage clauses low there wf fit past in
        record {
          goes_on = record {
            move = record { by = Some unit.number; gives = clause_of lines.second.clause };
            lines = lines.first ∷ lines.second ∷ [];
            of_unit = refl;
            makes =
                subst
                (λ n. AreLinesOfMove usage.is_predicate clauses (clause_of old.clause) n (record { by = Some unit.number; gives = clause_of lines.second.clause })
                (lines.first ∷ lines.second ∷ [])) last made.makes;
            extended = extended;
          };
          cuts = subst (CutsTo usage.is_predicate (clause_at unit.clause) (clause_of old.clause)) (sym extended.clause) made.cuts;
        }

pub cut-once :
    (unit : Member) (c : TreeClause) (old new : Reduced)
    → ((is_predicate : ℕ → Bool) (clauses : ℕ → Option TreeClause) → IsReduced is_predicate clauses c old)
    → clause_of old.clause ≡ c → old.lines ≡ [] → IsCutStep unit old new true → IsCutUnit unit c (Some new)
cut-once unit c old new reduced same no_lines step usage clauses low there wf fit =
    let went =
    step.goes_on usage clauses low there (subst (AreOfUse usage (clause_at unit.clause)) (sym same) wf) (subst IsFit (sym same) fit) in
    let it = reduced usage.is_predicate clauses in
    let none : old.used ≡ [] = it.used ∙ ap (λ ls. distinct (clauses_named ls)) no_lines in
    record {
      reduced = steps_go_on usage.is_predicate clauses c (Some unit.number) old new it went.goes_on;
      used = went.goes_on.extended.used ∙ ap (noted (Some unit.number)) none;
      cuts = subst (λ d. CutsTo usage.is_predicate (clause_at unit.clause) d (clause_of new.clause)) same went.cuts;
    }
