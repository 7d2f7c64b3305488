-- What is known of dropped conclusions.
use Rattle.std.proofs.Common.{◌≡◌, Bool, true, false, List, Option, None, Some, cond, nat_eq, refl, sym, ◌∙◌, subst}
use Rattle.std.specs.Prelude.{option_and_then, if◌then◌else◌}
use Rattle.std.proofs.lemmas.Option.{none-some, same_Some}
use Rattle.indexmap.specs.IndexMap.{get}
use Rattle.fol_base.specs.Clause.{TreeClause, clause_eq}
use Rattle.fol_base.specs.Literal.{clause_of}
use Rattle.fol_base.specs.declared.clause.Clause.{Clause}
use Rattle.kernel_steps.specs.declared.step.Step.{Step}
use Rattle.bank_clause.specs.declared.member.Member.{Member}
use Rattle.demodulate.specs.Simplified.{IsSimplified}
use Rattle.pool_history.specs.declared.batch.Fate.TheVariants.{Dropped as IsDropped}
use Rattle.pool_history.specs.declared.batch.Redundancy.{Redundancy}
use Rattle.pool_history.specs.declared.batch.Redundancy.TheVariants.{Tautology, Subsumed}
use Rattle.pool_history.proofs.AboutRecords.ItemLemmas.{clauses-equal}
use Rattle.given_work.specs.Dropped.{AreDropped, Knows, cause_if_same, cause_of, literals_hash, outcome_by}
use Rattle.given_work.specs.Meeting.{IsFateBy}
use Rattle.given_work.specs.declared.dropped.Dropped.{Dropped}
use Rattle.given_work.specs.declared.dropped.DroppedConclusions.{DroppedConclusions}

module _ (es us ms : List Member) where
  abbrev Goes : TreeClause → Redundancy → Type 0
  Goes c r = IsSimplified es us ms None c (outcome_by r)

  abbrev Rightly : Dropped → Type 0
  Rightly d = Goes (clause_of d.clause) d.cause

  pub known-more :
      (before now : DroppedConclusions) (clause : Clause) (cause : Redundancy)
      → Knows clause cause before now → AreDropped es us ms before → Goes (clause_of clause) cause → AreDropped es us ms now
  known-more before now clause cause knows all one hash d there =
      by (nat_eq (literals_hash 0 (clause_of clause).literals) hash) (sym (knows hash) ∙ there)
    where
      by : (b : Bool) → cond b (Some (record { clause = clause; cause = cause })) (get nat_eq before.known hash) ≡ Some d → Rightly d
      by true e = subst Rightly (same_Some (record { clause = clause; cause = cause }) d e) one
      by false e = all hash d e

  same-cause : (c : TreeClause) (d : Dropped) (r : Redundancy) → Rightly d → cause_if_same c d ≡ Some r → Goes c r
  same-cause c d r right is = by (clause_eq c (clause_of d.clause)) refl is
    where
      by : (b : Bool) → clause_eq c (clause_of d.clause) ≡ b → (if b then Some d.cause else None) ≡ Some r → Goes c r
      by true equal e =
          subst (λ (t : TreeClause). Goes t r) (sym (clauses-equal c (clause_of d.clause) equal))
          (subst (Goes (clause_of d.clause)) (same_Some d.cause r e) right)
      by false equal e = absurd (none-some r e)

  -- the cause that is known of an equal conclusion is right
  pub cause-right : (dropped : DroppedConclusions) (c : TreeClause) (r : Redundancy) → AreDropped es us ms dropped → cause_of dropped c ≡ Some r → Goes c r
  cause-right dropped c r all is = by (get nat_eq dropped.known (literals_hash 0 c.literals)) refl is
    where
      by : (o : Option Dropped) → get nat_eq dropped.known (literals_hash 0 c.literals) ≡ o → option_and_then (cause_if_same c) o ≡ Some r → Goes c r
      by None none e = absurd (none-some r e)
      by (Some d) there e = same-cause c d r (all (literals_hash 0 c.literals) d there) e

-- what becomes of it
pub dropped-fate : (split : Bool) (s : Step) (clause : Clause) (r : Redundancy) → IsFateBy split s clause (outcome_by r) (IsDropped r)
dropped-fate split s clause Tautology = refl
dropped-fate split s clause (Subsumed n) = refl
