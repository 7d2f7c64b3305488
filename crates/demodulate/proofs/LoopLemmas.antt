-- The loop over reducing steps: what lasts, and that it ends.
use Rattle.std.proofs.Common.{◌≡◌, ℕ, ◌+◌, ◌<◌, ◌≤◌, List, Option, None, Some, refl, ap, sym, ◌∙◌, subst, ⊎_elim, arith}
use Rattle.std.specs.Prelude.{IsTrue}
use Rattle.plain_types.specs.declared.sequence.NameLit.{NameLit}
use Rattle.fol_base.specs.Clause.{TreeClause, clause_size}
use Rattle.fol_base.specs.Canonical.{IsCanonical}
use Rattle.fol_base.specs.Literal.{clause_of}
use Rattle.fol_base.specs.WellFormed.{SymbolUse}
use Rattle.fol_base.specs.declared.limits.TheConstants.{MOST_SYMBOLS}
use Rattle.kernel_steps.specs.Names.{are_sorted}
use Rattle.kernel_steps.specs.declared.step.Reduced.{Reduced}
use Rattle.bank_clause.specs.declared.member.Member.{Member}
use Rattle.reduced_clause.specs.Extending.{StepsGoOn}
use Rattle.demodulate.specs.Rank.{RanksKept, clause_rank, has_symbols_below}
use Rattle.demodulate.specs.Normal.{IsRewritten, kept}
use Rattle.demodulate.proofs.AboutSteps.BoundLemmas.{Below, bound_for, clause-below, members-below}
use Rattle.unit_cutting.specs.Fit.{GoesOnAlone, IsFit}
use Rattle.demodulate.specs.Reducing.{GoesFurther, IsFurther, IsIrreducibleBySteps, NoStepBy}
use Rattle.unit_cutting.specs.Cuts.{IsCutBySome}
use Rattle.demodulate.specs.UsableSteps.{IsStep, NoStep}
use Rattle.demodulate.specs.Usable.{AreFormed, AreOfClauses, without}
use Rattle.demodulate.proofs.ShorterLemmas.{Shortens, shorter-canonical, shorter-formed, shorter-names, shorter-passes, shorter-rank, shorter-size}
use Rattle.demodulate.proofs.StepLemmas.{equations-among, formed-equations, formed-unit, none-applies, shortens-alone, shortens-cut, unit-among}

-- the clause was reduced further, and its symbols are below the bound
pub record Lasts (equations units : List Member) (out : Option ℕ) (first now : Reduced) : Type 0 where
  pub further : IsFurther equations units out first now
  pub below : IsTrue (has_symbols_below (bound_for (clause_of first.clause) equations) (clause_of now.clause))

-- the size and the rank of a clause that is reduced
abbrev pub remaining : List Member → Reduced → Reduced → ℕ
remaining equations first now =
    clause_size (clause_of now.clause)
    + clause_rank (bound_for (clause_of first.clause) equations) (clause_size (clause_of first.clause)) (clause_of now.clause)

pub begins :
    (equations units : List Member) (out : Option ℕ) (first : Reduced) → IsCanonical (clause_of first.clause) → Lasts equations units out first first
begins equations units out first canonical = record {
  further = record {
    canonical = canonical;
    names = refl;
    size = omega arith;
    formed = λ usage formed. formed.clause;
    reduced = λ usage clauses formed are c reduced. reduced;
  };
  below = clause-below (clause_of first.clause) equations;
}

module _
    (law : StepsGoOn) (ranks : RanksKept) (equations units : List Member) (out : Option ℕ) (first old new : Reduced)
    (sorted : IsTrue (are_sorted (clause_of first.clause).names)) (small : clause_size (clause_of first.clause) ≤ MOST_SYMBOLS)
    (before : Lasts equations units out first old) where
  abbrev bound : ℕ
  bound = bound_for (clause_of first.clause) equations

  abbrev most : ℕ
  most = clause_size (clause_of first.clause)

  fit : IsFit (clause_of old.clause)
  fit = record {
    small = omega (arith, before.further.size, small);
    names = ap (λ (ns : List NameLit). are_sorted ns) before.further.names ∙ sorted;
  }

  formed-now : (usage : SymbolUse) → AreFormed usage equations units (clause_of first.clause) → AreFormed usage equations units (clause_of old.clause)
  formed-now usage formed = record {
    clause = before.further.formed usage formed;
    equations = formed.equations;
    units = formed.units;
  }

  abbrev Goes : Type 0
  Goes =
      (usage : SymbolUse) (clauses : ℕ → Option TreeClause)
      → AreFormed usage equations units (clause_of first.clause) → AreOfClauses clauses equations units
      → GoesFurther usage.is_predicate (without out clauses) old new

  abbrev Both : Type 0
  Both = Lasts equations units out first new × (remaining equations first new < remaining equations first old)

  by-shorter : Shortens (clause_of old.clause) (clause_of new.clause) → Goes → Both
  by-shorter s goes =
      let smaller = shorter-size (clause_of old.clause) (clause_of new.clause) s in
      let ranked = shorter-rank (clause_of old.clause) (clause_of new.clause) s ranks bound most in (
        record {
          further = record {
            canonical = shorter-canonical (clause_of old.clause) (clause_of new.clause) s;
            names = shorter-names (clause_of old.clause) (clause_of new.clause) s ∙ before.further.names;
            size = omega (arith, smaller, before.further.size);
            formed = λ usage formed.
                shorter-formed (clause_of old.clause) (clause_of new.clause) s usage (before.further.formed usage formed);
            reduced = λ usage clauses formed are c reduced.
                goes usage clauses formed are c (before.further.reduced usage clauses formed are c reduced);
          };
          below = shorter-passes (clause_of old.clause) (clause_of new.clause) s (Below bound) before.below;
        },
        omega (arith, smaller, ranked),
      )

  alone : GoesOnAlone old new → Both
  alone h =
      by-shorter (shortens-alone old new fit h)
      (λ usage clauses formed are c reduced.
      law usage.is_predicate (without out clauses) c None old new reduced (h usage.is_predicate (without out clauses) fit))

  cut : IsCutBySome units out old new → Both
  cut h =
      by-shorter (shortens-cut units out old new fit h)
      (λ usage clauses formed are c reduced.
      law usage.is_predicate (without out clauses) c (Some h.number) old new reduced
      (h.step.goes_on usage (without out clauses) h.low (unit-among clauses equations units out are h.number h.clause h.there h.kept)
      (formed-unit usage equations units (clause_of old.clause) (formed-now usage formed) h.number h.clause h.there) fit).goes_on)

  rewritten : IsRewritten (kept equations out) old new → Both
  rewritten h =
      let lower = h.lower bound most (omega arith) before.further.size (members-below (clause_of first.clause) equations out) before.below in (
        record {
          further = record {
            canonical = h.canonical;
            names = h.names ∙ before.further.names;
            size = omega (arith, h.size, before.further.size);
            formed = λ usage formed.
                (h.goes_on usage (kept equations out) (λ n d there. there)
                (formed-equations usage equations units out (clause_of old.clause) (formed-now usage formed))).1;
            reduced = λ usage clauses formed are c reduced.
                law usage.is_predicate (without out clauses) c (Some h.number) old new (before.further.reduced usage clauses formed are c reduced)
                (h.goes_on usage (without out clauses) (equations-among clauses equations units out are)
                (formed-equations usage equations units out (clause_of old.clause) (formed-now usage formed))).0;
          };
          below = lower.1;
        },
        omega (arith, h.size, lower.0),
      )

  pub stepped : IsStep equations units out old new → Both
  stepped step = ⊎_elim (λ h. alone h) (λ rest. ⊎_elim (λ h. rewritten h) (λ h. cut h) rest) step

  -- no step applies: the clause stays as it is
  pub ends : new ≡ old → NoStep equations units out (clause_of old.clause) → IsIrreducibleBySteps equations units out first new
  ends same none usage clauses formed are =
      let P : Reduced → Type 0 = λ made. NoStepBy usage.is_predicate (without out clauses) (clause_of made.clause) in
      subst P (sym same) (none-applies usage clauses equations units out (clause_of old.clause) (formed-now usage formed) are none)

pub stays : (equations units : List Member) (out : Option ℕ) (first old new : Reduced) → new ≡ old → Lasts equations units out first old
    → IsFurther equations units out first new
stays equations units out first old new same before =
    let P : Reduced → Type 0 = λ made. IsFurther equations units out first made in subst P (sym same) before.further
