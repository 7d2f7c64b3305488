-- From a reduced clause to what becomes of one that is simplified.
use Rattle.std.proofs.Common.{◌≡◌, ℕ, Bool, true, false, List, [], Option, None, Some, refl, ap, sym, ◌∙◌, subst, arith}
use Rattle.fol_base.specs.Clause.{TreeClause, clause_size}
use Rattle.fol_base.specs.Literal.{clause_of}
use Rattle.fol_base.specs.WellFormed.{SymbolUse}
use Rattle.kernel_steps.specs.Inference.{is_tautology}
use Rattle.kernel_steps.specs.declared.step.Reduced.{Reduced}
use Rattle.bank_clause.specs.declared.member.Member.{Member}
use Rattle.reduced_clause.specs.Reduced.{IsReduced}
use Rattle.demodulate.specs.Reducing.{IsFurther, IsIrreducibleBySteps}
use Rattle.demodulate.specs.Simplified.{IsSimplified, KeepsForm, LeadsTo}
use Rattle.demodulate.specs.Subsuming.{IsSubsumedBySome}
use Rattle.demodulate.specs.Usable.{AreFormed, AreOfClauses, without}
use Rattle.demodulate.specs.declared.simplifying.Simplified.TheVariants as outcome

-- ---- the outcome

pub already :
    (equations units members : List Member) (out : Option ℕ) (c : TreeClause) → is_tautology c ≡ true
    → IsSimplified equations units members out c outcome.Tautology
already equations units members out c tautology usage clauses formed used are all = record {
  result = c;
  leads = record { moves = []; are_moves = tt; ends = refl };
  tautology = tautology;
}

module _
    (equations units members : List Member) (out : Option ℕ) (c : TreeClause) (first r : Reduced) (same : clause_of first.clause ≡ c)
    (starts : (is_predicate : ℕ → Bool) (clauses : ℕ → Option TreeClause) → IsReduced is_predicate clauses c first)
    (further : IsFurther equations units out first r) where
  formed-first : (usage : SymbolUse) → AreFormed usage equations units c → AreFormed usage equations units (clause_of first.clause)
  formed-first usage formed = subst (λ (d : TreeClause). AreFormed usage equations units d) (sym same) formed

  reduced-to :
      (usage : SymbolUse) (clauses : ℕ → Option TreeClause) → AreFormed usage equations units c → AreOfClauses clauses equations units
      → IsReduced usage.is_predicate (without out clauses) c r
  reduced-to usage clauses formed are =
      further.reduced usage clauses (formed-first usage formed) are c (starts usage.is_predicate (without out clauses))

  pub keeps-form : KeepsForm c (clause_of r.clause)
  keeps-form = record {
    canonical = further.canonical;
    names = further.names ∙ ap (λ (d : TreeClause). d.names) same;
    size = omega (arith, further.size, ap clause_size same);
  }

  leads-to :
      (usage : SymbolUse) (clauses : ℕ → Option TreeClause) → AreFormed usage equations units c → AreOfClauses clauses equations units
      → LeadsTo usage.is_predicate (without out clauses) c (clause_of r.clause)
  leads-to usage clauses formed are =
      let made = reduced-to usage clauses formed are in record { moves = made.moves; are_moves = made.moved; ends = sym made.moved_to }

  pub becomes-tautology : is_tautology (clause_of r.clause) ≡ true → IsSimplified equations units members out c outcome.Tautology
  becomes-tautology tautology usage clauses formed used are all = record {
    result = clause_of r.clause;
    leads = leads-to usage clauses formed are;
    tautology = tautology;
  }

  -- the result, together with the sets
  formed-result : (usage : SymbolUse) → AreFormed usage equations units c → AreFormed usage equations units (clause_of r.clause)
  formed-result usage formed = record {
    clause = further.formed usage (formed-first usage formed);
    equations = formed.equations;
    units = formed.units;
  }

  pub is-subsumed :
      (n : ℕ) → IsSubsumedBySome equations units members out (clause_of r.clause) (Some n) → IsSimplified equations units members out c (outcome.Subsumed n)
  is-subsumed n answers usage clauses formed used are all =
      let found = answers usage clauses (formed-result usage formed) used are all in
      record {
        result = clause_of r.clause;
        leads = leads-to usage clauses formed are;
        by = found.clause;
        there = found.there;
        subsumes = found.infers;
      }

  pub is-irreducible :
      IsIrreducibleBySteps equations units out first r → is_tautology (clause_of r.clause) ≡ false
      → IsSubsumedBySome equations units members out (clause_of r.clause) None
      → IsSimplified equations units members out c (outcome.Reduced r)
  is-irreducible none no_tautology answers usage clauses formed used are all = (
    reduced-to usage clauses formed are,
    record {
      no_step = none usage clauses (formed-first usage formed) are;
      no_tautology = no_tautology;
      not_subsumed = answers usage clauses (formed-result usage formed) used are all;
    },
  )
