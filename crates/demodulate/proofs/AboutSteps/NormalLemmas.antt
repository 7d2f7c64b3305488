-- The loop to the normal form: what lasts, and that it ends.
use Rattle.std.proofs.Common.{◌≡◌, ℕ, ◌<◌, ◌≤◌, Bool, true, false, List, [], ◌∷◌, ◌++◌, refl, ap, sym, ◌∙◌, subst, arith}
use Rattle.std.specs.Prelude.{Option, Some, IsTrue, MatchBool}
use Rattle.fol_base.specs.Clause.{TreeClause, clause_size}
use Rattle.fol_base.specs.Canonical.{IsCanonical}
use Rattle.fol_base.specs.Literal.{clause_of}
use Rattle.fol_base.specs.WellFormed.{SymbolUse}
use Rattle.kernel_steps.specs.declared.step.Reduced.{Reduced}
use Rattle.bank_clause.specs.declared.member.Member.{Member}
use Rattle.reduced_clause.specs.Reduced.{IsReduced}
use Rattle.reduced_clause.specs.Extending.{StepsGoOn}
use Rattle.rewriting.specs.Laws.{AreWellFormed}
use Rattle.demodulate.specs.Rank.{clause_rank, has_symbols_below}
use Rattle.demodulate.specs.Normal.{kept, AreSomeOf, IsRewrittenBySome, RewritesThrough, IsRewritten, IsLeft, IsNormalForm}
use Rattle.demodulate.proofs.AboutSteps.BoundLemmas.{bound_for, literals-below, members-below}

-- ---- what lasts

pub record Lasts (ms : List Member) (out : Option ℕ) (c : TreeClause) (made : Reduced) : Type 0 where
  pub canonical : IsCanonical (clause_of made.clause)
  pub names : (clause_of made.clause).names ≡ c.names
  pub size : clause_size (clause_of made.clause) ≤ clause_size c
  pub below : IsTrue (has_symbols_below (bound_for c ms) (clause_of made.clause))
  pub reduced :
      (usage : SymbolUse) (all : ℕ → Option TreeClause) → AreSomeOf (kept ms out) all → AreWellFormed usage (kept ms out) c
      → IsReduced usage.is_predicate all c made
  pub alone :
      (usage : SymbolUse)
      → AreWellFormed usage (kept ms out) c → (through : List TreeClause) × RewritesThrough usage.is_predicate (kept ms out) c through (clause_of made.clause)
  pub formed : (usage : SymbolUse) → AreWellFormed usage (kept ms out) c → AreWellFormed usage (kept ms out) (clause_of made.clause)

-- one rewrite more
rewrites-on :
    (p : ℕ → Bool) (clauses : ℕ → Option TreeClause) (c e d : TreeClause) (through : List TreeClause)
    → RewritesThrough p clauses c through e → IsRewrittenBySome p clauses e d → RewritesThrough p clauses c (through ++ d ∷ []) d
rewrites-on p clauses c e d [] same by = (subst (λ (k : TreeClause). IsRewrittenBySome p clauses k d) same by, refl)
rewrites-on p clauses c e d (f ∷ fs) h by = (h.0, rewrites-on p clauses f e d fs h.1 by)

pub begins :
    (ms : List Member) (out : Option ℕ) (c : TreeClause) (made : Reduced)
    → IsCanonical c → ((p : ℕ → Bool) (all : ℕ → Option TreeClause) → IsReduced p all c made) → clause_of made.clause ≡ c
    → Lasts ms out c made
begins ms out c made canonical reduced same = record {
  canonical = subst (λ (d : TreeClause). IsCanonical d) (sym same) canonical;
  names = ap (λ (d : TreeClause). d.names) same;
  size = omega (arith, ap clause_size same);
  below =
      ap (has_symbols_below (bound_for c ms)) same ∙ literals-below (bound_for c ms) c.literals (omega arith);
  reduced = λ usage all some formed. reduced usage.is_predicate all;
  alone = λ usage formed. ([], same);
  formed = λ usage formed. subst (λ (d : TreeClause). AreWellFormed usage (kept ms out) d) (sym same) formed;
}

pub goes_on :
    (law : StepsGoOn) (ms : List Member) (out : Option ℕ) (c : TreeClause) (old new : Reduced)
    → Lasts ms out c old → IsRewritten (kept ms out) old new → Lasts ms out c new
goes_on law ms out c old new before step = record {
  canonical = step.canonical;
  names = step.names ∙ before.names;
  size = omega (arith, step.size, before.size);
  below = (step.lower (bound_for c ms) (clause_size c) (omega arith) before.size (members-below c ms out) before.below).1;
  reduced = λ usage all some formed.
      law usage.is_predicate all c (Some step.number) old new (before.reduced usage all some formed)
      (step.goes_on usage all some (before.formed usage formed)).0;
  alone = λ usage formed.
      let rewritten = before.alone usage formed in
      let by : IsRewrittenBySome usage.is_predicate (kept ms out) (clause_of old.clause) (clause_of new.clause) = record {
        number = step.number;
        unit = step.unit;
        there = step.there;
        rewrites = step.rewrites usage (before.formed usage formed);
      } in (
        rewritten.0 ++ clause_of new.clause ∷ [],
        rewrites-on usage.is_predicate (kept ms out) c (clause_of old.clause) (clause_of new.clause) rewritten.0 rewritten.1 by,
      );
  formed = λ usage formed.
      ((step.goes_on usage (kept ms out) (λ n d h. h) (before.formed usage formed)).1, formed.1);
}

pub ranks_lower :
    (ms : List Member) (out : Option ℕ) (c : TreeClause) (old new : Reduced)
    → Lasts ms out c old → IsRewritten (kept ms out) old new
    → clause_rank (bound_for c ms) (clause_size c) (clause_of new.clause) < clause_rank (bound_for c ms) (clause_size c) (clause_of old.clause)
ranks_lower ms out c old new before step =
    (step.lower (bound_for c ms) (clause_size c) (omega arith) before.size (members-below c ms out) before.below).0

pub ends :
    (ms : List Member) (out : Option ℕ) (c : TreeClause) (old new : Reduced)
    → Lasts ms out c old → IsLeft (kept ms out) old new → IsNormalForm (kept ms out) c new
ends ms out c old new before left =
    let P : Reduced → Type 0 = λ made. IsNormalForm (kept ms out) c made in
    subst P (sym left.same)
    (record {
      canonical = before.canonical;
      names = before.names;
      size = before.size;
      reduced = before.reduced;
      alone = before.alone;
      normal = λ usage formed. left.normal usage (before.formed usage formed);
    })

-- ---- answers

pub held : (P Q : Type 0) (b : Bool) → MatchBool b P Q → b ≡ true → P
held P Q b h is = subst (λ a. MatchBool a P Q) is h

pub refused : (P Q : Type 0) (b : Bool) → MatchBool b P Q → b ≡ false → Q
refused P Q b h is = subst (λ a. MatchBool a P Q) is h
