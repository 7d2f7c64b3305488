-- Single steps: what they do to the clause, and what no step means.
use Rattle.std.proofs.Common.{◌≡◌, ◌⊎◌, ℕ, Bool, true, false, List, [], ◌∷◌, length, Option, None, Some, refl, ap, sym, ◌∙◌, subst, inr, ⊎_elim}
use Rattle.std.specs.Prelude.{MatchBool, option_map, remove, if◌then◌else◌}
use Rattle.std.proofs.lemmas.Bool.{cond-true}
use Rattle.std.proofs.lemmas.Option.{none-some, same_Some}
use Rattle.fol_base.specs.Clause.{TreeLiteral, TreeClause, literal_instance}
use Rattle.fol_base.specs.Ground.{literals_instance}
use Rattle.fol_base.specs.Literal.{clause_of}
use Rattle.fol_base.specs.Rules.{superposed}
use Rattle.fol_base.specs.WellFormed.{SymbolUse, are_literals_of}
use Rattle.fol_base.proofs.AboutClauses.RuleLemmas.{resolved-parts, merged-parts, superposed-parts, superposed_literal-parts}
use Rattle.kernel_steps.specs.Inference.{CutsBy, DropsTrivial, MergesEqual, RewritesBy}
use Rattle.kernel_steps.specs.Moves.{IsMove}
use Rattle.kernel_steps.specs.declared.step.Reduced.{Reduced}
use Rattle.bank_clause.specs.Clause.{clause_at}
use Rattle.bank_clause.specs.declared.clause.BankClause.{BankClause}
use Rattle.bank_clause.specs.declared.member.Member.{Member}
use Rattle.rewriting.specs.Laws.{AreWellFormed, NoneRewrites}
use Rattle.rewriting.specs.Units.{IsUnit, clause_numbered, is_kept}
use Rattle.rewriting.proofs.AboutIndexes.NumberedLemmas.{from-map}
use Rattle.subsume.specs.Target.{AreOfUse}
use Rattle.demodulate.specs.Normal.{AreSomeOf, kept}
use Rattle.demodulate.proofs.AboutSteps.BoundLemmas.{kept-there}
use Rattle.unit_cutting.specs.Fit.{GoesOnAlone, HasNoEqual, HasNoTrivial, IsFit}
use Rattle.demodulate.specs.Reducing.{NoStepBy}
use Rattle.unit_cutting.specs.Cuts.{IsCutBySome, IsCutOrNone, NoneCuts}
use Rattle.demodulate.specs.UsableSteps.{IsDone, IsStep, NoStep}
use Rattle.demodulate.specs.Usable.{AreFormed, AreOfClauses, IsAmong, without}
use Rattle.demodulate.proofs.ShorterLemmas.{Shortens}

-- ---- clauses that may be used

pub without-parts :
    (out : Option ℕ) (clauses : ℕ → Option TreeClause) (n : ℕ) (c : TreeClause)
    → without out clauses n ≡ Some c → (is_kept out n ≡ true) × (clauses n ≡ Some c)
without-parts out clauses n c h = from (is_kept out n) refl h
  where
    from : (k : Bool) → is_kept out n ≡ k → (if k then clauses n else None) ≡ Some c → (is_kept out n ≡ true) × (clauses n ≡ Some c)
    from true may e = (may, e)
    from false may e = absurd (none-some c e)

pub without-from :
    (out : Option ℕ) (clauses : ℕ → Option TreeClause) (n : ℕ) (c : TreeClause)
    → is_kept out n ≡ true → clauses n ≡ Some c → without out clauses n ≡ Some c
without-from out clauses n c may h = cond-true (is_kept out n) (clauses n) None may ∙ h

pub equations-among :
    (clauses : ℕ → Option TreeClause) (equations units : List Member) (out : Option ℕ)
    → AreOfClauses clauses equations units → AreSomeOf (kept equations out) (without out clauses)
equations-among clauses equations units out are n c h =
    let found = kept-there equations out n c h in
    without-from out clauses n c found.0
    ((are.equations n c).0 (ap (option_map clause_at) found.1.1 ∙ ap (λ (d : TreeClause). let o : Option TreeClause = Some d in o) found.1.2)).0

pub unit-among :
    (clauses : ℕ → Option TreeClause) (equations units : List Member) (out : Option ℕ)
    → AreOfClauses clauses equations units → (n : ℕ) (u : BankClause) → clause_numbered n units ≡ Some u → is_kept out n ≡ true
    → without out clauses n ≡ Some (clause_at u)
unit-among clauses equations units out are n u there may =
    without-from out clauses n (clause_at u) may ((are.units n (clause_at u)).0 (ap (option_map clause_at) there)).0

-- ---- well-formed clauses

pub formed-equations :
    (usage : SymbolUse) (equations units : List Member) (out : Option ℕ) (c : TreeClause)
    → AreFormed usage equations units c → AreWellFormed usage (kept equations out) c
formed-equations usage equations units out c formed = (
  formed.clause,
  λ n unit h.
      let found = (kept-there equations out n unit h).1 in
      ap (λ (d : TreeClause). are_literals_of usage d.literals) (sym found.2) ∙ formed.equations n found.0 found.1,
)

pub formed-unit :
    (usage : SymbolUse) (equations units : List Member) (c : TreeClause)
    → AreFormed usage equations units c → (n : ℕ) (u : BankClause) → clause_numbered n units ≡ Some u → AreOfUse usage (clause_at u) c
formed-unit usage equations units c formed n u there = record { first = formed.units n u there; second = formed.clause }

-- ---- a literal goes

pub shortens-alone : (old new : Reduced) → IsFit (clause_of old.clause) → GoesOnAlone old new → Shortens (clause_of old.clause) (clause_of new.clause)
shortens-alone old new fit alone =
    let g = alone (λ f. false) (λ n. None) fit in
    let made = g.makes.moved in
    let c : TreeClause = clause_of old.clause in
    let is = g.extended.clause ∙ sym g.makes.ends ∙ made.canonical in
    let step : DropsTrivial c made.result ⊎ MergesEqual c made.result =
    subst (λ by. IsMove (λ f. false) (λ n. None) c by made.result) g.of_unit made.step in
    ⊎_elim
    (λ (drops : DropsTrivial c made.result).
    let parts = resolved-parts c.literals drops.i made.result.literals drops.gives in
    record {
      j = drops.i;
      literal = parts.literal;
      there = parts.literal_there;
      result = made.result;
      literals = parts.gives;
      names = drops.names;
      canonical = is;
    })
    (λ (merges : MergesEqual c made.result).
    let parts = merged-parts c.literals merges.stays merges.goes made.result.literals merges.gives in
    record {
      j = merges.goes;
      literal = parts.literal_j;
      there = parts.j_there;
      result = made.result;
      literals = parts.gives;
      names = merges.names;
      canonical = is;
    })
    step

pub shortens-cut :
    (units : List Member) (out : Option ℕ) (old new : Reduced) → IsFit (clause_of old.clause) → IsCutBySome units out old new
    → Shortens (clause_of old.clause) (clause_of new.clause)
shortens-cut units out old new fit cut =
    let c : TreeClause = clause_of old.clause in
    let loses = cut.step.loses fit in
    record {
      j = loses.j;
      literal = loses.literal;
      there = loses.there;
      result = record { literals = remove c.literals loses.j; names = c.names };
      literals = refl;
      names = refl;
      canonical = loses.canonical;
    }

-- ---- no step

-- what rewrites is positive
rewrites-unit : (is_predicate : ℕ → Bool) (unit c d : TreeClause) → RewritesBy is_predicate unit c d → IsUnit unit
rewrites-unit is_predicate unit c d r =
    let e : TreeLiteral = literal_instance r.matcher r.equation in
    let one =
    superposed-parts (e ∷ []) 0 r.from_side c.literals r.j r.into_side r.place d.literals
    (ap (λ (ls : List TreeLiteral). superposed (literals_instance r.matcher ls) 0 r.from_side c.literals r.j r.into_side r.place) (sym r.is_unit) ∙ r.gives) in
    let parts = superposed_literal-parts one.from r.from_side one.into r.into_side r.place one.literal one.literal_made in
    record {
      equation = r.equation;
      alone = r.is_unit;
      positive = ap (λ (l : TreeLiteral). l.positive) (same_Some e one.from one.from_there) ∙ parts.positive;
    }

pub none-applies :
    (usage : SymbolUse) (clauses : ℕ → Option TreeClause) (equations units : List Member) (out : Option ℕ) (c : TreeClause)
    → AreFormed usage equations units c → AreOfClauses clauses equations units → NoStep equations units out c
    → NoStepBy usage.is_predicate (without out clauses) c
none-applies usage clauses equations units out c formed are none d step =
    ⊎_elim (λ drops. none.no_trivial d drops)
    (λ rest.
    ⊎_elim (λ merges. none.no_equal d merges)
    (λ by. ⊎_elim (λ some. rewriting some.clause some.holds some.does) (λ some. cuts some.clause some.holds some.does) by)
    rest)
    step
  where
    rewriting : (unit : TreeClause) → IsAmong (without out clauses) unit → RewritesBy usage.is_predicate unit c d → ⊥
    rewriting unit among r =
        let parts = without-parts out clauses among.number unit among.there in
        let is_kept_here : kept equations out among.number ≡ Some unit =
        cond-true (is_kept out among.number) (option_map clause_at (clause_numbered among.number equations)) None parts.0
        ∙ (are.equations among.number unit).1 (parts.1, rewrites-unit usage.is_predicate unit c d r) in
        none.normal usage (formed-equations usage equations units out c formed) among.number unit d is_kept_here r

    cuts : (unit : TreeClause) → IsAmong (without out clauses) unit → CutsBy usage.is_predicate unit c d → ⊥
    cuts unit among cut =
        let parts = without-parts out clauses among.number unit among.there in
        let found =
        from-map clause_at (clause_numbered among.number units) unit ((are.units among.number unit).1 (parts.1, ap length cut.is_unit)) in
        none.none_cuts among.number found.0 found.1 parts.0 usage (formed-unit usage equations units c formed among.number found.0 found.1) d
        (subst (λ (u : TreeClause). CutsBy usage.is_predicate u c d) (sym found.2) cut)

-- ---- the answer of one step

pub step-answer :
    (equations units : List Member) (out : Option ℕ) (old before new : Reduced)
    → before ≡ old → HasNoTrivial (clause_of old.clause) → HasNoEqual (clause_of old.clause)
    → ((usage : SymbolUse) → AreWellFormed usage (kept equations out) (clause_of old.clause)
    → NoneRewrites usage.is_predicate (kept equations out) (clause_of old.clause))
    → (b : Bool) → IsCutOrNone units out before new b
    → MatchBool b (IsStep equations units out old new) (IsDone equations units out old new)
step-answer equations units out old before new same no_trivial no_equal normal true h =
    inr (inr (subst (λ (r : Reduced). IsCutBySome units out r new) same h))
step-answer equations units out old before new same no_trivial no_equal normal false h = (
  h.0 ∙ same,
  record {
    no_trivial = no_trivial;
    no_equal = no_equal;
    normal = normal;
    none_cuts = subst (λ (r : Reduced). NoneCuts units out (clause_of r.clause)) same h.1;
  },
)

pub held : (P Q : Type 0) (b : Bool) → MatchBool b P Q → b ≡ true → P
held P Q b h is = subst (λ a. MatchBool a P Q) is h

pub refused : (P Q : Type 0) (b : Bool) → MatchBool b P Q → b ≡ false → Q
refused P Q b h is = subst (λ a. MatchBool a P Q) is h
