-- What the calls that cut answer.
use Rattle.std.proofs.Common.{◌≡◌, ℕ, zero, suc, ◌+◌, ◌<◌, ◌≤◌, Bool, true, false, ◌&&◌, ◌||◌, ◌==◌, not, Option, None, Some, List, [], ◌∷◌, ◌++◌, length, refl, ap, sym, ◌∙◌, subst, ⊎_elim, arith}
use Rattle.std.specs.Prelude.{flat_map, slice_get, slice_set, remove, is_some}
use Rattle.std.specs.List.{AllByRecursion, list_any}
use Rattle.std.proofs.lemmas.Bool.{true≢false, cases_Bool, cond-true, cond-false, not-true, not-false}
use Rattle.std.proofs.lemmas.Option.{none-some, same_Some, slice_get_within}
use Rattle.plain_types.specs.declared.sequence.NameLit.{NameLit}
use Rattle.fol_base.specs.Tree.{Tree, tree_variables}
use Rattle.fol_base.specs.Instance.{substitution}
use Rattle.fol_base.specs.Clause.{TreeLiteral, TreeClause, LiteralVariablesBelow, literal_variables}
use Rattle.fol_base.specs.Ground.{literals_instance}
use Rattle.fol_base.specs.Canonical.{renaming}
use Rattle.fol_base.specs.Kind.{is_literal}
use Rattle.fol_base.specs.Literal.{clause_of}
use Rattle.fol_base.specs.Numbering.{with_variables}
use Rattle.fol_base.specs.Rules.{resolved}
use Rattle.fol_base.specs.Sides.{other_side_of}
use Rattle.fol_base.specs.Subsumption.{assertions, is_among}
use Rattle.fol_base.specs.WellFormed.{SymbolUse}
use Rattle.fol_base.specs.declared.clause.Side.{Side}
use Rattle.fol_base.proofs.AboutClauses.InferenceLemmas.{resolutions_in_instances}
use Rattle.fol_base.proofs.AboutClauses.RuleLemmas.{resolved-from, resolved-parts}
use Rattle.kernel_steps.specs.Derivation.{complement}
use Rattle.kernel_steps.specs.declared.step.TheConstants.{CLAUSE_NUMBERS}
use Rattle.kernel_steps.specs.declared.step.Line.{Line}
use Rattle.kernel_steps.specs.declared.step.Step.TheVariants.{Refl}
use Rattle.bank_clause.specs.Clause.{clause_at}
use Rattle.bank_clause.specs.declared.member.Member.{Member}
use Rattle.subsume.specs.Target.{AreOfUse}
use Rattle.subsume.proofs.AboutSearch.SubsumingLemmas.{asserted}
use Rattle.eq_rules.proofs.AboutConclusions.PremiseLemmas.{literal-kind}
use Rattle.eq_rules.proofs.AboutConclusions.RenumberedLemmas.{met_onward, variables_between}
use Rattle.eq_rules.proofs.AboutConclusions.StepLemmas.{exchanged-variables, others-variables}
use Rattle.unit_cutting.specs.Cutting.{IsCut, IsCutOrNone, IsFirstLine, IsFitting, before_last, fitting_side, last_index, open_side, unit_terms, unsolvable}
use Rattle.unit_cutting.specs.Superposing.{IsSuperposed, superposed_under}
use Rattle.unit_cutting.specs.Fit.{IsFit}
use Rattle.unit_cutting.specs.CutSteps.{AreCutOrNone, AreLinesOfCut, CutsNone, CutsOrNot, IsCutOf, IsCutOfOrNone, MakesCut, before_last_variables}
use Rattle.unit_cutting.specs.Removing.{IsOwnStep, IsTrivialAt}
use Rattle.kernel_steps.specs.Lines.{own_terms}
use Rattle.unit_cutting.specs.declared.cutting.Cut.{Cut}
use Rattle.unit_cutting.specs.declared.cut_lines.CutLines.{CutLines}
use Rattle.unit_cutting.proofs.AboutCuts.OwnLemmas.{own-below, own-literals}
use Rattle.unit_cutting.proofs.AboutCuts.CutLemmas.{negative-unit, positive-unit, signs, unit-below}
use Rattle.unit_cutting.proofs.AboutLeaving.LeavingLemmas.{FirstShape, first-shape, left-canonical}
use Rattle.unit_cutting.proofs.AboutCuts.CutStepLemmas.{cut-by, cut-lines, cut-to, first-negative, first-positive}

-- ---- assertions

pub asserted-any :
    (n : ℕ) (ms : List NameLit)
    → list_any (λ (m : NameLit). not m.positive && (n == m.name)) ms ≡ list_any (λ k. n == k) (assertions ms)
asserted-any n [] = refl
asserted-any n (m ∷ ms) =
    ⊎_elim
    (λ e.
    ap (λ b. (not b && (n == m.name)) || list_any (λ (x : NameLit). not x.positive && (n == x.name)) ms) e
    ∙ asserted-any n ms
    ∙ sym (ap (list_any (λ k. n == k)) (cond-true m.positive (assertions ms) (m.name ∷ assertions ms) e)))
    (λ e.
    ap (λ b. (not b && (n == m.name)) || list_any (λ (x : NameLit). not x.positive && (n == x.name)) ms) e
    ∙ ap (λ r. (n == m.name) || r) (asserted-any n ms)
    ∙ sym (ap (list_any (λ k. n == k)) (cond-false m.positive (assertions ms) (m.name ∷ assertions ms) e)))
    (cases_Bool m.positive)

-- ---- numbers

module _ (c : TreeClause) (i count : ℕ) (terms : List Tree) (t : Tree) (within : i < length c.literals) (many : count ≡ length c.literals) (is : terms ≡ own_terms c) where
  abbrev between : ℕ → ℕ → List ℕ
  between start end = variables_between (substitution terms) c.literals start end

  abbrev vt : List ℕ
  vt = tree_variables t

  others : between 0 i ++ between (i + 1) count ≡ flat_map literal_variables (remove c.literals i)
  others =
      others-variables (substitution terms) c.literals i count within many
      ∙ ap (λ (ts : List Tree). flat_map literal_variables (remove (literals_instance (substitution ts) c.literals) i)) is
      ∙ ap (λ (ls : List TreeLiteral). flat_map literal_variables (remove ls i)) (own-literals c)

  exchanged : (between 0 i ++ (vt ++ vt)) ++ between (i + 1) count ≡ flat_map literal_variables (slice_set c.literals i (unsolvable t))
  exchanged =
      exchanged-variables (substitution terms) c.literals i count (unsolvable t) within many
      ∙ ap (λ (ts : List Tree). flat_map literal_variables (slice_set (literals_instance (substitution ts) c.literals) i (unsolvable t))) is
      ∙ ap (λ (ls : List TreeLiteral). flat_map literal_variables (slice_set ls i (unsolvable t))) (own-literals c)

  pub numbered-first :
      (old a b d e : List ℕ) → a ≡ with_variables old vt → b ≡ with_variables a vt → d ≡ with_variables b (between 0 i)
      → e ≡ with_variables d (between (i + 1) count) → e ≡ with_variables old (before_last_variables true c i t)
  numbered-first old a b d e h1 h2 h3 h4 =
      met_onward old b e (vt ++ vt) (flat_map literal_variables (remove c.literals i)) (met_onward old a b vt vt h1 h2)
      (met_onward b d e (between 0 i) (between (i + 1) count) h3 h4 ∙ ap (with_variables b) others)

  pub numbered-in_place :
      (old a b d e : List ℕ) → a ≡ with_variables old (between 0 i) → b ≡ with_variables a vt → d ≡ with_variables b vt
      → e ≡ with_variables d (between (i + 1) count) → e ≡ with_variables old (before_last_variables false c i t)
  numbered-in_place old a b d e h1 h2 h3 h4 =
      met_onward old d e (between 0 i ++ (vt ++ vt)) (between (i + 1) count)
      (met_onward old a d (between 0 i) (vt ++ vt) h1 (met_onward a b d vt vt h2 h3)) h4
      ∙ ap (with_variables old) exchanged

-- ---- the literal without solution

pub set_there : (ls : List TreeLiteral) (j : ℕ) (l new : TreeLiteral) → slice_get ls j ≡ Some l → slice_get (slice_set ls j new) j ≡ Some new
set_there [] j l new h = absurd (none-some l h)
set_there (k ∷ ls) zero l new h = refl
set_there (k ∷ ls) (suc j) l new h = set_there ls j l new h

unsolvable-there :
    (positive : Bool) (ls : List TreeLiteral) (j : ℕ) (l : TreeLiteral) (t : Tree) → slice_get ls j ≡ Some l
    → slice_get (before_last positive ls j t) (last_index positive j) ≡ Some (unsolvable t)
unsolvable-there true ls j l t there = refl
unsolvable-there false ls j l t there = set_there ls j l (unsolvable t) there

trivial-renamed :
    (positive : Bool) (ls : List TreeLiteral) (j : ℕ) (l : TreeLiteral) (t : Tree) (order : List ℕ) (d : TreeClause) → slice_get ls j ≡ Some l
    → d.literals ≡ literals_instance (renaming order) (before_last positive ls j t) → IsTrivialAt d (last_index positive j)
trivial-renamed positive ls j l t order d there is =
    let plain : List TreeLiteral = before_last positive ls j t in
    let k : ℕ = last_index positive j in
    let made : resolved plain k ≡ Some (remove plain k) =
    resolved-from plain k (remove plain k)
    (record { literal = unsolvable t; literal_there = unsolvable-there positive ls j l t there; negative = refl; same = refl; gives = refl }) in
    let renamed : resolved d.literals k ≡ Some (literals_instance (renaming order) (remove plain k)) =
    ap (λ xs. resolved xs k) is ∙ resolutions_in_instances (renaming order) plain (remove plain k) k made in
    let parts = resolved-parts d.literals k (literals_instance (renaming order) (remove plain k)) renamed in
    (slice_get_within d.literals k parts.literal parts.literal_there, ap is_some renamed)

not-swapped : (a b : Bool) → not a ≡ b → a ≡ not b
not-swapped true b h = ap not h
not-swapped false b h = ap not h

module _
    (uc c : TreeClause) (cut : Cut) (of : IsCutOf uc c.literals cut) (n number : ℕ) (line : Line)
    (first : (l : TreeLiteral) → slice_get c.literals cut.index ≡ Some l → IsFirstLine l.positive uc n c number l cut line) where
  abbrev u : TreeLiteral
  u = of.literal

  abbrev lit : TreeLiteral
  lit = of.cuts.literal

  sign : not u.positive ≡ lit.positive
  sign = signs uc u of.is_unit lit cut.fitting of.cuts.fits

  shape-is : FirstShape (before_last lit.positive c.literals cut.index (other_side_of (open_side lit) lit)) line
  shape-is =
      first-shape uc u of.is_unit c lit cut of.cuts.there of.cuts.fits n number line lit.positive (not-swapped u.positive lit.positive sign)
      (first lit of.cuts.there)

  pub trivial-after : (l : TreeLiteral) → slice_get c.literals cut.index ≡ Some l → IsTrivialAt (clause_of line.clause) (last_index l.positive cut.index)
  trivial-after l there =
      subst (λ (k : TreeLiteral). IsTrivialAt (clause_of line.clause) (last_index k.positive cut.index)) (same_Some lit l (sym of.cuts.there ∙ there))
      (trivial-renamed lit.positive c.literals cut.index lit (other_side_of (open_side lit) lit) shape-is.order (clause_of line.clause) of.cuts.there
      shape-is.literals)

-- ---- the first line

-- the same superposition of equal things
under-same :
    (left left' right right' : List Tree) (ls ls' ks ks' : List TreeLiteral) (i j : ℕ) (s s' z z' : Side)
    → left ≡ left' → ls ≡ ls' → s ≡ s' → right ≡ right' → ks ≡ ks' → z ≡ z'
    → superposed_under left ls i s right ks j z ≡ superposed_under left' ls' i s' right' ks' j z'
under-same left left' right right' ls ls' ks ks' i j s s' z z' a b d e f g =
    ap (λ x. superposed_under x ls i s right ks j z) a
    ∙ ap (λ x. superposed_under left' x i s right ks j z) b
    ∙ ap (λ x. superposed_under left' ls' i x right ks j z) d
    ∙ ap (λ x. superposed_under left' ls' i s' x ks j z) e
    ∙ ap (λ x. superposed_under left' ls' i s' right' x j z) f
    ∙ ap (λ x. superposed_under left' ls' i s' right' ks' j x) g

superposed-same :
    (ls ls' : List TreeLiteral) (left left' : List Tree) (i : ℕ) (s s' : Side) (a a' : ℕ) (ks ks' : List TreeLiteral) (right right' : List Tree) (j : ℕ)
    (z z' : Side) (b b' : ℕ) (met met' : List ℕ) (line : Line)
    → ls ≡ ls' → left ≡ left' → s ≡ s' → a ≡ a' → ks ≡ ks' → right ≡ right' → z ≡ z' → b ≡ b' → met ≡ met'
    → IsSuperposed ls left i s a ks right j z b met line → IsSuperposed ls' left' i s' a' ks' right' j z' b' met' line
superposed-same ls ls' left left' i s s' a a' ks ks' right right' j z z' b b' met met' line e1 e2 e3 e4 e5 e6 e7 e8 e9 it =
    subst (λ x. IsSuperposed ls' left' i s' a' ks' right' j z' b' x line) e9
    (subst (λ x. IsSuperposed ls' left' i s' a' ks' right' j z' x met line) e8
    (subst (λ x. IsSuperposed ls' left' i s' a' ks' right' j x b met line) e7
    (subst (λ x. IsSuperposed ls' left' i s' a' ks' x j z b met line) e6
    (subst (λ x. IsSuperposed ls' left' i s' a' x right j z b met line) e5
    (subst (λ x. IsSuperposed ls' left' i s' x ks right j z b met line) e4
    (subst (λ x. IsSuperposed ls' left' i x a ks right j z b met line) e3
    (subst (λ x. IsSuperposed ls' x i s a ks right j z b met line) e2
    (subst (λ x. IsSuperposed x left i s a ks right j z b met line) e1 it))))))))

module _
    (uc c : TreeClause) (cut : Cut) (of : IsCutOf uc c.literals cut) (m : TreeLiteral) (m_there : slice_get c.literals cut.index ≡ Some m)
    (own terms : List Tree) (lent : List TreeLiteral) (side turned_side : Side) (own_is : own ≡ own_terms c)
    (terms_are : terms ≡ unit_terms uc cut.fitting.terms) (lent_is : lent ≡ uc.literals) (side_is : side ≡ open_side m)
    (turned_is : turned_side ≡ fitting_side cut.fitting.crossed side) where
  is-literal : of.cuts.literal ≡ m
  is-literal = same_Some of.cuts.literal m (sym of.cuts.there ∙ m_there)

  fits : IsFitting (complement of.literal) m cut.fitting
  fits = subst (λ k. IsFitting (complement of.literal) k cut.fitting) is-literal of.cuts.fits

  signs-are : not of.literal.positive ≡ m.positive
  signs-are = signs uc of.literal of.is_unit m cut.fitting fits

  turned_open : turned_side ≡ fitting_side cut.fitting.crossed (open_side m)
  turned_open = turned_is ∙ ap (fitting_side cut.fitting.crossed) side_is

  pub own-covered : AllByRecursion (LiteralVariablesBelow (length own)) c.literals
  own-covered = subst (λ (ts : List Tree). AllByRecursion (LiteralVariablesBelow (length ts)) c.literals) (sym own_is) (own-below c)

  pub unit-covered : AllByRecursion (LiteralVariablesBelow (length terms)) lent
  unit-covered =
      subst (λ (ls : List TreeLiteral). AllByRecursion (LiteralVariablesBelow (length terms)) ls) (sym lent_is)
      (subst (λ (ts : List Tree). AllByRecursion (LiteralVariablesBelow (length ts)) uc.literals) (sym terms_are)
      (unit-below uc of.literal of.is_unit m cut.fitting fits))

  pub applies-first : m.positive ≡ true → is_some (superposed_under own c.literals cut.index side terms lent 0 turned_side) ≡ true
  applies-first positive =
      ap is_some
      (under-same own (own_terms c) terms (unit_terms uc cut.fitting.terms) c.literals c.literals lent uc.literals cut.index 0 side (open_side m) turned_side
      (fitting_side cut.fitting.crossed (open_side m)) own_is refl side_is terms_are lent_is turned_open
      ∙ negative-unit uc of.literal of.is_unit m cut.fitting fits c cut.index m_there (not-true of.literal.positive (signs-are ∙ positive)))

  pub applies-second : m.positive ≡ false → is_some (superposed_under terms lent 0 turned_side own c.literals cut.index side) ≡ true
  applies-second negative =
      ap is_some
      (under-same terms (unit_terms uc cut.fitting.terms) own (own_terms c) lent uc.literals c.literals c.literals 0 cut.index turned_side
      (fitting_side cut.fitting.crossed (open_side m)) side (open_side m) terms_are lent_is turned_open own_is refl side_is
      ∙ positive-unit uc of.literal of.is_unit m cut.fitting fits c cut.index m_there (not-false of.literal.positive (signs-are ∙ negative)))

  module _ (n n' number : ℕ) (met empty : List ℕ) (t : Tree) (line : Line) (number_is : n' ≡ n) (none : empty ≡ []) (t_is : t ≡ other_side_of side m) where
    met-is : (b : Bool) → met ≡ with_variables empty (before_last_variables b c cut.index t)
        → met ≡ with_variables [] (before_last_variables b c cut.index (other_side_of (open_side m) m))
    met-is b h =
        h
        ∙ ap (λ xs. with_variables xs (before_last_variables b c cut.index t)) none
        ∙ ap (λ x. with_variables [] (before_last_variables b c cut.index x)) (t_is ∙ ap (λ x. other_side_of x m) side_is)

    each : (b : Bool) → m.positive ≡ b → IsFirstLine b uc n c number m cut line
        → (l : TreeLiteral) → slice_get c.literals cut.index ≡ Some l → IsFirstLine l.positive uc n c number l cut line
    each b sign it l there =
        subst (λ (k : TreeLiteral). IsFirstLine k.positive uc n c number k cut line) (same_Some m l (sym m_there ∙ there))
        (subst (λ x. IsFirstLine x uc n c number m cut line) (sym sign) it)

    pub line-first :
        m.positive ≡ true → met ≡ with_variables empty (before_last_variables true c cut.index t)
        → IsSuperposed c.literals own cut.index side number lent terms 0 turned_side n' met line
        → (l : TreeLiteral) → slice_get c.literals cut.index ≡ Some l → IsFirstLine l.positive uc n c number l cut line
    line-first sign h it =
        each true sign
        (superposed-same c.literals c.literals own (own_terms c) cut.index side (open_side m) number number lent uc.literals terms
        (unit_terms uc cut.fitting.terms) 0 turned_side (fitting_side cut.fitting.crossed (open_side m)) n' n met
        (with_variables [] (before_last_variables true c cut.index (other_side_of (open_side m) m))) line refl own_is side_is refl lent_is terms_are
        turned_open number_is (met-is true h) it)

    pub line-second :
        m.positive ≡ false → met ≡ with_variables empty (before_last_variables false c cut.index t)
        → IsSuperposed lent terms 0 turned_side n' c.literals own cut.index side number met line
        → (l : TreeLiteral) → slice_get c.literals cut.index ≡ Some l → IsFirstLine l.positive uc n c number l cut line
    line-second sign h it =
        each false sign
        (superposed-same lent uc.literals terms (unit_terms uc cut.fitting.terms) 0 turned_side (fitting_side cut.fitting.crossed (open_side m)) n' n
        c.literals c.literals own (own_terms c) cut.index side (open_side m) number number met
        (with_variables [] (before_last_variables false c cut.index (other_side_of (open_side m) m))) line lent_is terms_are turned_open number_is refl
        own_is side_is refl (met-is false h) it)

-- ---- the cut

module _
    (unit : Member) (c : TreeClause) (number : ℕ) (cut : Cut) (lines : CutLines) (of : IsCutOf (clause_at unit.clause) c.literals cut)
    (among : is_among unit.clause.names (assertions c.names) ≡ true) (are : AreLinesOfCut unit c number cut lines)
    (usage : SymbolUse) (clauses : ℕ → Option TreeClause) (low : unit.number < CLAUSE_NUMBERS) (there : clauses unit.number ≡ Some (clause_at unit.clause))
    (wf : AreOfUse usage (clause_at unit.clause) c) (fit : IsFit c) (past : CLAUSE_NUMBERS ≤ number) where
  abbrev unit_clause : TreeClause
  unit_clause = clause_at unit.clause

  abbrev unit_literal : TreeLiteral
  unit_literal = of.literal

  abbrev cut_literal : TreeLiteral
  cut_literal = of.cuts.literal

  abbrev p : ℕ → Bool
  p = usage.is_predicate

  sign_of : not unit_literal.positive ≡ cut_literal.positive
  sign_of = signs unit_clause unit_literal of.is_unit cut_literal cut.fitting of.cuts.fits

  unit_kind : is_literal p unit_literal ≡ true
  unit_kind = literal-kind usage unit_clause 0 unit_literal wf.first (ap (λ (ls : List TreeLiteral). slice_get ls 0) of.is_unit)

  kind : is_literal p cut_literal ≡ true
  kind = literal-kind usage c cut.index cut_literal wf.second of.cuts.there

  numbers_among : is_among (assertions unit_clause.names) (assertions c.names) ≡ true
  numbers_among = ap (λ xs. is_among xs (assertions c.names)) (asserted unit.clause.names) ∙ among

  by :
      (b : Bool) → cut_literal.positive ≡ b → IsFirstLine b unit_clause unit.number c number cut_literal cut lines.first
      → IsOwnStep (λ ls. resolved ls (last_index b cut.index)) (λ bind. Refl (number + 1) (last_index b cut.index) bind) (clause_of lines.first.clause) lines.second
      → MakesCut p clauses unit c number lines
  by true positive first second =
      let facts =
      first-negative p unit.number low unit_clause unit_literal of.is_unit c fit number past cut_literal cut of.cuts.there of.cuts.fits unit_kind kind unit.clause.names refl among lines.first are.names
      (not-true unit_literal.positive (sign_of ∙ positive)) first in
      record {
        makes =
            cut-lines p clauses unit.number low unit_clause there unit_literal of.is_unit c fit number past cut_literal cut of.cuts.there of.cuts.fits unit_kind kind numbers_among lines.first
            lines.second are.names true facts second;
        cuts =
            cut-to p clauses unit.number low unit_clause there unit_literal of.is_unit c fit number past cut_literal cut of.cuts.there of.cuts.fits unit_kind kind numbers_among lines.first
            lines.second are.names true facts second;
      }
  by false negative first second =
      let facts =
      first-positive p unit.number low unit_clause unit_literal of.is_unit c fit number past cut_literal cut of.cuts.there of.cuts.fits unit_kind kind unit.clause.names refl among lines.first are.names
      (not-false unit_literal.positive (sign_of ∙ negative)) first in
      record {
        makes =
            cut-lines p clauses unit.number low unit_clause there unit_literal of.is_unit c fit number past cut_literal cut of.cuts.there of.cuts.fits unit_kind kind numbers_among lines.first
            lines.second are.names false facts second;
        cuts =
            cut-to p clauses unit.number low unit_clause there unit_literal of.is_unit c fit number past cut_literal cut of.cuts.there of.cuts.fits unit_kind kind numbers_among lines.first
            lines.second are.names false facts second;
      }

  pub makes-cut : MakesCut p clauses unit c number lines
  makes-cut = by cut_literal.positive refl (are.first cut_literal of.cuts.there) (are.second cut_literal of.cuts.there)

pub cut-made :
    (unit : Member) (c : TreeClause) (number : ℕ) (cut : Cut) (lines : CutLines) → IsCutOf (clause_at unit.clause) c.literals cut
    → is_among unit.clause.names (assertions c.names) ≡ true → AreLinesOfCut unit c number cut lines → AreCutOrNone unit c number (Some lines)
cut-made unit c number cut lines of among are = record {
  loses = λ fit. record {
    j = cut.index;
    literal = of.cuts.literal;
    there = of.cuts.there;
    canonical =
        left-canonical c fit number of.cuts.literal cut.index of.cuts.there of.cuts.literal.positive lines.first lines.second are.names
        (shape-is (clause_at unit.clause) c cut of unit.number number lines.first are.first) (are.second of.cuts.literal of.cuts.there);
  };
  makes = λ usage clauses low there wf fit past. makes-cut unit c number cut lines of among are usage clauses low there wf fit past;
}

-- ---- where nothing is cut

pub none-asserted : (unit : Member) (c : TreeClause) → is_among unit.clause.names (assertions c.names) ≡ false → CutsNone unit c
none-asserted unit c missing usage wf d cuts =
    true≢false (sym cuts.asserted ∙ ap (λ xs. is_among xs (assertions c.names)) (asserted unit.clause.names) ∙ missing)

pub none-fits : (unit : Member) (c : TreeClause) → IsCutOfOrNone (clause_at unit.clause) c.literals None → CutsNone unit c
none-fits unit c none usage wf d cuts =
    none cuts.unit_literal cuts.is_unit cuts.j cuts.literal cuts.literal_there usage.is_predicate
    (literal-kind usage (clause_at unit.clause) 0 cuts.unit_literal wf.first (ap (λ (ls : List TreeLiteral). slice_get ls 0) cuts.is_unit))
    (literal-kind usage c cuts.j cuts.literal wf.second cuts.literal_there) cuts.matcher cuts.function_terms cuts.matches cuts.no_truths

-- ---- whether something is cut

-- what a search finds for the complement of a unit's literal
pub of-unit :
    (uc : TreeClause) (u wanted : TreeLiteral) (ls : List TreeLiteral) → uc.literals ≡ u ∷ [] → wanted ≡ complement u
    → (found : Option Cut) → IsCutOrNone wanted ls found → IsCutOfOrNone uc ls found
of-unit uc u wanted ls is_unit is None none = λ k alone.
    let same : u ≡ k = same_Some u k (ap (λ (ms : List TreeLiteral). slice_get ms 0) (sym is_unit ∙ alone)) in
    subst (λ (w : TreeLiteral). IsCutOrNone w ls None) (is ∙ ap complement same) none
of-unit uc u wanted ls is_unit is (Some cut) it =
    record { literal = u; is_unit = is_unit; cuts = subst (λ (w : TreeLiteral). IsCut w ls cut) is it }

pub cuts-or-not :
    (unit : Member) (c : TreeClause) (ls : List TreeLiteral) (found : Option Cut) (answer : Bool)
    → is_among unit.clause.names (assertions c.names) ≡ true → ls ≡ c.literals → IsCutOfOrNone (clause_at unit.clause) ls found → answer ≡ is_some found
    → CutsOrNot unit c answer
cuts-or-not unit c ls None answer among same it is =
    subst (CutsOrNot unit c) (sym is)
    (none-fits unit c (subst (λ (ks : List TreeLiteral). IsCutOfOrNone (clause_at unit.clause) ks None) same it))
cuts-or-not unit c ls (Some cut) answer among same it is =
    subst (CutsOrNot unit c) (sym is)
    (λ usage wf.
    let of : IsCutOf (clause_at unit.clause) c.literals cut = subst (λ (ks : List TreeLiteral). IsCutOf (clause_at unit.clause) ks cut) same it in
    record {
      result = record { literals = remove c.literals cut.index; names = c.names };
      cuts =
          cut-by usage.is_predicate (clause_at unit.clause) of.literal of.is_unit c of.cuts.literal cut of.cuts.there of.cuts.fits
          (literal-kind usage (clause_at unit.clause) 0 of.literal wf.first (ap (λ (ks : List TreeLiteral). slice_get ks 0) of.is_unit))
          (literal-kind usage c cut.index of.cuts.literal wf.second of.cuts.there)
          (ap (λ xs. is_among xs (assertions c.names)) (asserted unit.clause.names) ∙ among);
    })

-- a list of one
pub single : (ls : List TreeLiteral) (u : TreeLiteral) → length ls ≡ 1 → slice_get ls 0 ≡ Some u → ls ≡ u ∷ []
single [] u one h = absurd (none-some u h)
single (l ∷ []) u one h = ap (λ k. k ∷ []) (same_Some l u h)
single (l ∷ m ∷ ls) u one h = absurd (omega (arith, one))
