-- Units of a set that subsume a clause, by one of its literals.
use mathlib.Core.Bool.{beq}
use Rattle.std.proofs.Common.{◌≡◌, ◌↔◌, ℕ, ◌+◌, ◌<◌, ◌≤◌, Bool, true, false, List, [], ◌∷◌, length, map, refl, ap, sym, ◌∙◌, subst, inl, inr, not, ⊎_elim, arith}
use Rattle.std.specs.Prelude.{Option, None, Some, IfSome, IsTrue, MatchOption, is_some, nat_eq, slice_get}
use Rattle.std.specs.Map.{lookup}
use Rattle.std.proofs.lemmas.Bool.{and_from, and_parts, or_left, or_right, cases_order, true≢false}
use Rattle.std.proofs.lemmas.Option.{same_Some, slice_get_within}
use Rattle.plain_types.specs.declared.sequence.NameLit.{NameLit}
use Rattle.fol_base.specs.Tree.{Tree}
use Rattle.fol_base.specs.Clause.{TreeLiteral, TreeClause, literal_instance}
use Rattle.fol_base.specs.Compatible.{compatible_generalisation}
use Rattle.fol_base.specs.Instance.{Substitution}
use Rattle.fol_base.specs.Kind.{is_literal, PutsFunctionTerms}
use Rattle.fol_base.specs.Order.{equivalent_literals}
use Rattle.fol_base.specs.Sides.{exchanged}
use Rattle.fol_base.specs.Subsumption.{Subsumes, all_different, assertions, is_among, is_there, stand_at}
use Rattle.fol_base.specs.WellFormed.{SymbolUse}
use Rattle.fol_base.proofs.AboutOrders.OrderLemmas.{SameLiteral, equivalent_literals-decided}
use Rattle.bank_clause.specs.Clause.{clause_at}
use Rattle.bank_clause.specs.declared.clause.BankClause.{BankClause}
use Rattle.bank_clause.specs.declared.member.Member.{Member}
use Rattle.disc_tree.specs.Entries.{IsIn}
use Rattle.disc_tree.proofs.AboutQueries.UnifierLemmas.{generalisation-compatible}
use Rattle.eq_rules.proofs.AboutConclusions.PremiseLemmas.{literal-kind}
use Rattle.rewriting.specs.Units.{clause_numbered, is_kept}
use Rattle.rewriting.proofs.AboutIndexes.NumberedLemmas as by_number
use Rattle.unifier.specs.Laws.{AreFunctionPairs, are_of_one_kind}
use Rattle.unifier.specs.Matching.{by_pairs, variables_of, HasPairs}
use Rattle.unifier.proofs.AboutLayouts.KindLemmas.{matchers_put_function_terms}
use Rattle.unifier.proofs.AboutMatching.MatchLemmas.{Pairs}
use Rattle.subsume.specs.Kinds.{TurnsInto, are_alike}
use Rattle.subsume.specs.Target.{AreOfUse}
use Rattle.subsume.proofs.AboutSearch.OnceLemmas.{pairs-had}
use Rattle.subsume.proofs.AboutSearch.PlacingLemmas.{OneKind, alike-needed, alike-says, one_kind}
use Rattle.unit_cutting.specs.Indexed.{HasCandidates, HasOneLiteral, may_cover, member_of}
use Rattle.unit_cutting.specs.Subsuming.{AreLiteralsOf, Becomes, BecomesOrNot, Covers, CoversNotAt, CoversOrNot, IsCoveringAt, IsCoveringOrNotBy, IsSubsumerAt, SubsumesNever}
use Rattle.unit_cutting.proofs.IndexedLemmas.{AreIndexedAt, clause_of_member}

-- ---- one literal becomes another

-- literals that aren't alike don't
pub unlike : (l m : TreeLiteral) → are_alike l m ≡ false → BecomesOrNot l m false
unlike l m other p hl hm = (
  λ e. absurd (true≢false (sym e)),
  λ b. absurd (true≢false (sym (alike-needed p b.matcher l m b.function_terms hl hm b.becomes) ∙ other)),
)

-- what matching of the sides tells
pub record Matching (l k : TreeLiteral) (none : Pairs) (found : Option Pairs) : Type 0 where
  pub exact :
      MatchOption found ((σ : Substitution) → HasPairs none σ → TurnsInto σ l k → ⊥)
      (λ pairs. (σ : Substitution) → HasPairs pairs σ ↔ (HasPairs none σ × TurnsInto σ l k))
  pub once : all_different (variables_of none) ≡ true → IfSome found (λ pairs. all_different (variables_of pairs) ≡ true)
  pub function_terms :
      (p : ℕ → Bool) → IsTrue (are_of_one_kind p l.left k.left) → IsTrue (are_of_one_kind p l.right k.right)
      → AreFunctionPairs p none → IfSome found (AreFunctionPairs p)

-- a substitution by function terms turns the sides of the first literal into those of the second
record Turns (p : ℕ → Bool) (l k : TreeLiteral) : Type 0 where
  matcher : Substitution
  function_terms : PutsFunctionTerms p matcher
  turns : TurnsInto matcher l k

module _ (l m : TreeLiteral) (none : Pairs) (is : none ≡ []) where
  had : (σ : Substitution) → HasPairs none σ
  had σ = subst (λ (ps : Pairs). HasPairs ps σ) (sym is) tt

  some-turns :
      (k : TreeLiteral) (found : Option Pairs) → Matching l k none found → is_some found ≡ true
      → (p : ℕ → Bool) → are_of_one_kind p l.left k.left ≡ true → are_of_one_kind p l.right k.right ≡ true → Turns p l k
  some-turns k None matching succeeds p left right = absurd (true≢false (sym succeeds))
  some-turns k (Some pairs) matching succeeds p left right = record {
    matcher = by_pairs pairs;
    function_terms =
        (matchers_put_function_terms p pairs 0
        (matching.function_terms p left right (subst (λ (ps : Pairs). AreFunctionPairs p ps) (sym is) tt))).0;
    turns =
        ((matching.exact (by_pairs pairs)).0
        (pairs-had pairs (matching.once (ap (λ (ps : Pairs). all_different (variables_of ps)) is)))).1;
  }

  none-turns : (k : TreeLiteral) (found : Option Pairs) → Matching l k none found → is_some found ≡ false → (σ : Substitution) → TurnsInto σ l k → ⊥
  none-turns k None matching fails σ turns = matching.exact σ (had σ) turns
  none-turns k (Some pairs) matching fails σ turns = true≢false fails

  module _ (alike : are_alike l m ≡ true) (first second : Option Pairs) where
    pub straight : Matching l m none first → is_some first ≡ true → BecomesOrNot l m true
    straight matching succeeds p hl hm = (
      λ e.
          let kinds : OneKind p l m = one_kind p l m hl hm alike in
          let found : Turns p l m = some-turns m first matching succeeds p kinds.left kinds.right in record {
            matcher = found.matcher;
            function_terms = found.function_terms;
            becomes =
                (equivalent_literals-decided (literal_instance found.matcher l) m).1
                ((alike-says l m alike).sign, inl (found.turns.left, found.turns.right));
          },
      λ b. refl,
    )

    crossed : Matching l (exchanged m) none second → is_some second ≡ true → BecomesOrNot l m true
    crossed matching succeeds p hl hm = (
      λ e.
          let kinds : OneKind p l m = one_kind p l m hl hm alike in
          let found : Turns p l (exchanged m) = some-turns (exchanged m) second matching succeeds p kinds.left_right kinds.right_left in record {
            matcher = found.matcher;
            function_terms = found.function_terms;
            becomes =
                (equivalent_literals-decided (literal_instance found.matcher l) m).1
                ((alike-says l m alike).sign, inr (found.turns.left, found.turns.right));
          },
      λ b. refl,
    )

    neither : Matching l m none first → is_some first ≡ false → Matching l (exchanged m) none second → is_some second ≡ false → BecomesOrNot l m false
    neither matching fails other none_other p hl hm = (
      λ e. absurd (true≢false (sym e)),
      λ b.
          let parts : SameLiteral (literal_instance b.matcher l) m = (equivalent_literals-decided (literal_instance b.matcher l) m).0 b.becomes in
          absurd
          (⊎_elim
          (λ e. none-turns m first matching fails b.matcher (record { left = e.0; right = e.1 }))
          (λ e. none-turns (exchanged m) second other none_other b.matcher (record { left = e.0; right = e.1 }))
          parts.1),
    )

    pub either :
        Matching l m none first → is_some first ≡ false → Matching l (exchanged m) none second
        → (answer : Bool) → answer ≡ is_some second → BecomesOrNot l m answer
    either matching fails other true is = crossed other (sym is)
    either matching fails other false is = neither matching fails other (sym is)

-- ---- a unit covers a literal

pub covering :
    (u : TreeClause) (k l : TreeLiteral) (names : List NameLit) (answer : Bool)
    → u.literals ≡ k ∷ [] → is_among (assertions u.names) (assertions names) ≡ true → BecomesOrNot k l answer → CoversOrNot u names l answer
covering u k l names answer alone among becomes p wf = (
  λ e. record { literal = k; is_unit = alone; becomes = (becomes p (wf.unit k alone) wf.literal).0 e; asserted = among },
  λ covers.
      let same : covers.literal ≡ k = same_Some covers.literal k (ap (λ (ls : List TreeLiteral). slice_get ls 0) (sym covers.is_unit ∙ alone)) in
      (becomes p (wf.unit k alone) wf.literal).1 (subst (λ (j : TreeLiteral). Becomes p j l) same covers.becomes),
)

-- one that asserts more doesn't
pub asserts-more :
    (u : TreeClause) (l : TreeLiteral) (names : List NameLit) → is_among (assertions u.names) (assertions names) ≡ false → CoversOrNot u names l false
asserts-more u l names missing p wf = (
  λ e. absurd (true≢false (sym e)),
  λ covers. absurd (true≢false (sym covers.asserted ∙ missing)),
)

pub differ : (a b : Bool) → not (beq a b) ≡ true → a ≡ b → ⊥
differ true true h e = true≢false (sym h)
differ true false h e = true≢false e
differ false true h e = true≢false (sym e)
differ false false h e = true≢false (sym h)

-- nor does one with the other sign
pub other-sign :
    (u : TreeClause) (l : TreeLiteral) (names : List NameLit) (has : Bool)
    → ((k : TreeLiteral) → u.literals ≡ k ∷ [] → k.positive ≡ has) → (has ≡ l.positive → ⊥) → CoversOrNot u names l false
other-sign u l names has signed other p wf = (
  λ e. absurd (true≢false (sym e)),
  λ covers.
      let same : SameLiteral (literal_instance covers.becomes.matcher covers.literal) l =
      (equivalent_literals-decided (literal_instance covers.becomes.matcher covers.literal) l).0 covers.becomes.becomes in
      absurd (other (sym (signed covers.literal covers.is_unit) ∙ same.0)),
)

-- ---- the unit of a number

module _ (units : List Member) (out : Option ℕ) (names : List NameLit) (l : TreeLiteral) (n : ℕ) (u : Member) (there : Some u.clause ≡ clause_numbered n units) where
  pub covers-at :
      u.number ≡ n → is_kept out n ≡ true → CoversOrNot (clause_at u.clause) names l true → IsCoveringOrNotBy units out names l n (Some u.number)
  covers-at number kept covers = record {
    unit = u.clause;
    there = ap (λ k. clause_numbered k units) number ∙ sym there;
    kept = ap (is_kept out) number ∙ kept;
    covers = λ p wf. (covers p wf).0 refl;
  }

  pub covers-not-at : CoversOrNot (clause_at u.clause) names l false → CoversNotAt units out names l n
  covers-not-at covers v v_there kept p wf by =
      let same : u.clause ≡ v = same_Some u.clause v (there ∙ v_there) in
      true≢false
      (sym ((subst (λ (b : BankClause). CoversOrNot (clause_at b) names l false) same covers p wf).1 by))

  pub left-out : is_kept out n ≡ false → CoversNotAt units out names l n
  left-out gone v v_there kept p wf by = true≢false (sym kept ∙ gone)

pub no-unit : (units : List Member) (out : Option ℕ) (names : List NameLit) (l : TreeLiteral) (n : ℕ) → clause_numbered n units ≡ None → CoversNotAt units out names l n
no-unit units out names l n none v v_there kept p wf by = let wrong : Some v ≡ None = sym v_there ∙ none in absurd cc

-- ---- all units

-- each unit has one literal
pub alone-indexed :
    (lefts : List (Tree × ℕ)) (es : List (ℕ × Member)) → AreIndexedAt lefts es
    → (n : ℕ) (u : BankClause) → clause_numbered n (map member_of es) ≡ Some u → HasOneLiteral (clause_at u)
alone-indexed lefts es at n u there =
    let found = by_number.from-map clause_of_member (lookup (nat_eq n) es) u (sym (by_number.numbered clause_of_member n es) ∙ there) in
    ap (λ (d : BankClause). length (clause_at d).literals) (sym found.2) ∙ ap length (at n found.0 found.1).alone

-- what covers a literal comes into question
covers-may : (p : ℕ → Bool) (k l : TreeLiteral) → Becomes p k l → may_cover k l ≡ true
covers-may p k l b =
    let same : SameLiteral (literal_instance b.matcher k) l = (equivalent_literals-decided (literal_instance b.matcher k) l).0 b.becomes in
    ⊎_elim
    (λ e.
    or_left (compatible_generalisation k.left l.left) (compatible_generalisation k.left l.right)
    (generalisation-compatible k.left l.left b.matcher e.0))
    (λ e.
    or_right (compatible_generalisation k.left l.left) (compatible_generalisation k.left l.right)
    (generalisation-compatible k.left l.right b.matcher e.0))
    same.1

-- no unit covers one of the first literals
abbrev pub NoneCovers : ℕ → List Member → Option ℕ → TreeClause → Type 0
NoneCovers i units out c =
    (j : ℕ) (l : TreeLiteral) → j < i → slice_get c.literals j ≡ Some l → (n : ℕ) → CoversNotAt units out c.names l n

module _ (units : List Member) (out : Option ℕ) (c : TreeClause) where
  none-covers :
      (l : TreeLiteral) (numbers : List ℕ) → HasCandidates units l numbers → ((n : ℕ) → IsIn n numbers → CoversNotAt units out c.names l n)
      → (n : ℕ) → CoversNotAt units out c.names l n
  none-covers l numbers candidates none n u there kept p wf by =
      none n (candidates n u by.literal there by.is_unit (covers-may p by.literal l by.becomes)) u there kept p wf by

  pub one-more-uncovered :
      (i : ℕ) (here : TreeLiteral) (numbers : List ℕ)
      → slice_get c.literals i ≡ Some here → HasCandidates units here numbers → ((n : ℕ) → IsIn n numbers → CoversNotAt units out c.names here n)
      → NoneCovers i units out c → NoneCovers (i + 1) units out c
  one-more-uncovered i here numbers at candidates none before j l less there =
      ⊎_elim
      (λ (same : j ≡ i).
      subst (λ (k : TreeLiteral). (n : ℕ) → CoversNotAt units out c.names k n) (same_Some here l (sym at ∙ ap (slice_get c.literals) (sym same) ∙ there))
      (none-covers here numbers candidates none))
      (λ r. ⊎_elim (λ below. before j l below there) (λ above. absurd (omega (arith, less, above))) r)
      (cases_order j i)

  -- the literals of a unit and of the clause are well-formed
  literals-of : (usage : SymbolUse) (u : TreeClause) (j : ℕ) (l : TreeLiteral) → AreOfUse usage u c → slice_get c.literals j ≡ Some l → AreLiteralsOf usage.is_predicate u l
  literals-of usage u j l wf there = record {
    unit = λ k alone. literal-kind usage u 0 k wf.first (ap (λ (ls : List TreeLiteral). slice_get ls 0) alone);
    literal = literal-kind usage c j l wf.second there;
  }

  -- a unit that covers a literal subsumes the clause
  from-covering : (p : ℕ → Bool) (u : TreeClause) (j : ℕ) (l : TreeLiteral) → slice_get c.literals j ≡ Some l → Covers p u c.names l → Subsumes p u c
  from-covering p u j l there covers = record {
    matcher = covers.becomes.matcher;
    function_terms = covers.becomes.function_terms;
    places = j ∷ [];
    different = refl;
    mapped =
        ap (λ (ls : List TreeLiteral). stand_at covers.becomes.matcher ls (j ∷ []) c.literals) covers.is_unit
        ∙ and_from (is_there (literal_instance covers.becomes.matcher covers.literal) (slice_get c.literals j)) true
        (ap (is_there (literal_instance covers.becomes.matcher covers.literal)) there ∙ covers.becomes.becomes) refl;
    asserted = covers.asserted;
  }

  pub subsumer-at : (j : ℕ) (l : TreeLiteral) (n : ℕ) → slice_get c.literals j ≡ Some l → IsCoveringAt units out c.names l n → IsSubsumerAt units out c n
  subsumer-at j l n there at = record {
    unit = at.unit;
    there = at.there;
    kept = at.kept;
    subsumes = λ usage wf.
        from-covering usage.is_predicate (clause_at at.unit) j l there
        (at.covers usage.is_predicate (literals-of usage (clause_at at.unit) j l wf there));
  }

  -- and a unit that subsumes the clause covers a literal
  record HasCovered (p : ℕ → Bool) (u : TreeClause) : Type 0 where
    j : ℕ
    literal : TreeLiteral
    there : slice_get c.literals j ≡ Some literal
    covers : Covers p u c.names literal

  at-place :
      (p : ℕ → Bool) (u : TreeClause) (k : TreeLiteral) (σ : Substitution) (j : ℕ) (o : Option TreeLiteral)
      → u.literals ≡ k ∷ [] → PutsFunctionTerms p σ → is_among (assertions u.names) (assertions c.names) ≡ true
      → slice_get c.literals j ≡ o → is_there (literal_instance σ k) o ≡ true → HasCovered p u
  at-place p u k σ j None alone puts among at h = absurd (true≢false (sym h))
  at-place p u k σ j (Some l) alone puts among at h = record {
    j = j;
    literal = l;
    there = at;
    covers = record { literal = k; is_unit = alone; becomes = record { matcher = σ; function_terms = puts; becomes = h }; asserted = among };
  }

  to-covering : (p : ℕ → Bool) (u : TreeClause) (k : TreeLiteral) → u.literals ≡ k ∷ [] → (s : Subsumes p u c) → HasCovered p u
  to-covering p u k alone s = by s.places (ap (λ (ls : List TreeLiteral). stand_at s.matcher ls s.places c.literals) (sym alone) ∙ s.mapped)
    where
      by : (places : List ℕ) → stand_at s.matcher (k ∷ []) places c.literals ≡ true → HasCovered p u
      by [] h = absurd (true≢false (sym h))
      by (j ∷ places) h =
          at-place p u k s.matcher j (slice_get c.literals j) alone s.function_terms s.asserted refl
          (and_parts (is_there (literal_instance s.matcher k) (slice_get c.literals j)) (stand_at s.matcher [] places c.literals) h).0

  pub no-subsumer :
      (i : ℕ) → length c.literals ≤ i → ((n : ℕ) (u : BankClause) → clause_numbered n units ≡ Some u → HasOneLiteral (clause_at u))
      → NoneCovers i units out c
      → (n : ℕ) (u : BankClause) → clause_numbered n units ≡ Some u → is_kept out n ≡ true → SubsumesNever (clause_at u) c
  no-subsumer i all each none n u there kept usage wf s =
      let only = one (clause_at u).literals (each n u there) in
      let found = to-covering usage.is_predicate (clause_at u) only.0 only.1 s in
      none found.j found.literal (omega (arith, slice_get_within c.literals found.j found.literal found.there, all)) found.there
      n u there kept usage.is_predicate (literals-of usage (clause_at u) found.j found.literal wf found.there) found.covers
    where
      one : (ls : List TreeLiteral) → length ls ≡ 1 → (l : TreeLiteral) × (ls ≡ l ∷ [])
      one [] h = absurd (omega (arith, h))
      one (l ∷ []) h = (l, refl)
      one (l ∷ m ∷ ls) h = absurd (omega (arith, h))
