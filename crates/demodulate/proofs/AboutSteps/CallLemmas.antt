-- From the calls to the line of a rewrite.
use Rattle.std.proofs.Common.{◌≡◌, ℕ, ◌-◌, ◌<◌, ◌^◌, true, None, Some, List, [], ◌++◌, length, map, take, refl, ap, ap₂, sym, ◌∙◌, subst, arith}
use Rattle.std.specs.Prelude.{Option, flat_map, slice_get}
use Rattle.std.proofs.lemmas.List.{take_all}
use Rattle.std.proofs.lemmas.Option.{none-some, same_Some}
use Rattle.fol_base.specs.Tree.{Tree, variable, application, trees_of, list_of, trees_variables, VariablesBelow}
use Rattle.fol_base.specs.Instance.{instance, substitution}
use Rattle.fol_base.specs.Clause.{TreeLiteral, TreeClause, literal_variables, clause_variables, LiteralVariablesBelow}
use Rattle.fol_base.specs.Ground.{literals_instance}
use Rattle.fol_base.specs.Canonical.{bound_of, renaming, canonical_clause, IsCanonical}
use Rattle.fol_base.specs.Literal.{clause_of}
use Rattle.fol_base.specs.Numbering.{with_variables}
use Rattle.fol_base.specs.Rules.{superposed}
use Rattle.fol_base.specs.Sides.{side_of}
use Rattle.fol_base.proofs.AboutTerms.TreeLemmas.{list_of-trees_of, instances-trees_of}
use Rattle.fol_base.proofs.AboutCanonical.WalkLemmas.{left-kept}
use Rattle.kernel_steps.specs.declared.step.Step.TheVariants.{Para}
use Rattle.kernel_steps.specs.declared.step.Line.{Line}
use Rattle.unifier.specs.Matching.{by_pairs, are_below}
use Rattle.eq_rules.proofs.AboutConclusions.PremiseLemmas.{literal-below}
use Rattle.eq_rules.proofs.AboutConclusions.RenumberedLemmas.{variables_between, met_onward}
use Rattle.eq_rules.proofs.AboutConclusions.SideLemmas.{side-below}
use Rattle.bank_clause.specs.Clause.{clause_at}
use Rattle.bank_clause.specs.declared.clause.BankClause.{BankClause}
use Rattle.bank_clause.specs.declared.member.Member.{Member}
use Rattle.rewriting.specs.Searching.{IsFoundOf}
use Rattle.rewriting.specs.Units.{clause_numbered, usable}
use Rattle.rewriting.proofs.AboutSearches.SearchLemmas.{usable-from}
use Rattle.demodulate.specs.Normal.{IsNextLine}
use Rattle.rewriting.specs.Laws.{Becomes}
use Rattle.rewriting.specs.declared.searching.Found.{Found}
use Rattle.rewriting.proofs.AboutRedexes.LawLemmas.{redexes_give}
use Rattle.demodulate.specs.Steps.{always, matched_terms, IsLineOf}
use Rattle.kernel_steps.specs.Lines.{own_terms}
use Rattle.demodulate.proofs.AboutRanks.TermLemmas.{literals-stay, own-there}
use Rattle.eq_rules.proofs.AboutConclusions.ConclusionLemmas.{appended_variables}

-- ---- what the unit makes of the clause

module _ (u c : TreeClause) (f : Found) (found : IsFoundOf (always u) c.literals f) where
  unit-is : found.rewrite.unit ≡ u
  unit-is = sym (same_Some u found.rewrite.unit found.rewrite.there)

  -- as it is called
  module _
      (lent second : List TreeLiteral) (own : List Tree) (into : ℕ)
      (lent_is : lent ≡ u.literals) (second_is : second ≡ c.literals) (own_is : own ≡ own_terms c) (into_is : into ≡ f.literal) where
    abbrev called : Option (List TreeLiteral)
    called = superposed (literals_instance (by_pairs f.rewrite.terms) lent) 0 f.rewrite.side (literals_instance (substitution own) second) into f.side f.place

    own-stays : literals_instance (substitution own) second ≡ c.literals
    own-stays =
        ap (literals_instance (substitution own)) second_is
        ∙ ap (λ ts. literals_instance (substitution ts) c.literals) own_is
        ∙ literals-stay (substitution (own_terms c)) (own-there (bound_of (clause_variables c))) c.literals

    called-is : called ≡ superposed (literals_instance (by_pairs f.rewrite.terms) u.literals) 0 f.rewrite.side c.literals f.literal f.side f.place
    called-is =
        ap₂ (λ ls ks. superposed (literals_instance (by_pairs f.rewrite.terms) ls) 0 f.rewrite.side ks into f.side f.place) lent_is own-stays
        ∙ ap (λ k. superposed (literals_instance (by_pairs f.rewrite.terms) u.literals) 0 f.rewrite.side c.literals k f.side f.place) into_is

    pub gives-some : None ≡ called → ⊥
    gives-some none =
        let given = redexes_give (always u) c f found in
        none-some given.0.literals
        (none ∙ called-is
        ∙ ap (λ (d : TreeClause). superposed (literals_instance (by_pairs f.rewrite.terms) d.literals) 0 f.rewrite.side c.literals f.literal f.side f.place)
        (sym unit-is)
        ∙ given.1.gives)

    pub becomes : (d : TreeClause) → Some d.literals ≡ called → d.names ≡ c.names → Becomes u c f d
    becomes d some names = record { gives = sym (some ∙ called-is); names = names }

  -- the variables of the pairs
  pub pairs-below : (count : ℕ) → count ≡ bound_of (clause_variables u) → are_below count f.rewrite.terms ≡ true
  pairs-below count is =
      let e : TreeLiteral = found.rewrite.equation in
      let there : LiteralVariablesBelow (bound_of (clause_variables u)) e =
      literal-below u 0 e
      (ap (λ (ls : List TreeLiteral). slice_get ls 0) (ap (λ (d : TreeClause). d.literals) (sym unit-is) ∙ found.rewrite.alone)) in
      found.rewrite.matched.counted count
      (subst (λ k. VariablesBelow k (side_of f.rewrite.side e)) (sym is) (side-below (bound_of (clause_variables u)) f.rewrite.side e there))

-- ---- numbers

abbrev arguments_of : Tree → List Tree
arguments_of (variable v) = []
arguments_of (application f ts) = list_of ts

listed : (order : List ℕ) (terms : List Tree) → arguments_of (instance (renaming order) (application 0 (trees_of terms))) ≡ map (instance (renaming order)) terms
listed order terms = ap list_of (instances-trees_of (renaming order) terms) ∙ list_of-trees_of (map (instance (renaming order)) terms)

-- terms keep their numbers when others are walked
terms-kept :
    (order now new : List ℕ) (terms : List Tree) (vs : List ℕ)
    → now ≡ with_variables order (trees_variables (trees_of terms)) → new ≡ with_variables now vs
    → map (instance (renaming now)) terms ≡ map (instance (renaming new)) terms
terms-kept order now new terms vs before step =
    sym (listed now terms) ∙ ap arguments_of (left-kept order now new (application 0 (trees_of terms)) vs before step) ∙ listed new terms

pub line-is :
    (u c : TreeClause) (f : Found) (parent : ℕ) (made : TreeClause) (line : Line) (count : ℕ) (own terms first_bind second_bind : List Tree) (none walked now order : List ℕ)
    → Becomes u c f made → clause_of line.clause ≡ canonical_clause made
    → line.step ≡ Para f.rewrite.number parent 0 f.rewrite.side f.literal f.side f.place first_bind second_bind
    → own ≡ own_terms c → terms ≡ matched_terms u f
    → none ≡ [] → count ≡ length made.literals
    → walked ≡ with_variables none (variables_between (substitution own) made.literals 0 count)
    → now ≡ with_variables walked (trees_variables (trees_of terms)) → first_bind ≡ map (instance (renaming now)) terms
    → order ≡ with_variables now (trees_variables (trees_of own)) → second_bind ≡ map (instance (renaming order)) own
    → IsLineOf u c f parent line
line-is u c f parent made line count own terms first_bind second_bind none walked now order becomes clause step own_is terms_is none_is count_is walked_met now_met first_form order_met second_form =
    let stays : (ls : List TreeLiteral) → literals_instance (substitution own) ls ≡ ls =
    λ ls.
    ap (λ ts. literals_instance (substitution ts) ls) own_is
    ∙ literals-stay (substitution (own_terms c)) (own-there (bound_of (clause_variables c))) ls in
    let whole : take (count - 0) made.literals ≡ made.literals = take_all (count - 0) made.literals (omega (arith, count_is)) in
    let walked_is : walked ≡ with_variables [] (flat_map literal_variables made.literals) =
    walked_met
    ∙ ap₂ (λ o (ls : List TreeLiteral). with_variables o (flat_map literal_variables ls)) none_is (stays (take (count - 0) made.literals) ∙ whole) in
    record {
      made = made;
      becomes = becomes;
      clause = clause;
      first_bind = first_bind;
      second_bind = second_bind;
      step = step;
      order = order;
      met =
          met_onward walked now order (trees_variables (trees_of terms)) (trees_variables (trees_of own)) now_met order_met
          ∙ ap₂ with_variables walked_is
          (sym (appended_variables terms own) ∙ ap₂ (λ ts us. trees_variables (trees_of (ts ++ us))) terms_is own_is);
      first_numbered =
          first_form ∙ terms-kept walked now order terms (trees_variables (trees_of own)) now_met order_met
          ∙ ap (map (instance (renaming order))) terms_is;
      second_numbered = second_form ∙ ap (map (instance (renaming order))) own_is;
    }

-- ---- the next line

module _
    (ms : List Member) (out : Option ℕ) (names : List ℕ) (c : TreeClause) (f : Found) (found : IsFoundOf (usable ms out names) c.literals f) where
  looked-up : (u : BankClause) × (clause_numbered f.rewrite.number ms ≡ Some u) × (clause_at u ≡ found.rewrite.unit)
  looked-up = usable-from ms out names f.rewrite.number found.rewrite.unit found.rewrite.there

  pub some-unit : None ≡ clause_numbered f.rewrite.number ms → ⊥
  some-unit none = none-some looked-up.0 (none ∙ looked-up.1)

  module _ (u : BankClause) (there : Some u ≡ clause_numbered f.rewrite.number ms) where
    is-unit : clause_at u ≡ found.rewrite.unit
    is-unit = ap clause_at (same_Some u looked-up.0 (there ∙ looked-up.1)) ∙ looked-up.2

    pub always-found : IsFoundOf (always (clause_at u)) c.literals f
    always-found = record {
      literal = found.literal;
      literal_there = found.literal_there;
      old = found.old;
      old_there = found.old_there;
      rewrite =
          record {
            unit = found.rewrite.unit;
            there = ap (λ (d : TreeClause). let o : Option TreeClause = Some d in o) is-unit;
            equation = found.rewrite.equation;
            alone = found.rewrite.alone;
            positive = found.rewrite.positive;
            matched = found.rewrite.matched;
          };
    }

    pub next-is :
        (parent : ℕ) (line : Line) → IsLineOf (clause_at u) c f parent line → f.rewrite.number < 2 ^ 32 → IsCanonical (clause_at u)
        → IsNextLine (usable ms out names) c parent (record { unit = f.rewrite.number; line = line })
    next-is parent line it low canonical = record {
      redex = f;
      found = found;
      of_unit = refl;
      numbered = omega (arith, low);
      line = subst (λ (d : TreeClause). IsLineOf d c f parent line) is-unit it;
      canonical = subst (λ (d : TreeClause). IsCanonical d) is-unit canonical;
      asserted = u.names;
      names = ap (λ (d : TreeClause). d.names) (sym is-unit);
    }
