-- From the next line to a rewriting step of a reduced clause.
use Rattle.std.proofs.Common.{◌≡◌, ℕ, zero, suc, ◌+◌, ◌<◌, ◌≤◌, Bool, true, false, ◌&&◌, ◌==◌, nat_lt, List, [], ◌∷◌, append-nil, refl, ap, sym, ◌∙◌, subst, inl, arith}
use Rattle.std.specs.Prelude.{Option, None, Some, option_map, option_and_then, filter, IsTrue, if◌then◌else◌}
use Rattle.std.specs.List.{list_all}
use Rattle.std.proofs.lemmas.Bool.{and_from, and_parts, cond-true, cond-false, eq-eqb, lt-ltb, false_from_ne_true, ltb-true}
use Rattle.std.proofs.lemmas.List.Elements.{All-cons, All-nil, Contains-push}
use Rattle.std.proofs.lemmas.Option.{none-some, same_Some}
use Rattle.fol_base.specs.Instance.{Substitution, instance}
use Rattle.fol_base.specs.Clause.{TreeLiteral, TreeClause, clause_size, literal_instance}
use Rattle.fol_base.specs.Ground.{literals_instance}
use Rattle.fol_base.specs.Canonical.{IsCanonical, canonical_clause, canonical_renaming}
use Rattle.fol_base.specs.Literal.{clause_of}
use Rattle.fol_base.specs.Subsumption.{assertions, is_among}
use Rattle.fol_base.specs.WellFormed.{SymbolUse, are_literals_of}
use Rattle.fol_base.specs.declared.limits.TheConstants.{MOST_SYMBOLS}
use Rattle.kernel_steps.specs.Conclusion.{verdict, concludes}
use Rattle.kernel_steps.specs.Derivation.{AreSteps, continued}
use Rattle.kernel_steps.specs.Lines.{IsNumbered, clause_parents, clauses_named, is_on_literals, has_small_terms, step_parents}
use Rattle.kernel_steps.specs.Moves.{Move}
use Rattle.kernel_steps.specs.Names.{are_sorted}
use Rattle.kernel_steps.specs.Parents.{Parent, Parents}
use Rattle.kernel_steps.specs.Symbols.{symbols_pass, literal_symbols_pass, clause_symbols_pass}
use Rattle.kernel_steps.specs.declared.step.TheConstants.{CLAUSE_NUMBERS}
use Rattle.kernel_steps.specs.declared.step.Line.{Line}
use Rattle.kernel_steps.specs.declared.step.Reduced.{Reduced}
use Rattle.bank_clause.specs.Clause.{clause_at}
use Rattle.bank_clause.specs.declared.clause.BankClause.{BankClause}
use Rattle.bank_clause.specs.declared.member.Member.{Member}
use Rattle.reduced_clause.specs.Extending.{AreLinesOfMove, GoesOn, IsExtended, last_number, parents_with}
use Rattle.rewriting.specs.Units.{clause_numbered, is_kept, usable}
use Rattle.rewriting.specs.Redex.{AreNormal}
use Rattle.rewriting.specs.Laws.{AreWellFormed, MayRewrite, NoneRewrites}
use Rattle.rewriting.proofs.AboutRedexes.LawLemmas.{normal_clauses_stay}
use Rattle.demodulate.specs.Rank.{clause_rank}
use Rattle.demodulate.specs.Normal.{kept, AreSomeOf, IsLower, RewritesTo, IsRewritten, IsNextLine}
use Rattle.demodulate.specs.declared.step.NextLine.{NextLine}
use Rattle.demodulate.proofs.AboutSteps.StepParts.{of_found}
use Rattle.demodulate.proofs.AboutSteps.SymbolLemmas.{made-passes, instance-passes}
use Rattle.demodulate.proofs.AboutRanks.RankLemmas.{rank_falls, ranks_kept}
use Rattle.demodulate.proofs.AboutSteps.LineLemmas.{line_canonical, line_names, line_numbered, line_on_literals, line_parents, line_size, line_concluded, line_terms, line_small, line_symbols, line_rewrites, line_formed}

-- ---- which clauses may be used

pub usable-kept :
    (ms : List Member) (out : Option ℕ) (names : List ℕ) (n : ℕ) (d : TreeClause)
    → usable ms out names n ≡ Some d → (kept ms out n ≡ Some d) × (is_among (assertions d.names) names ≡ true)
usable-kept ms out names n d h = from (clause_numbered n ms) (is_kept out n) h
  where
    one :
        (c : BankClause) (b : Bool) → is_among (assertions (clause_at c).names) names ≡ b
        → (if b then Some (clause_at c) else None) ≡ Some d → (Some (clause_at c) ≡ Some d) × (is_among (assertions d.names) names ≡ true)
    one c true is e = (e, subst (λ (k : TreeClause). is_among (assertions k.names) names ≡ true) (same_Some (clause_at c) d e) is)
    one c false is e = absurd (none-some d e)

    from :
        (o : Option BankClause) (k : Bool)
        → option_and_then (λ (c : BankClause). if k && is_among (assertions (clause_at c).names) names then Some (clause_at c) else None) o ≡ Some d
        → ((if k then option_map clause_at o else None) ≡ Some d) × (is_among (assertions d.names) names ≡ true)
    from None k e = absurd (none-some d e)
    from (Some c) true e = one c (is_among (assertions (clause_at c).names) names) refl e
    from (Some c) false e = absurd (none-some d e)

kept-usable :
    (ms : List Member) (out : Option ℕ) (names : List ℕ) (n : ℕ) (d : TreeClause)
    → kept ms out n ≡ Some d → is_among (assertions d.names) names ≡ true → usable ms out names n ≡ Some d
kept-usable ms out names n d h among = from (clause_numbered n ms) (is_kept out n) h
  where
    from :
        (o : Option BankClause) (k : Bool) → (if k then option_map clause_at o else None) ≡ Some d
        → option_and_then (λ (c : BankClause). if k && is_among (assertions (clause_at c).names) names then Some (clause_at c) else None) o ≡ Some d
    from None true e = e
    from None false e = e
    from (Some c) true e =
        cond-true (is_among (assertions (clause_at c).names) names) (Some (clause_at c)) None
        (ap (λ (k : TreeClause). is_among (assertions k.names) names) (same_Some (clause_at c) d e) ∙ among)
        ∙ e
    from (Some c) false e = absurd (none-some d e)

pub left-normal :
    (usage : SymbolUse) (ms : List Member) (out : Option ℕ) (names : List ℕ) (c : TreeClause)
    → names ≡ assertions c.names → AreNormal (usable ms out names) c.literals
    → AreWellFormed usage (kept ms out) c → NoneRewrites usage.is_predicate (kept ms out) c
left-normal usage ms out names c names_are normal formed n unit d there r =
    normal_clauses_stay usage (usable ms out names) c
    (formed.0, λ k u h. formed.1 k u (usable-kept ms out names k u h).0)
    normal n unit d
    (kept-usable ms out names n unit there (ap (is_among (assertions unit.names)) names_are ∙ r.asserted)) r

-- ---- symbols

all-pass : (test : ℕ → ℕ → Bool) (σ : Substitution) → ((v : ℕ) → symbols_pass test (σ v) ≡ true) → (ls : List TreeLiteral)
    → list_all (literal_symbols_pass test) ls ≡ true → list_all (literal_symbols_pass test) (literals_instance σ ls) ≡ true
all-pass test σ puts [] h = refl
all-pass test σ puts (l ∷ ls) h =
    let both = and_parts (literal_symbols_pass test l) (list_all (literal_symbols_pass test) ls) h in
    let sides = and_parts (symbols_pass test l.left) (symbols_pass test l.right) both.0 in
    and_from (literal_symbols_pass test (literal_instance σ l)) (list_all (literal_symbols_pass test) (literals_instance σ ls))
    (and_from (symbols_pass test (instance σ l.left)) (symbols_pass test (instance σ l.right))
    (instance-passes test σ l.left (λ v there. puts v) sides.0)
    (instance-passes test σ l.right (λ v there. puts v) sides.1))
    (all-pass test σ puts ls both.1)

canonical-passes :
    (test : ℕ → ℕ → Bool) (c : TreeClause) → clause_symbols_pass test c ≡ true → clause_symbols_pass test (canonical_clause c) ≡ true
canonical-passes test c h = all-pass test (canonical_renaming c) (λ v. refl) c.literals h

-- ---- one line

module _ (all : ℕ → Option TreeClause) (number k : ℕ) (unit c : TreeClause) (there : all k ≡ Some unit) (low : k < CLAUSE_NUMBERS) (high : CLAUSE_NUMBERS ≤ number) where
  abbrev outer : Parents
  outer = parents_with (clause_parents all) number c

  abbrev before : Parents
  before = continued (number + 1) outer []

  unit-there : before k ≡ Some (record { clause = unit; introduces = false })
  unit-there =
      cond-true (nat_lt k (number + 1)) (outer k) _ (lt-ltb k (number + 1) (omega (arith, low, high)))
      ∙ cond-true (nat_lt k CLAUSE_NUMBERS) (clause_parents all k) _ (lt-ltb k CLAUSE_NUMBERS low)
      ∙ ap (option_map (λ (d : TreeClause). let p : Parent = record { clause = d; introduces = false } in p)) there

  not-low : nat_lt number CLAUSE_NUMBERS ≡ false
  not-low = false_from_ne_true (nat_lt number CLAUSE_NUMBERS) (λ e. absurd (omega (arith, ltb-true number CLAUSE_NUMBERS e, high)))

  here : Option Parent
  here = Some (record { clause = c; introduces = false })

  clause-there : before number ≡ Some (record { clause = c; introduces = false })
  clause-there =
      cond-true (nat_lt number (number + 1)) (outer number) _ (lt-ltb number (number + 1) (omega arith))
      ∙ cond-false (nat_lt number CLAUSE_NUMBERS) (clause_parents all number) _ not-low
      ∙ cond-true (number == number) (Some (record { clause = c; introduces = false })) None (eq-eqb number number refl)

  one-named : (line : Line) → step_parents line.step ≡ k ∷ number ∷ [] → clauses_named (line ∷ []) ≡ k ∷ []
  one-named line parents =
      ap (filter (λ n. nat_lt n CLAUSE_NUMBERS)) (append-nil (step_parents line.step) ∙ parents)
      ∙ cond-true (nat_lt k CLAUSE_NUMBERS) (k ∷ filter (λ n. nat_lt n CLAUSE_NUMBERS) (number ∷ [])) _ (lt-ltb k CLAUSE_NUMBERS low)
      ∙ ap (λ ns. k ∷ ns) (cond-false (nat_lt number CLAUSE_NUMBERS) (number ∷ []) [] not-low)

  one-step : (line : Line) → verdict line.step before ≡ concludes (clause_of line.clause) → AreSteps (number + 1) outer (line ∷ [])
  one-step line it zero other at =
      subst (λ (l : Line). verdict l.step before ≡ concludes (clause_of l.clause)) (same_Some line other at) it
  one-step line it (suc n) other at = absurd (none-some other at)

-- ---- the step

module _
    (ms : List Member) (out : Option ℕ) (names : List ℕ) (old new : Reduced) (parent : ℕ) (next : NextLine)
    (names_are : names ≡ assertions (clause_of old.clause).names) (sorted : are_sorted (clause_of old.clause).names ≡ true)
    (small : clause_size (clause_of old.clause) ≤ MOST_SYMBOLS) (parent_is : parent ≡ last_number old.lines)
    (it : IsNextLine (usable ms out names) (clause_of old.clause) parent next)
    (x : IsExtended old (Some next.unit) (next.line ∷ []) new) where
  abbrev c : TreeClause
  c = clause_of old.clause

  abbrev clauses : ℕ → Option TreeClause
  clauses = usable ms out names

  abbrev unit : TreeClause
  unit = it.found.rewrite.unit

  there : kept ms out next.unit ≡ Some unit
  there =
      ap (kept ms out) (sym it.of_unit) ∙ (usable-kept ms out names it.redex.rewrite.number unit it.found.rewrite.there).0

  may : MayRewrite clauses (assertions c.names)
  may n u h = ap (is_among (assertions u.names)) (sym names_are) ∙ (usable-kept ms out names n u h).1

  made : TreeClause
  made = it.line.made

  new-is : clause_of new.clause ≡ canonical_clause it.line.made
  new-is = x.clause ∙ it.line.clause

  lower : IsLower (kept ms out) c (clause_of new.clause)
  lower bound n some size have below =
      let r = of_found clauses c it.redex it.found it.line.made it.line.becomes in
      let unit_below : clause_symbols_pass (λ f arity. nat_lt f bound) unit ≡ true = have next.unit unit there in
      let falls : clause_rank bound n it.line.made < clause_rank bound n c = rank_falls bound n unit c it.line.made some size unit_below below r in
      let same : clause_rank bound n (clause_of new.clause) ≡ clause_rank bound n it.line.made =
      ap (clause_rank bound n) new-is ∙ ranks_kept bound n it.line.made in (
        omega (arith, falls, same),
        ap (clause_symbols_pass (λ f arity. nat_lt f bound)) new-is
            ∙ canonical-passes (λ f arity. nat_lt f bound) it.line.made
            (made-passes (λ f arity. nat_lt f bound) unit c it.line.made r unit_below below),
      )

  formed-among : (usage : SymbolUse) → AreWellFormed usage (kept ms out) c → AreWellFormed usage clauses c
  formed-among usage formed = (formed.0, λ n u h. formed.1 n u (usable-kept ms out names n u h).0)

  rewrites-to : (usage : SymbolUse) → AreWellFormed usage (kept ms out) c → RewritesTo usage.is_predicate unit c (clause_of new.clause)
  rewrites-to usage formed = record {
    result = it.line.made;
    rewrites =
        line_rewrites clauses c it.redex it.found parent next.line it.line usage may (formed-among usage formed) it.canonical it.asserted it.names sorted
        small;
    canonical = new-is;
  }

  module _
      (usage : SymbolUse) (all : ℕ → Option TreeClause) (some : AreSomeOf (kept ms out) all) (formed : AreWellFormed usage (kept ms out) c) where
    formed-here : AreWellFormed usage clauses c
    formed-here = formed-among usage formed

    unit-all : all next.unit ≡ Some unit
    unit-all = some next.unit unit there

    high : CLAUSE_NUMBERS ≤ parent
    high = omega (arith, parent_is)

    concluded :
        verdict next.line.step (continued (parent + 1) (parents_with (clause_parents all) parent c) []) ≡ concludes (clause_of next.line.clause)
    concluded =
        line_concluded clauses c it.redex it.found parent next.line it.line usage may formed-here it.canonical it.asserted it.names sorted small
        (continued (parent + 1) (parents_with (clause_parents all) parent c) []) false
        (ap (continued (parent + 1) (parents_with (clause_parents all) parent c) []) it.of_unit
        ∙ unit-there all parent next.unit unit c unit-all it.numbered high)
        (clause-there all parent next.unit unit c unit-all it.numbered high)

    abbrev move : Move
    move = record { by = Some next.unit; gives = canonical_clause it.line.made }

    makes : AreLinesOfMove usage.is_predicate all c parent move (next.line ∷ [])
    makes = record {
      are_lines =
          record {
            kinds = and_from (is_on_literals next.line.step) true (line_on_literals clauses c it.redex it.found parent next.line it.line) refl;
            steps = one-step all parent next.unit unit c unit-all it.numbered high next.line concluded;
            numbered =
                All-cons IsNumbered next.line [] (line_numbered clauses c it.redex it.found parent next.line it.line) (All-nil IsNumbered);
            terms =
                and_from _ true
                (line_terms clauses c it.redex it.found parent next.line it.line usage may formed-here it.canonical it.asserted it.names sorted small)
                refl;
            small =
                and_from (has_small_terms next.line) true
                (line_small clauses c it.redex it.found parent next.line it.line usage may formed-here it.canonical it.asserted it.names sorted small)
                refl;
          };
      named =
          one-named all parent next.unit unit c unit-all it.numbered high next.line
          (line_parents clauses c it.redex it.found parent next.line it.line ∙ ap (λ n. n ∷ parent ∷ []) it.of_unit);
      symbols = λ test truth pass each.
          and_from _ true
          (line_symbols clauses c it.redex it.found parent next.line it.line usage may formed-here it.canonical it.asserted it.names sorted small test
          (each unit (record { number = next.unit; listed = Contains-push [] next.unit; there = unit-all })) pass)
          refl;
      ends = sym it.line.clause;
      moved =
          record {
            result = it.line.made;
            step =
                record {
                  clause = unit;
                  there = unit-all;
                  infers =
                      inl
                      (line_rewrites clauses c it.redex it.found parent next.line it.line usage may formed-here it.canonical it.asserted it.names sorted small);
                };
            canonical = refl;
          };
    }

    goes-on : GoesOn usage.is_predicate all (Some next.unit) old new × IsTrue (are_literals_of usage (clause_of new.clause).literals)
    goes-on = (
      record {
        move = move;
        lines = next.line ∷ [];
        of_unit = refl;
        makes = subst (λ n. AreLinesOfMove usage.is_predicate all c n move (next.line ∷ [])) parent_is makes;
        extended = x;
      },
      ap (λ (d : TreeClause). are_literals_of usage d.literals) new-is
          ∙ line_formed clauses c it.redex it.found parent next.line it.line usage may formed-here it.canonical it.asserted it.names sorted small,
    )

  pub rewritten : IsRewritten (kept ms out) old new
  rewritten = record {
    number = next.unit;
    unit = unit;
    there = there;
    canonical =
        subst (λ (d : TreeClause). IsCanonical d) (sym x.clause) (line_canonical clauses c it.redex it.found parent next.line it.line);
    names = ap (λ (d : TreeClause). d.names) x.clause ∙ line_names clauses c it.redex it.found parent next.line it.line;
    size =
        let same : clause_size (clause_of new.clause) ≡ clause_size (clause_of next.line.clause) = ap clause_size x.clause in
        omega (arith, same, line_size clauses c it.redex it.found parent next.line it.line);
    lower = lower;
    rewrites = rewrites-to;
    goes_on = goes-on;
  }
