-- The chains of a right log become lines: each is a kernel step on the names of the lines that it cites, and the last line is empty.
use Rattle.std.proofs.Common.{◌≡◌, ℕ, zero, suc, ◌+◌, ◌-◌, ◌≤◌, true, false, ◌==◌, List, [], ◌∷◌, ◌++◌, map, length, take, refl, ap, ap₂, sym, ◌∙◌, subst, ⊎_elim, arith}
use Rattle.std.specs.Prelude.{Option, None, Some, nat_lt, slice_get, option_map, option_and_then, unwrap_or, fold, if◌then◌else◌}
use Rattle.std.specs.List.{last_or, AllByRecursion}
use Rattle.std.proofs.lemmas.Bool.{true≢false, cond-true, cond-false, lt-ltb, le-ltb}
use Rattle.std.proofs.lemmas.List.{length-append}
use Rattle.std.proofs.lemmas.Option.{none-some, same_Some, option_and_then_some}
use Rattle.plain_types.specs.declared.sequence.NameLit.{NameLit}
use Rattle.plain_types.specs.Names.{has_name, can_resolve, resolvent}
use Rattle.fol_base.specs.Clause.{TreeClause}
use Rattle.fol_base.specs.Literal.{clause_of}
use Rattle.fol_base.specs.WellFormed.{SymbolUse}
use Rattle.fol_base.proofs.WorkedExamples.TestLemmas.{option_map-some}
use Rattle.kernel_steps.specs.Names.{sorted_names, chained}
use Rattle.kernel_steps.specs.Parents.{Parent, all_there}
use Rattle.kernel_steps.specs.Conclusion.{verdict, verdict_of, concludes, names_alone, names_at, clause_of_names}
use Rattle.kernel_steps.specs.Derivation.{under_names, introduces_name, is_clause_step, line_parent, line_parents}
use Rattle.kernel_steps.specs.FromTrees.{line_of}
use Rattle.kernel_steps.specs.declared.step.Line.{Line}
use Rattle.kernel_steps.proofs.AboutNames.NameTruth.{has_name-sorted_names}
use Rattle.kernel_steps.proofs.AboutNames.NameRanks.{sorted_names-sorted}
use Rattle.kernel_steps.proofs.AboutCalls.LineLemmas.{slice_get-take, slice_get-last}
use Rattle.sat_core.specs.Clause.{PropClause}
use Rattle.sat_core.specs.Answer.{IsRightLog}
use Rattle.sat_core.specs.Resolution.{link_clause, links_clause, chain_clause, log_clauses, ends_empty}
use Rattle.sat_core.specs.State.{SameLiterals}
use Rattle.sat_core.specs.declared.answer.Link.{Link}
use Rattle.sat_core.specs.declared.answer.Chain as log
use Rattle.pool_history.specs.Chains.{cited, pivots_of}
use Rattle.pool_history.specs.Record.{PoolRecord, SolverJob, PropositionalClause, propositional_clauses}
use Rattle.pool_history.specs.Solving.{handed, cited_line, chain_step, clause_concluded, with_step}
use Rattle.pool_history.specs.Derived.{IsPoolLine, ArePoolLines}
use Rattle.pool_history.specs.declared.outcome.Outcome.TheVariants.{Refuted}
use Rattle.pool_history.proofs.AboutRecords.ItemLemmas.{all-at}
use Rattle.pool_history.proofs.AboutLines.JoinedLemmas.{get-left, get-cases, get-mapped, BehindAt}
use Rattle.pool_history.proofs.AboutLines.LogLemmas.{chains_are_steps}
use Rattle.pool_history.proofs.AboutLines.WrittenLemmas.{clause-written, written-line}
use Rattle.pool_history.proofs.AboutLines.NameTableLemmas.{AreNamed, named-joined}
use Rattle.pool_history.proofs.AboutLines.PoolLineLemmas.{parent-there, EndsWith, Sound, lines-joined}
use Rattle.pool_history.proofs.AboutLines.SplitLineLemmas.{line-goes-on}

-- ---- the names of lines

-- a line's names are found in a longer list
names-longer :
    (lines more : List Line) (k : ℕ) (ns : List NameLit) → names_at (line_parents lines) k ≡ Some ns → names_at (line_parents (lines ++ more)) k ≡ Some ns
names-longer lines more k ns h =
    option_and_then_some names_alone (line_parents lines k) ns h λ p p_is alone.
    option_and_then_some line_parent (slice_get lines k) p p_is λ line line_is parent.
    ap (λ (o : Option Line). option_and_then names_alone (option_and_then line_parent o)) (get-left lines more k line line_is)
    ∙ ap (λ (o : Option Parent). option_and_then names_alone o) parent ∙ alone

-- those of a line without literals
names-there :
    (lines : List Line) (k : ℕ) (line : Line) (ns : List NameLit)
    → slice_get lines k ≡ Some line → is_clause_step line.step ≡ true → clause_of line.clause ≡ under_names [] ns
    → names_at (line_parents lines) k ≡ Some ns
names-there lines k line ns there is_clause gives =
    ap (λ (o : Option Parent). option_and_then names_alone o) (parent-there lines k line there is_clause)
    ∙ ap (λ (c : TreeClause). let o : Option (List NameLit) = if length c.literals == 0 then Some c.names else None in o) gives

-- ---- what a chain cites

-- the clause of that number is known
abbrev IsKnown : List PropClause → ℕ → Type 0
IsKnown known n = (d : PropClause) × (slice_get known n ≡ Some d)

links-known :
    (known : List PropClause) (c made : PropClause) (links : List Link)
    → links_clause known c links ≡ Some made → AllByRecursion (IsKnown known) (map (λ (l : Link). l.number) links)
links-known known c made [] h = tt
links-known known c made (l ∷ links) h =
    option_and_then_some (λ (x : PropClause). links_clause known x links) (link_clause known c l) made h
    (λ x first rest.
    option_and_then_some (λ (d : PropClause). let o : Option PropClause = if can_resolve l.pivot c d then Some (resolvent l.pivot c d) else None in o)
    (slice_get known l.number) x first
    (λ d at kept. ((d, at), links-known known x made links rest)))

chain-known : (known : List PropClause) (chain : log.Chain) (made : PropClause) → chain_clause known chain ≡ Some made → AllByRecursion (IsKnown known) (cited chain)
chain-known known chain made h =
    option_and_then_some (λ (c : PropClause). links_clause known c chain.links) (slice_get known chain.start) made h
    (λ c at rest. ((c, at), links-known known c made chain.links rest))

-- ---- a chain as a step

-- the lines at the numbers of the known clauses have, as sets, those clauses
abbrev Stand : (ℕ → ℕ) → List Line → List PropClause → Type 0
Stand number lines known =
    (n : ℕ) (c : PropClause) → slice_get known n ≡ Some c
    → (ns : List NameLit) × (names_at (line_parents lines) (number n) ≡ Some ns) × SameLiterals ns c

module _ (number : ℕ → ℕ) (lines : List Line) (known : List PropClause) (stand : Stand number lines known) where
  abbrev names : ℕ → List NameLit
  names n = unwrap_or (names_at (line_parents lines) (number n)) []

  there-all :
      (ns : List ℕ) → AllByRecursion (IsKnown known) ns → all_there (map (names_at (line_parents lines)) (map number ns)) ≡ Some (map names ns)
  there-all [] all = refl
  there-all (n ∷ ns) all =
      let at = stand n all.0.0 all.0.1 in
      let here : names_at (line_parents lines) (number n) ≡ Some (names n) = at.1 ∙ ap Some (sym (ap (λ o. unwrap_or o []) at.1)) in
      ap₂ (λ (o : Option (List NameLit)) (os : Option (List (List NameLit))). option_and_then (λ x. option_map (λ xs. x ∷ xs) os) o)
      here (there-all ns all.1)

  chain-concludes :
      (chain : log.Chain) (made : PropClause) → chain_clause known chain ≡ Some made
      → verdict (chain_step number chain) (line_parents lines) ≡ concludes (under_names [] (sorted_names made))
  chain-concludes chain made h =
      ap (λ (o : Option (List (List NameLit))). verdict_of (option_map clause_of_names (option_and_then (λ nss. chained nss (pivots_of chain)) o)))
      (numbers-same ∙ there-all (cited chain) (chain-known known chain made h))
      ∙ ap (λ (o : Option (List NameLit)). verdict_of (option_map clause_of_names o))
      (chains_are_steps known chain made names h
      (λ n c at.
      let it = stand n c at in
      λ l. ap (λ (o : Option (List NameLit)). has_name l (unwrap_or o [])) it.1 ∙ it.2 l))
    where
      both : (links : List Link) → map (λ (l : Link). number l.number) links ≡ map number (map (λ (l : Link). l.number) links)
      both [] = refl
      both (l ∷ links) = ap (λ ns. number l.number ∷ ns) (both links)

      numbers-same :
          all_there (map (names_at (line_parents lines)) (number chain.start ∷ map (λ (l : Link). number l.number) chain.links))
          ≡ all_there (map (names_at (line_parents lines)) (map number (cited chain)))
      numbers-same = ap (λ ns. all_there (map (names_at (line_parents lines)) (number chain.start ∷ ns))) (both chain.links)

-- ---- the last clause of a log

last-empty : (o : Option PropClause) (made : List PropClause) → ends_empty made ≡ true → last_or o made ≡ Some []
last-empty o [] h = absurd (true≢false (sym h))
last-empty o ([] ∷ []) h = refl
last-empty o ((l ∷ ls) ∷ []) h = absurd (true≢false (sym h))
last-empty o (c ∷ d ∷ ds) h = last-empty (Some c) (d ∷ ds) h

-- ---- the lines of a log

module _ (usage : SymbolUse) (inputs : List TreeClause) (r : PoolRecord) (s : SolverJob) where
  abbrev number : ℕ → ℕ
  number = cited_line r s (length r.lines)

  -- so many chains are among the lines, of which the last has the clause
  record HasChains (count : ℕ) (last : Option PropClause) (lines : List Line) : Type 0 where
    made : ArePoolLines usage inputs lines
    named : AreNamed r.parts lines
    kept : (k : ℕ) (line : Line) → slice_get r.lines k ≡ Some line → slice_get lines k ≡ Some line
    long : length lines ≡ length r.lines + count
    ends : (c : PropClause) → last ≡ Some c → EndsWith usage inputs lines (under_names [] (sorted_names c))

  next-number : (count : ℕ) → number (s.clauses + count) ≡ length r.lines + count
  next-number count =
      let past : s.clauses ≤ s.clauses + count = omega arith in
      let more : length r.lines + ((s.clauses + count) - s.clauses) ≡ length r.lines + count = omega arith in
      cond-false (nat_lt (s.clauses + count) s.clauses) (unwrap_or (option_map (λ (c : PropositionalClause). c.line) (slice_get r.propositional (s.clauses + count))) 0)
      (length r.lines + ((s.clauses + count) - s.clauses)) (le-ltb (s.clauses + count) s.clauses past)
      ∙ more

  module _
      (count : ℕ) (last : Option PropClause) (lines : List Line) (known : List PropClause) (has : HasChains count last lines)
      (stand : Stand number lines known) (all_known : length known ≡ s.clauses + count) (chain : log.Chain) (c : PropClause)
      (gives : chain_clause known chain ≡ Some c) where
    abbrev made_clause : TreeClause
    made_clause = under_names [] (sorted_names c)

    abbrev made_line : Line
    made_line = line_of (chain_step number chain) made_clause

    concluded : verdict (chain_step number chain) (line_parents lines) ≡ concludes made_clause
    concluded = chain-concludes number lines known stand chain c gives

    stepped : with_step lines (chain_step number chain) ≡ lines ++ made_line ∷ []
    stepped = ap (λ v. lines ++ line_of (chain_step number chain) (clause_concluded v) ∷ []) concluded

    alone : (k : ℕ) (l : Line) → slice_get (made_line ∷ []) k ≡ Some l → introduces_name l.step ≡ false
    alone zero l at = subst (λ (m : Line). introduces_name m.step ≡ false) (same_Some made_line l at) refl
    alone (suc k) l at = absurd (none-some l at)

    chain-has : HasChains (count + 1) (Some c) (lines ++ made_line ∷ [])
    chain-has = record {
      made =
          lines-joined usage inputs lines (made_line ∷ []) has.made
          (line-goes-on usage inputs lines (chain_step number chain) made_clause concluded
          (written-line usage (chain_step number chain) made_clause refl refl refl (sorted_names-sorted c) refl (omega arith)) refl
          (λ test truth pass. refl));
      named = named-joined r.parts lines (made_line ∷ []) alone has.named;
      kept = λ k line there. get-left lines (made_line ∷ []) k line (has.kept k line there);
      long =
          (let count_one : length (lines ++ made_line ∷ []) ≡ length lines + 1 = length-append lines (made_line ∷ []) in
          let before = has.long in
          omega (arith, count_one, before));
      ends =
          λ d same. record {
            last = made_line;
            ends = record { before = lines; ends = refl };
            gives = clause-written made_clause ∙ ap (λ e. under_names [] (sorted_names e)) (same_Some c d same);
          };
    }

    chain-stands : Stand number (lines ++ made_line ∷ []) (known ++ c ∷ [])
    chain-stands n d there =
        ⊎_elim
        (λ (before : slice_get known n ≡ Some d). let at = stand n d before in (at.0, names-longer lines (made_line ∷ []) (number n) at.0 at.1, at.2))
        (λ (at : BehindAt known (c ∷ []) n d). here at.place at.whole at.there)
        (get-cases known (c ∷ []) n d there)
      where
        here :
            (place : ℕ) → n ≡ length known + place → slice_get (c ∷ []) place ≡ Some d
            → (ns : List NameLit) × (names_at (line_parents (lines ++ made_line ∷ [])) (number n) ≡ Some ns) × SameLiterals ns d
        here zero whole there =
            let is : n ≡ s.clauses + count = omega (arith, whole, all_known) in
            let before = has.long in
            let place : number n ≡ length lines = ap number is ∙ next-number count ∙ sym before in (
              sorted_names c,
              ap (names_at (line_parents (lines ++ made_line ∷ []))) place
                  ∙ names-there (lines ++ made_line ∷ []) (length lines) made_line (sorted_names c) (slice_get-last lines made_line) refl (clause-written made_clause),
              λ l. has_name-sorted_names l c ∙ ap (has_name l) (same_Some c d there),
            )
        here (suc k) whole there = absurd (none-some d there)

  log-has :
      (chains : List log.Chain) (made known : List PropClause) (count : ℕ) (last : Option PropClause) (lines : List Line)
      → log_clauses known chains ≡ Some made → HasChains count last lines → Stand number lines known → length known ≡ s.clauses + count
      → HasChains (count + length chains) (last_or last made) (fold with_step lines (map (chain_step number) chains))
  log-has [] made known count last lines h has stand all_known =
      let same : [] ≡ made = same_Some [] made h in
      let none : count ≡ count + 0 = omega arith in
      subst (λ ms. HasChains (count + 0) (last_or last ms) lines) same (subst (λ n. HasChains n last lines) none has)
  log-has (chain ∷ chains) made known count last lines h has stand all_known =
      option_and_then_some (λ (c : PropClause). option_map (λ more. c ∷ more) (log_clauses (known ++ c ∷ []) chains)) (chain_clause known chain) made h
      λ c c_is rest.
      option_map-some (λ more. c ∷ more) (log_clauses (known ++ c ∷ []) chains) made rest λ more more_is whole.
      let line : Line = made_line count last lines known has stand all_known chain c c_is in
      let longer : length (known ++ c ∷ []) ≡ length known + 1 = length-append known (c ∷ []) in
      let later =
      log-has chains more (known ++ c ∷ []) (count + 1) (Some c) (lines ++ line ∷ []) more_is (chain-has count last lines known has stand all_known chain c c_is)
      (chain-stands count last lines known has stand all_known chain c c_is) (omega (arith, longer, all_known)) in
      let counted : count + 1 + length chains ≡ count + suc (length chains) = omega arith in
      subst (λ ms. HasChains (count + suc (length chains)) (last_or last ms) (fold with_step (with_step lines (chain_step number chain)) (map (chain_step number) chains))) whole
      (subst (λ ls. HasChains (count + suc (length chains)) (last_or (Some c) more) (fold with_step ls (map (chain_step number) chains)))
      (sym (stepped count last lines known has stand all_known chain c c_is))
      (subst (λ n. HasChains n (last_or (Some c) more) (fold with_step (lines ++ line ∷ []) (map (chain_step number) chains))) counted later))

  -- ---- what was handed to the solver

  handed-stands : Sound usage inputs r → Stand number r.lines (handed r s)
  handed-stands sound n c there =
      let front = slice_get-take (propositional_clauses r) s.clauses n c there in
      let at = get-mapped (λ (p : PropositionalClause). p.names) r.propositional n c front.1 in
      let line = sound.over_names n at.item at.there in
      let place : number n ≡ at.item.line =
      cond-true (nat_lt n s.clauses) (unwrap_or (option_map (λ (p : PropositionalClause). p.line) (slice_get r.propositional n)) 0)
      (length r.lines + (n - s.clauses)) (lt-ltb n s.clauses front.0)
      ∙ ap (λ (o : Option PropositionalClause). unwrap_or (option_map (λ (p : PropositionalClause). p.line) o) 0) at.there in (
        at.item.names,
        ap (names_at (line_parents r.lines)) place
            ∙ names-there r.lines at.item.line line.line at.item.names line.there (all-at (IsPoolLine usage) r.lines at.item.line line.line sound.made.each line.there).step line.gives,
        λ l. ap (has_name l) at.gives,
      )

  handed-count : Sound usage inputs r → r.solver ≡ Some s → length (handed r s) ≡ s.clauses + 0
  handed-count sound out =
      let few = sound.handed_few s out in
      let names_count : length (propositional_clauses r) ≡ length r.propositional = lengths r.propositional in
      taken (propositional_clauses r) s.clauses (omega (arith, few, names_count))
    where
      lengths : (ps : List PropositionalClause) → length (map (λ (p : PropositionalClause). p.names) ps) ≡ length ps
      lengths [] = refl
      lengths (p ∷ ps) = ap suc (lengths ps)

      taken : {X : Type 0} (xs : List X) (n : ℕ) → n ≤ length xs → length (take n xs) ≡ n + 0
      taken xs zero few = omega arith
      taken [] (suc n) few = absurd (omega (arith, few))
      taken (x ∷ xs) (suc n) few = let rest = taken xs n (omega (arith, few)) in omega (arith, rest)

  -- ---- a refutation

  pub refuted-sound :
      (chains : List log.Chain)
      → r.ended ≡ None → r.solver ≡ Some s → Sound usage inputs r → IsRightLog (handed r s) chains
      → Sound usage inputs (record r {
        solver = None;
        lines = fold with_step r.lines (map (chain_step number) chains);
        ended = Some Refuted;
      })
  refuted-sound chains is_open out sound right =
      let has =
      log-has chains right.made (handed r s) 0 None r.lines right.lawful
      (record {
        made = sound.made;
        named = sound.named;
        kept = λ k line there. there;
        long = omega arith;
        ends = λ c none. absurd (none-some c none);
      })
      (handed-stands sound) (handed-count sound out) in
      record {
        whole = sound.whole;
        lined =
            λ n x there.
            let at = sound.lined n x there in
            record { line = at.line; there = has.kept x.line at.line at.there; gives = at.gives };
        made = has.made;
        named = has.named;
        over_names =
            λ n p there.
            let at = sound.over_names n p there in
            record { line = at.line; there = has.kept p.line at.line at.there; gives = at.gives };
        handed_few = λ j none. absurd (none-some j none);
        bare = sound.bare;
        below = sound.below;
        refuted = λ h. has.ends [] (last-empty None right.made right.empty);
      }
