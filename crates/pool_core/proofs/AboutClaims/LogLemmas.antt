-- The chains of a log as lines.
use Rattle.std.proofs.Common.{◌≡◌, ℕ, zero, suc, ◌+◌, ◌-◌, ◌<◌, ◌≤◌, Bool, true, false, ◌||◌, List, [], ◌∷◌, ◌++◌, map, length, take, get_or, append-nil, append_assoc, length-take-le, get_or-take, refl, ap, ap₂, sym, ◌∙◌, subst, arith}
use Rattle.std.specs.Prelude.{Option, None, Some, fold, is_none, is_some, nat_lt, option_map, slice_get, unwrap_or, if◌then◌else◌, All}
use Rattle.std.specs.List.{list_any, AllByRecursion}
use Rattle.std.proofs.lemmas.Bool.{cond-true, cond-false, ltb-true, true≢false}
use Rattle.std.proofs.lemmas.List.{length-append, length-map, map-append}
use Rattle.std.proofs.lemmas.List.Elements.{All-from_recursion}
use Rattle.std.proofs.lemmas.Option.{none-some, option_and_then_some, slice_get_within}
use Rattle.plain_types.specs.declared.sequence.NameLit.{NameLit}
use Rattle.plain_types.specs.Names.{can_resolve, resolvent}
use Rattle.kernel_steps.specs.Conclusion.{verdict}
use Rattle.kernel_steps.specs.Derivation.{line_parents}
use Rattle.kernel_steps.specs.FromTrees.{line_of}
use Rattle.kernel_steps.specs.declared.step.Step.{Step}
use Rattle.kernel_steps.specs.declared.step.Line.{Line}
use Rattle.term_bank.specs.declared.bank.Bank.{Bank}
use Rattle.term_bank.specs.declared.table.Table.{Table}
use Rattle.sat_core.specs.declared.answer.Link.{Link}
use Rattle.sat_core.specs.declared.answer.Chain.{Chain}
use Rattle.sat_core.specs.Clause.{PropClause}
use Rattle.sat_core.specs.Resolution.{link_clause, links_clause, chain_clause, log_clauses}
use Rattle.pool_history.specs.Chains.{cited}
use Rattle.pool_history.specs.Lines.{introduces}
use Rattle.pool_history.specs.Record.{PoolRecord, SolverJob, PropositionalClause}
use Rattle.pool_history.specs.Solving.{cited_line, chain_step, clause_concluded, with_step, refuted_by}
use Rattle.pool_history.specs.declared.outcome.Outcome.{Outcome}
use Rattle.pool_history.specs.declared.outcome.Outcome.TheVariants.{Refuted}
use Rattle.pool_core.specs.Answered.{HasCitedBelow, line_cited}
use Rattle.pool_core.specs.Splits.{is_introduced, split_view}
use Rattle.pool_core.specs.State.{IsProofStateOf}
use Rattle.pool_core.specs.declared.pool.ProofState.{ProofState}
use Rattle.pool_core.proofs.AboutClaims.QuietLemmas.{recast}
use Rattle.pool_core.proofs.AboutSplits.SplitsLemmas.{splits-longer}

-- ---- what a right log cites

module _ (bound : ℕ) where
  known-below : (known : List PropClause) (n : ℕ) (c : PropClause) → length known ≤ bound → slice_get known n ≡ Some c → n < bound
  known-below known n c few there = let within = slice_get_within known n c there in omega (arith, few, within)

  links-below :
      (known : List PropClause) (c made : PropClause) (links : List Link)
      → length known ≤ bound → links_clause known c links ≡ Some made → AllByRecursion (λ n. n < bound) (map (λ (l : Link). l.number) links)
  links-below known c made [] few h = tt
  links-below known c made (l ∷ links) few h =
      option_and_then_some (λ (x : PropClause). links_clause known x links) (link_clause known c l) made h
      (λ x first rest.
      option_and_then_some (λ (d : PropClause). let o : Option PropClause = if can_resolve l.pivot c d then Some (resolvent l.pivot c d) else None in o)
      (slice_get known l.number) x first
      (λ d at kept. (known-below known l.number d few at, links-below known x made links few rest)))

  chain-below : (known : List PropClause) (chain : Chain) (made : PropClause) → length known ≤ bound → chain_clause known chain ≡ Some made → HasCitedBelow bound chain
  chain-below known chain made few h =
      option_and_then_some (λ (c : PropClause). links_clause known c chain.links) (slice_get known chain.start) made h
      (λ c at rest.
      All-from_recursion (λ n. n < bound) (cited chain) (known-below known chain.start c few at, links-below known c made chain.links few rest))

  -- the clauses of the chains before are known to each
  more-below :
      (chains : List Chain) (c : PropClause) (made : List PropClause) (o : Option (List PropClause))
      → option_map (λ more. c ∷ more) o ≡ Some made
      → ((more : List PropClause) → o ≡ Some more → AllByRecursion (HasCitedBelow bound) chains) → AllByRecursion (HasCitedBelow bound) chains
  more-below chains c made None h rest = absurd (none-some made h)
  more-below chains c made (Some more) h rest = rest more refl

  chains-below :
      (known : List PropClause) (chains : List Chain) (made : List PropClause)
      → length known + length chains ≤ bound → log_clauses known chains ≡ Some made → AllByRecursion (HasCitedBelow bound) chains
  chains-below known [] made few h = tt
  chains-below known (chain ∷ chains) made few h =
      option_and_then_some (λ (c : PropClause). option_map (λ more. c ∷ more) (log_clauses (known ++ c ∷ []) chains)) (chain_clause known chain) made h
      (λ c first rest. (
        chain-below known chain c (omega (arith, few)) first,
        more-below chains c made (log_clauses (known ++ c ∷ []) chains) rest
            (λ more is. chains-below (known ++ c ∷ []) chains more (let long = length-append known (c ∷ []) in omega (arith, few, long)) is),
      ))

pub log-cites :
    (count : ℕ) (known : List PropClause) (chains : List Chain) (made : List PropClause)
    → length known ≤ count → log_clauses known chains ≡ Some made → All (HasCitedBelow (count + length chains)) chains
log-cites count known chains made few h =
    All-from_recursion (HasCitedBelow (count + length chains)) chains (chains-below (count + length chains) known chains made (omega (arith, few)) h)

-- ---- the numbers of lines

-- the line of a clause
line-of-clause : (ps : List PropositionalClause) (n : ℕ) → get_or (map (λ (p : PropositionalClause). p.line) ps) n 0 ≡ unwrap_or (option_map (λ (p : PropositionalClause). p.line) (slice_get ps n)) 0
line-of-clause [] n = refl
line-of-clause (p ∷ ps) zero = refl
line-of-clause (p ∷ ps) (suc n) = line-of-clause ps n

-- what is cited has the line that the record tells
same-line :
    (r : PoolRecord) (s : SolverJob) (lines : List ℕ) (first n : ℕ)
    → lines ≡ map (λ (p : PropositionalClause). p.line) r.propositional → s.clauses ≤ length lines
    → line_cited (take s.clauses lines) first n ≡ cited_line r s first n
same-line r s lines first n are enough =
    ap (λ k. if nat_lt n k then get_or (take s.clauses lines) n 0 else first + (n - k)) (length-take-le s.clauses lines enough)
    ∙ by (nat_lt n s.clauses) refl
  where
    by :
        (b : Bool) → nat_lt n s.clauses ≡ b
        → (if b then get_or (take s.clauses lines) n 0 else first + (n - s.clauses))
        ≡ (if b then unwrap_or (option_map (λ (p : PropositionalClause). p.line) (slice_get r.propositional n)) 0 else first + (n - s.clauses))
    by true below =
        get_or-take s.clauses lines n 0 (ltb-true n s.clauses below)
        ∙ ap (λ (ns : List ℕ). get_or ns n 0) are ∙ line-of-clause r.propositional n
    by false past = refl

-- ---- lines of steps

-- steps put lines after those that are there
stepped : (steps : List Step) (lines : List Line) → (more : List Line) × (fold with_step lines steps ≡ lines ++ more) × (map (λ (l : Line). l.step) more ≡ steps)
stepped [] lines = ([], sym (append-nil lines), refl)
stepped (step ∷ steps) lines =
    let line : Line = line_of step (clause_concluded (verdict step (line_parents lines))) in
    let rest = stepped steps (with_step lines step) in
    (line ∷ rest.0, rest.1 ∙ append_assoc lines (line ∷ []) rest.0, ap (λ (ss : List Step). step ∷ ss) rest.2)

-- those of chains introduce no name
bare-chains : (number : ℕ → ℕ) (chains : List Chain) (n : NameLit) → list_any (introduces n) (map (chain_step number) chains) ≡ false
bare-chains number [] n = refl
bare-chains number (c ∷ cs) n = bare-chains number cs n

bare-lines : (n : NameLit) (lines : List Line) → is_introduced n lines ≡ list_any (introduces n) (map (λ (l : Line). l.step) lines)
bare-lines n [] = refl
bare-lines n (l ∷ ls) = ap (λ b. introduces n l.step || b) (bare-lines n ls)

-- ---- the pool is refuted

pub refuted-proof :
    (bank : Bank) (table : Table) (p q : ProofState) (r : PoolRecord) (s : SolverJob) (chains : List Chain)
    → is_some p.ended ≡ false → q ≡ record p { steps = q.steps; ended = q.ended }
    → q.steps.items ≡ p.steps.items ++ map (chain_step (line_cited (take s.clauses p.splits.propositional_lines.items) (length p.steps.items))) chains
    → q.ended ≡ Some Refuted → s.clauses ≤ length p.splits.propositional_lines.items
    → IsProofStateOf bank table p r → IsProofStateOf bank table q (refuted_by (Some s) chains r)
refuted-proof bank table p q r s chains open_yet same steps ended enough is =
    subst (λ (t : PoolRecord). IsProofStateOf bank table q t) (sym comes)
    (subst (λ (u : ProofState). IsProofStateOf bank table u now) (sym same) (record {
      registered = is.registered;
      of_table = is.of_table;
      registrations = λ n z there. let was = is.registrations n z there in record { position = was.position; death = was.death; active = was.active };
      queue = is.queue;
      steps =
          steps
          ∙ ap₂ (λ (xs ys : List Step). xs ++ ys) is.steps (ap (λ (f : ℕ → ℕ). map (chain_step f) chains) (λ i n. each n i) ∙ sym more.2)
          ∙ sym (map-append (λ (l : Line). l.step) r.lines more.0);
      ended = ended;
      splits =
          splits-longer (split_view p.splits) r.parts r.lines r.propositional r.model r.modelled more.0
          (λ n. bare-lines n more.0 ∙ ap (list_any (introduces n)) more.2 ∙ bare-chains (cited_line r s (length r.lines)) chains n) is.splits;
      tags = is.tags;
      asserting = is.asserting;
      of_registered = let told = is.of_registered in
          record { positions = told.positions; active = told.active; given = told.given; placed = told.placed; victims = told.victims };
      no_empty = λ none. absurd (none-some Refuted (sym none));
    }))
  where
    more : (ls : List Line)
        × (fold with_step r.lines (map (chain_step (cited_line r s (length r.lines))) chains) ≡ r.lines ++ ls)
        × (map (λ (l : Line). l.step) ls ≡ map (chain_step (cited_line r s (length r.lines))) chains)
    more = stepped (map (chain_step (cited_line r s (length r.lines))) chains) r.lines

    now : PoolRecord
    now = record r { solver = None; lines = r.lines ++ more.0; ended = Some Refuted }

    many : length p.steps.items ≡ length r.lines
    many = ap length is.steps ∙ length-map r.lines (λ (l : Line). l.step)

    each : (n : ℕ) → line_cited (take s.clauses p.splits.propositional_lines.items) (length p.steps.items) n ≡ cited_line r s (length r.lines) n
    each n =
        same-line r s p.splits.propositional_lines.items (length p.steps.items) n is.splits.propositional_lines enough
        ∙ ap (λ k. cited_line r s k n) many

    is_open : is_none r.ended ≡ true
    is_open = ap is_none (sym is.ended) ∙ by p.ended open_yet
      where
        by : (o : Option Outcome) → is_some o ≡ false → is_none o ≡ true
        by None h = refl
        by (Some o) h = absurd (true≢false h)

    comes : refuted_by (Some s) chains r ≡ now
    comes =
        cond-true (is_none r.ended) _ _ is_open
        ∙ ap (λ (ls : List Line). let t : PoolRecord = record r { solver = None; lines = ls; ended = Some Refuted } in t) more.1

-- once it is refuted or spent nothing comes
pub refuted-before :
    (bank : Bank) (table : Table) (p : ProofState) (r : PoolRecord) (s : SolverJob) (chains : List Chain)
    → is_some p.ended ≡ true → IsProofStateOf bank table p r → IsProofStateOf bank table p (refuted_by (Some s) chains r)
refuted-before bank table p r s chains ended is =
    subst (λ (t : PoolRecord). IsProofStateOf bank table p t) (sym (cond-false (is_none r.ended) _ _ closed))
    (recast bank table p r None r.jobs r.events is)
  where
    closed : is_none r.ended ≡ false
    closed = ap is_none (sym is.ended) ∙ by p.ended ended
      where
        by : (o : Option Outcome) → is_some o ≡ true → is_none o ≡ false
        by None h = absurd (true≢false (sym h))
        by (Some o) h = refl
