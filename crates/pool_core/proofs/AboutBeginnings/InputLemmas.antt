-- An input comes as a result by one line does.
use Rattle.std.proofs.Common.{◌≡◌, ℕ, ◌+◌, ◌<◌, ◌≤◌, Bool, true, false, List, [], ◌∷◌, map, refl, ap, ap₂, sym, ◌∙◌, subst, true≢false, arith}
use Rattle.std.specs.Prelude.{Option, None, Some, is_none, is_some, slice_get, if◌then◌else◌, All}
use Rattle.std.proofs.lemmas.List.Elements.{All-nil, All-cons}
use Rattle.std.proofs.lemmas.Option.{none-some}
use Rattle.plain_types.specs.declared.sequence.NameLit.{NameLit}
use Rattle.fol_base.specs.Canonical.{IsCanonical}
use Rattle.fol_base.specs.Clause.{TreeClause, clause_size}
use Rattle.fol_base.specs.Literal.{clause_of, literal_of}
use Rattle.fol_base.specs.Term.{tree_of}
use Rattle.fol_base.specs.WellFormed.{SymbolUse, are_literals_of}
use Rattle.fol_base.specs.declared.clause.Clause.{Clause}
use Rattle.fol_base.specs.declared.clause.Literal.{Literal}
use Rattle.fol_base.specs.declared.limits.TheConstants.{MOST_SYMBOLS}
use Rattle.fol_base.specs.declared.term.Term.{Term}
use Rattle.fol_base.specs.declared.term.Term.TheVariants.{Var, App}
use Rattle.fol_base.proofs.AboutTerms.TreeLemmas.{list_of-trees_of}
use Rattle.kernel_steps.specs.Split.{has_number}
use Rattle.kernel_steps.specs.FromTrees.{term_from, literal_from, clause_from, line_of}
use Rattle.kernel_steps.specs.declared.step.Step.TheVariants.{Clausify}
use Rattle.kernel_steps.specs.declared.step.Line.{Line}
use Rattle.kernel_steps.specs.declared.step.TheConstants.{CLAUSE_NUMBERS}
use Rattle.term_bank.specs.declared.bank.Bank.{Bank}
use Rattle.term_bank.specs.declared.table.Table.{Table}
use Rattle.bank_clause.specs.Clause.{AreAssertions}
use Rattle.pool_history.specs.Counting.{result_comes}
use Rattle.pool_history.specs.Lines.{pool_line}
use Rattle.pool_history.specs.Record.{PoolRecord, Registered, GivenJob, Death, nothing_registered}
use Rattle.pool_history.specs.Registering.{comes, has_none, unless_ended}
use Rattle.pool_history.specs.Tags.{line_names}
use Rattle.pool_history.specs.declared.outcome.Outcome.{Outcome}
use Rattle.pool_core.specs.Placing.{AreHandedIn, HasParentsBelow, IsFitResult}
use Rattle.pool_core.specs.Splits.{HasTags, AreSplitsOf, split_view}
use Rattle.pool_core.specs.Started.{registered_at, IsOfTable, with_input}
use Rattle.pool_core.specs.State.{IsProofStateOf}
use Rattle.pool_core.specs.declared.pool.ProofState.{ProofState}
use Rattle.pool_core.proofs.AboutSplits.HandedLemmas.{parts-fit}

-- the line by which an input comes
abbrev pub input_line : ℕ → Clause → Line
input_line i copy = record { step = Clausify i; clause = copy }

-- ---- the program's clause for that over trees is the clause itself

term-again : (t : Term) → term_from (tree_of t) ≡ t
term-again (Var v) = refl
term-again (App f ts) = ap (App f) (list_of-trees_of ts)

literals-again : (ls : List Literal) → map literal_from (map literal_of ls) ≡ ls
literals-again [] = refl
literals-again (l ∷ ls) = ap₂ (λ (m : Literal) (ms : List Literal). m ∷ ms) (λ j. record { positive = l.positive; left = term-again l.left j; right = term-again l.right j }) (literals-again ls)

clause-again : (c : Clause) → clause_from (clause_of c) ≡ c
clause-again c = λ j. record { literals = literals-again c.literals j; names = c.names }

-- ---- what arrives by the line

pub input-fit :
    (split : Bool) (i : ℕ) (input copy : Clause) (parts : List Clause) (usage : SymbolUse)
    → clause_of copy ≡ clause_of input → input.names ≡ [] → IsCanonical (clause_of input) → clause_size (clause_of input) ≤ MOST_SYMBOLS
    → are_literals_of usage (clause_of input).literals ≡ true → AreHandedIn split (clause_of input) parts
    → IsFitResult split 0 (input_line i copy ∷ []) parts
input-fit split i input copy parts usage copied bare canonical small formed given = record {
  clause = clause_of input;
  lead = record {
    led = ap (λ (d : TreeClause). let o : Option TreeClause = Some d in o) copied;
    asserts =
        subst AreAssertions (sym bare)
        (record { negative = All-nil (λ (n : NameLit). n.positive ≡ false); rise = λ k within. absurd (omega (arith, within)) });
    met = subst (All (λ (n : NameLit). n.name < 0)) (sym bare) (All-nil (λ (n : NameLit). n.name < 0));
    plain = refl;
    parents = All-cons (HasParentsBelow (CLAUSE_NUMBERS + 1)) (input_line i copy) [] tt (All-nil (HasParentsBelow (CLAUSE_NUMBERS + 1)));
  };
  given = given;
  fit = λ many. parts-fit (clause_of input) usage formed small split parts given many;
  canonical = canonical;
  small = small;
}

-- it comes as an input
pub input-comes :
    (split : Bool) (i : ℕ) (copy : Clause) (r : PoolRecord) → (clause_of copy).names ≡ []
    → result_comes split r (input_line i copy ∷ []) ≡ with_input split i (clause_of copy) r
input-comes split i copy r bare =
    ap (λ (l : Line). unless_ended (comes split (l ∷ []) (clause_of copy)) r) line
  where
    line : pool_line r (input_line i copy) ≡ line_of (Clausify i) (clause_of copy)
    line =
        ap (λ (ns : List NameLit). let l : Line = record { step = Clausify i; clause = record copy { names = ns } } in l) (ap (line_names r.parts) bare ∙ sym bare)
        ∙ ap (λ (d : Clause). let l : Line = record { step = Clausify i; clause = d } in l) (sym (clause-again copy))

-- nothing comes once the pool has ended
pub input-ended :
    (bank : Bank) (table : Table) (s : ProofState) (split : Bool) (r : PoolRecord) (i : ℕ) (c : TreeClause)
    → is_some s.ended ≡ true → IsProofStateOf bank table s r → IsProofStateOf bank table s (with_input split i c r)
input-ended bank table s split r i c ended is =
    subst (IsProofStateOf bank table s)
    (sym (ap (λ b. if b then comes split (line_of (Clausify i) c ∷ []) c r else r) (closed r.ended (ap (λ o. is_some o) (sym is.ended) ∙ ended)))) is
  where
    closed : (o : Option Outcome) → is_some o ≡ true → is_none o ≡ false
    closed None h = absurd (true≢false (sym h))
    closed (Some outcome) h = refl

-- the state that has nothing
pub nothing-state :
    (bank : Bank) (table : Table) (s : ProofState)
    → s.register.clauses ≡ [] → s.queue.pairs ≡ [] → s.steps.items ≡ [] → s.ended ≡ None → AreSplitsOf (split_view s.splits) [] [] [] [] 0
    → s.asserting.entries ≡ [] → IsProofStateOf bank table s nothing_registered
nothing-state bank table s register queue steps ended splits asserting = record {
  registered = ap (map registered_at) register;
  of_table = subst (All (IsOfTable bank table)) (sym register) (All-nil (IsOfTable bank table));
  registrations = λ n z there. absurd (none-some z (ap (λ xs. slice_get xs n) (sym register) ∙ there));
  queue = queue;
  steps = steps;
  ended = ended;
  splits = splits;
  tags = All-nil (HasTags 0);
  asserting = asserting;
  of_registered = record {
    positions = All-nil (λ (n : ℕ). n < 0);
    active = All-nil (λ (n : ℕ). n < 0);
    given = All-nil (λ (j : GivenJob). j.number < 0);
    placed = All-nil (λ (j : GivenJob). has_number j.number [] ≡ true);
    victims = All-nil (λ (d : Death). d.victim < 0);
  };
  no_empty = λ none. All-nil (λ (x : Registered). has_none x.clause.literals ≡ false);
}
