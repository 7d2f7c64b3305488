-- The inputs that are registered first are whole, and their lines are a derivation; so the laws on whole clauses and on lines.
use Rattle.std.proofs.Common.{◌≡◌, ℕ, zero, suc, ◌+◌, ◌-◌, ◌<◌, ◌≤◌, Bool, false, List, [], ◌∷◌, length, refl, ap, sym, ◌∙◌, subst, arith}
use Rattle.std.specs.Prelude.{Option, Some, All, is_none, option_map, slice_get}
use Rattle.std.proofs.lemmas.List.Elements.{All-nil}
use Rattle.std.proofs.lemmas.Option.{none-some, same_Some}
use Rattle.fol_base.specs.Clause.{TreeLiteral, TreeClause, clause_size}
use Rattle.fol_base.specs.Canonical.{IsCanonical}
use Rattle.fol_base.specs.Literal.{clause_of}
use Rattle.fol_base.specs.WellFormed.{SymbolUse, are_literals_of}
use Rattle.fol_base.specs.declared.limits.TheConstants.{MOST_SYMBOLS}
use Rattle.fol_base.proofs.WorkedExamples.TestLemmas.{list_all-item}
use Rattle.kernel_steps.specs.Derivation.{introduces_name, under_names}
use Rattle.kernel_steps.specs.Symbols.{clause_symbols_pass}
use Rattle.kernel_steps.specs.declared.step.Step.TheVariants.{Clausify}
use Rattle.kernel_steps.specs.declared.step.Line.{Line}
use Rattle.pool_history.specs.Record.{PoolRecord, Registered, PropositionalClause, nothing_registered}
use Rattle.kernel_steps.specs.FromTrees.{line_of}
use Rattle.pool_history.specs.Registering.{comes, unless_ended, with_inputs}
use Rattle.pool_history.specs.Inputs.{AreInputs, IsUseOf}
use Rattle.pool_history.specs.Wholeness.{IsWhole, RegisteredAreWhole}
use Rattle.pool_history.specs.Models.{NamesAreMet}
use Rattle.pool_history.specs.Derived.{IsPoolLine, ClausesHaveLines, LinesAreDerived, NamesRise, RefutedIsRefutation}
use Rattle.pool_history.specs.Lawful.{IsLawful}
use Rattle.pool_history.specs.Replay.{Origin, start, replay}
use Rattle.pool_history.specs.declared.event.Event.{Event}
use Rattle.pool_history.specs.declared.outcome.Outcome.TheVariants.{Refuted}
use Rattle.pool_history.proofs.AboutLines.JoinedLemmas.{by-test, all-from, last-there}
use Rattle.pool_history.proofs.AboutLines.PoolLineLemmas.{on_line, Sound, Continue}
use Rattle.pool_history.proofs.AboutLines.SoundLemmas.{comes-sound, open-is, history-sound}
use Rattle.pool_history.proofs.AboutLines.WrittenLemmas.{clause-written, written-line}
use Rattle.pool_history.proofs.AboutLines.AssertionLemmas.{assertions-from}
use Rattle.pool_history.proofs.AboutLines.SplitLineLemmas.{line-goes-on}
use Rattle.bank_clause.specs.Clause.{AreAssertions}
use Rattle.plain_types.specs.declared.sequence.NameLit.{NameLit}
use Rattle.kernel_steps.specs.Names.{are_sorted}
use Rattle.pool_history.specs.Tags.{line_names}
use Rattle.std.proofs.lemmas.Bool.{true≢false}
use Rattle.pool_history.proofs.AboutRecords.ItemLemmas.{all-at}

-- ---- inputs

module _ (usage : SymbolUse) (inputs : List TreeClause) where
  input-continues :
      (parts : List (List TreeLiteral)) (lines : List Line) (i : ℕ) (c : TreeClause)
      → slice_get inputs i ≡ Some c → c.names ≡ [] → IsWhole usage (length parts) c → Continue usage inputs parts lines (line_of (Clausify i) c ∷ []) c
  input-continues parts lines i c at nameless whole =
      let same : on_line parts c ≡ c = ap (under_names c.literals) (ap (line_names parts) nameless ∙ sym nameless) in
      record {
        whole = whole;
        go_on =
            line-goes-on usage inputs lines (Clausify i) c at
            (written-line usage (Clausify i) c refl refl whole.canonical (ap are_sorted nameless) whole.formed whole.small) refl
            (λ test truth pass. list_all-item (clause_symbols_pass test) inputs i c at pass);
        no_names = alone;
        ends = record { last = line_of (Clausify i) c; ends = record { before = []; ends = refl }; gives = clause-written c ∙ sym same };
      }
    where
      alone : (k : ℕ) (l : Line) → slice_get (line_of (Clausify i) c ∷ []) k ≡ Some l → introduces_name l.step ≡ false
      alone zero l there = subst (λ (m : Line). introduces_name m.step ≡ false) (same_Some (line_of (Clausify i) c) l there) refl
      alone (suc k) l there = absurd (none-some l there)

  -- the inputs from a place on
  abbrev AreFrom : ℕ → List TreeClause → Type 0
  AreFrom i cs = (k : ℕ) (c : TreeClause) → slice_get cs k ≡ Some c → (slice_get inputs (i + k) ≡ Some c) × (c.names ≡ []) × IsWhole usage 0 c

  inputs-sound :
      (split : Bool) (i : ℕ) (cs : List TreeClause) (r : PoolRecord)
      → AreFrom i cs → Sound usage inputs r → Sound usage inputs (with_inputs split i cs r)
  inputs-sound split i [] r from sound = sound
  inputs-sound split i (c ∷ cs) r from sound =
      let lines : List Line = line_of (Clausify i) c ∷ [] in
      let first = from zero c refl in
      inputs-sound split (suc i) cs (unless_ended (comes split lines c) r)
      (λ k d there. let at = from (suc k) d there in (ap (slice_get inputs) (let same : suc i + k ≡ i + suc k = omega arith in same) ∙ at.0, at.1, at.2))
      (by-test (Sound usage inputs) (is_none r.ended) (comes split lines c r) r
      (λ is_open.
      comes-sound usage inputs split lines c r (open-is r.ended is_open) sound
      (input-continues r.parts r.lines i c (ap (slice_get inputs) (let same : i ≡ i + zero = omega arith in same) ∙ first.0) first.1 (of-more (length r.parts) c first.2)))
      (λ ended. sound))
    where
      of-more : (count : ℕ) (c : TreeClause) → IsWhole usage 0 c → IsWhole usage count c
      of-more count c whole = record {
        canonical = whole.canonical;
        asserts = whole.asserts;
        met = λ k d within. let below = whole.met k d within in absurd (omega (arith, below));
        small = whole.small;
        formed = whole.formed;
      }

  nothing-sound : Sound usage inputs nothing_registered
  nothing-sound = record {
    whole = All-nil (λ (x : Registered). IsWhole usage 0 x.clause);
    lined = λ n x there. absurd (none-some x there);
    made = record {
      derived = λ n line there. absurd (none-some line there);
      each = All-nil (IsPoolLine usage);
      symbols = λ test truth pass. (refl, refl);
    };
    named = record {
      table = record { told = λ m n line there does. absurd (none-some line there); components = λ k within. absurd (omega (arith, within)) };
      signed = λ part there. absurd (true≢false (sym there));
      rise = refl;
    };
    over_names = λ n p there. absurd (none-some p there);
    handed_few = λ s none. absurd (none-some s none);
    bare = λ none. refl;
    below = refl;
    refuted = λ h. absurd (none-some Refuted h);
  }

-- ---- laws

module _
    (usage : SymbolUse) (origin : Origin) (history : List Event) (inputs : AreInputs origin.inputs) (used : IsUseOf origin.inputs usage)
    (lawful : IsLawful usage.is_predicate origin history) where
  input-nameless : (k : ℕ) (c : TreeClause) → slice_get origin.inputs k ≡ Some c → c.names ≡ []
  input-nameless k c there = all-at (λ (d : TreeClause). d.names ≡ []) origin.inputs k c inputs.no_names there

  input-whole : (k : ℕ) (c : TreeClause) → slice_get origin.inputs k ≡ Some c → IsWhole usage 0 c
  input-whole k c there = record {
    canonical = all-at IsCanonical origin.inputs k c inputs.canonical there;
    asserts = subst AreAssertions (sym (input-nameless k c there)) (assertions-from 0 [] refl refl);
    met = subst (λ ns. All (λ (n : NameLit). n.name < 0) ns) (sym (input-nameless k c there)) (All-nil (λ (n : NameLit). n.name < 0));
    small = all-at (λ (d : TreeClause). clause_size d ≤ MOST_SYMBOLS) origin.inputs k c inputs.small there;
    formed = list_all-item (λ (d : TreeClause). are_literals_of usage d.literals) origin.inputs k c there used;
  }

  pub replay-sound : Sound usage origin.inputs (replay origin history)
  replay-sound =
      history-sound usage origin.inputs origin.options history (start origin) lawful
      (inputs-sound usage origin.inputs origin.options.split 0 origin.inputs nothing_registered
      (λ k c there. (ap (slice_get origin.inputs) (let same : 0 + k ≡ k = omega arith in same) ∙ there, input-nameless k c there, input-whole k c there))
      (nothing-sound usage origin.inputs))

pub registered_are_whole : RegisteredAreWhole
registered_are_whole usage origin history inputs used lawful = (replay-sound usage origin history inputs used lawful).whole

pub lines_are_derived : LinesAreDerived
lines_are_derived usage origin history inputs used lawful = (replay-sound usage origin history inputs used lawful).made

pub clauses_have_lines : ClausesHaveLines
clauses_have_lines usage origin history inputs used lawful =
    let sound = replay-sound usage origin history inputs used lawful in
    let r : PoolRecord = replay origin history in
    let on : Option Line → Option TreeClause = λ o. option_map (λ (l : Line). clause_of l.clause) o in (
      all-from (λ (x : Registered). on (slice_get r.lines x.line) ≡ Some (on_line r.parts x.clause)) r.registered
          (λ n x there. let at = sound.lined n x there in ap on at.there ∙ ap Some at.gives),
      all-from (λ (p : PropositionalClause). on (slice_get r.lines p.line) ≡ Some (under_names [] p.names)) r.propositional
          (λ n p there. let at = sound.over_names n p there in ap on at.there ∙ ap Some at.gives),
    )

pub names_are_met : NamesAreMet
names_are_met usage origin history inputs used lawful = (replay-sound usage origin history inputs used lawful).below

pub names_rise : NamesRise
names_rise usage origin history inputs used lawful = (replay-sound usage origin history inputs used lawful).named.rise

pub refuted_is_refutation : RefutedIsRefutation
refuted_is_refutation usage origin history inputs used lawful refuted =
    let sound = replay-sound usage origin history inputs used lawful in
    let end = sound.refuted refuted in
    let lines : List Line = (replay origin history).lines in
    record {
      derived = sound.made.derived;
      before = end.ends.before;
      last = end.last;
      ends = end.ends.ends;
      is_clause = (all-at (IsPoolLine usage) lines (length lines - 1) end.last sound.made.each (last-there lines end.last end.ends)).step;
      is_empty = end.gives;
    }
