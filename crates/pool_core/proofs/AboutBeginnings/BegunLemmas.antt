-- A pool as it begins: its fields are those of the record with the inputs.
use Rattle.std.proofs.Common.{◌≡◌, ℕ, ◌%◌, ◌≤◌, true, List, [], map, length, ap, sym, ◌∙◌, subst, arith}
use Rattle.std.specs.Prelude.{Option, None, Some, slice_get, unwrap_or, option_map, vec_len, vec_capacity, All}
use Rattle.std.specs.List.{list_all}
use Rattle.std.proofs.lemmas.List.Elements.{All-nil}
use Rattle.std.proofs.lemmas.Option.{none-some}
use Rattle.plain_types.specs.declared.sequence.NameLit.{NameLit}
use Rattle.fol_base.specs.Clause.{TreeClause}
use Rattle.fol_base.specs.Subsumption.{assertions}
use Rattle.kernel_steps.specs.Conclusion.{empty_clause}
use Rattle.sat_core.specs.Clause.{literal_true, valuation_of}
use Rattle.term_bank.specs.declared.bank.Bank.{Bank}
use Rattle.pool_core.specs.CountedList.{keys_in}
use Rattle.pool_history.specs.Tags.{name_of_tag}
use Rattle.pool_history.specs.Record.{PoolRecord, Registered, clause_numbered, is_awake_under, jobs_out, nothing_registered}
use Rattle.pool_history.specs.Replay.{start, replay}
use Rattle.pool_core.specs.KeptEvents.{events_of}
use Rattle.pool_history.specs.News.{changes_from}
use Rattle.pool_core.specs.Noted.{IsNoted, change_at}
use Rattle.pool_history.specs.Inputs.{AreInputs, IsLimit}
use Rattle.pool_history.specs.Lawful.{IsLawful}
use Rattle.pool_core.specs.State.{origin_of, job_entry, solver_job, HasNodes, IsProofStateOf, IsStateOf, IsPool}
use Rattle.pool_history.specs.declared.event.Event.{Event}
use Rattle.pool_core.specs.declared.pool.Pool.TheInside.{Inside}
use Rattle.pool_history.proofs.AboutRecords.FrameLemmas.{Registers, inputs-register}

-- ---- clauses without names

pub awake-without : (r : PoolRecord) (c : TreeClause) → c.names ≡ [] → is_awake_under (valuation_of r.model) r.parts c ≡ true
awake-without r c no_names = ap (λ (ns : List NameLit). list_all (λ tag. literal_true (valuation_of r.model) (name_of_tag r.parts tag)) (assertions ns)) no_names

pub numbered : (r : PoolRecord) (n : ℕ) (x : Registered) → slice_get r.registered n ≡ Some x → clause_numbered r n ≡ x.clause
numbered r n x there = ap (λ (o : Option Registered). unwrap_or (option_map (λ (y : Registered). y.clause) o) empty_clause) there

-- ---- the pool

module _ (a : Inside) (bank : Bank) (r : PoolRecord) where
  begun-state :
      a.table.bank ≡ bank → IsProofStateOf bank a.table a.proof r → Registers nothing_registered r
      → a.positions.items ≡ [] → a.jobs.entries ≡ [] → keys_in a.counted ≡ [] → a.set_aside.items ≡ [] → a.last_job ≡ 0 → a.place_in_round ≡ 0 → a.solver ≡ None
      → HasNodes a.proof 0 → vec_len a.history.events ≤ vec_capacity a.history.events → vec_len a.notes_before ≤ vec_capacity a.notes_before
      → IsStateOf a r
  begun-state same_bank is registers positions jobs counted set_aside last_job place solver nodes room notes_room = record {
    proof = subst (λ (b : Bank). IsProofStateOf b a.table a.proof r) (sym same_bank) is;
    positions = positions ∙ sym (ap (λ (t : PoolRecord). t.positions) registers.same);
    jobs = jobs ∙ sym (ap (λ (t : PoolRecord). map job_entry t.given) registers.same);
    counted = counted ∙ sym (ap (λ (t : PoolRecord). t.counted) registers.same);
    set_aside = set_aside ∙ sym (ap (λ (t : PoolRecord). t.set_aside) registers.same);
    last_job = last_job ∙ sym (ap (λ (t : PoolRecord). t.jobs) registers.same);
    place = place ∙ sym (ap (λ (t : PoolRecord). t.claims % 6) registers.same);
    solver = ap (option_map solver_job) solver ∙ sym (ap (λ (t : PoolRecord). t.solver) registers.same);
    queue_room = nodes;
    history_room = let none : jobs_out r ≡ 0 = ap (λ (t : PoolRecord). jobs_out t) registers.same in omega (arith, none, room);
    notes_room = let none : jobs_out r ≡ 0 = ap (λ (t : PoolRecord). jobs_out t) registers.same in omega (arith, none, notes_room);
  }

pub begun :
    (a : Inside) (bank : Bank)
    → a.table.bank ≡ bank
    → IsProofStateOf bank a.table a.proof (start (origin_of a))
    → a.positions.items ≡ [] → a.jobs.entries ≡ [] → keys_in a.counted ≡ [] → a.set_aside.items ≡ [] → a.last_job ≡ 0 → a.place_in_round ≡ 0 → a.solver ≡ None
    → HasNodes a.proof 0 → vec_len a.history.events ≤ vec_capacity a.history.events → vec_len a.notes_before ≤ vec_capacity a.notes_before
    → events_of a.history ≡ [] → a.proof.notes.items ≡ [] → a.notes_before.items ≡ []
    → AreInputs (origin_of a).inputs → IsLimit a.options
    → IsPool a
begun a bank same_bank is positions jobs counted set_aside last_job place solver nodes room notes_room events notes before inputs limit =
    record {
      inputs = inputs;
      limit = limit;
      lawful = λ usage used. subst (λ (h : List Event). IsLawful usage.is_predicate (origin_of a) h) (sym events) tt;
      state =
          subst (λ (h : List Event). IsStateOf a (replay (origin_of a) h)) (sym events)
          (begun-state a bank (start (origin_of a)) same_bank is (inputs-register a.options.split 0 (origin_of a).inputs nothing_registered) positions jobs
          counted set_aside last_job place solver nodes room notes_room);
      news =
          record {
            all =
                ap (map (change_at a.proof.register.clauses)) notes
                ∙ sym (ap (changes_from a.options (start (origin_of a))) events);
            noted = subst (All (IsNoted (length a.proof.register.clauses))) (sym notes) (All-nil (IsNoted (length a.proof.register.clauses)));
            count = ap length before ∙ sym (ap length events);
            before = λ k n there. absurd (none-some n (ap (λ xs. slice_get xs k) (sym before) ∙ there));
          };
    }
