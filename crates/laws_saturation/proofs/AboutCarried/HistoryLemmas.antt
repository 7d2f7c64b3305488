-- Each event of a lawful history keeps the state of an open pool, and what is covered. The inputs that are registered first make both.
use Rattle.std.proofs.Common.{◌≡◌, ℕ, suc, ◌+◌, Bool, true, List, [], ◌∷◌, ◌++◌, map, length, append-nil, append_assoc, refl, ap, sym, ◌∙◌, subst, inr, ⊎_elim}
use Rattle.std.specs.Prelude.{Option, None, Some, is_none, fold}
use Rattle.std.specs.List.{list_all, AllByRecursion}
use Rattle.std.proofs.lemmas.Bool.{true≢false}
use Rattle.std.proofs.lemmas.Option.{none-some}
use Rattle.fol_base.specs.Clause.{TreeClause}
use Rattle.fol_base.specs.Symbols.{FunctionSymbols}
use Rattle.fol_base.specs.Subsumption.{assertions}
use Rattle.fol_base.specs.WellFormed.{SymbolUse}
use Rattle.kbo_order.proofs.AboutMultisets.MemberLemmas.{In}
use Rattle.kernel_steps.specs.Split.{has_number}
use Rattle.kernel_steps.specs.Symbols.{clause_symbols_pass}
use Rattle.kernel_steps.specs.declared.step.Step.TheVariants.{Clausify}
use Rattle.kernel_steps.specs.declared.step.Line.{Line}
use Rattle.literal_selection.specs.Mode.{mode_of}
use Rattle.laws_calculus.specs.Symbols.{is_allowed}
use Rattle.pool_history.specs.Record.{PoolRecord, SolverJob, given_job, nothing_registered}
use Rattle.kernel_steps.specs.FromTrees.{line_of}
use Rattle.pool_history.specs.Registering.{comes, unless_ended, with_inputs}
use Rattle.pool_history.specs.Claiming.{next_given, given_out, claimed_by}
use Rattle.pool_history.specs.Returning.{returns_to}
use Rattle.pool_history.specs.Solving.{cited_line, chain_step, with_step, modelled_by, refuted_by}
use Rattle.pool_history.specs.Replay.{with_events, after}
use Rattle.pool_history.specs.Lawful.{IsAllowed, IsLawfulFrom}
use Rattle.pool_history.specs.declared.options.Options.{Options}
use Rattle.pool_history.specs.declared.outcome.Outcome.TheVariants.{Refuted}
use Rattle.pool_history.specs.declared.event.Event.{Event}
use Rattle.pool_history.specs.declared.event.Event.TheVariants.{Claim, Return, Stale, Void, ClaimSolve, ReturnModel, ReturnRefuted, Abandon}
use Rattle.pool_history.proofs.AboutCounting.DeathLemmas.{registers-keeps}
use Rattle.pool_history.proofs.AboutRecords.FrameLemmas.{by-if, comes-registers, inputs-register, unless_ended-registers}
use Rattle.pool_history.proofs.AboutRecords.GrowthLemmas.{registers-grows}
use Rattle.pool_history.proofs.AboutLines.JoinedLemmas.{by-test}
use Rattle.pool_history.proofs.AboutRecords.PlaceLemmas.{Placed, after-placed}
use Rattle.pool_history.proofs.AboutLines.AssertionLemmas.{is_assertion_below}
use Rattle.pool_history.proofs.AboutLines.PoolLineLemmas.{Sound}
use Rattle.pool_history.proofs.AboutLines.SoundLemmas.{open-is, after-sound}
use Rattle.laws_saturation.specs.Found.{Find, event_finds, finds_from}
use Rattle.laws_calculus.proofs.AboutCovering.EachLemmas.{each-held}
use Rattle.laws_saturation.proofs.AboutCarried.CarriedLemmas.{HeldBy, Open}
use Rattle.laws_saturation.proofs.AboutCarried.ArrivalLemmas.{OpenWith, is-closed, comes-open}
use Rattle.laws_saturation.proofs.AboutCarried.AwakeLemmas.{NameChoice, holds, awake}
use Rattle.laws_saturation.proofs.AboutCarried.VictimLemmas.{Victims, none-registered, victims-keep}
use Rattle.laws_saturation.proofs.AboutCarried.MeetingLemmas.{IsToldRight, HaveMet}
use Rattle.laws_saturation.proofs.AboutCarried.StateLemmas.{WasFound, IsState, HasState, same-state, without-state, retold-told, claimed-state}
use Rattle.laws_saturation.proofs.AboutCarried.ReturnLemmas.{returned-state}
use Rattle.laws_saturation.proofs.AboutClosing.CoverageLemmas.{returned-covered}

module _ (usage : SymbolUse) (inputs : List TreeClause) (options : Options) where
  -- ---- the state

  -- with what the events so far found
  abbrev Stated : List Find → PoolRecord → Type 0
  Stated finds r = HasState usage.is_predicate options finds r

  -- an event that finds nothing
  nothing-found : (finds : List Find) (r : PoolRecord) → Stated finds r → Stated (finds ++ []) r
  nothing-found finds r stated = subst (λ fs. Stated fs r) (sym (append-nil finds)) stated

  after-state :
      (finds : List Find) (r : PoolRecord) (e : Event) → IsAllowed usage.is_predicate options r e → Placed r
      → Stated finds r → Stated (finds ++ event_finds r e) (after options r e)
  after-state finds r (Claim job) allowed placed stated =
      nothing-found finds (after options r (Claim job))
      (claimed-state usage.is_predicate options finds job r placed (after-placed options r (Claim job) placed) stated)
  after-state finds r (Return batch) allowed placed stated = λ h.
      same-state usage.is_predicate options (finds ++ event_finds r (Return batch)) (returns_to options batch (given_job r batch.job) r) _
      (returned-state usage.is_predicate options finds batch allowed.given r placed allowed.out allowed.says stated h)
  after-state finds r (Stale job justifier) allowed placed stated =
      nothing-found finds (after options r (Stale job justifier))
      (λ h.
      let state = stated h in
      record {
        victims = state.victims;
        told = retold-told usage.is_predicate options finds job r r.given placed.registered state.told;
        met = state.met;
      })
  after-state finds r (Void job) allowed placed stated =
      nothing-found finds (after options r (Void job))
      (λ h.
      let state = without-state usage.is_predicate options finds r job (stated h) in
      record { victims = state.victims; told = state.told; met = state.met })
  after-state finds r (ClaimSolve job) allowed placed stated =
      nothing-found finds (after options r (ClaimSolve job))
      (λ h. let state = stated h in record { victims = state.victims; told = state.told; met = state.met })
  after-state finds r (ReturnModel job truths) allowed placed stated =
      nothing-found finds (after options r (ReturnModel job truths)) (by r.solver)
    where
      by : (o : Option SolverJob) → Stated finds (with_events (r.events + 1) (modelled_by o truths r))
      by None = λ h. same-state usage.is_predicate options finds r (r.events + 1) (stated h)
      by (Some s) = λ h. let state = stated h in record { victims = state.victims; told = state.told; met = state.met }
  after-state finds r (ReturnRefuted job chains) allowed placed stated =
      nothing-found finds (after options r (ReturnRefuted job chains)) (by r.solver)
    where
      by : (o : Option SolverJob) → Stated finds (with_events (r.events + 1) (refuted_by o chains r))
      by None = λ h. same-state usage.is_predicate options finds r (r.events + 1) (stated h)
      by (Some s) =
          by-if (λ t. Stated finds (with_events (r.events + 1) t)) (is_none r.ended)
          (record r { solver = None; lines = fold with_step r.lines (map (chain_step (cited_line r s (length r.lines))) chains); ended = Some Refuted })
          (record r { solver = None })
          (λ h. absurd (none-some Refuted (sym h)))
          (λ h. let state = stated h in record { victims = state.victims; told = state.told; met = state.met })
  after-state finds r (Abandon job) allowed placed stated =
      nothing-found finds (after options r (Abandon job))
      (λ h.
      let state = without-state usage.is_predicate options finds r job (stated h) in
      record { victims = state.victims; told = state.told; met = state.met })

  -- what histories reach
  pub record Reaches (finds : List Find) (r : PoolRecord) : Type 0 where
    pub sound : Sound usage inputs r
    pub placed : Placed r
    pub stated : Stated finds r

  after-reaches :
      (finds : List Find) (r : PoolRecord) (e : Event) → IsAllowed usage.is_predicate options r e → Reaches finds r
      → Reaches (finds ++ event_finds r e) (after options r e)
  after-reaches finds r e allowed reaches = record {
    sound = after-sound usage inputs options r e allowed reaches.sound;
    placed = after-placed options r e reaches.placed;
    stated = after-state finds r e allowed reaches.placed reaches.stated;
  }

  pub history-reaches :
      (finds : List Find) (es : List Event) (r : PoolRecord) → IsLawfulFrom usage.is_predicate options r es → Reaches finds r
      → Reaches (finds ++ finds_from options r es) (fold (after options) r es)
  history-reaches finds [] r lawful reaches = subst (λ fs. Reaches fs r) (sym (append-nil finds)) reaches
  history-reaches finds (e ∷ es) r lawful reaches =
      subst (λ fs. Reaches fs (fold (after options) (after options r e) es))
      (append_assoc finds (event_finds r e) (finds_from options (after options r e) es))
      (history-reaches (finds ++ event_finds r e) es (after options r e) lawful.1 (after-reaches finds r e lawful.0 reaches))

  -- the beginning
  abbrev begun : PoolRecord
  begun = with_inputs options.split 0 inputs nothing_registered

  pub started-state : IsState usage.is_predicate options [] begun
  started-state =
      let registers = inputs-register options.split 0 inputs nothing_registered in
      let grown = registers-grows nothing_registered begun registers in
      record {
        victims = victims-keep nothing_registered begun (registers-keeps nothing_registered begun registers) none-registered;
        told = subst (AllByRecursion (IsToldRight options.inferences begun.positions begun.deaths begun.counted)) (sym grown.given) tt;
        met =
            subst (λ ns. HaveMet usage.is_predicate (mode_of options.select) begun.registered begun.positions ns begun.deaths (WasFound begun.counted [])) (sym grown.active)
            (record { placed = refl; met = λ last there. absurd (true≢false (sym there)) });
      }

  -- ---- coverage

  module _
      (choice : NameChoice) (functions : FunctionSymbols usage.is_predicate)
      (inputs_pass : list_all (clause_symbols_pass (is_allowed functions)) inputs ≡ true) where
    abbrev Carries : PoolRecord → Type 0
    Carries r = OpenWith choice functions (mode_of options.select) inputs [] r

    after-covered : (r : PoolRecord) (e : Event) → IsAllowed usage.is_predicate options r e → (finds : List Find) → Reaches finds r → Carries r → Carries (after options r e)
    after-covered r (Claim job) allowed finds reaches carries = claimed-covered (next_given r)
      where
        claimed-covered : (o : Option ℕ) → Carries (claimed_by options job o r)
        claimed-covered None = carries
        claimed-covered (Some n) =
            by-if (λ s. Carries (given_out options job n s)) (has_number n r.positions) r (record r { positions = r.positions ++ n ∷ [] }) carries carries
    after-covered r (Return batch) allowed finds reaches carries =
        returned-covered usage functions inputs inputs_pass choice options batch allowed.given r reaches.sound (λ h. (reaches.stated h).victims)
        allowed.out allowed.says carries
    after-covered r (Stale job justifier) allowed finds reaches carries = carries
    after-covered r (Void job) allowed finds reaches carries = carries
    after-covered r (ClaimSolve job) allowed finds reaches carries = carries
    after-covered r (ReturnModel job truths) allowed finds reaches carries = by r.solver
      where
        by : (o : Option SolverJob) → Carries (modelled_by o truths r)
        by None = carries
        by (Some s) = carries
    after-covered r (ReturnRefuted job chains) allowed finds reaches carries = by r.solver
      where
        by : (o : Option SolverJob) → Carries (refuted_by o chains r)
        by None = carries
        by (Some s) =
            by-if Carries (is_none r.ended)
            (record r { solver = None; lines = fold with_step r.lines (map (chain_step (cited_line r s (length r.lines))) chains); ended = Some Refuted })
            (record r { solver = None }) (λ h. absurd (none-some Refuted (sym h))) carries
    after-covered r (Abandon job) allowed finds reaches carries = carries

    pub history-covered :
        (finds : List Find) (es : List Event) (r : PoolRecord) → IsLawfulFrom usage.is_predicate options r es → Reaches finds r → Carries r
        → Carries (fold (after options) r es)
    history-covered finds [] r lawful reaches carries = carries
    history-covered finds (e ∷ es) r lawful reaches carries =
        history-covered (finds ++ event_finds r e) es (after options r e) lawful.1 (after-reaches finds r e lawful.0 reaches)
        (after-covered r e lawful.0 finds reaches carries)

    -- the inputs are registered in order
    inputs-open :
        (split : Bool) (i : ℕ) (cs : List TreeClause) (r : PoolRecord)
        → AllByRecursion (λ (c : TreeClause). c.names ≡ []) cs → Victims r
        → OpenWith choice functions (mode_of options.select) inputs cs r → Carries (with_inputs split i cs r)
    inputs-open split i [] r no_names victims before = before
    inputs-open split i (c ∷ cs) r no_names victims before =
        let lines : List Line = line_of (Clausify i) c ∷ [] in
        let s : PoolRecord = unless_ended (comes split lines c) r in
        inputs-open split (suc i) cs s no_names.1
        (victims-keep r s (registers-keeps r s (unless_ended-registers (comes split lines c) r (comes-registers split lines c r))) victims)
        (by-test (OpenWith choice functions (mode_of options.select) inputs cs) (is_none r.ended) (comes split lines c r) r
        (λ is_none.
        comes-open choice functions (mode_of options.select) inputs split lines c cs r
        (ap (list_all (is_assertion_below (length r.parts))) no_names.0) victims (before (open-is r.ended is_none)))
        (λ closed h. absurd (is-closed r.ended closed h)))

    -- an input asserts nothing, so it is awake
    nothing-open : AllByRecursion (λ (c : TreeClause). c.names ≡ []) inputs → Open choice functions (mode_of options.select) inputs nothing_registered inputs
    nothing-open no_names = record {
      inputs_covered = λ c there. each-held functions (HeldBy choice [] [] inputs) c (inr there, input-awake inputs no_names c there);
      clauses_covered = λ n c there. absurd (none-some c there);
      keys_settled = λ key none. absurd none;
      some_literals = λ n c there. absurd (none-some c there);
    }
      where
        input-awake : (cs : List TreeClause) → AllByRecursion (λ (c : TreeClause). c.names ≡ []) cs → (c : TreeClause) → In c cs → awake choice c ≡ true
        input-awake [] none c there = absurd there
        input-awake (d ∷ ds) none c there =
            ⊎_elim
            (λ (here : c ≡ d). ap (awake choice) here ∙ ap (λ ns. list_all (holds choice) (assertions ns)) none.0)
            (λ (later : In c ds). input-awake ds none.1 c later)
            there

    pub started-covered : AllByRecursion (λ (c : TreeClause). c.names ≡ []) inputs → Carries begun
    started-covered no_names =
        inputs-open options.split 0 inputs nothing_registered no_names none-registered (λ is_open fits. nothing-open no_names)
