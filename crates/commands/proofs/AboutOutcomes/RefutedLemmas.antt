-- What the pool of a problem tells once the empty clause was derived: its lines bind terms over the form's own function symbols alone, and so
-- the clauses with which it began are refuted by their ground instances, which are the form's.
use Rattle.std.proofs.Common.{◌≡◌, ℕ, Bool, true, false, not, ◌&&◌, ◌||◌, ◌==◌, List, [], ◌∷◌, refl, ap, sym, subst}
use Rattle.std.specs.Prelude.{All, Contains}
use Rattle.std.specs.List.{list_all}
use Rattle.std.proofs.lemmas.Bool.{and_parts, and_from, false≢true}
use Rattle.std.proofs.lemmas.List.Elements.{All-head, All-tail, All-weaker}
use Rattle.fol_base.specs.Tree.{Tree, true_symbol, variable, application, Trees, no_trees, tree_then, trees_count}
use Rattle.fol_base.specs.Clause.{TreeClause}
use Rattle.fol_base.specs.Covered.{InstanceOf}
use Rattle.fol_base.specs.Ground.{has_symbol, is_over, are_over}
use Rattle.fol_base.specs.Kind.{is_function_term, are_function_terms}
use Rattle.fol_base.specs.Symbols.{FunctionSymbol}
use Rattle.fol_base.specs.WellFormed.{SymbolUse, has_arities}
use Rattle.tptp_tree.specs.declared.problem.Annotated.{Annotated}
use Rattle.signature.specs.declared.symbol.Symbol.{Symbol}
use Rattle.signature.specs.Form.{clausal_form}
use Rattle.kernel_steps.specs.Derivation.{IsRefutation}
use Rattle.kernel_steps.specs.Soundness.{bindings_of, binds_each, BindsOver, HerbrandRefuted}
use Rattle.kernel_steps.specs.Symbols.{symbols_pass, all_symbols_pass, clause_symbols_pass}
use Rattle.kernel_steps.specs.declared.step.Step.{Step}
use Rattle.kernel_steps.specs.declared.step.Line.{Line}
use Rattle.kernel_steps.proofs.AboutGrounding.GroundedLemmasLines.{refutations_herbrand_refute}
use Rattle.clausal_form.specs.FormFunctions.{is_predicate_in, OwnFunctions, IsHerbrandRefuted}
use Rattle.clausal_form.specs.FormLaws.{arity_in, use_of}
use Rattle.clausal_form.proofs.AboutForms.FunctionLemmas.{form-functions}
use Rattle.tstp_writer.specs.ReadableLines.{is_symbol_in}
use Rattle.pool_history.specs.Derived.{is_function_term_of, IsPoolLine, ArePoolLines}
use Rattle.pool_history.specs.Inputs.{AreInputs, IsUseOf}
use Rattle.pool_history.specs.Replay.{Origin}
use Rattle.pool_history.specs.declared.options.Options.{Options}
use Rattle.pool_history.specs.declared.outcome.Outcome.TheVariants as outcome
use Rattle.pool_history.proofs.AboutLines.BeginningLemmas.{lines_are_derived, refuted_is_refutation}
use Rattle.pool_writer.proofs.FormSymbols.{form-symbols-pass, truth-passes}
use Rattle.worker_team.specs.declared.proved.Proved.{Proved as ProvedPool}
use Rattle.command_reports.specs.Parts.{AreOfForm}
use Rattle.commands.specs.AnswerShape.{IsProvedForm}
use Rattle.commands.proofs.AboutOutcomes.InputLemmas.{are-inputs, inputs-contained, inputs-pass, inputs-used}
use Rattle.commands.proofs.AboutOutcomes.FormSymbols.{own-allowed}
use Rattle.commands.proofs.AboutOutcomes.HistoryLemmas.{cause, ended, lawful}

pub all-both : {X : Type 0} (p q r : X → Bool) → ((x : X) → p x ≡ true → q x ≡ true → r x ≡ true) → (xs : List X) → list_all p xs ≡ true → list_all q xs ≡ true → list_all r xs ≡ true
all-both p q r both [] one other = refl
all-both p q r both (x ∷ xs) one other =
    let first = and_parts (p x) (list_all p xs) one in
    let second = and_parts (q x) (list_all q xs) other in
    and_from (r x) (list_all r xs) (both x first.0 second.0) (all-both p q r both xs first.1 second.1)

-- ---- function terms of a signature's symbols are over its own functions

module _ (symbols : List Symbol) (own : OwnFunctions symbols) where
  abbrev functions : List FunctionSymbol
  functions = own.functions.symbols

  abbrev is_formed : Tree → Bool
  is_formed = is_function_term_of (use_of symbols)

  abbrev is_known : Tree → Bool
  is_known = symbols_pass (is_symbol_in symbols)

  listed :
      (f arity : ℕ) → not (f == true_symbol) ≡ true → not (is_predicate_in symbols f) ≡ true → is_symbol_in symbols f arity ≡ true
      → has_symbol functions f arity ≡ true
  listed f arity no_truth no_predicate there =
      by (f == true_symbol) (is_predicate_in symbols f) no_truth no_predicate (own-allowed symbols own f arity there)
    where
      by : (x y : Bool) → not x ≡ true → not y ≡ true → ((x || y) || has_symbol functions f arity) ≡ true → has_symbol functions f arity ≡ true
      by true y a b h = absurd (false≢true a)
      by false true a b h = absurd (false≢true b)
      by false false a b h = h

  mutual
    tree-over : (t : Tree) → is_function_term (is_predicate_in symbols) t ≡ true → is_known t ≡ true → is_over functions t ≡ true
    tree-over (variable v) formed known = refl
    tree-over (application f ts) formed known =
        let outer =
        and_parts (not (f == true_symbol)) (not (is_predicate_in symbols f) && are_function_terms (is_predicate_in symbols) ts) formed in
        let inner = and_parts (not (is_predicate_in symbols f)) (are_function_terms (is_predicate_in symbols) ts) outer.1 in
        let both = and_parts (is_symbol_in symbols f (trees_count ts)) (all_symbols_pass (is_symbol_in symbols) ts) known in
        and_from (has_symbol functions f (trees_count ts)) (are_over functions ts) (listed f (trees_count ts) outer.0 inner.0 both.0)
        (trees-over ts inner.1 both.1)

    trees-over :
        (ts : Trees) → are_function_terms (is_predicate_in symbols) ts ≡ true → all_symbols_pass (is_symbol_in symbols) ts ≡ true
        → are_over functions ts ≡ true
    trees-over no_trees formed known = refl
    trees-over (tree_then t ts) formed known =
        let first = and_parts (is_function_term (is_predicate_in symbols) t) (are_function_terms (is_predicate_in symbols) ts) formed in
        let second = and_parts (is_known t) (all_symbols_pass (is_symbol_in symbols) ts) known in
        and_from (is_over functions t) (are_over functions ts) (tree-over t first.0 second.0) (trees-over ts first.1 second.1)

  term-over : (t : Tree) → is_formed t ≡ true → is_known t ≡ true → is_over functions t ≡ true
  term-over t formed known = tree-over t (and_parts (is_function_term (is_predicate_in symbols) t) (has_arities (arity_in symbols) t) formed).0 known

  step-over : (step : Step) → binds_each is_formed step ≡ true → binds_each is_known step ≡ true → binds_each (is_over functions) step ≡ true
  step-over step formed known =
      all-both (list_all is_formed) (list_all is_known) (list_all (is_over functions)) (all-both is_formed is_known (is_over functions) term-over)
      (bindings_of step) formed known

  lines-over :
      (ls : List Line) → All (IsPoolLine (use_of symbols)) ls → list_all (λ (l : Line). binds_each is_known l.step) ls ≡ true
      → BindsOver functions ls
  lines-over [] plain known = refl
  lines-over (l ∷ ls) plain known =
      let both = and_parts (binds_each is_known l.step) (list_all (λ (m : Line). binds_each is_known m.step) ls) known in
      let is : IsPoolLine (use_of symbols) l = All-head (IsPoolLine (use_of symbols)) l ls plain in
      and_from (binds_each (is_over functions) l.step) (list_all (λ (m : Line). binds_each (is_over functions) m.step) ls)
      (step-over l.step is.terms both.0) (lines-over ls (All-tail (IsPoolLine (use_of symbols)) l ls plain) both.1)

-- ---- a refuted pool

module _
    (formulas : List Annotated) (inputs : List TreeClause) (of_form : AreOfForm formulas inputs) (options : Options) (proved : ProvedPool)
    (is : IsProvedForm formulas inputs options proved) (same : proved.outcome ≡ outcome.Refuted) where
  abbrev form : List TreeClause
  form = (clausal_form formulas).clauses

  abbrev lines : List Line
  lines = (ended formulas inputs of_form options proved is).lines

  abbrev usage : SymbolUse
  usage = use_of (clausal_form formulas).symbols

  begun : inputs ≡ proved.pool.origin.inputs
  begun = sym (ap (λ (o : Origin). o.inputs) is.pool.origin)

  are : AreInputs proved.pool.origin.inputs
  are = subst AreInputs begun (are-inputs formulas inputs of_form is.within)

  used : IsUseOf proved.pool.origin.inputs usage
  used = subst (λ (cs : List TreeClause). IsUseOf cs usage) begun (inputs-used formulas inputs of_form)

  of_pool : ArePoolLines usage inputs lines
  of_pool =
      subst (λ (cs : List TreeClause). ArePoolLines usage cs lines) (sym begun)
      (lines_are_derived usage proved.pool.origin proved.pool.history are used (lawful formulas inputs of_form options proved is))

  refutes : IsRefutation inputs lines
  refutes =
      subst (λ (cs : List TreeClause). IsRefutation cs lines) (sym begun)
      (refuted_is_refutation usage proved.pool.origin proved.pool.history are used (lawful formulas inputs of_form options proved is)
      (cause formulas inputs of_form options proved is outcome.Refuted same))

  module _ (own : OwnFunctions (clausal_form formulas).symbols) where
    known : list_all (λ (l : Line). binds_each (symbols_pass (is_symbol_in (clausal_form formulas).symbols)) l.step) lines ≡ true
    known =
        (of_pool.symbols (is_symbol_in (clausal_form formulas).symbols) (truth-passes formulas)
        (inputs-pass formulas inputs (clause_symbols_pass (is_symbol_in (clausal_form formulas).symbols)) of_form (form-symbols-pass formulas))).1

    inputs-refuted : HerbrandRefuted own.functions inputs
    inputs-refuted =
        refutations_herbrand_refute (is_predicate_in (clausal_form formulas).symbols) own.functions inputs lines
        (lines-over (clausal_form formulas).symbols own lines of_pool.each known) refutes

    form-refuted : HerbrandRefuted own.functions form
    form-refuted = record {
      by = inputs-refuted.by;
      instances =
          All-weaker (InstanceOf own.functions (Contains inputs)) (InstanceOf own.functions (Contains form))
          (λ g is_of. record {
            clause = is_of.clause;
            holds = inputs-contained formulas inputs of_form is_of.clause is_of.holds;
            is_instance = is_of.is_instance;
          })
          inputs-refuted.by inputs-refuted.instances;
      refuted = inputs-refuted.refuted;
    }

  pub herbrand-refuted : IsHerbrandRefuted formulas
  herbrand-refuted = record { own = form-functions formulas; refuted = form-refuted (form-functions formulas) }
