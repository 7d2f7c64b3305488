-- An interpretation of a problem that makes its formulas true, the conjecture negated, is extended to one that makes its form true.
use Rattle.std.proofs.Common.{◌≡◌, ℕ, suc, ◌+◌, ◌<◌, ◌≤◌, ◌==◌, nat_lt, Bool, true, not, List, [], ◌∷◌, length, flat_map, fold, inl, inr, ⊎_elim, if◌then◌else◌, refl, ap, sym, ◌∙◌, subst, arith}
use mathlib.Core.Bool.{beq}
use Rattle.std.specs.List.{AllByRecursion, list_all}
use Rattle.std.proofs.lemmas.Bool.{and_parts, eqb-true, lt-ltb, le-ltb, cases_lt, cond-true, cond-false}
use Rattle.std.proofs.lemmas.Option.{slice_get_within}
use Rattle.tptp_tree.specs.Entries.{is_conjecture}
use Rattle.tptp_tree.specs.declared.problem.Annotated.{Annotated}
use Rattle.fol_base.specs.Clause.{TreeClause}
use Rattle.fol_base.specs.WellFormed.{SymbolUse, are_literals_of}
use Rattle.fol_base.specs.Interpretation.{Interpretation, Assignment, symbol_value, HoldsIn}
use Rattle.signature.specs.declared.symbol.Symbol.{Symbol}
use Rattle.signature.specs.Symbol.{true_symbol, has_symbol, with_symbol}
use Rattle.signature.specs.Occurrences.{annotated_symbols, problem_symbols}
use Rattle.signature.specs.Environment.{free_names, closed}
use Rattle.signature.specs.Clausal.{SymbolNumbers, Made, begun}
use Rattle.signature.specs.Form.{symbol_numbers, problem_skolem_count, nothing_made, problem_form, clausal_form}
use Rattle.signature.specs.Truth.{annotated_true, is_model_of_problem}
use Rattle.clausal_form.specs.FormFunctions.{is_predicate_in}
use Rattle.clausal_form.specs.FormLaws.{arity_in, use_of}
use Rattle.clausal_form.proofs.AboutForms.FunctionLemmas.{first-folded}
use Rattle.clausal_form.proofs.AboutForms.WellFormedLemmas.{forms-are-well-formed}
use Rattle.clausal_form.proofs.AboutNaming.NameLemmas.{closed-known}
use Rattle.clausal_form.proofs.AboutWriting.LoopLemmas.{all-come, fold-append}
use Rattle.laws_meaning.specs.Meaning.{are_closed, InterpretsProblem, InterpretsForm, Extends, FormTrue}
use Rattle.laws_meaning.specs.Laws.{ModelsExtend}
use Rattle.laws_meaning.proofs.AboutStructures.Structures.{Structure, holds}
use Rattle.laws_meaning.proofs.AboutStructures.Search.{HasSize}
use Rattle.laws_meaning.proofs.AboutWork.Extending.{IsOld, Agree, Base, Ready, Outcome}
use Rattle.laws_meaning.proofs.AboutWork.Atoms.{AreKnown}
use Rattle.laws_meaning.proofs.AboutForms.FormedLemmas.{IsMeant, always, as_worked, raw_clauses, formed-outcome, canonical-hold, formed-raw}
use Rattle.laws_meaning.proofs.AboutForms.KindLemmas.{known-kind, skolem-kind, naming-kind}
use Rattle.laws_meaning.proofs.AboutForms.TableLemmas.{tabulated, Tabulates, first-kept, table-proper}
use Rattle.laws_meaning.proofs.AboutForms.TermLemmas.{clause-same}

-- ---- the formulas

-- each formula's symbols are among the problem's
pub each-known :
    (known : List Symbol) (fs : List Annotated)
    → AllByRecursion (λ (a : Annotated). list_all (λ s. has_symbol s (fold with_symbol known (flat_map annotated_symbols fs))) (annotated_symbols a) ≡ true) fs
each-known known [] = tt
each-known known (b ∷ fs) = (
  all-come known (annotated_symbols b) (flat_map annotated_symbols fs),
  subst (λ k. AllByRecursion (λ (a : Annotated). list_all (λ s. has_symbol s k) (annotated_symbols a) ≡ true) fs)
      (sym (fold-append known (annotated_symbols b) (flat_map annotated_symbols fs)))
      (each-known (fold with_symbol known (annotated_symbols b)) fs),
)

pub none-left : {X : Type 0} (xs : List X) → (length xs == 0) ≡ true → xs ≡ []
none-left [] h = refl
none-left (x ∷ xs) h = absurd (long (eqb-true (length (x ∷ xs)) 0 h))
  where
    long : suc (length xs) ≡ 0 → ⊥
    long e = omega (arith, e)

each-meant :
    (n : SymbolNumbers) (i : Interpretation) (fs : List Annotated)
    → list_all (λ (a : Annotated). length (free_names (closed a)) == 0) fs ≡ true
    → AllByRecursion (λ (a : Annotated). AreKnown n (annotated_symbols a)) fs
    → list_all (λ (a : Annotated). beq (annotated_true n.symbols i a) (not (is_conjecture a.role))) fs ≡ true
    → AllByRecursion (IsMeant n i) fs
each-meant n i [] c k h = tt
each-meant n i (a ∷ fs) c k h =
    let closed_ones = and_parts (length (free_names (closed a)) == 0) (list_all (λ (b : Annotated). length (free_names (closed b)) == 0) fs) c in
    let so =
    and_parts (beq (annotated_true n.symbols i a) (not (is_conjecture a.role)))
    (list_all (λ (b : Annotated). beq (annotated_true n.symbols i b) (not (is_conjecture b.role))) fs) h in (
      record {
        no_free = none-left (free_names (closed a)) closed_ones.0;
        known = closed-known n.symbols a k.0;
        is_so = so.0;
      },
      each-meant n i fs closed_ones.1 k.1 so.1,
    )

-- ---- the structure

module _ (fs : List Annotated) (i : Interpretation) (closed_all : are_closed fs ≡ true) (proper : InterpretsProblem fs i) (model : is_model_of_problem i fs ≡ true) where
  abbrev first : ℕ
  first = length (problem_symbols fs)

  abbrev made : Made
  made = (problem_form fs).made

  -- the problem's symbols as they are, all others 0
  abbrev start : Structure
  start g = if nat_lt g first then symbol_value i g else (λ vs. 0)

  base : Base (symbol_numbers fs) i
  base =
      record {
        some = proper.has_value;
        first = slice_get_within (problem_symbols fs) 0 true_symbol (first-folded (true_symbol ∷ []) (flat_map annotated_symbols fs) true_symbol refl);
        known = refl;
      }

  start-zero : (g : ℕ) → first ≤ g → start g ≡ (λ vs. 0)
  start-zero g h = cond-false (nat_lt g first) (symbol_value i g) (λ vs. 0) (le-ltb g first h)

  ready : Ready (symbol_numbers fs) i (begun nothing_made) start
  ready =
      record {
        base = λ g l. cond-true (nat_lt g first) (symbol_value i g) (λ vs. 0) (lt-ltb g first l);
        skolem = λ g l h vs. subst (λ (f : List ℕ → ℕ). f vs < i.size) (sym (start-zero g l)) proper.has_value;
        naming = λ g l vs. subst (λ (f : List ℕ → ℕ). f vs < 2) (sym (start-zero g (far g l))) (omega arith);
        fits = omega arith;
        defining = λ ρ has. refl;
        kept = record { kept = λ u v a ρ. refl };
      }
    where
      far : (g : ℕ) → length (problem_symbols fs) + problem_skolem_count fs ≤ g → length (problem_symbols fs) ≤ g
      far g l = omega (arith, l)

  outcome : Outcome (symbol_numbers fs) i (begun nothing_made) start always (problem_skolem_count fs) (as_worked (raw_clauses (symbol_numbers fs) fs nothing_made) made)
  outcome =
      formed-outcome (symbol_numbers fs) i base 0 fs nothing_made start
      (each-meant (symbol_numbers fs) i fs closed_all (each-known (true_symbol ∷ []) fs) model) ready (omega arith)

  -- how many symbols are tabulated: the Skolem symbols and the names
  abbrev count : ℕ
  count = problem_skolem_count fs + length made.naming_arities

  abbrev last : Structure
  last g = if nat_lt g (first + count) then outcome.structure g else (λ vs. 0)

  counted : length made.skolem_arities ≡ problem_skolem_count fs
  counted = omega (arith, outcome.counted)

  last-agrees : Agree (symbol_numbers fs) (begun made) outcome.structure last
  last-agrees = record { at = λ g old. sym (cond-true (nat_lt g (first + count)) (outcome.structure g) (λ vs. 0) (lt-ltb g (first + count) (below g old))) }
    where
      below : (g : ℕ) → IsOld (symbol_numbers fs) (begun made) g → g < first + count
      below g (inl l) = omega (arith, l, counted)
      below g (inr l) = omega (arith, l.1)

  last-is : (g : ℕ) → g < first + count → last g ≡ outcome.structure g
  last-is g l = cond-true (nat_lt g (first + count)) (outcome.structure g) (λ vs. 0) (lt-ltb g (first + count) l)

  abbrev form_kinds : ℕ → Bool
  form_kinds = is_predicate_in (clausal_form fs).symbols

  tabulates : Tabulates form_kinds (is_predicate_in (problem_symbols fs)) i last first count
  tabulates =
      record {
        proper = proper;
        positive = base.first;
        kinds = known-kind (problem_symbols fs) made;
        base = λ g l. last-is g (omega (arith, l)) ∙ outcome.ready.base g l;
        range = λ g l h vs. ⊎_elim (skolem g l h vs) (naming g h vs) (cases_lt g (first + problem_skolem_count fs));
        past = λ g l vs. ap (λ (f : List ℕ → ℕ). f vs) (cond-false (nat_lt g (first + count)) (outcome.structure g) (λ ws. 0) (le-ltb g (first + count) l));
      }
    where
      skolem :
          (g : ℕ) → first ≤ g → g < first + count → (vs : List ℕ) → g < first + problem_skolem_count fs
          → last g vs < (if form_kinds g then 2 else i.size)
      skolem g l h vs k =
          subst (λ (b : Bool). last g vs < (if b then 2 else i.size)) (sym (skolem-kind (problem_symbols fs) made g l (omega (arith, k, counted))))
          (subst (λ (f : List ℕ → ℕ). f vs < i.size) (sym (last-is g h)) (outcome.ready.skolem g l k vs))

      naming :
          (g : ℕ) → g < first + count → (vs : List ℕ) → first + problem_skolem_count fs ≤ g
          → last g vs < (if form_kinds g then 2 else i.size)
      naming g h vs k =
          subst (λ (b : Bool). last g vs < (if b then 2 else i.size))
          (sym (naming-kind (problem_symbols fs) made g (omega (arith, k, counted)) (omega (arith, h, counted))))
          (subst (λ (f : List ℕ → ℕ). f vs < 2) (sym (last-is g h)) (outcome.ready.naming g k vs))

  abbrev extended : Interpretation
  extended = tabulated i last (arity_in (clausal_form fs).symbols) first count

  form-holds :
      (ρ : Assignment) → HasSize i.size ρ → list_all (λ (c : TreeClause). holds last ρ c.literals) (clausal_form fs).clauses ≡ true
  form-holds ρ has =
      ap (list_all (λ (c : TreeClause). holds last ρ c.literals)) (formed-raw (symbol_numbers fs) 0 fs nothing_made)
      ∙ canonical-hold i.size last (raw_clauses (symbol_numbers fs) fs nothing_made)
      (λ τ k. sym (outcome.kept.kept outcome.structure last last-agrees τ) ∙ outcome.holds τ k tt) ρ has

  clauses-true :
      (cs : List TreeClause)
      → list_all (λ (c : TreeClause). are_literals_of (use_of (clausal_form fs).symbols) c.literals) cs ≡ true
      → ((ρ : Assignment) → HasSize i.size ρ → list_all (λ (c : TreeClause). holds last ρ c.literals) cs ≡ true)
      → AllByRecursion (HoldsIn extended) cs
  clauses-true [] w h = tt
  clauses-true (c ∷ cs) w h =
      let right =
      and_parts (are_literals_of (use_of (clausal_form fs).symbols) c.literals)
      (list_all (λ (d : TreeClause). are_literals_of (use_of (clausal_form fs).symbols) d.literals) cs) w in (
        λ ρ has.
            clause-same form_kinds (is_predicate_in (problem_symbols fs)) i last (arity_in (clausal_form fs).symbols) first count tabulates ρ has c.literals right.0
            ∙ (and_parts (holds last ρ c.literals) (list_all (λ (d : TreeClause). holds last ρ d.literals) cs) (h ρ has)).0,
        clauses-true cs right.1 (λ ρ has. (and_parts (holds last ρ c.literals) (list_all (λ (d : TreeClause). holds last ρ d.literals) cs) (h ρ has)).1),
      )

  form-right : list_all (λ (c : TreeClause). are_literals_of (use_of (clausal_form fs).symbols) c.literals) (clausal_form fs).clauses ≡ true
  form-right =
      let w = forms-are-well-formed fs in
      subst (λ (u : SymbolUse). list_all (λ (c : TreeClause). are_literals_of u c.literals) (clausal_form fs).clauses ≡ true) w.1 (w.0).used

  model-extends : (j : Interpretation) × InterpretsForm fs j × Extends fs i j × FormTrue fs j
  model-extends = (
    extended,
    table-proper form_kinds (is_predicate_in (problem_symbols fs)) i last (arity_in (clausal_form fs).symbols) first count tabulates,
    record {
      size = refl;
      kept =
          first-kept form_kinds (is_predicate_in (problem_symbols fs)) i last (arity_in (clausal_form fs).symbols) first count tabulates;
    },
    clauses-true (clausal_form fs).clauses form-right form-holds,
  )

pub models_extend : ModelsExtend
models_extend fs i c p m = model-extends fs i c p m
