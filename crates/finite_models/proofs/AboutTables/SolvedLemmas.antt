-- From the solver's answer on the clauses of a size to a model of this size, or to there being none.
use Rattle.std.proofs.Common.{◌≡◌, ℕ, ◌≤◌, Bool, ◌&&◌, List, [], map, refl, ap, sym, ◌∙◌, subst}
use Rattle.std.proofs.lemmas.Bool.{and_parts}
use Rattle.fol_base.specs.Interpretation.{Interpretation}
use Rattle.sat_core.specs.Clause.{PropClause, Valuation, valuation_of}
use Rattle.sat_core.specs.Answer.{IsRightModel, IsRightLog}
use Rattle.sat_core.specs.declared.answer.Chain.{Chain}
use Rattle.sat_core.proofs.AboutTrails.TruthLemmas.{right_logs_refute}
use Rattle.signature.specs.Symbol.{IsSignature}
use Rattle.signature.specs.Form.{ClausalForm}
use Rattle.finite_models.specs.declared.answer.Interpretation.{Interpretation as Table}
use Rattle.finite_models.specs.declared.entry_names.EntryNames.{EntryNames}
use Rattle.finite_models.specs.declared.flat.FlatClause.{FlatClause}
use Rattle.finite_models.specs.Model.{IsOverSignature, IsModel}
use Rattle.finite_models.specs.Found.{row_of, interpretation_of}
use Rattle.finite_models.specs.Flattening.{flat_clause}
use Rattle.finite_models.specs.EntryNames.{AreEntryNames}
use Rattle.finite_models.specs.Constants.{constants_true}
use Rattle.finite_models.specs.Translation.{Adds, symbols_true, flat_clauses_true}
use Rattle.finite_models.specs.Table.{table_cells}
use Rattle.finite_models.specs.Agreement.{table_of}
use Rattle.finite_models.proofs.AboutTables.ModelLemmas.{model-found, no-model}
use Rattle.finite_models.proofs.AboutLoops.AddsLemmas.{adds-more, adds-as, all-added}

-- what the clauses of a size say together
abbrev pub form_true : ClausalForm → EntryNames → Valuation → Bool
form_true form n valuation =
    symbols_true form.symbols n valuation
    && (constants_true form.symbols n valuation && flat_clauses_true (map flat_clause form.clauses) n valuation)

-- the clauses of the symbols, those of the constants, and then those of the flat clauses
pub all-of-size :
    (form : ClausalForm) (n : EntryNames) (flat : List FlatClause) (start symbols constants new : List PropClause)
    → start ≡ [] → flat ≡ map flat_clause form.clauses
    → Adds n.count start symbols (symbols_true form.symbols n) → Adds n.count symbols constants (constants_true form.symbols n)
    → Adds n.count constants new (flat_clauses_true flat n)
    → Adds n.count [] new (form_true form n)
all-of-size form n flat start symbols constants new e f a b c =
    subst (λ (cs : List PropClause). Adds n.count cs new (form_true form n)) e
    (adds-more n.count start symbols new (symbols_true form.symbols n)
    (λ valuation. constants_true form.symbols n valuation && flat_clauses_true (map flat_clause form.clauses) n valuation) (form_true form n) a
    (adds-more n.count symbols constants new (constants_true form.symbols n) (flat_clauses_true (map flat_clause form.clauses) n)
    (λ valuation. constants_true form.symbols n valuation && flat_clauses_true (map flat_clause form.clauses) n valuation) b
    (adds-as n.count constants new (flat_clauses_true flat n) (flat_clauses_true (map flat_clause form.clauses) n) c
    (λ valuation. ap (λ (cs : List FlatClause). flat_clauses_true cs n valuation) f))
    (λ valuation. refl))
    (λ valuation. refl))

pub found-model :
    (form : ClausalForm) (n : EntryNames) (names : ℕ) (new : List PropClause) (truths : List Bool) (t : Table)
    → IsOverSignature form → 1 ≤ n.size → Adds n.count [] new (form_true form n) → IsRightModel names new truths
    → t.size ≡ n.size → t.cells ≡ table_cells form.symbols n (valuation_of truths) → IsModel form (interpretation_of t)
found-model form n names new truths t over some all right size_is cells_are =
    let valuation : Valuation = valuation_of truths in
    let both =
    and_parts (symbols_true form.symbols n valuation)
    (constants_true form.symbols n valuation && flat_clauses_true (map flat_clause form.clauses) n valuation)
    (sym (all-added n.count new (form_true form n) all valuation) ∙ right.makes_true) in
    let rest = and_parts (constants_true form.symbols n valuation) (flat_clauses_true (map flat_clause form.clauses) n valuation) both.1 in
    subst (IsModel form) (sym same) (model-found form n valuation over some both.0 rest.1)
  where
    same : interpretation_of t ≡ table_of form.symbols n (valuation_of truths)
    same = λ i. record { size = size_is i; rows = map row_of (cells_are i) }

pub found-none :
    (form : ClausalForm) (n : EntryNames) (size : ℕ) (new : List PropClause) (log : List Chain)
    → IsOverSignature form → IsSignature form.symbols → AreEntryNames form.symbols n → n.size ≡ size
    → Adds n.count [] new (form_true form n) → IsRightLog new log
    → (i : Interpretation) → IsModel form i → i.size ≡ size → ⊥
found-none form n size new log over signed are size_is all right i model e =
    no-model form n over signed are
    (λ valuation. sym (all-added n.count new (form_true form n) all valuation) ∙ right_logs_refute new log right valuation)
    i model (e ∙ sym size_is)
