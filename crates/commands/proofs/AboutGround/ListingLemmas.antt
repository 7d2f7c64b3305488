-- The ground list of an accepted text: no interpretation makes it true, and its entries are ground instances of the form.
use Rattle.std.proofs.Common.{◌≡◌, ◌≤◌, ℕ, suc, List, [], ◌∷◌, None, refl, ap, sym, ◌∙◌, subst}
use Rattle.std.specs.Prelude.{false, Option, option_map, Some, map, All, Contains, position, IsTrue}
use Rattle.fol_base.specs.Clause.{TreeClause}
use Rattle.fol_base.specs.Covered.{InstanceOf}
use Rattle.fol_base.specs.Entails.{IsRefuted}
use Rattle.fol_base.specs.Ground.{GroundClause, ground_over}
use Rattle.fol_base.specs.Literal.{clause_of}
use Rattle.fol_base.specs.Symbols.{FunctionSymbol}
use Rattle.fol_base.specs.declared.clause.Clause.{Clause}
use Rattle.tptp_tree.specs.declared.problem.Annotated.{Annotated}
use Rattle.signature.specs.Form.{clausal_form}
use Rattle.signature.specs.declared.symbol.Symbol.{Symbol}
use Rattle.kernel_steps.specs.Soundness.{BindsOver}
use Rattle.kernel_steps.specs.declared.step.Line.{Line}
use Rattle.clausal_form.specs.FormFunctions.{is_predicate_in, OwnFunctions}
use Rattle.clausal_form.proofs.AboutForms.FunctionLemmas.{form-functions}
use Rattle.herbrand_list.specs.GroundList.{speaks_of_names, any_names, names_line, ground_list, weight, first_constant}
use Rattle.herbrand_list.specs.Answer.{nameless}
use Rattle.herbrand_list.specs.Refuted.{ground_clauses}
use Rattle.herbrand_list.specs.declared.fault.TheConstants.{MOST_WEIGHT}
use Rattle.herbrand_list.proofs.AboutDemands.InstanceLemmas.{ground_lists_are_instances}
use Rattle.herbrand_list.proofs.AboutDemands.TruthLemmas.{ground_lists_are_refuted}
use Rattle.herbrand_list.proofs.AboutListing.AnswerLemmas.{first_constants_are_ground}
use Rattle.command_reports.specs.GroundReports.{form_constant, IsNameless, IsGroundListOf, IsListing, told_list, listed_report}
use Rattle.commands.proofs.AboutGround.DecideLemmas.{literals-same}
use Rattle.commands.proofs.AboutGround.LineLemmas.{lines-refute, lines-bind}
use Rattle.commands.proofs.AboutGround.ListLemmas.{none-passing}

none-mapped : (o : Option ℕ) → option_map suc o ≡ None → o ≡ None
none-mapped None e = refl
none-mapped (Some n) e = cc

no-names : (lines : List Line) → names_line lines ≡ None → any_names lines ≡ false
no-names lines none =
    none-passing (λ (l : Line). speaks_of_names l.step) lines (none-mapped (position (λ (l : Line). speaks_of_names l.step) lines) none)

pub is-ground-list :
    (fs : List Annotated) (bytes : List ℕ) (lines : List Line) (list : List GroundClause)
    → IsNameless fs bytes lines → weight (form_constant fs) lines ≤ MOST_WEIGHT → list ≡ ground_list (form_constant fs) lines
    → IsGroundListOf fs bytes list
is-ground-list fs bytes lines list nameless light is = record {
  lines = lines;
  nameless = nameless;
  light = light;
  is = is;
  own = own;
  instances =
      subst (All (InstanceOf own.functions (Contains (clausal_form fs).clauses))) (sym is)
      (ground_lists_are_instances (is_predicate_in (clausal_form fs).symbols) own.functions (form_constant fs) (clausal_form fs).clauses lines
      constant binds (lines-refute fs bytes lines nameless.accepted).derived);
  refuted =
      subst (IsRefuted (is_predicate_in (clausal_form fs).symbols)) (sym is)
      (ground_lists_are_refuted (is_predicate_in (clausal_form fs).symbols) (form_constant fs) (clausal_form fs).clauses lines
      (lines-refute fs bytes lines nameless.accepted) (no-names lines nameless.no_names));
}
  where
    own : OwnFunctions (clausal_form fs).symbols
    own = form-functions fs

    binds : BindsOver own.functions.symbols lines
    binds = subst (λ (ss : List FunctionSymbol). BindsOver ss lines) (sym own.are_all) (lines-bind fs bytes lines nameless.accepted)

    constant : IsTrue (ground_over own.functions.symbols (form_constant fs))
    constant =
        subst (λ (ss : List FunctionSymbol). IsTrue (ground_over own.functions.symbols (first_constant ss))) own.are_all
        (first_constants_are_ground (is_predicate_in (clausal_form fs).symbols) own.functions)

-- ---- the report

literals-kept : (list : List GroundClause) → map (λ (c : TreeClause). c.literals) (map nameless list) ≡ list
literals-kept [] = refl
literals-kept (g ∷ list) = ap (λ gs. g ∷ gs) (literals-kept list)

pub list-told :
    (fs : List Annotated) (bytes : List ℕ) (lines : List Line) (list : List Clause) (symbols : List Symbol) (status : ℕ) (text : List ℕ)
    → IsNameless fs bytes lines → weight (form_constant fs) lines ≤ MOST_WEIGHT → map clause_of list ≡ map nameless (ground_list (form_constant fs) lines)
    → symbols ≡ (clausal_form fs).symbols → status ≡ 13 → text ≡ listed_report symbols (ground_clauses list) → IsListing fs bytes status text
list-told fs bytes lines list symbols status text accepted light made same s w =
    let is : ground_clauses list ≡ ground_list (form_constant fs) lines =
    literals-same list ∙ ap (map (λ (c : TreeClause). c.literals)) made ∙ literals-kept (ground_list (form_constant fs) lines) in
    told_list (ground_clauses list) (is-ground-list fs bytes lines (ground_clauses list) accepted light is) s
    (w ∙ ap (λ (ss : List Symbol). listed_report ss (ground_clauses list)) same)
