-- From what is decided of clauses to the report of `decide`.
use Rattle.std.proofs.Common.{◌≡◌, ◌<◌, ℕ, zero, suc, ◌+◌, Bool, true, false, List, [], ◌∷◌, ◌++◌, length, map, take, get_or, None, Some, refl, ap, sym, ◌∙◌, inl, subst, arith}
use Rattle.std.specs.Prelude.{not, nat_lt, Option, option_map, unwrap_or, slice_get, position, ◌↔◌, IsTrue, Result, IfOk, if◌then◌else◌}
use Rattle.std.specs.List.{list_all}
use Rattle.std.proofs.lemmas.Bool.{and_parts, and_from, lt-ltb, ltb-true}
use Rattle.std.proofs.lemmas.Option.{slice_get_read}
use Rattle.std.proofs.lemmas.Result.{IfOk-weaker}
use Rattle.fol_base.specs.Clause.{TreeClause}
use Rattle.fol_base.specs.Entails.{IsRefuted}
use Rattle.fol_base.specs.Ground.{GroundClause, is_ground_clause}
use Rattle.fol_base.specs.Literal.{clause_of}
use Rattle.fol_base.specs.WellFormed.{SymbolUse, are_literals_of}
use Rattle.fol_base.specs.declared.clause.Clause.{Clause}
use Rattle.tptp_tree.specs.declared.problem.Annotated.{Annotated}
use Rattle.signature.specs.Clausal.{SymbolNumbers, Made, Worked, Literals, annotated_clauses, canonical_literals, Formed, formed}
use Rattle.signature.specs.Form.{ClausalForm, clausal_form, symbol_numbers, nothing_made}
use Rattle.clausal_form.specs.FormFunctions.{is_predicate_in}
use Rattle.clausal_form.specs.FormLaws.{use_of}
use Rattle.herbrand_list.specs.Refuted.{ground_clauses, TellsRefuted, TellsModel}
use Rattle.command_reports.specs.DecideReports.{ground_form, open_formula, name_at, origin_name, IsDecideReport, told_no_interpretation, told_interpretation, no_interpretation_report, interpretation_report}
use Rattle.command_reports.specs.declared.report.Report.{Report}
use Rattle.commands.proofs.AboutGround.ListLemmas.{first-failing, none-failing}
use Rattle.commands.proofs.AboutOutcomes.InputLemmas.{inputs-used}

-- ---- the clauses of the program's form

pub literals-same : (cs : List Clause) → ground_clauses cs ≡ map (λ (c : TreeClause). c.literals) (map clause_of cs)
literals-same [] = refl
literals-same (c ∷ cs) = ap (λ gs. (clause_of c).literals ∷ gs) (literals-same cs)

pub form-literals : (fs : List Annotated) (form : ClausalForm) (cs : List Clause) → form ≡ clausal_form fs → form.clauses ≡ map clause_of cs → ground_clauses cs ≡ ground_form fs
form-literals fs form cs is made =
    literals-same cs ∙ ap (map (λ (c : TreeClause). c.literals)) (sym made ∙ ap (λ (f : ClausalForm). f.clauses) is)

-- ---- the first clause that has a variable

pub open-at :
    (fs : List Annotated) (cs : List GroundClause) (k : ℕ) → cs ≡ ground_form fs → k < length cs → is_ground_clause (get_or cs k []) ≡ false
    → list_all is_ground_clause (take k cs) ≡ true → open_formula fs ≡ Some (origin_name fs k)
open-at fs cs k same low open_one before =
    ap (option_map (origin_name fs))
    (ap (position (λ c. not (is_ground_clause c))) (sym same) ∙ first-failing is_ground_clause cs k [] low open_one before)

pub none-open : (fs : List Annotated) (cs : List GroundClause) → cs ≡ ground_form fs → list_all is_ground_clause cs ≡ true → open_formula fs ≡ None
none-open fs cs same all =
    ap (option_map (origin_name fs)) (ap (position (λ c. not (is_ground_clause c))) (sym same) ∙ none-failing is_ground_clause cs all)

-- ---- what is decided

literals-used :
    (usage : SymbolUse) (cs : List TreeClause) → list_all (λ (c : TreeClause). are_literals_of usage c.literals) cs ≡ true
    → list_all (are_literals_of usage) (map (λ (c : TreeClause). c.literals) cs) ≡ true
literals-used usage [] h = refl
literals-used usage (c ∷ cs) h =
    let both = and_parts (are_literals_of usage c.literals) (list_all (λ (d : TreeClause). are_literals_of usage d.literals) cs) h in
    and_from (are_literals_of usage c.literals) (list_all (are_literals_of usage) (map (λ (d : TreeClause). d.literals) cs)) both.0
    (literals-used usage cs both.1)

used : (fs : List Annotated) → list_all (are_literals_of (use_of (clausal_form fs).symbols)) (ground_form fs) ≡ true
used fs = literals-used (use_of (clausal_form fs).symbols) (clausal_form fs).clauses (inputs-used fs (clausal_form fs).clauses (inl refl))

abbrev pub IsDecided : Bool → Report → Type 0
IsDecided refuted report =
    (report.status ≡ (if refuted then 15 else 16)) × (report.text ≡ (if refuted then no_interpretation_report else interpretation_report))

pub decision-reports :
    {E : Type 0} (r : Result Report E) (file : List ℕ) (fs : List Annotated) (cs : List GroundClause) (refuted : Bool)
    → cs ≡ ground_form fs → list_all is_ground_clause cs ≡ true → TellsRefuted cs refuted → TellsModel cs refuted
    → IfOk r (IsDecided refuted)
    → IfOk r (λ report. IsDecideReport file fs report.status report.text)
decision-reports r file fs cs refuted same all tells models told =
    by refuted (subst (λ (gs : List GroundClause). TellsRefuted gs refuted) same tells (use_of (clausal_form fs).symbols) (used fs))
    (subst (λ (gs : List GroundClause). TellsModel gs refuted) same models) told
  where
    by :
        (b : Bool) → IsTrue b ↔ IsRefuted (is_predicate_in (clausal_form fs).symbols) (ground_form fs) → TellsModel (ground_form fs) b
        → IfOk r (IsDecided b)
        → IfOk r (λ report. IsDecideReport file fs report.status report.text)
    by true is models k =
        IfOk-weaker r (IsDecided true) (λ report. IsDecideReport file fs report.status report.text)
        (λ report h. told_no_interpretation (record { no_variable = none-open fs cs same all; refuted = is.0 refl }) h.0 h.1) k
    by false is models k =
        IfOk-weaker r (IsDecided false) (λ report. IsDecideReport file fs report.status report.text)
        (λ report h.
        told_interpretation
        (record { no_variable = none-open fs cs same all; has_model = models refl (use_of (clausal_form fs).symbols) (used fs) }) h.0 h.1)
        k

-- ---- the origins of clauses are places of formulas

joined-long :
    (place : ℕ) (os : List ℕ) (cs : List TreeClause) (made : List Literals) → length os ≡ length cs
    → length (map (λ c. place) made ++ os) ≡ length (map canonical_literals made ++ cs)
joined-long place os cs [] e = e
joined-long place os cs (c ∷ made) e = ap suc (joined-long place os cs made e)

origins-long : (n : SymbolNumbers) (place : ℕ) (fs : List Annotated) (m : Made) → length (formed n place fs m).origins ≡ length (formed n place fs m).clauses
origins-long n place [] m = refl
origins-long n place (a ∷ fs) m =
    let w : Worked = annotated_clauses n a m in
    let rest : Formed = formed n (place + 1) fs w.made in
    joined-long place rest.origins rest.clauses w.clauses (origins-long n (place + 1) fs w.made)

joined-within :
    (place most : ℕ) (os : List ℕ) (made : List Literals) → place < most → list_all (λ i. nat_lt i most) os ≡ true
    → list_all (λ i. nat_lt i most) (map (λ c. place) made ++ os) ≡ true
joined-within place most os [] low h = h
joined-within place most os (c ∷ made) low h =
    and_from (nat_lt place most) (list_all (λ i. nat_lt i most) (map (λ d. place) made ++ os)) (lt-ltb place most low)
    (joined-within place most os made low h)

origins-within :
    (n : SymbolNumbers) (place : ℕ) (fs : List Annotated) (m : Made) → list_all (λ i. nat_lt i (place + length fs)) (formed n place fs m).origins ≡ true
origins-within n place [] m = refl
origins-within n place (a ∷ fs) m =
    let w : Worked = annotated_clauses n a m in
    let rest : Formed = formed n (place + 1) fs w.made in
    let same : place + 1 + length fs ≡ place + suc (length fs) = omega arith in
    joined-within place (place + suc (length fs)) rest.origins w.clauses (omega arith)
    (subst (λ k. list_all (λ i. nat_lt i k) rest.origins ≡ true) same (origins-within n (place + 1) fs w.made))

all-get : (p : ℕ → Bool) (xs : List ℕ) (i : ℕ) → i < length xs → list_all p xs ≡ true → p (get_or xs i 0) ≡ true
all-get p [] i low all = absurd (omega (arith, low))
all-get p (x ∷ xs) zero low all = (and_parts (p x) (list_all p xs) all).0
all-get p (x ∷ xs) (suc i) low all = all-get p xs i (omega (arith, low)) (and_parts (p x) (list_all p xs) all).1

pub origin-there :
    (fs : List Annotated) (form : ClausalForm) (origins : List ℕ) (number : ℕ)
    → form ≡ clausal_form fs → origins ≡ form.origins → number < length form.clauses → number < length origins
origin-there fs form origins number is same low =
    let long : length (clausal_form fs).origins ≡ length (clausal_form fs).clauses = origins-long (symbol_numbers fs) 0 fs nothing_made in
    let own : length origins ≡ length (clausal_form fs).origins = ap length (same ∙ ap (λ (f : ClausalForm). f.origins) is) in
    let clauses : length form.clauses ≡ length (clausal_form fs).clauses = ap (λ (f : ClausalForm). length f.clauses) is in
    omega (arith, long, own, clauses, low)

pub formula-there :
    (fs formulas : List Annotated) (form : ClausalForm) (origins : List ℕ) (number : ℕ)
    → form ≡ clausal_form fs → origins ≡ form.origins → formulas ≡ fs → number < length form.clauses → get_or origins number 0 < length formulas
formula-there fs formulas form origins number is same all low =
    let there : number < length origins = origin-there fs form origins number is same low in
    let sum : 0 + length fs ≡ length fs = omega arith in
    let own : list_all (λ i. nat_lt i (length fs)) (clausal_form fs).origins ≡ true =
    subst (λ k. list_all (λ i. nat_lt i k) (clausal_form fs).origins ≡ true) sum (origins-within (symbol_numbers fs) 0 fs nothing_made) in
    let whole : list_all (λ i. nat_lt i (length fs)) origins ≡ true =
    ap (list_all (λ i. nat_lt i (length fs))) (same ∙ ap (λ (f : ClausalForm). f.origins) is) ∙ own in
    let within : get_or origins number 0 < length fs =
    ltb-true (get_or origins number 0) (length fs) (all-get (λ i. nat_lt i (length fs)) origins number there whole) in
    omega (arith, within, ap length all)

pub name-read :
    (formulas : List Annotated) (places : List ℕ) (number : ℕ) (a : Annotated) (name : List ℕ)
    → get_or places number 0 < length formulas → a ≡ get_or formulas (get_or places number 0) a → name ≡ a.name
    → name ≡ name_at formulas places number
name-read formulas places number a name low at e =
    let there : slice_get formulas (get_or places number 0) ≡ Some a =
    slice_get_read formulas (length formulas) (get_or places number 0) a refl low at in
    e ∙ sym (ap (λ (o : Option Annotated). unwrap_or (option_map (λ (b : Annotated). b.name) o) []) there)

pub name-there :
    (fs formulas : List Annotated) (form : ClausalForm) (origins : List ℕ) (number : ℕ)
    → form ≡ clausal_form fs → origins ≡ form.origins → formulas ≡ fs → name_at formulas origins number ≡ origin_name fs number
name-there fs formulas form origins number is same all =
    ap (λ (gs : List Annotated). name_at gs origins number) all
    ∙ ap (λ (os : List ℕ). name_at fs os number) (same ∙ ap (λ (f : ClausalForm). f.origins) is)
