-- The verdict on lines of formulas.
use Rattle.std.proofs.Common.{◌≡◌, ℕ, Bool, true, false, not, ◌||◌, List, [], ◌∷◌, Option, Some, None, refl, ap, sym, ◌∙◌}
use Rattle.std.specs.Prelude.{option_map, option_and_then, unwrap_or, filter_map, is_some, bytes_eq, if◌then◌else◌}
use Rattle.std.specs.List.{list_any, list_all}
use Rattle.std.proofs.lemmas.Bool.{true≢false}
use Rattle.std.proofs.lemmas.Option.{none-some}
use Rattle.tptp_source.specs.General.{GeneralTree}
use Rattle.tptp_source.specs.Sources.{SourceTree, file_source, inference_source, component_source, opposite_source}
use Rattle.kernel_steps.specs.Parents.{all_there}
use Rattle.kernel_steps.specs.Conclusion.{empty_clause}
use Rattle.kernel_steps.specs.declared.step.Step.TheVariants as step
use Rattle.clausal_form.specs.DerivationItems.{plain_word}
use Rattle.clausal_form.specs.DerivationLine.{LineTree, NamedLine, Taken}
use Rattle.kernel_steps.specs.FromTrees.{line_of}
use Rattle.clausal_form.specs.DerivationParts.{Setting, line_kind, parent_places, parents_of}
use Rattle.clausal_form.specs.DerivationCauses.{text, order, unknown_parent, leaf, conclusion, Given, fault, gives_formula, cited, place_of_entry, given_by_file, given_by, is_formula_kind, is_written, LineVerdict, refused, taken, compared, line_verdict}
use Rattle.tstp_checker.specs.FormulaLines.{cited_at}
use Rattle.tstp_checker.specs.Verdicts.{with_names_asked}
use Rattle.tstp_checker.specs.EntryLaws.{same_formula-refl}

-- a line of a formula is always written as one
pub formula-asked :
    (s : Setting) (e : Taken) (t : LineTree)
    → is_formula_kind (line_kind t) ≡ true → with_names_asked e t (compared s e t (given_by s e t (line_kind t))) ≡ line_verdict s e t
formula-asked s e t h = ap (λ b. if not b then refused text else with_names_asked e t (compared s e t (given_by s e t (line_kind t)))) (sym written)
  where
    either : (a b : Bool) → a ≡ true → (a || b) ≡ true
    either true b g = refl
    either false b g = absurd (cc)

    written : is_written e t ≡ true
    written = either _ _ h

-- ---- formulas of the problem

abbrev input_given : LineTree → Option ℕ → Given
input_given t place = unwrap_or (option_map (λ p. gives_formula (step.Input p) (t.entry).formula) place) (fault leaf)

file-given : (s : Setting) (t : LineTree) (source : SourceTree) → input_given t (cited_at s t source) ≡ given_by_file s t source
file-given s t (file_source file name) = refl
file-given s t (inference_source r items parents) = refl
file-given s t (component_source name) = refl
file-given s t (opposite_source name) = refl

pub input-taken :
    (s : Setting) (e : Taken) (t : LineTree) (source : SourceTree) (p : ℕ)
    → Some p ≡ cited_at s t source → compared s e t (given_by_file s t source) ≡ taken (line_of (step.Input p) empty_clause)
input-taken s e t source p h =
    sym (ap (λ o. compared s e t (input_given t o)) h ∙ ap (compared s e t) (file-given s t source))
    ∙ ap (λ b. if b then taken (line_of (step.Input p) empty_clause) else refused conclusion) (same_formula-refl (t.entry).formula)

pub input-refused :
    (s : Setting) (e : Taken) (t : LineTree) (source : SourceTree)
    → None ≡ cited_at s t source → compared s e t (given_by_file s t source) ≡ refused leaf
input-refused s e t source h = sym (ap (λ o. compared s e t (input_given t o)) h ∙ ap (compared s e t) (file-given s t source))

cited-so :
    (s : Setting) (t : LineTree) (name : List ℕ) (word : Option (List ℕ))
    → true ≡ is_some word → place_of_entry s (cited t name) ≡ option_and_then (λ w. place_of_entry s (cited t name)) word
cited-so s t name None h = absurd (true≢false h)
cited-so s t name (Some w) h = refl

pub cited-there :
    (s : Setting) (t : LineTree) (file : GeneralTree) (name : List ℕ)
    → true ≡ is_some (plain_word file) → place_of_entry s (cited t name) ≡ cited_at s t (file_source file name)
cited-there s t file name h = cited-so s t name (plain_word file) h

-- ---- names

abbrev AllThere : List (Option ℕ) → List ℕ → Type 0
AllThere os xs = (list_all is_some os ≡ true) × (xs ≡ filter_map (λ o. o) os)

some-list : {X : Type 0} (x y : X) → Some x ≡ Some y → x ≡ y
some-list x y h = ap (λ o. unwrap_or o x) h

all-there : (os : List (Option ℕ)) (xs : List ℕ) → Some xs ≡ all_there os → AllThere os xs
all-there [] xs h = (refl, some-list xs [] h)
all-there (None ∷ os) xs h = absurd (none-some xs (sym h))
all-there (Some x ∷ os) xs h = by (all_there os) refl (all-there os)
  where
    by : (o : Option (List ℕ)) → all_there os ≡ o → ((ys : List ℕ) → Some ys ≡ all_there os → AllThere os ys) → AllThere (Some x ∷ os) xs
    by None e more = absurd (none-some xs (sym (h ∙ ap (option_map (λ ys. x ∷ ys)) e)))
    by (Some ys) e more =
        (((more ys (sym e)).0), some-list xs (x ∷ ys) (h ∙ ap (option_map (λ zs. x ∷ zs)) e) ∙ ap (λ zs. x ∷ zs) (more ys (sym e)).1)

not-there : (os : List (Option ℕ)) → None ≡ all_there os → list_all is_some os ≡ false
not-there [] h = absurd (none-some [] h)
not-there (None ∷ os) h = refl
not-there (Some x ∷ os) h = by (all_there os) refl (not-there os)
  where
    by : (o : Option (List ℕ)) → all_there os ≡ o → (None ≡ all_there os → list_all is_some os ≡ false) → list_all is_some (Some x ∷ os) ≡ false
    by None e more = more (sym e)
    by (Some ys) e more = absurd (none-some (x ∷ ys) (h ∙ ap (option_map (λ zs. x ∷ zs)) e))

abbrev asked : Bool → Bool → LineVerdict → LineVerdict
asked old there v = if old then refused order else if not there then refused unknown_parent else v

pub parents-there :
    (e : Taken) (t : LineTree) (places : List ℕ)
    → false ≡ list_any (λ (l : NamedLine). bytes_eq (t.entry).name l.name) e.lines → Some places ≡ all_there (parent_places e t)
    → ((v : LineVerdict) → with_names_asked e t v ≡ v) × (places ≡ parents_of e t)
parents-there e t places new there =
    let all = all-there (parent_places e t) places there in
    (λ v. ap (λ b. asked b (list_all is_some (parent_places e t)) v) (sym new) ∙ ap (λ b. asked false b v) all.0, all.1)

pub parents-missing :
    (e : Taken) (t : LineTree)
    → false ≡ list_any (λ (l : NamedLine). bytes_eq (t.entry).name l.name) e.lines → None ≡ all_there (parent_places e t)
    → (v : LineVerdict) → with_names_asked e t v ≡ refused unknown_parent
parents-missing e t new missing v =
    ap (λ b. asked b (list_all is_some (parent_places e t)) v) (sym new) ∙ ap (λ b. asked false b v) (not-there (parent_places e t) missing)
