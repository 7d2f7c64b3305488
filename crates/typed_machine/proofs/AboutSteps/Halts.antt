-- Why a token is refused that no text goes on with: which symbols take a variable and a word, and so a term; `$i` and a word, and so a sort;
-- or `$tType`, and so a type; and which refuse a token then.
use Rattle.std.proofs.Common.{◌≡◌, ◌⊎◌, inl, inr, ℕ, Bool, true, false, Option, None, Some, List, [], ◌∷◌, map, codes, refl, ap, ap₂, sym, ◌∙◌, bytes_eq}
use Rattle.std.specs.Prelude.{if◌then◌else◌, ◌&&◌, ◌||◌, ◌==◌}
use Rattle.std.specs.List.{list_all}
use Rattle.std.proofs.lemmas.Bool.{and_parts}
use Rattle.tptp_token.specs.Words.{is_word}
use Rattle.tptp_token.specs.Lexemes.{Lexeme, lexeme, kind_place, is_lexeme, is_mark, is_connective}
use Rattle.tptp_token.specs.declared.token.Kind.{Kind}
use Rattle.tptp_token.specs.declared.token.Kind.TheVariants.{Lower, Variable, Quoted, Distinct, Dollar, Number, Connective, Mark, Other}
use Rattle.tptp_tree.specs.Brackets.{round, square, curly}
use Rattle.tptp_tree.specs.Causes.{typed, role_form, number_form, distinct_form, dollar_form, Refusal, syntax, free_variable, role_not_taken, too_deep, left_out, Surroundings, deeper, binding, begun}
use Rattle.tptp_reader.specs.Machine.{Symbol, mark as plain_mark, maybe_arguments, maybe_applied, maybe_equation, an_equation, maybe_connected as plain_connected, maybe_more_units as plain_units, maybe_more_literals, first_note, more_notes, Step, takes as plain_takes, passes as plain_passes, stops as plain_stops, step as plain_step, is_binary_connective, is_truth_word, atom_step}
use Rattle.tptp_reader.specs.Answers.{form_of_token}
use Rattle.tptp_reader.proofs.AboutTexts.TokenTests.{connective-same}
use Rattle.tptp_reader.proofs.AboutSteps.HaltLemmas.{a_variable, a_word, is_inner as is_plain_inner, TakenBy as PlainTakenBy, StopIsRight as PlainStopIsRight, IsHaltOf as IsPlainHaltOf, step-halts as plain-step-halts}
use Rattle.typed_tree.specs.TypedAnswers.{TypedRefusal, plain, polymorphic, mixed}
use Rattle.typed_machine.specs.TypedMachine.{TypedSymbol, untyped_symbol, an_entry, a_typed_role, a_unit, maybe_connected, maybe_more_units, variables_bracket, next_variable, maybe_sort, more_variables, a_sort_word, a_declaration, a_type, maybe_result, an_arrow, a_result, more_sorts, TypedStep, takes, passes, stops, taken, typed_step_of, step, unit_step, connected_step, variable_step, sort_step, sort_refusal, is_sort_token, is_dollar_token, type_step, result_step, role_step, entry_step}
use Rattle.typed_machine.proofs.AboutRuns.PlainSymbols.{mark}
use Rattle.typed_machine.proofs.AboutSteps.RightSteps.{choose}

-- `$i` and `$tType`
abbrev pub a_dollar : Lexeme
a_dollar = lexeme Dollar (codes "$i")

abbrev pub a_kind : Lexeme
a_kind = lexeme Dollar (codes "$tType")

abbrev pub bang : Lexeme
bang = lexeme Connective (codes "!")

-- all but the beginning of an entry
abbrev pub is_inner : TypedSymbol → Bool
is_inner (an_entry limit) = false
is_inner (untyped_symbol a) = is_plain_inner a
is_inner a = true

abbrev pub TakenBy : TypedSymbol → Lexeme → Type 0
TakenBy a t = (new : List TypedSymbol) × (c : Option Refusal) × (step a t ≡ takes new c)

-- where a term or a sort may stand
abbrev pub TermAt : TypedSymbol → Type 0
TermAt a = TakenBy a a_variable × TakenBy a a_word

abbrev pub SortAt : TypedSymbol → Type 0
SortAt a = TakenBy a a_dollar × TakenBy a a_word

-- No form is left out by such a stop, and no polymorphic type.
pub record IsSyntaxStop (a : TypedSymbol) (t : Lexeme) : Type 0 where
  pub no_term : TakenBy a a_variable → TakenBy a a_word → form_of_token t.kind t.bytes ≡ None
  pub no_sort : TakenBy a a_dollar → TakenBy a a_word → t.kind ≡ Dollar → ⊥
  pub no_type : TakenBy a a_kind → t ≡ bang → ⊥

-- the reason is right
abbrev pub StopIsRight : TypedSymbol → Lexeme → TypedRefusal → Type 0
StopIsRight a t (plain syntax) = IsSyntaxStop a t
StopIsRight a t (plain (left_out typed)) = is_inner a ≡ false
StopIsRight a t (plain (left_out role_form)) = ⊥
StopIsRight a t (plain (left_out number_form)) = TermAt a × (form_of_token t.kind t.bytes ≡ Some number_form)
StopIsRight a t (plain (left_out distinct_form)) = TermAt a × (form_of_token t.kind t.bytes ≡ Some distinct_form)
StopIsRight a t (plain (left_out dollar_form)) =
    TermAt a × (form_of_token t.kind t.bytes ≡ Some dollar_form) ⊎ SortAt a × (t.kind ≡ Dollar)
StopIsRight a t (plain free_variable) = ⊥
StopIsRight a t (plain role_not_taken) = ⊥
StopIsRight a t (plain too_deep) = ⊥
StopIsRight a t polymorphic = TakenBy a a_kind × (t ≡ bang)
StopIsRight a t mixed = is_inner a ≡ false

-- left out before the beginnings of a term, a sort and a type
pub record IsLeftOutThere (a : TypedSymbol) : Type 0 where
  pub variable_too : step a a_variable ≡ passes
  pub word_too : step a a_word ≡ passes
  pub dollar_too : step a a_dollar ≡ passes
  pub kind_too : step a a_kind ≡ passes

-- Beginnings of entries never come; what is left out before this token is left out there; a stop is right.
abbrev pub IsHaltOf : TypedSymbol → Lexeme → TypedStep → Type 0
IsHaltOf a t (takes new cause) = list_all is_inner new ≡ true
IsHaltOf a t passes = IsLeftOutThere a
IsHaltOf a t (stops refusal) = StopIsRight a t refusal

-- a symbol that refuses one of these tokens
refuses :
    (x : TypedStep) (r : TypedRefusal) → x ≡ stops r → (P : Type 0) → (new : List TypedSymbol) × (c : Option Refusal) × (x ≡ takes new c) → P
refuses x r e P h = absurd (let f : stops r ≡ takes h.0 h.1 = sym e ∙ h.2 in cc)

lets-pass : (x : TypedStep) → x ≡ passes → (P : Type 0) → (new : List TypedSymbol) × (c : Option Refusal) × (x ≡ takes new c) → P
lets-pass x e P h = absurd (let f : passes ≡ takes h.0 h.1 = sym e ∙ h.2 in cc)

-- a stop where neither a term, a sort nor a type may stand, since a word is refused, and so is `$tType`
no-word : (a : TypedSymbol) (t : Lexeme) (r s : TypedRefusal) → step a a_word ≡ stops r → step a a_kind ≡ stops s → IsSyntaxStop a t
no-word a t r s e f = record {
  no_term = λ h k. refuses (step a a_word) r e (form_of_token t.kind t.bytes ≡ None) k;
  no_sort = λ h k i. refuses (step a a_word) r e ⊥ k;
  no_type = λ h i. refuses (step a a_kind) s f ⊥ h;
}

-- ---- symbols of untyped formulas

inner-map : (new : List Symbol) → list_all is_plain_inner new ≡ true → list_all is_inner (map untyped_symbol new) ≡ true
inner-map [] h = refl
inner-map (a ∷ new) h =
    let parts = and_parts (is_plain_inner a) (list_all is_plain_inner new) h in ap₂ (λ x y. x && y) parts.0 (inner-map new parts.1)

taken-forth : (a : Symbol) (u : Lexeme) → PlainTakenBy a u → TakenBy (untyped_symbol a) u
taken-forth a u h = (map untyped_symbol h.0, h.1, ap typed_step_of h.2)

taken-back : (a : Symbol) (u : Lexeme) → TakenBy (untyped_symbol a) u → PlainTakenBy a u
taken-back a u h = by (plain_step a u) refl h.2
  where
    by : (x : Step) → plain_step a u ≡ x → typed_step_of x ≡ takes h.0 h.1 → PlainTakenBy a u
    by (plain_takes new cause) e f = (new, cause, e)
    by plain_passes e f = absurd (let g : passes ≡ takes h.0 h.1 = f in cc)
    by (plain_stops refusal) e f = absurd (let g : stops (plain refusal) ≡ takes h.0 h.1 = f in cc)

-- what is left out before a variable is left out before a word with `$`
dollar-left : (a : Symbol) → plain_step a a_variable ≡ plain_passes → (plain_step a a_dollar ≡ plain_passes) × (plain_step a a_kind ≡ plain_passes)
dollar-left (maybe_arguments s) e = (refl, refl)
dollar-left (maybe_applied true s) e = (refl, refl)
dollar-left (maybe_applied false s) e = (refl, refl)
dollar-left (maybe_equation true s) e = (refl, refl)
dollar-left (maybe_equation false s) e = (refl, refl)
dollar-left (plain_connected s) e = (refl, refl)
dollar-left (plain_units sign s) e = (refl, refl)
dollar-left (maybe_more_literals s) e = (refl, refl)
dollar-left (plain_mark bytes) e = absurd (let f : plain_stops syntax ≡ plain_passes = e in cc)
dollar-left (an_equation true s) e = absurd (let f : plain_stops syntax ≡ plain_passes = e in cc)
dollar-left (an_equation false s) e = absurd (let f : plain_stops syntax ≡ plain_passes = e in cc)
dollar-left (more_notes limit []) e = absurd (cc)
dollar-left (more_notes limit (round ∷ bs)) e = absurd (cc)
dollar-left (more_notes limit (square ∷ bs)) e = absurd (cc)
dollar-left (more_notes limit (curly ∷ bs)) e = absurd (cc)
dollar-left a e = absurd (cc)

abbrev is_taking : Step → Bool
is_taking (plain_takes new cause) = true
is_taking plain_passes = false
is_taking (plain_stops refusal) = false

-- what takes one word with `$` is notes, which refuse neither another nor a `!`
dollar-stop :
    (a : Symbol) → PlainTakenBy a a_dollar → (bytes : List ℕ) (r : Refusal) → plain_step a (lexeme Dollar bytes) ≡ plain_stops r → ⊥
dollar-stop (first_note limit) h bytes r e = let f : true ≡ false = ap is_taking e in cc
dollar-stop (more_notes limit []) h bytes r e = let f : true ≡ false = ap is_taking e in cc
dollar-stop (more_notes limit (round ∷ bs)) h bytes r e = let f : true ≡ false = ap is_taking e in cc
dollar-stop (more_notes limit (square ∷ bs)) h bytes r e = let f : true ≡ false = ap is_taking e in cc
dollar-stop (more_notes limit (curly ∷ bs)) h bytes r e = let f : true ≡ false = ap is_taking e in cc
dollar-stop (maybe_applied true s) h bytes r e = let f : false ≡ true = ap is_taking h.2 in cc
dollar-stop (maybe_applied false s) h bytes r e = let f : false ≡ true = ap is_taking h.2 in cc
dollar-stop (maybe_equation true s) h bytes r e = let f : false ≡ true = ap is_taking h.2 in cc
dollar-stop (maybe_equation false s) h bytes r e = let f : false ≡ true = ap is_taking h.2 in cc
dollar-stop (an_equation true s) h bytes r e = let f : false ≡ true = ap is_taking h.2 in cc
dollar-stop (an_equation false s) h bytes r e = let f : false ≡ true = ap is_taking h.2 in cc
dollar-stop a h bytes r e = let f : false ≡ true = ap is_taking h.2 in cc

bang-stop : (a : Symbol) → PlainTakenBy a a_kind → (r : Refusal) → plain_step a bang ≡ plain_stops r → ⊥
bang-stop (first_note limit) h r e = let f : true ≡ false = ap is_taking e in cc
bang-stop (more_notes limit []) h r e = let f : true ≡ false = ap is_taking e in cc
bang-stop (more_notes limit (round ∷ bs)) h r e = let f : true ≡ false = ap is_taking e in cc
bang-stop (more_notes limit (square ∷ bs)) h r e = let f : true ≡ false = ap is_taking e in cc
bang-stop (more_notes limit (curly ∷ bs)) h r e = let f : true ≡ false = ap is_taking e in cc
bang-stop (maybe_applied true s) h r e = let f : false ≡ true = ap is_taking h.2 in cc
bang-stop (maybe_applied false s) h r e = let f : false ≡ true = ap is_taking h.2 in cc
bang-stop (maybe_equation true s) h r e = let f : false ≡ true = ap is_taking h.2 in cc
bang-stop (maybe_equation false s) h r e = let f : false ≡ true = ap is_taking h.2 in cc
bang-stop (an_equation true s) h r e = let f : false ≡ true = ap is_taking h.2 in cc
bang-stop (an_equation false s) h r e = let f : false ≡ true = ap is_taking h.2 in cc
bang-stop a h r e = let f : false ≡ true = ap is_taking h.2 in cc

plain-stop :
    (a : Symbol) (t : Lexeme) (r : Refusal) → plain_step a t ≡ plain_stops r → PlainStopIsRight a t r → StopIsRight (untyped_symbol a) t (plain r)
plain-stop a t syntax e h = record {
  no_term = λ v w. h (taken-back a a_variable v) (taken-back a a_word w);
  no_sort = λ v w k. dollar-stop a (taken-back a a_dollar v) t.bytes syntax (ap (λ x. plain_step a (lexeme x t.bytes)) (sym k) ∙ e);
  no_type = λ v k. bang-stop a (taken-back a a_kind v) syntax (ap (plain_step a) (sym k) ∙ e);
}
plain-stop a t (left_out typed) e h = h.0
plain-stop a t (left_out role_form) e h = h
plain-stop a t (left_out number_form) e h = ((taken-forth a a_variable h.0.0, taken-forth a a_word h.0.1), h.1)
plain-stop a t (left_out distinct_form) e h = ((taken-forth a a_variable h.0.0, taken-forth a a_word h.0.1), h.1)
plain-stop a t (left_out dollar_form) e h = inl ((taken-forth a a_variable h.0.0, taken-forth a a_word h.0.1), h.1)
plain-stop a t free_variable e h = h
plain-stop a t role_not_taken e h = h
plain-stop a t too_deep e h = h

plain-halts : (a : Symbol) (t : Lexeme) (x : Step) → plain_step a t ≡ x → IsPlainHaltOf a t x → IsHaltOf (untyped_symbol a) t (typed_step_of x)
plain-halts a t (plain_takes new cause) e h = inner-map new h
plain-halts a t plain_passes e h =
    let left = dollar-left a h.0 in
    record {
      variable_too = ap typed_step_of h.0;
      word_too = ap typed_step_of h.1;
      dollar_too = ap typed_step_of left.0;
      kind_too = ap typed_step_of left.1;
    }
plain-halts a t (plain_stops refusal) e h = plain-stop a t refusal e h

-- ---- formulas

no-sort-there :
    (a : TypedSymbol) (t : Lexeme) (r s : TypedRefusal) → step a a_dollar ≡ stops r → step a a_kind ≡ stops s → form_of_token t.kind t.bytes ≡ None
    → IsSyntaxStop a t
no-sort-there a t r s e f n = record {
  no_term = λ h k. n;
  no_sort = λ h k i. refuses (step a a_dollar) r e ⊥ h;
  no_type = λ h i. refuses (step a a_kind) s f ⊥ h;
}

-- a unit that begins with an atom
atom-halts : (s : Surroundings) (k : Kind) (bytes : List ℕ) → IsHaltOf (a_unit s) (lexeme k bytes) (typed_step_of (atom_step true s k bytes))
atom-halts s Lower bytes = refl
atom-halts s Variable bytes = refl
atom-halts s Quoted bytes = refl
atom-halts s Distinct bytes = (((_, _, refl), (_, _, refl)), refl)
atom-halts s Dollar bytes = by (is_truth_word bytes) refl
  where
    by :
        (b : Bool) → is_truth_word bytes ≡ b
        → IsHaltOf (a_unit s) (lexeme Dollar bytes) (typed_step_of (if b then plain_takes [] None else plain_stops (left_out dollar_form)))
    by true e = refl
    by false e = inl (((_, _, refl), (_, _, refl)), ap (λ b. if b then None else Some dollar_form) e)
atom-halts s Number bytes = (((_, _, refl), (_, _, refl)), refl)
atom-halts s Connective bytes = no-sort-there (a_unit s) (lexeme Connective bytes) (plain (left_out dollar_form)) (plain (left_out dollar_form)) refl refl refl
atom-halts s Mark bytes = no-sort-there (a_unit s) (lexeme Mark bytes) (plain (left_out dollar_form)) (plain (left_out dollar_form)) refl refl refl
atom-halts s Other bytes = no-sort-there (a_unit s) (lexeme Other bytes) (plain (left_out dollar_form)) (plain (left_out dollar_form)) refl refl refl

unit-halts : (s : Surroundings) (t : Lexeme) → IsHaltOf (a_unit s) t (unit_step s t)
unit-halts s t =
    choose (IsHaltOf (a_unit s) t) (is_connective (codes "~") t) (takes (a_unit (deeper s) ∷ []) (begun s)) _ (λ e. refl)
    (λ e. choose (IsHaltOf (a_unit s) t) (is_connective (codes "!") t || is_connective (codes "?") t) (taken (variables_bracket s ∷ [])) _ (λ f. refl)
    (λ f. choose (IsHaltOf (a_unit s) t) (is_mark (codes "(") t) (takes (a_unit (deeper s) ∷ maybe_connected (deeper s) ∷ mark (codes ")") ∷ []) (begun s)) _ (λ g. refl)
    (λ g. atom-halts s t.kind t.bytes)))

connected-halts : (s : Surroundings) (t : Lexeme) → IsHaltOf (maybe_connected s) t (connected_step s t)
connected-halts s t =
    choose (IsHaltOf (maybe_connected s) t) (is_connective (codes "&") t) (taken (a_unit s ∷ maybe_more_units (codes "&") s ∷ [])) _ (λ e. refl)
    (λ e. choose (IsHaltOf (maybe_connected s) t) (is_connective (codes "|") t) (taken (a_unit s ∷ maybe_more_units (codes "|") s ∷ [])) _ (λ f. refl)
    (λ f. choose (IsHaltOf (maybe_connected s) t) (is_binary_connective t) (taken (a_unit s ∷ [])) passes (λ g. refl)
    (λ g. record { variable_too = refl; word_too = refl; dollar_too = refl; kind_too = refl })))

variable-halts :
    (xs : List (List ℕ)) (s : Surroundings) (k : Kind) (bytes : List ℕ) → IsHaltOf (next_variable xs s) (lexeme k bytes) (variable_step xs s (lexeme k bytes))
variable-halts xs s Variable bytes = refl
variable-halts xs s Lower bytes = no-word (next_variable xs s) (lexeme Lower bytes) (plain syntax) (plain syntax) refl refl
variable-halts xs s Quoted bytes = no-word (next_variable xs s) (lexeme Quoted bytes) (plain syntax) (plain syntax) refl refl
variable-halts xs s Distinct bytes = no-word (next_variable xs s) (lexeme Distinct bytes) (plain syntax) (plain syntax) refl refl
variable-halts xs s Dollar bytes = no-word (next_variable xs s) (lexeme Dollar bytes) (plain syntax) (plain syntax) refl refl
variable-halts xs s Number bytes = no-word (next_variable xs s) (lexeme Number bytes) (plain syntax) (plain syntax) refl refl
variable-halts xs s Connective bytes = no-word (next_variable xs s) (lexeme Connective bytes) (plain syntax) (plain syntax) refl refl
variable-halts xs s Mark bytes = no-word (next_variable xs s) (lexeme Mark bytes) (plain syntax) (plain syntax) refl refl
variable-halts xs s Other bytes = no-word (next_variable xs s) (lexeme Other bytes) (plain syntax) (plain syntax) refl refl

-- ---- sorts and types

dollar-kind : (k : Kind) → (kind_place k == kind_place Dollar) ≡ true → k ≡ Dollar
dollar-kind Dollar h = refl
dollar-kind k h = absurd (let f : false ≡ true = h in cc)

-- a token that is no sort where one has to stand
sort-halts :
    (a : TypedSymbol) (t : Lexeme) (r : TypedRefusal) → step a a_variable ≡ stops r → SortAt a → (TakenBy a a_kind → t ≡ bang → ⊥)
    → StopIsRight a t (plain (sort_refusal t))
sort-halts a t r e s n = by (is_dollar_token t) refl
  where
    by : (b : Bool) → is_dollar_token t ≡ b → StopIsRight a t (plain (if b then left_out dollar_form else syntax))
    by true f = inr (s, dollar-kind t.kind f)
    by false f = record {
      no_term = λ h k. refuses (step a a_variable) r e (form_of_token t.kind t.bytes ≡ None) h;
      no_sort = λ h k i. let g : true ≡ false = ap (λ x. kind_place x == kind_place Dollar) (sym i) ∙ f in cc;
      no_type = n;
    }

sort_word-halts : (t : Lexeme) → IsHaltOf a_sort_word t (sort_step [] t)
sort_word-halts t =
    choose (IsHaltOf a_sort_word t) (is_sort_token t) (taken []) (stops (plain (sort_refusal t))) (λ e. refl)
    (λ e. sort-halts a_sort_word t (plain syntax) refl ((_, _, refl), (_, _, refl))
    (λ h i. refuses (step a_sort_word a_kind) (plain (left_out dollar_form)) refl ⊥ h))

result-halts : (t : Lexeme) → IsHaltOf a_result t (result_step t)
result-halts t =
    choose (IsHaltOf a_result t) (is_lexeme Dollar (codes "$o") t) (taken []) _ (λ e. refl)
    (λ e. choose (IsHaltOf a_result t) (is_sort_token t) (taken []) (stops (plain (sort_refusal t))) (λ f. refl)
    (λ f. sort-halts a_result t (plain syntax) refl ((_, _, refl), (_, _, refl))
    (λ h i. refuses (step a_result a_kind) (plain (left_out dollar_form)) refl ⊥ h)))

type-halts : (s : Surroundings) (t : Lexeme) → IsHaltOf (a_type s) t (type_step s t)
type-halts s t =
    choose (IsHaltOf (a_type s) t) (is_lexeme Dollar (codes "$tType") t || is_lexeme Dollar (codes "$o") t) (taken []) _ (λ e. refl)
    (λ e. choose (IsHaltOf (a_type s) t) (is_connective (codes "!") t) (stops polymorphic) _ (λ f. ((_, _, refl), connective-same (codes "!") t f))
    (λ f. choose (IsHaltOf (a_type s) t) (is_mark (codes "(") t) (takes (a_sort_word ∷ more_sorts ∷ an_arrow ∷ a_result ∷ []) (begun s)) _ (λ g. refl)
    (λ g. choose (IsHaltOf (a_type s) t) (is_sort_token t) (taken (maybe_result ∷ [])) (stops (plain (sort_refusal t))) (λ i. refl)
    (λ i. sort-halts (a_type s) t (plain syntax) refl ((_, _, refl), (_, _, refl))
    (λ h k. let j : true ≡ false = ap (is_connective (codes "!")) (sym k) ∙ f in cc)))))

declaration-halts : (s : Surroundings) (t : Lexeme) → IsHaltOf (a_declaration s) t (step (a_declaration s) t)
declaration-halts s t =
    choose (IsHaltOf (a_declaration s) t) (is_mark (codes "(") t) (takes (a_declaration (deeper s) ∷ mark (codes ")") ∷ []) (begun s)) _ (λ e. refl)
    (λ e. choose (IsHaltOf (a_declaration s) t) (is_word t.kind) (taken (mark (codes ":") ∷ a_type s ∷ [])) (stops (plain syntax)) (λ f. refl)
    (λ f. record {
      no_term = λ h k. refuses (step (a_declaration s) a_variable) (plain syntax) refl (form_of_token t.kind t.bytes ≡ None) h;
      no_sort = λ h k i. refuses (step (a_declaration s) a_dollar) (plain syntax) refl ⊥ h;
      no_type = λ h i. refuses (step (a_declaration s) a_kind) (plain syntax) refl ⊥ h;
    }))

-- ---- entries

no-role : (limit : ℕ) (t : Lexeme) → IsSyntaxStop (a_typed_role limit) t
no-role limit t = record {
  no_term = λ h k. refuses (step (a_typed_role limit) a_variable) (plain syntax) refl (form_of_token t.kind t.bytes ≡ None) h;
  no_sort = λ h k i. refuses (step (a_typed_role limit) a_dollar) (plain syntax) refl ⊥ h;
  no_type = λ h i. refuses (step (a_typed_role limit) a_kind) (plain syntax) refl ⊥ h;
}

role-halts : (limit : ℕ) (k : Kind) (bytes : List ℕ) → IsHaltOf (a_typed_role limit) (lexeme k bytes) (role_step limit (lexeme k bytes))
role-halts limit Lower bytes =
    choose (IsHaltOf (a_typed_role limit) (lexeme Lower bytes)) (bytes_eq (codes "type") bytes) (taken _) (takes _ _) (λ e. refl) (λ e. refl)
role-halts limit Variable bytes = no-role limit (lexeme Variable bytes)
role-halts limit Quoted bytes = no-role limit (lexeme Quoted bytes)
role-halts limit Distinct bytes = no-role limit (lexeme Distinct bytes)
role-halts limit Dollar bytes = no-role limit (lexeme Dollar bytes)
role-halts limit Number bytes = no-role limit (lexeme Number bytes)
role-halts limit Connective bytes = no-role limit (lexeme Connective bytes)
role-halts limit Mark bytes = no-role limit (lexeme Mark bytes)
role-halts limit Other bytes = no-role limit (lexeme Other bytes)

entry-halts : (limit : ℕ) (t : Lexeme) → IsHaltOf (an_entry limit) t (entry_step limit t)
entry-halts limit t =
    choose (IsHaltOf (an_entry limit) t) (is_lexeme Lower (codes "tff") t) (taken _) _ (λ e. refl)
    (λ e. choose (IsHaltOf (an_entry limit) t) (is_lexeme Lower (codes "fof") t || is_lexeme Lower (codes "cnf") t) (stops mixed) _ (λ f. refl)
    (λ f. choose (IsHaltOf (an_entry limit) t) _ (stops (plain (left_out typed))) (stops (plain syntax)) (λ g. refl)
    (λ g. no-word (an_entry limit) t (plain syntax) (plain syntax) refl refl)))

-- a mark, or a stop
mark-halts :
    (a : TypedSymbol) (bytes : List ℕ) (t : Lexeme) (new : List TypedSymbol) (cause : Option Refusal) (other : TypedStep)
    → list_all is_inner new ≡ true → IsHaltOf a t other → IsHaltOf a t (if is_mark bytes t then takes new cause else other)
mark-halts a bytes t new cause other h k = choose (IsHaltOf a t) (is_mark bytes t) (takes new cause) other (λ e. h) (λ e. k)

pub step-halts : (a : TypedSymbol) (t : Lexeme) → IsHaltOf a t (step a t)
step-halts (untyped_symbol a) t = plain-halts a t (plain_step a t) refl (plain-step-halts a t)
step-halts (an_entry limit) t = entry-halts limit t
step-halts (a_typed_role limit) t = role-halts limit t.kind t.bytes
step-halts (a_unit s) t = unit-halts s t
step-halts (maybe_connected s) t = connected-halts s t
step-halts (maybe_more_units sign s) t =
    choose (IsHaltOf (maybe_more_units sign s) t) (is_connective sign t) (taken (a_unit s ∷ maybe_more_units sign s ∷ [])) passes (λ e. refl)
    (λ e. record { variable_too = refl; word_too = refl; dollar_too = refl; kind_too = refl })
step-halts (variables_bracket s) t =
    mark-halts (variables_bracket s) (codes "[") t (next_variable [] s ∷ []) (begun s) (stops (plain syntax)) refl
    (no-word (variables_bracket s) t (plain syntax) (plain syntax) refl refl)
step-halts (next_variable xs s) t = variable-halts xs s t.kind t.bytes
step-halts maybe_sort t =
    mark-halts maybe_sort (codes ":") t (a_sort_word ∷ []) None passes refl
    (record { variable_too = refl; word_too = refl; dollar_too = refl; kind_too = refl })
step-halts (more_variables xs s) t =
    mark-halts (more_variables xs s) (codes ",") t (next_variable xs s ∷ []) None _ refl
    (mark-halts (more_variables xs s) (codes "]") t (mark (codes ":") ∷ a_unit (binding xs s) ∷ []) None (stops (plain syntax)) refl
    (no-word (more_variables xs s) t (plain syntax) (plain syntax) refl refl))
step-halts a_sort_word t = sort_word-halts t
step-halts (a_declaration s) t = declaration-halts s t
step-halts (a_type s) t = type-halts s t
step-halts maybe_result t =
    choose (IsHaltOf maybe_result t) (is_lexeme Other (codes ">") t) (taken (a_result ∷ [])) passes (λ e. refl)
    (λ e. record { variable_too = refl; word_too = refl; dollar_too = refl; kind_too = refl })
step-halts an_arrow t =
    choose (IsHaltOf an_arrow t) (is_lexeme Other (codes ">") t) (taken []) (stops (plain syntax)) (λ e. refl)
    (λ e. no-word an_arrow t (plain syntax) (plain syntax) refl refl)
step-halts a_result t = result-halts t
step-halts more_sorts t =
    choose (IsHaltOf more_sorts t) (is_lexeme Other (codes "*") t) (taken (a_sort_word ∷ more_sorts ∷ [])) _ (λ e. refl)
    (λ e. mark-halts more_sorts (codes ")") t [] None (stops (plain syntax)) refl (no-word more_sorts t (plain syntax) (plain syntax) refl refl))
