-- Why a stack refuses a token that no text goes on with.
use Rattle.std.proofs.Common.{◌≡◌, ℕ, Bool, true, false, ◌&&◌, Option, None, Some, List, [], ◌∷◌, ◌++◌, codes, refl, ap, ap₂, sym, ◌∙◌, subst}
use Rattle.std.specs.Prelude.{if◌then◌else◌}
use Rattle.std.specs.List.{list_all}
use Rattle.std.proofs.lemmas.Bool.{and_parts}
use Rattle.tptp_token.specs.Spelling.{is_one_of}
use Rattle.tptp_token.specs.Lexemes.{Lexeme, is_mark, is_connective}
use Rattle.tptp_token.specs.declared.token.Kind.TheVariants.{Lower}
use Rattle.tptp_tree.specs.Brackets.{round, square, curly}
use Rattle.tptp_tree.specs.Causes.{typed, role_form, number_form, distinct_form, dollar_form, Refusal, syntax, free_variable, role_not_taken, too_deep, left_out, begun, deeper}
use Rattle.tptp_reader.specs.Machine.{Symbol, mark, a_term, maybe_arguments, more_arguments, maybe_applied, maybe_equation, an_equation, a_unit, maybe_connected, maybe_more_units, a_literal, maybe_more_literals, more_notes, an_annotated, Step, takes, passes, stops, taken, step, typed_words, arguments, equation_step, is_binary_connective, is_sign_of_equation}
use Rattle.tptp_reader.specs.Answers.{form_of_token}
use Rattle.tptp_reader.proofs.AboutRuns.TraceLemmas.{to, halted, emptied, moved_by, moved}
use Rattle.tptp_reader.proofs.AboutTexts.TokenTests.{choose}
use Rattle.tptp_reader.proofs.AboutSteps.HaltLemmas.{a_variable, a_word, is_inner, TakenBy, StopIsRight, IsHaltOf, step-halts}
use Rattle.tptp_reader.proofs.AboutRuns.ReachLemmas.{Reaches}

-- ---- symbols that may be left out refuse nothing

abbrev may_pass : Symbol → Bool
may_pass (maybe_arguments s) = true
may_pass (maybe_applied b s) = true
may_pass (maybe_equation b s) = true
may_pass (maybe_connected s) = true
may_pass (maybe_more_units sign s) = true
may_pass (maybe_more_literals s) = true
may_pass a = false

abbrev Goes : Step → Type 0
Goes (takes new cause) = Unit {0}
Goes passes = Unit {0}
Goes (stops refusal) = ⊥

both-go : (b : Bool) (x y : Step) → Goes x → Goes y → Goes (if b then x else y)
both-go b x y h k = choose Goes b x y (λ e. h) (λ e. k)

goes : (a : Symbol) (t : Lexeme) → may_pass a ≡ true → Goes (step a t)
goes (maybe_arguments s) t h = both-go (is_mark (codes "(") t) (takes (arguments (deeper s)) (begun s)) passes tt tt
goes (maybe_applied b s) t h =
    both-go (is_mark (codes "(") t) (takes (a_term (deeper s) ∷ more_arguments (deeper s) ∷ maybe_equation b s ∷ []) (begun s)) (equation_step b s passes t) tt
    (both-go (is_sign_of_equation b t) (taken (a_term s ∷ [])) passes tt tt)
goes (maybe_equation b s) t h = both-go (is_sign_of_equation b t) (taken (a_term s ∷ [])) passes tt tt
goes (maybe_connected s) t h =
    both-go (is_connective (codes "&") t) (taken (a_unit s ∷ maybe_more_units (codes "&") s ∷ [])) _ tt
    (both-go (is_connective (codes "|") t) (taken (a_unit s ∷ maybe_more_units (codes "|") s ∷ [])) _ tt
    (both-go (is_binary_connective t) (taken (a_unit s ∷ [])) passes tt tt))
goes (maybe_more_units sign s) t h = both-go (is_connective sign t) (taken (a_unit s ∷ maybe_more_units sign s ∷ [])) passes tt tt
goes (maybe_more_literals s) t h = both-go (is_connective (codes "|") t) (taken (a_literal s ∷ maybe_more_literals s ∷ [])) passes tt tt
goes a t h = absurd (let f : false ≡ true = h in cc)

never-left-out : (a : Symbol) → may_pass a ≡ false → (step a a_variable ≡ passes) → ⊥
never-left-out (mark bytes) h e = let f : stops syntax ≡ passes = e in cc
never-left-out (an_equation true s) h e = let f : stops syntax ≡ passes = e in cc
never-left-out (an_equation false s) h e = let f : stops syntax ≡ passes = e in cc
never-left-out (maybe_arguments s) h e = let f : true ≡ false = h in cc
never-left-out (maybe_applied b s) h e = let f : true ≡ false = h in cc
never-left-out (maybe_equation b s) h e = let f : true ≡ false = h in cc
never-left-out (maybe_connected s) h e = let f : true ≡ false = h in cc
never-left-out (maybe_more_units sign s) h e = let f : true ≡ false = h in cc
never-left-out (maybe_more_literals s) h e = let f : true ≡ false = h in cc
never-left-out (more_notes limit []) h e = cc
never-left-out (more_notes limit (round ∷ bs)) h e = cc
never-left-out (more_notes limit (square ∷ bs)) h e = cc
never-left-out (more_notes limit (curly ∷ bs)) h e = cc
never-left-out a h e = cc

stopped-never-passes : (a : Symbol) (t : Lexeme) (refusal : Refusal) → step a t ≡ stops refusal → (step a a_variable ≡ passes) → ⊥
stopped-never-passes a t refusal e f = by (may_pass a) refl
  where
    by : (b : Bool) → may_pass a ≡ b → ⊥
    by true h = subst Goes e (goes a t h)
    by false h = never-left-out a h f

-- ---- stacks

abbrev pub Takes : List Symbol → Lexeme → Type 0
Takes s t = (next : List Symbol) × (c : Option Refusal) × (moved s t ≡ to c next)

-- the reason for which a stack refuses a token
abbrev pub HaltIsRight : List Symbol → Lexeme → Refusal → Type 0
HaltIsRight s t syntax = Takes s a_variable → Takes s a_word → form_of_token t.kind t.bytes ≡ None
HaltIsRight s t (left_out typed) = (list_all is_inner s ≡ true → ⊥) × (t.kind ≡ Lower) × (is_one_of typed_words t.bytes ≡ true)
HaltIsRight s t (left_out role_form) = ⊥
HaltIsRight s t (left_out number_form) = (Takes s a_variable × Takes s a_word) × (form_of_token t.kind t.bytes ≡ Some number_form)
HaltIsRight s t (left_out distinct_form) = (Takes s a_variable × Takes s a_word) × (form_of_token t.kind t.bytes ≡ Some distinct_form)
HaltIsRight s t (left_out dollar_form) = (Takes s a_variable × Takes s a_word) × (form_of_token t.kind t.bytes ≡ Some dollar_form)
HaltIsRight s t free_variable = ⊥
HaltIsRight s t role_not_taken = ⊥
HaltIsRight s t too_deep = ⊥

-- what the symbol at the top takes
taken-by : (a : Symbol) (s : List Symbol) (t : Lexeme) → TakenBy a t → Takes (a ∷ s) t
taken-by a s t h = (h.0 ++ s, h.1, ap (λ x. moved_by x s (moved s t)) h.2)

-- a symbol that isn't left out
taken-at-top : (a : Symbol) (s : List Symbol) (t : Lexeme) → ((step a t ≡ passes) → ⊥) → Takes (a ∷ s) t → TakenBy a t
taken-at-top a s t n h = by (step a t) refl h.2
  where
    by : (x : Step) → step a t ≡ x → moved_by x s (moved s t) ≡ to h.1 h.0 → TakenBy a t
    by (takes new cause) e f = (new, cause, e)
    by passes e f = absurd (n e)
    by (stops refusal) e f = absurd (let g : halted refusal ≡ to h.1 h.0 = f in cc)

stop-right : (a : Symbol) (s : List Symbol) (t : Lexeme) (refusal : Refusal) → step a t ≡ stops refusal → StopIsRight a t refusal → HaltIsRight (a ∷ s) t refusal
stop-right a s t syntax e h = λ v w.
    h (taken-at-top a s a_variable (stopped-never-passes a t syntax e) v)
    (taken-at-top a s a_word (λ f. stopped-never-passes a t syntax e (subst (IsHaltOf a a_word) f (step-halts a a_word)).0) w)
stop-right a s t (left_out typed) e h = (λ i. let g = and_parts (is_inner a) (list_all is_inner s) i in let f : false ≡ true = sym h.0 ∙ g.0 in cc, h.1, h.2)
stop-right a s t (left_out role_form) e h = h
stop-right a s t (left_out number_form) e h = ((taken-by a s a_variable h.0.0, taken-by a s a_word h.0.1), h.1)
stop-right a s t (left_out distinct_form) e h = ((taken-by a s a_variable h.0.0, taken-by a s a_word h.0.1), h.1)
stop-right a s t (left_out dollar_form) e h = ((taken-by a s a_variable h.0.0, taken-by a s a_word h.0.1), h.1)
stop-right a s t free_variable e h = h
stop-right a s t role_not_taken e h = h
stop-right a s t too_deep e h = h

-- a symbol that is left out before a term too
left-out-right :
    (a : Symbol) (s : List Symbol) (t : Lexeme) (refusal : Refusal) → step a a_variable ≡ passes → step a a_word ≡ passes
    → HaltIsRight s t refusal → HaltIsRight (a ∷ s) t refusal
left-out-right a s t refusal v w h = by refusal h
  where
    up : (u : Lexeme) → step a u ≡ passes → Takes s u → Takes (a ∷ s) u
    up u e k = (k.0, k.1, ap (λ x. moved_by x s (moved s u)) e ∙ k.2)

    down : (u : Lexeme) → step a u ≡ passes → Takes (a ∷ s) u → Takes s u
    down u e k = (k.0, k.1, ap (λ x. moved_by x s (moved s u)) (sym e) ∙ k.2)

    by : (refusal : Refusal) → HaltIsRight s t refusal → HaltIsRight (a ∷ s) t refusal
    by syntax k = λ x y. k (down a_variable v x) (down a_word w y)
    by (left_out typed) k = (λ i. k.0 (and_parts (is_inner a) (list_all is_inner s) i).1, k.1, k.2)
    by (left_out role_form) k = k
    by (left_out number_form) k = ((up a_variable v k.0.0, up a_word w k.0.1), k.1)
    by (left_out distinct_form) k = ((up a_variable v k.0.0, up a_word w k.0.1), k.1)
    by (left_out dollar_form) k = ((up a_variable v k.0.0, up a_word w k.0.1), k.1)
    by free_variable k = k
    by role_not_taken k = k
    by too_deep k = k

pub halted-right : (s : List Symbol) (t : Lexeme) (refusal : Refusal) → moved s t ≡ halted refusal → HaltIsRight s t refusal
halted-right [] t refusal e = absurd (let f : emptied ≡ halted refusal = e in cc)
halted-right (a ∷ s) t refusal e = by (λ f. halted-right s t refusal f) (step a t) refl (step-halts a t) e
  where
    by :
        (moved s t ≡ halted refusal → HaltIsRight s t refusal)
        → (x : Step) → step a t ≡ x → IsHaltOf a t x → moved_by x s (moved s t) ≡ halted refusal → HaltIsRight (a ∷ s) t refusal
    by below (takes new cause) i h f = absurd (let g : to cause (new ++ s) ≡ halted refusal = f in cc)
    by below passes i h f = left-out-right a s t refusal h.0 h.1 (below f)
    by below (stops r) i h f =
        let same : r ≡ refusal = cc in
        stop-right a s t refusal (i ∙ ap stops same) (subst (StopIsRight a t) same h)

-- ---- behind the first token no entry begins

inner-append : (new s : List Symbol) → list_all is_inner new ≡ true → list_all is_inner s ≡ true → list_all is_inner (new ++ s) ≡ true
inner-append [] s h k = k
inner-append (a ∷ new) s h k =
    let parts = and_parts (is_inner a) (list_all is_inner new) h in ap₂ (λ x y. x && y) parts.0 (inner-append new s parts.1 k)

inner-next :
    (a : Symbol) (s : List Symbol) (t : Lexeme) (c : Option Refusal) (next : List Symbol)
    → (moved s t ≡ to c next → list_all is_inner next ≡ true)
    → list_all is_inner s ≡ true → moved (a ∷ s) t ≡ to c next → list_all is_inner next ≡ true
inner-next a s t c next below h e = by (step a t) (step-halts a t) e
  where
    by : (x : Step) → IsHaltOf a t x → moved_by x s (moved s t) ≡ to c next → list_all is_inner next ≡ true
    by (takes new cause) i f =
        let same : new ++ s ≡ next = cc in ap (list_all is_inner) (sym same) ∙ inner-append new s i h
    by passes i f = below f
    by (stops r) i f = absurd (let g : halted r ≡ to c next = f in cc)

inner-kept :
    (s : List Symbol) (t : Lexeme) (c : Option Refusal) (next : List Symbol)
    → list_all is_inner s ≡ true → moved s t ≡ to c next → list_all is_inner next ≡ true
inner-kept [] t c next h e = absurd (let g : emptied ≡ to c next = e in cc)
inner-kept (a ∷ s) t c next h e =
    let below = (and_parts (is_inner a) (list_all is_inner s) h).1 in inner-next a s t c next (λ f. inner-kept s t c next below f) below e

inner-reached :
    (s : List Symbol) (ts : List Lexeme) (cs : List (Option Refusal)) (end : List Symbol)
    → list_all is_inner s ≡ true → Reaches s ts cs end → list_all is_inner end ≡ true
inner-reached s [] [] end h r = ap (list_all is_inner) (sym r) ∙ h
inner-reached s [] (c ∷ cs) end h r = absurd r
inner-reached s (t ∷ ts) [] end h r = absurd r
inner-reached s (t ∷ ts) (c ∷ cs) end h r = inner-reached r.0 ts cs end (inner-kept s t c r.0 h r.1) r.2

-- an entry begins at the first token alone
pub begun-first :
    (limit : ℕ) (ts : List Lexeme) (cs : List (Option Refusal)) (end : List Symbol)
    → Reaches (an_annotated limit ∷ []) ts cs end → (list_all is_inner end ≡ true → ⊥) → ts ≡ []
begun-first limit [] cs end r n = refl
begun-first limit (t ∷ ts) [] end r n = absurd r
begun-first limit (t ∷ ts) (c ∷ cs) end r n =
    absurd (n (inner-reached r.0 ts cs end (inner-next (an_annotated limit) [] t c r.0 (λ f. absurd (let g : emptied ≡ to c r.0 = f in cc)) refl r.1) r.2))
