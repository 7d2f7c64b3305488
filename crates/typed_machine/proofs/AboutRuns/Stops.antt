-- Why a stack refuses a token that no text goes on with.
use Rattle.std.proofs.Common.{◌≡◌, ◌⊎◌, inl, inr, ℕ, true, false, Option, None, Some, List, [], ◌∷◌, ◌++◌, refl, ap, ap₂, sym, ◌∙◌, subst}
use Rattle.std.specs.Prelude.{◌&&◌}
use Rattle.std.specs.List.{list_all}
use Rattle.std.proofs.lemmas.Bool.{and_parts}
use Rattle.tptp_token.specs.Lexemes.{Lexeme}
use Rattle.tptp_token.specs.declared.token.Kind.TheVariants.{Dollar}
use Rattle.tptp_tree.specs.Causes.{typed, role_form, number_form, distinct_form, dollar_form, Refusal, syntax, free_variable, role_not_taken, too_deep, left_out}
use Rattle.tptp_reader.specs.Answers.{form_of_token}
use Rattle.tptp_reader.proofs.AboutSteps.HaltLemmas.{a_variable, a_word}
use Rattle.typed_tree.specs.TypedAnswers.{TypedRefusal, plain, polymorphic, mixed}
use Rattle.typed_machine.specs.TypedMachine.{TypedSymbol, an_entry, TypedStep, takes, passes, stops, step}
use Rattle.typed_machine.proofs.AboutRuns.Traces.{to, halted, emptied, moved_by, moved}
use Rattle.typed_machine.proofs.AboutRuns.Reaching.{Reaches}
use Rattle.typed_machine.proofs.AboutSteps.LeftOut.{left-out-never-stops}
use Rattle.typed_machine.proofs.AboutSteps.Halts.{a_dollar, a_kind, bang, is_inner, TakenBy, StopIsRight, IsLeftOutThere, IsHaltOf, step-halts}

-- ---- stacks

abbrev pub Takes : List TypedSymbol → Lexeme → Type 0
Takes s t = (next : List TypedSymbol) × (c : Option Refusal) × (moved s t ≡ to c next)

-- No form is left out, and no polymorphic type.
pub record IsSyntaxHalt (s : List TypedSymbol) (t : Lexeme) : Type 0 where
  pub no_term : Takes s a_variable → Takes s a_word → form_of_token t.kind t.bytes ≡ None
  pub no_sort : Takes s a_dollar → Takes s a_word → t.kind ≡ Dollar → ⊥
  pub no_type : Takes s a_kind → t ≡ bang → ⊥

-- the reason for which a stack refuses a token
abbrev pub HaltIsRight : List TypedSymbol → Lexeme → TypedRefusal → Type 0
HaltIsRight s t (plain syntax) = IsSyntaxHalt s t
HaltIsRight s t (plain (left_out typed)) = list_all is_inner s ≡ true → ⊥
HaltIsRight s t (plain (left_out role_form)) = ⊥
HaltIsRight s t (plain (left_out number_form)) = (Takes s a_variable × Takes s a_word) × (form_of_token t.kind t.bytes ≡ Some number_form)
HaltIsRight s t (plain (left_out distinct_form)) = (Takes s a_variable × Takes s a_word) × (form_of_token t.kind t.bytes ≡ Some distinct_form)
HaltIsRight s t (plain (left_out dollar_form)) =
    (Takes s a_variable × Takes s a_word) × (form_of_token t.kind t.bytes ≡ Some dollar_form)
    ⊎ (Takes s a_dollar × Takes s a_word) × (t.kind ≡ Dollar)
HaltIsRight s t (plain free_variable) = ⊥
HaltIsRight s t (plain role_not_taken) = ⊥
HaltIsRight s t (plain too_deep) = ⊥
HaltIsRight s t polymorphic = Takes s a_kind × (t ≡ bang)
HaltIsRight s t mixed = list_all is_inner s ≡ true → ⊥

-- what the symbol at the top takes
taken-by : (a : TypedSymbol) (s : List TypedSymbol) (t : Lexeme) → TakenBy a t → Takes (a ∷ s) t
taken-by a s t h = (h.0 ++ s, h.1, ap (λ x. moved_by x s (moved s t)) h.2)

-- a symbol that isn't left out
taken-at-top : (a : TypedSymbol) (s : List TypedSymbol) (t : Lexeme) → ((step a t ≡ passes) → ⊥) → Takes (a ∷ s) t → TakenBy a t
taken-at-top a s t n h = by (step a t) refl h.2
  where
    by : (x : TypedStep) → step a t ≡ x → moved_by x s (moved s t) ≡ to h.1 h.0 → TakenBy a t
    by (takes new cause) e f = (new, cause, e)
    by passes e f = absurd (n e)
    by (stops refusal) e f = absurd (let g : halted refusal ≡ to h.1 h.0 = f in cc)

-- a symbol that refuses a token isn't left out before another
stopped-never-passes : (a : TypedSymbol) (t u : Lexeme) (refusal : TypedRefusal) → step a t ≡ stops refusal → step a u ≡ passes → ⊥
stopped-never-passes a t u refusal e f =
    let there : IsLeftOutThere a = subst (IsHaltOf a u) f (step-halts a u) in left-out-never-stops a t refusal there.variable_too e

stop-right :
    (a : TypedSymbol) (s : List TypedSymbol) (t : Lexeme) (refusal : TypedRefusal) → step a t ≡ stops refusal → StopIsRight a t refusal
    → HaltIsRight (a ∷ s) t refusal
stop-right a s t (plain syntax) e h =
    let at : (u : Lexeme) → Takes (a ∷ s) u → TakenBy a u = λ u k. taken-at-top a s u (λ f. stopped-never-passes a t u (plain syntax) e f) k in
    record {
      no_term = λ v w. h.no_term (at a_variable v) (at a_word w);
      no_sort = λ v w k. h.no_sort (at a_dollar v) (at a_word w) k;
      no_type = λ v k. h.no_type (at a_kind v) k;
    }
stop-right a s t (plain (left_out typed)) e h =
    λ i. let g = and_parts (is_inner a) (list_all is_inner s) i in let f : false ≡ true = sym h ∙ g.0 in cc
stop-right a s t (plain (left_out role_form)) e h = h
stop-right a s t (plain (left_out number_form)) e h = ((taken-by a s a_variable h.0.0, taken-by a s a_word h.0.1), h.1)
stop-right a s t (plain (left_out distinct_form)) e h = ((taken-by a s a_variable h.0.0, taken-by a s a_word h.0.1), h.1)
stop-right a s t (plain (left_out dollar_form)) e (inl h) = inl ((taken-by a s a_variable h.0.0, taken-by a s a_word h.0.1), h.1)
stop-right a s t (plain (left_out dollar_form)) e (inr h) = inr ((taken-by a s a_dollar h.0.0, taken-by a s a_word h.0.1), h.1)
stop-right a s t (plain free_variable) e h = h
stop-right a s t (plain role_not_taken) e h = h
stop-right a s t (plain too_deep) e h = h
stop-right a s t polymorphic e h = (taken-by a s a_kind h.0, h.1)
stop-right a s t mixed e h = λ i. let g = and_parts (is_inner a) (list_all is_inner s) i in let f : false ≡ true = sym h ∙ g.0 in cc

-- a symbol that is left out there too
left-out-right :
    (a : TypedSymbol) (s : List TypedSymbol) (t : Lexeme) (refusal : TypedRefusal) → IsLeftOutThere a → HaltIsRight s t refusal
    → HaltIsRight (a ∷ s) t refusal
left-out-right a s t refusal l h = by refusal h
  where
    up : (u : Lexeme) → step a u ≡ passes → Takes s u → Takes (a ∷ s) u
    up u e k = (k.0, k.1, ap (λ x. moved_by x s (moved s u)) e ∙ k.2)

    down : (u : Lexeme) → step a u ≡ passes → Takes (a ∷ s) u → Takes s u
    down u e k = (k.0, k.1, ap (λ x. moved_by x s (moved s u)) (sym e) ∙ k.2)

    by : (refusal : TypedRefusal) → HaltIsRight s t refusal → HaltIsRight (a ∷ s) t refusal
    by (plain syntax) k = record {
      no_term = λ x y. k.no_term (down a_variable l.variable_too x) (down a_word l.word_too y);
      no_sort = λ x y i. k.no_sort (down a_dollar l.dollar_too x) (down a_word l.word_too y) i;
      no_type = λ x i. k.no_type (down a_kind l.kind_too x) i;
    }
    by (plain (left_out typed)) k = λ i. k (and_parts (is_inner a) (list_all is_inner s) i).1
    by (plain (left_out role_form)) k = k
    by (plain (left_out number_form)) k = ((up a_variable l.variable_too k.0.0, up a_word l.word_too k.0.1), k.1)
    by (plain (left_out distinct_form)) k = ((up a_variable l.variable_too k.0.0, up a_word l.word_too k.0.1), k.1)
    by (plain (left_out dollar_form)) (inl k) = inl ((up a_variable l.variable_too k.0.0, up a_word l.word_too k.0.1), k.1)
    by (plain (left_out dollar_form)) (inr k) = inr ((up a_dollar l.dollar_too k.0.0, up a_word l.word_too k.0.1), k.1)
    by (plain free_variable) k = k
    by (plain role_not_taken) k = k
    by (plain too_deep) k = k
    by polymorphic k = (up a_kind l.kind_too k.0, k.1)
    by mixed k = λ i. k (and_parts (is_inner a) (list_all is_inner s) i).1

pub halted-right : (s : List TypedSymbol) (t : Lexeme) (refusal : TypedRefusal) → moved s t ≡ halted refusal → HaltIsRight s t refusal
halted-right [] t refusal e = absurd (let f : emptied ≡ halted refusal = e in cc)
halted-right (a ∷ s) t refusal e = by (λ f. halted-right s t refusal f) (step a t) refl (step-halts a t) e
  where
    by :
        (moved s t ≡ halted refusal → HaltIsRight s t refusal)
        → (x : TypedStep) → step a t ≡ x → IsHaltOf a t x → moved_by x s (moved s t) ≡ halted refusal → HaltIsRight (a ∷ s) t refusal
    by below (takes new cause) i h f = absurd (let g : to cause (new ++ s) ≡ halted refusal = f in cc)
    by below passes i h f = left-out-right a s t refusal h (below f)
    by below (stops r) i h f =
        let same : r ≡ refusal = cc in
        stop-right a s t refusal (i ∙ ap stops same) (subst (StopIsRight a t) same h)

-- ---- behind the first token no entry begins

inner-append : (new s : List TypedSymbol) → list_all is_inner new ≡ true → list_all is_inner s ≡ true → list_all is_inner (new ++ s) ≡ true
inner-append [] s h k = k
inner-append (a ∷ new) s h k =
    let parts = and_parts (is_inner a) (list_all is_inner new) h in ap₂ (λ x y. x && y) parts.0 (inner-append new s parts.1 k)

inner-next :
    (a : TypedSymbol) (s : List TypedSymbol) (t : Lexeme) (c : Option Refusal) (next : List TypedSymbol)
    → (moved s t ≡ to c next → list_all is_inner next ≡ true)
    → list_all is_inner s ≡ true → moved (a ∷ s) t ≡ to c next → list_all is_inner next ≡ true
inner-next a s t c next below h e = by (step a t) (step-halts a t) e
  where
    by : (x : TypedStep) → IsHaltOf a t x → moved_by x s (moved s t) ≡ to c next → list_all is_inner next ≡ true
    by (takes new cause) i f =
        let same : new ++ s ≡ next = cc in ap (list_all is_inner) (sym same) ∙ inner-append new s i h
    by passes i f = below f
    by (stops r) i f = absurd (let g : halted r ≡ to c next = f in cc)

inner-kept :
    (s : List TypedSymbol) (t : Lexeme) (c : Option Refusal) (next : List TypedSymbol)
    → list_all is_inner s ≡ true → moved s t ≡ to c next → list_all is_inner next ≡ true
inner-kept [] t c next h e = absurd (let g : emptied ≡ to c next = e in cc)
inner-kept (a ∷ s) t c next h e =
    let below = (and_parts (is_inner a) (list_all is_inner s) h).1 in inner-next a s t c next (λ f. inner-kept s t c next below f) below e

inner-reached :
    (s : List TypedSymbol) (ts : List Lexeme) (cs : List (Option Refusal)) (end : List TypedSymbol)
    → list_all is_inner s ≡ true → Reaches s ts cs end → list_all is_inner end ≡ true
inner-reached s [] [] end h r = ap (list_all is_inner) (sym r) ∙ h
inner-reached s [] (c ∷ cs) end h r = absurd r
inner-reached s (t ∷ ts) [] end h r = absurd r
inner-reached s (t ∷ ts) (c ∷ cs) end h r = inner-reached r.0 ts cs end (inner-kept s t c r.0 h r.1) r.2

-- an entry begins at the first token alone
pub begun-first :
    (limit : ℕ) (ts : List Lexeme) (cs : List (Option Refusal)) (end : List TypedSymbol)
    → Reaches (an_entry limit ∷ []) ts cs end → (list_all is_inner end ≡ true → ⊥) → ts ≡ []
begun-first limit [] cs end r n = refl
begun-first limit (t ∷ ts) [] end r n = absurd r
begun-first limit (t ∷ ts) (c ∷ cs) end r n =
    absurd (n (inner-reached r.0 ts cs end (inner-next (an_entry limit) [] t c r.0 (λ f. absurd (let g : emptied ≡ to c r.0 = f in cc)) refl r.1) r.2))
