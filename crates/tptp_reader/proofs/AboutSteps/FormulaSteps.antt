-- What the symbols of formulas do with tokens.
use Rattle.std.proofs.Common.{◌≡◌, ◌<◌, ◌≤◌, ℕ, ◌+◌, Bool, true, false, ◌||◌, List, [], ◌∷◌, ◌++◌, map, codes, bytes_eq, Option, None, Some, if◌then◌else◌, not, refl, sym, ap, ◌∙◌}
use Rattle.std.specs.List.{list_any}
use Rattle.std.proofs.lemmas.List.Folds.{list_any-append}
use Rattle.tptp_token.specs.Lexemes.{Lexeme, is_mark, lexeme, is_connective}
use Rattle.tptp_token.specs.declared.token.Kind.{Kind}
use Rattle.tptp_token.specs.declared.token.Kind.TheVariants.{Lower, Variable, Quoted, Distinct, Dollar, Number, Connective, Mark, Other}
use Rattle.tptp_tree.specs.Formula.{BinaryConnective, implies, implied, equivalent, different, nor, nand}
use Rattle.tptp_tree.specs.Spelling.{connective_lexeme, quantifier_lexeme}
use Rattle.tptp_tree.specs.Causes.{Refusal, syntax, free_variable, too_deep, Scope, every_variable, bound_ones, scope_with, Surroundings, deeper, binding, begun, variable_cause}
use Rattle.tptp_reader.specs.Machine.{Symbol, mark, an_atom, a_unit, maybe_connected, maybe_more_units, variables_bracket, next_variable, more_variables, is_binary_connective, takes, stops, step}
use Rattle.tptp_token.specs.Words.{is_variable}
use Rattle.tptp_reader.specs.Telling.{IsNext, Leads, Ends, Suits, is_among, is_free_among, free_cause, further_units, quantifier_of, Binds}
use Rattle.tptp_reader.specs.declared.source.Reader.{Reader}
use Rattle.tptp_reader.specs.declared.source.Name.{Name}
use Rattle.tptp_reader.specs.declared.cause.Halt.TheVariants.{At}
use Rattle.tptp_reader.specs.declared.cause.Refusal.TheVariants.{Syntax, Nesting}
use Rattle.tptp_reader.proofs.AboutTexts.TellingLemmas.{takes-leads, fault-ends, stop-ends, passes-leads, same-leads, begun-none, begun-deep}
use Rattle.tptp_reader.proofs.AboutSteps.AtomSteps.{lexeme-is}
use Rattle.list_lemmas.proofs.Tests.{any-map}

-- ---- units

-- what a unit does with a token that begins a level
level-step :
    (s : Surroundings) (t u : Lexeme) (new : List Symbol) (q : Option Refusal)
    → t ≡ u → step (a_unit s) u ≡ takes new (begun s) → begun s ≡ q → step (a_unit s) t ≡ takes new q
level-step s t u new q e g h = ap (step (a_unit s)) e ∙ g ∙ ap (takes new) h

pub unit-leads :
    (r : Reader) (at : ℕ) (names : List Name) (level : ℕ) (s : Surroundings) (t u : Lexeme) (new : List Symbol)
    → Suits r names level s → IsNext r at t → t ≡ u → step (a_unit s) u ≡ takes new (begun s) → level < r.limit
    → Leads r (a_unit s ∷ []) at new (at + 1)
unit-leads r at names level s t u new f n e g low =
    takes-leads r at (a_unit s) t new n (level-step s t u new None e g (begun-none r names level s f low))

pub unit-too_deep :
    (r : Reader) (at : ℕ) (names : List Name) (level : ℕ) (s : Surroundings) (t u : Lexeme) (new : List Symbol)
    → Suits r names level s → IsNext r at t → t ≡ u → step (a_unit s) u ≡ takes new (begun s) → r.limit ≤ level
    → Ends r (a_unit s ∷ []) at (At Nesting at)
unit-too_deep r at names level s t u new f n e g high =
    fault-ends r at (a_unit s) t new Nesting n (level-step s t u new (Some too_deep) e g (begun-deep r names level s f high))

pub quantifier-step :
    (all : Bool) (s : Surroundings) → step (a_unit s) (quantifier_lexeme (quantifier_of all)) ≡ takes (variables_bracket (deeper s) ∷ []) (begun s)
quantifier-step true s = refl
quantifier-step false s = refl

or-false : (a b : Bool) → a ≡ false → (a || b) ≡ true → b ≡ true
or-false true b h g = cc
or-false false b h g = g

pub quantifier-is :
    (all : Bool) (t : Lexeme)
    → (is_connective (codes "!") t || is_connective (codes "?") t) ≡ true → all ≡ is_connective (codes "!") t
    → t ≡ quantifier_lexeme (quantifier_of all)
quantifier-is true t h g = lexeme-is Connective (codes "!") t (sym g)
quantifier-is false t h g =
    lexeme-is Connective (codes "?") t (or-false (is_connective (codes "!") t) (is_connective (codes "?") t) (sym g) h)

pub unit-as_atom :
    (r : Reader) (at : ℕ) (s : Surroundings) (t : Lexeme)
    → IsNext r at t → is_connective (codes "~") t ≡ false
    → (is_connective (codes "!") t || is_connective (codes "?") t) ≡ false → is_mark (codes "(") t ≡ false
    → Leads r (a_unit s ∷ []) at (an_atom true s ∷ []) at
unit-as_atom r at s t n h g e = same-leads r at (a_unit s) (an_atom true s) t n (rw (h, g, e) refl)

-- ---- connectives

pub and-leads :
    (r : Reader) (at : ℕ) (s : Surroundings) (t : Lexeme)
    → IsNext r at t → t ≡ lexeme Connective (codes "&") → Leads r (maybe_connected s ∷ []) at (further_units (codes "&") s) (at + 1)
and-leads r at s t n e = takes-leads r at (maybe_connected s) t (further_units (codes "&") s) n (ap (step (maybe_connected s)) e)

pub or-leads :
    (r : Reader) (at : ℕ) (s : Surroundings) (t : Lexeme)
    → IsNext r at t → t ≡ lexeme Connective (codes "|") → Leads r (maybe_connected s ∷ []) at (further_units (codes "|") s) (at + 1)
or-leads r at s t n e = takes-leads r at (maybe_connected s) t (further_units (codes "|") s) n (ap (step (maybe_connected s)) e)

binary-step : (c : BinaryConnective) (s : Surroundings) → step (maybe_connected s) (connective_lexeme c) ≡ takes (a_unit s ∷ []) None
binary-step implies s = refl
binary-step implied s = refl
binary-step equivalent s = refl
binary-step different s = refl
binary-step nor s = refl
binary-step nand s = refl

pub binary-leads :
    (r : Reader) (at : ℕ) (s : Surroundings) (t : Lexeme) (c : BinaryConnective)
    → IsNext r at t → t ≡ connective_lexeme c → Leads r (maybe_connected s ∷ []) at (a_unit s ∷ []) (at + 1)
binary-leads r at s t c n e =
    takes-leads r at (maybe_connected s) t (a_unit s ∷ []) n (ap (step (maybe_connected s)) e ∙ binary-step c s)

pub alone-leads :
    (r : Reader) (at : ℕ) (s : Surroundings) (t : Lexeme)
    → IsNext r at t → is_connective (codes "&") t ≡ false → is_connective (codes "|") t ≡ false → is_binary_connective t ≡ false
    → Leads r (maybe_connected s ∷ []) at [] at
alone-leads r at s t n h g e = passes-leads r at (maybe_connected s) t n (rw (h, g, e) refl)

pub more_units-leads :
    (r : Reader) (at : ℕ) (sign : List ℕ) (s : Surroundings) (t : Lexeme)
    → IsNext r at t → is_connective sign t ≡ true → Leads r (maybe_more_units sign s ∷ []) at (further_units sign s) (at + 1)
more_units-leads r at sign s t n h = takes-leads r at (maybe_more_units sign s) t (further_units sign s) n (rw h refl)

pub no_more_units-leads :
    (r : Reader) (at : ℕ) (sign : List ℕ) (s : Surroundings) (t : Lexeme)
    → IsNext r at t → is_connective sign t ≡ false → Leads r (maybe_more_units sign s ∷ []) at [] at
no_more_units-leads r at sign s t n h = passes-leads r at (maybe_more_units sign s) t n (rw h refl)

-- ---- variables of a quantifier

pub bracket-leads :
    (r : Reader) (at : ℕ) (names : List Name) (level : ℕ) (s : Surroundings) (t : Lexeme)
    → Suits r names level s → IsNext r at t → is_mark (codes "[") t ≡ true → level < r.limit
    → Leads r (variables_bracket s ∷ []) at (next_variable [] s ∷ []) (at + 1)
bracket-leads r at names level s t f n h low =
    takes-leads r at (variables_bracket s) t (next_variable [] s ∷ []) n
    (rw h (ap (takes (next_variable [] s ∷ [])) (begun-none r names level s f low)))

pub bracket-too_deep :
    (r : Reader) (at : ℕ) (names : List Name) (level : ℕ) (s : Surroundings) (t : Lexeme)
    → Suits r names level s → IsNext r at t → is_mark (codes "[") t ≡ true → r.limit ≤ level
    → Ends r (variables_bracket s ∷ []) at (At Nesting at)
bracket-too_deep r at names level s t f n h high =
    fault-ends r at (variables_bracket s) t (next_variable [] s ∷ []) Nesting n
    (rw h (ap (takes (next_variable [] s ∷ [])) (begun-deep r names level s f high)))

pub bracket-ends :
    (r : Reader) (at : ℕ) (s : Surroundings) (t : Lexeme)
    → IsNext r at t → is_mark (codes "[") t ≡ false → Ends r (variables_bracket s ∷ []) at (At Syntax at)
bracket-ends r at s t n h = stop-ends r at (variables_bracket s) t Syntax n (rw h refl)

pub variable-leads :
    (r : Reader) (at : ℕ) (xs : List (List ℕ)) (s : Surroundings) (t : Lexeme)
    → IsNext r at t → t ≡ lexeme Variable t.bytes
    → Leads r (next_variable xs s ∷ []) at (more_variables (xs ++ t.bytes ∷ []) s ∷ []) (at + 1)
variable-leads r at xs s t n e =
    takes-leads r at (next_variable xs s) t (more_variables (xs ++ t.bytes ∷ []) s ∷ []) n (ap (step (next_variable xs s)) e)

no_variable-step : (xs : List (List ℕ)) (s : Surroundings) (k : Kind) (bytes : List ℕ) → is_variable k ≡ false → step (next_variable xs s) (lexeme k bytes) ≡ stops syntax
no_variable-step xs s Lower bytes h = refl
no_variable-step xs s Variable bytes h = cc
no_variable-step xs s Quoted bytes h = refl
no_variable-step xs s Distinct bytes h = refl
no_variable-step xs s Dollar bytes h = refl
no_variable-step xs s Number bytes h = refl
no_variable-step xs s Connective bytes h = refl
no_variable-step xs s Mark bytes h = refl
no_variable-step xs s Other bytes h = refl

pub no_variable-ends :
    (r : Reader) (at : ℕ) (xs : List (List ℕ)) (s : Surroundings) (t : Lexeme)
    → IsNext r at t → is_variable t.kind ≡ false → Ends r (next_variable xs s ∷ []) at (At Syntax at)
no_variable-ends r at xs s t n h = stop-ends r at (next_variable xs s) t Syntax n (no_variable-step xs s t.kind t.bytes h)

pub comma-leads :
    (r : Reader) (at : ℕ) (xs : List (List ℕ)) (s : Surroundings) (t : Lexeme)
    → IsNext r at t → is_mark (codes ",") t ≡ true → Leads r (more_variables xs s ∷ []) at (next_variable xs s ∷ []) (at + 1)
comma-leads r at xs s t n h = takes-leads r at (more_variables xs s) t (next_variable xs s ∷ []) n (rw h refl)

pub close-leads :
    (r : Reader) (at : ℕ) (xs : List (List ℕ)) (s : Surroundings) (t : Lexeme)
    → IsNext r at t → t ≡ lexeme Mark (codes "]")
    → Leads r (more_variables xs s ∷ []) at (mark (codes ":") ∷ a_unit (binding xs s) ∷ []) (at + 1)
close-leads r at xs s t n e =
    takes-leads r at (more_variables xs s) t (mark (codes ":") ∷ a_unit (binding xs s) ∷ []) n (ap (step (more_variables xs s)) e)

pub variables-end :
    (r : Reader) (at : ℕ) (xs : List (List ℕ)) (s : Surroundings) (t : Lexeme)
    → IsNext r at t → is_mark (codes "]") t ≡ false → is_mark (codes ",") t ≡ false
    → Ends r (more_variables xs s ∷ []) at (At Syntax at)
variables-end r at xs s t n g h = stop-ends r at (more_variables xs s) t Syntax n (rw (h, g) refl)

-- ---- bound names

among-more :
    (old added : List Name) (texts : List (List ℕ)) (x : List ℕ)
    → map (λ (n : Name). n.bytes.now) added ≡ texts → is_among (old ++ added) x ≡ (is_among old x || list_any (bytes_eq x) texts)
among-more old added texts x e =
    list_any-append (λ (n : Name). bytes_eq x n.bytes.now) old added
    ∙ ap (λ b. is_among old x || b)
    (sym (any-map (bytes_eq x) (λ (n : Name). n.bytes.now) added) ∙ ap (list_any (bytes_eq x)) e)

-- a variable is free of the new names and the old ones, by whether it is free of the old ones
cause-or :
    (closed new mine known : Bool)
    → (let u : Option Refusal = if known then None else Some free_variable in u) ≡ free_cause (if closed then not mine else false)
    → (let u : Option Refusal = if new || known then None else Some free_variable in u) ≡ free_cause (if closed then not (mine || new) else false)
cause-or true true true known h = refl
cause-or true true false known h = refl
cause-or true false true true h = refl
cause-or true false true false h = h
cause-or true false false true h = h
cause-or true false false false h = h
cause-or false true mine known h = refl
cause-or false false mine true h = refl
cause-or false false mine false h = h

free-as : (closed : Bool) (names : List Name) (x : List ℕ) → is_free_among closed names x ≡ (if closed then not (is_among names x) else false)
free-as true names x = refl
free-as false names x = refl

every-more :
    (closed new mine : Bool)
    → (let u : Option Refusal = None in u) ≡ free_cause (if closed then not mine else false)
    → (let u : Option Refusal = None in u) ≡ free_cause (if closed then not (mine || new) else false)
every-more true new true h = refl
every-more true true false h = refl
every-more true false false h = h
every-more false new mine h = refl

scope-more :
    (closed : Bool) (old added : List Name) (texts : List (List ℕ)) (scope : Scope) (x : List ℕ)
    → map (λ (n : Name). n.bytes.now) added ≡ texts
    → variable_cause scope x ≡ free_cause (is_free_among closed old x)
    → variable_cause (scope_with scope texts) x ≡ free_cause (is_free_among closed (old ++ added) x)
scope-more closed old added texts every_variable x e h =
    every-more closed (list_any (bytes_eq x) texts) (is_among old x) (h ∙ ap free_cause (free-as closed old x))
    ∙ ap (λ b. free_cause (if closed then not b else false)) (sym (among-more old added texts x e))
    ∙ ap free_cause (sym (free-as closed (old ++ added) x))
scope-more closed old added texts (bound_ones ys) x e h =
    ap (λ (b : Bool). let u : Option Refusal = if b then None else Some free_variable in u) (list_any-append (bytes_eq x) texts ys)
    ∙ cause-or closed (list_any (bytes_eq x) texts) (is_among old x) (list_any (bytes_eq x) ys) (h ∙ ap free_cause (free-as closed old x))
    ∙ ap (λ b. free_cause (if closed then not b else false)) (sym (among-more old added texts x e))
    ∙ ap free_cause (sym (free-as closed (old ++ added) x))

pub Suits-binding :
    (r : Reader) (old new : List Name) (level : ℕ) (texts : List (List ℕ)) (s : Surroundings)
    → Suits r old level s → Binds old new texts → Suits r new level (binding texts s)
Suits-binding r old new level texts s f b =
    record {
      limit_is = f.limit_is;
      level_is = f.level_is;
      scope_is = λ x.
          scope-more r.closed old b.added texts s.scope x b.named (f.scope_is x)
          ∙ ap (λ (ns : List Name). free_cause (is_free_among r.closed ns x)) (sym b.grown);
    }
