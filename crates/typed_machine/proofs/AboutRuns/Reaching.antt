-- The tokens that the machine takes, and what stacks spell behind them.
use Rattle.std.proofs.Common.{◌≡◌, suc, Option, None, List, [], ◌∷◌, ◌++◌, length, take, codes, refl, ap, sym, ◌∙◌, subst}
use Rattle.tptp_token.specs.Lexemes.{Lexeme, lexeme}
use Rattle.tptp_token.specs.declared.token.Kind.TheVariants.{Other}
use Rattle.tptp_token.specs.Words.{bare}
use Rattle.tptp_tree.specs.Spelling.{true_atom}
use Rattle.tptp_tree.specs.Entries.{word_name}
use Rattle.tptp_tree.specs.Causes.{Refusal}
use Rattle.tptp_reader.specs.Machine.{Symbol}
use Rattle.tptp_reader.proofs.AboutTexts.Spelled.{Spells as PlainSpells, SpellAll as PlainSpellAll}
use Rattle.tptp_reader.proofs.AboutRuns.ReachLemmas.{all-something as plain-something}
use Rattle.typed_tree.specs.TypedSpelling.{UnitPhrase, atomic, no_units, Phrase, alone, VariablePhrases, dollar_sort, kind_of_sorts, declares}
use Rattle.typed_tree.specs.TypedEntries.{BodyPhrase, formula_body, TypedPhrase}
use Rattle.typed_machine.specs.TypedMachine.{TypedSymbol, untyped_symbol, an_entry, a_typed_role, a_unit, maybe_connected, maybe_more_units, variables_bracket, next_variable, maybe_sort, more_variables, a_sort_word, a_declaration, a_type, maybe_result, an_arrow, a_result, more_sorts, TypedStep, takes, passes, stops, step, resolved}
use Rattle.typed_machine.proofs.AboutRuns.Traces.{Move, to, halted, emptied, moved_by, moved, done, cut_off, halted_by, marked, by_move, trace, marks}
use Rattle.typed_machine.proofs.AboutTexts.Spelled.{ended, Spells, SpellAll, IsStepOf, all-split}
use Rattle.typed_machine.proofs.AboutSteps.RightSteps.{step-right}

-- ---- what is spelled with one token more before it

pub move-spells :
    (s : List TypedSymbol) (t : Lexeme) (c : Option Refusal) (next : List TypedSymbol) → moved s t ≡ to c next
    → (ts rest : List Lexeme) → SpellAll next ts rest → SpellAll s (t ∷ ts) rest
move-spells [] t c next e ts rest h = absurd (let f : emptied ≡ to c next = e in cc)
move-spells (a ∷ s) t c next e ts rest h = by (λ f. move-spells s t c next f ts rest h) (step a t) (step-right a t) e
  where
    by :
        (moved s t ≡ to c next → SpellAll s (t ∷ ts) rest)
        → (x : TypedStep) → IsStepOf a t x → moved_by x s (moved s t) ≡ to c next → SpellAll (a ∷ s) (t ∷ ts) rest
    by below (takes new d) i f =
        let same : new ++ s ≡ next = cc in
        let parts = all-split new s ts rest (subst (λ x. SpellAll x ts rest) (sym same) h) in
        (parts.0, i ts parts.0 parts.1, parts.2)
    by below passes i f = (t ∷ ts, i (t ∷ ts), below f)
    by below (stops refusal) i f = absurd (let g : halted refusal ≡ to c next = f in cc)

-- where all is left out, nothing is spelled too
pub emptied-spells : (s : List TypedSymbol) (t : Lexeme) (ts : List Lexeme) → moved s t ≡ emptied → SpellAll s ts ts
emptied-spells [] t ts e = refl
emptied-spells (a ∷ s) t ts e = by (λ f. emptied-spells s t ts f) (step a t) (step-right a t) e
  where
    by :
        (moved s t ≡ emptied → SpellAll s ts ts)
        → (x : TypedStep) → IsStepOf a t x → moved_by x s (moved s t) ≡ emptied → SpellAll (a ∷ s) ts ts
    by below (takes new d) i f = absurd (let g : to d (new ++ s) ≡ emptied = f in cc)
    by below passes i f = (ts, i ts, below f)
    by below (stops refusal) i f = absurd (let g : halted refusal ≡ emptied = f in cc)

-- a run to its end spells what was to come
pub trace-spells :
    (ts : List Lexeme) (s : List TypedSymbol) (cs : List (Option Refusal)) (rest : List Lexeme) → trace ts s ≡ marks cs (done rest) → SpellAll s ts rest
trace-spells ts [] [] rest e = cc
trace-spells ts [] (c ∷ cs) rest e = absurd (let f : done ts ≡ marked c (marks cs (done rest)) = e in cc)
trace-spells [] (a ∷ s) [] rest e = absurd (let f : cut_off ≡ done rest = e in cc)
trace-spells [] (a ∷ s) (c ∷ cs) rest e = absurd (let f : cut_off ≡ marked c (marks cs (done rest)) = e in cc)
trace-spells (t ∷ ts) (a ∷ s) cs rest e = by cs (λ next ds f. trace-spells ts next ds rest f) (moved (a ∷ s) t) refl e
  where
    by :
        (cs : List (Option Refusal))
        → ((next : List TypedSymbol) (ds : List (Option Refusal)) → trace ts next ≡ marks ds (done rest) → SpellAll next ts rest)
        → (m : Move) → moved (a ∷ s) t ≡ m → by_move (λ next. trace ts next) t ts m ≡ marks cs (done rest) → SpellAll (a ∷ s) (t ∷ ts) rest
    by [] more (to d next) i f = absurd (let g : marked d (trace ts next) ≡ done rest = f in cc)
    by (c ∷ cs) more (to d next) i f =
        let g : trace ts next ≡ marks cs (done rest) = cc in move-spells (a ∷ s) t d next i ts rest (more next cs g)
    by [] more (halted refusal) i f = absurd (let g : halted_by (resolved refusal ts) ≡ done rest = f in cc)
    by (c ∷ cs) more (halted refusal) i f = absurd (let g : halted_by (resolved refusal ts) ≡ marked c (marks cs (done rest)) = f in cc)
    by [] more emptied i f = let g : t ∷ ts ≡ rest = cc in subst (λ x. SpellAll (a ∷ s) (t ∷ ts) x) g (emptied-spells (a ∷ s) t (t ∷ ts) i)
    by (c ∷ cs) more emptied i f = absurd (let g : done (t ∷ ts) ≡ marked c (marks cs (done rest)) = f in cc)

-- ---- each symbol stands for something

some_unit : UnitPhrase
some_unit = atomic true_atom

some_phrase : Phrase
some_phrase = alone some_unit

some_variables : VariablePhrases
some_variables = record { first = record { name = codes "X"; sort = None }; others = [] }

some_body : BodyPhrase
some_body = formula_body (codes "axiom") some_phrase

some_entry : TypedPhrase
some_entry = record { name = word_name (bare (codes "a")); body = some_body; notes = [] }

-- a symbol of untyped formulas with nothing behind it
plain-last : (a : Symbol) (ts rest : List Lexeme) → PlainSpellAll (a ∷ []) ts rest → PlainSpells a ts rest
plain-last a ts rest h = subst (λ x. PlainSpells a ts x) h.2 h.1

something : (a : TypedSymbol) (rest : List Lexeme) → (ts : List Lexeme) × Spells a ts rest
unfolding some_entry some_body some_phrase some_unit some_variables
something (untyped_symbol a) rest = let first = plain-something (a ∷ []) rest in (first.0, plain-last a first.0 rest first.1)
something (an_entry limit) rest = (_, (some_entry, refl, refl))
something (a_typed_role limit) rest = (_, (some_body, [], refl, refl, refl))
something (a_unit s) rest = (_, (some_unit, refl))
something (maybe_connected s) rest = (rest, (ended, refl))
something (maybe_more_units sign s) rest = (rest, (no_units, refl))
something (variables_bracket s) rest = (_, (some_variables, some_unit, refl))
something (next_variable xs s) rest = (_, (some_variables, some_unit, refl))
something maybe_sort rest = (rest, (None, refl))
something (more_variables xs s) rest = (_, ([], some_unit, refl))
something a_sort_word rest = (_, (dollar_sort, refl))
something (a_declaration s) rest = (_, (declares (bare (codes "a")) kind_of_sorts, refl))
something (a_type s) rest = (_, (kind_of_sorts, refl))
something maybe_result rest = (rest, (None, refl))
something an_arrow rest = (lexeme Other (codes ">") ∷ rest, refl)
something a_result rest = (_, (None, refl))
something more_sorts rest = (_, ([], refl))

pub all-something : (s : List TypedSymbol) (rest : List Lexeme) → (ts : List Lexeme) × SpellAll s ts rest
all-something [] rest = (rest, refl)
all-something (a ∷ s) rest = let more = all-something s rest in let first = something a more.0 in (first.0, (more.0, first.1, more.1))

-- ---- reaching a stack

-- the machine takes the tokens, with these causes, and comes to this stack
abbrev pub Reaches : List TypedSymbol → List Lexeme → List (Option Refusal) → List TypedSymbol → Type 0
Reaches s [] [] end = s ≡ end
Reaches s [] (c ∷ cs) end = ⊥
Reaches s (t ∷ ts) [] end = ⊥
Reaches s (t ∷ ts) (c ∷ cs) end = (next : List TypedSymbol) × (moved s t ≡ to c next) × Reaches next ts cs end

pub reached-spells :
    (s : List TypedSymbol) (ts : List Lexeme) (cs : List (Option Refusal)) (end : List TypedSymbol)
    → Reaches s ts cs end → (more rest : List Lexeme) → SpellAll end more rest → SpellAll s (ts ++ more) rest
reached-spells s [] [] end r more rest h = subst (λ x. SpellAll x more rest) (sym r) h
reached-spells s [] (c ∷ cs) end r more rest h = absurd r
reached-spells s (t ∷ ts) [] end r more rest h = absurd r
reached-spells s (t ∷ ts) (c ∷ cs) end r more rest h =
    move-spells s t c r.0 r.1 (ts ++ more) rest (reached-spells r.0 ts cs end r.2 more rest h)

pub reached-trace :
    (s : List TypedSymbol) (ts : List Lexeme) (cs : List (Option Refusal)) (end : List TypedSymbol)
    → Reaches s ts cs end → (more : List Lexeme) → trace (ts ++ more) s ≡ marks cs (trace more end)
reached-trace s [] [] end r more = ap (trace more) r
reached-trace s [] (c ∷ cs) end r more = absurd r
reached-trace s (t ∷ ts) [] end r more = absurd r
reached-trace [] (t ∷ ts) (c ∷ cs) end r more = absurd (let e : emptied ≡ to c r.0 = r.1 in cc)
reached-trace (a ∷ s) (t ∷ ts) (c ∷ cs) end r more =
    ap (by_move (λ next. trace (ts ++ more) next) t (ts ++ more)) r.1 ∙ ap (marked c) (reached-trace r.0 ts cs end r.2 more)

pub reached-length :
    (s : List TypedSymbol) (ts : List Lexeme) (cs : List (Option Refusal)) (end : List TypedSymbol) → Reaches s ts cs end → length cs ≡ length ts
reached-length s [] [] end r = refl
reached-length s [] (c ∷ cs) end r = absurd r
reached-length s (t ∷ ts) [] end r = absurd r
reached-length s (t ∷ ts) (c ∷ cs) end r = ap suc (reached-length r.0 ts cs end r.2)

-- one token more
pub reached-more :
    (s : List TypedSymbol) (ts : List Lexeme) (cs : List (Option Refusal)) (end : List TypedSymbol) (t : Lexeme) (c : Option Refusal) (next : List TypedSymbol)
    → Reaches s ts cs end → moved end t ≡ to c next → Reaches s (ts ++ t ∷ []) (cs ++ c ∷ []) next
reached-more s [] [] end t c next r e = (next, ap (λ x. moved x t) r ∙ e, refl)
reached-more s [] (d ∷ cs) end t c next r e = absurd r
reached-more s (u ∷ ts) [] end t c next r e = absurd r
reached-more s (u ∷ ts) (d ∷ cs) end t c next r e = (r.0, r.1, reached-more r.0 ts cs end t c next r.2 e)

-- the last token of those
pub reached-last :
    (s : List TypedSymbol) (ts : List Lexeme) (cs ds : List (Option Refusal)) (end last : List TypedSymbol) (t : Lexeme)
    → Reaches s ts cs end → Reaches s (ts ++ t ∷ []) ds last → (c : Option Refusal) × (moved end t ≡ to c last)
reached-last s [] [] [] end last t r q = absurd q
reached-last s [] [] (d ∷ []) end last t r q = (d, ap (λ x. moved x t) (sym r) ∙ q.1 ∙ ap (to d) q.2)
reached-last s [] [] (d ∷ e ∷ ds) end last t r q = absurd q.2
reached-last s [] (c ∷ cs) ds end last t r q = absurd r
reached-last s (u ∷ ts) [] ds end last t r q = absurd r
reached-last s (u ∷ ts) (c ∷ cs) [] end last t r q = absurd q
reached-last s (u ∷ ts) (c ∷ cs) (d ∷ ds) end last t r q =
    let same : to c r.0 ≡ to d q.0 = sym r.1 ∙ q.1 in
    let stacks : r.0 ≡ q.0 = cc in
    reached-last q.0 ts cs ds end last t (subst (λ x. Reaches x ts cs end) stacks r.2) q.2

-- a run over all of some tokens reaches a stack behind the first of them
pub trace-reaches :
    (ts : List Lexeme) (s : List TypedSymbol) (cs : List (Option Refusal)) (more : List Lexeme) → trace (ts ++ more) s ≡ marks cs (done [])
    → (end : List TypedSymbol) × Reaches s ts (take (length ts) cs) end
trace-reaches [] s cs more e = (s, refl)
trace-reaches (t ∷ ts) [] [] more e = absurd (let f : done (t ∷ ts ++ more) ≡ done [] = e in cc)
trace-reaches (t ∷ ts) [] (c ∷ cs) more e = absurd (let f : done (t ∷ ts ++ more) ≡ marked c (marks cs (done [])) = e in cc)
trace-reaches (t ∷ ts) (a ∷ s) cs more e = by cs (λ next ds f. trace-reaches ts next ds more f) (moved (a ∷ s) t) refl e
  where
    by :
        (cs : List (Option Refusal))
        → ((next : List TypedSymbol) (ds : List (Option Refusal)) → trace (ts ++ more) next ≡ marks ds (done []) → (end : List TypedSymbol) × Reaches next ts (take (length ts) ds) end)
        → (m : Move) → moved (a ∷ s) t ≡ m → by_move (λ next. trace (ts ++ more) next) t (ts ++ more) m ≡ marks cs (done [])
        → (end : List TypedSymbol) × Reaches (a ∷ s) (t ∷ ts) (take (length (t ∷ ts)) cs) end
    by [] rest (to d next) i f = absurd (let g : marked d (trace (ts ++ more) next) ≡ done [] = f in cc)
    by (c ∷ cs) rest (to d next) i f =
        let causes : d ≡ c = cc in
        let g : trace (ts ++ more) next ≡ marks cs (done []) = cc in
        let r = rest next cs g in (r.0, (next, i ∙ ap (λ x. to x next) causes, r.1))
    by [] rest (halted refusal) i f = absurd (let g : halted_by (resolved refusal (ts ++ more)) ≡ done [] = f in cc)
    by (c ∷ cs) rest (halted refusal) i f = absurd (let g : halted_by (resolved refusal (ts ++ more)) ≡ marked c (marks cs (done [])) = f in cc)
    by [] rest emptied i f = absurd (let g : done (t ∷ ts ++ more) ≡ done [] = f in cc)
    by (c ∷ cs) rest emptied i f = absurd (let g : done (t ∷ ts ++ more) ≡ marked c (marks cs (done [])) = f in cc)
