-- Steps of reading formulas.
use Rattle.std.proofs.Common.{◌≡◌, ◌<◌, ◌≤◌, ℕ, ◌+◌, Bool, true, false, ◌||◌, List, [], ◌∷◌, ◌++◌, map, drop, refl, sym, ap, ap₂, ◌∙◌, arith, codes}
use Rattle.tptp_token.specs.Lexemes.{Lexeme, is_mark, lexeme, is_connective}
use Rattle.tptp_token.specs.declared.token.Kind.TheVariants.{Connective, Mark}
use Rattle.tptp_tree.specs.Formula.{FormulaTree, negation, conjunction, disjunction, connected, BinaryConnective, formula_then, formulas_of}
use Rattle.tptp_tree.specs.Spelling.{connective_lexeme, quantifier_lexeme, UnitPhrase, negated, bound, in_brackets, atomic, UnitPhrases, no_units, unit_then, alone, all_of, some_of, joined_by, unit_lexemes, units_lexemes, phrase_lexemes, unit_meant, units_meant}
use Rattle.tptp_tree.specs.Causes.{Surroundings, deeper}
use Rattle.tptp_reader.specs.Machine.{Symbol, mark, an_atom, a_unit, maybe_connected, maybe_more_units, formula_symbols, variables_bracket, is_binary_connective}
use Rattle.tptp_reader.specs.Telling.{lexemes, IsNext, Leads, Ends, Suits, Starts, Halts, one, further, ReadsAtom, ReadsUnit, ReadsFormula, further_units, ReadsUnits, quantifier_of, ReadsBound}
use Rattle.tptp_reader.specs.declared.source.Reader.{Reader}
use Rattle.tptp_reader.specs.declared.source.Name.{Name}
use Rattle.tptp_reader.specs.declared.cause.Halt.{Halt}
use Rattle.tptp_reader.specs.declared.cause.Halt.TheVariants.{At}
use Rattle.tptp_reader.specs.declared.cause.Refusal.TheVariants.{Nesting}
use Rattle.tptp_reader.proofs.AboutTexts.TellingLemmas.{leads-then, leads-under, ends-after, halt-is, Suits-deeper}
use Rattle.tptp_reader.proofs.AboutSteps.AtomSteps.{lexeme-is}
use Rattle.tptp_reader.proofs.AboutSteps.FormulaSteps.{unit-leads, unit-too_deep, quantifier-step, unit-as_atom, and-leads, or-leads, binary-leads, alone-leads, more_units-leads, no_more_units-leads}
use Rattle.tptp_reader.proofs.AboutRuns.LoopLemmas.{SoFar, sofar-first, sofar-more, sofar-ended, sofar-halts, sofar-item-halts, first-halts, next-is}

-- ---- units

pub negation-read :
    (r : Reader) (names : List Name) (level deep at next : ℕ) (t : Lexeme) (inner f : FormulaTree)
    → IsNext r at t → is_connective (codes "~") t ≡ true → deep ≡ level + 1 → level < r.limit
    → ReadsUnit r names deep (at + 1) next inner → f ≡ negation inner → ReadsUnit r names level at next f
negation-read r names level deep at next t inner f n h e low u g =
    let is = lexeme-is Connective (codes "~") t h in
    record {
      phrase = negated u.phrase;
      spelled =
          n.here ∙ ap (λ v. v ∷ drop (at + 1) (lexemes r)) is ∙ ap (λ us. lexeme Connective (codes "~") ∷ us) u.spelled;
      meant = ap negation u.meant ∙ sym g;
      leads = record {
        by = λ s k.
            leads-then r (a_unit s ∷ []) (a_unit (deeper s) ∷ []) [] at (at + 1) next
            (unit-leads r at names level s t (lexeme Connective (codes "~")) (a_unit (deeper s) ∷ []) k n is refl low)
            (u.leads.by (deeper s) (Suits-deeper r names level deep s k e));
        onward = omega (arith, u.leads.onward);
      };
    }

pub negation-halted :
    (r : Reader) (names : List Name) (level deep at : ℕ) (t : Lexeme) (halt : Halt)
    → IsNext r at t → is_connective (codes "~") t ≡ true → deep ≡ level + 1 → level < r.limit
    → Halts r (one a_unit) names deep (at + 1) halt → Halts r (one a_unit) names level at halt
negation-halted r names level deep at t halt n h e low u =
    record {
      by = λ s k.
          ends-after r (a_unit s ∷ []) (a_unit (deeper s) ∷ []) at (at + 1) halt
          (unit-leads r at names level s t (lexeme Connective (codes "~")) (a_unit (deeper s) ∷ []) k n (lexeme-is Connective (codes "~") t h) refl low)
          (u.by (deeper s) (Suits-deeper r names level deep s k e));
    }

pub negation-too_deep :
    (r : Reader) (names : List Name) (level at : ℕ) (t : Lexeme) (halt : Halt)
    → IsNext r at t → is_connective (codes "~") t ≡ true → halt ≡ At Nesting at → r.limit ≤ level
    → Halts r (one a_unit) names level at halt
negation-too_deep r names level at t halt n h e high =
    record {
      by = λ s k.
          halt-is r (a_unit s ∷ []) at halt (At Nesting at) e
          (unit-too_deep r at names level s t (lexeme Connective (codes "~")) (a_unit (deeper s) ∷ []) k n (lexeme-is Connective (codes "~") t h) refl high);
    }

pub quantifier-read :
    (r : Reader) (names : List Name) (level deep at next : ℕ) (all : Bool) (t : Lexeme) (f : FormulaTree)
    → IsNext r at t → t ≡ quantifier_lexeme (quantifier_of all) → deep ≡ level + 1 → level < r.limit
    → ReadsBound all r names deep (at + 1) next f → ReadsUnit r names level at next f
quantifier-read r names level deep at next all t f n is e low b =
    record {
      phrase = bound (quantifier_of all) b.phrase.variables b.phrase.unit;
      spelled =
          n.here ∙ ap (λ v. v ∷ drop (at + 1) (lexemes r)) is
          ∙ ap (λ us. quantifier_lexeme (quantifier_of all) ∷ us) b.spelled;
      meant = b.meant;
      leads = record {
        by = λ s k.
            leads-then r (a_unit s ∷ []) (variables_bracket (deeper s) ∷ []) [] at (at + 1) next
            (unit-leads r at names level s t (quantifier_lexeme (quantifier_of all)) (variables_bracket (deeper s) ∷ []) k n is (quantifier-step all s) low)
            (b.leads.by (deeper s) (Suits-deeper r names level deep s k e));
        onward = omega (arith, b.leads.onward);
      };
    }

pub quantifier-halted :
    (r : Reader) (names : List Name) (level deep at : ℕ) (all : Bool) (t : Lexeme) (halt : Halt)
    → IsNext r at t → t ≡ quantifier_lexeme (quantifier_of all) → deep ≡ level + 1 → level < r.limit
    → Halts r (one variables_bracket) names deep (at + 1) halt → Halts r (one a_unit) names level at halt
quantifier-halted r names level deep at all t halt n is e low b =
    record {
      by = λ s k.
          ends-after r (a_unit s ∷ []) (variables_bracket (deeper s) ∷ []) at (at + 1) halt
          (unit-leads r at names level s t (quantifier_lexeme (quantifier_of all)) (variables_bracket (deeper s) ∷ []) k n is (quantifier-step all s) low)
          (b.by (deeper s) (Suits-deeper r names level deep s k e));
    }

pub quantifier-too_deep :
    (r : Reader) (names : List Name) (level at : ℕ) (all : Bool) (t : Lexeme) (halt : Halt)
    → IsNext r at t → t ≡ quantifier_lexeme (quantifier_of all) → halt ≡ At Nesting at → r.limit ≤ level
    → Halts r (one a_unit) names level at halt
quantifier-too_deep r names level at all t halt n is e high =
    record {
      by = λ s k.
          halt-is r (a_unit s ∷ []) at halt (At Nesting at) e
          (unit-too_deep r at names level s t (quantifier_lexeme (quantifier_of all)) (variables_bracket (deeper s) ∷ []) k n is (quantifier-step all s) high);
    }

-- behind the bracket of a formula
inside : Surroundings → List Symbol
inside s = a_unit (deeper s) ∷ maybe_connected (deeper s) ∷ mark (codes ")") ∷ []

opened-leads :
    (r : Reader) (at : ℕ) (names : List Name) (level : ℕ) (s : Surroundings) (t : Lexeme)
    → Suits r names level s → IsNext r at t → is_mark (codes "(") t ≡ true → level < r.limit
    → Leads r (a_unit s ∷ []) at (inside s) (at + 1)
unfolding inside
opened-leads r at names level s t k n h low =
    unit-leads r at names level s t (lexeme Mark (codes "(")) (inside s) k n (lexeme-is Mark (codes "(") t h) refl low

pub brackets-too_deep :
    (r : Reader) (names : List Name) (level at : ℕ) (t : Lexeme) (halt : Halt)
    → IsNext r at t → is_mark (codes "(") t ≡ true → halt ≡ At Nesting at → r.limit ≤ level
    → Halts r (one a_unit) names level at halt
unfolding inside
brackets-too_deep r names level at t halt n h e high =
    record {
      by = λ s k.
          halt-is r (a_unit s ∷ []) at halt (At Nesting at) e
          (unit-too_deep r at names level s t (lexeme Mark (codes "(")) (inside s) k n (lexeme-is Mark (codes "(") t h) refl high);
    }

-- a formula with a symbol below it
formula-under :
    (r : Reader) (s : Surroundings) (below : List Symbol) (i j : ℕ)
    → Leads r (formula_symbols s) i [] j → Leads r (a_unit s ∷ maybe_connected s ∷ below) i below j
formula-under r s below i j h = record { by = λ more. h.by (below ++ more) }

formula-ends :
    (r : Reader) (s : Surroundings) (below : List Symbol) (i : ℕ) (halt : Halt)
    → Ends r (formula_symbols s) i halt → Ends r (a_unit s ∷ maybe_connected s ∷ below) i halt
formula-ends r s below i halt h = record { by = λ more. h.by (below ++ more) }

pub brackets-halted :
    (r : Reader) (names : List Name) (level deep at : ℕ) (t : Lexeme) (halt : Halt)
    → IsNext r at t → is_mark (codes "(") t ≡ true → deep ≡ level + 1 → level < r.limit
    → Halts r formula_symbols names deep (at + 1) halt → Halts r (one a_unit) names level at halt
unfolding inside
brackets-halted r names level deep at t halt n h e low u =
    record {
      by = λ s k.
          ends-after r (a_unit s ∷ []) (inside s) at (at + 1) halt (opened-leads r at names level s t k n h low)
          (formula-ends r (deeper s) (mark (codes ")") ∷ []) (at + 1) halt (u.by (deeper s) (Suits-deeper r names level deep s k e)));
    }

closing-leads :
    (r : Reader) (names : List Name) (level deep at next : ℕ) (t : Lexeme) (f : FormulaTree) (s : Surroundings)
    → IsNext r at t → is_mark (codes "(") t ≡ true → deep ≡ level + 1 → level < r.limit
    → ReadsFormula r names deep (at + 1) next f → Suits r names level s
    → Leads r (a_unit s ∷ []) at (mark (codes ")") ∷ []) next
unfolding inside
closing-leads r names level deep at next t f s n h e low u k =
    leads-then r (a_unit s ∷ []) (inside s) (mark (codes ")") ∷ []) at (at + 1) next (opened-leads r at names level s t k n h low)
    (formula-under r (deeper s) (mark (codes ")") ∷ []) (at + 1) next (u.leads.by (deeper s) (Suits-deeper r names level deep s k e)))

pub brackets-open :
    (r : Reader) (names : List Name) (level deep at next : ℕ) (t : Lexeme) (f : FormulaTree) (halt : Halt)
    → IsNext r at t → is_mark (codes "(") t ≡ true → deep ≡ level + 1 → level < r.limit
    → ReadsFormula r names deep (at + 1) next f → Ends r (mark (codes ")") ∷ []) next halt
    → Halts r (one a_unit) names level at halt
brackets-open r names level deep at next t f halt n h e low u g =
    record {
      by = λ s k.
          ends-after r (a_unit s ∷ []) (mark (codes ")") ∷ []) at next halt
          (closing-leads r names level deep at next t f s n h e low u k) g;
    }

pub brackets-read :
    (r : Reader) (names : List Name) (level deep at next after : ℕ) (t : Lexeme) (f : FormulaTree)
    → IsNext r at t → is_mark (codes "(") t ≡ true → deep ≡ level + 1 → level < r.limit
    → ReadsFormula r names deep (at + 1) next f
    → after ≡ next + 1 → IsNext r next (lexeme Mark (codes ")")) → Leads r (mark (codes ")") ∷ []) next [] after
    → ReadsUnit r names level at after f
brackets-read r names level deep at next after t f n h e low u i m g =
    record {
      phrase = in_brackets u.phrase;
      spelled =
          n.here ∙ ap (λ v. v ∷ drop (at + 1) (lexemes r)) (lexeme-is Mark (codes "(") t h)
          ∙ ap (λ us. lexeme Mark (codes "(") ∷ us) u.spelled
          ∙ ap (λ us. lexeme Mark (codes "(") ∷ phrase_lexemes u.phrase us) (m.here ∙ ap (λ p. lexeme Mark (codes ")") ∷ drop p (lexemes r)) (sym i));
      meant = u.meant;
      leads = record {
        by = λ s k.
            leads-then r (a_unit s ∷ []) (mark (codes ")") ∷ []) [] at next after
            (closing-leads r names level deep at next t f s n h e low u k) g;
        onward = omega (arith, u.leads.onward);
      };
    }

pub atom_unit-read :
    (r : Reader) (names : List Name) (level at next : ℕ) (t : Lexeme) (f : FormulaTree)
    → IsNext r at t → is_connective (codes "~") t ≡ false
    → (is_connective (codes "!") t || is_connective (codes "?") t) ≡ false → is_mark (codes "(") t ≡ false
    → ReadsAtom true r names level at next f → ReadsUnit r names level at next f
atom_unit-read r names level at next t f n h g e a =
    record {
      phrase = atomic a.phrase.atom;
      spelled = a.spelled;
      meant = a.meant;
      leads = record {
        by = λ s k.
            leads-then r (a_unit s ∷ []) (an_atom true s ∷ []) [] at at next (unit-as_atom r at s t n h g e) (a.leads.by s k);
        onward = a.leads.onward;
      };
    }

pub atom_unit-halted :
    (r : Reader) (names : List Name) (level at : ℕ) (t : Lexeme) (halt : Halt)
    → IsNext r at t → is_connective (codes "~") t ≡ false
    → (is_connective (codes "!") t || is_connective (codes "?") t) ≡ false → is_mark (codes "(") t ≡ false
    → Halts r (one (an_atom true)) names level at halt → Halts r (one a_unit) names level at halt
atom_unit-halted r names level at t halt n h g e a =
    record {
      by = λ s k. ends-after r (a_unit s ∷ []) (an_atom true s ∷ []) at at halt (unit-as_atom r at s t n h g e) (a.by s k);
    }

-- ---- units with the same sign between them

pub units-first :
    (sign : List ℕ) (first v : FormulaTree) (r : Reader) (names : List Name) (level at next : ℕ) (none one_of new : List FormulaTree)
    → ReadsUnit r names level at next v → none ≡ [] → one_of ≡ none ++ first ∷ [] → new ≡ one_of ++ v ∷ []
    → SoFar unit_lexemes unit_meant (lexeme Connective sign) r (further_units sign) (one (maybe_more_units sign)) names level at next (first ∷ []) new
units-first sign first v r names level at next none one_of new h e g k =
    sofar-first unit_lexemes unit_meant (lexeme Connective sign) r a_unit (maybe_more_units sign) names level at next v (first ∷ []) new h
    (k ∙ ap (λ fs. fs ++ v ∷ []) (g ∙ ap (λ fs. fs ++ first ∷ []) e))

pub units-more :
    (sign : List ℕ) (first v : FormulaTree) (r : Reader) (names : List Name) (level at next after : ℕ) (values new : List FormulaTree) (t : Lexeme)
    → SoFar unit_lexemes unit_meant (lexeme Connective sign) r (further_units sign) (one (maybe_more_units sign)) names level at next (first ∷ []) values
    → IsNext r next t → is_connective sign t ≡ true → ReadsUnit r names level (next + 1) after v → new ≡ values ++ v ∷ []
    → SoFar unit_lexemes unit_meant (lexeme Connective sign) r (further_units sign) (one (maybe_more_units sign)) names level at after (first ∷ []) new
units-more sign first v r names level at next after values new t g n h k e =
    sofar-more unit_lexemes unit_meant (lexeme Connective sign) r (further_units sign) a_unit (maybe_more_units sign) names level at next after v (first ∷ []) values new
    g (next-is r next t (lexeme Connective sign) n (lexeme-is Connective sign t h)) (λ s f. more_units-leads r next sign s t n h) k e

pub units-read :
    (sign : List ℕ) (first : FormulaTree) (r : Reader) (names : List Name) (level at next : ℕ) (values : List FormulaTree) (t : Lexeme)
    → SoFar unit_lexemes unit_meant (lexeme Connective sign) r (further_units sign) (one (maybe_more_units sign)) names level at next (first ∷ []) values
    → IsNext r next t → is_connective sign t ≡ false
    → ReadsUnits sign first r names level at next values
units-read sign first r names level at next values t g n h =
    sofar-ended unit_lexemes unit_meant (lexeme Connective sign) r (further_units sign) (maybe_more_units sign) names level at next (first ∷ []) values
    g (λ s f. no_more_units-leads r next sign s t n h)

pub units-cut_off :
    (sign : List ℕ) (first : FormulaTree) (r : Reader) (names : List Name) (level at next : ℕ) (values : List FormulaTree) (halt : Halt)
    → SoFar unit_lexemes unit_meant (lexeme Connective sign) r (further_units sign) (one (maybe_more_units sign)) names level at next (first ∷ []) values
    → ((x : Symbol) → Ends r (x ∷ []) next halt)
    → Halts r (further_units sign) names level at halt
units-cut_off sign first r names level at next values halt g ends =
    sofar-halts unit_lexemes unit_meant (lexeme Connective sign) r (further_units sign) (maybe_more_units sign) names level at next (first ∷ []) values halt
    g (λ s f. ends (maybe_more_units sign s))

pub units-halted :
    (sign : List ℕ) (first : FormulaTree) (r : Reader) (names : List Name) (level at next : ℕ) (values : List FormulaTree) (t : Lexeme) (halt : Halt)
    → SoFar unit_lexemes unit_meant (lexeme Connective sign) r (further_units sign) (one (maybe_more_units sign)) names level at next (first ∷ []) values
    → IsNext r next t → is_connective sign t ≡ true
    → Halts r (one a_unit) names level (next + 1) halt
    → Halts r (further_units sign) names level at halt
units-halted sign first r names level at next values t halt g n h k =
    sofar-item-halts unit_lexemes unit_meant (lexeme Connective sign) r (further_units sign) a_unit (maybe_more_units sign) names level at next (first ∷ []) values halt
    g (λ s f. more_units-leads r next sign s t n h) k

-- ---- formulas

units_of : List UnitPhrase → UnitPhrases
units_of [] = no_units
units_of (u ∷ us) = unit_then u (units_of us)

further-spelled :
    (sign : Lexeme) (us : List UnitPhrase) (rest : List Lexeme) → further unit_lexemes sign us rest ≡ units_lexemes sign (units_of us) rest
unfolding units_of
further-spelled sign [] rest = refl
further-spelled sign (u ∷ us) rest = ap (λ ts. sign ∷ unit_lexemes u ts) (further-spelled sign us rest)

units-meant : (us : List UnitPhrase) → units_meant (units_of us) ≡ formulas_of (map unit_meant us)
unfolding units_of
units-meant [] = refl
units-meant (u ∷ us) = ap (formula_then (unit_meant u)) (units-meant us)

-- a first unit leaves a connective or none pending
first-leads :
    (r : Reader) (names : List Name) (level at after : ℕ) (f : FormulaTree) (s : Surroundings)
    → ReadsUnit r names level at after f → Suits r names level s → Leads r (formula_symbols s) at (maybe_connected s ∷ []) after
first-leads r names level at after f s u k = leads-under r (a_unit s) [] (maybe_connected s ∷ []) at after (u.leads.by s k)

pub unit_first-halted :
    (r : Reader) (names : List Name) (level at : ℕ) (halt : Halt)
    → Halts r (one a_unit) names level at halt → Halts r formula_symbols names level at halt
unit_first-halted r names level at halt h = first-halts r a_unit maybe_connected names level at halt h

pub formula-cut_off :
    (r : Reader) (names : List Name) (level at after : ℕ) (f : FormulaTree) (halt : Halt)
    → ReadsUnit r names level at after f → ((x : Symbol) → Ends r (x ∷ []) after halt)
    → Halts r formula_symbols names level at halt
formula-cut_off r names level at after f halt u ends =
    record {
      by = λ s k.
          ends-after r (formula_symbols s) (maybe_connected s ∷ []) at after halt (first-leads r names level at after f s u k)
          (ends (maybe_connected s));
    }

pub alone-read :
    (r : Reader) (names : List Name) (level at after : ℕ) (t : Lexeme) (f : FormulaTree)
    → ReadsUnit r names level at after f → IsNext r after t
    → is_connective (codes "&") t ≡ false → is_connective (codes "|") t ≡ false → is_binary_connective t ≡ false
    → ReadsFormula r names level at after f
alone-read r names level at after t f u n h g e =
    record {
      phrase = alone u.phrase;
      spelled = u.spelled;
      meant = u.meant;
      leads = record {
        by = λ s k.
            leads-then r (formula_symbols s) (maybe_connected s ∷ []) [] at after after (first-leads r names level at after f s u k)
            (alone-leads r after s t n h g e);
        onward = u.leads.onward;
      };
    }

joined-leads :
    (r : Reader) (names : List Name) (level at after next : ℕ) (more : Surroundings → List Symbol) (f : FormulaTree)
    → ReadsUnit r names level at after f
    → ((s : Surroundings) → Leads r (maybe_connected s ∷ []) after (more s) (after + 1))
    → Starts r more names level (after + 1) next
    → Starts r formula_symbols names level at next
joined-leads r names level at after next more f u step rest =
    record {
      by = λ s k.
          leads-then r (formula_symbols s) (maybe_connected s ∷ []) [] at after next (first-leads r names level at after f s u k)
          (leads-then r (maybe_connected s ∷ []) (more s) [] after (after + 1) next (step s) (rest.by s k));
      onward = omega (arith, u.leads.onward, rest.onward);
    }

joined-halted :
    (r : Reader) (names : List Name) (level at after : ℕ) (more : Surroundings → List Symbol) (f : FormulaTree) (halt : Halt)
    → ReadsUnit r names level at after f
    → ((s : Surroundings) → Leads r (maybe_connected s ∷ []) after (more s) (after + 1))
    → Halts r more names level (after + 1) halt
    → Halts r formula_symbols names level at halt
joined-halted r names level at after more f halt u step rest =
    record {
      by = λ s k.
          ends-after r (formula_symbols s) (maybe_connected s ∷ []) at after halt (first-leads r names level at after f s u k)
          (ends-after r (maybe_connected s ∷ []) (more s) after (after + 1) halt (step s) (rest.by s k));
    }

-- the operands of a sign, as trees
operands-are :
    (first : FormulaTree) (u v : UnitPhrase) (us : List UnitPhrase) (values : List FormulaTree)
    → unit_meant u ≡ first → first ∷ unit_meant v ∷ map unit_meant us ≡ values
    → formula_then (unit_meant u) (formula_then (unit_meant v) (units_meant (units_of us))) ≡ formulas_of values
operands-are first u v us values e g =
    ap₂ formula_then e (ap (formula_then (unit_meant v)) (units-meant us)) ∙ ap formulas_of g

operands-spelled :
    (r : Reader) (names : List Name) (level at after next : ℕ) (sign : List ℕ) (first : FormulaTree) (values : List FormulaTree) (t : Lexeme)
    → (u : ReadsUnit r names level at after first) → IsNext r after t → t ≡ lexeme Connective sign
    → (k : ReadsUnits sign first r names level (after + 1) next values)
    → drop at (lexemes r)
    ≡ unit_lexemes u.phrase (lexeme Connective sign ∷ unit_lexemes k.phrase.first (units_lexemes (lexeme Connective sign) (units_of k.phrase.others) (drop next (lexemes r))))
operands-spelled r names level at after next sign first values t u n e k =
    u.spelled
    ∙ ap (unit_lexemes u.phrase)
    (n.here ∙ ap (λ v. v ∷ drop (after + 1) (lexemes r)) e
    ∙ ap (λ us. lexeme Connective sign ∷ us)
    (k.spelled ∙ ap (unit_lexemes k.phrase.first) (further-spelled (lexeme Connective sign) k.phrase.others (drop next (lexemes r)))))

pub conjunction-read :
    (r : Reader) (names : List Name) (level at after next : ℕ) (first f : FormulaTree) (values : List FormulaTree) (t : Lexeme)
    → ReadsUnit r names level at after first → IsNext r after t → is_connective (codes "&") t ≡ true
    → ReadsUnits (codes "&") first r names level (after + 1) next values
    → f ≡ conjunction (formulas_of values)
    → ReadsFormula r names level at next f
conjunction-read r names level at after next first f values t u n h k e =
    let is = lexeme-is Connective (codes "&") t h in
    record {
      phrase = all_of u.phrase k.phrase.first (units_of k.phrase.others);
      spelled = operands-spelled r names level at after next (codes "&") first values t u n is k;
      meant = ap conjunction (operands-are first u.phrase k.phrase.first k.phrase.others values u.meant k.meant) ∙ sym e;
      leads = joined-leads r names level at after next (further_units (codes "&")) first u (λ s. and-leads r after s t n is) k.leads;
    }

pub conjunction-halted :
    (r : Reader) (names : List Name) (level at after : ℕ) (first : FormulaTree) (t : Lexeme) (halt : Halt)
    → ReadsUnit r names level at after first → IsNext r after t → is_connective (codes "&") t ≡ true
    → Halts r (further_units (codes "&")) names level (after + 1) halt
    → Halts r formula_symbols names level at halt
conjunction-halted r names level at after first t halt u n h k =
    joined-halted r names level at after (further_units (codes "&")) first halt u
    (λ s. and-leads r after s t n (lexeme-is Connective (codes "&") t h)) k

pub disjunction-read :
    (r : Reader) (names : List Name) (level at after next : ℕ) (first f : FormulaTree) (values : List FormulaTree) (t : Lexeme)
    → ReadsUnit r names level at after first → IsNext r after t → is_connective (codes "|") t ≡ true
    → ReadsUnits (codes "|") first r names level (after + 1) next values
    → f ≡ disjunction (formulas_of values)
    → ReadsFormula r names level at next f
disjunction-read r names level at after next first f values t u n h k e =
    let is = lexeme-is Connective (codes "|") t h in
    record {
      phrase = some_of u.phrase k.phrase.first (units_of k.phrase.others);
      spelled = operands-spelled r names level at after next (codes "|") first values t u n is k;
      meant = ap disjunction (operands-are first u.phrase k.phrase.first k.phrase.others values u.meant k.meant) ∙ sym e;
      leads = joined-leads r names level at after next (further_units (codes "|")) first u (λ s. or-leads r after s t n is) k.leads;
    }

pub disjunction-halted :
    (r : Reader) (names : List Name) (level at after : ℕ) (first : FormulaTree) (t : Lexeme) (halt : Halt)
    → ReadsUnit r names level at after first → IsNext r after t → is_connective (codes "|") t ≡ true
    → Halts r (further_units (codes "|")) names level (after + 1) halt
    → Halts r formula_symbols names level at halt
disjunction-halted r names level at after first t halt u n h k =
    joined-halted r names level at after (further_units (codes "|")) first halt u
    (λ s. or-leads r after s t n (lexeme-is Connective (codes "|") t h)) k

pub connected-read :
    (r : Reader) (names : List Name) (level at after next : ℕ) (c : BinaryConnective) (first second f : FormulaTree) (t : Lexeme)
    → ReadsUnit r names level at after first → IsNext r after t → t ≡ connective_lexeme c
    → ReadsUnit r names level (after + 1) next second → f ≡ connected c first second
    → ReadsFormula r names level at next f
connected-read r names level at after next c first second f t u n is v e =
    record {
      phrase = joined_by c u.phrase v.phrase;
      spelled =
          u.spelled
          ∙ ap (unit_lexemes u.phrase)
          (n.here ∙ ap (λ w. w ∷ drop (after + 1) (lexemes r)) is ∙ ap (λ us. connective_lexeme c ∷ us) v.spelled);
      meant = ap₂ (connected c) u.meant v.meant ∙ sym e;
      leads = joined-leads r names level at after next (one a_unit) first u (λ s. binary-leads r after s t c n is) v.leads;
    }

pub connected-halted :
    (r : Reader) (names : List Name) (level at after : ℕ) (c : BinaryConnective) (first : FormulaTree) (t : Lexeme) (halt : Halt)
    → ReadsUnit r names level at after first → IsNext r after t → t ≡ connective_lexeme c
    → Halts r (one a_unit) names level (after + 1) halt
    → Halts r formula_symbols names level at halt
connected-halted r names level at after c first t halt u n is k =
    joined-halted r names level at after (one a_unit) first halt u (λ s. binary-leads r after s t c n is) k
