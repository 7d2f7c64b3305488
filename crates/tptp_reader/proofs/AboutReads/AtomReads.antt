-- Steps of reading atoms.
use Rattle.std.proofs.Common.{◌≡◌, ℕ, ◌+◌, Bool, true, false, List, [], ◌∷◌, drop, refl, sym, ap, ap₂, ◌∙◌, arith, codes}
use Rattle.tptp_token.specs.Lexemes.{Lexeme, is_lexeme, word_lexeme, is_connective}
use Rattle.tptp_token.specs.declared.token.Kind.TheVariants.{Dollar}
use Rattle.tptp_tree.specs.Term.{TermTree, variable, application, TermTrees}
use Rattle.tptp_tree.specs.Formula.{FormulaTree, truth, falsity, predicate, equation}
use Rattle.tptp_token.specs.Words.{name_of, Word, is_word, is_variable, word_of}
use Rattle.tptp_tree.specs.Spelling.{TermPhrases, true_atom, false_atom, predicate_atom, equation_atom, equals_lexeme, term_lexemes}
use Rattle.tptp_tree.specs.Causes.{Surroundings}
use Rattle.tptp_reader.specs.Machine.{Symbol, a_term, maybe_arguments, an_atom, maybe_applied, maybe_equation, an_equation, is_sign_of_equation}
use Rattle.tptp_reader.specs.Telling.{lexemes, IsNext, Leads, Ends, Suits, Halts, one, is_free_among, term_refusal, ReadsTerm, ReadsArguments, is_allowed, ReadsAtom}
use Rattle.tptp_reader.specs.declared.source.Reader.{Reader}
use Rattle.tptp_reader.specs.declared.source.Name.{Name}
use Rattle.tptp_reader.specs.declared.cause.Halt.{Halt}
use Rattle.tptp_reader.specs.declared.cause.Halt.TheVariants.{At}
use Rattle.tptp_reader.specs.declared.cause.Refusal.TheVariants.{Syntax, FreeVariable}
use Rattle.tptp_reader.proofs.AboutTexts.TellingLemmas.{leads-then, leads-under, ends-under, ends-after}
use Rattle.tptp_reader.proofs.AboutSteps.StepLemmas.{word-spelled}
use Rattle.tptp_reader.proofs.AboutSteps.AtomSteps.{lexeme-is, atom_word-leads, applied-leads, atom_variable-leads, atom_variable-ends, equation-leads, no_equation-leads, needed-leads, needed-ends, sign-is, equation-allowed, true-leads, false-leads, atom_other-ends}
use Rattle.tptp_reader.proofs.AboutReads.TermReads.{word-read, variable-read}

-- ---- atoms that begin with a word

begun-leads :
    (r : Reader) (at : ℕ) (d : Bool) (s : Surroundings) (t : Lexeme)
    → IsNext r at t → is_word t.kind ≡ true → Leads r (an_atom d s ∷ []) at (maybe_arguments s ∷ maybe_equation d s ∷ []) (at + 1)
begun-leads r at d s t n h =
    leads-then r (an_atom d s ∷ []) (maybe_applied d s ∷ []) (maybe_arguments s ∷ maybe_equation d s ∷ []) at (at + 1) (at + 1)
    (atom_word-leads r at d s t n h) (applied-leads r (at + 1) d s)

applied-read :
    (r : Reader) (names : List Name) (level at next : ℕ) (d : Bool) (s : Surroundings) (t : Lexeme) (ts : TermTrees)
    → Suits r names level s → IsNext r at t → is_word t.kind ≡ true → ReadsArguments r names level (at + 1) next ts
    → Leads r (an_atom d s ∷ []) at (maybe_equation d s ∷ []) next
applied-read r names level at next d s t ts f n h k =
    leads-then r (an_atom d s ∷ []) (maybe_arguments s ∷ maybe_equation d s ∷ []) (maybe_equation d s ∷ []) at (at + 1) next
    (begun-leads r at d s t n h)
    (leads-under r (maybe_arguments s) [] (maybe_equation d s ∷ []) (at + 1) next (k.leads.by s f))

pub applied-halted :
    (r : Reader) (names : List Name) (level at : ℕ) (d : Bool) (t : Lexeme) (halt : Halt)
    → IsNext r at t → is_word t.kind ≡ true → Halts r (one maybe_arguments) names level (at + 1) halt
    → Halts r (one (an_atom d)) names level at halt
applied-halted r names level at d t halt n h k =
    record {
      by = λ s f.
          ends-after r (an_atom d s ∷ []) (maybe_arguments s ∷ maybe_equation d s ∷ []) at (at + 1) halt (begun-leads r at d s t n h)
          (ends-under r (maybe_arguments s) (maybe_equation d s ∷ []) (at + 1) halt (k.by s f));
    }

pub applied-cut_off :
    (r : Reader) (names : List Name) (level at next : ℕ) (d : Bool) (t : Lexeme) (ts : TermTrees) (halt : Halt)
    → IsNext r at t → is_word t.kind ≡ true → ReadsArguments r names level (at + 1) next ts
    → ((x : Symbol) → Ends r (x ∷ []) next halt)
    → Halts r (one (an_atom d)) names level at halt
applied-cut_off r names level at next d t ts halt n h k ends =
    record {
      by = λ s f.
          ends-after r (an_atom d s ∷ []) (maybe_equation d s ∷ []) at next halt
          (applied-read r names level at next d s t ts f n h k) (ends (maybe_equation d s));
    }

predicate-allowed : (d : Bool) (w : Word) (ts : TermPhrases) → is_allowed d (predicate_atom w ts) ≡ true
predicate-allowed true w ts = refl
predicate-allowed false w ts = refl

pub predicate-read :
    (r : Reader) (names : List Name) (level at next : ℕ) (d : Bool) (t sign : Lexeme) (name : List ℕ) (ts : TermTrees)
    → IsNext r at t → is_word t.kind ≡ true → name ≡ name_of (word_of t.kind t.bytes)
    → ReadsArguments r names level (at + 1) next ts
    → IsNext r next sign → is_sign_of_equation d sign ≡ false
    → ReadsAtom d r names level at next (predicate name ts)
predicate-read r names level at next d t sign name ts n h e k m g =
    record {
      phrase = record {
        atom = predicate_atom (word_of t.kind t.bytes) k.phrase;
        allowed = predicate-allowed d (word_of t.kind t.bytes) k.phrase;
      };
      spelled =
          n.here ∙ ap (λ u. u ∷ drop (at + 1) (lexemes r)) (sym (word-spelled t.kind t.bytes h))
          ∙ ap (λ us. word_lexeme (word_of t.kind t.bytes) ∷ us) k.spelled;
      meant = ap₂ predicate (sym e) k.meant;
      leads = record {
        by = λ s f.
            leads-then r (an_atom d s ∷ []) (maybe_equation d s ∷ []) [] at next next
            (applied-read r names level at next d s t ts f n h k) (no_equation-leads r next d s sign m g);
        onward = omega (arith, k.leads.onward);
      };
    }

-- ---- equations

equation-read :
    (r : Reader) (names : List Name) (level at next after : ℕ) (d b : Bool) (sign : Lexeme) (left right : TermTree) (f : FormulaTree)
    → ReadsTerm r names level at next left
    → IsNext r next sign → is_sign_of_equation d sign ≡ true → is_connective (codes "=") sign ≡ b
    → ReadsTerm r names level (next + 1) after right
    → ((s : Surroundings) → Suits r names level s → Leads r (an_atom d s ∷ []) at (a_term s ∷ []) (next + 1))
    → f ≡ equation b left right
    → ReadsAtom d r names level at after f
equation-read r names level at next after d b sign left right f p n h g q step e =
    record {
      phrase = record {
        atom = equation_atom b p.phrase q.phrase;
        allowed = equation-allowed d b sign p.phrase q.phrase h g;
      };
      spelled =
          p.spelled
          ∙ ap (term_lexemes p.phrase)
          (n.here ∙ ap (λ u. u ∷ drop (next + 1) (lexemes r)) (sign-is d b sign h g) ∙ ap (λ us. equals_lexeme b ∷ us) q.spelled);
      meant = ap₂ (equation b) p.meant q.meant ∙ sym e;
      leads = record {
        by = λ s k. leads-then r (an_atom d s ∷ []) (a_term s ∷ []) [] at (next + 1) after (step s k) (q.leads.by s k);
        onward = omega (arith, p.leads.onward, q.leads.onward);
      };
    }

equation-halted :
    (r : Reader) (names : List Name) (level at next : ℕ) (d : Bool) (halt : Halt)
    → ((s : Surroundings) → Suits r names level s → Leads r (an_atom d s ∷ []) at (a_term s ∷ []) (next + 1))
    → Halts r (one a_term) names level (next + 1) halt
    → Halts r (one (an_atom d)) names level at halt
equation-halted r names level at next d halt step q =
    record { by = λ s k. ends-after r (an_atom d s ∷ []) (a_term s ∷ []) at (next + 1) halt (step s k) (q.by s k) }

word-side :
    (r : Reader) (names : List Name) (level at next : ℕ) (d : Bool) (t sign : Lexeme) (ts : TermTrees)
    → IsNext r at t → is_word t.kind ≡ true → ReadsArguments r names level (at + 1) next ts
    → IsNext r next sign → is_sign_of_equation d sign ≡ true
    → (s : Surroundings) → Suits r names level s → Leads r (an_atom d s ∷ []) at (a_term s ∷ []) (next + 1)
word-side r names level at next d t sign ts n h k m g s f =
    leads-then r (an_atom d s ∷ []) (maybe_equation d s ∷ []) (a_term s ∷ []) at next (next + 1)
    (applied-read r names level at next d s t ts f n h k) (equation-leads r next d s sign m g)

pub word_equation-read :
    (r : Reader) (names : List Name) (level at next after : ℕ) (d b : Bool) (t sign : Lexeme) (name : List ℕ) (ts : TermTrees) (right : TermTree) (f : FormulaTree)
    → IsNext r at t → is_word t.kind ≡ true → name ≡ name_of (word_of t.kind t.bytes)
    → ReadsArguments r names level (at + 1) next ts
    → IsNext r next sign → is_sign_of_equation d sign ≡ true → is_connective (codes "=") sign ≡ b
    → ReadsTerm r names level (next + 1) after right
    → f ≡ equation b (application name ts) right
    → ReadsAtom d r names level at after f
word_equation-read r names level at next after d b t sign name ts right f n h e k m g c q i =
    equation-read r names level at next after d b sign (application name ts) right f
    (word-read r names level at next t name ts n h e k) m g c q
    (word-side r names level at next d t sign ts n h k m g) i

pub word_equation-halted :
    (r : Reader) (names : List Name) (level at next : ℕ) (d : Bool) (t sign : Lexeme) (ts : TermTrees) (halt : Halt)
    → IsNext r at t → is_word t.kind ≡ true → ReadsArguments r names level (at + 1) next ts
    → IsNext r next sign → is_sign_of_equation d sign ≡ true
    → Halts r (one a_term) names level (next + 1) halt
    → Halts r (one (an_atom d)) names level at halt
word_equation-halted r names level at next d t sign ts halt n h k m g q =
    equation-halted r names level at next d halt (word-side r names level at next d t sign ts n h k m g) q

-- ---- atoms that begin with a variable

pub variable_free-halted :
    (r : Reader) (names : List Name) (level at : ℕ) (d : Bool) (t : Lexeme)
    → IsNext r at t → is_variable t.kind ≡ true → is_free_among r.closed names t.bytes ≡ true
    → Halts r (one (an_atom d)) names level at (At FreeVariable at)
variable_free-halted r names level at d t n h k = record { by = λ s f. atom_variable-ends r at names level d s t f n h k }

pub variable_cut-halted :
    (r : Reader) (names : List Name) (level at : ℕ) (d : Bool) (t : Lexeme) (halt : Halt)
    → IsNext r at t → is_variable t.kind ≡ true → is_free_among r.closed names t.bytes ≡ false
    → ((x : Symbol) → Ends r (x ∷ []) (at + 1) halt)
    → Halts r (one (an_atom d)) names level at halt
variable_cut-halted r names level at d t halt n h k ends =
    record {
      by = λ s f.
          ends-after r (an_atom d s ∷ []) (an_equation d s ∷ []) at (at + 1) halt
          (atom_variable-leads r at names level d s t f n h k) (ends (an_equation d s));
    }

pub variable_alone-halted :
    (r : Reader) (names : List Name) (level at : ℕ) (d : Bool) (t sign : Lexeme)
    → IsNext r at t → is_variable t.kind ≡ true → is_free_among r.closed names t.bytes ≡ false
    → IsNext r (at + 1) sign → is_sign_of_equation d sign ≡ false
    → Halts r (one (an_atom d)) names level at (At Syntax (at + 1))
variable_alone-halted r names level at d t sign n h k m g =
    record {
      by = λ s f.
          ends-after r (an_atom d s ∷ []) (an_equation d s ∷ []) at (at + 1) (At Syntax (at + 1))
          (atom_variable-leads r at names level d s t f n h k) (needed-ends r (at + 1) d s sign m g);
    }

variable-side :
    (r : Reader) (names : List Name) (level at : ℕ) (d : Bool) (t sign : Lexeme)
    → IsNext r at t → is_variable t.kind ≡ true → is_free_among r.closed names t.bytes ≡ false
    → IsNext r (at + 1) sign → is_sign_of_equation d sign ≡ true
    → (s : Surroundings) → Suits r names level s → Leads r (an_atom d s ∷ []) at (a_term s ∷ []) (at + 1 + 1)
variable-side r names level at d t sign n h k m g s f =
    leads-then r (an_atom d s ∷ []) (an_equation d s ∷ []) (a_term s ∷ []) at (at + 1) (at + 1 + 1)
    (atom_variable-leads r at names level d s t f n h k) (needed-leads r (at + 1) d s sign m g)

pub variable_equation-read :
    (r : Reader) (names : List Name) (level at after : ℕ) (d b : Bool) (t sign : Lexeme) (name : List ℕ) (right : TermTree) (f : FormulaTree)
    → IsNext r at t → is_variable t.kind ≡ true → is_free_among r.closed names t.bytes ≡ false → name ≡ t.bytes
    → IsNext r (at + 1) sign → is_sign_of_equation d sign ≡ true → is_connective (codes "=") sign ≡ b
    → ReadsTerm r names level (at + 1 + 1) after right
    → f ≡ equation b (variable name) right
    → ReadsAtom d r names level at after f
variable_equation-read r names level at after d b t sign name right f n h k e m g c q i =
    equation-read r names level at (at + 1) after d b sign (variable name) right f
    (variable-read r names level at t name n h k e) m g c q
    (variable-side r names level at d t sign n h k m g) i

pub variable_equation-halted :
    (r : Reader) (names : List Name) (level at : ℕ) (d : Bool) (t sign : Lexeme) (halt : Halt)
    → IsNext r at t → is_variable t.kind ≡ true → is_free_among r.closed names t.bytes ≡ false
    → IsNext r (at + 1) sign → is_sign_of_equation d sign ≡ true
    → Halts r (one a_term) names level (at + 1 + 1) halt
    → Halts r (one (an_atom d)) names level at halt
variable_equation-halted r names level at d t sign halt n h k m g q =
    equation-halted r names level at (at + 1) d halt (variable-side r names level at d t sign n h k m g) q

-- ---- truth words and what is no atom

true-allowed : (d : Bool) → is_allowed d true_atom ≡ true
true-allowed true = refl
true-allowed false = refl

false-allowed : (d : Bool) → is_allowed d false_atom ≡ true
false-allowed true = refl
false-allowed false = refl

pub true-read :
    (r : Reader) (names : List Name) (level at : ℕ) (d : Bool) (t : Lexeme)
    → IsNext r at t → is_lexeme Dollar (codes "$true") t ≡ true → ReadsAtom d r names level at (at + 1) truth
true-read r names level at d t n h =
    let e = lexeme-is Dollar (codes "$true") t h in
    record {
      phrase = record { atom = true_atom; allowed = true-allowed d };
      spelled = n.here ∙ ap (λ u. u ∷ drop (at + 1) (lexemes r)) e;
      meant = refl;
      leads = record { by = λ s f. true-leads r at d s t n e; onward = omega arith };
    }

pub false-read :
    (r : Reader) (names : List Name) (level at : ℕ) (d : Bool) (t : Lexeme)
    → IsNext r at t → is_lexeme Dollar (codes "$false") t ≡ true → ReadsAtom d r names level at (at + 1) falsity
false-read r names level at d t n h =
    let e = lexeme-is Dollar (codes "$false") t h in
    record {
      phrase = record { atom = false_atom; allowed = false-allowed d };
      spelled = n.here ∙ ap (λ u. u ∷ drop (at + 1) (lexemes r)) e;
      meant = refl;
      leads = record { by = λ s f. false-leads r at d s t n e; onward = omega arith };
    }

pub no_atom-halted :
    (r : Reader) (names : List Name) (level at : ℕ) (d : Bool) (t : Lexeme)
    → IsNext r at t → is_word t.kind ≡ false → is_variable t.kind ≡ false
    → is_lexeme Dollar (codes "$true") t ≡ false → is_lexeme Dollar (codes "$false") t ≡ false
    → Halts r (one (an_atom d)) names level at (At (term_refusal t.kind t.bytes) at)
no_atom-halted r names level at d t n h g e f = record { by = λ s k. atom_other-ends r at d s t n h g e f }
