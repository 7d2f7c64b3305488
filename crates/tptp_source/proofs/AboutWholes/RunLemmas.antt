-- The machine from an index on.
use Rattle.std.proofs.Common.{◌≡◌, ◌+◌, ℕ, false, List, [], ◌∷◌, drop, None, Some, Option, Result, Ok, Err, refl, sym, ap, ◌∙◌, subst}
use Rattle.std.specs.Result.{IsErrAnd}
use Rattle.std.specs.Prelude.{IfErr}
use Rattle.tptp_token.specs.Lexemes.{Lexeme, is_mark}
use Rattle.tptp_source.specs.General.{GeneralTree}
use Rattle.tptp_source.specs.Machine.{Level, State, step, at_end, run, begins_with}
use Rattle.tptp_source.specs.Telling.{lexemes, IsNext, told, IsHalt, Place, Leads, Halts}
use Rattle.tptp_source.specs.declared.reader.Reader.{Reader}
use Rattle.tptp_source.specs.declared.reader.Halt.{Halt}
use Rattle.tptp_source.specs.declared.reader.Halt.TheVariants.{NoMemory, NoTerm}

abbrev term_or : GeneralTree → Option GeneralTree → GeneralTree
term_or u None = u
term_or u (Some t) = t

pub some-same : (t u : GeneralTree) → Some t ≡ Some u → t ≡ u
some-same t u e = ap (term_or t) e

-- ---- one token

told-as : (r : Reader) (at : ℕ) (s : State) (t : Lexeme) → IsNext r at t → told r s at ≡ run (step s t) (drop (at + 1) (lexemes r))
unfolding told
told-as r at s t n = ap (run (Some s)) n.here

pub next-leads :
    (r : Reader) (at : ℕ) (first last : Place) (t : Lexeme)
    → IsNext r at t → ((before : List GeneralTree) (levels : List Level) → step (first before levels) t ≡ Some (last before levels))
    → Leads r first at last (at + 1)
unfolding told
next-leads r at first last t n h =
    record { by = λ before levels. told-as r at (first before levels) t n ∙ ap (λ o. run o (drop (at + 1) (lexemes r))) (h before levels) }

halt-is : (halt : Halt) (answer : Option GeneralTree) → halt ≡ NoTerm → answer ≡ None → IsHalt halt answer
halt-is halt answer e h = subst (λ (k : Halt). IsHalt k answer) (sym e) h

run-none : (ts : List Lexeme) → run None ts ≡ None
run-none ts = refl

pub next-halts :
    (r : Reader) (at : ℕ) (first : Place) (t : Lexeme) (halt : Halt)
    → IsNext r at t → ((before : List GeneralTree) (levels : List Level) → step (first before levels) t ≡ None) → halt ≡ NoTerm
    → Halts r first at halt
next-halts r at first t halt n h e =
    record {
      by = λ before levels.
          halt-is halt (told r (first before levels) at) e
          (told-as r at (first before levels) t n ∙ ap (λ o. run o (drop (at + 1) (lexemes r))) (h before levels)
          ∙ run-none (drop (at + 1) (lexemes r)));
    }

-- there are no more tokens
pub out-halts :
    (r : Reader) (at : ℕ) (first : Place) (halt : Halt)
    → drop at (lexemes r) ≡ [] → ((before : List GeneralTree) (levels : List Level) → at_end (first before levels) ≡ None) → halt ≡ NoTerm
    → Halts r first at halt
unfolding told
out-halts r at first halt n h e =
    record {
      by = λ before levels.
          halt-is halt (told r (first before levels) at) e (ap (run (Some (first before levels))) n ∙ h before levels);
    }

pub memory-halts : (r : Reader) (first : Place) (at : ℕ) (halt : Halt) → halt ≡ NoMemory → Halts r first at halt
memory-halts r first at halt e =
    record { by = λ before levels. subst (λ (k : Halt). IsHalt k (told r (first before levels) at)) (sym e) tt }

-- ---- a mark that isn't there

pub run-unmarked :
    (mark : List ℕ) (s z : State) (ts : List Lexeme)
    → begins_with mark ts ≡ false → ((t : Lexeme) → is_mark mark t ≡ false → step s t ≡ step z t) → at_end s ≡ at_end z
    → run (Some s) ts ≡ run (Some z) ts
run-unmarked mark s z [] h f e = e
run-unmarked mark s z (t ∷ ts) h f e = ap (λ o. run o ts) (f t h)

pub unmarked-leads :
    (r : Reader) (at : ℕ) (mark : List ℕ) (first last : Place)
    → begins_with mark (drop at (lexemes r)) ≡ false
    → ((before : List GeneralTree) (levels : List Level) (t : Lexeme) → is_mark mark t ≡ false → step (first before levels) t ≡ step (last before levels) t)
    → ((before : List GeneralTree) (levels : List Level) → at_end (first before levels) ≡ at_end (last before levels))
    → Leads r first at last at
unfolding told
unmarked-leads r at mark first last h f e =
    record {
      by = λ before levels.
          run-unmarked mark (first before levels) (last before levels) (drop at (lexemes r)) h (f before levels) (e before levels);
    }

run-unmarked-none :
    (mark other : List ℕ) (s : State) (ts : List Lexeme)
    → begins_with mark ts ≡ false → begins_with other ts ≡ false
    → ((t : Lexeme) → is_mark mark t ≡ false → is_mark other t ≡ false → step s t ≡ None) → at_end s ≡ None
    → run (Some s) ts ≡ None
run-unmarked-none mark other s [] h k f e = e
run-unmarked-none mark other s (t ∷ ts) h k f e = ap (λ o. run o ts) (f t h k)

pub unmarked-halts :
    (r : Reader) (at : ℕ) (mark other : List ℕ) (first : Place) (halt : Halt)
    → begins_with mark (drop at (lexemes r)) ≡ false → begins_with other (drop at (lexemes r)) ≡ false
    → ((before : List GeneralTree) (levels : List Level) (t : Lexeme) → is_mark mark t ≡ false → is_mark other t ≡ false → step (first before levels) t ≡ None)
    → ((before : List GeneralTree) (levels : List Level) → at_end (first before levels) ≡ None)
    → halt ≡ NoTerm → Halts r first at halt
unfolding told
unmarked-halts r at mark other first halt h k f e g =
    record {
      by = λ before levels.
          halt-is halt (told r (first before levels) at) g
          (run-unmarked-none mark other (first before levels) (drop at (lexemes r)) h k (f before levels) (e before levels));
    }

-- ---- several steps

pub leads-then :
    (r : Reader) (a b c : Place) (i j k : ℕ) → Leads r a i b j → Leads r b j c k → Leads r a i c k
leads-then r a b c i j k g h = record { by = λ before levels. g.by before levels ∙ h.by before levels }

pub halts-after :
    (r : Reader) (a b : Place) (i j : ℕ) (halt : Halt) → Leads r a i b j → Halts r b j halt → Halts r a i halt
halts-after r a b i j halt g h =
    record { by = λ before levels. subst (IsHalt halt) (sym (g.by before levels)) (h.by before levels) }

-- ---- what a call passes on

pub passed : {Y : Type 0} (q : Result Y Halt) (halt : Halt) (P : Halt → Type 0) → IsErrAnd q (λ h. h ≡ halt) → P halt → IfErr q P
passed (Ok y) halt P e h = tt
passed (Err x) halt P e h = subst P (sym e) h
