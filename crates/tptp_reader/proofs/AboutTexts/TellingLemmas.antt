-- Steps of the machine from an index on.
use Rattle.std.proofs.Common.{◌≡◌, ◌<◌, ◌≤◌, ◌+◌, ℕ, suc, List, [], ◌∷◌, ◌++◌, drop, None, Some, refl, sym, ap, ◌∙◌, subst, arith, append_assoc, add-one}
use Rattle.std.proofs.lemmas.Bool.{lt-ltb, le-ltb}
use Rattle.tptp_token.specs.Lexemes.{Lexeme}
use Rattle.tptp_tree.specs.Causes.{Refusal, too_deep, Surroundings, deeper, begun}
use Rattle.tptp_reader.specs.Machine.{Symbol, Step, takes, passes, stops, followed_by, step, stepped, after_token, going, over, refused, Verdict, read_up_to, refused_at, verdict}
use Rattle.tptp_reader.specs.Telling.{lexemes, IsNext, IsEnd, refusal_of, told, Leads, Ends, Suits}
use Rattle.tptp_reader.specs.declared.source.Reader.{Reader}
use Rattle.tptp_reader.specs.declared.source.Name.{Name}
use Rattle.tptp_reader.specs.declared.cause.Halt.{Halt}
use Rattle.tptp_reader.specs.declared.cause.Halt.TheVariants.{NoMemory, At, Ended}
use Rattle.tptp_reader.specs.declared.cause.Refusal.{Refusal as ToldRefusal}

-- ---- one step

verdict-over : (place end : ℕ) (ts : List Lexeme) → verdict place (over end) ts ≡ read_up_to end
verdict-over place end [] = refl
verdict-over place end (t ∷ ts) = refl

verdict-refused : (place index : ℕ) (q : Refusal) (ts : List Lexeme) → verdict place (refused index q) ts ≡ refused_at index q
verdict-refused place index q [] = refl
verdict-refused place index q (t ∷ ts) = refl

pub verdict-done : (place : ℕ) (ts : List Lexeme) → verdict place (going []) ts ≡ read_up_to place
verdict-done place [] = refl
verdict-done place (t ∷ ts) = refl

-- the verdict behind a token, by what its symbol does
abbrev behind : Reader → ℕ → List Symbol → Lexeme → Step → Verdict
behind r at below t st = verdict (suc at) (stepped at below st (after_token at below t)) (drop (at + 1) (lexemes r))

told-as :
    (r : Reader) (at : ℕ) (x : Symbol) (below : List Symbol) (t : Lexeme)
    → IsNext r at t → told r (x ∷ below) at ≡ behind r at below t (step x t)
unfolding told
told-as r at x below t n = ap (λ ts. verdict at (going (x ∷ below)) ts) n.here

pub takes-leads :
    (r : Reader) (at : ℕ) (x : Symbol) (t : Lexeme) (new : List Symbol)
    → IsNext r at t → step x t ≡ takes new None → Leads r (x ∷ []) at new (at + 1)
unfolding told
takes-leads r at x t new n e =
    record {
      by = λ below.
          told-as r at x below t n ∙ ap (behind r at below t) e
          ∙ ap (λ p. verdict p (going (new ++ below)) (drop (at + 1) (lexemes r))) (sym (add-one at));
    }

pub fault-ends :
    (r : Reader) (at : ℕ) (x : Symbol) (t : Lexeme) (new : List Symbol) (f : ToldRefusal)
    → IsNext r at t → step x t ≡ takes new (Some (refusal_of f)) → Ends r (x ∷ []) at (At f at)
fault-ends r at x t new f n e =
    record {
      by = λ below.
          told-as r at x below t n ∙ ap (behind r at below t) e
          ∙ verdict-refused (suc at) at (refusal_of f) (drop (at + 1) (lexemes r));
    }

pub stop-ends :
    (r : Reader) (at : ℕ) (x : Symbol) (t : Lexeme) (f : ToldRefusal)
    → IsNext r at t → step x t ≡ stops (refusal_of f) → Ends r (x ∷ []) at (At f at)
stop-ends r at x t f n e =
    record {
      by = λ below.
          told-as r at x below t n ∙ ap (behind r at below t) e
          ∙ verdict-refused (suc at) at (refusal_of f) (drop (at + 1) (lexemes r));
    }

told-below : (r : Reader) (at : ℕ) (below : List Symbol) (t : Lexeme) → IsNext r at t → behind r at below t passes ≡ told r below at
unfolding told
told-below r at [] t n =
    verdict-over (suc at) at (drop (at + 1) (lexemes r)) ∙ sym (verdict-done at (drop at (lexemes r)))
told-below r at (s ∷ ss) t n = sym (told-as r at s ss t n)

pub passes-leads :
    (r : Reader) (at : ℕ) (x : Symbol) (t : Lexeme) → IsNext r at t → step x t ≡ passes → Leads r (x ∷ []) at [] at
passes-leads r at x t n e =
    record { by = λ below. told-as r at x below t n ∙ ap (behind r at below t) e ∙ told-below r at below t n }

-- two symbols that do the same
pub same-leads :
    (r : Reader) (at : ℕ) (x y : Symbol) (t : Lexeme) → IsNext r at t → step x t ≡ step y t → Leads r (x ∷ []) at (y ∷ []) at
same-leads r at x y t n e =
    record { by = λ below. told-as r at x below t n ∙ ap (behind r at below t) e ∙ sym (told-as r at y below t n) }

pub out-ends : (r : Reader) (at : ℕ) (x : Symbol) → drop at (lexemes r) ≡ [] → Ends r (x ∷ []) at Ended
unfolding told
out-ends r at x h = record { by = λ below. ap (λ ts. verdict at (going (x ∷ below)) ts) h }

-- ---- several steps

pub leads-then :
    (r : Reader) (a b c : List Symbol) (i j k : ℕ) → Leads r a i b j → Leads r b j c k → Leads r a i c k
leads-then r a b c i j k g h = record { by = λ below. g.by below ∙ h.by below }

-- with more symbols below
pub leads-under :
    (r : Reader) (x : Symbol) (new more : List Symbol) (i j : ℕ) → Leads r (x ∷ []) i new j → Leads r (x ∷ more) i (new ++ more) j
leads-under r x new more i j h =
    record {
      by = λ below. h.by (more ++ below) ∙ ap (λ ss. told r ss j) (sym (append_assoc new more below));
    }

pub ends-under :
    (r : Reader) (x : Symbol) (more : List Symbol) (i : ℕ) (halt : Halt) → Ends r (x ∷ []) i halt → Ends r (x ∷ more) i halt
ends-under r x more i halt h = record { by = λ below. h.by (more ++ below) }

pub ends-after :
    (r : Reader) (a b : List Symbol) (i j : ℕ) (halt : Halt) → Leads r a i b j → Ends r b j halt → Ends r a i halt
ends-after r a b i j halt g h =
    record { by = λ below. subst (IsEnd halt) (sym (g.by below)) (h.by below) }

pub memory-ends : (r : Reader) (a : List Symbol) (i : ℕ) (halt : Halt) → halt ≡ NoMemory → Ends r a i halt
memory-ends r a i halt e = record { by = λ below. subst (λ (h : Halt). IsEnd h (told r (a ++ below) i)) (sym e) tt }

-- ---- levels

pub Suits-deeper :
    (r : Reader) (names : List Name) (level deep : ℕ) (s : Surroundings)
    → Suits r names level s → deep ≡ level + 1 → Suits r names deep (deeper s)
Suits-deeper r names level deep s f e =
    record { limit_is = f.limit_is; level_is = omega (arith, f.level_is, e); scope_is = f.scope_is }

pub begun-none :
    (r : Reader) (names : List Name) (level : ℕ) (s : Surroundings)
    → Suits r names level s → level < r.limit → begun s ≡ None
begun-none r names level s f h = rw (lt-ltb s.level s.limit (omega (arith, f.level_is, f.limit_is, h))) refl

pub begun-deep :
    (r : Reader) (names : List Name) (level : ℕ) (s : Surroundings)
    → Suits r names level s → r.limit ≤ level → begun s ≡ Some too_deep
begun-deep r names level s f h = rw (le-ltb s.level s.limit (omega (arith, f.level_is, f.limit_is, h))) refl

pub halt-is : (r : Reader) (a : List Symbol) (i : ℕ) (halt other : Halt) → halt ≡ other → Ends r a i other → Ends r a i halt
halt-is r a i halt other e h = subst (λ (g : Halt). Ends r a i g) (sym e) h

-- ---- a symbol that does what another does, with more behind it

abbrev pub NeverPasses : Step → Type 0
NeverPasses (takes new cause) = Unit {0}
NeverPasses passes = ⊥
NeverPasses (stops refusal) = Unit {0}

followed-as :
    (r : Reader) (at : ℕ) (more below : List Symbol) (t : Lexeme) (st : Step)
    → NeverPasses st → behind r at below t (followed_by more st) ≡ behind r at (more ++ below) t st
followed-as r at more below t (takes new None) h =
    ap (λ ss. verdict (suc at) (going ss) (drop (at + 1) (lexemes r))) (append_assoc new more below)
followed-as r at more below t (takes new (Some q)) h =
    verdict-refused (suc at) at q (drop (at + 1) (lexemes r)) ∙ sym (verdict-refused (suc at) at q (drop (at + 1) (lexemes r)))
followed-as r at more below t passes h = absurd h
followed-as r at more below t (stops q) h =
    verdict-refused (suc at) at q (drop (at + 1) (lexemes r)) ∙ sym (verdict-refused (suc at) at q (drop (at + 1) (lexemes r)))

pub followed-leads :
    (r : Reader) (at : ℕ) (x y : Symbol) (more : List Symbol) (t : Lexeme)
    → IsNext r at t → step x t ≡ followed_by more (step y t) → NeverPasses (step y t) → Leads r (x ∷ []) at (y ∷ more) at
followed-leads r at x y more t n e h =
    record {
      by = λ below.
          told-as r at x below t n ∙ ap (behind r at below t) e ∙ followed-as r at more below t (step y t) h
          ∙ sym (told-as r at y (more ++ below) t n);
    }

-- ---- more symbols below a list

pub leads-append : (r : Reader) (a more : List Symbol) (i j : ℕ) → Leads r a i [] j → Leads r (a ++ more) i more j
leads-append r a more i j h =
    record { by = λ below. ap (λ ss. told r ss i) (append_assoc a more below) ∙ h.by (more ++ below) }

pub ends-append : (r : Reader) (a more : List Symbol) (i : ℕ) (halt : Halt) → Ends r a i halt → Ends r (a ++ more) i halt
ends-append r a more i halt h =
    record { by = λ below. subst (λ (ss : List Symbol). IsEnd halt (told r ss i)) (sym (append_assoc a more below)) (h.by (more ++ below)) }

pub told-end : (r : Reader) (a : List Symbol) (i j : ℕ) → Leads r a i [] j → told r (a ++ []) i ≡ read_up_to j
unfolding told
told-end r a i j h = h.by [] ∙ verdict-done j (drop j (lexemes r))

-- the tokens alone matter
pub told-alike : (q r : Reader) (ss : List Symbol) (i : ℕ) → lexemes q ≡ lexemes r → told q ss i ≡ told r ss i
unfolding told
told-alike q r ss i e = ap (λ ts. verdict i (going ss) (drop i ts)) e

pub leads-alike :
    (q r : Reader) (a b : List Symbol) (i j : ℕ) → lexemes q ≡ lexemes r → Leads q a i b j → Leads r a i b j
leads-alike q r a b i j e h =
    record { by = λ below. sym (told-alike q r (a ++ below) i e) ∙ h.by below ∙ told-alike q r (b ++ below) j e }

pub ends-alike : (q r : Reader) (a : List Symbol) (i : ℕ) (halt : Halt) → lexemes q ≡ lexemes r → Ends q a i halt → Ends r a i halt
ends-alike q r a i halt e h =
    record { by = λ below. subst (IsEnd halt) (told-alike q r (a ++ below) i e) (h.by below) }
