-- Runs of the stack machine: what it tells of each token, as for untyped entries. A token that is wrong doesn't end a run here, so that what
-- can stand behind it is seen.
use Rattle.std.proofs.Common.{◌≡◌, ℕ, suc, Option, None, Some, List, [], ◌∷◌, ◌++◌, refl, ap, ◌∙◌}
use Rattle.tptp_token.specs.Lexemes.{Lexeme}
use Rattle.tptp_tree.specs.Causes.{Refusal}
use Rattle.typed_tree.specs.TypedAnswers.{TypedRefusal, plain}
use Rattle.typed_machine.specs.TypedMachine.{TypedSymbol, TypedStep, takes, passes, stops, step, Run, going, over, refused, resolved, stepped, after_token, Verdict, read_up_to, refused_at, ran_out, verdict}

-- what a token does to a stack: it is taken, with its cause and the new stack; it is refused; or nothing was to come
pub data Move : Type 0 where
  to : Option Refusal → List TypedSymbol → Move
  halted : TypedRefusal → Move
  emptied : Move

abbrev pub moved_by : TypedStep → List TypedSymbol → Move → Move
moved_by (takes new cause) below other = to cause (new ++ below)
moved_by passes below other = other
moved_by (stops refusal) below other = halted refusal

abbrev pub moved : List TypedSymbol → Lexeme → Move
moved [] t = emptied
moved (a ∷ s) t = moved_by (step a t) s (moved s t)

-- the causes of the tokens, and how the run ends: before these tokens, for want of tokens, or at a token
pub data Trace : Type 0 where
  done : List Lexeme → Trace
  cut_off : Trace
  halted_by : TypedRefusal → Trace
  marked : Option Refusal → Trace → Trace

-- by the token and those behind it
abbrev pub by_move : (List TypedSymbol → Trace) → Lexeme → List Lexeme → Move → Trace
by_move next t ts (to cause s) = marked cause (next s)
by_move next t ts (halted refusal) = halted_by (resolved refusal ts)
by_move next t ts emptied = done (t ∷ ts)

abbrev pub trace : List Lexeme → List TypedSymbol → Trace
trace ts [] = done ts
trace [] (a ∷ s) = cut_off
trace (t ∷ ts) (a ∷ s) = by_move (λ next. trace ts next) t ts (moved (a ∷ s) t)

-- these causes, and then the rest
abbrev pub marks : List (Option Refusal) → Trace → Trace
marks [] r = r
marks (c ∷ cs) r = marked c (marks cs r)

-- ---- the verdict is what a trace tells up to the first cause

abbrev pub verdict_of : ℕ → Trace → Verdict
verdict_of place (done rest) = read_up_to place
verdict_of place cut_off = ran_out
verdict_of place (halted_by refusal) = refused_at place refusal
verdict_of place (marked None r) = verdict_of (suc place) r
verdict_of place (marked (Some refusal) r) = refused_at place (plain refusal)

abbrev run_of : ℕ → List Lexeme → Move → Run
run_of place ts (to None s) = going s
run_of place ts (to (Some refusal) s) = refused place (plain refusal)
run_of place ts (halted refusal) = refused place (resolved refusal ts)
run_of place ts emptied = over place

stepped-run :
    (place : ℕ) (x : TypedStep) (below : List TypedSymbol) (ts : List Lexeme) (other : Move)
    → stepped place below ts x (run_of place ts other) ≡ run_of place ts (moved_by x below other)
stepped-run place (takes new None) below ts other = refl
stepped-run place (takes new (Some refusal)) below ts other = refl
stepped-run place passes below ts other = refl
stepped-run place (stops refusal) below ts other = refl

token-run : (place : ℕ) (s : List TypedSymbol) (t : Lexeme) (ts : List Lexeme) → after_token place s t ts ≡ run_of place ts (moved s t)
token-run place [] t ts = refl
token-run place (a ∷ s) t ts =
    ap (stepped place s ts (step a t)) (token-run place s t ts) ∙ stepped-run place (step a t) s ts (moved s t)

pub verdict-traced : (place : ℕ) (ts : List Lexeme) (s : List TypedSymbol) → verdict place (going s) ts ≡ verdict_of place (trace ts s)
verdict-traced place [] [] = refl
verdict-traced place (t ∷ ts) [] = refl
verdict-traced place [] (a ∷ s) = refl
verdict-traced place (t ∷ ts) (a ∷ s) =
    ap (λ r. verdict (suc place) r ts) (token-run place (a ∷ s) t ts) ∙ after (λ next. verdict-traced (suc place) ts next) (moved (a ∷ s) t)
  where
    after :
        ((next : List TypedSymbol) → verdict (suc place) (going next) ts ≡ verdict_of (suc place) (trace ts next)) → (m : Move)
        → verdict (suc place) (run_of place ts m) ts ≡ verdict_of place (by_move (λ next. trace ts next) t ts m)
    after rest (to None next) = rest next
    after rest (to (Some refusal) next) = refl
    after rest (halted refusal) = refl
    after rest emptied = refl
