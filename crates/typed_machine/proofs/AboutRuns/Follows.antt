-- What stands behind a part that may be shorter or longer, so that it ends there.
use Rattle.std.proofs.Common.{◌≡◌, ℕ, Bool, true, false, List, [], ◌∷◌, codes, refl, ap}
use Rattle.std.specs.Prelude.{if◌then◌else◌}
use Rattle.tptp_token.specs.Lexemes.{Lexeme, is_lexeme, is_mark, is_connective}
use Rattle.tptp_token.specs.declared.token.Kind.TheVariants.{Other}
use Rattle.tptp_tree.specs.Causes.{Surroundings}
use Rattle.tptp_reader.specs.Machine.{is_binary_connective}
use Rattle.tptp_reader.proofs.AboutRuns.FollowLemmas.{EndsTerm, EndsAtom, EndsFormula, arguments-pass as plain-arguments-pass, equation-pass as plain-equation-pass, applied-pass as plain-applied-pass}
use Rattle.typed_machine.specs.TypedMachine.{TypedSymbol, maybe_connected, maybe_more_units, maybe_sort, maybe_result, a_unit, a_sort_word, a_result, passes, taken, step, typed_step_of}
use Rattle.typed_machine.proofs.AboutRuns.PlainSymbols.{maybe_arguments, maybe_applied, maybe_equation}
use Rattle.typed_machine.proofs.AboutRuns.Traces.{moved_by, moved, by_move, trace}

-- the next token passes the test, and something is to come
abbrev pub Follows : (Lexeme → Type 0) → List Lexeme → List TypedSymbol → Type 0
Follows P [] s = ⊥
Follows P (t ∷ ts) [] = ⊥
Follows P (t ∷ ts) (a ∷ s) = P t

pub weaker :
    (P Q : Lexeme → Type 0) (ts : List Lexeme) (s : List TypedSymbol) → ((t : Lexeme) → P t → Q t) → Follows P ts s → Follows Q ts s
weaker P Q [] s h f = f
weaker P Q (t ∷ ts) [] h f = f
weaker P Q (t ∷ ts) (a ∷ s) h f = h t f

-- with one symbol more to come
pub under : (P : Lexeme → Type 0) (ts : List Lexeme) (a : TypedSymbol) (s : List TypedSymbol) → Follows P ts s → Follows P ts (a ∷ s)
under P [] a s f = f
under P (t ∷ ts) a [] f = absurd f
under P (t ∷ ts) a (b ∷ s) f = f

-- a symbol that may be left out is left out
pub skipped :
    (a : TypedSymbol) (P : Lexeme → Type 0) (ts : List Lexeme) (s : List TypedSymbol)
    → ((t : Lexeme) → P t → step a t ≡ passes) → Follows P ts s → trace ts (a ∷ s) ≡ trace ts s
skipped a P [] s h f = absurd f
skipped a P (t ∷ ts) [] h f = absurd f
skipped a P (t ∷ ts) (b ∷ s) h f =
    ap (λ x. by_move (λ next. trace ts next) t ts (moved_by x (b ∷ s) (moved (b ∷ s) t))) (h t f)

-- ---- symbols of untyped formulas

pub arguments-pass : (s : Surroundings) (t : Lexeme) → EndsTerm t → step (maybe_arguments s) t ≡ passes
arguments-pass s t h = ap typed_step_of (plain-arguments-pass s t h)

pub equation-pass : (may_differ : Bool) (s : Surroundings) (t : Lexeme) → EndsAtom t → step (maybe_equation may_differ s) t ≡ passes
equation-pass may_differ s t h = ap typed_step_of (plain-equation-pass may_differ s t h)

pub applied-pass : (may_differ : Bool) (s : Surroundings) (t : Lexeme) → EndsAtom t → step (maybe_applied may_differ s) t ≡ passes
applied-pass may_differ s t h = ap typed_step_of (plain-applied-pass may_differ s t h)

-- ---- units

pub connected-pass : (s : Surroundings) (t : Lexeme) → EndsFormula t → step (maybe_connected s) t ≡ passes
connected-pass s t h =
    three (is_connective (codes "&") t) (is_connective (codes "|") t) (is_binary_connective t) h.no_and h.no_or h.no_binary
  where
    three :
        (x y z : Bool) → x ≡ false → y ≡ false → z ≡ false
        → (if x then taken (a_unit s ∷ maybe_more_units (codes "&") s ∷ [])
        else if y then taken (a_unit s ∷ maybe_more_units (codes "|") s ∷ []) else if z then taken (a_unit s ∷ []) else passes)
        ≡ passes
    three true y z h k l = absurd (cc)
    three false true z h k l = absurd (cc)
    three false false true h k l = absurd (cc)
    three false false false h k l = refl

pub units-pass :
    (sign : List ℕ) (s : Surroundings) (t : Lexeme) → is_connective sign t ≡ false → step (maybe_more_units sign s) t ≡ passes
units-pass sign s t h = ap (λ b. if b then taken (a_unit s ∷ maybe_more_units sign s ∷ []) else passes) h

-- ---- sorts and types

abbrev pub NoColon : Lexeme → Type 0
NoColon t = is_mark (codes ":") t ≡ false

abbrev pub NoArrow : Lexeme → Type 0
NoArrow t = is_lexeme Other (codes ">") t ≡ false

pub sort-pass : (t : Lexeme) → NoColon t → step maybe_sort t ≡ passes
sort-pass t h = ap (λ b. if b then taken (a_sort_word ∷ []) else passes) h

pub result-pass : (t : Lexeme) → NoArrow t → step maybe_result t ≡ passes
result-pass t h = ap (λ b. if b then taken (a_result ∷ []) else passes) h
