-- What stands behind a part that may be shorter or longer, so that it ends there.
use Rattle.std.proofs.Common.{◌≡◌, ℕ, Bool, true, false, ◌||◌, List, [], ◌∷◌, codes, refl, ap, ◌∙◌}
use Rattle.std.specs.Prelude.{if◌then◌else◌}
use Rattle.tptp_token.specs.Lexemes.{Lexeme, is_mark, is_connective}
use Rattle.tptp_tree.specs.Causes.{Surroundings, deeper, begun}
use Rattle.tptp_reader.specs.Machine.{Symbol, maybe_arguments, more_arguments, maybe_applied, maybe_equation, maybe_connected, maybe_more_units, maybe_more_literals, takes, passes, taken, step, arguments, equation_step, is_sign_of_equation, is_binary_connective, a_term, a_unit, a_literal}
use Rattle.tptp_reader.proofs.AboutRuns.TraceLemmas.{moved_by, moved, by_move, trace}

-- the next token passes the test, and something is to come
abbrev pub Follows : (Lexeme → Type 0) → List Lexeme → List Symbol → Type 0
Follows P [] s = ⊥
Follows P (t ∷ ts) [] = ⊥
Follows P (t ∷ ts) (a ∷ s) = P t

pub weaker :
    (P Q : Lexeme → Type 0) (ts : List Lexeme) (s : List Symbol) → ((t : Lexeme) → P t → Q t) → Follows P ts s → Follows Q ts s
weaker P Q [] s h f = f
weaker P Q (t ∷ ts) [] h f = f
weaker P Q (t ∷ ts) (a ∷ s) h f = h t f

-- with one symbol more to come
pub under : (P : Lexeme → Type 0) (ts : List Lexeme) (a : Symbol) (s : List Symbol) → Follows P ts s → Follows P ts (a ∷ s)
under P [] a s f = f
under P (t ∷ ts) a [] f = absurd f
under P (t ∷ ts) a (b ∷ s) f = f

-- a symbol that may be left out is left out
pub skipped :
    (a : Symbol) (P : Lexeme → Type 0) (ts : List Lexeme) (s : List Symbol)
    → ((t : Lexeme) → P t → step a t ≡ passes) → Follows P ts s → trace ts (a ∷ s) ≡ trace ts s
skipped a P [] s h f = absurd f
skipped a P (t ∷ ts) [] h f = absurd f
skipped a P (t ∷ ts) (b ∷ s) h f =
    ap (λ x. by_move (λ next. trace ts next) (t ∷ ts) (moved_by x (b ∷ s) (moved (b ∷ s) t))) (h t f)

abbrev pub EndsTerm : Lexeme → Type 0
EndsTerm t = is_mark (codes "(") t ≡ false

pub record EndsAtom (t : Lexeme) : Type 0 where
  pub flat : is_mark (codes "(") t ≡ false
  pub alone_here : is_sign_of_equation true t ≡ false

pub record EndsClause (t : Lexeme) : Type 0 where
  pub atom : EndsAtom t
  pub no_or : is_connective (codes "|") t ≡ false

pub record EndsFormula (t : Lexeme) : Type 0 where
  pub atom : EndsAtom t
  pub no_and : is_connective (codes "&") t ≡ false
  pub no_or : is_connective (codes "|") t ≡ false
  pub no_binary : is_binary_connective t ≡ false

pub atom-term : (t : Lexeme) → EndsAtom t → EndsTerm t
atom-term t h = h.flat

pub clause-atom : (t : Lexeme) → EndsClause t → EndsAtom t
clause-atom t h = h.atom

pub formula-atom : (t : Lexeme) → EndsFormula t → EndsAtom t
formula-atom t h = h.atom

pub arguments-pass : (s : Surroundings) (t : Lexeme) → EndsTerm t → step (maybe_arguments s) t ≡ passes
arguments-pass s t h = ap (λ b. if b then takes (arguments (deeper s)) (begun s) else passes) h

one-sign : (a b : Bool) → (a || b) ≡ false → (a || false) ≡ false
one-sign true b h = h
one-sign false b h = refl

no-sign : (may_differ : Bool) (t : Lexeme) → EndsAtom t → is_sign_of_equation may_differ t ≡ false
no-sign true t h = h.alone_here
no-sign false t h = one-sign (is_connective (codes "=") t) (is_connective (codes "!=") t) h.alone_here

pub equation-pass : (may_differ : Bool) (s : Surroundings) (t : Lexeme) → EndsAtom t → step (maybe_equation may_differ s) t ≡ passes
equation-pass may_differ s t h = ap (λ b. if b then taken (a_term s ∷ []) else passes) (no-sign may_differ t h)

pub applied-pass : (may_differ : Bool) (s : Surroundings) (t : Lexeme) → EndsAtom t → step (maybe_applied may_differ s) t ≡ passes
applied-pass may_differ s t h =
    ap (λ b. if b then takes (a_term (deeper s) ∷ more_arguments (deeper s) ∷ maybe_equation may_differ s ∷ []) (begun s) else equation_step may_differ s passes t) h.flat ∙ equation-pass may_differ s t h

pub connected-pass : (s : Surroundings) (t : Lexeme) → EndsFormula t → step (maybe_connected s) t ≡ passes
connected-pass s t h =
    three (is_connective (codes "&") t) (is_connective (codes "|") t) (is_binary_connective t) h.no_and h.no_or h.no_binary
  where
    three :
        (x y z : Bool) → x ≡ false → y ≡ false → z ≡ false
        → (if x then taken (a_unit s ∷ maybe_more_units (codes "&") s ∷ [])
        else if y then taken (a_unit s ∷ maybe_more_units (codes "|") s ∷ []) else if z then taken (a_unit s ∷ []) else passes)
        ≡ passes
    three true y z h k l = absurd (cc)
    three false true z h k l = absurd (cc)
    three false false true h k l = absurd (cc)
    three false false false h k l = refl

pub units-pass : (sign : List ℕ) (s : Surroundings) (t : Lexeme) → is_connective sign t ≡ false → step (maybe_more_units sign s) t ≡ passes
units-pass sign s t h = ap (λ b. if b then taken (a_unit s ∷ maybe_more_units sign s ∷ []) else passes) h

pub literals-pass : (s : Surroundings) (t : Lexeme) → EndsClause t → step (maybe_more_literals s) t ≡ passes
literals-pass s t h = ap (λ b. if b then taken (a_literal s ∷ maybe_more_literals s ∷ []) else passes) h.no_or
