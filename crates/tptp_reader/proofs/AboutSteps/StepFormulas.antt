-- Each step of the machine on formulas and clauses is right.
use Rattle.std.proofs.Common.{◌≡◌, ◌⊎◌, inl, inr, ℕ, true, false, ◌||◌, List, [], ◌∷◌, codes, refl, ap, ap₂, ◌∙◌}
use Rattle.tptp_token.specs.Lexemes.{Lexeme, lexeme, is_mark, is_connective}
use Rattle.tptp_token.specs.declared.token.Kind.{Kind}
use Rattle.tptp_token.specs.declared.token.Kind.TheVariants.{Lower, Variable, Quoted, Distinct, Dollar, Number, Connective, Mark, Other}
use Rattle.tptp_tree.specs.Formula.{Quantifier, for_all, exists_some}
use Rattle.tptp_tree.specs.Spelling.{atom_lexemes, UnitPhrase, negated, bound, in_brackets, atomic, UnitPhrases, no_units, unit_then, Phrase, quantifier_lexeme, more_variables_lexemes, variables_lexemes, unit_lexemes, units_lexemes, phrase_lexemes}
use Rattle.tptp_tree.specs.Entries.{atom_of, positive_literal, negated_literal, negated_in_brackets, literals, clause_in_brackets, literal_lexemes, more_literals_lexemes, clause_lexemes}
use Rattle.tptp_tree.specs.Causes.{Surroundings, deeper, binding, begun, syntax}
use Rattle.tptp_reader.specs.Machine.{Symbol, mark, an_atom, a_unit, maybe_connected, maybe_more_units, variables_bracket, next_variable, more_variables, a_clause, a_literal, a_plain_literal, maybe_more_literals, Step, takes, passes, stops, taken, followed_by, step, atom_step, unit_step, connected_step, variable_step, literal_step, is_binary_connective}
use Rattle.tptp_reader.proofs.AboutTexts.Spelled.{with_end, with_end-lexemes, ended, and_all, or_some, and_joined, colon_and, SpellAll, IsStepOf, all-split}
use Rattle.tptp_reader.proofs.AboutTexts.TokenTests.{choose, mark-same, connective-same, binary-same}
use Rattle.tptp_reader.proofs.AboutSteps.StepTerms.{atom-right, mapped}
use Rattle.list_lemmas.proofs.Bools.{or-either}

-- ---- units

quantifier-same :
    (t : Lexeme) → (is_connective (codes "!") t ≡ true) ⊎ (is_connective (codes "?") t ≡ true) → (q : Quantifier) × (t ≡ quantifier_lexeme q)
quantifier-same t (inl e) = (for_all, connective-same (codes "!") t e)
quantifier-same t (inr e) = (exists_some, connective-same (codes "?") t e)

bound-unit :
    (s : Surroundings) (t : Lexeme) (q : Quantifier) → t ≡ quantifier_lexeme q → (ts rest : List Lexeme)
    → SpellAll (variables_bracket s ∷ []) ts rest → (u : UnitPhrase) × (t ∷ ts ≡ unit_lexemes u rest)
bound-unit s t q e ts rest h = (
  bound q h.1.0 h.1.1,
  ap₂ (λ x xs. x ∷ xs) e
      (h.1.2 ∙ ap (λ xs. lexeme Mark (codes "[") ∷ variables_lexemes h.1.0 (colon_and (unit_lexemes h.1.1 xs))) h.2),
)

-- a unit and what is connected with it is a formula
pub formula-of :
    (s : Surroundings) (more : List Symbol) (ts rest : List Lexeme) → SpellAll (a_unit s ∷ maybe_connected s ∷ more) ts rest
    → (p : Phrase) × (between : List Lexeme) × (ts ≡ phrase_lexemes p between) × SpellAll more between rest
formula-of s more ts rest h =
    (with_end h.1.0 h.2.1.0, h.2.0, h.1.1 ∙ ap (unit_lexemes h.1.0) h.2.1.1 ∙ with_end-lexemes h.1.0 h.2.1.0 h.2.0, h.2.2)

-- a formula up to its closing bracket
bracketed-unit :
    (s : Surroundings) (t : Lexeme) → t ≡ lexeme Mark (codes "(") → (ts rest : List Lexeme)
    → SpellAll (a_unit s ∷ maybe_connected s ∷ mark (codes ")") ∷ []) ts rest → (u : UnitPhrase) × (t ∷ ts ≡ unit_lexemes u rest)
bracketed-unit s t e ts rest h =
    let f = formula-of s (mark (codes ")") ∷ []) ts rest h in
    (in_brackets f.0, ap₂ (λ x xs. x ∷ xs) e (f.2 ∙ ap (phrase_lexemes f.0) (f.3.1 ∙ ap (λ xs. lexeme Mark (codes ")") ∷ xs) f.3.2)))

pub unit-right : (s : Surroundings) (t : Lexeme) → IsStepOf (a_unit s) t (unit_step s t)
unit-right s t =
    choose (IsStepOf (a_unit s) t) (is_connective (codes "~") t) (takes (a_unit (deeper s) ∷ []) (begun s)) _
    (λ e ts rest h. (negated h.1.0, ap₂ (λ x xs. x ∷ xs) (connective-same (codes "~") t e) (h.1.1 ∙ ap (unit_lexemes h.1.0) h.2)))
    (λ e. choose (IsStepOf (a_unit s) t) (is_connective (codes "!") t || is_connective (codes "?") t) (takes (variables_bracket (deeper s) ∷ []) (begun s)) _
    (λ f ts rest h. let q = quantifier-same t (or-either (is_connective (codes "!") t) (is_connective (codes "?") t) f) in bound-unit (deeper s) t q.0 q.1 ts rest h)
    (λ f. choose (IsStepOf (a_unit s) t) (is_mark (codes "(") t) (takes (a_unit (deeper s) ∷ maybe_connected (deeper s) ∷ mark (codes ")") ∷ []) (begun s)) (atom_step true s t.kind t.bytes)
    (λ g ts rest h. bracketed-unit (deeper s) t (mark-same (codes "(") t g) ts rest h)
    (λ g. mapped (an_atom true s) (a_unit s) t (atom_step true s t.kind t.bytes) (λ ts rest h. (atomic h.0, h.1)) (atom-right true s t.kind t.bytes))))

-- an operand and those behind it
two-units :
    (sign : List ℕ) (s : Surroundings) (ts rest : List Lexeme) → SpellAll (a_unit s ∷ maybe_more_units sign s ∷ []) ts rest
    → (u : UnitPhrase) × (us : UnitPhrases) × (ts ≡ unit_lexemes u (units_lexemes (lexeme Connective sign) us rest))
two-units sign s ts rest h =
    (h.1.0, h.2.1.0, h.1.1 ∙ ap (unit_lexemes h.1.0) (h.2.1.1 ∙ ap (units_lexemes (lexeme Connective sign) h.2.1.0) h.2.2))

pub connected-right : (s : Surroundings) (t : Lexeme) → IsStepOf (maybe_connected s) t (connected_step s t)
connected-right s t =
    choose (IsStepOf (maybe_connected s) t) (is_connective (codes "&") t) (taken (a_unit s ∷ maybe_more_units (codes "&") s ∷ [])) _
    (λ e ts rest h. let m = two-units (codes "&") s ts rest h in (and_all m.0 m.1, ap₂ (λ x xs. x ∷ xs) (connective-same (codes "&") t e) m.2))
    (λ e. choose (IsStepOf (maybe_connected s) t) (is_connective (codes "|") t) (taken (a_unit s ∷ maybe_more_units (codes "|") s ∷ [])) _
    (λ f ts rest h. let m = two-units (codes "|") s ts rest h in (or_some m.0 m.1, ap₂ (λ x xs. x ∷ xs) (connective-same (codes "|") t f) m.2))
    (λ f. choose (IsStepOf (maybe_connected s) t) (is_binary_connective t) (taken (a_unit s ∷ [])) passes
    (λ g ts rest h. let c = binary-same t g in (and_joined c.0 h.1.0, ap₂ (λ x xs. x ∷ xs) c.1 (h.1.1 ∙ ap (unit_lexemes h.1.0) h.2)))
    (λ g ts. (ended, refl))))

pub units-right : (sign : List ℕ) (s : Surroundings) (t : Lexeme) → IsStepOf (maybe_more_units sign s) t (step (maybe_more_units sign s) t)
units-right sign s t =
    choose (IsStepOf (maybe_more_units sign s) t) (is_connective sign t) (taken (a_unit s ∷ maybe_more_units sign s ∷ [])) passes
    (λ e ts rest h. let m = two-units sign s ts rest h in (unit_then m.0 m.1, ap₂ (λ x xs. x ∷ xs) (connective-same sign t e) m.2))
    (λ e ts. (no_units, refl))

-- ---- variables

pub bracket-right : (s : Surroundings) (t : Lexeme) → IsStepOf (variables_bracket s) t (step (variables_bracket s) t)
bracket-right s t =
    choose (IsStepOf (variables_bracket s) t) (is_mark (codes "[") t) (takes (next_variable [] s ∷ []) (begun s)) (stops syntax)
    (λ e ts rest h. (
      h.1.0,
      h.1.1,
      ap₂ (λ x xs. x ∷ xs) (mark-same (codes "[") t e) (h.1.2 ∙ ap (λ xs. variables_lexemes h.1.0 (colon_and (unit_lexemes h.1.1 xs))) h.2),
    ))
    (λ e. tt)

pub variable-right : (xs : List (List ℕ)) (s : Surroundings) (k : Kind) (bytes : List ℕ) → IsStepOf (next_variable xs s) (lexeme k bytes) (variable_step xs s k bytes)
variable-right xs s Variable bytes =
    λ ts rest h. (
      record { first = bytes; others = h.1.0 },
      h.1.1,
      ap (λ ys. lexeme Variable bytes ∷ ys) (h.1.2 ∙ ap (λ ys. more_variables_lexemes h.1.0 (colon_and (unit_lexemes h.1.1 ys))) h.2),
    )
variable-right xs s Lower bytes = tt
variable-right xs s Quoted bytes = tt
variable-right xs s Distinct bytes = tt
variable-right xs s Dollar bytes = tt
variable-right xs s Number bytes = tt
variable-right xs s Connective bytes = tt
variable-right xs s Mark bytes = tt
variable-right xs s Other bytes = tt

pub more_variables-right : (xs : List (List ℕ)) (s : Surroundings) (t : Lexeme) → IsStepOf (more_variables xs s) t (step (more_variables xs s) t)
more_variables-right xs s t =
    choose (IsStepOf (more_variables xs s) t) (is_mark (codes ",") t) (taken (next_variable xs s ∷ [])) _
    (λ e ts rest h. (
      h.1.0.first ∷ h.1.0.others,
      h.1.1,
      ap₂ (λ x ys. x ∷ ys) (mark-same (codes ",") t e) (h.1.2 ∙ ap (λ ys. variables_lexemes h.1.0 (colon_and (unit_lexemes h.1.1 ys))) h.2),
    ))
    (λ e. choose (IsStepOf (more_variables xs s) t) (is_mark (codes "]") t) (taken (mark (codes ":") ∷ a_unit (binding xs s) ∷ [])) (stops syntax)
    (λ f ts rest h. (
      [],
      h.2.1.0,
      ap₂ (λ x ys. x ∷ ys) (mark-same (codes "]") t f) (h.1 ∙ ap (λ ys. lexeme Mark (codes ":") ∷ ys) (h.2.1.1 ∙ ap (unit_lexemes h.2.1.0) h.2.2)),
    ))
    (λ f. tt))

-- ---- literals and clauses

pub literal-right : (s : Surroundings) (t : Lexeme) → IsStepOf (a_literal s) t (literal_step s t)
literal-right s t =
    choose (IsStepOf (a_literal s) t) (is_connective (codes "~") t) (takes (a_plain_literal (deeper s) ∷ []) (begun s)) (atom_step true s t.kind t.bytes)
    (λ e ts rest h. (h.1.0, ap (λ x. x ∷ ts) (connective-same (codes "~") t e) ∙ h.1.1 ∙ ap (literal_lexemes h.1.0) h.2))
    (λ e. mapped (an_atom true s) (a_literal s) t (atom_step true s t.kind t.bytes) (λ ts rest h. (positive_literal h.0, h.1)) (atom-right true s t.kind t.bytes))

pub plain-right : (s : Surroundings) (t : Lexeme) → IsStepOf (a_plain_literal s) t (step (a_plain_literal s) t)
plain-right s t =
    choose (IsStepOf (a_plain_literal s) t) (is_mark (codes "(") t) (takes (an_atom false (deeper s) ∷ mark (codes ")") ∷ []) (begun s)) (atom_step false s t.kind t.bytes)
    (λ e ts rest h. (
      negated_in_brackets h.1.0,
      ap (λ xs. lexeme Connective (codes "~") ∷ xs)
          (ap₂ (λ x xs. x ∷ xs) (mark-same (codes "(") t e)
          (h.1.1 ∙ ap (atom_lexemes (atom_of h.1.0)) (h.2.1 ∙ ap (λ xs. lexeme Mark (codes ")") ∷ xs) h.2.2))),
    ))
    (λ e. mapped (an_atom false s) (a_plain_literal s) t (atom_step false s t.kind t.bytes)
    (λ ts rest h. (negated_literal h.0, ap (λ xs. lexeme Connective (codes "~") ∷ xs) h.1)) (atom-right false s t.kind t.bytes))

pub literals-right : (s : Surroundings) (t : Lexeme) → IsStepOf (maybe_more_literals s) t (step (maybe_more_literals s) t)
literals-right s t =
    choose (IsStepOf (maybe_more_literals s) t) (is_connective (codes "|") t) (taken (a_literal s ∷ maybe_more_literals s ∷ [])) passes
    (λ e ts rest h. (
      h.1.0 ∷ h.2.1.0,
      ap₂ (λ x xs. x ∷ xs) (connective-same (codes "|") t e) (h.1.1 ∙ ap (literal_lexemes h.1.0) (h.2.1.1 ∙ ap (more_literals_lexemes h.2.1.0) h.2.2)),
    ))
    (λ e ts. ([], refl))

-- a literal and those behind it are a clause
literal-clause : (s : Surroundings) (t : Lexeme) (x : Step) → IsStepOf (a_literal s) t x → IsStepOf (a_clause s) t (followed_by (maybe_more_literals s ∷ []) x)
literal-clause s t (takes new cause) h = λ ts rest g.
    let parts = all-split new (maybe_more_literals s ∷ []) ts rest g in
    let first = h ts parts.0 parts.1 in
    (literals first.0 parts.2.1.0, first.1 ∙ ap (literal_lexemes first.0) (parts.2.1.1 ∙ ap (more_literals_lexemes parts.2.1.0) parts.2.2))
literal-clause s t passes h = λ ts. let first = h ts in (literals first.0 [], first.1)
literal-clause s t (stops refusal) h = tt

pub clause-right : (s : Surroundings) (t : Lexeme) → IsStepOf (a_clause s) t (step (a_clause s) t)
clause-right s t =
    choose (IsStepOf (a_clause s) t) (is_mark (codes "(") t) (takes (a_clause (deeper s) ∷ mark (codes ")") ∷ []) (begun s)) (followed_by (maybe_more_literals s ∷ []) (literal_step s t))
    (λ e ts rest h. (
      clause_in_brackets h.1.0,
      ap₂ (λ x xs. x ∷ xs) (mark-same (codes "(") t e) (h.1.1 ∙ ap (clause_lexemes h.1.0) (h.2.1 ∙ ap (λ xs. lexeme Mark (codes ")") ∷ xs) h.2.2)),
    ))
    (λ e. literal-clause s t (literal_step s t) (literal-right s t))
