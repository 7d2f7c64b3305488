-- Languages of annotated formulas: what the reading of files asks of the entries that are no includes; the selections around
-- such entries, and the conjectures that count.
use Rattle.std.specs.Prelude.{◌≡◌, ℕ, ◌+◌, ◌==◌, Bool, false, ◌&&◌, ◌||◌, List, [], ◌∷◌, length, codes, bytes_eq, Option, None, Some, if◌then◌else◌}
use Rattle.std.specs.List.{list_any, list_all, filter}
use Rattle.tptp_token.specs.Spelling.{is_one_of}
use Rattle.tptp_token.specs.Words.{is_name, token_name}
use Rattle.tptp_token.specs.Lexemes.{Lexeme, is_lexeme, is_mark}
use Rattle.tptp_token.specs.declared.token.Kind.TheVariants.{Lower}
use Rattle.tptp_tree.specs.declared.role.Role.TheVariants.{Conjecture}
use Rattle.tptp_tree.specs.Entries.{role_word}
use Rattle.tptp_reader.specs.declared.cause.ReadCause.{ReadCause}

-- a formula, the name of its file and its place in it
pub record PlacedTree (Tree : Type 0) : Type 0 where
  pub tree : Tree
  pub file : List ℕ
  pub place : ℕ

-- A language of annotated formulas. Its causes are the reasons why one isn't read, those of a whole file among them.
pub record Language (Tree Cause : Type 0) : Type 1 where
  -- the first word of a conjecture
  pub word : List ℕ
  pub name : Tree → List ℕ
  pub is_conjecture : Tree → Bool
  -- In a file of that name and these bytes the formula stands from one token up to another.
  pub IsRead : List ℕ → List ℕ → ℕ → PlacedTree Tree → ℕ → Type 0
  -- From a token of these bytes on stands no formula, by that cause and place.
  pub IsFault : List ℕ → ℕ → Cause → ℕ → Type 0
  -- a cause of a whole file in the language
  pub cause : ReadCause → Cause

-- From a token on stands at most one formula, or a fault, and not both.
pub record IsDetermined {Tree Cause : Type 0} (language : Language Tree Cause) : Type 0 where
  pub one_formula :
      (file bytes : List ℕ) (first : ℕ) (f g : PlacedTree Tree) (m n : ℕ)
      → language.IsRead file bytes first f m → language.IsRead file bytes first g n → (f ≡ g) × (m ≡ n)
  pub one_fault :
      (bytes : List ℕ) (first : ℕ) (c d : Cause) (p q : ℕ) → language.IsFault bytes first c p → language.IsFault bytes first d q → (c ≡ d) × (p ≡ q)
  pub formula_or_fault :
      (file bytes : List ℕ) (first : ℕ) (f : PlacedTree Tree) (n : ℕ) (c : Cause) (p : ℕ)
      → language.IsRead file bytes first f n → language.IsFault bytes first c p → ⊥

-- ---- selections

-- A list of names selects those in it, and the empty list all.
abbrev pub selects : List (List ℕ) → List ℕ → Bool
selects names name = (length names == 0) || is_one_of names name

module _ {Tree Cause : Type 0} (language : Language Tree Cause) where
  -- the formulas that are selected, in their order
  abbrev pub selected : List (List ℕ) → List (PlacedTree Tree) → List (PlacedTree Tree)
  selected names formulas = filter (λ (f : PlacedTree Tree). selects names (language.name f.tree)) formulas

  abbrev pub is_named : List (PlacedTree Tree) → List ℕ → Bool
  is_named formulas name = list_any (λ (f : PlacedTree Tree). bytes_eq (language.name f.tree) name) formulas

  -- the first of the names that no formula has, by its index
  abbrev pub missing_from : ℕ → List (List ℕ) → List (PlacedTree Tree) → Option ℕ
  missing_from index [] formulas = None
  missing_from index (name ∷ names) formulas =
      if is_named formulas name then missing_from (index + 1) names formulas else Some index

  abbrev pub missing : List (List ℕ) → List (PlacedTree Tree) → Option ℕ
  missing names formulas = missing_from 0 names formulas

-- ---- conjectures

-- A conjecture counts where each selection around it selects its name.
abbrev pub counts : List (List (List ℕ)) → List ℕ → Bool
counts around name = list_all (λ names. selects names name) around

-- the name of the conjecture that the tokens begin: `fof ( NAME , conjecture`, where `fof` is the language's word
abbrev pub conjecture_begun : List ℕ → List Lexeme → Option (List ℕ)
conjecture_begun word [] = None
conjecture_begun word (a ∷ []) = None
conjecture_begun word (a ∷ b ∷ []) = None
conjecture_begun word (a ∷ b ∷ c ∷ []) = None
conjecture_begun word (a ∷ b ∷ c ∷ d ∷ []) = None
conjecture_begun word (a ∷ b ∷ c ∷ d ∷ e ∷ tokens) =
    if is_lexeme Lower word a && is_mark (codes "(") b && is_name c.kind c.bytes && is_mark (codes ",") d && is_lexeme Lower (role_word Conjecture) e
    then Some (token_name c.kind c.bytes)
    else None

-- a conjecture of that name, if there is one, counts
abbrev pub begun_counts : List (List (List ℕ)) → Option (List ℕ) → Bool
begun_counts around None = false
begun_counts around (Some name) = counts around name
