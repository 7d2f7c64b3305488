-- The items of an inference, read from general terms: terms of formulas, numbers, sides and signed names.
use Rattle.std.specs.Prelude.{ℕ, ◌+◌, ◌-◌, ◌*◌, ◌^◌, Bool, true, false, not, ◌&&◌, ◌==◌, nat_lt, List, [], ◌∷◌, codes, bytes_eq, Option, None, Some, if◌then◌else◌}
use Rattle.std.specs.Option.{option_map}
use Rattle.std.specs.List.{list_all}
use Rattle.tptp_token.specs.Spelling.{is_digit}
use Rattle.tptp_tree.specs.Term.{TermTree, variable as variable_term, application, TermTrees, no_terms, term_then}
use Rattle.tptp_source.specs.declared.sign.NumberSign.{NumberSign}
use Rattle.tptp_source.specs.declared.sign.NumberSign.TheVariants.{Unsigned, Plus, Minus}
use Rattle.tptp_source.specs.declared.items.SideName.{SideName}
use Rattle.tptp_source.specs.declared.items.SideName.TheVariants.{Left, Right}
use Rattle.tptp_source.specs.General.{GeneralTree, variable, word, dollar, number, distinct, negated, listed, joined, GeneralTrees, no_trees, tree_then}

-- ---- sides

-- the side that a word names, if it has no arguments
abbrev pub side_by : List ℕ → GeneralTrees → Option SideName
side_by f no_trees =
    if bytes_eq f (codes "left") then Some Left else (if bytes_eq f (codes "right") then Some Right else None)
side_by f (tree_then t ts) = None

-- the side that a general term names: the word `left` or the word `right`
abbrev pub side_in : GeneralTree → Option SideName
side_in (variable x) = None
side_in (word f ts) = side_by f ts
side_in (dollar d ts) = None
side_in (number sign n) = None
side_in (distinct d) = None
side_in (negated f) = None
side_in (listed ts) = None
side_in (joined ts) = None

-- ---- signed names

-- a name, and whether it stands without `~`
abbrev pub SignedName : Type 0
SignedName = Bool × List ℕ

-- the name that a word is, with positive sign, if it has no arguments
abbrev pub positive_by : List ℕ → GeneralTrees → Option SignedName
positive_by f no_trees = Some (true, f)
positive_by f (tree_then t ts) = None

-- the signed name that a general term is: a word without arguments, as `spl0`, or one after `~`, as `~spl0`
abbrev pub signed_name_in : GeneralTree → Option SignedName
signed_name_in (variable x) = None
signed_name_in (word f ts) = positive_by f ts
signed_name_in (dollar d ts) = None
signed_name_in (number sign n) = None
signed_name_in (distinct d) = None
signed_name_in (negated f) = Some (false, f)
signed_name_in (listed ts) = None
signed_name_in (joined ts) = None

-- ---- numbers

-- decimal digits without a leading zero
abbrev pub is_decimal : List ℕ → Bool
is_decimal [] = false
is_decimal (d ∷ []) = is_digit d
is_decimal (d ∷ e ∷ es) = not (d == 48) && list_all is_digit (d ∷ e ∷ es)

-- the value of a numeral whose first digits have the value `value` and whose other digits are these
abbrev pub value_behind : ℕ → List ℕ → ℕ
value_behind value [] = value
value_behind value (d ∷ ds) = value_behind (value * 10 + (d - 48)) ds

-- a number, if it fits 64 bits
abbrev pub below_word : ℕ → Option ℕ
below_word n = if nat_lt n (2 ^ 64) then Some n else None

-- the number that a numeral spells, if it is decimal and below 2 ^ 64
abbrev pub decimal_in : List ℕ → Option ℕ
decimal_in ds = if is_decimal ds then below_word (value_behind 0 ds) else None

-- the number that a numeral spells, if it has no sign
abbrev pub unsigned_by : NumberSign → List ℕ → Option ℕ
unsigned_by Unsigned n = decimal_in n
unsigned_by Plus n = None
unsigned_by Minus n = None

-- the number that a general term is: an unsigned decimal numeral below 2 ^ 64, as `17`
abbrev pub number_in : GeneralTree → Option ℕ
number_in (variable x) = None
number_in (word f ts) = None
number_in (dollar d ts) = None
number_in (number sign n) = unsigned_by sign n
number_in (distinct d) = None
number_in (negated f) = None
number_in (listed ts) = None
number_in (joined ts) = None

-- A number in front of a list of numbers. There is none if the number or the list is missing.
abbrev pub number_before : Option ℕ → Option (List ℕ) → Option (List ℕ)
number_before None ns = None
number_before (Some n) None = None
number_before (Some n) (Some ns) = Some (n ∷ ns)

-- the numbers that general terms are, if each of them is one
abbrev pub all_numbers : List GeneralTree → Option (List ℕ)
all_numbers [] = Some []
all_numbers (t ∷ ts) = number_before (number_in t) (all_numbers ts)

-- ---- terms of formulas

-- A term in front of a list of terms. There is none if the term or the list is missing.
abbrev pub term_before : Option TermTree → Option TermTrees → Option TermTrees
term_before None ts = None
term_before (Some t) None = None
term_before (Some t) (Some ts) = Some (term_then t ts)

-- The term of a formula that a general term is: a variable, or a word with such terms as arguments, as `f(X,a)`.
abbrev mutual
  pub term_in : GeneralTree → Option TermTree
  term_in (variable x) = Some (variable_term x)
  term_in (word f ts) = option_map (application f) (terms_in ts)
  term_in (dollar d ts) = None
  term_in (number sign n) = None
  term_in (distinct d) = None
  term_in (negated f) = None
  term_in (listed ts) = None
  term_in (joined ts) = None

  pub terms_in : GeneralTrees → Option TermTrees
  terms_in no_trees = Some no_terms
  terms_in (tree_then t ts) = term_before (term_in t) (terms_in ts)
