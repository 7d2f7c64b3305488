-- The items of a line, read from the general terms in its list of items: numbers, sides, places, terms, parts and signed names.
use Rattle.std.specs.Prelude.{ℕ, Bool, true, false, ◌&&◌, List, [], ◌∷◌, map, filter, codes, Option, None, Some, option_map, option_and_then, bytes_eq, if◌then◌else◌}
use Rattle.std.specs.List.{list_any}
use Rattle.plain_types.specs.declared.sequence.NameLit.{NameLit}
use Rattle.plain_types.specs.Names.{signed}
use Rattle.tptp_tree.specs.Term.{TermTree}
use Rattle.fol_base.specs.declared.clause.Side.{Side}
use Rattle.fol_base.specs.declared.clause.Side.TheVariants.{Left, Right}
use Rattle.kernel_steps.specs.Parents.{all_there}
use Rattle.tptp_source.specs.General.{GeneralTree, word, no_trees, list_of_trees}
use Rattle.tptp_source.specs.TermSources.{items_in}
use Rattle.tptp_source.specs.Items.{side_in, signed_name_in, all_numbers, term_in}
use Rattle.tptp_source.specs.declared.items.SideName.{SideName}
use Rattle.tptp_source.specs.declared.items.SideName.TheVariants.{Left as LeftName, Right as RightName}
use Rattle.clausal_form.specs.DerivationClause.{name_number}

-- ---- words

-- the arguments of an item: of `from(0,left)` they are `0` and `left`; a word without brackets has none
abbrev pub arguments : GeneralTree → List GeneralTree
arguments (word w ts) = list_of_trees ts
arguments t = []

-- whether an item is this word, with or without arguments: `from(0,left)` has the word `from`
abbrev pub has_word : List ℕ → GeneralTree → Bool
has_word w (word v ts) = bytes_eq w v
has_word w t = false

-- the word that an item is, if it has no arguments
abbrev pub plain_word : GeneralTree → Option (List ℕ)
plain_word (word w no_trees) = Some w
plain_word t = None

-- whether an item is this word, without arguments
abbrev pub is_plain : List ℕ → GeneralTree → Bool
is_plain w (word v no_trees) = bytes_eq w v
is_plain w t = false

-- ---- sides, places, parts, names and terms

-- the side of an equation by its name, `left` or `right`
abbrev pub side_named : SideName → Side
side_named LeftName = Left
side_named RightName = Right

-- the side of an equation that an item names, if it names one
abbrev pub side_of : GeneralTree → Option Side
side_of t = option_map side_named (side_in t)

-- the values of the items of a list in square brackets, if each item has one
abbrev pub list_in : {X : Type 0} → (GeneralTree → Option X) → GeneralTree → Option (List X)
list_in item t = option_and_then (λ ts. all_there (map item ts)) (items_in t)

-- the numbers of a list, `[1,0]`
abbrev pub numbers_in : GeneralTree → Option (List ℕ)
numbers_in t = option_and_then all_numbers (items_in t)

-- an introduced name with its sign, as it is written in a clause
abbrev pub introduced_in : List (List ℕ) → GeneralTree → Option NameLit
introduced_in names t = option_and_then (λ n. option_map (signed n.0) (name_number names n.1)) (signed_name_in t)

-- ---- the items of a row

-- the member of a list that has no other
abbrev pub only_one : {X : Type 0} → List X → Option X
only_one (x ∷ []) = Some x
only_one xs = None

-- the items with one of these words, in their order
abbrev pub items_with : List (List ℕ) → List GeneralTree → List GeneralTree
items_with words items = filter (λ t. list_any (λ w. has_word w t) words) items

-- whether a list of items is one word alone, without arguments
abbrev pub is_one_word : List ℕ → List GeneralTree → Bool
is_one_word w (t ∷ []) = is_plain w t
is_one_word w ts = false

-- whether the first item of all is `status` with that word, as `status(thm)`
abbrev pub has_status : List ℕ → List GeneralTree → Bool
has_status status [] = false
has_status status (t ∷ ts) = has_word (codes "status") t && is_one_word status (arguments t)

-- whether items have these words, in order, and there is no further item
abbrev pub have_words : List (List ℕ) → List GeneralTree → Bool
have_words [] [] = true
have_words [] (t ∷ ts) = false
have_words (w ∷ ws) [] = false
have_words (w ∷ ws) (t ∷ ts) = has_word w t && have_words ws ts

-- The arguments of a row's items after `status`. The first item of all has to be the row's status, and the items with words of the
-- row have to be the row's, in order. Items with other words are ignored.
abbrev pub row_arguments : List ℕ → List (List ℕ) → List GeneralTree → Option (List (List GeneralTree))
row_arguments status words items =
    if has_status status items && have_words (codes "status" ∷ words) (items_with (codes "status" ∷ words) items)
    then Some (map arguments (items_with words items))
    else None

-- the terms of each `bind` item, in order: `bind([X,f(a)])` has `X` and `f(a)`; none if its argument is no list of terms
abbrev pub bindings_in : List GeneralTree → List (Option (List TermTree))
bindings_in items = map (λ t. option_and_then (list_in term_in) (only_one (arguments t))) (items_with (codes "bind" ∷ []) items)
