-- Places in a tree, as lists of argument numbers from 0.
use Rattle.std.specs.Prelude.{ℕ, Option, None, Some, List, [], ◌∷◌, slice_get, slice_set, option_and_then, option_map}
use Rattle.fol_base.specs.Tree.{Tree, variable, application, list_of, trees_of}

-- the argument number i of a tree, from 0; none where it has no such argument
abbrev pub argument : ℕ → Tree → Option Tree
argument i (variable v) = None
argument i (application f ts) = slice_get (list_of ts) i

-- the tree with its argument number i replaced
abbrev pub with_argument : ℕ → Tree → Tree → Tree
with_argument i new (variable v) = variable v
with_argument i new (application f ts) = application f (trees_of (slice_set (list_of ts) i new))

-- the subterm at a place; none where the tree has no such place
abbrev pub subterm : List ℕ → Tree → Option Tree
subterm [] t = Some t
subterm (i ∷ place) t = option_and_then (subterm place) (argument i t)

-- the tree with the subterm at a place replaced; none where the tree has no such place
abbrev pub replaced : List ℕ → Tree → Tree → Option Tree
replaced [] new t = Some new
replaced (i ∷ place) new t =
    option_and_then (λ a. option_map (λ b. with_argument i b t) (replaced place new a)) (argument i t)
