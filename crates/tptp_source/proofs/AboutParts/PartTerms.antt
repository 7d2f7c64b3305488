-- What a general term has in it.
use Rattle.std.proofs.Common.{append-nil, append_assoc, ◌≡◌, ℕ, List, [], ◌∷◌, ◌++◌, None, Some, Option, refl, sym, ap, ap₂, ◌∙◌}
use Rattle.tptp_source.specs.General.{GeneralTree, GeneralTrees, no_trees, tree_then, trees_of, list_of_trees}
use Rattle.tptp_source.specs.Sources.{bare_name, name_in, name_before, names_in}

pub list-trees : (ts : List GeneralTree) → list_of_trees (trees_of ts) ≡ ts
list-trees [] = refl
list-trees (t ∷ ts) = ap (λ us. t ∷ us) (list-trees ts)

pub trees-list : (ts : GeneralTrees) → trees_of (list_of_trees ts) ≡ ts
trees-list no_trees = refl
trees-list (tree_then t ts) = ap (tree_then t) (trees-list ts)

pub no_bare_name : (f : List ℕ) (ts : List GeneralTree) → (ts ≡ [] → ⊥) → (let o : Option (List ℕ) = None in o) ≡ bare_name f (trees_of ts)
no_bare_name f [] h = absurd (h refl)
no_bare_name f (t ∷ ts) h = refl

abbrev pub joined_names : Option (List (List ℕ)) → Option (List (List ℕ)) → Option (List (List ℕ))
joined_names None ns = None
joined_names (Some ms) None = None
joined_names (Some ms) (Some ns) = Some (ms ++ ns)

joined-more :
    (ns : List (List ℕ)) (n : List ℕ) (ms : Option (List (List ℕ))) → joined_names (Some ns) (name_before (Some n) ms) ≡ joined_names (Some (ns ++ n ∷ [])) ms
joined-more ns n None = refl
joined-more ns n (Some ms) = ap (λ us. Some us) (sym (append_assoc ns (n ∷ []) ms))

joined-nil : (ns : Option (List (List ℕ))) → ns ≡ joined_names (Some []) ns
joined-nil None = refl
joined-nil (Some ns) = refl

-- one more name
pub names-more :
    (ts us vs : List GeneralTree) (t : GeneralTree) (ns more : List (List ℕ)) (n : List ℕ)
    → names_in ts ≡ joined_names (Some ns) (names_in us) → us ≡ t ∷ vs → Some n ≡ name_in t → more ≡ ns ++ n ∷ []
    → names_in ts ≡ joined_names (Some more) (names_in vs)
names-more ts us vs t ns more n e h f g =
    e ∙ ap (λ o. joined_names (Some ns) (names_in o)) h
    ∙ ap (λ o. joined_names (Some ns) (name_before o (names_in vs))) (sym f) ∙ joined-more ns n (names_in vs)
    ∙ ap (λ us. joined_names (Some us) (names_in vs)) (sym g)

-- a term that is no name
pub names-none :
    (ts us vs : List GeneralTree) (t : GeneralTree) (ns : List (List ℕ))
    → names_in ts ≡ joined_names (Some ns) (names_in us) → us ≡ t ∷ vs → None ≡ name_in t
    → (let o : Option (List (List ℕ)) = None in o) ≡ names_in ts
names-none ts us vs t ns e h f =
    sym (e ∙ ap (λ o. joined_names (Some ns) (names_in o)) h
    ∙ ap (λ o. joined_names (Some ns) (name_before o (names_in vs))) (sym f))

-- all names
pub names-all :
    (ts us : List GeneralTree) (ns : List (List ℕ))
    → names_in ts ≡ joined_names (Some ns) (names_in us) → us ≡ [] → Some ns ≡ names_in ts
names-all ts us ns e h = sym (e ∙ ap (λ o. joined_names (Some ns) (names_in o)) h ∙ ap (λ us. Some us) (append-nil ns))

pub names-first :
    (ts us : List GeneralTree) (ns : List (List ℕ)) → ns ≡ [] → us ≡ ts → names_in ts ≡ joined_names (Some ns) (names_in us)
names-first ts us ns e h =
    joined-nil (names_in ts) ∙ ap₂ (λ xs ys. joined_names (Some xs) (names_in ys)) (sym e) (sym h)
