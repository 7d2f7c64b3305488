-- Sides, names and numbers among the items of an inference.
use Rattle.std.proofs.Common.{◌≡◌, ◌<◌, ◌≤◌, ◌+◌, ◌-◌, ◌*◌, ◌^◌, ℕ, true, List, [], ◌∷◌, ◌++◌, drop, length, get_or, None, Some, Option, refl, ap, ◌∙◌, arith}
use Rattle.std.proofs.lemmas.List.{at_drop_more}
use Rattle.std.proofs.lemmas.Bool.{le-ltb, lt-ltb}
use Rattle.tptp_source.specs.declared.items.SideName.{SideName}
use Rattle.tptp_source.specs.General.{GeneralTree, trees_of}
use Rattle.tptp_source.specs.Items.{SignedName, side_by, positive_by, is_decimal, value_behind, below_word, decimal_in}

pub no_side : (f : List ℕ) (ts : List GeneralTree) → (ts ≡ [] → ⊥) → (let o : Option SideName = None in o) ≡ side_by f (trees_of ts)
no_side f [] h = absurd (h refl)
no_side f (t ∷ ts) h = refl

pub no_signed_name : (f : List ℕ) (ts : List GeneralTree) → (ts ≡ [] → ⊥) → (let o : Option SignedName = None in o) ≡ positive_by f (trees_of ts)
no_signed_name f [] h = absurd (h refl)
no_signed_name f (t ∷ ts) h = refl

-- ---- numbers

grows : (n : ℕ) (ds : List ℕ) → n ≤ value_behind n ds
grows n [] = omega arith
grows n (d ∷ ds) = omega (arith, grows (n * 10 + (d - 48)) ds)

below-none : (n : ℕ) → 2 ^ 64 ≤ n → (let o : Option ℕ = None in o) ≡ below_word n
below-none n h = rw (le-ltb n (2 ^ 64) h) refl

pub too-large :
    (ds : List ℕ) (i value : ℕ)
    → is_decimal ds ≡ true → value_behind 0 ds ≡ value_behind value (drop i ds) → i < length ds
    → 2 ^ 64 ≤ value * 10 + (get_or ds i 0 - 48) → (let o : Option ℕ = None in o) ≡ decimal_in ds
too-large ds i value h e low big =
    let next : ℕ = value * 10 + (get_or ds i 0 - 48) in
    let same : value_behind 0 ds ≡ value_behind next (drop (i + 1) ds) = e ∙ at_drop_more (value_behind value) ds i 0 low in
    let n = below-none (value_behind 0 ds) (omega (arith, same, grows next (drop (i + 1) ds), big)) in
    rw h n

pub whole-value :
    (ds : List ℕ) (i value : ℕ)
    → is_decimal ds ≡ true → value_behind 0 ds ≡ value_behind value (drop i ds) → drop i ds ≡ [] → value < 2 ^ 64
    → Some value ≡ decimal_in ds
whole-value ds i value h e f low =
    let same : value_behind 0 ds ≡ value = e ∙ ap (value_behind value) f in
    rw (h, same, lt-ltb value (2 ^ 64) low) refl

-- ---- numbers of a list

abbrev pub joined_numbers : Option (List ℕ) → Option (List ℕ) → Option (List ℕ)
joined_numbers None ns = None
joined_numbers (Some ms) None = None
joined_numbers (Some ms) (Some ns) = Some (ms ++ ns)
