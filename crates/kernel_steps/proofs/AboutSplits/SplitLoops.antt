-- Steps of the loops that try whether a clause can be split.
use Rattle.std.proofs.Common.{◌≡◌, ℕ, zero, suc, ◌+◌, ◌<◌, ◌≤◌, Bool, true, false, ◌&&◌, List, [], ◌∷◌, ◌++◌, length, map, take, drop, get_or, Option, Some, None, append_assoc, refl, ap, ap₂, sym, ◌∙◌, arith}
use Rattle.std.specs.Prelude.{flat_map, option_map}
use Rattle.std.specs.List.{list_all}
use Rattle.std.proofs.lemmas.Simd.{map-map}
use Rattle.std.proofs.lemmas.List.{take_more, drop_more, take_all, length-map}
use Rattle.std.proofs.lemmas.List.Folds.{list_all_more}
use Rattle.std.proofs.lemmas.Option.{slice_get-map, slice_get_read}
use Rattle.plain_types.specs.declared.sequence.NameLit.{NameLit}
use Rattle.plain_types.specs.Names.{opposite}
use Rattle.fol_base.specs.Clause.{TreeLiteral, literal_variables}
use Rattle.fol_base.specs.Literal.{literal_of}
use Rattle.fol_base.specs.declared.clause.Literal.{Literal}
use Rattle.kernel_steps.specs.Parents.{Parent}
use Rattle.kernel_steps.specs.Split.{has_number, has_all_below, literals_at, share_no_variables, share_no_numbers, there_defines, are_defined, opposites}
use Rattle.kernel_steps.proofs.AboutSplits.SplitLemmas.{share_no_variables-numbers, literals_at-more, literals_at-past}

-- ---- literals at places

-- a literal that is there
pub literals_at-read :
    (xs : List Literal) (places : List ℕ) (i : ℕ) (x : Literal) (part more : List TreeLiteral)
    → i < length places → get_or places i 0 < length xs → x ≡ get_or xs (get_or places i 0) x
    → part ≡ literals_at (map literal_of xs) (take i places) → more ≡ part ++ literal_of x ∷ []
    → more ≡ literals_at (map literal_of xs) (take (i + 1) places)
literals_at-read xs places i x part more within there read so_far pushed =
    pushed
    ∙ ap (λ ls. ls ++ literal_of x ∷ []) so_far
    ∙ sym
    (ap (literals_at (map literal_of xs)) (take_more places i 0 within)
    ∙ literals_at-more (map literal_of xs) (take i places) (get_or places i 0) (literal_of x)
    (slice_get-map literal_of xs (get_or places i 0)
    ∙ ap (option_map literal_of) (slice_get_read xs (length xs) (get_or places i 0) x refl there read)))

-- or isn't
pub literals_at-missing :
    (xs : List Literal) (places : List ℕ) (i : ℕ) (part : List TreeLiteral)
    → i < length places → length xs ≤ get_or places i 0
    → part ≡ literals_at (map literal_of xs) (take i places) → part ≡ literals_at (map literal_of xs) (take (i + 1) places)
literals_at-missing xs places i part within past so_far =
    so_far
    ∙ sym
    (ap (literals_at (map literal_of xs)) (take_more places i 0 within)
    ∙ literals_at-past (map literal_of xs) (take i places) (get_or places i 0) (omega (arith, length-map xs literal_of, past)))

-- ---- opposites

-- the names of a definition that is there
pub opposites-read :
    (look : ℕ → Option Parent) (ds : List ℕ) (i : ℕ) (p : Parent) (before after : List NameLit)
    → i < length ds → look (get_or ds i 0) ≡ Some p → after ≡ before ++ map opposite p.clause.names
    → after ++ opposites (map look (drop (i + 1) ds)) ≡ before ++ opposites (map look (drop i ds))
opposites-read look ds i p before after within there pushed =
    ap (λ ns. ns ++ opposites (map look (drop (i + 1) ds))) pushed
    ∙ append_assoc before (map opposite p.clause.names) (opposites (map look (drop (i + 1) ds)))
    ∙ sym
    (ap (λ ks. before ++ opposites (map look ks)) (drop_more ds i 0 within)
    ∙ ap (λ o. before ++ opposites (o ∷ map look (drop (i + 1) ds))) there)

-- one that isn't has none
pub opposites-missing :
    (look : ℕ → Option Parent) (ds : List ℕ) (i : ℕ) (names : List NameLit)
    → i < length ds → look (get_or ds i 0) ≡ None
    → names ++ opposites (map look (drop (i + 1) ds)) ≡ names ++ opposites (map look (drop i ds))
opposites-missing look ds i names within missing =
    sym
    (ap (λ ks. names ++ opposites (map look ks)) (drop_more ds i 0 within)
    ∙ ap (λ o. names ++ opposites (o ∷ map look (drop (i + 1) ds))) missing)

-- ---- numbers below a bound

and-comm : (a b : Bool) → (a && b) ≡ (b && a)
and-comm true true = refl
and-comm true false = refl
and-comm false true = refl
and-comm false false = refl

-- a table that says of each number below a bound whether it is in a list
all_found :
    (found : List Bool) (ks : List ℕ) (n : ℕ)
    → n ≤ length found → ((k : ℕ) → k < n → get_or found k false ≡ has_number k ks)
    → list_all (λ there. there) (take n found) ≡ has_all_below n ks
all_found found ks zero within same = refl
all_found found ks (suc n) within same =
    let next : suc n ≡ n + 1 = omega arith in
    ap (λ m. list_all (λ there. there) (take m found)) next
    ∙ list_all_more (λ there. there) found n false (omega arith)
    ∙ and-comm (list_all (λ there. there) (take n found)) (get_or found n false)
    ∙ ap₂ ◌&&◌ (same n (omega arith)) (all_found found ks n (omega arith) (λ k h. same k (omega arith)))

pub all_found-whole :
    (found : List Bool) (ks : List ℕ) (n : ℕ)
    → length found ≡ n → ((k : ℕ) → k < n → get_or found k false ≡ has_number k ks)
    → list_all (λ there. there) found ≡ has_all_below n ks
all_found-whole found ks n whole same =
    ap (list_all (λ there. there)) (sym (take_all n found (omega arith))) ∙ all_found found ks n (omega arith) same

-- ---- definitions

pub are_defined-lengths :
    (os : List (Option Parent)) (lss : List (List TreeLiteral)) → (length os ≡ length lss → ⊥) → false ≡ are_defined os lss
are_defined-lengths [] [] differ = absurd (differ refl)
are_defined-lengths [] (ls ∷ lss) differ = refl
are_defined-lengths (o ∷ os) [] differ = refl
are_defined-lengths (o ∷ os) (ls ∷ lss) differ =
    and_false (there_defines o ls)
    ∙ ap (λ b. there_defines o ls && b) (are_defined-lengths os lss (λ e. differ (ap suc e)))
  where
    and_false : (b : Bool) → false ≡ (b && false)
    and_false true = refl
    and_false false = refl

-- ---- variables of parts

pub share_no_variables-read :
    (ls : List TreeLiteral) (parts : List (List ℕ)) (lists : List (List ℕ)) (i : ℕ)
    → length parts ≤ i → lists ≡ map (λ part. flat_map literal_variables (literals_at ls part)) (take i parts)
    → share_no_numbers lists ≡ share_no_variables (map (literals_at ls) parts)
share_no_variables-read ls parts lists i end so_far =
    ap share_no_numbers
    (so_far
    ∙ ap (map (λ part. flat_map literal_variables (literals_at ls part))) (take_all i parts end)
    ∙ sym (map-map (flat_map literal_variables) (literals_at ls) parts))
    ∙ sym (share_no_variables-numbers (map (literals_at ls) parts))
