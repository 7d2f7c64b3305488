-- Links that are added one after another, and the formulas before and after them.
use Rattle.std.proofs.Common.{◌≡◌, ℕ, ◌+◌, List, [], ◌∷◌, ◌++◌, map, ap, ap₂, sym, ◌∙◌, arith}
use Rattle.std.specs.List.{range_with_len}
use Rattle.std.proofs.lemmas.List.{append_assoc}
use Rattle.std.proofs.lemmas.List.FromFn.{map-range_with_len_more}
use Rattle.tptp_tree.specs.declared.problem.Annotated.{Annotated}
use Rattle.commands.specs.BenchProblem.{first_link, link, back_link, last_link, bench_formulas}

abbrev and_one : List Annotated → Annotated → List Annotated
and_one fs a = fs ++ a ∷ []

pub links-more :
    (first old new : List Annotated) (n : ℕ) (a : Annotated)
    → old ≡ first ++ map link (range_with_len 1 n) → a ≡ link (n + 1) → new ≡ old ++ a ∷ []
    → new ≡ first ++ map link (range_with_len 1 (n + 1))
links-more first old new n a h k e =
    e ∙ ap₂ and_one h k ∙ append_assoc first (map link (range_with_len 1 n)) (link (n + 1) ∷ [])
    ∙ ap (λ (fs : List Annotated). first ++ fs) (sym (map-range_with_len_more link 1 n (n + 1) (omega arith)))

pub all-linked :
    (number : ℕ) (none p q r s : List Annotated) (first back last : Annotated)
    → none ≡ [] → p ≡ none ++ first ∷ [] → first ≡ first_link → q ≡ p ++ map link (range_with_len 1 number) → r ≡ q ++ back ∷ []
    → back ≡ back_link → s ≡ r ++ last ∷ [] → last ≡ last_link number → s ≡ bench_formulas number
all-linked number none p q r s first back last empty p_is first_is q_is r_is back_is s_is last_is =
    let begun : q ≡ first_link ∷ map link (range_with_len 1 number) =
    q_is ∙ ap (λ (fs : List Annotated). fs ++ map link (range_with_len 1 number)) (p_is ∙ ap₂ and_one empty first_is) in
    s_is ∙ ap₂ and_one (r_is ∙ ap₂ and_one begun back_is) last_is
    ∙ append_assoc (first_link ∷ map link (range_with_len 1 number)) (back_link ∷ []) (last_link number ∷ [])
