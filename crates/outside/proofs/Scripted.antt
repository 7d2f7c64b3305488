-- What no delivery does at a sink that is given its answers.
use Rattle.std.proofs.Common.{◌≡◌, ℕ, List, [], ◌∷◌, ◌++◌, ap, refl, sym, ◌∙◌, ◌⊎◌, inl, inr}
use Rattle.std.specs.Prelude.{Result}
use Rattle.std.proofs.lemmas.List.{append_assoc, append-nil}
use Rattle.outside.specs.Examples.{Script, script_gives}
use Rattle.outside.specs.Sink.{Delivers, none_left, takes, fails}
use Rattle.outside.specs.declared.fault.SinkFault.{SinkFault}

-- what was handed over before stays
pub still_handed :
    {before after : Script} {text : List ℕ} {result : Result (Unit {0}) SinkFault}
    → Delivers script_gives before text result after → (later : List (List ℕ)) × (after.handed ≡ before.handed ++ later)
still_handed {before} none_left = ([], sym (append-nil before.handed))
still_handed {before} {after} (takes {left = left} some given delivers) =
    let rest = still_handed delivers in
    (left ∷ [] ++ rest.0, rest.1 ∙ ap (λ xs. xs ++ rest.0) given.1 ∙ append_assoc before.handed (left ∷ []) rest.0)
still_handed {before} {after} (fails {left = left} some given) = (left ∷ [], given.1)

-- the first write is handed the whole text
pub first_handed :
    {before after : Script} {text : List ℕ} {result : Result (Unit {0}) SinkFault}
    → Delivers script_gives before text result after → (text ≡ []) ⊎ ((later : List (List ℕ)) × (after.handed ≡ before.handed ++ text ∷ later))
first_handed none_left = inl refl
first_handed {before} {after} (takes {left = left} some given delivers) =
    let rest = still_handed delivers in
    inr (rest.0, rest.1 ∙ ap (λ xs. xs ++ rest.0) given.1 ∙ append_assoc before.handed (left ∷ []) rest.0)
first_handed {before} {after} (fails {left = left} some given) = inr ([], given.1)
