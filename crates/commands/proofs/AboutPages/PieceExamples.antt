-- What no delivery in pieces does at a sink that is given its answers: it makes no write behind one that failed.
use Rattle.std.proofs.Common.{◌≡◌, ◌<◌, ℕ, List, [], ◌∷◌, ◌++◌, length, ap, sym, subst, refl, ◌∙◌, append_assoc, append-nil, arith}
use Rattle.std.specs.Prelude.{Result, Ok, Err}
use Rattle.outside.specs.Examples.{Script, script_gives}
use Rattle.outside.specs.Sink.{Delivers, none_left, takes, fails}
use Rattle.outside.specs.declared.fault.SinkFault.{SinkFault}
use Rattle.commands.specs.Run.{DeliversInPieces, at_once, front_and_back, front_alone}

-- where the next answer is a fault: nothing is written and all is well, or one write is made and failed
pub data Begins (before : Script) (rest : List (Result ℕ SinkFault)) (result : Result (Unit {0}) SinkFault) (after : Script) : Type 0 where
  nothing : after ≡ before → Begins before rest result after
  one_write : (fault : SinkFault) → after.answers ≡ rest → result ≡ Err fault → Begins before rest result after

pub no-more : {A : Type 0} {x : A} {xs : List A} → [] ≡ x ∷ xs → ⊥
no-more e = cc

first : {A : Type 0} {x y : A} {xs ys : List A} → x ∷ xs ≡ y ∷ ys → (x ≡ y) × (xs ≡ ys)
first e = (cc, cc)

whole-begins :
    {before after : Script} {text : List ℕ} {result : Result (Unit {0}) SinkFault} (fault : SinkFault) (rest : List (Result ℕ SinkFault))
    → before.answers ≡ Err fault ∷ rest → Delivers script_gives before text result after → Begins before rest result after
whole-begins fault rest e none_left = nothing refl
whole-begins fault rest e (takes {count = count} some given delivers) =
    let clash : Ok count ≡ Err fault = (first (sym given.0 ∙ e)).0 in absurd (cc)
whole-begins fault rest e (fails {fault = other} some given) = one_write other (first (sym given.0 ∙ e)).1 refl

-- and so it is with the writes behind
joined :
    {before next after : Script} {result : Result (Unit {0}) SinkFault} (fault : SinkFault) (rest : List (Result ℕ SinkFault))
    → before.answers ≡ Err fault ∷ rest → Begins before rest (Ok tt) next
    → (next.answers ≡ Err fault ∷ rest → Begins next rest result after) → Begins before rest result after
joined {after = after} {result} fault rest e (nothing same) behind =
    subst (λ (s : Script). Begins s rest result after) same (behind (ap (λ (s : Script). s.answers) same ∙ e))
joined fault rest e (one_write other left failed) behind = absurd (cc)

pub pieces-begin :
    {before after : Script} {text : List ℕ} {result : Result (Unit {0}) SinkFault} (fault : SinkFault) (rest : List (Result ℕ SinkFault))
    → before.answers ≡ Err fault ∷ rest → DeliversInPieces script_gives before text result after → Begins before rest result after
pieces-begin fault rest e (at_once d) = whole-begins fault rest e d
pieces-begin fault rest e (front_and_back front back d then) = joined fault rest e (pieces-begin fault rest e d) (λ f. pieces-begin fault rest f then)
pieces-begin fault rest e (front_alone front back d) = pieces-begin fault rest e d

-- ---- a text that is delivered at once

pub heads : {A : Type 0} {x y : A} {xs ys : List A} → x ∷ xs ≡ y ∷ ys → x ≡ y
heads e = cc

-- what a delivery hands the sink comes behind what it was handed before
handed-more :
    {before after : Script} {text : List ℕ} {result : Result (Unit {0}) SinkFault}
    → Delivers script_gives before text result after → (more : List (List ℕ)) × (after.handed ≡ before.handed ++ more)
handed-more {before = before} none_left = ([], sym (append-nil before.handed))
handed-more {before = before} {text = text} (takes some given delivers) =
    let rest = handed-more delivers in
    (text ∷ rest.0, rest.1 ∙ ap (λ hs. hs ++ rest.0) given.1 ∙ append_assoc before.handed (text ∷ []) rest.0)
handed-more {text = text} (fails some given) = (text ∷ [], given.1)

-- and its first write is handed the whole text
pub handed-first :
    {before after : Script} {text : List ℕ} {result : Result (Unit {0}) SinkFault}
    → 0 < length text → Delivers script_gives before text result after
    → (more : List (List ℕ)) × (after.handed ≡ before.handed ++ text ∷ more)
handed-first filled none_left = absurd (omega (arith, filled))
handed-first {before = before} {text = text} filled (takes some given delivers) =
    let rest = handed-more delivers in
    (rest.0, rest.1 ∙ ap (λ hs. hs ++ rest.0) given.1 ∙ append_assoc before.handed (text ∷ []) rest.0)
handed-first filled (fails some given) = ([], given.1)
