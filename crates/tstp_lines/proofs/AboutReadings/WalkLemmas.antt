-- A walk over the parts of a line: each part's symbols and variables are met, and its value by the numbers is made.
use Rattle.std.proofs.Common.{◌≡◌, ℕ, List, [], ◌∷◌, ◌++◌, map, fold, refl, ap, sym, ◌∙◌, append-nil}
use Rattle.std.specs.Prelude.{flat_map}
use Rattle.signature.specs.declared.symbol.Symbol.{Symbol}
use Rattle.signature.specs.Symbol.{with_symbol}
use Rattle.tstp_lines.specs.declared.numbers.LineNumbers.{LineNumbers}
use Rattle.tstp_lines.specs.Tables.{with_name}
use Rattle.tstp_lines.specs.Numbers.{Meets, GoesOn}
use Rattle.tstp_lines.proofs.AboutReadings.NumberLemmas.{goes-after, fold-appended}
use Rattle.list_lemmas.proofs.Lists.{push-joined}

-- From the first numbers to those that there are now the parts before the rest were walked over, and their values were made.
pub record Walks {X Y : Type 0} (S : X → List Symbol) (N : X → List (List ℕ)) (V : LineNumbers → X → Y) (first now : LineNumbers) (whole rest : List X) (made : List Y) : Type 0 where
  pub symbols : fold with_symbol now.symbols (flat_map S rest) ≡ fold with_symbol first.symbols (flat_map S whole)
  pub variables : fold with_name now.variables (flat_map N rest) ≡ fold with_name first.variables (flat_map N whole)
  pub values : (m : LineNumbers) → GoesOn now m → made ++ map (V m) rest ≡ map (V m) whole

pub walks-begin :
    {X Y : Type 0} (S : X → List Symbol) (N : X → List (List ℕ)) (V : LineNumbers → X → Y) (n : LineNumbers) (whole : List X) (made : List Y)
    → made ≡ [] → Walks S N V n n whole whole made
walks-begin S N V n whole made e = record { symbols = refl; variables = refl; values = λ m g. ap (λ ys. ys ++ map (V m) whole) e }

-- nothing is met, and the same is left
pub walks-skip :
    {X Y : Type 0} (S : X → List Symbol) (N : X → List (List ℕ)) (V : LineNumbers → X → Y) (first now : LineNumbers) (whole rest left : List X)
    (made : List Y) → rest ≡ left → Walks S N V first now whole rest made → Walks S N V first now whole left made
walks-skip S N V first now whole rest left made e walk =
    record {
      symbols = ap (λ xs. fold with_symbol now.symbols (flat_map S xs)) (sym e) ∙ walk.symbols;
      variables = ap (λ xs. fold with_name now.variables (flat_map N xs)) (sym e) ∙ walk.variables;
      values = λ m g. ap (λ xs. made ++ map (V m) xs) (sym e) ∙ walk.values m g;
    }

pub walks-go :
    {X Y : Type 0} (S : X → List Symbol) (N : X → List (List ℕ)) (V : LineNumbers → X → Y) (first now next : LineNumbers)
    (whole rest left : List X) (made new : List Y) (x : X) (y : Y)
    → rest ≡ x ∷ left → Meets now next (S x) (N x) → ((m : LineNumbers) → GoesOn next m → y ≡ V m x) → new ≡ made ++ y ∷ []
    → Walks S N V first now whole rest made → Walks S N V first next whole left new
walks-go S N V first now next whole rest left made new x y e met value n walk =
    record {
      symbols =
          ap (λ known. fold with_symbol known (flat_map S left)) met.symbols
          ∙ sym (fold-appended with_symbol now.symbols (S x) (flat_map S left))
          ∙ ap (λ xs. fold with_symbol now.symbols (flat_map S xs)) (sym e) ∙ walk.symbols;
      variables =
          ap (λ known. fold with_name known (flat_map N left)) met.variables
          ∙ sym (fold-appended with_name now.variables (N x) (flat_map N left))
          ∙ ap (λ xs. fold with_name now.variables (flat_map N xs)) (sym e) ∙ walk.variables;
      values = λ m g.
          ap (λ ys. ys ++ map (V m) left) n
          ∙ push-joined made y (map (V m) left)
          ∙ ap (λ z. made ++ z ∷ map (V m) left) (value m g)
          ∙ ap (λ xs. made ++ map (V m) xs) (sym e)
          ∙ walk.values m (goes-after now next m (S x) (N x) met g);
    }

pub walks-met :
    {X Y : Type 0} (S : X → List Symbol) (N : X → List (List ℕ)) (V : LineNumbers → X → Y) (first now : LineNumbers) (whole rest : List X)
    (made : List Y) → rest ≡ [] → Walks S N V first now whole rest made → Meets first now (flat_map S whole) (flat_map N whole)
walks-met S N V first now whole rest made e walk =
    record {
      symbols = ap (λ xs. fold with_symbol now.symbols (flat_map S xs)) (sym e) ∙ walk.symbols;
      variables = ap (λ xs. fold with_name now.variables (flat_map N xs)) (sym e) ∙ walk.variables;
    }

pub walks-made :
    {X Y : Type 0} (S : X → List Symbol) (N : X → List (List ℕ)) (V : LineNumbers → X → Y) (first now : LineNumbers) (whole rest : List X)
    (made : List Y) → rest ≡ [] → Walks S N V first now whole rest made → (m : LineNumbers) → GoesOn now m → made ≡ map (V m) whole
walks-made S N V first now whole rest made e walk m g =
    sym (append-nil made) ∙ ap (λ xs. made ++ map (V m) xs) (sym e) ∙ walk.values m g
