-- Truth rests on the values of the names that stand in the clauses.
use mathlib.Core.Bool.{beq}
use Rattle.std.proofs.Common.{◌≡◌, ℕ, ◌<◌, true, ◌&&◌, ◌||◌, List, [], ◌∷◌, refl, ap, ap₂}
use Rattle.std.specs.List.{list_all}
use Rattle.std.proofs.lemmas.Bool.{and_parts, ltb-true}
use Rattle.sat_core.specs.Clause.{PropClause, Valuation, is_below, names_below, clause_true, clauses_true}

-- two valuations agree on the names below a bound
abbrev pub AgreeBelow : ℕ → Valuation → Valuation → Type 0
AgreeBelow bound f g = (name : ℕ) → name < bound → f name ≡ g name

clause-agree : (bound : ℕ) (f g : Valuation) (c : PropClause) → AgreeBelow bound f g → list_all (is_below bound) c ≡ true → clause_true f c ≡ clause_true g c
clause-agree bound f g [] agree below = refl
clause-agree bound f g (l ∷ c) agree below =
    let parts = and_parts (is_below bound l) (list_all (is_below bound) c) below in
    ap₂ (λ b d. b || d) (ap (λ v. beq v l.positive) (agree l.name (ltb-true l.name bound parts.0))) (clause-agree bound f g c agree parts.1)

pub clauses-agree :
    (bound : ℕ) (f g : Valuation) (cs : List PropClause) → AgreeBelow bound f g → names_below bound cs ≡ true → clauses_true f cs ≡ clauses_true g cs
clauses-agree bound f g [] agree below = refl
clauses-agree bound f g (c ∷ cs) agree below =
    let parts = and_parts (list_all (is_below bound) c) (names_below bound cs) below in
    ap₂ (λ b d. b && d) (clause-agree bound f g c agree parts.0) (clauses-agree bound f g cs agree parts.1)
