-- The names of what a unit makes of a clause: the clause's, since the unit's are among them.
use Rattle.std.proofs.Common.{◌≡◌, ℕ, Bool, true, false, ◌||◌, ◌==◌, List, [], ◌∷◌, ◌++◌, map, refl, ap, sym, ◌∙◌, ⊎_elim}
use Rattle.std.specs.List.{list_any}
use Rattle.std.proofs.lemmas.Bool.{and_parts, or_cases}
use Rattle.std.proofs.lemmas.List.Folds.{list_any-append}
use Rattle.plain_types.specs.declared.sequence.NameLit.{NameLit}
use Rattle.plain_types.specs.Names.{same_name, has_name, negative_of}
use Rattle.plain_types.proofs.NameLemmas.{same_name-true}
use Rattle.fol_base.specs.Subsumption.{assertions, is_among}
use Rattle.kernel_steps.specs.Names.{sorted_names, are_sorted}
use Rattle.kernel_steps.proofs.AboutNames.NameRanks.{are-sorted_names}
use Rattle.unit_cutting.proofs.AboutCuts.CutLineLemmas.{negative-there}

-- so does each name of a clause whose assertions are among them
among-there : (k : NameLit) (ns : List ℕ) (ms : List NameLit) → is_among ns (assertions ms) ≡ true → has_name k (map negative_of ns) ≡ true → has_name k ms ≡ true
among-there k [] ms among there = absurd (cc)
among-there k (n ∷ ns) ms among there =
    let both = and_parts (list_any (λ m. n == m) (assertions ms)) (is_among ns (assertions ms)) among in
    ⊎_elim
    (λ here. ap (λ j. has_name j ms) (same_name-true k (negative_of n) here) ∙ negative-there n ms both.0)
    (λ later. among-there k ns ms both.1 later)
    (or_cases (same_name k (negative_of n)) (has_name k (map negative_of ns)) there)

or-idle : (a b : Bool) → (a ≡ true → b ≡ true) → b ≡ (a || b)
or-idle true b h = h refl
or-idle false b h = refl

pub names-stay :
    (ns : List ℕ) (ms : List NameLit)
    → are_sorted ms ≡ true → is_among ns (assertions ms) ≡ true → ms ≡ sorted_names (map negative_of ns ++ ms)
names-stay ns ms sorted among =
    are-sorted_names (map negative_of ns ++ ms) ms sorted
    (λ k.
    or-idle (has_name k (map negative_of ns)) (has_name k ms) (among-there k ns ms among)
    ∙ sym (list_any-append (same_name k) (map negative_of ns) ms))
