-- Names whose numbers rise, as assertions' do, are sorted.
use Rattle.std.proofs.Common.{◌≡◌, suc, ◌+◌, ◌<◌, ◌==◌, true, not, ◌&&◌, List, [], ◌∷◌, map, refl, subst, arith}
use Rattle.std.specs.Prelude.{nat_lt, get_or}
use Rattle.std.specs.List.Sorted.{IsStrictlyIncreasing}
use Rattle.std.proofs.lemmas.Bool.{and_from, or_left, lt-ltb}
use Rattle.plain_types.specs.declared.sequence.NameLit.{NameLit}
use Rattle.kernel_steps.specs.Names.{name_before, are_sorted}

pub rising-sorted : (ns : List NameLit) → IsStrictlyIncreasing (map (λ n. n.name) ns) → are_sorted ns ≡ true
rising-sorted [] rise = refl
rising-sorted (n ∷ []) rise = refl
rising-sorted (n ∷ m ∷ ms) rise =
    let less : n.name < m.name = rise 0 (omega arith) in
    and_from (name_before n m) (are_sorted (m ∷ ms))
    (or_left (nat_lt n.name m.name) ((n.name == m.name) && (not n.positive && m.positive)) (lt-ltb n.name m.name less))
    (rising-sorted (m ∷ ms) λ k within.
    let same : suc k + 1 ≡ suc (k + 1) = omega arith in
    subst
    (λ i. get_or (map (λ (l : NameLit). l.name) (m ∷ ms)) k 0 < get_or (map (λ (l : NameLit). l.name) (n ∷ m ∷ ms)) i 0)
    same (rise (suc k) (omega (arith, within))))
