-- Sorted names are no more than there were, and room for clauses over names.
use Rattle.std.proofs.Common.{◌≡◌, ℕ, suc, ◌+◌, ◌≤◌, Bool, true, false, List, [], ◌∷◌, ◌++◌, map, length, ap, arith}
use Rattle.std.specs.Prelude.{if◌then◌else◌}
use Rattle.std.proofs.lemmas.List.{length-append, length-map}
use Rattle.plain_types.specs.declared.sequence.NameLit.{NameLit}
use Rattle.plain_types.specs.Names.{same_name}
use Rattle.kernel_steps.specs.Names.{name_before, with_name, with_names, sorted_names}
use Rattle.pool_core.specs.Splits.{HasClauseRoom, HasPartRoom}
use Rattle.pool_core.specs.declared.splits.Splits.{Splits}

one-longer : (n : NameLit) (ms : List NameLit) → length (with_name n ms) ≤ suc (length ms)
one-longer n [] = omega arith
one-longer n (m ∷ ms) = by (same_name n m) (name_before n m) (one-longer n ms)
  where
    by :
        (a b : Bool) → length (with_name n ms) ≤ suc (length ms)
        → length (if a then m ∷ ms else (if b then n ∷ m ∷ ms else m ∷ with_name n ms)) ≤ suc (suc (length ms))
    by true b rest = omega arith
    by false true rest = omega arith
    by false false rest = omega (arith, rest)

all-longer : (ns sorted : List NameLit) → length (with_names ns sorted) ≤ length ns + length sorted
all-longer [] sorted = omega arith
all-longer (n ∷ ns) sorted =
    let rest = all-longer ns (with_name n sorted) in
    let one = one-longer n sorted in
    omega (arith, rest, one)

sorted-shorter : (ns : List NameLit) → length (sorted_names ns) ≤ length ns
sorted-shorter ns = let all = all-longer ns [] in omega (arith, all)

-- of names that were put to none there are no more
pub asserted-count :
    {X : Type 0} (before all sorted : List NameLit) (f : X → NameLit) (xs : List X)
    → sorted ≡ sorted_names all → all ≡ before ++ map f xs → length before ≡ 0 → length sorted ≤ length xs
asserted-count before all sorted f xs sorted_is all_is none =
    let short = sorted-shorter all in
    let same : length sorted ≡ length (sorted_names all) = ap length sorted_is in
    let count : length all ≡ length (before ++ map f xs) = ap length all_is in
    let first = length-append before (map f xs) in
    let many = length-map xs f in
    omega (arith, short, same, count, first, many, none)

-- of names and others there are as many as they have together
pub sorted-count :
    {X Y : Type 0} (before : List NameLit) (all sorted : List NameLit) (f : X → NameLit) (xs : List X) (g : Y → NameLit) (ys : List Y)
    → sorted ≡ sorted_names all → all ≡ (before ++ map f xs) ++ map g ys → length before ≡ 0 → length sorted ≤ length xs + length ys
sorted-count before all sorted f xs g ys sorted_is all_is none =
    let short = sorted-shorter all in
    let same : length sorted ≡ length (sorted_names all) = ap length sorted_is in
    let count : length all ≡ length ((before ++ map f xs) ++ map g ys) = ap length all_is in
    let long = length-append (before ++ map f xs) (map g ys) in
    let first = length-append before (map f xs) in
    let many = length-map xs f in
    let more = length-map ys g in
    omega (arith, short, same, count, long, first, many, more, none)

-- room for less
pub clause-room-less :
    (s : Splits) (few many less more : ℕ) → few ≤ many → less ≤ more → HasClauseRoom s many more → HasClauseRoom s few less
clause-room-less s few many less more fewer lower room = record {
  clauses = let enough = room.clauses in omega (arith, enough, fewer);
  literals = let enough = room.literals in omega (arith, enough, lower);
  lines = let enough = room.lines in omega (arith, enough, fewer);
}

pub part-room-less : (s : Splits) (few many : ℕ) → few ≤ many → HasPartRoom s many → HasPartRoom s few
part-room-less s few many fewer room = record {
  parts = let enough = room.parts in omega (arith, enough, fewer);
  components = let enough = room.components in omega (arith, enough, fewer);
  definitions = let enough = room.definitions in omega (arith, enough, fewer);
}
