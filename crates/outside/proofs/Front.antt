-- Reading with a limit in a `u64`.
use Rattle.std.proofs.Common.{◌≡◌, ◌<◌, ◌≤◌, ◌+◌, ◌-◌, ◌^◌, ◌⊎◌, inl, inr, ℕ, List, [], ◌++◌, length, take, min, Option, Some, None, ap, sym, ◌∙◌, arith}
use Rattle.std.specs.Prelude.{option_map, IfSome}
use Rattle.std.proofs.lemmas.List.{take_all, length-take}
use Rattle.std.proofs.lemmas.Bool.{cases_lt}
use Rattle.std.proofs.lemmas.Option.{none-some, same_Some}
use Rattle.outside.specs.Read.{ReadsFront}

-- a front shorter than its limit is the whole
pub whole_front : (n : ℕ) (xs : List ℕ) → length (take n xs) < n → length xs < n
whole_front n xs h = let e : length (take n xs) ≡ min n (length xs) = length-take n xs in omega arith

by_limit : (n limit : ℕ) (bytes xs : List ℕ) → length bytes < 2 ^ 64 - 1 → bytes ≡ take n xs → n ≡ min (limit + 1) (2 ^ 64 - 1) → (limit < 2 ^ 64 - 1) ⊎ (2 ^ 64 - 1 ≤ limit) → bytes ≡ take (limit + 1) xs
by_limit n limit bytes xs small is n_is (inl le) =
    is ∙ ap (λ k. take k xs) (let e : n ≡ limit + 1 = omega arith in e)
by_limit n limit bytes xs small is n_is (inr gt) =
    let len : length bytes ≡ length (take n xs) = ap length is in
    let short : length xs < n = whole_front n xs (omega arith) in
    is ∙ take_all n xs (omega arith) ∙ sym (take_all (limit + 1) xs (omega arith))

by_cases : (n limit : ℕ) (bytes xs : List ℕ) → length bytes < 2 ^ 64 - 1 → bytes ≡ take n xs → n ≡ min (limit + 1) (2 ^ 64 - 1) → bytes ≡ take (limit + 1) xs
by_cases n limit bytes xs small is n_is = by_limit n limit bytes xs small is n_is (cases_lt limit (2 ^ 64 - 1))

pub front_read : (left inner : Option (List ℕ)) (n limit : ℕ) (start bytes : List ℕ) → inner ≡ left → start ≡ [] → length bytes < 2 ^ 64 - 1 → n ≡ min (limit + 1) (2 ^ 64 - 1) → IfSome (option_map (take n) inner) (λ xs. bytes ≡ start ++ xs) → ReadsFront left limit bytes
front_read None None n limit start bytes same empty small n_is read = tt
front_read (Some xs) None n limit start bytes same empty small n_is read = absurd (none-some xs same)
front_read None (Some ys) n limit start bytes same empty small n_is read = tt
front_read (Some xs) (Some ys) n limit start bytes same empty small n_is read =
    by_cases n limit bytes xs small (read ∙ ap (λ zs. zs ++ take n ys) empty ∙ ap (take n) (same_Some ys xs same)) n_is
