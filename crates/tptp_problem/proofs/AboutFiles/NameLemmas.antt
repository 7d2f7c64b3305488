-- The folder of a path.
use Rattle.std.proofs.Common.{◌≡◌, ℕ, zero, suc, ◌+◌, ◌-◌, ◌<◌, ◌≤◌, ◌==◌, Bool, true, not, List, length, take, get_or, ap, subst, arith}
use Rattle.std.specs.Str.{IsUtf8, IsCharBoundary}
use Rattle.std.specs.List.{suffix_len}
use Rattle.std.proofs.lemmas.Str.{IsCharBoundary-start, IsCharBoundary-after_ascii}
use Rattle.std.proofs.lemmas.List.Sums.{suffix_len_is}
use Rattle.std.proofs.lemmas.Bool.Decides.{nat_tests}
use Rattle.tptp_problem.specs.Files.{folder_of}

pub folder-boundary :
    (bs : List ℕ) (end : ℕ) → IsUtf8 bs → end ≤ length bs → (0 < end → get_or bs (end - 1) 0 ≡ 47) → IsCharBoundary bs end
folder-boundary bs zero utf8 small slash = IsCharBoundary-start bs utf8
folder-boundary bs (suc n) utf8 small slash =
    let byte : get_or bs n 0 ≡ 47 = (let at : suc n - 1 ≡ n = omega arith in subst (λ k. get_or bs k 0 ≡ 47) at (slash (omega arith))) in
    let far : n + 1 ≡ suc n = omega arith in
    subst (λ k. IsCharBoundary bs k) far (IsCharBoundary-after_ascii bs n utf8 (omega arith) (omega (arith, byte)))

other-byte : (b : ℕ) → (b ≡ 47 → ⊥) → not (b == 47) ≡ true
other-byte b h = grind (arith, nat_tests)

pub folder-is :
    (bs : List ℕ) (end : ℕ) → end ≤ length bs → (0 < end → get_or bs (end - 1) 0 ≡ 47)
    → ((k : ℕ) → end ≤ k → k < length bs → get_or bs k 0 ≡ 47 → ⊥) → take end bs ≡ folder_of bs
folder-is bs end small slash none =
    let p : ℕ → Bool = λ b. not (b == 47) in
    let rest : suffix_len p bs ≡ length bs - end =
    suffix_len_is p bs end 0 small (λ k h g. other-byte (get_or bs k 0) (none k h g)) (λ h. ap p (slash h)) in
    let far : end ≡ length bs - suffix_len p bs = omega (arith, rest) in
    ap (λ n. take n bs) far
