use Rattle.std.proofs.Common.{◌≡◌, ℕ, zero, suc, ◌+◌, List, [], ◌∷◌, ◌++◌, ap, sym, ◌∙◌, arith}
use Rattle.fol_base.specs.Canonical.{numbers_from}
use Rattle.tstp_writer.proofs.write.numbers_below.Goals as goal

one-more : (first n : ℕ) → numbers_from first (suc n) ≡ numbers_from first n ++ (first + n) ∷ []
one-more first zero = let same : first ≡ first + 0 = omega arith in ap (λ k. k ∷ []) same
one-more first (suc n) =
    let same : suc first + n ≡ first + suc n = omega arith in
    ap (λ ns. first ∷ ns) (one-more (suc first) n ∙ ap (λ k. numbers_from (suc first) n ++ k ∷ []) same)

next : (n : ℕ) → numbers_from 0 (n + 1) ≡ numbers_from 0 n ++ n ∷ []
next n =
    let more : n + 1 ≡ suc n = omega arith in
    let same : 0 + n ≡ n = omega arith in
    ap (numbers_from 0) more ∙ one-more 0 n ∙ ap (λ k. numbers_from 0 n ++ k ∷ []) same

pub loop-number-preserved : goal.loop-number-preserved
loop-number-preserved c =
    c.in_ok-push.ensures.ok
    ∙ ap (λ (ns : List ℕ). ns ++ c.loop-number.number ∷ []) c.loop-number.invariant
    ∙ sym (next c.loop-number.number)
