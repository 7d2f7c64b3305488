use Rattle.std.proofs.Common.{◌≡◌, ◌∷◌, [], inl, inr, length, sym, refl, lit<, codes, ap, arith}
use Rattle.outside.specs.Sink.{none_left, takes, fails}
use Rattle.commands.specs.Run.{at_once}
use Rattle.commands.proofs.AboutPages.DeliveryLemmas.{pieces-both, pieces-cut}
use Rattle.outside.specs.Examples.{Script, script_gives}
use Rattle.commands.proofs.AboutPages.PieceExamples.{pieces-begin, nothing, one_write, no-more, heads, handed-first}
use Rattle.commands.proofs.laws.piece_examples.Goals as goal

pub returns-clause-two : goal.returns-clause-two
returns-clause-two c =
    pieces-both script_gives _ _ _ (codes "abc") (codes "d") _ (at_once (takes (lit< tt) (refl, refl) none_left))
    (at_once (takes (lit< tt) (refl, refl) none_left))

pub returns-clause-one_status : goal.returns-clause-one_status
returns-clause-one_status c (inl whole) =
    let first : codes "abcd" ∷ (handed-first (omega arith) whole).0 ≡ codes "abc" ∷ codes "d" ∷ [] = sym (handed-first (omega arith) whole).1 in
    let lengths : 4 ≡ 3 = ap length (heads first) in omega (arith, lengths)
returns-clause-one_status c (inr pieces) = omega (arith, pieces.0)

pub returns-clause-cut : goal.returns-clause-cut
returns-clause-cut c = pieces-cut script_gives _ _ (codes "abc") (codes "d") _ (at_once (fails (lit< tt) (refl, refl)))

pub returns-clause-no_more : goal.returns-clause-no_more
returns-clause-no_more c text result handed delivers = elim (pieces-begin _ _ refl delivers) [
  | nothing same ↦ no-more (ap (λ (s : Script). s.answers) same)
  | one_write fault left failed ↦ no-more left
]
