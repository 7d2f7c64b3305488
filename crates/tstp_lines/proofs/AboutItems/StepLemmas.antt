-- The step of superposition, from its parents, what is bound, and the first two of its row.
use Rattle.std.proofs.Common.{◌≡◌, ◌≤◌, ℕ, List, [], ◌∷◌, length, map, get_or, refl, ap, ◌∙◌, arith}
use Rattle.std.specs.Prelude.{Option, None, Some, option_map, option_and_then}
use Rattle.std.specs.Borrow.{Bor}
use Rattle.fol_base.specs.Tree.{Tree}
use Rattle.kernel_steps.specs.declared.step.Step.{Step}
use Rattle.kernel_steps.specs.declared.step.Step.TheVariants.{Para}
use Rattle.tptp_source.specs.General.{GeneralTree}
use Rattle.tptp_source.specs.declared.term.GeneralTerm.{GeneralTerm}
use Rattle.clausal_form.specs.DerivationSteps.{OfLiteral, of_literal, into_literal, para_step}
use Rattle.tstp_lines.specs.Items.{terms_lent}
use Rattle.tstp_lines.specs.Steps.{two_of}

abbrev pub Terms : Type 0
Terms = List Tree

abbrev pub Arguments : Type 0
Arguments = List GeneralTree

abbrev pub front : List Arguments → Option (Arguments × Arguments)
front [] = None
front (x ∷ []) = None
front (x ∷ y ∷ zs) = Some (x, y)

abbrev pub from_both : ℕ × ℕ → Terms × Terms → Option OfLiteral → Option (OfLiteral × List ℕ) → Option Step
from_both p b i j =
    option_and_then (λ i. option_map (λ j. Para p.0 p.1 i.literal i.side (j.0).literal (j.0).side j.1 b.0 b.1) j) i

abbrev pub made : Option (ℕ × ℕ) → Option (Terms × Terms) → Option (Arguments × Arguments) → Option Step
made None b r = None
made (Some p) None r = None
made (Some p) (Some b) None = None
made (Some p) (Some b) (Some r) = from_both p b (of_literal r.0) (into_literal r.1)

para-made : (ps : List ℕ) (bs : List Terms) (row : List Arguments) → made (two_of ps) (two_of bs) (front row) ≡ para_step ps bs row
para-made [] bs row = refl
para-made (a ∷ []) bs row = refl
para-made (a ∷ b ∷ c ∷ ds) bs row = refl
para-made (a ∷ b ∷ []) [] row = refl
para-made (a ∷ b ∷ []) (x ∷ []) row = refl
para-made (a ∷ b ∷ []) (x ∷ y ∷ z ∷ zs) row = refl
para-made (a ∷ b ∷ []) (x ∷ y ∷ []) [] = refl
para-made (a ∷ b ∷ []) (x ∷ y ∷ []) (u ∷ []) = refl
para-made (a ∷ b ∷ []) (x ∷ y ∷ []) (u ∷ v ∷ vs) = refl

first-two :
    (row : List (Bor (List GeneralTerm))) (u v : Bor (List GeneralTerm))
    → 2 ≤ length row → u ≡ get_or row 0 u → v ≡ get_or row 1 v → Some (terms_lent u, terms_lent v) ≡ front (map terms_lent row)
first-two [] u v h e f = absurd (omega (arith, h))
first-two (x ∷ []) u v h e f = absurd (omega (arith, h))
first-two (x ∷ y ∷ zs) u v h e f = ap (λ z. Some (terms_lent z, terms_lent v)) e ∙ ap (λ z. Some (terms_lent x, terms_lent z)) f

pub para-is :
    (ps : List ℕ) (bs : List Terms) (row : List (Bor (List GeneralTerm))) (p : ℕ × ℕ) (b : Terms × Terms) (u v : Bor (List GeneralTerm))
    (i : OfLiteral) (j : Option (OfLiteral × List ℕ))
    → Some p ≡ two_of ps → Some b ≡ two_of bs → 2 ≤ length row → u ≡ get_or row 0 u → v ≡ get_or row 1 v
    → Some i ≡ of_literal (terms_lent u) → j ≡ into_literal (terms_lent v)
    → from_both p b (Some i) j ≡ para_step ps bs (map terms_lent row)
para-is ps bs row p b u v i j e f h k l m n =
    ap (from_both p b (Some i)) n
    ∙ ap (λ o. from_both p b o (into_literal (terms_lent v))) m
    ∙ ap (made (Some p) (Some b)) (first-two row u v h k l)
    ∙ ap (λ o. made (Some p) o (front (map terms_lent row))) f
    ∙ ap (λ o. made o (two_of bs) (front (map terms_lent row))) e
    ∙ para-made ps bs (map terms_lent row)
