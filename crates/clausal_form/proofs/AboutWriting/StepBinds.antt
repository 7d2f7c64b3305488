-- What a line's step binds are the bindings of its items.
use Rattle.std.proofs.Common.{◌≡◌, ℕ, Bool, true, List, [], ◌∷◌, Some, refl, subst}
use Rattle.std.specs.Prelude.{option_map, option_and_then, codes}
use Rattle.std.specs.List.{list_all}
use Rattle.std.proofs.lemmas.Option.{none-some, option_and_then_some}
use Rattle.fol_base.specs.Tree.{Tree}
use Rattle.fol_base.proofs.WorkedExamples.TestLemmas.{option_map-some}
use Rattle.kernel_steps.specs.Soundness.{binds_each}
use Rattle.kernel_steps.specs.declared.step.Step.{Step}
use Rattle.kernel_steps.specs.declared.step.Step.TheVariants as step
use Rattle.tptp_source.specs.General.{GeneralTree}
use Rattle.clausal_form.specs.DerivationItems.{list_in, numbers_in, introduced_in, only_one, row_arguments}
use Rattle.clausal_form.specs.DerivationSteps.{LineKind, OfLiteral, of_literal, into_literal, of_number, para_step, refl_step, factor_step, merge_step, split_step, chain_step, rule_step}
use Rattle.clausal_form.specs.DerivationSteps as kind

abbrev Passes : (Tree → Bool) → Step → Type 0
Passes test st = binds_each test st ≡ true

abbrev AllPass : (Tree → Bool) → List (List Tree) → Type 0
AllPass test binds = list_all (list_all test) binds ≡ true

para-binds :
    (test : Tree → Bool) (parents : List ℕ) (binds : List (List Tree)) (row : List (List GeneralTree)) (st : Step)
    → para_step parents binds row ≡ Some st → AllPass test binds → Passes test st
para-binds test [] binds row st h all = absurd (none-some st h)
para-binds test (a ∷ []) binds row st h all = absurd (none-some st h)
para-binds test (a ∷ b ∷ d ∷ ps) binds row st h all = absurd (none-some st h)
para-binds test (a ∷ b ∷ []) [] row st h all = absurd (none-some st h)
para-binds test (a ∷ b ∷ []) (x ∷ []) row st h all = absurd (none-some st h)
para-binds test (a ∷ b ∷ []) (x ∷ y ∷ z ∷ bs) row st h all = absurd (none-some st h)
para-binds test (a ∷ b ∷ []) (x ∷ y ∷ []) [] st h all = absurd (none-some st h)
para-binds test (a ∷ b ∷ []) (x ∷ y ∷ []) (from ∷ []) st h all = absurd (none-some st h)
para-binds test (a ∷ b ∷ []) (x ∷ y ∷ []) (from ∷ into ∷ rest) st h all =
    option_and_then_some
    (λ (i : OfLiteral). option_map (λ (j : OfLiteral × List ℕ). step.Para a b i.literal i.side (j.0).literal (j.0).side j.1 x y) (into_literal into))
    (of_literal from) st h λ i i_is more.
    option_map-some (λ (j : OfLiteral × List ℕ). step.Para a b i.literal i.side (j.0).literal (j.0).side j.1 x y) (into_literal into) st more
    λ j j_is e. subst (Passes test) e all

refl-binds :
    (test : Tree → Bool) (parents : List ℕ) (binds : List (List Tree)) (row : List (List GeneralTree)) (st : Step)
    → refl_step parents binds row ≡ Some st → AllPass test binds → Passes test st
refl-binds test [] binds row st h all = absurd (none-some st h)
refl-binds test (a ∷ b ∷ ps) binds row st h all = absurd (none-some st h)
refl-binds test (a ∷ []) [] row st h all = absurd (none-some st h)
refl-binds test (a ∷ []) (x ∷ y ∷ bs) row st h all = absurd (none-some st h)
refl-binds test (a ∷ []) (x ∷ []) [] st h all = absurd (none-some st h)
refl-binds test (a ∷ []) (x ∷ []) (literal ∷ rest) st h all =
    option_map-some (λ i. step.Refl a i x) (of_number literal) st h λ i i_is e. subst (Passes test) e all

factor-binds :
    (test : Tree → Bool) (parents : List ℕ) (binds : List (List Tree)) (row : List (List GeneralTree)) (st : Step)
    → factor_step parents binds row ≡ Some st → AllPass test binds → Passes test st
factor-binds test [] binds row st h all = absurd (none-some st h)
factor-binds test (a ∷ b ∷ ps) binds row st h all = absurd (none-some st h)
factor-binds test (a ∷ []) [] row st h all = absurd (none-some st h)
factor-binds test (a ∷ []) (x ∷ y ∷ bs) row st h all = absurd (none-some st h)
factor-binds test (a ∷ []) (x ∷ []) [] st h all = absurd (none-some st h)
factor-binds test (a ∷ []) (x ∷ []) (l ∷ []) st h all = absurd (none-some st h)
factor-binds test (a ∷ []) (x ∷ []) (becomes ∷ other ∷ rest) st h all =
    option_and_then_some
    (λ (i : OfLiteral). option_map (λ (j : OfLiteral). step.Factor a i.literal i.side j.literal j.side x) (of_literal other))
    (of_literal becomes) st h λ i i_is more.
    option_map-some (λ (j : OfLiteral). step.Factor a i.literal i.side j.literal j.side x) (of_literal other) st more
    λ j j_is e. subst (Passes test) e all

merge-binds :
    (test : Tree → Bool) (parents : List ℕ) (binds : List (List Tree)) (row : List (List GeneralTree)) (st : Step)
    → merge_step parents binds row ≡ Some st → AllPass test binds → Passes test st
merge-binds test [] binds row st h all = absurd (none-some st h)
merge-binds test (a ∷ b ∷ ps) binds row st h all = absurd (none-some st h)
merge-binds test (a ∷ []) [] row st h all = absurd (none-some st h)
merge-binds test (a ∷ []) (x ∷ y ∷ bs) row st h all = absurd (none-some st h)
merge-binds test (a ∷ []) (x ∷ []) [] st h all = absurd (none-some st h)
merge-binds test (a ∷ []) (x ∷ []) (l ∷ []) st h all = absurd (none-some st h)
merge-binds test (a ∷ []) (x ∷ []) (stays ∷ goes ∷ rest) st h all =
    option_and_then_some (λ i. option_map (λ j. step.Merge a i j x) (of_number goes)) (of_number stays) st h λ i i_is more.
    option_map-some (λ j. step.Merge a i j x) (of_number goes) st more λ j j_is e. subst (Passes test) e all

split-binds :
    (test : Tree → Bool) (parents : List ℕ) (row : List (List GeneralTree)) (st : Step)
    → split_step parents row ≡ Some st → Passes test st
split-binds test [] row st h = absurd (none-some st h)
split-binds test (a ∷ ps) [] st h = absurd (none-some st h)
split-binds test (a ∷ ps) (parts ∷ r ∷ rs) st h = absurd (none-some st h)
split-binds test (a ∷ ps) (parts ∷ []) st h =
    option_map-some (λ qs. step.Split a ps qs) (option_and_then (list_in numbers_in) (only_one parts)) st h
    λ qs qs_is e. subst (Passes test) e refl

chain-binds :
    (test : Tree → Bool) (names : List (List ℕ)) (parents : List ℕ) (row : List (List GeneralTree)) (st : Step)
    → chain_step names parents row ≡ Some st → Passes test st
chain-binds test names parents [] st h = absurd (none-some st h)
chain-binds test names parents (pivots ∷ r ∷ rs) st h = absurd (none-some st h)
chain-binds test names parents (pivots ∷ []) st h =
    option_map-some (λ ps. step.Chain parents ps) (option_and_then (list_in (introduced_in names)) (only_one pivots)) st h
    λ ps ps_is e. subst (Passes test) e refl

pub step-binds :
    (test : Tree → Bool) (k : LineKind) (names : List (List ℕ)) (items : List GeneralTree) (parents : List ℕ) (binds : List (List Tree)) (st : Step)
    → rule_step k names items parents binds ≡ Some st → list_all (list_all test) binds ≡ true → binds_each test st ≡ true
step-binds test kind.para_kind names items parents binds st h all =
    option_and_then_some (para_step parents binds)
    (row_arguments (codes "thm") (codes "from" ∷ codes "into" ∷ codes "bind" ∷ codes "bind" ∷ []) items) st h
    λ row row_is more. para-binds test parents binds row st more all
step-binds test kind.refl_kind names items parents binds st h all =
    option_and_then_some (refl_step parents binds) (row_arguments (codes "thm") (codes "lit" ∷ codes "bind" ∷ []) items) st h
    λ row row_is more. refl-binds test parents binds row st more all
step-binds test kind.factor_kind names items parents binds st h all =
    option_and_then_some (factor_step parents binds) (row_arguments (codes "thm") (codes "lit" ∷ codes "lit" ∷ codes "bind" ∷ []) items) st h
    λ row row_is more. factor-binds test parents binds row st more all
step-binds test kind.merge_kind names items parents binds st h all =
    option_and_then_some (merge_step parents binds) (row_arguments (codes "thm") (codes "lit" ∷ codes "lit" ∷ codes "bind" ∷ []) items) st h
    λ row row_is more. merge-binds test parents binds row st more all
step-binds test kind.split_kind names items parents binds st h all =
    option_and_then_some (split_step parents) (row_arguments (codes "esa") (codes "parts" ∷ []) items) st h
    λ row row_is more. split-binds test parents row st more
step-binds test kind.chain_kind names items parents binds st h all =
    option_and_then_some (chain_step names parents) (row_arguments (codes "thm") (codes "pivots" ∷ []) items) st h
    λ row row_is more. chain-binds test names parents row st more
step-binds test kind.input_kind names items parents binds st h all = absurd (none-some st h)
step-binds test kind.negate_kind names items parents binds st h all = absurd (none-some st h)
step-binds test kind.clausify_kind names items parents binds st h all = absurd (none-some st h)
step-binds test (kind.component_kind name) names items parents binds st h all = absurd (none-some st h)
step-binds test (kind.opposite_kind name) names items parents binds st h all = absurd (none-some st h)
step-binds test kind.no_rule_kind names items parents binds st h all = absurd (none-some st h)
