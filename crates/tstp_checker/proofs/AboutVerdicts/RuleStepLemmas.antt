-- The steps that rules name are rule steps, and introduce no name.
use Rattle.std.proofs.Common.{◌≡◌, ℕ, true, false, List, [], ◌∷◌, Some, refl, sym, subst}
use Rattle.std.specs.Prelude.{option_map, option_and_then, codes}
use Rattle.std.proofs.lemmas.Bool.{true≢false}
use Rattle.std.proofs.lemmas.Option.{none-some, option_and_then_some}
use Rattle.fol_base.specs.Tree.{Tree}
use Rattle.fol_base.proofs.WorkedExamples.TestLemmas.{option_map-some}
use Rattle.kernel_steps.specs.Conclusion.{is_rule_step}
use Rattle.kernel_steps.specs.Derivation.{is_component}
use Rattle.kernel_steps.specs.declared.step.Step.{Step}
use Rattle.kernel_steps.specs.declared.step.Step.TheVariants as step
use Rattle.tptp_source.specs.General.{GeneralTree}
use Rattle.clausal_form.specs.DerivationItems.{list_in, numbers_in, introduced_in, only_one, row_arguments}
use Rattle.clausal_form.specs.DerivationSteps.{LineKind, OfLiteral, of_literal, into_literal, of_number, para_step, refl_step, factor_step, merge_step, split_step, chain_step, rule_step}
use Rattle.clausal_form.specs.DerivationSteps as kind

abbrev IsRule : Step → Type 0
IsRule st = is_rule_step st ≡ true

para-is :
    (parents : List ℕ) (binds : List (List Tree)) (row : List (List GeneralTree)) (st : Step)
    → para_step parents binds row ≡ Some st → IsRule st
para-is [] binds row st h = absurd (none-some st h)
para-is (a ∷ []) binds row st h = absurd (none-some st h)
para-is (a ∷ b ∷ d ∷ ps) binds row st h = absurd (none-some st h)
para-is (a ∷ b ∷ []) [] row st h = absurd (none-some st h)
para-is (a ∷ b ∷ []) (x ∷ []) row st h = absurd (none-some st h)
para-is (a ∷ b ∷ []) (x ∷ y ∷ z ∷ bs) row st h = absurd (none-some st h)
para-is (a ∷ b ∷ []) (x ∷ y ∷ []) [] st h = absurd (none-some st h)
para-is (a ∷ b ∷ []) (x ∷ y ∷ []) (from ∷ []) st h = absurd (none-some st h)
para-is (a ∷ b ∷ []) (x ∷ y ∷ []) (from ∷ into ∷ rest) st h =
    option_and_then_some
    (λ (i : OfLiteral). option_map (λ (j : OfLiteral × List ℕ). step.Para a b i.literal i.side (j.0).literal (j.0).side j.1 x y) (into_literal into))
    (of_literal from) st h λ i i_is more.
    option_map-some (λ (j : OfLiteral × List ℕ). step.Para a b i.literal i.side (j.0).literal (j.0).side j.1 x y) (into_literal into) st more
    λ j j_is e. subst IsRule e refl

refl-is :
    (parents : List ℕ) (binds : List (List Tree)) (row : List (List GeneralTree)) (st : Step)
    → refl_step parents binds row ≡ Some st → IsRule st
refl-is [] binds row st h = absurd (none-some st h)
refl-is (a ∷ b ∷ ps) binds row st h = absurd (none-some st h)
refl-is (a ∷ []) [] row st h = absurd (none-some st h)
refl-is (a ∷ []) (x ∷ y ∷ bs) row st h = absurd (none-some st h)
refl-is (a ∷ []) (x ∷ []) [] st h = absurd (none-some st h)
refl-is (a ∷ []) (x ∷ []) (literal ∷ rest) st h =
    option_map-some (λ i. step.Refl a i x) (of_number literal) st h λ i i_is e. subst IsRule e refl

factor-is :
    (parents : List ℕ) (binds : List (List Tree)) (row : List (List GeneralTree)) (st : Step)
    → factor_step parents binds row ≡ Some st → IsRule st
factor-is [] binds row st h = absurd (none-some st h)
factor-is (a ∷ b ∷ ps) binds row st h = absurd (none-some st h)
factor-is (a ∷ []) [] row st h = absurd (none-some st h)
factor-is (a ∷ []) (x ∷ y ∷ bs) row st h = absurd (none-some st h)
factor-is (a ∷ []) (x ∷ []) [] st h = absurd (none-some st h)
factor-is (a ∷ []) (x ∷ []) (l ∷ []) st h = absurd (none-some st h)
factor-is (a ∷ []) (x ∷ []) (becomes ∷ other ∷ rest) st h =
    option_and_then_some
    (λ (i : OfLiteral). option_map (λ (j : OfLiteral). step.Factor a i.literal i.side j.literal j.side x) (of_literal other))
    (of_literal becomes) st h λ i i_is more.
    option_map-some (λ (j : OfLiteral). step.Factor a i.literal i.side j.literal j.side x) (of_literal other) st more
    λ j j_is e. subst IsRule e refl

merge-is :
    (parents : List ℕ) (binds : List (List Tree)) (row : List (List GeneralTree)) (st : Step)
    → merge_step parents binds row ≡ Some st → IsRule st
merge-is [] binds row st h = absurd (none-some st h)
merge-is (a ∷ b ∷ ps) binds row st h = absurd (none-some st h)
merge-is (a ∷ []) [] row st h = absurd (none-some st h)
merge-is (a ∷ []) (x ∷ y ∷ bs) row st h = absurd (none-some st h)
merge-is (a ∷ []) (x ∷ []) [] st h = absurd (none-some st h)
merge-is (a ∷ []) (x ∷ []) (l ∷ []) st h = absurd (none-some st h)
merge-is (a ∷ []) (x ∷ []) (stays ∷ goes ∷ rest) st h =
    option_and_then_some (λ i. option_map (λ j. step.Merge a i j x) (of_number goes)) (of_number stays) st h λ i i_is more.
    option_map-some (λ j. step.Merge a i j x) (of_number goes) st more λ j j_is e. subst IsRule e refl

split-is :
    (parents : List ℕ) (row : List (List GeneralTree)) (st : Step)
    → split_step parents row ≡ Some st → IsRule st
split-is [] row st h = absurd (none-some st h)
split-is (a ∷ ps) [] st h = absurd (none-some st h)
split-is (a ∷ ps) (parts ∷ r ∷ rs) st h = absurd (none-some st h)
split-is (a ∷ ps) (parts ∷ []) st h =
    option_map-some (λ qs. step.Split a ps qs) (option_and_then (list_in numbers_in) (only_one parts)) st h
    λ qs qs_is e. subst IsRule e refl

chain-is :
    (names : List (List ℕ)) (parents : List ℕ) (row : List (List GeneralTree)) (st : Step)
    → chain_step names parents row ≡ Some st → IsRule st
chain-is names parents [] st h = absurd (none-some st h)
chain-is names parents (pivots ∷ r ∷ rs) st h = absurd (none-some st h)
chain-is names parents (pivots ∷ []) st h =
    option_map-some (λ ps. step.Chain parents ps) (option_and_then (list_in (introduced_in names)) (only_one pivots)) st h
    λ ps ps_is e. subst IsRule e refl

pub step-is :
    (k : LineKind) (names : List (List ℕ)) (items : List GeneralTree) (parents : List ℕ) (binds : List (List Tree)) (st : Step)
    → rule_step k names items parents binds ≡ Some st → is_rule_step st ≡ true
step-is kind.para_kind names items parents binds st h =
    option_and_then_some (para_step parents binds)
    (row_arguments (codes "thm") (codes "from" ∷ codes "into" ∷ codes "bind" ∷ codes "bind" ∷ []) items) st h
    λ row row_is more. para-is parents binds row st more
step-is kind.refl_kind names items parents binds st h =
    option_and_then_some (refl_step parents binds) (row_arguments (codes "thm") (codes "lit" ∷ codes "bind" ∷ []) items) st h
    λ row row_is more. refl-is parents binds row st more
step-is kind.factor_kind names items parents binds st h =
    option_and_then_some (factor_step parents binds) (row_arguments (codes "thm") (codes "lit" ∷ codes "lit" ∷ codes "bind" ∷ []) items) st h
    λ row row_is more. factor-is parents binds row st more
step-is kind.merge_kind names items parents binds st h =
    option_and_then_some (merge_step parents binds) (row_arguments (codes "thm") (codes "lit" ∷ codes "lit" ∷ codes "bind" ∷ []) items) st h
    λ row row_is more. merge-is parents binds row st more
step-is kind.split_kind names items parents binds st h =
    option_and_then_some (split_step parents) (row_arguments (codes "esa") (codes "parts" ∷ []) items) st h
    λ row row_is more. split-is parents row st more
step-is kind.chain_kind names items parents binds st h =
    option_and_then_some (chain_step names parents) (row_arguments (codes "thm") (codes "pivots" ∷ []) items) st h
    λ row row_is more. chain-is names parents row st more
step-is kind.input_kind names items parents binds st h = absurd (none-some st h)
step-is kind.negate_kind names items parents binds st h = absurd (none-some st h)
step-is kind.clausify_kind names items parents binds st h = absurd (none-some st h)
step-is (kind.component_kind name) names items parents binds st h = absurd (none-some st h)
step-is (kind.opposite_kind name) names items parents binds st h = absurd (none-some st h)
step-is kind.no_rule_kind names items parents binds st h = absurd (none-some st h)

pub rule-no-component : (st : Step) → is_rule_step st ≡ true → is_component st ≡ false
rule-no-component (step.Input a) h = absurd (true≢false (sym h))
rule-no-component (step.Negate a) h = absurd (true≢false (sym h))
rule-no-component (step.Clausify a) h = absurd (true≢false (sym h))
rule-no-component (step.Para a b d f g i j k m) h = refl
rule-no-component (step.Refl a b d) h = refl
rule-no-component (step.Factor a b d f g i) h = refl
rule-no-component (step.Merge a b d f) h = refl
rule-no-component (step.Component a) h = absurd (true≢false (sym h))
rule-no-component (step.Opposite a) h = absurd (true≢false (sym h))
rule-no-component (step.Split a b d) h = refl
rule-no-component (step.Chain a b) h = refl
