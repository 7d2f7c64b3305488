use Rattle.std.proofs.Common.{◌≡◌, ◌==◌, ℕ, ◌+◌, ◌∷◌, ◌++◌, [], List, take, get_or, sym, ◌∙◌, subst}
use Rattle.std.specs.Prelude.{nat_lt}
use Rattle.std.specs.List.{list_any}
use Rattle.std.proofs.lemmas.List.{take_more}
use Rattle.std.proofs.lemmas.Bool.{not-true}
use Rattle.unifier.specs.declared.layout.Layout.{Layout}
use Rattle.unifier.specs.Layout.{HasVariables}
use Rattle.unifier.proofs.AboutClasses.CodeLemmas.{above-earlier, same-variables, more-variables}
use Rattle.unifier.proofs.layout.Layout.with_variables.Goals.{then-is_first+in_ok-add_variable, else-is_first}
use Rattle.list_lemmas.proofs.Bools.{not-false}
use Rattle.unifier.proofs.layout.Layout.with_variables.Goals as goal

pub add_variable-requires-clause-after : goal.add_variable-requires-clause-after
add_variable-requires-clause-after c =
    let codes : List ℕ = c.args.codes.now in
    let i : ℕ = c.loop-index.index in
    c.loop-index.invariant.exactly (λ w. nat_lt w (get_or codes i 0))
    ∙ above-earlier codes c.requires i c.loop-index-test.true
    (not-true (list_any (λ w. w == get_or codes i 0) (take i codes)) (sym c.is_first.ensures ∙ c.if-is_first.true))

pub loop-index-preserved : goal.loop-index-preserved
loop-index-preserved c =
    let codes : List ℕ = c.args.codes.now in
    let i : ℕ = c.loop-index.index in
    let more : take (i + 1) codes ≡ take i codes ++ get_or codes i 0 ∷ [] = take_more codes i 0 c.loop-index-test.true in
    elim c.if-is_first.branch [
      | then-is_first+in_ok-add_variable w ↦
          let P : Layout → Type 0 = λ l. HasVariables (take i codes ++ get_or codes i 0 ∷ []) l in
          subst (λ xs. HasVariables xs c.if-is_first.layout) (sym more)
          (subst P (sym w.layout-is)
          (more-variables (take i codes) (get_or codes i 0) c.loop-index.layout _ c.loop-index.invariant w.in_ok-add_variable.ensures))
      | else-is_first w ↦
          let P : Layout → Type 0 = λ l. HasVariables (take i codes ++ get_or codes i 0 ∷ []) l in
          subst (λ xs. HasVariables xs c.if-is_first.layout) (sym more)
          (subst P (sym w.layout-is)
          (same-variables (take i codes) (get_or codes i 0) c.loop-index.layout
          (not-false (list_any (λ w. w == get_or codes i 0) (take i codes)) (sym c.is_first.ensures ∙ w.if-is_first.false)) c.loop-index.invariant))
    ]
