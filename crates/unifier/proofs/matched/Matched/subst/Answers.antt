use Rattle.std.proofs.Common.{◌≡◌, ◌++◌, ◌∷◌, [], map, ap, ap₂, subst, sym, ◌∙◌, arith}
use Rattle.std.proofs.lemmas.List.{map-append}
use Rattle.fol_base.specs.Canonical.{terms_from}
use Rattle.fol_base.specs.Term.{tree_of}
use Rattle.fol_base.proofs.AboutCanonical.CanonicalLemmas.{terms_from_more}
use Rattle.unifier.specs.Matching.{NoVariableTwice, by_pairs}
use Rattle.unifier.proofs.AboutMatching.MatchLemmas.{HasPairs-subst}
use Rattle.unifier.proofs.matched.Matched.subst.Goals as goal

pub loop-variable-preserved : goal.loop-variable-preserved
loop-variable-preserved c =
    ap (map tree_of) c.in_ok-push.ensures.items
    ∙ map-append tree_of c.loop-variable.items.items (c.in_ok-term_or_variable.field-0 ∷ [])
    ∙ ap₂ (λ ts t. ts ++ t ∷ []) c.loop-variable.invariant c.in_ok-term_or_variable.ensures
    ∙ sym (terms_from_more c.loop-variable.variable (by_pairs c.args.self.now))

pub returns-clause-pairs : goal.returns-clause-pairs
returns-clause-pairs c =
    let whole : c.loop-variable.variable ≡ c.args.count = omega arith in
    HasPairs-subst c.args.count c.args.self.now c.from_vec.result
    (subst NoVariableTwice c.self.view_is c.self.invariant)
    c.requires
    (c.from_vec.ensures ∙ c.loop-variable.invariant ∙ ap (λ n. terms_from 0 n (by_pairs c.args.self.now)) whole)
