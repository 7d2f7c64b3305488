use Rattle.std.proofs.Common.{◌≡◌, ◌<◌, ◌^◌, ◌++◌, [], ◌∷◌, List, ap, sym, ◌∙◌, subst}
use Rattle.std.specs.Prelude.{ℕ, All}
use Rattle.std.proofs.lemmas.List.{map-append}
use Rattle.std.proofs.lemmas.List.Elements.{All-push}
use Rattle.pool_core.specs.Asserting.{asserted_by, tags_in}
use Rattle.clause_register.specs.Chained.{IsChained}
use Rattle.pool_core.specs.declared.tag_index.Assertion.{Assertion}
use Rattle.clause_register.proofs.ChainLemmas.{chain-push}
use Rattle.pool_core.proofs.tag_index.TagIndex.push.Goals as goal

pub invariant_of-self : goal.invariant_of-self
invariant_of-self c =
    let es : List Assertion = c.self.inside.entries.items in
    let e : Assertion = asserted_by c.args.number c.args.tag in
    let all : tags_in es ++ c.from.result ∷ [] ≡ tags_in c.push_reserved.new.self.items =
    ap (λ (k : ℕ). tags_in es ++ k ∷ []) c.from.ensures ∙ sym (map-append (λ (a : Assertion). a.tag) es (e ∷ [])) ∙ ap tags_in (sym c.push_reserved.ensures.items) in
    record {
      chained =
          subst (IsChained c.push.new.self) all
          (chain-push c.self.inside.chains c.push.new.self (tags_in es) c.from.result c.self.invariant.chained c.push.ensures.older c.push.ensures.newest);
      fit =
          subst (All (λ (a : Assertion). a.tag < 2 ^ 32)) (sym c.push_reserved.ensures.items)
          (All-push (λ (a : Assertion). a.tag < 2 ^ 32) es e c.self.invariant.fit (let below : c.args.tag < 2 ^ 32 = c.ranges.tag.fits in below));
    }
