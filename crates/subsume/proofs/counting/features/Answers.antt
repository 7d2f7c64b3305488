use Rattle.std.proofs.Common.{◌≡◌, ℕ, ◌-◌, ◌^◌, ◌≤◌, ◌∷◌, [], Bool, true, false, List, min, ◌∙◌, ap, subst, arith}
use Rattle.fol_base.specs.Clause.{TreeLiteral, literal_size}
use Rattle.bank_clause.specs.Clause.{clause_at}
use Rattle.subsume.specs.Features.{measured}
use Rattle.subsume.proofs.AboutSearch.CountingLemmas.{measured-part, counted-few, four-pushed}
use Rattle.subsume.proofs.counting.features.Goals as goal

pub returns : goal.returns
returns c =
    let ls : List TreeLiteral = (clause_at c.args.clause.now).literals in
    let one : TreeLiteral → ℕ = λ k. 1 in
    let few = c.size.ensures.limit in
    let size = c.size.ensures.size in
    let exact : (p : Bool) (w : TreeLiteral → ℕ) (n : ℕ) → measured p w ls ≤ c.size.result → n ≡ min (measured p w ls) (2 ^ 64 - 1) → n ≡ measured p w ls =
    λ (p : Bool) (w : TreeLiteral → ℕ) (n : ℕ) (h : measured p w ls ≤ c.size.result) (e : n ≡ min (measured p w ls) (2 ^ 64 - 1)). omega (arith, few, h, e) in
    let count : (p : Bool) → measured p one ls ≤ c.size.result = λ (p : Bool). omega (arith, measured-part p one ls, counted-few ls, size) in
    let sizes : (p : Bool) → measured p literal_size ls ≤ c.size.result = λ (p : Bool). omega (arith, measured-part p literal_size ls, size) in
    c.from_vec.ensures
    ∙ four-pushed c.in_ok-features.features.items c.push.new.self.items c.push-2.new.self.items c.push-3.new.self.items c.push-4.new.self.items
    c.counts_of-positive.result.literals c.counts_of-negative.result.literals c.counts_of-positive.result.symbols c.counts_of-negative.result.symbols
    c.in_ok-features.ensures.items c.in_ok-push.ensures.items c.in_ok-push-2.ensures.items c.in_ok-push-3.ensures.items c.in_ok-push-4.ensures.items
    ∙ ap (λ (n : ℕ). n ∷ c.counts_of-negative.result.literals ∷ c.counts_of-positive.result.symbols ∷ c.counts_of-negative.result.symbols ∷ [])
    (exact true one c.counts_of-positive.result.literals (count true) (subst (λ ks. c.counts_of-positive.result.literals ≡ min (measured true one ks) (2 ^ 64 - 1)) c.lend-literals.ensures c.counts_of-positive.ensures.literals))
    ∙ ap (λ (n : ℕ). measured true one ls ∷ n ∷ c.counts_of-positive.result.symbols ∷ c.counts_of-negative.result.symbols ∷ [])
    (exact false one c.counts_of-negative.result.literals (count false) (subst (λ ks. c.counts_of-negative.result.literals ≡ min (measured false one ks) (2 ^ 64 - 1)) c.lend-literals.ensures c.counts_of-negative.ensures.literals))
    ∙ ap (λ (n : ℕ). measured true one ls ∷ measured false one ls ∷ n ∷ c.counts_of-negative.result.symbols ∷ [])
    (exact true literal_size c.counts_of-positive.result.symbols (sizes true) (subst (λ ks. c.counts_of-positive.result.symbols ≡ min (measured true literal_size ks) (2 ^ 64 - 1)) c.lend-literals.ensures c.counts_of-positive.ensures.symbols))
    ∙ ap (λ (n : ℕ). measured true one ls ∷ measured false one ls ∷ measured true literal_size ls ∷ n ∷ [])
    (exact false literal_size c.counts_of-negative.result.symbols (sizes false) (subst (λ ks. c.counts_of-negative.result.symbols ≡ min (measured false literal_size ks) (2 ^ 64 - 1)) c.lend-literals.ensures c.counts_of-negative.ensures.symbols))
