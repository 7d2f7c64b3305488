use Rattle.std.proofs.Common.{◌≡◌, ℕ, suc, ◌+◌, ◌<◌, Bool, true, false, ◌&&◌, List, length, drop, drop-cons, get_or, ap, sym, ◌∙◌, arith}
use Rattle.std.specs.List.{list_all}
use Rattle.sat_core.specs.Clause.{literal_true, valuation_of}
use Rattle.pool_history.specs.Tags.{name_of_tag}
use Rattle.pool_core.proofs.splits.Splits.are_true.Goals as goal

step : (p : ℕ → Bool) (ts : List ℕ) (i : ℕ) → i < length ts → list_all p (drop i ts) ≡ (p (get_or ts i 0) && list_all p (drop (i + 1) ts))
step p ts i below =
    ap (list_all p) (drop-cons ts i 0 below) ∙ ap (λ k. p (get_or ts i 0) && list_all p (drop k ts)) (let e : suc i ≡ i + 1 = omega arith in e)

one-fails :
    (p : ℕ → Bool) (ts : List ℕ) (i : ℕ) (b : Bool)
    → i < length ts → list_all p (drop i ts) ≡ list_all p ts → b ≡ p (get_or ts i 0) → b ≡ false → false ≡ list_all p ts
one-fails p ts i b below so_far same fails =
    sym (sym so_far ∙ step p ts i below ∙ ap (λ b. b && list_all p (drop (i + 1) ts)) (sym same ∙ fails))

one-passes :
    (p : ℕ → Bool) (ts : List ℕ) (i : ℕ) (b : Bool)
    → i < length ts → list_all p (drop i ts) ≡ list_all p ts → b ≡ p (get_or ts i 0) → b ≡ true → list_all p (drop (i + 1) ts) ≡ list_all p ts
one-passes p ts i b below so_far same passes =
    sym (step p ts i below ∙ ap (λ b. b && list_all p (drop (i + 1) ts)) (sym same ∙ passes)) ∙ so_far

pub returns-then-not-is_true : goal.returns-then-not-is_true
returns-then-not-is_true c =
    one-fails (λ tag. literal_true (valuation_of c.args.self.now.model) (name_of_tag c.args.self.now.parts.parts tag)) c.args.tags.now c.loop-tag.tag-index
    c.is_true.result c.loop-tag-test.true c.loop-tag.invariant c.is_true.ensures c.if-not-is_true.true

pub loop-tag-preserved : goal.loop-tag-preserved
loop-tag-preserved c =
    one-passes (λ tag. literal_true (valuation_of c.args.self.now.model) (name_of_tag c.args.self.now.parts.parts tag)) c.args.tags.now c.loop-tag.tag-index
    c.is_true.result c.loop-tag-test.true c.loop-tag.invariant c.is_true.ensures c.if-not-is_true.false
