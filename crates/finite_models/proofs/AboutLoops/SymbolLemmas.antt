-- The clauses of one symbol.
use Rattle.std.proofs.Common.{◌≡◌, ℕ, suc, ◌+◌, ◌*◌, ◌^◌, true, List, if◌then◌else◌, ap, sym, ◌∙◌, subst, arith}
use Rattle.std.proofs.Math.Nat.{pow-succ'}
use Rattle.sat_core.specs.Clause.{PropClause, Valuation}
use Rattle.signature.specs.declared.symbol.Symbol.{Symbol}
use Rattle.signature.specs.declared.symbol.SymbolKind.TheVariants.{Predicate, Function}
use Rattle.signature.specs.Symbol.{is_predicate_kind}
use Rattle.finite_models.specs.EntryNames.{entry_count}
use Rattle.finite_models.specs.Translation.{Adds, is_function, one_symbol_true}

pub predicate-holds :
    (size first : ℕ) (s : Symbol) (valuation : Valuation) → s.kind ≡ Predicate → one_symbol_true size first s valuation ≡ true
predicate-holds size first s valuation e = ap (λ k. if is_predicate_kind k then true else is_function size first (size ^ s.arity) valuation) e

pub function-count :
    (size : ℕ) (s : Symbol) (rows : ℕ) → s.kind ≡ Function → rows ≡ size ^ s.arity → entry_count size s ≡ size * rows
function-count size s rows e r =
    let more : s.arity + 1 ≡ suc s.arity = omega arith in
    ap (λ k. size ^ (if is_predicate_kind k then s.arity else s.arity + 1)) e
    ∙ ap (λ k. size ^ k) more
    ∙ pow-succ' size s.arity
    ∙ ap (λ k. size * k) (sym r)

pub function-holds :
    (size first : ℕ) (s : Symbol) (rows : ℕ) (old new : List PropClause)
    → s.kind ≡ Function → rows ≡ size ^ s.arity → Adds (first + size * rows) old new (is_function size first rows)
    → Adds (first + entry_count size s) old new (one_symbol_true size first s)
function-holds size first s rows old new e r h =
    subst (λ (k : ℕ). Adds (first + k) old new (one_symbol_true size first s)) (sym (function-count size s rows e r))
    (record {
      added = h.added;
      appended = h.appended;
      truth = λ valuation.
          h.truth valuation
          ∙ ap (λ k. is_function size first k valuation) r
          ∙ sym (ap (λ k. if is_predicate_kind k then true else is_function size first (size ^ s.arity) valuation) e);
      below = h.below;
    })
