use Rattle.std.proofs.Common.{◌+◌, ◌++◌, length, ap, ◌∙◌}
use Rattle.signature.specs.Symbol.{function_symbol}
use Rattle.signature.specs.Form.{numbered_symbols}
use Rattle.clausal_form.specs.Progress.{IsAddition}
use Rattle.clausal_form.proofs.AboutWriting.StepLemmas.{made-then}
use Rattle.clausal_form.proofs.form.add_formula.Goals as goal

pub returns-in-Err-clause-refused : goal.returns-in-Err-clause-refused
returns-in-Err-clause-refused c n m h k = c.in-Err.ensures.refused n c.args.prefix.now m h k

pub returns-clause-step : goal.returns-clause-step
returns-clause-step c n m h k =
    let added : IsAddition n c.args.annotated.now c.args.place m c.args.form.now c.add_clauses.new.form =
    c.in-Ok.ensures.added n c.args.prefix.now m h k in
    record {
      made =
          made-then n c.args.annotated.now c.args.prefix.now m c.args.form.now _ h added.skolem added.naming
          (c.in_ok-form-in-Ok.ensures.number ∙ ap (λ k. k + length c.as_slice-symbols.result.now) c.in-Ok.ensures.next
          ∙ ap (λ xs. c.args.form.now.next + length xs) (c.as_slice-symbols.ensures.value ∙ c.in-Ok.ensures.arities))
          (c.in_ok-form-in-Ok.ensures.added
          ∙ ap (λ known. known ++ numbered_symbols function_symbol c.args.prefix.now c.add_clauses.new.form.next c.as_slice-symbols.result.now)
          c.in-Ok.ensures.signature
          ∙ ap (λ k. c.args.form.now.signature ++ numbered_symbols function_symbol c.args.prefix.now k c.as_slice-symbols.result.now) c.in-Ok.ensures.next
          ∙ ap (λ xs. c.args.form.now.signature ++ numbered_symbols function_symbol c.args.prefix.now c.args.form.now.next xs)
          (c.as_slice-symbols.ensures.value ∙ c.in-Ok.ensures.arities))
          c.in-Ok.ensures.first;
      clauses = added.clauses;
      origins = added.origins;
      counted = added.counted;
      within = added.within;
    }
