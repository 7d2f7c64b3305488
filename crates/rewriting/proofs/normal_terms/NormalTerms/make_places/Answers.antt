use Rattle.std.specs.Prelude.{is_ok}
use Rattle.rewriting.proofs.AboutSearches.TableLemmas.{remembered-same, remembered-pushed}
use Rattle.rewriting.proofs.normal_terms.NormalTerms.make_places.Goals as goal

pub loop-place-init : goal.loop-place-init
loop-place-init c = λ t at. remembered-same c.args.self.now _ c.reserve.ensures.items t at

pub loop-place-preserved : goal.loop-place-preserved
loop-place-preserved c = λ t at. c.loop-place.invariant t (remembered-pushed _ _ (is_ok c.push.result) c.push.ensures.items t at)

pub returns-in_err-push : goal.returns-in_err-push
returns-in_err-push c = λ t at. c.loop-place.invariant t (remembered-pushed _ _ (is_ok c.push.result) c.push.ensures.items t at)
