use Rattle.std.proofs.Common.{sym}
use Rattle.clausal_form.specs.Naming.{naming_made, naming_numbers}
use Rattle.clausal_form.proofs.AboutForms.ResultLemmas.{ok-both}
use Rattle.clausal_form.proofs.AboutNaming.NamingLemmas.{large-so, longer-so, work-first}
use Rattle.clausal_form.proofs.naming.multiplied.Goals as goal

pub returns-clause-work : goal.returns-clause-work
returns-clause-work c =
    ok-both c.written_out-2.result
    (λ _ h k.
    work-first (naming_numbers c.args.naming.now.first) c.args.made _ (naming_made c.args.naming.now) _ _ _ _ _ _
    (large-so _ _ _ _ _ c.requires.first c.requires.second (sym c.if-not-is_large.ensures))
    (longer-so _ _ _ _ c.requires.first c.requires.second c.if-first-second.false)
    c.in_ok-name-2.ensures.work h k)
    c.written_out-2.ensures.clauses c.written_out-2.ensures.measured
