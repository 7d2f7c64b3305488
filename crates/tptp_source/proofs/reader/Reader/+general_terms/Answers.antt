use Rattle.std.proofs.Common.{sym, ◌∙◌, refl, arith}
use Rattle.tptp_source.specs.Machine.{word_opens, dollar_opens}
use Rattle.tptp_source.proofs.AboutWholes.RunLemmas.{passed, leads-then, halts-after}
use Rattle.tptp_source.proofs.AboutParts.PartReads.{part-out, variable-read, distinct-read, unsigned-read, word-leads, dollar-leads, sign-leads, tilde-leads, bracket-leads, nothing-halts}
use Rattle.tptp_source.proofs.AboutParts.ItemReads.{alone-read, alone-halts, joined-read, joined-halts, parts-first, parts-more, parts-read, second-halts, further-halts, items-first, items-more, item-halts, first-halts, items-read, unclosed-halts, arguments-read, arguments-halt, no_arguments-read, empty_list-read, list-read, list-halts}
use Rattle.list_lemmas.proofs.Results.{ok-then, err-then}
use Rattle.tptp_source.proofs.reader.Reader.+general_terms.Goals as goal

pub arguments-returns-then-has_mark-clause-read : goal.arguments-returns-then-has_mark-clause-read
arguments-returns-then-has_mark-clause-read t c =
    ok-then _ _ _ (λ read h. arguments-read _ _ _ _ (c.has_mark.ensures.here c.if-has_mark.true) h) c.items.ensures.read

pub arguments-returns-then-has_mark-clause-halted : goal.arguments-returns-then-has_mark-clause-halted
arguments-returns-then-has_mark-clause-halted t c =
    err-then _ _ _ (λ halt h. arguments-halt _ _ _ (c.has_mark.ensures.here c.if-has_mark.true) h) c.items.ensures.halted

pub arguments-returns-clause-read : goal.arguments-returns-clause-read
arguments-returns-clause-read t c = no_arguments-read _ _ _ (c.has_mark.ensures.missing c.if-has_mark.false) c.new.ensures

pub list-returns-then-has_mark-clause-read : goal.list-returns-then-has_mark-clause-read
list-returns-then-has_mark-clause-read t c = empty_list-read _ _ _ (c.has_mark.ensures.here c.if-has_mark.true) c.new.ensures

pub list-returns-clause-read : goal.list-returns-clause-read
list-returns-clause-read t c =
    ok-then _ _ _ (λ read h. list-read _ _ _ _ (c.has_mark.ensures.missing c.if-has_mark.false) h) c.items.ensures.read

pub list-returns-clause-halted : goal.list-returns-clause-halted
list-returns-clause-halted t c =
    err-then _ _ _ (λ halt h. list-halts _ _ _ (c.has_mark.ensures.missing c.if-has_mark.false) h) c.items.ensures.halted

pub items-returns-in_err-first-clause-halted : goal.items-returns-in_err-first-clause-halted
items-returns-in_err-first-clause-halted t c =
    passed _ _ _ c.from_residual.ensures.1 (first-halts _ _ _ _ c.in_err-first.ensures.halted)

pub items-loop-alloc-init : goal.items-loop-alloc-init
items-loop-alloc-init t c =
    items-first _ _ _ _ _ _ _ c.new-items.ensures c.in_ok-push.ensures.ok c.in_ok-first.ensures.read c.in_ok-first.ensures.onward

pub items-returns-in_err-term-clause-halted : goal.items-returns-in_err-term-clause-halted
items-returns-in_err-term-clause-halted t c =
    passed _ _ _ c.from_residual-in_err-term.ensures.1
    (item-halts _ _ _ _ _ _ c.loop-alloc.invariant (c.has_mark.ensures.here c.loop-alloc-test.true) c.in_err-term.ensures.halted)

pub items-loop-alloc-preserved : goal.items-loop-alloc-preserved
items-loop-alloc-preserved t c =
    items-more _ _ _ _ _ _ _ _ c.loop-alloc.invariant (c.has_mark.ensures.here c.loop-alloc-test.true) c.in_ok-term.ensures.read
    c.in_ok-push-2.ensures.ok c.in_ok-term.ensures.onward

pub items-returns-then-not-has_mark-clause-halted : goal.items-returns-then-not-has_mark-clause-halted
items-returns-then-not-has_mark-clause-halted t c =
    unclosed-halts _ _ _ _ _ _ c.loop-alloc.invariant (c.has_mark.ensures.missing c.loop-alloc-test.false)
    (c.has_mark-2.ensures.missing c.if-not-has_mark.true) refl

pub items-returns-clause-read : goal.items-returns-clause-read
items-returns-clause-read t c = items-read _ _ _ _ _ c.loop-alloc.invariant (c.has_mark-2.ensures.here c.if-not-has_mark.false)

pub items-returns-clause-onward : goal.items-returns-clause-onward
items-returns-clause-onward t c = omega (arith, c.loop-alloc.invariant.onward)

pub joined-loop-alloc-init : goal.joined-loop-alloc-init
joined-loop-alloc-init t c =
    parts-first _ _ _ _ _ _ _ _ c.new-parts.ensures c.in_ok-push.ensures.ok c.in_ok-push-2.ensures.ok c.in_ok-second.ensures.read
    c.in_ok-second.ensures.onward

pub joined-returns-in_err-part-clause-halted : goal.joined-returns-in_err-part-clause-halted
joined-returns-in_err-part-clause-halted t c =
    passed _ _ _ c.from_residual-in_err-part.ensures.1
    (further-halts _ _ _ _ _ _ c.loop-alloc.invariant (c.has_mark.ensures.here c.loop-alloc-test.true) c.in_err-part.ensures.halted)

pub joined-returns-in_err-second-clause-halted : goal.joined-returns-in_err-second-clause-halted
joined-returns-in_err-second-clause-halted t c =
    passed _ _ _ c.from_residual-in_err-second.ensures.1 (second-halts _ _ _ _ c.in_err-second.ensures.halted)

pub joined-loop-alloc-preserved : goal.joined-loop-alloc-preserved
joined-loop-alloc-preserved t c =
    parts-more _ _ _ _ _ _ _ _ c.loop-alloc.invariant (c.has_mark.ensures.here c.loop-alloc-test.true) c.in_ok-part.ensures.read
    c.in_ok-push-3.ensures.ok c.in_ok-part.ensures.onward

pub joined-returns-clause-read : goal.joined-returns-clause-read
joined-returns-clause-read t c = parts-read _ _ _ _ _ c.loop-alloc.invariant (c.has_mark.ensures.missing c.loop-alloc-test.false)

pub joined-returns-clause-onward : goal.joined-returns-clause-onward
joined-returns-clause-onward t c = c.loop-alloc.invariant.onward

pub term-returns-then-has_mark-clause-read : goal.term-returns-then-has_mark-clause-read
term-returns-then-has_mark-clause-read t c =
    ok-then _ _ _ (λ read h. joined-read _ _ _ _ _ _ c.in_ok-first.ensures.read (c.has_mark.ensures.here c.if-has_mark.true) h)
    c.joined.ensures.read

pub term-returns-then-has_mark-clause-halted : goal.term-returns-then-has_mark-clause-halted
term-returns-then-has_mark-clause-halted t c =
    err-then _ _ _ (λ halt h. joined-halts _ _ _ _ _ c.in_ok-first.ensures.read (c.has_mark.ensures.here c.if-has_mark.true) h)
    c.joined.ensures.halted

pub term-returns-in_err-first-clause-halted : goal.term-returns-in_err-first-clause-halted
term-returns-in_err-first-clause-halted t c =
    passed _ _ _ c.from_residual.ensures.1 (alone-halts _ _ _ c.in_err-first.ensures.halted)

pub term-returns-clause-read : goal.term-returns-clause-read
term-returns-clause-read t c = alone-read _ _ _ _ c.in_ok-first.ensures.read (c.has_mark.ensures.missing c.if-has_mark.false)

pub part-returns-in_err-token-clause-halted : goal.part-returns-in_err-token-clause-halted
part-returns-in_err-token-clause-halted t c =
    passed _ _ _ c.from_residual.ensures.1 (part-out _ _ _ c.in_err-token.ensures.ended c.in_err-token.ensures.halt)

pub part-returns-in_err-arguments-in-Word-clause-halted : goal.part-returns-in_err-arguments-in-Word-clause-halted
part-returns-in_err-arguments-in-Word-clause-halted t c =
    passed _ _ _ c.from_residual-in_err-arguments-in-Word.ensures.1
    (halts-after _ _ _ _ _ _ (word-leads _ _ _ _ c.in_ok-token.ensures.found (sym c.in-Word.is ∙ c.of.ensures) c.in_ok-name-in-Word.ensures)
    (c.in_err-arguments-in-Word.ensures.halted.by (word_opens c.in_ok-name-in-Word.name) refl))

pub part-returns-in_err-arguments-in-Dollar-clause-halted : goal.part-returns-in_err-arguments-in-Dollar-clause-halted
part-returns-in_err-arguments-in-Dollar-clause-halted t c =
    passed _ _ _ c.from_residual-in_err-arguments-in-Dollar.ensures.1
    (halts-after _ _ _ _ _ _ (dollar-leads _ _ _ _ c.in_ok-token.ensures.found (sym c.in-Dollar.is ∙ c.of.ensures) c.in_ok-word-in-Dollar.ensures)
    (c.in_err-arguments-in-Dollar.ensures.halted.by (dollar_opens c.in_ok-word-in-Dollar.word) refl))

pub part-returns-in_err-items-in-Bracket-clause-halted : goal.part-returns-in_err-items-in-Bracket-clause-halted
part-returns-in_err-items-in-Bracket-clause-halted t c =
    passed _ _ _ c.from_residual-in_err-items-in-Bracket.ensures.1
    (halts-after _ _ _ _ _ _ (bracket-leads _ _ _ c.in_ok-token.ensures.found (sym c.in-Bracket.is ∙ c.of.ensures)) c.in_err-items-in-Bracket.ensures.halted)

pub part-returns-in_ok-from_slice-in-Variable-clause-read : goal.part-returns-in_ok-from_slice-in-Variable-clause-read
part-returns-in_ok-from_slice-in-Variable-clause-read t c =
    variable-read _ _ _ _ c.in_ok-token.ensures.found (sym c.in-Variable.is ∙ c.of.ensures) c.in_ok-from_slice-in-Variable.ensures

pub part-returns-in_ok-from_slice-in-Distinct-clause-read : goal.part-returns-in_ok-from_slice-in-Distinct-clause-read
part-returns-in_ok-from_slice-in-Distinct-clause-read t c =
    distinct-read _ _ _ _ c.in_ok-token.ensures.found (sym c.in-Distinct.is ∙ c.of.ensures) c.in_ok-from_slice-in-Distinct.ensures

pub part-returns-in_ok-number-in-Number-clause-read : goal.part-returns-in_ok-number-in-Number-clause-read
part-returns-in_ok-number-in-Number-clause-read t c =
    unsigned-read _ _ _ _ c.in_ok-token.ensures.found (sym c.in-Number.is ∙ c.of.ensures) c.in_ok-number-in-Number.ensures

pub part-returns-in-Sign-clause-read : goal.part-returns-in-Sign-clause-read
part-returns-in-Sign-clause-read t c =
    ok-then _ _ _ (λ read h. leads-then _ _ _ _ _ _ _ (sign-leads _ _ _ _ c.in_ok-token.ensures.found (sym c.in-Sign.is ∙ c.of.ensures)) h) c.number.ensures.read

pub part-returns-in-Sign-clause-halted : goal.part-returns-in-Sign-clause-halted
part-returns-in-Sign-clause-halted t c =
    err-then _ _ _ (λ halt h. halts-after _ _ _ _ _ _ (sign-leads _ _ _ _ c.in_ok-token.ensures.found (sym c.in-Sign.is ∙ c.of.ensures)) h) c.number.ensures.halted

pub part-returns-in-Tilde-clause-read : goal.part-returns-in-Tilde-clause-read
part-returns-in-Tilde-clause-read t c =
    ok-then _ _ _ (λ read h. leads-then _ _ _ _ _ _ _ (tilde-leads _ _ _ c.in_ok-token.ensures.found (sym c.in-Tilde.is ∙ c.of.ensures)) h) c.negated.ensures.read

pub part-returns-in-Tilde-clause-halted : goal.part-returns-in-Tilde-clause-halted
part-returns-in-Tilde-clause-halted t c =
    err-then _ _ _ (λ halt h. halts-after _ _ _ _ _ _ (tilde-leads _ _ _ c.in_ok-token.ensures.found (sym c.in-Tilde.is ∙ c.of.ensures)) h) c.negated.ensures.halted

pub part-returns-in_ok-arguments-in-Word-clause-read : goal.part-returns-in_ok-arguments-in-Word-clause-read
part-returns-in_ok-arguments-in-Word-clause-read t c =
    leads-then _ _ _ _ _ _ _ (word-leads _ _ _ _ c.in_ok-token.ensures.found (sym c.in-Word.is ∙ c.of.ensures) c.in_ok-name-in-Word.ensures)
    (c.in_ok-arguments-in-Word.ensures.read.by (word_opens c.in_ok-name-in-Word.name) refl)

pub part-returns-in_ok-arguments-in-Dollar-clause-read : goal.part-returns-in_ok-arguments-in-Dollar-clause-read
part-returns-in_ok-arguments-in-Dollar-clause-read t c =
    leads-then _ _ _ _ _ _ _ (dollar-leads _ _ _ _ c.in_ok-token.ensures.found (sym c.in-Dollar.is ∙ c.of.ensures) c.in_ok-word-in-Dollar.ensures)
    (c.in_ok-arguments-in-Dollar.ensures.read.by (dollar_opens c.in_ok-word-in-Dollar.word) refl)

pub part-returns-in_ok-items-in-Bracket-clause-read : goal.part-returns-in_ok-items-in-Bracket-clause-read
part-returns-in_ok-items-in-Bracket-clause-read t c =
    leads-then _ _ _ _ _ _ _ (bracket-leads _ _ _ c.in_ok-token.ensures.found (sym c.in-Bracket.is ∙ c.of.ensures)) c.in_ok-items-in-Bracket.ensures.read

pub part-returns-in-Nothing-clause-halted : goal.part-returns-in-Nothing-clause-halted
part-returns-in-Nothing-clause-halted t c = nothing-halts _ _ _ _ c.in_ok-token.ensures.found (sym c.in-Nothing.is ∙ c.of.ensures) refl
