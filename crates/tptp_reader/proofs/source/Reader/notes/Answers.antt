use Rattle.std.proofs.Common.{true, false, ap}
use Rattle.tptp_token.specs.TextTokens.{lexeme_of}
use Rattle.tptp_reader.specs.TellingNotes.{stack_of}
use Rattle.tptp_reader.proofs.AboutRuns.LoopLemmas.{passed}
use Rattle.tptp_reader.proofs.AboutReads.NotesReads.{first-note, more-notes, notes-read, notes-refused, notes-cut_off, first-too_deep, notes-too_deep, first-refused, goes, lent-ends}
use Rattle.tptp_reader.proofs.source.Reader.notes.Goals as goal

pub returns-in_err-begins-clause-halted : goal.returns-in_err-begins-clause-halted
returns-in_err-begins-clause-halted c =
    passed _ _ _ c.from_residual-in_err-begins.ensures.1
    (first-too_deep _ _ _ _ _ c.in_ok-token.ensures.found (ap stack_of c.new-unclosed.ensures.items) c.in_err-begins.ensures.halted)

pub returns-then-not-begins-clause-halted : goal.returns-then-not-begins-clause-halted
returns-then-not-begins-clause-halted c =
    first-refused _ _ _ _ _ c.in_ok-token.ensures.found (ap stack_of c.new-unclosed.ensures.items)
    (goes _ _ _ _ _ _ c.if-not-begins.true c.in_ok-begins.ensures.goes_on)

pub loop-unclosed-init : goal.loop-unclosed-init
loop-unclosed-init c =
    let none = stack_of c.new-unclosed.result.items in
    let behind = stack_of c.note.new.unclosed.items in
    let token = lexeme_of c.in_ok-token.token in
    first-note c.args.self.now c.args.at token none behind c.in_ok-token.ensures.found (ap stack_of c.new-unclosed.ensures.items)
    (goes c.args.self.now.limit none behind token c.in_ok-begins.begins true c.if-not-begins.false c.in_ok-begins.ensures.goes_on)

pub returns-in_err-sign-clause-halted : goal.returns-in_err-sign-clause-halted
returns-in_err-sign-clause-halted c =
    passed _ _ _ c.from_residual-in_err-sign.ensures.1
    (notes-cut_off _ _ _ _ _ c.loop-unclosed.invariant c.in_err-sign.ensures.ended)

pub returns-in_err-goes_on-clause-halted : goal.returns-in_err-goes_on-clause-halted
returns-in_err-goes_on-clause-halted c =
    passed _ _ _ c.from_residual-in_err-goes_on.ensures.1
    (notes-too_deep _ _ _ _ _ _ c.loop-unclosed.invariant c.in_ok-sign.ensures.found c.in_err-goes_on.ensures.halted)

pub returns-then-ended-clause-read : goal.returns-then-ended-clause-read
returns-then-ended-clause-read c =
    let unclosed = stack_of c.loop-unclosed.unclosed.items in
    let behind = stack_of c.note-in-loop-unclosed.new.unclosed.items in
    let token = lexeme_of c.in_ok-sign.sign in
    notes-read c.args.self.now c.args.at c.loop-unclosed.next unclosed behind token c.loop-unclosed.invariant c.in_ok-sign.ensures.found
    (goes c.args.self.now.limit unclosed behind token c.in_ok-goes_on.goes_on false c.if-not-goes_on.true c.in_ok-goes_on.ensures.goes_on)
    (lent-ends c.note-in-loop-unclosed.new.unclosed.items c.as_slice.result.now token c.ends_notes-ended.result true
    c.as_slice.ensures.value c.ends_notes-ended.ensures c.if-ended.true)

pub returns-then-not-goes_on-clause-halted : goal.returns-then-not-goes_on-clause-halted
returns-then-not-goes_on-clause-halted c =
    let unclosed = stack_of c.loop-unclosed.unclosed.items in
    let behind = stack_of c.note-in-loop-unclosed.new.unclosed.items in
    let token = lexeme_of c.in_ok-sign.sign in
    notes-refused c.args.self.now c.args.at c.loop-unclosed.next unclosed behind token c.loop-unclosed.invariant c.in_ok-sign.ensures.found
    (goes c.args.self.now.limit unclosed behind token c.in_ok-goes_on.goes_on false c.if-not-goes_on.true c.in_ok-goes_on.ensures.goes_on)
    (lent-ends c.note-in-loop-unclosed.new.unclosed.items c.as_slice.result.now token c.ends_notes-ended.result false
    c.as_slice.ensures.value c.ends_notes-ended.ensures c.if-ended.false)

pub loop-unclosed-preserved : goal.loop-unclosed-preserved
loop-unclosed-preserved c =
    let unclosed = stack_of c.loop-unclosed.unclosed.items in
    let behind = stack_of c.note-in-loop-unclosed.new.unclosed.items in
    let token = lexeme_of c.in_ok-sign.sign in
    more-notes c.args.self.now c.args.at c.loop-unclosed.next unclosed behind token c.loop-unclosed.invariant c.in_ok-sign.ensures.found
    (goes c.args.self.now.limit unclosed behind token c.in_ok-goes_on.goes_on true c.if-not-goes_on.false c.in_ok-goes_on.ensures.goes_on)
