use Rattle.std.proofs.Common.{Bool, true, false}
use Rattle.tptp_token.specs.TextTokens.{lexeme_of}
use Rattle.tptp_reader.specs.TellingNotes.{stack_of, GoesOn, EntersWith, EntersTooDeep, IsTooDeep}
use Rattle.tptp_reader.specs.declared.cause.Halt.{Halt}
use Rattle.tptp_reader.proofs.AboutReads.NotesReads.{entered-goes_on, entered-too_deep, popped-goes_on, nothing-popped, lent-closes}
use Rattle.list_lemmas.proofs.Results.{ok-then, err-then}
use Rattle.tptp_reader.proofs.source.Reader.note.Goals as goal

pub returns-then-not-closes_innermost-clause-goes_on : goal.returns-then-not-closes_innermost-clause-goes_on
returns-then-not-closes_innermost-clause-goes_on c =
    let limit = c.args.self.now.limit in
    let unclosed = stack_of c.args.unclosed.now.items in
    let behind = stack_of c.enter.new.unclosed.items in
    let token = lexeme_of c.args.token.now in
    let not_closing =
    lent-closes c.args.unclosed.now.items c.as_slice.result.now token c.closes_innermost.result false c.as_slice.ensures.value
    c.closes_innermost.ensures c.if-not-closes_innermost.true in
    ok-then c.enter.result (λ (goes : Bool). EntersWith limit unclosed token goes behind)
    (λ (goes : Bool). GoesOn limit unclosed token goes behind)
    (λ goes h. entered-goes_on limit unclosed behind token goes not_closing h) c.enter.ensures.goes_on

pub returns-then-not-closes_innermost-clause-halted : goal.returns-then-not-closes_innermost-clause-halted
returns-then-not-closes_innermost-clause-halted c =
    let limit = c.args.self.now.limit in
    let unclosed = stack_of c.args.unclosed.now.items in
    let token = lexeme_of c.args.token.now in
    let not_closing =
    lent-closes c.args.unclosed.now.items c.as_slice.result.now token c.closes_innermost.result false c.as_slice.ensures.value
    c.closes_innermost.ensures c.if-not-closes_innermost.true in
    err-then c.enter.result (λ (halt : Halt). EntersTooDeep limit unclosed token c.args.at halt)
    (λ (halt : Halt). IsTooDeep limit unclosed token c.args.at halt)
    (λ halt h. entered-too_deep limit unclosed token c.args.at halt not_closing h) c.enter.ensures.halted

pub returns-in-None-clause-goes_on : goal.returns-in-None-clause-goes_on
returns-in-None-clause-goes_on c =
    let token = lexeme_of c.args.token.now in
    nothing-popped c.args.self.now.limit _ c.args.unclosed.now.items c.pop.new.self.items token
    c.in-None.ensures.cases.0 c.in-None.ensures.rest c.in-None.ensures.items
    (lent-closes c.args.unclosed.now.items c.as_slice.result.now token c.closes_innermost.result true c.as_slice.ensures.value
    c.closes_innermost.ensures c.if-not-closes_innermost.false)

pub returns-in-Some-clause-goes_on : goal.returns-in-Some-clause-goes_on
returns-in-Some-clause-goes_on c =
    let token = lexeme_of c.args.token.now in
    popped-goes_on c.args.self.now.limit c.args.unclosed.now.items c.pop.new.self.items _ token c.in-Some.ensures.items
    (lent-closes c.args.unclosed.now.items c.as_slice.result.now token c.closes_innermost.result true c.as_slice.ensures.value
    c.closes_innermost.ensures c.if-not-closes_innermost.false)
