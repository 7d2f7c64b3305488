-- The faults of a problem, on small files: a cause of each kind that a whole problem has.
use Rattle.std.specs.Prelude.{suc, None, Some, [], codes}
use Rattle.tptp_token.specs.declared.limits.TheConstants.{MOST_TEXT_BYTES}
use Rattle.tptp_reader.specs.declared.cause.ReadCause.TheVariants.{Unclosed, Syntax, SecondConjecture, IncludeDepth, TooLong}
use Rattle.tptp_problem.specs.Problem.{IsProblemFault}
use Rattle.tptp_problem.specs.SpelledExamples.{holding}

-- The second of two conjectures is refused, at its role.
abbrev pub TwoConjectures : Type 0
TwoConjectures =
    IsProblemFault (Some (holding (codes "a") (codes "fof(b,conjecture,p).fof(c,conjecture,q).") [] [])) 0 (codes "a") None SecondConjecture (codes "a") 26

-- A file that includes itself is refused at the include that is too deep.
abbrev pub IncludesItself : Type 0
IncludesItself =
    IsProblemFault (Some (holding (codes "a") (codes "include(a).") [] [])) 0 (codes "a") None IncludeDepth (codes "a") 0

-- one byte over the limit was found, in a file of which nothing else is told
abbrev pub TooManyBytes : Type 0
TooManyBytes = IsProblemFault None (suc MOST_TEXT_BYTES) (codes "a") None TooLong (codes "a") 0

-- The text ends within an include.
abbrev pub IncludeCutOff : Type 0
IncludeCutOff =
    IsProblemFault (Some (holding (codes "a") (codes "include(f") [] [])) 0 (codes "a") None Syntax (codes "a") 9

-- after the last token a quoted word without an end
abbrev pub QuoteLeftOpen : Type 0
QuoteLeftOpen =
    IsProblemFault (Some (holding (codes "a") (codes " 'b") [] [])) 0 (codes "a") None Unclosed (codes "a") 1
