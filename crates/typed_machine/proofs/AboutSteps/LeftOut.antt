-- A symbol that may be left out refuses no token.
use Rattle.std.proofs.Common.{◌≡◌, Bool, true, false, [], ◌∷◌, codes, refl, subst}
use Rattle.std.specs.Prelude.{if◌then◌else◌}
use Rattle.tptp_token.specs.Lexemes.{Lexeme, is_lexeme, is_mark, is_connective}
use Rattle.tptp_token.specs.declared.token.Kind.TheVariants.{Other}
use Rattle.tptp_tree.specs.Brackets.{round, square, curly}
use Rattle.tptp_tree.specs.Causes.{syntax, deeper, begun}
use Rattle.tptp_reader.specs.Machine.{Symbol, mark, a_term, maybe_arguments, more_arguments, maybe_applied, maybe_equation, an_equation, a_unit as plain_unit, maybe_connected as plain_connected, maybe_more_units as plain_units, a_literal, maybe_more_literals, more_notes, Step, takes as plain_takes, passes as plain_passes, stops as plain_stops, taken as plain_taken, step as plain_step, arguments, equation_step, is_binary_connective, is_sign_of_equation}
use Rattle.tptp_reader.proofs.AboutTexts.TokenTests.{choose as plain-choose}
use Rattle.tptp_reader.proofs.AboutSteps.HaltLemmas.{a_variable}
use Rattle.typed_tree.specs.TypedAnswers.{TypedRefusal}
use Rattle.typed_machine.specs.TypedMachine.{TypedSymbol, untyped_symbol, a_unit, maybe_connected, maybe_more_units, maybe_sort, a_sort_word, maybe_result, a_result, TypedStep, takes, passes, stops, taken, typed_step_of, step}
use Rattle.typed_machine.proofs.AboutSteps.RightSteps.{choose}

-- ---- symbols of untyped formulas

abbrev PlainGoes : Step → Type 0
PlainGoes (plain_takes new cause) = Unit {0}
PlainGoes plain_passes = Unit {0}
PlainGoes (plain_stops refusal) = ⊥

both-plain : (b : Bool) (x y : Step) → PlainGoes x → PlainGoes y → PlainGoes (if b then x else y)
both-plain b x y h k = plain-choose PlainGoes b x y (λ e. h) (λ e. k)

plain-goes : (a : Symbol) → plain_step a a_variable ≡ plain_passes → (t : Lexeme) → PlainGoes (plain_step a t)
plain-goes (maybe_arguments s) e t = both-plain (is_mark (codes "(") t) (plain_takes (arguments (deeper s)) (begun s)) plain_passes tt tt
plain-goes (maybe_applied b s) e t =
    both-plain (is_mark (codes "(") t) (plain_takes (a_term (deeper s) ∷ more_arguments (deeper s) ∷ maybe_equation b s ∷ []) (begun s))
    (equation_step b s plain_passes t) tt
    (both-plain (is_sign_of_equation b t) (plain_taken (a_term s ∷ [])) plain_passes tt tt)
plain-goes (maybe_equation b s) e t = both-plain (is_sign_of_equation b t) (plain_taken (a_term s ∷ [])) plain_passes tt tt
plain-goes (plain_connected s) e t =
    both-plain (is_connective (codes "&") t) (plain_taken (plain_unit s ∷ plain_units (codes "&") s ∷ [])) _ tt
    (both-plain (is_connective (codes "|") t) (plain_taken (plain_unit s ∷ plain_units (codes "|") s ∷ [])) _ tt
    (both-plain (is_binary_connective t) (plain_taken (plain_unit s ∷ [])) plain_passes tt tt))
plain-goes (plain_units sign s) e t = both-plain (is_connective sign t) (plain_taken (plain_unit s ∷ plain_units sign s ∷ [])) plain_passes tt tt
plain-goes (maybe_more_literals s) e t = both-plain (is_connective (codes "|") t) (plain_taken (a_literal s ∷ maybe_more_literals s ∷ [])) plain_passes tt tt
plain-goes (mark bytes) e t = absurd (let f : plain_stops syntax ≡ plain_passes = e in cc)
plain-goes (an_equation true s) e t = absurd (let f : plain_stops syntax ≡ plain_passes = e in cc)
plain-goes (an_equation false s) e t = absurd (let f : plain_stops syntax ≡ plain_passes = e in cc)
plain-goes (more_notes limit []) e t = absurd (cc)
plain-goes (more_notes limit (round ∷ bs)) e t = absurd (cc)
plain-goes (more_notes limit (square ∷ bs)) e t = absurd (cc)
plain-goes (more_notes limit (curly ∷ bs)) e t = absurd (cc)
plain-goes a e t = absurd (cc)

passes-back : (x : Step) → typed_step_of x ≡ passes → x ≡ plain_passes
passes-back (plain_takes new cause) e = absurd (cc)
passes-back plain_passes e = refl
passes-back (plain_stops refusal) e = absurd (cc)

plain-never : (x : Step) (r : TypedRefusal) → PlainGoes x → typed_step_of x ≡ stops r → ⊥
plain-never (plain_takes new cause) r h e = cc
plain-never plain_passes r h e = cc
plain-never (plain_stops refusal) r h e = h

-- ---- all symbols

abbrev Goes : TypedStep → Type 0
Goes (takes new cause) = Unit {0}
Goes passes = Unit {0}
Goes (stops refusal) = ⊥

both-go : (b : Bool) (x y : TypedStep) → Goes x → Goes y → Goes (if b then x else y)
both-go b x y h k = choose Goes b x y (λ e. h) (λ e. k)

pub left-out-never-stops : (a : TypedSymbol) (t : Lexeme) (r : TypedRefusal) → step a a_variable ≡ passes → step a t ≡ stops r → ⊥
left-out-never-stops (untyped_symbol a) t r e f =
    plain-never (plain_step a t) r (plain-goes a (passes-back (plain_step a a_variable) e) t) f
left-out-never-stops (maybe_connected s) t r e f =
    subst Goes f
    (both-go (is_connective (codes "&") t) (taken (a_unit s ∷ maybe_more_units (codes "&") s ∷ [])) _ tt
    (both-go (is_connective (codes "|") t) (taken (a_unit s ∷ maybe_more_units (codes "|") s ∷ [])) _ tt
    (both-go (is_binary_connective t) (taken (a_unit s ∷ [])) passes tt tt)))
left-out-never-stops (maybe_more_units sign s) t r e f =
    subst Goes f (both-go (is_connective sign t) (taken (a_unit s ∷ maybe_more_units sign s ∷ [])) passes tt tt)
left-out-never-stops maybe_sort t r e f = subst Goes f (both-go (is_mark (codes ":") t) (taken (a_sort_word ∷ [])) passes tt tt)
left-out-never-stops maybe_result t r e f =
    subst Goes f (both-go (is_lexeme Other (codes ">") t) (taken (a_result ∷ [])) passes tt tt)
left-out-never-stops a t r e f = cc
