-- Steps of reading notes.
use Rattle.std.proofs.Common.{◌≡◌, ℕ, ◌+◌, Bool, true, false, not, List, [], ◌∷◌, ◌++◌, map, drop, length, take, ◌-◌, nat_lt, reverse, codes, Option, None, Some, refl, sym, ap, ap₂, ◌∙◌, arith, subst, append_assoc}
use Rattle.std.proofs.lemmas.List.{map-append, reverse-append, length-reverse, length-map}
use Rattle.std.proofs.lemmas.Bool.{false≢true}
use Rattle.tptp_token.specs.Lexemes.{Lexeme, is_mark, lexeme}
use Rattle.tptp_token.specs.declared.token.Kind.TheVariants.{Mark, Other}
use Rattle.tptp_tree.specs.Brackets.{Bracket, round, square, curly, closes, opened, is_closing, open_after, open_behind, is_nothing_open}
use Rattle.tptp_tree.specs.Causes.{syntax}
use Rattle.tptp_reader.specs.Machine.{Symbol, mark, first_note, more_notes, note_step, end_of_notes_step, Step, takes, stops, step}
use Rattle.tptp_reader.specs.Telling.{lexemes, IsNext, Leads, Ends}
use Rattle.tptp_reader.specs.TellingNotes.{bracket_of, stack_of, closes_first, GoesOn, IsTooDeep, is_end_of_notes, ReadsNotes, EntersWith, EntersTooDeep}
use Rattle.tptp_reader.specs.declared.source.Reader.{Reader}
use Rattle.tptp_reader.specs.declared.cause.Halt.{Halt}
use Rattle.tptp_reader.specs.declared.cause.Halt.TheVariants.{NoMemory, At, Ended}
use Rattle.tptp_reader.specs.declared.cause.Refusal.{Refusal as ToldRefusal}
use Rattle.tptp_reader.specs.declared.cause.Refusal.TheVariants.{Syntax, Nesting}
use Rattle.tptp_reader.specs.declared.notes.Bracket.{Bracket as ToldBracket}
use Rattle.tptp_reader.proofs.AboutTexts.TellingLemmas.{takes-leads, fault-ends, stop-ends, leads-then, ends-after, memory-ends, halt-is}
use Rattle.tptp_reader.proofs.AboutSteps.AtomSteps.{lexeme-is}
use Rattle.tptp_reader.proofs.AboutRuns.LoopLemmas.{mark-is, next-is}

-- ---- brackets of a vector

pub stack-push : (xs : List ToldBracket) (x : ToldBracket) → stack_of (xs ++ x ∷ []) ≡ bracket_of x ∷ stack_of xs
stack-push xs x =
    ap reverse (map-append bracket_of xs (x ∷ [])) ∙ reverse-append (map bracket_of xs) (bracket_of x ∷ [])

pub stack-length : (xs : List ToldBracket) → length (stack_of xs) ≡ length xs
stack-length xs = length-reverse (map bracket_of xs) ∙ length-map xs bracket_of

-- ---- a token that doesn't close the innermost bracket

pub enters-none :
    (limit : ℕ) (unclosed behind : List Bracket) (t : Lexeme) (b : Bool)
    → None ≡ opened t → b ≡ is_closing t → behind ≡ unclosed → EntersWith limit unclosed t (not b) behind
enters-none limit unclosed behind t true o c e = (rw (sym o, sym c) refl, e)
enters-none limit unclosed behind t false o c e = (rw (sym o, sym c) (ap Some (sym e)), rw (sym o) refl)

room-stack :
    (limit : ℕ) (items lent : List ToldBracket) (room : Bool)
    → lent ≡ items → room ≡ nat_lt (length lent) limit → nat_lt (length (stack_of items)) limit ≡ room
room-stack limit items lent room e h = ap (λ n. nat_lt n limit) (stack-length items ∙ ap length (sym e)) ∙ sym h

pub enters-some :
    (limit : ℕ) (items lent new : List ToldBracket) (t : Lexeme) (b : ToldBracket) (room : Bool)
    → Some (bracket_of b) ≡ opened t → lent ≡ items → room ≡ nat_lt (length lent) limit → room ≡ true
    → new ≡ items ++ b ∷ [] → EntersWith limit (stack_of items) t true (stack_of new)
enters-some limit items lent new t b room o e h v g =
    (rw (sym o) (ap Some (sym (ap stack_of g ∙ stack-push items b))), rw (sym o) (rw (room-stack limit items lent room e h ∙ v) refl))

pub enters-too_deep :
    (limit : ℕ) (items lent : List ToldBracket) (t : Lexeme) (b : ToldBracket) (index : ℕ) (room : Bool)
    → Some (bracket_of b) ≡ opened t → lent ≡ items → room ≡ nat_lt (length lent) limit → room ≡ false
    → EntersTooDeep limit (stack_of items) t index (At Nesting index)
enters-too_deep limit items lent t b index room o e h v =
    (refl, refl, (bracket_of b ∷ stack_of items, rw (sym o) refl, rw (sym o) (rw (room-stack limit items lent room e h ∙ v) refl)))

-- ---- a token of notes

pub entered-goes_on :
    (limit : ℕ) (unclosed behind : List Bracket) (t : Lexeme) (goes : Bool)
    → closes_first unclosed t ≡ false → EntersWith limit unclosed t goes behind → GoesOn limit unclosed t goes behind
entered-goes_on limit [] behind t true c h = h
entered-goes_on limit [] behind t false c h = h
entered-goes_on limit (b ∷ bs) behind t true c h = (rw c h.0, h.1)
entered-goes_on limit (b ∷ bs) behind t false c h = (rw c h.0, h.1)

pub entered-too_deep :
    (limit : ℕ) (unclosed : List Bracket) (t : Lexeme) (index : ℕ) (halt : Halt)
    → closes_first unclosed t ≡ false → EntersTooDeep limit unclosed t index halt → IsTooDeep limit unclosed t index halt
entered-too_deep limit [] t index NoMemory c h = tt
entered-too_deep limit [] t index (At refusal place) c h = h
entered-too_deep limit [] t index Ended c h = h
entered-too_deep limit (b ∷ bs) t index NoMemory c h = tt
entered-too_deep limit (b ∷ bs) t index (At refusal place) c h = (h.0, h.1, (h.2.0, rw c h.2.1, h.2.2))
entered-too_deep limit (b ∷ bs) t index Ended c h = h

closing-opens_none : (b : Bracket) (t : Lexeme) → closes b t ≡ true → opened t ≡ None
closing-opens_none round t h = ap opened (lexeme-is Mark (codes ")") t h)
closing-opens_none square t h = ap opened (lexeme-is Mark (codes "]") t h)
closing-opens_none curly t h = ap opened (lexeme-is Other (codes "}") t h)

closed-goes_on :
    (limit : ℕ) (bs : List Bracket) (b : Bracket) (t : Lexeme) → closes b t ≡ true → GoesOn limit (b ∷ bs) t true bs
closed-goes_on limit bs b t c = (rw c refl, rw (closing-opens_none b t c) refl)

-- the innermost bracket is closed, and taken off
pub popped-goes_on :
    (limit : ℕ) (old new : List ToldBracket) (x : ToldBracket) (t : Lexeme)
    → old ≡ new ++ x ∷ [] → closes_first (stack_of old) t ≡ true → GoesOn limit (stack_of old) t true (stack_of new)
popped-goes_on limit old new x t e h =
    let same : stack_of old ≡ bracket_of x ∷ stack_of new = ap stack_of e ∙ stack-push new x in
    subst (λ (u : List Bracket). GoesOn limit u t true (stack_of new)) (sym same)
    (closed-goes_on limit (stack_of new) (bracket_of x) t (ap (λ u. closes_first u t) (sym same) ∙ h))

pub nothing-popped :
    (limit n : ℕ) (old new : List ToldBracket) (t : Lexeme)
    → n ≡ 0 → new ≡ take (n - 1) old → old ≡ new ++ [] → closes_first (stack_of old) t ≡ true
    → GoesOn limit (stack_of old) t true (stack_of new)
nothing-popped limit n old new t e g k h =
    let none : new ≡ [] = g ∙ ap (λ m. take (m - 1) old) e in
    let empty : old ≡ [] = k ∙ ap (λ (xs : List ToldBracket). xs ++ []) none in
    absurd (false≢true (ap (λ xs. closes_first (stack_of xs) t) (sym empty) ∙ h))

pub last-closes :
    (lent rest : List ToldBracket) (x : ToldBracket) (t : Lexeme) (b : Bool)
    → lent ≡ rest ++ x ∷ [] → b ≡ closes (bracket_of x) t → b ≡ closes_first (stack_of lent) t
last-closes lent rest x t b e h = h ∙ ap (λ u. closes_first u t) (sym (ap stack_of e ∙ stack-push rest x))

-- ---- the end of notes

reverse-some : (y : Bracket) (ys : List Bracket) (t : Lexeme) (zs : List Bracket) → length zs ≡ length (y ∷ ys) → is_end_of_notes zs t ≡ false
reverse-some y ys t [] h = absurd (omega (arith, h))
reverse-some y ys t (z ∷ zs) h = refl

pub some-no_end : (x : ToldBracket) (xs : List ToldBracket) (t : Lexeme) → is_end_of_notes (stack_of (x ∷ xs)) t ≡ false
some-no_end x xs t =
    reverse-some (bracket_of x) (map bracket_of xs) t (stack_of (x ∷ xs)) (length-reverse (map bracket_of (x ∷ xs)))

-- ---- notes

pub record NotesSoFar (r : Reader) (at next : ℕ) (unclosed : List Bracket) : Type 0 where
  pub first : Lexeme
  pub others : List Lexeme
  pub spelled : drop at (lexemes r) ≡ (first ∷ others) ++ drop next (lexemes r)
  pub behind : open_behind (Some []) (first ∷ others) ≡ Some unclosed
  pub leads : Leads r (first_note r.limit ∷ []) at (more_notes r.limit unclosed ∷ []) next

note-leads :
    (r : Reader) (at : ℕ) (x : Symbol) (otherwise : Step) (t : Lexeme) (unclosed behind : List Bracket)
    → IsNext r at t → step x t ≡ note_step r.limit unclosed (open_after unclosed t) otherwise t
    → GoesOn r.limit unclosed t true behind
    → Leads r (x ∷ []) at (more_notes r.limit behind ∷ []) (at + 1)
note-leads r at x otherwise t unclosed behind n e g =
    takes-leads r at x t (more_notes r.limit behind ∷ []) n
    (e ∙ ap (λ o. note_step r.limit unclosed o otherwise t) g.0 ∙ ap (takes (more_notes r.limit behind ∷ [])) g.1)

pub first-note :
    (r : Reader) (at : ℕ) (t : Lexeme) (none behind : List Bracket)
    → IsNext r at t → none ≡ [] → GoesOn r.limit none t true behind → NotesSoFar r at (at + 1) behind
first-note r at t none behind n e g =
    let here : GoesOn r.limit [] t true behind = subst (λ (u : List Bracket). GoesOn r.limit u t true behind) e g in
    record {
      first = t;
      others = [];
      spelled = n.here;
      behind = ap (λ o. open_behind o []) here.0;
      leads = note-leads r at (first_note r.limit) (stops syntax) t [] behind n refl here;
    }

behind-more :
    (o : Option (List Bracket)) (ts : List Lexeme) (unclosed behind : List Bracket) (t : Lexeme)
    → open_behind o ts ≡ Some unclosed → open_after unclosed t ≡ Some behind → open_behind o (ts ++ t ∷ []) ≡ Some behind
behind-more None [] unclosed behind t h g = cc
behind-more None (u ∷ us) unclosed behind t h g = cc
behind-more (Some v) [] unclosed behind t h g =
    let same : v ≡ unclosed = cc in
    ap (λ w. open_behind (open_after w t) []) same ∙ ap (λ o. open_behind o []) g
behind-more (Some v) (u ∷ us) unclosed behind t h g = behind-more (open_after v u) us unclosed behind t h g

pub more-notes :
    (r : Reader) (at next : ℕ) (unclosed behind : List Bracket) (t : Lexeme)
    → NotesSoFar r at next unclosed → IsNext r next t → GoesOn r.limit unclosed t true behind
    → NotesSoFar r at (next + 1) behind
more-notes r at next unclosed behind t s n g =
    record {
      first = s.first;
      others = s.others ++ t ∷ [];
      spelled =
          s.spelled ∙ ap (λ us. (s.first ∷ s.others) ++ us) n.here
          ∙ sym (append_assoc (s.first ∷ s.others) (t ∷ []) (drop (next + 1) (lexemes r)));
      behind = behind-more (Some []) (s.first ∷ s.others) unclosed behind t s.behind g.0;
      leads =
          leads-then r (first_note r.limit ∷ []) (more_notes r.limit unclosed ∷ []) (more_notes r.limit behind ∷ []) at next (next + 1) s.leads
          (note-leads r next (more_notes r.limit unclosed) (end_of_notes_step unclosed t) t unclosed behind n refl g);
    }

stopped-step :
    (limit : ℕ) (unclosed behind : List Bracket) (t : Lexeme)
    → GoesOn limit unclosed t false behind → step (more_notes limit unclosed) t ≡ end_of_notes_step unclosed t
stopped-step limit unclosed behind t g = ap (λ o. note_step limit unclosed o (end_of_notes_step unclosed t) t) g.0

end-is : (unclosed : List Bracket) (t : Lexeme) → is_end_of_notes unclosed t ≡ true → (unclosed ≡ []) × (is_mark (codes ")") t ≡ true)
end-is [] t h = (refl, h)
end-is (b ∷ bs) t h = absurd (false≢true h)

pub notes-read :
    (r : Reader) (at next : ℕ) (unclosed behind : List Bracket) (t : Lexeme)
    → NotesSoFar r at next unclosed → IsNext r next t → GoesOn r.limit unclosed t false behind
    → is_end_of_notes behind t ≡ true → ReadsNotes r at next
notes-read r at next unclosed behind t s n g h =
    let end = end-is unclosed t (subst (λ (u : List Bracket). is_end_of_notes u t ≡ true) g.1 h) in
    record {
      first = s.first;
      others = s.others;
      balanced = ap is_nothing_open (s.behind ∙ ap Some end.0);
      spelled = s.spelled;
      closed = next-is r next t (lexeme Mark (codes ")")) n (mark-is (codes ")") t end.1);
      leads =
          leads-then r (first_note r.limit ∷ []) (more_notes r.limit unclosed ∷ []) (mark (codes ".") ∷ []) at next (next + 1) s.leads
          (takes-leads r next (more_notes r.limit unclosed) t (mark (codes ".") ∷ []) n
          (stopped-step r.limit unclosed behind t g ∙ ap (λ u. end_of_notes_step u t) end.0 ∙ rw end.1 refl));
    }

no_end-step : (unclosed : List Bracket) (t : Lexeme) → is_end_of_notes unclosed t ≡ false → end_of_notes_step unclosed t ≡ stops syntax
no_end-step [] t h = rw h refl
no_end-step (b ∷ bs) t h = refl

pub notes-refused :
    (r : Reader) (at next : ℕ) (unclosed behind : List Bracket) (t : Lexeme)
    → NotesSoFar r at next unclosed → IsNext r next t → GoesOn r.limit unclosed t false behind
    → is_end_of_notes behind t ≡ false → Ends r (first_note r.limit ∷ []) at (At Syntax next)
notes-refused r at next unclosed behind t s n g h =
    ends-after r (first_note r.limit ∷ []) (more_notes r.limit unclosed ∷ []) at next (At Syntax next) s.leads
    (stop-ends r next (more_notes r.limit unclosed) t Syntax n
    (stopped-step r.limit unclosed behind t g
    ∙ no_end-step unclosed t (subst (λ (u : List Bracket). is_end_of_notes u t ≡ false) g.1 h)))

pub notes-cut_off :
    (r : Reader) (at next : ℕ) (unclosed : List Bracket) (halt : Halt)
    → NotesSoFar r at next unclosed → ((x : Symbol) → Ends r (x ∷ []) next halt) → Ends r (first_note r.limit ∷ []) at halt
notes-cut_off r at next unclosed halt s ends =
    ends-after r (first_note r.limit ∷ []) (more_notes r.limit unclosed ∷ []) at next halt s.leads (ends (more_notes r.limit unclosed))

-- a token that begins a level over the limit
deep-ends :
    (r : Reader) (at : ℕ) (x : Symbol) (otherwise : Step) (t : Lexeme) (unclosed : List Bracket) (halt : Halt)
    → IsNext r at t → step x t ≡ note_step r.limit unclosed (open_after unclosed t) otherwise t
    → IsTooDeep r.limit unclosed t at halt → Ends r (x ∷ []) at halt
deep-ends r at x otherwise t unclosed NoMemory n e h = memory-ends r (x ∷ []) at NoMemory refl
deep-ends r at x otherwise t unclosed (At refusal place) n e h =
    let same : (let g : Halt = At refusal place in g) ≡ At Nesting at = ap₂ (λ (f : ToldRefusal) (p : ℕ). At f p) h.0 h.1 in
    halt-is r (x ∷ []) at (At refusal place) (At Nesting at) same
    (fault-ends r at x t (more_notes r.limit h.2.0 ∷ []) Nesting n
    (e ∙ ap (λ o. note_step r.limit unclosed o otherwise t) h.2.1 ∙ ap (takes (more_notes r.limit h.2.0 ∷ [])) h.2.2))
deep-ends r at x otherwise t unclosed Ended n e h = absurd h

pub first-too_deep :
    (r : Reader) (at : ℕ) (t : Lexeme) (none : List Bracket) (halt : Halt)
    → IsNext r at t → none ≡ [] → IsTooDeep r.limit none t at halt → Ends r (first_note r.limit ∷ []) at halt
first-too_deep r at t none halt n e h =
    deep-ends r at (first_note r.limit) (stops syntax) t [] halt n refl
    (subst (λ (u : List Bracket). IsTooDeep r.limit u t at halt) e h)

pub notes-too_deep :
    (r : Reader) (at next : ℕ) (unclosed : List Bracket) (t : Lexeme) (halt : Halt)
    → NotesSoFar r at next unclosed → IsNext r next t → IsTooDeep r.limit unclosed t next halt
    → Ends r (first_note r.limit ∷ []) at halt
notes-too_deep r at next unclosed t halt s n h =
    ends-after r (first_note r.limit ∷ []) (more_notes r.limit unclosed ∷ []) at next halt s.leads
    (deep-ends r next (more_notes r.limit unclosed) (end_of_notes_step unclosed t) t unclosed halt n refl h)

pub first-refused :
    (r : Reader) (at : ℕ) (t : Lexeme) (none behind : List Bracket)
    → IsNext r at t → none ≡ [] → GoesOn r.limit none t false behind → Ends r (first_note r.limit ∷ []) at (At Syntax at)
first-refused r at t none behind n e g =
    let here : GoesOn r.limit [] t false behind = subst (λ (u : List Bracket). GoesOn r.limit u t false behind) e g in
    stop-ends r at (first_note r.limit) t Syntax n (ap (λ o. note_step r.limit [] o (stops syntax) t) here.0)

-- by whether a token goes on
pub goes : (limit : ℕ) (unclosed behind : List Bracket) (t : Lexeme) (b v : Bool) → b ≡ v → GoesOn limit unclosed t b behind → GoesOn limit unclosed t v behind
goes limit unclosed behind t b v e h = subst (λ (w : Bool). GoesOn limit unclosed t w behind) e h

-- ---- slices of brackets

pub none-closes : (lent : List ToldBracket) (t : Lexeme) → length lent ≡ 0 → false ≡ closes_first (stack_of lent) t
none-closes [] t h = refl
none-closes (x ∷ xs) t h = absurd (omega (arith, h))

pub none-end : (lent : List ToldBracket) (t : Lexeme) (b : Bool) → length lent ≡ 0 → b ≡ is_mark (codes ")") t → b ≡ is_end_of_notes (stack_of lent) t
none-end [] t b h g = g
none-end (x ∷ xs) t b h g = absurd (omega (arith, h))

pub some-end : (lent rest : List ToldBracket) (x : ToldBracket) (t : Lexeme) → lent ≡ x ∷ rest → false ≡ is_end_of_notes (stack_of lent) t
some-end lent rest x t e = sym (ap (λ xs. is_end_of_notes (stack_of xs) t) e ∙ some-no_end x rest t)

-- a test of the brackets that a vector lends
pub lent-closes :
    (items lent : List ToldBracket) (t : Lexeme) (b v : Bool)
    → lent ≡ items → b ≡ closes_first (stack_of lent) t → b ≡ v → closes_first (stack_of items) t ≡ v
lent-closes items lent t b v e h g = ap (λ xs. closes_first (stack_of xs) t) (sym e) ∙ sym h ∙ g

pub lent-ends :
    (items lent : List ToldBracket) (t : Lexeme) (b v : Bool)
    → lent ≡ items → b ≡ is_end_of_notes (stack_of lent) t → b ≡ v → is_end_of_notes (stack_of items) t ≡ v
lent-ends items lent t b v e h g = ap (λ xs. is_end_of_notes (stack_of xs) t) (sym e) ∙ sym h ∙ g
