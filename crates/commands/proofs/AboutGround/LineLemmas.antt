-- An accepted text spells its lines in one way, and they are a refutation of the form.
use Rattle.std.proofs.Common.{◌≡◌, ℕ, Bool, true, false, List, [], ◌∷◌, length, refl, ap, ap₂, sym, ◌∙◌, subst}
use Rattle.std.specs.Prelude.{if◌then◌else◌}
use Rattle.std.proofs.lemmas.List.{length-map}
use Rattle.tptp_token.specs.Lexemes.{Lexeme}
use Rattle.tptp_tree.specs.Entries.{AnnotatedPhrase, annotated_lexemes, AnnotatedTree}
use Rattle.tptp_tree.specs.declared.problem.Annotated.{Annotated}
use Rattle.tptp_tree.proofs.UniqueEntries.{annotated-same, tree-same}
use Rattle.tptp_source.specs.Sources.{SourceTree}
use Rattle.tptp_source.proofs.AboutWholes.SourceReads.{one-source}
use Rattle.signature.specs.Form.{clausal_form}
use Rattle.kernel_steps.specs.Derivation.{IsRefutation}
use Rattle.kernel_steps.specs.Soundness.{BindsOver}
use Rattle.kernel_steps.specs.declared.step.Line.{Line}
use Rattle.clausal_form.specs.DerivationCauses.{no_empty_clause}
use Rattle.clausal_form.specs.DerivationLine.{LineTree, NamedLine, Taken, nothing_taken, kernel_lines}
use Rattle.clausal_form.specs.DerivationParts.{setting_of}
use Rattle.clausal_form.specs.DerivationLines.{LinesVerdict, all_taken, refused_at, lines_verdict, ends_empty, Answer, accepted, refused_line, ended}
use Rattle.clausal_form.specs.DerivationTexts.{IsLineOf, AreLinesOf, phrases_lexemes, SpellsDerivation, IsAcceptedDerivation}
use Rattle.clausal_form.specs.FormFunctions.{functions_of}
use Rattle.clausal_form.proofs.AboutDerivations.RefutationLemmas.{taken_lines_are_steps, accepted_lines_refute}
use Rattle.tstp_checker.specs.AcceptedLines.{AreAcceptedLines}

-- ---- one way

line-same : (p : AnnotatedPhrase) (t u : LineTree) → IsLineOf p t → IsLineOf p u → t ≡ u
line-same p t u h k =
    let make : AnnotatedTree → SourceTree → LineTree = λ e s. record { entry = e; source = s } in
    ap₂ make (tree-same p t.entry u.entry h.entry k.entry) (one-source p.notes t.source u.source h.source k.source)

nothing-begins : (p : AnnotatedPhrase) (rest : List Lexeme) → [] ≡ annotated_lexemes p rest → ⊥
nothing-begins p rest e = cc

phrases-same :
    (ps qs : List AnnotatedPhrase) (ts us : List LineTree) → phrases_lexemes ps [] ≡ phrases_lexemes qs [] → AreLinesOf ps ts → AreLinesOf qs us
    → ts ≡ us
phrases-same [] [] [] [] e h k = refl
phrases-same [] [] [] (u ∷ us) e h k = absurd k
phrases-same [] [] (t ∷ ts) us e h k = absurd h
phrases-same [] (q ∷ qs) ts us e h k = absurd (nothing-begins q (phrases_lexemes qs []) e)
phrases-same (p ∷ ps) [] ts us e h k = absurd (nothing-begins p (phrases_lexemes ps []) (sym e))
phrases-same (p ∷ ps) (q ∷ qs) [] us e h k = absurd h
phrases-same (p ∷ ps) (q ∷ qs) (t ∷ ts) [] e h k = absurd k
phrases-same (p ∷ ps) (q ∷ qs) (t ∷ ts) (u ∷ us) e h k =
    let same = annotated-same p q (phrases_lexemes ps []) (phrases_lexemes qs []) (h.0).right (k.0).right e in
    ap₂ ◌∷◌ (line-same p t u h.0 (subst (λ r. IsLineOf r u) (sym same.0) k.0)) (phrases-same ps qs ts us same.1 h.1 k.1)

spelled-one : (bytes : List ℕ) (ts us : List LineTree) → SpellsDerivation bytes ts → SpellsDerivation bytes us → ts ≡ us
spelled-one bytes ts us (rest, a, end) (more, b, stop) =
    phrases-same a.phrases b.phrases ts us
    (sym (a.spelled ∙ ap (phrases_lexemes a.phrases) end.0) ∙ (b.spelled ∙ ap (phrases_lexemes b.phrases) stop.0)) a.lines b.lines

abbrev taken_in : LinesVerdict → Taken
taken_in (all_taken e) = e
taken_in (refused_at n cause) = nothing_taken

pub lines-one :
    (fs : List Annotated) (bytes : List ℕ) (ls ms : List Line) → AreAcceptedLines fs bytes ls → AreAcceptedLines fs bytes ms → ls ≡ ms
lines-one fs bytes ls ms h k =
    let trees : h.trees ≡ k.trees = spelled-one bytes h.trees k.trees h.spelled k.spelled in
    let verdicts : all_taken h.taken ≡ all_taken k.taken = sym h.all ∙ ap (lines_verdict (setting_of fs)) trees ∙ k.all in
    sym h.same ∙ ap kernel_lines (ap taken_in verdicts) ∙ k.same

-- ---- an accepted derivation

pub lines-accepted : (fs : List Annotated) (bytes : List ℕ) (ls : List Line) → AreAcceptedLines fs bytes ls → IsAcceptedDerivation fs bytes (length ls)
lines-accepted fs bytes ls h = (h.trees, h.spelled, ap ended h.all ∙ h.ends)

pub lines-refute : (fs : List Annotated) (bytes : List ℕ) (ls : List Line) → AreAcceptedLines fs bytes ls → IsRefutation (clausal_form fs).clauses ls
lines-refute fs bytes ls h =
    subst (IsRefutation (clausal_form fs).clauses) h.same (accepted_lines_refute fs h.trees h.taken (length ls) h.all h.ends)

pub lines-bind :
    (fs : List Annotated) (bytes : List ℕ) (ls : List Line) → AreAcceptedLines fs bytes ls → BindsOver (functions_of (clausal_form fs).symbols) ls
lines-bind fs bytes ls h =
    subst (BindsOver (functions_of (clausal_form fs).symbols)) h.same (taken_lines_are_steps fs h.trees h.taken h.all).1

-- ---- and back

abbrev count_in : Answer → ℕ
count_in (accepted n) = n
count_in (refused_line n cause) = 0

counted : (b : Bool) (m n : ℕ) → (if b then accepted m else refused_line m no_empty_clause) ≡ accepted n → m ≡ n
counted true m n e = ap count_in e
counted false m n e = cc

pub accepted-lines :
    (fs : List Annotated) (bytes : List ℕ) (count : ℕ) → IsAcceptedDerivation fs bytes count
    → (ls : List Line) × AreAcceptedLines fs bytes ls × (length ls ≡ count)
accepted-lines fs bytes count (ts, spelled, verdict) = by (lines_verdict (setting_of fs) ts) refl
  where
    by :
        (v : LinesVerdict) → lines_verdict (setting_of fs) ts ≡ v
        → (ls : List Line) × AreAcceptedLines fs bytes ls × (length ls ≡ count)
    by (all_taken e) h =
        let answer : ended (all_taken e) ≡ accepted count = sym (ap ended h) ∙ verdict in
        let long : length (kernel_lines e) ≡ count =
        length-map e.lines (λ (l : NamedLine). l.line) ∙ counted (ends_empty e.lines) (length e.lines) count answer in (
          kernel_lines e,
          record { trees = ts; spelled = spelled; taken = e; all = h; ends = answer ∙ ap accepted (sym long); same = refl },
          long,
        )
    by (refused_at n cause) h =
        let answer : refused_line n cause ≡ accepted count = sym (ap ended h) ∙ verdict in cc
