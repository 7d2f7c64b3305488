-- Lines that are taken one after another: first those of formulas, which introduce no names, then others.
use Rattle.std.proofs.Common.{◌≡◌, ℕ, suc, ◌+◌, List, [], ◌∷◌, ◌++◌, length, refl, ap, ap₂, sym, ◌∙◌, append_assoc, append-nil, length-append}
use Rattle.kernel_steps.specs.declared.step.Line.{Line}
use Rattle.clausal_form.specs.DerivationSteps.{kind_of}
use Rattle.clausal_form.specs.DerivationLine.{LineTree, NamedLine, Taken, names_with}
use Rattle.clausal_form.specs.DerivationParts.{Setting}
use Rattle.clausal_form.specs.DerivationCauses.{LineVerdict, taken, line_verdict}
use Rattle.clausal_form.specs.DerivationLines.{LinesVerdict, all_taken, after_line, lines_verdict_from}
use Rattle.clausal_form.proofs.AboutDerivations.TextLemmas.{verdict-joined}
use Rattle.tstp_writer.specs.ReadableLines.{taken_as}

-- what was taken, where no name was introduced
abbrev pub state : List NamedLine → Taken
state ls = record { lines = ls; introduced = [] }

-- Behind the lines that were taken the trees are, each as one of the lines that follow.
pub record Walks (s : Setting) (ls : List NamedLine) (ts : List LineTree) (ms : List NamedLine) : Type 0 where
  pub verdict : lines_verdict_from s (all_taken (state ls)) ts ≡ all_taken (state (ls ++ ms))
  pub lengths : length ts ≡ length ms

pub walk-none : (s : Setting) (ls : List NamedLine) → Walks s ls [] []
walk-none s ls = record { verdict = ap (λ ks. all_taken (state ks)) (sym (append-nil ls)); lengths = refl }

pub walk-line :
    (s : Setting) (ls : List NamedLine) (t : LineTree) (name : List ℕ) (line : Line) (ts : List LineTree) (ms : List NamedLine)
    → (t.entry).name ≡ name → names_with [] (kind_of t.source) ≡ [] → line_verdict s (state ls) t ≡ taken line
    → Walks s (ls ++ taken_as name line ∷ []) ts ms → Walks s ls (t ∷ ts) (taken_as name line ∷ ms)
walk-line s ls t name line ts ms named none h rest = record {
  verdict =
      ap (λ (v : LineVerdict). lines_verdict_from s (after_line (state ls) t v) ts) h
      ∙ ap₂
      (λ (n : List ℕ) (names : List (List ℕ)). lines_verdict_from s (all_taken (record { lines = ls ++ taken_as n line ∷ []; introduced = names })) ts)
      named none
      ∙ rest.verdict
      ∙ ap (λ ks. all_taken (state ks)) (append_assoc ls (taken_as name line ∷ []) ms);
  lengths = ap suc rest.lengths;
}

pub walk-both :
    (s : Setting) (ls : List NamedLine) (ts us : List LineTree) (ms ns : List NamedLine)
    → Walks s ls ts ms → Walks s (ls ++ ms) us ns → Walks s ls (ts ++ us) (ms ++ ns)
walk-both s ls ts us ms ns first second = record {
  verdict =
      verdict-joined s (all_taken (state ls)) ts us
      ∙ ap (λ (v : LinesVerdict). lines_verdict_from s v us) first.verdict
      ∙ second.verdict
      ∙ ap (λ ks. all_taken (state ks)) (append_assoc ls ms ns);
  lengths = length-append ts us ∙ ap₂ (λ n m. n + m) first.lengths second.lengths ∙ sym (length-append ms ns);
}

-- ---- lines that introduce names

-- what was taken, with the names that were introduced
abbrev pub named_state : List NamedLine → List (List ℕ) → Taken
named_state ls names = record { lines = ls; introduced = names }

-- as above, where names are introduced
pub record NamedWalk
    (s : Setting) (ls : List NamedLine) (before : List (List ℕ)) (ts : List LineTree) (ms : List NamedLine) (after : List (List ℕ)) : Type 0 where
  pub verdict : lines_verdict_from s (all_taken (named_state ls before)) ts ≡ all_taken (named_state (ls ++ ms) after)
  pub lengths : length ts ≡ length ms

pub named-none : (s : Setting) (ls : List NamedLine) (names after : List (List ℕ)) → names ≡ after → NamedWalk s ls names [] [] after
named-none s ls names after same = record {
  verdict = ap₂ (λ ks ns. all_taken (named_state ks ns)) (sym (append-nil ls)) same;
  lengths = refl;
}

pub named-line :
    (s : Setting) (ls : List NamedLine) (before next after : List (List ℕ)) (t : LineTree) (line : Line) (ts : List LineTree) (ms : List NamedLine)
    → names_with before (kind_of t.source) ≡ next → line_verdict s (named_state ls before) t ≡ taken line
    → NamedWalk s (ls ++ taken_as (t.entry).name line ∷ []) next ts ms after
    → NamedWalk s ls before (t ∷ ts) (taken_as (t.entry).name line ∷ ms) after
named-line s ls before next after t line ts ms names h rest = record {
  verdict =
      ap (λ (v : LineVerdict). lines_verdict_from s (after_line (named_state ls before) t v) ts) h
      ∙ ap (λ (ns : List (List ℕ)). lines_verdict_from s (all_taken (named_state (ls ++ taken_as (t.entry).name line ∷ []) ns)) ts) names
      ∙ rest.verdict
      ∙ ap (λ ks. all_taken (named_state ks after)) (append_assoc ls (taken_as (t.entry).name line ∷ []) ms);
  lengths = ap suc rest.lengths;
}

-- lines without names, and then others
pub walk-named :
    (s : Setting) (ls : List NamedLine) (ts us : List LineTree) (ms ns : List NamedLine) (names : List (List ℕ))
    → Walks s ls ts ms → NamedWalk s (ls ++ ms) [] us ns names → NamedWalk s ls [] (ts ++ us) (ms ++ ns) names
walk-named s ls ts us ms ns names first second = record {
  verdict =
      verdict-joined s (all_taken (state ls)) ts us
      ∙ ap (λ (v : LinesVerdict). lines_verdict_from s v us) first.verdict
      ∙ second.verdict
      ∙ ap (λ ks. all_taken (named_state ks names)) (append_assoc ls ms ns);
  lengths = length-append ts us ∙ ap₂ (λ n m. n + m) first.lengths second.lengths ∙ sym (length-append ms ns);
}
