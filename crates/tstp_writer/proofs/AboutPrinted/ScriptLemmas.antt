-- What the lines of a derivation are written over, and the text of them all.
use Rattle.std.proofs.Common.{◌≡◌, ℕ, zero, suc, true, List, [], ◌++◌, map, length, refl, ap, ap₂, ◌∙◌, subst, arith}
use Rattle.std.specs.Prelude.{codes}
use Rattle.std.specs.List.{list_all}
use Rattle.std.proofs.lemmas.List.{length-map}
use Rattle.fol_base.specs.Literal.{clause_of}
use Rattle.tptp_token.specs.Spelling.{is_lower_word, is_word_byte}
use Rattle.tptp_tree.specs.declared.problem.Annotated.{Annotated}
use Rattle.signature.specs.declared.symbol.Symbol.{Symbol}
use Rattle.signature.specs.Symbol.{IsSignature}
use Rattle.signature.specs.Form.{ClausalForm, clausal_form}
use Rattle.signature.specs.Prefix.{underscores, needed, fresh_prefix_of}
use Rattle.kernel_steps.specs.declared.step.Line.{Line}
use Rattle.clausal_form.specs.declared.finished.Clausal.{Clausal}
use Rattle.clausal_form.specs.Form.{form_of}
use Rattle.tptp_tree.specs.Shape.{entry_of}
use Rattle.tstp_writer.specs.Cone.{IsCone}
use Rattle.tstp_writer.specs.LineTexts.{lines_text}
use Rattle.tstp_writer.specs.LineTrees.{Script, script_of, Layout, layout_of, laid_out_trees}
use Rattle.tstp_writer.specs.DerivedLines.{HasNumberedForm}
use Rattle.tstp_writer.specs.ReadableLines.{Fits}
use Rattle.tstp_writer.specs.Places.{IsCounted}
use Rattle.tstp_writer.specs.Written.{IsWritten}

-- ---- the prefix of the names that a derivation introduces

underscores-words : (n : ℕ) → list_all is_word_byte (underscores n) ≡ true
underscores-words zero = refl
underscores-words (suc n) = underscores-words n

pub prefix-lower : (symbols : List Symbol) → is_lower_word (fresh_prefix_of symbols (codes "spl")) ≡ true
prefix-lower symbols = underscores-words (needed symbols (codes "spl"))

-- ---- the script

abbrev pub script_with : List ℕ → List Annotated → List Symbol → List ℕ → List ℕ → Script
script_with file formulas symbols origins prefix =
    record { file = file; formulas = map entry_of formulas; symbols = symbols; origins = origins; prefix = prefix }

pub script-is :
    (file : List ℕ) (problem formulas : List Annotated) (form : ClausalForm) (symbols : List Symbol) (origins prefix : List ℕ)
    → form ≡ clausal_form problem → formulas ≡ problem → symbols ≡ form.symbols → origins ≡ form.origins
    → prefix ≡ fresh_prefix_of form.symbols (codes "spl") → script_with file formulas symbols origins prefix ≡ script_of file problem
script-is file problem formulas form symbols origins prefix is_form is_formulas is_symbols is_origins is_prefix =
    ap (λ fs. script_with file fs symbols origins prefix) is_formulas
    ∙ ap (λ ss. script_with file problem ss origins prefix) is_symbols
    ∙ ap (λ ns. script_with file problem form.symbols ns prefix) is_origins
    ∙ ap (λ p. script_with file problem form.symbols form.origins p) is_prefix
    ∙ ap (λ (f : ClausalForm). script_with file problem f.symbols f.origins (fresh_prefix_of f.symbols (codes "spl"))) is_form

-- ---- the form's numbers

pub numbered :
    (problem : List Annotated) (form : Clausal)
    → form_of form ≡ clausal_form problem → IsSignature form.signature → Fits (length form.clauses) → HasNumberedForm problem
numbered problem form is signature few =
    let same : map clause_of form.clauses ≡ (clausal_form problem).clauses = ap (λ (f : ClausalForm). f.clauses) is in
    record {
      symbols = subst IsSignature (ap (λ (f : ClausalForm). f.symbols) is) signature;
      clauses = omega (arith, few, ap length same, length-map form.clauses clause_of);
    }

-- ---- the text

pub written :
    (file : List ℕ) (problem : List Annotated) (lines : List Line) (last : ℕ) (numbers text new old : List ℕ)
    (script : Script) (layout : Layout) (given shown : List Line)
    → IsCone lines last numbers → script ≡ script_of file problem → given ≡ lines → shown ≡ lines
    → layout ≡ layout_of script given numbers → IsCounted layout
    → old ≡ [] → new ≡ old ++ lines_text (laid_out_trees script layout shown) → text ≡ new → IsWritten file problem lines last text
written file problem lines last numbers text new old script layout given shown cone is_script is_given is_shown is_layout counted empty added is_text =
    let laid : layout ≡ layout_of (script_of file problem) lines numbers =
    is_layout ∙ ap₂ (λ (s : Script) (ls : List Line). layout_of s ls numbers) is_script is_given in
    let trees : laid_out_trees script layout shown
    ≡ laid_out_trees (script_of file problem) (layout_of (script_of file problem) lines numbers) lines =
    ap₂ (λ (s : Script) (l : Layout). laid_out_trees s l shown) is_script laid
    ∙ ap (laid_out_trees (script_of file problem) (layout_of (script_of file problem) lines numbers)) is_shown in
    record {
      numbers = numbers;
      cone = cone;
      counted = subst IsCounted laid counted;
      printed = is_text ∙ added ∙ ap (λ t. t ++ lines_text (laid_out_trees script layout shown)) empty ∙ ap lines_text trees;
    }
