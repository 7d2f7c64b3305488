use Rattle.std.proofs.Common.{◌≡◌, ◌++◌, ap, ◌∙◌}
use Rattle.std.proofs.lemmas.Result.{IfOk-weaker}
use Rattle.tstp_writer.specs.LineTexts.{formula_name_text}
use Rattle.tstp_writer.specs.SourceTexts.{general_text, name_term}
use Rattle.tstp_writer.proofs.AboutPrinted.PieceTexts.{formula-name-same}
use Rattle.tstp_writer.proofs.lines.push_name_term.Goals as goal

pub returns : goal.returns
returns c =
    IfOk-weaker c.formula_name.result (λ done. c.formula_name.new.self ≡ c.args.page.now ++ formula_name_text c.args.name.now)
    (λ done. c.formula_name.new.self ≡ c.args.page.now ++ general_text (name_term c.args.name.now))
    (λ done e. e ∙ ap (λ w. c.args.page.now ++ w) (formula-name-same c.args.name.now)) c.formula_name.ensures.added
