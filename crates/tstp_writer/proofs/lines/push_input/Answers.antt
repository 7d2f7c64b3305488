use Rattle.std.proofs.Common.{refl, ap, ◌∙◌, ◌++◌}
use Rattle.tptp_tree.specs.Shape.{entry_of}
use Rattle.tptp_tree.specs.Entries.{AnnotatedTree}
use Rattle.tptp_source.specs.Sources.{file_source}
use Rattle.tstp_writer.specs.SourceTexts.{source_text}
use Rattle.tstp_writer.specs.LineTrees.{line_name, named}
use Rattle.tstp_writer.proofs.AboutPrinted.TextLemmas.{five_added, line_of_parts}
use Rattle.tstp_writer.proofs.AboutPrinted.PieceTexts.{added}
use Rattle.tstp_writer.proofs.lines.push_input.Goals as goal

pub returns : goal.returns
returns c =
    let a : AnnotatedTree = entry_of c.args.annotated.now in
    added c.bytes-2.result _ _ _ _
    (line_of_parts (record a { name = line_name c.args.number }) (file_source (named c.args.script.file.now) a.name) c.args.number refl)
    (five_added c.bytes-2.result _ _ _ _ _ _ _ _ _ _ _ c.in_ok-push_head.ensures c.in_ok-push_formula.ensures c.in_ok-bytes.ensures.added
    (c.in_ok-push_file_source.ensures ∙ ap (λ n. c.bytes.new.self ++ source_text (file_source (named c.args.script.file.now) n)) c.as_slice.ensures)
    c.bytes-2.ensures.added)
