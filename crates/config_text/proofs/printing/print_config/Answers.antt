use Rattle.std.proofs.Common.{◌≡◌, ◌≤◌, Some, ap, ◌∙◌, string_bytes}
use Rattle.std.proofs.lemmas.Str.{IsUtf8-string_bytes}
use Rattle.toml.specs.Data.{members_depth}
use Rattle.toml.specs.View.{table_view}
use Rattle.toml.specs.Parse.{parse_document}
use Rattle.config_text.specs.Reading.{document_of, config_of, table_from}
use Rattle.config_text.proofs.ReadBack.{printed_back, table_deep}
use Rattle.config_text.proofs.Texts.{document_read, text_read}
use Rattle.config_text.proofs.printing.print_config.Goals as goal

pub returns-in-Ok : goal.returns-in-Ok
returns-in-Ok c =
    let bytes : c.into_bytes.result.items ≡ string_bytes c.in-Ok.text = ap (λ v. v.items) c.into_bytes.ensures.value in
    let flat : members_depth (table_view c.in_ok-document.document) ≤ 80 = rw c.in_ok-document.ensures.document (table_deep c.args.table.now) in
    let read : parse_document (string_bytes c.in-Ok.text) ≡ Some (table_view c.in_ok-document.document) = c.in-Ok.ensures.reads_back flat in
    let utf8 = IsUtf8-string_bytes c.in-Ok.text in
    record {
      document = ap document_of bytes ∙ document_read (string_bytes c.in-Ok.text) _ utf8 read ∙ ap (λ ms. Some ms) c.in_ok-document.ensures.document;
      reads_back =
          ap config_of bytes ∙ text_read (string_bytes c.in-Ok.text) _ utf8 read ∙ ap table_from c.in_ok-document.ensures.document
          ∙ printed_back c.args.table.now c.in_ok-document.ensures.valid c.in_ok-document.ensures.manager;
    }
