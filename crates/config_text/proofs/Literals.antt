-- What the file of the built-in table of four elements reads as.
use Rattle.std.proofs.Common.{◌≡◌, Ok, refl}
use Rattle.std.specs.Str.{is_utf8, chars}
use Rattle.toml.proofs.OnLiterals.{toml_on_literals}
use Rattle.ftpp_base.specs.Bits.{byte_where}
use Rattle.config_table.specs.Table.{table_error, group_error}
use Rattle.config_text.specs.Values.{number_of, version_of, proc_of, few_procs, procs_of, set_of}
use Rattle.config_text.specs.Reading.{is_top_key, is_group_key, top_only, version_in, elements_in, manager_in, groups_in, table_at, group_only, vid_in, members_in, ts_in, tr_in, masked_in, tx_in, outs_in, ins_in, group_from, checked, table_from, document_of, config_of}
use Rattle.config_text.specs.Worked.{four_text, four_table}

pub four_read : config_of four_text ≡ Ok four_table
unfolding toml_on_literals config_of document_of table_from checked group_from is_top_key is_group_key top_only version_in elements_in manager_in groups_in table_at group_only vid_in members_in ts_in tr_in masked_in tx_in outs_in ins_in number_of version_of proc_of few_procs procs_of set_of table_error group_error byte_where is_utf8 chars
four_read = refl
