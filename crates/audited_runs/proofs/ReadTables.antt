-- A table that is read breaks no clause.
use Rattle.std.proofs.Common.{◌≡◌, ℕ, List, [], refl, subst, Ok, Err}
use Rattle.std.specs.Prelude.{Option, Some, None, Result}
use Rattle.toml.specs.Data.{Members}
use Rattle.config_table.specs.declared.errors.ConfigError.{ConfigError}
use Rattle.config_table.specs.Table.{TableValue, IsValid, table_error}
use Rattle.config_text.specs.declared.errors.TextError.{TextError}
use Rattle.config_text.specs.Fields.{◌>>=◌}
use Rattle.config_text.specs.Reading.{top_only, version_in, elements_in, manager_in, groups_in, groups_from, valid_or, checked, table_from, read_of, document_of, config_of}

checked_by : (table : TableValue) (o : Option ConfigError) (out : TableValue) → table_error table ≡ o → valid_or table o ≡ Ok out → IsValid out
checked_by table None out e g = let same : table ≡ out = cc in subst IsValid same e
checked_by table (Some error) out e g = absurd cc

checked_valid : (table out : TableValue) → checked table ≡ Ok out → IsValid out
unfolding checked
checked_valid table out e = checked_by table (table_error table) out refl e

-- what the second of two steps gives is valid, whatever the first one gave

second_read : {A : Type 0} (first : Result A TextError) (second : A → Result TableValue TextError) → ((x : A) (out : TableValue) → second x ≡ Ok out → IsValid out)
    → (out : TableValue) → (first >>= second) ≡ Ok out → IsValid out
second_read (Ok x) second h out e = h x out e
second_read (Err error) second h out e = absurd cc

from_valid : (ms : Members) (out : TableValue) → table_from ms ≡ Ok out → IsValid out
unfolding table_from
from_valid ms =
    second_read (top_only ms) _ (λ listed.
    second_read (version_in ms) _ (λ version.
    second_read (elements_in ms) _ (λ n.
    second_read (manager_in ms) _ (λ manager.
    second_read (groups_in ms) _ (λ entries.
    second_read (groups_from version [] entries) _ (λ groups.
    checked_valid (record { n = n; manager = manager; groups = groups })))))))

read_by : (o : Option Members) (out : TableValue) → read_of o ≡ Ok out → IsValid out
read_by None out e = absurd cc
read_by (Some ms) out e = from_valid ms out e

pub read_valid : (bytes : List ℕ) (out : TableValue) → config_of bytes ≡ Ok out → IsValid out
unfolding config_of
read_valid bytes out e = read_by (document_of bytes) out e
