-- The built-in tables break no clause.
use Rattle.std.proofs.Common.{◌≡◌, List, None, Some, refl}
use Rattle.config_table.specs.declared.groups.Group.{Group}
use Rattle.config_table.specs.declared.errors.ConfigError.{ConfigError}
use Rattle.config_table.specs.Table.{group_error, table_error}
use Rattle.built_in_tables.specs.Tables.{c4, c5}

pub four_valid : table_error c4 ≡ None
unfolding table_error group_error
four_valid = refl

pub five_valid : table_error c5 ≡ None
unfolding table_error group_error
five_valid = refl

pub four_refused : (groups : List Group) (error : ConfigError) → groups ≡ c4.groups → table_error (record { n = 4; manager = 1; groups = groups }) ≡ Some error → ⊥
four_refused groups error same h =
    let valid : table_error (record { n = 4; manager = 1; groups = groups }) ≡ None = rw same four_valid in cc

pub five_refused : (groups : List Group) (error : ConfigError) → groups ≡ c5.groups → table_error (record { n = 5; manager = 1; groups = groups }) ≡ Some error → ⊥
five_refused groups error same h =
    let valid : table_error (record { n = 5; manager = 1; groups = groups }) ≡ None = rw same five_valid in cc
