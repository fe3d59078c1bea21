use Rattle.std.proofs.Common.{◌≡◌}
use Rattle.toml.specs.View.{members_view}
use Rattle.config_text.specs.Fields.{are_listed}
use Rattle.config_text.specs.Reading.{is_top_key}
use Rattle.config_text.proofs.keys.has_top_keys.Given as goal

abbrev pub invariant-keys : goal.invariant-keys
invariant-keys l =
    (goal.iterator-keys).can_next l.key-iterator × (goal.iterator-keys).is_finite l.key-iterator
    × (are_listed is_top_key (members_view l.key-iterator) ≡ are_listed is_top_key (members_view l.table.entries))
