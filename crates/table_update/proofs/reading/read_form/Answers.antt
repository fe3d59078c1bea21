use Rattle.std.proofs.Common.{◌+◌, ◌*◌, ap, ◌∙◌, Some}
use Rattle.std.specs.Prelude.{drop, slice_index}
use Rattle.table_update.specs.declared.Update.TheVariants.{Form}
use Rattle.table_update.specs.Updates.{all_zero}
use Rattle.table_update.proofs.Spelled.{form_spelled, form_large, form_from, is_update, is_none}
use Rattle.table_update.proofs.reading.read_form.Goals as goal

pub returns-then-bytes-gt-MOST_MEMBERS : goal.returns-then-bytes-gt-MOST_MEMBERS
returns-then-bytes-gt-MOST_MEMBERS c = form_large c.args.bytes.now c.if-bytes-gt-MOST_MEMBERS.true

pub returns-then-not-is_zero_from : goal.returns-then-not-is_zero_from
returns-then-not-is_zero_from c =
    is_none c.args.bytes.now (form_from c.args.bytes.now) _ c.if-not-is_zero_from.true
    (form_spelled c.args.bytes.now _ c.told-bytes c.fits-bytes c.requires c.if-bytes-gt-MOST_MEMBERS.false
    (c.is_zero_from.ensures ∙ ap (λ n. all_zero (drop (7 + 2 * n) c.args.bytes.now)) c.from.ensures))

pub returns : goal.returns
returns c =
    (λ i. Some (Form (slice_index c.args.bytes.now 1) (record { items = c.read_members.ensures i }) (c.number_at.ensures i) (c.number_at-2.ensures i)))
    ∙ is_update c.args.bytes.now (form_from c.args.bytes.now) _ c.if-not-is_zero_from.false
    (form_spelled c.args.bytes.now _ c.told-bytes c.fits-bytes c.requires c.if-bytes-gt-MOST_MEMBERS.false
    (c.is_zero_from.ensures ∙ ap (λ n. all_zero (drop (7 + 2 * n) c.args.bytes.now)) c.from.ensures))
