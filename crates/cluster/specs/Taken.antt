-- The link of an element that takes its frames from the table of a round.
use Rattle.std.specs.Prelude.{◌≡◌, ℕ, List, length}
use Rattle.std.proofs.lemmas.List.FromFn.{length-map-range_with_len}
use Rattle.ftpp_base.specs.Lists.{each_below}
use Rattle.cluster.specs.declared.table_link.TableLink.{TableLink}
use Rattle.cluster.specs.Carrying.{bytes_in, sent_in}
use Rattle.cluster.specs.Delivered.{frame_in}

module _ {N : ℕ} where
  -- the frames that were delivered to the element, by sender
  abbrev pub taken_from : TableLink N → List (List ℕ)
  taken_from l = each_below N (λ from. frame_in (bytes_in l.rows.now) from l.owner)

  -- and those that it sent through this link
  abbrev pub sent_through : TableLink N → List (List ℕ)
  sent_through l = sent_in N l.sent

  -- there is one for each element
  pub taken_wide : (l : TableLink N) → length (taken_from l) ≡ N
  taken_wide l = length-map-range_with_len (λ from. frame_in (bytes_in l.rows.now) from l.owner) 0 N

  pub sent_through_wide : (l : TableLink N) → length (sent_through l) ≡ N
  sent_through_wide l = l.sent_wide
