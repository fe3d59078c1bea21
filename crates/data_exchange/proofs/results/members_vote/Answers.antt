use Rattle.std.proofs.Common.{◌≡◌, ◌∙◌, ℕ, List, [], Some, None, map, ap, option_map, unwrap_or}
use Rattle.ftpp_base.specs.Lists.{cell_at}
use Rattle.ftpp_base.specs.declared.element.Proc.{Proc}
use Rattle.bit_vote.specs.Vote.{Cell, vote}
use Rattle.config_table.specs.declared.groups.Group.{Group}
use Rattle.config_table.specs.declared.decisions.Service.{Service}
use Rattle.config_table.specs.Groups.{live_members}
use Rattle.config_table.specs.Table.{TableValue, group_named}
use Rattle.data_exchange.specs.Entries.{live_in, member_counts_as, members_vote, packet_in}
use Rattle.data_exchange.proofs.results.members_vote.Goals as goal

module _ (table : TableValue) (service : Service) (value : ℕ → Cell) where
  voted : (g : Group) (members : List Proc) (cells : List Cell) (result : Cell) → Some g ≡ group_named table service.vid → members ≡ g.members.items
      → cells ≡ map (member_counts_as service value) (live_in g.masked members) → result ≡ vote cells → result ≡ members_vote table service value
  unfolding members_vote
  voted g members cells result named of_group are e =
      e ∙ ap vote (are ∙ ap (λ ms. map (member_counts_as service value) (live_in g.masked ms)) of_group
      ∙ ap (λ o. map (member_counts_as service value) (unwrap_or (option_map live_members o) [])) named)

  not_voted : None ≡ group_named table service.vid → None ≡ members_vote table service value
  unfolding members_vote vote
  not_voted named = ap (λ o. vote (map (member_counts_as service value) (unwrap_or (option_map live_members o) []))) named

pub returns-in-Some-clause-vote : goal.returns-in-Some-clause-vote
returns-in-Some-clause-vote g c =
    c.packet_in.ensures
    ∙ ap packet_in (voted c.args.table.now c.args.service.now (cell_at c.args.values.now) c.in-Some.group.now c.as_slice.result.now c.as_slice-in-Some.result.now c.vote_lanes.result
    c.in-Some.ensures.group c.as_slice.ensures.value (c.as_slice-in-Some.ensures.value ∙ c.live_cells-cells.ensures.cells) c.vote_lanes.ensures)

pub returns-in-None-clause-vote : goal.returns-in-None-clause-vote
returns-in-None-clause-vote g c = ap packet_in (not_voted c.args.table.now c.args.service.now (cell_at c.args.values.now) c.in-None.ensures.group)
