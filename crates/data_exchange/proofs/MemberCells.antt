-- The vote over the members looks at a value only at the elements of members that contribute.
use Rattle.std.proofs.Common.{◌≡◌, ℕ, ◌<◌, true, List, [], ◌∷◌, Option, Some, None, map, ap, refl, subst, option_map, unwrap_or}
use Rattle.std.specs.List.{AllByRecursion}
use Rattle.ftpp_base.specs.declared.element.Proc.{Proc}
use Rattle.bit_vote.specs.Vote.{Cell, vote}
use Rattle.config_table.specs.declared.groups.Group.{Group}
use Rattle.config_table.specs.declared.decisions.Service.{Service}
use Rattle.config_table.specs.Groups.{live_members}
use Rattle.config_table.specs.Table.{TableValue, IsValid, group_named}
use Rattle.config_table.proofs.NamedGroups.{InRange, InRange-named}
use Rattle.data_exchange.specs.Entries.{contributes, member_counts_as, members_vote, senders}
use Rattle.data_exchange.proofs.EntryLaws.{contribution-same}

-- two values that are the same where a member contributes
module _ (n : ℕ) (service : Service) (f g : ℕ → Cell) (same : (ne : ℕ) → ne < n → contributes service ne ≡ true → f ne ≡ g ne) where
  map_counts : (procs : List Proc) → AllByRecursion (InRange n) procs → map (member_counts_as service f) procs ≡ map (member_counts_as service g) procs
  map_counts [] a = refl
  map_counts (p ∷ ps) a = λ i. contribution-same service f g p.ne (same p.ne a.0.ne) i ∷ map_counts ps a.1 i

  senders_by : (table : TableValue) (o : Option Group) → IsValid table → table.n ≡ n → group_named table service.vid ≡ o → AllByRecursion (InRange n) (unwrap_or (option_map live_members o) [])
  senders_by table None valid e named = tt
  senders_by table (Some group) valid e named =
      let P : ℕ → Type 0 = λ m. AllByRecursion (InRange m) (live_members group) in
      subst P e (InRange-named table service.vid group valid named)

  pub members_vote-counts : (table : TableValue) → IsValid table → table.n ≡ n → members_vote table service f ≡ members_vote table service g
  unfolding members_vote
  members_vote-counts table valid e = ap vote (map_counts (senders table service.vid) (senders_by table (group_named table service.vid) valid e refl))
