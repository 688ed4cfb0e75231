use Rattle.std.proofs.Common.{None, sym, rules}
use Rattle.std.proofs.lemmas.Fn.{always_returns_same}
use Rattle.std.proofs.lemmas.List.Filters.{dedup_is}
use Rattle.std.proofs.lemmas.List.Kept.{Contains-dedup, Contains-from_dedup, IsStrictlySortedBy-dedup}
use Rattle.std.proofs.lemmas.List.Sorted.{Contains-permutation, IsPermutation-sym}
use Rattle.tb_bytes.proofs.Listing.{listed_has, has_listed}
use Rattle.tb_bytes.proofs.Order.{prov_cmp_total, same_prov, same_prov_equiv, same_prov_exact, prov_ties, rising}
use Rattle.tb_bytes.proofs.origins.list_provs.Goals as goal

pub returns-clause-members : goal.returns-clause-members
returns-clause-members c =
    let is = dedup_is same_prov _ _ c.dedup.ensures.filtered in
    let moved = c.sort_unstable_by_key.ensures.permutation in
    λ prov. (
      λ has.
          let sorted = Contains-from_dedup same_prov _ prov (rw is at has) in
          let first = Contains-permutation _ _ prov (IsPermutation-sym _ _ moved) sorted in
          rw (sym c.runs.ensures.values) (listed_has None 0 _ c.runs.result.now prov c.runs.ensures.runs (rw c.in_ok-list.ensures at first)),
      λ has.
          let first = has_listed c.runs.result.now prov (rw (sym c.runs.ensures.values) at has) in
          rw is (Contains-dedup same_prov_equiv same_prov_exact _ prov (Contains-permutation _ _ prov moved (rw (sym c.in_ok-list.ensures) at first))),
    )

pub returns-clause-rising : goal.returns-clause-rising
returns-clause-rising c =
    let is = dedup_is same_prov _ _ c.dedup.ensures.filtered in
    let sorted = c.sort_unstable_by_key.ensures.sorted (λ p. (p.alloc.0, p.tag.0)) (always_returns_same _ _ _ (λ a r f k. search rules)) in
    rw is (rising _ (IsStrictlySortedBy-dedup prov_cmp_total prov_ties _ sorted))
