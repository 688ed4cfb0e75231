use Rattle.std.proofs.Common.{◌≡◌, ◌<◌, ◌≤◌, rules, nat_lt, not, ◌==◌, length, get_or, ap, sym, ◌∙◌, subst, arith}
use Rattle.std.specs.Prelude.{filter}
use Rattle.std.proofs.lemmas.Bool.{ltb-false}
use Rattle.std.proofs.lemmas.List.Sorted.{IsPartitionPoint-from_clause}
use Rattle.tb_perm.specs.declared.tag.AllocId.{AllocId}
use Rattle.tb_alloc.specs.Kept.{number_of, AreRisingFrom}
use Rattle.tb_alloc.proofs.LiveNumbers.{parted, struck_out, not_struck}
use Rattle.tb_alloc.proofs.live.strike.Goals as goal

pub returns-then-place-len : goal.returns-then-place-len
returns-then-place-len c =
    let ids = c.deref.result.now in
    let id = c.args.id.0 in
    let place = c.partition_point-place.result in
    let rising = subst (AreRisingFrom 0) (sym c.deref.ensures.value) c.requires in
    let point = IsPartitionPoint-from_clause (λ (other : AllocId). nat_lt other.0 id) ids place c.partition_point-place.ensures.partitioned (parted id ids rising) (λ a r q k. search rules) in
    let past : length ids ≤ place = omega (arith, c.if-place-len.true, ap length c.deref.ensures.value) in
    subst (λ xs. xs ≡ filter (λ (other : AllocId). not (number_of other == id)) xs) c.deref.ensures.value (not_struck id 0 place ids c.args.id rising point.0 c.partition_point-place.ensures.bound (λ within. absurd (omega arith)))

pub returns-then-index-id : goal.returns-then-index-id
returns-then-index-id c =
    let ids = c.deref.result.now in
    let id = c.args.id.0 in
    let place = c.partition_point-place.result in
    let rising = subst (AreRisingFrom 0) (sym c.deref.ensures.value) c.requires in
    let point = IsPartitionPoint-from_clause (λ (other : AllocId). nat_lt other.0 id) ids place c.partition_point-place.ensures.partitioned (parted id ids rising) (λ a r q k. search rules) in
    let item = c.index.result.now in
    let here : item ≡ get_or ids place item = c.index.ensures ∙ ap (λ xs. get_or xs place item) (sym c.deref.ensures.value) in
    let within : place < length ids = omega (arith, c.if-place-len.false, ap length c.deref.ensures.value) in
    let after : id < (get_or ids place item).0 = omega (arith, ltb-false _ _ (point.1 place item (omega arith) within), c.if-index-id.true, ap (λ (other : AllocId). other.0) here) in
    subst (λ xs. xs ≡ filter (λ (other : AllocId). not (number_of other == id)) xs) c.deref.ensures.value (not_struck id 0 place ids item rising point.0 c.partition_point-place.ensures.bound (λ _. after))

pub returns : goal.returns
returns c =
    let ids = c.args.ids.now.items in
    let id = c.args.id.0 in
    let place = c.partition_point-place.result in
    let item = c.index.result.now in
    let is : (get_or ids place item).0 ≡ id = omega (arith, c.if-index-id.false, ap (λ (other : AllocId). other.0) c.index.ensures) in
    c.remove.ensures.items ∙ struck_out id 0 place ids item c.requires (omega (arith, c.if-place-len.false)) is
