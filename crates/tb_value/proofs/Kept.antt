-- What copies keep: how many bytes there are, and no other provenance than the bytes had.
use Rattle.std.proofs.Common.{◌≡◌, refl, sym, ◌∙◌, ℕ, zero, suc, ◌+◌, ◌-◌, ◌≤◌, min, Bool, true, false, true≢false, cond, ◌&&◌, List, [], ◌∷◌, ◌++◌, length, map, take, drop, Option, None, Result, Ok, Err, IfOk, arith}
use Rattle.std.specs.List.{list_all}
use Rattle.std.proofs.lemmas.List.{length-append, length-replicate, length-take, length-drop, length-map}
use Rattle.tb_perm.specs.declared.tag.Prov.{Prov}
use Rattle.tb_bytes.specs.declared.byte_val.ByteVal.{ByteVal}
use Rattle.tb_bytes.specs.declared.byte_val.ByteVal.TheVariants.{Uninit, Init}
use Rattle.tb_bytes.specs.Bytes.{is_init, prov_of}
use Rattle.tb_bytes.proofs.Marking.{length_part}
use Rattle.tb_types.specs.Table.{TypeTable}
use Rattle.tb_layout.specs.declared.leaf.Leaf.{Leaf}
use Rattle.tb_value.specs.declared.kind.ScalarKind.{ScalarKind}
use Rattle.tb_value.specs.declared.kind.ScalarKind.TheVariants.{Int, Bool as BoolKind, Char, Thin, Wide}
use Rattle.tb_value.specs.Kinds.{kind_of, width}
use Rattle.tb_value.specs.Scalars.{all_from, common_prov, is_valid, with_prov, cleaned}
use Rattle.tb_value.specs.Copies.{leaf_end, leaf_bytes, copied_leaf, padding, copied}
use Rattle.tb_value.specs.Spread.{AreSpread}
use Rattle.tb_value.specs.Provs.{passes, all_pass}
use Rattle.tb_value.proofs.Spreading.{spread_order}

-- a fact of an Ok answer from another
pub if_ok : {T E : Type 0} {P Q : T → Type 0} (result : Result T E) → ((x : T) → P x → Q x) → IfOk result P → IfOk result Q
if_ok (Ok x) f p = f x p
if_ok (Err e) f p = tt

length_cleaned : (kind : ScalarKind) (bytes : List ByteVal) → length (cleaned kind bytes) ≡ length bytes
length_cleaned (Int kind) bytes = length-map bytes _
length_cleaned BoolKind bytes = length-map bytes _
length_cleaned Char bytes = length-map bytes _
length_cleaned (Thin null) bytes = length-map bytes _
length_cleaned (Wide null) bytes =
    let a : length (map (with_prov (common_prov (take 8 bytes))) (take 8 bytes)) ≡ length (take 8 bytes) = length-map (take 8 bytes) _ in
    let b : length (map (with_prov None) (drop 8 bytes)) ≡ length (drop 8 bytes) = length-map (drop 8 bytes) _ in
    let c : length (take 8 bytes) ≡ min 8 (length bytes) = length-take 8 bytes in
    let d : length (drop 8 bytes) ≡ length bytes - 8 = length-drop 8 bytes in
    length-append (map (with_prov (common_prov (take 8 bytes))) (take 8 bytes)) (map (with_prov None) (drop 8 bytes)) ∙ (let e : length (map (with_prov (common_prov (take 8 bytes))) (take 8 bytes)) + length (map (with_prov None) (drop 8 bytes)) ≡ length bytes = omega arith in e)

length_leaf : (kind : ScalarKind) (bytes : List ByteVal) → length (copied_leaf kind bytes) ≡ length bytes
length_leaf kind bytes = by_value (list_all (λ byte. is_init byte) bytes && is_valid kind bytes)
  where
    by_value : (b : Bool) → length (cond b (cleaned kind bytes) bytes) ≡ length bytes
    by_value true = length_cleaned kind bytes
    by_value false = refl

-- a copy has as many bytes
pub length_copied : (types : TypeTable) (bytes : List ByteVal) (at : ℕ) (leaves : List Leaf) → AreSpread types at (length bytes) leaves → length (copied types bytes at leaves) + at ≡ length bytes
length_copied types bytes at [] h = let e : length (padding (length bytes - at)) ≡ length bytes - at = length-replicate (length bytes - at) Uninit in omega arith
length_copied types bytes at (leaf ∷ leaves) h =
    let begin : at ≤ leaf.at = h.0 in
    let kind : ScalarKind = kind_of types leaf.shape in
    let part : List ByteVal = leaf_bytes types bytes leaf in
    let behind : List ByteVal = copied types bytes (leaf_end types leaf) leaves in
    let order : leaf.at + width (kind_of types leaf.shape) ≤ length bytes = spread_order types (leaf_end types leaf) (length bytes) leaves h.1 in
    let a : length (padding (leaf.at - at)) ≡ leaf.at - at = length-replicate (leaf.at - at) Uninit in
    let b : length (copied_leaf kind part) ≡ length part = length_leaf kind part in
    let c : length part ≡ leaf.at + width (kind_of types leaf.shape) - leaf.at = length_part bytes leaf.at (leaf_end types leaf) order in
    let d : length behind + (leaf.at + width (kind_of types leaf.shape)) ≡ length bytes = length_copied types bytes (leaf_end types leaf) leaves h.1 in
    let e : length (copied_leaf kind part ++ behind) ≡ length (copied_leaf kind part) + length behind = length-append (copied_leaf kind part) behind in
    let f : length (padding (leaf.at - at) ++ (copied_leaf kind part ++ behind)) ≡ length (padding (leaf.at - at)) + length (copied_leaf kind part ++ behind) = length-append (padding (leaf.at - at)) (copied_leaf kind part ++ behind) in
    omega arith

pub length_copy : (types : TypeTable) (bytes : List ByteVal) (leaves : List Leaf) → AreSpread types 0 (length bytes) leaves → length (copied types bytes 0 leaves) ≡ length bytes
length_copy types bytes leaves h = let e : length (copied types bytes 0 leaves) + 0 ≡ length bytes = length_copied types bytes 0 leaves h in omega arith

module _ (test : Prov → Bool) where
  both : (a b : Bool) → a ≡ true → b ≡ true → (a && b) ≡ true
  both true b h k = k
  both false b h k = absurd (true≢false (sym h))

  first_of : (a b : Bool) → (a && b) ≡ true → a ≡ true
  first_of true b h = refl
  first_of false b h = h

  second_of : (a b : Bool) → (a && b) ≡ true → b ≡ true
  second_of true b h = h
  second_of false b h = absurd (true≢false (sym h))

  pub pass_both : (a b : List ByteVal) → all_pass test a ≡ true → all_pass test b ≡ true → all_pass test (a ++ b) ≡ true
  pass_both [] b h k = k
  pass_both (x ∷ a) b h k =
      both (passes test (prov_of x)) (all_pass test (a ++ b)) (first_of (passes test (prov_of x)) (all_pass test a) h)
      (pass_both a b (second_of (passes test (prov_of x)) (all_pass test a) h) k)

  pub pass_take : (n : ℕ) (bytes : List ByteVal) → all_pass test bytes ≡ true → all_pass test (take n bytes) ≡ true
  pass_take zero [] h = refl
  pass_take zero (x ∷ bytes) h = refl
  pass_take (suc n) [] h = refl
  pass_take (suc n) (x ∷ bytes) h =
      both (passes test (prov_of x)) (all_pass test (take n bytes)) (first_of (passes test (prov_of x)) (all_pass test bytes) h)
      (pass_take n bytes (second_of (passes test (prov_of x)) (all_pass test bytes) h))

  pub pass_drop : (n : ℕ) (bytes : List ByteVal) → all_pass test bytes ≡ true → all_pass test (drop n bytes) ≡ true
  pass_drop zero [] h = refl
  pass_drop zero (x ∷ bytes) h = h
  pass_drop (suc n) [] h = refl
  pass_drop (suc n) (x ∷ bytes) h = pass_drop n bytes (second_of (passes test (prov_of x)) (all_pass test bytes) h)

  pass_padding : (n : ℕ) → all_pass test (padding n) ≡ true
  pass_padding zero = refl
  pass_padding (suc n) = pass_padding n

  pass_given : (prov : Option Prov) (bytes : List ByteVal) → passes test prov ≡ true → all_pass test (map (with_prov prov) bytes) ≡ true
  pass_given prov [] h = refl
  pass_given prov (Uninit ∷ bytes) h = pass_given prov bytes h
  pass_given prov (Init value old ∷ bytes) h = both (passes test prov) (all_pass test (map (with_prov prov) bytes)) h (pass_given prov bytes h)

  -- the common provenance is one of the bytes'
  pub pass_common : (bytes : List ByteVal) → all_pass test bytes ≡ true → passes test (common_prov bytes) ≡ true
  pass_common [] h = refl
  pass_common (x ∷ bytes) h = by_all (all_from (prov_of x) bytes)
    where
      by_all : (b : Bool) → passes test (cond b (prov_of x) None) ≡ true
      by_all true = first_of (passes test (prov_of x)) (all_pass test bytes) h
      by_all false = refl

  pass_cleaned : (kind : ScalarKind) (bytes : List ByteVal) → all_pass test bytes ≡ true → all_pass test (cleaned kind bytes) ≡ true
  pass_cleaned (Int kind) bytes h = pass_given None bytes refl
  pass_cleaned BoolKind bytes h = pass_given None bytes refl
  pass_cleaned Char bytes h = pass_given None bytes refl
  pass_cleaned (Thin null) bytes h = pass_given (common_prov bytes) bytes (pass_common bytes h)
  pass_cleaned (Wide null) bytes h =
      pass_both (map (with_prov (common_prov (take 8 bytes))) (take 8 bytes)) (map (with_prov None) (drop 8 bytes))
      (pass_given (common_prov (take 8 bytes)) (take 8 bytes) (pass_common (take 8 bytes) (pass_take 8 bytes h))) (pass_given None (drop 8 bytes) refl)

  pass_leaf : (kind : ScalarKind) (bytes : List ByteVal) → all_pass test bytes ≡ true → all_pass test (copied_leaf kind bytes) ≡ true
  pass_leaf kind bytes h = by_value (list_all (λ byte. is_init byte) bytes && is_valid kind bytes)
    where
      by_value : (b : Bool) → all_pass test (cond b (cleaned kind bytes) bytes) ≡ true
      by_value true = pass_cleaned kind bytes h
      by_value false = h

  -- so is each provenance of a copy
  pub pass_copied : (types : TypeTable) (bytes : List ByteVal) (at : ℕ) (leaves : List Leaf) → all_pass test bytes ≡ true → all_pass test (copied types bytes at leaves) ≡ true
  pass_copied types bytes at [] h = pass_padding (length bytes - at)
  pass_copied types bytes at (leaf ∷ leaves) h =
      let part : all_pass test (leaf_bytes types bytes leaf) ≡ true = pass_take (leaf_end types leaf - leaf.at) (drop leaf.at bytes) (pass_drop leaf.at bytes h) in
      pass_both (padding (leaf.at - at)) (copied_leaf (kind_of types leaf.shape) (leaf_bytes types bytes leaf) ++ copied types bytes (leaf_end types leaf) leaves) (pass_padding (leaf.at - at))
      (pass_both (copied_leaf (kind_of types leaf.shape) (leaf_bytes types bytes leaf)) (copied types bytes (leaf_end types leaf) leaves)
      (pass_leaf (kind_of types leaf.shape) (leaf_bytes types bytes leaf) part) (pass_copied types bytes (leaf_end types leaf) leaves h))
