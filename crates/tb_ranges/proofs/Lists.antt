-- Parts of a list that has equal values at some places.
use Rattle.std.proofs.Common.{◌≡◌, ℕ, ◌+◌, ◌-◌, ◌≤◌, List, ◌++◌, length, take, drop, replicate, ap, sym, ◌∙◌, arith}
use Rattle.std.proofs.lemmas.List.{length-replicate, drop-drop, drop-append-le, drop-replicate, take-append-le, take-replicate}
use Rattle.std.proofs.Math.Seq.{take-add}
use Rattle.std.specs.List.{slice_range}

module _ {V : Type 0} where
  -- what is left behind a place in a row of equal values
  pub drop_in_row : (all tail : List V) (lo n a : ℕ) (v : V) → drop lo all ≡ replicate n v ++ tail → lo ≤ a → a ≤ lo + n → drop a all ≡ replicate ((lo + n) - a) v ++ tail
  drop_in_row all tail lo n a v row from to =
      let there : lo + (a - lo) ≡ a = omega arith in
      let left : n - (a - lo) ≡ (lo + n) - a = omega arith in
      let within : a - lo ≤ length (replicate n v) = omega (arith, length-replicate n v) in
      sym (drop-drop (a - lo) lo all ∙ ap (λ m. drop m all) there)
      ∙ ap (drop (a - lo)) row
      ∙ drop-append-le (a - lo) (replicate n v) tail within
      ∙ ap (λ xs. xs ++ tail) (drop-replicate (a - lo) n v ∙ ap (λ m. replicate m v) left)

  -- a part of a row of equal values
  pub part_of_row : (all tail : List V) (lo n a b : ℕ) (v : V) → drop lo all ≡ replicate n v ++ tail → lo ≤ a → a ≤ b → b ≤ lo + n → slice_range all a b ≡ replicate (b - a) v
  part_of_row all tail lo n a b v row from order to =
      let left : b - a ≤ (lo + n) - a = omega arith in
      let within : b - a ≤ length (replicate ((lo + n) - a) v) = omega (arith, length-replicate ((lo + n) - a) v) in
      let upto : a ≤ lo + n = omega arith in
      ap (take (b - a)) (drop_in_row all tail lo n a v row from upto)
      ∙ take-append-le (b - a) (replicate ((lo + n) - a) v) tail within
      ∙ take-replicate (b - a) ((lo + n) - a) v left

  -- two neighbouring parts are one
  pub slice_range-append : (all : List V) (a b c : ℕ) → a ≤ b → b ≤ c → slice_range all a b ++ slice_range all b c ≡ slice_range all a c
  slice_range-append all a b c first second =
      let there : a + (b - a) ≡ b = omega arith in
      let whole : (b - a) + (c - b) ≡ c - a = omega arith in
      ap (λ xs. take (b - a) (drop a all) ++ take (c - b) xs) (sym (drop-drop (b - a) a all ∙ ap (λ m. drop m all) there))
      ∙ sym (take-add (b - a) (c - b) (drop a all))
      ∙ ap (λ m. take m (drop a all)) whole
