-- How large the number of some bytes is.
use Rattle.std.proofs.Common.{◌≡◌, ◌∙◌, ap, ℕ, zero, suc, ◌+◌, ◌-◌, ◌*◌, ◌^◌, ◌<◌, ◌≤◌, min, List, length, take, drop, lit≤, arith}
use Rattle.std.proofs.lemmas.List.{length-take}
use Rattle.tb_bytes.specs.declared.byte_val.ByteVal.{ByteVal}
use Rattle.std.proofs.Math.Nat.{pow-succ'}

-- one more byte, at the low end
pub one_more : (v m n k : ℕ) → v < 256 → m < 256 ^ n → k ≡ suc n → v + 256 * m < 256 ^ k
one_more v m n k small below e =
    let top : ℕ = 256 ^ n in
    let f : 256 ^ k ≡ 256 * 256 ^ n = ap (λ i. 256 ^ i) e ∙ pow-succ' 256 n in
    omega arith

-- seven bytes and one more fit 64 bits
pub seven_fit : (n : ℕ) → n ≤ 7 → 256 * 256 ^ n ≤ 2 ^ 64
seven_fit zero h = lit≤ tt
seven_fit (suc zero) h = lit≤ tt
seven_fit (suc (suc zero)) h = lit≤ tt
seven_fit (suc (suc (suc zero))) h = lit≤ tt
seven_fit (suc (suc (suc (suc zero)))) h = lit≤ tt
seven_fit (suc (suc (suc (suc (suc zero))))) h = lit≤ tt
seven_fit (suc (suc (suc (suc (suc (suc zero)))))) h = lit≤ tt
seven_fit (suc (suc (suc (suc (suc (suc (suc zero))))))) h = lit≤ tt
seven_fit (suc (suc (suc (suc (suc (suc (suc (suc n)))))))) h = absurd (omega arith)

fits : (v m n : ℕ) → v < 256 → m < 256 ^ n → n ≤ 7 → v + 256 * m < 2 ^ 64
fits v m n small below h =
    let top : ℕ = 256 ^ n in
    let f : 256 * 256 ^ n ≤ 2 ^ 64 = seven_fit n h in
    omega arith

-- the first byte, above the rest of at most eight
pub rest_fits : (bytes : List ByteVal) (v m : ℕ) → length bytes ≤ 8 → v < 256 → m < 256 ^ length (take (length bytes - 1) (drop 1 bytes)) → v + 256 * m < 2 ^ 64
rest_fits bytes v m small byte below =
    let e : length (take (length bytes - 1) (drop 1 bytes)) ≡ min (length bytes - 1) (length (drop 1 bytes)) = length-take (length bytes - 1) (drop 1 bytes) in
    fits v m (length (take (length bytes - 1) (drop 1 bytes))) byte below (omega arith)
