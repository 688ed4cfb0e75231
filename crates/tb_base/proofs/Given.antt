-- Bytes that were copied into the front of a buffer.
use Rattle.std.proofs.Common.{◌≡◌, ◌≤◌, ◌+◌, ℕ, List, ◌++◌, length, take, drop, sym, ap, ◌∙◌}
use Rattle.std.proofs.lemmas.List.{take_at, take-append-drop, drop-drop, length-take-le}

-- the front of the buffer and what is not copied yet are what was left
pub given_front : (bytes buffer copied : List ℕ) (at count : ℕ) → copied ≡ take count (drop at bytes) → count ≤ length (drop at bytes) → drop at bytes ≡ take count (copied ++ buffer) ++ drop (at + count) bytes
given_front bytes buffer copied at count e h =
    let rest = drop at bytes in
    let same : take count (copied ++ buffer) ≡ take count rest = take_at copied buffer count (ap length e ∙ length-take-le count rest h) ∙ e in
    sym (ap (λ z. z ++ drop (at + count) bytes) same ∙ ap (λ z. take count rest ++ z) (sym (drop-drop count at bytes)) ∙ take-append-drop count rest)
