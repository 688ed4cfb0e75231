-- What a text puts, by what stands at its front.
use Rattle.std.proofs.Common.{◌≡◌, ◌<◌, ℕ, ℤ, Result, Ok, Err, true, false, List, [], ◌∷◌, ◌++◌, length, drop, get_or, refl, arith}
use Rattle.tb_heap.specs.declared.stop.Stop.{Stop}
use Rattle.tb_eval.specs.Print.{begins, put_text, next_shown, after_next}

-- nothing
pub put_text-end : (text : List ℕ) (ints : List ℤ) → length text ≡ 0 → put_text text ints ≡ []
unfolding put_text
put_text-end [] ints e = refl
put_text-end (byte ∷ text) ints e = absurd (omega arith)

-- `\n`
pub put_text-newline : (text : List ℕ) (ints : List ℤ) → begins 92 110 text ≡ true → put_text text ints ≡ 10 ∷ put_text (drop 2 text) ints
unfolding put_text
put_text-newline [] ints e = absurd (cc)
put_text-newline (byte ∷ []) ints e = absurd (cc)
put_text-newline (byte ∷ next ∷ text) ints e = rw e refl

-- `{}`
pub put_text-hole : (text : List ℕ) (ints : List ℤ) → begins 92 110 text ≡ false → begins 123 125 text ≡ true → put_text text ints ≡ next_shown ints ++ put_text (drop 2 text) (after_next ints)
unfolding put_text
put_text-hole [] ints d e = absurd (cc)
put_text-hole (byte ∷ []) ints d e = absurd (cc)
put_text-hole (byte ∷ next ∷ text) ints d e = rw (d, e) refl

-- another byte
pub put_text-byte : (text : List ℕ) (ints : List ℤ) (x : ℕ) → 0 < length text → begins 92 110 text ≡ false → begins 123 125 text ≡ false → put_text text ints ≡ get_or text 0 x ∷ put_text (drop 1 text) ints
unfolding put_text
put_text-byte [] ints x h d e = absurd (omega arith)
put_text-byte (byte ∷ []) ints x h d e = refl
put_text-byte (byte ∷ next ∷ text) ints x h d e = rw (d, e) refl

-- integers in front
abbrev pub with_front : List ℤ → Result (List ℤ) Stop → Result (List ℤ) Stop
with_front front (Ok ints) = Ok (front ++ ints)
with_front front (Err stop) = Err stop
