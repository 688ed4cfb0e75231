-- Bytes of identifiers, words and numbers.
use Rattle.std.proofs.Common.{◌≡◌, ℕ, ◌+◌, ◌-◌, ◌*◌, ◌<◌, ◌≤◌, true, false, cond, ◌&&◌, ◌||◌, not, eqb, leb, List, [], ◌∷◌, ◌++◌, length, take, get_or, Some, None, refl, ap, subst, ◌∙◌, arith, inl, inr, length-append}
use Rattle.std.specs.List.{list_all}
use Rattle.std.proofs.lemmas.Bool.{cases_Bool, ne_eqb, lt-leb}
use Rattle.std.proofs.lemmas.List.{take_at}
use Rattle.tb_small.specs.Words.{is_word_byte, begins_with, begins_word, is_lengthened, is_apart, is_number, value_from, value_of}
use Rattle.tb_small.specs.Reading.{word_of, after_word, literal_value}
use Rattle.tb_small.proofs.Options.{both}

pub word-parts : (text : List ℕ) → text ≡ word_of text ++ after_word text
word-parts [] = refl
word-parts (byte ∷ text) = elim (cases_Bool (is_word_byte byte)) [
  | inl is ↦ rw is (ap (λ (t : List ℕ). byte ∷ t) (word-parts text))
  | inr other ↦ rw other refl
]

-- the word is what the rest leaves
pub word-cut : (text : List ℕ) → take (length text - length (after_word text)) text ≡ word_of text
word-cut text =
    let parts : text ≡ word_of text ++ after_word text = word-parts text in
    let long : length text ≡ length (word_of text) + length (after_word text) = ap length parts ∙ length-append (word_of text) (after_word text) in
    let count : length (word_of text) ≡ length text - length (after_word text) = omega arith in
    ap (take (length text - length (after_word text))) parts ∙ take_at (word_of text) (after_word text) (length text - length (after_word text)) count

pub word-next : (text : List ℕ) → begins_word (after_word text) ≡ false
word-next [] = refl
word-next (byte ∷ text) = elim (cases_Bool (is_word_byte byte)) [
  | inl is ↦ rw is (word-next text)
  | inr other ↦ rw other other
]

pub word-all : (text : List ℕ) → list_all is_word_byte (word_of text) ≡ true
word-all [] = refl
word-all (byte ∷ text) = elim (cases_Bool (is_word_byte byte)) [
  | inl is ↦ rw is (rw is (word-all text))
  | inr other ↦ rw other refl
]

-- a byte of identifiers is no sign
pub word-byte : (byte sign : ℕ) → is_word_byte byte ≡ true → is_word_byte sign ≡ false → eqb byte sign ≡ false
word-byte byte sign is other = ne_eqb byte sign (λ e. let here : is_word_byte sign ≡ true = subst (λ b. is_word_byte b ≡ true) e is in absurd cc)

pub word-first : (sign : ℕ) (word rest : List ℕ) → begins_word word ≡ true → is_word_byte sign ≡ false → begins_with sign (word ++ rest) ≡ false
word-first sign [] rest begins other = absurd cc
word-first sign (byte ∷ word) rest begins other = word-byte byte sign begins other

-- and nothing makes a word of identifiers' bytes a longer sign
word-lengthened : (word rest : List ℕ) → list_all is_word_byte word ≡ true → is_lengthened word rest ≡ false
word-lengthened [] rest all = refl
word-lengthened (byte ∷ word) rest all =
    let is = (both (is_word_byte byte) (list_all is_word_byte word) all).0 in
    rw (word-byte byte 33 is refl, word-byte byte 38 is refl, word-byte byte 42 is refl, word-byte byte 43 is refl, word-byte byte 61 is refl) refl

-- so a word that is read ends where it ends
pub word-apart : (text : List ℕ) → is_apart (word_of text) (after_word text) ≡ true
word-apart text =
    rw (word-next text, word-lengthened (word_of text) (after_word text) (word-all text))
    (elim (begins_word (word_of text)) as (λ b. not ((b && false) || false) ≡ true) [ true ↦ refl | false ↦ refl ])

-- a word of such bytes, with none behind it, is read whole
pub word-again : (word rest : List ℕ) → list_all is_word_byte word ≡ true → begins_word rest ≡ false → (word_of (word ++ rest) ≡ word) × (after_word (word ++ rest) ≡ rest)
word-again [] [] all next = (refl, refl)
word-again [] (byte ∷ rest) all next = (rw next refl, rw next refl)
word-again (byte ∷ word) rest all next =
    let parts = both (is_word_byte byte) (list_all is_word_byte word) all in
    let others = word-again word rest parts.1 next in
    (rw parts.0 (ap (λ (t : List ℕ). byte ∷ t) others.0), rw parts.0 others.1)

-- digits only raise a value
pub value-grows : (value : ℕ) (digits : List ℕ) → value ≤ value_from value digits
value-grows value [] = omega arith
value-grows value (digit ∷ digits) = let h = value-grows (value * 10 + (digit - 48)) digits in omega arith

-- a number that has grown too large
pub too_large : (value : ℕ) (digits word : List ℕ) → 1 ≤ length digits → 2147483647 < value * 10 + (get_or digits 0 0 - 48) → value_from value digits ≡ value_of word → literal_value word ≡ None
unfolding literal_value
too_large value [] word some large same = absurd (omega arith)
too_large value (digit ∷ digits) word some large same =
    let h = value-grows (value * 10 + (digit - 48)) digits in
    let over : leb (value_of word) 2147483647 ≡ false = lt-leb _ _ (omega arith) in
    rw over (elim (is_number word) as (λ b. cond (b && false) (Some (value_of word)) None ≡ None) [ true ↦ refl | false ↦ refl ])
