-- From characters to the bytes of a text.
use Rattle.std.proofs.Common.{◌≡◌, ℕ, ◌+◌, ◌≤◌, List, [], ◌∷◌, length, length-append, refl, ap, sym, subst, ◌∙◌, arith, ◌==◌, inl, inr}
use Rattle.std.proofs.lemmas.Bool.{cases_Bool}
use Rattle.std.specs.Char.{len_utf8, encode_utf8}
use Rattle.std.specs.Str.{chars, IsUtf8, encode_utf8_all, IsValidUpTo}
use Rattle.std.proofs.lemmas.Str.{chars_from_encodes, encodes-chars, scalars-chars, length-encode}
use Rattle.std.proofs.lemmas.List.Sums.{sum_by-cons}
use Rattle.tb_perm.specs.declared.code.Code.{Code}
use Rattle.tb_perm.specs.declared.code.Code.TheVariants.{NotUtf8}
use Rattle.tb_perm.specs.declared.span.Span.{Span}
use Rattle.tb_lex.specs.declared.error.LexError.{LexError}
use Rattle.tb_lex.specs.declared.error.LexError.TheVariants as error
use Rattle.tb_lex.specs.declared.token.Token.{Token}
use Rattle.tb_lex.specs.Characters.{width}
use Rattle.tb_lex.specs.Texts.{Reads, after_mark, IsText, IsLexed, IsRefused, IsCause, AreRising}
use Rattle.tb_lex.specs.Texts.IsRefused.{NoText, Fault}
use Rattle.tb_lex.specs.Growth.{HasFault, IsFaultOf}
use Rattle.tb_lex.proofs.Uniqueness.{one_list, not_both, one_fault, reads-rise, byte_span}

pub ruleset decoding = (chars_from_encodes)

encodes-width : (text : List ℕ) → length (encode_utf8_all text) ≡ width text
encodes-width [] = refl
encodes-width (c ∷ text) =
    let others = encodes-width text in
    let first = length-encode c in
    let sum : width (c ∷ text) ≡ len_utf8 c + width text = sum_by-cons len_utf8 c text in
    length-append (encode_utf8 c) (encode_utf8_all text) ∙ omega arith

pub text-width : (bytes : List ℕ) → IsUtf8 bytes → width (chars bytes) ≡ length bytes
text-width bytes valid = sym (encodes-width (chars bytes)) ∙ ap length (encodes-chars bytes valid)

is_text : (bytes : List ℕ) → IsUtf8 bytes → IsText bytes (chars bytes)
is_text bytes valid = record { scalars = scalars-chars bytes valid; spelled = encodes-chars bytes valid }

-- the tokens of the characters are those of the bytes
pub text-lexed : (bytes text : List ℕ) (tokens : List Token) → IsUtf8 bytes → text ≡ chars bytes → Reads (width text) (after_mark text) tokens [] → IsLexed bytes tokens
text-lexed bytes text tokens valid same reads = record {
  text = chars bytes;
  is_text = is_text bytes valid;
  reads = subst (λ n. Reads n (after_mark (chars bytes)) tokens []) (text-width bytes valid)
      (subst (λ t. Reads (width t) (after_mark t) tokens []) same reads);
}

pub text-refused : (bytes text : List ℕ) (e : LexError) → IsUtf8 bytes → text ≡ chars bytes → HasFault (width text) (after_mark text) e → IsFaultOf bytes e
text-refused bytes text error.Memory valid same has = tt
text-refused bytes text (error.Refused code span) valid same has =
    let moved = subst (λ n. HasFault n (after_mark (chars bytes)) (error.Refused code span)) (text-width bytes valid)
    (subst (λ t. HasFault (width t) (after_mark t) (error.Refused code span)) same has) in
    let front = moved.1 in
    let begins = moved.3 in
    subst (IsRefused bytes code) (sym begins.4)
    (Fault (chars bytes) (is_text bytes valid) moved.0 front begins.0 begins.1 code moved.2 begins.2 begins.3)

pub text-room : (bytes text : List ℕ) → IsUtf8 bytes → text ≡ chars bytes → length bytes ≤ 1048576 → width text ≤ 1048576
text-room bytes text valid same room = omega (arith, ap width same ∙ text-width bytes valid)

pub ruleset texts = (text-lexed, text-refused, text-room)

-- the fault of the bytes is their only one, and they have no tokens
pub only_cause : (bytes : List ℕ) (e : LexError) → IsFaultOf bytes e → IsCause bytes e
only_cause bytes (error.Refused code span) is =
    (is, λ other place wrong. one_fault bytes code other span place is wrong, λ tokens lexed. not_both bytes tokens code span lexed is)
only_cause bytes error.Memory is = tt

pub no_text-cause : (bytes : List ℕ) (lo : ℕ) → IsValidUpTo bytes lo → IsCause bytes (error.Refused NotUtf8 (byte_span lo))
no_text-cause bytes lo valid = only_cause bytes (error.Refused NotUtf8 (byte_span lo)) (NoText lo valid)

pub other-list : (bytes : List ℕ) (tokens other : List Token) → IsLexed bytes tokens → IsLexed bytes other → other ≡ tokens
other-list bytes tokens other is more = one_list bytes other tokens more is

pub no_fault : (bytes : List ℕ) (tokens : List Token) (code : Code) (span : Span) → IsLexed bytes tokens → IsRefused bytes code span → ⊥
no_fault bytes tokens code span is fault = not_both bytes tokens code span is fault

mark-width : (text : List ℕ) → width (after_mark text) ≤ width text
mark-width [] = omega arith
mark-width (c ∷ text) =
    let sum : width (c ∷ text) ≡ len_utf8 c + width text = sum_by-cons len_utf8 c text in
    elim (cases_Bool (c == 0xFEFF)) [
      | inl is ↦ rw is (omega arith)
      | inr other ↦ rw other (omega arith)
    ]

pub rises : (bytes : List ℕ) (tokens : List Token) → IsLexed bytes tokens → AreRising 0 tokens (length bytes)
rises bytes tokens is =
    let total : length bytes ≡ width is.text = sym (ap length is.is_text.spelled) ∙ encodes-width is.text in
    let under = mark-width is.text in
    reads-rise (length bytes) (after_mark is.text) tokens [] 0 is.reads (omega arith) (omega arith)

pub ruleset laws = (only_cause, no_text-cause, other-list, no_fault, rises)
