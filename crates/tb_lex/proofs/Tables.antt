-- The tables of words: what is found is written so, and what is written so is found.
use Rattle.std.proofs.Common.{◌≡◌, inl, inr, ℕ, ◌+◌, ◌≤◌, Bool, true, false, ◌&&◌, ◌==◌, leb, List, [], ◌∷◌, ◌++◌, length, length-append, Option, Some, None, refl, ap, sym, subst, ◌∙◌, arith, eqb-true, eq-eqb, leb-true, ltb, ◌||◌, not}
use Rattle.std.specs.List.{list_all}
use Rattle.std.specs.Char.{is_ascii_alphabetic, is_ascii_digit}
use Rattle.std.specs.Str.{bytes_eq}
use Rattle.tb_lex.specs.declared.keyword.Keyword.{Keyword}
use Rattle.tb_lex.specs.declared.keyword.Keyword.TheVariants as keyword
use Rattle.tb_lex.specs.declared.punctuation.Punctuation.{Punctuation}
use Rattle.tb_lex.specs.declared.punctuation.Punctuation.TheVariants as mark
use Rattle.tb_lex.specs.declared.suffix.Suffix.{Suffix}
use Rattle.tb_lex.specs.declared.suffix.Suffix.TheVariants as suffix
use Rattle.tb_lex.specs.Characters.{begins_by, is_space, begins_pair}
use Rattle.tb_lex.specs.Tables.{first_written, strip, first_standing, keyword_text, all_keywords, keyword_of, punctuation_text, all_punctuation, punctuation_at, suffix_text, all_suffixes, suffix_of}
use Rattle.tb_lex.proofs.Cases.{both, chosen, some_is, tell}

pub bytes-same : (a b : List ℕ) → bytes_eq a b ≡ true → a ≡ b
bytes-same [] [] e = refl
bytes-same [] (y ∷ b) e = absurd cc
bytes-same (x ∷ a) [] e = absurd cc
bytes-same (x ∷ a) (y ∷ b) e =
    let parts = both (x == y) (bytes_eq a b) e in
    ap (λ (n : ℕ). n ∷ a) (eqb-true x y parts.0) ∙ ap (λ (t : List ℕ). y ∷ t) (bytes-same a b parts.1)

pub bytes-itself : (a : List ℕ) → bytes_eq a a ≡ true
bytes-itself [] = refl
bytes-itself (x ∷ a) = rw (eq-eqb x x refl) (bytes-itself a)

pub bytes-other : (a b : List ℕ) → bytes_eq a b ≡ false → a ≡ b → ⊥
bytes-other a b e same = let h : true ≡ false = sym (bytes-itself a) ∙ ap (λ (t : List ℕ). bytes_eq a t) same ∙ e in cc

module _ {A : Type 0} (text : A → List ℕ) where
  -- what is found is written so
  pub written-is : (xs : List A) (word : List ℕ) (x : A) → first_written text xs word ≡ Some x → word ≡ text x
  written-is [] word x e = absurd cc
  written-is (y ∷ xs) word x e = elim (chosen (bytes_eq word (text y)) (Some y) (first_written text xs word) (Some x) e) [
    | inl k ↦ bytes-same word (text y) k.0 ∙ ap text (some_is y x k.1)
    | inr k ↦ written-is xs word x k.1
  ]

-- what stands at the front is followed by the rest
pub strip-is : (word text rest : List ℕ) → strip word text ≡ Some rest → text ≡ word ++ rest
strip-is [] text rest e = some_is text rest e
strip-is (d ∷ word) [] rest e = absurd cc
strip-is (d ∷ word) (c ∷ text) rest e = elim (chosen (c == d) (strip word text) None (Some rest) e) [
  | inl k ↦ ap (λ (n : ℕ). n ∷ text) (eqb-true c d k.0) ∙ ap (λ (t : List ℕ). d ∷ t) (strip-is word text rest k.1)
  | inr k ↦ absurd cc
]

pub strip-again : (word rest : List ℕ) → strip word (word ++ rest) ≡ Some rest
strip-again [] rest = refl
strip-again (d ∷ word) rest = rw (eq-eqb d d refl) (strip-again word rest)

-- of two fronts of one length there is one
pub same_front : (a b x y : List ℕ) → a ++ x ≡ b ++ y → length a ≡ length b → a ≡ b
same_front [] [] x y e h = refl
same_front [] (d ∷ b) x y e h = absurd (omega arith)
same_front (c ∷ a) [] x y e h = absurd (omega arith)
same_front (c ∷ a) (d ∷ b) x y e h =
    let first : c ≡ d = cc in
    let rest : a ++ x ≡ b ++ y = cc in
    ap (λ (n : ℕ). n ∷ a) first ∙ ap (λ (t : List ℕ). d ∷ t) (same_front a b x y rest (omega arith))

module _ {A : Type 0} (text : A → List ℕ) where
  -- each is at least as long as those behind it
  abbrev pub falling : List A → Bool
  falling [] = true
  falling (x ∷ xs) = list_all (λ y. leb (length (text y)) (length (text x))) xs && falling xs

  -- what is among words of at most this length is so too
  short : (xs : List A) (word : List ℕ) (y : A) (n : ℕ) → first_written text xs word ≡ Some y → list_all (λ z. leb (length (text z)) n) xs ≡ true → length word ≤ n
  short [] word y n e all = absurd cc
  short (x ∷ xs) word y n e all =
      let parts = both (leb (length (text x)) n) (list_all (λ z. leb (length (text z)) n) xs) all in
      elim (chosen (bytes_eq word (text x)) (Some x) (first_written text xs word) (Some y) e) [
        | inl k ↦
            let same : word ≡ text x = bytes-same word (text x) k.0 in
            subst (λ (t : List ℕ). length t ≤ n) (sym same) (leb-true (length (text x)) n parts.0)
        | inr k ↦ short xs word y n k.1 parts.1
      ]

  standing-next : (x : A) (xs : List A) (front rest : List ℕ) → strip (text x) front ≡ Some rest → first_standing text (x ∷ xs) front ≡ Some (x, rest)
  standing-next x xs front rest e =
      ap (λ (o : Option (List ℕ)). elim o [ Some after ↦ Some (x, after) | None ↦ first_standing text xs front ]) e

  standing-other : (x : A) (xs : List A) (front : List ℕ) → strip (text x) front ≡ None → first_standing text (x ∷ xs) front ≡ first_standing text xs front
  standing-other x xs front e =
      ap (λ (o : Option (List ℕ)). elim o [ Some after ↦ Some (x, after) | None ↦ first_standing text xs front ]) e

  -- what is found stands there
  pub standing-is : (xs : List A) (front : List ℕ) (x : A) (rest : List ℕ) → first_standing text xs front ≡ Some (x, rest) → front ≡ text x ++ rest
  standing-is [] front x rest e = absurd cc
  standing-is (y ∷ xs) front x rest e = elim (tell (strip (text y) front)) [
    | inl none ↦ standing-is xs front x rest (sym (standing-other y xs front none) ∙ e)
    | inr found ↦
        let same : (y, found.0) ≡ (x, rest) = some_is {A = A × List ℕ} (y, found.0) (x, rest) (sym (standing-next y xs front found.0 found.1) ∙ e) in
        strip-is (text y) front found.0 found.1 ∙ ap (λ (p : A × List ℕ). text p.0 ++ p.1) same
  ]

  -- a word is no longer than what is found
  pub record Finds (xs : List A) (front after : List ℕ) (y : A) : Type 0 where
    pub found : A
    pub rest : List ℕ
    pub stands : first_standing text xs front ≡ Some (found, rest)
    pub shorter : length rest ≤ length after
    pub same : length rest ≡ length after → found ≡ y

  pub finds : (xs : List A) (word after : List ℕ) (y : A) → falling xs ≡ true → first_written text xs word ≡ Some y → Finds xs (word ++ after) after y
  finds [] word after y down e = absurd cc
  finds (x ∷ xs) word after y down e =
      let parts = both (list_all (λ z. leb (length (text z)) (length (text x))) xs) (falling xs) down in
      elim (chosen (bytes_eq word (text x)) (Some x) (first_written text xs word) (Some y) e) [
        | inl k ↦
            let same : word ≡ text x = bytes-same word (text x) k.0 in
            let here : strip (text x) (word ++ after) ≡ Some after = ap (λ (t : List ℕ). strip (text x) (t ++ after)) same ∙ strip-again (text x) after in
            record {
              found = x;
              rest = after;
              stands = standing-next x xs (word ++ after) after here;
              shorter = omega arith;
              same = λ h. some_is x y k.1;
            }
        | inr k ↦ elim (tell (strip (text x) (word ++ after))) [
          | inl none ↦
              let others = finds xs word after y parts.1 k.1 in
              record {
                found = others.found;
                rest = others.rest;
                stands = standing-other x xs (word ++ after) none ∙ others.stands;
                shorter = others.shorter;
                same = others.same;
              }
          | inr found ↦
              let whole : word ++ after ≡ text x ++ found.0 = strip-is (text x) (word ++ after) found.0 found.1 in
              let total : length word + length after ≡ length (text x) + length found.0 =
              sym (length-append word after) ∙ ap length whole ∙ length-append (text x) found.0 in
              let bound : length word ≤ length (text x) = short xs word y (length (text x)) k.1 parts.0 in
              record {
                found = x;
                rest = found.0;
                stands = standing-next x xs (word ++ after) found.0 found.1;
                shorter = omega arith;
                same = λ h. absurd (bytes-other word (text x) k.0 (same_front word (text x) after found.0 whole (omega arith)));
              }
        ]
      ]

-- each keyword is found
pub keyword-found : (x : Keyword) → keyword_of (keyword_text x) ≡ Some x
unfolding keyword_of
keyword-found keyword.As = refl
keyword-found keyword.Break = refl
keyword-found keyword.Const = refl
keyword-found keyword.Continue = refl
keyword-found keyword.Else = refl
keyword-found keyword.Extern = refl
keyword-found keyword.False = refl
keyword-found keyword.Fn = refl
keyword-found keyword.If = refl
keyword-found keyword.Let = refl
keyword-found keyword.Loop = refl
keyword-found keyword.Mut = refl
keyword-found keyword.Return = refl
keyword-found keyword.Struct = refl
keyword-found keyword.True = refl
keyword-found keyword.Unsafe = refl
keyword-found keyword.Use = refl
keyword-found keyword.While = refl
keyword-found keyword.Async = refl
keyword-found keyword.Await = refl
keyword-found keyword.Crate = refl
keyword-found keyword.Dyn = refl
keyword-found keyword.Enum = refl
keyword-found keyword.For = refl
keyword-found keyword.Impl = refl
keyword-found keyword.In = refl
keyword-found keyword.Match = refl
keyword-found keyword.Mod = refl
keyword-found keyword.Move = refl
keyword-found keyword.Pub = refl
keyword-found keyword.Ref = refl
keyword-found keyword.SelfValue = refl
keyword-found keyword.SelfType = refl
keyword-found keyword.Static = refl
keyword-found keyword.Super = refl
keyword-found keyword.Trait = refl
keyword-found keyword.Type = refl
keyword-found keyword.Where = refl

-- each suffix is found
pub suffix-found : (x : Suffix) → suffix_of (suffix_text x) ≡ Some x
unfolding suffix_of
suffix-found suffix.I8 = refl
suffix-found suffix.I16 = refl
suffix-found suffix.I32 = refl
suffix-found suffix.I64 = refl
suffix-found suffix.Isize = refl
suffix-found suffix.U8 = refl
suffix-found suffix.U16 = refl
suffix-found suffix.U32 = refl
suffix-found suffix.U64 = refl
suffix-found suffix.Usize = refl

-- each punctuation is found
pub punctuation-found : (x : Punctuation) → first_written punctuation_text all_punctuation (punctuation_text x) ≡ Some x
punctuation-found mark.ShlEq = refl
punctuation-found mark.ShrEq = refl
punctuation-found mark.PathSep = refl
punctuation-found mark.Arrow = refl
punctuation-found mark.Ne = refl
punctuation-found mark.EqEq = refl
punctuation-found mark.Le = refl
punctuation-found mark.Shl = refl
punctuation-found mark.Ge = refl
punctuation-found mark.Shr = refl
punctuation-found mark.PlusEq = refl
punctuation-found mark.MinusEq = refl
punctuation-found mark.StarEq = refl
punctuation-found mark.SlashEq = refl
punctuation-found mark.PercentEq = refl
punctuation-found mark.AndAnd = refl
punctuation-found mark.AndEq = refl
punctuation-found mark.OrOr = refl
punctuation-found mark.OrEq = refl
punctuation-found mark.CaretEq = refl
punctuation-found mark.OpenParen = refl
punctuation-found mark.CloseParen = refl
punctuation-found mark.OpenBracket = refl
punctuation-found mark.CloseBracket = refl
punctuation-found mark.OpenBrace = refl
punctuation-found mark.CloseBrace = refl
punctuation-found mark.Comma = refl
punctuation-found mark.Semicolon = refl
punctuation-found mark.Colon = refl
punctuation-found mark.Dot = refl
punctuation-found mark.Pound = refl
punctuation-found mark.Not = refl
punctuation-found mark.Eq = refl
punctuation-found mark.Lt = refl
punctuation-found mark.Gt = refl
punctuation-found mark.Plus = refl
punctuation-found mark.Minus = refl
punctuation-found mark.Star = refl
punctuation-found mark.Slash = refl
punctuation-found mark.Percent = refl
punctuation-found mark.And = refl
punctuation-found mark.Or = refl
punctuation-found mark.Caret = refl

pub keyword-is : (word : List ℕ) (x : Keyword) → keyword_of word ≡ Some x → word ≡ keyword_text x
unfolding keyword_of
keyword-is word x e = written-is keyword_text all_keywords word x e

pub suffix-is : (word : List ℕ) (x : Suffix) → suffix_of word ≡ Some x → word ≡ suffix_text x
unfolding suffix_of
suffix-is word x e = written-is suffix_text all_suffixes word x e

pub keyword-none : (word : List ℕ) → keyword_of word ≡ None → (x : Keyword) → word ≡ keyword_text x → ⊥
keyword-none word e x same = let h : None ≡ Some x = sym e ∙ ap keyword_of same ∙ keyword-found x in cc

pub suffix-none : (word : List ℕ) → suffix_of word ≡ None → (x : Suffix) → word ≡ suffix_text x → ⊥
suffix-none word e x same = let h : None ≡ Some x = sym e ∙ ap suffix_of same ∙ suffix-found x in cc

pub punctuation-is : (front : List ℕ) (x : Punctuation) (rest : List ℕ) → punctuation_at front ≡ Some (x, rest) → front ≡ punctuation_text x ++ rest
unfolding punctuation_at
punctuation-is front x rest e = standing-is punctuation_text all_punctuation front x rest e

-- a punctuation at the front is no longer than the one that is found
pub record FindsPunctuation (front after : List ℕ) (y : Punctuation) : Type 0 where
  pub found : Punctuation
  pub rest : List ℕ
  pub stands : punctuation_at front ≡ Some (found, rest)
  pub shorter : length rest ≤ length after
  pub same : length rest ≡ length after → found ≡ y

pub finds_punctuation : (y : Punctuation) (after : List ℕ) → FindsPunctuation (punctuation_text y ++ after) after y
unfolding punctuation_at
finds_punctuation y after =
    let f = finds punctuation_text all_punctuation (punctuation_text y) after y refl (punctuation-found y) in
    record { found = f.found; rest = f.rest; stands = f.stands; shorter = f.shorter; same = f.same }

-- a keyword is ASCII letters
pub keyword-letters : (x : Keyword) → (begins_by is_ascii_alphabetic (keyword_text x) && list_all is_ascii_alphabetic (keyword_text x)) ≡ true
keyword-letters keyword.As = refl
keyword-letters keyword.Break = refl
keyword-letters keyword.Const = refl
keyword-letters keyword.Continue = refl
keyword-letters keyword.Else = refl
keyword-letters keyword.Extern = refl
keyword-letters keyword.False = refl
keyword-letters keyword.Fn = refl
keyword-letters keyword.If = refl
keyword-letters keyword.Let = refl
keyword-letters keyword.Loop = refl
keyword-letters keyword.Mut = refl
keyword-letters keyword.Return = refl
keyword-letters keyword.Struct = refl
keyword-letters keyword.True = refl
keyword-letters keyword.Unsafe = refl
keyword-letters keyword.Use = refl
keyword-letters keyword.While = refl
keyword-letters keyword.Async = refl
keyword-letters keyword.Await = refl
keyword-letters keyword.Crate = refl
keyword-letters keyword.Dyn = refl
keyword-letters keyword.Enum = refl
keyword-letters keyword.For = refl
keyword-letters keyword.Impl = refl
keyword-letters keyword.In = refl
keyword-letters keyword.Match = refl
keyword-letters keyword.Mod = refl
keyword-letters keyword.Move = refl
keyword-letters keyword.Pub = refl
keyword-letters keyword.Ref = refl
keyword-letters keyword.SelfValue = refl
keyword-letters keyword.SelfType = refl
keyword-letters keyword.Static = refl
keyword-letters keyword.Super = refl
keyword-letters keyword.Trait = refl
keyword-letters keyword.Type = refl
keyword-letters keyword.Where = refl

-- and none of them opens a byte literal
pub keyword-no_byte : (x : Keyword) (rest : List ℕ) → begins_pair 98 39 (keyword_text x ++ rest) ≡ false
keyword-no_byte keyword.As rest = refl
keyword-no_byte keyword.Break rest = refl
keyword-no_byte keyword.Const rest = refl
keyword-no_byte keyword.Continue rest = refl
keyword-no_byte keyword.Else rest = refl
keyword-no_byte keyword.Extern rest = refl
keyword-no_byte keyword.False rest = refl
keyword-no_byte keyword.Fn rest = refl
keyword-no_byte keyword.If rest = refl
keyword-no_byte keyword.Let rest = refl
keyword-no_byte keyword.Loop rest = refl
keyword-no_byte keyword.Mut rest = refl
keyword-no_byte keyword.Return rest = refl
keyword-no_byte keyword.Struct rest = refl
keyword-no_byte keyword.True rest = refl
keyword-no_byte keyword.Unsafe rest = refl
keyword-no_byte keyword.Use rest = refl
keyword-no_byte keyword.While rest = refl
keyword-no_byte keyword.Async rest = refl
keyword-no_byte keyword.Await rest = refl
keyword-no_byte keyword.Crate rest = refl
keyword-no_byte keyword.Dyn rest = refl
keyword-no_byte keyword.Enum rest = refl
keyword-no_byte keyword.For rest = refl
keyword-no_byte keyword.Impl rest = refl
keyword-no_byte keyword.In rest = refl
keyword-no_byte keyword.Match rest = refl
keyword-no_byte keyword.Mod rest = refl
keyword-no_byte keyword.Move rest = refl
keyword-no_byte keyword.Pub rest = refl
keyword-no_byte keyword.Ref rest = refl
keyword-no_byte keyword.SelfValue rest = refl
keyword-no_byte keyword.SelfType rest = refl
keyword-no_byte keyword.Static rest = refl
keyword-no_byte keyword.Super rest = refl
keyword-no_byte keyword.Trait rest = refl
keyword-no_byte keyword.Type rest = refl
keyword-no_byte keyword.Where rest = refl

-- an ASCII character with which nothing but punctuation begins
abbrev pub is_mark : ℕ → Bool
is_mark c = ltb c 128 && not (is_space c || is_ascii_digit c || c == 39 || c == 34 || is_ascii_alphabetic c || c == 95)

pub punctuation-marks : (x : Punctuation) → begins_by is_mark (punctuation_text x) ≡ true
punctuation-marks mark.ShlEq = refl
punctuation-marks mark.ShrEq = refl
punctuation-marks mark.PathSep = refl
punctuation-marks mark.Arrow = refl
punctuation-marks mark.Ne = refl
punctuation-marks mark.EqEq = refl
punctuation-marks mark.Le = refl
punctuation-marks mark.Shl = refl
punctuation-marks mark.Ge = refl
punctuation-marks mark.Shr = refl
punctuation-marks mark.PlusEq = refl
punctuation-marks mark.MinusEq = refl
punctuation-marks mark.StarEq = refl
punctuation-marks mark.SlashEq = refl
punctuation-marks mark.PercentEq = refl
punctuation-marks mark.AndAnd = refl
punctuation-marks mark.AndEq = refl
punctuation-marks mark.OrOr = refl
punctuation-marks mark.OrEq = refl
punctuation-marks mark.CaretEq = refl
punctuation-marks mark.OpenParen = refl
punctuation-marks mark.CloseParen = refl
punctuation-marks mark.OpenBracket = refl
punctuation-marks mark.CloseBracket = refl
punctuation-marks mark.OpenBrace = refl
punctuation-marks mark.CloseBrace = refl
punctuation-marks mark.Comma = refl
punctuation-marks mark.Semicolon = refl
punctuation-marks mark.Colon = refl
punctuation-marks mark.Dot = refl
punctuation-marks mark.Pound = refl
punctuation-marks mark.Not = refl
punctuation-marks mark.Eq = refl
punctuation-marks mark.Lt = refl
punctuation-marks mark.Gt = refl
punctuation-marks mark.Plus = refl
punctuation-marks mark.Minus = refl
punctuation-marks mark.Star = refl
punctuation-marks mark.Slash = refl
punctuation-marks mark.Percent = refl
punctuation-marks mark.And = refl
punctuation-marks mark.Or = refl
punctuation-marks mark.Caret = refl
