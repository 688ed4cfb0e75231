-- What is refused is a fault, and what is a fault is refused.
use Rattle.std.proofs.Common.{◌≡◌, ◌≢◌, inl, inr, ℕ, ◌-◌, Bool, true, false, ◌&&◌, ◌==◌, cond, List, [], ◌∷◌, ◌++◌, length, take, Option, Some, None, Result, Ok, Err, refl, ap, sym, subst, ◌∙◌, ltb, eqb-true, eq-eqb, append_assoc, append-nil}
use Rattle.std.specs.Char.{is_ascii_digit}
use Rattle.std.specs.Str.{encode_utf8_all}
use Rattle.std.proofs.lemmas.Bool.{cases_Bool}
use Rattle.tb_perm.specs.declared.code.Code.{Code}
use Rattle.tb_perm.specs.declared.code.Code.TheVariants.{UnknownCharacter, BadLiteral, UnfinishedComment, BadNumber, UnknownSuffix}
use Rattle.tb_lex.specs.declared.literal.Literal.{Literal}
use Rattle.tb_lex.specs.declared.literal.Literal.TheVariants as literal
use Rattle.tb_lex.specs.declared.literal.Stage.{Stage}
use Rattle.tb_lex.specs.declared.literal.Stage.TheVariants.{Open, Escape, Hex, Digit, Unicode, Digits, Full}
use Rattle.tb_lex.specs.declared.token.TokenKind.{TokenKind}
use Rattle.tb_lex.specs.declared.token.TokenKind.TheVariants as kind
use Rattle.tb_lex.specs.Characters.{is_space, is_start, is_continue, begins, tail, front, after_front, is_in_line}
use Rattle.tb_lex.specs.Comments.{after_block}
use Rattle.tb_lex.specs.Tables.{punctuation_at}
use Rattle.tb_lex.specs.Stages.{content}
use Rattle.tb_lex.specs.Literals.{IsContent, opening, closing, quoted}
use Rattle.tb_lex.specs.Tokens.{IsToken, IsPassed}
use Rattle.tb_lex.specs.Tokens.IsPassed.{Blank, Line, Block}
use Rattle.tb_lex.specs.Faults.{IsFault}
use Rattle.tb_lex.specs.Faults.IsFault.{Character as OtherCharacter, Unended, Comment, Number as BadDigits, Suffixed as BadSuffix}
use Rattle.tb_lex.specs.Scan.{Read, word_kind, name, token, refuse, word_at, is_lifetime, lifetime_at, numbered, number_at, character_of, byte_of, text_of, character_at, byte_at, text_at, quoted_at, marked, mark_at, token_at, block_end, comment_at, gap_at}
use Rattle.tb_lex.proofs.Cases.{both, chosen, some_is, tell}
use Rattle.tb_lex.proofs.Fronts.{front-parts, front-all, front-next, front-again}
use Rattle.tb_lex.proofs.Unfinished.{meant, is_front, is_longest, NoWhole}
use Rattle.tb_lex.proofs.Tables.{finds_punctuation}
use Rattle.tb_lex.proofs.Comments.{block-again, block-takes}
use Rattle.tb_lex.proofs.Takes.{no_gap, begins-is, digit-word, numbered-cases}
use Rattle.tb_lex.proofs.Takes.Numbered.{Sound, Unsound, Wrong}
use Rattle.tb_lex.proofs.Finds.{token-finds, path-byte, path-quote, path-text, quoted-character}

-- two refusals that are one
pub refuse-is : (c d : Code) (x y : List ℕ) → refuse c x ≡ refuse d y → (c ≡ d) × (x ≡ y)
refuse-is c d x y e =
    let pair : Code → List ℕ → Code × List ℕ = λ a b. (a, b) in
    let same : pair c x ≡ pair d y = cc in
    (ap (λ (p : Code × List ℕ). p.0) same, ap (λ (p : Code × List ℕ). p.1) same)

-- a fault of this code begins the text, and the rest follows its piece
abbrev pub Faulty : Code → List ℕ → List ℕ → Type 0
Faulty code text rest = (piece : List ℕ) × (text ≡ piece ++ rest) × IsFault code piece rest

faulty-is : (c d : Code) (x y text : List ℕ) → refuse c x ≡ refuse d y → Faulty c text x → Faulty d text y
faulty-is c d x y text e f =
    let same = refuse-is c d x y e in
    subst (λ z. Faulty d text z) same.1 (subst (λ j. Faulty j text x) same.0 f)

-- where reading refuses, no token stands
pub no_token : (text : List ℕ) (code : Code) (rest : List ℕ) → token_at text ≡ refuse code rest → (k : TokenKind) (piece after : List ℕ) → piece ++ after ≡ text → IsToken k piece after → ⊥
no_token text code rest e k piece after parts is =
    let f = token-finds k piece after is in
    let h : token f.found f.rest ≡ refuse code rest = sym f.stands ∙ ap token_at parts ∙ e in
    cc

-- Literals.

-- where a whole literal stands behind the opening, it is a token there
whole-token : (l : Literal) (inner after : List ℕ) → IsContent l inner → (k : TokenKind) × IsToken k (quoted l inner) after
whole-token literal.Character inner after (value, is) = (kind.Character value, (inner, refl, is))
whole-token literal.Byte inner after (value, is) = (kind.Byte value, (inner, refl, is))
whole-token literal.Text inner after (values, is) =
    (kind.Text (record { source = encode_utf8_all inner }), (inner, values, refl, is, refl))

-- so none does where reading refuses
pub no_whole : (l : Literal) (text : List ℕ) (code : Code) (rest : List ℕ) → token_at (opening l ++ text) ≡ refuse code rest → NoWhole l text
no_whole l text code rest e inner after parts is =
    let t = whole-token l inner after is in
    let regroup : quoted l inner ++ after ≡ opening l ++ text =
    append_assoc (opening l) (inner ++ closing l ∷ []) after
    ∙ ap (λ (x : List ℕ). opening l ++ x) (append_assoc inner (closing l ∷ []) after ∙ sym parts) in
    no_token (opening l ++ text) code rest e t.0 (quoted l inner) after regroup t.1

-- what was read of a literal that is refused is its longest front
unfinished : (l : Literal) (text rest : List ℕ) → token_at (opening l ++ text) ≡ refuse BadLiteral rest → (content l Open text).1 ≡ rest → Faulty BadLiteral (opening l ++ text) rest
unfinished l text rest e at =
    let m = meant l text in
    let parts : text ≡ m.0 ++ rest = m.1 ∙ ap (λ (t : List ℕ). m.0 ++ t) at in
    let whole : opening l ++ text ≡ (opening l ++ m.0) ++ rest = ap (λ (t : List ℕ). opening l ++ t) parts ∙ sym (append_assoc (opening l) m.0 rest) in (
      opening l ++ m.0,
      whole,
      Unended l (opening l ++ m.0) rest (record {
        inner = m.0;
        opened = refl;
        front = is_front l (content l Open text).0 m.0 m.2;
        longest = is_longest l text m.0 rest (no_whole l text BadLiteral rest e) parts at;
        no_token = λ k piece after same is. no_token (opening l ++ text) BadLiteral rest e k piece after (same ∙ sym whole) is;
      }),
    )

-- a literal is refused with this code alone, and with what was not read
abbrev pub Stuck : Read → List ℕ → Type 0
Stuck read rest = (code : Code) (after : List ℕ) → read ≡ refuse code after → (code ≡ BadLiteral) × (rest ≡ after)

stuck : (rest : List ℕ) → Stuck (refuse BadLiteral rest) rest
stuck rest code after e =
    let same = refuse-is BadLiteral code rest after e in (sym same.0, same.1)

stuck_or : (b : Bool) (k : TokenKind) (x rest : List ℕ) → Stuck (cond b (token k x) (refuse BadLiteral rest)) rest
stuck_or true k x rest code after e = let h : token k x ≡ refuse code after = e in absurd cc
stuck_or false k x rest code after e = stuck rest code after e

character-stuck : (stage : Stage) (rest : List ℕ) → Stuck (character_of stage rest) rest
character-stuck (Full c) rest = stuck_or (begins 39 rest) (kind.Character c) (tail rest) rest
character-stuck Open rest = stuck rest
character-stuck Escape rest = stuck rest
character-stuck Hex rest = stuck rest
character-stuck (Digit high) rest = stuck rest
character-stuck Unicode rest = stuck rest
character-stuck (Digits count value) rest = stuck rest

byte-stuck : (stage : Stage) (rest : List ℕ) → Stuck (byte_of stage rest) rest
byte-stuck (Full c) rest = stuck_or (begins 39 rest && ltb c 256) (kind.Byte c) (tail rest) rest
byte-stuck Open rest = stuck rest
byte-stuck Escape rest = stuck rest
byte-stuck Hex rest = stuck rest
byte-stuck (Digit high) rest = stuck rest
byte-stuck Unicode rest = stuck rest
byte-stuck (Digits count value) rest = stuck rest

text-stuck : (text : List ℕ) (stage : Stage) (rest : List ℕ) → Stuck (text_of text stage rest) rest
text-stuck text Open rest = stuck_or (begins 34 rest) (kind.Text (record { source = encode_utf8_all (take (length text - length rest) text) })) (tail rest) rest
text-stuck text (Full c) rest = stuck rest
text-stuck text Escape rest = stuck rest
text-stuck text Hex rest = stuck rest
text-stuck text (Digit high) rest = stuck rest
text-stuck text Unicode rest = stuck rest
text-stuck text (Digits count value) rest = stuck rest

lifetime-never : (text : List ℕ) (code : Code) (after : List ℕ) → lifetime_at text ≡ refuse code after → ⊥
unfolding lifetime_at
lifetime-never text code after e =
    let h : token (kind.Lifetime (name (front is_continue text))) (after_front is_continue text) ≡ refuse code after = e in cc

quoted-lifetime : (text : List ℕ) → is_lifetime text ≡ true → quoted_at text ≡ lifetime_at text
unfolding quoted_at
quoted-lifetime text e = ap (λ (b : Bool). cond b (lifetime_at text) (character_at text)) e

-- behind each opening a refusal is one of the literal
pub literal-stuck : (l : Literal) (text : List ℕ) → Stuck (token_at (opening l ++ text)) (content l Open text).1
unfolding character_at byte_at text_at
literal-stuck literal.Character text code after e =
    elim (cases_Bool (is_lifetime text)) [
      | inl is ↦
          let h : lifetime_at text ≡ refuse code after = sym (quoted-lifetime text is) ∙ sym (path-quote text) ∙ e in
          absurd (lifetime-never text code after h)
      | inr other ↦ character-stuck (content literal.Character Open text).0 (content literal.Character Open text).1 code after (sym (quoted-character text other) ∙ sym (path-quote text) ∙ e)
    ]
literal-stuck literal.Byte text code after e =
    byte-stuck (content literal.Byte Open text).0 (content literal.Byte Open text).1 code after (sym (path-byte text) ∙ e)
literal-stuck literal.Text text code after e =
    text-stuck text (content literal.Text Open text).0 (content literal.Text Open text).1 code after (sym (path-text text) ∙ e)

-- so it is a fault
pub literal-refuses : (l : Literal) (text : List ℕ) (code : Code) (rest : List ℕ) → token_at (opening l ++ text) ≡ refuse code rest → Faulty code (opening l ++ text) rest
literal-refuses l text code rest e =
    let s = literal-stuck l text code rest e in
    subst (λ c. Faulty c (opening l ++ text) rest) (sym s.0)
    (unfinished l text rest (e ∙ ap (λ c. refuse c rest) s.0) s.1)

-- Integers.

number-refuses : (c : ℕ) (text : List ℕ) (code : Code) (rest : List ℕ) → is_ascii_digit c ≡ true → number_at (c ∷ text) ≡ refuse code rest → Faulty code (c ∷ text) rest
unfolding number_at
number-refuses c text code rest digit e =
    let word : List ℕ = front is_continue (c ∷ text) in
    let after : List ℕ = after_front is_continue (c ∷ text) in
    elim (numbered-cases word) [
      | Sound base digits integer is sound value reads ↦
          let same : token (kind.Integer integer) after ≡ refuse code rest = sym (ap (λ r. numbered r after) reads) ∙ e in absurd cc
      | Unsound base digits tail is unsound reads ↦
          let same : refuse BadNumber after ≡ refuse code rest = sym (ap (λ r. numbered r after) reads) ∙ e in
          faulty-is BadNumber code after rest (c ∷ text) same
          (word, front-parts is_continue (c ∷ text), BadDigits word after base digits tail (digit-word c text digit) is unsound)
      | Wrong base digits tail is sound some other reads ↦
          let same : refuse UnknownSuffix after ≡ refuse code rest = sym (ap (λ r. numbered r after) reads) ∙ e in
          faulty-is UnknownSuffix code after rest (c ∷ text) same
          (word, front-parts is_continue (c ∷ text), BadSuffix word after base digits tail (digit-word c text digit) is sound some other)
    ]

-- Other characters.

not_same : (c d : ℕ) → (c == d) ≡ false → c ≢ d
not_same c d e same = let h : true ≡ false = sym (eq-eqb c d same) ∙ e in cc

mark-refuses : (c : ℕ) (text : List ℕ) (code : Code) (rest : List ℕ) → is_space c ≡ false → (c == 39) ≡ false → (c == 34) ≡ false → is_ascii_digit c ≡ false → is_start c ≡ false
    → mark_at (c ∷ text) ≡ refuse code rest → Faulty code (c ∷ text) rest
unfolding mark_at
mark-refuses c text code rest space single double digit start e = elim (tell (punctuation_at (c ∷ text))) [
  | inr found ↦ let h : token (kind.Punctuation found.0.0) found.0.1 ≡ refuse code rest = sym (ap (marked (c ∷ text)) found.1) ∙ e in absurd cc
  | inl none ↦
      let same : refuse UnknownCharacter text ≡ refuse code rest = sym (ap (marked (c ∷ text)) none) ∙ e in
      faulty-is UnknownCharacter code text rest (c ∷ text) same (
        c ∷ [],
        refl,
        OtherCharacter c text space (not_same c 39 single) (not_same c 34 double) digit start (λ p after parts.
            let f = finds_punctuation p after in
            let h : None ≡ Some (f.found, f.rest) = sym none ∙ ap punctuation_at parts ∙ f.stands in
            cc),
      )
]

word-never : (text : List ℕ) (code : Code) (after : List ℕ) → word_at text ≡ refuse code after → ⊥
unfolding word_at
word-never text code after e =
    let h : token (word_kind (front is_continue text)) (after_front is_continue text) ≡ refuse code after = e in cc

-- what is refused is a fault
pub token-refuses : (c : ℕ) (rest : List ℕ) (code : Code) (after : List ℕ) → is_space c ≡ false → token_at (c ∷ rest) ≡ refuse code after → Faulty code (c ∷ rest) after
unfolding token_at
token-refuses c rest code after space e =
    let marks : Read = mark_at (c ∷ rest) in
    let words : Read = cond (is_start c) (word_at (c ∷ rest)) marks in
    let numbers : Read = cond (is_ascii_digit c) (number_at (c ∷ rest)) words in
    let texts : Read = cond (c == 34) (text_at rest) numbers in
    let quotes : Read = cond (c == 39) (quoted_at rest) texts in
    elim (chosen (c == 98 && begins 39 rest) (byte_at (tail rest)) quotes (refuse code after) e) [
      | inl j ↦
          let parts = both (c == 98) (begins 39 rest) j.0 in
          let same : 98 ∷ 39 ∷ tail rest ≡ c ∷ rest = sym (ap (λ (n : ℕ). n ∷ rest) (eqb-true c 98 parts.0) ∙ ap (λ (t : List ℕ). 98 ∷ t) (begins-is 39 rest parts.1)) in
          subst (λ t. Faulty code t after) same (literal-refuses literal.Byte (tail rest) code after j.1)
      | inr j ↦ elim (chosen (c == 39) (quoted_at rest) texts (refuse code after) j.1) [
        | inl q ↦ subst (λ n. Faulty code (n ∷ rest) after) (sym (eqb-true c 39 q.0)) (literal-refuses literal.Character rest code after q.1)
        | inr q ↦ elim (chosen (c == 34) (text_at rest) numbers (refuse code after) q.1) [
          | inl t ↦ subst (λ n. Faulty code (n ∷ rest) after) (sym (eqb-true c 34 t.0)) (literal-refuses literal.Text rest code after t.1)
          | inr t ↦ elim (chosen (is_ascii_digit c) (number_at (c ∷ rest)) words (refuse code after) t.1) [
            | inl d ↦ number-refuses c rest code after d.0 d.1
            | inr d ↦ elim (chosen (is_start c) (word_at (c ∷ rest)) marks (refuse code after) d.1) [
              | inl w ↦ absurd (word-never (c ∷ rest) code after w.1)
              | inr w ↦ mark-refuses c rest code after space q.0 t.0 d.0 w.0 w.1
            ]
          ]
        ]
      ]
    ]

-- Block comments.

-- a gap that is refused
abbrev pub refuse_gap : Code → List ℕ → Result (Option (List ℕ)) (Code × List ℕ)
refuse_gap code rest = Err (code, rest)

abbrev pub pass : List ℕ → Result (Option (List ℕ)) (Code × List ℕ)
pass rest = Ok (Some rest)

refuse_gap-is : (c d : Code) (x y : List ℕ) → refuse_gap c x ≡ refuse_gap d y → (c ≡ d) × (x ≡ y)
refuse_gap-is c d x y e =
    let pair : Code → List ℕ → Code × List ℕ = λ a b. (a, b) in
    let same : pair c x ≡ pair d y = cc in
    (ap (λ (p : Code × List ℕ). p.0) same, ap (λ (p : Code × List ℕ). p.1) same)

comment-refuses : (text : List ℕ) (code : Code) (rest : List ℕ) → comment_at text ≡ refuse_gap code rest → Faulty code (47 ∷ text) rest
unfolding comment_at
comment-refuses [] code rest e = let h : no_gap ≡ refuse_gap code rest = e in absurd cc
comment-refuses (c ∷ text) code rest e = elim (chosen (c == 47) (pass (after_front is_in_line text)) (cond (c == 42) (block_end (after_block 0 text)) no_gap) (refuse_gap code rest) e) [
  | inl k ↦ absurd cc
  | inr k ↦ elim (chosen (c == 42) (block_end (after_block 0 text)) no_gap (refuse_gap code rest) k.1) [
    | inr j ↦ absurd cc
    | inl j ↦ elim (tell (after_block 0 text)) [
      | inr found ↦ let h : pass found.0 ≡ refuse_gap code rest = sym (ap block_end found.1) ∙ j.1 in absurd cc
      | inl none ↦
          let h = refuse_gap-is UnfinishedComment code [] rest (sym (ap block_end none) ∙ j.1) in
          let star : 42 ≡ c = sym (eqb-true c 42 j.0) in
          let fault : Faulty UnfinishedComment (47 ∷ 42 ∷ text) [] = (
            47 ∷ 42 ∷ text,
            ap (λ (t : List ℕ). 47 ∷ 42 ∷ t) (sym (append-nil text)),
            Comment text (λ block after parts is.
                let h : Some after ≡ None = sym (block-again block is 0 after) ∙ ap (after_block 0) (sym parts) ∙ none in
                cc),
          ) in
          subst (λ n. Faulty code (47 ∷ n ∷ text) rest) star (subst (λ r. Faulty code (47 ∷ 42 ∷ text) r) h.1 (subst (λ d. Faulty d (47 ∷ 42 ∷ text) []) h.0 fault))
    ]
  ]
]

pub gap-refuses : (text : List ℕ) (code : Code) (rest : List ℕ) → gap_at text ≡ refuse_gap code rest → Faulty code text rest
unfolding gap_at
gap-refuses [] code rest e = let h : no_gap ≡ refuse_gap code rest = e in absurd cc
gap-refuses (c ∷ text) code rest e = elim (chosen (is_space c) (pass text) (cond (c == 47) (comment_at text) no_gap) (refuse_gap code rest) e) [
  | inl k ↦ absurd cc
  | inr k ↦ elim (chosen (c == 47) (comment_at text) no_gap (refuse_gap code rest) k.1) [
    | inl j ↦ subst (λ n. Faulty code (n ∷ text) rest) (sym (eqb-true c 47 j.0)) (comment-refuses text code rest j.1)
    | inr j ↦ absurd cc
  ]
]

-- What is passed stands there.

abbrev pub Passing : List ℕ → List ℕ → Type 0
Passing text rest = (piece : List ℕ) × (text ≡ piece ++ rest) × IsPassed piece rest

pass-is : (x y : List ℕ) → pass x ≡ pass y → x ≡ y
pass-is x y e = some_is x y cc

comment-passes : (text rest : List ℕ) → comment_at text ≡ pass rest → Passing (47 ∷ text) rest
unfolding comment_at
comment-passes [] rest e = let h : no_gap ≡ pass rest = e in absurd cc
comment-passes (c ∷ text) rest e = elim (chosen (c == 47) (pass (after_front is_in_line text)) (cond (c == 42) (block_end (after_block 0 text)) no_gap) (pass rest) e) [
  | inl k ↦
      let same = pass-is (after_front is_in_line text) rest k.1 in
      let slash : 47 ≡ c = sym (eqb-true c 47 k.0) in
      let here : Passing (47 ∷ 47 ∷ text) (after_front is_in_line text) = (
        47 ∷ 47 ∷ front is_in_line text,
        ap (λ (t : List ℕ). 47 ∷ 47 ∷ t) (front-parts is_in_line text),
        Line (front is_in_line text) (after_front is_in_line text) (front-all is_in_line text) (front-next is_in_line text),
      ) in
      subst (λ n. Passing (47 ∷ n ∷ text) rest) slash (subst (λ r. Passing (47 ∷ 47 ∷ text) r) same here)
  | inr k ↦ elim (chosen (c == 42) (block_end (after_block 0 text)) no_gap (pass rest) k.1) [
    | inr j ↦ absurd cc
    | inl j ↦ elim (tell (after_block 0 text)) [
      | inl none ↦ let h : refuse_gap UnfinishedComment [] ≡ pass rest = sym (ap block_end none) ∙ j.1 in absurd cc
      | inr found ↦
          let same = pass-is found.0 rest (sym (ap block_end found.1) ∙ j.1) in
          let star : 42 ≡ c = sym (eqb-true c 42 j.0) in
          let block = block-takes 0 text found.0 found.1 in
          let here : Passing (47 ∷ 42 ∷ text) found.0 = (
            47 ∷ 42 ∷ block.0,
            ap (λ (t : List ℕ). 47 ∷ 42 ∷ t) block.1,
            Block block.0 found.0 block.2,
          ) in
          subst (λ n. Passing (47 ∷ n ∷ text) rest) star (subst (λ r. Passing (47 ∷ 42 ∷ text) r) same here)
    ]
  ]
]

pub gap-passes : (text rest : List ℕ) → gap_at text ≡ pass rest → Passing text rest
unfolding gap_at
gap-passes [] rest e = let h : no_gap ≡ pass rest = e in absurd cc
gap-passes (c ∷ text) rest e = elim (chosen (is_space c) (pass text) (cond (c == 47) (comment_at text) no_gap) (pass rest) e) [
  | inl k ↦ subst (λ r. Passing (c ∷ text) r) (pass-is text rest k.1) (c ∷ [], refl, Blank c text k.0)
  | inr k ↦ elim (chosen (c == 47) (comment_at text) no_gap (pass rest) k.1) [
    | inl j ↦ subst (λ n. Passing (n ∷ text) rest) (sym (eqb-true c 47 j.0)) (comment-passes text rest j.1)
    | inr j ↦ absurd cc
  ]
]

-- and what stands there is passed
pub passed-again : (piece rest : List ℕ) → IsPassed piece rest → gap_at (piece ++ rest) ≡ pass rest
unfolding gap_at comment_at
passed-again _ rest (Blank c r space) = ap (λ (b : Bool). cond b (pass rest) (cond (c == 47) (comment_at rest) no_gap)) space
passed-again _ rest (Line line r all ends) = ap pass (front-again is_in_line line rest all ends).1
passed-again _ rest (Block inner r is) = ap block_end (block-again inner is 0 rest)
