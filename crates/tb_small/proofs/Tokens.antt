-- White space and tokens: what is read is the token, and the token is read.
use Rattle.std.proofs.Common.{◌≡◌, ◌≢◌, ℕ, ◌+◌, ◌≤◌, true, false, cond, eqb, List, [], ◌∷◌, ◌++◌, length, Option, Some, None, refl, sym, ap, subst, ◌∙◌, arith, eq-eqb, length-append, ◌<◌, inl, inr}
use Rattle.std.proofs.lemmas.Bool.{eqb-true, cond-true}
use Rattle.std.proofs.lemmas.Bool.Decides.{eqb_tells}
use Rattle.std.specs.Prelude.{MatchOption}
use Rattle.std.specs.Option.{option_copied}
use Rattle.std.proofs.Common.{Bor}
use Rattle.std.proofs.Common.{◌-◌}
use Rattle.tb_small.specs.Words.{is_space, after_space, is_apart, Exactly, Token, Begins, Reads}
use Rattle.tb_small.specs.Grammar.{token, opening, closing}
use Rattle.tb_small.specs.Reading.{◌>>=◌, strip, eat}
use Rattle.tb_small.proofs.Options.{bind_some, kept, some_is}

pub strip-again : (word rest : List ℕ) → strip word (word ++ rest) ≡ Some rest
strip-again [] rest = refl
strip-again (byte ∷ word) rest = rw (eq-eqb byte byte refl) (strip-again word rest)

pub strip-takes : (word text rest : List ℕ) → strip word text ≡ Some rest → text ≡ word ++ rest
strip-takes [] text rest e = some_is text rest e
strip-takes (expected ∷ word) [] rest e = absurd cc
strip-takes (expected ∷ word) (byte ∷ text) rest e =
    let k = kept (eqb expected byte) (strip word text) rest e in
    let same : expected ≡ byte = eqb-true expected byte k.0 in
    let tail : text ≡ word ++ rest = strip-takes word text rest k.1 in
    cc

-- a word that is read stands there
pub eat-takes : (word text rest : List ℕ) → eat word text ≡ Some rest → (after_space text ≡ word ++ rest) × (is_apart word rest ≡ true)
unfolding eat
eat-takes word text rest e =
    let a = bind_some (strip word (after_space text)) (λ rest. cond (is_apart word rest) (Some rest) None) rest e in
    let k = kept (is_apart word a.0) (Some a.0) rest a.2 in
    let same : a.0 ≡ rest = some_is a.0 rest k.1 in
    subst (λ r. (after_space text ≡ word ++ r) × (is_apart word r ≡ true)) same (strip-takes word (after_space text) a.0 a.1, k.0)

-- a word that stands there is read
pub eat-again : (word text rest : List ℕ) → after_space text ≡ word ++ rest → is_apart word rest ≡ true → eat word text ≡ Some rest
unfolding eat
eat-again word text rest bytes apart =
    ap (λ t. strip word t >>= λ r. cond (is_apart word r) (Some r) None) bytes
    ∙ ap (λ s. s >>= λ r. cond (is_apart word r) (Some r) None) (strip-again word rest)
    ∙ cond-true (is_apart word rest) (Some rest) None apart

-- where no rest follows the word, there is nothing to strip
pub strip-none : (word text : List ℕ) → ((rest : List ℕ) → text ≢ word ++ rest) → strip word text ≡ None
strip-none [] text never = absurd (never text refl)
strip-none (expected ∷ word) [] never = refl
strip-none (expected ∷ word) (byte ∷ text) never =
    elim (eqb_tells expected byte) [
      | inl same ↦ rw same.0 (strip-none word text (λ rest e. never rest (ap (λ (t : List ℕ). byte ∷ t) e ∙ ap (λ b. b ∷ (word ++ rest)) (sym same.1))))
      | inr differ ↦ rw differ.0 refl
    ]

-- a token that is spelled by these bytes
pub exactly : (size : ℕ) (text word : List ℕ) (lo hi : Option ℕ) (rest : List ℕ) → Begins size text (record { spelling = Exactly word; lo = lo; hi = hi }) rest → (after_space text ≡ word ++ rest) × (is_apart word rest ≡ true)
exactly size text word lo hi rest h =
    let at : List ℕ → Type 0 = λ w. (after_space text ≡ w ++ rest) × (is_apart w rest ≡ true) in
    subst at h.spelled (h.bytes, h.apart)

-- such a token that stands next is read
pub token-again : (size : ℕ) (text word : List ℕ) (lo hi : Option ℕ) (rest : List ℕ) → Begins size text (record { spelling = Exactly word; lo = lo; hi = hi }) rest → eat word text ≡ Some rest
token-again size text word lo hi rest h = let e = exactly size text word lo hi rest h in eat-again word text rest e.0 e.1

-- a word that is read is a token whose place nobody names
pub token-takes : (size : ℕ) (word text rest : List ℕ) → eat word text ≡ Some rest → Begins size text (token word) rest
token-takes size word text rest e = let h = eat-takes word text rest e in record { word = word; spelled = refl; bytes = h.0; apart = h.1; lo = tt; hi = tt }

-- and a token that begins where it begins, or ends where it ends
pub opening-takes : (size : ℕ) (word text rest : List ℕ) → eat word text ≡ Some rest → Begins size text (opening (size - length (after_space text)) word) rest
opening-takes size word text rest e = let h = eat-takes word text rest e in record { word = word; spelled = refl; bytes = h.0; apart = h.1; lo = refl; hi = tt }

pub closing-takes : (size : ℕ) (word text rest : List ℕ) → eat word text ≡ Some rest → Begins size text (closing word (size - length rest)) rest
closing-takes size word text rest e = let h = eat-takes word text rest e in record { word = word; spelled = refl; bytes = h.0; apart = h.1; lo = tt; hi = refl }

-- one run of tokens and then another
pub reads-then : (size : ℕ) (tokens more : List Token) (text mid rest : List ℕ) → Reads size text tokens mid → Reads size mid more rest → Reads size text (tokens ++ more) rest
reads-then size [] more text mid rest a b = rw a b
reads-then size (token ∷ tokens) more text mid rest a b = (a.0, a.1, reads-then size tokens more a.0 mid rest a.2 b)

pub reads-split : (size : ℕ) (tokens more : List Token) (text rest : List ℕ) → Reads size text (tokens ++ more) rest → (mid : List ℕ) × Reads size text tokens mid × Reads size mid more rest
reads-split size [] more text rest h = (text, refl, h)
reads-split size (token ∷ tokens) more text rest h =
    let others = reads-split size tokens more h.0 rest h.2 in
    (others.0, (h.0, h.1, others.1), others.2)

after_space-shrinks : (text : List ℕ) → length (after_space text) ≤ length text
after_space-shrinks [] = omega arith
after_space-shrinks (byte ∷ text) = elim (is_space byte) as (λ b. length (cond b (after_space text) (byte ∷ text)) ≤ length (byte ∷ text)) [
  | true ↦ let h = after_space-shrinks text in omega arith
  | false ↦ omega arith
]

-- a token of at least one byte leaves less of the text
pub token-shorter : (size : ℕ) (text : List ℕ) (token : Token) (rest : List ℕ) (h : Begins size text token rest) → 0 < length h.word → length rest < length text
token-shorter size text token rest h some =
    let a = after_space-shrinks text in
    let b : length (after_space text) ≡ length h.word + length rest = ap length h.bytes ∙ length-append h.word rest in
    omega arith

-- and any token leaves no more
pub token-shrinks : (size : ℕ) (text : List ℕ) (token : Token) (rest : List ℕ) → Begins size text token rest → length rest ≤ length text
token-shrinks size text token rest h =
    let a = after_space-shrinks text in
    let b : length (after_space text) ≡ length h.word + length rest = ap length h.bytes ∙ length-append h.word rest in
    omega arith

pub reads-shrinks : (size : ℕ) (tokens : List Token) (text rest : List ℕ) → Reads size text tokens rest → length rest ≤ length text
reads-shrinks size [] text rest h = rw h (omega arith)
reads-shrinks size (token ∷ tokens) text rest h =
    let first = token-shrinks size text token h.0 h.1 in
    let others = reads-shrinks size tokens h.0 rest h.2 in
    omega arith

-- what `strip_prefix` returns
pub strip-is : (word text : List ℕ) (r : Option (Bor (List ℕ))) → MatchOption r ((rest : List ℕ) → text ≢ word ++ rest) (λ x. text ≡ word ++ x.now) → strip word text ≡ option_copied r
strip-is word text None h = strip-none word text h
strip-is word text (Some x) h = ap (strip word) h ∙ strip-again word x.now

-- where a token of one byte stands next, that byte does
pub token-byte : (size : ℕ) (text : List ℕ) (byte : ℕ) (lo hi : Option ℕ) (rest : List ℕ) → Begins size text (record { spelling = Exactly (byte ∷ []); lo = lo; hi = hi }) rest → after_space text ≡ byte ∷ rest
token-byte size text byte lo hi rest h = (exactly size text (byte ∷ []) lo hi rest h).0

-- one token alone
pub reads-one : (size : ℕ) (text : List ℕ) (token : Token) (rest : List ℕ) → Reads size text (token ∷ []) rest → Begins size text token rest
reads-one size text token rest h = subst (λ r. Begins size text token r) h.2 h.1
