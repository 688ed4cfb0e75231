-- Identifiers, variables, literals and types: what is read stands there, and what stands there is read.
use Rattle.std.proofs.Common.{◌≡◌, ℕ, ◌-◌, ◌≤◌, inl, inr, true, false, cond, eqb, leb, ◌&&◌, ◌||◌, not, List, [], ◌∷◌, ◌++◌, length, Some, None, refl, sym, ap, subst, ◌∙◌, arith, eq-eqb}
use Rattle.std.specs.Prelude.{codes}
use Rattle.std.specs.Char.{is_ascii_digit}
use Rattle.std.specs.List.{list_all}
use Rattle.std.specs.Str.{bytes_eq}
use Rattle.std.proofs.lemmas.Bool.{cases_Bool, leb-true, le-leb, cond-true, eqb-true}
use Rattle.tb_perm.specs.declared.span.Span.{Span}
use Rattle.tb_small.specs.Scope.{Binding}
use Rattle.tb_small.specs.declared.tree.Variable.{Variable}
use Rattle.tb_small.specs.declared.tree.Int.{Int}
use Rattle.tb_small.specs.declared.tree.RefKind.TheVariants as kind
use Rattle.tb_small.specs.declared.tree.Ty.{Ty}
use Rattle.tb_small.specs.declared.tree.Ty.TheVariants as ty
use Rattle.tb_small.specs.Words.{is_word_byte, after_space, begins_with, begins_word, begins_digit, is_lengthened, is_apart, is_keyword, is_name, is_number, value_of, Exactly, Number, Begins}
use Rattle.tb_small.specs.Grammar.{spanned, name_of, IsMeant}
use Rattle.tb_small.specs.Reading.{word_of, after_word, has_word, has_byte, last_named, name_at, variable_at, literal_value, int_at, type_number, same_type}
use Rattle.tb_small.proofs.Options.{bind_some, kept, some_is, both, neither, not_is}
use Rattle.tb_small.proofs.Tokens.{exactly}
use Rattle.tb_small.proofs.Bytes.{word-parts, word-apart, word-again, word-first}
use Rattle.tb_small.proofs.Scopes.{last-takes, last-again, meant-last, last-meant, AreNamed, named-at, bytes-differ}

-- what an identifier is
pub record NameParts (word : List ℕ) : Type 0 where
  pub begins : begins_word word ≡ true
  pub no_digit : begins_digit word ≡ false
  pub all : list_all is_word_byte word ≡ true
  pub no_keyword : is_keyword word ≡ false

pub name-parts : (word : List ℕ) → is_name word ≡ true → NameParts word
name-parts word h =
    let a = both (((begins_word word && not (begins_digit word)) && list_all is_word_byte word) && not (bytes_eq word (codes "_"))) (not (is_keyword word)) h in
    let b = both ((begins_word word && not (begins_digit word)) && list_all is_word_byte word) (not (bytes_eq word (codes "_"))) a.0 in
    let c = both (begins_word word && not (begins_digit word)) (list_all is_word_byte word) b.0 in
    let d = both (begins_word word) (not (begins_digit word)) c.0 in
    record { begins = d.0; no_digit = not_is (begins_digit word) d.1; all = c.1; no_keyword = not_is (is_keyword word) a.1 }

pub let-keyword : is_keyword (codes "let") ≡ true
unfolding is_keyword
let-keyword = refl

pub mut-keyword : is_keyword (codes "mut") ≡ true
unfolding is_keyword
mut-keyword = refl

pub unsafe-keyword : is_keyword (codes "unsafe") ≡ true
unfolding is_keyword
unsafe-keyword = refl

-- an identifier is no keyword
pub name-keyword : (word keyword : List ℕ) → is_name word ≡ true → is_keyword keyword ≡ true → bytes_eq word keyword ≡ false
name-keyword word keyword h is = bytes-differ word keyword (λ same. let other = (name-parts word h).no_keyword in let e = ap is_keyword same in absurd cc)

-- a word of bytes of identifiers that stands next is what is read as the next word
pub word-stands : (text word rest : List ℕ) → after_space text ≡ word ++ rest → is_apart word rest ≡ true → begins_word word ≡ true → list_all is_word_byte word ≡ true
    → (word_of (after_space text) ≡ word) × (after_word (after_space text) ≡ rest)
word-stands text word rest bytes apart begins all =
    let alone : not (begins_word rest || is_lengthened word rest) ≡ true = rw begins at apart in
    let next : begins_word rest ≡ false = not_is (begins_word rest) (neither (begins_word rest) (is_lengthened word rest) alone).0 in
    let again = word-again word rest all next in
    (ap word_of bytes ∙ again.0, ap after_word bytes ∙ again.1)

-- which word an identifier is
pub name-word : (text name rest word : List ℕ) → is_name name ≡ true → after_space text ≡ name ++ rest → is_apart name rest ≡ true → is_keyword word ≡ true → has_word word text ≡ false
name-word text name rest word is bytes apart keyword =
    let parts = name-parts name is in
    let stands = word-stands text name rest bytes apart parts.begins parts.all in
    ap (λ w. bytes_eq w word) stands.0 ∙ name-keyword name word is keyword

pub name-takes : (text name rest : List ℕ) → name_at text ≡ Some (name, rest) → (is_name name ≡ true) × (after_space text ≡ name ++ rest) × (is_apart name rest ≡ true)
unfolding name_at
name-takes text name rest e =
    let word = word_of (after_space text) in
    let after = after_word (after_space text) in
    let k = kept (is_name word) (Some (word, after)) (name, rest) e in
    let at : List ℕ × List ℕ → Type 0 = λ y. (is_name y.0 ≡ true) × (after_space text ≡ y.0 ++ y.1) × (is_apart y.0 y.1 ≡ true) in
    subst at (some_is (word, after) (name, rest) k.1) (k.0, word-parts (after_space text), word-apart (after_space text))

pub name-again : (text name rest : List ℕ) → is_name name ≡ true → after_space text ≡ name ++ rest → is_apart name rest ≡ true → name_at text ≡ Some (name, rest)
unfolding name_at
name-again text name rest h bytes apart =
    let parts = name-parts name h in
    let stands = word-stands text name rest bytes apart parts.begins parts.all in
    rw (stands.0, stands.1) (cond-true (is_name name) (Some (name, rest)) None h)

pub variable-takes : (scope : List Binding) (size : ℕ) (text : List ℕ) (found : Variable) (rest : List ℕ) → variable_at scope size text ≡ Some (found, rest)
    → Begins size text (spanned found.span (Exactly (name_of scope found.number))) rest × IsMeant scope found.number
unfolding variable_at
variable-takes scope size text found rest e =
    let name = bind_some (name_at text) _ (found, rest) e in
    let number = bind_some (last_named scope name.0.0) _ (found, rest) name.2 in
    let stands = name-takes text name.0.0 name.0.1 name.1 in
    let last = last-takes scope name.0.0 number.0 number.1 in
    let at : Variable × List ℕ → Type 0 = λ y. Begins size text (spanned y.0.span (Exactly (name_of scope y.0.number))) y.1 × IsMeant scope y.0.number in
    subst at (some_is _ (found, rest) number.2)
    (record { word = name.0.0; spelled = sym last.is_named; bytes = stands.1; apart = stands.2; lo = refl; hi = refl }, last-meant scope name.0.0 number.0 last)

pub variable-again : (scope : List Binding) (size : ℕ) (text : List ℕ) (found : Variable) (rest : List ℕ) → AreNamed scope → IsMeant scope found.number
    → Begins size text (spanned found.span (Exactly (name_of scope found.number))) rest → variable_at scope size text ≡ Some (found, rest)
unfolding variable_at
variable-again scope size text found rest named meant h =
    let name = name_of scope found.number in
    let stands = exactly size text name (Some found.span.lo) (Some found.span.hi) rest h in
    let read : name_at text ≡ Some (name, rest) = name-again text name rest (named-at scope found.number meant.is_there named) stands.0 stands.1 in
    let number : last_named scope name ≡ Some found.number = last-again scope name found.number (meant-last scope found.number meant) in
    let lo : size - length (after_space text) ≡ found.span.lo = sym h.lo in
    let hi : size - length rest ≡ found.span.hi = sym h.hi in
    rw (read, number) (rw (lo, hi) refl)

-- the number of a variable that is read
pub variable-number : (scope : List Binding) (size : ℕ) (text : List ℕ) (found : Variable) (rest : List ℕ) → variable_at scope size text ≡ Some (found, rest)
    → last_named scope (word_of (after_space text)) ≡ Some found.number
unfolding variable_at name_at
variable-number scope size text found rest e =
    let word = word_of (after_space text) in
    let after = after_word (after_space text) in
    let name = bind_some (name_at text) _ (found, rest) e in
    let number = bind_some (last_named scope name.0.0) _ (found, rest) name.2 in
    let k = kept (is_name word) (Some (word, after)) name.0 name.1 in
    let same : word ≡ name.0.0 = ap (λ (y : List ℕ × List ℕ). y.0) (some_is (word, after) name.0 k.1) in
    let at : Variable × List ℕ → Type 0 = λ y. last_named scope word ≡ Some y.0.number in
    subst at (some_is _ (found, rest) number.2) (ap (last_named scope) same ∙ number.1)

-- what stands next where a variable does
pub record Mention (scope : List Binding) (text : List ℕ) (number : ℕ) (rest : List ℕ) : Type 0 where
  pub name : is_name (name_of scope number) ≡ true
  pub bytes : after_space text ≡ name_of scope number ++ rest
  pub word : word_of (after_space text) ≡ name_of scope number
  pub after : after_word (after_space text) ≡ rest
  pub last : last_named scope (name_of scope number) ≡ Some number

pub mention : (scope : List Binding) (size : ℕ) (text : List ℕ) (found : Variable) (rest : List ℕ) → AreNamed scope → IsMeant scope found.number
    → Begins size text (spanned found.span (Exactly (name_of scope found.number))) rest → Mention scope text found.number rest
mention scope size text found rest named meant h =
    let name = name_of scope found.number in
    let here = exactly size text name (Some found.span.lo) (Some found.span.hi) rest h in
    let is = named-at scope found.number meant.is_there named in
    let parts = name-parts name is in
    let stands = word-stands text name rest here.0 here.1 parts.begins parts.all in
    record { name = is; bytes = here.0; word = stands.0; after = stands.1; last = last-again scope name found.number (meant-last scope found.number meant) }

-- it begins with no sign
pub mention-byte : (scope : List Binding) (text : List ℕ) (number : ℕ) (rest : List ℕ) → Mention scope text number rest → (sign : ℕ) → is_word_byte sign ≡ false → has_byte sign text ≡ false
mention-byte scope text number rest h sign other =
    let name = name_of scope number in
    ap (begins_with sign) h.bytes ∙ word-first sign name rest (name-parts name h.name).begins other

-- and is no keyword
pub mention-word : (scope : List Binding) (text : List ℕ) (number : ℕ) (rest : List ℕ) → Mention scope text number rest → (keyword : List ℕ) → is_keyword keyword ≡ true → has_word keyword text ≡ false
mention-word scope text number rest h keyword is =
    ap (λ w. bytes_eq w keyword) h.word ∙ name-keyword (name_of scope number) keyword h.name is

-- Literals.

digit-word : (byte : ℕ) → is_ascii_digit byte ≡ true → is_word_byte byte ≡ true
digit-word byte h = rw h refl

digits-word : (word : List ℕ) → list_all is_ascii_digit word ≡ true → list_all is_word_byte word ≡ true
digits-word [] h = refl
digits-word (byte ∷ word) h =
    let parts = both (is_ascii_digit byte) (list_all is_ascii_digit word) h in
    rw (digit-word byte parts.0) (digits-word word parts.1)

pub digit-begins : (word : List ℕ) → begins_digit word ≡ true → begins_word word ≡ true
digit-begins [] h = absurd cc
digit-begins (byte ∷ word) h = digit-word byte h

-- a number is no identifier
pub number-name : (word : List ℕ) → begins_digit word ≡ true → is_name word ≡ false
number-name word h = elim (cases_Bool (is_name word)) [
  | inl name ↦ let d = (name-parts word name).no_digit in absurd cc
  | inr other ↦ other
]

literal-takes : (word : List ℕ) (value : ℕ) → literal_value word ≡ Some value → (is_number word ≡ true) × (value_of word ≡ value) × (value ≤ 2147483647)
unfolding literal_value
literal-takes word value e =
    let k = kept (is_number word && leb (value_of word) 2147483647) (Some (value_of word)) value e in
    let parts = both (is_number word) (leb (value_of word) 2147483647) k.0 in
    let same = some_is (value_of word) value k.1 in
    (parts.0, same, subst (λ v. v ≤ 2147483647) same (leb-true (value_of word) 2147483647 parts.1))

literal-again : (word : List ℕ) (value : ℕ) → is_number word ≡ true → value_of word ≡ value → value ≤ 2147483647 → literal_value word ≡ Some value
unfolding literal_value
literal-again word value number same small =
    let fits : leb (value_of word) 2147483647 ≡ true = le-leb (value_of word) 2147483647 (omega arith) in
    rw (number, fits) (ap (λ v. Some v) same)

pub int-takes : (size : ℕ) (text : List ℕ) (found : Int) (rest : List ℕ) → int_at size text ≡ Some (found, rest)
    → Begins size text (spanned found.span (Number found.value)) rest × (found.value ≤ 2147483647)
unfolding int_at
int-takes size text found rest e =
    let value = bind_some (literal_value (word_of (after_space text))) _ (found, rest) e in
    let literal = literal-takes (word_of (after_space text)) value.0 value.1 in
    let at : Int × List ℕ → Type 0 = λ y. Begins size text (spanned y.0.span (Number y.0.value)) y.1 × (y.0.value ≤ 2147483647) in
    subst at (some_is _ (found, rest) value.2)
    (record { word = word_of (after_space text); spelled = (literal.0, literal.1); bytes = word-parts (after_space text); apart = word-apart (after_space text); lo = refl; hi = refl }, literal.2)

-- the word of a number
pub number-stands : (size : ℕ) (text : List ℕ) (span : Span) (value : ℕ) (rest : List ℕ) (h : Begins size text (spanned span (Number value)) rest)
    → (word_of (after_space text) ≡ h.word) × (after_word (after_space text) ≡ rest) × (begins_digit h.word ≡ true)
number-stands size text span value rest h =
    let parts = both (begins_digit h.word) (list_all is_ascii_digit h.word) h.spelled.0 in
    let stands = word-stands text h.word rest h.bytes h.apart (digit-begins h.word parts.0) (digits-word h.word parts.1) in
    (stands.0, stands.1, parts.0)

pub int-again : (size : ℕ) (text : List ℕ) (found : Int) (rest : List ℕ) → found.value ≤ 2147483647
    → Begins size text (spanned found.span (Number found.value)) rest → int_at size text ≡ Some (found, rest)
unfolding int_at
int-again size text found rest small h =
    let stands = number-stands size text found.span found.value rest h in
    let value : literal_value (word_of (after_space text)) ≡ Some found.value = ap literal_value stands.0 ∙ literal-again h.word found.value h.spelled.0 h.spelled.1 small in
    let lo : size - length (after_space text) ≡ found.span.lo = sym h.lo in
    let hi : size - length rest ≡ found.span.hi = sym h.hi in
    rw value (rw stands.1 (rw (lo, hi) refl))

-- Types.

of_number : ℕ → Ty
of_number n =
    cond (eqb n 0) ty.Int32 (cond (eqb n 1) (ty.Pointer kind.Shared) (cond (eqb n 2) (ty.Pointer kind.Mut) (cond (eqb n 3) (ty.Pointer kind.RawConst) (ty.Pointer kind.RawMut))))

number-of : (t : Ty) → of_number (type_number t) ≡ t
unfolding of_number
number-of ty.Int32 = refl
number-of (ty.Pointer kind.Shared) = refl
number-of (ty.Pointer kind.Mut) = refl
number-of (ty.Pointer kind.RawConst) = refl
number-of (ty.Pointer kind.RawMut) = refl

pub same-takes : (a b : Ty) → same_type a b ≡ true → a ≡ b
same-takes a b e = sym (number-of a) ∙ ap of_number (eqb-true (type_number a) (type_number b) e) ∙ number-of b

pub same-again : (a b : Ty) → a ≡ b → same_type a b ≡ true
same-again a b e = eq-eqb (type_number a) (type_number b) (ap type_number e)
