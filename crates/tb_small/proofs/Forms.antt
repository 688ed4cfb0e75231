-- Statements: what is read is the tokens of its tree, and the tokens of a tree are read as it.
use Rattle.std.proofs.Common.{◌≡◌, ℕ, ◌-◌, ◌<◌, inl, inr, Bool, true, false, cond, eqb, List, [], ◌∷◌, ◌++◌, length, Option, Some, None, refl, sym, ap, subst, ◌∙◌, arith, eq-eqb}
use Rattle.std.specs.Prelude.{codes}
use Rattle.std.specs.List.{flat_map, AllByRecursion}
use Rattle.std.specs.Str.{bytes_eq}
use Rattle.std.proofs.lemmas.Bool.{eqb-true}
use Rattle.tb_small.specs.Scope.{Binding}
use Rattle.tb_small.specs.declared.tree.Let.{Let}
use Rattle.tb_small.specs.declared.tree.Assign.{Assign}
use Rattle.tb_small.specs.declared.tree.Print.{Print}
use Rattle.tb_small.specs.declared.tree.Spot.{Spot}
use Rattle.tb_small.specs.declared.tree.Spot.TheVariants as spot
use Rattle.tb_small.specs.declared.tree.UnsafeBlock.{UnsafeBlock}
use Rattle.tb_small.specs.declared.tree.Inner.{Inner}
use Rattle.tb_small.specs.declared.tree.Inner.TheVariants as inner
use Rattle.tb_small.specs.declared.tree.Statement.{Statement}
use Rattle.tb_small.specs.declared.tree.Statement.TheVariants as statement
use Rattle.tb_small.specs.Words.{after_space, begins_with, is_apart, is_name, Exactly, Token, Begins, Reads}
use Rattle.tb_small.specs.Grammar.{token, opening, closing, spanned, literal, IsFormat, name_of, spot_tokens, spot_type, IsTarget, IsSumWithin, sum_tokens, right_tokens, right_type, right_sums, mut_tokens, let_tokens, assign_tokens, IsAssign, macro_name, print_tokens, IsPrint, inner_tokens, IsInner, inner_sums, unsafe_tokens, statement_tokens, IsStatement, sums}
use Rattle.tb_small.specs.Reading.{◌>>=◌, eat, has_word, has_byte, after_word, with_last, span_of, text_at, name_at, same_type, target_at, ends_sum, right_at, ends_arguments, arguments_at, mut_at, let_at, assign_at, macro_at, print_at, is_call, inner_at, inners_at, unsafe_at, statement_at, closes}
use Rattle.tb_small.proofs.Options.{bind_some, kept, chosen, some_is}
use Rattle.tb_small.proofs.Tokens.{exactly, token-again, token-takes, token-byte, opening-takes, closing-takes, token-shorter, reads-one, reads-then, reads-split, reads-shrinks}
use Rattle.tb_small.proofs.Many.{Chain, many-takes, many-again, chain-length, fold-with_last}
use Rattle.tb_small.proofs.Literals.{text-takes, text-again}
use Rattle.tb_small.proofs.Scopes.{AreNamed}
use Rattle.tb_small.proofs.Variables.{name-word, word-stands, name-takes, name-again, mention, mention-byte, mention-word, let-keyword, mut-keyword, unsafe-keyword, same-takes, same-again}
use Rattle.tb_small.proofs.Spots.{target-takes, target-again, spot-begins, deref-byte}
use Rattle.tb_small.proofs.Additions.{arguments-take, arguments-again}
use Rattle.tb_small.proofs.Rights.{semicolon-follows, right-takes, right-again}

-- all of two lists
all-then : {A : Type 0} (P : A → Type 0) (xs ys : List A) → AllByRecursion P xs → AllByRecursion P ys → AllByRecursion P (xs ++ ys)
all-then P [] ys a b = b
all-then P (x ∷ xs) ys a b = (a.0, all-then P xs ys a.1 b)

all-split : {A : Type 0} (P : A → Type 0) (xs ys : List A) → AllByRecursion P (xs ++ ys) → AllByRecursion P xs × AllByRecursion P ys
all-split P [] ys h = (tt, h)
all-split P (x ∷ xs) ys h = let others = all-split P xs ys h.1 in ((h.0, others.0), others.1)

module _ (scope : List Binding) (size : ℕ) where
  -- `mut`, or nothing

  mut-takes : (text : List ℕ) (found : Bool) (rest : List ℕ) → mut_at text ≡ Some (found, rest) → Reads size text (mut_tokens found) rest
  unfolding mut_at
  mut-takes text found rest e =
      let at : Bool × List ℕ → Type 0 = λ y. Reads size text (mut_tokens y.0) y.1 in
      elim (chosen (has_word (codes "mut") text) (eat (codes "mut") text >>= λ rest. Some (true, rest)) (Some (false, text)) (found, rest) e) [
        | inl k ↦
            let word = bind_some (eat (codes "mut") text) (λ rest. Some (true, rest)) (found, rest) k.1 in
            subst at (some_is (true, word.0) (found, rest) word.2) (word.0, token-takes size (codes "mut") text word.0 word.1, refl)
        | inr k ↦ subst at (some_is (false, text) (found, rest) k.1) refl
      ]

  mut-again : (text : List ℕ) (found : Bool) (rest name after : List ℕ) → Reads size text (mut_tokens found) rest → is_name name ≡ true → after_space rest ≡ name ++ after → is_apart name after ≡ true
      → mut_at text ≡ Some (found, rest)
  unfolding mut_at
  mut-again text true rest name after h is bytes apart =
      let here = exactly size text (codes "mut") None None h.0 h.1 in
      let stands = word-stands text (codes "mut") h.0 here.0 here.1 refl refl in
      let test : has_word (codes "mut") text ≡ true = ap (λ w. bytes_eq w (codes "mut")) stands.0 in
      let last : h.0 ≡ rest = h.2 in
      rw (test, token-again size text (codes "mut") None None h.0 h.1) (rw last refl)
  mut-again text false rest name after h is bytes apart =
      let test : has_word (codes "mut") rest ≡ false = name-word rest name after (codes "mut") is bytes apart mut-keyword in
      rw h (rw test refl)

  -- `let`

  let-takes : (text : List ℕ) (found : Let) (rest : List ℕ) → let_at scope size text ≡ Some (found, rest)
      → Reads size text (let_tokens scope found) rest × IsStatement scope (statement.Let found) × AllByRecursion IsSumWithin (right_sums found.value)
  unfolding let_at
  let-takes text found rest e =
      let keyword = bind_some (eat (codes "let") text) _ (found, rest) e in
      let mutable = bind_some (mut_at keyword.0) _ (found, rest) keyword.2 in
      let name = bind_some (name_at mutable.0.1) _ (found, rest) mutable.2 in
      let equals = bind_some (eat (codes "=") name.0.1) _ (found, rest) name.2 in
      let value = bind_some (right_at scope false size equals.0) _ (found, rest) equals.2 in
      let end = bind_some (eat (codes ";") value.0.1) _ (found, rest) value.2 in
      let named = name-takes mutable.0.1 name.0.0 name.0.1 name.1 in
      let sum = right-takes scope size false equals.0 value.0.0 value.0.1 value.1 in
      let front = mut-takes keyword.0 mutable.0.0 mutable.0.1 mutable.1 in
      let last : Token = closing (codes ";") (size - length end.0) in
      let tail : Reads size equals.0 (right_tokens scope value.0.0 ++ last ∷ []) end.0 =
      reads-then size (right_tokens scope value.0.0) (last ∷ []) equals.0 value.0.1 end.0 sum.0 (end.0, closing-takes size (codes ";") value.0.1 end.0 end.1, refl) in
      let first : Token = spanned (span_of size mutable.0.1 name.0.1) (Exactly name.0.0) in
      let begins : Begins size mutable.0.1 first name.0.1 = record { word = name.0.0; spelled = refl; bytes = named.1; apart = named.2; lo = refl; hi = refl } in
      let at : Let × List ℕ → Type 0 = λ y. Reads size text (let_tokens scope y.0) y.1 × IsStatement scope (statement.Let y.0) × AllByRecursion IsSumWithin (right_sums y.0.value) in
      subst at (some_is _ (found, rest) end.2) (
        (
          keyword.0,
          opening-takes size (codes "let") text keyword.0 keyword.1,
          reads-then size (mut_tokens mutable.0.0) (first ∷ token (codes "=") ∷ (right_tokens scope value.0.0 ++ last ∷ [])) keyword.0 mutable.0.1 end.0 front
              (name.0.1, begins, (equals.0, token-takes size (codes "=") name.0.1 equals.0 equals.1, tail)),
        ),
        (named.0, sum.1, refl),
        sum.2,
      )

  let-again : AreNamed scope → (text : List ℕ) (found : Let) (rest : List ℕ) → IsStatement scope (statement.Let found) → AllByRecursion IsSumWithin (right_sums found.value)
      → Reads size text (let_tokens scope found) rest → let_at scope size text ≡ Some (found, rest)
  unfolding let_at
  let-again named text found rest meant within h =
      let is = meant.0 in
      let first : Token = spanned found.name.span (Exactly found.name.bytes) in
      let last : Token = closing (codes ";") found.span.hi in
      let keyword = token-again size text (codes "let") (Some found.span.lo) None h.0 h.1 in
      let parts = reads-split size (mut_tokens found.mutable) (first ∷ token (codes "=") ∷ (right_tokens scope found.value ++ last ∷ [])) h.0 rest h.2 in
      let after = parts.2.0 in
      let stands = exactly size parts.0 found.name.bytes (Some found.name.span.lo) (Some found.name.span.hi) after parts.2.1 in
      let front = mut-again h.0 found.mutable parts.0 found.name.bytes after parts.1 is stands.0 stands.1 in
      let name = name-again parts.0 found.name.bytes after is stands.0 stands.1 in
      let tail = parts.2.2 in
      let equals = token-again size after (codes "=") None None tail.0 tail.1 in
      let sum = reads-split size (right_tokens scope found.value) (last ∷ []) tail.0 rest tail.2 in
      let end = sum.2 in
      let follows = semicolon-follows size sum.0 None (Some found.span.hi) end.0 end.1 in
      let value = right-again scope size named false tail.0 found.value sum.0 meant.1 within follows sum.1 in
      let semicolon = token-again size sum.0 (codes ";") None (Some found.span.hi) end.0 end.1 in
      let lo : size - length (after_space text) ≡ found.span.lo = sym h.1.lo in
      let hi : size - length end.0 ≡ found.span.hi = sym end.1.hi in
      let name_lo : size - length (after_space parts.0) ≡ found.name.span.lo = sym parts.2.1.lo in
      let name_hi : size - length after ≡ found.name.span.hi = sym parts.2.1.hi in
      rw (keyword, front, name, equals, value, semicolon) (rw (lo, hi, name_lo, name_hi, end.2) (rw (sym meant.2) refl))

  -- assignments

  assign-takes : (inside : Bool) (text : List ℕ) (found : Assign) (rest : List ℕ) → assign_at scope inside size text ≡ Some (found, rest)
      → Reads size text (assign_tokens scope found) rest × IsAssign scope inside found × AllByRecursion IsSumWithin (right_sums found.value)
  unfolding assign_at
  assign-takes inside text found rest e =
      let target = bind_some (target_at scope inside size text) _ (found, rest) e in
      let equals = bind_some (eat (codes "=") target.0.1) _ (found, rest) target.2 in
      let value = bind_some (right_at scope inside size equals.0) _ (found, rest) equals.2 in
      let end = bind_some (eat (codes ";") value.0.1) _ (found, rest) value.2 in
      let k = kept (same_type (right_type scope value.0.0) (spot_type scope target.0.0)) _ (found, rest) end.2 in
      let first = target-takes scope size inside text target.0.0 target.0.1 target.1 in
      let begins = spot-begins scope size text target.0.0 target.0.1 first.0 in
      let sum = right-takes scope size inside equals.0 value.0.0 value.0.1 value.1 in
      let last : Token = closing (codes ";") (size - length end.0) in
      let tail : Reads size equals.0 (right_tokens scope value.0.0 ++ last ∷ []) end.0 =
      reads-then size (right_tokens scope value.0.0) (last ∷ []) equals.0 value.0.1 end.0 sum.0 (end.0, closing-takes size (codes ";") value.0.1 end.0 end.1, refl) in
      let tokens =
      reads-then size (spot_tokens scope target.0.0) (token (codes "=") ∷ (right_tokens scope value.0.0 ++ last ∷ [])) text target.0.1 end.0 first.0
      (equals.0, token-takes size (codes "=") target.0.1 equals.0 equals.1, tail) in
      let at : Assign × List ℕ → Type 0 = λ y. Reads size text (assign_tokens scope y.0) y.1 × IsAssign scope inside y.0 × AllByRecursion IsSumWithin (right_sums y.0.value) in
      subst at (some_is _ (found, rest) k.1)
      (tokens, (sym begins, first.1, sum.1, same-takes (right_type scope value.0.0) (spot_type scope target.0.0) k.0), sum.2)

  assign-again : AreNamed scope → (inside : Bool) (text : List ℕ) (found : Assign) (rest : List ℕ) → IsAssign scope inside found → AllByRecursion IsSumWithin (right_sums found.value)
      → Reads size text (assign_tokens scope found) rest → assign_at scope inside size text ≡ Some (found, rest)
  unfolding assign_at
  assign-again named inside text found rest meant within h =
      let last : Token = closing (codes ";") found.span.hi in
      let parts = reads-split size (spot_tokens scope found.target) (token (codes "=") ∷ (right_tokens scope found.value ++ last ∷ [])) text rest h in
      let target = target-again scope size named inside text found.target parts.0 meant.1 parts.1 in
      let tail = parts.2 in
      let equals = token-again size parts.0 (codes "=") None None tail.0 tail.1 in
      let sum = reads-split size (right_tokens scope found.value) (last ∷ []) tail.0 rest tail.2 in
      let end = sum.2 in
      let follows = semicolon-follows size sum.0 None (Some found.span.hi) end.0 end.1 in
      let value = right-again scope size named inside tail.0 found.value sum.0 meant.2 within follows sum.1 in
      let semicolon = token-again size sum.0 (codes ";") None (Some found.span.hi) end.0 end.1 in
      let same = same-again (right_type scope found.value) (spot_type scope found.target) meant.3 in
      let lo : size - length (after_space text) ≡ found.span.lo = sym (meant.0 ∙ spot-begins scope size text found.target parts.0 parts.1) in
      let hi : size - length end.0 ≡ found.span.hi = sym end.1.hi in
      rw (target, equals, value, semicolon, same) (rw (lo, hi, end.2) refl)

  -- prints

  macro-takes : (text : List ℕ) (found : Bool) (rest : List ℕ) → macro_at text ≡ Some (found, rest) → Begins size text (opening (size - length (after_space text)) (macro_name found)) rest
  unfolding macro_at
  macro-takes text found rest e =
      let at : Bool × List ℕ → Type 0 = λ y. Begins size text (opening (size - length (after_space text)) (macro_name y.0)) y.1 in
      elim (chosen (has_word (codes "println") text) (eat (codes "println") text >>= λ rest. Some (true, rest)) (eat (codes "print") text >>= λ rest. Some (false, rest)) (found, rest) e) [
        | inl k ↦
            let word = bind_some (eat (codes "println") text) (λ rest. Some (true, rest)) (found, rest) k.1 in
            subst at (some_is (true, word.0) (found, rest) word.2) (opening-takes size (codes "println") text word.0 word.1)
        | inr k ↦
            let word = bind_some (eat (codes "print") text) (λ rest. Some (false, rest)) (found, rest) k.1 in
            subst at (some_is (false, word.0) (found, rest) word.2) (opening-takes size (codes "print") text word.0 word.1)
      ]

  macro-again : (lo : ℕ) (text : List ℕ) (found : Bool) (rest : List ℕ) → Begins size text (opening lo (macro_name found)) rest → macro_at text ≡ Some (found, rest)
  unfolding macro_at
  macro-again lo text true rest h =
      let here = exactly size text (codes "println") (Some lo) None rest h in
      let stands = word-stands text (codes "println") rest here.0 here.1 refl refl in
      let test : has_word (codes "println") text ≡ true = ap (λ w. bytes_eq w (codes "println")) stands.0 in
      rw (test, token-again size text (codes "println") (Some lo) None rest h) refl
  macro-again lo text false rest h =
      let here = exactly size text (codes "print") (Some lo) None rest h in
      let stands = word-stands text (codes "print") rest here.0 here.1 refl refl in
      let test : has_word (codes "println") text ≡ false = ap (λ w. bytes_eq w (codes "println")) stands.0 in
      rw (test, token-again size text (codes "print") (Some lo) None rest h) refl

  print-takes : (inside : Bool) (text : List ℕ) (found : Print) (rest : List ℕ) → print_at scope inside size text ≡ Some (found, rest)
      → Reads size text (print_tokens scope found) rest × IsPrint scope inside found × AllByRecursion IsSumWithin found.arguments
  unfolding print_at
  print-takes inside text found rest e =
      let name = bind_some (macro_at text) _ (found, rest) e in
      let bang = bind_some (eat (codes "!") name.0.1) _ (found, rest) name.2 in
      let paren = bind_some (eat (codes "(") bang.0) _ (found, rest) bang.2 in
      let literal = bind_some (text_at size paren.0) _ (found, rest) paren.2 in
      let arguments = bind_some (arguments_at scope inside size literal.0.2) _ (found, rest) literal.2 in
      let close = bind_some (eat (codes ")") arguments.0.1) _ (found, rest) arguments.2 in
      let end = bind_some (eat (codes ";") close.0) _ (found, rest) close.2 in
      let counted = kept (eqb (length arguments.0.0) literal.0.1) _ (found, rest) end.2 in
      let here = text-takes size paren.0 literal.0.0 literal.0.1 literal.0.2 literal.1 in
      let format = subst (λ n. IsFormat literal.0.0.source n) (sym (eqb-true (length arguments.0.0) literal.0.1 counted.0)) here.1 in
      let sums = arguments-take scope inside size literal.0.2 arguments.0.0 arguments.0.1 arguments.1 in
      let inner : Token = closing (codes ")") (size - length close.0) in
      let last : Token = closing (codes ";") (size - length end.0) in
      let tail : Reads size literal.0.2 (flat_map (λ sum. token (codes ",") ∷ sum_tokens scope sum) arguments.0.0 ++ inner ∷ last ∷ []) end.0 =
      reads-then size (flat_map (λ sum. token (codes ",") ∷ sum_tokens scope sum) arguments.0.0) (inner ∷ last ∷ []) literal.0.2 arguments.0.1 end.0 sums.0
      (close.0, closing-takes size (codes ")") arguments.0.1 close.0 close.1, (end.0, closing-takes size (codes ";") close.0 end.0 end.1, refl)) in
      let at : Print × List ℕ → Type 0 = λ y. Reads size text (print_tokens scope y.0) y.1 × IsPrint scope inside y.0 × AllByRecursion IsSumWithin y.0.arguments in
      subst at (some_is _ (found, rest) counted.1) (
        (
          name.0.1,
          macro-takes text name.0.0 name.0.1 name.1,
          (
            bang.0,
            token-takes size (codes "!") name.0.1 bang.0 bang.1,
            (
              paren.0,
              token-takes size (codes "(") bang.0 paren.0 paren.1,
              (literal.0.2, here.0, tail),
            ),
          ),
        ),
        (refl, format, sums.1),
        sums.2,
      )

  print-again : AreNamed scope → (inside : Bool) (text : List ℕ) (found : Print) (rest : List ℕ) → IsPrint scope inside found → AllByRecursion IsSumWithin found.arguments
      → Reads size text (print_tokens scope found) rest → print_at scope inside size text ≡ Some (found, rest)
  unfolding print_at
  print-again named inside text found rest meant within h =
      let inner : Token = closing (codes ")") found.call.hi in
      let last : Token = closing (codes ";") found.span.hi in
      let name = macro-again found.span.lo text found.newline h.0 h.1 in
      let bang = token-again size h.0 (codes "!") None None h.2.0 h.2.1 in
      let p = h.2.2 in
      let paren = token-again size h.2.0 (codes "(") None None p.0 p.1 in
      let l = p.2 in
      let literal = text-again size p.0 found.text (length found.arguments) l.0 l.1 meant.1 in
      let parts = reads-split size (flat_map (λ sum. token (codes ",") ∷ sum_tokens scope sum) found.arguments) (inner ∷ last ∷ []) l.0 rest l.2 in
      let c = parts.2 in
      let byte = token-byte size parts.0 41 None (Some found.call.hi) c.0 c.1 in
      let ends : ends_sum parts.0 ≡ true = rw byte refl in
      let stop : ends_arguments parts.0 ≡ true = rw byte refl in
      let arguments = arguments-again scope inside size named l.0 found.arguments parts.0 meant.2 within ends stop parts.1 in
      let close = token-again size parts.0 (codes ")") None (Some found.call.hi) c.0 c.1 in
      let end = c.2 in
      let semicolon = token-again size c.0 (codes ";") None (Some found.span.hi) end.0 end.1 in
      let counted : eqb (length found.arguments) (length found.arguments) ≡ true = eq-eqb (length found.arguments) (length found.arguments) refl in
      let lo : size - length (after_space text) ≡ found.span.lo = sym h.1.lo in
      let hi : size - length end.0 ≡ found.span.hi = sym end.1.hi in
      let call_lo : size - length (after_space text) ≡ found.call.lo = sym h.1.lo ∙ sym meant.0 in
      let call_hi : size - length c.0 ≡ found.call.hi = sym c.1.hi in
      let call : span_of size text c.0 ≡ found.call = rw (call_hi) (ap (λ n. record { lo = n; hi = found.call.hi }) call_lo) in
      rw (name, bang, paren, literal, arguments, close, semicolon, counted, call) (rw (lo, hi, end.2) refl)

  -- What a statement begins with.

  -- neither `let` nor `unsafe` nor a brace that closes
  record Starts (text : List ℕ) : Type 0 where
    no_let : has_word (codes "let") text ≡ false
    no_unsafe : has_word (codes "unsafe") text ≡ false
    goes : closes text ≡ false

  macro-starts : (lo : ℕ) (text : List ℕ) (newline : Bool) (rest : List ℕ) → Begins size text (opening lo (macro_name newline)) rest → Starts text × (after_word (after_space text) ≡ rest)
  macro-starts lo text true rest h =
      let here = exactly size text (codes "println") (Some lo) None rest h in
      let stands = word-stands text (codes "println") rest here.0 here.1 refl refl in
      (record { no_let = rw stands.0 refl; no_unsafe = rw stands.0 refl; goes = ap (begins_with 125) here.0 }, stands.1)
  macro-starts lo text false rest h =
      let here = exactly size text (codes "print") (Some lo) None rest h in
      let stands = word-stands text (codes "print") rest here.0 here.1 refl refl in
      (record { no_let = rw stands.0 refl; no_unsafe = rw stands.0 refl; goes = ap (begins_with 125) here.0 }, stands.1)

  print-starts : (text : List ℕ) (found : Print) (rest : List ℕ) → Reads size text (print_tokens scope found) rest → Starts text × (is_call text ≡ true)
  print-starts text found rest h =
      let first = macro-starts found.span.lo text found.newline h.0 h.1 in
      (first.0, ap (λ r. has_byte 33 r) first.1 ∙ ap (begins_with 33) (token-byte size h.0 33 None None h.2.0 h.2.1))

  target-starts : AreNamed scope → (inside : Bool) (text : List ℕ) (found : Spot) (rest : List ℕ) → IsTarget scope inside found → has_byte 33 rest ≡ false
      → Reads size text (spot_tokens scope found) rest → Starts text × (is_call text ≡ false)
  target-starts named inside text (spot.Deref deref) rest meant no_bang h =
      let star = deref-byte scope size text deref rest h in
      (record { no_let = rw star refl; no_unsafe = rw star refl; goes = rw star refl }, rw star refl)
  target-starts named inside text (spot.Variable variable) rest meant no_bang h =
      let here = reads-one size text (spanned variable.span (Exactly (name_of scope variable.number))) rest h in
      let m = mention scope size text variable rest named meant.0 here in (
        record {
          no_let = mention-word scope text variable.number rest m (codes "let") let-keyword;
          no_unsafe = mention-word scope text variable.number rest m (codes "unsafe") unsafe-keyword;
          goes = mention-byte scope text variable.number rest m 125 refl;
        },
        ap (λ r. has_byte 33 r) m.after ∙ no_bang,
      )

  assign-starts : AreNamed scope → (inside : Bool) (text : List ℕ) (found : Assign) (rest : List ℕ) → IsAssign scope inside found → Reads size text (assign_tokens scope found) rest → Starts text × (is_call text ≡ false)
  assign-starts named inside text found rest meant h =
      let last : Token = closing (codes ";") found.span.hi in
      let parts = reads-split size (spot_tokens scope found.target) (token (codes "=") ∷ (right_tokens scope found.value ++ last ∷ [])) text rest h in
      let no_bang : has_byte 33 parts.0 ≡ false = ap (begins_with 33) (token-byte size parts.0 61 None None parts.2.0 parts.2.1) in
      target-starts named inside text found.target parts.0 meant.1 no_bang parts.1

  -- A statement is some bytes of the text.

  -- tokens of which the first is these bytes, and at least one
  first-shorter : (text word : List ℕ) (lo hi : Option ℕ) (tokens : List Token) (rest : List ℕ) → 0 < length word → Reads size text (record { spelling = Exactly word; lo = lo; hi = hi } ∷ tokens) rest → length rest < length text
  first-shorter text word lo hi tokens rest some h =
      let first = token-shorter size text (record { spelling = Exactly word; lo = lo; hi = hi }) h.0 h.1 (subst (λ w. 0 < length w) (sym h.1.spelled) some) in
      let others = reads-shrinks size tokens h.0 rest h.2 in
      omega arith

  macro-some : (newline : Bool) → 0 < length (macro_name newline)
  macro-some true = omega arith
  macro-some false = omega arith

  print-shorter : (text : List ℕ) (found : Print) (rest : List ℕ) → Reads size text (print_tokens scope found) rest → length rest < length text
  print-shorter text found rest h =
      let tokens : List Token =
      token (codes "!") ∷ token (codes "(") ∷ spanned found.text.span (literal found.text.source)
      ∷ (flat_map (λ sum. token (codes ",") ∷ sum_tokens scope sum) found.arguments ++ (closing (codes ")") found.call.hi ∷ closing (codes ";") found.span.hi ∷ [])) in
      first-shorter text (macro_name found.newline) (Some found.span.lo) None tokens rest (macro-some found.newline) h

  assign-shorter : (text : List ℕ) (found : Assign) (rest : List ℕ) → Reads size text (assign_tokens scope found) rest → length rest < length text
  assign-shorter text found rest h =
      let last : Token = closing (codes ";") found.span.hi in
      let tail : List Token = right_tokens scope found.value ++ last ∷ [] in
      let parts = reads-split size (spot_tokens scope found.target) (token (codes "=") ∷ tail) text rest h in
      let target = reads-shrinks size (spot_tokens scope found.target) text parts.0 parts.1 in
      let others = first-shorter parts.0 (codes "=") None None tail rest (omega arith) parts.2 in
      omega arith

  -- `unsafe` blocks

  abbrev InnerItem : List Inner → Inner → List ℕ → List ℕ → Type 0
  InnerItem before found text after = Reads size text (inner_tokens scope found) after × IsInner scope found × AllByRecursion IsSumWithin (inner_sums found)

  inner-takes : (before : List Inner) (found : Inner) (text after : List ℕ) → inner_at scope size text ≡ Some (found, after) → InnerItem before found text after
  unfolding inner_at
  inner-takes before found text after e =
      let at : Inner × List ℕ → Type 0 = λ y. InnerItem before y.0 text y.1 in
      elim (chosen (is_call text) (print_at scope true size text >>= λ x. Some (inner.Print x.0, x.1)) (assign_at scope true size text >>= λ x. Some (inner.Assign x.0, x.1)) (found, after) e) [
        | inl k ↦
            let print = bind_some (print_at scope true size text) (λ x. Some (inner.Print x.0, x.1)) (found, after) k.1 in
            subst at (some_is (inner.Print print.0.0, print.0.1) (found, after) print.2) (print-takes true text print.0.0 print.0.1 print.1)
        | inr k ↦
            let assign = bind_some (assign_at scope true size text) (λ x. Some (inner.Assign x.0, x.1)) (found, after) k.1 in
            subst at (some_is (inner.Assign assign.0.0, assign.0.1) (found, after) assign.2) (assign-takes true text assign.0.0 assign.0.1 assign.1)
      ]

  inner-again : AreNamed scope → (before : List Inner) (found : Inner) (text after : List ℕ) → InnerItem before found text after → inner_at scope size text ≡ Some (found, after)
  unfolding inner_at
  inner-again named before (inner.Print print) text after h =
      rw ((print-starts text print after h.0).1, print-again named true text print after h.1 h.2 h.0) refl
  inner-again named before (inner.Assign assign) text after h =
      rw ((assign-starts named true text assign after h.1 h.0).1, assign-again named true text assign after h.1 h.2 h.0) refl

  inner-goes : AreNamed scope → (before : List Inner) (found : Inner) (text after : List ℕ) → InnerItem before found text after → closes text ≡ false
  inner-goes named before (inner.Print print) text after h = (print-starts text print after h.0).0.goes
  inner-goes named before (inner.Assign assign) text after h = (assign-starts named true text assign after h.1 h.0).0.goes

  inner-shorter : (before : List Inner) (found : Inner) (text after : List ℕ) → InnerItem before found text after → length after < length text
  inner-shorter before (inner.Print print) text after h = print-shorter text print after h.0
  inner-shorter before (inner.Assign assign) text after h = assign-shorter text assign after h.0

  -- a chain of them is their tokens
  inners-tokens : (before more : List Inner) (text rest : List ℕ) → Chain with_last InnerItem before more text rest
      → Reads size text (flat_map (inner_tokens scope) more) rest × AllByRecursion (IsInner scope) more × AllByRecursion IsSumWithin (flat_map inner_sums more)
  inners-tokens before [] text rest chain = (chain, tt, tt)
  inners-tokens before (found ∷ more) text rest chain =
      let others = inners-tokens (before ++ found ∷ []) more chain.0 rest chain.2 in (
        reads-then size (inner_tokens scope found) (flat_map (inner_tokens scope) more) text chain.0 rest chain.1.0 others.0,
        (chain.1.1, others.1),
        all-then IsSumWithin (inner_sums found) (flat_map inner_sums more) chain.1.2 others.2,
      )

  tokens-inners : (before more : List Inner) (text rest : List ℕ) → Reads size text (flat_map (inner_tokens scope) more) rest → AllByRecursion (IsInner scope) more → AllByRecursion IsSumWithin (flat_map inner_sums more)
      → Chain with_last InnerItem before more text rest
  tokens-inners before [] text rest h meant within = h
  tokens-inners before (found ∷ more) text rest h meant within =
      let parts = reads-split size (inner_tokens scope found) (flat_map (inner_tokens scope) more) text rest h in
      let small = all-split IsSumWithin (inner_sums found) (flat_map inner_sums more) within in
      (parts.0, (parts.1, meant.0, small.0), tokens-inners (before ++ found ∷ []) more parts.0 rest parts.2 meant.1 small.1)

  unsafe-takes : (text : List ℕ) (found : UnsafeBlock) (rest : List ℕ) → unsafe_at scope size text ≡ Some (found, rest)
      → Reads size text (unsafe_tokens scope found) rest × AllByRecursion (IsInner scope) found.statements × AllByRecursion IsSumWithin (flat_map inner_sums found.statements)
  unfolding unsafe_at inners_at
  unsafe-takes text found rest e =
      let keyword = bind_some (eat (codes "unsafe") text) _ (found, rest) e in
      let brace = bind_some (eat (codes "{") keyword.0) _ (found, rest) keyword.2 in
      let inners = bind_some (inners_at scope size brace.0) _ (found, rest) brace.2 in
      let end = bind_some (eat (codes "}") inners.0.1) _ (found, rest) inners.2 in
      let run = many-takes closes (λ _. inner_at scope size) with_last InnerItem inner-takes (length brace.0) [] brace.0 inners.0.0 inners.0.1 inners.1 in
      let of : List Inner → Type 0 = λ l. Reads size brace.0 (flat_map (inner_tokens scope) l) inners.0.1 × AllByRecursion (IsInner scope) l × AllByRecursion IsSumWithin (flat_map inner_sums l) in
      let h = subst of (sym (run.leads ∙ fold-with_last [] run.items)) (inners-tokens [] run.items brace.0 inners.0.1 run.chain) in
      let last : Token = closing (codes "}") (size - length end.0) in
      let tail : Reads size brace.0 (flat_map (inner_tokens scope) inners.0.0 ++ last ∷ []) end.0 =
      reads-then size (flat_map (inner_tokens scope) inners.0.0) (last ∷ []) brace.0 inners.0.1 end.0 h.0 (end.0, closing-takes size (codes "}") inners.0.1 end.0 end.1, refl) in
      let at : UnsafeBlock × List ℕ → Type 0 = λ y. Reads size text (unsafe_tokens scope y.0) y.1 × AllByRecursion (IsInner scope) y.0.statements × AllByRecursion IsSumWithin (flat_map inner_sums y.0.statements) in
      subst at (some_is _ (found, rest) end.2)
      ((keyword.0, opening-takes size (codes "unsafe") text keyword.0 keyword.1, (brace.0, token-takes size (codes "{") keyword.0 brace.0 brace.1, tail)), h.1, h.2)

  unsafe-again : AreNamed scope → (text : List ℕ) (found : UnsafeBlock) (rest : List ℕ) → AllByRecursion (IsInner scope) found.statements → AllByRecursion IsSumWithin (flat_map inner_sums found.statements)
      → Reads size text (unsafe_tokens scope found) rest → unsafe_at scope size text ≡ Some (found, rest)
  unfolding unsafe_at inners_at
  unsafe-again named text found rest meant within h =
      let last : Token = closing (codes "}") found.span.hi in
      let keyword = token-again size text (codes "unsafe") (Some found.span.lo) None h.0 h.1 in
      let t = h.2 in
      let brace = token-again size h.0 (codes "{") None None t.0 t.1 in
      let parts = reads-split size (flat_map (inner_tokens scope) found.statements) (last ∷ []) t.0 rest t.2 in
      let end = parts.2 in
      let stop : closes parts.0 ≡ true = ap (begins_with 125) (token-byte size parts.0 125 None (Some found.span.hi) end.0 end.1) in
      let chain = tokens-inners [] found.statements t.0 parts.0 parts.1 meant within in
      let at : List Inner → Option (List Inner × List ℕ) = λ l. Some (l, parts.0) in
      let inners : inners_at scope size t.0 ≡ Some (found.statements, parts.0) =
      many-again closes (λ _. inner_at scope size) with_last InnerItem (inner-again named) (inner-goes named) (length t.0) [] found.statements t.0 parts.0
      (chain-length closes (λ _. inner_at scope size) with_last InnerItem inner-shorter [] found.statements t.0 parts.0 chain) chain stop
      ∙ ap at (fold-with_last [] found.statements) in
      let close = token-again size parts.0 (codes "}") None (Some found.span.hi) end.0 end.1 in
      let lo : size - length (after_space text) ≡ found.span.lo = sym h.1.lo in
      let hi : size - length end.0 ≡ found.span.hi = sym end.1.hi in
      rw (keyword, brace, inners, close) (rw (lo, hi, end.2) refl)

  -- statements

  pub statement-takes : (text : List ℕ) (found : Statement) (rest : List ℕ) → statement_at scope size text ≡ Some (found, rest)
      → Reads size text (statement_tokens scope found) rest × IsStatement scope found × AllByRecursion IsSumWithin (sums found)
  unfolding statement_at
  statement-takes text found rest e =
      let at : Statement × List ℕ → Type 0 = λ y. Reads size text (statement_tokens scope y.0) y.1 × IsStatement scope y.0 × AllByRecursion IsSumWithin (sums y.0) in
      let blocks : Option (Statement × List ℕ) = unsafe_at scope size text >>= λ x. Some (statement.Unsafe x.0, x.1) in
      let prints : Option (Statement × List ℕ) = print_at scope false size text >>= λ x. Some (statement.Print x.0, x.1) in
      let assigns : Option (Statement × List ℕ) = assign_at scope false size text >>= λ x. Some (statement.Assign x.0, x.1) in
      elim (chosen (has_word (codes "let") text) (let_at scope size text >>= λ x. Some (statement.Let x.0, x.1)) (cond (has_word (codes "unsafe") text) blocks (cond (is_call text) prints assigns)) (found, rest) e) [
        | inl k ↦
            let binding = bind_some (let_at scope size text) (λ x. Some (statement.Let x.0, x.1)) (found, rest) k.1 in
            subst at (some_is (statement.Let binding.0.0, binding.0.1) (found, rest) binding.2) (let-takes text binding.0.0 binding.0.1 binding.1)
        | inr k ↦ elim (chosen (has_word (codes "unsafe") text) blocks (cond (is_call text) prints assigns) (found, rest) k.1) [
          | inl keyword ↦
              let block = bind_some (unsafe_at scope size text) (λ x. Some (statement.Unsafe x.0, x.1)) (found, rest) keyword.1 in
              subst at (some_is (statement.Unsafe block.0.0, block.0.1) (found, rest) block.2) (unsafe-takes text block.0.0 block.0.1 block.1)
          | inr other ↦ elim (chosen (is_call text) prints assigns (found, rest) other.1) [
            | inl call ↦
                let print = bind_some (print_at scope false size text) (λ x. Some (statement.Print x.0, x.1)) (found, rest) call.1 in
                subst at (some_is (statement.Print print.0.0, print.0.1) (found, rest) print.2) (print-takes false text print.0.0 print.0.1 print.1)
            | inr last ↦
                let assign = bind_some (assign_at scope false size text) (λ x. Some (statement.Assign x.0, x.1)) (found, rest) last.1 in
                subst at (some_is (statement.Assign assign.0.0, assign.0.1) (found, rest) assign.2) (assign-takes false text assign.0.0 assign.0.1 assign.1)
          ]
        ]
      ]

  pub statement-again : AreNamed scope → (text : List ℕ) (found : Statement) (rest : List ℕ) → IsStatement scope found → AllByRecursion IsSumWithin (sums found)
      → Reads size text (statement_tokens scope found) rest → statement_at scope size text ≡ Some (found, rest)
  unfolding statement_at
  statement-again named text (statement.Let binding) rest meant within h =
      let here = exactly size text (codes "let") (Some binding.span.lo) None h.0 h.1 in
      let stands = word-stands text (codes "let") h.0 here.0 here.1 refl refl in
      let test : has_word (codes "let") text ≡ true = ap (λ w. bytes_eq w (codes "let")) stands.0 in
      rw (test, let-again named text binding rest meant within h) refl
  statement-again named text (statement.Unsafe block) rest meant within h =
      let here = exactly size text (codes "unsafe") (Some block.span.lo) None h.0 h.1 in
      let stands = word-stands text (codes "unsafe") h.0 here.0 here.1 refl refl in
      let no_let : has_word (codes "let") text ≡ false = ap (λ w. bytes_eq w (codes "let")) stands.0 in
      let test : has_word (codes "unsafe") text ≡ true = ap (λ w. bytes_eq w (codes "unsafe")) stands.0 in
      rw (no_let, test, unsafe-again named text block rest meant within h) refl
  statement-again named text (statement.Print print) rest meant within h =
      let starts = print-starts text print rest h in
      rw (starts.0.no_let, starts.0.no_unsafe, starts.1, print-again named false text print rest meant within h) refl
  statement-again named text (statement.Assign assign) rest meant within h =
      let starts = assign-starts named false text assign rest meant h in
      rw (starts.0.no_let, starts.0.no_unsafe, starts.1, assign-again named false text assign rest meant within h) refl

  pub statement-goes : AreNamed scope → (text : List ℕ) (found : Statement) (rest : List ℕ) → IsStatement scope found → Reads size text (statement_tokens scope found) rest → closes text ≡ false
  statement-goes named text (statement.Let binding) rest meant h = ap (begins_with 125) (exactly size text (codes "let") (Some binding.span.lo) None h.0 h.1).0
  statement-goes named text (statement.Unsafe block) rest meant h = ap (begins_with 125) (exactly size text (codes "unsafe") (Some block.span.lo) None h.0 h.1).0
  statement-goes named text (statement.Print print) rest meant h = (print-starts text print rest h).0.goes
  statement-goes named text (statement.Assign assign) rest meant h = (assign-starts named false text assign rest meant h).0.goes

  pub statement-shorter : (text : List ℕ) (found : Statement) (rest : List ℕ) → Reads size text (statement_tokens scope found) rest → length rest < length text
  statement-shorter text (statement.Let binding) rest h =
      let tokens : List Token =
      mut_tokens binding.mutable
      ++ (spanned binding.name.span (Exactly binding.name.bytes) ∷ token (codes "=") ∷ (right_tokens scope binding.value ++ closing (codes ";") binding.span.hi ∷ [])) in
      first-shorter text (codes "let") (Some binding.span.lo) None tokens rest (omega arith) h
  statement-shorter text (statement.Unsafe block) rest h =
      let tokens : List Token = token (codes "{") ∷ (flat_map (inner_tokens scope) block.statements ++ closing (codes "}") block.span.hi ∷ []) in
      first-shorter text (codes "unsafe") (Some block.span.lo) None tokens rest (omega arith) h
  statement-shorter text (statement.Print print) rest h = print-shorter text print rest h
  statement-shorter text (statement.Assign assign) rest h = assign-shorter text assign rest h
